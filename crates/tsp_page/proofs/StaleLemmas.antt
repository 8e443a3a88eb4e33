-- A stale reading tells nothing else.
use Rattle.std.proofs.Common.{◌≡◌, ℕ, ℤ, pos, negsuc, refl, subst, ◌∙◌}
use Rattle.tsp_page.specs.Readings.{reading_of, reading_with, status_of, without_interval}
use Rattle.tsp_page.specs.declared.{daemon_half.DaemonHalf.DaemonHalf, look_half.LookHalf.LookHalf, reading.Reading.Reading}
use Rattle.tsp_page.specs.declared.reading.Status.{Status, TheVariants.Stale, TheVariants.Waiting, TheVariants.Synchronised, TheVariants.Holding}

waiting : Waiting ≡ Stale → ⊥
waiting e = cc

synchronised : Synchronised ≡ Stale → ⊥
synchronised e = cc

holding : Holding ≡ Stale → ⊥
holding e = cc

stale_with : (s : Status) (h : DaemonHalf) (l : LookHalf) (x : ℕ) → (reading_with s h l x).status ≡ Stale → reading_with s h l x ≡
    without_interval Stale (pos 0)
stale_with Stale h l x e = refl
stale_with Waiting h l x e = absurd (waiting e)
stale_with Synchronised h l x e = absurd (synchronised e)
stale_with Holding h l x e = absurd (holding e)

stale_of : (h : DaemonHalf) (l : LookHalf) (t : ℤ) → (reading_of h l t).status ≡ Stale → reading_of h l t ≡ without_interval Stale (pos 0)
stale_of h l (pos x) e = stale_with (status_of h l (pos x)) h l x e
stale_of h l (negsuc x) e = refl

pub stale_alone : (h : DaemonHalf) (l : LookHalf) (t : ℤ) (r : Reading) → r ≡ reading_of h l t → r.status ≡ Stale → r ≡ without_interval Stale (pos 0)
stale_alone h l t r e s = e ∙ stale_of h l t (subst (λ z. z.status ≡ Stale) e s)
