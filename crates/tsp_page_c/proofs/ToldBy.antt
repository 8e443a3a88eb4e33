-- What is told of two halves, by what their octets are.
use Rattle.std.proofs.Common.{◌≡◌, ℕ, ◌<◌, ◌^◌, ap, sym, subst, ◌∙◌}
use Rattle.tsp_page.specs.{Formula.tick_at, Readings.reading_of, Sound.IsSoundDaemon, Sound.IsSoundLook}
use Rattle.tsp_page.specs.declared.{daemon_half.DaemonHalf.DaemonHalf, look_half.LookHalf.LookHalf, reading.Reading.Reading}
use Rattle.tsp_page_c.specs.Told.{told_of}
use Rattle.tsp_page_c.specs.declared.Told.{Told}

-- the same of equal halves
told_same : (d e : DaemonHalf) (l k : LookHalf) (now : ℕ) → d ≡ e → l ≡ k
    → told_of d (reading_of d l (tick_at d now)) ≡ told_of e (reading_of e k (tick_at e now))
told_same d e l k now same alike =
    ap (λ z. told_of z (reading_of z l (tick_at z now))) same ∙ ap (λ z. told_of e (reading_of e z (tick_at e now))) alike

pub told_by : (d e : DaemonHalf) (l k : LookHalf) (r : Reading) (t : Told) (now : ℕ) → d ≡ e → l ≡ k → t ≡ told_of d r
    → (IsSoundDaemon d → IsSoundLook l → now < 2 ^ 62 → r ≡ reading_of d l (tick_at d now))
    → IsSoundDaemon e → IsSoundLook k → now < 2 ^ 62 → t ≡ told_of e (reading_of e k (tick_at e now))
told_by d e l k r t now same alike told reads sound look_sound early =
    let read = reads (subst (λ z. IsSoundDaemon z) (sym same) sound) (subst (λ z. IsSoundLook z) (sym alike) look_sound) early in
    told ∙ (ap (λ z. told_of d z) read ∙ told_same d e l k now same alike)
