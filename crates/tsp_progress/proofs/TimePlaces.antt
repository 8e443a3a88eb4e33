-- Of two lines of a history the one with the earlier time stands before the other.
use Rattle.std.proofs.Common.{ap, arith, inl, inr, ◌≡◌, ◌<◌, List, ◌∷◌}
use Rattle.tsp_base.specs.Words.{Line, Within}
use Rattle.tsp_base.proofs.PlaceLemmas.{Within_comparable}
use Rattle.tsp_promises.specs.{Fits.Fits, Setting.Setting}
use Rattle.tsp_promises.proofs.promised.OwnFitsProof.{fits_at, place_time}

pub before_time : (setting : Setting) (world : List Line) → Fits setting world → (k : Line) (w : List Line) (c : Line) (older : List Line) →
    Within (k ∷ w) world → Within (c ∷ older) world → k.did.step.at < c.did.step.at → Within (k ∷ w) older
before_time setting world fits k w c older place at less = elim (Within_comparable (k ∷ w) (c ∷ older) world place at) [
  | inl (inl e) ↦ absurd (let same : k ≡ c = cc in let time = ap (λ (j : Line). j.did.step.at) same in omega (arith, time, less))
  | inl (inr v) ↦ v
  | inr v ↦ absurd (let order = place_time setting (c ∷ older) (k ∷ w) (fits_at setting (k ∷ w) world fits place) v in omega (arith, order, less))
]
