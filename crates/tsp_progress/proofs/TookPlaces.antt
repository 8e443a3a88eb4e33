-- What comes later than a place stands after it; and the line at which a step took something.
use Rattle.std.proofs.Common.{ap, subst, arith, inl, inr, ◌≡◌, ◌<◌}
use Rattle.std.proofs.Common.{List, [], ◌∷◌, Some, refl}
use Rattle.tsp_rules.specs.Values.{Act, Took}
use Rattle.tsp_base.specs.Words.{Acts, Line, Received, Within, dids}
use Rattle.tsp_base.specs.Words.{of}
use Rattle.tsp_base.specs.Words.{taken, time_of, view}
use Rattle.tsp_base.proofs.PlaceLemmas.{Within_comparable}
use Rattle.tsp_promises.specs.{Fits.Fits, Fits.SameStep, Fits.node_of, Setting.Setting}
use Rattle.tsp_promises.proofs.{shared.HistoryPlaces.lift}
use Rattle.tsp_promises.proofs.{promised.KnownProof.in_step_holds, promised.KnownProof.own_in_step, promised.KnownProof.step_at, promised.KnownProof.took_split}
use Rattle.tsp_promises.proofs.promised.OwnFitsProof.{fits_at, own_fits, place_time}

-- what comes later than a place stands after it
pub after_place : (setting : Setting) (s world : List Line) → Fits setting world → Within s world → (k : Line) (w : List Line) → Within (k ∷ w) world →
    time_of (dids s) < k.did.step.at → Within s w
after_place setting s world fits s-in k w v less = elim (Within_comparable s (k ∷ w) world s-in v) [
  | inl (inl e) ↦ absurd (let same = ap (λ (z : List Line). time_of (dids z)) e in omega (arith, same, less))
  | inl (inr u) ↦ u
  | inr u ↦ absurd (let le = place_time setting (k ∷ w) s (fits_at setting s world fits s-in) u in omega (arith, le, less))
]

-- the line of a step at which it took something
pub record TookLine (l : Line) (world : List Line) (r : Received) : Type 0 where
  pub line : Line
  pub before : List Line
  pub place : Within (line ∷ before) world
  pub step : line.did.step ≡ l.did.step
  pub port : line.port ≡ l.port
  pub deed : line.did.deed ≡ Acts (Took r.from r.taken)

none_taken : (r : Received) → taken [] ≡ Some r → ⊥
none_taken r e = cc

pub took_line : (setting : Setting) (l : Line) (world : List Line) (a : Act) (r : Received) → Fits setting (l ∷ world) → l.did.deed ≡ Acts a →
    taken (view l.port (of (node_of l) world)) ≡ Some r → TookLine l world r
took_line setting l world a r f act e =
    let n = node_of l in
    let own = of n world in
    let t = step_at setting _ (λ t. taken (view l.port t) ≡ Some r) own (own_fits setting n world f.1) (λ e. none_taken r e) (took_split l.port r) e in
    let x = lift n world t.line t.rest t.place in
    let same : SameStep (Acts a) l.did.step (dids world) = subst (λ k. SameStep k l.did.step (dids world)) act f.0.step in
    record {
      line = t.line;
      before = x.world;
      place = x.place;
      step = t.step l.did.step (own_in_step n l.did.step world refl (in_step_holds a l.did.step world same));
      port = t.is.0;
      deed = t.is.1;
    }
