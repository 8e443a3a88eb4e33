-- A date is put in its peer's place.
use Rattle.std.proofs.Common.{◌≡◌, ℕ, sym, ◌∙◌, ap, Option, Some, None, get_or, refl, ◌==◌, position}
use Rattle.tsp_date.specs.{Dates.DatesValue, declared.dates.Dated.Dated}
use Rattle.tsp_date.proofs.DatesLemmas.{found, last_set, never_missing, peer_at, peers_set}
use Rattle.tsp_date.proofs.dates.Dates.set.Goals as goal

pub returns-in-Some-clause-last : goal.returns-in-Some-clause-last
returns-in-Some-clause-last c q =
    let ds = c.args.self.now.dated in
    let p : position (λ (d : Dated). d.peer.0 == c.args.peer.0) c.as_slice.result.now ≡ Some c.in-Some.place = sym c.in-Some.ensures in
    let f = found c.args.peer ds c.in-Some.place (rw (c.as_slice.ensures.value, ap (λ (v : DatesValue). v.dated) c.self.view_is) at p) in
    let is : c.index.result.now ≡ get_or ds c.in-Some.place c.index.result.now = rw (ap (λ (v : DatesValue). v.dated) c.self.view_is) at c.index.ensures in
    let own = ap (λ (d : Dated). d.peer.0) (is ∙ ap (λ i. get_or ds i c.index.result.now) (sym f.1)) ∙ peer_at ds c.args.peer c.index.result.now f.0 in
    let k = last_set ds c.args.peer (record { peer = c.index.result.now.peer; last = Some (record { at = c.args.tick; number = c.args.number }) }) q f.0 own in
    rw (ap (λ (v : DatesValue). v.dated) c.self.view_is, ← f.1) k

pub returns-in-Some-clause-peers : goal.returns-in-Some-clause-peers
returns-in-Some-clause-peers c =
    let ds = c.args.self.now.dated in
    let is : c.index.result.now ≡ get_or ds c.in-Some.place c.index.result.now = rw (ap (λ (v : DatesValue). v.dated) c.self.view_is) at c.index.ensures in
    rw (ap (λ (v : DatesValue). v.dated) c.self.view_is) (peers_set ds c.in-Some.place c.index.result.now _ (λ h. ap (λ (d : Dated). d.peer) is))

pub returns-in_default-clause-last : goal.returns-in_default-clause-last
returns-in_default-clause-last c q = absurd (by_result c.place_of.result (λ i e. c.in_default.not-Some i e) c.place_of.ensures) where
  by_result : (r : Option ℕ) → ((i : ℕ) → r ≡ Some i → ⊥) → r ≡ position (λ (d : Dated). d.peer.0 == c.args.peer.0) c.as_slice.result.now → ⊥
  by_result None n e = never_missing c.args.self.now.dated c.args.peer c.requires
      (sym (rw (c.as_slice.ensures.value, ap (λ (v : DatesValue). v.dated) c.self.view_is) at e))
  by_result (Some i) n e = n i refl
