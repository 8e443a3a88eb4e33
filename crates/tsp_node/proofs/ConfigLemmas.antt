-- Peers that a node can have.
use Rattle.std.proofs.Common.{sym, ◌∙◌, ap, arith, ◌≡◌, ◌↔◌, ◌+◌, ◌<◌, ◌==◌, ◌||◌, Bool, true, false, nat_lt, List, [], ◌∷◌, length, refl}
use Rattle.std.specs.List.{IsAllAdjacentAnswer, list_any}
use Rattle.std.proofs.lemmas.{Bool.false≢true, Bool.ltb-true, Bool.lt-ltb, List.get_or-map, List.length-map}
use Rattle.tsp_rules.specs.Values.{PeerId}
use Rattle.tsp_base.specs.Words.{is_among, IsAscending}

-- whether each peer was found to be below the next is whether they are ascending
pub IsAscending_answer : (ps : List PeerId) (b : Bool) → IsAllAdjacentAnswer (λ p q b. b ≡ nat_lt p.0 q.0) ps b → (b ≡ true) ↔ IsAscending ps
IsAscending_answer ps true h = (
  λ e k lt.
      let d : PeerId = record { 0 = 0 } in
      let more : k + 1 < length ps = rw length-map at lt in
      let low = get_or-map (λ (p : PeerId). p.0) ps k d 0 (omega arith) in
      let high = get_or-map (λ (p : PeerId). p.0) ps (k + 1) d 0 more in
      ltb-true _ _ (rw (low, high) (sym (h k d more))),
  λ up. refl,
)
IsAscending_answer ps false h = (
  λ e. absurd (false≢true e),
  λ up.
      let d : PeerId = record { 0 = 0 } in
      let low = get_or-map (λ (p : PeerId). p.0) ps h.0 d 0 (omega (arith, h.1)) in
      let high = get_or-map (λ (p : PeerId). p.0) ps (h.0 + 1) d 0 h.1 in
      h.2 d ∙ lt-ltb _ _ (rw (low, high) at (up h.0 (rw length-map h.1))),
)

-- to be found among the peers is to be one of them
pub list_any_is_among : (p : PeerId) (ps : List PeerId) → list_any (λ q. q.0 == p.0) ps ≡ is_among p ps
list_any_is_among p [] = refl
list_any_is_among p (q ∷ rest) = ap (λ b. (q.0 == p.0) || b) (list_any_is_among p rest)
