use Rattle.std.proofs.Common.{arith, ◌∙◌, ◌≡◌, ◌<◌, ◌+◌, ℕ, List, length, get_or, map}
use Rattle.std.proofs.lemmas.{List.get_or-map, List.length-map}
use Rattle.tsp_base.specs.{Words.IsAscending, declared.place.PeerId.PeerId}
use Rattle.tsp_role_tests.proofs.tests.sends.peers_below.Goals as goal

-- peers numbered by their places ascend
ascend : (ps : List PeerId) → ((k : ℕ) (d : PeerId) → k < length ps → (get_or ps k d).0 ≡ k) → IsAscending ps
ascend ps at k inside =
    let d : PeerId = record { 0 = 0 } in
    let many : length (map (λ (p : PeerId). p.0) ps) ≡ length ps = length-map ps (λ (p : PeerId). p.0) in
    let low : k < length ps = omega arith in
    let high : k + 1 < length ps = omega arith in
    let here : get_or (map (λ (p : PeerId). p.0) ps) k 0 ≡ k = get_or-map (λ (p : PeerId). p.0) ps k d 0 low ∙ at k d low in
    let next : get_or (map (λ (p : PeerId). p.0) ps) (k + 1) 0 ≡ k + 1 = get_or-map (λ (p : PeerId). p.0) ps (k + 1) d 0 high ∙ at (k + 1) d high in
    omega arith

pub returns-clause-ascending : goal.returns-clause-ascending
returns-clause-ascending c = ascend c.loop-number.peers.items (λ k d h. c.loop-number.invariant.numbers k d (omega (arith, c.loop-number.invariant.count)))
