-- What a caller reads of a node is what its past says.
use Rattle.std.proofs.Common.{refl, ap, arith, rules, suc, ◌∙◌, ◌≡◌, ℕ, zero, ◌+◌, ◌<◌, ◌≤◌, ◌+ℤ◌, pos}
use Rattle.std.proofs.Common.{List, [], ◌∷◌, length, drop, None, Some, slice_get, vec_len}
use Rattle.tsp_base.specs.Words.{dids, last_correct, rest, role, target, view, base, moved, Did}
use Rattle.tsp_base.proofs.Views.{plain_view}
use Rattle.tsp_rules.specs.{GateRows.ports_from, NodeRows.NodePast, NodeRows.PortSetup, NodeRows.on_port}
use Rattle.tsp_clock.specs.{ClockStands.ClockStands, Clocks.target_of}
use Rattle.tsp_node.specs.declared.part.Part.{Part}
use Rattle.tsp_gateway.specs.{GatewayStands.GatewayStands, GatewayStands.port_at, Standings.followed_on, Standings.master_of, Standings.or_else}
use Rattle.tsp_gateway.specs.declared.gateway.Gateway.{Gateway}

first_part : (parts : List Part) → 1 ≤ length parts → (part : Part) × (slice_get parts 0 ≡ Some part)
first_part [] le = let bad : ⊥ = omega (arith, le) in absurd bad
first_part (part ∷ later) le = (part, refl)

-- a node's clock is that of its first port's past
clock_there : (past : NodePast) (g : Gateway) → GatewayStands past g → ClockStands (on_port (port_at 0) past) g.clock
clock_there past g h =
    let len : vec_len g.ports ≡ length g.ports.items = search rules in
    let some = g.some in
    let first = first_part g.ports.items (omega (arith, len, some)) in
    (h.ports 0 first.0 first.1).clock

-- it was corrected last when the past says
pub corrected_there : (past : NodePast) (g : Gateway) → GatewayStands past g → g.clock.at ≡ last_correct (dids past.lines)
corrected_there past g h = (clock_there past g h).at_is ∙ ap last_correct (plain_view (port_at 0) past.lines)

-- so much was still to be slewed then
pub rest_there : (past : NodePast) (g : Gateway) → GatewayStands past g → g.clock.rest ≡ rest (dids past.lines)
rest_there past g h = (clock_there past g h).rest_is ∙ ap rest (plain_view (port_at 0) past.lines)

-- and this is its target
pub target_there : (past : NodePast) (g : Gateway) (x : ℕ) → GatewayStands past g → target_of g.clock x ≡ target (dids past.lines) x
target_there past g x h =
    ap (λ offset. offset +ℤ pos x) (clock_there past g h).offset_is
    ∙ ap (λ (ds : List Did). (base ds +ℤ moved ds) +ℤ pos x) (plain_view (port_at 0) past.lines)

-- a port that follows nobody is passed over
pub followed_step : (past : NodePast) (setups : List PortSetup) (k q next : ℕ) → q < length setups → next ≡ suc q
    → followed_on past (ports_from k (drop q setups))
    ≡ or_else (master_of (role (view (port_at k) past.lines))) (followed_on past (ports_from (k + 1) (drop next setups)))
followed_step past [] k q next lt e = let bad : ⊥ = omega (arith, lt) in absurd bad
followed_step past (s ∷ later) k zero next lt e = rw e refl
followed_step past (s ∷ later) k (suc q) next lt e = rw e (followed_step past later k q (suc q) (omega (arith, lt)) refl)

-- behind the last port there is none
pub followed_end : (past : NodePast) (setups : List PortSetup) (k q : ℕ) → length setups ≤ q → followed_on past (ports_from k (drop q setups)) ≡ None
followed_end past [] k zero le = refl
followed_end past [] k (suc q) le = refl
followed_end past (s ∷ later) k zero le = let bad : ⊥ = omega (arith, le) in absurd bad
followed_end past (s ∷ later) k (suc q) le = followed_end past later k q (omega (arith, le))
