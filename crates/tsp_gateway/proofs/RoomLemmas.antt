-- The room of a step over ports.
use Rattle.std.proofs.Common.{ap, arith, ◌∙◌, ◌≡◌, ℕ, zero, suc, ◌+◌, ◌*◌, ◌<◌, ◌≤◌, List, [], ◌∷◌, length, refl}
use Rattle.tsp_rules.specs.Values.{PeerId}
use Rattle.tsp_gateway.specs.Rooms.{peers_sum, peers_at, room_of_ports, turn_room, turns_room}

-- the peers of the ports below k, and what their turns may put
pub peers_below : ℕ → List (List PeerId) → ℕ
peers_below zero ports = 0
peers_below (suc k) [] = 0
peers_below (suc k) (peers ∷ later) = length peers + peers_below k later

pub turns_below : ℕ → List (List PeerId) → ℕ
turns_below zero ports = 0
turns_below (suc k) [] = 0
turns_below (suc k) (peers ∷ later) = turn_room (length peers) + turns_below k later

pub no_peers : (ports : List (List PeerId)) → peers_below 0 ports ≡ 0
unfolding peers_below
no_peers ports = refl

pub no_turns : (ports : List (List PeerId)) → turns_below 0 ports ≡ 0
unfolding turns_below
no_turns ports = refl

peers_suc : (k : ℕ) (ports : List (List PeerId)) → k < length ports → peers_below (suc k) ports ≡ peers_below k ports + peers_at k ports
unfolding peers_below
peers_suc k [] lt = let bad : ⊥ = omega (arith, lt) in absurd bad
peers_suc zero (peers ∷ later) lt = omega arith
peers_suc (suc k) (peers ∷ later) lt = let more = peers_suc k later (omega (arith, lt)) in omega (arith, more)

turns_suc : (k : ℕ) (ports : List (List PeerId)) → k < length ports → turns_below (suc k) ports ≡ turns_below k ports + turn_room (peers_at k ports)
unfolding turns_below
turns_suc k [] lt = let bad : ⊥ = omega (arith, lt) in absurd bad
turns_suc zero (peers ∷ later) lt = omega arith
turns_suc (suc k) (peers ∷ later) lt = let more = turns_suc k later (omega (arith, lt)) in omega (arith, more)

pub peers_more : (k : ℕ) (ports : List (List PeerId)) → k < length ports → peers_below (k + 1) ports ≡ peers_below k ports + peers_at k ports
peers_more k ports lt = let e : k + 1 ≡ suc k = omega arith in ap (λ n. peers_below n ports) e ∙ peers_suc k ports lt

pub turns_more : (k : ℕ) (ports : List (List PeerId)) → k < length ports → turns_below (k + 1) ports ≡ turns_below k ports + turn_room (peers_at k ports)
turns_more k ports lt = let e : k + 1 ≡ suc k = omega arith in ap (λ n. turns_below n ports) e ∙ turns_suc k ports lt

pub peers_few : (k : ℕ) (ports : List (List PeerId)) → peers_below k ports ≤ peers_sum ports
unfolding peers_below
peers_few (suc k) (peers ∷ later) = let more = peers_few k later in omega (arith, more)
peers_few _ _ = omega arith

pub turns_few : (k : ℕ) (ports : List (List PeerId)) → turns_below k ports ≤ turns_room ports
unfolding turns_below
turns_few (suc k) (peers ∷ later) = let more = turns_few k later in omega (arith, more)
turns_few _ _ = omega arith

-- one port more has its peers among all
pub peers_next : (k : ℕ) (ports : List (List PeerId)) → k < length ports → peers_below k ports + peers_at k ports ≤ peers_sum ports
peers_next k ports lt = let more = peers_more k ports lt in let few = peers_few (k + 1) ports in omega (arith, more, few)

turns_room_holds : (ports : List (List PeerId)) → turns_room ports + peers_sum ports ≤ room_of_ports ports
turns_room_holds [] = omega arith
turns_room_holds (peers ∷ later) = let more = turns_room_holds later in omega (arith, more)

-- there is room for the turn of one port more
pub turns_next : (k : ℕ) (ports : List (List PeerId)) → k < length ports → turns_below k ports + turn_room (peers_at k ports) ≤ room_of_ports ports
turns_next k ports lt = let more = turns_more k ports lt in let few = turns_few (k + 1) ports in let all = turns_room_holds ports in
    omega (arith, more, few, all)

-- after all turns there is room for what is taken
pub take_room : (q : ℕ) (ports : List (List PeerId)) → q < length ports → turns_room ports + (2 * peers_at q ports + peers_sum ports + 24) ≤ room_of_ports ports
take_room q [] lt = let bad : ⊥ = omega (arith, lt) in absurd bad
take_room zero (peers ∷ later) lt = let more = turns_room_holds later in omega (arith, more)
take_room (suc q) (peers ∷ later) lt = let more = take_room q later (omega (arith, lt)) in omega (arith, more)

pub turn_room_few : (ports : List (List PeerId)) → turns_room ports ≤ room_of_ports ports
turn_room_few ports = let all = turns_room_holds ports in omega (arith, all)
