-- How a node's ports are set up, and on which of them a peer is.
use Rattle.std.proofs.Common.{refl, arith, ◌≡◌, ℕ, suc, List, [], ◌∷◌, length, map, Some, slice_get, slice_index_or}
use Rattle.tsp_rules.specs.NodeRows.{NodePast, PortSetup, no_port}
use Rattle.tsp_node.specs.declared.part.Part.{Part}
use Rattle.tsp_gateway.specs.{GatewayStands.GatewayStands, PortOf.setups_in, declared.gateway.Gateway.Gateway}

-- how a port is set up, by what the node keeps of it
abbrev setup_in : Part → PortSetup
setup_in part = record { own = part.station.me.own; peers = part.station.peers }

same_setup : (s t : PortSetup) → s.own ≡ t.own → s.peers ≡ t.peers → s ≡ t
same_setup s t o p = let e : record { own = s.own; peers = s.peers } ≡ record { own = t.own; peers = t.peers } = rw (o, p) refl in e

cons_same : (s t : PortSetup) (a b : List PortSetup) → s ≡ t → a ≡ b → s ∷ a ≡ t ∷ b
cons_same s t a b e f = cc

setups_same : (parts : List Part) (setups : List PortSetup) → length parts ≡ length setups
    → ((q : ℕ) (part : Part) → slice_get parts q ≡ Some part → setup_in part ≡ slice_index_or setups q no_port) → map setup_in parts ≡ setups
setups_same [] [] e f = refl
setups_same (p ∷ parts) (s ∷ rest) e f = cons_same (setup_in p) s (map setup_in parts) rest (f 0 p refl)
    (setups_same parts rest (omega (arith, e)) (λ q part h. f (suc q) part h))
setups_same _ _ e f = absurd (cc)

-- the ports are set up as the node's past says
pub setups_stand : (past : NodePast) (g : Gateway) → GatewayStands past g → setups_in g ≡ past.ports
setups_stand past g s =
    setups_same g.ports.items past.ports s.many (λ q part h. same_setup (setup_in part) (slice_index_or past.ports q no_port) (s.ports q part h).station.own
    (s.ports q part h).station.peers)
