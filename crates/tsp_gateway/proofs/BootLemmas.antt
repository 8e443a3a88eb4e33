-- A node that has just booted.
use Rattle.std.proofs.Common.{sym, subst, ap, arith, inl, inr, ◌∙◌, ◌≡◌, ◌⊎◌, ℕ, zero, suc, ◌<◌, ◌==◌, ℤ, true, false, List, [], ◌∷◌, ◌++◌, length, map, Some}
use Rattle.std.proofs.Common.{slice_get, slice_index_or, refl}
use Rattle.std.proofs.lemmas.Bool.{or_right}
use Rattle.tsp_rules.specs.Values.{Boot, PeerId, Port}
use Rattle.tsp_base.specs.Words.{Acts, Booted, Past, seen_as, view, first_port, line_of, grown}
use Rattle.tsp_rules.specs.NodeRows.{NodePast, PortSetup, no_port, on_port, spread}
use Rattle.tsp_acks.specs.Stands.{IsPortOf}
use Rattle.tsp_clock.specs.ClockStands.{ClockStands}
use Rattle.tsp_node.specs.{Configs.IsPortSetup, NodeStands.PortStands, NodeStands.port_with, declared.part.Part.Part}
use Rattle.tsp_gateway.specs.declared.gateway.Gateway.{Gateway}
use Rattle.tsp_gateway.specs.GateConfigs.{AreGatePorts, GateConfigValue, UnbootedNode, peers_of_ports}
use Rattle.tsp_gateway.specs.{GatewayStands.GatewayStands, GatewayStands.port_at, PartsFresh.AreFresh, PartsFresh.me_on}

-- a port among those that a node can have
pub port_in_place : (ports : List PortSetup) (q : ℕ) → AreGatePorts ports → q < length ports → IsPortSetup (slice_index_or ports q no_port)
port_in_place [] q h lt = let bad : ⊥ = omega (arith, lt) in absurd bad
port_in_place (s ∷ later) zero h lt = h.0
port_in_place (s ∷ later) (suc q) h lt = port_in_place later q h.1 (omega (arith, lt))

-- a list with one more at its end
pub get_last : {A : Type 0} (xs : List A) (y : A) (k : ℕ) (p : A) → slice_get (xs ++ y ∷ []) k ≡ Some p → (slice_get xs k ≡ Some p) ⊎
    ((k ≡ length xs) × (y ≡ p))
get_last [] y zero p is = inr (refl, cc)
get_last [] y (suc k) p is = let bad : ⊥ = cc in absurd bad
get_last (x ∷ xs) y zero p is = inl is
get_last (x ∷ xs) y (suc k) p is = elim (get_last xs y k p is) [
  | inl h ↦ inl h
  | inr h ↦ inr (ap suc h.0, h.1)
]

-- every port sees a boot
boot_on : (q : Port) (x : ℕ) (past : NodePast) → on_port q (spread x past (record { port = first_port; act = Boot } ∷ [])) ≡
    grown x (on_port q past) (Boot ∷ [])
boot_on q x past = ap (λ b. record (on_port q past) { seen = seen_as b (line_of past.step x first_port (Acts Boot)).did ∷ view q past.lines })
    (or_right (first_port.0 == q.0) true refl)

-- the node stands after its boot
pub booted : (c : GateConfigValue) (word x : ℕ) (wall : ℤ) (past : NodePast) (g : Gateway) → AreFresh c word x g.ports.items → g.tracing ≡ false →
    ((p : Past) → p.step.cause ≡ Booted word wall → ClockStands (grown x p (Boot ∷ [])) g.clock) → UnbootedNode c word wall past tt →
    GatewayStands (spread x past (record { port = first_port; act = Boot } ∷ [])) g
booted c word x wall past g fresh flag clock u = record {
  many = fresh.many ∙ ap (λ (ps : List PortSetup). length ps) (sym u.of.ports);
  traces = sym flag;
  ports = λ q part is.
      let s = slice_index_or c.ports q no_port in
      let of : IsPortOf (me_on c word s) s.peers (on_port (port_at q) past) = record {
        own = ap (λ (ps : List PortSetup). (slice_index_or ps q no_port).own) (sym u.of.ports);
        name = sym u.of.name;
        may = sym u.of.may;
        strict = sym u.of.strict;
        peers_are = ap (λ (ps : List PortSetup). (slice_index_or ps q no_port).peers) (sym u.of.ports);
      } in
      subst (λ (p : Past). PortStands p (port_with part g.clock)) (sym (boot_on (port_at q) x past)) ((fresh.each q part is).1 (on_port (port_at q) past) wall
      g.clock of u.cause (clock (on_port (port_at q) past) u.cause));
}

-- its ports have the peers that they were set up with
same_peers : (parts : List Part) (setups : List PortSetup) → length parts ≡ length setups → ((q : ℕ) (part : Part) → slice_get parts q ≡ Some part →
    part.station.peers ≡ (slice_index_or setups q no_port).peers) → map (λ (p : Part). p.station.peers) parts ≡ peers_of_ports setups
same_peers [] [] many each = refl
same_peers (p ∷ parts) (s ∷ later) many each =
    let head = each 0 p refl in
    let tail = same_peers parts later (omega (arith, many)) (λ q part is. each (suc q) part is) in
    ap (λ (ps : List PeerId). ps ∷ map (λ (p : Part). p.station.peers) parts) head ∙ ap (λ (rest : List (List PeerId)). s.peers ∷ rest) tail
same_peers _ _ many each = let bad : ⊥ = cc in absurd bad

pub booted_peers : (c : GateConfigValue) (word x : ℕ) (parts : List Part) → AreFresh c word x parts → map (λ (p : Part). p.station.peers) parts ≡
    peers_of_ports c.ports
booted_peers c word x parts fresh = same_peers parts c.ports fresh.many (λ q part is. (fresh.each q part is).0)

-- ports each of which a node can have
pub each_port : (ports : List PortSetup) → ((q : ℕ) → q < length ports → IsPortSetup (slice_index_or ports q no_port)) → AreGatePorts ports
each_port [] each = tt
each_port (s ∷ later) each = (each 0 (omega arith), each_port later (λ q lt. each (suc q) (omega (arith, lt))))
