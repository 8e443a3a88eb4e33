-- What is asked of a node's ports, one after the other.
use Rattle.std.proofs.Common.{sym, subst, ap, arith, eq-eqb, eqb-true, get_or, true≢false, ◌∙◌, ◌≡◌, ◌≢◌, ℕ, ◌<◌, ◌≤◌, ◌+◌, ◌==◌, nat_lt, not, Bool, true}
use Rattle.std.proofs.Common.{false, if◌then◌else◌, List, [], ◌∷◌, length, filter, refl, rules, zero, suc, map, Some, slice_get, vec_len}
use Rattle.std.proofs.lemmas.Bool.{lt-ltb, ltb-true, ne_eqb, not-true, or_right}
use Rattle.std.proofs.{Math.ListN.set, lemmas.List.length-map}
use Rattle.tsp_rules.specs.{GateRows.any_port, GateRows.ports_from, NodeRows.NodePast, NodeRows.PortSetup, NodeRows.on_port, Values.Port}
use Rattle.tsp_acks.specs.{Stands.StationStands, declared.station.Station.Station}
use Rattle.tsp_node.specs.declared.part.Part.{Part}
use Rattle.tsp_gateway.specs.{GatewayStands.GatewayStands, GatewayStands.port_at, declared.leading.Asked.Asked}
use Rattle.tsp_gateway.{specs.Rooms.ports_in, specs.Rooms.peers_at, proofs.LiftLemmas.part_there, proofs.LiftLemmas.ports_many}
use Rattle.tsp_gateway.specs.{declared.gateway.Gateway.Gateway, PortFacts.any_lower, PortFacts.any_other, PortFacts.asked_on}

-- A port in its place among a node's ports

-- a number of a port is a place
pub inside : (g : Gateway) (q : ℕ) → q < length (ports_in g) → q < length g.ports.items
inside g q lt = subst (λ n. q < n) (length-map g.ports.items _) lt

-- how many places its memory has
pub places : (g : Gateway) → vec_len g.ports ≡ length (ports_in g)
places g = let len : vec_len g.ports ≡ length g.ports.items = search rules in len ∙ sym (ports_many g)

-- a node has at most four ports
pub ports_few : (g : Gateway) → length (ports_in g) ≤ 4
ports_few g = let len = places g in let few = g.few in omega arith

-- how many peers the part in a place has
pub peers_there : (parts : List Part) (q : ℕ) (part : Part) → slice_get parts q ≡ Some part → peers_at q (map (λ (p : Part). p.station.peers) parts) ≡
    length part.station.peers
peers_there [] q part e = let bad : ⊥ = cc in absurd bad
peers_there (x ∷ parts) zero part e = let same : x ≡ part = cc in ap (λ (p : Part). length p.station.peers) same
peers_there (x ∷ parts) (suc q) part e = peers_there parts q part e

-- and how many its station has
pub station_peers : (g : Gateway) (q : ℕ) (part : Part) (station : Station) → q < length (ports_in g) → part ≡ get_or g.ports.items q part → station ≡
    part.station → peers_at q (ports_in g) ≡ length station.peers
station_peers g q part station lt is s = peers_there g.ports.items q part (part_there g q part lt is) ∙ ap (λ (st : Station). length st.peers) (sym s)

-- the peers of the ports stay where one port changed and kept its own
pub ports_set : (parts : List Part) (q : ℕ) (old new : Part) → slice_get parts q ≡ Some old → new.station.peers ≡ old.station.peers →
    map (λ (p : Part). p.station.peers) (set parts q new) ≡ map (λ (p : Part). p.station.peers) parts
ports_set [] q old new e s = let bad : ⊥ = cc in absurd bad
ports_set (x ∷ parts) zero old new e s = let same : x ≡ old = cc in ap (λ peers. peers ∷ map (λ (p : Part). p.station.peers) parts) (s ∙
    ap (λ (p : Part). p.station.peers) (sym same))
ports_set (x ∷ parts) (suc q) old new e s = ap (λ peers. x.station.peers ∷ peers) (ports_set parts q old new e s)

-- a place has one part
pub one_part : (parts : List Part) (q : ℕ) (p r : Part) → slice_get parts q ≡ Some p → slice_get parts q ≡ Some r → p ≡ r
one_part parts q p r e f = let both : Some p ≡ Some r = sym e ∙ f in cc

-- the station of a port stands
pub station_there : (past : NodePast) (g : Gateway) (q : ℕ) (part : Part) (station : Station) → q < length (ports_in g) → part ≡ get_or g.ports.items q part →
    station ≡ part.station → GatewayStands past g → StationStands (on_port (port_at q) past) station
station_there past g q part station lt is same h = subst (λ (s : Station). StationStands (on_port (port_at q) past) s) (sym same)
    (h.ports q part (part_there g q part lt is)).station

module _ (test keep : Port → Bool) where
  any_none : (i : ℕ) (setups : List PortSetup) → ((k : ℕ) → keep (port_at k) ≡ true → i ≤ k → k < i + length setups → test (port_at k) ≡ false) →
      any_port test (filter keep (ports_from i setups)) ≡ false
  any_none i [] none = refl
  any_none i (s ∷ later) none = by_case (keep (port_at i)) refl (any_none (i + 1) later (λ k kept from lt. none k kept (omega (arith, from))
      (omega (arith, lt)))) where
        by_case : (b : Bool) → keep (port_at i) ≡ b → any_port test (filter keep (ports_from (i + 1) later)) ≡ false →
            any_port test (if b then port_at i ∷ filter keep (ports_from (i + 1) later) else filter keep (ports_from (i + 1) later)) ≡ false
        by_case true kept more = let here = none i kept (omega arith) (omega arith) in rw here more
        by_case false kept more = more

  any_some : (i : ℕ) (setups : List PortSetup) (k : ℕ) → keep (port_at k) ≡ true → i ≤ k → k < i + length setups → test (port_at k) ≡ true →
      any_port test (filter keep (ports_from i setups)) ≡ true
  any_some i [] k kept from lt is = let bad : ⊥ = omega (arith, from, lt) in absurd bad
  any_some i (s ∷ later) k kept from lt is = by_case (i == k) refl (λ n. any_some (i + 1) later k kept (omega (arith, from, n)) (omega (arith, lt)) is)
      (keep (port_at i)) refl where
        hold : (b : Bool) (rest : List Port) → any_port test rest ≡ true → any_port test (if b then port_at i ∷ rest else rest) ≡ true
        hold true rest more = or_right (test (port_at i)) (any_port test rest) more
        hold false rest more = more

        by_case : (b : Bool) → (i == k) ≡ b → (i ≢ k → any_port test (filter keep (ports_from (i + 1) later)) ≡ true) → (c : Bool) → keep (port_at i) ≡ c →
            any_port test (if c then port_at i ∷ filter keep (ports_from (i + 1) later) else filter keep (ports_from (i + 1) later)) ≡ true
        by_case true e more true f = let here = subst (λ n. test (port_at n) ≡ true) (sym (eqb-true i k e)) is in rw here refl
        by_case true e more false f = let same = subst (λ n. keep (port_at n) ≡ false) (eqb-true i k e) f in absurd (true≢false (sym kept ∙ same))
        by_case false e more c f = hold c (filter keep (ports_from (i + 1) later)) (more (λ same. true≢false (sym (eq-eqb i k same) ∙ e)))

-- none of the lower ports
pub lower_none : (asked : Asked) (q : ℕ) (past : NodePast) → ((k : ℕ) → k < q → asked_on asked past (port_at k) ≡ false) → any_lower asked (port_at q) past ≡
    false
lower_none asked q past none = any_none (asked_on asked past) (λ r. nat_lt r.0 q) 0 past.ports (λ k kept from lt. none k (ltb-true k q kept))

-- one of them
pub lower_some : (asked : Asked) (q : ℕ) (past : NodePast) (k : ℕ) → k < q → k < length past.ports → asked_on asked past (port_at k) ≡ true →
    any_lower asked (port_at q) past ≡ true
lower_some asked q past k lt has is = any_some (asked_on asked past) (λ r. nat_lt r.0 q) 0 past.ports k (lt-ltb k q lt) (omega arith) (omega (arith, has)) is

-- none of the other ports
pub other_none : (asked : Asked) (q : ℕ) (past : NodePast) → ((k : ℕ) → k < length past.ports → k ≢ q → asked_on asked past (port_at k) ≡ false) →
    any_other asked (port_at q) past ≡ false
other_none asked q past none =
    any_none (asked_on asked past) (λ r. not (r.0 == q)) 0 past.ports (λ k kept from lt. none k (omega (arith, lt)) (λ same. true≢false (sym (eq-eqb k q same) ∙
    not-true (k == q) kept)))

-- one of them
pub other_some : (asked : Asked) (q : ℕ) (past : NodePast) (k : ℕ) → k ≢ q → k < length past.ports → asked_on asked past (port_at k) ≡ true →
    any_other asked (port_at q) past ≡ true
other_some asked q past k n has is =
    any_some (asked_on asked past) (λ r. not (r.0 == q)) 0 past.ports k (let other = ne_eqb k q n in rw other refl) (omega arith) (omega (arith, has)) is

-- all ports are below their number
pub lower_all : (asked : Asked) (past : NodePast) → any_lower asked (port_at (length past.ports)) past ≡
    any_port (asked_on asked past) (ports_from 0 past.ports)
lower_all asked past = ap (any_port (asked_on asked past)) (kept_all (length past.ports) 0 past.ports (omega arith)) where
  kept_all : (n i : ℕ) (setups : List PortSetup) → i + length setups ≤ n → filter (λ (r : Port). nat_lt r.0 n) (ports_from i setups) ≡ ports_from i setups
  kept_all n i [] le = refl
  kept_all n i (s ∷ later) le =
      let here : nat_lt i n ≡ true = lt-ltb i n (omega (arith, le)) in
      rw here (ap (λ rs. port_at i ∷ rs) (kept_all n (i + 1) later (omega (arith, le))))
