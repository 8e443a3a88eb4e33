-- The ports of a node are told of a correction, one after the other.
use Rattle.std.proofs.Common.{sym, subst, ap, arith, inl, inr, eq-eqb, eqb-true, true≢false, ◌∙◌, ◌≡◌, ◌≢◌, ℕ, zero, suc, ◌+◌, ◌<◌, ◌≤◌, ◌==◌, Bool, true}
use Rattle.std.proofs.Common.{false, List, [], ◌∷◌, length, map, None, Some, slice_get, refl}
use Rattle.std.proofs.Math.ListN.{set, length-set}
use Rattle.tsp_rules.specs.{NodeRows.NodePast, NodeRows.on_port, Values.PeerId}
use Rattle.tsp_clock.specs.Clocks.{ClockValue}
use Rattle.tsp_node.specs.{NodeStands.PortStands, NodeStands.PortValue, NodeStands.port_with, declared.part.Part.Part}
use Rattle.tsp_gateway.specs.{GatewayStands.GatewayStands, GatewayStands.port_at, Rooms.ports_in, Untold.Untold, Untold.told}
use Rattle.tsp_gateway.{proofs.LiftLemmas.set_cases, specs.declared.gateway.Gateway.Gateway}

-- a part in this place was told
pub record IsTold (x : ℕ) (olds : List Part) (k : ℕ) (part : Part) : Type 0 where
  pub was : Part
  pub there : slice_get olds k ≡ Some was
  pub station : part.station ≡ was.station
  pub last : part.last ≡ record { tick = Some x; taken = None; name = was.last.name }
  pub master : part.master ≡ was.master
  pub resolve : part.resolve ≡ was.resolve
  pub dates : part.dates ≡ was.dates

-- its value is what was to be told
told_value : (x : ℕ) (olds : List Part) (k : ℕ) (part : Part) (clock : ClockValue) (t : IsTold x olds k part) → told x t.was clock ≡ port_with part clock
told_value x olds k part clock t = rw (t.station, t.last, t.master, t.resolve, t.dates) refl

-- reading a list after another place was written
pub set_other : {X : Type 0} (xs : List X) (i k : ℕ) (y : X) → i ≢ k → slice_get (set xs i y) k ≡ slice_get xs k
set_other (x ∷ xs) zero zero y n = absurd (n refl)
set_other (x ∷ xs) (suc i) (suc k) y n = set_other xs i k y (λ same. n (ap suc same))
set_other _ _ _ y n = refl

-- once all but q are told, the node stands
pub all_told : (q x : ℕ) (past : NodePast) (g h : Gateway) → ((k : ℕ) → k ≢ q → (part : Part) → slice_get h.ports.items k ≡ Some part →
    IsTold x g.ports.items k part) → slice_get h.ports.items q ≡ slice_get g.ports.items q →
    length h.ports.items ≡ length g.ports.items → h.clock ≡ g.clock → h.tracing ≡ g.tracing → Untold q x past g → GatewayStands past h
all_told q x past g h each own many clock flag u = record {
  many = many ∙ u.many;
  traces = u.traces ∙ sym flag;
  ports = λ r part is. by_case r part is (r == q) refl;
} where
  by_case : (r : ℕ) (part : Part) → slice_get h.ports.items r ≡ Some part → (b : Bool) → (r == q) ≡ b →
      PortStands (on_port (port_at r) past) (port_with part h.clock)
  by_case r part is true e =
      let same = eqb-true r q e in
      let here : slice_get g.ports.items q ≡ Some part = sym own ∙ subst (λ k. slice_get h.ports.items k ≡ Some part) same is in
      subst (λ k. PortStands (on_port (port_at k) past) (port_with part h.clock)) (sym same)
      (subst (λ (c : ClockValue). PortStands (on_port (port_at q) past) (port_with part c)) (sym clock) (u.here part here))
  by_case r part is false e =
      let other : r ≢ q = λ same. true≢false (sym (eq-eqb r q same) ∙ e) in
      let t = each r other part is in
      let value : PortStands (on_port (port_at r) past) (port_with part g.clock) =
      subst (λ (v : PortValue). PortStands (on_port (port_at r) past) v) (told_value x g.ports.items r part g.clock t) (u.others r t.was t.there other) in
      subst (λ (c : ClockValue). PortStands (on_port (port_at r) past) (port_with part c)) (sym clock) value

-- the peers of a port that was written
pub set_peers : (parts : List Part) (i : ℕ) (part was : Part) → slice_get parts i ≡ Some was → part.station.peers ≡ was.station.peers →
    map (λ (p : Part). p.station.peers) (set parts i part) ≡ map (λ (p : Part). p.station.peers) parts
set_peers [] i part was e same = refl
set_peers (p ∷ later) zero part was e same = let head : p ≡ was = cc in ap (λ (ps : List PeerId). ps ∷ map (λ (p : Part). p.station.peers) later) (same ∙
    ap (λ (p : Part). p.station.peers) (sym head))
set_peers (p ∷ later) (suc i) part was e same = ap (λ rest. p.station.peers ∷ rest) (set_peers later i part was e same)

-- the ports below r were told, but q
pub record Telling (q x r : ℕ) (olds news : List Part) : Type 0 where
  pub told : (k : ℕ) → k < r → k ≢ q → (part : Part) → slice_get news k ≡ Some part → IsTold x olds k part
  pub others : (k : ℕ) → r ≤ k → slice_get news k ≡ slice_get olds k
  pub own : slice_get news q ≡ slice_get olds q
  pub many : length news ≡ length olds

-- one more is told
pub telling_more : (q x r : ℕ) (olds news : List Part) (before after : Part) → r ≢ q → slice_get news r ≡ Some before → after.station ≡ before.station →
    after.last ≡ record { tick = Some x; taken = None; name = before.last.name } → after.master ≡ before.master →
    after.resolve ≡ before.resolve → after.dates ≡ before.dates → Telling q x r olds news → Telling q x (r + 1) olds (set news r after)
telling_more q x r olds news before after n there s l m v d t = record {
  told = λ k lt other part is. elim (set_cases news r k after part is) [
    | inl same ↦ subst (λ j. IsTold x olds j part) same.0
        (subst (λ (p : Part). IsTold x olds r p) same.1 (record {
          was = before;
          there = sym (t.others r (omega arith)) ∙ there;
          station = s;
          last = l;
          master = m;
          resolve = v;
          dates = d;
        }))
    | inr apart ↦ t.told k (let off = apart.0 in omega (arith, lt, off)) other part apart.1
  ];
  others = λ k le. set_other news r k after (λ same. let bad : ⊥ = omega (arith, same, le) in bad) ∙ t.others k (omega (arith, le));
  own = set_other news r q after n ∙ t.own;
  many = length-set news r after ∙ t.many;
}

-- q is passed over
pub telling_skip : (q x r : ℕ) (olds news : List Part) → r ≡ q → Telling q x r olds news → Telling q x (r + 1) olds news
telling_skip q x r olds news same t = record {
  told = λ k lt other part is. t.told k (let off : k ≢ r = λ e. other (e ∙ same) in omega (arith, lt, off)) other part is;
  others = λ k le. t.others k (omega (arith, le));
  own = t.own;
  many = t.many;
}

-- the same of nodes
pub record IsTelling (q x r : ℕ) (g h : Gateway) : Type 0 where
  pub telling : Telling q x r g.ports.items h.ports.items
  pub ports : ports_in h ≡ ports_in g
  pub clock : h.clock ≡ g.clock
  pub tracing : h.tracing ≡ g.tracing
