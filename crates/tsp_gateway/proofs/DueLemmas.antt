-- The earliest of several ports' deadlines.
use Rattle.std.proofs.Common.{refl, sym, ◌∙◌, ap, subst, inl, inr, arith, ◌≡◌, ◌⊎◌, ℕ, zero, suc, ◌<◌, false, min, List, [], ◌∷◌, ◌++◌, length, Option, None}
use Rattle.std.proofs.Common.{Some, slice_get}
use Rattle.std.proofs.lemmas.{Bool.lt-leb, Option.same_Some}
use Rattle.tsp_base.specs.Words.{earlier, least_deadline, Past}
use Rattle.tsp_rules.specs.{Guards.is_over, NodeRows.NodePast, NodeRows.on_port}
use Rattle.tsp_sends.specs.{Repeating.IsEarliest, Slots.sending_to}
use Rattle.tsp_acks.specs.{Stands.StationStands, declared.station.Station.Station}
use Rattle.tsp_node.{proofs.DueLemmas.IsEarliest_open, proofs.DueLemmas.neither_over, specs.NodeStands.due_of}
use Rattle.tsp_gateway.specs.Dues.{IsGatewayDue, IsNodeDue, IsPortDue, least_of}
use Rattle.tsp_gateway.specs.{GatewayStands.GatewayStands, GatewayStands.port_at, declared.gateway.Gateway.Gateway}

earlier_none : (a : Option ℕ) → earlier a None ≡ a
earlier_none None = refl
earlier_none (Some x) = refl

earlier_assoc : (a b c : Option ℕ) → earlier (earlier a b) c ≡ earlier a (earlier b c)
earlier_assoc (Some x) (Some y) (Some z) = let e : min (min x y) z ≡ min x (min y z) = omega arith in ap Some e
earlier_assoc _ _ _ = refl

-- one deadline more
pub least_of_append : (ds : List (Option ℕ)) (d : Option ℕ) → least_of (ds ++ d ∷ []) ≡ earlier (least_of ds) d
least_of_append [] d = earlier_none d
least_of_append (o ∷ rest) d = ap (λ x. earlier o x) (least_of_append rest d) ∙ sym (earlier_assoc o (least_of rest) d)

-- what stands in a list with one entry more stands in the list, or is that entry
pub get_append : {A : Type 0} (ds : List A) (d x : A) (q : ℕ) → slice_get (ds ++ d ∷ []) q ≡ Some x → (slice_get ds q ≡ Some x) ⊎ ((q ≡ length ds) × (d ≡ x))
get_append [] d x zero e = inr (refl, cc)
get_append [] d x (suc q) e = absurd (cc)
get_append (o ∷ rest) d x zero e = inl e
get_append (o ∷ rest) d x (suc q) e = elim (get_append rest d x q e) [ inl h ↦ inl h | inr h ↦ inr (ap suc h.0, h.1) ]

-- a port's deadline by what the node keeps of it is that of its past
IsPortDue_of : (past : Past) (station : Station) (due : Option ℕ) (sends : Option ℕ) → StationStands past station →
    IsEarliest (sending_to station.sends) sends → due ≡ earlier (least_deadline station.alarms) sends → IsPortDue past.seen due
IsPortDue_of past station due sends s first e = record {
  sends = sends;
  first = IsEarliest_open past station sends s first;
  due_is = let a = s.alarms in cc;
}

-- the earliest of all ports' deadlines is that of the node's past
pub IsNodeDue_of : (past : NodePast) (g : Gateway) (at : ℕ) → GatewayStands past g → IsGatewayDue g at → IsNodeDue past at
IsNodeDue_of past g at s d = record {
  dues = d.dues;
  many = d.many ∙ s.many;
  each = λ q due there.
      let one = d.each q due there in
      IsPortDue_of (on_port (port_at q) past) one.0.station due one.2.sends (s.ports q one.0 one.1).station one.2.first one.2.due_is;
  at_is = d.at_is;
}

-- no deadline has come before the earliest has
pub none_over : (dues : List (Option ℕ)) (q x : ℕ) (due : Option ℕ) → slice_get dues q ≡ Some due → is_over (least_of dues) x ≡ false → is_over due x ≡ false
none_over [] q x due is e = absurd (cc)
none_over (o ∷ rest) zero x due is e = subst (λ d. is_over d x ≡ false) (same_Some o due is) (neither_over o (least_of rest) x e).0
none_over (o ∷ rest) (suc q) x due is e = none_over rest q x due is (neither_over o (least_of rest) x e).1

pub before_over : (due : Option ℕ) (x : ℕ) → x < due_of due → is_over due x ≡ false
before_over None x lt = refl
before_over (Some t) x lt = lt-leb t x lt
