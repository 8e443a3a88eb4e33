-- Nodes that can act still can later, and when one of them has acted or booted.
use Rattle.std.proofs.Common.{sym, ap, ◌∙◌, subst, arith, inl, inr, get_or, mul-le-mul_left, ◌≡◌, ℕ, ℤ, pos, negsuc, nat_abs, ◌+◌, ◌*◌, ◌/◌, ◌<◌, ◌≤◌, List}
use Rattle.std.proofs.Common.{length, Option, None, Some, slice_get, vec_len}
use Rattle.std.proofs.{Math.ListN.set, lemmas.Option.slice_get-get_or}
use Rattle.tsp_base.{proofs.TickLemmas.tick_at_near, specs.Words.HeaderValue, specs.Words.IsHeader, specs.Words.tick_at}
use Rattle.tsp_gateway.specs.{Dues.RestsUntil, GateConfigs.GateConfigValue, declared.gateway.Gateway.Gateway}
use Rattle.tsp_rules.specs.{NodeRows.PortSetup, Values.Port}
use Rattle.tsp_run.specs.{Networks.networks, Networks.ports_on, Networks.room, Setup.node_line}
use Rattle.tsp_run.proofs.{HeaderLines.rate_node_line, NetworkLemmas.some_same}
use Rattle.tsp_world.specs.NodesReady.{AreDues, NodesReady, PlaceReady, CanAct, CanTake}
use Rattle.tsp_gateway.proofs.{LiftLemmas.set_cases, TellLemmas.set_other}
use Rattle.tsp_world.{proofs.SetupLemmas.many_ready, proofs.SetupLemmas.room_ready, specs.declared.world.World.World}

-- a node's ticks don't fall
ticks_rise : (header : HeaderValue) → IsHeader header → (n s t : ℕ) → s ≤ t → tick_at (node_line header n).rate s ≤ tick_at (node_line header n).rate t
ticks_rise header is n s t le = (tick_at_near (node_line header n).rate s t (let a = rate_node_line header is n in let b = is.small in
    omega (arith, a, b)) le).mono

PlaceReady_later : (ports : List PortSetup) (x y : ℕ) (place : Option Gateway) → x ≤ y → PlaceReady ports x place → PlaceReady ports y place
PlaceReady_later ports x y place le h node is = let r = h node is in (r.0, (let at = r.1 in omega (arith, at, le)))

-- time goes on
pub NodesReady_later : {header : HeaderValue} {one : List (List ℕ)} {nodes : List (Option Gateway)} {configs : List GateConfigValue} {s t : ℕ} → s ≤ t →
    NodesReady header one nodes configs s → NodesReady header one nodes configs t
NodesReady_later {header} {one} {nodes} {configs} {s} {t} le r = record {
  header_is = r.header_is;
  whole = r.whole;
  one_is = r.one_is;
  configs_are = r.configs_are;
  places = λ n place is. PlaceReady_later (ports_on n (networks header)) (tick_at (node_line header n).rate s) (tick_at (node_line header n).rate t) place
      (ticks_rise header r.header_is n s t le) (r.places n place is);
}

-- the node in one place has acted, or has booted
pub NodesReady_set : {header : HeaderValue} {one : List (List ℕ)} {nodes : List (Option Gateway)} {configs : List GateConfigValue} {t : ℕ} (i : ℕ)
    (place : Option Gateway) → NodesReady header one nodes configs t →
    PlaceReady (ports_on i (networks header)) (tick_at (node_line header i).rate t) place → NodesReady header one (set nodes i place) configs t
NodesReady_set {header} {one} {nodes} {t = t} i place r h = record {
  header_is = r.header_is;
  whole = r.whole;
  one_is = r.one_is;
  configs_are = r.configs_are;
  places = λ n other is. elim (set_cases nodes i n place other is) [
    | inl same ↦ subst (λ k. PlaceReady (ports_on k (networks header)) (tick_at (node_line header k).rate t) other) same.0
        (subst (λ p. PlaceReady (ports_on i (networks header)) (tick_at (node_line header i).rate t) p) same.1 h)
    | inr kept ↦ r.places n other kept.1
  ];
}

-- once a node has acted or has booted, it isn't known when it needs its next step
pub AreDues_acted : (dues : List (Option ℕ)) (nodes : List (Option Gateway)) (i : ℕ) (place : Option Gateway) → AreDues dues nodes →
    AreDues (set dues i None) (set nodes i place)
AreDues_acted dues nodes i place are n due node is there = elim (set_cases dues i n None (Some due) is) [
  | inl same ↦ (let bad : ⊥ = none_some same.1 in absurd bad)
  | inr kept ↦ are n due node kept.1 (sym (set_other nodes i n place kept.0) ∙ there)
] where
  none_some : {A : Type 0} {x : A} → None ≡ Some x → ⊥
  none_some e = cc

-- it is known of a node that is looked at
pub AreDues_known : (dues : List (Option ℕ)) (nodes : List (Option Gateway)) (i due : ℕ) → ((node : Gateway) → slice_get nodes i ≡ Some (Some node) →
    RestsUntil due node) → AreDues dues nodes → AreDues (set dues i (Some due)) nodes
AreDues_known dues nodes i due rests are n t node is there = elim (set_cases dues i n (Some due) (Some t) is) [
  | inl same ↦ subst (λ s. RestsUntil s node) (some_same same.1) (rests node (subst (λ k. slice_get nodes k ≡ Some (Some node)) (sym same.0) there))
  | inr kept ↦ are n t node kept.1 there
]

-- a node with these ports can act where there is room for it
pub CanAct_ready : (ports : List PortSetup) (x spare : ℕ) (place : Option Gateway) → PlaceReady ports x place → room ports ≤ spare → CanAct spare x place
CanAct_ready ports x spare place h le node is = let r = h node is in ((let same = room_ready ports x node r in omega (arith, same, le)), r.1)

-- and can take something on one of them
pub CanTake_ready : (ports : List PortSetup) (x spare : ℕ) (port : Port) (place : Option Gateway) → PlaceReady ports x place → room ports ≤ spare →
    port.0 < length ports → CanTake spare x port place
CanTake_ready ports x spare port place h le has node is = let r = h node is in (
  (let same = room_ready ports x node r in omega (arith, same, le)),
  r.1,
  (let many = many_ready ports x node r in omega (arith, many, has)),
)

-- what stands in the place of a node
pub place_there : (world : World) (n : ℕ) (place : Option Gateway) → n < vec_len world.nodes → vec_len world.nodes ≡ length world.nodes.items → place ≡
    get_or world.nodes.items n place → slice_get world.nodes.items n ≡ Some place
place_there world n place inside len is = slice_get-get_or world.nodes.items n place (omega (arith, inside, len)) ∙ ap (λ p. Some p) (sym is)

-- a node is ready at the tick of an event that doesn't go back in time
pub PlaceReady_acts : (world : World) (n at x : ℕ) (place : Option Gateway) → world.last ≤ at → x ≡ tick_at (node_line world.header n).rate at →
    slice_get world.nodes.items n ≡ Some place → PlaceReady (ports_on n (networks world.header)) x place
PlaceReady_acts world n at x place order tick there = subst (λ t. PlaceReady (ports_on n (networks world.header)) t place) (sym tick)
    ((NodesReady_later order world.ready).places n place there)

-- a counter gains a thousandth at most, so its tick is before what is more than a 512th ahead
pub tick_at_before : (r : ℤ) (t tick : ℕ) → nat_abs r ≤ 1000 → t + t / 512 < tick → tick_at r t < tick
tick_at_before (pos r) t tick k before =
    let m : t * r ≤ t * 1000 = mul-le-mul_left t k in
    omega arith
tick_at_before (negsuc r) t tick k before = omega arith
