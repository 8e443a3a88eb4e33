-- How a world stands for one event more.
use Rattle.std.proofs.Common.{refl, sym, ap, append-nil, ◌∙◌, arith, subst, inl, inr, eq-eqb, eqb-true, true≢false, length-set, ◌≡◌, ◌≢◌, ℕ, ◌<◌, ◌≤◌, ◌==◌}
use Rattle.std.proofs.Common.{Bool, true, false, List, [], ◌∷◌, ◌++◌, length, Option, None, Some, slice_get, vec_len}
use Rattle.std.{proofs.lemmas.Option.slice_get-get_or, specs.Global.Vec}
use Rattle.std.proofs.{Math.ListN.set, lemmas.Bool.ne_eqb, lemmas.Bool.cases_lt, lemmas.List.Elements.All-cons}
use Rattle.tsp_base.specs.Words.{HeaderValue, IsHeader, Step, Line, Turned, of, dids, up, tick_at}
use Rattle.tsp_rules.specs.{GateRows.NodeTurn, GateRows.answers_all, NodePerforms.PerformsAll, Values.Placed, Values.Event, Values.Turn}
use Rattle.tsp_rules.specs.NodeRows.{NodePast, NodeRow, in_node_step, spread}
use Rattle.tsp_gateway.proofs.{StepLemmas.GatewayStands_step, StepLemmas.GatewayBegun_in_step, LiftLemmas.set_cases, LiftLemmas.set_same}
use Rattle.tsp_gateway.{specs.declared.gateway.Gateway.Gateway, specs.GatewayStands.GatewayStands, proofs.RestLemmas.turn_rests}
use Rattle.tsp_world.specs.declared.world.World.{World}
use Rattle.tsp_run.proofs.RunLemmas.{stepped_own, stepped_other, posts_stepped, up_joined}
use Rattle.tsp_run.specs.{Run.run, Run.joins, Run.happening, Run.steps, Run.step_tick, Run.event_at, Ranges.Accepted, Ranges.IsInRange}
use Rattle.tsp_run.proofs.{RefusalLemmas.Alike, RefusalLemmas.refusal_none, RefusalLemmas.up_down, NetworkLemmas.some_same}
use Rattle.tsp_run.specs.{Setup.node_line, Setup.past_of, Setup.rests, Refusals.scene, Refusals.refusal, Networks.networks}
use Rattle.tsp_networks.specs.Posts.{PostsValue}
use Rattle.tsp_world.specs.WorldStands.{WorldStands, PlaceStands, UpBegun, UpStands, HappensInWorld, Idles, Notes, Passes, up_at, is_node, scene_of}

-- what the place of a node stands for after a step by this row
pub PlaceStands_acted : (header : HeaderValue) (history : List Line) (row : NodeRow) (step : Step) (node : Gateway) →
    let x = step_tick header step in
    let past = in_node_step step x (past_of header step history) in
    GatewayStands (spread x past (row x past)) node → up (dids (spread x past (row x past)).lines) ≡ true →
    PlaceStands header (joins (Some (steps header history row step)) history) step.node (Some node)
unfolding steps
PlaceStands_acted header history row step node h u =
    let x = step_tick header step in
    let past = in_node_step step x (past_of header step history) in
    let now : List Line = joins (Some (steps header history row step)) history in
    let lines : of step.node now ≡ (spread x past (row x past)).lines = stepped_own step.node step x (row x past) history (eq-eqb step.node step.node refl) in (
      ap (λ l. up (dids l)) lines ∙ u,
      subst (λ l. GatewayStands (record (past_of header (rests step.node) now) { lines = l }) node) (sym lines)
          (GatewayStands_step (rests step.node) (spread x past (row x past)) node h),
    )

-- and what that of another node does
pub PlaceStands_other : (header : HeaderValue) (history : List Line) (row : NodeRow) (step : Step) (n : ℕ) (place : Option Gateway) → n ≢ step.node →
    PlaceStands header history n place → PlaceStands header (joins (Some (steps header history row step)) history) n place
unfolding steps
PlaceStands_other header history row step n place other h =
    let x = step_tick header step in
    let acts = row x (in_node_step step x (past_of header step history)) in
    let same : of n (joins (Some (steps header history row step)) history) ≡ of n history =
    stepped_other n step x acts history (ne_eqb step.node n (λ e. other (sym e))) in
    by_place place h same where
      by_place : (place : Option Gateway) → PlaceStands header history n place → of n (joins (Some (steps header history row step)) history) ≡ of n history →
          PlaceStands header (joins (Some (steps header history row step)) history) n place
      by_place (Some node) h same = (rw same h.0, subst (λ l. GatewayStands (record (past_of header (rests n) history) { lines = l }) node) (sym same) h.1)
      by_place None h same = rw same h

by_node : (header : HeaderValue) (history : List Line) (row : NodeRow) (step : Step) (nodes : List (Option Gateway)) (n : ℕ) (place : Option Gateway) →
    slice_get nodes n ≡ Some place →
    ((place : Option Gateway) → slice_get nodes step.node ≡ Some place → PlaceStands header (joins (Some (steps header history row step)) history) step.node
    place) →
    (n ≢ step.node → PlaceStands header history n place) → (b : Bool) → (n == step.node) ≡ b →
    PlaceStands header (joins (Some (steps header history row step)) history) n place
by_node header history row step nodes n place is own other true e =
    let same : n ≡ step.node = eqb-true n step.node e in
    subst (λ k. PlaceStands header (joins (Some (steps header history row step)) history) k place) (sym same)
    (own place (subst (λ k. slice_get nodes k ≡ Some place) same is))
by_node header history row step nodes n place is own other false e =
    let not_own : n ≢ step.node = λ q. true≢false (sym (eq-eqb n step.node q) ∙ e) in
    PlaceStands_other header history row step n place not_own (other not_own)

-- a world whose node has acted and that has noted it stands for the event too
pub WorldStands_acted : (header : HeaderValue) (events : List Event) (e : Event) (row : NodeRow) (step : Step) (old new : World) (nodes : List (Option Gateway))
    (acts : List Placed) →
    WorldStands header events old → IsInRange e → refusal (scene header events) e ≡ None → happening header (run header events) e ≡
    Some (steps header (run header events) row step) →
    event_at e ≡ step.at → step.node < length header.nodes → length nodes ≡ length old.nodes.items →
    acts ≡ row (step_tick header step) (in_node_step step (step_tick header step) (past_of header step (run header events))) →
    Notes step.at step.node (step_tick header step) old.header nodes old.events old.sent.items acts new →
    ((place : Option Gateway) → slice_get nodes step.node ≡ Some place → PlaceStands header (joins (Some (steps header (run header events) row step))
    (run header events)) step.node place) →
    ((n : ℕ) (place : Option Gateway) → n ≢ step.node → slice_get nodes n ≡ Some place → slice_get old.nodes.items n ≡ Some place) →
    WorldStands header (e ∷ events) new
unfolding steps
WorldStands_acted header events e row step old new nodes acts w range none happens at inside same_length acts_are noted own others =
    let x : ℕ = step_tick header step in
    let done : List Placed = row x (in_node_step step x (past_of header step (run header events))) in
    record {
      header_is = noted.header_is ∙ w.header_is;
      ranges = All-cons IsInRange e events range w.ranges;
      valid = (none, w.valid);
      count = (let a = noted.events_are in let b = w.count in omega (arith, a, b));
      last = noted.last_is ∙ sym at;
      sent = rw happens (noted.sent_is ∙ (rw (acts_are, w.sent) (sym (posts_stepped step x done (run header events)))));
      lines = rw happens (noted.lines_are ∙ (rw (acts_are, w.sent, w.count) refl));
      places = ap (λ v. length v) noted.nodes_are ∙ same_length ∙ w.places;
      nodes = λ n place is.
          let is_mid : slice_get nodes n ≡ Some place = ap (λ v. slice_get v n) (sym noted.nodes_are) ∙ is in
          rw happens (by_node header (run header events) row step nodes n place is_mid own (λ q. w.nodes n place (others n place q is_mid)) (n == step.node)
          refl);
      nobody = λ n past.
          let other : (step.node == n) ≡ false = ne_eqb step.node n (λ q. absurd (omega (arith, q, past, inside))) in
          rw happens (ap (λ l. up (dids l)) (stepped_other n step x done (run header events) other) ∙ w.nobody n past);
    }

-- where a place has a node that is up, there it is
pub up_place : (places : List (Option Gateway)) (n : ℕ) (o : Option (Option Gateway)) → slice_get places n ≡ o → is_node o ≡ true → (node : Gateway) ×
    (slice_get places n ≡ Some (Some node))
up_place places n None e up = absurd (true≢false (sym up))
up_place places n (Some None) e up = absurd (true≢false (sym up))
up_place places n (Some (Some node)) e up = (node, e)

-- a node that is up begins a step
UpBegun_from : (header : HeaderValue) (history : List Line) (step : Step) (x : ℕ) (place : Option Gateway) (node : Gateway) → place ≡ Some node →
    GatewayStands (past_of header (rests step.node) history) node → UpBegun (in_node_step step x (past_of header step history)) place
UpBegun_from header history step x place node is h =
    subst (λ p. UpBegun (in_node_step step x (past_of header step history)) p) (sym is) (GatewayBegun_in_step step x (past_of header step history) node
    (GatewayStands_step step (past_of header (rests step.node) history) node h))

-- and ends it
PlaceStands_ended : (header : HeaderValue) (history : List Line) (row : NodeRow) (step : Step) (place : Option Gateway) →
    let x = step_tick header step in
    let past = in_node_step step x (past_of header step history) in
    UpStands (spread x past (row x past)) place → up (dids (spread x past (row x past)).lines) ≡ true →
    PlaceStands header (joins (Some (steps header history row step)) history) step.node place
PlaceStands_ended header history row step None h u = absurd h
PlaceStands_ended header history row step (Some node) h u = PlaceStands_acted header history row step node h u

-- a world whose node, which is up, has acted by a row
pub WorldStands_handed : (header : HeaderValue) (events : List Event) (e : Event) (row : NodeRow) (step : Step) (old new : World)
    (before after : Option Gateway) (put acts : List Placed) →
    WorldStands header events old → IsInRange e → refusal (scene header events) e ≡ None → happening header (run header events) e ≡
    Some (steps header (run header events) row step) →
    event_at e ≡ step.at → step.node < length header.nodes → put ≡ [] → up_at old.nodes.items step.node ≡ true → slice_get old.nodes.items step.node ≡
    Some before →
    PerformsAll UpBegun UpStands row (step_tick header step) before after put acts →
    Notes step.at step.node (step_tick header step) old.header (set old.nodes.items step.node after) old.events old.sent.items acts new →
    WorldStands header (e ∷ events) new
WorldStands_handed header events e row step old new before after put acts w range none happens at inside idle is_up there did noted =
    let x : ℕ = step_tick header step in
    let past : NodePast = in_node_step step x (past_of header step (run header events)) in
    let found = up_place old.nodes.items step.node (slice_get old.nodes.items step.node) refl is_up in
    let stood : PlaceStands header (run header events) step.node (Some found.0) = w.nodes step.node (Some found.0) found.1 in
    let begun : UpBegun past before = UpBegun_from header (run header events) step x before found.0 (some_same (sym there ∙ found.1)) stood.1 in
    let now : UpStands (spread x past (row x past)) after = did.stands past begun in
    let acts_are : acts ≡ row x past = did.acts past begun ∙ ap (λ ps. ps ++ row x past) idle in
    let is_up_now : up (dids (spread x past (row x past)).lines) ≡ true = up_joined step x (row x past) past.lines stood.0 in
    WorldStands_acted header events e row step old new (set old.nodes.items step.node after) acts w range none happens at inside
    (length-set old.nodes.items step.node after) acts_are noted
    (λ place is. elim (set_cases old.nodes.items step.node step.node after place is) [
      | inl h ↦ subst (λ p. PlaceStands header (joins (Some (steps header (run header events) row step)) (run header events)) step.node p) h.1
          (PlaceStands_ended header (run header events) row step after now is_up_now)
      | inr h ↦ absurd (h.0 refl)
    ])
    (λ n place other is. elim (set_cases old.nodes.items step.node n after place is) [ inl h ↦ absurd (other (sym h.0)) | inr h ↦ h.1 ])

up_at_stands : (header : HeaderValue) (history : List Line) (n : ℕ) (o : Option (Option Gateway)) →
    ((place : Option Gateway) → o ≡ Some place → PlaceStands header history n place) → (o ≡ None → up (dids (of n history)) ≡ false) → is_node o ≡
    up (dids (of n history))
up_at_stands header history n None there none = sym (none refl)
up_at_stands header history n (Some None) there none = sym (there None refl)
up_at_stands header history n (Some (Some node)) there none = sym (there (Some node) refl).0

-- a world refuses what its schedule refuses
pub Alike_stands : (header : HeaderValue) (events : List Event) (world : World) → vec_len world.nodes ≡ length world.nodes.items →
    WorldStands header events world → Alike (scene_of world) (scene header events)
Alike_stands header events world len w = record {
  nodes = len ∙ w.places;
  networks = ap networks w.header_is;
  last = w.last;
  events = w.count;
  posts = w.sent;
  up = λ n. up_at_stands header (run header events) n (slice_get world.nodes.items n) (λ place is. w.nodes n place is) (λ is. w.nobody n (past_end n is));
} where
  past_end : (n : ℕ) → slice_get world.nodes.items n ≡ None → length header.nodes ≤ n
  past_end n is = elim (cases_lt n (length header.nodes)) [
    | inl lt ↦ (let inside : n < length world.nodes.items = (let e = w.places in omega (arith, lt, e)) in
        let some = slice_get-get_or world.nodes.items n None inside in let bad : ⊥ = cc in absurd bad)
    | inr ge ↦ ge
  ]

-- the world's places are the header's nodes
pub in_header : (header : HeaderValue) (events : List Event) (world : World) → vec_len world.nodes ≡ length world.nodes.items →
    WorldStands header events world → (n : ℕ) → n < vec_len world.nodes → n < length header.nodes
in_header header events world len w n inside = subst (λ k. n < k) (len ∙ w.places) inside

-- a world has accepted its events
pub accepted : (header : HeaderValue) (events : List Event) (world : World) → WorldStands header events world → Accepted header events
accepted header events world w = record { header_is = subst (λ h. IsHeader h) w.header_is world.ready.header_is; ranges = w.ranges; valid = w.valid }

-- a node whose deadline hasn't come has looked at its timers, and has done nothing
pub WorldStands_rested : (at n : ℕ) (world new : World) → vec_len world.nodes ≡ length world.nodes.items → n < vec_len world.nodes → Idles at n world →
    Passes at world new → HappensInWorld (Turn at n) world new
WorldStands_rested at n world new len inside idles passes header events w none =
    let found = up_place world.nodes.items n (slice_get world.nodes.items n) refl ((Alike_stands header events world len w).up n ∙
    up_down (scene header events) n (refusal_none (scene header events) (Turn at n) none).up) in
    let node = found.0 in
    let there : slice_get world.nodes.items n ≡ Some (Some node) = found.1 in
    let step : Step = record { at = at; node = n; cause = Turned } in
    let waits = turn_rests node idles.0 (step_tick header step) (idles.1 node there) (subst (λ (h : HeaderValue). tick_at (node_line h n).rate at < idles.0)
    w.header_is idles.2) in
    WorldStands_handed header events (Turn at n) (answers_all NodeTurn) step world new (Some node) (Some node) [] []
    w tt none refl refl (in_header header events world len w n inside) refl (ap is_node there) there
    (record { acts = λ past begun. waits.acts past begun; stands = λ past begun. waits.stands past begun })
    (record {
      header_is = passes.header;
      nodes_are = ap (λ (v : Vec (Option Gateway)). v.items) passes.nodes ∙ sym (set_same world.nodes.items n (Some node) there);
      events_are = passes.events;
      last_is = passes.last;
      sent_is = ap (λ (p : PostsValue). p.items) passes.sent ∙ sym (append-nil world.sent.items);
      lines_are = passes.lines;
    })
