-- The node boots by its row, and takes its place. It is set up so that only memory can be wanting.
use Rattle.std.proofs.Common.{◌≡◌, ◌<◌, ◌∙◌, ap, refl, subst, sym, arith, Some, rules, vec_len, length, pos, ◌+ℤ◌, SFits, w64, to_z, of_z, to_z-of_z, inl, inr}
use Rattle.std.proofs.Common.{◌++◌, get_or}
use Rattle.std.proofs.Math.ListN.{set}
use Rattle.tsp_base.specs.Words.{tick_at}
use Rattle.tsp_gateway.specs.GateConfigs.{AreGatePorts, GateBootsNot, GateConfigValue, UnbootedNode, peers_of_ports}
use Rattle.tsp_rules.specs.{GateRows.boots_all, NodePerforms.PerformsAll, NodeRows.NodePast, NodeRows.in_node_step, Values.BootAt}
use Rattle.tsp_run.specs.{Run.boot_step, Run.run, Run.joins, Run.steps, Run.step_tick, Networks.networks, Networks.ports_on}
use Rattle.tsp_run.{specs.Setup.node_line, specs.Setup.past_of, proofs.NetworkLemmas.some_same, proofs.BootLemmas.boots_up}
use Rattle.tsp_world.specs.{Configs.config_of, NodesReady.NodeReady, WorldStands.Notes, WorldStands.PlaceStands}
use Rattle.tsp_world.proofs.ReadyLemmas.{AreDues_acted, NodesReady_later, NodesReady_set}
use Rattle.tsp_gateway.{proofs.LiftLemmas.set_cases, specs.GatewayStands.GatewayStands}
use Rattle.tsp_networks.{proofs.MemberLemmas.room_many, proofs.MemberLemmas.some_port, specs.Sheets.acts_on}
use Rattle.tsp_world.proofs.SetupLemmas.{can_boot, get_or_configs_below, length_configs_below}
use Rattle.tsp_world.proofs.WorldLemmas.{WorldStands_acted, PlaceStands_acted, in_header}
use Rattle.tsp_world.proofs.world.World.start.Goals as goal
use Rattle.tsp_world.proofs.world.World.start.Goals.{After-index-config}

pub index-config-requires : goal.index-config-requires
index-config-requires c =
    let world = c.args.self.now in
    let len : vec_len world.configs ≡ length world.configs.items = search rules in
    let same = ap (λ v. length v) world.ready.configs_are ∙ length_configs_below world.header (length world.header.nodes) in
    let inside = c.requires.node in
    let count = world.places in
    omega (arith, len, same, inside, count)

in_place : (c : After-index-config) → c.args.node < length c.args.self.now.header.nodes
in_place c = subst (λ k. c.args.node < k) c.args.self.now.places c.requires.node

configured : (c : After-index-config) → c.index-config.result.now ≡ config_of c.args.self.now.header c.args.node
configured c =
    let world = c.args.self.now in
    c.index-config.ensures ∙ ap (λ v. get_or v c.args.node c.index-config.result.now) world.ready.configs_are
    ∙ get_or_configs_below world.header (length world.header.nodes) c.args.node c.index-config.result.now (in_place c)

ports_are : (c : After-index-config) → c.index-config.result.now.ports ≡ ports_on c.args.node (networks c.args.self.now.header)
ports_are c = ap (λ (v : GateConfigValue). v.ports) (configured c)

pub boot-requires-clause-ports : goal.boot-requires-clause-ports
boot-requires-clause-ports c =
    let world = c.args.self.now in
    let at = (goal.at.boot-requires-clause-ports c).After-index-config in
    let many = ap (λ ps. length ps) (ports_are at) in
    let some = some_port world.header world.ready.whole c.args.node (in_place at) in
    omega (arith, many, some)

pub boot-requires-clause-room : goal.boot-requires-clause-room
boot-requires-clause-room c =
    let world = c.args.self.now in
    let many = ap (λ ps. length ps) (ports_are (goal.at.boot-requires-clause-room c).After-index-config) in
    let room = room_many (ports_on c.args.node (networks world.header)) in
    let spare = c.requires.ready.desk in
    omega (arith, many, room, spare)

pub unreachable-requires : goal.unreachable-requires
unreachable-requires c =
    let world = c.args.self.now in
    let at = (goal.at.unreachable-requires c).After-index-config in
    let not : AreGatePorts c.index-config.result.now.ports → ⊥ = subst (λ f. GateBootsNot c.index-config.result.now (to_z w64 (of_z w64 c.wall_at-wall.result))
    f) c.in-Err-Peers.field-0-is c.in-Err-Peers.ensures.err in
    not (subst AreGatePorts (sym (ports_are at)) (can_boot world.header world.ready.header_is c.args.node))

pub invariant_of-self-clause-ready : goal.invariant_of-self-clause-ready
invariant_of-self-clause-ready c =
    let world = c.args.self.now in
    let ports = ports_on c.args.node (networks world.header) in
    let x = tick_at (node_line world.header c.args.node).rate c.args.at in
    let ok = c.in-Ok.ensures.ok in
    let clock = ok.3 ∙ c.tick-tick.ensures.tick in
    let booted : NodeReady ports x c.in-Ok.booted = (
      ok.2 ∙ ap peers_of_ports (ports_are (goal.at.invariant_of-self-clause-ready c).After-index-config),
      omega (arith, clock),
    ) in
    NodesReady_set c.args.node (Some c.in-Ok.booted) (NodesReady_later c.requires.able.order world.ready)
    (λ node is. subst (λ n. NodeReady ports x n) (some_same is) booted)

pub invariant_of-self-clause-dues_are : goal.invariant_of-self-clause-dues_are
invariant_of-self-clause-dues_are c = AreDues_acted c.args.self.now.dues.items c.args.self.now.nodes.items c.args.node (Some c.in-Ok.booted)
    c.args.self.now.dues_are

pub note-requires : goal.note-requires
note-requires c =
    let world = c.args.self.now in
    let many = ap (λ ps. length ps) (ports_are (goal.at.note-requires c).After-index-config) in
    let room = room_many (ports_on c.args.node (networks world.header)) in
    let few = c.boot.ensures.room.few in
    let none = ap (λ ps. length ps) c.requires.ready.idle in
    let sent = c.requires.ready.sent in
    let posts = c.requires.able.posts in
    record {
      sent = omega (arith, few, many, room, none, sent);
      few_events = c.requires.able.events;
      few_posts = omega (arith, few, many, room, none, posts);
    }

pub returns-in-Ok-clause-happens : goal.returns-in-Ok-clause-happens
returns-in-Ok-clause-happens c header events w none =
    let world = c.args.self.now in
    let len : vec_len world.nodes ≡ length world.nodes.items = search rules in
    let line = node_line header c.args.node in
    let config = config_of header c.args.node in
    let step = boot_step header c.args.at c.args.node c.args.word in
    let x = step_tick header step in
    let past : NodePast = in_node_step step x (past_of header step (run header events)) in
    let node = c.in-Ok.booted in
    let acts = acts_on c.boot.new.desk in
    let nodes = set world.nodes.items c.args.node (Some node) in
    let tick_is : c.tick-tick.result ≡ x = c.tick-tick.ensures.tick ∙ ap (λ h. tick_at (node_line h c.args.node).rate c.args.at) w.header_is in
    let wall_line : c.line.result.now ≡ line = c.line.ensures.line ∙ ap (λ h. node_line h c.args.node) w.header_is in
    let wall_is : c.wall_at-wall.result ≡ line.wall +ℤ pos x = c.wall_at-wall.ensures.wall ∙ rw (wall_line, tick_is) refl in
    let fits : SFits w64 c.wall_at-wall.result = search rules in
    let wall_back : to_z w64 (of_z w64 c.wall_at-wall.result) ≡ line.wall +ℤ pos x = to_z-of_z fits ∙ wall_is in
    let config_is : c.index-config.result.now ≡ config = configured (goal.at.returns-in-Ok-clause-happens c).After-index-config ∙
    ap (λ h. config_of h c.args.node) w.header_is in
    let booted : PerformsAll (UnbootedNode config c.args.word (line.wall +ℤ pos x)) GatewayStands boots_all x tt node (acts_on world.desk) acts =
    subst (λ t. PerformsAll (UnbootedNode config c.args.word (line.wall +ℤ pos x)) GatewayStands boots_all t tt node (acts_on world.desk) acts) tick_is
    (subst (λ z. PerformsAll (UnbootedNode config c.args.word z) GatewayStands boots_all c.tick-tick.result tt node (acts_on world.desk) acts) wall_back
    (subst (λ v. PerformsAll (UnbootedNode v c.args.word (to_z w64 (of_z w64 c.wall_at-wall.result))) GatewayStands boots_all c.tick-tick.result tt node
    (acts_on world.desk) acts) config_is c.in-Ok.ensures.row)) in
    let begun : UnbootedNode config c.args.word (line.wall +ℤ pos x) past tt = record {
      cause = refl;
      of = record {
        name = refl;
        may = refl;
        strict = refl;
        ports = refl;
      };
    } in
    WorldStands_acted header events (BootAt c.args.at c.args.node c.args.word) boots_all step world c.note.new.self nodes acts
    w (search rules) none refl refl (in_header header events world len w c.args.node c.requires.node) (search rules)
    (booted.acts past begun ∙ ap (λ ps. ps ++ boots_all x past) c.requires.ready.idle)
    (subst (λ t. Notes c.args.at c.args.node t world.header nodes world.events world.sent.items acts c.note.new.self) tick_is c.note.ensures)
    (λ place is. elim (set_cases world.nodes.items c.args.node c.args.node (Some node) place is) [
      | inl h ↦ subst (λ p. PlaceStands header (joins (Some (steps header (run header events) boots_all step)) (run header events)) c.args.node p) h.1
          (PlaceStands_acted header (run header events) boots_all step node (booted.stands past begun) (boots_up x past))
      | inr h ↦ absurd (h.0 refl)
    ])
    (λ n place other is. elim (set_cases world.nodes.items c.args.node n (Some node) place is) [ inl h ↦ absurd (other (sym h.0)) | inr h ↦ h.1 ])
