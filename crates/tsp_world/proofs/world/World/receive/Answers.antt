-- The node takes what was read, by its row.
use Rattle.std.proofs.Common.{◌≡◌, ◌∙◌, ap, subst, arith, Some, rules, vec_len, length, slice_get}
use Rattle.std.proofs.Math.ListN.{set}
use Rattle.tsp_base.specs.Words.{tick_at}
use Rattle.tsp_rules.specs.{GateRows.GotOn, GateRows.answers_all, NodePerforms.PerformsAll}
use Rattle.tsp_run.specs.{Networks.networks, Networks.ports_on, Setup.node_line}
use Rattle.tsp_world.specs.{NodesReady.PlaceReady, WorldStands.Notes, WorldStands.UpBegun, WorldStands.UpStands}
use Rattle.tsp_networks.specs.Sheets.{acts_on}
use Rattle.tsp_world.proofs.ReadyLemmas.{AreDues_acted, NodesReady_later, NodesReady_set, CanTake_ready, PlaceReady_acts, place_there}
use Rattle.tsp_world.proofs.{WorldLemmas.WorldStands_handed, WorldLemmas.in_header, world.World.receive.Goals.After-index_mut-place}
use Rattle.tsp_world.proofs.world.World.receive.Goals as goal

there : (c : After-index_mut-place) → slice_get c.args.self.now.nodes.items c.args.node ≡ Some c.index_mut-place.result.now
there c = place_there c.args.self.now c.args.node c.index_mut-place.result.now c.requires.node (search rules) c.index_mut-place.ensures.value

ready : (c : After-index_mut-place) → PlaceReady (ports_on c.args.node (networks c.args.self.now.header)) c.tick-tick.result c.index_mut-place.result.now
ready c = PlaceReady_acts c.args.self.now c.args.node c.args.at c.tick-tick.result c.index_mut-place.result.now c.requires.able.order c.tick-tick.ensures.tick
    (there c)

pub take-requires-clause-able : goal.take-requires-clause-able
take-requires-clause-able c = CanTake_ready (ports_on c.args.node (networks c.args.self.now.header)) c.tick-tick.result c.args.self.now.desk.spare c.args.port
    c.index_mut-place.result.now (ready (goal.at.take-requires-clause-able c).After-index_mut-place)
    c.requires.ready.desk c.requires.port

pub invariant_of-self-clause-ready : goal.invariant_of-self-clause-ready
invariant_of-self-clause-ready c = NodesReady_set c.args.node c.take.new.place (NodesReady_later c.requires.able.order c.args.self.now.ready)
    (subst (λ t. PlaceReady (ports_on c.args.node (networks c.args.self.now.header)) t c.take.new.place) c.tick-tick.ensures.tick
    (c.take.ensures.ready (ports_on c.args.node (networks c.args.self.now.header)) (ready (goal.at.invariant_of-self-clause-ready c).After-index_mut-place)))

pub invariant_of-self-clause-dues_are : goal.invariant_of-self-clause-dues_are
invariant_of-self-clause-dues_are c = AreDues_acted c.args.self.now.dues.items c.args.self.now.nodes.items c.args.node c.take.new.place c.args.self.now.dues_are

pub note-requires : goal.note-requires
note-requires c =
    let world = c.args.self.now in
    let few = c.take.ensures.few (ports_on c.args.node (networks world.header)) (ready (goal.at.note-requires c).After-index_mut-place) in
    let none = ap (λ ps. length ps) c.requires.ready.idle in
    let sent = c.requires.ready.sent in
    let posts = c.requires.able.posts in
    record {
      sent = omega (arith, few, none, sent);
      few_events = c.requires.able.events;
      few_posts = omega (arith, few, none, posts);
    }

pub returns : goal.returns
returns c cause header events e w at range none up happens =
    let world = c.args.self.now in
    let len : vec_len world.nodes ≡ length world.nodes.items = search rules in
    let tick_is = c.tick-tick.ensures.tick ∙ ap (λ h. tick_at (node_line h c.args.node).rate c.args.at) w.header_is in
    let row = answers_all (GotOn c.args.port c.args.from c.args.taken.now) in
    let acts = acts_on c.take.new.desk in
    WorldStands_handed header events e row (record { at = c.args.at; node = c.args.node; cause = cause }) world c.note.new.self c.index_mut-place.result.now
    c.take.new.place (acts_on world.desk) acts
    w range none happens at (in_header header events world len w c.args.node c.requires.node) c.requires.ready.idle up
    (there (goal.at.returns c).After-index_mut-place)
    (subst (λ t. PerformsAll UpBegun UpStands row t c.index_mut-place.result.now c.take.new.place (acts_on world.desk) acts) tick_is c.take.ensures.row)
    (subst (λ t. Notes c.args.at c.args.node t world.header (set world.nodes.items c.args.node c.take.new.place) world.events world.sent.items acts
    c.note.new.self) tick_is c.note.ensures)
