-- The datagram reaches the node that the run says.
use Rattle.std.proofs.Common.{◌≡◌, ◌∙◌, ap, sym, rules, vec_len, length, slice_get}
use Rattle.tsp_rules.specs.Values.{Good}
use Rattle.tsp_run.specs.{Networks.networks, Refusals.node_in, declared.posted.Posted.Posted}
use Rattle.tsp_run.proofs.{NetworkLemmas.goes_there, NetworkLemmas.some_same, RefusalLemmas.goes_to_post}
use Rattle.tsp_world.proofs.Deliveries.{addressee, delivered, post_within}
use Rattle.tsp_world.proofs.world.World.deliver.Goals as goal

pub pack-requires : goal.pack-requires
pack-requires c = post_within (networks c.args.self.now.header) c.args.self.now.sent.items c.args.k c.args.address c.requires.goes

pub receive-requires-clause-able : goal.receive-requires-clause-able
receive-requires-clause-able c = let allowed = c.requires.allowed in
    record { time = c.requires.time; order = allowed.time; events = allowed.events; posts = allowed.posts c.args.address.node (ap node_in c.requires.goes) }

pub receive-requires-clause-node : goal.receive-requires-clause-node
receive-requires-clause-node c =
    let len : vec_len c.args.self.now.nodes ≡ length c.args.self.now.nodes.items = search rules in
    addressee c.args.self.now c.args.at c.args.k c.args.address len c.requires.goes c.requires.allowed

pub receive-requires-clause-port : goal.receive-requires-clause-port
receive-requires-clause-port c =
    let nets = networks c.args.self.now.header in
    let found = goes_to_post nets (slice_get c.args.self.now.sent.items c.args.k) c.args.address c.requires.goes in
    (goes_there nets found.0.from found.0.port found.0.to c.args.address found.2).has

pub returns : goal.returns
returns c header events w none =
    let world = c.args.self.now in
    let len : vec_len world.nodes ≡ length world.nodes.items = search rules in
    let found = goes_to_post (networks world.header) (slice_get world.sent.items c.args.k) c.args.address c.requires.goes in
    let packed = c.taken.ensures ∙ c.pack.ensures found.0 found.1 in
    delivered header events world c.receive.new.self c.args.at c.args.k c.args.address c.in-Some.way c.taken.result.now len w c.requires.goes none
    (sym c.in-Some.is ∙ c.way.ensures)
    (λ p is. packed ∙ ap (λ (q : Posted). Good q.datagram) (some_same (sym found.1 ∙ is))) c.receive.ensures
