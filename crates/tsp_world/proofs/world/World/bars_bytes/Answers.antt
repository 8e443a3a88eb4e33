-- The first cause is that of the time, then that of what is absent, then that of the step.
use Rattle.std.proofs.Common.{◌≡◌, ◌≤◌, ◌∙◌, ℕ, Option, None, Some, ap, sym, length}
use Rattle.std.proofs.lemmas.Bool.{le-ltb}
use Rattle.tsp_rules.specs.Values.{Event, Bytes, Place, Port}
use Rattle.tsp_base.specs.declared.event.EventFault.{EventFault}
use Rattle.tsp_run.specs.Refusals.{Scene, actor, down_at, first_of, limit, no_datagram, lacks_port, not_up, room_at, time_back, unknown, unknown_place}
use Rattle.tsp_world.specs.WorldStands.{scene_of, up_at}
use Rattle.tsp_world.proofs.world.World.bars_bytes.Goals as goal

by_absent : (at last : ℕ) (a b rest : Option EventFault) → last ≤ at → a ≡ b → first_of (time_back at last) (first_of a rest) ≡ first_of b rest
by_absent at last a b rest le is = rw (le-ltb at last le) (ap (λ x. first_of x rest) is)

-- what refuses octets where they name what there is
rest_of : Scene → Event → Option EventFault
rest_of s e = first_of (no_datagram (length s.posts) e) (first_of (not_up s e) (limit s.events (length s.posts) (room_at s.networks (actor s e))))

-- what is absent of so many nodes, if something is
abbrev absent_of : ℕ → Scene → ℕ → Port → Place → Option EventFault
absent_of nodes s node port from = first_of (unknown nodes node) (first_of (lacks_port s node port) (unknown_place nodes from))

pub returns-in-Some : goal.returns-in-Some
unfolding rest_of
returns-in-Some c octets =
    let s = scene_of c.args.self.now in
    let e : Event = Bytes c.args.at c.args.node c.args.port c.args.from octets in
    let found = ap (λ n. absent_of n s c.args.node c.args.port c.args.from) (sym c.count.ensures.count) ∙
    sym (c.absent.ensures s (sym c.count.ensures.count) (sym c.networks.ensures.networks)) ∙ c.in-Some.is in
    sym (by_absent c.args.at s.last _ (Some c.in-Some.fault) (rest_of s e) c.if-at-self.false found)

pub returns-in-None : goal.returns-in-None
unfolding rest_of
returns-in-None c octets =
    let s = scene_of c.args.self.now in
    let e : Event = Bytes c.args.at c.args.node c.args.port c.args.from octets in
    let found = ap (λ n. absent_of n s c.args.node c.args.port c.args.from) (sym c.count.ensures.count) ∙
    sym (c.absent.ensures s (sym c.count.ensures.count) (sym c.networks.ensures.networks)) ∙ c.in-None.is in
    c.bars_step.ensures
    ∙ ap (λ n. first_of (down_at (up_at c.args.self.now.nodes.items c.args.node) c.args.node) (limit s.events (length s.posts) (Some n))) c.requires.wanted
    ∙ sym (by_absent c.args.at s.last _ None (rest_of s e) c.if-at-self.false found)
