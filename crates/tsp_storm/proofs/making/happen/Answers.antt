-- An event more, and only a limit refuses it.
use Rattle.std.proofs.Common.{◌≡◌, ◌+◌, ap, arith, refl, subst, suc}
use Rattle.tsp_storm.specs.Schedules.{header_of, storm_events, event_after}
use Rattle.tsp_storm.proofs.Steps.{no_other_after, stops_after}
use Rattle.tsp_world.specs.WorldStands.{WorldStands}
use Rattle.tsp_storm.proofs.making.happen.Goals as goal

pub occur-requires-clause-given : goal.occur-requires-clause-given
occur-requires-clause-given c = (event_after c.args.words.now c.args.world.now.events, c.requires.event)

pub unreachable-requires : goal.unreachable-requires
unreachable-requires c =
    let s = c.args.words.now in
    let n = c.args.world.now.events in
    let refused = (c.in-Err.ensures (event_after s n) c.requires.event (header_of s) (storm_events s n) c.requires.stands).0 in
    no_other_after s n c.in-Err.fault c.requires.words refused c.in_default.not-Limit c.in_default.not-OutOfMemory

pub returns-in-Limit-clause-stops : goal.returns-in-Limit-clause-stops
returns-in-Limit-clause-stops c =
    let s = c.args.words.now in
    let n = c.args.world.now.events in
    let refused = (c.in-Err.ensures (event_after s n) c.requires.event (header_of s) (storm_events s n) c.requires.stands).0 in
    let stops = stops_after s n c.args.world.now c.in-Err.fault c.in-Limit.events c.in-Limit.field-1 c.requires.words c.requires.more refl c.requires.stands
    refused c.in-Limit.is in
    (ap (λ k. k + 1) stops.0, stops.1)

pub overflow_add-result : goal.overflow_add-result
overflow_add-result c =
    let s = c.args.words.now in
    let n = c.args.world.now.events in
    let refused = (c.in-Err.ensures (event_after s n) c.requires.event (header_of s) (storm_events s n) c.requires.stands).0 in
    let same = (stops_after s n c.args.world.now c.in-Err.fault c.in-Limit.events c.in-Limit.field-1 c.requires.words c.requires.more refl c.requires.stands
    refused c.in-Limit.is).0 in
    let more = c.requires.more in
    let few = c.requires.words.events in
    omega (arith, same, more, few)

pub returns-in-Ok-clause-stands : goal.returns-in-Ok-clause-stands
returns-in-Ok-clause-stands c =
    let s = c.args.words.now in
    let n = c.args.world.now.events in
    let happened = (c.in-Ok.ensures (event_after s n) c.requires.event (header_of s) (storm_events s n) c.requires.stands).1 in
    let next : suc n ≡ n + 1 = omega arith in
    subst (λ k. WorldStands (header_of s) (storm_events s k) c.occur.new.world) next happened
