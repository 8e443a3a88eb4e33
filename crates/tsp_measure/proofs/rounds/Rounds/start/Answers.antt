-- The next counter is new, and the exchange is the last of its peer's.
use Rattle.std.proofs.Common.{◌≡◌, ◌+◌, ◌*◌, ◌%◌, ◌^◌, arith, w64, to_z, of_z, to_z-of_z}
use Rattle.tsp_measure.specs.Rounds.{RoundsValue, IsCounted, Starts}
use Rattle.tsp_measure.proofs.Counters.{IsNewCounter_counted, IsCounted_starts, IsRounds_starts, Starts_begun}
use Rattle.tsp_measure.proofs.rounds.Rounds.start.Goals.{After-start}
use Rattle.tsp_measure.proofs.rounds.Rounds.start.Goals as goal

pub start-requires-clause-counter : goal.start-requires-clause-counter
start-requires-clause-counter c =
    let v : RoundsValue = record { exchanges = c.self.inside.exchanges; asked = c.self.inside.asked; probes = c.self.inside.probes } in
    IsNewCounter_counted v (1000 * v.probes + 999) c.args.peer.0 (omega (arith, c.self.invariant.three)) (rw (← c.self.view_is) at c.requires.counted)

-- how the exchange is started
started : (c : After-start) → Starts c.args.peer c.args.word c.args.a
    (record { exchanges = c.self.inside.exchanges; asked = c.self.inside.asked; probes = c.self.inside.probes })
    (record { exchanges = c.start.new.self; asked = (c.self.inside.asked + 1) % 2 ^ 64; probes = c.self.inside.probes })
started c =
    let v : RoundsValue = record { exchanges = c.self.inside.exchanges; asked = c.self.inside.asked; probes = c.self.inside.probes } in
    let counted : IsCounted v (1000 * v.probes + 999) = rw (← c.self.view_is) at c.requires.counted in
    let back : to_z w64 (of_z w64 c.args.a) ≡ c.args.a = to_z-of_z c.ranges.a in
    let started = rw back at c.start.ensures.started in
    Starts_begun c.args.peer c.args.word c.args.a v c.start.new.self c.start.ensures.peers started c.start.ensures.others c.self.invariant.three counted

pub invariant_of-self : goal.invariant_of-self
invariant_of-self c =
    let s = started (goal.at.invariant_of-self c).After-start in
    IsRounds_starts c.args.peer c.args.word c.args.a _ _ s c.self.invariant (rw (← c.self.view_is) at c.requires.few)
    (rw (← c.self.view_is) at c.requires.counted)

pub returns-clause-starts : goal.returns-clause-starts
returns-clause-starts c = rw (← c.self.view_is) (started (goal.at.returns-clause-starts c).After-start)

pub returns-clause-counted : goal.returns-clause-counted
returns-clause-counted c most small h =
    IsCounted_starts c.args.peer c.args.word c.args.a _ _ most (started (goal.at.returns-clause-counted c).After-start) (rw (← c.self.view_is) at h)
