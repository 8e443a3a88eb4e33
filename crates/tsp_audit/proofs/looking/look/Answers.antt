-- What is judged of the lines is found of the event.
use Rattle.std.proofs.Common.{arith, length}
use Rattle.tsp_claims.specs.ClaimedHistory.{claimed}
use Rattle.tsp_audit.proofs.JudgeLemmas.{begins_within, looked, looked_notes}
use Rattle.tsp_audit.proofs.looking.look.Goals as goal

pub returns-then-lines-from : goal.returns-then-lines-from
returns-then-lines-from c new h is event grown room notes =
    absurd (omega (arith, begins_within c.args.lines.now (length c.args.header.now.nodes) (claimed c.args.header.now new) h c.args.from is grown))

pub returns-in-None : goal.returns-in-None
returns-in-None c new h is event grown room notes = (
  looked_notes c.args.premises c.args.header.now c.args.lines.now (claimed c.args.header.now new) h c.args.from c.args.notes.now c.judge.new.notes is grown
      room notes (c.judge.ensures.notes c.in-None.is),
  rw c.in-None.is at (looked c.args.premises c.args.header.now c.args.lines.now (claimed c.args.header.now new) h c.args.from c.args.notes.now
      c.judge.result is grown room notes c.judge.ensures.judges),
)

pub returns-in-Some : goal.returns-in-Some
returns-in-Some c new h is event grown room notes = (
  event,
  rw c.in-Some.is at (looked c.args.premises c.args.header.now c.args.lines.now (claimed c.args.header.now new) h c.args.from c.args.notes.now
      c.judge.result is grown room notes c.judge.ensures.judges),
)
