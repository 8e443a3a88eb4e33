use Rattle.std.proofs.Common.{length, arith}
use Rattle.tsp_audit.specs.Parts.{Acting, Agreeing, Backing, Leading, Measuring}
use Rattle.tsp_history.specs.Histories.{history_of}
use Rattle.tsp_audit.proofs.JudgeLemmas.{all_keep, fails}
use Rattle.tsp_audit.proofs.judging.judge.Goals as goal

pub returns-then-not-keeps_backing-clause-judges : goal.returns-then-not-keeps_backing-clause-judges
returns-then-not-keeps_backing-clause-judges c setting has timely numbered room notes old =
    fails c.args.premises setting (history_of c.args.lines.now) Backing (λ lt. absurd (omega (arith, lt))) (λ lt. absurd (omega (arith, lt)))
    (λ lt. absurd (omega (arith, lt))) (λ lt. absurd (omega (arith, lt))) (λ lt. absurd (omega (arith, lt)))
    (rw c.if-not-keeps_backing.true at (c.keeps_backing.ensures (old Backing)))

pub returns-then-not-keeps_leading-clause-judges : goal.returns-then-not-keeps_leading-clause-judges
returns-then-not-keeps_leading-clause-judges c setting has timely numbered room notes old =
    fails c.args.premises setting (history_of c.args.lines.now) Leading (λ lt. rw c.if-not-keeps_backing.false at (c.keeps_backing.ensures (old Backing)))
    (λ lt. absurd (omega (arith, lt))) (λ lt. absurd (omega (arith, lt))) (λ lt. absurd (omega (arith, lt))) (λ lt. absurd (omega (arith, lt)))
    (rw c.if-not-keeps_leading.true at (c.keeps_leading.ensures (old Leading)))

pub returns-then-not-keeps_acting-clause-judges : goal.returns-then-not-keeps_acting-clause-judges
returns-then-not-keeps_acting-clause-judges c setting has timely numbered room notes old =
    fails c.args.premises setting (history_of c.args.lines.now) Acting (λ lt. rw c.if-not-keeps_backing.false at (c.keeps_backing.ensures (old Backing)))
    (λ lt. rw c.if-not-keeps_leading.false at (c.keeps_leading.ensures (old Leading))) (λ lt. absurd (omega (arith, lt))) (λ lt. absurd (omega (arith, lt)))
    (λ lt. absurd (omega (arith, lt))) (rw c.if-not-keeps_acting.true at (c.keeps_acting.ensures.keeps setting has timely room.acted notes.acted (old Acting)))

pub returns-then-not-keeps_measuring_if-clause-judges : goal.returns-then-not-keeps_measuring_if-clause-judges
returns-then-not-keeps_measuring_if-clause-judges c setting has timely numbered room notes old =
    fails c.args.premises setting (history_of c.args.lines.now) Measuring (λ lt. rw c.if-not-keeps_backing.false at (c.keeps_backing.ensures (old Backing)))
    (λ lt. rw c.if-not-keeps_leading.false at (c.keeps_leading.ensures (old Leading)))
    (λ lt. rw c.if-not-keeps_acting.false at (c.keeps_acting.ensures.keeps setting has timely room.acted notes.acted (old Acting)))
    (λ lt. absurd (omega (arith, lt))) (λ lt. absurd (omega (arith, lt)))
    (rw c.if-not-keeps_measuring_if.true at (c.keeps_measuring_if.ensures setting has timely (old Measuring)))

pub returns-then-not-keeps_agreeing_if-clause-judges : goal.returns-then-not-keeps_agreeing_if-clause-judges
returns-then-not-keeps_agreeing_if-clause-judges c setting has timely numbered room notes old =
    fails c.args.premises setting (history_of c.args.lines.now) Agreeing (λ lt. rw c.if-not-keeps_backing.false at (c.keeps_backing.ensures (old Backing)))
    (λ lt. rw c.if-not-keeps_leading.false at (c.keeps_leading.ensures (old Leading)))
    (λ lt. rw c.if-not-keeps_acting.false at (c.keeps_acting.ensures.keeps setting has timely room.acted notes.acted (old Acting)))
    (λ lt. rw c.if-not-keeps_measuring_if.false at (c.keeps_measuring_if.ensures setting has timely (old Measuring))) (λ lt. absurd (omega (arith, lt)))
    (rw c.if-not-keeps_agreeing_if.true at
    (c.keeps_agreeing_if.ensures.keeps setting (length c.args.header.now.nodes) has timely numbered room.trips notes.agreement notes.settled (old Agreeing)))

pub returns-clause-judges : goal.returns-clause-judges
returns-clause-judges c setting has timely numbered room notes old =
    all_keep c.args.premises setting (history_of c.args.lines.now) (rw c.if-not-keeps_backing.false at (c.keeps_backing.ensures (old Backing)))
    (rw c.if-not-keeps_leading.false at (c.keeps_leading.ensures (old Leading)))
    (rw c.if-not-keeps_acting.false at (c.keeps_acting.ensures.keeps setting has timely room.acted notes.acted (old Acting)))
    (rw c.if-not-keeps_measuring_if.false at (c.keeps_measuring_if.ensures setting has timely (old Measuring)))
    (rw c.if-not-keeps_agreeing_if.false at
    (c.keeps_agreeing_if.ensures.keeps setting (length c.args.header.now.nodes) has timely numbered room.trips notes.agreement notes.settled (old Agreeing)))

pub returns-clause-notes : goal.returns-clause-notes
returns-clause-notes c told room notes = record {
  acted = c.keeps_acting.ensures.acted c.if-not-keeps_acting.false room.acted notes.acted;
  agreement = λ kept. c.keeps_agreeing_if.ensures.agreement (length c.args.header.now.nodes) kept c.if-not-keeps_agreeing_if.false room.trips
      (notes.agreement kept);
  settled = c.keeps_agreeing_if.ensures.settled c.if-not-keeps_agreeing_if.false notes.settled;
}
