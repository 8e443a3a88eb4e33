use Rattle.tsp_query.proofs.command.ask_bound.Goals as goal

pub returns-in-Msite-clause-comes : goal.returns-in-Msite-clause-comes
returns-in-Msite-clause-comes g c = λ o wall word t w v. rw c.in-Msite.is (c.msite.ensures.asks o word t v)

pub returns-in-ClockDiff-clause-comes : goal.returns-in-ClockDiff-clause-comes
returns-in-ClockDiff-clause-comes g c = λ o wall word t w v. rw c.in-ClockDiff.is (c.clockdiff.ensures.asks o word wall t v w)

pub returns-in-Trace-clause-comes : goal.returns-in-Trace-clause-comes
returns-in-Trace-clause-comes g c = λ o wall word t w v. rw c.in-Trace.is (c.trace.ensures.asks o word t v)

pub returns-in-Election-clause-comes : goal.returns-in-Election-clause-comes
returns-in-Election-clause-comes g c = λ o wall word t w v. rw c.in-Election.is (c.election.ensures.asks o word t v)

pub returns-in-Date-clause-comes : goal.returns-in-Date-clause-comes
returns-in-Date-clause-comes g c = λ o wall word t w v. rw c.in-Date.is (c.setdate.ensures.asks o word t v)
