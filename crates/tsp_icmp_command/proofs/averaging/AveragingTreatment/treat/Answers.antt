use Rattle.tsp_icmp_command.proofs.TreatLemmas.{MatchResult_exchange}
use Rattle.tsp_icmp_command.proofs.averaging.AveragingTreatment.treat.Goals as goal

pub returns-in-Ok-clause-treats : goal.returns-in-Ok-clause-treats
returns-in-Ok-clause-treats g c = λ lines text s a n.
    MatchResult_exchange c.take.result lines text c.args.line.now c.in-Ok.exchange c.args.self.now.tally c.take.new.self.tally _ _ _ _ s a n c.in-Ok.ensures
    c.take.ensures.taken c.take.ensures.ok c.take.ensures.err c.take.ensures.stop
