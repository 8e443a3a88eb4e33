use Rattle.std.proofs.Common.{ap, rules}
use Rattle.tsp_history.{proofs.HistoryLemmas.apart_told, specs.Histories.deed_of, specs.Histories.line_of}
use Rattle.tsp_history.proofs.scans.is_apart.Goals as goal

pub returns-else-eq : goal.returns-else-eq
returns-else-eq c =
    apart_told c.is_far.result c.args.node c.args.port c.args.tick c.args.p c.in-Back.q (line_of c.args.line.now) (search rules) (search rules)
    (ap deed_of c.in-Back.ensures.act.1) (search rules) c.is_far.ensures
