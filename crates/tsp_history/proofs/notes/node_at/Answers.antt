use Rattle.std.proofs.Common.{[], rules}
use Rattle.tsp_history.{proofs.NoteLemmas.known_last, proofs.NoteLemmas.known_quiet, specs.Histories.history_of}
use Rattle.tsp_history.proofs.notes.node_at.Goals as goal

pub returns-in-Some : goal.returns-in-Some
returns-in-Some c = known_last c.args.lines.now c.args.node c.in-Some.index c.index-lines-index.result c.requires.told c.in-Some.ensures (search rules)

pub returns-in-None : goal.returns-in-None
returns-in-None c = known_quiet c.args.node [] (history_of c.args.lines.now) c.new.result c.in-None.ensures (c.new.ensures c.args.node)
