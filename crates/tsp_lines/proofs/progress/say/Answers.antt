use Rattle.tsp_lines.proofs.Outputs.{said_ok, said_err}
use Rattle.tsp_lines.proofs.progress.say.Goals as goal

pub returns-clause-ok : goal.returns-clause-ok
returns-clause-ok g c = said_ok _ _ _ c.args.output.now c.put.new.self c.flush.new.self c.args.words.now c.flush.result c.in_ok-put.ensures.ok
    c.flush.ensures.ok c.flush.ensures.hands

pub returns-clause-err : goal.returns-clause-err
returns-clause-err g c = said_err _ _ _ c.args.output.now c.put.new.self c.flush.new.self c.args.words.now c.flush.result c.in_ok-put.ensures.ok
    c.flush.ensures.hands
