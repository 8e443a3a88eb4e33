use Rattle.std.proofs.Common.{◌-◌, arith, rules, length}
use Rattle.tsp_history.proofs.NoteLemmas.{posted_few, posted_last}
use Rattle.tsp_history.proofs.posts.posted_in.Goals as goal

pub returns-clause-posted : goal.returns-clause-posted
returns-clause-posted c = posted_last c.args.lines.now (length c.args.lines.now - 1) c.index-lines-count.result (omega arith) (search rules) c.requires.told

pub returns-clause-few : goal.returns-clause-few
returns-clause-few c = posted_few c.args.lines.now (length c.args.lines.now - 1) c.index-lines-count.result (omega arith) (search rules) c.requires.told
