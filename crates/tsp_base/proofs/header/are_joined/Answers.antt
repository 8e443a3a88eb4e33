use Rattle.std.proofs.Common.{sym, rules}
use Rattle.tsp_base.proofs.HeaderLemmas.{all_joined_not}
use Rattle.tsp_base.proofs.header.are_joined.Goals as goal

pub returns-then-not-is_joined : goal.returns-then-not-is_joined
returns-then-not-is_joined c = sym (all_joined_not c.loop-node.node c.args.nodes c.args.nets.now (search rules) (search rules))
