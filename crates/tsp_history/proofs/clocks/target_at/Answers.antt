use Rattle.std.proofs.Common.{arith, length}
use Rattle.tsp_history.{proofs.NoteLemmas.length_history, proofs.NoteLemmas.more_small, specs.Histories.history_of}
use Rattle.tsp_history.proofs.clocks.target_at.Goals as goal

pub target-requires : goal.target-requires
target-requires c = more_small (length (history_of c.args.lines.now)) 4294967295 c.node_at.result.clock.moved (omega (
  arith,
  length_history c.args.lines.now,
  c.requires.few,
)) c.node_at.ensures.small
