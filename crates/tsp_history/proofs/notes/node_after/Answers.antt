use Rattle.std.proofs.Common.{◌∷◌, ◌+◌, arith, length}
use Rattle.tsp_history.{proofs.NoteLemmas.more_small, specs.Histories.line_of}
use Rattle.tsp_history.proofs.notes.node_after.Goals as goal

pub returns : goal.returns
returns c before known = record {
  clock = c.clock_after.ensures.keeps before known.clock;
  small = more_small (length before + 1) (length (line_of c.args.line.now ∷ before)) c.clock_after.result.moved (omega arith)
      (c.clock_after.ensures.bounded (length before) known.small);
  counts = c.counts_after.ensures before known.counts;
  spaced = c.latest_after.ensures before known.spaced;
}
