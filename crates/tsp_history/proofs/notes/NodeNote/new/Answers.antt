use Rattle.tsp_history.proofs.SpacingLemmas.{spaced_none}
use Rattle.tsp_history.proofs.notes.NodeNote.new.Goals as goal

pub returns : goal.returns
returns c n = record {
  clock = c.new.ensures.keeps n;
  small = c.new.ensures.bounded;
  counts = c.new-2.ensures n;
  spaced = spaced_none n;
}
