-- Each part stands for the past after the boot.
use Rattle.std.proofs.Common.{sym}
use Rattle.tsp_node.proofs.part.Part.new.Goals as goal

pub returns-clause-stands : goal.returns-clause-stands
returns-clause-stands c past wall clock of cause k = record {
  station = c.in-Ok-new-3.ensures.stands past wall of cause;
  last = c.new-5.ensures.stands c.args.tick past;
  master = c.in-Ok-new-2.ensures.stands c.args.tick past (sym of.peers_are);
  resolve = c.in-Ok.ensures.stands c.args.tick past (sym of.peers_are);
  dates = c.in-Ok-new.ensures.stands c.args.tick past (sym of.peers_are);
  clock = k;
}
