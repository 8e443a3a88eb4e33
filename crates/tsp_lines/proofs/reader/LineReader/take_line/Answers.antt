use Rattle.tsp_lines.proofs.Feeds.{taken_line}
use Rattle.tsp_lines.proofs.reader.LineReader.take_line.Goals as goal

pub returns : goal.returns
returns c = taken_line _ _ _ _ _ _ _ _ _ c.self.view_is c.requires.within
