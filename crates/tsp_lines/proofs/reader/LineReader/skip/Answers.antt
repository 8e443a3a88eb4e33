use Rattle.tsp_lines.proofs.Feeds.{skipped_octets}
use Rattle.tsp_lines.proofs.reader.LineReader.skip.Goals as goal

pub returns : goal.returns
returns c = skipped_octets _ _ _ _ _ _ _ _ _ c.self.view_is c.requires.within
