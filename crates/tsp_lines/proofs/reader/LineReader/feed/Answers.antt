use Rattle.tsp_lines.proofs.Feeds.{first_feed}
use Rattle.tsp_lines.proofs.reader.LineReader.feed.Goals as goal

pub returns-clause-first : goal.returns-clause-first
returns-clause-first c = rw c.octets.ensures at (first_feed _ _ c.first_feed.ensures)
