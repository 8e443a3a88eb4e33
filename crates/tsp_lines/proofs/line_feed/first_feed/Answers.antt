use Rattle.std.proofs.Common.{arith}
use Rattle.tsp_lines.proofs.Feeds.{near_feed}
use Rattle.tsp_lines.proofs.line_feed.first_feed.Goals as goal

pub returns-then-feeds-ne0 : goal.returns-then-feeds-ne0
returns-then-feeds-ne0 c = near_feed c.args.octets.now c.feeds_in-feeds.result (omega arith) c.feeds_in-feeds.ensures (omega arith)
