use Rattle.std.proofs.Common.{Some}
use Rattle.tsp_lines.proofs.Feeds.{first_feed, front_line}
use Rattle.tsp_lines.proofs.line_feed.first_line.Goals as goal

pub returns : goal.returns
returns c =
    let f = first_feed c.args.octets.now (Some c.in_ok-place.place) c.in_ok-place.ensures in
    front_line _ _ c.in_ok-place.place c.in_ok-place.ensures.0.high f.0 f.1 c.split_at.ensures.front
