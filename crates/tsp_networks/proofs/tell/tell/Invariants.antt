-- What was told and posted, and what is still to be.
use Rattle.std.proofs.Common.{◌≡◌, ◌≤◌, ◌+◌, ◌++◌, length, take, drop, map}
use Rattle.tsp_run.specs.Run.{told_from, posts_from}
use Rattle.tsp_networks.specs.Sheets.{placed_in}
use Rattle.tsp_networks.proofs.tell.tell.Given as goal

abbrev pub invariant-loop-line : goal.invariant-loop-line
invariant-loop-line l = record {
  told : take l.line-index l.lines ++ told_from l.event l.node l.tick (length l.sent.items) (map placed_in (drop l.line-index l.lines)) ≡
      told_from l.event l.node l.tick (length l.initial.sent.items) (map placed_in l.initial.lines);
  sent : l.sent.items ++ posts_from l.at l.node (map placed_in (drop l.line-index l.lines)) ≡ l.initial.sent.items ++
      posts_from l.at l.node (map placed_in l.initial.lines);
  len : length l.sent.items ≤ length l.initial.sent.items + l.line-index;
  room : l.initial.sent.spare ≤ l.sent.spare + l.line-index;
}
