use Rattle.std.proofs.Common.{◌≡◌, ◌+◌, ◌-◌, ◌≤◌, length}
use Rattle.tsp_group.specs.Windows.{IsBest, IsWindow}
use Rattle.tsp_group.proofs.sweep.largest_sorted.Given as goal

abbrev pub invariant-loop-window : goal.invariant-loop-window
invariant-loop-window l = record {
  window : IsWindow l.values.items l.window;
  best : IsBest l.span l.values.items (l.window.end - l.window.first) l.window.end l.best;
  items : l.values.items ≡ l.initial.values.items;
  room : l.values.room ≡ l.initial.values.room;
  looks : l.values.looks ≤ l.initial.values.looks + l.window.end + l.window.first;
}

abbrev pub decreases-loop-window : goal.decreases-loop-window
decreases-loop-window l = length l.values.items - l.window.end
