-- What was put, and what is still to be put.
use Rattle.std.proofs.Common.{◌≡◌, ◌≤◌, ◌+◌, length}
use Rattle.std.specs.Vec.Iter.{into_iter_items, into_iter_len}
use Rattle.tsp_history.specs.Histories.{history_of, noted_after}
use Rattle.tsp_history.proofs.history.History.append.Given as goal

abbrev pub invariant-loop-line : goal.invariant-loop-line
invariant-loop-line l = record {
  history : noted_after (history_of l.self.lines) (into_iter_items l.line-iterator) ≡
      noted_after (history_of l.initial.self.lines) (into_iter_items l.initial.line-iterator);
  many : length l.self.lines + into_iter_len l.line-iterator ≡ length l.initial.self.lines + into_iter_len l.initial.line-iterator;
  room : into_iter_len l.line-iterator ≤ l.self.room;
  used : l.initial.self.room + into_iter_len l.line-iterator ≡ l.self.room + into_iter_len l.initial.line-iterator;
  count : into_iter_len l.line-iterator ≡ length (into_iter_items l.line-iterator);
}
