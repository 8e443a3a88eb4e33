-- Empty slots are added.
use Rattle.std.proofs.Common.{◌≡◌, length, vec_capacity}
use Rattle.tsp_sends.specs.Held.{slots_of, AreHeld}
use Rattle.tsp_sends.proofs.slots.lengthen.Given as goal

abbrev pub invariant-loop-next : goal.invariant-loop-next
invariant-loop-next l = record {
  held : AreHeld l.peers l.held.items (vec_capacity l.held);
  same : slots_of l.peers l.held.items ≡ slots_of l.peers l.initial.held.items;
  long : length l.held.items ≡ l.next;
}
