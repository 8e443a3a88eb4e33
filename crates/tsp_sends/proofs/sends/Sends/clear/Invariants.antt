use Rattle.std.proofs.Common.{◌≡◌, ◌<◌, ℕ, length, None, get_or}
use Rattle.tsp_sends.specs.{Slots.peers_of, declared.slot.Slot.Slot}
use Rattle.tsp_sends.proofs.sends.Sends.clear.Given as goal

abbrev pub invariant-loop-place : goal.invariant-loop-place
invariant-loop-place l = record {
  peers : peers_of l.self ≡ peers_of l.fn.self;
  many : length l.self ≡ length l.fn.self;
  empty : (k : ℕ) (d : Slot) → k < l.place → k < length l.self → (get_or l.self k d).sending ≡ None;
}
