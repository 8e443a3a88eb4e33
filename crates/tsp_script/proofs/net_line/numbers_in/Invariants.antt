use Rattle.std.proofs.Common.{◌≡◌, ◌<◌, ◌^◌, ◌++◌, List, ℕ, length}
use Rattle.std.specs.List.{All}
use Rattle.tsp_script.{proofs.NetLines.Left, specs.Schedules.joined_text, specs.Schedules.IsNetLine}
use Rattle.tsp_script.proofs.net_line.numbers_in.Given as goal

abbrev pub invariant-loop-rest : goal.invariant-loop-rest
invariant-loop-rest l = record {
  reads : (ns : List ℕ) → IsNetLine ns → l.fn.text ≡ joined_text ns → Left ns l.numbers.items l.rest;
  text : l.fn.text ≡ joined_text l.numbers.items ++ l.rest;
  some : 0 < length l.numbers.items;
  small : All (λ n. n < 2 ^ 32) l.numbers.items;
}

abbrev pub decreases-loop-rest : goal.decreases-loop-rest
decreases-loop-rest l = length l.rest
