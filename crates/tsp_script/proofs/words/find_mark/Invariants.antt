use Rattle.std.proofs.Common.{◌≡◌, take, Contains}
use Rattle.tsp_script.proofs.words.find_mark.Given as goal

abbrev pub invariant-loop-octet : goal.invariant-loop-octet
invariant-loop-octet l = (l.i ≡ l.octet-index) × ¬ Contains (take l.octet-index l.line) l.mark
