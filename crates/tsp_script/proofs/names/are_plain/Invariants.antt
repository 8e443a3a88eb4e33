use Rattle.std.proofs.Common.{take}
use Rattle.std.specs.List.{AllPass}
use Rattle.tsp_script.specs.Texts.{is_plain}
use Rattle.tsp_script.proofs.names.are_plain.Given as goal

abbrev pub invariant-loop-octet : goal.invariant-loop-octet
invariant-loop-octet l = AllPass is_plain (take l.octet-index l.octets)
