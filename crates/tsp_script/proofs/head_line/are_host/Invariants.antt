use Rattle.std.proofs.Common.{take}
use Rattle.std.specs.List.{AllPass}
use Rattle.tsp_script.specs.Schedules.{is_host}
use Rattle.tsp_script.proofs.head_line.are_host.Given as goal

abbrev pub invariant-loop-octet : goal.invariant-loop-octet
invariant-loop-octet l = AllPass is_host (take l.octet-index l.octets)
