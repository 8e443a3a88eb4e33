-- What is left to be passed comes to the same.
use Rattle.std.proofs.Common.{◌≡◌, ◌-◌}
use Rattle.tsp_audit_command.specs.ClaimReaders.{passes}
use Rattle.tsp_audit_command.proofs.claim_reader.ClaimReader.pass.Given as goal

abbrev pub invariant-loop : goal.invariant-loop
invariant-loop l = passes (l.fn.count - l.counter) l.self ≡ passes l.fn.count l.initial.self
