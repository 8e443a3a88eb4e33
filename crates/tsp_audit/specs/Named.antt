-- Verdicts and failures.
use Rattle.std.specs.Prelude.{Option, None, Some}
use Rattle.tsp_audit.specs.declared.verdict.{Failure.Failure, Verdict.Verdict, Verdict.TheVariants.Holds, Verdict.TheVariants.Fails}

-- the verdict that names a failure, if there is one
abbrev pub named : Option Failure → Verdict
named None = Holds
named (Some f) = Fails f.part
