use Rattle.std.proofs.Common.{◌≡◌, []}
use Rattle.tsp_text_tests.proofs.tests.values.header_of.Given as goal

-- no network is added
abbrev pub invariant-loop : goal.invariant-loop
invariant-loop l = l.header.nets ≡ []
