use Rattle.std.proofs.Common.{arith, sym, append-nil, subst, [], ◌++◌}
use Rattle.tsp_lines.{proofs.Outputs.Gives_nil, specs.Readings.IsNext}
use Rattle.tsp_lines.proofs.progress.Progress.next.Goals as goal

pub returns-in-Some-clause-next : goal.returns-in-Some-clause-next
returns-in-Some-clause-next g c = (
  [],
  Gives_nil _,
  omega (arith, c.in-Some.ensures.same.0),
  subst (λ o. IsNext c.next_held.new.self o c.in-Some.next) (sym (append-nil _)) c.in-Some.ensures.next.0,
)

pub returns-clause-next : goal.returns-clause-next
returns-clause-next g c =
    let n = c.next.ensures.next in
    let held = c.in_default.ensures in
    (n.0, n.1, omega (arith, n.2, held.same.0), subst (λ h. IsNext c.next.new.self (h ++ n.0) c.next.result) held.next.1 n.3)
