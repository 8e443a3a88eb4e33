use Rattle.std.proofs.Common.{◌≡◌, ℕ, List, [], Option, rules, subst, sym}
use Rattle.tsp_audit.{proofs.ActLemmas.acted_none, specs.Acting.ActedIs, specs.Agreeing.AgreementIs, specs.Agreeing.SettledAt}
use Rattle.tsp_audit.proofs.remembered.Remembered.new.Goals as goal

pub returns-in-Ok : goal.returns-in-Ok
returns-in-Ok c premises header many =
    let empty : c.new-in-Ok.result.items ≡ [] = search rules in
    record {
      acted = subst (λ (xs : List ℕ). ActedIs [] xs) (sym empty) acted_none;
      agreement = λ kept. subst (λ (n : ℕ). AgreementIs n [] c.in-Ok.agreement) (sym many) c.in-Ok.ensures.0;
      settled = subst (λ (o : Option ℕ). SettledAt header o c.in-Ok.agreement.nodes.items) (sym c.in-Ok.ensures.1) tt;
    }
