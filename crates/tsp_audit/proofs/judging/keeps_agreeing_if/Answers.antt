use Rattle.std.proofs.Common.{rules, take}
use Rattle.tsp_audit.{proofs.JudgeLemmas.if_kept, specs.Parts.AllKept}
use Rattle.tsp_promises.specs.Agreed.{Agreed}
use Rattle.tsp_history.specs.Histories.{history_of}
use Rattle.tsp_audit.proofs.judging.keeps_agreeing_if.Goals as goal

pub returns-then-all_kept-clause-keeps : goal.returns-then-all_kept-clause-keeps
returns-then-all_kept-clause-keeps c setting count has timely numbered room stands settled old =
    let kept : AllKept c.args.premises = search rules in
    if_kept c.keeps_agreeing.result (AllKept c.args.premises) (Agreed setting (history_of c.args.lines.now))
    (Agreed setting (history_of (take c.args.from c.args.lines.now))) kept
    (c.keeps_agreeing.ensures.keeps setting count has timely numbered room (stands kept) settled) old

pub returns-then-all_kept-clause-agreement : goal.returns-then-all_kept-clause-agreement
returns-then-all_kept-clause-agreement c count kept told room stands = c.keeps_agreeing.ensures.agreement count told room stands

pub returns-else-all_kept-clause-agreement : goal.returns-else-all_kept-clause-agreement
returns-else-all_kept-clause-agreement c count kept told room stands =
    let no : AllKept c.args.premises → ⊥ = search rules in
    absurd (no kept)
