use Rattle.std.proofs.Common.{◌≡◌, ◌∙◌, refl, sym}
use Rattle.tsp_lines.specs.declared.next.Next.TheVariants.{Failed}
use Rattle.tsp_lines.proofs.{Leaving.Counts_from, Leaving.Counts_same, Passes.long_not_failed, Passes.More_NotRead}
use Rattle.tsp_lines.proofs.reader.LineReader.pass.Goals as goal

pub returns-in-Over-clause-faults : goal.returns-in-Over-clause-faults
returns-in-Over-clause-faults g c = Counts_from _ _ _ _ _ refl (λ f. cc) (λ f. cc) c.in-Over.ensures.faults

pub returns-in-NotRead-clause-faults : goal.returns-in-NotRead-clause-faults
returns-in-NotRead-clause-faults g c = Counts_from _ _ _ _ _ refl (λ f. refl) (λ f. refl) c.in-NotRead.ensures.faults

pub returns-in-Some-clause-faults : goal.returns-in-Some-clause-faults
returns-in-Some-clause-faults g c =
    Counts_same _ _ _ (c.in-More.ensures.faults.still More_NotRead) (λ f. let q : c.long_of.result ≡ Failed = cc in
    long_not_failed c.in-Some.next (sym c.long_of.ensures ∙ q))

pub returns-in-None-clause-faults : goal.returns-in-None-clause-faults
returns-in-None-clause-faults g c = Counts_same _ _ _ (c.in-More.ensures.faults.still More_NotRead) (λ f. cc)
