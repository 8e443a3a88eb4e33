-- From what the treatment of a claimed history comes to, to how an audit's run ends.
use Rattle.std.proofs.Common.{sym, ◌∙◌, ap, subst, ◌≡◌, ◌≢◌, ◌⊎◌, ℕ, ◌≤◌, List, length, Option, Some, Bool, true}
use Rattle.tsp_audit_command.specs.Meaning.{IsAuditText, auditing}
use Rattle.tsp_io.specs.Counts.{Rose}
use Rattle.tsp_lines.specs.declared.treat.Outcome.TheVariants.{Ok as Done, ReadFault as NotRead, WriteFault as NotWritten, OutOfMemory as NoMemory}
use Rattle.tsp_lines.specs.{Answers.Answers, Gatherings.ComesGathered, Gatherings.IsGathered, declared.limits.TheConstants.MOST_INPUT}
use Rattle.tsp_lines.{proofs.OneAnswer.Agrees_outcome, specs.declared.treat.Outcome.Outcome}
use Rattle.tsp_cli.specs.{Commands.RunsAudit, Statuses.status_of, declared.status.Status.Status}
use Rattle.tsp_cli.{proofs.RunLemmas.status_by, proofs.RunLemmas.status_same, specs.declared.status.Status.TheVariants.OutOfMemory}

-- the treatment of a claimed history is the run of an audit
pub RunsAudit_treated : (input left written now : Option (List ℕ)) (ended : Bool) (reads reads_now writes writes_now : ℕ) (o : Outcome) (status : Status) →
    status ≡ status_of o
    → ComesGathered auditing MOST_INPUT input left written now o → Answers auditing MOST_INPUT input written now o
    → ((octets : List ℕ) → input ≡ Some octets → length octets ≤ MOST_INPUT → IsAuditText octets → ¬ Rose reads reads_now → ¬ Rose writes writes_now →
    (o ≡ Done) ⊎ (o ≡ NoMemory))
    → (o ≢ NotRead → o ≢ NoMemory → IsGathered MOST_INPUT input left ended) → (o ≡ NotRead → Rose reads reads_now) → (o ≡ NotWritten → Rose writes writes_now) →
    (o ≡ Done → ended ≡ true)
    → RunsAudit input left written now ended reads reads_now writes writes_now status
RunsAudit_treated input left written now ended reads reads_now writes writes_now o status is comes answers complete gathered read write whole = record {
  outcome = o;
  status_is = is;
  comes = comes;
  answers = answers;
  decided = λ octets answer output told a r w. subst (λ (s : Status). (s ≡ status_of answer) ⊎
      (s ≡ OutOfMemory)) (sym is) (status_same o answer (Agrees_outcome answer o output written now (answers octets answer output told a) (λ e. r (read e))
      (λ e. w (write e))));
  complete = λ octets told l text r w. subst (λ (s : Status). (s ≡ status_of Done) ⊎
      (s ≡ OutOfMemory)) (sym is) (status_same o Done (complete octets told l text r w));
  gathered = λ not_read not_held. gathered (λ e. not_read (is ∙ ap status_of e)) (λ e. not_held (is ∙ ap status_of e));
  whole = λ e. whole ((status_by o).0 (sym is ∙ e));
}
