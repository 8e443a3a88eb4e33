-- From what a treatment comes to, to how a command's run ends.
use Rattle.std.proofs.Common.{sym, ◌∙◌, inl, inr, subst, refl, ap, arith, ◌≡◌, ◌≢◌, ◌⊎◌, ℕ, ◌≤◌, List, length, Option, Some, Bool, true, false}
use Rattle.tsp_io.specs.{Counts.Rose, declared.link.Link.Ghosts as LinkOf}
use Rattle.tsp_query.specs.Faults.{Counts, LinkCounts}
use Rattle.tsp_lines.specs.declared.treat.Outcome.TheVariants.{Ok as Done, ReadFault as NotRead, WriteFault as NotWritten, OutOfMemory as NoMemory}
use Rattle.tsp_lines.specs.{Answers.Agrees, Answers.Answers, Meanings.Meaning, Outcomes.Comes, Outcomes.KeepsUp}
use Rattle.tsp_lines.{proofs.OneAnswer.Agrees_outcome, specs.declared.limits.TheConstants.MOST_INPUT, specs.declared.treat.Outcome.Outcome}
use Rattle.tsp_cli.specs.declared.status.Status.TheVariants.{Ok, Usage, ReadFault, WriteFault, LinkFault, OutOfMemory}
use Rattle.tsp_cli.specs.{Commands.LinkFaults, Statuses.status_of, declared.status.Status.Status}
use Rattle.tsp_cli.specs.Lines.{LineCommand, meaning_of, IsTextOf, EndsAs, AgreesAs, Runs}

-- the status of a treatment says what the treatment came to
EndsAs_comes : (m : Meaning) (input left written now : Option (List ℕ)) (o : Outcome) → Comes m MOST_INPUT input left written now o →
    EndsAs m input left written now (status_of o)
EndsAs_comes m input left written now Done c = c
EndsAs_comes m input left written now _ c = c

AgreesAs_agrees : (o : Outcome) (output : List ℕ) (written now : Option (List ℕ)) (result : Outcome) → Agrees o output written now result →
    AgreesAs o output written now (status_of result)
AgreesAs_agrees o output written now Done a = a
AgreesAs_agrees o output written now _ a = a

-- only the outcome Ok has the status Ok; no treatment of lines ends by the link or as a wrong use, and each ends by a read or by a
-- write only where its outcome says so
pub status_by : (o : Outcome) → (status_of o ≡ Ok → o ≡ Done) × (status_of o ≡ LinkFault → ⊥) × (status_of o ≡ Usage → ⊥) ×
    (status_of o ≡ ReadFault → o ≡ NotRead) × (status_of o ≡ WriteFault → o ≡ NotWritten)
status_by Done = ((λ e. refl), (λ e. cc), (λ e. cc), (λ e. cc), (λ e. cc))
status_by NotRead = ((λ e. cc), (λ e. cc), (λ e. cc), (λ e. refl), (λ e. cc))
status_by NotWritten = ((λ e. cc), (λ e. cc), (λ e. cc), (λ e. cc), (λ e. refl))
status_by _ = ((λ e. cc), (λ e. cc), (λ e. cc), (λ e. cc), (λ e. cc))

-- a treatment that ends as another, or for lack of memory, has that one's status
pub status_same : (o p : Outcome) → (o ≡ p) ⊎ (o ≡ NoMemory) → (status_of o ≡ status_of p) ⊎ (status_of o ≡ OutOfMemory)
status_same o p (inl e) = inl (ap status_of e)
status_same o p (inr e) = inr (ap status_of e)

-- a treatment is the run of a command
pub Runs_treated : (command : LineCommand) (input left written now : Option (List ℕ)) (ended : Bool) (reads reads_now writes writes_now : ℕ) (o : Outcome)
    (status : Status) → status ≡ status_of o
    → Comes (meaning_of command) MOST_INPUT input left written now o → Answers (meaning_of command) MOST_INPUT input written now o →
    KeepsUp (meaning_of command) MOST_INPUT input left written now
    → ((octets : List ℕ) → input ≡ Some octets → length octets ≤ MOST_INPUT → IsTextOf command octets → ¬ Rose reads reads_now → ¬ Rose writes writes_now →
    (o ≡ Done) ⊎ (o ≡ NoMemory))
    → (o ≡ NotRead → Rose reads reads_now) → (o ≡ NotWritten → Rose writes writes_now) → (o ≡ Done → ended ≡ true) →
    Runs command input left written now ended reads reads_now writes writes_now status
Runs_treated command input left written now ended reads reads_now writes writes_now o status is comes answers keeps_up complete read write whole =
    subst (Runs command input left written now ended reads reads_now writes writes_now) (sym is) (record {
      ends = EndsAs_comes (meaning_of command) input left written now o comes;
      answers = λ octets outcome output told a. AgreesAs_agrees outcome output written now o (answers octets outcome output told a);
      decided = λ octets outcome output told a r w. status_same o outcome (Agrees_outcome outcome o output written now (answers octets outcome output told a)
          (λ e. r (read e)) (λ e. w (write e)));
      complete = λ octets told l is r w. status_same o Done (complete octets told l is r w);
      keeps_up = keeps_up;
      whole = λ e. whole ((status_by o).0 e);
    })

-- the count of failed reads of a treatment is its command's
pub read_counts : (o : Outcome) (status : Status) (before now : ℕ) (ended : Bool) → status ≡ status_of o → before ≤ now →
    (o ≡ NotRead → Rose before now × (ended ≡ false)) → (o ≢ NotRead → now ≡ before) → Counts before now (status ≡ ReadFault)
read_counts o status before now ended is later read still = record {
  later = later;
  cause = λ e. (read ((status_by o).3 (sym is ∙ e))).0;
  still = λ h. still (λ e. h (is ∙ ap (λ (x : Outcome). status_of x) e));
}

-- after a failed read the end wasn't read
pub read_open : (o : Outcome) (status : Status) (before now : ℕ) (ended : Bool) → status ≡ status_of o → (o ≡ NotRead → Rose before now × (ended ≡ false)) →
    status ≡ ReadFault → ended ≡ false
read_open o status before now ended is read e = (read ((status_by o).3 (sym is ∙ e))).1

-- the count of failed writes of a treatment is its command's
pub write_counts : (o : Outcome) (status : Status) (before now : ℕ) → status ≡ status_of o → before ≤ now → (o ≡ NotWritten → Rose before now) →
    (o ≢ NotWritten → now ≡ before) → Counts before now (status ≡ WriteFault)
write_counts o status before now is later write still = record {
  later = later;
  cause = λ e. write ((status_by o).4 (sym is ∙ e));
  still = λ h. still (λ e. h (is ∙ ap (λ (x : Outcome). status_of x) e));
}

-- a link that isn't used
pub unused_link : {L : Type 0} (links : LinkOf L) (link : L) (fault question : Type 0) → ¬ fault → LinkFaults links link link fault question
unused_link links link fault question never = record { later = (omega arith, omega arith); cause = λ e. absurd (never e); still = λ h. refl }

-- the link of a daemon, whose failed sends are no fault
pub daemon_link : {L : Type 0} (links : LinkOf L) (before now : L) (fault question : Type 0) → Counts (links.faults before) (links.faults now) fault →
    links.send_faults before ≤ links.send_faults now → LinkFaults links before now fault question
daemon_link links before now fault question c sends = record { later = (c.later, sends); cause = λ e. inl (c.cause e); still = c.still }

-- the link of a question
pub question_link : {L : Type 0} (links : LinkOf L) (before now : L) (fault question : Type 0) → question → LinkCounts links before now fault →
    LinkFaults links before now fault question
question_link links before now fault question asks c = record {
  later = c.later;
  cause = λ e. elim (c.cause e) [ inl r ↦ inl r | inr r ↦ inr (asks, r) ];
  still = λ h. (c.still h).0;
}
