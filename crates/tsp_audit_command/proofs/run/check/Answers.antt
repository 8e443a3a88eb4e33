use Rattle.std.proofs.Common.{◌∙◌, subst, inl, inr, sym, refl, ◌≡◌, ◌⊎◌, ℕ, ◌≤◌, List, [], length, reverse, Option, Some}
use Rattle.tsp_audit_command.specs.Readings.{Claimed, IsWanting, ReachesReading, Reading, Scheduling}
use Rattle.tsp_audit_command.specs.{ClaimReaders.ClaimReaderValue, ClaimReaders.passes_all, Meaning.IsAuditText, Meaning.auditing}
use Rattle.tsp_audit_command.proofs.{Definites.definite_auditing, Definites.Reaches_one, PassLemmas.none-some}
use Rattle.tsp_lines.specs.declared.treat.Outcome.TheVariants.{Ok as Done, Bad, ReadFault, WriteFault, Limit, OutOfMemory}
use Rattle.tsp_lines.specs.{Answers.Agrees, Answers.IsAnswer, Definite.IsDefinite, Gatherings.ComesGathered, Meanings.Meaning}
use Rattle.tsp_lines.{proofs.OneAnswer.Comes_answers, specs.declared.treat.Outcome.Outcome, specs.declared.limits.TheConstants.MOST_INPUT}
use Rattle.tsp_audit_command.proofs.run.check.Goals as goal

-- the same lines, where nothing is handed over at their end
abbrev silently : Meaning
silently = record auditing {
  ends = λ lines more. (c : ClaimReaderValue) × (all : ClaimReaderValue) × ReachesReading (reverse lines) (Claimed c) × (passes_all c ≡ Some all) × (more ≡ []);
}

ended_whole : (at : Reading) (c all : ClaimReaderValue) (cause : List ℕ) → Claimed c ≡ at → passes_all c ≡ Some all → IsWanting at cause → ⊥
ended_whole (Scheduling p) c all cause same passes f = let bad : ⊥ = cc in bad
ended_whole (Claimed d) c all cause same passes f = let is : c ≡ d = cc in none-some (passes_all d) all f.0 (subst (λ v. passes_all v ≡ Some all) is passes)

silent : IsDefinite silently
silent = record {
  one_output = definite_auditing.one_output;
  before = definite_auditing.before;
  not_refused = definite_auditing.not_refused;
  not_limited = definite_auditing.not_limited;
  one_cause = definite_auditing.one_cause;
  refused_within = definite_auditing.refused_within;
  one_lack = definite_auditing.one_lack;
  one_end = λ lines more other a b. a.4 ∙ sym b.4;
  ended_whole = λ lines more cause a (r, s, f). ended_whole r a.0 a.1 cause (Reaches_one (reverse lines) (Claimed a.0) r a.2 s) a.3 f;
}

-- what may be audited has an answer
answer : (limit : ℕ) (octets : List ℕ) → length octets ≤ limit → IsAuditText octets → IsAnswer silently limit octets Done []
answer limit octets short (lines, c, all, feedless, are, reaches, passes) = record {
  lines = lines;
  text = [];
  said = [];
  feedless = feedless;
  accepted = (Claimed c, reaches, refl);
  ending = ((octets, are, (short, refl)), (c, all, reaches, passes, refl));
  whole = refl;
}

-- so that it isn't refused
complete : (limit : ℕ) (input left written now : Option (List ℕ)) (octets : List ℕ) (result : Outcome) → input ≡ Some octets → length octets ≤ limit →
    IsAuditText octets → ComesGathered auditing limit input left written now result →
    (result ≡ ReadFault → ⊥) → (result ≡ WriteFault → ⊥) → (result ≡ Done) ⊎ (result ≡ OutOfMemory)
complete limit input left written now octets Done told short text comes read write = inl refl
complete limit input left written now octets Bad told short text comes read write =
    let agrees : Agrees Done [] written now Bad = Comes_answers silently silent limit input left written now Bad comes octets Done [] told
    (answer limit octets short text) in
    inl (sym agrees.0)
complete limit input left written now octets ReadFault told short text comes read write = absurd (read refl)
complete limit input left written now octets WriteFault told short text comes read write = absurd (write refl)
complete limit input left written now octets Limit told short text comes read write =
    let agrees : Agrees Done [] written now Limit = Comes_answers silently silent limit input left written now Limit comes octets Done [] told
    (answer limit octets short text) in
    inl (sym agrees.0)
complete limit input left written now octets OutOfMemory told short text comes read write = inr refl

pub returns : goal.returns
returns g c = record {
  treats = c.treat_gathered.ensures;
  answers = c.treat_gathered.ensures.answers definite_auditing;
  complete = λ octets told limit text reads writes.
      complete MOST_INPUT _ _ _ _ octets c.treat_gathered.result told limit text c.treat_gathered.ensures.comes
      (λ e. reads (c.treat_gathered.ensures.leaves.read e).0) (λ e. writes (c.treat_gathered.ensures.leaves.write e));
}
