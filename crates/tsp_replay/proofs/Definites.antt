-- What lines mean to a replay is definite, and a schedule's text has the answer that is due.
use Rattle.std.proofs.Common.{◌≡◌, ℕ, ◌≤◌, inl, inr, List, [], ◌∷◌, ◌++◌, sym, ap, ◌∙◌, subst, length, append-nil, reverse, ◌==◌, Bool, true, false}
use Rattle.std.proofs.Common.{if◌then◌else◌, refl}
use Rattle.tsp_base.specs.{Words.HeaderValue, declared.event.Event.Event}
use Rattle.tsp_schedule.proofs.Definites.{Lacks_not_ended, Lacks_one, Refuses_one, Refuses_within}
use Rattle.tsp_schedule.proofs.OneReading.{Reaches_one, GoesOn_not_refused, GoesOn_not_limited}
use Rattle.tsp_schedule.specs.Schedules.{Progress, Untitled, Titled, Drifted, Heading, Running, Ended, Lacks, IsEnded, new_header}
use Rattle.tsp_lines.specs.{Answers.IsAnswer, Definite.IsDefinite, declared.treat.Outcome.TheVariants.Ok as Done}
use Rattle.tsp_replay.specs.{Meaning.IsScheduleText, Meaning.Replays, Meaning.replaying, Traces.lines_text, Traces.trace, Traces.written_at}
use Rattle.tsp_replay.proofs.{Places.RunsOn, Places.GoesOn, TraceLemmas.reverse_more, TraceLemmas.trace_more}
use Rattle.tsp_replay.specs.Schedules.{refused, Reaches, Refuses}
use Rattle.tsp_run.specs.Run.{gained}

-- what is written goes on with each line
run_more : (header : HeaderValue) (events : List Event) (line : List ℕ) (to : Progress) → RunsOn header events line to → (more : List ℕ) ×
    (written_at to ≡ trace header events ++ more)
run_more header events line to (inl g) = (lines_text (gained header (g.0 ∷ events)), ap written_at g.3 ∙ trace_more header events g.0)
run_more header events line to (inr g) = ([], ap written_at g.1 ∙ sym (append-nil (trace header events)))

written_more : (p : Progress) (line : List ℕ) (to : Progress) → GoesOn p line to → (more : List ℕ) × (written_at to ≡ written_at p ++ more)
written_more Untitled line to g = ([], ap written_at g.2)
written_more (Titled version) line to g = ([], ap written_at g.2 ∙ by_version (version == 2)) where
  by_version : (strict : Bool) → written_at (if strict then Drifted g.0 else Heading (new_header g.0 false)) ≡ []
  by_version true = refl
  by_version false = refl
written_more (Drifted drift) line to g = ([], ap written_at g.1)
written_more (Heading header) line to (inl g) = ([], ap written_at g.3)
written_more (Heading header) line to (inr (inl g)) = ([], ap written_at g.3)
written_more (Heading header) line to (inr (inr g)) = run_more header [] line to g.2
written_more (Running header events) line to g = run_more header events line to g
written_more (Ended header events) line to g = absurd g

-- the line before brought the schedule to one place, and goes on from there
last_line : (lines : List (List ℕ)) (line : List ℕ) (p : Progress) → Reaches (reverse (lines ++ line ∷ [])) p → (q : Progress) × Reaches (reverse lines) q ×
    GoesOn q line p
last_line lines line p r = subst (λ ls. Reaches ls p) (reverse_more lines line) r

replays_before : (lines : List (List ℕ)) (line text : List ℕ) → Replays (lines ++ line ∷ []) text → (front : List ℕ) × (more : List ℕ) × Replays lines front ×
    (text ≡ front ++ more)
replays_before lines line text (p, r, e) =
    let q = last_line lines line p r in
    let more = written_more q.0 line p q.2 in
    (written_at q.0, more.0, (q.0, q.1, refl), e ∙ more.1)

-- the same lines are one place
same_place : (lines : List (List ℕ)) (p q : Progress) → Reaches (reverse lines) p → Reaches (reverse lines) q → p ≡ q
same_place lines p q r s = Reaches_one refused (reverse lines) p q r s

pub definite_replaying : IsDefinite replaying
definite_replaying = record {
  one_output = λ lines text other (p, r, e) (q, s, f). e ∙ ap written_at (same_place lines p q r s) ∙ sym f;
  before = λ lines line text a. ((λ f. f), replays_before lines line text a);
  not_refused = λ lines line text cause (p, r, e) (q, s, f).
      let t = last_line lines line p r in
      GoesOn_not_refused refused q line cause p (subst (λ x. GoesOn x line p) (same_place lines t.0 q t.1 s) t.2) f;
  not_limited = λ lines line text (p, r, e) (q, s, f).
      let t = last_line lines line p r in
      GoesOn_not_limited refused q line p (subst (λ x. GoesOn x line p) (same_place lines t.0 q t.1 s) t.2) f;
  one_cause = λ lines line cause other (p, r, e) (q, s, f). Refuses_one refused q line cause other (subst (λ x. Refuses x line cause) (same_place lines p q r s)
      e) f;
  refused_within = λ lines line cause (p, r, e) (q, s, f). Refuses_within refused q line cause (subst (λ x. Refuses x line cause) (same_place lines p q r s) e)
      f;
  one_end = λ lines more other e f. e.1 ∙ sym f.1;
  one_lack = λ lines cause other (p, r, e) (q, s, f). Lacks_one q cause other (subst (λ x. Lacks x cause) (same_place lines p q r s) e) f;
  ended_whole = λ lines more cause e (p, r, f). Lacks_not_ended p cause (e.0 p r) f;
}

-- the answer to the text of a schedule
pub answer_schedule : (limit : ℕ) (octets : List ℕ) → length octets ≤ limit → (a : IsScheduleText octets) → IsAnswer replaying limit octets Done (trace a.0 a.1)
answer_schedule limit octets l (header, events, (lines, n, are, r)) = record {
  lines = lines;
  text = trace header events;
  said = [];
  feedless = n;
  accepted = (Ended header events, r, refl);
  ending = ((octets, are, (l, refl)), ((λ p s. subst {A = Progress} (λ x. IsEnded x) (same_place lines (Ended header events) p r s) tt), refl));
  whole = sym (append-nil (trace header events));
}
