-- How the trace grows, and how lists of lines are read.
use Rattle.std.proofs.Common.{sym, ap, ◌∙◌, inl, inr, subst, append-nil, ◌≡◌, ℕ, List, [], ◌∷◌, ◌++◌, reverse, refl, ◌==◌, Bool, true, false, if◌then◌else◌}
use Rattle.std.proofs.lemmas.{Grind.flat_map-append, List.reverse-append}
use Rattle.tsp_base.specs.{Words.HeaderValue, declared.event.Event.Event}
use Rattle.tsp_run.specs.Run.{told, gained}
use Rattle.tsp_schedule.specs.declared.stage.Stage.{Stage}
use Rattle.tsp_schedule.specs.declared.stage.Stage.TheVariants.{Titled as AtTitled, Drifted as AtDrifted, Heading as AtHeading, Running as AtRunning}
use Rattle.tsp_schedule.specs.Schedules.{Progress, Untitled, Titled, Drifted, Heading, Running, Ended, new_header}
use Rattle.tsp_replay.specs.{Traces.line_text, Traces.lines_text, Traces.trace, Traces.written_at, declared.replayed.Replayed.Replayed}
use Rattle.tsp_replay.{proofs.Places.GoesOn, proofs.Places.RunsOn, proofs.Places.StageStands, specs.Stages.told_at}

-- one line more, read back
pub reverse_more : {A : Type 0} (xs : List A) (x : A) → reverse (xs ++ x ∷ []) ≡ x ∷ reverse xs
reverse_more xs x = reverse-append xs (x ∷ [])

-- one event more
pub trace_more : (header : HeaderValue) (events : List Event) (e : Event) → trace header (e ∷ events) ≡ trace header events ++
    lines_text (gained header (e ∷ events))
trace_more header events e = flat_map-append line_text (told header events) (gained header (e ∷ events))

titled_told : (version : ℕ) (stage : Stage Replayed) → StageStands (Titled version) stage → told_at stage ≡ []
titled_told version (AtTitled read) s = refl
titled_told version _ s = absurd s

drifted_told : (drift : ℕ) (stage : Stage Replayed) → StageStands (Drifted drift) stage → told_at stage ≡ []
drifted_told drift (AtDrifted held) s = refl
drifted_told drift _ s = absurd s

heading_told : (header : HeaderValue) (stage : Stage Replayed) → StageStands (Heading header) stage → told_at stage ≡ []
heading_told header (AtHeading held) s = refl
heading_told header _ s = absurd s

running_told : (header : HeaderValue) (events : List Event) (stage : Stage Replayed) → StageStands (Running header events) stage → told_at stage ≡
    gained header events
running_told header events (AtRunning run) s = ap (λ o. if o then [] else run.handler.world.lines.items) s.0 ∙ s.1.lines
running_told header events _ s = absurd s

ended_told : (header : HeaderValue) (events : List Event) (stage : Stage Replayed) → StageStands (Ended header events) stage → told_at stage ≡ []
ended_told header events (AtRunning run) s = ap (λ o. if o then [] else run.handler.world.lines.items) s.0
ended_told header events _ s = absurd s

run_written : (header : HeaderValue) (events : List Event) (line : List ℕ) (to : Progress) (next : Stage Replayed) → RunsOn header events line to →
    StageStands to next → written_at to ≡ trace header events ++ lines_text (told_at next)
run_written header events line to next (inl g) s =
    let stands : StageStands (Running header (g.0 ∷ events)) next = subst (λ p. StageStands p next) g.3 s in
    ap written_at g.3 ∙ trace_more header events g.0 ∙ ap (λ ls. trace header events ++ lines_text ls) (sym (running_told header (g.0 ∷ events) next stands))
run_written header events line to next (inr g) s =
    let stands : StageStands (Ended header events) next = subst (λ p. StageStands p next) g.1 s in
    ap written_at g.1 ∙ sym (append-nil (trace header events)) ∙ ap (λ ls. trace header events ++ lines_text ls) (sym (ended_told header events next stands))

-- what is written grows by the lines of the last event
pub written_at_more : (p : Progress) (line : List ℕ) (to : Progress) (next : Stage Replayed) → GoesOn p line to → StageStands to next → written_at to ≡
    written_at p ++ lines_text (told_at next)
written_at_more Untitled line to next g s = ap written_at g.2 ∙ ap (λ ls. lines_text ls) (sym (titled_told g.0 next (subst (λ p. StageStands p next) g.2 s)))
written_at_more (Titled version) line to next g s = by_version (version == 2) g.2 s where
  by_version : (strict : Bool) → to ≡ (if strict then Drifted g.0 else Heading (new_header g.0 false)) → StageStands to next → written_at to ≡
      lines_text (told_at next)
  by_version true e s = ap written_at e ∙ ap (λ ls. lines_text ls) (sym (drifted_told g.0 next (subst (λ p. StageStands p next) e s)))
  by_version false e s = ap written_at e ∙ ap (λ ls. lines_text ls) (sym (heading_told _ next (subst (λ p. StageStands p next) e s)))
written_at_more (Drifted drift) line to next g s = ap written_at g.1 ∙ ap (λ ls. lines_text ls)
    (sym (heading_told _ next (subst (λ p. StageStands p next) g.1 s)))
written_at_more (Heading header) line to next (inl g) s = ap written_at g.3 ∙ ap (λ ls. lines_text ls)
    (sym (heading_told _ next (subst (λ p. StageStands p next) g.3 s)))
written_at_more (Heading header) line to next (inr (inl g)) s = ap written_at g.3 ∙
    ap (λ ls. lines_text ls) (sym (heading_told _ next (subst (λ p. StageStands p next) g.3 s)))
written_at_more (Heading header) line to next (inr (inr g)) s = run_written header [] line to next g.2 s
written_at_more (Running header events) line to next g s = run_written header events line to next g s
written_at_more (Ended header events) line to next g s = absurd g
