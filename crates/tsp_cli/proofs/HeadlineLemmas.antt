-- From what a replay comes to, to the headline.
use Rattle.std.proofs.Common.{sym, ap, ◌∙◌, inl, inr, subst, append-nil, ◌≡◌, ℕ, ◌==◌, Bool, true, false, if◌then◌else◌, List, [], ◌∷◌, ◌++◌, reverse, Option}
use Rattle.std.proofs.Common.{All}
use Rattle.std.proofs.lemmas.List.Elements.{All-cons, All-nil}
use Rattle.hex.proofs.HexLemmas.{decode_of-ok}
use Rattle.tsp_base.specs.Words.{HeaderValue}
use Rattle.tsp_io.specs.Streams.{Grows}
use Rattle.tsp_script.specs.{Schedules.SpellsEvent, declared.event_line.EventItem.TheVariants.Event as EventOf}
use Rattle.tsp_schedule.specs.Schedules.{Progress, Untitled, Titled, Drifted, Heading, Running, Ended, IsEnded, new_header}
use Rattle.tsp_replay.proofs.{Places.GoesOn, Places.RunsOn, ReadHeaders.IsSchedule_header}
use Rattle.tsp_run.specs.{Ranges.Accepted, Ranges.IsInRange, Refusals.Valid}
use Rattle.tsp_run.proofs.{RunPremises.runs_keep_premises, RunPromises.runs_keep_promises_holds}
use Rattle.tsp_lines.specs.Lines.{NoFeed, AreLines, IsInput, IsOver}
use Rattle.tsp_lines.specs.{Outcomes.Comes, declared.limits.TheConstants.MOST_INPUT, declared.treat.Outcome.TheVariants.Ok as Done}
use Rattle.tsp_replay.specs.{Meaning.IsSchedule, Meaning.replaying, Schedules.Reaches, Traces.written_at, Traces.trace}
use Rattle.tsp_cli.specs.{Headline.PrintsHistory, Lines.EndsAs, declared.status.Status.Status, declared.status.Status.TheVariants.Ok}
use Rattle.tsp_rules.specs.Values.{Event, BootAt, Bytes}

-- the events that were read so far are in their ranges, and nothing refuses them
abbrev pub KeepsValid : Progress → Type 0
KeepsValid (Running header events) = Valid header events × All IsInRange events
KeepsValid (Ended header events) = Valid header events × All IsInRange events
KeepsValid _ = Unit {0}

-- what an event's line spells is in its range
spelled_range : (line : List ℕ) (e : Event) → SpellsEvent line (EventOf e) → IsInRange e
spelled_range line (BootAt at node word) s = s.0.2
spelled_range line (Bytes at node port from octets) s = (decode_of-ok s.1.0 octets s.1.1).3
spelled_range line _ s = tt

run_valid : (header : HeaderValue) (events : List Event) (line : List ℕ) (to : Progress) → Valid header events × All IsInRange events →
    RunsOn header events line to → KeepsValid to
run_valid header events line to v (inl g) = subst (λ p. KeepsValid p) (sym g.3) ((g.2, v.0), All-cons IsInRange g.0 events (spelled_range line g.0 g.1) v.1)
run_valid header events line to v (inr g) = subst (λ p. KeepsValid p) (sym g.1) v

goes_valid : (p : Progress) (line : List ℕ) (to : Progress) → KeepsValid p → GoesOn p line to → KeepsValid to
goes_valid Untitled line to v g = subst (λ p. KeepsValid p) (sym g.2) tt
goes_valid (Titled version) line to v g = subst (λ p. KeepsValid p) (sym g.2) (by_version (version == 2)) where
  by_version : (strict : Bool) → KeepsValid (if strict then Drifted g.0 else Heading (new_header g.0 false))
  by_version true = tt
  by_version false = tt
goes_valid (Drifted drift) line to v g = subst (λ p. KeepsValid p) (sym g.1) tt
goes_valid (Heading header) line to v (inl g) = subst (λ p. KeepsValid p) (sym g.3) tt
goes_valid (Heading header) line to v (inr (inl g)) = subst (λ p. KeepsValid p) (sym g.3) tt
goes_valid (Heading header) line to v (inr (inr g)) = run_valid header [] line to (tt, All-nil IsInRange) g.2
goes_valid (Running header events) line to v g = run_valid header events line to v g
goes_valid (Ended header events) line to v g = absurd g

-- nothing refuses the events of a schedule's lines
pub Reaches_valid : (lines : List (List ℕ)) (p : Progress) → Reaches lines p → KeepsValid p
Reaches_valid [] p r = subst (λ q. KeepsValid q) (sym r) tt
Reaches_valid (line ∷ before) p r = goes_valid r.0 line p (Reaches_valid before r.0 r.1) r.2

done_prints : (p : Progress) (input left written now : Option (List ℕ)) (lines : List (List ℕ)) (octets text said : List ℕ)
    → All NoFeed lines → Reaches (reverse lines) p → text ≡ written_at p → IsEnded p → said ≡ [] → AreLines octets lines → IsInput MOST_INPUT input octets →
    IsOver left → Grows written now (text ++ said) → PrintsHistory input left written now
done_prints (Ended header events) input left written now lines octets text said n r t e s a i o g =
    let valid = Reaches_valid (reverse lines) (Ended header events) r in
    let all : text ++ said ≡ trace header events = ap (λ l. text ++ l) s ∙ append-nil text ∙ t in
    let is : IsSchedule octets header events = (lines, n, a, r) in
    let accepted : Accepted header events = record { header_is = IsSchedule_header octets header events is; ranges = valid.1; valid = valid.0 } in (
      header,
      events,
      octets,
      i,
      is,
      accepted,
      o,
      subst (λ l. Grows written now l) all g,
      (λ setting set. runs_keep_promises_holds header setting events set accepted),
      runs_keep_premises header events accepted,
    )
done_prints _ input left written now lines octets text said n r t e s a i o g = absurd e

-- a replay that ends well printed the history of a schedule
pub Comes_prints : (input left written now : Option (List ℕ)) → Comes replaying MOST_INPUT input left written now Done → PrintsHistory input left written now
Comes_prints input left written now c =
    let w = c.0 in
    let accepts = w.4 in
    let done = w.5 in
    let whole = done.0 in
    done_prints accepts.0 input left written now w.0 whole.0 w.1 w.2 w.3 accepts.1 accepts.2 (done.1.0 accepts.0 accepts.1) done.1.1 whole.1 whole.2 c.1 w.6

-- where a replay's status is the best, it printed the history of a schedule
pub EndsAs_prints : (input left written now : Option (List ℕ)) (status : Status) → EndsAs replaying input left written now status → status ≡ Ok →
    PrintsHistory input left written now
EndsAs_prints input left written now status e is = Comes_prints input left written now (subst {A = Status} (λ s. EndsAs replaying input left written now s) is
    e)
