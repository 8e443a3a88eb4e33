-- A property of every line of a step, whatever it does, is one of every line after it.
use Rattle.std.proofs.Common.{inl, inr, subst, sym, ◌≡◌, ℕ, ℤ, List, [], ◌∷◌, refl}
use Rattle.tsp_rules.specs.Values.{Placed, Event, BootAt, Turn, Take, Bytes, Port}
use Rattle.tsp_rules.specs.{GateRows.GotOn, GateRows.NodeTurn, GateRows.answers_all, GateRows.boots_all, NodeRows.NodeRow}
use Rattle.tsp_base.specs.Words.{HeaderValue, Acts, Begins, Booted, Came, Cause, Deed, Handed, Line, Step, Turned, first_port, joined, line_of, stepped}
use Rattle.tsp_promises.specs.Everywhere.{Everywhere}
use Rattle.tsp_codec.specs.Taken.{taken_of}
use Rattle.tsp_run.specs.{Clocked.Clocks, Clocked.boot_by, Clocked.run_by, Clocked.tick_by, Run.joins}
use Rattle.tsp_run.proofs.HappensBy.{acts_by, steps_are, takes_or, taking, taking_row, taking_step}

-- every line of a step has a property, whatever it does and whatever was before
abbrev pub AllLines : (Line → List Line → Type 0) → Step → ℕ → Type 0
AllLines P step x = (port : Port) (deed : Deed) (before : List Line) → P (line_of step x port deed) before

each_joined : (P : Line → List Line → Type 0) (step : Step) (x : ℕ) (acts : List Placed) (h : List Line) → AllLines P step x → Everywhere P h →
    Everywhere P (joined step x acts h)
each_joined P step x [] h all e = e
each_joined P step x (p ∷ rest) h all e = each_joined P step x rest (line_of step x p.port (Acts p.act) ∷ h) all (all p.port (Acts p.act) h, e)

pub each_stepped : (P : Line → List Line → Type 0) (step : Step) (x : ℕ) (acts : List Placed) (h : List Line) → AllLines P step x → Everywhere P h →
    Everywhere P (stepped step x acts h)
each_stepped P step x acts h all e = each_joined P step x acts (line_of step x first_port Begins ∷ h) all (all first_port Begins h, e)

-- the cause of a step that an event makes
abbrev pub IsCause : Event → Cause → Type 0
IsCause (BootAt at node word) cause = (wall : ℤ) × (cause ≡ Booted word wall)
IsCause (Turn at node) cause = cause ≡ Turned
IsCause (Take at k) cause = cause ≡ Came k
IsCause (Bytes at node port from octets) cause = cause ≡ Handed

module _ (P : Line → List Line → Type 0) (clocks : Clocks) (header : HeaderValue) (before : List Event) (e : Everywhere P (run_by clocks header before)) where
  by_row : (row : NodeRow) (step : Step) → AllLines P step (tick_by clocks step) →
      Everywhere P (stepped step (tick_by clocks step) (acts_by clocks header (run_by clocks header before) row step) (run_by clocks header before))
  by_row row step all = each_stepped P step (tick_by clocks step) (acts_by clocks header (run_by clocks header before) row step)
      (run_by clocks header before) all e

  -- a property of every line with an event's cause holds everywhere after it, if it did before
  pub each_event : (event : Event) → ((step : Step) (x : ℕ) → IsCause event step.cause → AllLines P step x) →
      Everywhere P (run_by clocks header (event ∷ before))
  each_event (BootAt at node word) all =
      let step = boot_by clocks (run_by clocks header before) at node word in
      subst (λ h. Everywhere P (stepped h.step h.tick h.acts (run_by clocks header before)))
      (sym (steps_are clocks header (run_by clocks header before) boots_all step)) (by_row boots_all step (all step _ (_, refl)))
  each_event (Turn at node) all =
      let step : Step = record { at = at; node = node; cause = Turned } in
      let row = answers_all NodeTurn in
      subst (λ h. Everywhere P (stepped h.step h.tick h.acts (run_by clocks header before)))
      (sym (steps_are clocks header (run_by clocks header before) row step)) (by_row row step (all step _ refl))
  each_event (Bytes at node port from octets) all =
      let step : Step = record { at = at; node = node; cause = Handed } in
      let row = answers_all (GotOn port from (taken_of octets)) in
      subst (λ h. Everywhere P (stepped h.step h.tick h.acts (run_by clocks header before)))
      (sym (steps_are clocks header (run_by clocks header before) row step)) (by_row row step (all step _ refl))
  each_event (Take at k) all = elim (takes_or clocks header (run_by clocks header before) at k) [
    | inl a ↦
        let step = taking_step at k a.to in
        subst (λ o. Everywhere P (joins o (run_by clocks header before))) (sym (taking clocks header (run_by clocks header before) at k a))
        (by_row (taking_row a.post a.to) step (all step _ refl))
    | inr nothing ↦ subst (λ o. Everywhere P (joins o (run_by clocks header before))) (sym nothing.1) e
  ]
