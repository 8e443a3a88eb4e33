-- A node that has booted stays up.
use Rattle.std.proofs.Common.{ap, ◌∙◌, eq-eqb, ◌≡◌, ℕ, ◌==◌, Bool, true, false, List, ◌∷◌, Option, None, Some, refl}
use Rattle.tsp_base.specs.Words.{HeaderValue, Step, Begins, Line, of, dids, first_port, line_of, stepped, up}
use Rattle.tsp_rules.specs.{GateRows.boots_all, NodeRows.in_node_step, Values.Placed, Values.Event, Values.BootAt}
use Rattle.tsp_run.specs.{Run.Happening, Run.happening, Run.joins, Run.run, Run.steps, Run.step_tick, Run.boot_step, Setup.past_of}
use Rattle.tsp_run.proofs.{RunLemmas.stepped_own, RunLemmas.stepped_other, RunLemmas.up_joined, BootLemmas.boots_up}

up_stepped : (n : ℕ) (step : Step) (x : ℕ) (acts : List Placed) (h : List Line) → up (dids (of n h)) ≡ true → up (dids (of n (stepped step x acts h))) ≡ true
up_stepped n step x acts h was = by_case (step.node == n) refl where
  by_case : (b : Bool) → (step.node == n) ≡ b → up (dids (of n (stepped step x acts h))) ≡ true
  by_case true e = ap (λ lines. up (dids lines)) (stepped_own n step x acts h e) ∙ up_joined step x acts (line_of step x first_port Begins ∷ of n h) was
  by_case false e = ap (λ lines. up (dids lines)) (stepped_other n step x acts h e) ∙ was

up_joins : (n : ℕ) (o : Option Happening) (h : List Line) → up (dids (of n h)) ≡ true → up (dids (of n (joins o h))) ≡ true
up_joins n None h was = was
up_joins n (Some g) h was = up_stepped n g.step g.tick g.acts h was

-- a node that is up is up after an event more
pub up_later : (header : HeaderValue) (events : List Event) (e : Event) (n : ℕ) → up (dids (of n (run header events))) ≡ true →
    up (dids (of n (run header (e ∷ events)))) ≡ true
up_later header events e n was = up_joins n (happening header (run header events) e) (run header events) was

-- a node is up after its boot
pub up_booted : (header : HeaderValue) (events : List Event) (at node word : ℕ) → up (dids (of node (run header (BootAt at node word ∷ events)))) ≡ true
unfolding steps
up_booted header events at node word =
    let history = run header events in
    let step = boot_step header at node word in
    let x = step_tick header step in
    let past = in_node_step step x (past_of header step history) in
    ap (λ lines. up (dids lines)) (stepped_own node step x (boots_all x past) history (eq-eqb node node refl)) ∙ boots_up x past
