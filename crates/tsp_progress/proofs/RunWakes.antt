-- The nodes of a run have armed what the roles of their ports ask for.
use Rattle.std.proofs.Common.{sym, subst, ◌≡◌, eqb-true, eq-eqb, ℕ, ◌==◌, Bool, true, false, List, [], ◌∷◌, Option, None, Some, slice_get, refl}
use Rattle.tsp_rules.specs.Values.{Event, BootAt, Turn, Take, Bytes, Placed, Port}
use Rattle.tsp_rules.specs.{GateRows.GotOn, GateRows.NodeTurn, GateRows.answers_all, GateRows.boots_all, NodeRows.NodePast, NodeRows.NodeRow}
use Rattle.tsp_rules.specs.{NodeRows.in_node_step}
use Rattle.tsp_base.specs.Words.{Acts, Begins, HeaderValue, Handed, Line, Step, Turned, Came, first_port, joined, line_of, of, stepped, view}
use Rattle.tsp_codec.specs.{Taken.taken_of}
use Rattle.tsp_promises.proofs.leads.GateSteps.{LeadsAll}
use Rattle.tsp_run.specs.{Networks.networks, Setup.past_of, declared.arrival.Arrival.Arrival}
use Rattle.tsp_run.specs.{Run.arrives, Run.joins, Run.posts}
use Rattle.tsp_run.specs.Clocked.{Clocks, boot_by, clocks_of, happening_by, reaches_by, run_by, steps_by, tick_by}
use Rattle.tsp_run.proofs.{OwnClocks.runs_by_own_clocks, RunLemmas.stepped_other, RunLemmas.stepped_own}
use Rattle.tsp_progress.proofs.{NodeKeeps.Each, NodeKeeps.node_manner, NodeWakes.answers_awake, NodeWakes.awake, NodeWakes.begins_awake, NodeWakes.boots_awake}
use Rattle.tsp_progress.proofs.CauseNodes.{answers_caused, begins_caused, boots_caused, caused}
use Rattle.tsp_progress.specs.CausesFit.{CausesFit}
use Rattle.tsp_progress.proofs.Waking.{Settled, wakes_of, waking_of}
use Rattle.tsp_progress.specs.{AlarmsFit.Manner, RunsWake.ClockedRunsWake, RunsWake.RunsWake, RunsWake.manner_of, Wakes.AllWake, Wakes.Wakes, Wakes.Woken}

-- where a step begins, and at the end
pub record Wakeful (m : ℕ → Manner) (h : List Line) : Type 0 where
  pub woken : Woken m h
  pub all : AllWake m h

-- acts are no marks
joined_woken : (m : ℕ → Manner) (step : Step) (x : ℕ) (acts : List Placed) (h : List Line) → Woken m h → Woken m (joined step x acts h)
joined_woken m step x [] h w = w
joined_woken m step x (a ∷ rest) h w = joined_woken m step x rest (line_of step x a.port (Acts a.act) ∷ h) (λ e q. let bad : ⊥ = cc in absurd bad, w)

-- a step whose acts keep its node awake
pub stepped_wakeful : (m : ℕ → Manner) (step : Step) (x : ℕ) (acts : List Placed) (h : List Line) → Wakeful m h →
    ((q : Port) → Settled (m step.node) true true (view q (joined step x acts (line_of step x first_port Begins ∷ of step.node h)))) →
    ((q : Port) → CausesFit (view q (joined step x acts (line_of step x first_port Begins ∷ of step.node h)))) → Wakeful m (stepped step x acts h)
stepped_wakeful m step x acts h w after caused = record {
  woken = joined_woken m step x acts (line_of step x first_port Begins ∷ h) (λ e q. w.all step.node q, w.woken);
  all = λ n q. by_case n q (step.node == n) refl;
} where
  by_case : (n : ℕ) (q : Port) (b : Bool) → (step.node == n) ≡ b → Wakes (m n) (view q (of n (stepped step x acts h)))
  by_case n q true e = subst (λ k. Wakes (m k) (view q (of k (stepped step x acts h)))) (eqb-true step.node n e)
      (subst (λ l. Wakes (m step.node) (view q l)) (sym (stepped_own step.node step x acts h (eq-eqb step.node step.node refl)))
      (wakes_of (after q) (caused q)))
  by_case n q false e = subst (λ l. Wakes (m n) (view q l)) (sym (stepped_other n step x acts h e)) (w.all n q)

-- a step by a row that does
pub row_wakeful : (m : ℕ → Manner) (past : NodePast) (step : Step) (x : ℕ) (row : NodeRow) (h : List Line) → past.lines ≡ of step.node h → node_manner past ≡
    m step.node → LeadsAll (Each awake) row (Each awake) → LeadsAll (Each caused) row (Each caused) → Wakeful m h →
    Wakeful m (stepped step x (row x (in_node_step step x past)) h)
row_wakeful m past step x row h own same leads orders w =
    let start : Each awake x past = λ q. subst (λ k. Settled k true true (view q past.lines)) (sym same)
    (subst (λ l. Settled (m step.node) true true (view q l)) (sym own) (waking_of (w.all step.node q))) in
    let order : Each caused x past = λ q. subst (λ l. CausesFit (view q l)) (sym own) (w.all step.node q).causes in
    let acts = row x (in_node_step step x past) in
    stepped_wakeful m step x acts h w (λ q. subst (λ l. Settled (m step.node) true true (view q (joined step x acts (line_of step x first_port Begins ∷ l))))
    own
    (subst (λ k. Settled k true true (view q (joined step x acts (line_of step x first_port Begins ∷ past.lines)))) same
    (leads.run x (in_node_step step x past) (begins_awake step x past start) q)))
    (λ q. subst (λ l. CausesFit (view q (joined step x acts (line_of step x first_port Begins ∷ l)))) own
    (orders.run x (in_node_step step x past) (begins_caused step x past order) q))

module _ (clocks : Clocks) (header : HeaderValue) where
  steps_wakeful : (h : List Line) (row : NodeRow) (step : Step) → LeadsAll (Each awake) row (Each awake) → LeadsAll (Each caused) row (Each caused) →
      Wakeful (manner_of header) h → Wakeful (manner_of header) (joins (Some (steps_by clocks header h row step)) h)
  unfolding steps_by
  steps_wakeful h row step leads orders w = row_wakeful (manner_of header) (past_of header step h) step (tick_by clocks step) row h refl refl leads orders w

  event_wakeful : (h : List Line) (e : Event) → Wakeful (manner_of header) h → Wakeful (manner_of header) (joins (happening_by clocks header h e) h)
  event_wakeful h (BootAt at node word) w = steps_wakeful h boots_all (boot_by clocks h at node word) boots_awake boots_caused w
  event_wakeful h (Turn at node) w = steps_wakeful h (answers_all NodeTurn) (record { at = at; node = node; cause = Turned }) (answers_awake NodeTurn)
      (answers_caused NodeTurn) w
  event_wakeful h (Take at k) w = arrived (arrives (networks header) (slice_get (posts h) k)) where
    arrived : (o : Option Arrival) → Wakeful (manner_of header) (joins (reaches_by clocks header h at k o) h)
    arrived None = w
    arrived (Some a) = steps_wakeful h (answers_all (GotOn a.port a.from a.taken)) (record { at = at; node = a.node; cause = Came k })
        (answers_awake (GotOn a.port a.from a.taken)) (answers_caused (GotOn a.port a.from a.taken)) w
  event_wakeful h (Bytes at node port from octets) w =
      steps_wakeful h (answers_all (GotOn port from (taken_of octets))) (record { at = at; node = node; cause = Handed })
      (answers_awake (GotOn port from (taken_of octets))) (answers_caused (GotOn port from (taken_of octets))) w

-- before anything
nothing_wakes : (m : Manner) → Wakes m []
nothing_wakes m = record {
  acts = tt;
  settled = refl;
  causes = tt;
  starting = λ r start idle s. let bad : ⊥ = cc in absurd bad;
  candidate = λ r. let bad : ⊥ = cc in absurd bad;
  loose = λ r. let bad : ⊥ = cc in absurd bad;
  follow = λ p r. let bad : ⊥ = cc in absurd bad;
  master = λ r. let bad : ⊥ = cc in absurd bad;
}

wakeful : (clocks : Clocks) (header : HeaderValue) (events : List Event) → Wakeful (manner_of header) (run_by clocks header events)
wakeful clocks header [] = record { woken = tt; all = λ n q. nothing_wakes (manner_of header n) }
wakeful clocks header (e ∷ before) = event_wakeful clocks header (run_by clocks header before) e (wakeful clocks header before)

pub clocked_runs_wake : ClockedRunsWake
clocked_runs_wake clocks header events = let w = wakeful clocks header events in (w.woken, w.all)

pub runs_wake : RunsWake
runs_wake header events = subst (λ h. Woken (manner_of header) h × AllWake (manner_of header) h) (runs_by_own_clocks header events)
    (clocked_runs_wake (clocks_of header) header events)
