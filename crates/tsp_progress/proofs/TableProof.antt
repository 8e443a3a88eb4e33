-- Every run keeps the table.
use Rattle.std.proofs.Common.{sym, subst, ◌≡◌, eqb-true, eq-eqb, ℕ, ◌==◌, Bool, true, false, List, [], ◌∷◌, Option, None, Some, slice_get, refl}
use Rattle.tsp_rules.specs.Values.{Event, BootAt, Turn, Take, Bytes}
use Rattle.tsp_rules.specs.{GateRows.GotOn, GateRows.NodeTurn, GateRows.answers_all, GateRows.boots_all, NodeRows.NodeRow, NodeRows.in_node_step}
use Rattle.tsp_base.specs.Words.{HeaderValue, Handed, Line, Step, Turned, Came, of, stepped}
use Rattle.tsp_codec.specs.{Taken.taken_of}
use Rattle.tsp_promises.proofs.leads.GateSteps.{LeadsAll}
use Rattle.tsp_run.specs.{Networks.networks, Run.arrives, Run.joins, Run.posts, Setup.past_of, declared.arrival.Arrival.Arrival}
use Rattle.tsp_run.specs.Clocked.{Clocks, boot_by, clocks_of, happening_by, reaches_by, run_by, steps_by, tick_by}
use Rattle.tsp_run.proofs.{OwnClocks.runs_by_own_clocks, RunLemmas.stepped_other, RunLemmas.stepped_own}
use Rattle.tsp_progress.specs.ByTable.{ByTable, ClockedRunsByTable, KeepsTable, RunsByTable, node_in}
use Rattle.tsp_progress.proofs.TableRows.{Tabled, answers_tabled, boots_tabled, keeps_mark}

-- a step by a row that keeps it
row_tabled : (header : HeaderValue) (step : Step) (x : ℕ) (row : NodeRow) (h : List Line) → LeadsAll Tabled row Tabled → ByTable header h →
    ByTable header (stepped step x (row x (in_node_step step x (past_of header step h))) h)
row_tabled header step x row h leads table n = by_case (step.node == n) refl where
  now : List Line
  now = stepped step x (row x (in_node_step step x (past_of header step h))) h

  by_case : (b : Bool) → (step.node == n) ≡ b → KeepsTable (node_in header n) (of n now)
  by_case true e = subst (λ k. KeepsTable (node_in header k) (of k now)) (eqb-true step.node n e)
      (subst (λ ls. KeepsTable (node_in header step.node) ls)
      (sym (stepped_own step.node step x (row x (in_node_step step x (past_of header step h))) h (eq-eqb step.node step.node refl)))
      (leads.run x (in_node_step step x (past_of header step h)) (keeps_mark (node_in header step.node) step x (of step.node h) (table step.node))))
  by_case false e = subst (λ ls. KeepsTable (node_in header n) ls)
      (sym (stepped_other n step x (row x (in_node_step step x (past_of header step h))) h e)) (table n)

module _ (clocks : Clocks) (header : HeaderValue) where
  steps_tabled : (h : List Line) (row : NodeRow) (step : Step) → LeadsAll Tabled row Tabled → ByTable header h →
      ByTable header (joins (Some (steps_by clocks header h row step)) h)
  unfolding steps_by
  steps_tabled h row step leads table = row_tabled header step (tick_by clocks step) row h leads table

  event_tabled : (h : List Line) (e : Event) → ByTable header h → ByTable header (joins (happening_by clocks header h e) h)
  event_tabled h (BootAt at node word) t = steps_tabled h boots_all (boot_by clocks h at node word) boots_tabled t
  event_tabled h (Turn at node) t = steps_tabled h (answers_all NodeTurn) (record { at = at; node = node; cause = Turned }) (answers_tabled NodeTurn) t
  event_tabled h (Take at k) t = arrived (arrives (networks header) (slice_get (posts h) k)) where
    arrived : (o : Option Arrival) → ByTable header (joins (reaches_by clocks header h at k o) h)
    arrived None = t
    arrived (Some a) = steps_tabled h (answers_all (GotOn a.port a.from a.taken)) (record { at = at; node = a.node; cause = Came k })
        (answers_tabled (GotOn a.port a.from a.taken)) t
  event_tabled h (Bytes at node port from octets) t =
      steps_tabled h (answers_all (GotOn port from (taken_of octets))) (record { at = at; node = node; cause = Handed })
      (answers_tabled (GotOn port from (taken_of octets))) t

nothing_tabled : (header : HeaderValue) → ByTable header []
nothing_tabled header n l older w = let bad : ⊥ = cc in absurd bad

pub clocked_runs_by_table : ClockedRunsByTable
clocked_runs_by_table clocks header [] = nothing_tabled header
clocked_runs_by_table clocks header (e ∷ before) = event_tabled clocks header (run_by clocks header before) e (clocked_runs_by_table clocks header before)

pub runs_by_table : RunsByTable
runs_by_table header events = subst (λ h. ByTable header h) (runs_by_own_clocks header events) (clocked_runs_by_table (clocks_of header) header events)
