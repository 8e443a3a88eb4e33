-- What the events of a schedule make happen.
use Rattle.std.proofs.Common.{◌∙◌, sym, inl, inr, ◌≡◌, ◌⊎◌, ◌≤◌, ◌<◌, ℕ, List, length, false, None, Some, slice_get, refl}
use Rattle.tsp_rules.specs.Values.{Placed, Taken, Take, Place, Port}
use Rattle.tsp_rules.specs.{GateRows.NodeTurn, GateRows.GotOn, GateRows.answers_all, GateRows.boots_all, NodeRows.NodeRow}
use Rattle.tsp_base.specs.Words.{HeaderValue, IsHeader, Line, Step}
use Rattle.tsp_run.specs.{Networks.networks, Networks.ports_on, Networks.room, Run.Happening, Run.goes_to, Run.happening, Run.steps, Run.posts}
use Rattle.tsp_run.{specs.Clocked.clocks_of, proofs.CalmPorts.AreCalm, proofs.CalmPorts.TakesOnce, proofs.CalmPorts.step_most, proofs.OwnClocks.happening_same}
use Rattle.tsp_run.{proofs.HeaderLines.set_up_of}
use Rattle.tsp_run.proofs.HappensBy
pub use Rattle.tsp_run.proofs.HappensBy.{Arrives, Boots, ports_in, taken_in, taking_row, taking_step}

-- the acts of a step by a row
abbrev pub acts_by : HeaderValue → List Line → NodeRow → Step → List Placed
acts_by header = HappensBy.acts_by (clocks_of header) header

-- a step by a row, and its acts
abbrev pub stepping : HeaderValue → List Line → NodeRow → Step → Happening
stepping header = HappensBy.stepping (clocks_of header) header

pub steps_are : (header : HeaderValue) (history : List Line) (row : NodeRow) (step : Step) → steps header history row step ≡ stepping header history row step
unfolding steps
steps_are header history row step = refl

module _ {header : HeaderValue} (is : IsHeader header) (history : List Line) (step : Step) where
  pub boot_acts : Boots (ports_in header step) (acts_by header history boots_all step)
  boot_acts = HappensBy.boot_acts (clocks_of header) (set_up_of header is) history step

  pub turn_acts : AreCalm false (ports_in header step) (acts_by header history (answers_all NodeTurn) step)
  turn_acts = HappensBy.turn_acts (clocks_of header) (set_up_of header is) history step

  -- how many acts a step has at the most
  abbrev pub most : ℕ
  most = step_most (room (ports_on step.node (networks header)))

  pub boot_few : length (acts_by header history boots_all step) ≤ most
  boot_few = HappensBy.boot_few (clocks_of header) (set_up_of header is) history step

  pub turn_few : length (acts_by header history (answers_all NodeTurn) step) ≤ most
  turn_few = HappensBy.turn_few (clocks_of header) (set_up_of header is) history step

  -- a datagram is taken once
  pub got_acts : (q : Port) (from : Place) (t : Taken) → q.0 < ports_in header step →
      TakesOnce from t q (ports_in header step) most (acts_by header history (answers_all (GotOn q from t)) step)
  got_acts = HappensBy.got_acts (clocks_of header) (set_up_of header is) history step

pub taking : (header : HeaderValue) (history : List Line) (at k : ℕ) (a : Arrives header history at k) →
    happening header history (Take at k) ≡ Some (stepping header history (taking_row a.post a.to) (taking_step at k a.to))
taking header history at k a = sym (happening_same header history (Take at k)) ∙ HappensBy.taking (clocks_of header) header history at k a

-- a take hands something over, or nothing happens, since the datagram goes nowhere
pub takes_or : (header : HeaderValue) (history : List Line) (at k : ℕ) →
    Arrives header history at k ⊎ ((goes_to (networks header) (slice_get (posts history) k) ≡ None) × (happening header history (Take at k) ≡ None))
takes_or header history at k = elim (HappensBy.takes_or (clocks_of header) header history at k) [
  | inl a ↦ inl a
  | inr nothing ↦ inr (nothing.0, sym (happening_same header history (Take at k)) ∙ nothing.1)
]
