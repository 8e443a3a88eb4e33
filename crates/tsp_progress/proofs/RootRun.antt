-- In a run each port of each node ends a role that lasts only as it may.
use Rattle.std.proofs.Common.{sym, subst, eqb-true, eq-eqb, ◌≡◌, ℕ, ◌+◌, ◌==◌, Bool, true, false, List, [], ◌∷◌, Option, None, Some, slice_get, refl}
use Rattle.std.proofs.lemmas.Bool.{or_right}
use Rattle.tsp_rules.specs.Values.{Boot, Become, Good, Message, Quiet, Port, Starting, Placed, QUIET, Role, Event, BootAt, Turn, Take, Bytes}
use Rattle.tsp_base.specs.Words.{Acts, Begins, HeaderValue, Handed, Here, Leads, Line, Seen, Step, Turned, Came}
use Rattle.tsp_base.specs.Words.{arms, first_port, joined, line_of, of, puts, role, seen_as, stepped, view, ◌followed_by◌}
use Rattle.tsp_base.proofs.LeadsLemmas.{Leads_puts, Leads_then}
use Rattle.tsp_codec.specs.{Taken.taken_of}
use Rattle.tsp_rules.specs.GateRows.{GotOn, NodeGiven, NodeTurn, all_ports, answers_all, boots_all, boots_on, ports_from}
use Rattle.tsp_rules.specs.NodeRows.{NodePast, NodeRow, for_ports, in_node_step, on, reading_all}
use Rattle.tsp_rules.specs.Guards.{is_starting_role}
use Rattle.tsp_promises.proofs.leads.GateSteps.{All_after, LeadsAll}
use Rattle.tsp_run.specs.{Networks.networks, Setup.past_of, declared.arrival.Arrival.Arrival}
use Rattle.tsp_run.specs.{Run.arrives, Run.joins, Run.posts}
use Rattle.tsp_run.specs.Clocked.{Clocks, boot_by, happening_by, reaches_by, run_by, steps_by, tick_by}
use Rattle.tsp_run.proofs.RunLemmas.{stepped_other, stepped_own}
use Rattle.tsp_progress.specs.AlarmsFit.{Manner}
use Rattle.tsp_progress.proofs.NodeKeeps.{Each, Family, Keeps, answers_keep, list_each, node_manner, on_each}
use Rattle.tsp_progress.proofs.NodeWakes.{Anything, any_given}
use Rattle.tsp_progress.proofs.RootArms.{arm_quiet, becomes}
use Rattle.tsp_progress.proofs.RootLeads.{In, RootEnd, Rooted, none_armed}
use Rattle.tsp_progress.proofs.RootRows.{rings_rooted}
use Rattle.tsp_progress.proofs.{RootAnswers.sends_rooted}
use Rattle.tsp_progress.proofs.RootTakes.{abandons_rooted, gives_up_rooted, loops_rooted, reposts_rooted, takes_rooted, took_rooted}

abbrev rooted : Manner → ℕ → List Seen → Type 0
rooted m x seen = Rooted seen

-- a boot
booted : (m : Manner) (step : Step) (x : ℕ) (seen : List Seen) → Rooted seen → Rooted (Here (record { step = step; tick = x; deed = Acts Boot }) ∷ seen)
booted m step x seen h = record {
  owed = (tt, h.owed);
  calls = (tt, h.calls);
  quiet = λ a. none_armed a;
  search = λ a. none_armed a;
  elect = λ a. none_armed a;
  window = λ a. none_armed a;
  resolve = λ a. none_armed a;
  round = λ a. none_armed a;
  sends = λ p s. none_armed s;
  asks = λ p s. none_armed s;
}

-- the mark of a step
marked : (step : Step) (x : ℕ) (seen : List Seen) → Rooted seen → Rooted (Here (record { step = step; tick = x; deed = Begins }) ∷ seen)
marked step x seen h = record {
  owed = (tt, h.owed);
  calls = (tt, h.calls);
  quiet = h.quiet;
  search = h.search;
  elect = h.elect;
  window = h.window;
  resolve = h.resolve;
  round = h.round;
  sends = h.sends;
  asks = h.asks;
}

rooted_family : Family rooted
rooted_family = record {
  boots = booted;
  aside = λ m d x seen h. record {
    owed = h.owed;
    calls = h.calls;
    quiet = h.quiet;
    search = h.search;
    elect = h.elect;
    window = h.window;
    resolve = h.resolve;
    round = h.round;
    sends = h.sends;
    asks = h.asks;
  };
}

rooted_keeps : Keeps rooted rooted Anything
rooted_keeps = record {
  family = rooted_family;
  weaken = λ x past h. h;
  sends = sends_rooted;
  rings = rings_rooted;
  takes = λ steer charge from t ok. takes_rooted steer charge from t;
  took = λ from m is ok. took_rooted from (Good (Message m));
  gives_up = gives_up_rooted;
  abandons = abandons_rooted;
  loops = loops_rooted;
  reposts = reposts_rooted;
}

answers_rooted : (g : NodeGiven) → LeadsAll (Each rooted) (answers_all g) (Each rooted)
answers_rooted g = answers_keep rooted rooted Anything rooted_keeps g (any_given g)

-- a boot, and its quiet time

abbrev starting : Manner → ℕ → List Seen → Type 0
starting m x seen = Rooted seen × (is_starting_role (role seen) ≡ true)

starting_family : Family starting
starting_family = record { boots = λ m step x seen h. (booted m step x seen h.0, refl); aside = λ m d x seen h. (rooted_family.aside m d x seen h.0, h.1) }

starting_end : (seen : List Seen) → is_starting_role (role seen) ≡ true → RootEnd (role seen) Starting seen
starting_end seen e = by_role (role seen) e where
  by_role : (r : Role) → is_starting_role r ≡ true → RootEnd r Starting seen
  by_role Starting e = tt
  by_role _ e = none_armed e

starts : Leads (In is_starting_role) (puts (Become Starting) followed_by arms Quiet QUIET) (In is_starting_role)
unfolding arms
starts = Leads_then {Q = In is_starting_role} (puts (Become Starting)) (arms Quiet QUIET)
    (Leads_puts (Become Starting) (λ x past h. becomes is_starting_role Starting refl x past h.0 (starting_end past.seen h.1) tt))
    (record { run = λ x past h. arm_quiet (x + QUIET) x past h })

boots_on_holds : (q : Port) → LeadsAll (Each starting) (boots_on q) (Each starting)
unfolding boots_on
boots_on_holds q = on_each starting starting_family q (puts (Become Starting) followed_by arms Quiet QUIET) starts

boots_rooted : LeadsAll (Each rooted) boots_all (Each rooted)
unfolding boots_all on puts reading_all
boots_rooted = record {
  run = λ x past all r.
      ((All_after {P = Each rooted} {Q = Each starting} {R = Each starting} (on first_port (puts Boot)) (reading_all all_ports (for_ports boots_on))
      (record {
        run = λ x past all r. subst (λ b. starting (node_manner past) x (seen_as b (line_of past.step x first_port (Acts Boot)).did ∷ view r past.lines))
            (sym (or_right (first_port.0 == r.0) true refl)) (booted (node_manner past) past.step x (view r past.lines) (all r), refl);
      })
      (record { run = λ x past all. (list_each starting starting_family boots_on (ports_from 0 past.ports) boots_on_holds).run x past all })).run x past all
      r).0;
}

begins_rooted : (step : Step) (x : ℕ) (past : NodePast) → Each rooted x past → Each rooted x (in_node_step step x past)
begins_rooted step x past all r = subst (λ b. Rooted (seen_as b (line_of step x first_port Begins).did ∷ view r past.lines))
    (sym (or_right (first_port.0 == r.0) true refl)) (marked step x (view r past.lines) (all r))

-- of each port of each node
abbrev pub AllRooted : List Line → Type 0
AllRooted h = (n : ℕ) (q : Port) → Rooted (view q (of n h))

stepped_rooted : (past : NodePast) (step : Step) (x : ℕ) (row : NodeRow) (h : List Line) → past.lines ≡ of step.node h →
    LeadsAll (Each rooted) row (Each rooted) → AllRooted h → AllRooted (stepped step x (row x (in_node_step step x past)) h)
stepped_rooted past step x row h own leads all = λ n q. by_case n q (step.node == n) refl where
  acts : List Placed
  acts = row x (in_node_step step x past)

  after : (q : Port) → Rooted (view q (joined step x acts (line_of step x first_port Begins ∷ of step.node h)))
  after q = subst (λ l. Rooted (view q (joined step x acts (line_of step x first_port Begins ∷ l)))) own
      (leads.run x (in_node_step step x past) (begins_rooted step x past (λ r. subst (λ l. Rooted (view r l)) (sym own) (all step.node r))) q)

  by_case : (n : ℕ) (q : Port) (b : Bool) → (step.node == n) ≡ b → Rooted (view q (of n (stepped step x acts h)))
  by_case n q true e = subst (λ k. Rooted (view q (of k (stepped step x acts h)))) (eqb-true step.node n e)
      (subst (λ l. Rooted (view q l)) (sym (stepped_own step.node step x acts h (eq-eqb step.node step.node refl))) (after q))
  by_case n q false e = subst (λ l. Rooted (view q l)) (sym (stepped_other n step x acts h e)) (all n q)

module _ (clocks : Clocks) (header : HeaderValue) where
  steps_rooted : (h : List Line) (row : NodeRow) (step : Step) → LeadsAll (Each rooted) row (Each rooted) → AllRooted h →
      AllRooted (joins (Some (steps_by clocks header h row step)) h)
  unfolding steps_by
  steps_rooted h row step leads all = stepped_rooted (past_of header step h) step (tick_by clocks step) row h refl leads all

  event_rooted : (h : List Line) (e : Event) → AllRooted h → AllRooted (joins (happening_by clocks header h e) h)
  event_rooted h (BootAt at node word) all = steps_rooted h boots_all (boot_by clocks h at node word) boots_rooted all
  event_rooted h (Turn at node) all = steps_rooted h (answers_all NodeTurn) (record { at = at; node = node; cause = Turned }) (answers_rooted NodeTurn) all
  event_rooted h (Take at k) all = arrived (arrives (networks header) (slice_get (posts h) k)) where
    arrived : (o : Option Arrival) → AllRooted (joins (reaches_by clocks header h at k o) h)
    arrived None = all
    arrived (Some a) = steps_rooted h (answers_all (GotOn a.port a.from a.taken)) (record { at = at; node = a.node; cause = Came k })
        (answers_rooted (GotOn a.port a.from a.taken)) all
  event_rooted h (Bytes at node port from octets) all =
      steps_rooted h (answers_all (GotOn port from (taken_of octets))) (record { at = at; node = node; cause = Handed })
      (answers_rooted (GotOn port from (taken_of octets))) all

pub runs_rooted : (clocks : Clocks) (header : HeaderValue) (events : List Event) → AllRooted (run_by clocks header events)
runs_rooted clocks header [] = λ n q. record {
  owed = tt;
  calls = tt;
  quiet = λ a. none_armed a;
  search = λ a. none_armed a;
  elect = λ a. none_armed a;
  window = λ a. none_armed a;
  resolve = λ a. none_armed a;
  round = λ a. none_armed a;
  sends = λ p s. none_armed s;
  asks = λ p s. none_armed s;
}
runs_rooted clocks header (e ∷ before) = event_rooted clocks header (run_by clocks header before) e (runs_rooted clocks header before)
