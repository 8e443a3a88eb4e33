-- What each row of a port keeps, and a boot too, is so of each port in every run.
use Rattle.std.proofs.Common.{sym, subst, eqb-true, eq-eqb, ◌≡◌, ℕ, ◌==◌, Bool, true, false, List, [], ◌∷◌, Option, None, Some, slice_get, refl}
use Rattle.std.proofs.lemmas.Bool.{or_right}
use Rattle.tsp_rules.specs.Values.{Boot, Become, Quiet, Port, Starting, Placed, QUIET}
use Rattle.tsp_rules.specs.Values.{Event, BootAt, Turn, Take, Bytes}
use Rattle.tsp_base.specs.Words.{Acts, Begins, HeaderValue, Handed, Here, Leads, Line, Seen, Step, Turned, Came}
use Rattle.tsp_base.specs.Words.{arms, first_port, joined, line_of, of, puts, role, seen_as, stepped, view, ◌followed_by◌}
use Rattle.tsp_codec.specs.{Taken.taken_of}
use Rattle.tsp_rules.specs.GateRows.{GotOn, NodeGiven, NodeTurn, all_ports, answers_all, boots_all, boots_on, ports_from}
use Rattle.tsp_rules.specs.NodeRows.{NodePast, NodeRow, for_ports, in_node_step, on, reading_all}
use Rattle.tsp_promises.proofs.leads.GateSteps.{All_after, LeadsAll}
use Rattle.tsp_run.specs.{Networks.networks, Setup.past_of, declared.arrival.Arrival.Arrival}
use Rattle.tsp_run.specs.{Run.arrives, Run.joins, Run.posts}
use Rattle.tsp_run.specs.Clocked.{Clocks, boot_by, happening_by, reaches_by, run_by, steps_by, tick_by}
use Rattle.tsp_run.proofs.RunLemmas.{stepped_other, stepped_own}
use Rattle.tsp_progress.specs.AlarmsFit.{Manner}
use Rattle.tsp_progress.proofs.NodeKeeps.{At, Each, Family, Keeps, answers_keep, list_each, on_each}
use Rattle.tsp_progress.proofs.NodeWakes.{Anything, any_given}

-- what is asked of a port alone, whatever its node's manner and tick are
abbrev pub of_port : (List Seen → Type 0) → Manner → ℕ → List Seen → Type 0
of_port P m x seen = P seen

-- the same of a port whose node boots
abbrev pub starting_port : (List Seen → Type 0) → Manner → ℕ → List Seen → Type 0
starting_port P m x seen = P seen × (role seen ≡ Starting)

-- before anything it is so; a mark, a boot, and the end of the boot keep it; and so does each row
pub record Lasts (P : List Seen → Type 0) : Type 0 where
  pub none : P []
  pub mark : (step : Step) (x : ℕ) (seen : List Seen) → P seen → P (Here (line_of step x first_port Begins).did ∷ seen)
  pub boot : (step : Step) (x : ℕ) (seen : List Seen) → P seen → P (Here (line_of step x first_port (Acts Boot)).did ∷ seen)
  pub starts : Leads (At (starting_port P)) (puts (Become Starting) followed_by arms Quiet QUIET) (At (starting_port P))
  pub keeps : Keeps (of_port P) (of_port P) Anything

module _ (P : List Seen → Type 0) (lasts : Lasts P) where
  answers_last : (g : NodeGiven) → LeadsAll (Each (of_port P)) (answers_all g) (Each (of_port P))
  answers_last g = answers_keep (of_port P) (of_port P) Anything lasts.keeps g (any_given g)

  starting_family : Family (starting_port P)
  starting_family = record {
    boots = λ m step x seen h. (lasts.keeps.family.boots m step x seen h.0, refl);
    aside = λ m d x seen h. (lasts.keeps.family.aside m d x seen h.0, h.1);
  }

  boots_on_holds : (q : Port) → LeadsAll (Each (starting_port P)) (boots_on q) (Each (starting_port P))
  unfolding boots_on
  boots_on_holds q = on_each (starting_port P) starting_family q (puts (Become Starting) followed_by arms Quiet QUIET) lasts.starts

  boots_last : LeadsAll (Each (of_port P)) boots_all (Each (of_port P))
  unfolding boots_all on puts reading_all
  boots_last = record {
    run = λ x past all r.
        ((All_after {P = Each (of_port P)} {Q = Each (starting_port P)} {R = Each (starting_port P)} (on first_port (puts Boot))
        (reading_all all_ports (for_ports boots_on))
        (record {
          run = λ x past all r. subst (λ b. starting_port P (record { may = past.may; strict = past.strict }) x
              (seen_as b (line_of past.step x first_port (Acts Boot)).did ∷ view r past.lines))
              (sym (or_right (first_port.0 == r.0) true refl)) (lasts.boot past.step x (view r past.lines) (all r), refl);
        })
        (record { run = λ x past all. (list_each (starting_port P) starting_family boots_on (ports_from 0 past.ports) boots_on_holds).run x past all })).run x
        past
        all
        r).0;
  }

  -- of each port of each node
  abbrev All : List Line → Type 0
  All h = (n : ℕ) (q : Port) → P (view q (of n h))

  marked : (step : Step) (x : ℕ) (past : NodePast) → Each (of_port P) x past → Each (of_port P) x (in_node_step step x past)
  marked step x past all r = subst (λ b. P (seen_as b (line_of step x first_port Begins).did ∷ view r past.lines))
      (sym (or_right (first_port.0 == r.0) true refl)) (lasts.mark step x (view r past.lines) (all r))

  stepped_last : (past : NodePast) (step : Step) (x : ℕ) (row : NodeRow) (h : List Line) → past.lines ≡ of step.node h →
      LeadsAll (Each (of_port P)) row (Each (of_port P)) → All h → All (stepped step x (row x (in_node_step step x past)) h)
  stepped_last past step x row h own leads all = λ n q. by_case n q (step.node == n) refl where
    acts : List Placed
    acts = row x (in_node_step step x past)

    after : (q : Port) → P (view q (joined step x acts (line_of step x first_port Begins ∷ of step.node h)))
    after q = subst (λ l. P (view q (joined step x acts (line_of step x first_port Begins ∷ l)))) own
        (leads.run x (in_node_step step x past) (marked step x past (λ r. subst (λ l. P (view r l)) (sym own) (all step.node r))) q)

    by_case : (n : ℕ) (q : Port) (b : Bool) → (step.node == n) ≡ b → P (view q (of n (stepped step x acts h)))
    by_case n q true e = subst (λ k. P (view q (of k (stepped step x acts h)))) (eqb-true step.node n e)
        (subst (λ l. P (view q l)) (sym (stepped_own step.node step x acts h (eq-eqb step.node step.node refl))) (after q))
    by_case n q false e = subst (λ l. P (view q l)) (sym (stepped_other n step x acts h e)) (all n q)

  module _ (clocks : Clocks) (header : HeaderValue) where
    steps-last : (h : List Line) (row : NodeRow) (step : Step) → LeadsAll (Each (of_port P)) row (Each (of_port P)) → All h →
        All (joins (Some (steps_by clocks header h row step)) h)
    unfolding steps_by
    steps-last h row step leads all = stepped_last (past_of header step h) step (tick_by clocks step) row h refl leads all

    event-last : (h : List Line) (e : Event) → All h → All (joins (happening_by clocks header h e) h)
    event-last h (BootAt at node word) all = steps-last h boots_all (boot_by clocks h at node word) boots_last all
    event-last h (Turn at node) all = steps-last h (answers_all NodeTurn) (record { at = at; node = node; cause = Turned }) (answers_last NodeTurn) all
    event-last h (Take at k) all = arrived (arrives (networks header) (slice_get (posts h) k)) where
      arrived : (o : Option Arrival) → All (joins (reaches_by clocks header h at k o) h)
      arrived None = all
      arrived (Some a) = steps-last h (answers_all (GotOn a.port a.from a.taken)) (record { at = at; node = a.node; cause = Came k })
          (answers_last (GotOn a.port a.from a.taken)) all
    event-last h (Bytes at node port from octets) all =
        steps-last h (answers_all (GotOn port from (taken_of octets))) (record { at = at; node = node; cause = Handed })
        (answers_last (GotOn port from (taken_of octets))) all

  pub runs_last : (clocks : Clocks) (header : HeaderValue) (events : List Event) (n : ℕ) (q : Port) → P (view q (of n (run_by clocks header events)))
  runs_last clocks header [] = λ n q. lasts.none
  runs_last clocks header (e ∷ before) = event-last clocks header (run_by clocks header before) e (runs_last clocks header before)
