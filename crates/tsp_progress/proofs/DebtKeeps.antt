-- What acts of one sort owe is owed in every run, if the rows that put such acts pay it.
use Rattle.std.proofs.Common.{sym, subst, eqb-true, eq-eqb, ◌≡◌, ℕ, ◌==◌, Bool, true, false, List, [], ◌∷◌, Option, None, Some, slice_get, refl}
use Rattle.std.proofs.lemmas.Bool.{or_right}
use Rattle.tsp_rules.specs.Values.{Act, Boot, Took, Become, Abandon, Alarm, Quiet, Good, Message, Port, Starting, Placed, QUIET, Place, Taken}
use Rattle.tsp_rules.specs.Values.{Event, BootAt, Turn, Take, Bytes}
use Rattle.tsp_base.specs.Words.{Acts, Begins, Deed, Did, HeaderValue, Handed, Leads, Line, Past, Row, Seen, Step, Turned, Came}
use Rattle.tsp_base.specs.Words.{arms, first_port, joined, line_of, of, puts, seen_as, stepped, view, ◌followed_by◌}
use Rattle.tsp_codec.specs.{Taken.taken_of}
use Rattle.tsp_rules.specs.GateRows.{GotOn, NodeGiven, NodeTurn, all_ports, answers_all, boots_all, boots_on}
use Rattle.tsp_rules.specs.{Answers.rings, Answers.takes, SendRows.due_sends}
use Rattle.tsp_rules.specs.NodeRows.{NodePast, NodeRow, for_ports, in_node_step, on, reading_all}
use Rattle.tsp_rules.proofs.{BuiltAnswers.all_taken_sorts, BuiltAnswers.built_takes, BuiltGate.built_loosens_master, BuiltGate.built_reposts}
use Rattle.tsp_rules.proofs.{BuiltGate.built_sends_loops, BuiltGate.built_starts, EmitsBuilt.emits_built, EmitsBuilt.nothing_taken, Unchanged.comes_unchanged}
use Rattle.tsp_rules.proofs.Emits.{Sort, Alarming, Booting, Changing, Posting, Rounding, Taking, Emits, Emits_puts, Keeps_by, is_in, is_part, sort_of}
use Rattle.tsp_rules.proofs.Emits.{sort_of_kind}
use Rattle.tsp_promises.proofs.leads.GateSteps.{All_after, All_reading, LeadsAll}
use Rattle.tsp_run.specs.{Networks.networks, Setup.past_of, declared.arrival.Arrival.Arrival}
use Rattle.tsp_run.specs.{Run.arrives, Run.joins, Run.posts}
use Rattle.tsp_run.specs.Clocked.{Clocks, boot_by, happening_by, reaches_by, run_by, steps_by, tick_by}
use Rattle.tsp_run.proofs.RunLemmas.{stepped_other, stepped_own}
use Rattle.tsp_progress.specs.{AlarmsFit.Manner, GivenUp.Owes}
use Rattle.tsp_progress.proofs.NodeKeeps.{Each, Family, Keeps, answers_keep, list_each, on_each}
use Rattle.tsp_progress.proofs.NodeWakes.{Anything, any_given}

-- only acts of this sort owe anything
pub record OwedBy (sort : Sort) (debt : Deed → Did → List Seen → Type 0) : Type 0 where
  pub mark : (d : Did) (before : List Seen) → debt Begins d before
  pub free : (sorts : List Sort) → is_in sort sorts ≡ false → (a : Act) → is_in (sort_of a) sorts ≡ true → (d : Did) (before : List Seen) →
      debt (Acts a) d before

-- rows keep it
abbrev pub Paid : (Deed → Did → List Seen → Type 0) → ℕ → Past → Type 0
Paid debt x past = Owes debt past.seen

module _ {sort : Sort} {debt : Deed → Did → List Seen → Type 0} (owed : OwedBy sort debt) where
  pub pays : (sorts : List Sort) (row : Row) → is_in sort sorts ≡ false → Emits sorts row → Leads (Paid debt) row (Paid debt)
  unfolding puts
  pays sorts row none e = record {
    run = λ x past h. Keeps_by {T = ℕ} sorts (λ p n. Paid debt n p) row
        (λ a i y p n k. (owed.free sorts none a i (record { step = p.step; tick = y; deed = Acts a }) p.seen, k)) e x past x h;
  }

-- the sorts of what is taken, of a boot and of a round that is given up
abbrev pub calm_sorts : List Sort
calm_sorts = Booting ∷ Rounding ∷ all_taken_sorts

-- a row that takes something, where such acts owe nothing
pub takes_calmly : {sort : Sort} {debt : Deed → Did → List Seen → Type 0} (owed : OwedBy sort debt) → is_in sort calm_sorts ≡ false →
    (steer charge : Bool) (from : Place) (t : Taken) → Leads (Paid debt) (takes steer charge from t) (Paid debt)
takes_calmly owed apart steer charge from t = pays owed calm_sorts (takes steer charge from t) apart
    (emits_built refl (built_takes steer charge from t (comes_unchanged from) tt tt (nothing_taken t)))

-- the sorts of a boot, of a taking, of a round that is given up, of what is passed on and of a master that gives up
abbrev pub quiet_sorts : List Sort
quiet_sorts = Booting ∷ Rounding ∷ Taking ∷ Posting ∷ Changing ∷ Alarming ∷ []

-- so does a node, and a run
module _ {sort : Sort} {debt : Deed → Did → List Seen → Type 0} (owed : OwedBy sort debt) (apart : is_in sort quiet_sorts ≡ false)
    (sends : Leads (Paid debt) due_sends (Paid debt)) (rung : (own wait : Bool) (a : Alarm) → Leads (Paid debt) (rings own wait a) (Paid debt))
    (took : (steer charge : Bool) (from : Place) (t : Taken) → Leads (Paid debt) (takes steer charge from t) (Paid debt)) where
  abbrev paid : Manner → ℕ → List Seen → Type 0
  paid m x seen = Owes debt seen

  calm_pays : {row : Row} → Emits quiet_sorts row → Leads (Paid debt) row (Paid debt)
  calm_pays {row} e = pays owed quiet_sorts row apart e

  family : Family paid
  family = record {
    boots = λ m step x seen h. (owed.free quiet_sorts apart Boot refl (record { step = step; tick = x; deed = Acts Boot }) seen, h);
    aside = λ m d x seen h. h;
  }

  keeps : Keeps paid paid Anything
  keeps = record {
    family = family;
    weaken = λ x past h. h;
    sends = sends;
    rings = rung;
    takes = λ steer charge from t ok. took steer charge from t;
    took = λ from m is ok. calm_pays (Emits_puts (Took from (Good (Message m))) refl);
    gives_up = calm_pays (emits_built refl built_loosens_master);
    abandons = calm_pays (Emits_puts Abandon refl);
    loops = λ q. calm_pays (emits_built refl (built_sends_loops q tt));
    reposts = λ m is. calm_pays (emits_built (let part : is_part (sort_of_kind m.kind ∷ []) quiet_sorts ≡ true = rw is refl in part) (built_reposts m tt));
  }

  answers_paid : (g : NodeGiven) → LeadsAll (Each paid) (answers_all g) (Each paid)
  answers_paid g = answers_keep paid paid Anything keeps g (any_given g)

  boots_paid : LeadsAll (Each paid) boots_all (Each paid)
  unfolding boots_all boots_on
  boots_paid = All_after (on first_port (puts Boot)) (reading_all all_ports (for_ports (λ q. on q (puts (Become Starting) followed_by arms Quiet QUIET))))
      (on_each paid family first_port (puts Boot) (calm_pays (Emits_puts Boot refl)))
      (All_reading all_ports (for_ports (λ q. on q (puts (Become Starting) followed_by arms Quiet QUIET))) (λ ports.
      list_each paid family (λ q. on q (puts (Become Starting) followed_by arms Quiet QUIET)) ports (λ q.
      on_each paid family q (puts (Become Starting) followed_by arms Quiet QUIET) (calm_pays (emits_built refl built_starts)))))

  -- of each port of each node
  abbrev All : List Line → Type 0
  All h = (n : ℕ) (q : Port) → Owes debt (view q (of n h))

  marked : (step : Step) (x : ℕ) (past : NodePast) → Each paid x past → Each paid x (in_node_step step x past)
  marked step x past all r = subst (λ b. Owes debt (seen_as b (line_of step x first_port Begins).did ∷ view r past.lines))
      (sym (or_right (first_port.0 == r.0) true refl)) (owed.mark (line_of step x first_port Begins).did (view r past.lines), all r)

  stepped_paid : (past : NodePast) (step : Step) (x : ℕ) (row : NodeRow) (h : List Line) → past.lines ≡ of step.node h →
      LeadsAll (Each paid) row (Each paid) → All h → All (stepped step x (row x (in_node_step step x past)) h)
  stepped_paid past step x row h own leads all = λ n q. by_case n q (step.node == n) refl where
    acts : List Placed
    acts = row x (in_node_step step x past)

    after : (q : Port) → Owes debt (view q (joined step x acts (line_of step x first_port Begins ∷ of step.node h)))
    after q = subst (λ l. Owes debt (view q (joined step x acts (line_of step x first_port Begins ∷ l)))) own
        (leads.run x (in_node_step step x past) (marked step x past (λ r. subst (λ l. Owes debt (view r l)) (sym own) (all step.node r))) q)

    by_case : (n : ℕ) (q : Port) (b : Bool) → (step.node == n) ≡ b → Owes debt (view q (of n (stepped step x acts h)))
    by_case n q true e = subst (λ k. Owes debt (view q (of k (stepped step x acts h)))) (eqb-true step.node n e)
        (subst (λ l. Owes debt (view q l)) (sym (stepped_own step.node step x acts h (eq-eqb step.node step.node refl))) (after q))
    by_case n q false e = subst (λ l. Owes debt (view q l)) (sym (stepped_other n step x acts h e)) (all n q)

  module _ (clocks : Clocks) (header : HeaderValue) where
    steps-paid : (h : List Line) (row : NodeRow) (step : Step) → LeadsAll (Each paid) row (Each paid) → All h →
        All (joins (Some (steps_by clocks header h row step)) h)
    unfolding steps_by
    steps-paid h row step leads all = stepped_paid (past_of header step h) step (tick_by clocks step) row h refl leads all

    event-paid : (h : List Line) (e : Event) → All h → All (joins (happening_by clocks header h e) h)
    event-paid h (BootAt at node word) all = steps-paid h boots_all (boot_by clocks h at node word) boots_paid all
    event-paid h (Turn at node) all = steps-paid h (answers_all NodeTurn) (record { at = at; node = node; cause = Turned }) (answers_paid NodeTurn) all
    event-paid h (Take at k) all = arrived (arrives (networks header) (slice_get (posts h) k)) where
      arrived : (o : Option Arrival) → All (joins (reaches_by clocks header h at k o) h)
      arrived None = all
      arrived (Some a) = steps-paid h (answers_all (GotOn a.port a.from a.taken)) (record { at = at; node = a.node; cause = Came k })
          (answers_paid (GotOn a.port a.from a.taken)) all
    event-paid h (Bytes at node port from octets) all =
        steps-paid h (answers_all (GotOn port from (taken_of octets))) (record { at = at; node = node; cause = Handed })
        (answers_paid (GotOn port from (taken_of octets))) all

  pub runs_pay : (clocks : Clocks) (header : HeaderValue) (events : List Event) (n : ℕ) (q : Port) → Owes debt (view q (of n (run_by clocks header events)))
  runs_pay clocks header [] = λ n q. tt
  runs_pay clocks header (e ∷ before) = event-paid clocks header (run_by clocks header before) e (runs_pay clocks header before)
