-- How a node's rows over its ports are made.
use Rattle.std.specs.Prelude.{◌≡◌, ℕ, Bool, true, false, List, length, refl}
use Rattle.tsp_rules.specs.Values.{Alarm, Quiet, Search, Elect, Window, Probe, Round, CloseAlarm, ResolveAlarm, Message, Taken, Good, Bad, Stamp, Kind}
use Rattle.tsp_rules.specs.Values.{LoopKind, Place, Port}
use Rattle.tsp_base.specs.Words.{MessageValue}
use Rattle.tsp_rules.specs.GateRows.{alarm_on, alarms_on, all_ports, begins_round_on, boots_on, closes_on, ends_probes, forwards, heeds_loop, hears_on}
use Rattle.tsp_rules.specs.GateRows.{in_charge, is_awake_on, judge, judges, leads_clock, LoopStep, PassOver, GiveUp, Forward, loops_after, probes_on}
use Rattle.tsp_rules.specs.GateRows.{reposts_on, steers, takes_kind, takes_loop, takes_loop_step, takes_message, takes_on, turns_on, waits, stirred_ports}
use Rattle.tsp_rules.specs.NodeRows.{on_port, for_ports, reading_all, stirring}
use Rattle.tsp_rules.proofs.RowCodes.{AMessage, ANumber, APlace, ATaken, Any, Owed}
use Rattle.tsp_rules.proofs.BuiltAll.{BuiltAll, EachPort, EmptyAll, ForPorts, MoreAll, On, OtherPorts, ReadingAll, StirredPorts, StirringAll, ThenAll, WhereAll}
use Rattle.tsp_rules.proofs.BuiltAnswers.{Owes, built_rings, built_takes, built_took}
use Rattle.tsp_rules.proofs.BuiltGate.{built_loosens_master, built_reposts, built_sends_loops, built_starts}
use Rattle.tsp_rules.{proofs.BuiltSends.built_due_sends, proofs.Unchanged.comes_unchanged, specs.Answers.rings, specs.Answers.takes}

-- what is owed for a LOOP, if it is passed on
abbrev pub OwesStep : Owed → LoopStep → Type 0
OwesStep o PassOver = Unit {0}
OwesStep o GiveUp = Unit {0}
OwesStep o (Forward m) = o.of (AMessage m)

module _ {o : Owed} {has : Port → Type 0} where
  -- the due sends and alarms of all ports; a port's number stands in its LOOPs
  module _ (numbers : (q : Port) → has q → o.of (ANumber q.0)) where
    built-probes : (q : Port) → has q → BuiltAll o has 3 4 (probes_on q)
    unfolding probes_on loops_after
    built-probes q is = ReadingAll Any (λ x past. rings true false Probe x (on_port q past)) (λ x past. tt) (λ acts known.
        ThenAll (On q is (built_rings true false Probe)) (WhereAll (λ past. ends_probes acts (on_port q past) past.ports)
        (On q is (built_sends_loops q (numbers q is)))))

    built-closes : (q : Port) (own : Bool) → has q → BuiltAll o has 2 8 (closes_on q own)
    unfolding closes_on
    built-closes q own is = StirringAll q is (OtherPorts q) (built_rings own false CloseAlarm)

    built-alarm : (q : Port) (a : Alarm) → has q → BuiltAll o has 3 8 (alarm_on q a)
    unfolding alarm_on begins_round_on reading_all
    built-alarm q Probe is = MoreAll (built-probes q is) refl
    built-alarm q CloseAlarm is = MoreAll (ReadingAll Any (leads_clock q) (λ x past. tt) (λ own known. built-closes q own is)) refl
    built-alarm q Round is = MoreAll (ReadingAll Any (waits q) (λ x past. tt) (λ wait known. On q is (built_rings true wait Round))) refl
    built-alarm q a is = MoreAll (On q is (built_rings true false a)) refl

    built-turns : (q : Port) → has q → BuiltAll o has 26 64 (turns_on q)
    unfolding turns_on alarms_on
    built-turns q is =
        let alarm = λ (a : Alarm). built-alarm q a is in
        ThenAll (On q is built_due_sends) (ThenAll (alarm Quiet) (ThenAll (alarm Search)
        (ThenAll (alarm Elect) (ThenAll (alarm Window) (ThenAll (alarm Probe) (ThenAll (alarm CloseAlarm) (ThenAll (alarm ResolveAlarm) (alarm Round))))))))

    pub built_all_turns : BuiltAll o has 104 256 (reading_all all_ports (for_ports turns_on))
    unfolding reading_all
    built_all_turns = ForPorts EachPort built-turns

  -- all ports begin their lives
  pub built_all_boots : BuiltAll o has 0 8 (reading_all all_ports (for_ports boots_on))
  unfolding reading_all boots_on
  built_all_boots = ForPorts EachPort (λ q is. On q is built_starts)

  -- a LOOP, after its taking
  built_reposts_holds : (m : MessageValue) (q : Port) → o.of (AMessage m) → has q → BuiltAll o has 1 0 (reposts_on m q)
  unfolding reposts_on
  built_reposts_holds m q owed is = WhereAll (λ past. is_awake_on past q) (On q is (built_reposts m owed))

  built_step : (q : Port) (step : LoopStep) → has q → OwesStep o step → BuiltAll o has 4 2 (takes_loop_step q step)
  unfolding takes_loop_step forwards
  built_step q PassOver is owed = EmptyAll
  built_step q GiveUp is owed = MoreAll (On q is built_loosens_master) refl
  built_step q (Forward m) is owed = MoreAll (ForPorts (OtherPorts q) (λ r has_r. built_reposts_holds m r owed has_r)) refl

  pub built_heeds : (q : Port) (from : Place) (m : MessageValue) → has q → ((own : List ℕ) (ports : ℕ) → OwesStep o (judge own ports q m)) →
      BuiltAll o has 4 2 (reading_all (hears_on from q) (heeds_loop q m))
  unfolding reading_all heeds_loop judges
  built_heeds q from m is owed = ReadingAll Any (hears_on from q) (λ x past. tt) by_case where
    by_case : (b : Bool) → Any b → BuiltAll o has 4 2 (heeds_loop q m b)
    by_case true known = ReadingAll (OwesStep o) (λ x past. judge past.name (length past.ports) q m) (λ x past. owed past.name (length past.ports))
        (λ step owes. built_step q step is owes)
    by_case false known = EmptyAll

  -- all that is taken
  module _ (q : Port) (from : Place) (is : has q) (back : o.of (APlace from)) where
    built-kind : (m : MessageValue) (k : Kind) → o.of (ATaken (Good (Message m))) → Owes o (Good (Message m)) →
        (k ≡ LoopKind → (own : List ℕ) (ports : ℕ) → OwesStep o (judge own ports q m)) → BuiltAll o has 4 10 (takes_kind q from m k)
    unfolding takes_kind takes_loop takes_message
    built-kind m LoopKind taken owes loop = MoreAll (ThenAll (On q is (built_took from (Good (Message m)) taken)) (built_heeds q from m is (loop refl))) refl
    built-kind m _ taken owes loop = MoreAll (ReadingAll {A = Bool × Bool} {rows = λ f x past. stirring q (stirred_ports q m.kind past)
        (takes f.0 f.1 from (Good (Message m))) x past} Any (λ x past. (steers q x past, in_charge q x past)) (λ x past. tt) (λ f known.
        StirringAll q is (StirredPorts q m.kind) (built_takes f.0 f.1 from (Good (Message m)) (comes_unchanged from) taken back owes))) refl

    pub built_takes_on : (t : Taken) → o.of (ATaken t) → Owes o t → ((m : MessageValue) → t ≡ Good (Message m) → m.kind ≡ LoopKind →
        (own : List ℕ) (ports : ℕ) → OwesStep o (judge own ports q m)) → BuiltAll o has 4 10 (takes_on q from t)
    unfolding takes_on
    built_takes_on (Good (Message m)) taken owes loop = built-kind m m.kind taken owes (loop m refl)
    built_takes_on (Good (Stamp z)) taken owes loop = MoreAll (On q is (built_takes true true from (Good (Stamp z)) (comes_unchanged from) taken back owes))
        refl
    built_takes_on (Bad fault) taken owes loop = MoreAll (On q is (built_takes true true from (Bad fault) (comes_unchanged from) taken back owes)) refl
