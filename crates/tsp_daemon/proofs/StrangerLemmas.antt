-- A step of a node over its ports posts to a stranger only where it is given a stranger's datagram.
use Rattle.std.proofs.Common.{subst, sym, ℕ, ◌+◌, ◌*◌, Bool, true, false, if◌then◌else◌, List, [], ◌∷◌, ◌++◌, length, All, refl}
use Rattle.std.proofs.lemmas.List.Elements.{All-nil, All-cons, All-append, All-map, All-weaker}
use Rattle.tsp_rules.specs.Values.{Act, Took, Post, Abandon, Placed, Message, Stamp, Taken, Good, Bad, Kind, LoopKind, Place, Peer, Stranger, Port}
use Rattle.tsp_base.specs.Words.{Past, view, MessageValue, is_going, Row, placed, puts}
use Rattle.tsp_rules.proofs.CalmSteps.{calm_handles, known_calm, taking, TakesFirst}
use Rattle.tsp_rules.specs.{Answers.takes, Answers.handles, RoundRows.corrects, Strangers.is_stranger, Strangers.IsKnown}
use Rattle.tsp_rules.specs.GateRows.{LoopStep, PassOver, NodeGiven, NodeTurn, GotOn, all_ports, answers_all, input_all, judge}
use Rattle.tsp_rules.specs.GateRows.{in_charge, steers, stirred_ports, takes_kind, takes_loop, takes_message, takes_on, turns_on}
use Rattle.tsp_rules.specs.NodeRows.{NodePast, NodeRow, abandons_on, for_ports, nothing_at_all, on, on_port, ◌and_then◌, reading_all, spread, stirring}
use Rattle.tsp_rules.proofs.BuiltAll.{AnyPort, BuiltAll, EmptyAll, ForPorts, MoreAll, On, ReadingAll, StirringAll, ThenAll, WhereAll}
use Rattle.tsp_rules.proofs.{BuiltPorts.OwesStep, BuiltPorts.built_all_turns, BuiltPorts.built_heeds, CalmBuilt.calm_moving, FewActs.Calm}
use Rattle.tsp_rules.proofs.CalmBuilt.{answers_owed}
use Rattle.tsp_daemon.specs.Posts.{AreKnown}

-- whether what a node is given comes from a stranger
abbrev pub is_strange_on : NodeGiven → Bool
is_strange_on NodeTurn = false
is_strange_on (GotOn q from t) = is_stranger from

-- what goes to no stranger may go where one is answered or not
known_act : (b : Bool) (a : Act) → IsKnown false a → IsKnown b a
known_act true (Post Stranger d) k = refl
known_act false (Post Stranger d) k = k
known_act b (Post (Peer p) d) k = tt
known_act b _ k = tt

pub known_any : (b : Bool) (acts : List Placed) → AreKnown false acts → AreKnown b acts
known_any b acts k = All-weaker (λ (p : Placed). IsKnown false p.act) (λ (p : Placed). IsKnown b p.act) (λ p. known_act b p.act) acts k

-- a row over ports that posts to a stranger only where this holds
record Known (strange : Bool) (row : NodeRow) : Type 0 where
  run : (x : ℕ) (past : NodePast) → AreKnown strange (row x past)

module _ (strange : Bool) where
  known_placed : (q : Port) (acts : List Act) → All (IsKnown strange) acts → AreKnown strange (placed q acts)
  known_placed q acts k = All-map (λ (p : Placed). IsKnown strange p.act) _ acts k

  known_append : (xs ys : List Placed) → AreKnown strange xs → AreKnown strange ys → AreKnown strange (xs ++ ys)
  known_append xs ys p q = All-append (λ (p : Placed). IsKnown strange p.act) xs ys p q

  known_none : AreKnown strange []
  known_none = All-nil (λ (p : Placed). IsKnown strange p.act)

  known_nothing : Known strange nothing_at_all
  unfolding nothing_at_all
  known_nothing = record { run = λ x past. known_none }

  known_then : (r s : NodeRow) → Known strange r → Known strange s → Known strange (r and_then s)
  unfolding ◌and_then◌
  known_then r s p q = record { run = λ x past. known_append (r x past) (s x (spread x past (r x past))) (p.run x past) (q.run x (spread x past (r x past))) }

  known_ports : (r : Port → NodeRow) → ((q : Port) → Known strange (r q)) → (ports : List Port) → Known strange (for_ports r ports)
  unfolding for_ports
  known_ports r k [] = known_nothing
  known_ports r k (q ∷ rest) = known_then (r q) (for_ports r rest) (k q) (known_ports r k rest)

  known_abandons : (q : Port) → Known strange (abandons_on q)
  unfolding abandons_on
  known_abandons q = record {
    run = λ x past. elim (is_going (view q past.lines)) as (λ b. AreKnown strange (if b then record { port = q; act = Abandon } ∷ [] else []))
        [ true ↦ All-cons (λ (p : Placed). IsKnown strange p.act) (record { port = q; act = Abandon }) [] tt known_none | false ↦ known_none ];
  }

  -- a port's row
  known_on : (q : Port) (row : Row) → ((x : ℕ) (past : Past) → All (IsKnown strange) (row x past)) → Known strange (on q row)
  unfolding on
  known_on q row k = record { run = λ x past. known_placed q (row x (on_port q past)) (k x (on_port q past)) }

  known_stirring : (q : Port) (ports : List Port) (row : Row) → ((x : ℕ) (past : Past) → All (IsKnown strange) (row x past)) →
      Known strange (stirring q ports row)
  unfolding stirring
  known_stirring q ports row k = record {
    run = λ x past.
        let acts = on q row x past in
        let after = for_ports abandons_on ports x (spread x past acts) in
        let more = elim (corrects (row x (on_port q past))) as (λ b. AreKnown strange (if b then after else [])) [
          | true ↦
              (known_ports abandons_on known_abandons ports).run x (spread x past acts)
          | false ↦ known_none
        ] in
        known_append acts _ ((known_on q row k).run x past) more;
  }

  calm_known : (k c : ℕ) (row : Row) → Calm strange true k c row → (x : ℕ) (past : Past) → All (IsKnown strange) (row x past)
  calm_known k c row p x past = known_calm strange true (row x past) (p.calm x past)

  known_where : (test : NodePast → Bool) (row : NodeRow) → Known strange row → Known strange (λ x past. if test past then row x past else [])
  known_where test row k = record {
    run = λ x past. elim (test past) as (λ b. AreKnown strange (if b then row x past else [])) [
      | true ↦ k.run x past
      | false ↦
          known_none
    ];
  }

  -- a row over ports posts to known ones, since the rows of its ports do
  known_built : {has : Port → Type 0} {k c : ℕ} {row : NodeRow} → ((q : Port) → has q) → BuiltAll (answers_owed strange) has k c row → Known strange row
  known_built all EmptyAll = known_nothing
  known_built all (On {row = row} q is d) = known_on q row (calm_known _ _ row (calm_moving d))
  known_built all (ThenAll d e) = known_then _ _ (known_built all d) (known_built all e)
  known_built all (ReadingAll known fact holds d) = record { run = λ x past. (known_built all (d (fact x past) (holds x past))).run x past }
  known_built all (WhereAll {row = row} test d) = known_where test row (known_built all d)
  known_built all (ForPorts {ports = ports} {row = row} l d) = record {
    run = λ x past. (known_ports row (λ q. known_built all (d q (all q))) (ports past)).run
        x past;
  }
  known_built all (StirringAll {ports = ports} {row = row} q is l d) = record {
    run = λ x past.
        (known_stirring q (ports past) row (calm_known _ _ row (calm_moving d))).run x past;
  }
  known_built all (MoreAll d le) = known_built all d

  known_step : (step : LoopStep) → OwesStep (answers_owed strange) step
  known_step PassOver = tt
  known_step _ = tt

  known_took : (from : Place) (t : Taken) (x : ℕ) (past : Past) → All (IsKnown strange) (puts (Took from t) x past)
  unfolding puts
  known_took from t x past = All-cons (IsKnown strange) (Took from t) [] tt (All-nil (IsKnown strange))

  known_loop : (q : Port) (from : Place) (m : MessageValue) → Known strange (takes_loop q from m)
  unfolding takes_loop
  known_loop q from m = known_then (on q (puts (Took from (Good (Message m))))) _ (known_on q _ (known_took from (Good (Message m))))
      (known_built {has = AnyPort} (λ r. tt) (built_heeds q from m tt (λ own ports. known_step (judge own ports q m))))

-- what is taken
known_takes : (steer charge : Bool) (from : Place) (t : Taken) (x : ℕ) (past : Past) → All (IsKnown (is_stranger from)) (takes steer charge from t x past)
unfolding takes
known_takes steer charge from t x past = by_first ((taking from t 2 5 (handles steer charge from t) (calm_handles steer charge from t)).run x past) where
  by_first : TakesFirst true from t (2 * length past.peers + 5) (takes steer charge from t x past) →
      All (IsKnown (is_stranger from)) (takes steer charge from t x past)
  by_first f = subst (λ acts. All (IsKnown (is_stranger from)) acts) (sym f.is) (All-cons (IsKnown (is_stranger from)) (Took from t) f.after tt
      (known_calm (is_stranger from) true f.after f.calm))

known_message : (q : Port) (from : Place) (m : MessageValue) → Known (is_stranger from) (takes_message q from m)
unfolding takes_message
known_message q from m = record {
  run = λ x past. (known_stirring (is_stranger from) q (stirred_ports q m.kind past)
      (takes (steers q x past) (in_charge q x past) from (Good (Message m))) (known_takes _ _ from (Good (Message m)))).run x past;
}

known_kind : (q : Port) (from : Place) (m : MessageValue) (k : Kind) → Known (is_stranger from) (takes_kind q from m k)
unfolding takes_kind
known_kind q from m LoopKind = known_loop (is_stranger from) q from m
known_kind q from m _ = known_message q from m

known_taken : (q : Port) (from : Place) (t : Taken) → Known (is_stranger from) (takes_on q from t)
unfolding takes_on
known_taken q from (Good (Message m)) = known_kind q from m m.kind
known_taken q from (Good (Stamp s)) = known_on (is_stranger from) q _ (known_takes true true from (Good (Stamp s)))
known_taken q from (Bad fault) = known_on (is_stranger from) q _ (known_takes true true from (Bad fault))

known_input : (g : NodeGiven) → Known (is_strange_on g) (input_all g)
unfolding input_all
known_input NodeTurn = known_nothing false
known_input (GotOn q from t) = known_taken q from t

-- a step answers a stranger, or posts to none
pub known_steps : (g : NodeGiven) (x : ℕ) (past : NodePast) → AreKnown (is_strange_on g) (answers_all g x past)
unfolding answers_all
known_steps g = (known_then (is_strange_on g) (reading_all all_ports (for_ports turns_on)) (input_all g)
    (known_built (is_strange_on g) {has = AnyPort} (λ q. tt) (built_all_turns (λ q is. tt))) (known_input g)).run
