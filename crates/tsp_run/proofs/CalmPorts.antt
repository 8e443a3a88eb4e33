-- What follows for each row over ports from how it is made: it puts few acts, and calm ones, on ports that the node has.
use Rattle.std.proofs.Common.{ap, subst, arith, length-append, ◌≡◌, ◌≤◌, ◌<◌, ℕ, suc, ◌+◌, ◌*◌, ◌==◌, not, Bool, true, false, if◌then◌else◌, List, [], ◌∷◌}
use Rattle.std.proofs.Common.{◌++◌, length, refl, sym, ◌∙◌, append-nil, append_assoc}
use Rattle.std.proofs.lemmas.Bool.{and_parts, leb-true}
use Rattle.tsp_rules.proofs.FewActs.{filter_few, is_calm_act, is_calm, Calm}
use Rattle.tsp_rules.specs.Values.{Act, Abandon, Placed, Port, Took, Message, Stamp, Taken, Good, Bad, Kind, LoopKind, Place, ALL}
use Rattle.tsp_rules.specs.{RoundRows.corrects, Answers.handles, Answers.takes, Strangers.is_stranger}
use Rattle.tsp_rules.specs.GateRows.{ports_from, other_ports, all_ports, turns_on, LoopStep, PassOver, GiveUp, Forward, judge, hears_on, heeds_loop, takes_loop}
use Rattle.tsp_rules.specs.GateRows.{stirred_ports, takes_message, takes_kind, takes_on, steers, in_charge, NodeTurn, GotOn, input_all, answers_all, boots_on}
use Rattle.tsp_rules.proofs.{CalmBuilt.calm_moving, CalmBuilt.answers_owed, CalmSteps.TakesFirst, CalmSteps.taking, CalmSteps.calm_handles}
use Rattle.tsp_rules.specs.NodeRows.{PortSetup, NodePast, NodeRow, port_setup, on_port, spread, nothing_at_all, on, ◌and_then◌, for_ports, abandons_on}
use Rattle.tsp_rules.specs.NodeRows.{stirring, reading_all}
use Rattle.tsp_rules.proofs.BuiltAll.{BuiltAll, EachPort, EmptyAll, ForPorts, MoreAll, On, OtherPorts, PortsOf, ReadingAll, StirredPorts, StirringAll, ThenAll}
use Rattle.tsp_rules.proofs.BuiltAll.{WhereAll}
use Rattle.tsp_rules.proofs.BuiltPorts.{OwesStep, built_all_boots, built_all_turns, built_heeds}
use Rattle.tsp_base.specs.Words.{view, is_going, Row, placed, sets_date, MessageValue, puts}
use Rattle.tsp_promises.proofs.shared.PortLists.{Ranged, listed_ranged}

-- calm acts, each on one of so many ports
abbrev pub AreCalm : Bool → ℕ → List Placed → Type 0
AreCalm strange n [] = Unit {0}
AreCalm strange n (p ∷ rest) = (p.port.0 < n) × (is_calm_act strange true p.act ≡ true) × AreCalm strange n rest

pub AreCalm_append : (strange : Bool) (n : ℕ) (ps qs : List Placed) → AreCalm strange n ps → AreCalm strange n qs → AreCalm strange n (ps ++ qs)
AreCalm_append strange n [] qs p q = q
AreCalm_append strange n (a ∷ ps) qs p q = (p.0, p.1, AreCalm_append strange n ps qs p.2 q)

pub AreCalm_placed : (strange : Bool) (n : ℕ) (q : Port) (acts : List Act) → q.0 < n → is_calm strange true acts ≡ true → AreCalm strange n (placed q acts)
AreCalm_placed strange n q [] has e = tt
AreCalm_placed strange n q (a ∷ rest) has e =
    let both = and_parts (is_calm_act strange true a) (is_calm strange true rest) e in (has, both.0, AreCalm_placed strange n q rest has both.1)

pub length_placed : (q : Port) (acts : List Act) → length (placed q acts) ≡ length acts
length_placed q [] = refl
length_placed q (a ∷ rest) = ap (λ k. suc k) (length_placed q rest)

-- a past of a node with so many ports, none of which has more than so many peers
pub record Small (n peers : ℕ) (past : NodePast) : Type 0 where
  pub count : length past.ports ≡ n
  pub few : (q : Port) → length (port_setup q past).peers ≤ peers

pub small_spread : (n peers x : ℕ) (past : NodePast) (acts : List Placed) → Small n peers past → Small n peers (spread x past acts)
small_spread n peers x past acts s = record { count = s.count; few = s.few }

-- calm acts, and at most so many
pub record CalmActs (strange : Bool) (n most : ℕ) (acts : List Placed) : Type 0 where
  pub few : length acts ≤ most
  pub calm : AreCalm strange n acts

-- a row puts such acts after every such past
pub record CalmAll (strange : Bool) (n peers most : ℕ) (row : NodeRow) : Type 0 where
  pub run : (x : ℕ) (past : NodePast) → Small n peers past → CalmActs strange n most (row x past)

pub calm_acts_more : {strange : Bool} {n j k : ℕ} {acts : List Placed} → j ≤ k → CalmActs strange n j acts → CalmActs strange n k acts
calm_acts_more le p = record { few = (let few = p.few in omega (arith, few, le)); calm = p.calm }

pub calm_all_more : {strange : Bool} {n peers j k : ℕ} (row : NodeRow) → j ≤ k → CalmAll strange n peers j row → CalmAll strange n peers k row
calm_all_more row le p = record { run = λ x past s. calm_acts_more le (p.run x past s) }

no_acts : (strange : Bool) (n most : ℕ) → CalmActs strange n most []
no_acts strange n most = record { few = omega arith; calm = tt }

pub placed_calm : {strange : Bool} (n most : ℕ) (q : Port) (acts : List Act) → q.0 < n → is_calm strange true acts ≡ true → length acts ≤ most →
    CalmActs strange n most (placed q acts)
placed_calm {strange} n most q acts has calm few = record {
  few = (let e = length_placed q acts in omega (arith, e, few));
  calm = AreCalm_placed strange n q acts has calm;
}

pub append_calm : {strange : Bool} {n j k : ℕ} (ps qs : List Placed) → CalmActs strange n j ps → CalmActs strange n k qs → CalmActs strange n (j + k) (ps ++ qs)
append_calm {strange} {n} ps qs p q = record {
  few = (let e = length-append ps qs in let a = p.few in let b = q.few in omega (arith, e, a, b));
  calm = AreCalm_append strange n ps qs p.calm q.calm;
}

mul_le : (j a b : ℕ) → a ≤ b → j * a ≤ j * b
mul_le j a b le = grind (arith, le)

-- of a port's row, by its count for each peer
pub on_few : (k c a peers len : ℕ) → len ≤ k * a + c → a ≤ peers → len ≤ k * peers + c
on_few k c a peers len h le = let m = mul_le k a peers le in omega (arith, h, m)

module _ {strange : Bool} {n peers : ℕ} where
  calm_on : {k c : ℕ} (q : Port) (row : Row) → q.0 < n → Calm strange true k c row → CalmAll strange n peers (k * peers + c) (on q row)
  unfolding on
  calm_on {k} {c} q row has p = record {
    run = λ x past s.
        placed_calm n (k * peers + c) q (row x (on_port q past)) has (p.calm x (on_port q past)) (on_few k c (length (port_setup q past).peers) peers
        (length (row x (on_port q past))) (p.few x (on_port q past)) (s.few q));
  }

  calm_and : {j k : ℕ} (r t : NodeRow) → CalmAll strange n peers j r → CalmAll strange n peers k t → CalmAll strange n peers (j + k) (r and_then t)
  unfolding ◌and_then◌
  calm_and r t p q = record {
    run = λ x past s.
        append_calm (r x past) (t x (spread x past (r x past))) (p.run x past s) (q.run x (spread x past (r x past))
        (small_spread n peers x past (r x past) s));
  }

  calm_list : {k : ℕ} (r : Port → NodeRow) (ports : List Port) → Ranged n ports → ((q : Port) → q.0 < n → CalmAll strange n peers k (r q)) →
      CalmAll strange n peers (k * length ports) (for_ports r ports)
  unfolding for_ports nothing_at_all
  calm_list r [] ranged p = record { run = λ x past s. no_acts strange n _ }
  calm_list {k} r (q ∷ rest) ranged p = calm_all_more (r q and_then for_ports r rest) (let e : k * length (q ∷ rest) ≡ k + k * length rest = grind arith in
      omega (arith, e)) (calm_and (r q) (for_ports r rest) (p q ranged.0) (calm_list r rest ranged.1 p))

  -- over at most four ports
  pub calm_ports : {k : ℕ} (r : Port → NodeRow) (ports : List Port) → Ranged n ports → length ports ≤ 4 →
      ((q : Port) → q.0 < n → CalmAll strange n peers k (r q)) → CalmAll strange n peers (k * 4) (for_ports r ports)
  calm_ports {k} r ports ranged few p = calm_all_more (for_ports r ports) (mul_le k (length ports) 4 few) (calm_list r ports ranged p)

  calm_abandons : (q : Port) → q.0 < n → CalmAll strange n peers 1 (abandons_on q)
  unfolding abandons_on
  calm_abandons q has = record { run = λ x past s. by_case (is_going (view q past.lines)) } where
    by_case : (b : Bool) → CalmActs strange n 1 (if b then record { port = q; act = Abandon } ∷ [] else [])
    by_case true = record { few = omega arith; calm = (has, refl, tt) }
    by_case false = no_acts strange n 1

  -- the rounds that a row's correction ends
  pub calm_after : (b : Bool) (ports : List Port) (x : ℕ) (past : NodePast) → Ranged n ports → length ports ≤ 4 → Small n peers past →
      CalmActs strange n 4 (if b then for_ports abandons_on ports x past else [])
  calm_after true ports x past ranged few s = calm_acts_more (omega arith) ((calm_ports {k = 1} abandons_on ports ranged few calm_abandons).run x past s)
  calm_after false ports x past ranged few s = no_acts strange n 4

length_ports_from : (k : ℕ) (setups : List PortSetup) → length (ports_from k setups) ≡ length setups
length_ports_from k [] = refl
length_ports_from k (s ∷ rest) = ap (λ m. suc m) (length_ports_from (k + 1) rest)

each_few : {n peers : ℕ} (past : NodePast) → n ≤ 4 → Small n peers past → length (ports_from 0 past.ports) ≤ 4
each_few past few s = let e = length_ports_from 0 past.ports in let c = s.count in omega (arith, e, c, few)

others_few : {n peers : ℕ} (q : Port) (past : NodePast) → n ≤ 4 → Small n peers past → length (other_ports q past) ≤ 4
others_few q past few s = let all = each_few past few s in let le = filter_few (λ r. not (r.0 == q.0)) (ports_from 0 past.ports) in omega (arith, all, le)

pub few_ports : {n peers : ℕ} {ports : NodePast → List Port} (past : NodePast) → n ≤ 4 → Small n peers past → PortsOf ports → length (ports past) ≤ 4
few_ports past few s EachPort = each_few past few s
few_ports past few s (OtherPorts q) = others_few q past few s
few_ports past few s (StirredPorts q kind) = elim (sets_date kind) as (λ b. length (if b then ports_from 0 past.ports else other_ports q past) ≤ 4) [
  | true ↦
      each_few past few s
  | false ↦ others_few q past few s
]

pub ranged_ports : {n peers : ℕ} {ports : NodePast → List Port} (past : NodePast) → Small n peers past → PortsOf ports → Ranged n (ports past)
ranged_ports {ports = ports} past s l = subst (λ k. Ranged k (ports past)) s.count (listed_ranged past l)

sum_le : (j b k c n : ℕ) → (j * n + b) + (k * n + c) ≤ (j + k) * n + (b + c)
sum_le j b k c n = let e : (j * n + b) + (k * n + c) ≡ (j + k) * n + (b + c) = grind arith in omega (arith, e)

four_le : (k c n : ℕ) → (k * n + c) * 4 ≤ (k * 4) * n + c * 4
four_le k c n = let e : (k * n + c) * 4 ≡ (k * 4) * n + c * 4 = grind arith in omega (arith, e)

stir_le : (k c n : ℕ) → (k * n + c) + 4 ≤ k * n + (c + 4)
stir_le k c n = omega arith

more_le : (j b k c n : ℕ) → j ≤ k → b ≤ c → j * n + b ≤ k * n + c
more_le j b k c n le more = let scaled : j * n ≤ k * n = grind (arith, le) in omega (arith, scaled, more)

module _ {strange : Bool} {n peers : ℕ} (four : n ≤ 4) where
  -- a row and what it stirs
  calm_stirring : {k c : ℕ} {ports : NodePast → List Port} (q : Port) (row : Row) → q.0 < n → PortsOf ports → Calm strange true k c row →
      CalmAll strange n peers ((k * peers + c) + 4) (λ x past. stirring q (ports past) row x past)
  unfolding stirring on
  calm_stirring {k} {c} {ports} q row has l p = record {
    run = λ x past s.
        let first = placed q (row x (on_port q past)) in
        append_calm first _ ((calm_on {k = k} {c = c} q row has p).run x past s)
        (calm_after (corrects (row x (on_port q past))) (ports past) x (spread x past first) (ranged_ports past s l) (few_ports past four s l)
        (small_spread n peers x past first s));
  }

  calm_where : {most : ℕ} (test : NodePast → Bool) (row : NodeRow) → CalmAll strange n peers most row →
      CalmAll strange n peers most (λ x past. if test past then row x past else [])
  calm_where {most} test row p = record {
    run = λ x past s. elim (test past) as (λ b. CalmActs strange n most (if b then row x past else [])) [
      | true ↦
          p.run x past s
      | false ↦ no_acts strange n most
    ];
  }

  -- a row over ports puts few acts, which are calm
  pub calm_all_built : {k c : ℕ} {row : NodeRow} → BuiltAll (answers_owed strange) (λ q. q.0 < n) k c row → CalmAll strange n peers (k * peers + c) row
  unfolding nothing_at_all
  calm_all_built EmptyAll = record { run = λ x past s. no_acts strange n _ }
  calm_all_built (On {row = row} q has d) = calm_on q row has (calm_moving d)
  calm_all_built (ThenAll {j} {b} {k} {c} d e) = calm_all_more _ (sum_le j b k c peers) (calm_and _ _ (calm_all_built d) (calm_all_built e))
  calm_all_built (ReadingAll known fact holds d) = record { run = λ x past s. (calm_all_built (d (fact x past) (holds x past))).run x past s }
  calm_all_built (WhereAll {row = row} test d) = calm_where test row (calm_all_built d)
  calm_all_built (ForPorts {k} {c} {row = row} l d) = record {
    run = λ x past s. calm_acts_more (four_le k c peers) ((calm_ports row _ (ranged_ports past s l) (few_ports past four s l)
        (λ q has. calm_all_built (d q has))).run x past s);
  }
  calm_all_built (StirringAll {k = k} {c = c} {row = row} q has l d) = calm_all_more _ (stir_le k c peers) (calm_stirring q row has l (calm_moving d))
  calm_all_built (MoreAll {j} {b} {k} {c} d le) = let both = and_parts _ _ le in calm_all_more _
      (more_le j b k c peers (leb-true _ _ both.0) (leb-true _ _ both.1)) (calm_all_built d)

-- what a node's steps put: few acts, each on a port that the node has, of which only that of a taking takes

-- how many acts the due sends and alarms of four ports put at the most, where each port has so many peers
abbrev pub turns_most : ℕ → ℕ
turns_most peers = (2 * peers + (3 * peers + 8) * length ALL) * 4

-- how many a step puts at the most
abbrev pub step_most : ℕ → ℕ
step_most peers = turns_most peers + (5 * peers + 10)

step_owes : (strange : Bool) (step : LoopStep) → OwesStep (answers_owed strange) step
step_owes strange PassOver = tt
step_owes strange GiveUp = tt
step_owes strange (Forward m) = tt

module _ {strange : Bool} {n peers : ℕ} (four : n ≤ 4) where
  -- the due sends and alarms of all ports
  pub calm_turns : CalmAll strange n peers (turns_most peers) (reading_all all_ports (for_ports turns_on))
  calm_turns = calm_all_more _ (omega arith) (calm_all_built four (built_all_turns (λ q has. tt)))

  -- what is done with a LOOP after its taking
  pub calm_heeds : (q : Port) (from : Place) (m : MessageValue) → q.0 < n → CalmAll strange n peers (4 * peers + 2)
      (reading_all (hears_on from q) (heeds_loop q m))
  calm_heeds q from m has = calm_all_built four (built_heeds q from m has (λ own ports. step_owes strange (judge own ports q m)))

  -- what a boot puts on the ports
  pub calm_boots : CalmAll strange n peers 8 (reading_all all_ports (for_ports boots_on))
  calm_boots = calm_all_more _ (omega arith) (calm_all_built four built_all_boots)

-- the acts of a step that is given a datagram on a port: calm ones, the taking, and calm ones
pub record TakesOnce (from : Place) (t : Taken) (q : Port) (n most : ℕ) (acts : List Placed) : Type 0 where
  pub before : List Placed
  pub after : List Placed
  pub is : acts ≡ before ++ record { port = q; act = Took from t } ∷ after
  pub calm_before : AreCalm (is_stranger from) n before
  pub calm_after : AreCalm (is_stranger from) n after
  pub few : length acts ≤ most

module _ {n : ℕ} (peers : ℕ) (four : n ≤ 4) (q : Port) (has : q.0 < n) (from : Place) where
  -- the taking first
  abbrev First : Taken → List Placed → Type 0
  First t acts = TakesOnce from t q n (5 * peers + 10) acts

  first_of : (t : Taken) (acts after : List Placed) → acts ≡ record { port = q; act = Took from t } ∷ after →
      CalmActs (is_stranger from) n (5 * peers + 9) after → First t acts
  first_of t acts after is c = record {
    before = [];
    after = after;
    is = is;
    calm_before = tt;
    calm_after = c.calm;
    few = (let f = c.few in let e : length acts ≡ length (record { port = q; act = Took from t } ∷ after) = ap (λ l. length l) is in omega (arith, f, e));
  }

  -- acts of a port that take first, and what they stir
  stirred_first : (t : Taken) (x : ℕ) (past : NodePast) (acts : List Act) (ports : List Port) → Small n peers past → Ranged n ports → length ports ≤ 4 →
      TakesFirst true from t (2 * length (port_setup q past).peers + 5) acts →
      First t (placed q acts ++ (if corrects acts then for_ports abandons_on ports x (spread x past (placed q acts)) else []))
  stirred_first t x past acts ports s ranged few f =
      let more = if corrects acts then for_ports abandons_on ports x (spread x past (placed q acts)) else [] in
      first_of t (placed q acts ++ more) (placed q f.after ++ more) (subst (λ z. placed q acts ++ more ≡ placed q z ++ more) f.is refl)
      (calm_acts_more (omega arith) (append_calm (placed q f.after) more
      (placed_calm n (2 * peers + 5) q f.after has f.calm (on_few 2 5 (length (port_setup q past).peers) peers (length f.after) f.few (s.few q)))
      (calm_after (corrects acts) ports x (spread x past (placed q acts)) ranged few (small_spread n peers x past (placed q acts) s))))

  message_first : (m : MessageValue) (x : ℕ) (past : NodePast) → Small n peers past → First (Good (Message m)) (takes_message q from m x past)
  unfolding takes_message stirring on takes
  message_first m x past s =
      let t = Good (Message m) in
      let steer = steers q x past in
      let charge = in_charge q x past in
      stirred_first t x past (takes steer charge from t x (on_port q past)) (stirred_ports q m.kind past) s (ranged_ports past s (StirredPorts q m.kind))
      (few_ports past four s (StirredPorts q m.kind))
      ((taking {moving = true} from t 2 5 (handles steer charge from t) (calm_handles steer charge from t)).run x (on_port q past))

  loop_first : (m : MessageValue) (x : ℕ) (past : NodePast) → Small n peers past → First (Good (Message m)) (takes_loop q from m x past)
  unfolding takes_loop ◌and_then◌ on puts
  loop_first m x past s =
      let took : List Placed = record { port = q; act = Took from (Good (Message m)) } ∷ [] in
      let later : NodePast = spread x past took in
      first_of (Good (Message m)) _ (reading_all (hears_on from q) (heeds_loop q m) x later) refl
      (calm_acts_more (omega arith) ((calm_heeds {strange = is_stranger from} four q from m has).run x later (small_spread n peers x past took s)))

  kind_first : (m : MessageValue) (k : Kind) (x : ℕ) (past : NodePast) → Small n peers past → First (Good (Message m)) (takes_kind q from m k x past)
  unfolding takes_kind
  kind_first m LoopKind x past s = loop_first m x past s
  kind_first m _ x past s = message_first m x past s

  plain_first : (t : Taken) (x : ℕ) (past : NodePast) → Small n peers past → First t (on q (takes true true from t) x past)
  unfolding on takes
  plain_first t x past s =
      let acts = takes true true from t x (on_port q past) in
      let f = (taking {moving = true} from t 2 5 (handles true true from t) (calm_handles true true from t)).run x (on_port q past) in
      first_of t (placed q acts) (placed q f.after) (subst (λ z. placed q acts ≡ placed q z) f.is refl)
      (calm_acts_more (omega arith) (placed_calm n (2 * peers + 5) q f.after has f.calm (on_few 2 5 (length (port_setup q past).peers) peers (length f.after)
      f.few (s.few q))))

  takes_first : (t : Taken) (x : ℕ) (past : NodePast) → Small n peers past → First t (takes_on q from t x past)
  unfolding takes_on
  takes_first (Good (Message m)) x past s = kind_first m m.kind x past s
  takes_first (Good (Stamp z)) x past s = plain_first (Good (Stamp z)) x past s
  takes_first (Bad fault) x past s = plain_first (Bad fault) x past s

  -- a step that is given a datagram on a port takes it once
  pub takes_once_on : (t : Taken) (x : ℕ) (past : NodePast) → Small n peers past → TakesOnce from t q n (step_most peers) (answers_all (GotOn q from t) x past)
  unfolding answers_all ◌and_then◌ input_all
  takes_once_on t x past s =
      let turns = reading_all all_ports (for_ports turns_on) x past in
      let calm = (calm_turns {strange = is_stranger from} four).run x past s in
      let rest = takes_on q from t x (spread x past turns) in
      let f = takes_first t x (spread x past turns) (small_spread n peers x past turns s) in
      record {
        before = turns ++ f.before;
        after = f.after;
        is = subst (λ z. turns ++ rest ≡ turns ++ z) f.is refl ∙ sym (append_assoc turns f.before (record { port = q; act = Took from t } ∷ f.after));
        calm_before = AreCalm_append (is_stranger from) n turns f.before calm.calm f.calm_before;
        calm_after = f.calm_after;
        few = (let e = length-append turns rest in let a = calm.few in let b = f.few in omega (arith, e, a, b));
      }

-- a step that is given nothing is calm
pub calm_turn_all : {strange : Bool} (n peers : ℕ) → n ≤ 4 → CalmAll strange n peers (turns_most peers) (answers_all NodeTurn)
unfolding answers_all input_all nothing_at_all ◌and_then◌
calm_turn_all {strange} n peers four = record {
  run = λ x past s. subst (λ acts. CalmActs strange n (turns_most peers) acts)
      (sym (append-nil (reading_all all_ports (for_ports turns_on) x past))) ((calm_turns four).run x past s);
}
