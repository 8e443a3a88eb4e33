-- What follows for each row over ports from how it is made: it keeps a node sound.
use Rattle.std.proofs.Common.{sym, subst, arith, append-nil, ◌<◌, ◌≤◌, ◌^◌, ℕ, ◌-◌, ◌==◌, ◌||◌, Bool, true, false, if◌then◌else◌, List, [], ◌∷◌, ◌++◌, length}
use Rattle.std.proofs.Common.{All, ◌≡◌, ◌&&◌, nat_le, nat_lt, ℤ, refl}
use Rattle.std.proofs.lemmas.List.Elements.{All-head, All-tail}
use Rattle.tsp_rules.specs.Values.{Act, Abandon, Placed, Port, Boot, Message, LoopKind, Body, Hops, HOPS}
use Rattle.tsp_rules.specs.NodeRows.{NodePast, NodeRow, on_port, spread, nothing_at_all, on, for_ports, abandons_on, stirring, in_node_step, ◌and_then◌}
use Rattle.tsp_rules.specs.NodeRows.{reading_all}
use Rattle.tsp_rules.{proofs.NodeRowLemmas.view_own, proofs.NodeRowLemmas.spread_append, specs.RoundRows.corrects}
use Rattle.tsp_rules.proofs.BuiltAll.{BuiltAll, EmptyAll, ForPorts, MoreAll, On, PortsOf, ReadingAll, StirringAll, ThenAll, WhereAll, AnyPort}
use Rattle.tsp_rules.specs.GateRows.{ports_from, all_ports, turns_on, hops_in, one_hop_less, same_name, PassOver, GiveUp, Forward, judge, NodeGiven, NodeTurn}
use Rattle.tsp_rules.specs.GateRows.{GotOn, input_all, answers_all, boots_on, boots_all}
use Rattle.tsp_rules.specs.GateRows.{LoopStep}
use Rattle.tsp_rules.proofs.BuiltPorts.{OwesStep, built_all_boots, built_all_turns, built_takes_on}
use Rattle.tsp_base.specs.Words.{Step, Acts, Line, dids, is_shared, plain, seen_as, view, joined, line_of, IsName, word, is_going, Row, grown, placed, Booted}
use Rattle.tsp_base.specs.Words.{first_port, carries_time, carries_hops, MessageValue, body_fits, word_after, puts}
use Rattle.tsp_base.proofs.Views.{plain_view}
use Rattle.tsp_promises.specs.Sound.{IsSoundAct, IsSoundDeed, AreSound, SoundPast, IsSound, IsSoundBody, IsSoundTaken}
use Rattle.tsp_promises.proofs.{leads.GateSteps.LeadsAll, leads.GateSteps.All_after, shared.PortLists.Ranged, shared.PortLists.listed_ranged}
use Rattle.tsp_promises.proofs.{leads.SoundFacts.Soundly}
use Rattle.tsp_promises.proofs.{leads.SoundBuilt.sound_built, leads.SoundBuilt.ranges_owed, leads.SoundBuilt.taken_ranges, leads.SoundSteps.acts_sound}

-- each deed of a node is sound
abbrev pub AreSoundLines : List Line → Type 0
AreSoundLines [] = Unit {0}
AreSoundLines (l ∷ before) = IsSoundDeed l.did.deed × AreSoundLines before

-- a node whose name is one, which booted with a word of 64 bits, has at most four ports, and whose deeds are sound
pub record SoundNode (past : NodePast) : Type 0 where
  pub name : IsName past.name
  pub word_fits : word (dids past.lines) < 2 ^ 64
  pub ports : length past.ports ≤ 4
  pub lines : AreSoundLines past.lines

abbrev pub SoundAll : ℕ → NodePast → Type 0
SoundAll x past = SoundNode past

-- a row keeps a node sound
abbrev pub SoundlyAll : NodeRow → Type 0
SoundlyAll row = LeadsAll SoundAll row SoundAll

view_sound : (q : Port) (lines : List Line) → AreSoundLines lines → AreSound (view q lines)
view_sound q [] s = tt
view_sound q (l ∷ before) s = by_case ((l.port.0 == q.0) || is_shared l.did.deed) (view_sound q before s.1) where
  by_case : (b : Bool) → AreSound (view q before) → AreSound (seen_as b l.did ∷ view q before)
  by_case true more = (s.0, more)
  by_case false more = more

-- so is each of its ports
pub sound_port : (q : Port) (past : NodePast) → SoundNode past → SoundPast (on_port q past)
sound_port q past s = record {
  name = s.name;
  word_fits = subst (λ d. word d < 2 ^ 64) (sym (plain_view q past.lines)) s.word_fits;
  acts = view_sound q past.lines s.lines;
}

joined_sound : (step : Step) (x : ℕ) (q : Port) (acts : List Act) (lines : List Line) → All IsSoundAct acts → AreSoundLines lines →
    AreSoundLines (joined step x (placed q acts) lines)
joined_sound step x q [] lines a s = s
joined_sound step x q (a ∷ rest) lines k s = joined_sound step x q rest (line_of step x q (Acts a) ∷ lines) (All-tail IsSoundAct a rest k)
    (All-head IsSoundAct a rest k, s)

sound_on : (q : Port) (row : Row) → Soundly row → SoundlyAll (on q row)
unfolding on
sound_on q row k = record {
  run = λ x past s.
      let acts : List Act = row x (on_port q past) in
      let after : SoundPast (grown x (on_port q past) acts) = k.run x (on_port q past) (sound_port q past s) in
      let lines = joined past.step x (placed q acts) past.lines in
      record {
        name = s.name;
        word_fits = subst (λ d. word d < 2 ^ 64) (plain_view q lines) (subst (λ v. word (plain v) < 2 ^ 64) (sym (view_own q past.step x acts past.lines))
            after.word_fits);
        ports = s.ports;
        lines = joined_sound past.step x q acts past.lines (acts_sound past.step x acts (view q past.lines) after.acts) s.lines;
      };
}

sound_nothing : SoundlyAll nothing_at_all
unfolding nothing_at_all
sound_nothing = record { run = λ x past s. s }

sound_list : (r : Port → NodeRow) (n : ℕ) (ports : List Port) → Ranged n ports → ((q : Port) → q.0 < n → SoundlyAll (r q)) → SoundlyAll (for_ports r ports)
unfolding for_ports
sound_list r n [] ranged k = sound_nothing
sound_list r n (q ∷ rest) ranged k = All_after (r q) (for_ports r rest) (k q ranged.0) (sound_list r n rest ranged.1 k)

sound_abandons : (q : Port) → SoundlyAll (abandons_on q)
unfolding abandons_on
sound_abandons q = record { run = λ x past s. by_case x past s (is_going (view q past.lines)) } where
  by_case : (x : ℕ) (past : NodePast) → SoundNode past → (b : Bool) → SoundNode (spread x past (if b then record { port = q; act = Abandon } ∷ [] else []))
  by_case x past s true = record { name = s.name; word_fits = s.word_fits; ports = s.ports; lines = (tt, s.lines) }
  by_case x past s false = s

sound_stirring : (q : Port) (ports : NodePast → List Port) (row : Row) → PortsOf ports → Soundly row → SoundlyAll (λ x past. stirring q (ports past) row x past)
unfolding stirring on
sound_stirring q ports row l k = record { run = λ x past s. by_case x past ((sound_on q row k).run x past s) (corrects (row x (on_port q past))) } where
  by_case : (x : ℕ) (past : NodePast) → SoundNode (spread x past (placed q (row x (on_port q past)))) → (b : Bool) →
      SoundNode (spread x past (placed q (row x (on_port q past)) ++ (if b then for_ports abandons_on (ports past) x
      (spread x past (placed q (row x (on_port q past)))) else [])))
  by_case x past first true =
      let acts : List Placed = placed q (row x (on_port q past)) in
      subst (λ z. SoundNode z) (sym (spread_append x past acts (for_ports abandons_on (ports past) x (spread x past acts))))
      ((sound_list abandons_on (length past.ports) (ports past) (listed_ranged past l) (λ r has. sound_abandons r)).run x (spread x past acts) first)
  by_case x past first false = subst (λ acts. SoundNode (spread x past acts)) (sym (append-nil (placed q (row x (on_port q past))))) first

sound_where : (test : NodePast → Bool) (row : NodeRow) → SoundlyAll row → SoundlyAll (λ x past. if test past then row x past else [])
sound_where test row k = record {
  run = λ x past s. elim (test past) as (λ b. SoundNode (spread x past (if b then row x past else []))) [
    | true ↦
        k.run x past s
    | false ↦ s
  ];
}

-- a row over ports keeps a node sound
pub sound_all_built : {has : Port → Type 0} {k c : ℕ} {row : NodeRow} → ((q : Port) → q.0 < 4 → has q) → BuiltAll ranges_owed has k c row → SoundlyAll row
sound_all_built few EmptyAll = sound_nothing
sound_all_built few (On {row = row} q is d) = sound_on q row (sound_built d)
sound_all_built few (ThenAll d e) = All_after _ _ (sound_all_built few d) (sound_all_built few e)
sound_all_built few (ReadingAll known fact holds d) = record { run = λ x past s. (sound_all_built few (d (fact x past) (holds x past))).run x past s }
sound_all_built few (WhereAll {row = row} test d) = sound_where test row (sound_all_built few d)
sound_all_built few (ForPorts {ports = ports} {row = row} l d) = record {
  run = λ x past s. (sound_list row (length past.ports) (ports past) (listed_ranged past l)
      (λ q lt. sound_all_built few (d q (few q (let most = s.ports in omega (arith, lt, most)))))).run x past s;
}
sound_all_built few (StirringAll {ports = ports} {row = row} q is l d) = sound_stirring q ports row l (sound_built d)
sound_all_built few (MoreAll d le) = sound_all_built few d

-- what a node does over its ports keeps its lines sound, where what it is given is

-- a LOOP that is passed on
hops_sound : (b : Body) → IsSoundBody b → hops_in b < 2 ^ 8
hops_sound (Hops h) s = s
hops_sound _ s = omega arith

less_sound : (m : MessageValue) → m.kind ≡ LoopKind → IsSound (Message m) → IsSound (Message (one_hop_less m))
unfolding body_fits carries_time carries_hops
less_sound m kind s = (
  s.0,
  subst (λ k. body_fits k (Hops (hops_in m.body - 1)) ≡ true) (sym kind) refl,
  s.2,
  (let few = hops_sound m.body s.3 in omega (arith, few)),
)

owes_if : (b : Bool) (s t : LoopStep) → OwesStep ranges_owed s → OwesStep ranges_owed t → OwesStep ranges_owed (if b then s else t)
owes_if true s t p q = p
owes_if false s t p q = q

judge_sound : (own : List ℕ) (ports : ℕ) (port : Port) (m : MessageValue) → m.kind ≡ LoopKind → IsSound (Message m) →
    OwesStep ranges_owed (judge own ports port m)
judge_sound own ports port m kind s =
    owes_if (nat_le 2 ports) _ _ (owes_if (same_name m.name own) _ _ (owes_if (nat_lt m.number port.0) GiveUp PassOver tt tt)
    (owes_if (nat_le 1 (hops_in m.body) && nat_le (hops_in m.body) HOPS) (Forward (one_hop_less m)) PassOver (less_sound m kind s) tt)) tt

-- what a step is given is sound
abbrev pub IsSoundInput : NodeGiven → Type 0
IsSoundInput NodeTurn = Unit {0}
IsSoundInput (GotOn q from t) = IsSoundTaken t

sound_input : (g : NodeGiven) → IsSoundInput g → SoundlyAll (input_all g)
unfolding input_all
sound_input NodeTurn h = sound_all_built {has = AnyPort} {k = 0} {c = 0} (λ q few. tt) EmptyAll
sound_input (GotOn q from t) h = sound_all_built {has = AnyPort} (λ r few. tt) (built_takes_on q from tt tt t h (taken_ranges t h)
    (λ m is kind own ports. judge_sound own ports q m kind (subst IsSoundTaken is h)))

-- what a node answers keeps it sound
pub sound_answers_all : (g : NodeGiven) → IsSoundInput g → SoundlyAll (answers_all g)
unfolding answers_all
sound_answers_all g h = All_after (reading_all all_ports (for_ports turns_on)) (input_all g) (sound_all_built {has = λ q. q.0 < 4} (λ q few. few)
    (built_all_turns (λ q few. omega (arith, few)))) (sound_input g h)

-- so does a boot with a word of 64 bits
pub sound_boots_all : (x : ℕ) (past : NodePast) (w : ℕ) (wall : ℤ) → past.step.cause ≡ Booted w wall → w < 2 ^ 64 → SoundNode past →
    SoundNode (spread x past (boots_all x past))
unfolding boots_all on puts reading_all ◌and_then◌
sound_boots_all x past w wall is few s =
    let boot : List Placed = record { port = first_port; act = Boot } ∷ [] in
    let mid : NodePast = spread x past boot in
    let booted : SoundNode mid = record {
      name = s.name;
      word_fits = subst (λ c. word_after (Acts Boot) c (word (dids past.lines)) < 2 ^ 64) (sym is) few;
      ports = s.ports;
      lines = (tt, s.lines);
    } in
    subst (λ z. SoundNode z) (sym (spread_append x past boot (for_ports boots_on (ports_from 0 past.ports) x mid)))
    ((sound_all_built {has = AnyPort} (λ q few. tt) built_all_boots).run x mid booted)

-- and so does a step's beginning
pub sound_begins : (step : Step) (x : ℕ) (past : NodePast) → SoundNode past → SoundNode (in_node_step step x past)
sound_begins step x past s = record { name = s.name; word_fits = s.word_fits; ports = s.ports; lines = (tt, s.lines) }
