-- What a node that is up puts in a step fits.
use Rattle.std.proofs.Common.{sym, subst, arith, true≢false, ◌≡◌, ℕ, ◌+◌, ◌≤◌, ◌<◌, pos, ◌+ℤ◌, Bool, true, false, List, [], ◌∷◌, ◌++◌, length, refl}
use Rattle.tsp_rules.specs.Values.{Act, Boot, Took, Placed, Taken, Place, Port}
use Rattle.tsp_rules.specs.GateRows.{NodeTurn, GotOn, all_ports, answers_all, boots_all, boots_on}
use Rattle.tsp_rules.specs.NodeRows.{NodePast, on, ◌and_then◌, reading_all, for_ports, spread}
use Rattle.tsp_rules.{proofs.FewActs.is_calm_act, specs.Strangers.is_stranger}
use Rattle.tsp_base.specs.Words.{first_port, line_of, lives, puts, up, up_after, Booted, Step, Acts, Did, Line}
use Rattle.tsp_promises.specs.{Fits.Alive, Fits.TookFits, Setting.Setting}
use Rattle.tsp_run.specs.Networks.{room}
use Rattle.tsp_run.proofs.CalmPorts.{AreCalm, Small, small_spread, calm_boots, calm_turn_all, step_most, takes_once_on}
use Rattle.tsp_run.proofs.{NetworkLemmas.peers_few, FitsLines.TakenOk, FitsLines.AllTaken, FitsLines.AllAlive, FitsLines.ActsOn, FitsLines.did_in}

-- a node that is up stays so
stays_up : (a : Act) (is_up : Bool) → is_up ≡ true → up_after (Acts a) is_up ≡ true
stays_up Boot is_up u = refl
stays_up a is_up u = u

module _ (setting : Setting) (step : Step) (x : ℕ) (history : List Line) (strange : Bool) where
  alive_one : (p : Placed) (a : Act) (before : List Did) → p.act ≡ a → is_calm_act strange true a ≡ true → up before ≡ true →
      Alive setting (Acts p.act) (did_in step x (Acts p.act)) before
  alive_one p Boot before is e u = absurd (true≢false (sym e))
  alive_one p a before is e u = rw is u

  taken_one : (port : Port) (a : Act) → is_calm_act strange true a ≡ true → TakenOk setting step x history port a
  taken_one port (Took from t) e = absurd (true≢false (sym e))
  taken_one port _ e = tt

  -- calm acts of a node that is up, before others
  alive_calm : (n : ℕ) (acts rest : List Placed) (before : List Did) → AreCalm strange n acts → up before ≡ true →
      ((ds : List Did) → up ds ≡ true → AllAlive setting step x ds rest) → AllAlive setting step x before (acts ++ rest)
  alive_calm n [] rest before c u k = k before u
  alive_calm n (p ∷ acts) rest before c u k =
      (alive_one p p.act before refl c.1 u, alive_calm n acts rest (did_in step x (Acts p.act) ∷ before) c.2 (stays_up p.act (up before) u) k)

  taken_calm : (n : ℕ) (acts rest : List Placed) → AreCalm strange n acts → AllTaken setting step x history rest →
      AllTaken setting step x history (acts ++ rest)
  taken_calm n [] rest c k = k
  taken_calm n (p ∷ acts) rest c k = (taken_one p.port p.act c.1, taken_calm n acts rest c.2 k)

on_calm : (strange : Bool) (n : ℕ) (acts rest : List Placed) → AreCalm strange n acts → ActsOn n rest → ActsOn n (acts ++ rest)
on_calm strange n [] rest c k = k
on_calm strange n (p ∷ acts) rest c k = ((λ e. c.0), on_calm strange n acts rest c.2 k)

-- calm acts alone
alive_all : (setting : Setting) (step : Step) (x : ℕ) (strange : Bool) (n : ℕ) (acts : List Placed) (before : List Did) →
    AreCalm strange n acts → up before ≡ true → AllAlive setting step x before acts
alive_all setting step x strange n [] before c u = tt
alive_all setting step x strange n (p ∷ acts) before c u = (
  alive_one setting step x [] strange p p.act before refl c.1 u,
  alive_all setting step x strange n acts (did_in step x (Acts p.act) ∷ before) c.2 (stays_up p.act (up before) u),
)

taken_all : (setting : Setting) (step : Step) (x : ℕ) (history : List Line) (strange : Bool) (n : ℕ) (acts : List Placed) → AreCalm strange n acts →
    AllTaken setting step x history acts
taken_all setting step x history strange n [] c = tt
taken_all setting step x history strange n (p ∷ acts) c = (
  taken_one setting step x history strange p.port p.act c.1,
  taken_all setting step x history strange n acts c.2,
)

on_all : (strange : Bool) (n : ℕ) (acts : List Placed) → AreCalm strange n acts → ActsOn n acts
on_all strange n [] c = tt
on_all strange n (p ∷ acts) c = ((λ e. c.0), on_all strange n acts c.2)

-- what a step by the rules owes besides, after these deeds of its node, of which the last is the step's mark
pub record StepOk (ports wanted : ℕ) (setting : Setting) (step : Step) (x : ℕ) (history : List Line) (before : List Did) (acts : List Placed) : Type 0 where
  pub few : length acts ≤ step_most wanted
  pub alive : AllAlive setting step x before acts
  pub taken : AllTaken setting step x history acts
  pub on : ActsOn ports acts

pub small_room : (past : NodePast) → Small (length past.ports) (room past.ports) past
small_room past = record { count = refl; few = λ q. peers_few past.ports q.0 }

pub turn_ok : (setting : Setting) (step : Step) (x : ℕ) (history : List Line) (before : List Did) (past : NodePast) → length past.ports ≤ 4 → up before ≡ true →
    StepOk (length past.ports) (room past.ports) setting step x history before (answers_all NodeTurn x past)
turn_ok setting step x history before past four is_up =
    let n = length past.ports in
    let c = (calm_turn_all {strange = false} n (room past.ports) four).run x past (small_room past) in
    record {
      few = (let few = c.few in omega (arith, few));
      alive = alive_all setting step x false n (answers_all NodeTurn x past) before c.calm is_up;
      taken = taken_all setting step x history false n (answers_all NodeTurn x past) c.calm;
      on = on_all false n (answers_all NodeTurn x past) c.calm;
    }

pub got_ok : (setting : Setting) (step : Step) (x : ℕ) (history : List Line) (before : List Did) (past : NodePast) (q : Port) (from : Place)
    (t : Taken) → length past.ports ≤ 4 → q.0 < length past.ports →
    up before ≡ true → TookFits step.cause setting (line_of step x q (Acts (Took from t))) history from t →
    StepOk (length past.ports) (room past.ports) setting step x history before (answers_all (GotOn q from t) x past)
got_ok setting step x history before past q from t four has is_up f =
    let n = length past.ports in
    let strange = is_stranger from in
    let o = takes_once_on (room past.ports) four q has from t x past (small_room past) in
    let took : Placed = record { port = q; act = Took from t } in
    record {
      few = o.few;
      alive = subst (λ acts. AllAlive setting step x before acts) (sym o.is)
          (alive_calm setting step x history strange n o.before (took ∷ o.after) before o.calm_before is_up
          (λ ds u. (u, alive_all setting step x strange n o.after (did_in step x (Acts (Took from t)) ∷ ds) o.calm_after u)));
      taken = subst (λ acts. AllTaken setting step x history acts) (sym o.is) (taken_calm setting step x history strange n o.before (took ∷
          o.after) o.calm_before (f, taken_all setting step x history strange n o.after o.calm_after));
      on = subst (λ acts. ActsOn n acts) (sym o.is) (on_calm strange n o.before (took ∷ o.after) o.calm_before (
        (λ e. has),
        on_all strange n o.after o.calm_after,
      ));
    }

-- the boot of a node
pub boot_ok : (setting : Setting) (step : Step) (x : ℕ) (history : List Line) (before : List Did) (past : NodePast) (word : ℕ) → length past.ports ≤ 4 →
    step.cause ≡ Booted word (setting.wall step.node (lives before + 1) +ℤ pos x) →
    StepOk (length past.ports) (room past.ports) setting step x history before (boots_all x past)
unfolding boots_all on puts ◌and_then◌
boot_ok setting step x history before past word four cause =
    let n = length past.ports in
    let boot : List Placed = record { port = first_port; act = Boot } ∷ [] in
    let rest = reading_all all_ports (for_ports boots_on) x (spread x past boot) in
    let c = (calm_boots {strange = false} {n = n} {peers = room past.ports} four).run x (spread x past boot)
    (small_spread n (room past.ports) x past boot (small_room past)) in
    record {
      few = (let few = c.few in omega (arith, few));
      alive = ((word, cause), alive_all setting step x false n rest (did_in step x (Acts Boot) ∷ before) c.calm refl);
      taken = (tt, taken_all setting step x history false n rest c.calm);
      on = ((λ e. let bad : ⊥ = cc in absurd bad), on_all false n rest c.calm);
    }
