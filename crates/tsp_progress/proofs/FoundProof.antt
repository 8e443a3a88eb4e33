-- A search beside a master finds it in time.
use Rattle.std.proofs.Common.{sym, ap, subst, arith, inl, inr, ◌∙◌, ◌≡◌, ◌≤◌, ◌<◌, ◌⊎◌, ℕ, ◌+◌, ◌*◌, ◌==◌, Bool, true, List, ◌∷◌, is_some}
use Rattle.std.proofs.Common.{eq-eqb, refl}
use Rattle.tsp_rules.specs.Values.{PeerId, Message, MasterAck, Loose, Port, WINDOW}
use Rattle.tsp_rules.specs.{Guards.is_starting_role}
use Rattle.tsp_base.specs.Words.{HeaderValue, Here, Line, MessageValue, Seen, Within, armed, armed_after, bare, of}
use Rattle.tsp_base.specs.Words.{plain, role, role_after, tick_of, view}
use Rattle.tsp_base.proofs.{PlaceLemmas.Within_tail, Views.plain_view}
use Rattle.tsp_promises.specs.{Fits.Fits, Fits.LineFits, Fits.node_of, Setting.Setting}
use Rattle.tsp_promises.proofs.{shared.Clocks.tick_mono, shared.EverywhereLemmas.Everywhere_at, promised.OwnFitsProof.own_fits}
use Rattle.tsp_run.specs.{Clocked.SetByClocks, Clocked.Clocks, Clocked.clocks_of, Clocked.run_by}
use Rattle.tsp_run.proofs.{OwnClocks.possible_own, OwnClocks.runs_by_own_clocks, OwnClocks.set_own, RunFits.clocked_runs_fit}
use Rattle.tsp_progress.specs.{ByTable.ByTable, ByTable.node_in, ByTable.port_before, Delivered.Delivered}
use Rattle.tsp_progress.specs.{RunsWake.manner_of, Wakes.AllWake}
use Rattle.tsp_progress.specs.AnswersInTime.{AnswerTaken, Asks}
use Rattle.tsp_progress.specs.FoundInTime.{Changed, ClockedRunsFind, Finds, FoundInTime, IsQuick, RunsFind, Searching}
use Rattle.tsp_progress.specs.Heeds.{DoesNext, follow_acts, is_loose, role_before}
use Rattle.tsp_progress.proofs.AnswersProof.{answer_heard, answers_in_time}
use Rattle.tsp_progress.proofs.{HeedsProof.all_heed, RunWakes.clocked_runs_wake}
use Rattle.tsp_progress.proofs.SearchKept.{Seeks, alarms_within, kept, rising_within, view_within}
use Rattle.tsp_progress.proofs.{StandsProof.Rising, StandsProof.rising, TableProof.clocked_runs_by_table, WorldPlaces.own_place}

-- a port's own line
view_own : (l : Line) (lines : List Line) → view l.port (l ∷ lines) ≡ Here l.did ∷ view l.port lines
view_own l lines = let same : (l.port.0 == l.port.0) ≡ true = eq-eqb l.port.0 l.port.0 refl in rw same refl

of_own : (l : Line) (lines : List Line) → of (node_of l) (l ∷ lines) ≡ l ∷ of (node_of l) lines
of_own l lines = let same : (node_of l == node_of l) ≡ true = eq-eqb (node_of l) (node_of l) refl in rw same refl

-- the tick of a port's past is that of its newest line
pub view_tick : (q : Port) (l : Line) (lines : List Line) → tick_of (plain (view q (l ∷ lines))) ≡ l.did.tick
view_tick q l lines = ap tick_of (plain_view q (l ∷ lines))

module _ {clocks : Clocks} {header : HeaderValue} {setting : Setting} (set : SetByClocks clocks header setting) (world : List Line)
    (table : ByTable header world) (fits : Fits setting world) (wakes : AllWake (manner_of header) world) (long t : ℕ) (stays : ℕ → Bool) (s : List Line)
    (delivered : Delivered setting long t stays s world) (quick : IsQuick setting long) where
  module _ (l : Line) (older : List Line) (p : PeerId) (m : MessageValue) (asks : Asks setting long t stays s l older world p (Message m))
      (search : Searching l older) (answer : AnswerTaken long l older world p (Message (bare MasterAck m.number (node_in header p.0).name))) where
    -- the past of the port when it asked, and when it hears of p
    abbrev Early : List Seen
    Early = view l.port (of (node_of l) (l ∷ older))

    abbrev Later : List Seen
    Later = view l.port (of (node_of l) answer.before)

    early-is : Early ≡ Here l.did ∷ view l.port (of (node_of l) older)
    early-is = ap (view l.port) (of_own l older) ∙ view_own l (of (node_of l) older)

    seeks : Seeks Loose (l.did.tick + WINDOW) Early
    seeks = subst (λ e. Seeks Loose (l.did.tick + WINDOW) e) (sym early-is) (record {
      role_is = ap (λ d. role_after d (role (view l.port (of (node_of l) older)))) asks.posts.deed ∙ search.loose;
      at = l.did.tick + WINDOW;
      search_is = ap (λ d. (armed_after d (armed (view l.port (of (node_of l) older)))).search) asks.posts.deed ∙ search.armed_is;
      late = omega arith;
    })

    early-tick : l.did.tick ≤ tick_of (plain Early)
    early-tick = let same : tick_of (plain Early) ≡ l.did.tick = ap (λ e. tick_of (plain e)) early-is in omega (arith, same)

    within : Within Early Later
    within = view_within l.port (of (node_of l) (l ∷ older)) (of (node_of l) answer.before)
        (subst (λ ls. Within ls (of (node_of l) answer.before)) (sym (of_own l older)) (own_place (node_of l) l older answer.before refl answer.later))

    there : Within (answer.line ∷ of (node_of l) answer.before) (of (node_of l) world)
    there = own_place (node_of l) answer.line answer.before world answer.node answer.place

    -- when it hears of p Search isn't due
    soon : answer.line.did.tick < l.did.tick + WINDOW
    soon =
        let first : l.did.tick ≡ setting.tick (node_of l) l.did.step.at = (Everywhere_at (LineFits setting) l older world fits asks.posts.place).tick in
        let last : answer.line.did.tick ≡ setting.tick (node_of l) answer.line.did.step.at = subst (λ n. answer.line.did.tick ≡
        setting.tick n answer.line.did.step.at) answer.node (Everywhere_at (LineFits setting) answer.line answer.before world fits answer.place).tick in
        let mono = tick_mono setting (node_of l) answer.line.did.step.at (l.did.step.at + 2 * long) answer.soon in
        let fast = (setting.ticks (node_of l)).fast l.did.step.at (2 * long) in
        omega (arith, first, last, mono, fast, quick)

    rises : Rising (view l.port (of (node_of l) world))
    rises = rising setting l.port (of (node_of l) world) (own_fits setting (node_of l) world fits)

    high : tick_of (plain Later) < l.did.tick + WINDOW
    high =
        let up = rising_within (view l.port (answer.line ∷ of (node_of l) answer.before)) (view l.port (of (node_of l) world))
        (view_within l.port (answer.line ∷ of (node_of l) answer.before) (of (node_of l) world) there) rises in
        let le : tick_of (plain Later) ≤ tick_of (plain (view l.port (answer.line ∷ of (node_of l) answer.before))) = up.0 in
        let same = view_tick l.port answer.line (of (node_of l) answer.before) in
        omega (arith, le, same, soon)

    tail : Within Later (view l.port (of (node_of l) world))
    tail = view_within l.port (of (node_of l) answer.before) (of (node_of l) world) (Within_tail answer.line (of (node_of l) answer.before)
        (of (node_of l) world)
        there)

    still : Changed Early Later ⊎ Seeks Loose (l.did.tick + WINDOW) Later
    still = kept (manner_of header (node_of l)) Loose l.did.tick Early seeks early-tick Later within
        (alarms_within (manner_of header (node_of l)) Later (view l.port (of (node_of l) world)) tail (wakes (node_of l) l.port).acts)
        (rising_within Later (view l.port (of (node_of l) world)) tail rises) high

    follows : Seeks Loose (l.did.tick + WINDOW) Later →
        DoesNext (follow_acts p answer.line.did.tick (port_before (node_in header (node_of l)) answer.line (of (node_of l) answer.before))) answer.line
        (of (node_of l) answer.before) (of (node_of l) world)
    follows k =
        let there_is : role_before (node_in header (node_of l)) answer.line (of (node_of l) answer.before) ≡ Loose =
        ap (λ q. role (view q (of (node_of l) answer.before))) answer.port ∙ k.role_is in
        let armed_is : is_some (armed (view answer.line.port (of (node_of l) answer.before))).search ≡ true =
        ap (λ q. is_some (armed (view q (of (node_of l) answer.before))).search) answer.port ∙ ap is_some k.search_is in
        let hears = answer_heard set world table long t stays s delivered l older p (Message m) asks (bare MasterAck m.number (node_in header p.0).name) answer
        (ap is_starting_role there_is) in
        (all_heed header world table (node_of l)).follows.found answer.line (of (node_of l) answer.before) p (bare MasterAck m.number (node_in header p.0).name)
        hears refl (ap is_loose there_is) armed_is

    pub finds : Finds header long l older world p m.number
    finds = record { answer = answer; follows = elim still [ inl c ↦ inl c | inr k ↦ inr (follows k) ] }

  pub found_in_time : FoundInTime header setting long t stays s world
  found_in_time l older p m asks kind search leads =
      finds l older p m asks search ((answers_in_time set world table long t stays s delivered).masterreq l older p m asks kind leads)

pub clocked_runs_find : ClockedRunsFind
clocked_runs_find clocks header setting events long t stays s set possible delivered quick =
    let world = run_by clocks header events in
    found_in_time set world (clocked_runs_by_table clocks header events) (clocked_runs_fit clocks header setting events set possible).0
    (clocked_runs_wake clocks header events).1 long t stays s delivered quick

pub runs_find : RunsFind
runs_find header setting events long t stays s set possible = subst (λ h. Delivered setting long t stays s h → IsQuick setting long →
    FoundInTime header setting long t stays s h) (runs_by_own_clocks header events)
    (clocked_runs_find (clocks_of header) header setting events long t stays s (set_own header setting set) (possible_own header events possible))
