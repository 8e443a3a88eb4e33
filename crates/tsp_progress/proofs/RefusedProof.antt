-- A candidate that is refused in time doesn't win.
use Rattle.std.proofs.Common.{subst, arith, inl, inr, ℕ, Bool, List, [], ◌∷◌, refl}
use Rattle.tsp_rules.specs.Values.{Acked, Become, Loose, Message, PeerId, Refuse}
use Rattle.tsp_base.specs.Words.{HeaderValue, Here, Line, MessageValue, bare, of, view}
use Rattle.tsp_base.proofs.PlaceLemmas.{Within_through}
use Rattle.tsp_promises.specs.{Fits.Fits, Fits.node_of, Setting.Setting}
use Rattle.tsp_run.specs.{Clocked.Clocks, Clocked.SetByClocks, Clocked.clocks_of, Clocked.run_by}
use Rattle.tsp_run.proofs.{OwnClocks.possible_own, OwnClocks.runs_by_own_clocks, OwnClocks.set_own, RunFits.clocked_runs_fit}
use Rattle.tsp_progress.specs.AckedInTime.{Acknowledged, EndedBefore, IsPrompt}
use Rattle.tsp_progress.specs.{AnswersInTime.Asks, ByTable.ByTable, ByTable.node_in, Delivered.Delivered, FoundInTime.IsQuick, GivenUp.GivesUpLate}
use Rattle.tsp_progress.specs.{Heeds.arms_for_delay, SentAway.past_there, WinsLate.WinsLate}
use Rattle.tsp_progress.specs.RefusedLoses.{ClockedRunsRefuse, RefusedLoses, RunsRefuse, WinsAfter}
use Rattle.tsp_progress.proofs.{AckedProof.acked_in_time, GiveUpProof.clocked_runs_give_up, TableProof.clocked_runs_by_table}
use Rattle.tsp_progress.proofs.{WinsLateProof.clocked_runs_win_late, WinsNot.no_change, WinsNot.then_wins}

module _ {clocks : Clocks} {header : HeaderValue} {setting : Setting} (set : SetByClocks clocks header setting) (world : List Line)
    (table : ByTable header world) (fits : Fits setting world) (late : GivesUpLate world) (wins : WinsLate world) (long t : ℕ) (stays : ℕ → Bool)
    (s : List Line) (delivered : Delivered setting long t stays s world) (prompt : IsPrompt setting long) where
  quick : IsQuick setting long
  quick = omega (arith, prompt)

  ended : (l : Line) (older : List Line) (p : PeerId) (m : MessageValue) (asks : Asks setting long t stays s l older world p (Message m))
      (answer : MessageValue) (a : Acknowledged header long l older world p answer (λ x past. Acked p ∷ Become Loose ∷ arms_for_delay x past ∷ []))
      (c : Line) (before : List Line) (w : WinsAfter l older c before world) →
      EndedBefore p (Here l.did ∷ view l.port (of (node_of l) older)) (view l.port (of (node_of l) before))
  ended l older p m asks answer a c before w = elim a.ends [
    | inl e ↦ record {
      end = e.end;
      before = e.before;
      place = Within_through (Here e.end ∷ e.before) (view l.port (of (node_of l) a.taken.before)) (view l.port (of (node_of l) before)) e.place
          (then_wins setting world fits wins long quick l older asks.posts.place p (Message answer) a.taken c before w);
      open_is = e.open_is;
      is = e.is;
    }
    | inr next ↦
        let arm = arms_for_delay a.taken.line.did.tick (past_there header (node_of l) a.taken.line a.taken.before) in
        no_change setting world fits wins long quick l older asks.posts.place p (Message answer) a.taken c before w (Acked p ∷ Become Loose ∷ arm ∷ []) Loose
        (record { front = Acked p ∷ []; back = arm ∷ []; is = refl }) next
  ]

  pub refused_loses : RefusedLoses header setting long t stays s world
  refused_loses l older p m asks kind sends denies c before w = ended l older p m asks (bare Refuse m.number (node_in header p.0).name)
      ((acked_in_time set world table fits late long t stays s delivered prompt).refusals l older p m asks kind sends denies) c before w

pub clocked_runs_refuse : ClockedRunsRefuse
clocked_runs_refuse clocks header setting events long t stays s set possible delivered prompt =
    refused_loses set (run_by clocks header events) (clocked_runs_by_table clocks header events) (clocked_runs_fit clocks header setting events set possible).0
    (clocked_runs_give_up clocks header events) (clocked_runs_win_late clocks header setting events set possible) long t stays s delivered prompt

pub runs_refuse : RunsRefuse
runs_refuse header setting events long t stays s set possible = subst (λ h. Delivered setting long t stays s h → IsPrompt setting long →
    RefusedLoses header setting long t stays s h) (runs_by_own_clocks header events)
    (clocked_runs_refuse (clocks_of header) header setting events long t stays s (set_own header setting set) (possible_own header events possible))
