-- Beside a master no candidate wins.
use Rattle.std.proofs.Common.{ap, subst, true≢false, sym, ◌∙◌, ◌≡◌, ℕ, Bool, true, List, [], ◌∷◌, refl}
use Rattle.tsp_rules.specs.Values.{Ack, Candidate, Follow, Message, PeerId, Quit, QuitKind, Role}
use Rattle.tsp_base.specs.Words.{HeaderValue, Line, MessageValue, bare, of, role, view}
use Rattle.tsp_promises.specs.{Fits.Fits, Fits.node_of, Setting.Setting}
use Rattle.tsp_run.specs.{Clocked.Clocks, Clocked.SetByClocks, Clocked.clocks_of, Clocked.run_by}
use Rattle.tsp_run.proofs.{OwnClocks.possible_own, OwnClocks.runs_by_own_clocks, OwnClocks.set_own, RunFits.clocked_runs_fit}
use Rattle.tsp_progress.specs.{AnswersInTime.Asks, ByTable.ByTable, ByTable.node_in, Delivered.Delivered, FoundInTime.IsQuick, WinsLate.WinsLate}
use Rattle.tsp_progress.specs.Heeds.{arms_for_delay, follow_acts, has_no_master, is_candidate_role, posts_bare, role_before}
use Rattle.tsp_progress.specs.NoSecondMaster.{ClockedRunsLeadAlone, NoSecondMaster, RunsLeadAlone}
use Rattle.tsp_progress.specs.{RefusedLoses.WinsAfter, SentAway.SentAway, SentAway.past_there}
use Rattle.tsp_progress.proofs.{SentAwayProof.sends_away_in_time, TableProof.clocked_runs_by_table, WinsLateProof.clocked_runs_win_late}
use Rattle.tsp_progress.proofs.{WinsNot.no_change, WinsNot.same_role}

candidate_alone : (r : Role) → is_candidate_role r ≡ true → has_no_master r ≡ true
candidate_alone Candidate e = refl
candidate_alone _ e = absurd (true≢false (sym e))

module _ {clocks : Clocks} {header : HeaderValue} {setting : Setting} (set : SetByClocks clocks header setting) (world : List Line)
    (table : ByTable header world) (fits : Fits setting world) (wins : WinsLate world) (long t : ℕ) (stays : ℕ → Bool) (s : List Line)
    (delivered : Delivered setting long t stays s world) (quick : IsQuick setting long) where
  pub none : (l : Line) (older : List Line) (p : PeerId) (m : MessageValue) → Asks setting long t stays s l older world p (Message m) →
      is_candidate_role (role (view l.port (of (node_of l) older))) ≡ true → SentAway header long l older world p → (c : Line) (before : List Line) →
      WinsAfter l older c before world → ⊥
  none l older p m asks stands away c before w =
      let quit = Message (bare QuitKind away.number (node_in header p.0).name) in
      let past = past_there header (node_of l) away.answer.line away.answer.before in
      let same : role_before (node_in header (node_of l)) away.answer.line (of (node_of l) away.answer.before) ≡ role (view l.port (of (node_of l) older)) =
      ap (λ q. role (view q (of (node_of l) away.answer.before))) away.answer.port ∙
      same_role setting world fits wins long quick l older asks.posts.place p quit away.answer c before w in
      let alone : has_no_master (role past.seen) ≡ true = candidate_alone (role past.seen) (ap is_candidate_role same ∙ stands) in
      let ack = posts_bare Ack away.number past p in
      no_change setting world fits wins long quick l older asks.posts.place p quit away.answer c before w
      (Quit p ∷ ack ∷ follow_acts p away.answer.line.did.tick past) (Follow p) (record {
        front = Quit p ∷ ack ∷ [];
        back = arms_for_delay away.answer.line.did.tick past ∷ _ ∷ [];
        is = refl;
      }) (away.follows alone)

  pub no_second : NoSecondMaster header setting long t stays s world
  no_second l older p m asks kind stands leads free c before w = none l older p m asks stands
      ((sends_away_in_time set world table long t stays s delivered).candidates l older p m asks kind leads free) c before w

pub clocked_runs_lead_alone : ClockedRunsLeadAlone
clocked_runs_lead_alone clocks header setting events long t stays s set possible delivered quick =
    no_second set (run_by clocks header events) (clocked_runs_by_table clocks header events) (clocked_runs_fit clocks header setting events set possible).0
    (clocked_runs_win_late clocks header setting events set possible) long t stays s delivered quick

pub runs_lead_alone : RunsLeadAlone
runs_lead_alone header setting events long t stays s set possible = subst (λ h. Delivered setting long t stays s h → IsQuick setting long →
    NoSecondMaster header setting long t stays s h) (runs_by_own_clocks header events)
    (clocked_runs_lead_alone (clocks_of header) header setting events long t stays s (set_own header setting set) (possible_own header events possible))
