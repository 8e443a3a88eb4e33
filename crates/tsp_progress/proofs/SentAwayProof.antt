-- A candidate beside a master is sent away in time, and a QUIT is acknowledged in time.
use Rattle.std.proofs.Common.{subst, true≢false, sym, ◌≡◌, ℕ, Bool, true, false, List, [], ◌∷◌, refl}
use Rattle.tsp_rules.specs.Values.{Ack, Datagram, Starting, Role, Election, QuitKind, Message, PeerId}
use Rattle.tsp_rules.specs.{Guards.is_starting_role, SendRows.next_number}
use Rattle.tsp_base.specs.Words.{HeaderValue, Line, MessageValue, bare, of, peer_of, role}
use Rattle.tsp_promises.specs.{Fits.node_of, Setting.Setting}
use Rattle.tsp_run.specs.Clocked.{Clocks, SetByClocks, clocks_of, run_by}
use Rattle.tsp_run.proofs.OwnClocks.{runs_by_own_clocks, set_own}
use Rattle.tsp_progress.specs.{AnswersInTime.AnswerTaken, AnswersInTime.Asks, AnswersInTime.Meanwhile, ByTable.ByTable, ByTable.node_in, Delivered.Delivered}
use Rattle.tsp_progress.specs.Heeds.{has_no_master, is_master_role, is_up_role, posts_bare, role_before}
use Rattle.tsp_progress.specs.SentAway.{ClockedRunsSendAway, QuitEnds, RunsSendAway, SendsAwayInTime, SentAway, has_no_quit, past_there}
use Rattle.tsp_progress.proofs.AnswersProof.{answer_heard, answered, answers_in_time, arrival, first_of, hears, master_awake, up_awake}
use Rattle.tsp_progress.proofs.{HeedsProof.all_heed, TableProof.clocked_runs_by_table}

pub lone_awake : (r : Role) → has_no_master r ≡ true → is_starting_role r ≡ false
lone_awake Starting e = absurd (true≢false (sym e))
lone_awake _ e = refl

module _ {clocks : Clocks} {header : HeaderValue} {setting : Setting} (set : SetByClocks clocks header setting) (world : List Line)
    (table : ByTable header world) (long t : ℕ) (stays : ℕ → Bool) (s : List Line) (delivered : Delivered setting long t stays s world) where
  candidates : (l : Line) (older : List Line) (p : PeerId) (m : MessageValue) → Asks setting long t stays s l older world p (Message m) →
      m.kind ≡ Election → Meanwhile header setting long l older world p (λ x past. is_master_role (role past.seen)) →
      Meanwhile header setting long l older world p (has_no_quit (peer_of (node_of l))) → SentAway header long l older world p
  candidates l older p m asks kind leads free =
      let a = arrival set world table long t stays s delivered l older p (Message m) asks in
      let is_master = leads a.line a.before a.place a.later a.node a.net a.soon in
      let is_free = free a.line a.before a.place a.later a.node a.net a.soon in
      let past = past_there header p.0 a.line a.before in
      let number = next_number a.line.did.tick past in
      let quit = posts_bare QuitKind number past (peer_of (node_of l)) in
      let back = answered set world table long t stays s delivered l older p (Message m) asks a (quit ∷ [])
      (Message (bare QuitKind number (node_in header p.0).name)) (first_of set world table long t stays s delivered quit [])
      ((all_heed header world table p.0).votes.sends_away a.line (of p.0 a.before) (peer_of (node_of l)) m
      (hears set world table long t stays s delivered l older p m asks a
      (master_awake set world table long t stays s delivered (role_before (node_in header p.0) a.line (of p.0 a.before)) is_master)) kind is_master is_free) in
      record {
        number = number;
        answer = back;
        follows = λ alone. (all_heed header world table (node_of l)).follows.quit back.line (of (node_of l) back.before) p
            (bare QuitKind number (node_in header p.0).name)
            (answer_heard set world table long t stays s delivered l older p (Message m) asks (bare QuitKind number (node_in header p.0).name) back
            (lone_awake (role_before (node_in header (node_of l)) back.line (of (node_of l) back.before)) alone)) refl alone refl;
      }

  -- an acknowledgment that is taken ends its send
  pub ends_by_ack : (l : Line) (older : List Line) (p : PeerId) (d : Datagram) (number : ℕ) → Asks setting long t stays s l older world p d →
      AnswerTaken long l older world p (Message (bare Ack number (node_in header p.0).name)) → QuitEnds header long l older world p number
  ends_by_ack l older p d number asks back = record {
    answer = back;
    ends = λ awake open_is. (all_heed header world table (node_of l)).ends.ack back.line (of (node_of l) back.before) p
        (bare Ack number (node_in header p.0).name)
        (answer_heard set world table long t stays s delivered l older p d asks (bare Ack number (node_in header p.0).name) back
        (up_awake set world table long t stays s delivered (role_before (node_in header (node_of l)) back.line (of (node_of l) back.before)) awake)) refl
        awake open_is;
  }

  quits : (l : Line) (older : List Line) (p : PeerId) (m : MessageValue) → Asks setting long t stays s l older world p (Message m) →
      m.kind ≡ QuitKind → Meanwhile header setting long l older world p (λ x past. is_up_role (role past.seen)) →
      QuitEnds header long l older world p m.number
  quits l older p m asks kind up = ends_by_ack l older p (Message m) m.number asks
      ((answers_in_time set world table long t stays s delivered).quit l older p m asks kind up)

  pub sends_away_in_time : SendsAwayInTime header setting long t stays s world
  sends_away_in_time = record { candidates = candidates; quits = quits }

pub clocked_runs_send_away : ClockedRunsSendAway
clocked_runs_send_away clocks header setting events long t stays s set delivered =
    sends_away_in_time set (run_by clocks header events) (clocked_runs_by_table clocks header events) long t stays s delivered

pub runs_send_away : RunsSendAway
runs_send_away header setting events long t stays s set = subst (λ h. Delivered setting long t stays s h → SendsAwayInTime header setting long t stays s h)
    (runs_by_own_clocks header events) (clocked_runs_send_away (clocks_of header) header setting events long t stays s (set_own header setting set))
