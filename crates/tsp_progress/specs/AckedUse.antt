-- A run in which a correction is acknowledged in time, and runs in which one is given up.
use Rattle.std.specs.Prelude.{◌≡◌, pos, List, [], ◌∷◌, codes}
use Rattle.tsp_rules.specs.Values.{Event, BootAt, Turn, Take, Gave, Leave, SetTime, Message, Post, Peer}
use Rattle.tsp_rules.specs.SlaveRows.{takes_value}
use Rattle.tsp_base.specs.Words.{Acts, Came, Line, MessageValue, first_port, line_of, peer_of as peer, time_in, timed}
use Rattle.tsp_promises.specs.Setting.{Setting}
use Rattle.tsp_run.specs.{Ranges.Accepted, Refusals.Valid, Run.gained, Run.run, Setting.SetBy}
use Rattle.tsp_progress.specs.{AckedInTime.Begins, AckedInTime.IsPrompt, AckedInTime.may_obey, AnswersInTime.Asks, AnswersUse.all_stay, AnswersUse.tail_of}
use Rattle.tsp_progress.specs.{AnswersUse.until_wakes, Delivered.Delivered, Heeds.is_up_role, Obedient.Obedient}
use Rattle.tsp_progress.specs.{TableUse.until_reports, TableUse.until_set, Worked.a_line, Worked.one_may}

-- a takes b in, and sends it the time
abbrev pub until_joins : List Event
until_joins = Take 390030000 7 ∷ until_reports

abbrev pub sets_b : MessageValue
sets_b = timed SetTime 0 (pos 390030000) (codes "a")

-- the line at which it does
abbrev pub set_line : Line
set_line = line_of (record { at = 390030000; node = 0; cause = Came 7 }) 390030000 first_port (Acts (Post (Peer (peer 1)) (Message sets_b)))

abbrev pub before_set : List Line
before_set = tail_of (run one_may until_joins)

-- each datagram takes 1.6 s, so the acknowledgment comes when a has given the send up
abbrev pub acked_late : List Event
acked_late = Turn 393030000 0 ∷ Take 392630000 9 ∷ Turn 392030000 0 ∷ Take 391630000 8 ∷ Turn 391030000 0 ∷ until_joins

-- the acknowledgment is lost
abbrev pub ack_lost : List Event
ack_lost = Turn 393030000 0 ∷ Turn 392030000 0 ∷ Turn 391030000 0 ∷ Take 390040000 8 ∷ until_joins

-- b boots before the correction comes, and so takes none
abbrev pub boots_again : List Event
boots_again = Turn 393030000 0 ∷ Turn 392030000 0 ∷ Turn 391030000 0 ∷ Take 390040000 8 ∷ BootAt 390035000 1 0 ∷ until_joins

pub record AckedUse : Type 0 where
  -- in the run of `table_use` a's SETTIME begins a send, b takes it or took it last, and datagrams take 10 ms
  pub accepted : Accepted one_may until_set
  pub asked : (setting : Setting) → SetBy one_may setting →
      Asks setting 10000 390050001 all_stay (run one_may until_wakes) set_line before_set (run one_may until_set) (peer 1) (Message sets_b)
  pub begins : Begins is_up_role set_line before_set
  pub obeys : (setting : Setting) → SetBy one_may setting → Obedient one_may setting 10000 set_line before_set (run one_may until_set) (peer 1)
      (may_obey set_line sets_b (takes_value 0 (time_in sets_b.body)))
  -- that it may take it at each of its lines meanwhile isn't so, since it may not once it took it
  pub takes_once : (setting : Setting) → SetBy one_may setting → ¬ Obedient one_may setting 10000 set_line before_set (run one_may until_set) (peer 1)
      (takes_value 0 (time_in sets_b.body))
  pub delivered : (setting : Setting) → SetBy one_may setting → Delivered setting 10000 390050001 all_stay (run one_may until_wakes) (run one_may until_set)
  pub prompt : (setting : Setting) → SetBy one_may setting → IsPrompt setting 10000
  -- 1.6 s aren't prompt: the send is given up
  pub slow : (setting : Setting) → SetBy one_may setting → ¬ IsPrompt setting 1600000
  pub late_valid : Valid one_may acked_late
  pub late : gained one_may acked_late ≡ a_line 18 393030000 (Gave (peer 1)) ∷ a_line 18 393030000 (Leave (peer 1)) ∷ []
  -- so is one whose answer is lost
  pub lost_valid : Valid one_may ack_lost
  pub lost : gained one_may ack_lost ≡ a_line 17 393030000 (Gave (peer 1)) ∷ a_line 17 393030000 (Leave (peer 1)) ∷ []
  -- and one to a port that may not take it
  pub idle_valid : Valid one_may boots_again
  pub idle : gained one_may boots_again ≡ a_line 18 393030000 (Gave (peer 1)) ∷ a_line 18 393030000 (Leave (peer 1)) ∷ []
