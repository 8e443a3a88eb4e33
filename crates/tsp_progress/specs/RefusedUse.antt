-- Two candidates at once: both are refused and lose, but both win where datagrams take too long.
use Rattle.std.specs.Prelude.{◌≡◌, List, [], ◌∷◌, codes}
use Rattle.tsp_rules.specs.Values.{Accept, Acked, Arm, Backer, Become, BootAt, Election, Elect, Event, Loose, Master, MasterUp, Message, Peer, Post, Refuse}
use Rattle.tsp_rules.specs.Values.{Ring, Round, Take, Turn}
use Rattle.tsp_rules.specs.Values.{Window}
use Rattle.tsp_base.specs.Words.{Acts, Line, MessageValue, Turned, bare, first_port, line_of, peer_of as peer}
use Rattle.tsp_promises.specs.Setting.{Setting}
use Rattle.tsp_run.specs.{Ranges.Accepted, Refusals.Valid, Run.gained, Run.run, Setting.SetBy}
use Rattle.tsp_progress.specs.{AckedInTime.Begins, AckedInTime.refuses_vote, AnswersInTime.Asks, AnswersInTime.Meanwhile, AnswersUse.all_stay}
use Rattle.tsp_progress.specs.{AnswersUse.tail_of, Delivered.Delivered, Heeds.is_candidate_role, OneUse.two_may, Worked.a_line, Worked.a_posts}
use Rattle.tsp_progress.specs.TableUse.{a_takes, b_line, b_posts, sends_b, tells_a}

-- both boot at once, with one delay
abbrev pub until_elects : List Event
until_elects = Turn 85000000 1 ∷ Turn 85000000 0 ∷ Turn 80000000 1 ∷ Turn 80000000 0 ∷ BootAt 0 1 0 ∷ BootAt 0 0 0 ∷ []

-- b stands, and then a
abbrev pub b_stands : List Event
b_stands = Turn 385000000 1 ∷ until_elects

abbrev pub both_stand : List Event
both_stand = Turn 385000000 0 ∷ b_stands

-- datagrams take 10 ms
abbrev pub both_refuse : List Event
both_refuse = Take 385010000 2 ∷ Take 385010000 3 ∷ both_stand

abbrev pub both_lose : List Event
both_lose = Take 385020000 5 ∷ Take 385020000 4 ∷ both_refuse

-- a's ELECTION, and the line at which it is posted
abbrev pub election : MessageValue
election = bare Election 32768 (codes "a")

abbrev pub election_line : Line
election_line = line_of (record { at = 385000000; node = 0; cause = Turned }) 385000000 first_port (Acts (Post (Peer (peer 1)) (Message election)))

abbrev pub before_election : List Line
before_election = tail_of (run two_may both_stand)

-- datagrams take 1.6 s
abbrev pub refused_late : List Event
refused_late =
    Take 388200000 7 ∷ Take 388200000 6 ∷ Turn 388000000 1 ∷ Turn 388000000 0 ∷ Take 387600000 5 ∷ Take 387600000 4 ∷ Turn 387000000 1 ∷ Turn 387000000 0 ∷
    Take 386600000 3 ∷ Take 386600000 2 ∷ Turn 386000000 1 ∷ Turn 386000000 0 ∷ Turn 385000000 1 ∷ Turn 385000000 0 ∷ until_elects

-- b waits longer, and backs a
abbrev pub b_backs : List Event
b_backs = Take 385020000 3 ∷ Take 385010000 2 ∷ Turn 385000000 0 ∷ Turn 85000000 1 ∷ Turn 85000000 0 ∷ Turn 80000000 1 ∷ Turn 80000000 0 ∷
    BootAt 0 1 10000000 ∷ BootAt 0 0 0 ∷ []

pub record RefusedUse : Type 0 where
  -- a asks b for its vote, which is a candidate, too, and datagrams are delivered in time
  pub accepted : Accepted two_may both_lose
  pub asked : (setting : Setting) → SetBy two_may setting →
      Asks setting 10000 385020001 all_stay (run two_may b_stands) election_line before_election (run two_may both_lose) (peer 1) (Message election)
  pub begins : Begins is_candidate_role election_line before_election
  pub refuses : (setting : Setting) → SetBy two_may setting →
      Meanwhile two_may setting 10000 election_line before_election (run two_may both_lose) (peer 1) (refuses_vote (peer 0))
  pub delivered : (setting : Setting) → SetBy two_may setting → Delivered setting 10000 385020001 all_stay (run two_may b_stands) (run two_may both_lose)
  -- so a stands no more
  pub loses : gained two_may (Take 385020000 4 ∷ both_refuse) ≡
      a_line 11 385020000 (a_takes (bare Refuse 32768 (codes "b"))) ∷
      a_line 11 385020000 (Acked (peer 1)) ∷
      a_line 11 385020000 (Become Loose) ∷
      a_line 11 385020000 (Arm Elect 685020000) ∷ []
  -- where the refusals come when the sends were given up both win
  pub late_valid : Valid two_may (Turn 390000000 1 ∷ Turn 390000000 0 ∷ refused_late)
  pub a_wins : gained two_may (Turn 390000000 0 ∷ refused_late) ≡
      a_line 21 390000000 (Ring Window) ∷
      a_line 21 390000000 (Become Master) ∷
      a_line 21 390000000 (Arm Round 630000000) ∷
      a_posts 21 390000000 12 (sends_b (bare MasterUp 0 (codes "a"))) ∷ []
  pub b_wins : gained two_may (Turn 390000000 1 ∷ Turn 390000000 0 ∷ refused_late) ≡
      b_line 22 390000000 (Ring Window) ∷
      b_line 22 390000000 (Become Master) ∷
      b_line 22 390000000 (Arm Round 630000000) ∷
      b_posts 22 390000000 13 (tells_a (bare MasterUp 0 (codes "b"))) ∷ []
  -- where b isn't a candidate it votes for a
  pub backs_valid : Valid two_may b_backs
  pub backs : gained two_may b_backs ≡
      a_line 9 385020000 (a_takes (bare Accept 32768 (codes "b"))) ∷ a_line 9 385020000 (Acked (peer 1)) ∷ a_line 9 385020000 (Backer (peer 1)) ∷ []
