-- A candidate beside a master that is sent away in time, and two that aren't, so that there are two masters.
use Rattle.std.specs.Prelude.{◌≡◌, List, [], ◌∷◌, codes}
use Rattle.tsp_rules.specs.Values.{Arm, Become, BootAt, Election, Event, Gave, Master, MasterUp, Message, Peer, Post, Ring, Round, Take, Turn, Window}
use Rattle.tsp_base.specs.Words.{Acts, Line, MessageValue, Turned, bare, first_port, line_of, peer_of as peer, role}
use Rattle.tsp_promises.specs.Setting.{Setting}
use Rattle.tsp_run.specs.{Ranges.Accepted, Refusals.Valid, Run.gained, Run.run, Setting.SetBy, declared.line.Line.Line as ToldLine}
use Rattle.tsp_progress.specs.{AnswersInTime.Asks, AnswersInTime.Meanwhile, AnswersUse.all_stay, AnswersUse.tail_of, Delivered.Delivered}
use Rattle.tsp_progress.specs.{Heeds.is_master_role, OneUse.two_may, SentAway.has_no_quit, SentAwayUse.until_asks}
use Rattle.tsp_progress.specs.TableUse.{b_line, b_posts, tells_a}

-- a leads
abbrev pub until_leads : List Event
until_leads =
    Turn 390000000 0 ∷ Turn 388000000 0 ∷ Turn 387000000 0 ∷ Turn 386000000 0 ∷ Turn 385000000 0 ∷ Turn 85000000 1 ∷ Turn 85000000 0 ∷ Turn 80000000 1 ∷
    Turn 80000000 0 ∷ BootAt 0 1 10000000 ∷ BootAt 0 0 0 ∷ []

-- b's ELECTION, and the line at which it is posted
abbrev pub election : MessageValue
election = bare Election 38528 (codes "b")

abbrev pub election_line : Line
election_line = line_of (record { at = 395000000; node = 1; cause = Turned }) 395000000 first_port (Acts (Post (Peer (peer 0)) (Message election)))

abbrev pub before_election : List Line
before_election = tail_of (run two_may until_asks)

-- a's QUIT comes 20 ms after it
abbrev pub is_away : List Event
is_away = Take 395020000 7 ∷ Take 395010000 6 ∷ until_asks

-- the QUIT is lost
abbrev pub not_away : List Event
not_away = Turn 400000000 1 ∷ Take 395010000 6 ∷ until_asks

-- each datagram takes 2.6 s, so that the QUIT would come at 400.2 s
abbrev pub late_away : List Event
late_away = Turn 400000000 1 ∷ Take 397600000 6 ∷ until_asks

-- b wins
abbrev pub b_wins : List ToldLine
b_wins =
    b_line 14 400000000 (Gave (peer 0)) ∷
    b_line 14 400000000 (Ring Window) ∷
    b_line 14 400000000 (Become Master) ∷
    b_line 14 400000000 (Arm Round 640000000) ∷
    b_posts 14 400000000 8 (tells_a (bare MasterUp 0 (codes "b"))) ∷ []

pub record SecondUse : Type 0 where
  -- b asks a for its vote, which leads, and datagrams are delivered in time; in `sent_away_use` b follows a
  pub accepted : Accepted two_may is_away
  pub asked : (setting : Setting) → SetBy two_may setting →
      Asks setting 10000 395020001 all_stay (run two_may until_leads) election_line before_election (run two_may is_away) (peer 0) (Message election)
  pub leads : (setting : Setting) → SetBy two_may setting →
      Meanwhile two_may setting 10000 election_line before_election (run two_may is_away) (peer 0) (λ x past. is_master_role (role past.seen))
  pub free : (setting : Setting) → SetBy two_may setting →
      Meanwhile two_may setting 10000 election_line before_election (run two_may is_away) (peer 0) (has_no_quit (peer 1))
  pub delivered : (setting : Setting) → SetBy two_may setting → Delivered setting 10000 395020001 all_stay (run two_may until_leads) (run two_may is_away)
  -- where the QUIT is lost, or each datagram takes 2.6 s, b is master beside a
  pub lost_valid : Valid two_may not_away
  pub lost : gained two_may not_away ≡ b_wins
  pub late_valid : Valid two_may late_away
  pub late : gained two_may late_away ≡ b_wins
