-- A candidate beside a master that hears of it twice, and sends it away already the second time.
use Rattle.std.specs.Prelude.{◌≡◌, true, List, ◌∷◌}
use Rattle.tsp_rules.specs.Values.{Event, Follow, Message, Take}
use Rattle.tsp_rules.specs.SendRows.{is_quit}
use Rattle.tsp_base.specs.Words.{first_port, of, open_send, peer_of as peer, role, view}
use Rattle.tsp_promises.specs.Setting.{Setting}
use Rattle.tsp_run.specs.{Ranges.Accepted, Run.run, Setting.SetBy}
use Rattle.tsp_progress.specs.{AnswersInTime.Asks, AnswersUse.all_stay, Delivered.Delivered, NoneBeside.LeadsBeside, OneUse.two_may, SentAwayUse.until_asks}
use Rattle.tsp_progress.specs.SecondUse.{before_election, election, election_line, until_leads}
use Rattle.tsp_progress.specs.Watched.{Attended}

-- b's ELECTION comes
abbrev pub asked_once : List Event
asked_once = Take 395005000 6 ∷ until_asks

-- it comes again, and then a's QUIT
abbrev pub asked_twice : List Event
asked_twice = Take 395015000 7 ∷ Take 395008000 6 ∷ asked_once

pub record LeadOnUse : Type 0 where
  -- all that is asked for holds
  pub accepted : Accepted two_may asked_twice
  pub attended : Attended 0 (run two_may asked_twice)
  pub asked : (setting : Setting) → SetBy two_may setting →
      Asks setting 10000 395020001 all_stay (run two_may until_leads) election_line before_election (run two_may asked_twice) (peer 0) (Message election)
  pub delivered : (setting : Setting) → SetBy two_may setting →
      Delivered setting 10000 395020001 all_stay (run two_may until_leads) (run two_may asked_twice)
  pub beside : (setting : Setting) → SetBy two_may setting →
      LeadsBeside setting (run two_may until_leads) election_line before_election (peer 0) (run two_may asked_twice)
  -- the second time the QUIT is open
  pub is_open : is_quit (open_send (peer 1) (view first_port (of 0 (run two_may asked_once)))) ≡ true
  -- and b follows a; where the QUIT is lost, or each datagram takes 2.6 s, it is master in `second_use`
  pub follows : role (view first_port (of 1 (run two_may asked_twice))) ≡ Follow (peer 0)
