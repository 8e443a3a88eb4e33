-- Two candidatures at once, of which the later one loses; and runs without each premise, in which it wins.
use Rattle.std.specs.Prelude.{◌≡◌, ℕ, List, [], ◌∷◌, codes}
use Rattle.tsp_rules.specs.Values.{Accept, Acked, Arm, Back, Become, BootAt, Bytes, Candidate, Elect, Event, Loose, Master, Message, Peer, Refuse, Ring, Take}
use Rattle.tsp_rules.specs.Values.{Turn, Window}
use Rattle.tsp_base.specs.Words.{Acts, Line, Turned, bare, first_port, line_of, peer_of as peer}
use Rattle.tsp_codec.specs.Canon.{canon}
use Rattle.tsp_promises.specs.{Premises.Honest, Premises.Life, Setting.Setting}
use Rattle.tsp_run.specs.{Ranges.Accepted, Run.gained, Run.run, Setting.SetBy}
use Rattle.tsp_progress.specs.{AckedInTime.IsPrompt, AnswersUse.all_stay, AnswersUse.tail_of, Delivered.Delivered, OneUse.two_may}
use Rattle.tsp_progress.specs.OneAtATime.{IsNear, LaterLoses, TwoStand, Unbooted, WinsIt}
use Rattle.tsp_progress.specs.RefusedUse.{b_stands, both_lose, both_refuse, both_stand, refused_late, until_elects}
use Rattle.tsp_progress.specs.{TableUse.a_takes, Worked.a_line, Worked.a_posts, Worked.asks_b}

-- the line at which a node stands at a true time, and the lines before it in a history that ends with that step
abbrev pub stand_line : ℕ → ℕ → Line
stand_line n t = line_of (record { at = t; node = n; cause = Turned }) t first_port (Acts (Become Candidate))

abbrev pub before_stand : List Line → List Line
before_stand h = tail_of (tail_of (tail_of (tail_of h)))

-- b stands first, and then a, at one moment
abbrev pub Both : Setting → ℕ → ℕ → List Line → Type 0
Both setting long t world = TwoStand setting long t all_stay (run two_may until_elects) (stand_line 1 385000000) (before_stand (run two_may b_stands))
    (stand_line 0 385000000) (before_stand (run two_may both_stand)) world

-- datagrams take 1.6 s; here a stands first
abbrev pub slow_wins : List Event
slow_wins = Turn 390000000 1 ∷ refused_late

-- no datagram arrives
abbrev pub lost_wins : List Event
lost_wins = Turn 390000000 0 ∷ Turn 388000000 0 ∷ Turn 387000000 0 ∷ Turn 386000000 0 ∷ both_stand

-- b boots before a's ELECTION comes to it
abbrev pub booted_wins : List Event
booted_wins = Turn 390000000 0 ∷ Turn 388000000 0 ∷ Turn 387000000 0 ∷ Turn 386000000 0 ∷ Take 385020000 4 ∷ Take 385010000 2 ∷ Take 385010000 3 ∷
    BootAt 385005000 1 7 ∷ both_stand

-- an ACCEPT comes to a that b never posted
abbrev pub forged_wins : List Event
forged_wins = Turn 390000000 0 ∷ Take 385020000 5 ∷ Take 385020000 4 ∷ Take 385010000 2 ∷ Take 385010000 3 ∷
    Bytes 385005000 0 first_port (Peer (peer 1)) (canon (Message (bare Accept 32768 (codes "b")))) ∷ both_stand

-- b hears first that it is refused, and so stands again before a does, which then votes for it
abbrev pub b_stands_again : List Event
b_stands_again = Turn 685015000 1 ∷ Take 385020000 4 ∷ Take 385015000 5 ∷ both_refuse

abbrev pub far_wins : List Event
far_wins = Turn 690015000 1 ∷ Take 685025000 7 ∷ Take 685018000 6 ∷ b_stands_again

pub record ElectUse : Type 0 where
  -- both stand at once, and all that is asked for is kept
  pub accepted : Accepted two_may both_lose
  pub two : (setting : Setting) → SetBy two_may setting → Both setting 10000 385020001 (run two_may both_lose)
  pub delivered : (setting : Setting) → SetBy two_may setting → Delivered setting 10000 385020001 all_stay (run two_may until_elects) (run two_may both_lose)
  pub prompt : (setting : Setting) → SetBy two_may setting → IsPrompt setting 10000
  pub unbooted : Unbooted all_stay (run two_may until_elects) (run two_may both_lose)
  pub honest : Honest (run two_may both_lose)
  pub life : Life (run two_may both_lose)
  -- who stands backs itself and asks the other node
  pub asks : gained two_may both_stand ≡
      a_line 8 385000000 (Ring Elect) ∷
      a_line 8 385000000 (Become Candidate) ∷
      a_line 8 385000000 (Back (peer 0)) ∷
      a_line 8 385000000 (Arm Window 390000000) ∷
      a_posts 8 385000000 3 asks_b ∷ []
  -- the later one loses
  pub loses : gained two_may (Take 385020000 4 ∷ both_refuse) ≡
      a_line 11 385020000 (a_takes (bare Refuse 32768 (codes "b"))) ∷
      a_line 11 385020000 (Acked (peer 1)) ∷
      a_line 11 385020000 (Become Loose) ∷
      a_line 11 385020000 (Arm Elect 685020000) ∷ []
  -- where datagrams take 1.6 s it wins
  pub slow_accepted : Accepted two_may slow_wins
  pub slow_delivered : (setting : Setting) → SetBy two_may setting →
      Delivered setting 1600000 388200001 all_stay (run two_may until_elects) (run two_may slow_wins)
  pub slow_unbooted : Unbooted all_stay (run two_may until_elects) (run two_may slow_wins)
  pub slow_honest : Honest (run two_may slow_wins)
  pub slow_life : Life (run two_may slow_wins)
  pub slow : (setting : Setting) → SetBy two_may setting → ¬ LaterLoses setting 1600000 388200001 all_stay (run two_may until_elects) (run two_may slow_wins)
  -- where they are lost
  pub lost_accepted : Accepted two_may lost_wins
  pub lost_unbooted : Unbooted all_stay (run two_may until_elects) (run two_may lost_wins)
  pub lost_honest : Honest (run two_may lost_wins)
  pub lost_life : Life (run two_may lost_wins)
  pub lost : (setting : Setting) → SetBy two_may setting → ¬ LaterLoses setting 10000 385020001 all_stay (run two_may until_elects) (run two_may lost_wins)
  -- where the earlier one boots
  pub booted_accepted : Accepted two_may booted_wins
  pub booted_delivered : (setting : Setting) → SetBy two_may setting →
      Delivered setting 10000 385020001 all_stay (run two_may until_elects) (run two_may booted_wins)
  pub booted_honest : Honest (run two_may booted_wins)
  pub booted_life : Life (run two_may booted_wins)
  pub booted : (setting : Setting) → SetBy two_may setting → ¬ LaterLoses setting 10000 385020001 all_stay (run two_may until_elects) (run two_may booted_wins)
  -- where a vote is forged
  pub forged_accepted : Accepted two_may forged_wins
  pub forged_delivered : (setting : Setting) → SetBy two_may setting →
      Delivered setting 10000 385020001 all_stay (run two_may until_elects) (run two_may forged_wins)
  pub forged_unbooted : Unbooted all_stay (run two_may until_elects) (run two_may forged_wins)
  pub forged_life : Life (run two_may forged_wins)
  pub forged : (setting : Setting) → SetBy two_may setting → ¬ LaterLoses setting 10000 385020001 all_stay (run two_may until_elects) (run two_may forged_wins)
  -- two that are far from each other: the later one wins, though all else is kept
  pub far_accepted : Accepted two_may far_wins
  pub far_delivered : (setting : Setting) → SetBy two_may setting →
      Delivered setting 10000 685035001 all_stay (run two_may until_elects) (run two_may far_wins)
  pub far_unbooted : Unbooted all_stay (run two_may until_elects) (run two_may far_wins)
  pub far_honest : Honest (run two_may far_wins)
  pub far_life : Life (run two_may far_wins)
  pub far : WinsIt (stand_line 1 685015000) (before_stand (run two_may b_stands_again))
      (line_of (record { at = 690015000; node = 1; cause = Turned }) 690015000 first_port (Acts (Become Master)))
      (tail_of (tail_of (tail_of (run two_may far_wins)))) (run two_may far_wins)
  pub far_else : (setting : Setting) → SetBy two_may setting → IsNear setting 10000 (stand_line 0 385000000) (stand_line 1 685015000) →
      TwoStand setting 10000 685035001 all_stay (run two_may until_elects) (stand_line 0 385000000) (before_stand (run two_may both_stand))
      (stand_line 1 685015000) (before_stand (run two_may b_stands_again)) (run two_may far_wins)
