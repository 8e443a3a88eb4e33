-- A round in which a peer is measured and answers, and rounds in which its answers don't come.
use Rattle.std.specs.Prelude.{◌≡◌, ℕ, zero, suc, pos, neg_ℤ, false, List, [], ◌∷◌, codes}
use Rattle.tsp_rules.specs.Values.{AdjTime, Arm, Close, Correct, Event, Leave, Ring, Take, Turn, CloseAlarm}
use Rattle.tsp_rules.specs.Guards.{is_in_range}
use Rattle.tsp_base.specs.Words.{Acts, Line, Turned, first_port, line_of, peer_of as peer, timed}
use Rattle.tsp_promises.specs.Setting.{Setting}
use Rattle.tsp_run.specs.{Ranges.Accepted, Refusals.Valid, Run.gained, Run.run, Setting.SetBy, declared.line.Line.Line as ToldLine}
use Rattle.tsp_progress.specs.{AnswersInTime.Meanwhile, AnswersUse.all_stay, AnswersUse.tail_of, Delivered.Delivered}
use Rattle.tsp_progress.specs.SampledInTime.{ClosesSince, IsSwift, Measured}
use Rattle.tsp_progress.specs.{TableUse.sends_b, TableUse.until_set, Worked.a_line, Worked.a_posts, Worked.one_may}

-- a's round begins, in which b is measured
abbrev pub until_asks : List Event
until_asks = Turn 630000000 0 ∷ until_set

-- each datagram takes 10 ms, until the round's last sample
abbrev pub until_samples : List Event
until_samples =
    Take 633020000 19 ∷ Take 633010000 18 ∷ Turn 633000000 0 ∷ Take 632020000 17 ∷ Take 632010000 16 ∷ Turn 632000000 0 ∷ Take 631020000 15 ∷
    Take 631010000 14 ∷ Turn 631000000 0 ∷ Take 630020000 13 ∷ Take 630020000 12 ∷ Take 630010000 11 ∷ Take 630010000 10 ∷ until_asks

-- and its close
abbrev pub until_corrects : List Event
until_corrects = Turn 638000000 0 ∷ until_samples

-- the line of the close, and that at which the round begins
abbrev pub close_line : Line
close_line = line_of (record { at = 638000000; node = 0; cause = Turned }) 638000000 first_port (Acts (Close 2 (neg_ℤ (pos 10000)) (pos 10000)
    (neg_ℤ (pos 5000))))

abbrev pub begin_line : Line
begin_line = line_of (record { at = 630000000; node = 0; cause = Turned }) 630000000 first_port (Acts (Arm CloseAlarm 638000000))

-- the lines without so many of the newest
abbrev pub without : ℕ → List Line → List Line
without zero lines = lines
without (suc n) lines = without n (tail_of lines)

abbrev pub before_close : List Line
before_close = without 3 (run one_may until_corrects)

abbrev pub before_begin : List Line
before_begin = without 3 (run one_may until_asks)

-- what comes of a round in which nobody answered
abbrev pub leaves_at : ℕ → List ToldLine
leaves_at event =
    a_line event 638000000 (Ring CloseAlarm) ∷
    a_line event 638000000 (Close 1 (pos 0) (pos 0) (pos 0)) ∷
    a_line event 638000000 (Correct (pos 0) false (pos 638000000)) ∷
    a_line event 638000000 (Leave (peer 1)) ∷ []

-- the requests are lost
abbrev pub all_lost : List Event
all_lost = Turn 638000000 0 ∷ Turn 633000000 0 ∷ Turn 632000000 0 ∷ Turn 631000000 0 ∷ until_asks

-- each datagram takes 4.1 s, so that no answer comes before the close
abbrev pub asks_slowly : List Event
asks_slowly = Turn 638000000 0 ∷ Take 637100000 14 ∷ Take 636100000 13 ∷ Take 635100000 12 ∷ Take 634100000 11 ∷ Take 634100000 10 ∷ Turn 633000000 0 ∷
    Turn 632000000 0 ∷ Turn 631000000 0 ∷ until_asks

pub record SampledUse : Type 0 where
  -- in this run a round closes that began after b was set, b is measured in it, and all that is asked for holds
  pub accepted : Accepted one_may until_corrects
  pub closes : ClosesSince (run one_may until_set) close_line before_close (run one_may until_corrects)
  pub measured : (setting : Setting) → SetBy one_may setting → Measured setting 638000000 all_stay close_line before_close (peer 1)
  pub in_range : (setting : Setting) → SetBy one_may setting →
      Meanwhile one_may setting 10000 begin_line before_begin (run one_may until_corrects) (peer 1) is_in_range
  pub delivered : (setting : Setting) → SetBy one_may setting →
      Delivered setting 10000 638000000 all_stay (run one_may until_set) (run one_may until_corrects)
  pub swift : (setting : Setting) → SetBy one_may setting → IsSwift setting 10000
  -- so b is corrected, by half of what it is behind
  pub corrects : gained one_may until_corrects ≡
      a_line 30 638000000 (Ring CloseAlarm) ∷
      a_line 30 638000000 (Close 2 (neg_ℤ (pos 10000)) (pos 10000) (neg_ℤ (pos 5000))) ∷
      a_line 30 638000000 (Correct (neg_ℤ (pos 5000)) false (pos 638000000)) ∷
      a_posts 30 638000000 20 (sends_b (timed AdjTime 1 (pos 5000) (codes "a"))) ∷ []
  -- where its answers are lost it leaves
  pub lost_valid : Valid one_may all_lost
  pub lost : gained one_may all_lost ≡ leaves_at 20
  -- and where they are too slow
  pub slow : (setting : Setting) → SetBy one_may setting → ¬ IsSwift setting 4100000
  pub slow_valid : Valid one_may asks_slowly
  pub slowly : gained one_may asks_slowly ≡ leaves_at 25
