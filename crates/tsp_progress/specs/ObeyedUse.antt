-- A follower that takes what its round corrects it by, and one that doesn't; and samples whose datagrams take long.
use Rattle.std.specs.Prelude.{◌≡◌, ℕ, pos, neg_ℤ, false, List, [], ◌∷◌, codes}
use Rattle.tsp_rules.specs.Values.{Ack, AdjTime, Arm, BootAt, Bytes, Correct, Elect, Event, Good, Message, Peer, Post, Reply, Sample, Stamp, Take, Took}
use Rattle.tsp_base.specs.Words.{Acts, Line, MessageValue, Turned, bare, dids, first_port, line_of, of, peer_of as peer, ticket, timed}
use Rattle.tsp_promises.specs.{Premises.Honest, Premises.Life, Premises.TakenWithinAt, Setting.Setting}
use Rattle.tsp_run.specs.{Refusals.Valid, Run.gained, Run.run, Setting.SetBy}
use Rattle.tsp_progress.specs.{AnswersUse.tail_of, ErrSoon.soon_err, FollowOn.AfterPlace, FollowUse.follows_long, FollowUse.two_stay, Obeyed.Adjusts}
use Rattle.tsp_progress.specs.{OneUse.two_may, SampledUse.until_asks, SampledUse.until_corrects, Worked.a_line}
use Rattle.tsp_progress.specs.TableUse.{b_line, b_posts, b_takes, tells_a, until_set}

-- what a sends b at the close of its round, and the line at which it does
abbrev pub adjustment : MessageValue
adjustment = timed AdjTime 1 (pos 5000) (codes "a")

abbrev pub adjust_line : Line
adjust_line = line_of (record { at = 638000000; node = 0; cause = Turned }) 638000000 first_port (Acts (Post (Peer (peer 1)) (Message adjustment)))

abbrev pub before_adjust : List Line
before_adjust = tail_of (run two_may until_corrects)

-- b takes it, and takes it again
abbrev pub takes_once : List Event
takes_once = Take 638010000 20 ∷ until_corrects

abbrev pub takes_twice : List Event
takes_twice = Take 638030000 20 ∷ takes_once

-- b boots before it comes
abbrev pub boots_before : List Event
boots_before = Take 638010000 20 ∷ BootAt 638005000 1 0 ∷ until_corrects

-- a's first sample of b, where each datagram takes 10 ms, and where the request takes 0.5 s, and the reply 0.4 s
abbrev pub first_sample : List Event
first_sample = Take 630020000 13 ∷ Take 630020000 12 ∷ Take 630010000 11 ∷ Take 630010000 10 ∷ until_asks

abbrev pub slow_sample : List Event
slow_sample = Take 630900000 12 ∷ Take 630500000 11 ∷ until_asks

-- octets from outside that seem to be such a correction of a
abbrev pub forged_octets : List ℕ
forged_octets = 1 ∷ 1 ∷ 0 ∷ 1 ∷ 0 ∷ 0 ∷ 0 ∷ 0 ∷ 0 ∷ 0 ∷ 19 ∷ 136 ∷ 0 ∷ []

abbrev pub is_deceived : List Event
is_deceived = Bytes 638005000 1 first_port (Peer (peer 0)) forged_octets ∷ until_corrects

pub record ObeyedUse : Type 0 where
  -- in a run in which two nodes follow on, a corrects b at a close, and all that is asked for holds
  pub adjusts : (setting : Setting) → SetBy two_may setting →
      Adjusts setting 10000 638020000 two_stay 0 (run two_may until_set) adjust_line before_adjust (run two_may follows_long) (peer 1) adjustment
  pub honest : Honest (run two_may follows_long)
  pub life : Life (run two_may follows_long)
  pub soon : AfterPlace (run two_may until_set) (run two_may follows_long) (λ l older. TakenWithinAt 10000 l older)
  -- b's clock is moved
  pub moves : gained two_may takes_once ≡
      b_line 31 638010000 (b_takes adjustment) ∷
      b_line 31 638010000 (Correct (pos 5000) false (pos 638000000)) ∷
      b_line 31 638010000 (Arm Elect 938010000) ∷
      b_posts 31 638010000 21 (tells_a (bare Ack 1 (codes "b"))) ∷ []
  -- where its number isn't the clock's ticket any more, it isn't moved
  pub twice_valid : Valid two_may takes_twice
  pub twice : gained two_may takes_twice ≡
      b_line 32 638030000 (b_takes adjustment) ∷
      b_posts 32 638030000 22 (tells_a (bare Ack 1 (codes "b"))) ∷ []
  -- nor where b follows nobody
  pub away_valid : Valid two_may boots_before
  pub away : gained two_may boots_before ≡ b_line 32 638010000 (b_takes adjustment) ∷ []
  -- the error of a sample is 10 ms, which is the bound; and more where its datagrams take longer
  pub bound : (setting : Setting) → SetBy two_may setting → soon_err setting 10000 ≡ 10000
  pub sampled : gained two_may first_sample ≡
      a_line 20 630020000 (Took (Peer (peer 1)) (Good (Stamp (Reply (record { ticket = 1; word = 0; counter = 0; reading = pos 630000000 }))))) ∷
      a_line 20 630020000 (Sample (peer 1) 0 (neg_ℤ (pos 10000)) (pos 10000) 1) ∷ []
  pub slow_valid : Valid two_may slow_sample
  pub slowly : gained two_may slow_sample ≡
      a_line 18 630900000 (Took (Peer (peer 1)) (Good (Stamp (Reply (record { ticket = 1; word = 0; counter = 0; reading = pos 630490000 }))))) ∷
      a_line 18 630900000 (Sample (peer 1) 0 (pos 40000) (pos 450000) 1) ∷ []
  -- where octets come from outside that seem to come from its master, a follower is moved by them, too
  pub forged_valid : Valid two_may is_deceived
  pub forged : gained two_may is_deceived ≡
      b_line 31 638005000 (b_takes (timed AdjTime 1 (pos 5000) [])) ∷
      b_line 31 638005000 (Correct (pos 5000) false (pos 637995000)) ∷
      b_line 31 638005000 (Arm Elect 938005000) ∷
      b_posts 31 638005000 21 (tells_a (bare Ack 1 (codes "b"))) ∷ []
  -- b's ticket stays from the beginning of the round to its close, since a posts it no correction then, and changes with the correction
  pub begins : ticket (dids (of 1 (run two_may until_asks))) ≡ 1
  pub kept : ticket (dids (of 1 (run two_may until_corrects))) ≡ 1
  pub changed : ticket (dids (of 1 (run two_may takes_once))) ≡ 2
