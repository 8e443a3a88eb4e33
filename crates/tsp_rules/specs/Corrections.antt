-- A follower that is corrected, and its clock as it slews.
use Rattle.std.specs.Prelude.{pos, false, List, [], ◌∷◌, take}
use Rattle.tsp_rules.specs.Values.{Boot, Post, Become, Arm, Ring, Correct, Quiet, Elect, Search, Message, Ack, AdjTime, MasterReq, MasterUp, SlaveUp, Peer}
use Rattle.tsp_rules.specs.Values.{Starting, Loose, Follow}
use Rattle.tsp_base.specs.Words.{Past, bare, timed, peer_of as peer}
use Rattle.tsp_rules.specs.Scripts.{Event, boots_at, turn_at, hands, a_name, b_name, fresh, after, Answered, Is}

-- node a, which follows b: a correction, its repeat, one that comes too soon, and the same again
abbrev pub corrected_a : List Event
corrected_a =
    boots_at 0 0 7 (pos 0) (Boot ∷ Become Starting ∷ Arm Quiet 80000000 ∷ []) ∷
    turn_at 0 80000000 (Ring Quiet ∷ Become Loose ∷ Arm Search 85000000 ∷ Post (Peer (peer 1)) (Message (bare MasterReq 0 a_name)) ∷ []) ∷
    hands 0 81000000 (Peer (peer 1)) (Message (bare MasterUp 0 b_name))
    (Become (Follow (peer 1)) ∷ Arm Elect 381000007 ∷ Post (Peer (peer 1)) (Message (bare SlaveUp 7 a_name)) ∷ []) ∷
    hands 0 82000000 (Peer (peer 1)) (Message (timed AdjTime 7 (pos 10000) b_name))
    (Correct (pos 10000) false (pos 82000000) ∷ Arm Elect 382000007 ∷ Post (Peer (peer 1)) (Message (bare Ack 7 a_name)) ∷ []) ∷
    hands 0 82500000 (Peer (peer 1)) (Message (timed AdjTime 7 (pos 10000) b_name)) (Post (Peer (peer 1)) (Message (bare Ack 7 a_name)) ∷ []) ∷
    hands 0 82999999 (Peer (peer 1)) (Message (timed AdjTime 8 (pos 1) b_name)) [] ∷
    hands 0 83000000 (Peer (peer 1)) (Message (timed AdjTime 8 (pos 1) b_name))
    (Correct (pos 1) false (pos 83005000) ∷ Arm Elect 383000007 ∷ Post (Peer (peer 1)) (Message (bare Ack 8 a_name)) ∷ []) ∷
    []

-- it has one other peer
abbrev pub fresh_corrected : Past
fresh_corrected = fresh 0 a_name false (peer 0 ∷ peer 1 ∷ [])

-- the rules give the claimed acts at each event, and lead to these states
pub record CorrectsOnce : Type 0 where
  pub acts : Answered corrected_a fresh_corrected
  -- one second has slewed 5,000 of the first 10,000 microseconds
  pub halfway : Is (after (take 6 corrected_a) fresh_corrected) (Follow (peer 1)) 8 83000000 (pos 83010000) (pos 83005000)
  pub ends : Is (after corrected_a fresh_corrected) (Follow (peer 1)) 9 84000200 (pos 84010201) (pos 84010201)
