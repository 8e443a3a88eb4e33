-- Two masters, of which one sends the other away, and what else the winner hears.
use Rattle.std.specs.Prelude.{pos, true, List, [], ◌∷◌, ◌++◌}
use Rattle.tsp_rules.specs.Values.{Boot, Post, Become, Arm, Ring, Late, Back, Acked, Gave, Join, Leave, Rival, Quit, Quiet, Window, Elect, Search, Round}
use Rattle.tsp_rules.specs.Values.{ResolveAlarm, Message, Ack, Conflict, Election, MasterAck, MasterReq, MasterUp, QuitKind, ResolveKind, SetTime, SlaveUp}
use Rattle.tsp_rules.specs.Values.{Peer, Starting, Loose, Follow, Candidate, Master}
use Rattle.tsp_base.specs.Words.{Past, bare, timed, peer_of as peer}
use Rattle.tsp_rules.specs.Scripts.{Event, a_name, b_name, fresh, boots_at, turn_at, hands, Answered}

-- node a: it finds node b to be its rival, sends it away, and gets it as a slave
abbrev pub resolution_a : List Event
resolution_a =
    boots_at 0 0 0 (pos 0) (Boot ∷ Become Starting ∷ Arm Quiet 80000000 ∷ []) ∷
    turn_at 0 80000000 (Ring Quiet ∷ Become Loose ∷ Arm Search 85000000 ∷ Post (Peer (peer 1)) (Message (bare MasterReq 0 a_name)) ∷ []) ∷
    turn_at 0 85000000 (Ring Search ∷ Arm Elect 385000000 ∷ []) ∷
    turn_at 0 385000000 (Ring Elect ∷ Become Candidate ∷ Back (peer 0) ∷ Arm Window 390000000 ∷ Post (Peer (peer 1)) (Message (bare Election 32768 a_name)) ∷
    []) ∷
    turn_at 0 390000000 (Gave (peer 1) ∷ Ring Window ∷ Become Master ∷ Arm Round 630000000 ∷ Post (Peer (peer 1)) (Message (bare MasterUp 0 a_name)) ∷ []) ∷
    hands 0 390000002 (Peer (peer 1)) (Message (bare MasterUp 0 b_name)) (Arm ResolveAlarm 395000002 ∷
    Post (Peer (peer 1)) (Message (bare ResolveKind 0 a_name)) ∷ []) ∷
    hands 0 390000004 (Peer (peer 1)) (Message (bare MasterAck 0 b_name)) (Rival (peer 1) ∷ []) ∷
    turn_at 0 395000002 (Ring ResolveAlarm ∷ Post (Peer (peer 1)) (Message (bare QuitKind 32769 a_name)) ∷ []) ∷
    hands 0 395000004 (Peer (peer 1)) (Message (bare Ack 32769 b_name)) (Acked (peer 1) ∷ []) ∷
    hands 0 395000005 (Peer (peer 1)) (Message (bare SlaveUp 1 b_name)) (Join (peer 1) ∷
    Post (Peer (peer 1)) (Message (timed SetTime 1 (pos 395000005) a_name)) ∷ []) ∷
    []

-- and then: a slave that reports again, a conflict, and a candidate, which is sent away once
abbrev pub told_master_a : List Event
told_master_a =
    hands 0 395500000 (Peer (peer 1)) (Message (bare SlaveUp 5 b_name)) [] ∷
    hands 0 395600000 (Peer (peer 1)) (Message (bare Conflict 40000 b_name)) (Post (Peer (peer 1)) (Message (bare Ack 40000 a_name)) ∷
    Arm ResolveAlarm 400600000 ∷ Post (Peer (peer 1)) (Message (bare ResolveKind 0 a_name)) ∷ []) ∷
    hands 0 395700000 (Peer (peer 1)) (Message (bare Election 7 b_name)) (Post (Peer (peer 1)) (Message (bare QuitKind 32770 a_name)) ∷ []) ∷
    hands 0 395700001 (Peer (peer 1)) (Message (bare Election 7 b_name)) [] ∷
    hands 0 395700002 (Peer (peer 1)) (Message (bare ResolveKind 0 b_name)) (Post (Peer (peer 1)) (Message (bare MasterAck 0 a_name)) ∷ []) ∷
    hands 0 395700003 (Peer (peer 1)) (Message (bare MasterReq 3 b_name)) (Post (Peer (peer 1)) (Message (bare MasterAck 3 a_name)) ∷ []) ∷
    turn_at 0 401600001 (Gave (peer 1) ∷ Late ResolveAlarm ∷ []) ∷
    []

-- or: the slave acknowledges nothing and leaves; when it reports again, no correction is allowed yet
abbrev pub left_a : List Event
left_a =
    turn_at 0 400000000 (Gave (peer 1) ∷ Leave (peer 1) ∷ []) ∷
    hands 0 400000001 (Peer (peer 1)) (Message (bare SlaveUp 1 b_name)) (Join (peer 1) ∷ []) ∷
    []

-- node b: it is sent away and follows
abbrev pub resolution_b : List Event
resolution_b =
    boots_at 1 0 1 (pos 0) (Boot ∷ Become Starting ∷ Arm Quiet 80000000 ∷ []) ∷
    turn_at 1 80000000 (Ring Quiet ∷ Become Loose ∷ Arm Search 85000000 ∷ Post (Peer (peer 0)) (Message (bare MasterReq 0 b_name)) ∷ []) ∷
    turn_at 1 85000001 (Ring Search ∷ Arm Elect 385000002 ∷ []) ∷
    turn_at 1 385000002 (Ring Elect ∷ Become Candidate ∷ Back (peer 1) ∷ Arm Window 390000002 ∷ Post (Peer (peer 0)) (Message (bare Election 32769 b_name)) ∷
    []) ∷
    turn_at 1 390000002 (Gave (peer 0) ∷ Ring Window ∷ Become Master ∷ Arm Round 630000002 ∷ Post (Peer (peer 0)) (Message (bare MasterUp 0 b_name)) ∷ []) ∷
    hands 1 390000003 (Peer (peer 0)) (Message (bare ResolveKind 0 a_name)) (Post (Peer (peer 0)) (Message (bare MasterAck 0 b_name)) ∷ []) ∷
    hands 1 395000003 (Peer (peer 0)) (Message (bare QuitKind 32769 a_name)) (Quit (peer 0) ∷ Post (Peer (peer 0)) (Message (bare Ack 32769 b_name)) ∷
    Become (Follow (peer 0)) ∷ Arm Elect 695000004 ∷ Post (Peer (peer 0)) (Message (bare SlaveUp 1 b_name)) ∷ []) ∷
    []

-- it has one other peer
abbrev pub fresh_winner : Past
fresh_winner = fresh 0 a_name true (peer 0 ∷ peer 1 ∷ [])

-- so has the other
abbrev pub fresh_loser : Past
fresh_loser = fresh 1 b_name true (peer 0 ∷ peer 1 ∷ [])

-- the rules give the claimed acts at each event
pub record ResolvesOnce : Type 0 where
  pub winner : Answered (resolution_a ++ told_master_a) (fresh_winner)
  pub left : Answered (resolution_a ++ left_a) (fresh_winner)
  pub loser : Answered resolution_b fresh_loser
