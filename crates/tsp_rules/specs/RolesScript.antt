-- A follower that hears of another master, a candidate that is refused or meets a master, and alarms that come late.
use Rattle.std.specs.Prelude.{pos, true, List, [], ◌∷◌, ◌++◌, take}
use Rattle.tsp_rules.specs.Values.{Boot, Post, Become, Arm, Ring, Late, Back, Acked, Gave, Quit, Quiet, Window, Elect, Search, Message, Ack, Conflict, Election}
use Rattle.tsp_rules.specs.Values.{MasterAck, MasterReq, MasterUp, QuitKind, Refuse, SlaveUp, Peer, Starting, Loose, Follow, Candidate}
use Rattle.tsp_base.specs.Words.{Past, bare, peer_of as peer}
use Rattle.tsp_rules.specs.Scripts.{Event, a_name, b_name, c_name, fresh, boots_at, turn_at, hands, hands_late, Answered}

-- node a: two masters, an election that is lost, and a master whose QUIT it takes
abbrev pub conflict_a : List Event
conflict_a =
    boots_at 0 0 0 (pos 0) (Boot ∷ Become Starting ∷ Arm Quiet 80000000 ∷ []) ∷
    turn_at 0 80000000 (Ring Quiet ∷ Become Loose ∷ Arm Search 85000000 ∷ Post (Peer (peer 1)) (Message (bare MasterReq 0 a_name)) ∷
    Post (Peer (peer 2)) (Message (bare MasterReq 0 a_name)) ∷ []) ∷
    hands 0 81000000 (Peer (peer 1)) (Message (bare MasterUp 0 b_name)) (Become (Follow (peer 1)) ∷ Arm Elect 381000000 ∷
    Post (Peer (peer 1)) (Message (bare SlaveUp 0 a_name)) ∷ []) ∷
    hands 0 82000000 (Peer (peer 2)) (Message (bare MasterUp 0 c_name)) (Post (Peer (peer 1)) (Message (bare Conflict 32768 a_name)) ∷ []) ∷
    hands 0 82500000 (Peer (peer 2)) (Message (bare MasterAck 0 c_name)) [] ∷
    hands 0 82600000 (Peer (peer 1)) (Message (bare Ack 32768 b_name)) (Acked (peer 1) ∷ []) ∷
    hands 0 83000000 (Peer (peer 2)) (Message (bare MasterAck 0 c_name)) (Post (Peer (peer 1)) (Message (bare Conflict 32769 a_name)) ∷ []) ∷
    turn_at 0 84000000 (Post (Peer (peer 1)) (Message (bare Conflict 32769 a_name)) ∷ []) ∷
    hands 0 84500000 (Peer (peer 2)) (Message (bare QuitKind 32770 c_name)) (Quit (peer 2) ∷ Post (Peer (peer 2)) (Message (bare Ack 32770 a_name)) ∷ []) ∷
    hands_late 0 85000000 (Post (Peer (peer 1)) (Message (bare Conflict 32769 a_name)) ∷ []) (Peer (peer 1)) (Message (bare MasterUp 0 b_name))
    (Arm Elect 385000000 ∷ Post (Peer (peer 1)) (Message (bare SlaveUp 0 a_name)) ∷ []) ∷
    turn_at 0 86000000 (Gave (peer 1) ∷ []) ∷
    turn_at 0 386000001 (Late Elect ∷ Arm Elect 686000001 ∷ []) ∷
    turn_at 0 686000001 (Ring Elect ∷ Become Candidate ∷ Back (peer 0) ∷ Arm Window 691000001 ∷ Post (Peer (peer 1)) (Message (bare Election 32770 a_name)) ∷
    Post (Peer (peer 2)) (Message (bare Election 32771 a_name)) ∷ []) ∷
    hands 0 686500000 (Peer (peer 2)) (Message (bare Election 5 c_name)) (Post (Peer (peer 2)) (Message (bare Refuse 5 a_name)) ∷ []) ∷
    hands 0 687000000 (Peer (peer 1)) (Message (bare Refuse 32770 b_name)) (Acked (peer 1) ∷ Become Loose ∷ Arm Elect 987000000 ∷ []) ∷
    hands 0 688000000 (Peer (peer 1)) (Message (bare QuitKind 9 b_name)) (Quit (peer 1) ∷ Post (Peer (peer 1)) (Message (bare Ack 9 a_name)) ∷
    Become (Follow (peer 1)) ∷ Arm Elect 988000000 ∷ Post (Peer (peer 1)) (Message (bare SlaveUp 0 a_name)) ∷ []) ∷
    hands 0 689000000 (Peer (peer 2)) (Message (bare Election 7 c_name)) (Post (Peer (peer 2)) (Message (bare Refuse 7 a_name)) ∷ []) ∷
    []

-- node a: its search and its window come late
abbrev pub late_a : List Event
late_a =
    boots_at 0 0 0 (pos 0) (Boot ∷ Become Starting ∷ Arm Quiet 80000000 ∷ []) ∷
    turn_at 0 80000000 (Ring Quiet ∷ Become Loose ∷ Arm Search 85000000 ∷ Post (Peer (peer 1)) (Message (bare MasterReq 0 a_name)) ∷
    Post (Peer (peer 2)) (Message (bare MasterReq 0 a_name)) ∷ []) ∷
    turn_at 0 86000001 (Late Search ∷ Arm Elect 386000001 ∷ []) ∷
    turn_at 0 386000001 (Ring Elect ∷ Become Candidate ∷ Back (peer 0) ∷ Arm Window 391000001 ∷ Post (Peer (peer 1)) (Message (bare Election 32768 a_name)) ∷
    Post (Peer (peer 2)) (Message (bare Election 32769 a_name)) ∷ []) ∷
    turn_at 0 392000002 (Gave (peer 1) ∷ Gave (peer 2) ∷ Late Window ∷ Become Loose ∷ Arm Elect 692000002 ∷ []) ∷
    []

-- node a, after its election began: it hears a MASTERUP and follows its sender at once
abbrev pub meets_master_a : List Event
meets_master_a =
    hands 0 386500000 (Peer (peer 1)) (Message (bare MasterUp 0 b_name)) (Become (Follow (peer 1)) ∷ Arm Elect 686500000 ∷
    Post (Peer (peer 1)) (Message (bare SlaveUp 0 a_name)) ∷ []) ∷
    []

-- the same for a MASTERACK
abbrev pub finds_master_a : List Event
finds_master_a =
    hands 0 386500000 (Peer (peer 1)) (Message (bare MasterAck 0 b_name)) (Become (Follow (peer 1)) ∷ Arm Elect 686500000 ∷
    Post (Peer (peer 1)) (Message (bare SlaveUp 0 a_name)) ∷ []) ∷
    []

-- the same for a QUIT
abbrev pub is_sent_away_a : List Event
is_sent_away_a =
    hands 0 386500000 (Peer (peer 1)) (Message (bare QuitKind 40000 b_name)) (Quit (peer 1) ∷ Post (Peer (peer 1)) (Message (bare Ack 40000 a_name)) ∷
    Become (Follow (peer 1)) ∷ Arm Elect 686500000 ∷ Post (Peer (peer 1)) (Message (bare SlaveUp 0 a_name)) ∷ []) ∷
    []

-- it has two other peers
abbrev pub fresh_three : Past
fresh_three = fresh 0 a_name true (peer 0 ∷ peer 1 ∷ peer 2 ∷ [])

-- the rules give the claimed acts at each event
pub record HearsMasters : Type 0 where
  pub conflict : Answered conflict_a fresh_three
  pub late : Answered late_a fresh_three
  pub meets_master : Answered (take 4 late_a ++ meets_master_a) (fresh_three)
  pub finds_master : Answered (take 4 late_a ++ finds_master_a) (fresh_three)
  pub is_sent_away : Answered (take 4 late_a ++ is_sent_away_a) (fresh_three)
