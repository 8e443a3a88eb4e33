-- Rounds that end otherwise: with a repeated reply, too late, with a clock too far away, without a sample, and at the edge of a clock's range.
use Rattle.std.specs.Prelude.{pos, true, false, List, [], ◌∷◌, ◌++◌, take}
use Rattle.tsp_rules.specs.Values.{Boot, Post, Become, Arm, Ring, Late, Back, Abandon, Close, Correct, Sample, Acked, Gave, Join, Leave, Quiet, Window, Elect}
use Rattle.tsp_rules.specs.Values.{Search, Round, Probe, CloseAlarm, Message, Stamp, Ack, AdjTime, Election, MasterReq, MasterUp, SetTime, SlaveUp, Peer}
use Rattle.tsp_rules.specs.Values.{Starting, Loose, Candidate, Master, Request, Reply}
use Rattle.tsp_base.specs.Words.{Past, bare, timed, peer_of as peer}
use Rattle.tsp_rules.specs.OrdinaryUse.{ordinary_use_a, fresh_a, ordinary_use_b, fresh_b}
use Rattle.tsp_rules.specs.Scripts.{Event, a_name, b_name, fresh, boots_at, turn_at, hands, Answered}

-- the reply comes a second time
abbrev pub repeated_a : List Event
repeated_a =
    hands 0 630000801 (Peer (peer 1)) (Stamp (Reply (record { ticket = 10; word = 0; counter = 0; reading = (pos 629999900) }))) [] ∷
    []

-- a probe comes so late that the round is given up, and so is the reply after it
abbrev pub late_probe_a : List Event
late_probe_a =
    turn_at 0 639000001 (Late Probe ∷ Abandon ∷ []) ∷
    hands 0 639000002 (Peer (peer 1)) (Stamp (Reply (record { ticket = 10; word = 0; counter = 0; reading = (pos 629999900) }))) [] ∷
    []

-- the other clock is so far away that it is set and not averaged
abbrev pub far_a : List Event
far_a =
    hands 0 630000801 (Peer (peer 1)) (Stamp (Reply (record { ticket = 10; word = 0; counter = 0; reading = (pos 1073742454000400) })))
    (Sample (peer 1) 0 (pos 1073741824000000) (pos 401) 10 ∷ []) ∷
    turn_at 0 631000000 (Ring Probe ∷ Post (Peer (peer 1)) (Stamp (Request 0 1)) ∷ Arm Probe 632000000 ∷ []) ∷
    turn_at 0 632000000 (Ring Probe ∷ Post (Peer (peer 1)) (Stamp (Request 0 2)) ∷ Arm Probe 633000000 ∷ []) ∷
    turn_at 0 633000000 (Ring Probe ∷ Post (Peer (peer 1)) (Stamp (Request 0 3)) ∷ []) ∷
    turn_at 0 638000000 (Ring CloseAlarm ∷ Close 1 (pos 0) (pos 0) (pos 0) ∷ Correct (pos 0) false (pos 638000000) ∷
    Post (Peer (peer 1)) (Message (timed SetTime 10 (pos 638000000) a_name)) ∷ []) ∷
    []

-- the peer never answers and leaves
abbrev pub silent_a : List Event
silent_a =
    turn_at 0 631000000 (Ring Probe ∷ Post (Peer (peer 1)) (Stamp (Request 0 1)) ∷ Arm Probe 632000000 ∷ []) ∷
    turn_at 0 632000000 (Ring Probe ∷ Post (Peer (peer 1)) (Stamp (Request 0 2)) ∷ Arm Probe 633000000 ∷ []) ∷
    turn_at 0 633000000 (Ring Probe ∷ Post (Peer (peer 1)) (Stamp (Request 0 3)) ∷ []) ∷
    turn_at 0 638000000 (Ring CloseAlarm ∷ Close 1 (pos 0) (pos 0) (pos 0) ∷ Correct (pos 0) false (pos 638000000) ∷ Leave (peer 1) ∷ []) ∷
    []

-- a node whose clock would leave its range by the mean gives the round up
abbrev pub edge_a : List Event
edge_a =
    boots_at 0 0 0 (pos 2147483009999950) (Boot ∷ Become Starting ∷ Arm Quiet 80000000 ∷ []) ∷
    turn_at 0 80000000 (Ring Quiet ∷ Become Loose ∷ Arm Search 85000000 ∷ Post (Peer (peer 1)) (Message (bare MasterReq 0 a_name)) ∷ []) ∷
    turn_at 0 85000000 (Ring Search ∷ Arm Elect 385000000 ∷ []) ∷
    turn_at 0 385000000 (Ring Elect ∷ Become Candidate ∷ Back (peer 0) ∷ Arm Window 390000000 ∷ Post (Peer (peer 1)) (Message (bare Election 32768 a_name)) ∷
    []) ∷
    turn_at 0 390000000 (Gave (peer 1) ∷ Ring Window ∷ Become Master ∷ Arm Round 630000000 ∷ Post (Peer (peer 1)) (Message (bare MasterUp 0 a_name)) ∷ []) ∷
    hands 0 390001000 (Peer (peer 1)) (Message (bare SlaveUp 9 b_name)) (Join (peer 1) ∷
    Post (Peer (peer 1)) (Message (timed SetTime 9 (pos 2147483400000950) a_name)) ∷ []) ∷
    hands 0 390001800 (Peer (peer 1)) (Message (bare Ack 9 b_name)) (Acked (peer 1) ∷ []) ∷
    turn_at 0 630000000 (Ring Round ∷ Arm Round 870000000 ∷ Arm Probe 631000000 ∷ Arm CloseAlarm 638000000 ∷
    Post (Peer (peer 1)) (Message (bare MasterUp 0 a_name)) ∷ Post (Peer (peer 1)) (Stamp (Request 0 0)) ∷ []) ∷
    hands 0 630000801 (Peer (peer 1)) (Stamp (Reply (record { ticket = 10; word = 0; counter = 0; reading = (pos 2147483640000550) })))
    (Sample (peer 1) 0 (pos 200) (pos 401) 10 ∷ []) ∷
    turn_at 0 631000000 (Ring Probe ∷ Post (Peer (peer 1)) (Stamp (Request 0 1)) ∷ Arm Probe 632000000 ∷ []) ∷
    turn_at 0 632000000 (Ring Probe ∷ Post (Peer (peer 1)) (Stamp (Request 0 2)) ∷ Arm Probe 633000000 ∷ []) ∷
    turn_at 0 633000000 (Ring Probe ∷ Post (Peer (peer 1)) (Stamp (Request 0 3)) ∷ []) ∷
    turn_at 0 638000000 (Ring CloseAlarm ∷ Abandon ∷ []) ∷
    []

-- the correction comes a second time to the node that took it
abbrev pub repeated_b : List Event
repeated_b =
    hands 1 638000800 (Peer (peer 0)) (Message (timed AdjTime 10 (pos 250) a_name)) (Post (Peer (peer 0)) (Message (bare Ack 10 b_name)) ∷ []) ∷
    []

-- it has one other peer
abbrev pub fresh_edge : Past
fresh_edge = fresh 0 a_name true (peer 0 ∷ peer 1 ∷ [])

-- the rules give the claimed acts at each event
pub record ClosesOtherwise : Type 0 where
  pub repeated : Answered (take 10 ordinary_use_a ++ repeated_a) (fresh_a)
  pub late_probe : Answered (take 9 ordinary_use_a ++ late_probe_a) (fresh_a)
  pub far : Answered (take 9 ordinary_use_a ++ far_a) (fresh_a)
  pub silent : Answered (take 9 ordinary_use_a ++ silent_a) (fresh_a)
  pub edge : Answered edge_a fresh_edge
  pub taken_once : Answered (ordinary_use_b ++ repeated_b) (fresh_b)
