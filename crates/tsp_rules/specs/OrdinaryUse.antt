-- Two nodes in ordinary use: an election, a first setting of a clock, and a round.
use Rattle.std.specs.Prelude.{◌≡◌, pos, negsuc, true, false, List, [], ◌∷◌, take, Some, None}
use Rattle.tsp_rules.specs.Values.{Boot, Post, Become, Arm, Ring, Back, Backer, Close, Correct, Sample, Acked, Join, Quiet, Window, Elect, Search, Round, Probe}
use Rattle.tsp_rules.specs.Values.{CloseAlarm, Message, Stamp, Accept, Ack, AdjTime, Election, MasterReq, MasterUp, SetTime, SlaveUp, Peer, Starting, Loose}
use Rattle.tsp_rules.specs.Values.{Follow, Candidate, Master, Request, Reply}
use Rattle.tsp_base.specs.Words.{Past, bare, timed, open_send, peer_of as peer}
use Rattle.tsp_rules.specs.Scripts.{Event, boots_at, turn_at, comes, a_name, b_name, fresh, after, Answered, Is}

-- node a: it is elected, sets the other clock, and closes a round
abbrev pub ordinary_use_a : List Event
ordinary_use_a =
    boots_at 0 0 0 (pos 0) (Boot ∷ Become Starting ∷ Arm Quiet 80000000 ∷ []) ∷
    turn_at 0 80000000 (Ring Quiet ∷ Become Loose ∷ Arm Search 85000000 ∷ Post (Peer (peer 1)) (Message (bare MasterReq 0 a_name)) ∷ []) ∷
    turn_at 0 85000000 (Ring Search ∷ Arm Elect 385000000 ∷ []) ∷
    turn_at 0 385000000 (Ring Elect ∷ Become Candidate ∷ Back (peer 0) ∷ Arm Window 390000000 ∷
    Post (Peer (peer 1)) (Message (bare Election 32768 a_name)) ∷ []) ∷
    comes 0 385000006 3 (Peer (peer 1)) (Message (bare Accept 32768 b_name)) (Acked (peer 1) ∷ Backer (peer 1) ∷ []) ∷
    turn_at 0 390000000 (Ring Window ∷ Become Master ∷ Arm Round 630000000 ∷ Post (Peer (peer 1)) (Message (bare MasterUp 0 a_name)) ∷ []) ∷
    comes 0 390001000 5 (Peer (peer 1)) (Message (bare SlaveUp 9 b_name))
    (Join (peer 1) ∷ Post (Peer (peer 1)) (Message (timed SetTime 9 (pos 390001000) a_name)) ∷ []) ∷
    comes 0 390001800 7 (Peer (peer 1)) (Message (bare Ack 9 b_name)) (Acked (peer 1) ∷ []) ∷
    turn_at 0 630000000 (Ring Round ∷ Arm Round 870000000 ∷ Arm Probe 631000000 ∷ Arm CloseAlarm 638000000 ∷
    Post (Peer (peer 1)) (Message (bare MasterUp 0 a_name)) ∷ Post (Peer (peer 1)) (Stamp (Request 0 0)) ∷ []) ∷
    comes 0 630000801 10 (Peer (peer 1)) (Stamp (Reply (record { ticket = 10; word = 0; counter = 0; reading = pos 629999900 })))
    (Sample (peer 1) 0 (negsuc 499) (pos 401) 10 ∷ []) ∷
    turn_at 0 631000000 (Ring Probe ∷ Post (Peer (peer 1)) (Stamp (Request 0 1)) ∷ Arm Probe 632000000 ∷ []) ∷
    turn_at 0 632000000 (Ring Probe ∷ Post (Peer (peer 1)) (Stamp (Request 0 2)) ∷ Arm Probe 633000000 ∷ []) ∷
    turn_at 0 633000000 (Ring Probe ∷ Post (Peer (peer 1)) (Stamp (Request 0 3)) ∷ []) ∷
    turn_at 0 638000000 (Ring CloseAlarm ∷ Close 2 (negsuc 499) (pos 500) (negsuc 249) ∷ Correct (negsuc 249) false (pos 638000000) ∷
    Post (Peer (peer 1)) (Message (timed AdjTime 10 (pos 250) a_name)) ∷ []) ∷
    comes 0 638000700 15 (Peer (peer 1)) (Message (bare Ack 10 b_name)) (Acked (peer 1) ∷ []) ∷
    []

-- node b: it backs a, follows it and is corrected twice
abbrev pub ordinary_use_b : List Event
ordinary_use_b =
    boots_at 1 0 9 (pos 10000) (Boot ∷ Become Starting ∷ Arm Quiet 80000000 ∷ []) ∷
    turn_at 1 80000000 (Ring Quiet ∷ Become Loose ∷ Arm Search 85000000 ∷ Post (Peer (peer 0)) (Message (bare MasterReq 0 b_name)) ∷ []) ∷
    turn_at 1 85000000 (Ring Search ∷ Arm Elect 385000009 ∷ []) ∷
    comes 1 385000003 2 (Peer (peer 0)) (Message (bare Election 32768 a_name))
    (Back (peer 0) ∷ Arm Elect 685000012 ∷ Post (Peer (peer 0)) (Message (bare Accept 32768 b_name)) ∷ []) ∷
    comes 1 390000500 4 (Peer (peer 0)) (Message (bare MasterUp 0 a_name))
    (Become (Follow (peer 0)) ∷ Arm Elect 690000509 ∷ Post (Peer (peer 0)) (Message (bare SlaveUp 9 b_name)) ∷ []) ∷
    comes 1 390001400 6 (Peer (peer 0)) (Message (timed SetTime 9 (pos 390001000) a_name))
    (Correct (negsuc 10399) true (pos 390001000) ∷ Arm Elect 690001409 ∷ Post (Peer (peer 0)) (Message (bare Ack 9 b_name)) ∷ []) ∷
    comes 1 630000300 9 (Peer (peer 0)) (Stamp (Request 0 0))
    (Post (Peer (peer 0)) (Stamp (Reply (record { ticket = 10; word = 0; counter = 0; reading = pos 629999900 }))) ∷ []) ∷
    comes 1 638000400 14 (Peer (peer 0)) (Message (timed AdjTime 10 (pos 250) a_name))
    (Correct (pos 250) false (pos 638000000) ∷ Arm Elect 938000409 ∷ Post (Peer (peer 0)) (Message (bare Ack 10 b_name)) ∷ []) ∷
    []

-- the two nodes before anything
abbrev pub fresh_a : Past
fresh_a = fresh 0 a_name true (peer 0 ∷ peer 1 ∷ [])

abbrev pub fresh_b : Past
fresh_b = fresh 1 b_name false (peer 0 ∷ peer 1 ∷ [])

-- the rules give the claimed acts at each event, and lead to these states
pub record OrdinaryUse : Type 0 where
  pub acts_a : Answered ordinary_use_a fresh_a
  pub acts_b : Answered ordinary_use_b fresh_b
  -- a's SETTIME is open after its seventh event, and not after its eighth
  pub sets : open_send (peer 1) (after (take 7 ordinary_use_a) fresh_a).seen ≡ Some (record {
    began = 390001000;
    posts = 1;
    message = timed SetTime 9 (pos 390001000) a_name;
  })
  pub is_set : open_send (peer 1) (after (take 8 ordinary_use_a) fresh_a).seen ≡ None
  -- at the end a's target is 250 microseconds behind the true time and b's 150; each clock still has a part of its correction to slew
  pub end_a : Is (after ordinary_use_a fresh_a) Master 1 638000700 (pos 638000450) (pos 638000697)
  pub end_b : Is (after ordinary_use_b fresh_b) (Follow (peer 0)) 11 638000400 (pos 638000250) (pos 638000000)
  -- once 200 ticks have passed for each microsecond of it, b shows its target
  pub slewed_b : Is (after ordinary_use_b fresh_b) (Follow (peer 0)) 11 638050400 (pos 638050250) (pos 638050250)
