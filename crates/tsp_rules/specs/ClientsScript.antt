-- How anybody's questions are answered: in the quiet time, by a follower, and by a master.
use Rattle.std.specs.Prelude.{pos, true, false, List, [], ◌∷◌}
use Rattle.tsp_rules.specs.Values.{Boot, Post, Become, Arm, Ring, Back, Gave, Trace, Quiet, Window, Elect, Search, Round, Message, Stamp, Ack, Election}
use Rattle.tsp_rules.specs.Values.{MasterAck, MasterReq, MasterUp, Msite, MsiteReq, SetDate, SetDateReq, SlaveUp, Test, TraceOff, TraceOn, Peer, Stranger}
use Rattle.tsp_rules.specs.Values.{Starting, Loose, Follow, Candidate, Master, Request, Reply}
use Rattle.tsp_base.specs.Words.{Past, bare, timed, peer_of as peer}
use Rattle.tsp_rules.specs.Scripts.{Event, a_name, b_name, x_name, fresh, boots_at, turn_at, hands, Answered}

-- node a, asked by strangers and by its peer
abbrev pub clients_a : List Event
clients_a =
    boots_at 0 0 0 (pos 0) (Boot ∷ Become Starting ∷ Arm Quiet 80000000 ∷ []) ∷
    hands 0 10 Stranger (Stamp (Request 5 0)) (Post Stranger (Stamp (Reply (record { ticket = 0; word = 5; counter = 0; reading = (pos 10) }))) ∷ []) ∷
    hands 0 20 Stranger (Message (bare Msite 3 x_name)) (Post Stranger (Message (bare Ack 3 [])) ∷ []) ∷
    hands 0 30 Stranger (Message (bare TraceOn 2 x_name)) (Trace true ∷ Post Stranger (Message (bare Ack 2 a_name)) ∷ []) ∷
    hands 0 40 Stranger (Message (bare Test 4 x_name)) [] ∷
    hands 0 50 Stranger (Message (bare MsiteReq 6 x_name)) [] ∷
    hands 0 60 (Peer (peer 1)) (Message (bare MasterUp 0 b_name)) [] ∷
    turn_at 0 80000000 (Ring Quiet ∷ Become Loose ∷ Arm Search 85000000 ∷ Post (Peer (peer 1)) (Message (bare MasterReq 0 a_name)) ∷ []) ∷
    hands 0 80000010 (Peer (peer 1)) (Message (bare TraceOff 7 b_name)) (Trace false ∷ Post (Peer (peer 1)) (Message (bare Ack 7 a_name)) ∷ []) ∷
    hands 0 81000000 (Peer (peer 1)) (Message (bare MasterAck 0 b_name)) (Become (Follow (peer 1)) ∷ Arm Elect 381000000 ∷
    Post (Peer (peer 1)) (Message (bare SlaveUp 0 a_name)) ∷ []) ∷
    hands 0 82000000 Stranger (Message (bare Msite 8 x_name)) (Post Stranger (Message (bare Ack 8 b_name)) ∷ []) ∷
    hands 0 82000001 Stranger (Message (bare MsiteReq 9 x_name)) [] ∷
    hands 0 82000002 Stranger (Message (timed SetDate 1 (pos 5) x_name)) (Post Stranger (Message (bare Ack 1 a_name)) ∷
    Post (Peer (peer 1)) (Message (timed SetDateReq 32768 (pos 5) a_name)) ∷ []) ∷
    turn_at 0 300000000 (Gave (peer 1) ∷ []) ∷
    hands 0 310000000 Stranger (Message (bare Test 10 x_name)) (Post Stranger (Message (bare Ack 10 a_name)) ∷ Become Candidate ∷ Back (peer 0) ∷
    Arm Window 315000000 ∷ Post (Peer (peer 1)) (Message (bare Election 32769 a_name)) ∷ []) ∷
    turn_at 0 315000000 (Gave (peer 1) ∷ Ring Window ∷ Become Master ∷ Arm Round 555000000 ∷ Post (Peer (peer 1)) (Message (bare MasterUp 0 a_name)) ∷ []) ∷
    hands 0 316000000 Stranger (Message (bare Msite 11 x_name)) (Post Stranger (Message (bare Ack 11 a_name)) ∷ []) ∷
    hands 0 316000001 Stranger (Message (bare MsiteReq 12 x_name)) (Post Stranger (Message (bare Ack 12 a_name)) ∷ []) ∷
    hands 0 316000002 Stranger (Message (bare Test 13 x_name)) (Post Stranger (Message (bare Ack 13 a_name)) ∷ []) ∷
    []

-- it has one other peer
abbrev pub fresh_asked : Past
fresh_asked = fresh 0 a_name true (peer 0 ∷ peer 1 ∷ [])

-- the rules give the claimed acts at each event
pub record AnswersClients : Type 0 where
  pub clients : Answered clients_a fresh_asked
