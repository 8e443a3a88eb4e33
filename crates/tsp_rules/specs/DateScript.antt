-- A client sets the date through a follower, and it is set once.
use Rattle.std.specs.Prelude.{pos, negsuc, true, List, [], ◌∷◌, ◌++◌}
use Rattle.tsp_rules.specs.Values.{Post, Arm, Correct, Acked, Join, Leave, Elect, Message, Ack, DateAck, MasterUp, SetDate, SetDateReq, SetTime, SlaveUp, Peer}
use Rattle.tsp_rules.specs.Values.{Stranger}
use Rattle.tsp_base.specs.Words.{bare, timed, peer_of as peer}
use Rattle.tsp_rules.specs.OrdinaryUse.{ordinary_use_a, fresh_a, ordinary_use_b, fresh_b}
use Rattle.tsp_rules.specs.Scripts.{Event, a_name, b_name, x_name, hands, Answered}

-- node a, the master, after ordinary use
abbrev pub date_a : List Event
date_a =
    hands 0 700000400 (Peer (peer 1)) (Message (timed SetDateReq 32777 (pos 100000000) b_name)) (Correct (negsuc 600000149) true (pos 100000000) ∷
    Post (Peer (peer 1)) (Message (bare DateAck 32777 a_name)) ∷ Leave (peer 1) ∷ Post (Peer (peer 1)) (Message (bare MasterUp 0 a_name)) ∷ []) ∷
    hands 0 700001300 (Peer (peer 1)) (Message (bare SlaveUp 11 b_name)) (Join (peer 1) ∷
    Post (Peer (peer 1)) (Message (timed SetTime 11 (pos 100000900) a_name)) ∷ []) ∷
    hands 0 700001400 (Peer (peer 1)) (Message (timed SetDateReq 32777 (pos 100000000) b_name)) (Post (Peer (peer 1)) (Message (bare DateAck 32777 a_name)) ∷
    []) ∷
    []

-- node b, which passes the date on
abbrev pub date_b : List Event
date_b =
    hands 1 700000000 Stranger (Message (timed SetDate 5 (pos 100000000) x_name)) (Post Stranger (Message (bare Ack 5 b_name)) ∷
    Post (Peer (peer 0)) (Message (timed SetDateReq 32777 (pos 100000000) b_name)) ∷ []) ∷
    hands 1 700000800 (Peer (peer 0)) (Message (bare DateAck 32777 a_name)) (Acked (peer 0) ∷ []) ∷
    hands 1 700000900 (Peer (peer 0)) (Message (bare MasterUp 0 a_name)) (Arm Elect 1000000909 ∷ Post (Peer (peer 0)) (Message (bare SlaveUp 11 b_name)) ∷ []) ∷
    []

-- the rules give the claimed acts at each event
pub record DatesOnce : Type 0 where
  pub master : Answered (ordinary_use_a ++ date_a) (fresh_a)
  pub follower : Answered (ordinary_use_b ++ date_b) (fresh_b)
