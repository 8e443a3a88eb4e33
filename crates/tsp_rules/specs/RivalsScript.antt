-- Two masters, of which one sends the other away.
use Rattle.std.specs.Prelude.{◌≡◌, pos, true, List, [], ◌∷◌, take, Some, None}
use Rattle.tsp_rules.specs.Values.{Boot, Post, Become, Arm, Ring, Back, Acked, Gave, Rival, Quit, Quiet, Window, Elect, Search, Round, ResolveAlarm, Message}
use Rattle.tsp_rules.specs.Values.{Ack, Election, MasterAck, MasterReq, MasterUp, QuitKind, ResolveKind, SlaveUp, Test, Peer, Stranger, Starting, Loose, Follow}
use Rattle.tsp_rules.specs.Values.{Candidate, Master}
use Rattle.tsp_base.specs.Words.{Past, is_rival, bare, open_send, peer_of as peer}
use Rattle.tsp_rules.specs.Scripts.{Event, boots_at, turn_at, hands, a_name, b_name, fresh, after, Answered, Is}

-- node a: it is elected, finds a rival, sends it away, and is sent away itself
abbrev pub rivals_a : List Event
rivals_a =
    boots_at 0 0 0 (pos 0) (Boot ∷ Become Starting ∷ Arm Quiet 80000000 ∷ []) ∷
    turn_at 0 80000000 (Ring Quiet ∷ Become Loose ∷ Arm Search 85000000 ∷ Post (Peer (peer 1)) (Message (bare MasterReq 0 a_name)) ∷ []) ∷
    turn_at 0 85000000 (Ring Search ∷ Arm Elect 385000000 ∷ []) ∷
    turn_at 0 385000000 (Ring Elect ∷ Become Candidate ∷ Back (peer 0) ∷ Arm Window 390000000 ∷
    Post (Peer (peer 1)) (Message (bare Election 32768 a_name)) ∷ []) ∷
    turn_at 0 390000000 (Gave (peer 1) ∷ Ring Window ∷ Become Master ∷ Arm Round 630000000 ∷ Post (Peer (peer 1)) (Message (bare MasterUp 0 a_name)) ∷ []) ∷
    hands 0 391000000 (Peer (peer 1)) (Message (bare MasterUp 0 b_name))
    (Arm ResolveAlarm 396000000 ∷ Post (Peer (peer 1)) (Message (bare ResolveKind 0 a_name)) ∷ []) ∷
    hands 0 392000000 (Peer (peer 1)) (Message (bare MasterAck 0 b_name)) (Rival (peer 1) ∷ []) ∷
    turn_at 0 396000000 (Ring ResolveAlarm ∷ Post (Peer (peer 1)) (Message (bare QuitKind 32769 a_name)) ∷ []) ∷
    turn_at 0 397000000 (Post (Peer (peer 1)) (Message (bare QuitKind 32769 a_name)) ∷ []) ∷
    hands 0 397500000 (Peer (peer 1)) (Message (bare Ack 32769 b_name)) (Acked (peer 1) ∷ []) ∷
    hands 0 398000000 (Peer (peer 1)) (Message (bare QuitKind 32773 b_name))
    (Quit (peer 1) ∷ Post (Peer (peer 1)) (Message (bare Ack 32773 a_name)) ∷ Become (Follow (peer 1)) ∷ Arm Elect 698000000 ∷
    Post (Peer (peer 1)) (Message (bare SlaveUp 0 a_name)) ∷ []) ∷
    hands 0 398500000 Stranger (Message (bare Test 2 b_name)) (Post Stranger (Message (bare Ack 2 a_name)) ∷ []) ∷
    []

-- only a acts
abbrev pub fresh_rival : Past
fresh_rival = fresh 0 a_name true (peer 0 ∷ peer 1 ∷ [])

-- the rules give the claimed acts at each event, and lead to these states
pub record MeetsRival : Type 0 where
  pub acts : Answered rivals_a fresh_rival
  pub found : is_rival (peer 1) (after (take 7 rivals_a) fresh_rival).seen ≡ true
  -- the QUIT is open after its first post and after its repeat, and not after its ACK
  pub begins : open_send (peer 1) (after (take 8 rivals_a) fresh_rival).seen ≡ Some (record {
    began = 396000000;
    posts = 1;
    message = bare QuitKind 32769 a_name;
  })
  pub repeats : open_send (peer 1) (after (take 9 rivals_a) fresh_rival).seen ≡ Some (record {
    began = 396000000;
    posts = 2;
    message = bare QuitKind 32769 a_name;
  })
  pub ends : open_send (peer 1) (after (take 10 rivals_a) fresh_rival).seen ≡ None
  pub leads : Is (after (take 10 rivals_a) fresh_rival) Master 0 397500000 (pos 397500000) (pos 397500000)
  -- taking a QUIT ends the role of master
  pub follows : Is (after rivals_a fresh_rival) (Follow (peer 1)) 0 398500000 (pos 398500000) (pos 398500000)
