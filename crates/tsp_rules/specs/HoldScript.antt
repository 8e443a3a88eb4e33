-- A node that is asked to back two candidates, and boots again.
use Rattle.std.specs.Prelude.{◌≡◌, pos, false, List, [], ◌∷◌, take, Some, None}
use Rattle.tsp_rules.specs.Values.{Boot, Post, Become, Arm, Ring, Back, Quiet, Elect, Search, Message, Accept, Election, MasterReq, Refuse, Peer}
use Rattle.tsp_rules.specs.Values.{Starting, Loose}
use Rattle.tsp_base.specs.Words.{Past, held, bare, open_send, peer_of as peer}
use Rattle.tsp_rules.specs.Scripts.{Event, boots_at, turn_at, hands, a_name, b_name, c_name, fresh, after, Answered, Is}

-- node a, which may not be master
abbrev pub hold_a : List Event
hold_a =
    boots_at 0 0 0 (pos 0) (Boot ∷ Become Starting ∷ Arm Quiet 80000000 ∷ []) ∷
    turn_at 0 80000000 (Ring Quiet ∷ Become Loose ∷ Arm Search 85000000 ∷ Post (Peer (peer 1)) (Message (bare MasterReq 0 a_name)) ∷
    Post (Peer (peer 2)) (Message (bare MasterReq 0 a_name)) ∷ []) ∷
    turn_at 0 85000000 (Ring Search ∷ Arm Elect 385000000 ∷ []) ∷
    hands 0 90000000 (Peer (peer 1)) (Message (bare Election 32768 b_name))
    (Back (peer 1) ∷ Arm Elect 390000000 ∷ Post (Peer (peer 1)) (Message (bare Accept 32768 a_name)) ∷ []) ∷
    hands 0 149999999 (Peer (peer 2)) (Message (bare Election 32768 c_name)) (Post (Peer (peer 2)) (Message (bare Refuse 32768 a_name)) ∷ []) ∷
    hands 0 150000000 (Peer (peer 2)) (Message (bare Election 32768 c_name))
    (Back (peer 2) ∷ Arm Elect 450000000 ∷ Post (Peer (peer 2)) (Message (bare Accept 32768 a_name)) ∷ []) ∷
    boots_at 0 151000000 1 (pos 151000000) (Boot ∷ Become Starting ∷ Arm Quiet 231000000 ∷ []) ∷
    hands 0 160000000 (Peer (peer 1)) (Message (bare Election 32768 b_name)) [] ∷
    []

-- it has two peers
abbrev pub fresh_held : Past
fresh_held = fresh 0 a_name false (peer 0 ∷ peer 1 ∷ peer 2 ∷ [])

-- the rules give the claimed acts at each event, and lead to these states
pub record HoldsOne : Type 0 where
  pub acts : Answered hold_a fresh_held
  -- the port still holds the first candidate when the second asks, and backs the second as soon as the hold is over
  pub first : held (after (take 5 hold_a) fresh_held).seen ≡ record { boot = 0; back = Some (90000000, peer 1); quit = None }
  pub second : held (after (take 6 hold_a) fresh_held).seen ≡ record { boot = 0; back = Some (150000000, peer 2); quit = None }
  pub loose : Is (after (take 6 hold_a) fresh_held) Loose 0 150000000 (pos 150000000) (pos 150000000)
  -- after a boot nothing is remembered, and no candidate is answered in the quiet time
  pub reboots : Is (after hold_a fresh_held) Starting 1 160000000 (pos 160000000) (pos 160000000)
  pub forgets : held (after hold_a fresh_held).seen ≡ record { boot = 151000000; back = None; quit = None }
  pub silent : open_send (peer 1) (after hold_a fresh_held).seen ≡ None
