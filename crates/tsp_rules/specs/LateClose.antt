-- A round that is closed at the last tick that is in time, and one that is closed too late.
use Rattle.std.specs.Prelude.{pos, true, false, List, [], ◌∷◌, ◌++◌, take}
use Rattle.tsp_rules.specs.Values.{Boot, Become, Arm, Ring, Late, Back, Abandon, Close, Correct, Quiet, Window, Elect, Search, Round, Probe, CloseAlarm}
use Rattle.tsp_rules.specs.Values.{Starting, Loose, Candidate, Master}
use Rattle.tsp_base.specs.Words.{Past, peer_of as peer}
use Rattle.tsp_rules.specs.Scripts.{Event, boots_at, turn_at, a_name, fresh, after, Answered, Is}

-- a node alone, whose Close is handled one second after its deadline
abbrev pub late_close_in_time : List Event
late_close_in_time =
    boots_at 0 0 0 (pos 0) (Boot ∷ Become Starting ∷ Arm Quiet 80000000 ∷ []) ∷
    turn_at 0 80000000 (Ring Quiet ∷ Become Loose ∷ Arm Search 85000000 ∷ []) ∷
    turn_at 0 85000000 (Ring Search ∷ Arm Elect 385000000 ∷ []) ∷
    turn_at 0 385000000 (Ring Elect ∷ Become Candidate ∷ Back (peer 0) ∷ Arm Window 390000000 ∷ []) ∷
    turn_at 0 390000000 (Ring Window ∷ Become Master ∷ Arm Round 630000000 ∷ []) ∷
    turn_at 0 630000000 (Ring Round ∷ Arm Round 870000000 ∷ Arm Probe 631000000 ∷ Arm CloseAlarm 638000000 ∷ []) ∷
    turn_at 0 631000000 (Ring Probe ∷ Arm Probe 632000000 ∷ []) ∷
    turn_at 0 632000000 (Ring Probe ∷ Arm Probe 633000000 ∷ []) ∷
    turn_at 0 633000000 (Ring Probe ∷ []) ∷
    turn_at 0 639000000 (Ring CloseAlarm ∷ Close 1 (pos 0) (pos 0) (pos 0) ∷ Correct (pos 0) false (pos 639000000) ∷ []) ∷
    []

-- the same, with the Close handled one tick later
abbrev pub late_close_too_late : List Event
late_close_too_late = take 9 late_close_in_time ++
    turn_at 0 639000001 (Late CloseAlarm ∷ Abandon ∷ []) ∷
    []

-- it has no peer
abbrev pub fresh_alone : Past
fresh_alone = fresh 0 a_name true (peer 0 ∷ [])

-- the rules give the claimed acts at each event, and lead to these states
pub record ClosesLate : Type 0 where
  pub in_time : Answered late_close_in_time fresh_alone
  pub too_late : Answered late_close_too_late fresh_alone
  pub moved : Is (after late_close_in_time fresh_alone) Master 1 639000000 (pos 639000000) (pos 639000000)
  pub unmoved : Is (after late_close_too_late fresh_alone) Master 0 639000001 (pos 639000001) (pos 639000001)
