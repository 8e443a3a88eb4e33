-- Strict elections: a majority wins, and half of the peers doesn't.
use Rattle.std.specs.Prelude.{true, List, [], ◌∷◌, ◌++◌, take}
use Rattle.tsp_rules.specs.Values.{Become, Arm, Ring, Gave, Window, Elect, Loose}
use Rattle.tsp_base.specs.Words.{peer_of as peer}
use Rattle.tsp_rules.specs.{LateClose.late_close_in_time, LateClose.fresh_alone, OrdinaryUse.ordinary_use_a, OrdinaryUse.fresh_a}
use Rattle.tsp_rules.specs.{RivalsScript.rivals_a, RivalsScript.fresh_rival, Scripts.Event, Scripts.turn_at, Scripts.Answered}

-- a candidate of two peers, backed by itself alone, when its window ends
abbrev pub outvoted_a : List Event
outvoted_a =
    turn_at 0 390000000 (Gave (peer 1) ∷ Ring Window ∷ Become Loose ∷ Arm Elect 690000000 ∷ []) ∷
    []

-- the rules give the claimed acts at each event
pub record WinsByMajority : Type 0 where
  pub wins : Answered (ordinary_use_a) (record fresh_a { strict = true })
  pub outvoted : Answered (take 4 rivals_a ++ outvoted_a) (record fresh_rival { strict = true })
  pub alone : Answered (late_close_in_time) (record fresh_alone { strict = true })
