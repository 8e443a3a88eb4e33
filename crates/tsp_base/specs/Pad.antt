-- A pad's acts and its room.
use Rattle.std.specs.Prelude.{ℕ, List}
use Rattle.tsp_base.specs.declared.{act.Placed.Placed, pad.Pad.Pad}

-- the acts on a pad
abbrev pub acts_of : Pad → List Placed
acts_of pad = pad.placed.items

-- the room left on a pad
abbrev pub spare_of : Pad → ℕ
spare_of pad = pad.spare
