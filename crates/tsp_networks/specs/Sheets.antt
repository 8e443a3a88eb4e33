-- The acts on a sheet of lines, and its room.
use Rattle.std.specs.Prelude.{ℕ, List, map}
use Rattle.tsp_rules.specs.Values.{Placed}
use Rattle.tsp_run.specs.declared.line.Line.{Line}
use Rattle.tsp_networks.specs.declared.sheet.Sheet.{Sheet}

-- the act of a line, and its port
abbrev pub placed_in : Line → Placed
placed_in line = line.placed

-- the acts put on a sheet so far
abbrev pub acts_on : Sheet → List Placed
acts_on sheet = map placed_in sheet.lines.items

-- the room left on a sheet
abbrev pub spare_on : Sheet → ℕ
spare_on sheet = sheet.spare
