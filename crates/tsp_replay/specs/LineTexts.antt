-- The text of a line of the trace, and what it begins with.
use Rattle.std.specs.Prelude.{◌≡◌, ℕ, ◌≤◌, List, ◌++◌, length, take, decimal}
use Rattle.tsp_script.specs.Texts.{space}
use Rattle.tsp_run.specs.declared.line.Line.{Line}
use Rattle.tsp_replay.specs.declared.line_text.Beginning.{Beginning}

-- what a line has before its act
abbrev pub beginning_of : Line → Beginning
beginning_of l = record { event = l.event; node = l.node; port = l.placed.port; tick = l.tick }

-- the text of that
abbrev pub beginning_text : Beginning → List ℕ
beginning_text b = decimal b.event ++ space ++ decimal b.node ++ space ++ decimal b.port.0 ++ space ++ decimal b.tick ++ space

-- a text begins so, and that is so long
pub record BeginsWith (text : List ℕ) (beginning : Beginning) (len : ℕ) : Type 0 where
  pub is : take len text ≡ beginning_text beginning
  pub len_is : len ≡ length (beginning_text beginning)
  pub short : len ≤ 84
