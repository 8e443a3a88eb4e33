-- Which lines are a trace's, and the values of each.
use Rattle.std.specs.Prelude.{◌≡◌, ℕ, ◌<◌, ◌^◌, List}
use Rattle.std.specs.{Int.w64, Int.RustNames.FitsSigned, declared.result.Result.Result}
use Rattle.std.specs.declared.result.Result.TheVariants.{Ok, Err}
use Rattle.tsp_base.specs.declared.{act.Act.Act, datagram.Taken.Taken, datagram.Taken.TheVariants.Good, datagram.Taken.TheVariants.Bad}
use Rattle.tsp_base.specs.declared.act.Act.TheVariants.{Boot, Took, Post, Become, Back, Backer, Quit, Arm, Ring, Late, Join, Leave, Rival, Acked, Gave, Sample}
use Rattle.tsp_base.specs.declared.act.Act.TheVariants.{Close, Correct, Abandon, Trace}
use Rattle.tsp_base.specs.declared.{role.Role.Role, trace.Line2.Line2}
use Rattle.tsp_base.specs.declared.role.Role.TheVariants.{Starting, Loose, Follow, Candidate, Master}
use Rattle.tsp_script.specs.{Ranges.IsDatagram, Schedules.IsPlace, Traces.trace_text, declared.line_fault.LineFault.LineFault}
use Rattle.tsp_script.specs.declared.line_fault.LineFault.TheVariants.{Bad as BadLine}

-- what was taken is a datagram in its range, or a fault
abbrev pub IsTaken : Taken → Type 0
IsTaken (Good d) = IsDatagram d
IsTaken (Bad f) = Unit {0}

-- a master has a peer's number in its range
abbrev pub IsRole : Role → Type 0
IsRole (Follow p) = p.0 < 2 ^ 32
IsRole Starting = Unit {0}
IsRole Loose = Unit {0}
IsRole Candidate = Unit {0}
IsRole Master = Unit {0}

-- an act whose parts are in their ranges
abbrev pub IsAct : Act → Type 0
IsAct Boot = Unit {0}
IsAct (Took from taken) = IsPlace from × IsTaken taken
IsAct (Post to d) = IsPlace to × IsDatagram d
IsAct (Become role) = IsRole role
IsAct (Back p) = p.0 < 2 ^ 32
IsAct (Backer p) = p.0 < 2 ^ 32
IsAct (Quit p) = p.0 < 2 ^ 32
IsAct (Arm alarm at) = at < 2 ^ 64
IsAct (Ring alarm) = Unit {0}
IsAct (Late alarm) = Unit {0}
IsAct (Join p) = p.0 < 2 ^ 32
IsAct (Leave p) = p.0 < 2 ^ 32
IsAct (Rival p) = p.0 < 2 ^ 32
IsAct (Acked p) = p.0 < 2 ^ 32
IsAct (Gave p) = p.0 < 2 ^ 32
IsAct (Sample p counter diff err ticket) = (p.0 < 2 ^ 32) × (counter < 2 ^ 64) × FitsSigned w64 diff × FitsSigned w64 err × (ticket < 2 ^ 16)
IsAct (Close count lo width mean) = (count < 2 ^ 32) × FitsSigned w64 lo × FitsSigned w64 width × FitsSigned w64 mean
IsAct (Correct amount stepped shown) = FitsSigned w64 amount × FitsSigned w64 shown
IsAct Abandon = Unit {0}
IsAct (Trace on) = Unit {0}

-- the number is right for the act: any number for a post, its datagram's, and 0 for every other act
abbrev pub IsNumberOf : Act → ℕ → Type 0
IsNumberOf (Post to d) number = number < 2 ^ 64
IsNumberOf _ number = number ≡ 0

-- an act that posts nothing, whose parts are in their ranges
abbrev pub IsSilent : Act → Type 0
IsSilent a = IsAct a × IsNumberOf a 0

-- a line's values are in their ranges
pub record IsLine2 (l : Line2) : Type 0 where
  pub event : l.event < 2 ^ 64
  pub node : l.node < 2 ^ 32
  pub port : l.placed.port.0 < 2 ^ 8
  pub tick : l.tick < 2 ^ 64
  pub number : IsNumberOf l.placed.act l.number
  pub act : IsAct l.placed.act

-- a text is the trace's line of these values
abbrev pub SpellsTrace : List ℕ → Line2 → Type 0
SpellsTrace line l = IsLine2 l × (line ≡ trace_text l.event l.node l.tick l.number l.placed)

-- what reading a line of a trace gives: its values, or `Bad` where no values are written so
abbrev pub ReadsTrace : List ℕ → Result Line2 LineFault → Type 0
ReadsTrace line (Ok l) = SpellsTrace line l
ReadsTrace line (Err BadLine) = (l : Line2) → SpellsTrace line l → ⊥
