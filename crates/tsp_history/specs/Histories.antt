-- The history that noted lines are.
use Rattle.std.specs.Prelude.{List, [], ◌∷◌, Option, None, Some}
use Rattle.tsp_base.specs.declared.act.Act.{Act}
use Rattle.tsp_base.specs.Words.{Cause, Booted, Turned, Came, Handed, Deed, Begins, Acts, Line}
use Rattle.tsp_history.specs.declared.line.{HistoryLine.HistoryLine, Why.Why}
use Rattle.tsp_history.specs.declared.line.Why.TheVariants.{Booted as ByBoot, Turned as ByTurn, Came as ByPost, Handed as ByHand}

-- why a step happens, as a cause of the history
abbrev pub cause_of : Why → Cause
cause_of (ByBoot word wall) = Booted word wall
cause_of ByTurn = Turned
cause_of (ByPost k) = Came k
cause_of ByHand = Handed

-- the mark where there is no act, else the act
abbrev pub deed_of : Option Act → Deed
deed_of None = Begins
deed_of (Some a) = Acts a

-- a noted line as a line of a history
abbrev pub line_of : HistoryLine → Line
line_of n = record { port = n.port; did = record { step = record { at = n.at; node = n.node; cause = cause_of n.why }; tick = n.tick; deed = deed_of n.act } }

-- a history, and then these lines, oldest first
abbrev pub noted_after : List Line → List HistoryLine → List Line
noted_after h [] = h
noted_after h (n ∷ rest) = noted_after (line_of n ∷ h) rest

-- the history of these lines, oldest first
abbrev pub history_of : List HistoryLine → List Line
history_of ns = noted_after [] ns
