-- A port does at once what the table has for an alarm that goes off, or for a datagram that it takes.
use Rattle.std.specs.Prelude.{◌≡◌, ℕ, Bool, true, false, List, [], ◌∷◌}
use Rattle.tsp_rules.specs.Values.{Ring, Late, Took, Alarm, Place, Taken, Good, Message, Kind, LoopKind, Event}
use Rattle.tsp_rules.specs.{Answers.alarm_rings, Answers.takes, GateRows.in_charge, GateRows.leads_clock, GateRows.steers, GateRows.waits}
use Rattle.tsp_rules.specs.NodeRows.{NodePast, on_port}
use Rattle.tsp_base.specs.Words.{Acts, Deed, HeaderValue, Line, Past, Row, Within, joined, of, placed}
use Rattle.tsp_run.specs.{Clocked.Clocks, Clocked.run_by, Run.run, Setup.past_of, Setup.rests}

-- a node as it is set up, before anything
abbrev pub set_up : NodePast → NodePast
set_up past = record past { step = rests 0; lines = [] }

-- this node of a header
abbrev pub node_in : HeaderValue → ℕ → NodePast
node_in header n = set_up (past_of header (rests n) [])

-- the past of a node when its line l came, after these lines of it
abbrev pub before_line : NodePast → Line → List Line → NodePast
before_line node l older = record node { step = l.did.step; lines = older }

-- that of the line's port
abbrev pub port_before : NodePast → Line → List Line → Past
port_before node l older = on_port l.port (before_line node l older)

-- from the line on, the acts of this row stand in the node's lines, on the line's port, one after the other
abbrev pub RowStands : Row → NodePast → Line → List Line → List Line → Type 0
RowStands row node l older lines = Within (joined l.did.step l.did.tick (placed l.port (row l.did.tick (port_before node l older))) older) lines

-- the row of an alarm that goes off at the line
abbrev pub alarm_row : NodePast → Line → List Line → Alarm → Row
alarm_row node l older a = alarm_rings (leads_clock l.port l.did.tick (before_line node l older)) (waits l.port l.did.tick (before_line node l older)) a

-- the row of a datagram that is taken there
abbrev pub taking_row : NodePast → Line → List Line → Place → Taken → Row
taking_row node l older from t =
    takes (steers l.port l.did.tick (before_line node l older)) (in_charge l.port l.did.tick (before_line node l older)) from t

-- LOOPs are for the node, not for its port
abbrev pub is_loop_kind : Kind → Bool
is_loop_kind LoopKind = true
is_loop_kind _ = false

abbrev pub is_loop : Taken → Bool
is_loop (Good (Message m)) = is_loop_kind m.kind
is_loop _ = false

-- what a deed at the line asks for: after an act on an alarm, and after a datagram that is no LOOP, the row's acts follow
abbrev pub TableAt : Deed → NodePast → Line → List Line → List Line → Type 0
TableAt (Acts (Ring a)) node l older lines = RowStands (alarm_row node l older a) node l older lines
TableAt (Acts (Late a)) node l older lines = RowStands (alarm_row node l older a) node l older lines
TableAt (Acts (Took from t)) node l older lines = is_loop t ≡ false → RowStands (taking_row node l older from t) node l older lines
TableAt _ node l older lines = Unit {0}

-- so it is of each line of a node
abbrev pub KeepsTable : NodePast → List Line → Type 0
KeepsTable node lines = (l : Line) (older : List Line) → Within (l ∷ older) lines → TableAt l.did.deed node l older lines

-- and of each node of a header
abbrev pub ByTable : HeaderValue → List Line → Type 0
ByTable header world = (n : ℕ) → KeepsTable (node_in header n) (of n world)

-- of every run, whatever octets come and whenever
abbrev pub RunsByTable : Type 0
RunsByTable = (header : HeaderValue) (events : List Event) → ByTable header (run header events)

-- and of every run by any clocks
abbrev pub ClockedRunsByTable : Type 0
ClockedRunsByTable = (clocks : Clocks) (header : HeaderValue) (events : List Event) → ByTable header (run_by clocks header events)
