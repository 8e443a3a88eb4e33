-- Rows of a node over all its ports.
use Rattle.std.specs.Prelude.{ℕ, Bool, if◌then◌else◌, List, [], ◌∷◌, ◌++◌, slice_index_or}
use Rattle.tsp_rules.specs.{Values.Abandon, Values.Placed, Values.PeerId, Values.Port, RoundRows.corrects}
use Rattle.tsp_base.specs.Words.{Begins, Step, Line, Past, view, first_port, joined, line_of, is_going, Row, placed}

-- how a port is set up: the node's number on its network, and all peers there
pub record PortSetup : Type 0 where
  pub own : PeerId
  pub peers : List PeerId

-- a node's past, over all its ports and lives; its lines have the newest first
pub record NodePast : Type 0 where
  pub name : List ℕ
  pub may : Bool
  pub strict : Bool
  pub ports : List PortSetup
  pub step : Step
  pub lines : List Line

-- the setup of a port that the node doesn't have
abbrev pub no_port : PortSetup
no_port = record { own = record { 0 = 0 }; peers = [] }

-- how port q is set up
abbrev pub port_setup : Port → NodePast → PortSetup
port_setup q past = slice_index_or past.ports q.0 no_port

-- what port q sees of its node's past
abbrev pub on_port : Port → NodePast → Past
on_port q past = record {
  own = (port_setup q past).own;
  name = past.name;
  may = past.may;
  strict = past.strict;
  port = q;
  peers = (port_setup q past).peers;
  step = past.step;
  seen = view q past.lines;
}

-- the node's past after these acts in its step, each on its port
abbrev pub spread : ℕ → NodePast → List Placed → NodePast
spread x past acts = record past { lines = joined past.step x acts past.lines }

-- the node's past when this step begins, at a tick
abbrev pub in_node_step : Step → ℕ → NodePast → NodePast
in_node_step step x past = record past { step = step; lines = line_of step x first_port Begins ∷ past.lines }

-- what a node does at a tick, after a past
abbrev pub NodeRow : Type 0
NodeRow = ℕ → NodePast → List Placed

-- nothing is done
unfoldable pub nothing_at_all : NodeRow
nothing_at_all x past = []

-- a port's row
unfoldable pub on : Port → Row → NodeRow
on q row x past = placed q (row x (on_port q past))

-- the second row is read after the acts of the first
infixr 20 ◌and_then◌
unfoldable pub ◌and_then◌ : NodeRow → NodeRow → NodeRow
(r and_then s) x past = r x past ++ s x (spread x past (r x past))

-- the row is chosen by a fact of the node's past
unfoldable pub reading_all : {A : Type 0} → (ℕ → NodePast → A) → (A → NodeRow) → NodeRow
reading_all fact rows x past = rows (fact x past) x past

-- a row for each of these ports, one after the other
unfoldable pub for_ports : (Port → NodeRow) → List Port → NodeRow
for_ports r [] = nothing_at_all
for_ports r (q ∷ rest) = r q and_then for_ports r rest

-- a port's round is given up, where one goes on
unfoldable pub abandons_on : Port → NodeRow
abandons_on q x past = if is_going (view q past.lines) then record { port = q; act = Abandon } ∷ [] else []

-- a port's row; where it has corrected the clock, the round of each of these ports is then given up
unfoldable pub stirring : Port → List Port → Row → NodeRow
stirring q others row x past =
    on q row x past ++ (if corrects (row x (on_port q past)) then for_ports abandons_on others x (spread x past (on q row x past)) else [])
