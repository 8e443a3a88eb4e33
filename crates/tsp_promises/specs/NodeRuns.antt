-- A node that runs by the rules, over all its ports.
use Rattle.std.specs.Prelude.{◌≡◌, ◌≤◌, ◌<◌, ℕ, List, [], ◌∷◌, length}
use Rattle.tsp_rules.specs.NodeRows.{NodePast, NodeRow, port_setup, on_port, spread, in_node_step}
use Rattle.tsp_rules.specs.{GateRows.NodeGiven, GateRows.NodeTurn, GateRows.GotOn, GateRows.answers_all, GateRows.boots_all, Values.Port}
use Rattle.tsp_base.specs.Words.{Step, view}
use Rattle.tsp_promises.specs.{PortFits.PortFits, PortFits.setup_in, StepFacts.StepEnds}

-- what a step consists of: a boot, or the answer to what the node is given, a look at its timers or a datagram
pub data NodeMakes : Type 0 where
  NodeBoots : NodeMakes
  NodeAnswers : NodeGiven → NodeMakes

-- the acts of a step, each on its port, as a row: acts that each depend on the past before them
abbrev pub node_row_of : NodeMakes → NodeRow
node_row_of NodeBoots = boots_all
node_row_of (NodeAnswers g) = answers_all g

-- one step of a node, and the tick at which it happens
pub record NodeHappening : Type 0 where
  pub step : Step
  pub tick : ℕ
  pub makes : NodeMakes

-- the past after one step more
abbrev pub node_happens : NodeHappening → NodePast → NodePast
node_happens h past = spread h.tick (in_node_step h.step h.tick past) (node_row_of h.makes h.tick (in_node_step h.step h.tick past))

-- the past after these steps, the newest first
abbrev pub node_ran : List NodeHappening → NodePast → NodePast
node_ran [] past = past
node_ran (h ∷ before) past = node_happens h (node_ran before past)

-- the tick of the last step
abbrev pub node_tick : List NodeHappening → ℕ
node_tick [] = 0
node_tick (h ∷ before) = h.tick

-- what is given comes on one of the node's ports
abbrev pub IsGivenOn : ℕ → NodeMakes → Type 0
IsGivenOn ports NodeBoots = Unit {0}
IsGivenOn ports (NodeAnswers NodeTurn) = Unit {0}
IsGivenOn ports (NodeAnswers (GotOn q from t)) = q.0 < ports

-- the steps are those of node n with so many ports, and its ticks don't fall
abbrev pub NodeOrdered : ℕ → ℕ → List NodeHappening → Type 0
NodeOrdered n ports [] = Unit {0}
NodeOrdered n ports (h ∷ before) = (node_tick before ≤ h.tick) × (h.step.node ≡ n) × IsGivenOn ports h.makes × NodeOrdered n ports before

-- a node that has done nothing yet, and has its own number on each port, takes any steps by the rules: each deed of
-- each port does what it owes, for what that port is set up with, and each step ends as it must
abbrev pub NodesFit : Type 0
NodesFit = (past : NodePast) (n : ℕ) (hs : List NodeHappening) → past.lines ≡ [] → ((q : Port) → q.0 < length past.ports → (port_setup q past).own.0 ≡ n) →
    NodeOrdered n (length past.ports) hs →
    (q : Port) → q.0 < length past.ports → PortFits (setup_in (on_port q past)) (view q (node_ran hs past).lines) ×
    StepEnds (setup_in (on_port q past)) (view q (node_ran hs past).lines)
