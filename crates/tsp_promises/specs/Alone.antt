-- A node with one port, and that port alone.
use Rattle.std.specs.Prelude.{◌≡◌, ℕ, List, [], ◌∷◌}
use Rattle.tsp_base.specs.Words.{Step, first_port, placed}
use Rattle.tsp_promises.specs.NodeRuns.{NodeMakes, NodeBoots, NodeAnswers, NodeHappening, NodeOrdered, node_ran}
use Rattle.tsp_promises.specs.Runs.{Makes, Boots, Answers, Happening, ran}
use Rattle.tsp_rules.specs.Answers.{Given, Turn, Got, answers}
use Rattle.tsp_rules.specs.{CommonRows.boots, NodeRows.NodePast, NodeRows.PortSetup, NodeRows.in_node_step, NodeRows.on_port}
use Rattle.tsp_rules.specs.GateRows.{NodeGiven, NodeTurn, GotOn, answers_all, boots_all}

-- what a step is given, without the port on which it comes
abbrev pub given_alone : NodeGiven → Given
given_alone NodeTurn = Turn
given_alone (GotOn q from t) = Got from t

-- a step of a node, as one of its only port
abbrev pub makes_alone : NodeMakes → Makes
makes_alone NodeBoots = Boots
makes_alone (NodeAnswers g) = Answers (given_alone g)

abbrev pub happening_alone : NodeHappening → Happening
happening_alone h = record { step = h.step; tick = h.tick; makes = makes_alone h.makes }

-- the steps of a node, as those of its only port
abbrev pub steps_alone : List NodeHappening → List Happening
steps_alone [] = []
steps_alone (h ∷ before) = happening_alone h ∷ steps_alone before

-- a node that is set up with one port, and has done nothing yet
pub record IsNew (past : NodePast) (s : PortSetup) : Type 0 where
  pub ports : past.ports ≡ s ∷ []
  pub lines : past.lines ≡ []

-- after any steps, such a node answers what its only port answers
abbrev pub AnswersAlone : Type 0
AnswersAlone = (past : NodePast) (s : PortSetup) (hs : List NodeHappening) (step : Step) (x : ℕ) (g : NodeGiven) → IsNew past s →
    NodeOrdered s.own.0 1 (record { step = step; tick = x; makes = NodeAnswers g } ∷ hs) →
    answers_all g x (in_node_step step x (node_ran hs past)) ≡ placed first_port (answers (given_alone g) x
    (on_port first_port (in_node_step step x (node_ran hs past))))

-- a node with one port boots as that port does
abbrev pub BootsAlone : Type 0
BootsAlone = (x : ℕ) (past : NodePast) (s : PortSetup) → past.ports ≡ s ∷ [] → boots_all x past ≡ placed first_port (boots x (on_port first_port past))

-- so it runs as that port does
abbrev pub RunsAlone : Type 0
RunsAlone = (past : NodePast) (s : PortSetup) (hs : List NodeHappening) → IsNew past s → NodeOrdered s.own.0 1 hs → on_port first_port (node_ran hs past) ≡
    ran (steps_alone hs) (on_port first_port past)
