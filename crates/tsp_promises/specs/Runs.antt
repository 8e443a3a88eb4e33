-- A port that runs by the rules of tsp_rules.
use Rattle.std.specs.Prelude.{◌≡◌, ◌≤◌, ℕ, List, [], ◌∷◌}
use Rattle.tsp_base.specs.Words.{Step, Past, Row, grown, in_step}
use Rattle.tsp_rules.specs.{Answers.Given, Answers.answers, CommonRows.boots}
use Rattle.tsp_promises.specs.{PortFits.PortFits, PortFits.setup_in, StepFacts.StepEnds}

-- what a step consists of: a boot, or the answer to what the port is given, a look at its timers or a datagram
pub data Makes : Type 0 where
  Boots : Makes
  Answers : Given → Makes

-- the acts of a step, as a row: acts that each depend on the past before them
abbrev pub row_of : Makes → Row
row_of Boots = boots
row_of (Answers g) = answers g

-- one step of a port, and the tick at which it happens
pub record Happening : Type 0 where
  pub step : Step
  pub tick : ℕ
  pub makes : Makes

-- the past after one step more
abbrev pub happens : Happening → Past → Past
happens h past = grown h.tick (in_step h.step h.tick past) (row_of h.makes h.tick (in_step h.step h.tick past))

-- the past after these steps, the newest first
abbrev pub ran : List Happening → Past → Past
ran [] past = past
ran (h ∷ before) past = happens h (ran before past)

-- the tick of the last step
abbrev pub last_tick : List Happening → ℕ
last_tick [] = 0
last_tick (h ∷ before) = h.tick

-- the steps are those of node n, and its ticks don't fall
abbrev pub Ordered : ℕ → List Happening → Type 0
Ordered n [] = Unit {0}
Ordered n (h ∷ before) = (last_tick before ≤ h.tick) × (h.step.node ≡ n) × Ordered n before

-- a port that has done nothing yet takes any steps by the rules: each of its deeds does what it owes, for what the port
-- is set up with (PortFits), and each step ends as it must (StepEnds)
abbrev pub RulesFit : Type 0
RulesFit = (past : Past) (hs : List Happening) → past.seen ≡ [] → Ordered past.own.0 hs → PortFits (setup_in past) (ran hs past).seen ×
    StepEnds (setup_in past) (ran hs past).seen
