-- The lines of one node.
use Rattle.std.specs.Prelude.{◌≤◌, List}
use Rattle.tsp_rules.specs.Values.{Port}
use Rattle.tsp_base.specs.Words.{Line, dids, view, time_of, tick_of}
use Rattle.tsp_promises.specs.{DeedFits.DeedFits, Everywhere.Everywhere, Setting.Setting, Setting.setup_of}
use Rattle.tsp_promises.specs.Fits.{Alive, SameStep, Sees, node_of}

-- a line fits the lines of its node before it
pub record OwnLineFits (setting : Setting) (l : Line) (before : List Line) : Type 0 where
  pub time : time_of (dids before) ≤ l.did.step.at
  pub tick : tick_of (dids before) ≤ l.did.tick
  pub step : SameStep l.did.deed l.did.step (dids before)
  pub alive : Alive setting l.did.deed l.did (dids before)
  pub deeds : (q : Port) → Sees q l → DeedFits (setup_of setting (node_of l) q) l.did.deed l.did (view q before)

-- each line of the node fits those before it
abbrev pub OwnFits : Setting → List Line → Type 0
OwnFits setting = Everywhere (OwnLineFits setting)
