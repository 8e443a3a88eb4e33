-- When a node that answered a stamp request leads.
use Rattle.std.specs.Prelude.{◌≡◌, ℕ, ◌+◌, ◌≤◌, List, ◌∷◌}
use Rattle.tsp_rules.specs.Values.{Master, Port}
use Rattle.tsp_base.specs.Words.{Line, of, dids, role, time_of, view, Within}
use Rattle.tsp_promises.specs.{Fits.node_of}

-- node m posted the line `stamp`, and at the place `named`, at most 299 seconds later, it leads on port q: it names itself as the master
pub record LeadsAfter (m : ℕ) (stamp : Line) (older named : List Line) : Type 0 where
  pub node : node_of stamp ≡ m
  pub place : Within (stamp ∷ older) named
  pub port : Port
  pub leads : role (view port (of m named)) ≡ Master
  pub soon : time_of (dids named) ≤ stamp.did.step.at + 299000000
