-- How a master forgets its slaves.
use Rattle.std.specs.Prelude.{◌≡◌, Bool, true, false}
use Rattle.tsp_measure.specs.Slaves.{ChangesAll, leaves, peers_of}
use Rattle.tsp_master.specs.declared.master.Master.{Master}

-- all slaves are forgotten, and the round; the last corrections stay
pub record Cleared (old new : Master) : Type 0 where
  pub slaves : ChangesAll leaves old.slaves new.slaves
  pub peers : peers_of new.slaves ≡ peers_of old.slaves
  pub rounds : new.rounds ≡ old.rounds

-- the same, where it is asked for
abbrev pub Clears : Bool → Master → Master → Type 0
Clears true old new = Cleared old new
Clears false old new = new ≡ old
