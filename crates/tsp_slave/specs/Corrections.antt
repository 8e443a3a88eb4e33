-- Whether a call has corrected the clock.
use Rattle.std.specs.Prelude.{◌≡◌, Bool, List, ◌++◌}
use Rattle.tsp_base.specs.Words.{placed}
use Rattle.tsp_rules.specs.{RoundRows.corrects, Values.Act, Values.Placed, Values.Port}

-- this says whether one of the acts that a call has put on the desk corrects the clock
abbrev pub TellsCorrection : Bool → Port → List Placed → List Placed → Type 0
TellsCorrection corrected port old new = (acts : List Act) → new ≡ old ++ placed port acts → corrected ≡ corrects acts
