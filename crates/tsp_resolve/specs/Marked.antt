-- Marks of a port's peers.
use Rattle.std.specs.Prelude.{Bool, if◌then◌else◌, List, [], ◌∷◌}
use Rattle.tsp_rules.specs.Values.{PeerId}

-- the peers whose mark is set; the marks are in the order of the peers
abbrev pub marked : List PeerId → List Bool → List PeerId
marked [] marks = []
marked (p ∷ peers) [] = []
marked (p ∷ peers) (mark ∷ marks) = if mark then p ∷ marked peers marks else marked peers marks
