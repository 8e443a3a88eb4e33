use Rattle.std.specs.Prelude.{◌≡◌, ◌==◌, ◌||◌, Bool, true, false, List, [], ◌∷◌, refl}
use Rattle.tsp_base.specs.declared.place.Port.{Port}
use Rattle.tsp_base.specs.Words.{Did, Line, is_shared, seen_as, view, did_of, plain, dids}

did_of_seen_as : (b : Bool) (d : Did) → did_of (seen_as b d) ≡ d
did_of_seen_as true d = refl
did_of_seen_as false d = refl

-- every port sees the whole of its node's deeds, so the node's facts are the same from each port
pub plain_view : (q : Port) (own : List Line) → plain (view q own) ≡ dids own
plain_view q [] = refl
plain_view q (l ∷ before) = rw (did_of_seen_as ((l.port.0 == q.0) || is_shared l.did.deed) l.did, plain_view q before) refl
