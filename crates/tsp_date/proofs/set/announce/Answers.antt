-- The sender is answered, the slaves leave, and the others hear of it.
use Rattle.std.proofs.Common.{refl, length, arith, ℕ, ◌+◌, ◌*◌, List}
use Rattle.tsp_base.{proofs.PerformsLemmas.Performs_then, specs.Words.PutsAtMost, specs.Words.PutsExactly}
use Rattle.tsp_rules.proofs.Emits.{Emits_posts_back, Emits_posts_to_others}
use Rattle.tsp_rules.specs.Values.{DateAck, MasterUp, Placed}
use Rattle.tsp_date.proofs.DateLemmas.{Performs_leaves, Performs_posting}
use Rattle.tsp_date.proofs.set.announce.Goals as goal

-- the room of the calls that tell of a date

-- an answer, and an act for each peer, twice
told_to_each : (n : ℕ) {room rest between left : ℕ} {old first mid new : List Placed} → PutsExactly 1 room rest old first →
    PutsAtMost n rest between first mid → PutsAtMost n between left mid new → PutsAtMost (2 * n + 1) room left old new
told_to_each n a b d = record { spare = omega arith; few = omega arith }

pub returns-clause-row : goal.returns-clause-row
returns-clause-row g c x s =
    Performs_then (Performs_posting (record s { master = c.args.master.now }) (Emits_posts_back c.args.from DateAck c.args.number refl)
    (c.post_back.ensures.row x))
    (Performs_then (Performs_leaves (record s { station = c.args.station.now }) (c.dismiss.ensures.row x))
    (Performs_posting (record s { master = _ }) (Emits_posts_to_others MasterUp 0 refl) (c.post_to_others.ensures.row x)))

pub returns-clause-room : goal.returns-clause-room
returns-clause-room g c = told_to_each (length c.args.station.now.peers) c.post_back.ensures.room c.dismiss.ensures.room c.post_to_others.ensures.room
