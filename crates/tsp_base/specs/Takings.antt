-- What a step takes, and how long its node has been left alone.
use Rattle.std.specs.Prelude.{◌≡◌, ℕ, ◌+◌, ℤ, pos, List, [], ◌∷◌, Option, None, Some}
use Rattle.tsp_base.specs.declared.{act.Act.TheVariants.Post, datagram.Datagram.Datagram, datagram.Taken.TheVariants.Good}
use Rattle.tsp_base.specs.declared.{message.Body.Body, message.Body.TheVariants.Time, place.PeerId.PeerId, place.Place.Place}
use Rattle.tsp_base.specs.declared.place.Place.TheVariants.{Peer}
use Rattle.tsp_base.specs.History.{Did, Deed, Begins, Acts, Seen}
use Rattle.tsp_base.specs.{NodeFacts.all_corrects, NodeFacts.lives, PortFacts.Received, PortFacts.taken, PortFacts.taken_after}

-- the node's number as its peers write it
abbrev pub peer_of : ℕ → PeerId
peer_of n = record { 0 = n }

-- the step has taken this datagram on this port, and the sender seems to be this place
abbrev pub TakesFrom : List Seen → Place → Datagram → Type 0
TakesFrom seen from datagram = taken seen ≡ Some (record { from = from; taken = Good datagram })

-- the step has taken this datagram on this port, and the sender seems to be peer p
abbrev pub Receives : List Seen → PeerId → Datagram → Type 0
Receives seen p datagram = TakesFrom seen (Peer p) datagram

-- what this step has taken so far, on whatever port
abbrev pub heard : List Did → Option Received
heard [] = None
heard (d ∷ before) = taken_after d.deed (heard before)

-- the time that a message carries, and 0 where it carries none
abbrev pub time_in : Body → ℤ
time_in (Time t) = t
time_in _ = pos 0

-- the node neither booted nor corrected its clock between the two places
pub record Undisturbed (early late : List Did) : Type 0 where
  pub corrects : all_corrects early ≡ all_corrects late
  pub lives : lives early ≡ lives late

abbrev pub steps_after : Deed → ℕ → ℕ
steps_after Begins n = n + 1
steps_after _ n = n

-- how many steps have begun: two places are in one step where this is equal
abbrev pub steps : List Did → ℕ
steps [] = 0
steps (d ∷ before) = steps_after d.deed (steps before)

abbrev pub posted_after : Deed → ℕ → ℕ
posted_after (Acts (Post to datagram)) n = n + 1
posted_after _ n = n

-- how many datagrams were posted in a history: the number of the next one
abbrev pub posted : List Did → ℕ
posted [] = 0
posted (d ∷ before) = posted_after d.deed (posted before)
