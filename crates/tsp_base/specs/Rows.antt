-- Rows: what a port does at a tick, as a list of acts that is built one act after the other.
use Rattle.std.specs.Prelude.{ℕ, ◌+◌, ◌==◌, Bool, not, if◌then◌else◌, ℤ, List, [], ◌∷◌, ◌++◌, map, filter}
use Rattle.tsp_base.specs.declared.{act.Placed.Placed, alarm.Alarm.Alarm, datagram.Datagram.TheVariants.Message, kind.Kind.Kind}
use Rattle.tsp_base.specs.declared.{message.Body.TheVariants.Nothing, message.Body.TheVariants.Time, place.PeerId.PeerId, place.Place.Place}
use Rattle.tsp_base.specs.declared.place.{Place.TheVariants.Peer, Port.Port}
use Rattle.tsp_base.specs.History.{Step, Begins, Acts, Seen, Here, Past}
use Rattle.tsp_base.specs.{Messages.MessageValue, declared.act.Act.Act, declared.act.Act.TheVariants.Post, declared.act.Act.TheVariants.Arm}

-- what a port does at a tick, after a past
abbrev pub Row : Type 0
Row = ℕ → Past → List Act

-- what was seen, and then these acts here, in this step and at this tick
abbrev pub added : Step → ℕ → List Act → List Seen → List Seen
added step x [] seen = seen
added step x (a ∷ rest) seen = added step x rest (Here (record { step = step; tick = x; deed = Acts a }) ∷ seen)

-- the past after these acts at a tick
abbrev pub grown : ℕ → Past → List Act → Past
grown x past acts = record past { seen = added past.step x acts past.seen }

-- the past when this step begins, at a tick
abbrev pub in_step : Step → ℕ → Past → Past
in_step step x past = record past { step = step; seen = Here (record { step = step; tick = x; deed = Begins }) ∷ past.seen }

-- nothing is done
unfoldable pub nothing : Row
nothing x past = []

-- one act
unfoldable pub puts : Act → Row
puts a x past = a ∷ []

-- the second row is read after the acts of the first
infixr 20 ◌followed_by◌
unfoldable pub ◌followed_by◌ : Row → Row → Row
(r followed_by s) x past = r x past ++ s x (grown x past (r x past))

-- the first row where the test holds, else the second
unfoldable pub either_by : (ℕ → Past → Bool) → Row → Row → Row
either_by test r s x past = if test x past then r x past else s x past

-- the row is chosen by a fact of the past
unfoldable pub reading : {A : Type 0} → (ℕ → Past → A) → (A → Row) → Row
reading fact rows x past = rows (fact x past) x past

-- a row for each of these, one after the other
unfoldable pub for_each : {A : Type 0} → (A → Row) → List A → Row
for_each r [] = nothing
for_each r (a ∷ rest) = r a followed_by for_each r rest

-- an alarm is armed for so many ticks from now
unfoldable pub arms : Alarm → ℕ → Row
arms alarm long x past = Arm alarm (x + long) ∷ []

-- the peers but the port's own
abbrev pub others : PeerId → List PeerId → List PeerId
others own = filter (λ p. not (p.0 == own.0))

-- a message that carries nothing but its number and a name
abbrev pub bare : Kind → ℕ → List ℕ → MessageValue
bare kind number name = record { kind = kind; number = number; body = Nothing; name = name }

-- a message that carries a time
abbrev pub timed : Kind → ℕ → ℤ → List ℕ → MessageValue
timed kind number time name = record { kind = kind; number = number; body = Time time; name = name }

-- the post of a bare message to a peer, in this name
abbrev pub post_of : Kind → ℕ → List ℕ → PeerId → Act
post_of kind number name p = Post (Peer p) (Message (bare kind number name))

-- a bare message to a peer, in the node's own name
unfoldable pub posts : PeerId → Kind → ℕ → Row
posts p kind number x past = post_of kind number past.name p ∷ []

-- the same to each other peer, ascending
unfoldable pub posts_to_others : Kind → ℕ → Row
posts_to_others kind number x past = map (post_of kind number past.name) (others past.own past.peers)

-- a bare message to wherever a datagram came from, in the node's own name
unfoldable pub posts_back : Place → Kind → ℕ → Row
posts_back from kind number x past = Post from (Message (bare kind number past.name)) ∷ []

-- a message with a time to a peer, in the node's own name
unfoldable pub posts_time : PeerId → Kind → ℕ → ℤ → Row
posts_time p kind number time x past = Post (Peer p) (Message (timed kind number time past.name)) ∷ []

-- acts on a port
abbrev pub placed : Port → List Act → List Placed
placed port = map (λ a. record { port = port; act = a })
