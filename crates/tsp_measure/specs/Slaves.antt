-- What a master knows of its peers, and how it changes.
use Rattle.std.specs.Prelude.{◌≡◌, ◌≢◌, ℕ, ◌+◌, ◌%◌, ◌<◌, ◌==◌, Bool, true, false, not, ◌&&◌, ◌||◌, if◌then◌else◌, List, [], ◌∷◌, map, length, slice_index_or}
use Rattle.std.specs.Prelude.{None, Some, Result, Ok, Err}
use Rattle.std.specs.List.{list_all}
use Rattle.tsp_base.specs.{Words.is_past, declared.constants.TheConstants.REUSE, declared.place.PeerId.PeerId}
use Rattle.tsp_measure.specs.declared.entry.{Change.Change, Entry.Entry}
use Rattle.tsp_measure.specs.declared.entry.Change.TheVariants.{Join, Measure, Post, Begin, Acknowledge}

-- a peer of which nothing is known
abbrev pub idle_entry : PeerId → Entry
idle_entry p = record { peer = p; joined = false; measured = false; posted = None; number = 0; acked = false }

-- the peers that have an entry
abbrev pub peers_of : List Entry → List PeerId
peers_of es = map (λ (e : Entry). e.peer) es

-- what is known of a peer
abbrev pub entry_of : List Entry → PeerId → Entry
entry_of [] p = idle_entry p
entry_of (e ∷ es) p = if e.peer.0 == p.0 then e else entry_of es p

-- one peer's entry is changed so, and each other one is as before
abbrev pub Changes : PeerId → (Entry → Entry) → List Entry → List Entry → Type 0
Changes p f old new = (q : PeerId) → entry_of new q ≡ (if p.0 == q.0 then f (entry_of old q) else entry_of old q)

-- every entry is changed so
abbrev pub ChangesAll : (Entry → Entry) → List Entry → List Entry → Type 0
ChangesAll f old new = (q : PeerId) → entry_of new q ≡ f (entry_of old q)

-- the peer becomes a slave
abbrev pub joins : Entry → Entry
joins e = record e { joined = true }

-- it is no slave any more, and isn't measured either
abbrev pub leaves : Entry → Entry
leaves e = record e { joined = false; measured = false }

-- the round that begins measures it
abbrev pub measures : Entry → Entry
measures e = record e { measured = true }

-- no round measures it
abbrev pub unmeasures : Entry → Entry
unmeasures e = record e { measured = false }

-- a correction is posted to it at a tick
abbrev pub posts_at : ℕ → Entry → Entry
posts_at x e = record e { posted = Some x }

-- a correction with this number begins to it at a tick
abbrev pub begins_at : ℕ → ℕ → Entry → Entry
begins_at x number e = record e { posted = Some x; number = number; acked = false }

-- it acknowledged the last correction
abbrev pub acks : Entry → Entry
acks e = record e { acked = true }

-- each of these changes of one peer's entry
abbrev pub changed_by : Change → Entry → Entry
changed_by Join = joins
changed_by Measure = measures
changed_by (Post x) = posts_at x
changed_by (Begin x number) = begins_at x number
changed_by Acknowledge = acks

-- it acknowledged the last correction where this is so
abbrev pub acks_where : Bool → Entry → Entry
acks_where acked e = if acked then acks e else e

-- whether a correction with this number may begin
abbrev pub may_correct_by : Entry → ℕ → ℕ → Bool
may_correct_by e number x = is_past e.posted REUSE x || (e.acked && (number == (e.number + 1) % 32768))

-- whether no correction is on its way any more, or the last one was acknowledged
abbrev pub is_settled_by : Entry → ℕ → Bool
is_settled_by e x = is_past e.posted REUSE x || e.acked

-- the same of all slaves
abbrev pub are_settled_by : ℕ → List Entry → Bool
are_settled_by x es = list_all (λ (e : Entry). not e.joined || is_settled_by e x) es

-- where a peer's entry is, or where it would be
abbrev pub IsEntryPlace : PeerId → List Entry → Result ℕ ℕ → Type 0
IsEntryPlace p es (Ok i) = (i < length es) × ((d : Entry) → (slice_index_or es i d).peer.0 ≡ p.0)
IsEntryPlace p es (Err i) = (k : ℕ) (d : Entry) → k < length es → (slice_index_or es k d).peer.0 ≢ p.0
