-- How long a daemon waits for a datagram.
use Rattle.std.specs.Prelude.{◌≡◌, ◌⊎◌, ℕ, zero, suc, ◌-◌, min, max, List, [], ◌∷◌, ◌++◌, Option, None, Some}
use Rattle.tsp_gateway.specs.Dues.{IsNodeDue}
use Rattle.tsp_io.specs.Links.{NotesReceive}
use Rattle.tsp_daemon.specs.declared.end.ServeEnd.TheVariants.{OutOfMemory}
use Rattle.tsp_daemon.specs.{Sessions.Session, Sessions.after_turns, Sessions.read_once, declared.end.ServeEnd.ServeEnd}

-- how many microseconds to wait until the node's next alarm or repeat is due: at least 1,000, and at most 1,000,000
abbrev pub wait_until : ℕ → ℕ → ℕ
wait_until due tick = max (min (due - tick) 1000000) 1000

-- how long the receive of a turn waits: until the node is due, counted from the turn's first reading
pub record IsWait (s : Session) (wait : ℕ) : Type 0 where
  pub due : ℕ
  pub due_is : IsNodeDue s.past due
  pub is : wait ≡ wait_until due (read_once s.outside).last

-- how long the receives of so many turns wait, in their order
abbrev pub AreWaits : Session → ℕ → List ℕ → Type 0
AreWaits s zero waits = waits ≡ []
AreWaits s (suc n) waits = (before : List ℕ) × (wait : ℕ) × (waits ≡ before ++ wait ∷ []) × AreWaits s n before × IsWait (after_turns n s) wait

-- the receives of so many turns were noted, if it is told how long receives wait
abbrev pub NotesWaits : Session → ℕ → Option (List ℕ) → Option (List ℕ) → Type 0
NotesWaits s n waits None = Unit {0}
NotesWaits s n None (Some now) = ⊥
NotesWaits s n (Some before) (Some now) = (more : List ℕ) × (now ≡ before ++ more) × AreWaits s n more

-- one receive more was noted, with the wait that its turn says
abbrev pub NotesWait : Session → Option (List ℕ) → Option (List ℕ) → Type 0
NotesWait s waits now = (wait : ℕ) × IsWait s wait × NotesReceive waits now wait

-- what a turn notes that ends the session so: one receive, or none if it ran out of memory before that
abbrev pub NotesTurn : Session → Option (List ℕ) → Option (List ℕ) → ServeEnd → Type 0
NotesTurn s waits now OutOfMemory = (now ≡ waits) ⊎ NotesWait s waits now
NotesTurn s waits now end = NotesWait s waits now
