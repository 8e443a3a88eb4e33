-- What is known after the lines of a history.
use Rattle.std.specs.Prelude.{◌≡◌, ◌<◌, ◌≤◌, ℕ, ◌+◌, Bool, true, false, List, ◌∷◌, length, get_or, take, Option}
use Rattle.tsp_base.specs.declared.place.Port.{Port}
use Rattle.tsp_promises.specs.Fits.{node_of}
use Rattle.tsp_base.specs.Words.{Line, of, view, dids, all_corrects, lives, role, is_going, posted}
use Rattle.tsp_history.specs.declared.{counts.Counts.Counts, line.HistoryLine.HistoryLine, notes.NodeNote.NodeNote, notes.Note.Note}
use Rattle.tsp_history.specs.declared.notes.PortNote.{PortNote}
use Rattle.tsp_history.specs.{Clocks.IsSumOf, Clocks.KeepsClock, Histories.line_of, Histories.history_of, Spacing.SpacedBy}

-- the boots and the corrections of node n are counted
pub record AreCounted (n : ℕ) (h : List Line) (c : Counts) : Type 0 where
  pub lives_is : c.lives ≡ lives (dids (of n h))
  pub corrects_is : c.corrects ≡ all_corrects (dids (of n h))
  pub few_lives : c.lives ≤ length h
  pub few_corrects : c.corrects ≤ length h

-- this is what a history comes to of node n
pub record NodeKnown (n : ℕ) (h : List Line) (m : NodeNote) : Type 0 where
  pub clock : KeepsClock n h m.clock
  pub small : IsSumOf (length h) m.clock.moved
  pub counts : AreCounted n h m.counts
  pub spaced : SpacedBy n h m.latest

-- this is what a history comes to of port q of node n
pub record PortKnown (n : ℕ) (q : Port) (h : List Line) (m : PortNote) : Type 0 where
  pub role_is : m.role ≡ role (view q (of n h))
  pub going_is : m.is_going ≡ is_going (view q (of n h))

-- this is what a history comes to with one line more
pub record NoteIs (l : Line) (h : List Line) (m : Note) : Type 0 where
  pub posted_is : m.posted ≡ posted (dids (l ∷ h))
  pub few : m.posted ≤ length h + 1
  pub node : NodeKnown (node_of l) (l ∷ h) m.node
  pub port : PortKnown (node_of l) l.port (l ∷ h) m.port

-- the note of each of these lines is what the lines up to and with it come to
pub record Told (ns : List HistoryLine) : Type 0 where
  pub at : (i : ℕ) (n : HistoryLine) → i < length ns → get_or ns i n ≡ n → NoteIs (line_of n) (history_of (take i ns)) n.note

-- a longer history, in which node n has nothing more
pub record Quiet (n : ℕ) (s h : List Line) : Type 0 where
  pub same : of n h ≡ of n s
  pub short : length s ≤ length h
  pub spaced : (o : Option ℕ) → SpacedBy n s o → SpacedBy n h o

-- the last line of node n, among these, is the one at index i
pub record LastAt (ns : List HistoryLine) (n i : ℕ) : Type 0 where
  pub noted : HistoryLine
  pub below : i < length ns
  pub noted_is : get_or ns i noted ≡ noted
  pub node : noted.node ≡ n
  pub quiet : Quiet n (line_of noted ∷ history_of (take i ns)) (history_of ns)

-- a line elsewhere leaves what is known of a port; after a line of its own, or a boot of its node, what is known of
-- the line's port holds of it
abbrev pub IsOwnLine : HistoryLine → ℕ → Port → Bool → Type 0
IsOwnLine noted n q false = (before : List Line) (m : PortNote) → PortKnown n q before m → PortKnown n q (line_of noted ∷ before) m
IsOwnLine noted n q true = (before : List Line) (m : PortNote) → PortKnown noted.node noted.port (line_of noted ∷ before) m →
    PortKnown n q (line_of noted ∷ before) m
