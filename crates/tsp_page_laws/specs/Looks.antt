-- What the two halves of a page say of a history: the own clock, and a look at the master's.
use Rattle.std.specs.Prelude.{◌≡◌, ℕ, ◌≤◌, ℤ, ◌-ℤ◌, ◌≤ℤ◌, List, true}
use Rattle.tsp_base.specs.Words.{Line, of, dids, lives, moved, up, Within}
use Rattle.tsp_promises.specs.{Agreed.Unchanged, ClockAt.clock_at, Setting.Setting}
use Rattle.tsp_page.specs.{Pasts.TellsOf, Readings.interval_of}
use Rattle.tsp_page.specs.declared.{daemon_half.DaemonHalf.DaemonHalf, look_half.LookHalf.LookHalf, reading.Interval.Interval}

-- the daemon's half says what node k's clock is after the history h, in which it has booted, and by how much it was corrected in this life
pub record SaysClock (k : ℕ) (h : List Line) (d : DaemonHalf) : Type 0 where
  pub booted : up (dids (of k h)) ≡ true
  pub clock : TellsOf (dids (of k h)) d
  pub moved_is : d.moved ≡ moved (dids (of k h))

-- the look's half is what a look of node k at the clock of node m gave, and at t, after the history h, it still counts: m's clock was read
-- at a true time between those of two readings of k's counter, and was left alone since. The own readings are reckoned from the target that
-- k's clock had at a place of the same life, whatever it was corrected by since. Times are microseconds
pub record SaysLook (setting : Setting) (k m : ℕ) (h : List Line) (t : ℕ) (l : LookHalf) : Type 0 where
  pub first : ℕ
  pub middle : ℕ
  pub last : ℕ
  pub begins : first ≤ middle
  pub ends : middle ≤ last
  pub passed : last ≤ t
  -- the history when m's clock was read; these stamps were m's, which is left alone since
  pub there : List Line
  pub other : Unchanged m there h
  -- the place of the own clock by which the look is reckoned
  pub seen : List Line
  pub seen_in : Within seen h
  pub same_life : lives (dids (of k seen)) ≡ lives (dids (of k h))
  pub moved_is : l.moved ≡ moved (dids (of k seen))
  pub looked_is : l.looked ≡ setting.tick k first
  pub drift_is : l.drift ≡ setting.drift
  pub low_is : l.low ≤ℤ (clock_at setting m there middle -ℤ clock_at setting k seen last)
  pub high_is : (clock_at setting m there middle -ℤ clock_at setting k seen first) ≤ℤ l.high

-- an interval holds a time
pub record Holds (i : Interval) (time : ℤ) : Type 0 where
  pub earliest : i.earliest ≤ℤ time
  pub latest : time ≤ℤ i.latest

-- at t, after the history h, m's clock lies in the interval that a reader gets at k's tick then
abbrev pub LiesWithin : Setting → ℕ → ℕ → List Line → ℕ → DaemonHalf → LookHalf → Type 0
LiesWithin setting k m h t d l = Holds (interval_of d l (setting.tick k t)) (clock_at setting m h t)
