-- The promise behind the interval that programs read: where a master's clock may be, some time after a look at it.
use Rattle.std.specs.Prelude.{◌≡◌, ℕ, ◌+◌, ◌-◌, ◌*◌, ◌≤◌, ℤ, pos, ◌-ℤ◌, ◌+ℤ◌, ◌≤ℤ◌, List, []}
use Rattle.tsp_base.specs.Words.{Line, of, dids, lives, Within, width}
use Rattle.tsp_promises.specs.{Agreed.Unchanged, ClockAt.clock_at, Fits.Fits, Kept.Example, Setting.Setting}

-- node k has looked at the clock of node m: m's clock was read at a true time between those of two readings of k's own, and from each
-- reading until t, after the history h, the clock that was read was left alone. Times are microseconds
pub record Look (k m : ℕ) (h : List Line) (t : ℕ) : Type 0 where
  pub first : ℕ
  pub middle : ℕ
  pub last : ℕ
  pub begins : first ≤ middle
  pub ends : middle ≤ last
  pub passed : last ≤ t
  -- the histories at the three readings
  pub before : List Line
  pub there : List Line
  pub after : List Line
  pub own_before : Unchanged k before h
  pub other : Unchanged m there h
  pub own_after : Unchanged k after h

-- how far, at most, a clock's advance over so many ticks of another one differs from the true time, at this drift
abbrev pub width_by_ticks : ℕ → ℕ → ℕ
width_by_ticks drift x = width drift (x + width drift x)

-- at t, m's clock is ahead of k's by no less than m's reading less k's later one, and by no more than m's reading less k's earlier one,
-- give or take twice a width
abbrev pub IsAhead : Setting → {k m : ℕ} {h : List Line} {t : ℕ} → Look k m h t → ℕ → Type 0
IsAhead setting {k} {m} {h} {t} look w =
    (((clock_at setting m look.there look.middle -ℤ clock_at setting k look.after look.last) -ℤ pos (2 * w)) ≤ℤ
    (clock_at setting m h t -ℤ clock_at setting k h t)) ×
    ((clock_at setting m h t -ℤ clock_at setting k h t) ≤ℤ ((clock_at setting m look.there look.middle -ℤ clock_at setting k look.before look.first) +ℤ pos
    (2 * w)))

-- each look bounds how far m's clock is ahead: by the width of the true time since m's clock was read, and, for 100 s of k's own ticks since
-- its first reading, by what k can reckon from these ticks alone
abbrev pub Looked : Setting → List Line → Type 0
Looked setting h = (k m t : ℕ) (look : Look k m h t) → IsAhead setting look (width setting.drift (t - look.middle)) ×
    ((x : ℕ) → x ≡ setting.tick k t - setting.tick k look.first → x ≤ 100000000 → IsAhead setting look (width_by_ticks setting.drift x))

-- m's reading less k's later one, and less k's earlier one
abbrev pub low : Setting → {k m : ℕ} {h : List Line} {t : ℕ} → Look k m h t → ℤ
low setting {k} {m} look = clock_at setting m look.there look.middle -ℤ clock_at setting k look.after look.last

abbrev pub high : Setting → {k m : ℕ} {h : List Line} {t : ℕ} → Look k m h t → ℤ
high setting {k} {m} look = clock_at setting m look.there look.middle -ℤ clock_at setting k look.before look.first

-- clocks that nobody has booted, which run as far apart as their drift allows: 16 s after a look at each of them by the
-- other, each side of the bound is reached except for the microsecond by which each of the two widths is above the drift
pub record LooksUse : Type 0 where
  pub setting : Setting
  pub fits : Fits setting []
  pub drifts : setting.drift ≡ 100
  pub fast : Look 1 0 [] 16000000
  pub slow : Look 0 1 [] 16000000
  pub width_is : width 100 16000000 ≡ 1601
  pub high_reached : clock_at setting 0 [] 16000000 -ℤ clock_at setting 1 [] 16000000 ≡ high setting fast +ℤ pos 3200
  pub low_reached : clock_at setting 1 [] 16000000 -ℤ clock_at setting 0 [] 16000000 ≡ low setting slow -ℤ pos 3200

-- a history that fits and keeps the premises (Kept), in which the node that looked corrected its own clock after its
-- readings, and didn't boot: the other clock is less far ahead than the look says
pub record LooksNeedRest : Type 0 where
  pub history : Example
  pub k : ℕ
  pub m : ℕ
  pub read : ℕ
  pub t : ℕ
  pub later : read ≤ t
  pub before : List Line
  pub before_in : Within before history.world
  pub other : Unchanged m before history.world
  pub same_life : lives (dids (of k before)) ≡ lives (dids (of k history.world))
  pub less : ((clock_at history.setting m history.world t -ℤ clock_at history.setting k history.world t) +ℤ pos 1) ≤ℤ
      ((clock_at history.setting m before read -ℤ clock_at history.setting k before read) -ℤ pos (2 * width history.setting.drift (t - read)))
