-- The halves that a daemon writes one after the other, and what each shows.
use Rattle.std.specs.Prelude.{◌≡◌, ℕ, ◌≤◌, ℤ, pos, negsuc, ◌≤ℤ◌, List, [], ◌∷◌}
use Rattle.tsp_page.specs.{Formula.tick_at, Formula.shown_at, Sound.IsSoundCount}
use Rattle.tsp_page.specs.declared.daemon_half.DaemonHalf.{DaemonHalf}

-- a tick as a number from 0 on; before the daemon's counter it is 0
abbrev pub whole_tick : ℤ → ℕ
whole_tick (pos x) = x
whole_tick (negsuc x) = 0

-- what a half shows at a nanosecond of the counter
abbrev pub shown_when : DaemonHalf → ℕ → ℤ
shown_when h now = shown_at h (whole_tick (tick_at h now))

-- a half that was written in the place of another, and the nanosecond that the daemon read meanwhile: between the odd sequence and
-- the fields, so that no reader of the half before it saw a later moment
pub record Written : Type 0 where
  pub half : DaemonHalf
  pub at : ℕ

-- it is of the same life, and has as many steps, and its least is no less than what was shown at that nanosecond
pub record Keeps (old : DaemonHalf) (new : Written) : Type 0 where
  pub sound : IsSoundCount new.half
  pub life : new.half.life ≡ old.life
  pub steps : new.half.steps ≡ old.steps
  pub least : shown_when old new.at ≤ℤ new.half.least

-- halves that were written one after the other in the place of a first one
abbrev pub KeepsOn : DaemonHalf → List Written → Type 0
KeepsOn h [] = Unit {0}
KeepsOn h (w ∷ ws) = Keeps h w × KeepsOn w.half ws

-- a moment is none after the first of them was written
abbrev pub IsBefore : ℕ → List Written → Type 0
IsBefore now [] = Unit {0}
IsBefore now (w ∷ ws) = now ≤ w.at

-- the last of them, or the first one where there is none
abbrev pub last_half : DaemonHalf → List Written → DaemonHalf
last_half h [] = h
last_half h (w ∷ ws) = last_half w.half ws
