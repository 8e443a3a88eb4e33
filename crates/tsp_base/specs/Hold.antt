-- Whom a port has backed, and when it may back a candidate or stand for election.
use Rattle.std.specs.Prelude.{ℕ, ◌+◌, Bool, true, ◌==◌, ◌||◌, ◌&&◌, nat_le, Option, None, Some}
use Rattle.tsp_base.specs.declared.{constants.TheConstants.HOLD, constants.TheConstants.ELECT_MIN, place.PeerId.PeerId}

-- the boot's tick, the last backing since with its tick, and the tick of the last Quit since
pub record Held : Type 0 where
  pub boot : ℕ
  pub back : Option (ℕ × PeerId)
  pub quit : Option ℕ

-- whether this peer may be backed at this tick: the last backing was of it, or is long ago, or there is none
abbrev pub may_back_after : Option (ℕ × PeerId) → ℕ → PeerId → Bool
may_back_after None x p = true
may_back_after (Some b) x p = (b.1.0 == p.0) || nat_le (b.0 + HOLD) x

-- whether a tick is this long ago, or never was
abbrev pub is_past : Option ℕ → ℕ → ℕ → Bool
is_past None long x = true
is_past (Some at) long x = nat_le (at + long) x

-- whether the hold lets this peer be backed
abbrev pub may_back : Held → ℕ → PeerId → Bool
may_back h x p = may_back_after h.back x p

-- whether the port may stand for election: boot and last Quit are long ago, and it may back itself
abbrev pub may_stand : Held → ℕ → PeerId → Bool
may_stand h x own = nat_le (h.boot + ELECT_MIN) x && (is_past h.quit ELECT_MIN x && may_back h x own)
