-- What a follower remembers.
use Rattle.std.specs.Prelude.{◌≡◌, ℕ, List, Option, None, Some}
use Rattle.tsp_base.specs.Words.{Past, plain, correct_tick, kept_name, Correcting, last_taken}
use Rattle.tsp_slave.specs.declared.last.Correction.{Correction}

-- the tick of the node's last correction since the boot, what it took if it took one on this port, and the name of the master followed last
pub record LastValue : Type 0 where
  pub tick : Option ℕ
  pub taken : Option Correcting
  pub name : List ℕ

-- a correction as it is remembered, as a sender and a number
abbrev pub correcting_in : Option Correction → Option Correcting
correcting_in None = None
correcting_in (Some c) = Some (record { from = c.from; number = c.number })

-- what is remembered is what the past comes to
pub record Remembers (past : Past) (last : LastValue) : Type 0 where
  pub tick_is : last.tick ≡ correct_tick (plain past.seen)
  pub taken_is : last.taken ≡ last_taken past.seen
  pub name_is : last.name ≡ kept_name past.seen
