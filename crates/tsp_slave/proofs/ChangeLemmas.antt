-- Corrections of both kinds have one rule.
use Rattle.std.specs.Prelude.{◌≡◌, ℕ, ◌==◌, ◌&&◌, Bool, refl}
use Rattle.tsp_rules.specs.Values.{PeerId, GAP}
use Rattle.tsp_base.specs.Words.{Past, is_past, either_by, ◌followed_by◌}
use Rattle.tsp_rules.specs.SlaveRows.{acks_repeat, adjtime_of, confirms, settime_of, takes_amount, takes_value}
use Rattle.tsp_clock.specs.{ClockStands.ClockStands, Clocks.ClockValue}
use Rattle.tsp_slave.specs.declared.change.Change.{Change, TheVariants.By, TheVariants.To}
use Rattle.tsp_slave.specs.{ClockChanges.changes_clock, ClockChanges.correction_of, ClockChanges.fits, Lasts.LastValue, Lasts.Remembers}

-- whether a correction acts
abbrev pub acts_at : ℕ → Change → ℕ → Past → Bool
acts_at number (By amount) = takes_amount number amount
acts_at number (To value) = takes_value number value

-- the next correction changes the clock, and any other may be a repeat
pub correction_of_is : (p : PeerId) (number : ℕ) (change : Change) →
    correction_of p number change ≡ either_by (acts_at number change) (changes_clock change followed_by confirms p number) (acks_repeat p number)
unfolding correction_of changes_clock adjtime_of settime_of
correction_of_is p number (By amount) = refl
correction_of_is p number (To value) = refl

-- as the port and the clock have it
pub acts_at_is : (number : ℕ) (change : Change) (x : ℕ) (past : Past) (last : LastValue) (clock : ClockValue) → Remembers past last → ClockStands past clock →
    acts_at number change x past ≡ (((number == clock.ticket) && is_past last.tick GAP x) && fits clock x change)
acts_at_is number (By amount) x past last clock r c = rw (c.ticket_is, c.offset_is, r.tick_is) refl
acts_at_is number (To value) x past last clock r c = rw (c.ticket_is, r.tick_is) refl
