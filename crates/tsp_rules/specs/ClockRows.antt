-- How a clock is corrected.
use Rattle.std.specs.Prelude.{ℕ, nat_lt, nat_abs, ℤ, ◌+ℤ◌, ◌-ℤ◌, Bool, true, if◌then◌else◌, [], ◌∷◌}
use Rattle.tsp_base.specs.Words.{Past, plain, shown, Row}
use Rattle.tsp_rules.specs.{Guards.target_at, Guards.is_clock_value, Values.Correct, Values.MAXADJ}

-- whether an amount is stepped, not slewed
abbrev pub is_step : ℤ → Bool
is_step amount = nat_lt MAXADJ (nat_abs amount)

-- whether the clock can be moved by this amount
abbrev pub can_adjust : ℤ → ℕ → Past → Bool
can_adjust amount x past = is_clock_value (target_at x past +ℤ amount)

-- the clock is moved by an amount: a large one steps the shown value to the new target, any other is slewed from now on
unfoldable pub adjusts : ℤ → Row
adjusts amount x past =
    Correct amount (is_step amount) (if is_step amount then target_at x past +ℤ amount else shown (plain past.seen) x) ∷ []

-- the clock is set to a value, a step whatever the amount
unfoldable pub sets : ℤ → Row
sets value x past = Correct (value -ℤ target_at x past) true value ∷ []
