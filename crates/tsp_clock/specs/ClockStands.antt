-- Which pasts a clock stands for.
use Rattle.std.specs.Prelude.{◌≡◌, ◌+ℤ◌}
use Rattle.tsp_base.specs.Words.{Past, plain, base, moved, rest, last_correct, ticket}
use Rattle.tsp_clock.specs.Clocks.{ClockValue}

-- the clock is the one that the boot and the corrections in its node's past give
pub record ClockStands (past : Past) (clock : ClockValue) : Type 0 where
  pub offset_is : clock.offset ≡ base (plain past.seen) +ℤ moved (plain past.seen)
  pub rest_is : clock.rest ≡ rest (plain past.seen)
  pub at_is : clock.at ≡ last_correct (plain past.seen)
  pub ticket_is : clock.ticket ≡ ticket (plain past.seen)
