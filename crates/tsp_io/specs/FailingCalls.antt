-- Calls that a test makes fail.
use Rattle.std.specs.Prelude.{◌≡◌, ◌+◌, ◌-◌, ◌^◌, min, Contains}
use Rattle.tsp_io.specs.declared.failing.Failing.{Failing}

-- the next call is one of those that are to fail
abbrev pub FailsNext : Failing → Type 0
FailsNext failing = Contains failing.calls.items failing.next

-- one call more was counted, up to 2^32 - 1; which calls are to fail is unchanged
abbrev pub CountsCall : Failing → Failing → Type 0
CountsCall before now = (now.next ≡ min (before.next + 1) (2 ^ 32 - 1)) × (now.calls ≡ before.calls)
