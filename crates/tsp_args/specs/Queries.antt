-- The questions to a daemon and their arguments.
use Rattle.std.specs.Prelude.{ℕ, List, [], ◌∷◌, true, false, codes, negsuc, ◌≤ℤ◌, Bool}
use Rattle.std.specs.Fmt.{signed_decimal}
use Rattle.tsp_base.specs.Words.{IsMicros}
use Rattle.tsp_args.specs.declared.query.Query.{Query}
use Rattle.tsp_args.specs.declared.query.Query.TheVariants.{Msite, ClockDiff, Trace, Election, Date}

-- the first argument of a command that asks
abbrev pub query_word : Query → List ℕ
query_word Msite = codes "msite"
query_word ClockDiff = codes "clockdiff"
query_word (Trace on) = codes "trace"
query_word Election = codes "election"
query_word (Date time) = codes "date"

-- on or off
abbrev pub switch_word : Bool → List ℕ
switch_word true = codes "on"
switch_word false = codes "off"

-- the arguments after the address
abbrev pub query_rest : Query → List (List ℕ)
query_rest (Trace on) = switch_word on ∷ []
query_rest (Date time) = signed_decimal time ∷ []
query_rest _ = []

-- a date is a time value strictly above the least one
abbrev pub IsQuery : Query → Type 0
IsQuery (Date time) = IsMicros time × (negsuc 2147483647999998 ≤ℤ time)
IsQuery _ = Unit {0}
