-- The text of a verdict.
use Rattle.std.specs.Prelude.{ℕ, List, ◌++◌, Option, None, Some, codes, decimal}
use Rattle.tsp_audit.specs.declared.verdict.Failure.{Failure}

-- the verdict, with its line feed: all parts hold; or the number of the part that fails, 12 to 16, and the number, from
-- 1, of the event up to which it fails
abbrev pub verdict_text : Option Failure → List ℕ
verdict_text None = codes "holds\n"
verdict_text (Some f) = codes "fails D" ++ decimal f.part ++ codes " " ++ decimal f.event ++ codes "\n"
