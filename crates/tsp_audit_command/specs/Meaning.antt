-- What lines mean to the command that audits a claimed history.
use Rattle.std.specs.Prelude.{◌≡◌, ℕ, List, [], reverse, All, Some}
use Rattle.tsp_audit_command.specs.ClaimReaders.{ClaimReaderValue, passes_all}
use Rattle.tsp_audit_command.specs.Readings.{Claimed, MayEnd, IsWanting, PassesLimit, ReachesReading, Reading, RefusesLine}
use Rattle.tsp_lines.specs.{Lines.NoFeed, Lines.AreLines, Meanings.Meaning}

-- octets are the lines of a schedule of at most 16 nodes and 20,000 events, and after it at most 20,000 claimed lines,
-- which all fit, and no event lacks anything
abbrev pub IsAuditText : List ℕ → Type 0
IsAuditText octets = (lines : List (List ℕ)) × (c : ClaimReaderValue) × (all : ClaimReaderValue) × All NoFeed lines × AreLines octets lines ×
    ReachesReading (reverse lines) (Claimed c) × (passes_all c ≡ Some all)

-- the meaning of an audit: lines are accepted as a schedule and what is claimed of it, without output; they may end
-- after the schedule, where no event lacks anything, and then the output is the verdict
abbrev pub auditing : Meaning
auditing = record {
  accepts = λ lines text. (r : Reading) × ReachesReading (reverse lines) r × (text ≡ []);
  refuses = λ lines line cause. (r : Reading) × ReachesReading (reverse lines) r × RefusesLine r line cause;
  limits = λ lines line. (r : Reading) × ReachesReading (reverse lines) r × PassesLimit r line;
  full = λ lines. ⊥;
  ends = λ lines more. (r : Reading) × ReachesReading (reverse lines) r × MayEnd r more;
  lacks = λ lines cause. (r : Reading) × ReachesReading (reverse lines) r × IsWanting r cause;
}
