-- So many events were looked at, and nothing fails of them.
use Rattle.std.proofs.Common.{List, [], length}
use Rattle.tsp_audit.{proofs.ThroughLemmas.Reached, specs.Ends.AreDated, specs.Ends.EndsAt, specs.Remembered.RememberedStands}
use Rattle.tsp_base.specs.Words.{HeaderValue}
use Rattle.tsp_claims.specs.{ClaimedHistory.Claim, Stands.ClaimsStand}
use Rattle.tsp_audit.proofs.looking.look_through.Given as goal

abbrev pub invariant-loop-i : goal.invariant-loop-i
invariant-loop-i l = (header : HeaderValue) (told : List Claim) → ClaimsStand header told l.claims → AreDated (length header.nodes) told →
    EndsAt header told l.ends → RememberedStands l.premises header [] l.initial.notes → Reached l.premises header told l.i l.from l.notes
