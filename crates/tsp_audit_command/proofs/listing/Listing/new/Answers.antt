-- No event has happened, and no node is up.
use Rattle.std.proofs.Common.{refl}
use Rattle.tsp_audit_command.proofs.listing.Listing.new.Goals as goal

pub returns : goal.returns
returns c = record { header_is = refl; events_are = c.new.ensures.items; last_is = refl; up_is = c.in_ok-up.ensures.none }
