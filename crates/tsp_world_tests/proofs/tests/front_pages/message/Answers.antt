-- A MASTERREQ carries nothing.
use Rattle.std.proofs.Common.{refl}
use Rattle.tsp_base.specs.Words.{carries_time, carries_hops, body_fits}
use Rattle.tsp_world_tests.proofs.tests.front_pages.message.Goals as goal

pub new-message-requires : goal.new-message-requires
unfolding body_fits carries_time carries_hops
new-message-requires c = refl
