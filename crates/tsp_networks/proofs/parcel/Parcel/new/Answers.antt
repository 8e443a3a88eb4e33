-- A QUIT carries nothing.
use Rattle.std.proofs.Common.{refl}
use Rattle.tsp_base.specs.Words.{body_fits, carries_time, carries_hops}
use Rattle.tsp_networks.proofs.parcel.Parcel.new.Goals as goal

pub new-message-requires : goal.new-message-requires
unfolding body_fits carries_time carries_hops
new-message-requires c = refl
