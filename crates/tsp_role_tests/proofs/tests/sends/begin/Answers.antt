use Rattle.std.proofs.Common.{refl}
use Rattle.std.proofs.lemmas.List.Elements.{Contains-get_or}
use Rattle.tsp_base.specs.Words.{carries_time, carries_hops, body_fits}
use Rattle.tsp_role_tests.proofs.tests.sends.begin.Goals as goal

pub new-message-requires : goal.new-message-requires
unfolding body_fits carries_time carries_hops
new-message-requires c = refl

pub begin-requires-clause-peer : goal.begin-requires-clause-peer
begin-requires-clause-peer c = rw c.requires.peers (Contains-get_or c.args.peers.now c.args.place (record { 0 = 0 }) c.requires.place)
