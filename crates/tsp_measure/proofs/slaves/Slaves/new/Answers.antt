-- An idle entry for each peer.
use Rattle.std.proofs.Common.{subst, sym}
use Rattle.tsp_base.specs.Words.{IsPeers}
use Rattle.tsp_measure.proofs.Entries.{peers_of_idle, entry_of_idle}
use Rattle.tsp_measure.proofs.slaves.Slaves.new.Goals as goal

pub invariant_of-result : goal.invariant_of-result
invariant_of-result c =
    rw (c.into_boxed_slice.ensures.items, c.in_ok-entries.ensures) (subst IsPeers (sym (peers_of_idle c.args.peers.now)) c.requires)

pub returns-clause-peers : goal.returns-clause-peers
returns-clause-peers c = rw (c.into_boxed_slice.ensures.items, c.in_ok-entries.ensures) (peers_of_idle c.args.peers.now)

pub returns-clause-idle : goal.returns-clause-idle
returns-clause-idle c p = rw (c.into_boxed_slice.ensures.items, c.in_ok-entries.ensures) (entry_of_idle c.args.peers.now p)
