-- One place more changes nothing of what is measured.
use Rattle.std.proofs.Common.{◌∙◌, ◌+◌, length, ap}
use Rattle.std.proofs.lemmas.List.{length_push}
use Rattle.tsp_measure.{proofs.Peers.at_peer_more, specs.Measures.nothing_measured, specs.Peers.MeasuredPeers, specs.Peers.with_peer}
use Rattle.tsp_measure.proofs.exchanges.Exchanges.lengthen.Goals as goal

pub loop-next-preserved : goal.loop-next-preserved
loop-next-preserved c = record {
  peers = ap (λ (x : MeasuredPeers). x.peers) c.add.ensures ∙ c.loop-next.invariant.peers;
  long = ap (λ (x : MeasuredPeers). length x.measured) c.add.ensures ∙ length_push c.loop-next.self.measured nothing_measured ∙
      ap (λ n. n + 1) c.loop-next.invariant.long;
  same = λ p. ap (λ (x : MeasuredPeers). with_peer x p) c.add.ensures ∙ at_peer_more c.loop-next.self.peers c.loop-next.self.measured p ∙
      c.loop-next.invariant.same p;
}
