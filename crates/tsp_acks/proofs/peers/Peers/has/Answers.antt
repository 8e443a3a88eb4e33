-- The peers ascend, so whoever is among them is found.
use Rattle.std.proofs.Common.{◌≡◌, ◌∙◌, ap}
use Rattle.tsp_base.specs.Words.{is_among, IsAscending}
use Rattle.tsp_acks.proofs.PeerLemmas.{is_among_searched}
use Rattle.tsp_acks.proofs.peers.Peers.has.Goals as goal

pub returns : goal.returns
returns c =
    let all : c.as_slice.result.now ≡ c.args.self.now = c.as_slice.ensures.value ∙ c.self.view_is in
    let up : IsAscending c.as_slice.result.now = rw c.as_slice.ensures.value c.self.invariant.ascending in
    c.is_ok.ensures.value ∙ is_among_searched c.args.p c.as_slice.result.now _ up c.place_of.ensures.bound c.place_of.ensures.position ∙
    ap (is_among c.args.p) all
