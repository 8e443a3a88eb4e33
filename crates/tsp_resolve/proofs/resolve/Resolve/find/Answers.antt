-- A peer's mark is that of its place.
use Rattle.std.proofs.Common.{◌∙◌, ap, sym, not}
use Rattle.tsp_rules.specs.Values.{PeerId}
use Rattle.tsp_base.{proofs.AscendingLemmas.Rise_peers, specs.Words.is_among}
use Rattle.tsp_resolve.{proofs.MarkedLemmas.marked_at, proofs.MarkedLemmas.marked_set, specs.Marked.marked}
use Rattle.tsp_resolve.proofs.resolve.Resolve.find.Goals as goal

pub returns-clause-found : goal.returns-clause-found
returns-clause-found c =
    let at = c.in-Some.ensures in
    let p = c.args.p in
    ap not (c.at-was.ensures ∙ sym (marked_at c.args.peers.now c.args.self.now.marks c.in-Some.place p p
    (Rise_peers c.args.peers.now c.requires.peers.ascending) c.requires.many at.0 (ap (λ (q : PeerId). q.0) (at.1 p))))

pub returns-clause-marks : goal.returns-clause-marks
returns-clause-marks c q =
    let at = c.in-Some.ensures in
    ap (λ marks. is_among q (marked c.args.peers.now marks)) c.set.ensures ∙ marked_set c.args.peers.now c.args.self.now.marks c.in-Some.place c.args.p q
    c.requires.many at.0 (at.1 c.args.p)
