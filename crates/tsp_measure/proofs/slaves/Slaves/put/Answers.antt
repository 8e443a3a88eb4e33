-- An entry of the same peer is put in its place.
use Rattle.std.proofs.Common.{◌≡◌, set, subst, sym}
use Rattle.std.specs.Box.{boxed_slice_items}
use Rattle.tsp_base.specs.Words.{IsPeers}
use Rattle.tsp_measure.{proofs.Entries.peers_of_set, specs.Slaves.peers_of}
use Rattle.tsp_measure.proofs.slaves.Slaves.put.Goals as goal

pub invariant_of-self : goal.invariant_of-self
invariant_of-self c =
    let es = boxed_slice_items c.self.inside.entries in
    let same : peers_of (set es c.args.place c.args.entry) ≡ peers_of es = peers_of_set es c.args.place c.args.entry c.args.entry
    (λ h. rw c.self.view_is (c.requires.same c.args.entry)) in
    subst IsPeers (sym same) c.self.invariant

pub returns-clause-peers : goal.returns-clause-peers
returns-clause-peers c =
    rw c.self.view_is (peers_of_set c.args.self.now c.args.place c.args.entry c.args.entry (λ h. c.requires.same c.args.entry))
