-- The entry at a place is its peer's.
use Rattle.std.proofs.Common.{◌<◌, length, ap, ◌∙◌, sym, arith}
use Rattle.std.proofs.lemmas.List.{length-map, get_or-map}
use Rattle.tsp_measure.{proofs.Entries.Rising_peers, proofs.Entries.entry_of_at, specs.declared.entry.Entry.Entry}
use Rattle.tsp_measure.proofs.slaves.Slaves.at.Goals as goal

pub returns : goal.returns
returns c =
    let es = c.args.self.now in
    let x : Entry = c.index.result.now in
    let is = rw c.self.view_is at c.index.ensures in
    let inside : c.args.place < length es = omega (arith, c.requires, length-map es (λ (e : Entry). e.peer)) in
    record {
      peer = λ d. get_or-map (λ (e : Entry). e.peer) es c.args.place x d inside ∙ ap (λ (e : Entry). e.peer) (sym is);
      entry = entry_of_at es c.args.place x x.peer (Rising_peers es (rw c.self.view_is at c.self.invariant)) inside (ap (λ (e : Entry). e.peer.0) (sym is)) ∙
          sym is;
    }
