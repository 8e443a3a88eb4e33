-- One slave after the other is asked.
use Rattle.std.proofs.Common.{get_or, refl, sym, ◌∙◌, ap, arith, subst, ◌≤◌, ◌≡◌, ◌+◌, ◌*◌, ◌<◌, ◌∷◌, [], ◌++◌, length, take, true, false}
use Rattle.std.proofs.lemmas.List.{take_all}
use Rattle.tsp_base.proofs.PerformsLemmas.{Performs_each_more, Performs_nothing, Performs_reading}
use Rattle.tsp_base.{proofs.FrameLemmas.PutsAtMost_up, specs.Words.for_each, specs.Words.IsPeers}
use Rattle.tsp_rules.specs.{Guards.table_at, RoundRows.asks, RoundRows.asks_slaves, Values.PeerId}
use Rattle.tsp_measure.specs.Slaves.{Changes, entry_of, measures, peers_of}
use Rattle.tsp_measure.{proofs.Counters.IsCounted_more, specs.declared.entry.Entry.Entry}
use Rattle.tsp_master.proofs.AskLemmas.{Performs_starts, filter_more, filter_past, joined_is, joined_kept, joined_of, later_few, take_more}
use Rattle.tsp_master.proofs.master.Master.ask_slaves.Goals.{then-entry, else-entry}
use Rattle.tsp_master.proofs.master.Master.ask_slaves.Goals as goal

pub loop-place-init : goal.loop-place-init
unfolding for_each
loop-place-init g c = record {
  row = Performs_nothing;
  peers = refl;
  joined = λ q. refl;
  probes = refl;
  few = λ k d low high. c.requires.asks.few (get_or (peers_of c.args.self.now.slaves) k d);
  counted = IsCounted_more _ (1000 * c.args.self.now.rounds.probes) _ (omega arith) c.requires.asks.counted;
  room = record { spare = omega arith; few = omega arith };
}

pub loop-place-preserved : goal.loop-place-preserved
loop-place-preserved g c =
    let inv = c.loop-place.invariant in
    let es = c.args.self.now.slaves in
    let ps = peers_of es in
    let n = c.loop-place.place in
    let p : PeerId = c.at-entry.result.peer in
    let inside : n < length ps = omega (arith, c.loop-place-test.true, c.len-place-end.ensures.value) in
    let up : IsPeers (peers_of es) = c.len-place-end.ensures.valid in
    let peer = rw inv.peers at c.at-entry.ensures.peer in
    let here : get_or ps n p ≡ p = peer p in
    let more : take (n + 1) ps ≡ take n ps ++ p ∷ [] = take_more ps n p inside here in
    elim c.if-entry.branch [
      | then-entry w ↦
          let now : (entry_of c.loop-place.self.slaves p).joined ≡ true = ap (λ (e : Entry). e.joined) c.at-entry.ensures.entry ∙ w.if-entry.true in
          let joined : (entry_of es p).joined ≡ true = sym (inv.joined p) ∙ now in
          let slaves : Changes p measures c.loop-place.self.slaves w.ask.new.self.slaves = rw w.ask.ensures.slaves w.change.ensures.entries in
          let same : peers_of w.ask.new.self.slaves ≡ peers_of c.loop-place.self.slaves = ap peers_of w.ask.ensures.slaves ∙ w.change.ensures.peers in
          record {
            row = rw (w.self-is, w.desk-is, more, filter_more (λ (q : PeerId). (entry_of es q).joined) (take n ps) p joined)
                (Performs_each_more asks (joined_of es (take n ps)) p inv.row (Performs_starts p _ _ c.args.station.now c.args.clock.now now slaves same
                w.ask.ensures.starts w.ask.ensures.acts));
            peers = rw w.self-is (same ∙ inv.peers);
            joined = rw w.self-is (λ q. joined_kept p _ _ slaves q ∙ inv.joined q);
            probes = rw w.self-is (w.ask.ensures.starts.probes ∙ inv.probes);
            few = rw w.self-is (later_few ps n c.args.self.now.rounds.probes p _ _ _ _ up.ascending here w.ask.ensures.starts inv.few);
            counted = rw w.self-is (IsCounted_more _ (1000 * c.args.self.now.rounds.probes + n + 1) _ (omega arith)
                (w.ask.ensures.counted (1000 * c.args.self.now.rounds.probes + n) (omega (arith, c.requires.asks.three, up.few, inside)) inv.counted));
            room = rw w.desk-is (record {
              spare = omega (arith, inv.room.spare, w.ask.ensures.room.spare);
              few = omega (arith, inv.room.few, w.ask.ensures.room.few);
            });
          }
      | else-entry w ↦
          let away : (entry_of es p).joined ≡ false = sym (inv.joined p) ∙ ap (λ (e : Entry). e.joined) c.at-entry.ensures.entry ∙ w.if-entry.false in
          record {
            row = rw (w.self-is, w.desk-is, more, filter_past (λ (q : PeerId). (entry_of es q).joined) (take n ps) p away) inv.row;
            peers = rw w.self-is inv.peers;
            joined = rw w.self-is inv.joined;
            probes = rw w.self-is inv.probes;
            few = rw w.self-is (λ k d low high. inv.few k d (omega arith) high);
            counted = rw w.self-is (IsCounted_more _ (1000 * c.args.self.now.rounds.probes + n) _ (omega arith) inv.counted);
            room = rw w.desk-is (record { spare = omega (arith, inv.room.spare); few = omega (arith, inv.room.few) });
          }
    ]

pub returns-clause-row : goal.returns-clause-row
unfolding asks_slaves
returns-clause-row g c =
    let m = c.args.self.now in
    let ps = peers_of m.slaves in
    let n = c.loop-place.place in
    let all : take n ps ≡ ps = take_all n ps (omega (arith, c.loop-place-test.false, c.len-place-end.ensures.value)) in
    Performs_reading table_at (for_each asks) (joined_of m.slaves ps) (λ past h. joined_is c.args.at.tick past m h.stands.master)
    (rw all at c.loop-place.invariant.row)

pub returns-clause-room : goal.returns-clause-room
returns-clause-room g c = PutsAtMost_up c.loop-place.place (length (peers_of c.args.self.now.slaves))
    (subst (λ l. c.loop-place.place ≤ l) c.len-place-end.ensures.value c.loop-place.auto.place-end) c.loop-place.invariant.room
