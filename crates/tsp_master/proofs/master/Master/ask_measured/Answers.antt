-- One measured peer after the other is asked.
use Rattle.std.proofs.Common.{get_or, refl, ◌∙◌, ap, arith, subst, ◌≤◌, ◌≡◌, ◌+◌, ◌*◌, ◌<◌, ◌∷◌, [], ◌++◌, length, take, true, false}
use Rattle.std.proofs.lemmas.List.{take_all}
use Rattle.tsp_base.proofs.PerformsLemmas.{Performs_each_more, Performs_nothing, Performs_reading}
use Rattle.tsp_base.{proofs.FrameLemmas.PutsAtMost_up, specs.Words.for_each, specs.Words.IsPeers}
use Rattle.tsp_rules.specs.{RoundRows.asks, RoundRows.asks_measured, RoundRows.measured_at, Values.PeerId}
use Rattle.tsp_measure.{proofs.Counters.IsCounted_more, specs.Slaves.entry_of, specs.Slaves.peers_of, specs.declared.entry.Entry.Entry}
use Rattle.tsp_master.specs.Closing.{measured_of}
use Rattle.tsp_master.proofs.AskLemmas.{Performs_probes, filter_more, filter_past, later_few, measured_is, take_more}
use Rattle.tsp_master.proofs.master.Master.ask_measured.Goals.{then-entry, else-entry}
use Rattle.tsp_master.proofs.master.Master.ask_measured.Goals as goal

pub loop-place-init : goal.loop-place-init
unfolding for_each
loop-place-init g c = record {
  row = Performs_nothing;
  slaves = refl;
  probes = refl;
  few = λ k d low high. c.requires.asks.few (get_or (peers_of c.args.self.now.slaves) k d);
  counted = IsCounted_more _ (1000 * c.args.self.now.rounds.probes) _ (omega arith) c.requires.asks.counted;
  room = record { spare = omega arith; few = omega arith };
}

pub loop-place-preserved : goal.loop-place-preserved
loop-place-preserved g c =
    let inv = c.loop-place.invariant in
    let es = c.args.self.now.slaves in
    let ps = peers_of es in
    let n = c.loop-place.place in
    let p : PeerId = c.at-entry.result.peer in
    let inside : n < length ps = omega (arith, c.loop-place-test.true, c.len-place-end.ensures.value) in
    let up : IsPeers (peers_of es) = c.len-place-end.ensures.valid in
    let peer = rw inv.slaves at c.at-entry.ensures.peer in
    let here : get_or ps n p ≡ p = peer p in
    let entry : entry_of es p ≡ c.at-entry.result = rw inv.slaves at c.at-entry.ensures.entry in
    let more : take (n + 1) ps ≡ take n ps ++ p ∷ [] = take_more ps n p inside here in
    elim c.if-entry.branch [
      | then-entry w ↦
          let marked : (entry_of es p).measured ≡ true = ap (λ (e : Entry). e.measured) entry ∙ w.if-entry.true in
          let now : (entry_of c.loop-place.self.slaves p).measured ≡ true = ap (λ xs. (entry_of xs p).measured) inv.slaves ∙ marked in
          record {
            row = rw (w.self-is, w.desk-is, more, filter_more (λ (q : PeerId). (entry_of es q).measured) (take n ps) p marked)
                (Performs_each_more asks (measured_of es (take n ps)) p inv.row (Performs_probes p _ _ c.args.station.now c.args.clock.now now
                w.ask.ensures.slaves w.ask.ensures.starts w.ask.ensures.acts));
            slaves = rw w.self-is (w.ask.ensures.slaves ∙ inv.slaves);
            probes = rw w.self-is (w.ask.ensures.starts.probes ∙ inv.probes);
            few = rw w.self-is (later_few ps n c.args.self.now.rounds.probes p _ _ _ _ up.ascending here w.ask.ensures.starts inv.few);
            counted = rw w.self-is (IsCounted_more _ (1000 * c.args.self.now.rounds.probes + n + 1) _ (omega arith)
                (w.ask.ensures.counted (1000 * c.args.self.now.rounds.probes + n) (omega (arith, c.requires.asks.three, up.few, inside)) inv.counted));
            room = rw w.desk-is (record {
              spare = omega (arith, inv.room.spare, w.ask.ensures.room.spare);
              few = omega (arith, inv.room.few, w.ask.ensures.room.few);
            });
          }
      | else-entry w ↦
          let unmarked : (entry_of es p).measured ≡ false = ap (λ (e : Entry). e.measured) entry ∙ w.if-entry.false in
          record {
            row = rw (w.self-is, w.desk-is, more, filter_past (λ (q : PeerId). (entry_of es q).measured) (take n ps) p unmarked) inv.row;
            slaves = rw w.self-is inv.slaves;
            probes = rw w.self-is inv.probes;
            few = rw w.self-is (λ k d low high. inv.few k d (omega arith) high);
            counted = rw w.self-is (IsCounted_more _ (1000 * c.args.self.now.rounds.probes + n) _ (omega arith) inv.counted);
            room = rw w.desk-is (record { spare = omega (arith, inv.room.spare); few = omega (arith, inv.room.few) });
          }
    ]

pub returns-clause-row : goal.returns-clause-row
unfolding asks_measured
returns-clause-row g c =
    let m = c.args.self.now in
    let ps = peers_of m.slaves in
    let n = c.loop-place.place in
    let all : take n ps ≡ ps = take_all n ps (omega (arith, c.loop-place-test.false, c.len-place-end.ensures.value)) in
    Performs_reading measured_at (for_each asks) (measured_of m.slaves ps) (λ past h. measured_is c.args.at.tick past m h.stands.master)
    (rw all at c.loop-place.invariant.row)

pub returns-clause-room : goal.returns-clause-room
returns-clause-room g c = PutsAtMost_up c.loop-place.place (length (peers_of c.args.self.now.slaves))
    (subst (λ l. c.loop-place.place ≤ l) c.len-place-end.ensures.value c.loop-place.auto.place-end) c.loop-place.invariant.room
