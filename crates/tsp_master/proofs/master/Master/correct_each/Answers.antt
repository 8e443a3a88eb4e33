-- One measured peer after the other is corrected.
use Rattle.std.proofs.Common.{get_or, refl, sym, ◌∙◌, ap, arith, w64, to_z, of_z, to_z-of_z, subst, ◌≤◌, ◌≡◌, ◌+◌, ◌<◌, ◌∷◌, [], ◌++◌, length, take, true}
use Rattle.std.proofs.Common.{false}
use Rattle.std.proofs.lemmas.List.{take_all}
use Rattle.tsp_base.specs.Words.{for_each, IsPeers}
use Rattle.tsp_base.proofs.{FrameLemmas.PutsAtMost_up, PerformsLemmas.Performs_each_more, PerformsLemmas.Performs_nothing}
use Rattle.tsp_rules.specs.{RoundRows.corrects_peer, Values.PeerId}
use Rattle.tsp_measure.specs.{Slaves.entry_of, Slaves.peers_of, declared.entry.Entry.Entry}
use Rattle.tsp_master.specs.Closing.{standing_with, standings_of}
use Rattle.tsp_master.proofs.{AskLemmas.take_more, master.Master.correct_each.Goals.then-entry, master.Master.correct_each.Goals.else-entry}
use Rattle.tsp_master.proofs.CloseLemmas.{corrects_with, later_same, standings_more, standings_past}
use Rattle.tsp_master.proofs.master.Master.correct_each.Goals as goal

pub loop-place-init : goal.loop-place-init
unfolding for_each
loop-place-init g c = record {
  row = Performs_nothing;
  peers = refl;
  rounds = refl;
  later = λ k d low high. refl;
  port = record { me = refl; peers = refl };
  room = record { spare = omega arith; few = omega arith };
}

pub loop-place-preserved : goal.loop-place-preserved
loop-place-preserved g c =
    let inv = c.loop-place.invariant in
    let es = c.args.self.now.slaves in
    let v = c.args.self.now.rounds in
    let ps = peers_of es in
    let n = c.loop-place.place in
    let p : PeerId = c.at-entry.result.peer in
    let mean = to_z w64 (of_z w64 c.args.mean) in
    let inside : n < length ps = omega (arith, c.loop-place-test.true, c.len-place-end.ensures.value) in
    let up : IsPeers (peers_of es) = c.len-place-end.ensures.valid in
    let peer = rw inv.peers at c.at-entry.ensures.peer in
    let here : get_or ps n p ≡ p = peer p in
    let kept = inv.later n p (omega arith) inside in
    let entry : entry_of es p ≡ c.at-entry.result = ap (entry_of es) (sym here) ∙ sym kept ∙ ap (entry_of c.loop-place.self.slaves) here ∙
    c.at-entry.ensures.entry in
    let more : take (n + 1) ps ≡ take n ps ++ p ∷ [] = take_more ps n p inside here in
    elim c.if-entry.branch [
      | then-entry w ↦
          let marked : (entry_of es p).measured ≡ true = ap (λ (e : Entry). e.measured) entry ∙ w.if-entry.true in
          record {
            row = rw (w.self-is, w.station-is, w.desk-is, more, standings_more es v (take n ps) p marked)
                (Performs_each_more (corrects_peer mean) (standings_of es v (take n ps)) (standing_with v p) inv.row
                (corrects_with mean p inv.rounds w.correct_peer.ensures.row));
            peers = rw w.self-is (w.correct_peer.ensures.only.peers ∙ inv.peers);
            rounds = rw w.self-is (w.correct_peer.ensures.only.rounds ∙ inv.rounds);
            later = rw w.self-is (later_same ps n p es _ _ up.ascending here w.correct_peer.ensures.only.others inv.later);
            port = rw w.station-is (record { me = w.correct_peer.ensures.port.me ∙ inv.port.me; peers = w.correct_peer.ensures.port.peers ∙ inv.port.peers });
            room = rw w.desk-is (record {
              spare = omega (arith, inv.room.spare, w.correct_peer.ensures.room.spare);
              few = omega (arith, inv.room.few, w.correct_peer.ensures.room.few);
            });
          }
      | else-entry w ↦
          let unmarked : (entry_of es p).measured ≡ false = ap (λ (e : Entry). e.measured) entry ∙ w.if-entry.false in
          record {
            row = rw (w.self-is, w.station-is, w.desk-is, more, standings_past es v (take n ps) p unmarked) inv.row;
            peers = rw w.self-is inv.peers;
            rounds = rw w.self-is inv.rounds;
            later = rw w.self-is (λ k d low high. inv.later k d (omega arith) high);
            port = rw w.station-is inv.port;
            room = rw w.desk-is (record { spare = omega (arith, inv.room.spare); few = omega (arith, inv.room.few) });
          }
    ]

pub returns-clause-row : goal.returns-clause-row
returns-clause-row g c =
    let ps = peers_of c.args.self.now.slaves in
    let n = c.loop-place.place in
    let all : take n ps ≡ ps = take_all n ps (omega (arith, c.loop-place-test.false, c.len-place-end.ensures.value)) in
    let back : to_z w64 (of_z w64 c.args.mean) ≡ c.args.mean = to_z-of_z c.ranges.mean in
    rw (all, back) at c.loop-place.invariant.row

pub returns-clause-room : goal.returns-clause-room
returns-clause-room g c = PutsAtMost_up c.loop-place.place (length (peers_of c.args.self.now.slaves))
    (subst (λ l. c.loop-place.place ≤ l) c.len-place-end.ensures.value c.loop-place.auto.place-end) c.loop-place.invariant.room
