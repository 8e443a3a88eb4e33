-- One slave after the other leaves.
use Rattle.std.proofs.Common.{get_or, refl, sym, ◌∙◌, ap, arith, length-append, subst, ◌≤◌, ◌≡◌, ◌+◌, ◌<◌, ◌∷◌, [], ◌++◌, length, take, true, false}
use Rattle.std.proofs.Common.{slice_index_or}
use Rattle.std.proofs.lemmas.List.{get_or_default, take_all}
use Rattle.tsp_base.proofs.PerformsLemmas.{Performs_each_more, Performs_nothing, Performs_reading}
use Rattle.tsp_base.{proofs.FrameLemmas.PutsAtMost_up, specs.Words.for_each}
use Rattle.tsp_rules.specs.{DateRows.leaves, DateRows.leaves_all, Guards.table_at, Values.PeerId}
use Rattle.tsp_measure.specs.{Slaves.entry_of, Slaves.leaves as leaves_entry, Slaves.peers_of, declared.entry.Entry.Entry}
use Rattle.tsp_master.proofs.AskLemmas.{filter_more, filter_past, joined_is, joined_of, take_more}
use Rattle.tsp_master.proofs.CloseLemmas.{later_same}
use Rattle.tsp_date.proofs.DateLemmas.{Performs_leave, changes_others}
use Rattle.tsp_date.proofs.set.dismiss.Goals.{then-leave, else-leave}
use Rattle.tsp_date.proofs.set.dismiss.Goals as goal

pub loop-p-init : goal.loop-p-init
unfolding for_each
loop-p-init g c = record {
  row = λ x. Performs_nothing;
  peers = refl;
  later = λ k d low high. refl;
  room = record { spare = omega arith; few = omega arith };
}

pub loop-p-preserved : goal.loop-p-preserved
loop-p-preserved g c =
    let inv = c.loop-p.invariant in
    let es = c.args.master.now.slaves in
    let ps = c.args.station.now.peers in
    let n = c.loop-p.p-index in
    let p : PeerId = slice_index_or c.peers-p-items.result.now n (record { 0 = 0 }) in
    let there : c.peers-p-items.result.now ≡ ps = c.peers-p-items.ensures.value in
    let inside : n < length ps = omega (arith, c.loop-p-test.true, ap length there) in
    let up = c.peers-p-items.ensures.valid.ascending in
    let here : get_or ps n p ≡ p = ap (λ l. get_or l n p) (sym there) ∙ get_or_default c.peers-p-items.result.now n p (record { 0 = 0 })
    (omega (arith, c.loop-p-test.true)) in
    let entry : entry_of c.loop-p.master.slaves p ≡ entry_of es p = ap (entry_of c.loop-p.master.slaves) (sym here) ∙ inv.later n p (omega arith) inside ∙
    ap (entry_of es) here in
    let more : take (n + 1) ps ≡ take n ps ++ p ∷ [] = take_more ps n p inside here in
    elim c.if-leave.branch [
      | then-leave w ↦
          let joined : (entry_of es p).joined ≡ true = ap (λ (e : Entry). e.joined) (sym entry) ∙ sym c.leave.ensures.joined ∙ w.if-leave.true in
          record {
            row = rw (w.desk-is, more, filter_more (λ (q : PeerId). (entry_of es q).joined) (take n ps) p joined)
                (λ x. Performs_each_more leaves (joined_of es (take n ps)) p (inv.row x) (Performs_leave p (c.leave.ensures.stands w.if-leave.true)
                w.put.ensures.acts));
            peers = c.leave.ensures.peers ∙ inv.peers;
            later = later_same ps n p es _ _ up here (changes_others leaves_entry p _ _ (c.leave.ensures.slaves w.if-leave.true)) inv.later;
            room = rw w.desk-is (record {
              spare = omega (arith, inv.room.spare, w.put.ensures.spare);
              few = omega (arith, inv.room.few, ap length w.put.ensures.acts ∙ length-append (g.D.Desk.acts c.loop-p.desk) _);
            });
          }
      | else-leave w ↦
          let away : (entry_of es p).joined ≡ false = ap (λ (e : Entry). e.joined) (sym entry) ∙ sym c.leave.ensures.joined ∙ w.if-leave.false in
          record {
            row = rw (w.desk-is, c.leave.ensures.same w.if-leave.false, more, filter_past (λ (q : PeerId). (entry_of es q).joined) (take n ps) p away) inv.row;
            peers = c.leave.ensures.peers ∙ inv.peers;
            later = rw (c.leave.ensures.same w.if-leave.false) (λ k d low high. inv.later k d (omega arith) high);
            room = rw w.desk-is (record { spare = omega (arith, inv.room.spare); few = omega (arith, inv.room.few) });
          }
    ]

pub returns-clause-row : goal.returns-clause-row
unfolding leaves_all
returns-clause-row g c x =
    let m = c.args.master.now in
    let ps = c.args.station.now.peers in
    let n = c.loop-p.p-index in
    let all : take n ps ≡ ps = take_all n ps (omega (arith, c.loop-p-test.false, ap length c.peers-p-items.ensures.value)) in
    Performs_reading table_at (for_each leaves) (joined_of m.slaves (peers_of m.slaves)) (λ past h. joined_is x past m h)
    (let r = rw all at c.loop-p.invariant.row in rw c.requires.same (r x))

pub returns-clause-room : goal.returns-clause-room
returns-clause-room g c = PutsAtMost_up c.loop-p.p-index (length c.args.station.now.peers)
    (subst (λ l. c.loop-p.p-index ≤ length l) c.peers-p-items.ensures.value c.loop-p.auto.p-index-end) c.loop-p.invariant.room
