-- The estimate of one measured peer more is listed.
use Rattle.std.proofs.Common.{◌≡◌, ◌+◌, ◌<◌, ◌∷◌, [], ◌++◌, length, take, get_or, true, false, length-append, sym, ◌∙◌, ap, arith}
use Rattle.tsp_rules.specs.{RoundRows.diff_before, RoundRows.estimates, Values.PeerId}
use Rattle.tsp_measure.specs.{Slaves.entry_of, Slaves.peers_of, declared.entry.Entry.Entry}
use Rattle.tsp_master.specs.Closing.{estimate_with}
use Rattle.tsp_master.proofs.{AskLemmas.take_more, CloseLemmas.estimates_more, CloseLemmas.one-estimate, CloseLemmas.standings_past}
use Rattle.tsp_master.proofs.master.Master.gather.Goals.{then-entry, else-entry}
use Rattle.tsp_master.proofs.master.Master.gather.Goals as goal

pub loop-place-preserved : goal.loop-place-preserved
loop-place-preserved c =
    let inv = c.loop-place.invariant in
    let es = c.args.self.now.slaves in
    let v = c.args.self.now.rounds in
    let ps = peers_of es in
    let n = c.loop-place.place in
    let p : PeerId = c.at-entry.result.peer in
    let inside : n < length ps = omega (arith, c.loop-place-test.true, c.len-place-end.ensures.value) in
    let peer = rw inv.slaves at c.at-entry.ensures.peer in
    let here : get_or ps n p ≡ p = peer p in
    let entry : entry_of es p ≡ c.at-entry.result = rw inv.slaves at c.at-entry.ensures.entry in
    let more : take (n + 1) ps ≡ take n ps ++ p ∷ [] = take_more ps n p inside here in
    elim c.if-entry.branch [
      | then-entry w ↦
          let marked : (entry_of es p).measured ≡ true = ap (λ (e : Entry). e.measured) entry ∙ w.if-entry.true in
          let added : w.add_estimate.new.self.values.items ≡ c.loop-place.self.values.items ++ diff_before (estimate_with v p) [] =
          w.add_estimate.ensures.items ∙ ap (λ r. c.loop-place.self.values.items ++ diff_before (estimate_with r p) []) inv.rounds in
          record {
            items = rw (w.self-is, more) (added ∙ ap (λ zs. zs ++ diff_before (estimate_with v p) []) inv.items ∙
                sym (estimates_more es v (take n ps) p marked));
            few = rw w.self-is (omega (
              arith,
              ap length added,
              length-append c.loop-place.self.values.items (diff_before (estimate_with v p) []),
              one-estimate (estimate_with v p),
              inv.few,
            ));
            room = rw w.self-is (w.add_estimate.ensures.room ∙ inv.room);
            slaves = rw w.self-is (w.add_estimate.ensures.slaves ∙ inv.slaves);
            rounds = rw w.self-is (w.add_estimate.ensures.rounds ∙ inv.rounds);
          }
      | else-entry w ↦
          let unmarked : (entry_of es p).measured ≡ false = ap (λ (e : Entry). e.measured) entry ∙ w.if-entry.false in
          record {
            items = rw (w.self-is, more) (inv.items ∙ ap estimates (sym (standings_past es v (take n ps) p unmarked)));
            few = rw w.self-is (omega (arith, inv.few));
            room = rw w.self-is inv.room;
            slaves = rw w.self-is inv.slaves;
            rounds = rw w.self-is inv.rounds;
          }
    ]
