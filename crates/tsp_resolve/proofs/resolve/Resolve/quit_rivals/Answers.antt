-- A QUIT begins to one marked peer after the other.
use Rattle.std.proofs.Common.{sym, ◌∙◌, ap, append-nil, arith, get_or, ◌≡◌, suc, ◌+◌, ◌<◌, ◌∷◌, [], ◌++◌, if◌then◌else◌, true, false, length, take}
use Rattle.std.proofs.Common.{slice_index_or, refl}
use Rattle.std.proofs.lemmas.List.{get_or_default, take_all}
use Rattle.tsp_base.specs.Words.{for_each}
use Rattle.tsp_base.proofs.PerformsLemmas.{Performs_each_more, Performs_nothing, Performs_reading}
use Rattle.tsp_rules.specs.{Guards.rivals_at, ResolveRows.quits_rivals, SendRows.begins, Values.QuitKind, Values.PeerId}
use Rattle.tsp_resolve.specs.Marked.{marked}
use Rattle.tsp_resolve.proofs.{MarkedLemmas.marked_more, ResolveLemmas.Performs_resolving_acting, ResolveLemmas.rivals_marked}
use Rattle.tsp_resolve.proofs.resolve.Resolve.quit_rivals.Goals.{then-at, else-at}
use Rattle.tsp_rules.proofs.{BuiltShared.built_begins, Emits.Numbering, EmitsBuilt.emits_built}
use Rattle.tsp_resolve.proofs.resolve.Resolve.quit_rivals.Goals as goal

pub bounds-peers-place : goal.bounds-peers-place
bounds-peers-place g c = omega (
  arith,
  c.loop-place-test.true,
  ap length c.peers-place-end.ensures.value,
  ap length c.peers.ensures.value,
  ap length c.loop-place.invariant.same.peers,
)

pub loop-place-init : goal.loop-place-init
unfolding for_each
loop-place-init g c = record { row = Performs_nothing; same = record { me = refl; peers = refl }; room = record { spare = omega arith; few = omega arith } }

pub loop-place-preserved : goal.loop-place-preserved
loop-place-preserved g c =
    let inv = c.loop-place.invariant in
    let ps = c.args.station.now.peers in
    let marks = c.args.self.now.marks in
    let n = c.loop-place.place in
    let none : PeerId = record { 0 = 0 } in
    let p : PeerId = slice_index_or c.peers.result.now n none in
    let there : c.peers.result.now ≡ ps = c.peers.ensures.value ∙ inv.same.peers in
    let inside : n < length ps = omega (arith, c.loop-place-test.true, ap length c.peers-place-end.ensures.value) in
    let here : get_or ps n p ≡ p = get_or_default ps n p none inside ∙ ap (λ l. get_or l n none) (sym there) in
    let one : n + 1 ≡ suc n = omega arith in
    let more = ap (λ k. marked (take k ps) marks) one ∙ marked_more ps marks n p c.requires.many inside here in
    elim c.if-at.branch [
      | then-at w ↦
          let set : get_or marks n false ≡ true = sym c.at.ensures ∙ w.if-at.true in
          let grown : marked (take (n + 1) ps) marks ≡ marked (take n ps) marks ++ p ∷ [] = more ∙
          ap (λ b. marked (take n ps) marks ++ (if b then p ∷ [] else [])) set in
          record {
            row = rw (w.station-is, w.desk-is, grown) (Performs_each_more (begins QuitKind) (marked (take n ps) marks) p inv.row
                (Performs_resolving_acting c.args.self.now (emits_built {few = Numbering ∷ []} refl (built_begins QuitKind p tt refl refl))
                w.begin.ensures.row));
            same = rw w.station-is (record { me = w.begin.ensures.rest.me ∙ inv.same.me; peers = w.begin.ensures.rest.peers ∙ inv.same.peers });
            room = rw w.desk-is (record {
              spare = omega (arith, inv.room.spare, w.begin.ensures.room.spare);
              few = omega (arith, inv.room.few, w.begin.ensures.room.count);
            });
          }
      | else-at w ↦
          let unset : get_or marks n false ≡ false = sym c.at.ensures ∙ w.if-at.false in
          let same : marked (take (n + 1) ps) marks ≡ marked (take n ps) marks = more ∙ ap (λ b. marked (take n ps) marks ++ (if b then p ∷ [] else [])) unset ∙
          append-nil (marked (take n ps) marks) in
          record {
            row = rw (w.station-is, w.desk-is, same) inv.row;
            same = rw w.station-is inv.same;
            room = rw w.desk-is (record { spare = omega (arith, inv.room.spare); few = omega (arith, inv.room.few) });
          }
    ]

pub returns-clause-row : goal.returns-clause-row
unfolding quits_rivals
returns-clause-row g c =
    let ps = c.args.station.now.peers in
    let n = c.loop-place.place in
    let all : take n ps ≡ ps = take_all n ps (omega (arith, c.loop-place-test.false, ap length c.peers-place-end.ensures.value)) in
    Performs_reading rivals_at (for_each (begins QuitKind)) (marked ps c.args.self.now.marks) (λ past h. rivals_marked c.args.tick past c.args.self.now ps
    c.peers-place-end.ensures.valid h.station.peers h.resolve)
    (rw all at c.loop-place.invariant.row)
