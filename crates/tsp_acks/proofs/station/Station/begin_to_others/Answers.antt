-- A send begins to one peer after the other.
use Rattle.std.proofs.Common.{sym, ◌∙◌, ap, subst, arith, ◌≡◌, suc, ◌+◌, ◌∷◌, [], ◌++◌, length, take, slice_index_or, refl}
use Rattle.std.proofs.{Math.Seq.take-suc, lemmas.List.take_all}
use Rattle.tsp_base.specs.Words.{Performs, for_each, others}
use Rattle.tsp_base.proofs.{PerformsLemmas.Performs_nothing, PerformsLemmas.Performs_reading, RowLemmas.others_own}
use Rattle.tsp_rules.specs.{SendRows.begins, SendRows.begins_to_others, SendRows.others_at, Values.PeerId}
use Rattle.tsp_acks.{proofs.ChangeLemmas.ChangesSends_then, proofs.SendingLemmas.Performs_begun_more, specs.Stands.StandsActing}
use Rattle.tsp_acks.proofs.station.Station.begin_to_others.Goals.{then-p-self, else-p-self}
use Rattle.tsp_acks.proofs.station.Station.begin_to_others.Goals as goal

pub loop-place-init : goal.loop-place-init
unfolding for_each
loop-place-init g c = record {
  row = Performs_nothing;
  rest = record { me = refl; role = refl; hold = refl; alarms = refl; backers = refl; peers = refl };
  room = record { spare = omega arith; few = omega arith };
}

pub loop-place-preserved : goal.loop-place-preserved
loop-place-preserved g c =
    let inv = c.loop-place.invariant in
    let peers = c.args.self.now.peers in
    let n = c.loop-place.place in
    let p : PeerId = slice_index_or c.as_slice.result.now n (record { 0 = 0 }) in
    let there : c.as_slice.result.now ≡ peers = c.as_slice.ensures.value ∙ inv.rest.peers in
    let inside = c.loop-place-test.true in
    let end = ap length c.as_slice-place-end.ensures.value in
    let one : n + 1 ≡ suc n = omega arith in
    let more : take (n + 1) peers ≡ take n peers ++ p ∷ [] = ap (λ k. take k peers) one ∙ take-suc peers n (record { 0 = 0 }) (omega (arith, inside, end)) ∙
    ap (λ l. take n peers ++ slice_index_or l n (record { 0 = 0 }) ∷ []) (sym there) in
    elim c.if-p-self.branch [
      | then-p-self w ↦ record {
        row = rw (w.self-is, w.desk-is, more) (Performs_begun_more c.args.kind c.args.self.now.me.own p (take n peers) (λ e. w.if-p-self.true (e ∙
            ap (λ i. i.own.0) (sym inv.rest.me))) inv.row w.begin.ensures.row);
        rest = rw w.self-is (ChangesSends_then inv.rest w.begin.ensures.rest);
        room = rw w.desk-is (record {
          spare = omega (arith, inv.room.spare, w.begin.ensures.room.spare);
          few = omega (arith, inv.room.few, w.begin.ensures.room.count);
        });
      }
      | else-p-self w ↦ record {
        row = rw (w.self-is, w.desk-is, more, others_own c.args.self.now.me.own p (take n peers) (w.if-p-self.false ∙ ap (λ i. i.own.0) inv.rest.me)) inv.row;
        rest = rw w.self-is inv.rest;
        room = rw w.desk-is (record { spare = omega (arith, inv.room.spare); few = omega (arith, inv.room.few) });
      }
    ]

pub returns-clause-row : goal.returns-clause-row
unfolding begins_to_others
returns-clause-row g c =
    let st = c.args.self.now in
    let n = c.loop-place.place in
    let end = ap length c.as_slice-place-end.ensures.value in
    let past_end = c.loop-place-test.false in
    let all : take n st.peers ≡ st.peers = take_all _ _ (omega (arith, end, past_end)) in
    Performs_reading others_at (for_each (begins c.args.kind)) (others st.me.own st.peers)
    (λ past h. ap (λ own. others own past.peers) (sym h.stands.own) ∙ ap (λ ps. others st.me.own ps) (sym h.stands.peers))
    (subst (λ ps. Performs StandsActing StandsActing (for_each (begins c.args.kind) (others st.me.own ps)) c.args.tick c.args.port st c.loop-place.self
    (g.D.Desk.acts c.args.desk.now) (g.D.Desk.acts c.loop-place.desk))
    all c.loop-place.invariant.row)
