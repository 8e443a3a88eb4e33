-- There is room for each peer, and the other peers so far were posted to.
use Rattle.std.proofs.Common.{ap, append-nil, append_assoc, arith, get_or, sym, ◌∙◌, ◌≡◌, ◌+◌, ◌++◌, ◌∷◌, [], suc, List, length, map, take}
use Rattle.std.proofs.{Math.Seq.take-suc, lemmas.List.length-append, lemmas.List.map-append, lemmas.List.take_all}
use Rattle.tsp_base.specs.Words.{MessageValue, others, placed}
use Rattle.tsp_base.proofs.RowLemmas.{others_more, others_own}
use Rattle.tsp_rules.specs.{GateRows.repost, Values.Placed, Values.PeerId, Values.Port}
use Rattle.tsp_gateway.proofs.looping.repost.Goals as goal
use Rattle.tsp_gateway.proofs.looping.repost.Goals.{then-p-station, else-p-station}

-- one post more
more : (m : MessageValue) (port : Port) (ps : List PeerId) (p : PeerId) (old mid new : List Placed) → mid ≡ old ++ placed port (map (repost m) ps) → new ≡
    mid ++ record { port = port; act = repost m p } ∷ [] → new ≡ old ++ placed port (map (repost m) (ps ++ p ∷ []))
more m port ps p old mid new before put =
    put ∙ ap (λ acts. acts ++ record { port = port; act = repost m p } ∷ []) before ∙
    append_assoc old (placed port (map (repost m) ps)) (record { port = port; act = repost m p } ∷ [])
    ∙ ap (λ acts. old ++ acts) (sym (ap (placed port) (map-append (repost m) ps (p ∷ [])) ∙ map-append _ (map (repost m) ps) (map (repost m) (p ∷ []))))

pub put-requires : goal.put-requires
put-requires g c = omega (arith, c.loop-p.invariant.room.spare, c.requires.room, ap length c.peers-p-items.ensures.value, c.loop-p-test.true)

pub loop-p-init : goal.loop-p-init
loop-p-init g c = record { acts = sym (append-nil (g.D.Desk.acts c.args.desk.now)); room = record { spare = omega arith; few = omega arith } }

pub loop-p-preserved : goal.loop-p-preserved
loop-p-preserved g c =
    let inv = c.loop-p.invariant in
    let own = c.args.station.now.me.own in
    let peers = c.args.station.now.peers in
    let i = c.loop-p.p-index in
    let same : c.peers-p-items.result.now ≡ peers = c.peers-p-items.ensures.value in
    let p : PeerId = get_or c.peers-p-items.result.now i (record { 0 = 0 }) in
    let one : i + 1 ≡ suc i = omega arith in
    let inside = c.loop-p-test.true in
    let end = ap length same in
    let next : take (i + 1) peers ≡ take i peers ++ p ∷ [] = ap (λ k. take k peers) one ∙ take-suc peers i (record { 0 = 0 }) (omega (arith, inside, end)) ∙
    ap (λ l. take i peers ++ get_or l i (record { 0 = 0 }) ∷ []) (sym same) in
    elim c.if-p-station.branch [
      | then-p-station w ↦
          let put = rw w.copy.ensures at w.put.ensures.acts in
          let few = ap length w.put.ensures.acts ∙ length-append (g.D.Desk.acts c.loop-p.desk) _ in
          rw (w.desk-is, next, others_more own p (take i peers) w.if-p-station.true) (record {
            acts = more c.args.message.now c.args.port (others own (take i peers)) p (g.D.Desk.acts c.args.desk.now) (g.D.Desk.acts c.loop-p.desk)
                (g.D.Desk.acts w.put.new.self) inv.acts put;
            room = record { spare = omega (arith, inv.room.spare, w.put.ensures.spare); few = omega (arith, inv.room.few, few) };
          })
      | else-p-station w ↦ rw (w.desk-is, next, others_own own p (take i peers) w.if-p-station.false) (record {
        acts = inv.acts;
        room = record { spare = omega (arith, inv.room.spare); few = omega (arith, inv.room.few) };
      })
    ]

pub returns-clause-acts : goal.returns-clause-acts
returns-clause-acts g c =
    let i = c.loop-p.p-index in
    let peers = c.args.station.now.peers in
    let end = ap length c.peers-p-items.ensures.value in
    let all : take i peers ≡ peers = take_all i peers (omega (arith, end, c.loop-p-test.false)) in
    rw all at c.loop-p.invariant.acts
