-- Each port but q is told, and then the node stands.
use Rattle.std.proofs.Common.{◌≡◌, ◌+◌, ◌<◌, ◌∙◌, ap, arith, length, refl, rules, subst, sym, vec_len}
use Rattle.std.proofs.lemmas.Option.{slice_get_within}
use Rattle.tsp_acks.specs.declared.station.Station.{Station}
use Rattle.tsp_gateway.{specs.Rooms.ports_in, proofs.gateway.Gateway.tell.Goals.then-r-q, proofs.gateway.Gateway.tell.Goals.else-r-q}
use Rattle.tsp_gateway.{specs.declared.gateway.Gateway.Gateway, proofs.LiftLemmas.part_there, proofs.LiftLemmas.ports_many}
use Rattle.tsp_gateway.proofs.TellLemmas.{IsTelling, all_told, set_peers, telling_more, telling_skip}
use Rattle.tsp_gateway.proofs.gateway.Gateway.tell.Goals as goal

pub loop-r-init : goal.loop-r-init
loop-r-init c = record {
  telling = record { told = λ k lt n part is. let bad : ⊥ = omega (arith, lt) in absurd bad; others = λ k le. refl; own = refl; many = refl };
  ports = refl;
  clock = refl;
  tracing = refl;
}

pub loop-r-preserved : goal.loop-r-preserved
loop-r-preserved c =
    let old = c.args.self.now in
    let now = c.loop-r.self in
    let r = c.loop-r.r in
    let i = c.loop-r.invariant in
    let len : vec_len old.ports ≡ length old.ports.items = search rules in
    let many = ports_many now in
    let same = i.telling.many in
    let end = c.len-r-end.ensures in
    let inside : r < length (ports_in now) = omega (arith, len, many, same, end, c.loop-r-test.true) in
    elim c.if-r-q.branch [
      | then-r-q w ↦
          let there = part_there now r w.index_mut.result.now inside w.index_mut.ensures.value in
          let m = w.moved.ensures in
          subst (λ (h : Gateway). IsTelling c.args.q c.args.tick (r + 1) old h) (sym w.self-is) (record {
            telling = telling_more c.args.q c.args.tick r old.ports.items now.ports.items w.index_mut.result.now w.moved.new.self w.if-r-q.true there m.station
                m.last m.master m.resolve m.dates i.telling;
            ports = set_peers now.ports.items r w.moved.new.self w.index_mut.result.now there (ap (λ (s : Station). s.peers) m.station) ∙ i.ports;
            clock = i.clock;
            tracing = i.tracing;
          })
      | else-r-q w ↦
          subst (λ (h : Gateway). IsTelling c.args.q c.args.tick (r + 1) old h) (sym w.self-is) (record {
            telling = telling_skip c.args.q c.args.tick r old.ports.items now.ports.items w.if-r-q.false i.telling;
            ports = i.ports;
            clock = i.clock;
            tracing = i.tracing;
          })
    ]

pub returns-clause-stands : goal.returns-clause-stands
returns-clause-stands c past u =
    let old = c.args.self.now in
    let now = c.loop-r.self in
    let i = c.loop-r.invariant in
    let len : vec_len old.ports ≡ length old.ports.items = search rules in
    let end = c.len-r-end.ensures in
    let same = i.telling.many in
    all_told c.args.q c.args.tick past old now
    (λ k n part is. i.telling.told k (let inside = slice_get_within now.ports.items k part is in omega (arith, inside, len, end, same, c.loop-r-test.false)) n
    part is) i.telling.own i.telling.many i.clock i.tracing u
