-- One port more.
use Rattle.std.proofs.Common.{◌≡◌, ◌∙◌, [], ◌∷◌, ◌++◌, List, Some, ap, arith, inl, inr, length, length-append, rules, slice_get, subst, sym, vec_len}
use Rattle.std.proofs.Common.{slice_index_or}
use Rattle.tsp_rules.specs.NodeRows.{no_port}
use Rattle.tsp_base.specs.Words.{IsPeers}
use Rattle.tsp_node.specs.declared.part.Part.{Part}
use Rattle.tsp_gateway.{proofs.BootLemmas.get_last, proofs.BootLemmas.port_in_place, specs.PartsFresh.IsFreshPort}
use Rattle.tsp_gateway.proofs.booting.parts_of.Goals as goal

pub new-requires : goal.new-requires
new-requires c =
    let end = c.ports-q-end.ensures.value in
    subst IsPeers (sym (c.peers.ensures no_port)) (port_in_place c.args.config.now.ports c.loop-q.q c.requires (omega (arith, end, c.loop-q-test.true))).peers

pub push_reserved-requires : goal.push_reserved-requires
push_reserved-requires c =
    let len : vec_len c.loop-q.parts ≡ length c.loop-q.parts.items = search rules in
    omega (arith, len, c.loop-q.invariant.many, c.loop-q.invariant.memory, c.ports-q-end.ensures.few, c.loop-q-test.true)

pub loop-q-preserved : goal.loop-q-preserved
loop-q-preserved c =
    let config = c.args.config.now in
    let q = c.loop-q.q in
    let items = c.loop-q.parts.items in
    let new = c.in_ok-part.part in
    let e : c.push_reserved.new.self.items ≡ items ++ new ∷ [] = c.push_reserved.ensures.items in
    let here : IsFreshPort config c.args.word c.args.tick (slice_index_or config.ports q no_port) new = (
      c.in_ok-part.ensures.peers ∙ c.peers.ensures no_port,
      rw (c.me.ensures no_port, c.peers.ensures no_port) at c.in_ok-part.ensures.stands,
    ) in
    record {
      many = (let one = length-append items (new ∷ []) in let all = ap (λ (ps : List Part). length ps) e in let many = c.loop-q.invariant.many in
          omega (arith, one, all, many));
      each = λ k part is. elim (get_last items new k part (subst (λ (ps : List Part). slice_get ps k ≡ Some part) e is)) [
        | inl h ↦ c.loop-q.invariant.each k part h
        | inr h ↦ subst (λ j. IsFreshPort config c.args.word c.args.tick (slice_index_or config.ports j no_port) part) (sym (h.0 ∙ c.loop-q.invariant.many))
            (subst (λ (p : Part). IsFreshPort config c.args.word c.args.tick (slice_index_or config.ports q no_port) p) h.1 here)
      ];
      memory = c.push_reserved.ensures.capacity ∙ c.loop-q.invariant.memory;
    }

pub returns-clause-fresh : goal.returns-clause-fresh
returns-clause-fresh c = record {
  many = omega (arith, c.loop-q.invariant.many, c.ports-q-end.ensures.value, c.loop-q-test.false, c.loop-q.auto.q-end);
  each = c.loop-q.invariant.each;
}
