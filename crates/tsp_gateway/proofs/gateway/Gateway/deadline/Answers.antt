-- One port more, and at last all of them.
use Rattle.std.proofs.Common.{sym, ◌∙◌, ap, refl, arith, subst, inl, inr, ◌≡◌, ℕ, List, [], ◌∷◌, ◌++◌, length, Option, Some}
use Rattle.std.proofs.lemmas.{List.length-append, Option.slice_get-get_or}
use Rattle.tsp_base.specs.Words.{earlier}
use Rattle.tsp_node.specs.{Dues.IsPartDue, NodeStands.due_of, declared.part.Part.Part}
use Rattle.tsp_gateway.proofs.DueLemmas.{get_append, least_of_append}
use Rattle.tsp_gateway.proofs.gateway.Gateway.deadline.Goals as goal

pub loop-part-preserved : goal.loop-part-preserved
loop-part-preserved c =
    let before = c.loop-part.invariant in
    let d = c.due.result in (
      before.0 ++ d ∷ [],
      rw (length-append, before.1) refl,
      (λ q due there. elim (get_append before.0 d due q there) [
        | inl h ↦ before.2 q due h
        | inr h ↦ (
          c.part-item.result,
          rw (h.0, before.1, ← c.deref-part-items.ensures.value)
              (slice_get-get_or c.deref-part-items.result.now c.loop-part.part-index c.part-item.result c.loop-part-test.true ∙ ap Some (sym c.part-item.is)),
          subst (λ (o : Option ℕ). IsPartDue c.part-item.result o) h.1 c.due.ensures,
        )
      ]),
      c.earlier-due.ensures ∙ (ap (λ (o : Option ℕ). earlier o d) before.3 ∙ sym (least_of_append before.0 d)),
    )

pub returns-in-Some : goal.returns-in-Some
returns-in-Some c =
    let l = c.loop-part.invariant in
    let items : length c.deref-part-items.result.now ≡ length c.args.self.now.ports.items =
    ap (λ (ps : List Part). length ps) c.deref-part-items.ensures.value in
    record {
      dues = l.0;
      many = omega (arith, l.1, items, c.loop-part-test.false, c.loop-part.auto.part-index-end);
      each = l.2;
      at_is = ap (λ (o : Option ℕ). due_of o) (sym c.in-Some.is ∙ l.3);
    }

pub returns-in-None : goal.returns-in-None
returns-in-None c =
    let l = c.loop-part.invariant in
    let items : length c.deref-part-items.result.now ≡ length c.args.self.now.ports.items =
    ap (λ (ps : List Part). length ps) c.deref-part-items.ensures.value in
    record {
      dues = l.0;
      many = omega (arith, l.1, items, c.loop-part-test.false, c.loop-part.auto.part-index-end);
      each = l.2;
      at_is = ap (λ (o : Option ℕ). due_of o) (sym c.in-None.is ∙ l.3);
    }
