use Rattle.std.proofs.Common.{◌∙◌, sym, ap, length, Some, arith, rules, eqb-true}
use Rattle.tsp_script.proofs.NameTexts.{name_begins, name_empty, name_text_some, plain_name, plain_text, name_made, name_found, empty_found}
use Rattle.tsp_script.proofs.names.name_of.Goals as goal

pub returns-then-is_same-clause-found : goal.returns-then-is_same-clause-found
returns-then-is_same-clause-found c = empty_found _ c.args.text.now c.empty.ensures c.if-is_same.ensures

pub returns-then-is_same-clause-reads : goal.returns-then-is_same-clause-reads
returns-then-is_same-clause-reads c = λ name n b e.
    ap Some (c.empty.ensures ∙ sym (name_empty name (sym c.if-is_same.ensures ∙ e)))

pub returns-then-is_empty-clause-reads : goal.returns-then-is_empty-clause-reads
returns-then-is_empty-clause-reads c = λ name n b e.
    absurd (omega (arith, eqb-true (length c.args.text.now) 0 (sym c.if-is_empty.ensures), ap length e, name_text_some name))

pub returns-then-are_plain : goal.returns-then-are_plain
returns-then-are_plain c = record {
  found = rw c.ok.ensures.value (name_found c.of.result c.args.text.now c.args.text.now (search rules) (search rules)
      (sym (plain_text c.args.text.now c.if-are_plain.ensures)) c.of.ensures);
  reads = λ name n b e.
      c.ok.ensures.value ∙ name_made c.of.result _ name n (plain_name name _ c.if-are_plain.ensures (name_begins _ name c.if-is_same.ensures e)) c.of.ensures;
}
