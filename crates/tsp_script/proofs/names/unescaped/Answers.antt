use Rattle.std.proofs.Common.{◌∙◌, sym, refl, rules, arith}
use Rattle.std.proofs.lemmas.Bool.{false≢true}
use Rattle.tsp_script.proofs.NameTexts.{name_begins, not_full, IsBytes_more, one_more, more_read, can_read, all_read, text_read, name_made, name_found}
use Rattle.tsp_script.proofs.names.unescaped.Goals as goal

pub loop-rest-init : goal.loop-rest-init
loop-rest-init c = (
  rw c.new-octets.ensures (λ i. omega arith),
  rw c.new-octets.ensures refl,
  λ name n b e. (
    name,
    rw c.new-octets.ensures refl,
    name_begins c.args.text.now name c.requires.not_empty e,
  ),
)

pub returns-in_err-octet-clause-reads : goal.returns-in_err-octet-clause-reads
returns-in_err-octet-clause-reads c = λ name n b e.
    let left = c.loop-rest.invariant.2 name n b e in
    let front = can_read name c.loop-rest.octets.items c.loop-rest.rest.now b (search rules) left in
    absurd (c.in_err-octet.ensures.reads front.0 front.1 front.2 front.3)

pub loop-rest-preserved : goal.loop-rest-preserved
loop-rest-preserved c = (
  IsBytes_more c.loop-rest.octets.items _ c.in_ok-octet.octet c.loop-rest.invariant.0 c.in_ok-octet.ensures.found.0 c.in-Ok.ensures.ok,
  more_read c.args.text.now c.loop-rest.octets.items _ c.loop-rest.rest.now c.in_ok-octet.after.now c.in_ok-octet.octet c.loop-rest.invariant.1
      c.in_ok-octet.ensures.found.1 c.in-Ok.ensures.ok,
  λ name n b e.
      one_more name c.loop-rest.octets.items _ c.loop-rest.rest.now c.in_ok-octet.after.now c.in_ok-octet.octet b (search rules) c.in_ok-octet.ensures.reads
      c.in-Ok.ensures.ok (c.loop-rest.invariant.2 name n b e),
)

pub returns-clause-found : goal.returns-clause-found
returns-clause-found c =
    let all = text_read c.args.text.now c.loop-rest.octets.items c.loop-rest.rest.now (search rules) c.loop-rest.invariant.1 in
    rw c.ok.ensures.value (name_found c.of.result c.as_slice.result.now c.args.text.now (rw c.as_slice.ensures.value c.loop-rest.invariant.0) c.requires.some
    (rw c.as_slice.ensures.value all) c.of.ensures)

pub returns-clause-reads : goal.returns-clause-reads
returns-clause-reads c = λ name n b e.
    c.ok.ensures.value ∙ name_made c.of.result _ name n (all_read name c.loop-rest.octets.items c.loop-rest.rest.now (search rules)
    (c.loop-rest.invariant.2 name n b e) ∙ sym c.as_slice.ensures.value) c.of.ensures

pub loop-rest-smaller : goal.loop-rest-smaller
loop-rest-smaller c = c.in_ok-octet.ensures.shorter

pub returns-in_default-clause-reads : goal.returns-in_default-clause-reads
returns-in_default-clause-reads c = λ name n b e.
    let few = not_full name c.loop-rest.octets.items c.loop-rest.rest.now (search rules) (c.loop-rest.invariant.2 name n b e) in
    absurd (false≢true (c.in_default.ensures.variant.1 (omega (arith, n, few))))
