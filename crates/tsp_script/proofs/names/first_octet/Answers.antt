use Rattle.std.proofs.Common.{◌≡◌, ◌∙◌, sym, arith, true}
use Rattle.tsp_script.{proofs.NameTexts.percent_front, proofs.NameTexts.percent_escapes, proofs.NameTexts.pair_front, specs.Texts.is_plain}
use Rattle.tsp_script.proofs.Outcomes.{none_or_some, some_once, true_or_false}
use Rattle.tsp_script.proofs.names.first_octet.Goals as goal

pub returns-then-rest-lt2-clause-reads : goal.returns-then-rest-lt2-clause-reads
returns-then-rest-lt2-clause-reads c = λ x r h e.
    let q = percent_front x _ _ r c.if-first-ne37.false (sym c.in_ok-first.ensures.cases.0 ∙ e) in
    let f = pair_front x _ r q in omega (arith, f.2)

pub returns-in_err-octet-clause-reads : goal.returns-in_err-octet-clause-reads
returns-in_err-octet-clause-reads c = λ x r h e.
    let q = percent_front x _ _ r c.if-first-ne37.false (sym c.in_ok-first.ensures.cases.0 ∙ e) in
    let f = pair_front x _ r q in
    absurd (none_or_some _ _ c.in_err-octet.was (c.octet_of.ensures.reads x h (c.split_at.ensures.front ∙ f.0)))

pub returns-then-is_plain-2-clause-reads : goal.returns-then-is_plain-2-clause-reads
returns-then-is_plain-2-clause-reads c = λ x r h e.
    let front = sym c.in_ok-first.ensures.cases.0 ∙ e in
    let f = pair_front x _ r (percent_front x _ _ r c.if-first-ne37.false front) in
    let o = some_once _ _ _ c.in_ok-octet.was (c.octet_of.ensures.reads x h (c.split_at.ensures.front ∙ f.0)) in
    let p : is_plain c.in_ok-octet.octet ≡ true = sym c.if-is_plain-2.ensures in
    true_or_false (is_plain x) (rw o at p) (percent_escapes x _ _ r c.if-first-ne37.false front)

pub returns-clause-reads : goal.returns-clause-reads
returns-clause-reads c = λ x r h e.
    let q = percent_front x _ _ r c.if-first-ne37.false (sym c.in_ok-first.ensures.cases.0 ∙ e) in
    let f = pair_front x _ r q in
    (some_once _ _ _ c.in_ok-octet.was (c.octet_of.ensures.reads x h (c.split_at.ensures.front ∙ f.0)), c.split_at.ensures.back ∙ f.1)
