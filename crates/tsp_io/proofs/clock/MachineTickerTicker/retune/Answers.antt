-- What the origin before gives is the one answer.
use Rattle.std.proofs.Common.{◌≡◌, ◌∙◌, ◌/◌, ap, subst, sym, nat_abs, pos, ◌+ℤ◌, rules, to_z, of_z, w64, Some}
use Rattle.tsp_io.specs.{Clocks.IsOrigin, Origins.retuned, declared.origin.Origin.Origin}
use Rattle.tsp_io.proofs.OriginLemmas.{origin_again, same_origin}
use Rattle.tsp_io.proofs.clock.MachineTickerTicker.retune.Goals as goal

pub returns-in_err-origin-2-clause-all : goal.returns-in_err-origin-2-clause-all
returns-in_err-origin-2-clause-all g c = λ before is.
    let back : to_z w64 (of_z w64 c.args.rate) ≡ c.args.rate = search rules in
    let same = same_origin c.args.self.now.counter c.args.self.now.start c.args.self.now.base c.args.self.now.rate.speed before c.in_ok-origin.field-0 is
    c.in_ok-origin.ensures.found in
    ap (λ (o : Origin). retuned c.args.tick c.args.rate o) same ∙ ap (λ r. retuned c.args.tick r c.in_ok-origin.field-0) (sym back) ∙
    sym c.retuned.ensures ∙ c.in_err-origin-2.was ∙ sym c.from_residual-in_err-origin-2.ensures

pub returns-clause-answers : goal.returns-clause-answers
returns-clause-answers g c =
    let back : to_z w64 (of_z w64 c.args.rate) ≡ c.args.rate = search rules in (
      c.in_ok-origin.field-0,
      c.in_ok-origin.ensures.found,
      ap (λ r. retuned c.args.tick r c.in_ok-origin.field-0) (sym back) ∙ sym c.retuned.ensures ∙ c.in_ok-origin-2.was,
    )

pub returns-clause-found : goal.returns-clause-found
returns-clause-found g c =
    let back : to_z w64 (of_z w64 c.args.rate) ≡ c.args.rate = search rules in
    let nanos : to_z w64 (of_z w64 c.in_ok-origin-2.origin.nanos) ≡ c.in_ok-origin-2.origin.nanos = search rules in
    let abs : c.unsigned_abs.result ≡ nat_abs c.in_ok-origin-2.origin.nanos = c.unsigned_abs.ensures.value ∙ ap nat_abs nanos in
    subst (λ n. IsOrigin c.args.self.now.counter (Some (n / 1000)) c.args.tick c.in_ok-counted.counted.speed c.in_ok-origin-2.origin) (sym abs)
    (origin_again c.args.self.now.counter c.args.self.now.start c.args.self.now.base c.args.self.now.rate.speed c.args.tick
    c.in_ok-counted.counted.speed c.args.rate c.in_ok-origin.field-0 c.in_ok-origin-2.origin c.in_ok-origin.ensures.found
    (ap (λ r. retuned c.args.tick r c.in_ok-origin.field-0) (sym back) ∙ sym c.retuned.ensures ∙ c.in_ok-origin-2.was)
    (c.in_ok-counted.ensures.value ∙ ap (λ r. pos 1000000000 +ℤ r) back))

pub returns-clause-all : goal.returns-clause-all
returns-clause-all g c = λ before is.
    let back : to_z w64 (of_z w64 c.args.rate) ≡ c.args.rate = search rules in
    let same = same_origin c.args.self.now.counter c.args.self.now.start c.args.self.now.base c.args.self.now.rate.speed before c.in_ok-origin.field-0 is
    c.in_ok-origin.ensures.found in
    ap (λ (o : Origin). retuned c.args.tick c.args.rate o) same ∙ ap (λ r. retuned c.args.tick r c.in_ok-origin.field-0) (sym back) ∙
    sym c.retuned.ensures ∙ c.in_ok-origin-2.was
