use Rattle.std.proofs.Common.{◌≡◌, ap, arith, length, refl}
use Rattle.tsp_lines.proofs.{Feeds.filled, Feeds.no_octets, Leaving.Counts_from}
use Rattle.tsp_lines.proofs.reader.LineReader.fill.Goals as goal

pub returns-in-Got-eq0-clause-fills : goal.returns-in-Got-eq0-clause-fills
returns-in-Got-eq0-clause-fills g c =
    let r = c.in-Got-eq0.ensures.read in
    let held = ap (λ v. v.held) c.self.view_is in
    let got : c.self.inside.got ≡ c.args.self.now.got = ap (λ v. v.got) c.self.view_is in
    let none : length r.0 ≡ 0 = omega (arith, r.2, c.in-Got-eq0.field-0-test) in (
      r.0,
      r.1,
      filled _ _ _ c.self.inside.at c.self.inside.end _ _ _ _ r.0 (omega (arith, c.refill.auto.buf, c.deref_mut.ensures.len)) c.deref_mut.ensures.value held
          (omega arith) r.3,
      omega (arith, got, none),
      no_octets r.0 none,
    )

pub returns-in-Got-clause-fills : goal.returns-in-Got-clause-fills
returns-in-Got-clause-fills g c =
    let r = c.in-Got.ensures.read in
    let held = ap (λ v. v.held) c.self.view_is in
    let got : c.self.inside.got ≡ c.args.self.now.got = ap (λ v. v.got) c.self.view_is in (
      r.0,
      r.1,
      filled _ _ _ c.self.inside.at c.self.inside.end _ _ _ _ r.0 (omega (arith, c.refill.auto.buf, c.deref_mut.ensures.len)) c.deref_mut.ensures.value held
          (omega arith) r.3,
      omega (arith, got, r.2),
      omega (arith, r.2, c.in-Got.count-test.1),
    )

pub returns-in-Failed-clause-fills : goal.returns-in-Failed-clause-fills
returns-in-Failed-clause-fills g c =
    let r = c.in-Failed.ensures.read in
    let held = ap (λ v. v.held) c.self.view_is in
    let got : c.self.inside.got ≡ c.args.self.now.got = ap (λ v. v.got) c.self.view_is in (
      r.0,
      r.1,
      filled _ _ 0 c.self.inside.at c.self.inside.end _ _ _ _ r.0 (omega (arith, c.refill.auto.buf, c.deref_mut.ensures.len)) c.deref_mut.ensures.value held
          (omega arith) r.3,
      omega (arith, got, r.2),
      no_octets r.0 r.2,
    )

pub returns-in-Got-eq0-clause-faults : goal.returns-in-Got-eq0-clause-faults
returns-in-Got-eq0-clause-faults g c = Counts_from _ _ _ _ _ refl (λ f. cc) (λ f. cc) c.in-Got-eq0.ensures.faults

pub returns-in-Got-clause-faults : goal.returns-in-Got-clause-faults
returns-in-Got-clause-faults g c = Counts_from _ _ _ _ _ refl (λ f. cc) (λ f. cc) c.in-Got.ensures.faults

pub returns-in-Failed-clause-faults : goal.returns-in-Failed-clause-faults
returns-in-Failed-clause-faults g c = Counts_from _ _ _ _ _ refl (λ f. refl) (λ f. refl) c.in-Failed.ensures.faults
