use Rattle.std.proofs.Common.{◌≡◌, ◌<◌, ◌≤◌, ◌+◌, ap, sym, arith, length, refl, take, slice_range}
use Rattle.tsp_lines.proofs.{reader.LineReader.next_held.Goals.then-self, reader.LineReader.next_held.Goals.else-self, Passes.Limit_Failed}
use Rattle.tsp_lines.{proofs.Feeds.NoFeed_end, proofs.Feeds.some_held, proofs.Feeds.last_feed, proofs.Feeds.held_length, specs.Lines.NoFeed}
use Rattle.tsp_lines.proofs.reader.LineReader.next_held.Goals as goal

pub returns-in_default-clause-next : goal.returns-in_default-clause-next
returns-in_default-clause-next c =
    let none : NoFeed c.args.self.now.held = rw c.in_default.is at c.feed.ensures.first in
    let got : c.self.inside.got ≡ c.args.self.now.got = ap (λ v. v.got) c.self.view_is in
    let limit : c.self.inside.limit ≡ c.args.self.now.limit = ap (λ v. v.limit) c.self.view_is in
    let held : slice_range c.self.inside.buf.items c.self.inside.at c.self.inside.end ≡ c.args.self.now.held = ap (λ v. v.held) c.self.view_is in
    elim c.if-self.branch [
      | then-self w ↦
          let some : 0 < length c.args.self.now.held = rw (sym held) (some_held c.self.inside.buf.items c.self.inside.at c.self.inside.end
          (c.self.invariant.6 w.if-self.true) (omega (arith, c.self.invariant.0, c.self.invariant.4, c.self.inside.buf.ok.0))) in
          rw w.result-is ((omega (arith, got, limit, w.if-self.true, c.self.invariant.5), NoFeed_end _ some none), refl, Limit_Failed)
      | else-self w ↦ rw w.result-is (none, refl, omega (arith, got, limit, w.if-self.false))
    ]

pub returns-then-self-place-clause-next : goal.returns-then-self-place-clause-next
returns-then-self-place-clause-next c =
    let e = c.in-Some.ensures in
    let got : c.self.inside.got ≡ c.args.self.now.got = ap (λ v. v.got) c.self.view_is in
    let limit : c.self.inside.limit ≡ c.args.self.now.limit = ap (λ v. v.limit) c.self.view_is in
    let held : slice_range c.self.inside.buf.items c.self.inside.at c.self.inside.end ≡ c.args.self.now.held = ap (λ v. v.held) c.self.view_is in
    let most : length c.args.self.now.held ≤ c.in-Some.place + 1 = omega (
      arith,
      ap length held,
      held_length c.self.inside.buf.items c.self.inside.at c.self.inside.end,
      c.if-self-place.true,
    ) in (
      (
        omega (arith, got, limit, c.if-self-2.true, c.self.invariant.5),
        (
          take c.in-Some.place c.args.self.now.held,
          10,
          e.first.0,
          last_feed c.args.self.now.held c.in-Some.place most e.first.1,
        ),
      ),
      refl,
      Limit_Failed,
    )

pub returns-clause-next : goal.returns-clause-next
returns-clause-next c = (c.give.ensures.next, c.give.ensures.same.2, c.give.ensures.same.3)

pub returns-clause-same : goal.returns-clause-same
returns-clause-same c =
    let got : c.self.inside.got ≡ c.args.self.now.got = ap (λ v. v.got) c.self.view_is in
    let limit : c.self.inside.limit ≡ c.args.self.now.limit = ap (λ v. v.limit) c.self.view_is in
    let same = c.give.ensures.same in
    (same.0, same.1, omega (arith, same.0, same.1, got, limit, c.self.invariant.5))

pub give-requires-clause-most : goal.give-requires-clause-most
give-requires-clause-most c =
    let got : c.self.inside.got ≡ c.args.self.now.got = ap (λ v. v.got) c.self.view_is in
    let limit : c.self.inside.limit ≡ c.args.self.now.limit = ap (λ v. v.limit) c.self.view_is in
    let held : slice_range c.self.inside.buf.items c.self.inside.at c.self.inside.end ≡ c.args.self.now.held = ap (λ v. v.held) c.self.view_is in (
      omega (arith, got, limit, c.self.invariant.5),
      omega (
        arith,
        ap length held,
        held_length c.self.inside.buf.items c.self.inside.at c.self.inside.end,
        c.self.invariant.4,
      ),
    )
