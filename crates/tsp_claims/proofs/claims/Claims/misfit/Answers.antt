-- A line that fits is counted; the first that doesn't is named.
use Rattle.std.proofs.Common.{◌≡◌, ◌∙◌, ◌+◌, length, ap, arith, rules, subst, sym}
use Rattle.tsp_base.specs.declared.{event.Event.Event, trace.Line2.Line2}
use Rattle.tsp_claims.specs.{Fitting.FitsAfter, Fitting.Misfits, Fitting.untold, Listed.up_in, declared.tally.Tally.Tally}
use Rattle.tsp_claims.proofs.FitLemmas.{Left, left_next, left_misfits, left_lacks, claims_of_step_few}
use Rattle.tsp_claims.proofs.claims.Claims.misfit.Goals as goal

pub returns-then-not-fits_in : goal.returns-then-not-fits_in
returns-then-not-fits_in c =
    let self = c.args.self.now in
    let fits : Event → Tally → Line2 → Type 0 = FitsAfter self.header self.posts.items (up_in self.up.items) (self.events + 1) in
    let no : ¬ fits c.args.e.now c.loop-i.tally c.index-lines-i.result = search rules in
    left_misfits fits c.args.e.now c.loop-i.tally c.loop-i.i c.args.lines.now c.loop-i.invariant.left c.index-lines-i.result (omega arith)
    (sym c.index-lines-i.is) no

pub loop-i-preserved : goal.loop-i-preserved
loop-i-preserved c =
    let self = c.args.self.now in
    let fits : Event → Tally → Line2 → Type 0 = FitsAfter self.header self.posts.items (up_in self.up.items) (self.events + 1) in
    let yes : fits c.args.e.now c.loop-i.tally c.index-lines-i.result = search rules in
    record {
      posts = (let counted_is = ap (λ t. t.posts) c.count.ensures in let few = claims_of_step_few c.index-lines-i.result.placed.act in
          let so_far = c.loop-i.invariant.posts in omega (arith, counted_is, few, so_far));
      left = subst (λ t. Left fits c.args.e.now t (c.loop-i.i + 1) c.args.lines.now) (sym c.count.ensures)
          (left_next fits c.args.e.now c.loop-i.tally c.loop-i.i c.args.lines.now c.loop-i.invariant.left c.index-lines-i.result (omega arith)
          (sym c.index-lines-i.is) yes);
    }

pub returns-then-lacks : goal.returns-then-lacks
returns-then-lacks c =
    let self = c.args.self.now in
    let fits : Event → Tally → Line2 → Type 0 = FitsAfter self.header self.posts.items (up_in self.up.items) (self.events + 1) in
    let all : c.loop-i.i ≡ length c.args.lines.now = omega arith in
    subst (λ k. Misfits fits c.args.e.now untold c.args.lines.now k) all
    (left_lacks fits c.args.e.now c.loop-i.tally c.loop-i.i c.args.lines.now c.loop-i.invariant.left (omega arith) (sym c.lacks.ensures ∙ c.if-lacks.true))
