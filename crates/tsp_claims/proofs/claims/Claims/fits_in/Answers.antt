-- The step that the values are, if there is one.
use Rattle.std.proofs.Common.{◌+◌, ◌↔◌, Option, false, None, IsTrue, sym, subst, rules}
use Rattle.tsp_base.specs.Words.{Step}
use Rattle.tsp_claims.specs.{ClaimedHistory.step_at, Fitting.LineFitsIn, Listed.up_in, Steps.ActsIn}
use Rattle.tsp_claims.proofs.StepLemmas.{acts_in, acts_out}
use Rattle.tsp_claims.proofs.claims.Claims.fits_in.Goals as goal

pub fits_at-requires-clause-tick : goal.fits_at-requires-clause-tick
fits_at-requires-clause-tick c =
    let self = c.args.self.now in
    let o : Option Step = step_at self.header self.posts.items (up_in self.up.items) c.args.e.now in
    (acts_in self.header o c.in-Some.step (subst (λ s. ActsIn self.header o s) c.in-Some.is c.requires.step)).tick_is

pub returns-in-Some : goal.returns-in-Some
returns-in-Some c =
    let self = c.args.self.now in
    let o : Option Step = step_at self.header self.posts.items (up_in self.up.items) c.args.e.now in
    subst (λ p. IsTrue c.fits_at.result ↔ LineFitsIn self.header self.posts.items (up_in self.up.items) (self.events + 1) c.args.e.now c.args.tally p
    c.args.line.now)
    (sym (acts_in self.header o c.in-Some.step (subst (λ s. ActsIn self.header o s) c.in-Some.is c.requires.step)).step_is)
    c.fits_at.ensures

pub returns-in-None : goal.returns-in-None
returns-in-None c =
    let self = c.args.self.now in
    let o : Option Step = step_at self.header self.posts.items (up_in self.up.items) c.args.e.now in
    let none : IsTrue false ↔ LineFitsIn self.header self.posts.items (up_in self.up.items) (self.events + 1) c.args.e.now c.args.tally None c.args.line.now =
    search rules in
    subst (λ p. IsTrue false ↔ LineFitsIn self.header self.posts.items (up_in self.up.items) (self.events + 1) c.args.e.now c.args.tally p c.args.line.now)
    (sym (acts_out self.header o (subst (λ s. ActsIn self.header o s) c.in-None.is c.requires.step)))
    none
