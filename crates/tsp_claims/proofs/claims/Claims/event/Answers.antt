-- The claims stand for the event too, or for what they stood for.
use Rattle.tsp_claims.{proofs.StandLemmas.of_fields, specs.Fitting.FitsAfter, specs.Fitting.Misfits, specs.Fitting.untold}
use Rattle.tsp_claims.proofs.claims.Claims.event.Goals as goal

pub returns-in-Some : goal.returns-in-Some
returns-in-Some c = λ header claims s. (
  of_fields header claims c.args.self.now s (λ h ps u n. Misfits (FitsAfter h ps u n) c.args.e.now untold c.args.acts.now
      c.in-Some.index) c.in-Some.ensures,
  s,
)
