-- The first misfit of the claims' fields is that of the claims.
use Rattle.std.specs.Prelude.{MatchOption}
use Rattle.tsp_claims.specs.Fitting.{AllFit, FitsAfter, Misfits, untold}
use Rattle.tsp_claims.proofs.StandLemmas.{of_fields}
use Rattle.tsp_claims.proofs.claims.Claims.first_misfit.Goals as goal

pub returns : goal.returns
returns c = λ header claims s.
    of_fields header claims c.args.self.now s (λ h ps u n. MatchOption c.misfit.result (AllFit (FitsAfter h ps u n) c.args.e.now untold c.args.acts.now)
    (λ i. Misfits (FitsAfter h ps u n) c.args.e.now untold c.args.acts.now i)) c.misfit.ensures
