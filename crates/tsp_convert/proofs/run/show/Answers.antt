use Rattle.tsp_lines.proofs.{Leaving.Accepts_treated, OneAnswer.Agrees_outcome}
use Rattle.tsp_lines.specs.declared.{limits.TheConstants.MOST_INPUT, treat.Outcome.TheVariants.Ok as Done}
use Rattle.tsp_convert.proofs.Conversions.{IsDefinite_show, answer_hex}
use Rattle.tsp_convert.proofs.run.show.Goals as goal

pub returns : goal.returns
returns g c = Accepts_treated g.S.Source g.K.Sink _ _ MOST_INPUT _ _ _ _ c.treat_all.result IsDefinite_show
    (λ octets told limit are reads writes.
    Agrees_outcome Done c.treat_all.result _ _ _ (c.treat_all.ensures.answers IsDefinite_show octets Done _ told (answer_hex MOST_INPUT octets limit are))
    (λ e. reads (c.treat_all.ensures.leaves.read e).0) (λ e. writes (c.treat_all.ensures.leaves.write e)))
    c.treat_all.ensures
