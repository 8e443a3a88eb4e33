-- As it is proved of each place.
use Rattle.std.specs.Prelude.{◌∷◌}
use Rattle.tsp_rules.specs.Values.{LIFE}
use Rattle.tsp_promises.proofs.{promised.OwnFitsProof.fits_at, promised.OnceObeyedProof.sets_at}
use Rattle.tsp_promises.specs.{Dated.DateConfirmedAt, Dated.SetsAt, Premises.FewAt, Premises.HonestAt, Premises.TakenWithinAt}
use Rattle.tsp_promises.proofs.{promised.ConfirmedDate.date_confirmed, shared.EverywhereLemmas.Everywhere_from, shared.EverywhereLemmas.Everywhere_within}
use Rattle.tsp_promises.proofs.date.dated.Goals as goal

pub returns : goal.returns
returns c setting world f = record {
  sets = Everywhere_from (SetsAt setting) world (λ l s w. sets_at setting l s (fits_at setting (l ∷ s) world f w));
  confirmed = λ honest life few. Everywhere_from DateConfirmedAt world (λ l s w.
      date_confirmed setting l s (fits_at setting (l ∷ s) world f w) (Everywhere_within HonestAt (l ∷ s) world honest w)
      (Everywhere_within (TakenWithinAt LIFE) (l ∷ s) world life w) (Everywhere_within FewAt (l ∷ s) world few w));
}
