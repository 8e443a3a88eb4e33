-- All promises together.
use Rattle.std.specs.Prelude.{List}
use Rattle.tsp_promises.specs.{Fits.Fits, Fits.Finished, Safe.Safe, Setting.Setting}
use Rattle.tsp_base.specs.Words.{Line}
use Rattle.tsp_promises.proofs.{promised.AgreedProof.agreed, promised.AgreedProof.stay_agreed, promised.AnsweredProof.answered, promised.AgreedProof.chained}
use Rattle.tsp_promises.proofs.{promised.AgreedShownProof.shows}
use Rattle.tsp_promises.proofs.{promised.AgreedShownProof.agreed_shown, promised.AgreedShownProof.shown_near, promised.AgreedShownProof.waited}
use Rattle.tsp_promises.proofs.{promised.ErrsProof.errs_bounded}
use Rattle.tsp_promises.proofs.{promised.ConfirmedProof.once_confirmed, promised.EstimatesProof.estimates_hold, promised.MeasuredProof.measured}
use Rattle.tsp_promises.proofs.{promised.ResolvedProof.one_back}
use Rattle.tsp_promises.proofs.{promised.FirstSetProof.first_set, promised.FirstSetProof.first_set_soon, promised.OnceDatedProof.once_taken}
use Rattle.tsp_promises.proofs.{promised.OneErrorProof.one_error}
use Rattle.tsp_promises.proofs.{promised.ModerateProof.moderate, promised.ModerateProof.moderate_clocks, promised.OnceObeyedProof.once_obeyed}
use Rattle.tsp_promises.proofs.{promised.AgreedProof.relayed}
use Rattle.tsp_promises.proofs.{promised.OnceObeyedProof.once_spaced, promised.OnceObeyedProof.once_spaced_over_lives, promised.OnceTakenProof.once_corrected}
use Rattle.tsp_promises.proofs.{shared.SendPlaces.only_master, promised.ResolvedProof.yields, promised.ResolvedProof.yields_taken}
use Rattle.tsp_promises.proofs.{promised.ResolvedProof.stays_quiet}
use Rattle.tsp_promises.proofs.{promised.ErrsProof.seldom, promised.ResolvedProof.silent, promised.SteadyProof.meets, promised.SteadyProof.steady}
use Rattle.tsp_promises.proofs.{promised.StopsProof.stops_leading}
use Rattle.tsp_promises.proofs.{promised.ThriceProof.thrice, promised.AgreedProof.throughout, promised.MeasuredProof.trips}

pub safe : (setting : Setting) (world : List Line) → Fits setting world → Finished setting world → Safe setting world
safe setting world f end = record {
  one_back = one_back setting world f end;
  silent = silent setting world f;
  answered = answered setting world f end;
  only_master = only_master setting world f;
  once_spaced = once_spaced setting world f;
  once_spaced_over_lives = once_spaced_over_lives setting world f;
  once_obeyed = once_obeyed setting world f;
  once_corrected = once_corrected setting world f;
  once_taken = once_taken setting world f;
  once_confirmed = λ honest life. once_confirmed setting world (record { fits = f; honest = honest; life = life });
  thrice = thrice setting world f;
  trips = trips setting world f;
  measured = measured setting world f;
  agreed = λ honest life. agreed setting world (record { fits = f; honest = honest; life = life });
  stay_agreed = λ honest life. stay_agreed setting world (record { fits = f; honest = honest; life = life });
  one_error = λ honest life. one_error setting world (record { fits = f; honest = honest; life = life });
  first_set = first_set setting world f;
  first_set_soon = first_set_soon setting world f;
  chained = λ honest life. chained setting world (record { fits = f; honest = honest; life = life });
  estimates_hold = λ honest life. estimates_hold setting world (record { fits = f; honest = honest; life = life });
  errs_bounded = errs_bounded setting world f;
  moderate = moderate setting world f;
  moderate_clocks = λ honest life. moderate_clocks setting world (record { fits = f; honest = honest; life = life });
  seldom = seldom setting world f;
  throughout = λ honest life. throughout setting world (record { fits = f; honest = honest; life = life });
  relayed = λ honest life. relayed setting world (record { fits = f; honest = honest; life = life });
  resolved = record {
    yields = yields setting world f end;
    yields_taken = yields_taken setting world f end;
    quiet = stays_quiet setting world f;
    stops = stops_leading setting world f end;
  };
  steady = steady setting world f;
  meets = meets world;
  shows = shows setting world f;
  agreed_shown = λ honest life. agreed_shown setting world (record { fits = f; honest = honest; life = life });
  shown_near = shown_near setting world f;
  waited = waited setting world f;
}
