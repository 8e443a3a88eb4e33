-- Most promises of a history, each under the premises that it needs: all but OneWinner, Dated, Looped and Looked, which
-- have files of their own here, and that of the octets of answers, which tsp_run has.
use Rattle.std.specs.Prelude.{◌⊎◌, List}
use Rattle.tsp_promises.specs.{Agreed.Agreed, Agreed.StayAgreed, AgreedShown.AgreedShown, AgreedShown.ShownNear, AgreedShown.Waited}
use Rattle.tsp_promises.specs.{Answered.Answered, Chained.Chained, Seldom.ErrsBounded, Estimates.EstimatesHold, OneBack.OneBack}
use Rattle.tsp_promises.specs.{FirstSet.FirstSet, FirstSet.FirstSetSoon, Measured.Measured, Measured.Trips, OneError.OneError, Shows.Shows}
use Rattle.tsp_base.specs.Words.{Line}
use Rattle.tsp_promises.specs.{Moderate.Moderate, Moderate.ModerateClocks, OnlyMaster.OnlyMaster, Chained.Relayed, Resolved.Resolved}
use Rattle.tsp_promises.specs.Once.{OnceConfirmed, OnceCorrected, OnceObeyed, OnceSpaced, OnceSpacedOverLives, OnceTaken}
use Rattle.tsp_promises.specs.{Premises.Honest, Premises.Life, Premises.OwnWords, Seldom.Seldom, Setting.Setting, Silent.Silent}
use Rattle.tsp_promises.specs.{Steady.Meets, Steady.Steady, Thrice.Thrice, Throughout.Throughout}

-- these promises, each under its premises. Those that ask nothing hold whatever is delivered. The others ask that no
-- peer's datagram is forged (Honest), that no datagram lives longer than LIFE (Life), or both; for a measurement, words
-- that differ at any two boots of one node do in place of Life (OwnWords)
pub record Safe (setting : Setting) (world : List Line) : Type 0 where
  pub one_back : OneBack world
  pub silent : Silent world
  pub answered : Answered setting world
  pub only_master : OnlyMaster world
  pub once_spaced : OnceSpaced world
  pub once_spaced_over_lives : OnceSpacedOverLives world
  pub once_obeyed : Honest world → OnceObeyed setting world
  pub once_corrected : Life world → OnceCorrected world
  pub once_taken : Honest world → Life world → OnceTaken world
  pub once_confirmed : Honest world → Life world → OnceConfirmed world
  pub thrice : Thrice world
  pub trips : Trips world
  pub measured : Honest world → Life world ⊎ OwnWords world → Measured setting world
  pub agreed : Honest world → Life world → Agreed setting world
  pub stay_agreed : Honest world → Life world → StayAgreed setting world
  pub one_error : Honest world → Life world → OneError world
  pub first_set : FirstSet setting world
  pub first_set_soon : Life world → FirstSetSoon setting world
  pub chained : Honest world → Life world → Chained setting world
  pub estimates_hold : Honest world → Life world → EstimatesHold setting world
  pub errs_bounded : ErrsBounded world
  pub moderate : Moderate setting world
  pub moderate_clocks : Honest world → Life world → ModerateClocks setting world
  pub seldom : Seldom world
  pub throughout : Honest world → Life world → Throughout setting world
  pub relayed : Honest world → Life world → Relayed setting world
  pub resolved : Resolved setting world
  pub steady : Steady setting world
  pub meets : Meets world
  pub shows : Shows world
  pub agreed_shown : Honest world → Life world → AgreedShown setting world
  pub shown_near : ShownNear setting world
  pub waited : Waited setting world
