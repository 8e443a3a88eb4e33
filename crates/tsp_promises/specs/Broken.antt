-- That the promises say something: for each part of one a small history that breaks it.
use Rattle.std.specs.Prelude.{List}
use Rattle.tsp_promises.specs.Once.{OnceConfirmed, OnceCorrected, OnceObeyed, OnceSpaced, OnceSpacedOverLives, OnceTaken}
use Rattle.tsp_promises.specs.{Seldom.ErrsBounded, Resolved.StaysQuiet, Resolved.StopsLeading, Resolved.Yields, Resolved.YieldsTaken}
use Rattle.tsp_promises.specs.{FirstSet.FirstSet, FirstSet.FirstSetSoon, Premises.Few, Premises.Honest, Premises.Life, Premises.NamesApart}
use Rattle.tsp_promises.specs.{AgreedShown.AgreedShown, AgreedShown.ShownNear, AgreedShown.Waited, Dated.DateConfirmedAt, Dated.SetsAt}
use Rattle.tsp_promises.specs.{Chained.Chained, Looped.ChainAt, Looped.GivesUpAt, Looped.HopsAt, Moderate.Moderate, Moderate.ModerateClocks}
use Rattle.tsp_promises.specs.{Agreed.Agreed, Agreed.StayAgreed, Estimates.EstimatesHold, Measured.Measured, Measured.Trips, Seldom.Seldom}
use Rattle.tsp_promises.specs.{Answered.Answered, Everywhere.Everywhere, OneWinner.OneWinner, OnlyMaster.OnlyMaster, Throughout.Throughout}
use Rattle.tsp_promises.specs.{OneBack.OneBack, OneError.OneError, Chained.Relayed, Setting.Setting, Silent.Silent, Steady.Steady}
use Rattle.tsp_promises.specs.{Shows.Shows, Thrice.Thrice}
use Rattle.tsp_base.specs.Words.{Line}

-- some history breaks the promise
pub record Breaks (Promise : List Line → Type 0) : Type 0 where
  pub world : List Line
  pub broken : ¬ Promise world

-- this history does
abbrev pub breaks : {Promise : List Line → Type 0} (world : List Line) → ¬ Promise world → Breaks Promise
breaks world broken = record { world = world; broken = broken }

-- what breaks the promises of roles
pub record RolesBreak (setting : Setting) : Type 0 where
  -- two candidates that one port backs within HOLD ticks
  pub holds : Breaks OneBack
  -- an ACCEPT without a Back
  pub accepts : Breaks OneBack
  -- an ACCEPT to a stranger, behind a Back of somebody else
  pub accepts_stranger : Breaks OneBack
  -- an ELECTION before the candidate has backed itself
  pub asks : Breaks OneBack
  -- a step that ends before the candidate has backed itself
  pub ends : Breaks OneBack
  -- a history that ends so
  pub finishes : Breaks OneBack
  -- a correction that no master posts
  pub corrects : Breaks OnlyMaster
  -- a Close at a follower
  pub closes : Breaks OnlyMaster
  -- a request for a master right after a boot
  pub speaks : Breaks Silent
  -- a reply right after a boot that nobody asked for
  pub replies_early : Breaks Silent
  -- an ACK of an MSITE right after a boot, with another number
  pub acks_early : Breaks Silent
  -- a Correct right after a boot
  pub corrects_early : Breaks Silent
  -- a Correct of another port after a Close, with a mark between
  pub follows_close : Breaks OnlyMaster
  -- two nodes on one network that win shortly after one another
  pub winners : Breaks (OneWinner setting)
  -- a master that stays master in the step in which it takes a QUIT
  pub yields : Breaks Yields
  -- a master that takes QUITs of two peers in one step, and follows the second
  pub yields_twice : Breaks Yields
  -- one that follows each of them in turn
  pub yields_again : Breaks Yields
  -- a master that only takes a QUIT
  pub only_takes : Breaks (YieldsTaken setting)
  -- a port that is master again soon after a QUIT
  pub quiet : Breaks StaysQuiet
  -- a rival that takes its QUIT and leads on
  pub stops : Breaks StopsLeading
  -- the same, and a turn more
  pub stops_later : Breaks StopsLeading

-- what breaks the promises of sends
pub record SendsBreak (setting : Setting) : Type 0 where
  -- two Corrects of a clock less than GAP apart
  pub spaced : Breaks OnceSpaced
  -- the same, with a boot between
  pub spaced_over_lives : Breaks OnceSpacedOverLives
  -- a follower that corrects its clock by itself
  pub obeyed : Breaks (OnceObeyed setting)
  -- one datagram that corrects a clock twice
  pub corrected : Breaks OnceCorrected
  -- a repeat of an ended send that is taken again
  pub repeated : Breaks OnceCorrected
  -- a Correct on another port than what its step takes
  pub elsewhere : Breaks OnceCorrected
  -- a date that is taken again, after a forged one
  pub dated : Breaks OnceTaken
  -- an Acked of a correction that nobody took
  pub confirmed : Breaks OnceConfirmed
  -- a message that is posted four times
  pub fourth : Breaks Thrice
  -- one that is posted again more than LAST after the first time
  pub late : Breaks Thrice

-- what breaks the promises of clocks
pub record ClocksBreak (setting : Setting) : Type 0 where
  -- a Sample that errs by more than it states
  pub errs : Breaks (Measured setting)
  -- a Sample without a reading
  pub unread : Breaks (Measured setting)
  -- a Sample by another peer's reply
  pub misread : Breaks (Measured setting)
  -- a Sample without a request
  pub unasked : Breaks Trips
  -- a Sample of an exchange that an earlier life began
  pub outlived : Breaks Trips
  -- an ADJTIME that carries another amount than the mean less the sample, and a follower that obeys it
  pub misled : Breaks (Agreed setting)
  -- a clock that moves by another amount than the ADJTIME says
  pub agreed : Breaks (Agreed setting)
  -- two clocks that one round corrected, one of which does so
  pub peers : Breaks (Agreed setting)
  -- the history of `agreed`, after which the clock boots
  pub agreed_before : Breaks (Agreed setting)
  -- an ADJTIME of a Close to a peer of which there is no sample
  pub unsampled : Breaks (Agreed setting)
  -- the history of `agreed`, seen at a later time
  pub stay_agreed : Breaks (StayAgreed setting)
  -- a relayed clock that moves by another amount than the ADJTIME says
  pub relayed : Breaks (Relayed setting)

-- what breaks the promises of shown values; that a clock meets its target is how its value is defined, and nothing
-- breaks it
pub record ReadingsBreak (setting : Setting) : Type 0 where
  -- a node whose ticks go back, so that it slews twice in one time
  pub steady : Breaks (Steady setting)
  -- likewise, the other way: it shows too little after a wait
  pub waited : Breaks (Waited setting)
  -- a follower that is stepped by another amount than its ADJTIME says
  pub agreed_shown : Breaks (AgreedShown setting)
  -- a boot that shows another wall clock than the node's
  pub shown_near : Breaks (ShownNear setting)
  -- a Correct by -250 microseconds that says it is slewed, and prints the new target
  pub falls : Breaks Shows
  -- the same by 250 microseconds
  pub leaps : Breaks Shows
  -- a Correct by 250 microseconds, in a step that took nothing, that says it is stepped, and prints the new target
  pub steps : Breaks Shows
  -- a Correct by 20.000001 s that says it is slewed
  pub slews : Breaks Shows

-- what breaks the promises of chains and of single corrections
pub record ChainsBreak (setting : Setting) : Type 0 where
  -- a relayed clock that moves by another amount than the ADJTIME says
  pub down : Breaks (Chained setting)
  -- two clocks that one Close corrected, one of which does so
  pub across : Breaks (Chained setting)
  -- the same, over the master
  pub tree : Breaks (Chained setting)
  -- a clock that moves by another amount than its ADJTIME says, whatever is taken back
  pub throughout : Breaks (Throughout setting)
  -- the same, against another clock of its Close
  pub throughout_peers : Breaks (Throughout setting)
  -- a round with an estimate that is 9 s off
  pub estimates_apart : Breaks (EstimatesHold setting)
  -- a master that moves by another amount than the mean
  pub master_near : Breaks (EstimatesHold setting)
  -- the same at a Close that begins no ADJTIME
  pub ended_near : Breaks (EstimatesHold setting)
  -- a round that uses a sample with an error of 5 s
  pub errs_bounded : Breaks ErrsBounded
  -- an ADJTIME that acts on a clock which was corrected since the reading
  pub one_error : Breaks OneError
  -- a SETTIME that acts on a clock which was corrected since the SLAVEUP
  pub answered_late : Breaks OneError
  -- a clock that a SETTIME moves by another amount than it says
  pub first_set : Breaks (FirstSet setting)
  -- a clock that a SETTIME sets more than 34 s behind, and drift
  pub first_set_soon : Breaks (FirstSetSoon setting)

-- what breaks the promises of a round's majority, and of rounds
pub record RoundsBreak (setting : Setting) : Type 0 where
  -- a master that moves by 300 ms where it and a peer agree within a millisecond: off from the peer's estimate
  pub mean_far : Breaks (Moderate setting)
  -- and from its own
  pub own_far : Breaks (Moderate setting)
  -- a Close there that prints a mean of 300 ms, and a Correct that moves it by little
  pub prints_far : Breaks (Moderate setting)
  -- a master among the majority that is stepped
  pub own_stepped : Breaks (Moderate setting)
  -- a peer that is stepped
  pub peer_stepped : Breaks (Moderate setting)
  -- the ADJTIME that the first begins to its peer
  pub adjtime_far : Breaks (Moderate setting)
  -- the peer that takes it
  pub peer_far : Breaks (Moderate setting)
  -- which has slewed for 8 s, and still doesn't show its target
  pub late_met : Breaks (Moderate setting)
  -- the history of `mean_far`, after which the peer is left alone
  pub clocks_far : Breaks (ModerateClocks setting)
  -- two rounds of a port that close less than 239 s apart
  pub close_soon : Breaks Seldom

-- what breaks the promise of answers
pub record AnswersBreak (setting : Setting) : Type 0 where
  -- two datagrams in one step
  pub takes_two : Breaks (Answered setting)
  -- two Quits in one step, the first of another peer than the QUIT's
  pub quits_twice : Breaks (Answered setting)
  -- a QUIT that is only taken
  pub unheeded : Breaks (Answered setting)
  -- a QUIT that is heeded and not acknowledged
  pub unacknowledged : Breaks (Answered setting)
  -- two replies to one stranger's request
  pub replies_twice : Breaks (Answered setting)
  -- an ACK to a stranger without the node's name
  pub nameless : Breaks (Answered setting)
  -- a reply to a stranger that nobody asked for
  pub unasked : Breaks (Answered setting)
  -- a reply to a peer that nobody asked for
  pub unasked_peer : Breaks (Answered setting)
  -- an ACK to a peer that isn't of the number that its step took
  pub misnumbered : Breaks (Answered setting)
  -- an ACK to another peer than that whose message its step took
  pub misled : Breaks (Answered setting)

-- each promise is broken by some history, in one setting
pub record AllBreak : Type 0 where
  pub setting : Setting
  pub roles : RolesBreak setting
  pub sends : SendsBreak setting
  pub clocks : ClocksBreak setting
  pub readings : ReadingsBreak setting
  pub chains : ChainsBreak setting
  pub rounds : RoundsBreak setting
  pub answers : AnswersBreak setting

-- what breaks the promise of dates, in one setting
pub record DatesBreak : Type 0 where
  pub setting : Setting
  -- a date that sets the clock of a port which doesn't lead, to the right time
  pub leads : Breaks (Everywhere (SetsAt setting))
  -- a master's clock that is set to another time than the date's
  pub sets : Breaks (Everywhere (SetsAt setting))
  -- a date that is acknowledged and that nobody set, with all that the promise asks
  pub confirmed : Breaks (λ (world : List Line). Honest world → Life world → Few world → Everywhere DateConfirmedAt world)

-- what breaks the promise of LOOPs, in one setting, each with all that its part asks
pub record LoopsBreak : Type 0 where
  pub setting : Setting
  -- a LOOP with one hop too many
  pub hops : Breaks (Everywhere HopsAt)
  -- a LOOP with fewer hops than all that nobody has passed on
  pub chains : Breaks (λ (world : List Line). Honest world → Everywhere ChainAt world)
  -- a master that becomes Loose and has taken no LOOP
  pub gives_up : Breaks (λ (world : List Line). Honest world → NamesApart setting world → Everywhere GivesUpAt world)
