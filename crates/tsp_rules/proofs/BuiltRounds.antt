-- How the rows of a master's rounds are made.
use Rattle.std.specs.Prelude.{◌==◌, ℤ, ◌-ℤ◌, Bool, true, false, List, [], ◌∷◌, Option, None, Some, refl}
use Rattle.tsp_rules.specs.Values.{Ring, Late, Abandon, Leave, Round, Probe, CloseAlarm, MasterUp, PeerId, CLOSE, PROBE, ROUND, WAIT}
use Rattle.tsp_base.specs.Words.{Estimate, OpenRequest, ReplyValue}
use Rattle.tsp_rules.specs.RoundRows.{asks_slaves, round_begins, begins_or_waits, round_rings, asks_measured, arms_next, abandons, probe_rings, samples_request}
use Rattle.tsp_rules.specs.RoundRows.{samples, is_near, corrects_by, moves, close_rings, abandons_going}
use Rattle.tsp_rules.proofs.Emits.{Sort, Asking, Correcting, Posting, Alarming, Rounding, Tabling, Sampling, Closing, Moving}
use Rattle.tsp_rules.proofs.RowCodes.{ATicket, Owed, Puts, Arms, Asks, Adjusts, Samples, ToOthers, RequestAt, TargetAt, Measured, Table, HasMore, InTime}
use Rattle.tsp_rules.proofs.RowCodes.{IsGoing}
use Rattle.tsp_rules.proofs.Built.{Built, Corrects, Empty, At, Then, If, Reading, Each, Closes, More, Wider, whichever}
use Rattle.tsp_rules.{proofs.BuiltSends.built_begins_adjtime, proofs.BuiltSends.built_begins_settime, specs.Renames.Naming}

-- a round begins, goes on or is given up
abbrev pub asking_sorts : List Sort
asking_sorts = Asking ∷ Posting ∷ Alarming ∷ Rounding ∷ []

-- a measured peer is corrected, or leaves
abbrev pub correct_sorts : List Sort
correct_sorts = Correcting ∷ Tabling ∷ []

-- a round closes
abbrev pub close_sorts : List Sort
close_sorts = Correcting ∷ Rounding ∷ Tabling ∷ Closing ∷ Moving ∷ []

-- all of these
abbrev pub round_sorts : List Sort
round_sorts = Asking ∷ Posting ∷ Alarming ∷ close_sorts

module _ {m : Naming} {o : Owed} where
  built_begins : Built m o asking_sorts 2 3 round_begins round_begins
  unfolding round_begins asks_slaves
  built_begins =
      Then (At (Arms Round ROUND tt) refl) (Then (At (Arms Probe PROBE tt) refl) (Then (At (Arms CloseAlarm CLOSE tt) refl)
      (Then (At (ToOthers MasterUp refl) refl) (Each _ Table (λ p known. At (Asks p known) refl)))))

  built_waits : (wait : Bool) → Built m o asking_sorts 2 3 (begins_or_waits wait) (begins_or_waits wait)
  unfolding begins_or_waits
  built_waits true = More (At (Arms Round WAIT tt) refl) refl
  built_waits false = built_begins

  pub built_round_rings : (wait : Bool) → Built m o asking_sorts 2 4 (round_rings wait) (round_rings wait)
  unfolding round_rings
  built_round_rings wait = whichever (InTime Round)
      (Then (At (Puts (Ring Round) refl tt) refl) (built_waits wait))
      (More (Then (At (Puts (Late Round) refl tt) refl) (At (Arms Round ROUND tt) refl)) refl)

  pub built_abandons : Built m o (Rounding ∷ []) 0 1 abandons abandons
  unfolding abandons
  built_abandons = At (Puts Abandon refl tt) refl

  pub built_abandons_going : Built m o (Rounding ∷ []) 0 1 abandons_going abandons_going
  unfolding abandons_going
  built_abandons_going = whichever IsGoing built_abandons Empty

  pub built_probe_rings : Built m o asking_sorts 1 2 probe_rings probe_rings
  unfolding probe_rings asks_measured arms_next
  built_probe_rings = whichever (InTime Probe)
      (Then (At (Puts (Ring Probe) refl tt) refl) (Then (Each _ Measured (λ p known. At (Asks p known) refl)) (whichever HasMore (At (Arms Probe PROBE tt) refl)
      Empty)))
      (More (Then (At (Puts (Late Probe) refl tt) refl) (Wider refl built_abandons)) refl)

  built_moves : (own : Bool) (mean : ℤ) → Built m o close_sorts 0 1 (moves own mean) (moves own mean)
  unfolding moves
  built_moves true mean = At (Adjusts mean) refl
  built_moves false mean = Empty

  pub built_corrects_by : (mean : ℤ) (p : PeerId) → m.known p → (best : Option Estimate) → Corrects o mean best →
      Built m o correct_sorts 0 1 (corrects_by mean p best) (corrects_by mean (m.names.peer p) best)
  unfolding corrects_by
  built_corrects_by mean p known None is = At (Puts (Leave p) refl known) refl
  built_corrects_by mean p known (Some b) is = If (is_near b.diff) _ refl
      (λ e. Wider refl (built_begins_adjtime p b.ticket (mean -ℤ b.diff) known is.0 (is.1 e)))
      (Wider refl (built_begins_settime p b.ticket known is.0))

  pub built_close_rings : (own : Bool) → Built m o close_sorts 1 3 (close_rings own) (close_rings own)
  unfolding close_rings
  built_close_rings own = whichever (InTime CloseAlarm)
      (Closes own refl (built_moves own) (λ mean p known best is. Wider refl (built_corrects_by mean p known best is)))
      (More (Then (At (Puts (Late CloseAlarm) refl tt) refl) (Wider refl built_abandons)) refl)

  built_request : (p : PeerId) (r : ReplyValue) → m.known p → o.of (ATicket r.ticket) → (q : Option OpenRequest) →
      Built m o (Sampling ∷ []) 0 1 (samples_request p r q) (samples_request (m.names.peer p) r q)
  unfolding samples_request
  built_request p r known is None = Empty
  built_request p r known is (Some q) = If (q.word == r.word) _ refl (λ e. Reading _ TargetAt (λ d told. At (Samples p r q.target d known is) refl)) Empty

  pub built_samples : (p : PeerId) (r : ReplyValue) → m.known p → o.of (ATicket r.ticket) →
      Built m o (Sampling ∷ []) 0 1 (samples p r) (samples (m.names.peer p) r)
  unfolding samples
  built_samples p r known is = Reading _ (RequestAt p r.counter) (λ q told. built_request p r known is q)
