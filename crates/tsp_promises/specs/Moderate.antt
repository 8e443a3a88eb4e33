-- The promise of a round that a Correct ends: whatever a minority of its estimates says, that Correct, and those that take
-- the ADJTIMEs of the round, move no clock of the majority by much.
use Rattle.std.specs.Prelude.{◌≡◌, ◌≤◌, ◌<◌, ℕ, ◌+◌, ◌*◌, ℤ, pos, ◌+ℤ◌, ◌-ℤ◌, nat_abs, Bool, true, false, List, ◌∷◌, length, Some}
use Rattle.std.specs.List.{Contains, count_by}
use Rattle.tsp_rules.specs.Values.{AdjTime, PeerId, Port, SLEW, SPAN}
use Rattle.tsp_base.specs.Words.{Here, Line, dids, of, view, rest_at, shown, target, Within, Sampled, best, peer_of, time_in}
use Rattle.tsp_group.specs.Groups.{Agree}
use Rattle.tsp_promises.specs.{Agreed.Unchanged, ClockAt.ClocksWithin, ClockAt.drifted, Estimates.CloseBegins, Estimates.Estimate, Estimates.Moves}
use Rattle.tsp_promises.specs.{Fits.node_of}
use Rattle.tsp_promises.specs.{Everywhere.Everywhere, Everywhere.Lasting, OneError.Taking, RoundFits.estimates_at, Setting.Setting, Setting.setup_of}
use Rattle.tsp_promises.specs.StepFacts.{closed}

-- the estimates that port q of m has after this history, in microseconds: 0 for its own clock, and the diff of the best
-- sample of each measured peer, where its magnitude is less than FAR
abbrev pub estimates_of : Setting → ℕ → Port → List Line → List ℤ
estimates_of setting m q past = estimates_at (setup_of setting m q) (view q (of m past))

-- the values that pass the test are more than half of all, and any two of them are within SPAN (20 ms) of each other
pub record Majority (values : List ℤ) (test : ℤ → Bool) : Type 0 where
  pub more : length values < 2 * count_by test values
  pub agrees : Agree SPAN values test

-- this value is one of the majority of the round's estimates
pub record Agrees (setting : Setting) (m : ℕ) (close : Line) (cpast : List Line) (value : ℤ) : Type 0 where
  pub test : ℤ → Bool
  pub majority : Majority (estimates_of setting m close.port cpast) test
  pub among : Contains (estimates_of setting m close.port cpast) value
  pub passes : test value ≡ true

-- the best sample of p in the round says what one of the majority does
pub record PeerAgrees (setting : Setting) (m : ℕ) (p : PeerId) (close : Line) (cpast : List Line) : Type 0 where
  pub sample : Sampled
  pub best_is : best p (view close.port (of m cpast)) ≡ Some sample
  pub agrees : Agrees setting m close cpast sample.diff

-- this amount differs by at most twice SPAN (40 ms) from this estimate, and so does this mean
pub record NearBoth (amount mean value : ℤ) : Type 0 where
  pub moves : nat_abs (amount -ℤ value) ≤ 2 * SPAN
  pub prints : nat_abs (mean -ℤ value) ≤ 2 * SPAN

-- so do a round's Correct, and the mean that its Close prints, from each estimate of the majority
abbrev pub MeanNear : Setting → Line → List Line → Type 0
MeanNear setting l world = (m : ℕ) (close : Line) (cpast : List Line) (amount value : ℤ) → world ≡ (close ∷ cpast) → (v : Moves m close l amount) →
    Agrees setting m close cpast value → NearBoth amount v.mean value

-- a Correct by at most twice SPAN, which is slewed
pub record Little (amount : ℤ) (stepped : Bool) : Type 0 where
  pub near : nat_abs amount ≤ 2 * SPAN
  pub slews : stepped ≡ false

-- so it moves the master's own clock by little, if that is one of the majority
abbrev pub OwnNear : Setting → Line → List Line → Type 0
OwnNear setting l world = (m : ℕ) (close : Line) (cpast : List Line) (amount : ℤ) → world ≡ (close ∷ cpast) → (v : Moves m close l amount) →
    Agrees setting m close cpast (pos 0) → Little amount v.stepped

-- an ADJTIME that the round begins to a peer of the majority carries at most twice SPAN, if a Correct has ended the round
abbrev pub AdjTimeNear : Setting → Line → List Line → Type 0
AdjTimeNear setting l world = (m : ℕ) (close c : Line) (cpast : List Line) (mean amount : ℤ) (begins : CloseBegins m close cpast mean l world) →
    Within (c ∷ (close ∷ cpast)) world → Moves m close c amount →
    PeerAgrees setting m begins.peer close cpast → nat_abs (time_in begins.message.body) ≤ 2 * SPAN

-- the Correct of a peer of the majority that takes the ADJTIME which the round begins to it, if a Correct ended the round
pub record PeerCorrects (setting : Setting) (l : Line) (world : List Line) : Type 0 where
  pub m : ℕ
  pub close : Line
  pub c : Line
  pub cpast : List Line
  pub amount : ℤ
  pub moves : Moves m close c amount
  pub ends : Within (c ∷ (close ∷ cpast)) world
  pub taking : Taking m l world
  pub kind : taking.acts.brings.message.kind ≡ AdjTime
  pub close_is : closed taking.begun ≡ Here close.did ∷ view taking.post.port (of m cpast)
  pub port : close.port ≡ taking.post.port
  pub agrees : PeerAgrees setting m (peer_of (node_of l)) close cpast

-- it moves the peer's clock by little. If nothing was left to slew before, the peer shows its target again once it has
-- slewed twice SPAN, 8 s of its ticks later, as long as nothing more happens
pub record PeerNear (setting : Setting) (l : Line) (world : List Line) (p : PeerCorrects setting l world) : Type 0 where
  pub little : Little p.taking.acts.amount p.taking.acts.stepped
  pub meets : rest_at (dids (of (node_of l) world)) l.did.tick ≡ pos 0 → (x : ℕ) → l.did.tick + 2 * SPAN * SLEW ≤ x →
      shown (dids (of (node_of l) (l ∷ world))) x ≡ target (dids (of (node_of l) (l ∷ world))) x

-- all of this at a line
pub record ModerateAt (setting : Setting) (l : Line) (world : List Line) : Type 0 where
  pub mean : MeanNear setting l world
  pub own : OwnNear setting l world
  pub adjtime : AdjTimeNear setting l world
  pub peer : (p : PeerCorrects setting l world) → PeerNear setting l world p

-- at each line: if a Correct ends a round, whoever agrees with more than half of its estimates is moved by at most twice
-- SPAN, by that Correct or by the one that takes an ADJTIME of the round
abbrev pub Moderate : Setting → List Line → Type 0
Moderate setting = Everywhere (ModerateAt setting)

-- after the history h, at true time t: the clock of the master of a round, left alone since its Correct, and each clock
-- of the majority, left alone since its reading, differ by at most twice SPAN, the error and drift
abbrev pub WithMajority : Setting → List Line → ℕ → Type 0
WithMajority setting h t = (m k : ℕ) (close c : Line) (cpast : List Line) (amount : ℤ) (x : Sampled) (r : Line) (older : List Line) →
    Unchanged m (c ∷ (close ∷ cpast)) h → Moves m close c amount →
    Estimate m k close cpast x r older h → Agrees setting m close cpast x.diff →
    ClocksWithin setting h t m k ((pos (2 * SPAN) +ℤ x.err) +ℤ pos (drifted setting t r))

-- so it is at each place and later
abbrev pub ModerateClocks : Setting → List Line → Type 0
ModerateClocks setting = Lasting (WithMajority setting)
