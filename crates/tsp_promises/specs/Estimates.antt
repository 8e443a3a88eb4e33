-- What the estimates of a round say of the clocks.
use Rattle.std.specs.Prelude.{◌≡◌, ◌≤ℤ◌, ℕ, ◌+◌, ℤ, pos, ◌+ℤ◌, ◌-ℤ◌, nat_abs, Bool, true, List, ◌∷◌, Some}
use Rattle.tsp_rules.specs.Values.{Post, Close, Correct, Message, AdjTime, PeerId, Peer}
use Rattle.tsp_base.specs.Words.{Acts, Here, Line, dids, of, view, MessageValue, Within, acting, Sampled, best, Undisturbed, peer_of}
use Rattle.tsp_promises.specs.{Agreed.ReadingOf, Agreed.Unchanged, Agreed.UnchangedBut, ClockAt.ClocksWithin, ClockAt.clock_at, ClockAt.drifted}
use Rattle.tsp_promises.specs.{Everywhere.Everywhere, Everywhere.Lasting}
use Rattle.tsp_promises.specs.{Fits.node_of, Setting.Setting, StepFacts.closed}

-- this Close of m, with this mean, begins the ADJTIME that is posted at f
pub record CloseBegins (m : ℕ) (close : Line) (cpast : List Line) (mean : ℤ) (f : Line) (fw : List Line) : Type 0 where
  pub count : ℕ
  pub lo : ℤ
  pub size : ℤ
  pub deed : close.did.deed ≡ Acts (Close count lo size mean)
  pub node : node_of close ≡ m
  pub closes : Within (close ∷ cpast) fw
  pub first_node : node_of f ≡ m
  pub port : close.port ≡ f.port
  pub peer : PeerId
  pub message : MessageValue
  pub posts : f.did.deed ≡ Acts (Post (Peer peer) (Message message))
  pub kind : message.kind ≡ AdjTime
  pub begins : acting (view f.port (of m fw)) ≡ true
  pub close_is : closed (view f.port (of m fw)) ≡ Here close.did ∷ view f.port (of m cpast)

-- the estimate that the Close has of k: its best sample x, and the reading r of that; after r, k neither boots nor
-- corrects its clock up to the history h
pub record Estimate (m k : ℕ) (close : Line) (cpast : List Line) (x : Sampled) (r : Line) (older h : List Line) : Type 0 where
  pub best_is : best (peer_of k) (view close.port (of m cpast)) ≡ Some x
  pub reading : ReadingOf m close.port x.place cpast r older
  pub unchanged : Undisturbed (dids (of k (r ∷ older))) (dids (of k h))

-- this is a Close of m, and this a Correct of m by this amount; where it stands right after the Close it ends the round
pub record Moves (m : ℕ) (close : Line) (c : Line) (amount : ℤ) : Type 0 where
  pub count : ℕ
  pub lo : ℤ
  pub size : ℤ
  pub mean : ℤ
  pub deed : close.did.deed ≡ Acts (Close count lo size mean)
  pub node : node_of close ≡ m
  pub stepped : Bool
  pub shown : ℤ
  pub correct : c.did.deed ≡ Acts (Correct amount stepped shown)
  pub correct_node : node_of c ≡ m

-- at each Close, whatever follows it: the estimates that it has of two nodes differ by at most as much as their clocks
-- do then, plus their errors and drift
abbrev pub EstimatesNear : Setting → Line → List Line → Type 0
EstimatesNear setting close cpast = (m k l count : ℕ) (lo size mean : ℤ) (x y : Sampled) (r q : Line) (rolder qolder : List Line) → close.did.deed ≡
    Acts (Close count lo size mean) → node_of close ≡ m →
    Estimate m k close cpast x r rolder cpast → Estimate m l close cpast y q qolder cpast →
    pos (nat_abs (x.diff -ℤ y.diff)) ≤ℤ ((pos (nat_abs (clock_at setting k cpast close.did.step.at -ℤ clock_at setting l cpast close.did.step.at)) +ℤ
    (x.err +ℤ y.err))
    +ℤ pos (drifted setting close.did.step.at r + drifted setting close.did.step.at q))

-- after the history h, at true time t: the clocks of the master m and of k differ by at most what this estimate of k
-- differs from the mean, plus its error and drift
abbrev pub NearMean : Setting → ℕ → ℕ → ℤ → Sampled → Line → List Line → ℕ → Type 0
NearMean setting m k mean x r h t = ClocksWithin setting h t m k ((pos (nat_abs (mean -ℤ x.diff)) +ℤ x.err) +ℤ pos (drifted setting t r))

-- so it is where the Close begins an ADJTIME, if k is left alone since its reading, and the master is but for the
-- Correct right after the Close
abbrev pub MasterNear : Setting → List Line → ℕ → Type 0
MasterNear setting h t = (m k : ℕ) (close : Line) (cpast : List Line) (mean : ℤ) (f : Line) (fw : List Line) (x : Sampled) (r : Line) (older : List Line) →
    Within (f ∷ fw) h → CloseBegins m close cpast mean f fw →
    Estimate m k close cpast x r older h → UnchangedBut m close cpast h → NearMean setting m k mean x r h t

-- and where a Correct right after the Close ends the round, whether or not an ADJTIME begins: from the Correct on, if
-- the master is left alone since it, and k since its reading
abbrev pub EndedNear : Setting → List Line → ℕ → Type 0
EndedNear setting h t = (m k : ℕ) (close c : Line) (cpast : List Line) (amount : ℤ) (x : Sampled) (r : Line) (older : List Line) →
    Unchanged m (c ∷ (close ∷ cpast)) h → (v : Moves m close c amount) →
    Estimate m k close cpast x r older h → NearMean setting m k v.mean x r h t

-- the first holds at each place, and the others later too
pub record EstimatesHold (setting : Setting) (world : List Line) : Type 0 where
  pub apart : Everywhere (EstimatesNear setting) world
  pub near : Lasting (MasterNear setting) world
  pub ended : Lasting (EndedNear setting) world
