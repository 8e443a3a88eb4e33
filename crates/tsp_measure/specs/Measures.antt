-- What is measured with one peer.
use Rattle.std.specs.Prelude.{◌≡◌, ℕ, ◌+◌, ◌<◌, ◌==◌, ◌&&◌, Bool, true, false, if◌then◌else◌, ℤ, pos, negsuc, ◌-ℤ◌, ◌≤ℤ◌, ◌<ℤ◌, int_lt, Option, None, Some}
use Rattle.std.specs.Prelude.{MatchOption, List, [], ◌∷◌, ◌++◌, length, slice_index_or}
use Rattle.std.specs.List.{All, fold}
use Rattle.tsp_base.specs.Words.{sample_diff, sample_err}
use Rattle.tsp_measure.specs.declared.{exchange.Exchange.Exchange, sample.Reply.Reply, sample.Sample.Sample, sample.TimedSample.TimedSample}
use Rattle.tsp_measure.specs.declared.sample.Reply.TheVariants.{NotStarted, Sample as SampleOf}

-- a reading of the own clock: strictly between -2 ^ 62 and 2 ^ 62
pub record IsReading (x : ℤ) : Type 0 where
  pub low : negsuc 4611686018427387902 ≤ℤ x
  pub high : x ≤ℤ pos 4611686018427387903

-- a reading of the other clock: strictly between -2 ^ 31 and 2 ^ 31 seconds
pub record IsStamp (x : ℤ) : Type 0 where
  pub low : negsuc 2147483647999998 ≤ℤ x
  pub high : x ≤ℤ pos 2147483647999999

-- the exchanges with a peer: the open ones in the order of their requests, and the samples in the order of their replies
pub record Measured : Type 0 where
  pub pending : List Exchange
  pub samples : List TimedSample

-- no exchange
abbrev pub nothing_measured : Measured
nothing_measured = record { pending = []; samples = [] }

-- how many exchanges were begun
abbrev pub begun : Measured → ℕ
begun m = length m.pending + length m.samples

-- no exchange with this counter was begun
pub record IsNewCounter (counter : ℕ) (m : Measured) : Type 0 where
  pub pending : All (λ (e : Exchange). e.counter ≡ counter → ⊥) m.pending
  pub samples : All (λ (t : TimedSample). t.sample.counter ≡ counter → ⊥) m.samples

-- the sample of a request that was sent at a and answered at d, where the other clock read s
abbrev pub timed_sample : ℤ → ℤ → ℤ → ℕ → ℕ → TimedSample
timed_sample a s d ticket counter = record {
  sample = record { diff = sample_diff a s d; err = sample_err a d; ticket = ticket; counter = counter };
  trip = d -ℤ a;
}

-- whether an exchange has this word and counter
abbrev pub asks : ℕ → ℕ → Exchange → Bool
asks word counter e = (e.word == word) && (e.counter == counter)

-- an open exchange is answered: it is open no more, and its sample is the last
pub record IsAnswered (word counter : ℕ) (ticket : ℕ) (s d : ℤ) (old new : Measured) (answer : Sample) : Type 0 where
  pub before : List Exchange
  pub exchange : Exchange
  pub after : List Exchange
  pub was_pending : old.pending ≡ before ++ exchange ∷ after
  pub asked : asks word counter exchange ≡ true
  pub is_pending : new.pending ≡ before ++ after
  pub samples : new.samples ≡ old.samples ++ timed_sample exchange.a s d ticket counter ∷ []
  pub told : answer ≡ (timed_sample exchange.a s d ticket counter).sample

-- what a reply changes, and what it was
abbrev pub TakesReply : ℕ → ℕ → ℕ → ℤ → ℤ → Measured → Measured → Reply → Type 0
TakesReply word counter ticket s d old new NotStarted = All (λ e. asks word counter e ≡ false) old.pending × (new ≡ old)
TakesReply word counter ticket s d old new (SampleOf sample) = IsAnswered word counter ticket s d old new sample

-- of two samples the one with the shorter round trip, and the earlier where they are equal
abbrev pub better : Option TimedSample → TimedSample → Option TimedSample
better None late = Some late
better (Some early) late = if int_lt late.trip early.trip then Some late else Some early

-- the best of the samples
abbrev pub best_of : List TimedSample → Option TimedSample
best_of samples = fold better None samples

-- the sample at place i is the first with the shortest round trip
pub record IsFirstOfLeastTrip (samples : List TimedSample) (best : TimedSample) (i : ℕ) : Type 0 where
  pub inside : i < length samples
  pub is : slice_index_or samples i best ≡ best
  pub least : All (λ (t : TimedSample). best.trip ≤ℤ t.trip) samples
  pub first : (k : ℕ) → k < i → best.trip <ℤ (slice_index_or samples k best).trip

-- each exchange began at a reading of the own clock
abbrev pub AllReadings : List Exchange → Type 0
AllReadings pending = All (λ (e : Exchange). IsReading e.a) pending

-- a sample is the best of these, or none where there are none
abbrev pub IsBestSample : List TimedSample → Option TimedSample → Type 0
IsBestSample samples best = MatchOption best (samples ≡ []) (λ (b : TimedSample). (i : ℕ) × IsFirstOfLeastTrip samples b i)
