-- What a round has asked and learned, as the exchanges with each peer have it.
use Rattle.std.specs.Prelude.{◌≡◌, ℕ, ◌+◌, ◌*◌, ◌%◌, ◌^◌, ◌<◌, ◌≤◌, ◌==◌, ℤ, if◌then◌else◌, List, [], ◌∷◌, ◌++◌, Option, None, Some}
use Rattle.std.specs.List.{All}
use Rattle.tsp_base.specs.{Words.Estimate, Words.OpenRequest, Words.Sampled, declared.place.PeerId.PeerId}
use Rattle.tsp_measure.specs.declared.{exchange.Exchange.Exchange, sample.Sample.Sample, sample.TimedSample.TimedSample}
use Rattle.tsp_measure.specs.{Measures.Measured, Measures.begun, Measures.nothing_measured, Peers.MeasuredPeers, Peers.with_peer}

-- the exchanges of the last round, the requests since the boot modulo 2 ^ 64, and the probes since the round began
pub record RoundsValue : Type 0 where
  pub exchanges : MeasuredPeers
  pub asked : ℕ
  pub probes : ℕ

abbrev pub rounds_of : MeasuredPeers → ℕ → ℕ → RoundsValue
rounds_of exchanges asked probes = record { exchanges = exchanges; asked = asked; probes = probes }

-- what is measured with a peer
abbrev pub measured_with : RoundsValue → PeerId → Measured
measured_with v p = with_peer v.exchanges p.0

-- the word of a request, and the target when it was posted
abbrev pub request_of : Exchange → OpenRequest
request_of e = record { word = e.word; target = e.a }

-- the open exchange with this counter
abbrev pub pending_at : ℕ → List Exchange → Option OpenRequest
pending_at c [] = None
pending_at c (e ∷ es) = if e.counter == c then Some (request_of e) else pending_at c es

-- a sample with the round trip that it took
abbrev pub timed_of : Sampled → TimedSample
timed_of s = record { sample = record { diff = s.diff; err = s.err; ticket = s.ticket; counter = s.counter }; trip = s.trip }

-- what a sample says of the peer's clock
abbrev pub estimate_in : Sample → Estimate
estimate_in s = record { diff = s.diff; ticket = s.ticket }

-- a counter of one of the requests from this one on, as the total has it
abbrev pub IsFrom : ℕ → ℕ → ℕ → Type 0
IsFrom first total counter = (k : ℕ) × (first ≤ k) × (k < total) × (counter ≡ k % 2 ^ 64)

-- no two open exchanges have one counter
abbrev pub AreApart : List Exchange → Type 0
AreApart [] = Unit {0}
AreApart (e ∷ es) = (pending_at e.counter es ≡ None) × AreApart es

-- all exchanges are of the last requests, of which there are at most so many
pub record IsCounted (v : RoundsValue) (most : ℕ) : Type 0 where
  pub first : ℕ
  pub total : ℕ
  pub ordered : first ≤ total
  pub few : total ≤ first + most
  pub asked_is : v.asked ≡ total % 2 ^ 64
  pub pending : (p : ℕ) → All (λ (e : Exchange). IsFrom first total e.counter) (with_peer v.exchanges p).pending
  pub samples : (p : ℕ) → All (λ (t : TimedSample). IsFrom first total t.sample.counter) (with_peer v.exchanges p).samples

-- a round has at most three probes, and asks each of at most 1,000 peers once at its start and once at each probe
pub record IsRounds (v : RoundsValue) : Type 0 where
  pub three : v.probes ≤ 3
  pub few : (p : ℕ) → begun (with_peer v.exchanges p) ≤ v.probes + 1
  pub counted : IsCounted v (1000 * (v.probes + 1))
  pub apart : (p : ℕ) → AreApart (with_peer v.exchanges p).pending

-- each peer may be asked once more: at the start of a round, or at a probe that was counted
pub record MayAsk (v : RoundsValue) : Type 0 where
  pub three : v.probes ≤ 3
  pub few : (p : PeerId) → begun (measured_with v p) ≤ v.probes
  pub counted : IsCounted v (1000 * v.probes)

-- nothing is measured with any peer
abbrev pub IsNothing : RoundsValue → Type 0
IsNothing v = (p : ℕ) → with_peer v.exchanges p ≡ nothing_measured

-- an exchange with a peer begins, under the next counter
pub record Starts (p : PeerId) (word : ℕ) (a : ℤ) (old new : RoundsValue) : Type 0 where
  pub asked : new.asked ≡ (old.asked + 1) % 2 ^ 64
  pub probes : new.probes ≡ old.probes
  pub peers : new.exchanges.peers ≡ old.exchanges.peers
  pub fresh : pending_at old.asked (measured_with old p).pending ≡ None
  pub started : measured_with new p ≡ record (measured_with old p) {
    pending = (measured_with old p).pending ++
        record { word = word; counter = old.asked; a = a } ∷ [];
  }
  pub others : (q : PeerId) → (q.0 ≡ p.0 → ⊥) → measured_with new q ≡ measured_with old q
