-- The exchanges and the samples of a port's round, among noted lines.
use Rattle.std.specs.Prelude.{◌≡◌, ◌<◌, ℕ, ℤ, pos, ◌-ℤ◌, int_lt, if◌then◌else◌, List, [], ◌∷◌, length, get_or, take, Option, None, Some}
use Rattle.tsp_base.specs.declared.{act.Act.Act, act.Act.TheVariants.Sample, place.PeerId.PeerId, place.Port.Port}
use Rattle.tsp_promises.specs.Fits.{node_of}
use Rattle.tsp_base.specs.Words.{Deed, Acts, Did, Line, Seen, Here, of, plain, view, target, Within, Sampled, exchange, target_there}
use Rattle.tsp_history.specs.{Histories.line_of, Histories.history_of, declared.line.HistoryLine.HistoryLine, declared.rounds.Best.Best}

-- an exchange that is open, by the clock's target at its request
pub record AskedAt (seen : List Seen) (t : ℤ) : Type 0 where
  pub request : Did
  pub older : List Seen
  pub is : seen ≡ Here request ∷ older
  pub target_is : t ≡ target (plain older) request.tick

-- the target at the request of an exchange; None means that no exchange is open
abbrev pub Asked : List Seen → Option ℤ → Type 0
Asked seen None = seen ≡ []
Asked seen (Some t) = AskedAt seen t

-- the target at the request; 0 where no exchange is open
abbrev pub start_of : Option ℤ → ℤ
start_of None = pos 0
start_of (Some t) = t

-- the clock's time from a request of this peer and counter to the deed that is done after these
abbrev pub trip_after : Deed → Did → List Seen → ℤ
trip_after (Acts (Sample p counter diff err ticket)) here before = target_there (Here here ∷ before) -ℤ target_there (exchange p counter before)
trip_after _ here before = pos 0

-- the round trip of the Sample at a line; 0 at another line
abbrev pub trip_at : Line → List Line → ℤ
trip_at l h = trip_after l.did.deed l.did (view l.port (of (node_of l) h))

-- the line at index i, of these lines, is this one
pub record LineAt (ns : List HistoryLine) (i : ℕ) (noted : HistoryLine) : Type 0 where
  pub below : i < length ns
  pub noted_is : get_or ns i noted ≡ noted
  pub within : Within (line_of noted ∷ history_of (take i ns)) (history_of ns)

-- a place of what port q of node n sees is that of the line at index i
pub record SeenAt (ns : List HistoryLine) (n : ℕ) (q : Port) (seen : List Seen) (i : ℕ) : Type 0 where
  pub noted : HistoryLine
  pub at : LineAt ns i noted
  pub node : noted.node ≡ n
  pub port : noted.port ≡ q
  pub is : seen ≡ Here (line_of noted).did ∷ view q (of n (history_of (take i ns)))

-- the index of the line at a place; None means that there is no such place
abbrev pub SeenBy : List HistoryLine → ℕ → Port → List Seen → Option ℕ → Type 0
SeenBy ns n q seen None = seen ≡ []
SeenBy ns n q seen (Some i) = SeenAt ns n q seen i

-- the best sample of a peer, by the index of its line and what it says
pub record BestAt (ns : List HistoryLine) (n : ℕ) (q : Port) (sample : Option Sampled) (b : Best) : Type 0 where
  pub sampled : Sampled
  pub is : sample ≡ Some sampled
  pub diff_is : sampled.diff ≡ b.diff
  pub err_is : sampled.err ≡ b.err
  pub trip_is : sampled.trip ≡ b.trip
  pub place : SeenAt ns n q sampled.place b.index

-- of two samples the one of the less round trip, and the earlier where they are equal
abbrev pub better_of : Best → Option Best → Best
better_of early None = early
better_of early (Some late) = if int_lt late.trip early.trip then late else early

-- the best sample, if there is one
abbrev pub Bests : List HistoryLine → ℕ → Port → Option Sampled → Option Best → Type 0
Bests ns n q sample None = sample ≡ None
Bests ns n q sample (Some b) = BestAt ns n q sample b

-- the round trip of each line stands at the index of that line
abbrev pub TripsTell : List Line → List ℤ → Type 0
TripsTell h trips = (l : Line) (before : List Line) → Within (l ∷ before) h → get_or trips (length before) (pos 0) ≡ trip_at l before

-- a line samples peer p on port q of node n
pub record IsSampleOf (noted : HistoryLine) (n : ℕ) (q : Port) (p : PeerId) : Type 0 where
  pub node : noted.node ≡ n
  pub port : noted.port.0 ≡ q.0
  pub peer : PeerId
  pub counter : ℕ
  pub diff : ℤ
  pub err : ℤ
  pub ticket : ℕ
  pub act : noted.act ≡ Some (Sample peer counter diff err ticket)
  pub peer_is : peer.0 ≡ p.0

-- what an act says as a sample, at this index and with this round trip
abbrev pub sample_in : Option Act → ℕ → ℤ → Best
sample_in (Some (Sample p counter diff err ticket)) i trip = record { index = i; diff = diff; err = err; trip = trip }
sample_in _ i trip = record { index = i; diff = pos 0; err = pos 0; trip = trip }

-- the same of a line
abbrev pub sampled_at : HistoryLine → ℕ → ℤ → Best
sampled_at noted i trip = sample_in noted.act i trip
