-- The promise that a measurement errs by at most half its round trip.
use Rattle.std.specs.Prelude.{◌≡◌, ℕ, ℤ, pos, ◌-ℤ◌, ◌≤ℤ◌, nat_abs, true, List, ◌∷◌}
use Rattle.tsp_rules.specs.Values.{Post, Sample, Stamp, PeerId, Peer, Reply}
use Rattle.tsp_base.specs.Words.{Came, Acts, Did, Line, Seen, Here, of, dids, plain, view, target, Within, exchange, is_going, half_up, ReplyValue, peer_of}
use Rattle.tsp_base.specs.Words.{posted}
use Rattle.tsp_promises.specs.{ClockAt.clock, Everywhere.Everywhere, Fits.node_of, Setting.Setting}

-- the reading of a Sample of p: its step takes a reply that p posted to this node, and when that was posted p's clock
-- was ahead of this node's by diff, give or take err, both in microseconds
pub record ReadBy (setting : Setting) (l : Line) (world : List Line) (p : PeerId) (diff err : ℤ) : Type 0 where
  pub post : Line
  pub older : List Line
  pub place : Within (post ∷ older) world
  pub takes : l.did.step.cause ≡ Came (posted (dids older))
  pub from : peer_of (node_of post) ≡ p
  pub reply : ReplyValue
  pub deed : post.did.deed ≡ Acts (Post (Peer (peer_of (node_of l))) (Stamp (Reply reply)))
  pub near : pos (nat_abs (diff -ℤ (clock setting p.0 (post ∷ older) -ℤ clock setting (node_of l) (post ∷ older)))) ≤ℤ err

-- a Sample has a reading, from which it errs by at most its err
abbrev pub MeasuredAt : Setting → Line → List Line → Type 0
MeasuredAt setting l world = (p : PeerId) (counter : ℕ) (diff err : ℤ) (number : ℕ) → l.did.deed ≡ Acts (Sample p counter diff err number) →
    ReadBy setting l world p diff err

-- the open exchange of the going round that a Sample ends; err is half the time from its request to the Sample, by the
-- node's own clock, rounded up
pub record TripOf (l : Line) (seen : List Seen) (p : PeerId) (counter : ℕ) (err : ℤ) : Type 0 where
  pub request : Did
  pub older : List Seen
  pub going : is_going seen ≡ true
  pub exchange_is : exchange p counter seen ≡ Here request ∷ older
  pub err_is : err ≡ half_up (target (plain seen) l.did.tick -ℤ target (plain older) request.tick)

-- a Sample ends an open exchange, and its err is half of that round trip
abbrev pub TripAt : Line → List Line → Type 0
TripAt l world = (p : PeerId) (counter : ℕ) (diff err : ℤ) (number : ℕ) → l.did.deed ≡ Acts (Sample p counter diff err number) →
    TripOf l (view l.port (of (node_of l) world)) p counter err

-- each measurement errs by at most its err
abbrev pub Measured : Setting → List Line → Type 0
Measured setting = Everywhere (MeasuredAt setting)

-- each err is half the round trip
abbrev pub Trips : List Line → Type 0
Trips = Everywhere TripAt
