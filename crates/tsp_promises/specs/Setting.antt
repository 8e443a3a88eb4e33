-- What is around the nodes of a history: their clocks, names and networks.
use Rattle.std.specs.Prelude.{◌≡◌, ◌≤◌, ℕ, ◌+◌, ◌*◌, ◌/◌, ℤ, Bool, true, List}
use Rattle.tsp_rules.specs.Values.{PeerId, Port}
use Rattle.tsp_base.specs.Words.{is_among, Setup, peer_of}

-- a network: one of the schedule's header, or, for a port that its node doesn't have, one with nobody else on it
pub data Network : Type 0 where
  -- the k-th of the header
  Named : (k : ℕ) → Network
  Alone : (n : ℕ) → (q : ℕ) → Network

-- a counter keeps this drift (parts in a million): it never falls, and over each span of true time (microseconds) it advances by that span,
-- give or take the drift of it, rounded up
pub record KeepsTime (drift : ℕ) (tick : ℕ → ℕ) : Type 0 where
  pub rises : (s x : ℕ) → tick s ≤ tick (s + x)
  pub fast : (s x : ℕ) → tick (s + x) ≤ tick s + x + (drift * x + 999999) / 1000000
  pub slow : (s x : ℕ) → tick s + x ≤ tick (s + x) + (drift * x + 999999) / 1000000

-- the greatest drift, at most 1,000 parts in a million; each node's tick at each microsecond of true time; its wall clock at tick 0, in
-- microseconds, in each of its lives, of which the first has the number 1; its name; the network of each of its ports, and who is on it;
-- and whether elections are strict, so that a candidate needs a majority
pub record Setting : Type 0 where
  pub drift : ℕ
  pub tick : ℕ → ℕ → ℕ
  pub wall : ℕ → ℕ → ℤ
  pub name : ℕ → List ℕ
  pub strict : Bool
  pub net : ℕ → Port → Network
  pub members : Network → List PeerId
  pub small : drift ≤ 1000
  pub ticks : (n : ℕ) → KeepsTime drift (tick n)
  -- a node is on each network by one port
  pub apart : (n : ℕ) (p q : Port) → net n p ≡ net n q → p ≡ q
  -- a node is a member of its networks
  pub own : (n : ℕ) (q : Port) → is_among (peer_of n) (members (net n q)) ≡ true

-- what port q of node n is set up with
abbrev pub setup_of : Setting → ℕ → Port → Setup
setup_of setting n q = record { name = setting.name n; port = q; peers = setting.members (setting.net n q); strict = setting.strict }
