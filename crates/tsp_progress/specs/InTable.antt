-- What is asked of a network whose clocks agree: its master has all in its table, and posts no SETTIME, and nobody sets the date.
use Rattle.std.specs.Prelude.{◌≡◌, ◌≢◌, ◌≤◌, ℕ, ◌==◌, ◌+ℤ◌, Bool, true, false, List}
use Rattle.tsp_rules.specs.Values.{Abandon, AdjTime, Good, Message, Peer, PeerId, Place, Post, SetTime, Took}
use Rattle.tsp_rules.specs.Guards.{is_clock_value}
use Rattle.tsp_base.specs.Words.{Acts, Line, MessageValue, Within, dids, first_port, in_table, of, peer_of, sets_date, target, time_in, time_of}
use Rattle.tsp_base.specs.Words.{view}
use Rattle.tsp_promises.specs.Fits.{node_of}
use Rattle.tsp_progress.specs.FollowOn.{AfterPlace}

-- at each place after s, until the true time t, each other node that stays is in the slave table of node c
abbrev pub InTable : (ℕ → Bool) → ℕ → ℕ → List Line → List Line → Type 0
InTable stays c t s world = (h : List Line) → Within h world → Within s h → time_of (dids h) ≤ t → (n : ℕ) → stays n ≡ true → (n == c) ≡ false →
    in_table (peer_of n) (view first_port (of c h)) ≡ true

-- after the place s node c posts no SETTIME: nobody joins, and no clock is FAR (34 years) or more away
abbrev pub SetsNone : ℕ → List Line → List Line → Type 0
SetsNone c s world = AfterPlace s world (λ l older. node_of l ≡ c → (p : PeerId) (m : MessageValue) → l.did.deed ≡ Acts (Post (Peer p) (Message m)) →
    m.kind ≢ SetTime)

-- after the place s node c takes no date
abbrev pub Undated : ℕ → List Line → List Line → Type 0
Undated c s world = AfterPlace s world (λ l older. node_of l ≡ c → (from : Place) (m : MessageValue) → l.did.deed ≡ Acts (Took from (Good (Message m))) →
    sets_date m.kind ≡ false)

-- after the place s node c gives up no round
abbrev pub GivesUpNone : ℕ → List Line → List Line → Type 0
GivesUpNone c s world = AfterPlace s world (λ l older. node_of l ≡ c → l.did.deed ≢ Acts Abandon)

-- after the place s each node's clock is in its range, and it stays there whatever ADJTIME the node takes
pub record KeepsRange (s world : List Line) : Type 0 where
  pub now : AfterPlace s world (λ l older. is_clock_value (target (dids (of (node_of l) older)) l.did.tick) ≡ true)
  pub moved : AfterPlace s world (λ l older. (from : Place) (m : MessageValue) → l.did.deed ≡ Acts (Took from (Good (Message m))) → m.kind ≡ AdjTime →
      is_clock_value (target (dids (of (node_of l) older)) l.did.tick +ℤ time_in m.body) ≡ true)
