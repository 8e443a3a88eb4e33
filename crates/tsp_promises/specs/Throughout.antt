-- The promise that a round's bound outlasts later Corrects, if those are taken back, until either node boots.
use Rattle.std.specs.Prelude.{◌≡◌, ◌≤ℤ◌, ℕ, ◌+◌, ℤ, pos, ◌+ℤ◌, ◌-ℤ◌, nat_abs, List, ◌∷◌}
use Rattle.tsp_rules.specs.Values.{Close}
use Rattle.tsp_base.specs.Words.{Acts, Line, of, dids, lives, moved, Within}
use Rattle.tsp_promises.specs.{Agreed.FromRound, ClockAt.ClocksWithin, ClockAt.clock_at, ClockAt.drifted, Everywhere.Lasting, Fits.node_of, Setting.Setting}

-- by how much the Corrects of node n have moved its clock since the place s, in one life
abbrev pub moved_since : ℕ → List Line → List Line → ℤ
moved_since n s h = moved (dids (of n h)) -ℤ moved (dids (of n s))

-- the Correct c takes an ADJTIME of a Close of m with this mean; neither its node nor m booted since
pub record SinceClose (m : ℕ) (close : Line) (cpast : List Line) (mean : ℤ) (c : Line) (past : List Line) (r : Line) (older : List Line) (err : ℤ)
    (h : List Line) : Type 0 where
  pub from_round : FromRound m close cpast c past r older err
  pub within : Within (c ∷ past) h
  pub count : ℕ
  pub lo : ℤ
  pub size : ℤ
  pub deed : close.did.deed ≡ Acts (Close count lo size mean)
  pub one_life : lives (dids (of (node_of c) (c ∷ past))) ≡ lives (dids (of (node_of c) h))
  pub one_life_master : lives (dids (of m (close ∷ cpast))) ≡ lives (dids (of m h))

-- after the history h, at true time t: take back what c's node was moved by since c, and what m was moved by since its
-- Close, but not the mean. Then the two clocks differ by at most the error and drift (taken_back); the clocks
-- themselves differ by at most that and the amounts that were taken back (now)
pub record StillBound (setting : Setting) (m : ℕ) (cpast : List Line) (mean : ℤ) (c : Line) (past : List Line) (r : Line) (err : ℤ) (h : List Line) (t : ℕ) :
    Type 0 where
  pub taken_back : pos (nat_abs ((clock_at setting (node_of c) h t -ℤ moved_since (node_of c) (c ∷ past) h) -ℤ
      (clock_at setting m h t -ℤ (moved_since m cpast h -ℤ mean)))) ≤ℤ (err +ℤ pos (drifted setting t r))
  pub now : ClocksWithin setting h t (node_of c) m (((err +ℤ pos (drifted setting t r)) +ℤ pos (nat_abs (moved_since (node_of c) (c ∷ past) h))) +ℤ pos
      (nat_abs (moved_since m cpast h -ℤ mean)))

abbrev pub BoundAt : Setting → List Line → ℕ → Type 0
BoundAt setting h t = (m : ℕ) (close : Line) (cpast : List Line) (mean : ℤ) (c : Line) (past : List Line) (r : Line) (older : List Line) (err : ℤ) →
    SinceClose m close cpast mean c past r older err h → StillBound setting m cpast mean c past r err h t

-- the Correct c takes an ADJTIME of a Close of m; its node didn't boot since
pub record SinceCorrect (m : ℕ) (close : Line) (cpast : List Line) (c : Line) (past : List Line) (r : Line) (older : List Line) (err : ℤ) (h : List Line) : Type
    0 where
  pub from_round : FromRound m close cpast c past r older err
  pub within : Within (c ∷ past) h
  pub one_life : lives (dids (of (node_of c) (c ∷ past))) ≡ lives (dids (of (node_of c) h))

-- likewise the clocks of two nodes at c and d, less what each was moved by since: they differ by at most both errors
-- and drift
pub record PeersStill (setting : Setting) (c : Line) (past : List Line) (r : Line) (e : ℤ) (d : Line) (qast : List Line) (q : Line) (f : ℤ) (h : List Line)
    (t : ℕ) : Type 0 where
  pub taken_back : pos (nat_abs ((clock_at setting (node_of c) h t -ℤ moved_since (node_of c) (c ∷ past) h) -ℤ (clock_at setting (node_of d) h t -ℤ moved_since
      (node_of d) (d ∷ qast) h))) ≤ℤ
      ((e +ℤ f) +ℤ pos (drifted setting t r + drifted setting t q))
  pub now : ClocksWithin setting h t (node_of c) (node_of d) ((((e +ℤ f) +ℤ pos (drifted setting t r + drifted setting t q)) +ℤ pos
      (nat_abs (moved_since (node_of c) (c ∷ past) h))) +ℤ pos (nat_abs (moved_since (node_of d) (d ∷ qast) h)))

-- two nodes that one Close corrected, whatever became of their master
abbrev pub PeersBound : Setting → List Line → ℕ → Type 0
PeersBound setting h t = (m : ℕ) (close : Line) (cpast : List Line) (c d : Line) (past qast : List Line) (r q : Line) (rolder qolder : List Line) (e f : ℤ) →
    SinceCorrect m close cpast c past r rolder e h → SinceCorrect m close cpast d qast q qolder f h → PeersStill setting c past r e d qast q f h t

-- both bounds, after the history h at true time t
pub record BoundsLast (setting : Setting) (h : List Line) (t : ℕ) : Type 0 where
  pub master : BoundAt setting h t
  pub peers : PeersBound setting h t

-- so it is at each place and later
abbrev pub Throughout : Setting → List Line → Type 0
Throughout setting = Lasting (BoundsLast setting)
