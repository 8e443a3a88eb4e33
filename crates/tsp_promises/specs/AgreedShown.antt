-- The promise that what clocks show agrees where the clocks do, and what a wait is good for.
use Rattle.std.specs.Prelude.{◌≡◌, ◌≤◌, ◌≤ℤ◌, ℕ, ◌+◌, ◌*◌, ℤ, pos, ◌+ℤ◌, ◌-ℤ◌, nat_abs, true, List, ◌∷◌}
use Rattle.tsp_promises.specs.{Agreed.OfMaster, Agreed.OfPeers, Chained.OfChain, Chained.OfChains, Chained.OfTree}
use Rattle.tsp_promises.specs.ClockAt.{ClocksWithin, left_at, shown_at}
use Rattle.tsp_promises.specs.{Everywhere.Everywhere, Everywhere.Lasting, Setting.Setting, Steady.ReadTimes, Steady.Unstepped, Steady.shown_width}
use Rattle.tsp_base.specs.Words.{Line, of, dids, last_correct, rest, up}

-- the shown values of k and l differ by at most b and what is still to be slewed on each; so by at most b, once both
-- show their targets
abbrev pub ShownWithin : Setting → List Line → ℕ → ℕ → ℕ → ℤ → Type 0
ShownWithin setting h t k l b = pos (nat_abs (shown_at setting k h t -ℤ shown_at setting l h t)) ≤ℤ ((b +ℤ pos (nat_abs (left_at setting k h t))) +ℤ pos
    (nat_abs (left_at setting l h t)))

-- nothing is left to slew on node n at true time t: its clock shows its target
abbrev pub HasMet : Setting → ℕ → List Line → ℕ → Type 0
HasMet setting n h t = last_correct (dids (of n h)) + 200 * nat_abs (rest (dids (of n h))) ≤ setting.tick n t

-- the shown values of two nodes differ so, and by at most b alone once both clocks show their targets
pub record ShownBy (setting : Setting) (h : List Line) (t : ℕ) (k l : ℕ) (b : ℤ) : Type 0 where
  pub within : ShownWithin setting h t k l b
  pub met : HasMet setting k h t → HasMet setting l h t → pos (nat_abs (shown_at setting k h t -ℤ shown_at setting l h t)) ≤ℤ b

-- after the history h, at true time t: wherever the clocks of two nodes that have booted differ by at most b, so do
-- their shown values
abbrev pub ShownAsClocks : Setting → List Line → ℕ → Type 0
ShownAsClocks setting h t = (k l : ℕ) (b : ℤ) → up (dids (of k h)) ≡ true → up (dids (of l h)) ≡ true → ClocksWithin setting h t k l b →
    ShownBy setting h t k l b

-- after the history h, at true time t, wherever Agreed and Chained have it of clocks: of two peers, of a peer and its master, down a chain,
-- across two, and over a tree
pub record ShownAgree (setting : Setting) (h : List Line) (t : ℕ) : Type 0 where
  pub peers : OfPeers (ShownWithin setting h t) setting h t
  pub master : OfMaster (ShownWithin setting h t) setting h t
  pub down : OfChain (ShownWithin setting h t) setting h t
  pub across : OfChains (ShownWithin setting h t) setting h t
  pub tree : OfTree (ShownWithin setting h t) setting h t

-- so it is at each place and later
abbrev pub AgreedShown : Setting → List Line → Type 0
AgreedShown setting = Lasting (ShownAgree setting)

-- likewise of any two nodes that have booted, whatever bounds their clocks
abbrev pub ShownNear : Setting → List Line → Type 0
ShownNear setting = Everywhere (λ l world. (t : ℕ) → ShownAsClocks setting (l ∷ world) t)

-- the shown values of k and l differ by at most b at the place s and true time t, and l neither boots nor steps its
-- clock in the time d after that. Then l shows at least what k showed at t, plus d, less drift, one in two hundred, and
-- b
abbrev pub WaitedFor : Setting → List Line → Type 0
WaitedFor setting h = (k l : ℕ) (s : List Line) (t d : ℕ) (b : ℤ) → Unstepped l s h → ReadTimes l s h t (t + d) →
    pos (nat_abs (shown_at setting k s t -ℤ shown_at setting l s t)) ≤ℤ b →
    ((pos d -ℤ pos (shown_width setting.drift d)) -ℤ b) ≤ℤ (shown_at setting l h (t + d) -ℤ shown_at setting k s t)

-- so the stamps are in order after a wait that is long enough to make this more than 0
abbrev pub Waited : Setting → List Line → Type 0
Waited setting = Everywhere (λ l world. WaitedFor setting (l ∷ world))
