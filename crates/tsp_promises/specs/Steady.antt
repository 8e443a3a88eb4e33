-- The promises that the shown clock runs on between steps, and that it meets its target.
use Rattle.std.specs.Prelude.{◌≡◌, ◌≤◌, ◌≤ℤ◌, ◌<ℤ◌, ℕ, ◌+◌, ◌-◌, ◌*◌, ◌/◌, ℤ, pos, ◌-ℤ◌, nat_abs, Bool, false, List, ◌∷◌}
use Rattle.tsp_rules.specs.Values.{Correct}
use Rattle.tsp_base.specs.Words.{Acts, Did, Line, of, dids, last_correct, lives, rest, shown, target, tick_of, time_of, Within, width}
use Rattle.tsp_promises.specs.{Everywhere.Everywhere, Fits.node_of, Setting.Setting, ClockAt.shown_at}

-- no Correct of node n after the place s has stepped its clock
abbrev pub NoneStepped : ℕ → List Line → List Line → Type 0
NoneStepped n s h = (l : Line) (before : List Line) (amount : ℤ) (stepped : Bool) (value : ℤ) → Within (l ∷ before) h → Within s before → node_of l ≡ n →
    l.did.deed ≡ Acts (Correct amount stepped value) → stepped ≡ false

-- after the place s node n neither booted nor stepped its clock
pub record Unstepped (n : ℕ) (s h : List Line) : Type 0 where
  pub within : Within s h
  pub lives : lives (dids (of n s)) ≡ lives (dids (of n h))
  pub none : NoneStepped n s h

-- node n is read at tick x at the place s, before its next line, and at tick y, no earlier, after the history h
pub record ReadTicks (n : ℕ) (s h : List Line) (x y : ℕ) : Type 0 where
  pub from : tick_of (dids (of n s)) ≤ x
  pub next : (l : Line) (before : List Line) → Within (l ∷ before) h → Within s before → node_of l ≡ n → x ≤ l.did.tick
  pub order : x ≤ y
  pub to : tick_of (dids (of n h)) ≤ y

-- a shown value advances by the ticks between two readings, give or take one microsecond for each 200 ticks, rounded
-- up. So it never falls, and rises over any two ticks
pub record Advances (early late : ℤ) (ticks : ℕ) : Type 0 where
  pub rate : nat_abs ((late -ℤ early) -ℤ pos ticks) ≤ (ticks + 199) / 200
  pub never_back : early ≤ℤ late
  pub rises : 2 ≤ ticks → early <ℤ late

-- after the history h: from a reading at an earlier place on, as long as n neither boots nor steps its clock
abbrev pub RunsOn : List Line → Type 0
RunsOn h = (n : ℕ) (s : List Line) (x y : ℕ) → Unstepped n s h → ReadTicks n s h x y → Advances (shown (dids (of n s)) x) (shown (dids (of n h)) y) (y - x)

-- likewise n is read at the true times a and b
pub record ReadTimes (n : ℕ) (s h : List Line) (a b : ℕ) : Type 0 where
  pub from : time_of (dids (of n s)) ≤ a
  pub next : (l : Line) (before : List Line) → Within (l ∷ before) h → Within s before → node_of l ≡ n → a ≤ l.did.step.at
  pub order : a ≤ b
  pub to : time_of (dids (of n h)) ≤ b

-- how far, at most, the advance of a shown value over so many microseconds of true time differs from that time
abbrev pub shown_width : ℕ → ℕ → ℕ
shown_width drift x = width drift x + (x + width drift x + 199) / 200

-- so over true time it advances by as much, give or take drift and one in two hundred
abbrev pub RunsOverTime : Setting → List Line → Type 0
RunsOverTime setting h = (n : ℕ) (s : List Line) (a b : ℕ) → Unstepped n s h → ReadTimes n s h a b →
    nat_abs ((shown_at setting n h b -ℤ shown_at setting n s a) -ℤ pos (b - a)) ≤ shown_width setting.drift (b - a)

-- by ticks and over true time
pub record SteadyAt (setting : Setting) (h : List Line) : Type 0 where
  pub ticks : RunsOn h
  pub time : RunsOverTime setting h

-- so it is at each place of the history
abbrev pub Steady : Setting → List Line → Type 0
Steady setting = Everywhere (λ l before. SteadyAt setting (l ∷ before))

-- the rest is what a clock has to slew right after its last Correct or boot. What it shows at tick y differs from its
-- target by the rest, less a microsecond for each 200 ticks since then, until it shows the target
pub record MeetsBy (ds : List Did) (y : ℕ) : Type 0 where
  pub left : nat_abs (shown ds y -ℤ target ds y) ≡ nat_abs (rest ds) - (y - last_correct ds) / 200
  pub met : last_correct ds + 200 * nat_abs (rest ds) ≤ y → shown ds y ≡ target ds y

-- so it is of each node at each place
abbrev pub Meets : List Line → Type 0
Meets = Everywhere (λ l before. (n : ℕ) (y : ℕ) → MeetsBy (dids (of n (l ∷ before))) y)
