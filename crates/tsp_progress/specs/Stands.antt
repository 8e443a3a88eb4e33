-- A node that hears of no master stands for election.
use Rattle.std.specs.Prelude.{◌≡◌, ℕ, true, List, [], ◌∷◌}
use Rattle.tsp_rules.specs.Values.{Become, Ring, Elect, Port, Candidate, ELECT_MIN}
use Rattle.tsp_base.specs.Words.{Acts, Deed, Line, Seen, Here, Elsewhere, held, is_past, of, view}
use Rattle.tsp_progress.specs.AlarmsFit.{Manner}

-- after Elect rang the port stands for election, if its node may be master and it took no QUIT for ELECT_MIN ticks (300 s)
abbrev pub AfterElect : Manner → List Seen → Deed → Type 0
AfterElect m [] next = Unit {0}
AfterElect m (Elsewhere d ∷ older) next = Unit {0}
AfterElect m (Here d ∷ older) next =
    d.deed ≡ Acts (Ring Elect) → m.may ≡ true → is_past (held older).quit ELECT_MIN d.tick ≡ true → next ≡ Acts (Become Candidate)

-- each deed of this port is so
abbrev pub StandsOn : Manner → List Seen → Type 0
StandsOn m [] = Unit {0}
StandsOn m (Here d ∷ before) = AfterElect m before d.deed × StandsOn m before
StandsOn m (Elsewhere d ∷ before) = StandsOn m before

-- on each port of each node
abbrev pub Stands : (ℕ → Manner) → List Line → Type 0
Stands m world = (n : ℕ) (q : Port) → StandsOn (m n) (view q (of n world))
