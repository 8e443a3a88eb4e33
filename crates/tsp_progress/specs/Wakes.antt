-- What is armed at a port, by its role.
use Rattle.std.specs.Prelude.{◌≡◌, ℕ, ◌+◌, ◌||◌, true, false, List, ◌∷◌, Some, is_some}
use Rattle.tsp_rules.specs.Values.{PeerId, Port, Starting, Loose, Follow, Candidate, Master, QUIET, WINDOW}
use Rattle.tsp_base.specs.Words.{Begins, Did, Line, Seen, Here, armed, held, of, role, stood, view}
use Rattle.tsp_promises.specs.{Everywhere.Everywhere, Fits.node_of}
use Rattle.tsp_progress.specs.{AlarmsFit.AlarmsFit, AlarmsFit.Manner, AlarmsFit.owes_next, CausesFit.CausesFit}

-- a port that stood for election has its Window armed for WINDOW ticks after that
pub record Windowed (seen : List Seen) : Type 0 where
  pub start : Did
  pub idle : List Seen
  pub stood_is : stood seen ≡ Here start ∷ idle
  pub window_is : (armed seen).window ≡ Some (start.tick + WINDOW)

-- a port has the alarm armed that ends its role, or lets it go on
pub record Wakes (m : Manner) (seen : List Seen) : Type 0 where
  -- each act on an alarm came in its time, and was followed at once as it asks
  pub acts : AlarmsFit m seen
  -- so was the newest
  pub settled : owes_next seen ≡ false
  -- what each of them, and each change of the role, needs before it was there
  pub causes : CausesFit seen
  -- Starting since the boot: Quiet, for QUIET ticks after the boot
  pub starting : role seen ≡ Starting → (start : Did) (idle : List Seen) → stood seen ≡ Here start ∷ idle → (armed seen).quiet ≡ Some ((held seen).boot + QUIET)
  -- a candidate: Window
  pub candidate : role seen ≡ Candidate → Windowed seen
  -- Loose: Search or Elect
  pub loose : role seen ≡ Loose → (is_some (armed seen).search || is_some (armed seen).elect) ≡ true
  -- a follower: Elect
  pub follow : (p : PeerId) → role seen ≡ Follow p → is_some (armed seen).elect ≡ true
  -- a master: Round
  pub master : role seen ≡ Master → is_some (armed seen).round ≡ true

-- where a step of a node begins, each of its ports has armed what its role asks for; m says of each node whether it may be
-- master, and whether its elections are strict
abbrev pub WokenAt : (ℕ → Manner) → Line → List Line → Type 0
WokenAt m l world = l.did.deed ≡ Begins → (q : Port) → Wakes (m (node_of l)) (view q (of (node_of l) world))

-- this is so wherever a step begins
abbrev pub Woken : (ℕ → Manner) → List Line → Type 0
Woken m = Everywhere (WokenAt m)

-- and of each port of each node after the whole history
abbrev pub AllWake : (ℕ → Manner) → List Line → Type 0
AllWake m world = (n : ℕ) (q : Port) → Wakes (m n) (view q (of n world))
