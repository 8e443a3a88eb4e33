-- A master that looks for rivals finds each that answers.
use Rattle.std.specs.Prelude.{◌≡◌, ◌<◌, ℕ, ◌+◌, ◌*◌, Bool, true, List, ◌∷◌, Some}
use Rattle.tsp_rules.specs.Values.{Arm, Event, PeerId, Port, ResolveAlarm}
use Rattle.tsp_base.specs.Words.{Acts, HeaderValue, Line, Within, armed, is_rival, of, role, view}
use Rattle.tsp_promises.specs.{Fits.node_of, Setting.Setting}
use Rattle.tsp_run.specs.Clocked.{Clocks, PossibleBy, SetByClocks, run_by}
use Rattle.tsp_run.specs.{Possible.Possible, Run.run, Setting.SetBy}
use Rattle.tsp_progress.specs.{AnswersInTime.Meanwhile, Delivered.Delivered, FoundInTime.IsQuick, Heeds.is_master_role}
use Rattle.tsp_progress.specs.MastersTell.{LeadsOn, OtherMember}

-- at the line r, which is after the place s, its port begins to look for rivals: Resolve is armed for the tick `at`. It stays master. p is another
-- member of its network; both stay, and the true time t is later by twice `long`
pub record LooksAt (setting : Setting) (long t : ℕ) (stays : ℕ → Bool) (s : List Line) (at : ℕ) (r : Line) (older world : List Line) (p : PeerId) : Type 0
  where
    pub deed : r.did.deed ≡ Acts (Arm ResolveAlarm at)
    pub leads : LeadsOn (node_of r) r.port (r ∷ older) world
    pub since : Within s older
    pub other : OtherMember setting (node_of r) r.port p
    pub there : stays p.0 ≡ true
    pub here : stays (node_of r) ≡ true
    pub early : r.did.step.at + 2 * long < t

-- at a later place of the node's lines p is a rival, and Resolve is still armed for that tick
pub record RivalKnown (p : PeerId) (at n : ℕ) (q : Port) (early world : List Line) : Type 0 where
  pub lines : List Line
  pub place : Within lines (of n world)
  pub since : Within (of n early) lines
  pub rival : is_rival p (view q lines) ≡ true
  pub armed_is : (armed (view q lines)).resolve ≡ Some at

-- so it is known in time that p is a rival, if p is master meanwhile
abbrev pub RivalsFound : HeaderValue → Setting → ℕ → ℕ → (ℕ → Bool) → List Line → List Line → Type 0
RivalsFound header setting long t stays s world = (at : ℕ) (r : Line) (older : List Line) (p : PeerId) → LooksAt setting long t stays s at r older world p →
    Meanwhile header setting long r older world p (λ x past. is_master_role (role past.seen)) → RivalKnown p at (node_of r) r.port (r ∷ older) world

-- in a possible run in which datagrams are delivered in time
abbrev pub RunsFindRivals : Type 0
RunsFindRivals = (header : HeaderValue) (setting : Setting) (events : List Event) (long t : ℕ) (stays : ℕ → Bool) (s : List Line) → SetBy header setting →
    Possible header events → Delivered setting long t stays s (run header events) → IsQuick setting long →
    RivalsFound header setting long t stays s (run header events)

-- by any clocks
abbrev pub ClockedRunsFindRivals : Type 0
ClockedRunsFindRivals = (clocks : Clocks) (header : HeaderValue) (setting : Setting) (events : List Event) (long t : ℕ) (stays : ℕ → Bool) (s : List Line) →
    SetByClocks clocks header setting → PossibleBy clocks header events → Delivered setting long t stays s (run_by clocks header events) →
    IsQuick setting long → RivalsFound header setting long t stays s (run_by clocks header events)
