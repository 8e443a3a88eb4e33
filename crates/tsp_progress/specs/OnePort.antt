-- A node with one port does everything there.
use Rattle.std.specs.Prelude.{◌≡◌, false, List, ◌∷◌, length}
use Rattle.tsp_rules.specs.Values.{Event}
use Rattle.tsp_base.specs.Words.{HeaderValue, Line, Within, first_port, is_shared}
use Rattle.tsp_promises.specs.{Fits.node_of, Setting.Setting}
use Rattle.tsp_run.specs.Clocked.{Clocks, PossibleBy, SetByClocks, run_by}
use Rattle.tsp_run.specs.{Possible.Possible, Run.run, Setting.SetBy}
use Rattle.tsp_progress.specs.ByTable.{node_in}

-- each act of a node that has one port is on its first port; a boot is on all ports
abbrev pub UsesOnePort : HeaderValue → List Line → Type 0
UsesOnePort header world = (l : Line) (older : List Line) → Within (l ∷ older) world → length (node_in header (node_of l)).ports ≡ 1 →
    is_shared l.did.deed ≡ false → l.port ≡ first_port

-- in every possible run
abbrev pub RunsUseOnePort : Type 0
RunsUseOnePort = (header : HeaderValue) (setting : Setting) (events : List Event) → SetBy header setting → Possible header events →
    UsesOnePort header (run header events)

-- by any clocks
abbrev pub ClockedRunsUseOnePort : Type 0
ClockedRunsUseOnePort = (clocks : Clocks) (header : HeaderValue) (setting : Setting) (events : List Event) → SetByClocks clocks header setting →
    PossibleBy clocks header events → UsesOnePort header (run_by clocks header events)
