-- Which pasts a daemon's half tells of.
use Rattle.std.specs.Prelude.{◌≡◌, Bool, true, false, List}
use Rattle.tsp_base.specs.declared.act.Act.TheVariants.{Boot, Correct}
use Rattle.tsp_base.specs.Words.{Deed, Acts, Did, target, rest, last_correct}
use Rattle.tsp_page.specs.declared.daemon_half.DaemonHalf.{DaemonHalf}

-- the half has the clock that a node's deeds give: the tick of its last correction, and target and rest right after it
pub record TellsOf (ds : List Did) (h : DaemonHalf) : Type 0 where
  pub tick_is : h.tick ≡ last_correct ds
  pub target_is : h.target ≡ target ds (last_correct ds)
  pub rest_is : h.rest ≡ rest ds

-- whether a deed changes the clock: a boot and a correction do
abbrev pub changes_clock : Deed → Bool
changes_clock (Acts Boot) = true
changes_clock (Acts (Correct amount stepped shown)) = true
changes_clock _ = false
