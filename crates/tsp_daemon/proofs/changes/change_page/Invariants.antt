-- None of the acts so far changes it.
use Rattle.std.proofs.Common.{◌≡◌, drop}
use Rattle.tsp_daemon.specs.Pages.{change_page}
use Rattle.tsp_daemon.proofs.changes.change_page.Given as goal

abbrev pub invariant-loop-placed : goal.invariant-loop-placed
invariant-loop-placed l = change_page l.acts ≡ change_page (drop l.placed-index l.acts)
