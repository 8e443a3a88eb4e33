-- How a call leaves counts of faults.
use Rattle.std.specs.Prelude.{◌≡◌, ◌⊎◌, ◌≤◌}
use Rattle.tsp_io.specs.{Counts.Rose, declared.link.Link.Ghosts as LinkOf}
pub use Rattle.tsp_lines.specs.Faults.{Counts}

-- what `Counts` says of one count, of a link's two, that of failed binds and receives and that of failed sends: this
-- fault comes only if one of them rose
pub record LinkCounts {L : Type 0} (links : LinkOf L) (before now : L) (fault : Type 0) : Type 0 where
  pub later : (links.faults before ≤ links.faults now) × (links.send_faults before ≤ links.send_faults now)
  pub cause : fault → Rose (links.faults before) (links.faults now) ⊎ Rose (links.send_faults before) (links.send_faults now)
  pub still : ¬ fault → (links.faults now ≡ links.faults before) × (links.send_faults now ≡ links.send_faults before)
