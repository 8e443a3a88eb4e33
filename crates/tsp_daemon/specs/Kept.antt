-- What the history of a daemon's own node keeps, whoever sends to it.
use Rattle.std.specs.Prelude.{◌≡◌, ◌<◌, ℕ, ℤ, pos, ◌+ℤ◌, List, length, slice_index_or}
use Rattle.tsp_args.specs.declared.serve.ServeWords.{ServeWords}
use Rattle.tsp_base.specs.Words.{Line}
use Rattle.tsp_promises.specs.{Dated.SetsAt, Everywhere.Everywhere, Fits.Fits, Fits.Finished, Looked.Looked, Looped.HopsAt, Safe.Safe, Setting.Setting}
use Rattle.tsp_rules.specs.{NodeRows.no_port, Values.Port}
use Rattle.tsp_daemon.specs.Nodes.{is_strict, setups_from}

-- a setting of a daemon that booted at this tick with this wall clock: true time is counted in its own ticks, it is
-- node 0, and each of its ports is on a network of its own, with the peers that its arguments name
pub record SetByWords (s : ServeWords) (tick : ℕ) (wall : ℤ) (setting : Setting) : Type 0 where
  pub drift_is : setting.drift ≡ 0
  pub tick_is : (t : ℕ) → setting.tick 0 t ≡ t
  pub wall_is : setting.wall 0 1 +ℤ pos tick ≡ wall
  pub name_is : setting.name 0 ≡ s.name
  pub strict_is : setting.strict ≡ is_strict s.candidacy
  pub members_are : (q : Port) → q.0 < length s.ports → setting.members (setting.net 0 q) ≡ (slice_index_or (setups_from 0 s.ports) q.0 no_port).peers

-- a history fits, and ends where a step ends, so it keeps the promises: those without premises hold whoever sends to
-- the node
pub record HistoryKept (setting : Setting) (lines : List Line) : Type 0 where
  pub fits : Fits setting lines
  pub finished : Finished setting lines
  pub safe : Safe setting lines
  pub dates : Everywhere (SetsAt setting) lines
  pub hops : Everywhere HopsAt lines
  pub looked : Looked setting lines
