-- The estimates of the measured peers so far are listed.
use Rattle.std.proofs.Common.{◌≡◌, ◌+◌, ◌≤◌, length, take}
use Rattle.tsp_rules.specs.RoundRows.{estimates}
use Rattle.tsp_measure.specs.Slaves.{peers_of}
use Rattle.tsp_master.specs.Closing.{standings_of}
use Rattle.tsp_master.proofs.master.Master.gather.Given as goal

abbrev pub invariant-loop-place : goal.invariant-loop-place
invariant-loop-place l = record {
  items : l.self.values.items ≡ estimates (standings_of l.fn.self.slaves l.fn.self.rounds (take l.place (peers_of l.fn.self.slaves)));
  few : length l.self.values.items ≤ l.place + 1;
  room : l.self.values.room ≡ l.fn.self.values.room;
  slaves : l.self.slaves ≡ l.fn.self.slaves;
  rounds : l.self.rounds ≡ l.fn.self.rounds;
}
