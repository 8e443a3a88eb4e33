-- The measured peers so far were asked.
use Rattle.std.proofs.Common.{◌≡◌, ℕ, ◌+◌, ◌*◌, ◌<◌, ◌≤◌, length, take, get_or}
use Rattle.tsp_base.specs.Words.{PutsAtMost, Performs, for_each}
use Rattle.tsp_rules.specs.{RoundRows.asks, Values.PeerId}
use Rattle.tsp_measure.specs.{Measures.begun, Rounds.IsCounted, Rounds.measured_with, Slaves.peers_of}
use Rattle.tsp_master.specs.{Closing.measured_of, MasterStands.ProbesStands}
use Rattle.tsp_master.proofs.master.Master.ask_measured.Given as goal

abbrev pub invariant-loop-place : goal.invariant-loop-place
invariant-loop-place g l = record {
  row : Performs (ProbesStands l.at.tick) (ProbesStands l.at.tick) (for_each asks
      (measured_of l.initial.self.slaves (take l.place (peers_of l.initial.self.slaves)))) l.at.tick l.at.port (record {
        master = l.initial.self;
        station = l.station;
        clock = l.clock;
      }) (record { master = l.self; station = l.station; clock = l.clock })
      (g.D.Desk.acts l.initial.desk) (g.D.Desk.acts l.desk);
  slaves : l.self.slaves ≡ l.initial.self.slaves;
  probes : l.self.rounds.probes ≡ l.initial.self.rounds.probes;
  few : (k : ℕ) (d : PeerId) → l.place ≤ k → k < length (peers_of l.initial.self.slaves) →
      begun (measured_with l.self.rounds (get_or (peers_of l.initial.self.slaves) k d)) ≤ l.initial.self.rounds.probes;
  counted : IsCounted l.self.rounds (1000 * l.initial.self.rounds.probes + l.place);
  room : PutsAtMost l.place (g.D.Desk.spare l.initial.desk) (g.D.Desk.spare l.desk) (g.D.Desk.acts l.initial.desk) (g.D.Desk.acts l.desk);
}
