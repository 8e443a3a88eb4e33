-- The measured peers so far were corrected.
use Rattle.std.proofs.Common.{◌≡◌, ℕ, ◌≤◌, ◌<◌, length, take, get_or}
use Rattle.tsp_base.specs.Words.{PutsAtMost, Performs, for_each}
use Rattle.tsp_rules.specs.{RoundRows.corrects_peer, Values.PeerId}
use Rattle.tsp_acks.specs.Changes.{IsSamePort}
use Rattle.tsp_measure.specs.Slaves.{entry_of, peers_of}
use Rattle.tsp_master.specs.{Closing.standings_of, MasterStands.LeadStands}
use Rattle.tsp_master.proofs.master.Master.correct_each.Given as goal

abbrev pub invariant-loop-place : goal.invariant-loop-place
invariant-loop-place g l = record {
  row : Performs LeadStands LeadStands (for_each (corrects_peer l.mean) (standings_of l.initial.self.slaves l.initial.self.rounds
      (take l.place (peers_of l.initial.self.slaves)))) l.at.tick l.at.port
      (record { master = l.initial.self; station = l.initial.station; clock = l.clock }) (record { master = l.self; station = l.station; clock = l.clock })
      (g.D.Desk.acts l.initial.desk) (g.D.Desk.acts l.desk);
  peers : peers_of l.self.slaves ≡ peers_of l.initial.self.slaves;
  rounds : l.self.rounds ≡ l.initial.self.rounds;
  later : (k : ℕ) (d : PeerId) → l.place ≤ k → k < length (peers_of l.initial.self.slaves) →
      entry_of l.self.slaves (get_or (peers_of l.initial.self.slaves) k d) ≡ entry_of l.initial.self.slaves (get_or (peers_of l.initial.self.slaves) k d);
  port : IsSamePort l.initial.station l.station;
  room : PutsAtMost l.place (g.D.Desk.spare l.initial.desk) (g.D.Desk.spare l.desk) (g.D.Desk.acts l.initial.desk) (g.D.Desk.acts l.desk);
}
