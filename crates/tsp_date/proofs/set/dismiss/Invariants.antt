-- The slaves among the peers so far have left.
use Rattle.std.proofs.Common.{◌≡◌, ℕ, ◌<◌, ◌≤◌, length, take, get_or}
use Rattle.tsp_base.specs.Words.{PutsAtMost, Performs, for_each}
use Rattle.tsp_rules.specs.{DateRows.leaves, Values.PeerId}
use Rattle.tsp_measure.specs.Slaves.{entry_of, peers_of}
use Rattle.tsp_master.{proofs.AskLemmas.joined_of, specs.MasterStands.MasterStands}
use Rattle.tsp_date.proofs.set.dismiss.Given as goal

abbrev pub invariant-loop-p : goal.invariant-loop-p
invariant-loop-p g l = record {
  row : (x : ℕ) → Performs MasterStands MasterStands (for_each leaves (joined_of l.initial.master.slaves (take l.p-index l.station.peers))) x l.port
      l.initial.master l.master (g.D.Desk.acts l.initial.desk) (g.D.Desk.acts l.desk);
  peers : peers_of l.master.slaves ≡ peers_of l.initial.master.slaves;
  later : (k : ℕ) (d : PeerId) → l.p-index ≤ k → k < length l.station.peers → entry_of l.master.slaves (get_or l.station.peers k d) ≡
      entry_of l.initial.master.slaves (get_or l.station.peers k d);
  room : PutsAtMost l.p-index (g.D.Desk.spare l.initial.desk) (g.D.Desk.spare l.desk) (g.D.Desk.acts l.initial.desk) (g.D.Desk.acts l.desk);
}
