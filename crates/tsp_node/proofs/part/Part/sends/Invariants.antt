-- What is left to perform are the rows of the peers after the last one whose send was repeated; each round leaves one peer less.
use Rattle.std.specs.Prelude.{◌≡◌, ◌+◌, ◌*◌, ◌≤◌, length, List}
use Rattle.tsp_base.specs.Words.{PutsAtMost, Performs, for_each}
use Rattle.tsp_rules.specs.{SendRows.due_send, Values.Placed}
use Rattle.tsp_acks.proofs.BeyondLemmas.{beyond}
use Rattle.tsp_clock.specs.Clocks.{ClockValue}
use Rattle.tsp_node.specs.{NodeStands.PortBegun, NodeStands.port_with, declared.part.Part.Part}
use Rattle.tsp_node.proofs.part.Part.sends.Given as goal

abbrev pub invariant-loop : goal.invariant-loop
invariant-loop g l = record {
  row : (clock : ClockValue) (last : Part) (new : List Placed) → Performs PortBegun PortBegun (for_each due_send (beyond l.after l.self.station.peers)) l.tick
      l.port (port_with l.self clock) (port_with last clock) (g.D.Desk.acts l.desk) new →
      Performs PortBegun PortBegun (for_each due_send l.initial.self.station.peers) l.tick l.port (port_with l.initial.self clock) (port_with last clock)
      (g.D.Desk.acts l.initial.desk) new;
  left : length (beyond l.after l.self.station.peers) + l.counter ≤ length l.self.station.peers;
  peers : l.self.station.peers ≡ l.initial.self.station.peers;
  room : PutsAtMost (2 * l.counter) (g.D.Desk.spare l.initial.desk) (g.D.Desk.spare l.desk) (g.D.Desk.acts l.initial.desk) (g.D.Desk.acts l.desk);
}
