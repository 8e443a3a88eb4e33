-- A round performs the row of the next peer with a due send; where no peer is left, or none with a due send, all rows were performed.
use Rattle.std.proofs.Common.{◌≡◌, ◌∙◌, ap, arith, length, refl, sym, subst, zero, Some, None}
use Rattle.tsp_base.{proofs.PerformsLemmas.Performs_reading, specs.Words.Performs, specs.Words.for_each, specs.Words.IsAscending}
use Rattle.tsp_rules.specs.SendRows.{due_send, due_sends, peers_at}
use Rattle.tsp_sends.specs.Repeating.{peer_of}
use Rattle.tsp_acks.proofs.BeyondLemmas.{Splits, Splits_peer, Splits_fewer, beyond, beyond_none, for_each_beyond, for_each_idle, for_each_none}
use Rattle.tsp_acks.proofs.DueLemmas.{none_before}
use Rattle.tsp_node.specs.{NodeStands.PortBegun, NodeStands.port_with, declared.part.Part.Part}
use Rattle.tsp_node.proofs.DueSendLemmas.{Performs_waits}
use Rattle.tsp_node.proofs.part.Part.sends.Goals as goal

pub loop-init : goal.loop-init
loop-init g c =
    let all : beyond None c.args.self.now.station.peers ≡ c.args.self.now.station.peers = beyond_none c.args.self.now.station.peers in
    record {
      row = λ clock last new d. rw all at d;
      left = omega (arith, ap length all);
      peers = refl;
      room = record { spare = omega arith; few = omega arith };
    }

pub loop-preserved : goal.loop-preserved
loop-preserved g c =
    let st = c.loop.self.station in
    let next = c.in-Some.ensures.next in
    let p = peer_of c.in-Some.due in
    let up : IsAscending st.peers = rw c.loop.invariant.peers c.peers-end.ensures.valid.ascending in
    let s : Splits c.loop.after p st.peers = Splits_peer c.loop.after p st.peers up next.1 next.0 in
    let same = c.repeat_next.ensures.peers in
    let after : Part = c.repeat_next.new.self in
    record {
      row = λ clock last new d. c.loop.invariant.row clock last new (for_each_beyond PortBegun PortBegun PortBegun due_send c.args.tick c.args.port
          (port_with c.loop.self clock) (port_with after clock) (port_with last clock) (g.D.Desk.acts c.loop.desk) (g.D.Desk.acts c.repeat_next.new.desk) new
          c.loop.after p st.peers s
          (λ q later below. Performs_waits q (none_before c.loop.after c.args.tick st.sends after.station.sends c.in-Some.due c.in-Some.ensures.sends q later
          below))
          (c.in-Some.ensures.row clock)
          (subst (λ qs. Performs PortBegun PortBegun (for_each due_send (beyond (Some p) qs)) c.args.tick c.args.port (port_with after clock)
          (port_with last clock) (g.D.Desk.acts c.repeat_next.new.desk) new) same (rw c.peer.ensures at d)));
      left = rw (c.peer.ensures, same) (omega (arith, Splits_fewer c.loop.after p st.peers s, c.loop.invariant.left));
      peers = same ∙ c.loop.invariant.peers;
      room = record {
        spare = omega (arith, c.loop.invariant.room.spare, c.repeat_next.ensures.room.spare);
        few = omega (arith, c.loop.invariant.room.few, c.repeat_next.ensures.room.few);
      };
    }

pub returns-in_default-clause-row : goal.returns-in_default-clause-row
unfolding due_sends
returns-in_default-clause-row g c clock =
    let st = c.loop.self.station in
    Performs_reading peers_at (for_each due_send) c.args.self.now.station.peers (λ past h. sym h.stands.station.peers)
    (rw (c.in_default.ensures.same.0, c.in_default.ensures.same.1) (c.loop.invariant.row clock c.loop.self (g.D.Desk.acts c.loop.desk)
    (for_each_idle PortBegun due_send c.args.tick c.args.port (port_with c.loop.self clock) (g.D.Desk.acts c.loop.desk) c.loop.after st.peers
    (λ q later. Performs_waits q (c.in_default.ensures.sends.0 q later)))))

pub returns-clause-row : goal.returns-clause-row
unfolding due_sends
returns-clause-row g c clock =
    let st = c.loop.self.station in
    let none : length (beyond c.loop.after st.peers) ≡ zero = omega (
      arith,
      c.loop.invariant.left,
      ap length c.loop.invariant.peers,
      ap length c.peers-end.ensures.value,
    ) in
    Performs_reading peers_at (for_each due_send) c.args.self.now.station.peers (λ past h. sym h.stands.station.peers)
    (c.loop.invariant.row clock c.loop.self (g.D.Desk.acts c.loop.desk) (for_each_none PortBegun due_send c.args.tick c.args.port (port_with c.loop.self clock)
    (g.D.Desk.acts c.loop.desk) (beyond c.loop.after st.peers) none))
