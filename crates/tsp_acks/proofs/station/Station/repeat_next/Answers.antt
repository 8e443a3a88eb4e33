-- The next due send is to a peer, and what is put for it is what that peer's row says.
use Rattle.std.proofs.Common.{◌≡◌, ◌∷◌, [], ◌++◌, ◌∙◌, refl}
use Rattle.tsp_base.proofs.FrameLemmas.{PutsExactly_put}
use Rattle.tsp_acks.proofs.DueLemmas.{act_of, next_peer, Performs_due}
use Rattle.tsp_acks.proofs.station.Station.repeat_next.Goals.{in-Again, in-Gave}
use Rattle.tsp_acks.proofs.station.Station.repeat_next.Goals as goal

pub returns-clause-next : goal.returns-clause-next
returns-clause-next g c =
    let st = c.args.self.now in
    next_peer c.args.after c.args.tick st.sends c.due.new.self c.in_ok-due.due st.peers c.in_ok-due.ensures.sends st.slots

pub returns-clause-row : goal.returns-clause-row
returns-clause-row g c =
    let due = c.in_ok-due.due in
    let put : g.D.Desk.acts c.match-due.desk ≡ g.D.Desk.acts c.args.desk.now ++ record { port = c.args.port; act = act_of due } ∷ [] =
    elim c.match-due.branch [
      | in-Again w ↦ rw (w.desk-is, w.in-Again.is) (rw w.copy.ensures at w.put.ensures.acts)
      | in-Gave w ↦
          rw (w.desk-is, w.in-Gave.is) w.put-in-Gave.ensures.acts
    ] in
    Performs_due c.args.after c.args.tick c.args.port due c.args.self.now _ _ _ c.in_ok-due.ensures.sends (record {
      me = refl;
      role = refl;
      hold = refl;
      alarms = refl;
      backers = refl;
      peers = refl;
    }) refl put

pub invariant_of-self : goal.invariant_of-self
invariant_of-self g c =
    let st = c.args.self.now in
    record { slots = c.due.ensures.peers ∙ st.slots; count = st.count; master = st.master }

pub returns-clause-sends : goal.returns-clause-sends
returns-clause-sends g c = c.in_ok-due.ensures.sends

pub returns-clause-rest : goal.returns-clause-rest
returns-clause-rest g c = record { me = refl; role = refl; hold = refl; alarms = refl; backers = refl; peers = refl }

pub returns-clause-room : goal.returns-clause-room
returns-clause-room g c =
    elim c.match-due.branch [
      | in-Again w ↦ rw w.desk-is (PutsExactly_put _ w.put.ensures.spare w.put.ensures.acts)
      | in-Gave w ↦
          rw w.desk-is (PutsExactly_put _ w.put-in-Gave.ensures.spare w.put-in-Gave.ensures.acts)
    ]
