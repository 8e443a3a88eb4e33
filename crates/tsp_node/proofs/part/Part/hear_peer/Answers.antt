-- Who is heard is handled by the role.
use Rattle.std.proofs.Common.{◌≡◌, ◌∙◌, true, false, refl, sym, ap, arith}
use Rattle.tsp_base.specs.Words.{taken, nothing}
use Rattle.tsp_rules.specs.{Answers.from_peer, Answers.is_left, Answers.peer_says, Answers.says_in, CandidateRows.candidate_takes}
use Rattle.tsp_rules.{specs.Guards.is_follow, proofs.EmitsBuilt.emits_built}
use Rattle.tsp_rules.{specs.SlaveRows.slave_takes, specs.Values.Candidate, specs.Values.Master, proofs.Emits.Emits, proofs.Emits.Emits_more}
use Rattle.tsp_rules.proofs.BuiltRoles.{built_slave_takes, open_sorts, slave_part_open, built_master_takes, all_candidate_sorts, built_candidate_takes}
use Rattle.tsp_date.proofs.KeepLemmas.{DatesAside_by}
use Rattle.tsp_master.proofs.TurnLemmas.{MasterStands_idle}
use Rattle.tsp_resolve.proofs.ResolveLemmas.{ResolveStands_idle, rivalless}
use Rattle.tsp_node.proofs.HearLemmas.{candidate_keeps, heard_awake, heard_peer, is_from, is_hearing, leaves_by, leaves_none, Performs_by_role}
use Rattle.tsp_node.proofs.HearLemmas.{Performs_either_way, Performs_heard_at, Performs_kept, Performs_left, Performs_role, Performs_unheard, roles_date}
use Rattle.tsp_node.proofs.HearLemmas.{roles_other, says_slave}
use Rattle.tsp_node.{proofs.StillTakes.took_of, proofs.StillTakes.took_slave, specs.NodeStands.PortValue, specs.NodeStands.port_with}
use Rattle.tsp_node.proofs.NodeLemmas.{Performs_heard, Performs_pass, no_lead}
use Rattle.tsp_node.proofs.part.Part.hear_peer.Goals as goal
use Rattle.tsp_node.proofs.PartLemmas.{still_alike}
use Rattle.tsp_slave.proofs.TellLemmas.{tells_nothing, tells_still}

pub returns-in_default-clause-row : goal.returns-in_default-clause-row
returns-in_default-clause-row g c =
    let from = c.args.from in
    let m = c.args.m.now in
    Performs_either_way (is_left c.args.terms.steer m.kind) nothing (from_peer from (peer_says m)) Performs_pass
    (Performs_unheard from (peer_says m) (sym c.in_default.ensures))

pub returns-in-Candidate-clause-row : goal.returns-in-Candidate-clause-row
unfolding peer_says says_in
returns-in-Candidate-clause-row g c =
    let x = c.args.terms.at.tick in
    let from = c.args.from in
    let m = c.args.m.now in
    let st = c.args.self.now.station in
    let p = c.in-Some.p in
    let here = port_with c.args.self.now c.args.clock.now in
    let heard = sym c.in-Some.ensures in
    let emits : Emits all_candidate_sorts (candidate_takes p m) = emits_built refl (built_candidate_takes p m tt tt) in
    let after : PortValue = record here { station = c.candidate_take.new.station; last = c.candidate_take.new.last } in
    rw (is_from st from p heard) (Performs_kept {after = after} c.args.terms.steer m.kind
    (leaves_none c.args.terms.steer m.kind st.role (ap is_follow c.in-Candidate.is)) (Performs_heard_at {after = after} p (peer_says m)
    (is_hearing st from p heard)
    (Performs_by_role {after = after} (says_in p m) (Performs_role {after = after} p m st.role Candidate c.in-Candidate.is
    (Performs_heard {after = after} refl (DatesAside_by (candidate_takes p m) (Emits_more all_candidate_sorts refl emits))
    (roles_date m.kind c.requires.audience)
    (λ past h s. candidate_keeps p m (roles_other m.kind c.requires.audience) x past c.args.self.now.master (no_lead here Candidate (λ e. let bad : ⊥ = cc in
    bad) c.in-Candidate.is h) h.master)
    (λ past h s. ResolveStands_idle x past (candidate_takes p m x past) c.args.self.now.resolve
    ((Emits_more all_candidate_sorts {all = rivalless} refl emits).only x past) (no_lead here Candidate (λ e. let bad : ⊥ = cc in bad) c.in-Candidate.is h)
    h.resolve)
    c.candidate_take.ensures.row)))))

pub returns-in-Master-clause-row : goal.returns-in-Master-clause-row
unfolding peer_says says_in
returns-in-Master-clause-row g c =
    let from = c.args.from in
    let m = c.args.m.now in
    let st = c.args.self.now.station in
    let p = c.in-Some.p in
    let heard = sym c.in-Some.ensures in
    let after : PortValue = port_with c.hear_as_master.new.self c.args.clock.now in
    rw (is_from st from p heard) (Performs_kept {after = after} c.args.terms.steer m.kind
    (leaves_none c.args.terms.steer m.kind st.role (ap is_follow c.in-Master.is)) (Performs_heard_at {after = after} p (peer_says m)
    (is_hearing st from p heard)
    (Performs_by_role {after = after} (says_in p m) (Performs_role {after = after} p m st.role Master c.in-Master.is c.hear_as_master.ensures.row))))

pub returns-else-leaves-clause-row : goal.returns-else-leaves-clause-row
unfolding peer_says
returns-else-leaves-clause-row g c =
    let x = c.args.terms.at.tick in
    let from = c.args.from in
    let m = c.args.m.now in
    let st = c.args.self.now.station in
    let p = c.in-Some.p in
    let heard = sym c.in-Some.ensures in
    let other = c.in_default-role in
    let emits : Emits open_sorts (slave_takes p m) = emits_built (slave_part_open m.kind (roles_other m.kind c.requires.audience)) (built_slave_takes p m tt tt)
    in
    let after : PortValue = record (port_with c.args.self.now c.slave_hear.new.clock) { station = c.slave_hear.new.station; last = c.slave_hear.new.last } in
    let left : leaves_by c.args.terms.steer m.kind st.role ≡ false = ap (λ k. leaves_by c.args.terms.steer k st.role) (sym c.kind.ensures) ∙
    (sym c.leaves.ensures ∙ c.if-leaves.false) in
    rw (is_from st from p heard) (Performs_kept {after = after} c.args.terms.steer m.kind left (Performs_heard_at {after = after} p (peer_says m)
    (is_hearing st from p heard)
    (Performs_by_role {after = after} (says_in p m) (rw (says_slave p m st.role (heard_awake st from p heard) other.not-Candidate other.not-Master)
    (Performs_heard {after = after} refl (DatesAside_by (slave_takes p m) (Emits_more open_sorts refl emits)) (roles_date m.kind c.requires.audience)
    (λ past h s. MasterStands_idle (slave_takes p m) (Emits_more open_sorts refl emits) x past c.args.self.now.master (λ e. other.not-Master (h.station.role ∙
    e)) h.master)
    (λ past h s. ResolveStands_idle x past (slave_takes p m x past) c.args.self.now.resolve ((Emits_more open_sorts {all = rivalless} refl emits).only x past)
    (λ e. other.not-Master (h.station.role ∙ e)) h.resolve)
    c.slave_hear.ensures.row)))))

pub returns-then-leaves-clause-row : goal.returns-then-leaves-clause-row
returns-then-leaves-clause-row g c =
    let m = c.args.m.now in
    let left : leaves_by c.args.terms.steer m.kind c.args.self.now.station.role ≡ true =
    ap (λ k. leaves_by c.args.terms.steer k c.args.self.now.station.role) (sym c.kind.ensures) ∙ (sym c.leaves.ensures ∙ c.if-leaves.true) in
    Performs_left c.args.terms.steer m.kind (from_peer c.args.from (peer_says m)) left

pub returns-in_default-clause-corrects : goal.returns-in_default-clause-corrects
returns-in_default-clause-corrects g c past h = tells_nothing c.args.terms.at.port _

pub returns-in-Candidate-clause-corrects : goal.returns-in-Candidate-clause-corrects
returns-in-Candidate-clause-corrects g c past h =
    let p = c.in-Some.p in
    let m = c.args.m.now in
    let from = is_from c.args.self.now.station c.args.from p (sym c.in-Some.ensures) in
    tells_still (emits_built refl (built_candidate_takes p m tt tt)) (c.candidate_take.ensures.row (taken past.seen) (took_of c.args.from p m past _ from h))
    past (took_slave _ past _ h)

pub returns-in-Master-clause-corrects : goal.returns-in-Master-clause-corrects
returns-in-Master-clause-corrects g c past h =
    let p = c.in-Some.p in
    let m = c.args.m.now in
    let from = is_from c.args.self.now.station c.args.from p (sym c.in-Some.ensures) in
    tells_still (emits_built refl (built_master_takes p m tt tt)) c.hear_as_master.ensures.row past (record {
      stands = h.stands;
      took = took_of c.args.from p m past _ from h;
    })

pub returns-then-leaves-clause-corrects : goal.returns-then-leaves-clause-corrects
returns-then-leaves-clause-corrects g c past h = tells_nothing c.args.terms.at.port _

pub returns-else-leaves-clause-corrects : goal.returns-else-leaves-clause-corrects
returns-else-leaves-clause-corrects g c past h =
    let p = c.in-Some.p in
    let m = c.args.m.now in
    let from = is_from c.args.self.now.station c.args.from p (sym c.in-Some.ensures) in
    c.slave_hear.ensures.corrects past (taken past.seen) (took_of c.args.from p m past _ from h) (took_slave _ past _ h)

pub candidate_take-requires : goal.candidate_take-requires
candidate_take-requires g c = record {
  tick = c.requires.tick;
  room = omega (arith, c.requires.room);
  peer = heard_peer c.args.self.now.station c.args.from c.in-Some.p (sym c.in-Some.ensures);
}

pub slave_hear-requires : goal.slave_hear-requires
slave_hear-requires g c = record {
  tick = c.requires.tick;
  later = c.requires.later;
  room = omega (arith, c.requires.room);
  peer = heard_peer c.args.self.now.station c.args.from c.in-Some.p (sym c.in-Some.ensures);
}

pub hear_as_master-requires : goal.hear_as_master-requires
hear_as_master-requires g c = record {
  room = c.requires.room;
  tick = c.requires.tick;
  later = c.requires.later;
  peer = heard_peer c.args.self.now.station c.args.from c.in-Some.p (sym c.in-Some.ensures);
  role = c.in-Master.is;
  audience = c.requires.audience;
}

pub returns-in_default-clause-room : goal.returns-in_default-clause-room
returns-in_default-clause-room g c = record { spare = omega arith; few = omega arith }

pub returns-then-leaves-clause-room : goal.returns-then-leaves-clause-room
returns-then-leaves-clause-room g c = record { spare = omega arith; few = omega arith }

pub returns-in-Candidate-clause-room : goal.returns-in-Candidate-clause-room
returns-in-Candidate-clause-room g c = let room = c.candidate_take.ensures.room in record { spare = omega (arith, room.spare); few = omega (arith, room.few) }

pub returns-else-leaves-clause-room : goal.returns-else-leaves-clause-room
returns-else-leaves-clause-room g c = let room = c.slave_hear.ensures.room in record { spare = omega (arith, room.spare); few = omega (arith, room.few) }

pub returns-in-Master-clause-room : goal.returns-in-Master-clause-room
returns-in-Master-clause-room g c = c.hear_as_master.ensures.room

pub invariant_of-self : goal.invariant_of-self
invariant_of-self g c = still_alike c.args.self.now refl refl refl c.candidate_take.ensures.port.peers

pub invariant_of-self-in_default-role : goal.invariant_of-self-in_default-role
invariant_of-self-in_default-role g c = still_alike c.args.self.now refl refl refl c.slave_hear.ensures.port.peers
