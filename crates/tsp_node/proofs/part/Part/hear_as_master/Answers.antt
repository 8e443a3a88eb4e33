-- A QUIT ends its leading, other masters are asked or marked, and all else is the master's own.
use Rattle.std.proofs.Common.{◌≡◌, refl, sym, ◌∙◌, arith}
use Rattle.tsp_rules.specs.Values.{Ack, Conflict, MasterAck, MasterUp, QuitKind}
use Rattle.tsp_rules.{specs.MasterRows.master_takes, proofs.Emits.Emits, proofs.Emits.Emits_more, proofs.Emits.Emits_posts}
use Rattle.tsp_rules.{specs.ResolveRows.finds_rival, specs.ResolveRows.resolves, proofs.EmitsBuilt.emits_built}
use Rattle.tsp_rules.proofs.BuiltRoles.{built_conflict, built_finds_rival, built_resolves, question_sorts}
use Rattle.tsp_base.{proofs.PerformsLemmas.Performs_then, specs.Words.posts, specs.Words.◌followed_by◌}
use Rattle.tsp_date.proofs.KeepLemmas.{DatesStand_by}
use Rattle.tsp_master.specs.MasterTakes.{master_takes_here}
use Rattle.tsp_resolve.proofs.ResolveLemmas.{Performs_resolving}
use Rattle.tsp_node.proofs.HearLemmas.{master_conflict, master_masterack, master_masterup, master_quit, master_takes_other, roles_other}
use Rattle.tsp_node.proofs.NodeLemmas.{Performs_led, Performs_resolved, Performs_took}
use Rattle.tsp_node.proofs.{TakeEmits.built_master_takes_here, PartLemmas.as_many, PartLemmas.still_alike}
use Rattle.tsp_node.proofs.part.Part.hear_as_master.Goals as goal

pub returns-in-Quit-clause-row : goal.returns-in-Quit-clause-row
returns-in-Quit-clause-row g c =
    let quit : c.args.m.now.kind ≡ QuitKind = sym c.kind.ensures ∙ c.in-Quit.is in
    rw (master_quit c.args.p c.args.m.now quit) c.take_quit.ensures.row

pub returns-in-MasterUp-clause-row : goal.returns-in-MasterUp-clause-row
returns-in-MasterUp-clause-row g c =
    let up : c.args.m.now.kind ≡ MasterUp = sym c.kind.ensures ∙ c.in-MasterUp.is in
    rw (master_masterup c.args.p c.args.m.now up) (Performs_took (Performs_resolved refl refl refl refl (emits_built refl built_resolves)
    (emits_built refl built_resolves) (DatesStand_by resolves (emits_built refl built_resolves)) c.start.ensures.row))

pub returns-in-Conflict-clause-row : goal.returns-in-Conflict-clause-row
returns-in-Conflict-clause-row g c =
    let p = c.args.p in
    let m = c.args.m.now in
    let conflict : m.kind ≡ Conflict = sym c.kind.ensures ∙ c.in-Conflict.is in
    let post = rw c.number.ensures at (c.post.ensures.row c.args.tick) in
    let emits : Emits question_sorts (posts p Ack m.number followed_by resolves) = emits_built refl (built_conflict p m.number tt tt) in
    rw (master_conflict p m conflict) (Performs_took (Performs_resolved refl refl refl refl (Emits_more question_sorts refl emits)
    (Emits_more question_sorts refl emits) (DatesStand_by (posts p Ack m.number followed_by resolves) (Emits_more question_sorts refl emits))
    (Performs_then (Performs_resolving c.args.self.now.resolve (Emits_posts p Ack m.number refl) post) c.start-in-Conflict.ensures.row)))

pub returns-in-MasterAck-clause-row : goal.returns-in-MasterAck-clause-row
returns-in-MasterAck-clause-row g c =
    let p = c.args.p in
    let ack : c.args.m.now.kind ≡ MasterAck = sym c.kind.ensures ∙ c.in-MasterAck.is in
    rw (master_masterack p c.args.m.now ack) (Performs_took (Performs_resolved refl refl refl refl (emits_built refl (built_finds_rival p tt))
    (emits_built refl (built_finds_rival p tt)) (DatesStand_by (finds_rival p) (emits_built refl (built_finds_rival p tt)))
    (c.rival.ensures.row c.requires.role c.args.tick)))

pub returns-in_default-clause-row : goal.returns-in_default-clause-row
unfolding master_takes master_takes_here
returns-in_default-clause-row g c =
    let p = c.args.p in
    let m = c.args.m.now in
    let other = c.in_default in
    let take = c.take.ensures.row c.requires.role in
    rw (master_takes_other p m m.kind (roles_other m.kind c.requires.audience) (λ e. other.not-Quit (c.kind.ensures ∙ e))
    (λ e. other.not-MasterUp (c.kind.ensures ∙ e)) (λ e. other.not-Conflict (c.kind.ensures ∙ e)) (λ e. other.not-MasterAck (c.kind.ensures ∙ e)))
    (Performs_led refl refl refl (emits_built refl (built_master_takes_here p m tt tt)) (emits_built refl (built_master_takes_here p m tt tt))
    (DatesStand_by (master_takes_here p m) (emits_built refl (built_master_takes_here p m tt tt))) take)

pub take_quit-requires : goal.take_quit-requires
take_quit-requires g c = record {
  room = omega (arith, c.requires.room);
  tick = c.requires.tick;
  peer = c.requires.peer;
  role = c.requires.role;
  audience = c.requires.audience;
}

pub returns-in-Quit-clause-room : goal.returns-in-Quit-clause-room
returns-in-Quit-clause-room g c = let room = c.take_quit.ensures.room in record { spare = omega (arith, room.spare); few = omega (arith, room.few) }

pub returns-in-MasterUp-clause-room : goal.returns-in-MasterUp-clause-room
returns-in-MasterUp-clause-room g c = let room = c.start.ensures.room in record { spare = omega (arith, room.spare); few = omega (arith, room.few) }

pub returns-in-MasterAck-clause-room : goal.returns-in-MasterAck-clause-room
returns-in-MasterAck-clause-room g c = let room = c.rival.ensures.room in record { spare = omega (arith, room.spare); few = omega (arith, room.few) }

pub returns-in_default-clause-room : goal.returns-in_default-clause-room
returns-in_default-clause-room g c = let room = c.take.ensures.room in record { spare = omega (arith, room.spare); few = omega (arith, room.few) }

pub returns-in-Conflict-clause-room : goal.returns-in-Conflict-clause-room
returns-in-Conflict-clause-room g c = let post = c.post.ensures.room in let room = c.start-in-Conflict.ensures.room in
    record { spare = omega (arith, post.spare, room.spare); few = omega (arith, post.count, room.few) }

pub invariant_of-self : goal.invariant_of-self
invariant_of-self g c = still_alike c.args.self.now refl (as_many c.start.ensures.same) refl c.start.ensures.port.peers

pub invariant_of-self-in-Conflict : goal.invariant_of-self-in-Conflict
invariant_of-self-in-Conflict g c = still_alike c.args.self.now refl (as_many c.start-in-Conflict.ensures.same) refl c.start-in-Conflict.ensures.port.peers

pub invariant_of-self-in-MasterAck : goal.invariant_of-self-in-MasterAck
invariant_of-self-in-MasterAck g c = still_alike c.args.self.now refl c.rival.ensures.many refl refl

pub invariant_of-self-in_default : goal.invariant_of-self-in_default
invariant_of-self-in_default g c = still_alike c.args.self.now c.take.ensures.peers refl refl c.take.ensures.port.peers
