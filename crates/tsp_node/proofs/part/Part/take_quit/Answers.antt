-- The port follows who quits it, and its slaves and rivals are forgotten.
use Rattle.std.proofs.Common.{◌≡◌, ◌&&◌, not, true, refl}
use Rattle.tsp_rules.specs.{CommonRows.quits, Guards.is_master}
use Rattle.tsp_date.proofs.KeepLemmas.{DatesAside_by}
use Rattle.tsp_master.specs.Clearing.{Clears}
use Rattle.tsp_node.proofs.{HearLemmas.roles_date, NodeLemmas.Performs_heard, NodeLemmas.rivals_part, NodeLemmas.slaves_part}
use Rattle.tsp_node.{proofs.PartLemmas.still_alike, specs.NodeStands.port_with, specs.Unmarking.Unmarks}
use Rattle.tsp_rules.proofs.{BuiltShared.built_quits, BuiltShared.quit_sorts, Emits.Emits, Emits.Emits_more, EmitsBuilt.emits_built}
use Rattle.tsp_node.proofs.part.Part.take_quit.Goals as goal

pub returns-clause-row : goal.returns-clause-row
returns-clause-row g c =
    let x = c.args.at.tick in
    let p = c.args.p in
    let m = c.args.m.now in
    let new = c.part_from.new.self in
    let emits : Emits quit_sorts (quits p m.number) = emits_built refl (built_quits p m.number tt tt) in
    let led : is_master c.args.self.now.station.role ≡ true = rw c.requires.role refl in
    let clears : Clears (is_master c.args.self.now.station.role && not (is_master new.station.role)) c.args.self.now.master new.master =
    rw (led, c.part_from.ensures.station) c.part_from.ensures.slaves in
    let unmarks : Unmarks (is_master c.args.self.now.station.role && not (is_master new.station.role)) c.args.self.now.resolve new.resolve =
    rw (led, c.part_from.ensures.station) c.part_from.ensures.rivals in
    let row = rw (← c.part_from.ensures.station, ← c.part_from.ensures.last) at c.take_quit.ensures.row in
    Performs_heard c.part_from.ensures.dates (DatesAside_by (quits p m.number) (Emits_more quit_sorts refl emits)) (roles_date m.kind c.requires.audience)
    (λ past h s. slaves_part (quits p m.number) (Emits_more quit_sorts refl emits) x past (port_with c.args.self.now c.args.clock.now)
    (port_with new c.args.clock.now) clears h s)
    (λ past h s. rivals_part (quits p m.number) (Emits_more quit_sorts refl emits) x past (port_with c.args.self.now c.args.clock.now)
    (port_with new c.args.clock.now) unmarks h s)
    (λ took is. row took (rw is refl))

pub invariant_of-self : goal.invariant_of-self
invariant_of-self g c = still_alike c.args.self.now refl refl refl c.take_quit.ensures.port.peers
