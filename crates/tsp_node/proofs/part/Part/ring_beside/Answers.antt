-- Each alarm has its row.
use Rattle.std.proofs.Common.{◌≡◌, ◌∷◌, [], true, false, refl}
use Rattle.tsp_rules.specs.{Answers.alarm_rings, RoundRows.round_rings}
use Rattle.tsp_rules.{specs.ResolveRows.resolve_rings, specs.Values.Round, proofs.BuiltShared.standing_sorts, proofs.EmitsBuilt.emits_built}
use Rattle.tsp_rules.proofs.{Emits.Alarming, Emits.Emits, Emits.Emits_more, Emits.Keeps_by, BuiltRoles.built_resolve_rings}
use Rattle.tsp_date.proofs.KeepLemmas.{DatesStand_by}
use Rattle.tsp_master.{proofs.TableLemmas.MasterStands_quiet, proofs.TableLemmas.quiet_sorts, specs.MasterStands.MasterStands}
use Rattle.tsp_resolve.proofs.ResolveLemmas.{ResolveStands_by}
use Rattle.tsp_node.specs.{NodeStands.port_with, RoleAlarms.is_of_master}
use Rattle.tsp_node.proofs.NodeLemmas.{Performs_resolved, Performs_station, Performs_untaken, rivals_part, slaves_part}
use Rattle.tsp_node.proofs.{PartLemmas.as_many, PartLemmas.still_alike, TakeEmits.role_sorts}
use Rattle.tsp_node.proofs.part.Part.ring_beside.Goals as goal
use Rattle.tsp_node.proofs.AlarmCases.{beside_alarm, emits_wait, of_slave, slave_alarm, waits}

pub returns-in-Round-clause-row : goal.returns-in-Round-clause-row
unfolding alarm_rings
returns-in-Round-clause-row g c own clock =
    let x = c.args.tick in
    let late : is_of_master c.args.wait Round ≡ false = rw c.in-Round.is at c.requires.alarm in
    let wait : c.args.wait ≡ true = waits c.args.wait late in
    rw (c.in-Round.is, wait) (Performs_untaken (Emits_more (Alarming ∷ []) refl emits_wait)
    (Performs_station refl refl refl (Emits_more (Alarming ∷ []) refl emits_wait)
    (DatesStand_by (round_rings true) (Emits_more (Alarming ∷ []) refl emits_wait))
    (λ past h s. Keeps_by quiet_sorts MasterStands (round_rings true) MasterStands_quiet (Emits_more (Alarming ∷ []) refl emits_wait) x past
    c.args.self.now.master h.master)
    (λ past h s. ResolveStands_by (round_rings true) (Emits_more (Alarming ∷ []) refl emits_wait) x past c.args.self.now.resolve h.resolve)
    c.wait_round.ensures.row))

pub returns-in-Window-clause-row : goal.returns-in-Window-clause-row
unfolding alarm_rings
returns-in-Window-clause-row g c own clock = rw c.in-Window.is (c.ring_window.ensures.row clock)

pub returns-in-Resolve-clause-row : goal.returns-in-Resolve-clause-row
unfolding alarm_rings
returns-in-Resolve-clause-row g c own clock =
    rw c.in-Resolve.is (Performs_untaken (emits_built refl built_resolve_rings)
    (Performs_resolved refl refl refl refl (emits_built refl built_resolve_rings) (emits_built refl built_resolve_rings)
    (DatesStand_by resolve_rings (emits_built refl built_resolve_rings)) c.ring.ensures.row))

pub ring_slave-requires-clause-alarm : goal.ring_slave-requires-clause-alarm
ring_slave-requires-clause-alarm g c = of_slave c.args.wait c.args.alarm c.requires.alarm c.in_default.not-Round c.in_default.not-Window
    c.in_default.not-Resolve

-- what the station does, and what the slaves and the rivals become
pub returns-in_default-clause-row : goal.returns-in_default-clause-row
returns-in_default-clause-row g c own clock =
    let wait = c.args.wait in
    let alarm = c.args.alarm in
    let is = of_slave wait alarm c.requires.alarm c.in_default.not-Round c.in_default.not-Window c.in_default.not-Resolve in
    let row = rw (← c.part_from.ensures.station) at (c.ring_slave.ensures.row own wait) in
    let emits : Emits role_sorts (alarm_rings own wait alarm) = Emits_more standing_sorts refl (slave_alarm own wait alarm is) in
    Performs_untaken (Emits_more role_sorts refl emits)
    (Performs_station {after = port_with c.part_from.new.self clock} c.part_from.ensures.last refl c.part_from.ensures.dates (beside_alarm own wait alarm is)
    (DatesStand_by (alarm_rings own wait alarm) (Emits_more standing_sorts refl (slave_alarm own wait alarm is)))
    (λ past h s. slaves_part (alarm_rings own wait alarm) emits c.args.tick past (port_with c.args.self.now clock) (port_with c.part_from.new.self clock)
    (rw (c.leads-led.ensures, ← c.part_from.ensures.station) at c.part_from.ensures.slaves) h s)
    (λ past h s. rivals_part (alarm_rings own wait alarm) emits c.args.tick past (port_with c.args.self.now clock) (port_with c.part_from.new.self clock)
    (rw (c.leads-led.ensures, ← c.part_from.ensures.station) at c.part_from.ensures.rivals) h s)
    row)

pub invariant_of-self : goal.invariant_of-self
invariant_of-self g c = still_alike c.args.self.now refl refl refl c.wait_round.ensures.port.peers

pub invariant_of-self-in-Resolve : goal.invariant_of-self-in-Resolve
invariant_of-self-in-Resolve g c = still_alike c.args.self.now refl (as_many c.ring.ensures.same) refl c.ring.ensures.port.peers

pub invariant_of-self-in_default : goal.invariant_of-self-in_default
invariant_of-self-in_default g c = still_alike c.args.self.now refl refl refl c.ring_slave.ensures.port.peers
