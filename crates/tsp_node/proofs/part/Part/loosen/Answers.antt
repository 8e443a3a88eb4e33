-- The port follows nobody any more where it led, and its slaves and rivals are forgotten.
use Rattle.std.proofs.Common.{◌≡◌, ◌&&◌, not, true, ap, refl, sym, ◌∙◌}
use Rattle.tsp_base.specs.Words.{nothing}
use Rattle.tsp_base.proofs.PerformsLemmas.{Performs_else_part, Performs_then, Performs_then_part}
use Rattle.tsp_rules.{specs.CandidateRows.yields, proofs.EmitsBuilt.emits_built}
use Rattle.tsp_rules.{specs.GateRows.loosens_master, specs.Guards.is_master, specs.Guards.is_master_at, proofs.BuiltRoles.built_yields}
use Rattle.tsp_date.proofs.KeepLemmas.{DatesStand_by}
use Rattle.tsp_master.specs.Clearing.{Clears}
use Rattle.tsp_acks.specs.declared.station.Station.{Station}
use Rattle.tsp_node.proofs.NodeLemmas.{Performs_station, rivals_part, same_part, slaves_part}
use Rattle.tsp_node.{proofs.PartLemmas.still_alike, specs.NodeStands.port_with, specs.Unmarking.Unmarks}
use Rattle.tsp_node.proofs.part.Part.loosen.Goals as goal

pub returns-then-leads-clause-row : goal.returns-then-leads-clause-row
unfolding loosens_master yields
returns-then-leads-clause-row g c clock =
    let old = c.args.self.now in
    let new = c.part_from.new.self in
    let led : is_master old.station.role ≡ true = sym c.leads.ensures ∙ c.if-leads.true in
    let clears : Clears (is_master old.station.role && not (is_master new.station.role)) old.master new.master =
    rw (led, c.part_from.ensures.station) c.part_from.ensures.slaves in
    let unmarks : Unmarks (is_master old.station.role && not (is_master new.station.role)) old.resolve new.resolve =
    rw (led, c.part_from.ensures.station) c.part_from.ensures.rivals in
    Performs_then_part is_master_at nothing (λ past h. ap is_master (sym h.station.role) ∙ led)
    (Performs_station {after = port_with new clock} c.part_from.ensures.last refl c.part_from.ensures.dates (emits_built refl built_yields)
    (DatesStand_by yields (emits_built refl built_yields))
    (λ past h s. slaves_part yields (emits_built refl built_yields) c.args.tick past (port_with old clock) (port_with new clock) clears h s)
    (λ past h s. rivals_part yields (emits_built refl built_yields) c.args.tick past (port_with old clock) (port_with new clock) unmarks h s)
    (rw (← c.part_from.ensures.station) at (Performs_then (c.become_role.ensures.row c.args.tick) c.arm_elect.ensures.row)))

pub returns-else-leads-clause-row : goal.returns-else-leads-clause-row
unfolding loosens_master
returns-else-leads-clause-row g c clock =
    Performs_else_part is_master_at yields (λ past h. ap is_master (sym h.station.role) ∙ sym c.leads.ensures ∙
    c.if-leads.false) (same_part refl refl refl refl refl refl)

pub invariant_of-self : goal.invariant_of-self
invariant_of-self g c = still_alike c.args.self.now refl refl refl (ap (λ (s : Station). s.peers) c.arm_elect.ensures.station ∙ c.become_role.ensures.peers)
