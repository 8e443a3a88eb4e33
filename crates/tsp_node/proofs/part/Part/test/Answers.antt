-- What the station does, and what the slaves and the rivals become.
use Rattle.std.proofs.Common.{refl}
use Rattle.tsp_node.specs.NodeStands.{port_with}
use Rattle.tsp_node.proofs.{NodeLemmas.Performs_acting_by, NodeLemmas.rivals_part, NodeLemmas.slaves_part, PartLemmas.still_alike}
use Rattle.tsp_date.proofs.KeepLemmas.{DatesStand_by}
use Rattle.tsp_rules.proofs.{BuiltShared.built_tests, BuiltShared.standing_sorts, Emits.Emits, Emits.Emits_more, EmitsBuilt.emits_built}
use Rattle.tsp_rules.{proofs.Unchanged.place_unchanged, specs.CommonRows.tests}
use Rattle.tsp_node.proofs.part.Part.test.Goals as goal

pub returns-clause-row : goal.returns-clause-row
returns-clause-row g c r clock =
    let from = c.args.from in
    let number = c.args.number in
    let row = rw (← c.part_from.ensures.station) at c.take_test.ensures.row in
    let emits : Emits standing_sorts (tests from number) = emits_built refl (built_tests from number (place_unchanged from) tt tt) in
    Performs_acting_by {after = port_with c.part_from.new.self clock} c.part_from.ensures.last refl c.part_from.ensures.dates
    (Emits_more standing_sorts refl emits) (DatesStand_by (tests from number) (Emits_more standing_sorts refl emits))
    (λ past h s. slaves_part (tests from number) (Emits_more standing_sorts refl emits) c.args.tick past (port_with c.args.self.now clock)
    (port_with c.part_from.new.self clock) (rw (c.leads-led.ensures, ← c.part_from.ensures.station) at c.part_from.ensures.slaves) h s)
    (λ past h s. rivals_part (tests from number) (Emits_more standing_sorts refl emits) c.args.tick past (port_with c.args.self.now clock)
    (port_with c.part_from.new.self clock) (rw (c.leads-led.ensures, ← c.part_from.ensures.station) at c.part_from.ensures.rivals) h s)
    row

pub invariant_of-self : goal.invariant_of-self
invariant_of-self g c = still_alike c.args.self.now refl refl refl c.take_test.ensures.port.peers
