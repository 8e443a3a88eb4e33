-- A correction, or another message.
use Rattle.std.proofs.Common.{◌≡◌, ◌⊎◌, sym, ◌∙◌, ap, false, refl}
use Rattle.tsp_base.specs.Words.{is_correction}
use Rattle.tsp_slave.proofs.{RoomLemmas.more_room, RowCases.correction_kind, RowCases.slave_takes_kind_correction, RowCases.told_correction}
use Rattle.tsp_slave.proofs.TellLemmas.{tells_still}
use Rattle.tsp_rules.proofs.{BuiltRoles.built_slave_takes, BuiltRoles.slave_part_unmoved, BuiltRoles.unmoved_sorts, Emits.Emits_more}
use Rattle.tsp_rules.{proofs.EmitsBuilt.emits_built, specs.SlaveRows.slave_takes, specs.Values.AdjTime, specs.Values.SetTime}
use Rattle.tsp_slave.proofs.take.slave_hear.Goals as goal

pub returns-then-is_correction-clause-row : goal.returns-then-is_correction-clause-row
unfolding slave_takes
returns-then-is_correction-clause-row g c took e =
    let m = c.args.m.now in
    let k : (m.kind ≡ AdjTime) ⊎ (m.kind ≡ SetTime) = correction_kind m.kind (ap is_correction (sym c.kind.ensures) ∙
    (sym c.is_correction.ensures ∙ c.if-is_correction.true)) in
    rw (slave_takes_kind_correction c.args.from m m.kind refl k) (c.take_correction.ensures.row took (told_correction c.args.from m took k e))

pub returns-then-is_correction-clause-corrects : goal.returns-then-is_correction-clause-corrects
returns-then-is_correction-clause-corrects g c past took e h =
    let m = c.args.m.now in
    let k : (m.kind ≡ AdjTime) ⊎ (m.kind ≡ SetTime) = correction_kind m.kind (ap is_correction (sym c.kind.ensures) ∙
    (sym c.is_correction.ensures ∙ c.if-is_correction.true)) in
    c.take_correction.ensures.corrects past took (told_correction c.args.from m took k e) h

pub returns-else-is_correction-clause-corrects : goal.returns-else-is_correction-clause-corrects
returns-else-is_correction-clause-corrects g c past took e h =
    let m = c.args.m.now in
    let other : is_correction m.kind ≡ false = ap is_correction (sym c.kind.ensures) ∙ (sym c.is_correction.ensures ∙ c.if-is_correction.false) in
    tells_still (Emits_more unmoved_sorts refl (emits_built (slave_part_unmoved m.kind other) (built_slave_takes c.args.from m tt tt)))
    (c.hear_other.ensures.row took e) past h

pub hear_other-requires-clause-other : goal.hear_other-requires-clause-other
hear_other-requires-clause-other g c = ap is_correction (sym c.kind.ensures) ∙ (sym c.is_correction.ensures ∙ c.if-is_correction.false)

pub returns-then-is_correction-clause-room : goal.returns-then-is_correction-clause-room
returns-then-is_correction-clause-room g c = more_room 3 2 c.take_correction.ensures.room
