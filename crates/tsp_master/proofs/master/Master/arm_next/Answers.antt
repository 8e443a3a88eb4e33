-- The row's test is the count of probes.
use Rattle.std.proofs.Common.{arith, refl}
use Rattle.std.proofs.lemmas.Bool.{lt-ltb}
use Rattle.tsp_base.specs.Words.{arms, nothing}
use Rattle.tsp_base.proofs.PerformsLemmas.{Performs_else_part, Performs_nothing, Performs_then_part, Performs_to}
use Rattle.tsp_rules.{proofs.Emits.Emits_arms, specs.RoundRows.arms_next, specs.RoundRows.has_more, specs.Values.Probe, specs.Values.PROBE}
use Rattle.tsp_acks.proofs.ActingLemmas.{Performs_acting}
use Rattle.tsp_master.specs.MasterStands.{LeadStands, ProbesStands}
use Rattle.tsp_master.proofs.{LeadLemmas.Performs_lead_by, PhaseLemmas.MasterStands_arms_probe, PhaseLemmas.no_more, RoomLemmas.once}
use Rattle.tsp_master.proofs.master.Master.arm_next.Goals as goal

pub returns-then-probes-lt-PROBES-clause-row : goal.returns-then-probes-lt-PROBES-clause-row
unfolding arms_next
returns-then-probes-lt-PROBES-clause-row g c clock =
    Performs_then_part has_more nothing (λ past h. let r = h.stands.master.going h.goes in
    lt-ltb _ 3 (omega (arith, r.probes_is, c.probes.ensures, c.if-probes-lt-PROBES.true)))
    (Performs_lead_by {P = ProbesStands c.args.tick} {Q = LeadStands} _ _ clock (Emits_arms Probe PROBE refl) (λ past h. h.stands)
    (λ past h. let r = h.stands.master.going h.goes in MasterStands_arms_probe c.args.tick past _ h.goes (omega (
      arith,
      r.probes_is,
      c.probes.ensures,
      c.if-probes-lt-PROBES.true,
    )) h.early h.stands.master)
    (λ past h k. k) (Performs_acting c.arm.ensures.row))

pub returns-else-probes-lt-PROBES-clause-row : goal.returns-else-probes-lt-PROBES-clause-row
unfolding arms_next
returns-else-probes-lt-PROBES-clause-row g c clock =
    Performs_else_part has_more (arms Probe PROBE) (λ past h. let r = h.stands.master.going h.goes in
    no_more _ (omega (arith, r.probes_is, c.probes.ensures, c.if-probes-lt-PROBES.false)))
    (Performs_to (λ past h. h.stands) (Performs_nothing {p = ProbesStands c.args.tick}))

pub returns-then-probes-lt-PROBES-clause-room : goal.returns-then-probes-lt-PROBES-clause-room
returns-then-probes-lt-PROBES-clause-room g c = once 0 0 c.arm.ensures.room
