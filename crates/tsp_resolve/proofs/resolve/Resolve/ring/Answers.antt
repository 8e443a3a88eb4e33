-- In time a QUIT begins to each rival.
use Rattle.std.proofs.Common.{◌∙◌, ap, sym, refl}
use Rattle.tsp_base.specs.Words.{deadline, puts, ◌followed_by◌}
use Rattle.tsp_base.proofs.PerformsLemmas.{Performs_then, Performs_then_part, Performs_else_part, Performs_to}
use Rattle.tsp_rules.specs.{Guards.is_in_time, Guards.is_met, ResolveRows.quits_rivals, ResolveRows.resolve_rings}
use Rattle.tsp_rules.{proofs.Emits.Emits_puts, specs.Values.Ring, specs.Values.Late, specs.Values.ResolveAlarm}
use Rattle.tsp_resolve.{proofs.ResolveLemmas.Performs_resolving, proofs.ResolveLemmas.Performs_rung, specs.ResolveStands.ResolvingActs}
use Rattle.tsp_resolve.proofs.resolve.Resolve.ring.Goals as goal

pub returns-then-is_in_time-clause-row : goal.returns-then-is_in_time-clause-row
unfolding resolve_rings
returns-then-is_in_time-clause-row g c =
    Performs_then_part (is_in_time ResolveAlarm) (puts (Late ResolveAlarm)) (λ past h. ap (λ a. is_met (deadline a ResolveAlarm) c.args.tick)
    (sym h.station.alarms) ∙ (sym c.is_in_time.ensures ∙ c.if-is_in_time.true))
    (Performs_to {q = ResolvingActs} (λ past h. record { resolve = h.resolve; station = h.station })
    (Performs_then (Performs_rung ResolveAlarm c.args.self.now (Emits_puts (Ring ResolveAlarm) refl) (c.ring.ensures.row c.args.tick))
    c.quit_rivals.ensures.row))

pub returns-else-is_in_time-clause-row : goal.returns-else-is_in_time-clause-row
unfolding resolve_rings
returns-else-is_in_time-clause-row g c =
    Performs_else_part (is_in_time ResolveAlarm) (puts (Ring ResolveAlarm) followed_by quits_rivals)
    (λ past h. ap (λ a. is_met (deadline a ResolveAlarm) c.args.tick) (sym h.station.alarms) ∙ (sym c.is_in_time.ensures ∙ c.if-is_in_time.false))
    (Performs_resolving c.args.self.now (Emits_puts (Late ResolveAlarm) refl) (c.late.ensures.row c.args.tick))
