-- The row's test is the station's.
use Rattle.std.proofs.Common.{◌∙◌, ap, sym, is_some, refl}
use Rattle.tsp_base.specs.Words.{deadline, nothing, ◌followed_by◌, arms, posts_to_others}
use Rattle.tsp_base.proofs.PerformsLemmas.{Performs_then, Performs_then_part, Performs_else_part, Performs_nothing}
use Rattle.tsp_rules.specs.{Guards.is_armed, ResolveRows.resolves, Values.ResolveAlarm, Values.ResolveKind, Values.WINDOW}
use Rattle.tsp_rules.proofs.Emits.{Emits_arms, Emits_posts_to_others}
use Rattle.tsp_resolve.proofs.ResolveLemmas.{Performs_resolving}
use Rattle.tsp_resolve.proofs.resolve.Resolve.start.Goals as goal

pub returns-in-Some-clause-row : goal.returns-in-Some-clause-row
unfolding resolves
returns-in-Some-clause-row g c =
    Performs_then_part (is_armed ResolveAlarm) (arms ResolveAlarm WINDOW followed_by posts_to_others ResolveKind 0)
    (λ past h. ap (λ a. is_some (deadline a ResolveAlarm)) (sym h.station.alarms) ∙ ap is_some (sym c.at.ensures ∙ c.in-Some.is)) Performs_nothing

pub returns-in-None-clause-row : goal.returns-in-None-clause-row
unfolding resolves
returns-in-None-clause-row g c =
    Performs_else_part (is_armed ResolveAlarm) nothing (λ past h. ap (λ a. is_some (deadline a ResolveAlarm)) (sym h.station.alarms) ∙
    ap is_some (sym c.at.ensures ∙ c.in-None.is))
    (Performs_then (Performs_resolving c.args.self.now (Emits_arms ResolveAlarm WINDOW refl) c.arm.ensures.row)
    (Performs_resolving c.args.self.now (Emits_posts_to_others ResolveKind 0 refl) (c.post_to_others.ensures.row c.args.tick)))
