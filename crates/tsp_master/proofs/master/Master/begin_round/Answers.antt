-- The alarms, the posts, and then the requests.
use Rattle.std.proofs.Common.{[], ◌∷◌, refl}
use Rattle.tsp_rules.specs.Values.{Round, Probe, CloseAlarm, MasterUp, CLOSE, PROBE, ROUND}
use Rattle.tsp_base.specs.Words.{arms, posts_to_others, ◌followed_by◌}
use Rattle.tsp_base.proofs.{PerformsLemmas.Performs_same, PerformsLemmas.Performs_then, PerformsLemmas.Performs_to, RowLemmas.then_assoc}
use Rattle.tsp_rules.specs.RoundRows.{asks_slaves, round_begins}
use Rattle.tsp_rules.proofs.Emits.{Posting, Emits_arms, Emits_posts_to_others, Keeps_by}
use Rattle.tsp_acks.proofs.ActingLemmas.{Performs_acting}
use Rattle.tsp_master.specs.MasterStands.{MasterStands, StartsStands}
use Rattle.tsp_master.proofs.{LeadLemmas.Performs_lead_by, LeadLemmas.Performs_quiet, PhaseLemmas.begins_posting, PhaseLemmas.goes_posting}
use Rattle.tsp_master.proofs.TableLemmas.{MasterStands_quiet, quiet_sorts}
use Rattle.tsp_master.proofs.master.Master.begin_round.Goals as goal

pub returns-clause-row : goal.returns-clause-row
unfolding round_begins
returns-clause-row g c =
    let x = c.args.at.tick in
    let says = posts_to_others MasterUp 0 in
    Performs_then (Performs_quiet _ c.args.clock.now (Emits_arms Round ROUND refl) (Performs_acting c.arm.ensures.row))
    (Performs_same (arms Probe PROBE followed_by (arms CloseAlarm CLOSE followed_by (says followed_by asks_slaves)))
    (λ past h. then_assoc (arms Probe PROBE) (arms CloseAlarm CLOSE) (says followed_by asks_slaves) x past)
    (Performs_then (c.arm_round.ensures.row c.args.clock.now)
    (Performs_then
    (Performs_lead_by {P = StartsStands} {Q = StartsStands} c.arm_round.new.self c.arm_round.new.self c.args.clock.now (Emits_posts_to_others MasterUp 0 refl)
    (λ past h. h.stands)
    (λ past h. Keeps_by quiet_sorts MasterStands says MasterStands_quiet (Emits_posts_to_others MasterUp 0 refl) x past _ h.stands.master)
    (λ past h k. record {
      stands = k;
      goes = Keeps_by (Posting ∷ []) _ says goes_posting (Emits_posts_to_others MasterUp 0 refl) x past tt h.goes;
      starts = Keeps_by (Posting ∷ []) _ says begins_posting (Emits_posts_to_others MasterUp 0 refl) x past tt h.starts;
    })
    (Performs_acting (c.post_to_others.ensures.row x)))
    (Performs_to (λ past h. h.stands) c.ask_slaves.ensures.row))))
