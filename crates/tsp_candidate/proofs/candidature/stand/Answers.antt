-- The role, the backing, the alarm, and then the sends.
use Rattle.std.proofs.Common.{sym}
use Rattle.tsp_base.{proofs.PerformsLemmas.Performs_then, proofs.PerformsLemmas.Performs_reading, specs.Words.puts}
use Rattle.tsp_rules.specs.{CommonRows.candidature_row, CommonRows.backs_own, CommonRows.own_at, Values.Back}
use Rattle.tsp_acks.proofs.ActingLemmas.{Performs_acting}
use Rattle.tsp_candidate.proofs.candidature.stand.Goals as goal

pub returns-clause-row : goal.returns-clause-row
unfolding candidature_row backs_own
returns-clause-row g c =
    Performs_then (Performs_acting (c.become_role.ensures.row c.args.tick))
    (Performs_then (Performs_acting (Performs_reading own_at (λ own. puts (Back own)) _ (λ past s. sym s.own) c.back.ensures.row))
    (Performs_then (Performs_acting c.arm.ensures.row) c.begin_to_others.ensures.row))
