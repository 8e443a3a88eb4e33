-- Nobody is answered in the quiet time; after it the ACK comes first.
use Rattle.std.proofs.Common.{◌∙◌, ap, sym, not}
use Rattle.tsp_base.specs.Words.{either_by, ◌followed_by◌, nothing, posts_back}
use Rattle.tsp_base.proofs.PerformsLemmas.{Performs_then, Performs_then_part, Performs_else_part, Performs_nothing}
use Rattle.tsp_rules.specs.CommonRows.{is_awake, may_be_asked, candidature_row, tests}
use Rattle.tsp_rules.specs.{Guards.is_starting_role, Values.Ack}
use Rattle.tsp_acks.proofs.ActingLemmas.{Performs_acting}
use Rattle.tsp_clients.proofs.ClientLemmas.{is_starting_role_other}
use Rattle.tsp_clients.proofs.candidature.take_test.Goals as goal

pub returns-in-Starting-clause-row : goal.returns-in-Starting-clause-row
unfolding tests
returns-in-Starting-clause-row g c =
    Performs_else_part is_awake (posts_back c.args.from Ack c.args.number followed_by either_by may_be_asked candidature_row nothing)
    (λ past h. ap (λ r. not (is_starting_role r)) (sym h.stands.role ∙ c.in-Starting.is)) Performs_nothing

pub returns-in_default-clause-row : goal.returns-in_default-clause-row
unfolding tests
returns-in_default-clause-row g c =
    Performs_then_part is_awake nothing (λ past h. ap (λ r. not (is_starting_role r)) (sym h.stands.role) ∙
    ap not (is_starting_role_other _ c.in_default.not-Starting))
    (Performs_then (Performs_acting (c.post_back.ensures.row c.args.tick)) c.begin_if_asked.ensures.row)
