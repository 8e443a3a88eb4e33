-- An ACCEPT that answers an open ELECTION ends it, and its sender counts.
use Rattle.std.proofs.Common.{◌∙◌}
use Rattle.std.proofs.lemmas.Bool.{MatchBool-at_false}
use Rattle.tsp_base.{proofs.PerformsLemmas.Performs_then, proofs.PerformsLemmas.Performs_then_part, specs.Words.nothing}
use Rattle.tsp_rules.specs.{CandidateRows.accepted_by, SendRows.has_election}
use Rattle.tsp_candidate.proofs.AnswerLemmas.{Performs_passed_over}
use Rattle.tsp_candidate.proofs.answers.take_accept.Goals as goal

pub returns-then-answered-clause-row : goal.returns-then-answered-clause-row
unfolding accepted_by
returns-then-answered-clause-row g c x =
    Performs_then_part (has_election c.args.from c.args.number) nothing (λ past s. c.answered.ensures.test x past s ∙ c.if-answered.true)
    (Performs_then (c.answered.ensures.row c.if-answered.true x) (c.count_backer.ensures.row x))

pub returns-else-answered-clause-row : goal.returns-else-answered-clause-row
unfolding accepted_by
returns-else-answered-clause-row g c x =
    Performs_passed_over (has_election c.args.from c.args.number) _ (λ past s. c.answered.ensures.test x past s ∙ c.if-answered.false)
    (MatchBool-at_false _ _ c.if-answered.false c.answered.ensures.sends) (c.answered.ensures.same c.if-answered.false)
