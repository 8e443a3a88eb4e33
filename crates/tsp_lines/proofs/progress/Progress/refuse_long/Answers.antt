use Rattle.std.proofs.Common.{refl, ◌∙◌}
use Rattle.tsp_lines.{proofs.Outputs.Ends-only_bad, proofs.Outputs.Hands_nil, proofs.Leaving.Counts_told, specs.Turns.line_sayings}
use Rattle.tsp_lines.specs.declared.treatment.Stop.TheVariants.{Bad as Refused}
use Rattle.tsp_lines.proofs.progress.Progress.refuse_long.Goals as goal

pub returns-clause-ends : goal.returns-clause-ends
returns-clause-ends g c = λ lines text line stands accepts room feedless long start.
    Ends-only_bad (line_sayings g.T.Treatment.meaning lines text c.args.self.now.number line) _ _ _ _ c.args.self.now.output c.args.self.now.output
    c.stop.result
    (c.refuse_long-cause.result, c.refuse_long-cause.ensures lines text line stands accepts room feedless long (c.start.ensures ∙ start), refl)
    (Hands_nil _ c.args.self.now.output)
    c.stop.ensures.stops

pub returns-clause-writes : goal.returns-clause-writes
returns-clause-writes g c = Counts_told _ _ (Refused c.refuse_long-cause.result) _ (λ e. cc) c.stop.ensures.writes
