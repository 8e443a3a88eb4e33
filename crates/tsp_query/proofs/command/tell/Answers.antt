use Rattle.std.proofs.Common.{◌∙◌, inl, inr, refl}
use Rattle.tsp_query.proofs.{LineLemmas.no_line, OutsideLemmas.Says_cut}
use Rattle.tsp_query.proofs.command.tell.Goals as goal

pub returns-in-WriteFault-clause-says : goal.returns-in-WriteFault-clause-says
returns-in-WriteFault-clause-says g c = Says_cut _ _ _ _ _ _ _ _ c.in-Err.cut.at (c.as_slice.ensures.value ∙
    c.line_of.ensures) (inl refl) c.in-Err.ensures.cut.0 c.in-Err.ensures.cut.1

pub returns-in-OutOfMemory-clause-says : goal.returns-in-OutOfMemory-clause-says
returns-in-OutOfMemory-clause-says g c = Says_cut _ _ _ _ _ _ _ _ c.in-Err.cut.at (c.as_slice.ensures.value ∙
    c.line_of.ensures) (inr refl) c.in-Err.ensures.cut.0 c.in-Err.ensures.cut.1

pub returns-in-WriteFault-clause-linked : goal.returns-in-WriteFault-clause-linked
returns-in-WriteFault-clause-linked g c = λ e. absurd (no_line _ _ _ _ (c.as_slice.ensures.value ∙ c.line_of.ensures) e c.in-Err.ensures.cut.0)

pub returns-in-OutOfMemory-clause-linked : goal.returns-in-OutOfMemory-clause-linked
returns-in-OutOfMemory-clause-linked g c = λ e. absurd (no_line _ _ _ _ (c.as_slice.ensures.value ∙ c.line_of.ensures) e c.in-Err.ensures.cut.0)
