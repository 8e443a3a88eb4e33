-- Laws of the line of what came of a question.
use Rattle.std.proofs.Common.{ap, ◌∙◌, arith, ◌≡◌, ◌<◌, ℕ, List, [], length}
use Rattle.tsp_args.specs.declared.query.Query.{Query}
use Rattle.tsp_query.specs.{Lines.end_line, declared.query.QueryEnd.QueryEnd, declared.query.QueryEnd.TheVariants.LinkFault}

-- a question that the link ended has no line, so no part of one is left out
pub no_line : (q : Query) (end : QueryEnd) (line : List ℕ) (at : ℕ) → line ≡ end_line q end → end ≡ LinkFault → at < length line → ⊥
no_line q end line at is e l =
    let none : line ≡ [] = is ∙ ap (λ (x : QueryEnd). end_line q x) e in
    let short : length line ≡ 0 = ap (λ (xs : List ℕ). length xs) none in
    omega (arith, l, short)
