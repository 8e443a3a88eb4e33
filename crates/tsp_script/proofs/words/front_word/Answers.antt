use Rattle.std.proofs.Common.{◌≡◌, ◌∙◌, refl, sym, add-one, suc, drop}
use Rattle.tsp_script.proofs.{Cuts.before_mark_at, Cuts.after_mark_at, Cuts.line_at, Cuts.space_inside, Outcomes.if_none}
use Rattle.tsp_script.proofs.words.front_word.Goals as goal

pub returns-in_err-place-clause-none : goal.returns-in_err-place-clause-none
returns-in_err-place-clause-none c = if_none c.from_residual.result (λ word rest e. c.in_err-place.ensures (space_inside c.args.line.now word rest e))

pub returns-clause-found : goal.returns-clause-found
returns-clause-found c =
    let line = c.args.line.now in
    let at = c.in_ok-place.ensures in
    let front = c.split_at.ensures.front in
    let back : c.split_at-2.result.1.now ≡ drop (suc c.in_ok-place.place) line = c.split_at-2.ensures.back ∙ rw add-one refl in (
      front ∙ sym (before_mark_at 32 line c.in_ok-place.place at.0 at.1 at.2),
      back ∙ sym (after_mark_at 32 line c.in_ok-place.place at.0 at.1 at.2),
      rw (front, back) (line_at 32 line c.in_ok-place.place at.0 at.2),
    )
