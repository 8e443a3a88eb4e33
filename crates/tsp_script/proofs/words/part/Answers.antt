use Rattle.std.proofs.Common.{sym, ◌∙◌, add-one}
use Rattle.tsp_script.proofs.Cuts.{before_mark_at, after_mark_at, before_mark_alone, after_mark_alone}
use Rattle.tsp_script.proofs.words.part.Goals as goal

pub returns-in-Some : goal.returns-in-Some
returns-in-Some c =
    let e = c.in-Some.ensures in
    record {
      front = c.split_at.ensures.front ∙ sym (before_mark_at c.args.mark c.args.line.now c.in-Some.i e.0 e.1 e.2);
      rest =
          let r = after_mark_at c.args.mark c.args.line.now c.in-Some.i e.0 e.1 e.2 in
          c.split_at-in-Some.ensures.back ∙ rw add-one (sym r);
    }

pub returns-in-None-clause-front : goal.returns-in-None-clause-front
returns-in-None-clause-front c = sym (before_mark_alone c.args.mark c.args.line.now c.in-None.ensures)

pub returns-in-None-clause-rest : goal.returns-in-None-clause-rest
returns-in-None-clause-rest c = sym (after_mark_alone c.args.mark c.args.line.now c.in-None.ensures)
