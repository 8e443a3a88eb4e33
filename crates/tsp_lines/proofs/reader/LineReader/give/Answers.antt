use Rattle.tsp_lines.proofs.Feeds.{given_line, given_long}
use Rattle.tsp_lines.proofs.reader.LineReader.give.Goals as goal

pub returns-then-place-gt-LONGEST-clause-next : goal.returns-then-place-gt-LONGEST-clause-next
returns-then-place-gt-LONGEST-clause-next c = rw (
  c.take_line.ensures,
  c.keep.ensures,
  c.start_of_held-start.ensures,
) (given_long _ _ _ _ c.requires.within c.requires.line c.requires.feed c.requires.before c.requires.most
    c.if-place-gt-LONGEST.true)

pub returns-clause-next : goal.returns-clause-next
returns-clause-next c = rw c.take_line-2.ensures (given_line _ _ _ _ c.requires.within c.requires.line c.requires.feed c.requires.before c.requires.most
    c.if-place-gt-LONGEST.false)
