use Rattle.tsp_lines.proofs.progress.Progress.stop.Goals as goal

pub returns-in-Bad-clause-stops : goal.returns-in-Bad-clause-stops
returns-in-Bad-clause-stops g c = rw c.in-Bad.is (rw (c.as_slice.ensures.value, c.bad_line-words.ensures, c.words.ensures.value) at c.end_with.ensures.ends)

pub returns-in-Limit-clause-stops : goal.returns-in-Limit-clause-stops
returns-in-Limit-clause-stops g c = rw c.in-Limit.is (rw (c.as_slice-in-Limit.ensures.value, c.limit_line-words.ensures) at c.end_with-in-Limit.ensures.ends)
