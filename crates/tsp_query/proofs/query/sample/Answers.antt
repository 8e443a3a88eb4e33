use Rattle.std.proofs.Common.{arith}
use Rattle.std.proofs.lemmas.Int.{ints}
use Rattle.tsp_query.{proofs.SampleLemmas.diff_is, proofs.SampleLemmas.err_is, proofs.SampleLemmas.diff_end, specs.Queries.reading_in}
use Rattle.tsp_query.proofs.query.sample.Goals as goal

pub returns : goal.returns
returns c =
    diff_end _ _ _ _
    (rw (diff_is c.args.start.now.wall (reading_in c.args.reply.now) c.args.start.now.first c.args.start.now.sent c.args.came c.requires.first c.requires.sent)
    (omega (arith, ints)))
    (rw (err_is c.args.start.now.wall c.args.start.now.first c.args.start.now.sent c.args.came c.requires.first c.requires.sent) (omega (arith, ints)))
