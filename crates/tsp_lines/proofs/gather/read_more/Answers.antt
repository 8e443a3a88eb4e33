use Rattle.std.proofs.Common.{refl}
use Rattle.tsp_lines.proofs.{Leaving.Counts_same, Gatherings.Adds_end}
use Rattle.tsp_lines.proofs.gather.read_more.Goals as goal

pub returns-in-Got-eq0-clause-adds : goal.returns-in-Got-eq0-clause-adds
returns-in-Got-eq0-clause-adds g c = Adds_end c.args.most (g.S.Source.left c.args.source.now) (g.S.Source.left c.read.new.self)
    (g.S.Source.ended c.args.source.now) (g.S.Source.ended c.read.new.self) c.in-Got-eq0.field-0 c.read.new.buf c.args.octets.now.items
    c.in-Got-eq0.ensures.reads c.in-Got-eq0.field-0-test

pub returns-in-Got-eq0-clause-faults : goal.returns-in-Got-eq0-clause-faults
returns-in-Got-eq0-clause-faults g c = Counts_same _ _ _ (c.in-Got-eq0.ensures.still (λ e. cc)) (λ e. cc)

pub returns-in-Ok-clause-faults : goal.returns-in-Ok-clause-faults
returns-in-Ok-clause-faults g c = Counts_same _ _ _ (c.in-Got.ensures.still (λ e. cc)) (λ e. cc)

pub returns-in-Err-clause-faults : goal.returns-in-Err-clause-faults
returns-in-Err-clause-faults g c = Counts_same _ _ _ (c.in-Got.ensures.still (λ e. cc)) (λ e. cc)

pub returns-in-Failed-clause-faults : goal.returns-in-Failed-clause-faults
returns-in-Failed-clause-faults g c = record { later = c.read.ensures.later; cause = λ e. c.in-Failed.ensures.cause refl; still = λ n. absurd (n refl) }
