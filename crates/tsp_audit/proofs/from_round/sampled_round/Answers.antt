use Rattle.std.proofs.Common.{◌≡◌, rules, arith, to_z, of_z, refl}
use Rattle.std.{proofs.lemmas.List.length-take-le, specs.Int.w64}
use Rattle.tsp_audit.proofs.SampleLemmas.{reading_none, round_found, sample_none, trips_before}
use Rattle.tsp_history.proofs.NoteLemmas.{told_take}
use Rattle.tsp_audit.proofs.from_round.sampled_round.Goals as goal

pub returns-in_default : goal.returns-in_default
returns-in_default c tell s =
    sample_none c.args.lines.now c.args.first.now.node c.args.first.now.port c.args.node c.args.close s
    (c.in_default.ensures (trips_before c.args.lines.now c.args.trips.now c.args.close tell))

pub returns-then-best-close : goal.returns-then-best-close
returns-then-best-close c tell s =
    let b = c.in-Some.ensures (trips_before c.args.lines.now c.args.trips.now c.args.close tell) in
    absurd (omega (arith, b.place.at.below, c.if-best-close.true, length-take-le c.args.close c.args.lines.now (omega (arith, c.requires.below))))

pub returns-in-None : goal.returns-in-None
returns-in-None c tell s =
    reading_none c.args.lines.now c.args.first.now.node c.args.first.now.port c.args.node c.args.close c.in-Some.best c.index-past-best.result s
    (c.in-Some.ensures (trips_before c.args.lines.now c.args.trips.now c.args.close tell)) (search rules) c.in-None.ensures

pub returns-in-Some-reading_of : goal.returns-in-Some-reading_of
returns-in-Some-reading_of c tell s =
    let err : to_z w64 (of_z w64 c.in-Some.best.err) ≡ c.in-Some.best.err = search rules in
    round_found c.args.lines.now c.args.first.now.node c.args.first.now.port c.args.node c.args.close c.in-Some.best c.index-past-best.result _ s
    (c.in-Some.ensures (trips_before c.args.lines.now c.args.trips.now c.args.close tell)) (search rules) c.in-Some-reading_of.ensures refl refl err
    c.counts_at-counts.ensures.lives c.counts_at-counts.ensures.corrects

pub reading_of-requires : goal.reading_of-requires
reading_of-requires c = told_take _ _ (told_take c.args.lines.now c.args.close c.requires.told)

pub counts_at-counts-requires : goal.counts_at-counts-requires
counts_at-counts-requires c = record { told = told_take c.args.lines.now _ c.requires.told }
