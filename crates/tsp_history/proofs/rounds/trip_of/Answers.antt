use Rattle.std.proofs.Common.{◌≡◌, ap, sym, ◌∙◌, rules, ◌-ℤ◌, to_z, of_z}
use Rattle.std.specs.Int.{w128}
use Rattle.tsp_base.specs.{Words.Acts, declared.act.Act.TheVariants.Sample}
use Rattle.tsp_history.specs.{Histories.line_of, Histories.deed_of, Histories.history_of, Rounds.start_of}
use Rattle.tsp_history.proofs.RoundLemmas.{trip_told}
use Rattle.tsp_history.proofs.rounds.trip_of.Goals as goal

pub returns-in-Sample-clause-trip : goal.returns-in-Sample-clause-trip
returns-in-Sample-clause-trip c =
    let o = c.in-Sample in
    let deed : deed_of c.args.line.now.act ≡ Acts (Sample o.peer o.counter o.field-2 o.field-3 o.field-4) = ap deed_of o.ensures.act.1 in
    let same : to_z w128 (of_z w128 c.target_at.result) ≡ c.target_at.result = search rules in
    let back : to_z w128 (of_z w128 c.since.result) ≡ c.since.result = search rules in
    back ∙ c.since.ensures.time ∙ ap (λ t. t -ℤ start_of c.asked_at-asked.result) same ∙
    sym (trip_told (line_of c.args.line.now) (history_of c.args.lines.now) o.peer o.counter o.field-2 o.field-3 o.field-4 c.asked_at-asked.result
    c.target_at.result deed c.asked_at-asked.ensures.asked c.target_at.ensures.target)
