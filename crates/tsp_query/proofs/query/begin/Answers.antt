use Rattle.std.proofs.Common.{◌≡◌, ◌∙◌, ap, arith, rules, List, ℕ, Some, w64, to_z, of_z}
use Rattle.std.specs.Option.{option_map}
use Rattle.tsp_query.proofs.AskLemmas.{reading_taken, readings_taken}
use Rattle.tsp_query.proofs.query.begin.Goals as goal

pub returns-clause-readings : goal.returns-clause-readings
returns-clause-readings g c = λ readings told.
    readings_taken readings _ _ _ _ _ _ _ _ told c.tick-first.ensures.takes (c.word-word.ensures.same.0 ∙
    c.wall-wall.ensures.same.0) (c.word-word.ensures.same.4 ∙ (c.wall-wall.ensures.same.3 ∙ c.tick-first.ensures.last)) c.tick-sent.ensures.takes

pub returns-clause-wall : goal.returns-clause-wall
returns-clause-wall g c =
    let back : to_z w64 (of_z w64 c.wall-wall.result) ≡ c.wall-wall.result = search rules in
    rw (back, ← c.tick-first.ensures.same.0) c.wall-wall.ensures.answers

pub returns-clause-word : goal.returns-clause-word
returns-clause-word g c = rw (← c.tick-first.ensures.same.1, ← c.wall-wall.ensures.same.2) c.word-word.ensures.answers

pub returns-clause-climbs : goal.returns-clause-climbs
returns-clause-climbs g c = (
  c.tick-first.ensures.low,
  omega (arith, c.tick-first.ensures.last, c.wall-wall.ensures.same.3, c.word-word.ensures.same.4, c.tick-sent.ensures.low),
  c.tick-sent.ensures.high,
)

pub returns-clause-walled : goal.returns-clause-walled
returns-clause-walled g c = λ readings told.
    c.tick-sent.ensures.same.2 ∙ (c.word-word.ensures.same.3 ∙ (c.wall-wall.ensures.reads ∙
    ap (option_map (λ (rest : List ℕ). Some rest)) (reading_taken readings _ _ _ _ told c.tick-first.ensures.takes).0))
