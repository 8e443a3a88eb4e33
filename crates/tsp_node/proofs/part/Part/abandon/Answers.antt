-- A round that goes on is given up.
use Rattle.std.proofs.Common.{refl, ◌∙◌}
use Rattle.tsp_base.specs.Words.{nothing, puts}
use Rattle.tsp_base.proofs.PerformsLemmas.{Performs_else_part, Performs_then_part}
use Rattle.tsp_rules.specs.{Guards.is_going_at, RoundRows.abandons, RoundRows.abandons_going}
use Rattle.tsp_node.proofs.{NodeLemmas.abandoned, NodeLemmas.same_part, PartLemmas.still_alike}
use Rattle.tsp_node.proofs.part.Part.abandon.Goals as goal

pub returns-then-abandon-clause-row : goal.returns-then-abandon-clause-row
unfolding abandons_going abandons puts
returns-then-abandon-clause-row g c x clock =
    Performs_then_part is_going_at nothing (λ past h. c.abandon.ensures.going past h.station ∙ c.if-abandon.true)
    (record {
      acts = λ past h. c.put.ensures.acts;
      stands = λ past h. let s = c.abandon.ensures.stands c.if-abandon.true x past (record { master = h.master; station = h.station }) in
          abandoned x past h.last h.clock h.resolve h.dates s.station s.master;
    })

pub returns-else-abandon-clause-row : goal.returns-else-abandon-clause-row
unfolding abandons_going
returns-else-abandon-clause-row g c x clock =
    let same = c.abandon.ensures.same c.if-abandon.false in
    Performs_else_part is_going_at abandons (λ past h. c.abandon.ensures.going past h.station ∙
    c.if-abandon.false) (same_part refl refl refl refl same.1 same.0)

pub invariant_of-self : goal.invariant_of-self
invariant_of-self g c = still_alike c.args.self.now c.abandon.ensures.peers refl refl c.abandon.ensures.port.peers
