-- What is taken, and what it upsets.
use Rattle.std.proofs.Common.{true, refl, sym, arith, ◌∙◌, append-nil, ◌≡◌, ℕ, false, List}
use Rattle.tsp_node.{specs.declared.node.Node.Node, proofs.NodeLemmas.node_by, proofs.NodeLemmas.node_takes}
use Rattle.tsp_rules.{proofs.BuiltRounds.built_abandons_going, specs.Answers.takes, specs.Values.Placed, specs.Values.Port}
use Rattle.tsp_rules.{proofs.EmitsBuilt.emits_built, specs.RoundRows.abandons_going, specs.RoundRows.corrects, specs.RoundRows.upsetting}
use Rattle.tsp_base.specs.Words.{Past, Performs, Row, ◌followed_by◌}
use Rattle.tsp_base.proofs.PerformsLemmas.{Performs_same, Performs_then}
use Rattle.tsp_node.proofs.node.Node.take_in.Goals as goal

-- what is taken, and a round that it upsets

-- the clock was corrected, and the round that goes on is given up
Performs_upset : {S T U : Type 0} {p : Past → S → Type 0} {q : Past → T → Type 0} {w : Past → U → Type 0} {x : ℕ} {port : Port} {before : S} {mid : T}
    {after : U} {old middle new : List Placed} (row : Row) →
    ((past : Past) → p past before → corrects (row x past) ≡ true) → Performs p q row x port before mid old middle →
    Performs q w abandons_going x port mid after middle new → Performs p w (upsetting row) x port before after old new
unfolding upsetting ◌followed_by◌
Performs_upset row c d e = Performs_same (upsetting row) (λ past h. rw (c past h) refl) (Performs_then d e)

-- it wasn't
Performs_calm : {S T : Type 0} {p : Past → S → Type 0} {q : Past → T → Type 0} {x : ℕ} {port : Port} {before : S} {after : T} {old new : List Placed}
    (row : Row) →
    ((past : Past) → p past before → corrects (row x past) ≡ false) → Performs p q row x port before after old new →
    Performs p q (upsetting row) x port before after old new
unfolding upsetting
Performs_calm {x = x} row c d = Performs_same (upsetting row) (λ past h. rw (c past h) (sym (append-nil (row x past)))) d

pub returns-then-corrected-clause-row : goal.returns-then-corrected-clause-row
returns-then-corrected-clause-row g c =
    let mid : Node = record { clock = c.take-corrected.new.clock; tracing = c.take-corrected.new.tracing; part = c.take-corrected.new.self } in
    Performs_upset (takes true true c.args.from c.args.taken.now) (λ past h. sym (c.take-corrected.ensures.corrects past (record {
      port = h.port.stands;
      trace = h.trace;
    })) ∙ c.if-corrected.true)
    (node_takes {after = mid} c.take-corrected.ensures.row) (node_by {before = mid} refl (emits_built refl built_abandons_going)
    (c.abandon.ensures.row c.args.tick c.take-corrected.new.clock))

pub returns-else-corrected-clause-row : goal.returns-else-corrected-clause-row
returns-else-corrected-clause-row g c =
    Performs_calm (takes true true c.args.from c.args.taken.now) (λ past h. sym (c.take-corrected.ensures.corrects past (record {
      port = h.port.stands;
      trace = h.trace;
    })) ∙ c.if-corrected.false) (node_takes c.take-corrected.ensures.row)

pub returns-then-corrected-clause-room : goal.returns-then-corrected-clause-room
returns-then-corrected-clause-room g c =
    let take = c.take-corrected.ensures.room in
    let abandon = c.abandon.ensures.room in
    record { spare = omega (arith, take.spare, abandon.spare); few = omega (arith, take.few, abandon.few) }

pub returns-else-corrected-clause-room : goal.returns-else-corrected-clause-room
returns-else-corrected-clause-room g c = let take = c.take-corrected.ensures.room in record { spare = omega (arith, take.spare); few = omega (arith, take.few) }
