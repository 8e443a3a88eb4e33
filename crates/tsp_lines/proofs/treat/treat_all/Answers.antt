use Rattle.std.proofs.Common.{sym, ◌∙◌, subst, Ok}
use Rattle.tsp_lines.specs.{Outcomes.Comes, Turns.TriesHeld, declared.treat.Outcome.TheVariants.OutOfMemory}
use Rattle.tsp_lines.proofs.{KeepingUp.KeepsUp_grew, KeepingUp.KeepsUp_nothing, OneAnswer.Comes_answers}
use Rattle.tsp_lines.proofs.Leaving.{Leaves_nothing, Leaves_since, Leaves_unwritten, Ok_no_error}
use Rattle.tsp_lines.proofs.Turns.{Comes_nothing, IsAt_open}
use Rattle.tsp_lines.proofs.treat.treat_all.Goals as goal

pub returns-in_default : goal.returns-in_default
returns-in_default g c = record {
  comes = Comes_nothing _ _ _ _ c.requires.nothing;
  answers = λ definite. Comes_answers g.T.Treatment.meaning definite c.args.limit (g.S.Source.left c.args.source.now) (g.S.Source.left c.args.source.now)
      (g.K.Sink.written c.args.sink.now) (g.K.Sink.written c.args.sink.now) OutOfMemory (Comes_nothing g.T.Treatment.meaning c.args.limit
      (g.S.Source.left c.args.source.now) (g.K.Sink.written c.args.sink.now) c.requires.nothing);
  keeps_up = KeepsUp_nothing g.T.Treatment.meaning _ _ _ c.requires.nothing;
  leaves = Leaves_nothing g.S.Source g.K.Sink c.args.source.now c.args.sink.now;
}

pub returns-then-is_full : goal.returns-then-is_full
returns-then-is_full g c =
    let i = c.loop-progress.invariant in
    let comes : Comes g.T.Treatment.meaning c.args.limit (g.S.Source.left c.args.source.now) (g.S.Source.left c.close.new.source)
    (g.K.Sink.written c.args.sink.now) (g.K.Sink.written c.close.new.sink) c.close.result =
    rw (sym i.4) (c.close.ensures.closes _ _ _ _ i.0.2) in record {
      comes = comes;
      answers = λ definite. Comes_answers g.T.Treatment.meaning definite c.args.limit (g.S.Source.left c.args.source.now) (g.S.Source.left c.close.new.source)
          (g.K.Sink.written c.args.sink.now) (g.K.Sink.written c.close.new.sink) c.close.result comes;
      keeps_up = rw (sym i.4) (c.close.ensures.keeps_up _ _ _ _ i.0.2 (rw i.4 i.1));
      leaves = Leaves_since g.S.Source g.K.Sink c.args.source.now c.loop-progress.source c.close.new.source c.args.sink.now c.loop-progress.sink
          c.close.new.sink c.close.result i.5 i.6 c.close.ensures.leaves;
    }

pub returns-in-Err : goal.returns-in-Err
returns-in-Err g c =
    let i = c.loop-progress.invariant in
    let m = g.T.Treatment.meaning in
    let may = IsAt_open m (g.T.Treatment.stands c.loop-progress.treatment) _ _ _ _ c.loop-progress.progress.reader c.loop-progress.progress.output
    c.loop-progress.progress.number i.0.0 i.0.1 i.0.2 (c.if-is_full.ensures i.0.0 i.0.2.stands) in
    let limit = c.try_held.ensures.same.1 ∙ i.4 in
    let comes : Comes m c.args.limit (g.S.Source.left c.args.source.now) (g.S.Source.left c.loop-progress.source) (g.K.Sink.written c.args.sink.now)
    (g.K.Sink.written c.try_held.new.sink) c.outcome_of.result =
    rw (c.outcome_of.ensures, sym limit) (c.in-Err.ensures.tries _ _ _ i.0.0 i.0.1 may) in record {
      comes = comes;
      answers = λ definite. Comes_answers m definite c.args.limit (g.S.Source.left c.args.source.now) (g.S.Source.left c.loop-progress.source)
          (g.K.Sink.written c.args.sink.now) (g.K.Sink.written c.try_held.new.sink) c.outcome_of.result comes;
      keeps_up = KeepsUp_grew m c.args.limit _ _ _ _ (g.K.Sink.written c.try_held.new.sink) i.1 (c.try_held.ensures.grew i.0.0 i.0.1 may.stands may.accepted);
      leaves = Leaves_unwritten g.S.Source g.K.Sink c.args.source.now c.loop-progress.source c.args.sink.now c.loop-progress.sink c.try_held.new.sink
          c.try_held.result c.in-Err.fault c.outcome_of.result c.outcome_of.ensures c.in-Err.is i.5 i.6 c.try_held.ensures.writes;
    }

pub returns-in-Some : goal.returns-in-Some
returns-in-Some g c =
    let i = c.loop-progress.invariant in
    let e = c.in-Some.ensures in
    let m = g.T.Treatment.meaning in
    let may = IsAt_open m (g.T.Treatment.stands c.loop-progress.treatment) _ _ _ _ c.loop-progress.progress.reader c.loop-progress.progress.output
    c.loop-progress.progress.number i.0.0 i.0.1 i.0.2 (c.if-is_full.ensures i.0.0 i.0.2.stands) in
    let here = subst (λ done. TriesHeld m (g.T.Treatment.stands c.try_held.new.treatment) (g.S.Source.left c.args.source.now)
    (g.S.Source.left c.loop-progress.source) (g.K.Sink.written c.args.sink.now) (g.K.Sink.written c.try_held.new.sink) c.try_held.new.self.reader
    c.try_held.new.self.output c.try_held.new.self.number i.0.0 i.0.1 (Ok done)) c.in-Ok-false.field-0-test
    (c.in-Ok-false.ensures.tries _ _ _ i.0.0 i.0.1 may) in
    let grew = KeepsUp_grew m c.args.limit _ _ _ _ (g.K.Sink.written c.try_held.new.sink) i.1 (c.try_held.ensures.grew i.0.0 i.0.1 may.stands may.accepted) in
    let limit = c.try_held.ensures.same.1 ∙ i.4 in
    let comes : Comes m c.args.limit (g.S.Source.left c.args.source.now) (g.S.Source.left c.turn.new.source) (g.K.Sink.written c.args.sink.now)
    (g.K.Sink.written c.turn.new.sink) c.in-Some.outcome =
    rw (sym limit) (e.turns _ _ i.0.0 i.0.1 here) in record {
      comes = comes;
      answers = λ definite. Comes_answers m definite c.args.limit (g.S.Source.left c.args.source.now) (g.S.Source.left c.turn.new.source)
          (g.K.Sink.written c.args.sink.now) (g.K.Sink.written c.turn.new.sink) c.in-Some.outcome comes;
      keeps_up = rw (sym limit) (c.turn.ensures.keeps_up _ _ _ _ here (rw limit grew));
      leaves = Leaves_since g.S.Source g.K.Sink c.args.source.now c.loop-progress.source c.turn.new.source c.args.sink.now c.try_held.new.sink c.turn.new.sink
          c.in-Some.outcome i.5 (c.in-Ok-false.ensures.writes.still (Ok_no_error _ _) ∙ i.6) e.leaves;
    }

pub loop-progress-preserved-in-Ok-true : goal.loop-progress-preserved-in-Ok-true
loop-progress-preserved-in-Ok-true g c =
    let i = c.loop-progress.invariant in
    let m = g.T.Treatment.meaning in
    let may = IsAt_open m (g.T.Treatment.stands c.loop-progress.treatment) _ _ _ _ c.loop-progress.progress.reader c.loop-progress.progress.output
    c.loop-progress.progress.number i.0.0 i.0.1 i.0.2 (c.if-is_full.ensures i.0.0 i.0.2.stands) in (
      subst (λ done. TriesHeld m (g.T.Treatment.stands c.try_held.new.treatment) (g.S.Source.left c.args.source.now) (g.S.Source.left c.loop-progress.source)
          (g.K.Sink.written c.args.sink.now) (g.K.Sink.written c.try_held.new.sink) c.try_held.new.self.reader c.try_held.new.self.output
          c.try_held.new.self.number i.0.0 i.0.1 (Ok done)) c.in-Ok-true.field-0-test (c.in-Ok-true.ensures.tries _ _ _ i.0.0 i.0.1 may),
      KeepsUp_grew m c.args.limit _ _ _ _ (g.K.Sink.written c.try_held.new.sink) i.1 (c.try_held.ensures.grew i.0.0 i.0.1 may.stands may.accepted),
      i.2,
      c.try_held.ensures.counted,
      c.try_held.ensures.same.1 ∙ i.4,
      i.5,
      c.in-Ok-true.ensures.writes.still (Ok_no_error _ _) ∙ i.6,
    )

pub loop-progress-preserved : goal.loop-progress-preserved
loop-progress-preserved g c =
    let i = c.loop-progress.invariant in
    let e = c.in_default-turn.ensures in
    let m = g.T.Treatment.meaning in
    let may = IsAt_open m (g.T.Treatment.stands c.loop-progress.treatment) _ _ _ _ c.loop-progress.progress.reader c.loop-progress.progress.output
    c.loop-progress.progress.number i.0.0 i.0.1 i.0.2 (c.if-is_full.ensures i.0.0 i.0.2.stands) in
    let here = subst (λ done. TriesHeld m (g.T.Treatment.stands c.try_held.new.treatment) (g.S.Source.left c.args.source.now)
    (g.S.Source.left c.loop-progress.source) (g.K.Sink.written c.args.sink.now) (g.K.Sink.written c.try_held.new.sink) c.try_held.new.self.reader
    c.try_held.new.self.output c.try_held.new.self.number i.0.0 i.0.1 (Ok done)) c.in-Ok-false.field-0-test
    (c.in-Ok-false.ensures.tries _ _ _ i.0.0 i.0.1 may) in
    let grew = KeepsUp_grew m c.args.limit _ _ _ _ (g.K.Sink.written c.try_held.new.sink) i.1 (c.try_held.ensures.grew i.0.0 i.0.1 may.stands may.accepted) in
    let limit = c.try_held.ensures.same.1 ∙ i.4 in (
      e.turns _ _ i.0.0 i.0.1 here,
      rw (sym limit) (c.turn.ensures.keeps_up _ _ _ _ here (rw limit grew)),
      e.leaves.unended,
      e.leaves.counted,
      e.leaves.limit ∙ limit,
      e.leaves.unread ∙ i.5,
      e.leaves.written ∙ (c.in-Ok-false.ensures.writes.still (Ok_no_error _ _) ∙ i.6),
    )
