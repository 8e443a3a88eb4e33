use Rattle.std.proofs.Common.{[], inl, refl, ap, ◌∙◌, Ok, Err, arith, length}
use Rattle.tsp_lines.specs.declared.treatment.Stop.TheVariants.{Limit as Limited}
use Rattle.tsp_lines.proofs.Leaving.{Counts_told, Leaves_failed, Leaves_read, Leaves_unwritten, not_unread, unfailed}
use Rattle.tsp_lines.proofs.{Turns.After_next, Turns.Comes_unflushed, Turns.Turn_full, Turns.Turn_end, Turns.Turn_failed, Comes.no_sayings}
use Rattle.tsp_lines.proofs.{KeepingUp.KeepsUp_grew, KeepingUp.KeepsUp_peek, KeepingUp.Ends_grew, Outputs.Ends_broken}
use Rattle.tsp_lines.specs.{Turns.only_limited, Turns.end_sayings, Turns.outcome_of, Outcomes.limit_line, Readings.meets_end}
use Rattle.tsp_lines.proofs.progress.Progress.close.Goals as goal

pub returns-in-Ok-More : goal.returns-in-Ok-More
returns-in-Ok-More g c = record {
  closes = λ input written lines text at.
      let f = c.in-Ok-More.ensures.fills in
      let some = rw (c.in-Ok-More.field-0-is, f.0.2) at f.1 in
      let a = After_next _ _ _ _ _ _ _ _ _ c.peek.new.self.reader _ c.peek.new.self.output _ c.peek.new.self.number lines text f.0.0 at f.0.1 f.0.3
      c.peek.ensures.hands c.peek.ensures.same.0 c.peek.ensures.same.1 in
      Turn_full _ _ _ _ _ _ _ c.peek.new.self.reader _ _ lines text _ a _ c.stop.result (c.requires.full lines at.stands) some c.stop.ensures.stops;
  keeps_up = λ input written lines text at kept.
      let f = c.in-Ok-More.ensures.fills in
      KeepsUp_grew g.T.Treatment.meaning _ _ _ _ (g.K.Sink.written c.peek.new.sink) _
      (KeepsUp_peek g.T.Treatment.meaning _ _ _ _ _ _ (g.K.Sink.written c.peek.new.sink) c.args.self.now.reader c.peek.new.self.reader _
      c.peek.new.self.output _ lines text f.0.0 at f.0.1 f.0.2 f.0.3 c.peek.ensures.hands (omega (
        arith,
        c.in-Ok-More.ensures.fits.0,
        c.peek.ensures.same.1,
      )) c.in-Ok-More.ensures.fits.1 c.in-Ok-More.ensures.flushed) (Ends_grew (only_limited (limit_line c.peek.new.self.number)) _ _ _
      _ c.stop.ensures.stops);
  leaves =
      Leaves_read g.S.Source g.K.Sink c.args.source.now c.peek.new.source c.args.sink.now c.peek.new.sink c.stop.new.sink c.stop.result
      (not_unread _ _ _ c.in-Ok-More.is c.in-Ok-More.field-0-is (λ e. cc) c.peek.ensures.reads)
      (unfailed _ _ c.peek.result _ c.in-Ok-More.is c.peek.ensures.writes)
      (Counts_told _ _ Limited _ (λ e. cc) c.stop.ensures.writes) c.stop.ensures.kind.0 (λ e. absurd (c.stop.ensures.kind.1 e));
}

pub returns-in-Ok-Over : goal.returns-in-Ok-Over
returns-in-Ok-Over g c = record {
  closes = λ input written lines text at.
      let f = c.in-Ok-Over.ensures.fills in
      let none = rw (c.in-Ok-Over.field-0-is, f.0.2) at f.1 in
      let a = After_next _ _ _ _ _ _ _ _ _ c.peek.new.self.reader _ c.peek.new.self.output _ c.peek.new.self.number lines text f.0.0 at f.0.1 f.0.3
      c.peek.ensures.hands c.peek.ensures.same.0 c.peek.ensures.same.1 in
      Turn_end _ _ _ _ _ _ _ c.peek.new.self.reader _ _ lines text _ a _ c.finish.result none (c.peek.ensures.over (c.in-Ok-Over.is ∙
      ap Ok c.in-Ok-Over.field-0-is)) (c.finish.ensures.ends lines text at.stands at.accepted);
  keeps_up = λ input written lines text at kept.
      let f = c.in-Ok-Over.ensures.fills in
      KeepsUp_grew g.T.Treatment.meaning _ _ _ _ (g.K.Sink.written c.peek.new.sink) _
      (KeepsUp_peek g.T.Treatment.meaning _ _ _ _ _ _ (g.K.Sink.written c.peek.new.sink) c.args.self.now.reader c.peek.new.self.reader _
      c.peek.new.self.output _ lines text f.0.0 at f.0.1 f.0.2 f.0.3 c.peek.ensures.hands (omega (
        arith,
        c.in-Ok-Over.ensures.fits.0,
        c.peek.ensures.same.1,
      )) c.in-Ok-Over.ensures.fits.1 c.in-Ok-Over.ensures.flushed)
      (Ends_grew (end_sayings g.T.Treatment.meaning lines c.peek.new.self.number) _ _ _ _ (c.finish.ensures.ends lines text at.stands at.accepted));
  leaves =
      Leaves_read g.S.Source g.K.Sink c.args.source.now c.peek.new.source c.args.sink.now c.peek.new.sink c.finish.new.sink c.finish.result
      (not_unread _ _ _ c.in-Ok-Over.is c.in-Ok-Over.field-0-is (λ e. cc) c.peek.ensures.reads)
      (unfailed _ _ c.peek.result _ c.in-Ok-Over.is c.peek.ensures.writes)
      c.finish.ensures.writes c.finish.ensures.kind (λ e. c.in-Ok-Over.ensures.ended ∙ ap meets_end c.in-Ok-Over.field-0-is);
}

pub returns-in-Ok-NotRead : goal.returns-in-Ok-NotRead
returns-in-Ok-NotRead g c = record {
  closes = λ input written lines text at.
      let f = c.in-Ok-NotRead.ensures.fills in
      let none = rw (c.in-Ok-NotRead.field-0-is, f.0.2) at f.1 in
      let a = After_next _ _ _ _ _ _ _ _ _ c.peek.new.self.reader _ c.peek.new.self.output _ c.peek.new.self.number lines text f.0.0 at f.0.1 f.0.3
      c.peek.ensures.hands c.peek.ensures.same.0 c.peek.ensures.same.1 in
      Turn_failed _ _ _ _ _ _ _ c.peek.new.self.reader _ _ lines text _ a (rw none (λ k. omega (arith, k.1))) (omega (arith, a.within, a.bound, ap length none))
      (λ full. none) c.in-Ok-NotRead.ensures.flushed;
  keeps_up = λ input written lines text at kept.
      let f = c.in-Ok-NotRead.ensures.fills in
      KeepsUp_peek g.T.Treatment.meaning _ _ _ _ _ _ (g.K.Sink.written c.peek.new.sink) c.args.self.now.reader c.peek.new.self.reader _ c.peek.new.self.output _
      lines text f.0.0 at f.0.1 f.0.2 f.0.3 c.peek.ensures.hands (omega (arith, c.in-Ok-NotRead.ensures.fits.0, c.peek.ensures.same.1))
      c.in-Ok-NotRead.ensures.fits.1 c.in-Ok-NotRead.ensures.flushed;
  leaves = Leaves_failed g.S.Source g.K.Sink c.args.source.now c.peek.new.source c.args.sink.now c.peek.new.sink _ c.peek.ensures.reads (c.in-Ok-NotRead.is ∙
      ap Ok c.in-Ok-NotRead.field-0-is) (c.in-Ok-NotRead.ensures.ended ∙ ap meets_end c.in-Ok-NotRead.field-0-is)
      (unfailed _ _ c.peek.result _ c.in-Ok-NotRead.is c.peek.ensures.writes);
}

pub returns-in-Err : goal.returns-in-Err
returns-in-Err g c = record {
  closes = λ input written lines text at.
      rw c.outcome_of.ensures (Comes_unflushed _ _ input _ (g.S.Source.left c.peek.new.source) written _ _ _ _ c.peek.new.self.output _ lines text
      (outcome_of c.in-Err.fault) at
      (Ends_broken no_sayings _ _ _ c.peek.new.self.output c.in-Err.fault ([], c.peek.ensures.hands, inl refl) (λ e. c.peek.ensures.unwritten (c.in-Err.is ∙
      ap Err e))));
  keeps_up = λ input written lines text at kept.
      rw (ap g.S.Source.left c.in-Err.ensures.kept) (KeepsUp_grew g.T.Treatment.meaning _ _ _ _ _ _ kept (c.peek.ensures.hands.0, c.peek.ensures.hands.1));
  leaves = Leaves_unwritten g.S.Source g.K.Sink c.args.source.now c.peek.new.source c.args.sink.now c.args.sink.now c.peek.new.sink c.peek.result c.in-Err.fault
      c.outcome_of.result c.outcome_of.ensures c.in-Err.is (ap g.S.Source.faults c.in-Err.ensures.kept) refl c.peek.ensures.writes;
}
