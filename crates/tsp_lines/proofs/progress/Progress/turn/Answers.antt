use Rattle.std.proofs.Common.{◌≡◌, refl, ap, sym, ◌∙◌, [], ◌∷◌, ◌++◌, inl, inr, arith, Ok, Err, Some}
use Rattle.tsp_lines.specs.declared.treatment.Stop.TheVariants.{Limit as Limited}
use Rattle.tsp_lines.specs.{Outcomes.limit_line, Readings.ends_input, Turns.only_limited, Turns.end_sayings, Turns.line_sayings, Turns.outcome_of}
use Rattle.tsp_lines.proofs.{Comes.no_sayings, Outputs.Ends_broken}
use Rattle.tsp_lines.proofs.Leaving.{Counts_some, Counts_told, Leaves_failed, Leaves_read, Leaves_unwritten, Line_leaves, not_failed, unfailed}
use Rattle.tsp_lines.proofs.KeepingUp.{KeepsUp_grew, KeepsUp_next, Ends_grew, Treats_grew, Grew_trans}
use Rattle.tsp_lines.proofs.Turns.{After_next, Comes_unflushed, Turn_line, Turn_last, Turn_last_end, HasNext_long, HasNext_long_last, Comes_line, Turn_end}
use Rattle.tsp_lines.proofs.Turns.{Turn_limit, Turn_failed, length_line}
use Rattle.tsp_lines.proofs.progress.Progress.turn.Goals as goal

pub returns-in-Err : goal.returns-in-Err
returns-in-Err g c = record {
  turns = λ input written lines text at.
      rw c.outcome_of.ensures (Comes_unflushed _ _ input _ (g.S.Source.left c.next.new.source) written _ _ _ _ c.next.new.self.output _ lines text
      (outcome_of c.in-Err.fault) at
      (Ends_broken no_sayings _ _ _ c.next.new.self.output c.in-Err.fault ([], c.next.ensures.hands, inl refl) (λ e. c.next.ensures.unwritten (c.in-Err.is ∙
      ap Err e))));
  keeps_up = λ input written lines text at kept.
      rw (ap g.S.Source.left c.in-Err.ensures.kept) (KeepsUp_grew g.T.Treatment.meaning _ _ _ _ _ _ kept (c.next.ensures.hands.0, c.next.ensures.hands.1));
  leaves = Leaves_unwritten g.S.Source g.K.Sink c.args.source.now c.next.new.source c.args.sink.now c.args.sink.now c.next.new.sink c.next.result c.in-Err.fault
      c.outcome_of.result c.outcome_of.ensures c.in-Err.is (ap g.S.Source.faults c.in-Err.ensures.kept) refl c.next.ensures.writes;
}

pub returns-in-Line : goal.returns-in-Line
returns-in-Line g c = record {
  turns = λ input written lines text at.
      let n = c.in-Ok.ensures.next in
      let a = After_next _ _ _ _ _ _ _ _ _ c.next.new.self.reader _ c.next.new.self.output _ c.next.new.self.number lines text n.0 at n.1 n.2
      c.next.ensures.hands c.next.ensures.same.0 c.next.ensures.same.1 in
      rw c.treat.ensures.same (Turn_line _ _ _ _ _ _ _ c.next.new.self.reader _ _ lines text _ a _ _ c.treat.new.self.output _ c.treat.result at.stands.1
      (rw c.in-Line.is at n.3) c.treat.ensures.number (c.treat.ensures.treats lines text at.stands.0 at.accepted at.stands.1));
  keeps_up = λ input written lines text at kept.
      let n = c.in-Ok.ensures.next in
      KeepsUp_grew g.T.Treatment.meaning _ _ _ _ (g.K.Sink.written c.next.new.sink) _
      (KeepsUp_next g.T.Treatment.meaning _ _ _ _ _ _ (g.K.Sink.written c.next.new.sink) c.args.self.now.reader c.next.new.self.reader _
      c.next.new.self.output _ lines text n.0 c.in-Ok.next at kept n.1 n.2 c.next.ensures.hands n.3 (omega (
        arith,
        c.next.ensures.same.1,
        c.next.ensures.same.2,
      )) (elim c.next.ensures.flushed [ inl e ↦ inl (ap g.S.Source.left e) | inr e ↦ inr e ]))
      (Treats_grew g.T.Treatment.meaning (g.T.Treatment.stands c.treat.new.treatment) (line_sayings g.T.Treatment.meaning lines text c.next.new.self.number
      c.next.new.self.reader.line) lines text c.next.new.self.reader.line _ c.treat.new.self.output _ _ c.treat.result
      (c.treat.ensures.treats lines text at.stands.0 at.accepted at.stands.1));
  leaves =
      let n = c.in-Ok.ensures.next in
      let l = length_line c.next.new.self.reader c.args.self.now.reader.held n.0 (rw c.in-Line.is at n.3) in
      let r = not_failed _ c.in-Ok.next _ c.in-Ok.is c.in-Line.is (λ e. cc) c.next.ensures.reads in
      let w = unfailed _ _ c.next.result c.in-Ok.next c.in-Ok.is c.next.ensures.writes in
      Line_leaves g.S.Source g.K.Sink c.args.source.now c.next.new.source c.args.sink.now c.next.new.sink c.treat.new.sink c.args.self.now.reader
      c.treat.new.self.reader c.treat.new.self.number c.treat.result r w c.treat.ensures.writes c.treat.ensures.kind
      (λ none. record {
        unended = c.in-Ok.ensures.ended ∙ ap ends_input c.in-Line.is;
        counted = rw c.treat.ensures.same (omega (arith, l, n.2, c.requires.counted, c.next.ensures.same.0, c.treat.ensures.number none));
        smaller = rw c.treat.ensures.same (omega (arith, l, n.2, c.next.ensures.same.1, c.next.ensures.same.2));
        limit = rw c.treat.ensures.same c.next.ensures.same.1;
        unread = r;
        written = c.treat.ensures.writes.still (λ e. let q = sym none ∙ e in cc) ∙ w;
      });
}

pub returns-in-Some : goal.returns-in-Some
returns-in-Some g c = record {
  turns = λ input written lines text at.
      let n = c.in-Ok.ensures.next in
      let a = After_next _ _ _ _ _ _ _ _ _ c.next.new.self.reader _ c.next.new.self.output _ c.next.new.self.number lines text n.0 at n.1 n.2
      c.next.ensures.hands c.next.ensures.same.0 c.next.ensures.same.1 in
      Turn_last _ _ _ _ _ _ _ c.next.new.self.reader _ _ lines text _ a _ c.in-Some.outcome at.stands.1 (rw c.in-Last.is at n.3)
      (c.in-Ok.ensures.over (ap ends_input c.in-Last.is)) (c.in-Some.ensures.treats lines text at.stands.0 at.accepted at.stands.1);
  keeps_up = λ input written lines text at kept.
      let n = c.in-Ok.ensures.next in
      KeepsUp_grew g.T.Treatment.meaning _ _ _ _ (g.K.Sink.written c.next.new.sink) _
      (KeepsUp_next g.T.Treatment.meaning _ _ _ _ _ _ (g.K.Sink.written c.next.new.sink) c.args.self.now.reader c.next.new.self.reader _
      c.next.new.self.output _ lines text n.0 c.in-Ok.next at kept n.1 n.2 c.next.ensures.hands n.3 (omega (
        arith,
        c.next.ensures.same.1,
        c.next.ensures.same.2,
      )) (elim c.next.ensures.flushed [ inl e ↦ inl (ap g.S.Source.left e) | inr e ↦ inr e ]))
      (Ends_grew (line_sayings g.T.Treatment.meaning lines text c.next.new.self.number c.next.new.self.reader.line) _ _ _ _
      (c.in-Some.ensures.treats lines text at.stands.0 at.accepted at.stands.1));
  leaves =
      Leaves_read g.S.Source g.K.Sink c.args.source.now c.next.new.source c.args.sink.now c.next.new.sink c.treat-in-Last.new.sink c.in-Some.outcome
      (not_failed _ c.in-Ok.next _ c.in-Ok.is c.in-Last.is (λ e. cc) c.next.ensures.reads) (unfailed _ _ c.next.result c.in-Ok.next c.in-Ok.is
      c.next.ensures.writes)
      (Counts_some _ _ _ _ c.in-Some.ensures.writes) (λ e. c.in-Some.ensures.kind.0 (ap Some e)) (λ e. absurd (c.in-Some.ensures.kind.1 (ap Some e)));
}

pub returns-in-None : goal.returns-in-None
returns-in-None g c = record {
  turns = λ input written lines text at.
      let n = c.in-Ok.ensures.next in
      let a = After_next _ _ _ _ _ _ _ _ _ c.next.new.self.reader _ c.next.new.self.output _ c.next.new.self.number lines text n.0 at n.1 n.2
      c.next.ensures.hands c.next.ensures.same.0 c.next.ensures.same.1 in
      let t = c.in-None.ensures.treats lines text at.stands.0 at.accepted at.stands.1 in
      Turn_last_end _ _ _ _ _ _ _ c.next.new.self.reader _ _ lines text _ a (g.T.Treatment.stands c.treat-in-Last.new.treatment) _ _
      c.treat-in-Last.new.self.output c.treat-in-Last.new.self.number c.finish.result (rw c.in-Last.is at n.3)
      (c.in-Ok.ensures.over (ap ends_input c.in-Last.is)) (c.treat-in-Last.ensures.number c.in-None.is) t
      (c.finish.ensures.ends _ _ t.3 t.2);
  keeps_up = λ input written lines text at kept.
      let n = c.in-Ok.ensures.next in
      let t = c.in-None.ensures.treats lines text at.stands.0 at.accepted at.stands.1 in
      KeepsUp_grew g.T.Treatment.meaning _ _ _ _ (g.K.Sink.written c.next.new.sink) _
      (KeepsUp_next g.T.Treatment.meaning _ _ _ _ _ _ (g.K.Sink.written c.next.new.sink) c.args.self.now.reader c.next.new.self.reader _
      c.next.new.self.output _ lines text n.0 c.in-Ok.next at kept n.1 n.2 c.next.ensures.hands n.3 (omega (
        arith,
        c.next.ensures.same.1,
        c.next.ensures.same.2,
      )) (elim c.next.ensures.flushed [ inl e ↦ inl (ap g.S.Source.left e) | inr e ↦ inr e ]))
      (Grew_trans _ (g.K.Sink.written c.treat-in-Last.new.sink) _ (t.1.0, t.1.1) (Ends_grew (end_sayings g.T.Treatment.meaning (lines ++
      c.next.new.self.reader.line ∷ []) c.treat-in-Last.new.self.number) _ _ _ _ (c.finish.ensures.ends _ _ t.3 t.2)));
  leaves =
      Leaves_read g.S.Source g.K.Sink c.args.source.now c.next.new.source c.args.sink.now c.treat-in-Last.new.sink c.finish.new.sink c.finish.result
      (not_failed _ c.in-Ok.next _ c.in-Ok.is c.in-Last.is (λ e. cc) c.next.ensures.reads) (c.in-None.ensures.writes.still (λ e. cc) ∙
      (unfailed _ _ c.next.result c.in-Ok.next c.in-Ok.is c.next.ensures.writes))
      c.finish.ensures.writes c.finish.ensures.kind (λ e. c.in-Ok.ensures.ended ∙ ap ends_input c.in-Last.is);
}

pub returns-in-Long : goal.returns-in-Long
returns-in-Long g c = record {
  turns = λ input written lines text at.
      let n = c.in-Ok.ensures.next in
      let a = After_next _ _ _ _ _ _ _ _ _ c.next.new.self.reader _ c.next.new.self.output _ c.next.new.self.number lines text n.0 at n.1 n.2
      c.next.ensures.hands c.next.ensures.same.0 c.next.ensures.same.1 in
      elim c.in-Long.is [
        | inl e ↦ let m = rw e at n.3 in Comes_line _ _ _ _ _ _ _ c.next.new.self.reader _ _ lines text _ a _ m.0 c.refuse_long.result at.stands.1
            (HasNext_long _ _ _ _ _ _ _ c.next.new.self.reader _ _ lines text _ a m) (c.refuse_long.ensures.ends lines text m.0 at.stands.0 at.accepted
            at.stands.1 m.1 m.2 m.4)
        | inr e ↦ let m = rw e at n.3 in Comes_line _ _ _ _ _ _ _ c.next.new.self.reader _ _ lines text _ a _ _ c.refuse_long.result at.stands.1
            (HasNext_long_last _ _ _ _ _ _ _ c.next.new.self.reader _ _ lines text _ a m (c.in-Ok.ensures.over (ap ends_input e)))
            (c.refuse_long.ensures.ends lines text _ at.stands.0 at.accepted at.stands.1 m.0 m.1 m.3)
      ];
  keeps_up = λ input written lines text at kept.
      let n = c.in-Ok.ensures.next in
      KeepsUp_grew g.T.Treatment.meaning _ _ _ _ (g.K.Sink.written c.next.new.sink) _
      (KeepsUp_next g.T.Treatment.meaning _ _ _ _ _ _ (g.K.Sink.written c.next.new.sink) c.args.self.now.reader c.next.new.self.reader _
      c.next.new.self.output _ lines text n.0 c.in-Ok.next at kept n.1 n.2 c.next.ensures.hands n.3 (omega (
        arith,
        c.next.ensures.same.1,
        c.next.ensures.same.2,
      )) (elim c.next.ensures.flushed [ inl e ↦ inl (ap g.S.Source.left e) | inr e ↦ inr e ]))
      (elim c.in-Long.is [
        | inl e ↦ let m = rw e at n.3 in Ends_grew (line_sayings g.T.Treatment.meaning lines text c.next.new.self.number m.0) _ _ _ _
            (c.refuse_long.ensures.ends lines text m.0 at.stands.0 at.accepted at.stands.1 m.1 m.2 m.4)
        | inr e ↦ let m = rw e at n.3 in Ends_grew (line_sayings g.T.Treatment.meaning lines text c.next.new.self.number (c.args.self.now.reader.held ++ n.0)) _
            _ _ _ (c.refuse_long.ensures.ends lines text _ at.stands.0 at.accepted at.stands.1 m.0 m.1 m.3)
      ]);
  leaves =
      let r : g.S.Source.faults c.next.new.source ≡ g.S.Source.faults c.args.source.now =
      elim c.in-Long.is [
        | inl e ↦ not_failed _ c.in-Ok.next _ c.in-Ok.is e (λ f. cc) c.next.ensures.reads
        | inr e ↦
            not_failed _ c.in-Ok.next _ c.in-Ok.is e (λ f. cc) c.next.ensures.reads
      ] in
      Leaves_read g.S.Source g.K.Sink c.args.source.now c.next.new.source c.args.sink.now c.next.new.sink c.refuse_long.new.sink c.refuse_long.result r
      (unfailed _ _ c.next.result c.in-Ok.next c.in-Ok.is c.next.ensures.writes)
      c.refuse_long.ensures.writes c.refuse_long.ensures.kind.0 (λ e. absurd (c.refuse_long.ensures.kind.1 e));
}

pub returns-in-End : goal.returns-in-End
returns-in-End g c = record {
  turns = λ input written lines text at.
      let n = c.in-Ok.ensures.next in
      let a = After_next _ _ _ _ _ _ _ _ _ c.next.new.self.reader _ c.next.new.self.output _ c.next.new.self.number lines text n.0 at n.1 n.2
      c.next.ensures.hands c.next.ensures.same.0 c.next.ensures.same.1 in
      Turn_end _ _ _ _ _ _ _ c.next.new.self.reader _ _ lines text _ a _ c.finish-in-End.result (rw c.in-End.is at n.3).0
      (c.in-Ok.ensures.over (ap ends_input c.in-End.is)) (c.finish-in-End.ensures.ends lines text at.stands.0 at.accepted);
  keeps_up = λ input written lines text at kept.
      let n = c.in-Ok.ensures.next in
      KeepsUp_grew g.T.Treatment.meaning _ _ _ _ (g.K.Sink.written c.next.new.sink) _
      (KeepsUp_next g.T.Treatment.meaning _ _ _ _ _ _ (g.K.Sink.written c.next.new.sink) c.args.self.now.reader c.next.new.self.reader _
      c.next.new.self.output _ lines text n.0 c.in-Ok.next at kept n.1 n.2 c.next.ensures.hands n.3 (omega (
        arith,
        c.next.ensures.same.1,
        c.next.ensures.same.2,
      )) (elim c.next.ensures.flushed [ inl e ↦ inl (ap g.S.Source.left e) | inr e ↦ inr e ]))
      (Ends_grew (end_sayings g.T.Treatment.meaning lines c.next.new.self.number) _ _ _ _ (c.finish-in-End.ensures.ends lines text at.stands.0 at.accepted));
  leaves =
      Leaves_read g.S.Source g.K.Sink c.args.source.now c.next.new.source c.args.sink.now c.next.new.sink c.finish-in-End.new.sink c.finish-in-End.result
      (not_failed _ c.in-Ok.next _ c.in-Ok.is c.in-End.is (λ e. cc) c.next.ensures.reads) (unfailed _ _ c.next.result c.in-Ok.next c.in-Ok.is
      c.next.ensures.writes)
      c.finish-in-End.ensures.writes c.finish-in-End.ensures.kind (λ e. c.in-Ok.ensures.ended ∙ ap ends_input c.in-End.is);
}

pub returns-in-Limit : goal.returns-in-Limit
returns-in-Limit g c = record {
  turns = λ input written lines text at.
      let n = c.in-Ok.ensures.next in
      let a = After_next _ _ _ _ _ _ _ _ _ c.next.new.self.reader _ c.next.new.self.output _ c.next.new.self.number lines text n.0 at n.1 n.2
      c.next.ensures.hands c.next.ensures.same.0 c.next.ensures.same.1 in
      Turn_limit _ _ _ _ _ _ _ c.next.new.self.reader _ _ lines text _ a _ c.stop.result (rw c.in-Limit.is at n.3) c.stop.ensures.stops;
  keeps_up = λ input written lines text at kept.
      let n = c.in-Ok.ensures.next in
      KeepsUp_grew g.T.Treatment.meaning _ _ _ _ (g.K.Sink.written c.next.new.sink) _
      (KeepsUp_next g.T.Treatment.meaning _ _ _ _ _ _ (g.K.Sink.written c.next.new.sink) c.args.self.now.reader c.next.new.self.reader _
      c.next.new.self.output _ lines text n.0 c.in-Ok.next at kept n.1 n.2 c.next.ensures.hands n.3 (omega (
        arith,
        c.next.ensures.same.1,
        c.next.ensures.same.2,
      )) (elim c.next.ensures.flushed [ inl e ↦ inl (ap g.S.Source.left e) | inr e ↦ inr e ]))
      (Ends_grew (only_limited (limit_line c.next.new.self.number)) _ _ _ _ c.stop.ensures.stops);
  leaves =
      Leaves_read g.S.Source g.K.Sink c.args.source.now c.next.new.source c.args.sink.now c.next.new.sink c.stop.new.sink c.stop.result
      (not_failed _ c.in-Ok.next _ c.in-Ok.is c.in-Limit.is (λ e. cc) c.next.ensures.reads) (unfailed _ _ c.next.result c.in-Ok.next c.in-Ok.is
      c.next.ensures.writes)
      (Counts_told _ _ Limited _ (λ e. cc) c.stop.ensures.writes) c.stop.ensures.kind.0 (λ e. absurd (c.stop.ensures.kind.1 e));
}

pub returns-in-Failed : goal.returns-in-Failed
returns-in-Failed g c = record {
  turns = λ input written lines text at.
      let n = c.in-Ok.ensures.next in
      let a = After_next _ _ _ _ _ _ _ _ _ c.next.new.self.reader _ c.next.new.self.output _ c.next.new.self.number lines text n.0 at n.1 n.2
      c.next.ensures.hands c.next.ensures.same.0 c.next.ensures.same.1 in
      let f = rw c.in-Failed.is at n.3 in
      Turn_failed _ _ _ _ _ _ _ c.next.new.self.reader _ _ lines text _ a f.0 (omega (arith, f.1, c.next.ensures.same.1)) (λ full. absurd (at.stands.1 full))
      (c.next.ensures.failed (c.in-Ok.is ∙ ap Ok c.in-Failed.is));
  keeps_up = λ input written lines text at kept.
      let n = c.in-Ok.ensures.next in
      KeepsUp_next g.T.Treatment.meaning _ _ _ _ _ _ (g.K.Sink.written c.next.new.sink) c.args.self.now.reader c.next.new.self.reader _ c.next.new.self.output _
      lines text n.0 c.in-Ok.next at kept n.1 n.2 c.next.ensures.hands n.3 (omega (arith, c.next.ensures.same.1, c.next.ensures.same.2))
      (elim c.next.ensures.flushed [ inl e ↦ inl (ap g.S.Source.left e) | inr e ↦ inr e ]);
  leaves = Leaves_failed g.S.Source g.K.Sink c.args.source.now c.next.new.source c.args.sink.now c.next.new.sink _ c.next.ensures.reads (c.in-Ok.is ∙
      ap Ok c.in-Failed.is) (c.in-Ok.ensures.ended ∙ ap ends_input c.in-Failed.is) (unfailed _ _ c.next.result c.in-Ok.next c.in-Ok.is c.next.ensures.writes);
}
