-- The first line that is held was treated, or nothing has changed, or its output wasn't written.
use Rattle.std.proofs.Common.{ap, subst, refl, arith, [], ◌∷◌, ◌++◌, Err}
use Rattle.tsp_lines.specs.{Lines.IsFront, Meanings.BreaksOff, Meanings.Tried, Readings.ReaderValue}
use Rattle.tsp_lines.proofs.Turns.{IsAt_front, Comes_broken}
use Rattle.tsp_lines.proofs.progress.Progress.try_held.Goals as goal

pub returns-in-Ok-Some-clause-tries : goal.returns-in-Ok-Some-clause-tries
returns-in-Ok-Some-clause-tries g c = λ input left written lines text at.
    let m = g.T.Treatment.meaning in
    let t = subst (λ front. Tried m (g.T.Treatment.stands c.try_front.new.self) lines text c.octets.result.now (g.K.Sink.written c.args.sink.now)
    c.args.self.now.output (g.K.Sink.written c.try_front.new.sink) c.try_front.new.output front) c.in-Ok-Some.field-0-is
    (c.in-Ok-Some.ensures.tries lines text at.stands.0 at.accepted at.stands.1) in
    let f = subst (λ octets. IsFront octets c.in-Ok-Some.count t.0) c.octets.ensures t.1 in (
      lines ++ t.0 ∷ [],
      text ++ t.2.0,
      IsAt_front m _ _ input left written _ _ c.args.self.now.reader c.skip.new.self c.args.self.now.output _ c.args.self.now.number _ lines text t.0
          c.in-Ok-Some.count at f
          (ap (λ (r : ReaderValue). r.held) c.skip.ensures)
          (ap (λ (r : ReaderValue). r.got) c.skip.ensures)
          (ap (λ (r : ReaderValue). r.limit) c.skip.ensures)
          (omega arith)
          refl
          t.2,
    )

pub returns-in-Err-clause-tries : goal.returns-in-Err-clause-tries
returns-in-Err-clause-tries g c = λ input left written lines text at.
    Comes_broken g.T.Treatment.meaning _ input left written _ _ c.args.self.now.reader c.args.self.now.output _ c.args.self.now.number lines text c.in-Err.fault
    at at.stands.1 (omega arith)
    (subst (λ octets. BreaksOff g.T.Treatment.meaning lines text octets (g.K.Sink.written c.args.sink.now) c.args.self.now.output
    (g.K.Sink.written c.try_front.new.sink) c.try_front.new.output) c.octets.ensures (c.in-Err.ensures.tries lines text at.stands.0 at.accepted
    at.stands.1))
    (λ e. (c.in-Err.ensures.cause (ap Err e)).1)
