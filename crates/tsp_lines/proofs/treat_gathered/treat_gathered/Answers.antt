-- What comes of the octets that were gathered comes of the input.
use Rattle.std.proofs.Common.{◌∙◌, ap, sym, arith, ◌≡◌, [], Some, Err, drop, refl}
use Rattle.tsp_lines.specs.{Outcomes.Comes, declared.treat.Outcome.TheVariants.ReadFault, declared.treat.Outcome.TheVariants.OutOfMemory}
use Rattle.tsp_lines.specs.declared.gather.Ungathered.TheVariants.{ReadFault as NotRead, OutOfMemory as NoMemory}
use Rattle.tsp_lines.proofs.{OneAnswer.Comes_answers, Outputs.Grows_nil, Turns.Comes_nothing}
use Rattle.tsp_lines.proofs.WholeInputs.{Comes_given, ComesGathered_comes, ended_given}
use Rattle.tsp_lines.proofs.treat_gathered.treat_gathered.Goals as goal

pub returns-in-Ok : goal.returns-in-Ok
returns-in-Ok g c =
    let e = c.in-Ok.ensures.comes in
    let t = c.treat_all.ensures in
    let read : c.treat_all.result ≡ ReadFault → ⊥ = λ r. absurd (omega (arith, (t.leaves.read r).0)) in
    let given : Comes g.T.Treatment.meaning c.args.limit (g.S.Source.left c.args.source.now) (g.S.Source.left c.gather.new.source)
    (g.K.Sink.written c.args.sink.now) (g.K.Sink.written c.treat_all.new.sink) c.treat_all.result =
    Comes_given g.T.Treatment.meaning c.args.limit (g.S.Source.left c.args.source.now) (g.S.Source.left c.gather.new.source)
    (Some (drop c.treat_all.new.source.at c.treat_all.new.source.octets.items)) (g.K.Sink.written c.args.sink.now) (g.K.Sink.written c.treat_all.new.sink)
    (g.S.Source.ended c.gather.new.source) c.in-Ok.gathered.octets.items c.in-Ok.gathered.at c.treat_all.result e.0 e.1 read t.comes in record {
      comes = ComesGathered_comes g.T.Treatment.meaning c.args.limit (g.S.Source.left c.args.source.now) (g.S.Source.left c.gather.new.source)
          (g.K.Sink.written c.args.sink.now) (g.K.Sink.written c.treat_all.new.sink) c.treat_all.result read given;
      answers = λ definite. Comes_answers g.T.Treatment.meaning definite c.args.limit (g.S.Source.left c.args.source.now) (g.S.Source.left c.gather.new.source)
          (g.K.Sink.written c.args.sink.now) (g.K.Sink.written c.treat_all.new.sink) c.treat_all.result given;
      gathered = λ r m. (c.in-Ok.gathered.octets.items, e.0);
      unwritten = λ r. absurd (read r);
      leaves = record {
        later = (c.gather.ensures.faults.later, t.leaves.later.1);
        read = λ r. absurd (read r);
        write = t.leaves.write;
        still = (λ r. c.gather.ensures.faults.still (λ n. let q = sym c.in-Ok.is ∙ n in cc), t.leaves.still.1);
        ended = λ done. ended_given g.T.Treatment.meaning c.args.limit (g.S.Source.left c.args.source.now) (g.S.Source.left c.gather.new.source)
            (Some (drop c.treat_all.new.source.at c.treat_all.new.source.octets.items)) (g.K.Sink.written c.args.sink.now)
            (g.K.Sink.written c.treat_all.new.sink) (g.S.Source.ended c.gather.new.source) c.in-Ok.gathered.octets.items c.in-Ok.gathered.at c.treat_all.result
            e.0 e.1 t.comes done;
      };
    }

pub returns-in-Err-ReadFault : goal.returns-in-Err-ReadFault
returns-in-Err-ReadFault g c =
    let fault : c.gather.result ≡ Err NotRead = c.in-Err-ReadFault.is ∙ ap Err c.in-Err-ReadFault.field-0-is in
    let u = rw fault at c.gather.ensures.comes in record {
      comes = (u.0, refl);
      answers = λ definite octets outcome output told answer. (output, ([], refl, Grows_nil _));
      gathered = λ r m. absurd (r refl);
      unwritten = λ r. refl;
      leaves = record {
        later = (c.gather.ensures.faults.later, omega arith);
        read = λ r. (c.gather.ensures.faults.cause fault, u.1);
        write = λ r. cc;
        still = (λ r. absurd (r refl), λ r. refl);
        ended = λ r. cc;
      };
    }

pub returns-in-Err-OutOfMemory : goal.returns-in-Err-OutOfMemory
returns-in-Err-OutOfMemory g c =
    let fault : c.gather.result ≡ Err NoMemory = c.in-Err-OutOfMemory.is ∙ ap Err c.in-Err-OutOfMemory.field-0-is in record {
      comes = Comes_nothing g.T.Treatment.meaning _ _ _ c.requires.nothing;
      answers = λ definite. Comes_answers g.T.Treatment.meaning definite c.args.limit (g.S.Source.left c.args.source.now) (g.S.Source.left c.gather.new.source)
          (g.K.Sink.written c.args.sink.now) (g.K.Sink.written c.args.sink.now) OutOfMemory (Comes_nothing g.T.Treatment.meaning c.args.limit
          (g.S.Source.left c.args.source.now) (g.K.Sink.written c.args.sink.now) c.requires.nothing);
      gathered = λ r m. absurd (m refl);
      unwritten = λ r. cc;
      leaves = record {
        later = (c.gather.ensures.faults.later, omega arith);
        read = λ r. cc;
        write = λ r. cc;
        still = (λ r. c.gather.ensures.faults.still (λ n. let q = sym fault ∙ n in cc), λ r. refl);
        ended = λ r. cc;
      };
    }
