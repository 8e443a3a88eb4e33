use Rattle.std.proofs.Common.{◌≡◌, ◌<◌, ◌∙◌, ◌-◌, ◌∷◌, true, false, if◌then◌else◌, ap, arith, rules, length, take, get_or, refl, sym}
use Rattle.tsp_base.specs.Words.{Here, of, view, acting, begun_to, open_to}
use Rattle.tsp_history.{proofs.NoteLemmas.newest-is, proofs.SendLemmas.sent_here, specs.Histories.history_of, specs.Histories.line_of}
use Rattle.tsp_history.proofs.sends.send_begun_to.Goals as goal

pub loop-left-preserved-in-Keeps : goal.loop-left-preserved-in-Keeps
loop-left-preserved-in-Keeps c =
    let below : c.loop-left.left - 1 < length c.args.lines.now = omega (arith, c.loop-left.invariant.few, c.loop-left-test.true) in
    let is : get_or c.args.lines.now (c.loop-left.left - 1) c.index-lines-left.result ≡ c.index-lines-left.result = search rules in
    record {
      few = omega arith;
      begun = λ e. newest-is (λ h. begun_to c.args.p (view c.args.port (of c.args.node h))) c.args.lines.now c.loop-left.left (c.loop-left.left - 1)
          c.index-lines-left.result (omega arith) below is (c.loop-left.invariant.begun e) ∙
          c.in-Keeps.ensures.begun (history_of (take (c.loop-left.left - 1) c.args.lines.now)) e;
      opened = λ e. newest-is (λ h. open_to c.args.p (view c.args.port (of c.args.node h))) c.args.lines.now c.loop-left.left (c.loop-left.left - 1)
          c.index-lines-left.result (omega arith) below is (c.loop-left.invariant.opened e) ∙
          c.in-Keeps.ensures.opened (history_of (take (c.loop-left.left - 1) c.args.lines.now)) e;
    }

pub returns-in-Ends-clause-begun : goal.returns-in-Ends-clause-begun
returns-in-Ends-clause-begun c e =
    let below : c.loop-left.left - 1 < length c.args.lines.now = omega (arith, c.loop-left.invariant.few, c.loop-left-test.true) in
    let is : get_or c.args.lines.now (c.loop-left.left - 1) c.index-lines-left.result ≡ c.index-lines-left.result = search rules in
    newest-is (λ h. begun_to c.args.p (view c.args.port (of c.args.node h))) c.args.lines.now c.loop-left.left (c.loop-left.left - 1) c.index-lines-left.result
    (omega arith) below is (c.loop-left.invariant.begun e) ∙ c.in-Ends.ensures.begun (history_of (take (c.loop-left.left - 1) c.args.lines.now)) e

pub returns-then-is_acting-clause-begun : goal.returns-then-is_acting-clause-begun
returns-then-is_acting-clause-begun c e =
    let below : c.loop-left.left - 1 < length c.args.lines.now = omega (arith, c.loop-left.invariant.few, c.loop-left-test.true) in
    let is : get_or c.args.lines.now (c.loop-left.left - 1) c.index-lines-left.result ≡ c.index-lines-left.result = search rules in
    let place = newest-is (λ h. begun_to c.args.p (view c.args.port (of c.args.node h))) c.args.lines.now c.loop-left.left (c.loop-left.left - 1)
    c.index-lines-left.result (omega arith) below is (c.loop-left.invariant.begun e) ∙
    c.in-Begins.ensures.begun (history_of (take (c.loop-left.left - 1) c.args.lines.now)) e in
    let acts : acting (view c.args.port (of c.args.node (history_of (take (c.loop-left.left - 1) c.args.lines.now)))) ≡ true = sym c.is_acting.ensures ∙
    c.if-is_acting.true in
    sent_here c.args.lines.now c.args.node c.args.port (c.loop-left.left - 1) c.index-lines-left.result _ _ _ below is (c.in-Begins.ensures.begins refl)
    (c.in-Begins.ensures.posts refl) c.requires.told acts place

pub returns-in-Ends-clause-opened : goal.returns-in-Ends-clause-opened
returns-in-Ends-clause-opened c e =
    let below : c.loop-left.left - 1 < length c.args.lines.now = omega (arith, c.loop-left.invariant.few, c.loop-left-test.true) in
    let is : get_or c.args.lines.now (c.loop-left.left - 1) c.index-lines-left.result ≡ c.index-lines-left.result = search rules in
    newest-is (λ h. open_to c.args.p (view c.args.port (of c.args.node h))) c.args.lines.now c.loop-left.left (c.loop-left.left - 1) c.index-lines-left.result
    (omega arith) below is (c.loop-left.invariant.opened e) ∙ c.in-Ends.ensures.opened (history_of (take (c.loop-left.left - 1) c.args.lines.now)) e

pub returns-then-is_acting-clause-opened : goal.returns-then-is_acting-clause-opened
returns-then-is_acting-clause-opened c e =
    let below : c.loop-left.left - 1 < length c.args.lines.now = omega (arith, c.loop-left.invariant.few, c.loop-left-test.true) in
    let is : get_or c.args.lines.now (c.loop-left.left - 1) c.index-lines-left.result ≡ c.index-lines-left.result = search rules in
    let place = newest-is (λ h. open_to c.args.p (view c.args.port (of c.args.node h))) c.args.lines.now c.loop-left.left (c.loop-left.left - 1)
    c.index-lines-left.result (omega arith) below is (c.loop-left.invariant.opened e) ∙
    c.in-Begins.ensures.opened (history_of (take (c.loop-left.left - 1) c.args.lines.now)) e in
    let acts : acting (view c.args.port (of c.args.node (history_of (take (c.loop-left.left - 1) c.args.lines.now)))) ≡ true = sym c.is_acting.ensures ∙
    c.if-is_acting.true in
    sent_here c.args.lines.now c.args.node c.args.port (c.loop-left.left - 1) c.index-lines-left.result _ _ _ below is (c.in-Begins.ensures.begins refl)
    (c.in-Begins.ensures.posts refl) c.requires.told acts place

pub loop-left-preserved : goal.loop-left-preserved
loop-left-preserved c =
    let below : c.loop-left.left - 1 < length c.args.lines.now = omega (arith, c.loop-left.invariant.few, c.loop-left-test.true) in
    let is : get_or c.args.lines.now (c.loop-left.left - 1) c.index-lines-left.result ≡ c.index-lines-left.result = search rules in
    let rests : acting (view c.args.port (of c.args.node (history_of (take (c.loop-left.left - 1) c.args.lines.now)))) ≡ false = sym c.is_acting.ensures ∙
    c.if-is_acting.false in
    record {
      few = omega arith;
      begun = λ e. newest-is (λ h. begun_to c.args.p (view c.args.port (of c.args.node h))) c.args.lines.now c.loop-left.left (c.loop-left.left - 1)
          c.index-lines-left.result (omega arith) below is (c.loop-left.invariant.begun e) ∙
          c.in-Begins.ensures.begun (history_of (take (c.loop-left.left - 1) c.args.lines.now)) e ∙
          ap (λ b. if b then Here (line_of c.index-lines-left.result).did ∷ view c.args.port
          (of c.args.node (history_of (take (c.loop-left.left - 1) c.args.lines.now))) else begun_to c.args.p
          (view c.args.port (of c.args.node (history_of (take (c.loop-left.left - 1) c.args.lines.now))))) rests;
      opened = λ e. newest-is (λ h. open_to c.args.p (view c.args.port (of c.args.node h))) c.args.lines.now c.loop-left.left (c.loop-left.left - 1)
          c.index-lines-left.result (omega arith) below is (c.loop-left.invariant.opened e) ∙
          c.in-Begins.ensures.opened (history_of (take (c.loop-left.left - 1) c.args.lines.now)) e ∙
          ap (λ b. if b then Here (line_of c.index-lines-left.result).did ∷ view c.args.port
          (of c.args.node (history_of (take (c.loop-left.left - 1) c.args.lines.now))) else open_to c.args.p
          (view c.args.port (of c.args.node (history_of (take (c.loop-left.left - 1) c.args.lines.now))))) rests;
    }
