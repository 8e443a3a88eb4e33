use Rattle.std.proofs.Common.{◌≡◌, [], ◌++◌, length, ℕ, List, arith, ◌∙◌, ap, append-nil, append_assoc, length-append, refl, subst, sym}
use Rattle.tsp_lines.specs.{Lines.NoFeed, Readings.IsNext}
use Rattle.tsp_lines.proofs.Passes.{next_more, over_not_failed, More_NotRead, Over_NotRead}
use Rattle.tsp_lines.proofs.{Leaving.Counts_from, Leaving.Counts_same, Outputs.Gives_nil, Outputs.Gives_trans}
use Rattle.tsp_lines.proofs.reader.LineReader.next.Goals as goal

pub returns-then-held-gt-LONGEST : goal.returns-then-held-gt-LONGEST
returns-then-held-gt-LONGEST g c =
    let i = c.loop-next.invariant in
    let e = c.pass_over.ensures in
    let p = e.next in
    let n = c.in_default.ensures in record {
      next = next_more _ _ _ _ _ _ _ _ _ _ i.0.1 (n.next.1 ∙ i.0.3) p.1 (omega (arith, i.0.2, p.2, n.same.0)) p.3;
      limit = (e.limit.0 ∙ n.same.1 ∙ i.1, e.limit.1);
      faults = Counts_from _ _ _ _ _ i.3 (λ f. f) (λ f. f) e.faults;
      over = e.over;
      ended = e.ended;
    }

pub returns-in-Some : goal.returns-in-Some
returns-in-Some g c =
    let i = c.loop-next.invariant in
    let e = c.in-Some.ensures in record {
      next = (i.0.0, i.0.1, e.same.0 ∙ i.0.2, subst (λ held. IsNext c.next_held.new.self held c.in-Some.next) i.0.3 e.next.0);
      limit = (e.same.1 ∙ i.1, e.same.2);
      faults = Counts_same _ _ _ i.3 e.next.2;
      over = λ o. let q = sym e.next.1 ∙ o in cc;
      ended = i.2 ∙ sym e.next.1;
    }

pub loop-next-init : goal.loop-next-init
loop-next-init g c = (([], Gives_nil _, omega arith, sym (append-nil _)), refl, c.requires.open, refl)

pub loop-next-preserved : goal.loop-next-preserved
loop-next-preserved g c =
    let i = c.loop-next.invariant in
    let n = c.in_default.ensures in
    let e = c.in-More.ensures in
    let f = e.fills in (
      (
        i.0.0 ++ f.0,
        Gives_trans _ _ _ i.0.0 f.0 i.0.1 f.1,
        omega (arith, i.0.2, n.same.0, f.3, length-append i.0.0 f.0),
        f.2 ∙ ap (λ (held : List ℕ). held ++ f.0) (n.next.1 ∙ i.0.3) ∙ append_assoc _ i.0.0 f.0,
      ),
      e.limit.0 ∙ n.same.1 ∙ i.1,
      e.ended ∙ i.2,
      e.faults.still More_NotRead ∙ i.3,
    )

pub returns-in-Over : goal.returns-in-Over
returns-in-Over g c =
    let i = c.loop-next.invariant in
    let n = c.in_default.ensures in
    let e = c.in-Over.ensures in
    let f = e.fills in
    let l = c.last.ensures in
    let held : c.fill.new.self.held ≡ c.args.self.now.held ++ (i.0.0 ++ f.0) = f.2 ∙ ap (λ (held : List ℕ). held ++ f.0) (n.next.1 ∙ i.0.3) ∙
    append_assoc _ i.0.0 f.0 in record {
      next = (
        i.0.0 ++ f.0,
        Gives_trans _ _ _ i.0.0 f.0 i.0.1 f.1,
        omega (arith, i.0.2, n.same.0, f.3, l.same.0, length-append i.0.0 f.0),
        subst (λ held. IsNext c.last.new.self held c.last.result) held l.next,
      );
      limit = (l.same.1 ∙ e.limit.0 ∙ n.same.1 ∙ i.1, omega (arith, l.same.0, l.same.1, e.limit.1));
      faults = Counts_same _ _ _ (e.faults.still Over_NotRead ∙ i.3) (over_not_failed _ l.same.2);
      over = λ o. e.over refl;
      ended = e.ended ∙ sym l.same.2;
    }

pub returns-in-NotRead : goal.returns-in-NotRead
returns-in-NotRead g c =
    let i = c.loop-next.invariant in
    let n = c.in_default.ensures in
    let e = c.in-NotRead.ensures in
    let f = e.fills in
    let none : f.0 ≡ [] = f.4 in record {
      next = (
        i.0.0 ++ f.0,
        Gives_trans _ _ _ i.0.0 f.0 i.0.1 f.1,
        omega (arith, i.0.2, n.same.0, f.3, length-append i.0.0 f.0),
        (
          subst NoFeed (i.0.3 ∙ ap (λ (octets : List ℕ). c.args.self.now.held ++ octets) (sym (append-nil i.0.0) ∙
              ap (λ (octets : List ℕ). i.0.0 ++ octets) (sym none))) n.next.0,
          omega (arith, n.next.2, f.3, e.limit.0, ap length none),
        ),
      );
      limit = (e.limit.0 ∙ n.same.1 ∙ i.1, e.limit.1);
      faults = Counts_from _ _ _ _ _ i.3 (λ f. refl) (λ f. refl) e.faults;
      over = λ o. absurd (over_not_failed _ o refl);
      ended = e.ended ∙ i.2;
    }
