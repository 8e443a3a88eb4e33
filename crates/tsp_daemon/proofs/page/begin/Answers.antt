-- The board is there, and the origin is known.
use Rattle.std.proofs.Common.{◌≡◌, ◌∙◌, ap, subst, sym, true, Bool, ℕ, Option, Some}
use Rattle.tsp_io.specs.declared.origin.Origin.{Origin}
use Rattle.tsp_query.proofs.AskLemmas.{of_some}
use Rattle.tsp_daemon.specs.Pages.{NotesMarks, Page, blank_page, half_marks, marks_begun, moment_after, page_from}
use Rattle.tsp_daemon.proofs.page.begin.Goals as goal

pub returns-in-Some-clause-marks : goal.returns-in-Some-clause-marks
returns-in-Some-clause-marks g c past origin delay h from told =
    let board : g.T.Ticker.boarded c.args.ticker.now ≡ true = sym c.has_board.ensures ∙ c.if-not-has_board.false in
    let at : Some c.in-Some.origin ≡ origin = sym c.in-Some.is ∙ of_some (λ (o : Option Origin). c.origin.result ≡ o) _ origin c.origin.ensures.answers from in
    let moment : c.moment.result ≡ moment_after delay (g.T.Ticker.last c.args.ticker.now) =
    of_some (λ (d : ℕ). c.moment.result ≡ moment_after d (g.T.Ticker.last c.args.ticker.now)) _ delay c.moment.ensures.answers told in
    let blank = c.blank-page.ensures past h ∙ ap (λ m. blank_page c.in-Some.origin past m) moment in
    let marks = subst (λ (p : Page). NotesMarks (half_marks p.half p) (g.T.Ticker.marks c.args.ticker.now) (g.T.Ticker.marks c.appear.new.ticker)) blank
    c.appear.ensures.marks in
    subst (λ (o : Option Origin). NotesMarks (marks_begun (page_from (g.T.Ticker.boarded c.args.ticker.now) o past
    (moment_after delay (g.T.Ticker.last c.args.ticker.now)))) (g.T.Ticker.marks c.args.ticker.now) (g.T.Ticker.marks c.appear.new.ticker)) at
    (subst (λ (b : Bool). NotesMarks (marks_begun (page_from b (Some c.in-Some.origin) past (moment_after delay (g.T.Ticker.last c.args.ticker.now))))
    (g.T.Ticker.marks c.args.ticker.now) (g.T.Ticker.marks c.appear.new.ticker)) (sym board) marks)
