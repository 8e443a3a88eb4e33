-- The sequence, odd; a moment; and the rest.
use Rattle.std.proofs.Common.{◌≡◌, ◌∙◌, ap, of_z, rules, subst, to_z, w64, ℕ, Some}
use Rattle.tsp_daemon.specs.Pages.{NotesMarks, Page, half_marks, least_after, moment_after}
use Rattle.tsp_page.specs.declared.daemon_half.DaemonHalf.{DaemonHalf}
use Rattle.tsp_query.proofs.AskLemmas.{of_some}
use Rattle.tsp_daemon.proofs.PageLemmas.{Marks_then}
use Rattle.tsp_daemon.proofs.page.Page.change.Goals as goal

pub returns-clause-marks : goal.returns-clause-marks
returns-clause-marks g c past delay h told =
    let marks = Marks_then _ _ _ _ _ c.open.ensures.marks c.close.ensures.marks in
    let asked : g.T.Ticker.delay_is c.open.new.ticker ≡ Some delay = c.open.ensures.only.pages.delay ∙ told in
    let at : c.moment.result ≡ moment_after delay (g.T.Ticker.last c.open.new.ticker) =
    of_some (λ (d : ℕ). c.moment.result ≡ moment_after d (g.T.Ticker.last c.open.new.ticker)) _ delay c.moment.ensures.answers asked in
    let moment : c.moment.result ≡ moment_after delay (g.T.Ticker.last c.args.ticker.now) = at ∙ ap (moment_after delay) c.open.ensures.only.pages.last in
    let back : to_z w64 (of_z w64 c.least_after-least.result) ≡ c.least_after-least.result = search rules in
    let least = back ∙ c.least_after-least.ensures ∙ ap (λ m. least_after c.args.acts.now m c.self.inside.half) moment ∙
    ap (λ (p : Page). least_after c.args.acts.now (moment_after delay (g.T.Ticker.last c.args.ticker.now)) p.half) c.self.view_is in
    let half = c.half_after-half.ensures.past past (moment_after delay (g.T.Ticker.last c.args.ticker.now)) h least in
    subst (λ (x : DaemonHalf). NotesMarks (half_marks x c.args.self.now) (g.T.Ticker.marks c.args.ticker.now) (g.T.Ticker.marks c.close.new.ticker)) half marks
