-- The sequence, odd, and then the rest, with the page's half.
use Rattle.std.proofs.Common.{◌≡◌, ap, subst}
use Rattle.tsp_page.specs.declared.daemon_half.DaemonHalf.{DaemonHalf}
use Rattle.tsp_daemon.specs.Pages.{NotesMarks, Page, half_marks}
use Rattle.tsp_daemon.proofs.PageLemmas.{Marks_then}
use Rattle.tsp_daemon.proofs.page.Page.appear.Goals as goal

pub returns-clause-marks : goal.returns-clause-marks
returns-clause-marks g c =
    let half : c.self.inside.half ≡ c.args.self.now.half = ap (λ (p : Page). p.half) c.self.view_is in
    subst (λ (h : DaemonHalf). NotesMarks (half_marks h c.args.self.now) (g.T.Ticker.marks c.args.ticker.now) (g.T.Ticker.marks c.close.new.ticker)) half
    (Marks_then _ _ _ _ _ c.open.ensures.marks c.close.ensures.marks)
