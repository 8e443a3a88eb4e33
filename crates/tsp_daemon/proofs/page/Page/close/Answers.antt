-- The fields, and then the sequence.
use Rattle.std.proofs.Common.{ap, subst, [], ◌∷◌}
use Rattle.tsp_io.specs.{Boards.Mark}
use Rattle.tsp_page.specs.Halves.{daemon_octets}
use Rattle.tsp_daemon.specs.Pages.{NotesMarks, Page, sequence_after, sequence_mark}
use Rattle.tsp_daemon.proofs.PageLemmas.{Marks_more, Marks_one}
use Rattle.tsp_daemon.proofs.page.Page.close.Goals as goal

pub returns-clause-marks : goal.returns-clause-marks
returns-clause-marks g c =
    let fields = rw (c.as_slice.ensures.value, c.octets.ensures) at c.mark.ensures.marks in
    let sequence = rw (c.to_le_bytes.ensures) at c.mark-2.ensures.marks in
    let same = ap (λ (p : Page). sequence_mark (sequence_after 2 p)) c.self.view_is in
    subst (λ (m : Mark). NotesMarks ((72, daemon_octets c.args.half) ∷ m ∷ []) (g.T.Ticker.marks c.args.ticker.now) (g.T.Ticker.marks c.mark-2.new.self)) same
    (Marks_more _ _ _ _ _ fields (Marks_one _ _ _ sequence))
