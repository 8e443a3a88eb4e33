-- The rate that is asked for; the sequence, odd; a moment; and the rest.
use Rattle.std.proofs.Common.{◌≡◌, ◌∙◌, ap, subst, ℕ, Option, Some}
use Rattle.std.specs.Option.{option_map}
use Rattle.tsp_io.specs.{Origins.origin_then, declared.origin.Origin.Origin}
use Rattle.tsp_page.specs.declared.daemon_half.DaemonHalf.{DaemonHalf}
use Rattle.tsp_query.proofs.AskLemmas.{of_some}
use Rattle.tsp_daemon.specs.Pages.{NotesMarks, Page, half_alive, half_marks, moment_after, page_with}
use Rattle.tsp_daemon.proofs.PageLemmas.{Marks_from, Marks_then, reads_before}
use Rattle.tsp_daemon.proofs.ReadLemmas.{stayed}
use Rattle.tsp_daemon.proofs.page.Page.stay.Goals as goal

pub returns-clause-stays : goal.returns-clause-stays
returns-clause-stays g c = λ left h.
    let unread : g.T.Ticker.views c.close.new.ticker ≡ g.T.Ticker.views c.asked_now-asked.new.ticker = c.close.ensures.only.views ∙
    c.tune-tuned.ensures.same.0 ∙ c.open.ensures.only.views in
    let asked = c.asked_now-asked.ensures.asked left (reads_before left _ _ unread h) in
    let life : c.self.inside.half.life ≡ c.args.self.now.half.life = ap (λ (p : Page). p.half.life) c.self.view_is in
    let at : (delay : ℕ) → g.T.Ticker.delay_is c.args.ticker.now ≡ Some delay →
    c.moment-moment.result ≡ moment_after delay (g.T.Ticker.last c.args.ticker.now) = λ delay told.
    of_some (λ (d : ℕ). c.moment-moment.result ≡ moment_after d (g.T.Ticker.last c.open.new.ticker)) _ delay c.moment-moment.ensures.answers
    (c.open.ensures.only.pages.delay ∙ c.asked_now-asked.ensures.only.delay ∙ told) ∙
    ap (moment_after delay) (c.open.ensures.only.pages.last ∙ c.asked_now-asked.ensures.only.last) in
    let half : (delay : ℕ) → g.T.Ticker.delay_is c.args.ticker.now ≡ Some delay → c.half_alive-half.result ≡
    half_alive c.args.tick (moment_after delay (g.T.Ticker.last c.args.ticker.now)) c.tune-tuned.result c.args.self.now = λ delay told.
    c.half_alive-half.ensures.value ∙ ap (λ m. half_alive c.args.tick m c.tune-tuned.result c.args.self.now) (at delay told) in (
      asked.0,
      c.tune-tuned.result,
      asked.1,
      asked.2,
      record {
        tuned_is = λ origin delay from told.
            stayed _ _ (moment_after delay (g.T.Ticker.last c.args.ticker.now)) _ _ origin asked.0 c.args.self.now life (at delay told) asked.3
            (c.tune-tuned.ensures.tuned origin (c.open.ensures.only.origin ∙ c.asked_now-asked.ensures.same.0 ∙ from));
        origin = c.close.ensures.only.origin ∙ c.tune-tuned.ensures.origin ∙
            ap (λ (o : Option (Option Origin)). option_map (λ (z : Option Origin). origin_then c.tune-tuned.result z) o)
            (c.open.ensures.only.origin ∙ c.asked_now-asked.ensures.same.0);
        page = λ delay told. c.close.ensures.page ∙ ap (λ (x : DaemonHalf). page_with x c.args.self.now) (half delay told);
        marks = λ delay told. subst (λ (x : DaemonHalf). NotesMarks (half_marks x c.args.self.now) (g.T.Ticker.marks c.args.ticker.now)
            (g.T.Ticker.marks c.close.new.ticker)) (half delay told)
            (Marks_then _ _ _ _ _ (Marks_from _ _ _ _ c.asked_now-asked.ensures.same.1 c.open.ensures.marks)
            (Marks_from _ _ _ _ c.tune-tuned.ensures.same.1 c.close.ensures.marks));
      },
    )
