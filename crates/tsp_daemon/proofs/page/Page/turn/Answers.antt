-- By what the turn changes: the acts change the page; it was time to say that the daemon is alive; or nothing.
use Rattle.std.proofs.Common.{refl, ◌≡◌, ◌∙◌, ap, sym, le-leb, true, false, nat_le, ◌-◌}
use Rattle.std.proofs.lemmas.Bool.{lt-leb}
use Rattle.tsp_daemon.specs.Pages.{Page, change_page, is_silent}
use Rattle.tsp_daemon.proofs.ReadLemmas.{turns_changed, turns_nothing, turns_stayed}
use Rattle.tsp_daemon.proofs.page.Page.turn.Goals as goal

pub returns-then-change_page-clause-turns : goal.returns-then-change_page-clause-turns
returns-then-change_page-clause-turns g c =
    let changed : change_page c.args.acts.now ≡ true = sym c.change_page.ensures ∙ c.if-change_page.true in
    turns_changed g.T.Ticker c.args.node.now c.args.acts.now c.args.tick c.args.self.now _ c.args.ticker.now c.change.new.ticker changed
    (λ past delay h told. c.change.ensures.page past delay h told) (λ past delay h told. c.change.ensures.marks past delay h told)
    c.change.ensures.only.origin c.change.ensures.only.views

pub returns-then-saturating_sub-ge-SILENT-clause-turns : goal.returns-then-saturating_sub-ge-SILENT-clause-turns
returns-then-saturating_sub-ge-SILENT-clause-turns g c =
    let still : change_page c.args.acts.now ≡ false = sym c.change_page.ensures ∙ c.if-change_page.false in
    let time : is_silent c.args.tick c.args.self.now ≡ true = sym (ap (λ n. nat_le 1000000 n) (c.saturating_sub.ensures ∙
    ap (λ (p : Page). c.args.tick - p.half.alive) c.self.view_is)) ∙ le-leb 1000000 c.saturating_sub.result c.if-saturating_sub-ge-SILENT.true in
    turns_stayed g.T.Ticker c.args.node.now c.args.acts.now c.args.tick c.args.self.now _ c.args.ticker.now c.stay.new.ticker still time c.stay.ensures.stays

pub returns-else-saturating_sub-ge-SILENT-clause-turns : goal.returns-else-saturating_sub-ge-SILENT-clause-turns
returns-else-saturating_sub-ge-SILENT-clause-turns g c =
    let still : change_page c.args.acts.now ≡ false = sym c.change_page.ensures ∙ c.if-change_page.false in
    let early : is_silent c.args.tick c.args.self.now ≡ false = sym (ap (λ n. nat_le 1000000 n) (c.saturating_sub.ensures ∙
    ap (λ (p : Page). c.args.tick - p.half.alive) c.self.view_is)) ∙ lt-leb 1000000 c.saturating_sub.result c.if-saturating_sub-ge-SILENT.false in
    turns_nothing g.T.Ticker c.args.node.now c.args.acts.now c.args.tick c.args.self.now c.args.self.now c.args.ticker.now still early refl
