-- There is a page.
use Rattle.std.proofs.Common.{◌≡◌, ◌∙◌, refl, subst, sym, List, Some}
use Rattle.std.specs.Option.{option_map}
use Rattle.tsp_io.specs.Boards.{Mark}
use Rattle.tsp_daemon.specs.Pages.{Page, Turns, views_after}
use Rattle.tsp_daemon.proofs.ReadLemmas.{same_page_in}
use Rattle.tsp_daemon.proofs.page.show.Goals as goal

pub returns-in-Some-clause-turns : goal.returns-in-Some-clause-turns
returns-in-Some-clause-turns g c = λ p there.
    let same : c.in-Some.page ≡ p = same_page_in _ _ (sym c.in-Some.is ∙ there) in
    subst (λ (x : Page). (now : Page) × (Some c.turn.new.self ≡ Some now) ×
    Turns g.T.Ticker c.args.node.now c.args.acts.now c.args.tick x now c.args.ticker.now c.turn.new.ticker ×
    (g.T.Ticker.views c.turn.new.ticker ≡ option_map (λ (views : List Mark). views_after c.args.acts.now c.args.tick x views)
    (g.T.Ticker.views c.args.ticker.now))) same (c.turn.new.self, refl, c.turn.ensures.turns, c.turn.ensures.views)
