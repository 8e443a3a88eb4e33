use Rattle.std.proofs.Common.{◌≤◌, ◌<◌, ◌+◌, ◌∙◌, subst, ap}
use Rattle.tsp_script.specs.Storms.{StormValue}
use Rattle.tsp_script.proofs.StormDraws.{draw_boot, drawn_chosen, chosen_turn, chosen_ask, chosen_request}
use Rattle.tsp_script.proofs.storm.Storm.choose.Goals as goal

pub returns-then-self-clause-next : goal.returns-then-self-clause-next
returns-then-self-clause-next c =
    let more : c.args.self.now.given < c.args.self.now.nodes = subst (λ (v : StormValue). v.given < v.nodes) c.self.view_is c.if-self.true in
    c.boot.ensures.next ∙ draw_boot c.args.posted c.args.self.now more

pub returns-then-c-lt4-clause-next : goal.returns-then-c-lt4-clause-next
returns-then-c-lt4-clause-next c =
    let booted : c.args.self.now.nodes ≤ c.args.self.now.given = subst (λ (v : StormValue). v.nodes ≤ v.given) c.self.view_is c.if-self.false in
    c.turn.ensures.next ∙ chosen_turn c.draw-c.result _ c.args.posted c.draw-c.new.self c.if-c-lt4.true ∙
    drawn_chosen c.args.posted _ c.draw.result c.draw-c.result c.args.self.now c.draw.new.self
    c.draw-c.new.self booted c.draw.ensures.moves c.draw-c.ensures.moves (ap (λ (v : StormValue). v.at + c.draw.result) c.self.view_is) c.draw.ensures.value
    c.draw-c.ensures.value

pub returns-then-c-lt7-clause-next : goal.returns-then-c-lt7-clause-next
returns-then-c-lt7-clause-next c =
    let booted : c.args.self.now.nodes ≤ c.args.self.now.given = subst (λ (v : StormValue). v.nodes ≤ v.given) c.self.view_is c.if-self.false in
    c.ask.ensures.next ∙ chosen_ask c.draw-c.result _ c.args.posted c.draw-c.new.self c.if-c-lt4.false c.if-c-lt7.true ∙
    drawn_chosen c.args.posted _ c.draw.result c.draw-c.result c.args.self.now c.draw.new.self
    c.draw-c.new.self booted c.draw.ensures.moves c.draw-c.ensures.moves (ap (λ (v : StormValue). v.at + c.draw.result) c.self.view_is) c.draw.ensures.value
    c.draw-c.ensures.value

pub returns-else-c-lt7-clause-next : goal.returns-else-c-lt7-clause-next
returns-else-c-lt7-clause-next c =
    let booted : c.args.self.now.nodes ≤ c.args.self.now.given = subst (λ (v : StormValue). v.nodes ≤ v.given) c.self.view_is c.if-self.false in
    c.request.ensures.next ∙ chosen_request c.draw-c.result _ c.args.posted c.draw-c.new.self c.if-c-lt7.false ∙
    drawn_chosen c.args.posted _ c.draw.result c.draw-c.result c.args.self.now c.draw.new.self
    c.draw-c.new.self booted c.draw.ensures.moves c.draw-c.ensures.moves (ap (λ (v : StormValue). v.at + c.draw.result) c.self.view_is) c.draw.ensures.value
    c.draw-c.ensures.value
