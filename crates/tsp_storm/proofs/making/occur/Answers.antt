-- A chosen event is the one that its choice gives.
use Rattle.std.proofs.Common.{◌≡◌, ◌∙◌, ℕ, ap, sym, subst, MatchResult}
use Rattle.tsp_rules.specs.Values.{Event}
use Rattle.tsp_base.specs.Words.{event_in}
use Rattle.tsp_script.specs.declared.storm.Draw.TheVariants.{Event as Gives, Ask}
use Rattle.tsp_script.specs.Storms.{draw_of, request_event}
use Rattle.tsp_world.specs.WorldStands.{Occurs, Declines}
use Rattle.tsp_storm.proofs.making.occur.Goals as goal

same_event : (e f : Event) → Gives e ≡ Gives f → e ≡ f
same_event e f is = cc

no_event : (k : ℕ) (e : Event) → Ask k ≡ Gives e → ⊥
no_event k e is = cc

pub unreachable-requires : goal.unreachable-requires
unreachable-requires c = no_event c.in-Ask.field-0 c.requires.given.0 (ap draw_of (sym c.in-Ask.is) ∙ c.requires.given.1)

pub returns-in-Plain : goal.returns-in-Plain
returns-in-Plain c e is =
    let world = c.args.world.now in
    let new = c.occur_plain.new.world in
    let same = same_event (event_in c.in-Plain.plain) e (ap draw_of (sym c.in-Plain.is) ∙ is) in
    subst (λ x. MatchResult c.occur_plain.result (λ _. Occurs x world new) (Declines x world new)) same c.occur_plain.ensures

pub returns-in-Request : goal.returns-in-Request
returns-in-Request c e is =
    let world = c.args.world.now in
    let new = c.occur_request.new.world in
    let same = same_event (request_event c.in-Request.at c.in-Request.node c.in-Request.word) e (ap draw_of (sym c.in-Request.is) ∙ is) in
    subst (λ x. MatchResult c.occur_request.result (λ _. Occurs x world new) (Declines x world new)) same c.occur_request.ensures
