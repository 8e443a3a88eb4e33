-- Field by field.
use Rattle.std.proofs.Common.{◌≡◌, ◌∙◌, ap, of_z, rules, to_z, w64}
use Rattle.tsp_daemon.specs.Pages.{Page, master_in, rank_in}
use Rattle.tsp_daemon.proofs.PageLemmas.{half_is}
use Rattle.tsp_daemon.proofs.page.Page.half_after.Goals as goal

pub returns-clause-past : goal.returns-clause-past
returns-clause-past c past moment h e =
    let origin : to_z w64 (of_z w64 c.self.inside.half.origin) ≡ c.self.inside.half.origin = search rules in
    let rate : to_z w64 (of_z w64 c.self.inside.half.rate) ≡ c.self.inside.half.rate = search rules in
    let target : to_z w64 (of_z w64 c.target_then.result) ≡ c.target_then.result = search rules in
    let rest : to_z w64 (of_z w64 c.left.result) ≡ c.left.result = search rules in
    let least : to_z w64 (of_z w64 c.args.least) ≡ c.args.least = search rules in
    let moved : to_z w64 (of_z w64 c.moved.result) ≡ c.moved.result = search rules in
    let half : c.self.inside.half ≡ c.args.self.now.half = ap (λ (p : Page). p.half) c.self.view_is in
    let stands = c.standing-standing.ensures past h in
    rw (origin, rate, target, rest, least, moved) (half_is past c.args.acts.now c.args.tick moment c.args.self.now c.self.inside.half _ _ _ _ _ _ _ _ half
    (c.corrected.ensures.past past h) (c.target_then.ensures.past past h)
    (c.left.ensures.past past h) e (c.moved.ensures past h) c.steps.ensures (c.rank_in.ensures ∙ ap rank_in stands) (c.master_in.ensures ∙ ap master_in stands))
