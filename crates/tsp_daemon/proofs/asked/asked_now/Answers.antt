-- By what the read gave.
use Rattle.std.proofs.Common.{◌≡◌, ◌∙◌, ap, length, rules, sym, ℕ, List, Option}
use Rattle.std.specs.Option.{option_and_then}
use Rattle.tsp_daemon.specs.Pages.{rate_in}
use Rattle.tsp_daemon.proofs.ReadLemmas.{saw, saw_nothing}
use Rattle.tsp_daemon.proofs.asked.asked_now.Goals as goal

pub returns-then-view-clause-asked : goal.returns-then-view-clause-asked
returns-then-view-clause-asked g c = λ left h.
    let whole : length c.view.new.buf ≡ 336 = search rules in
    let gave = saw _ _ c.view.result c.view.new.buf whole c.if-view.true c.view.ensures.views left h in (
      gave.0,
      gave.1,
      gave.2,
      c.rate_in.ensures ∙ sym (ap (λ (o : Option (List ℕ)). option_and_then (λ (octets : List ℕ). rate_in c.args.life octets) o) gave.3),
    )

pub returns-else-view-clause-asked : goal.returns-else-view-clause-asked
returns-else-view-clause-asked g c = λ left h.
    let whole : length c.view.new.buf ≡ 336 = search rules in
    let gave = saw_nothing _ _ c.view.result c.view.new.buf whole c.if-view.false c.view.ensures.views left h in (
      gave.0,
      gave.1,
      gave.2,
      sym (ap (λ (o : Option (List ℕ)). option_and_then (λ (octets : List ℕ). rate_in c.args.life octets) o) gave.3),
    )
