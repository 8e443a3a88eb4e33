-- The chosen event is the schedule's next.
use Rattle.std.proofs.Common.{◌∙◌, ap, sym, refl, arith, length, unwrap_or, slice_get}
use Rattle.tsp_rules.specs.Values.{Event}
use Rattle.tsp_script.specs.Storms.{StormValue, as_event}
use Rattle.tsp_storm.proofs.Draws.{asks_is, next_chosen, next_asked, no_time}
use Rattle.tsp_storm.proofs.making.draw.Goals as goal
use Rattle.tsp_run.specs.Run.{posted_time}

pub answer-requires : goal.answer-requires
answer-requires c =
    let a = asks_is c.posted-posted.result c.in-Ask.k c.args.storm.now c.choice.new.self c.requires.some c.in-Ask.ensures.next in
    record {
      named = a.named ∙ c.requires.named ∙ sym a.nodes;
      few =
          let same = a.given in
          let few = c.requires.few in
          omega (arith, same, few);
      asked = (asks_is c.posted-posted.result c.in-Ask.k c.args.storm.now c.choice.new.self c.requires.some c.in-Ask.ensures.next).asked;
    }

pub unreachable-requires : goal.unreachable-requires
unreachable-requires c =
    let a = asks_is c.posted-posted.result c.in-Ask.k c.args.storm.now c.choice.new.self c.requires.some c.in-Ask.ensures.next in
    no_time c.args.world.now.sent.items c.in-Ask.k c.posted-posted.result c.posted-posted.ensures a.known c.in-None.ensures

pub returns-in_default-clause-next : goal.returns-in_default-clause-next
returns-in_default-clause-next c = λ header events w.
    next_chosen header events c.args.storm.now c.posted-posted.result c.choice.result c.choice.new.self (c.posted-posted.ensures ∙
    ap (λ s. length s) w.sent) c.choice.ensures.next c.in_default.not-Ask

pub returns-in-Some-clause-next : goal.returns-in-Some-clause-next
returns-in-Some-clause-next c = λ header events w.
    c.answer.ensures.next ∙ ap (λ (r : Event × StormValue). as_event r)
    (next_asked header events c.args.storm.now c.posted-posted.result c.in-Ask.k c.in-Some.time c.choice.new.self _ (c.posted-posted.ensures ∙
    ap (λ s. length s) w.sent) c.in-Ask.ensures.next
    (ap (λ o. unwrap_or o 0) c.in-Some.ensures ∙ ap (λ s. unwrap_or (posted_time (slice_get s c.in-Ask.k)) 0) w.sent) refl)
