-- A step is the schedule's next event, and only a limit refuses it.
use Rattle.std.proofs.Common.{◌∙◌, ap}
use Rattle.tsp_rules.specs.Values.{Event}
use Rattle.tsp_script.specs.declared.storm.Draw.TheVariants.{Event as Gives}
use Rattle.tsp_storm.{proofs.Draws.given_next, specs.Schedules.header_of, specs.Schedules.storm_events, specs.Schedules.next_event}
use Rattle.tsp_storm.proofs.Steps.{made_now, more_now, world_now, event_now, on_step, stops_step}
use Rattle.tsp_storm.proofs.making.Making.step.Goals as goal

pub draw-choice-requires-clause-some : goal.draw-choice-requires-clause-some
draw-choice-requires-clause-some c = (made_now c.args.words.now c.args.self.now c.requires.stands).some

pub draw-choice-requires-clause-named : goal.draw-choice-requires-clause-named
draw-choice-requires-clause-named c = (made_now c.args.words.now c.args.self.now c.requires.stands).named

pub draw-choice-requires-clause-quiet : goal.draw-choice-requires-clause-quiet
draw-choice-requires-clause-quiet c = (made_now c.args.words.now c.args.self.now c.requires.stands).quiet

pub happen-requires-clause-more : goal.happen-requires-clause-more
happen-requires-clause-more c = more_now c.args.words.now c.args.self.now c.requires.stands c.requires.more

pub happen-requires-clause-stands : goal.happen-requires-clause-stands
happen-requires-clause-stands c = world_now c.args.words.now c.args.self.now c.requires.stands

pub happen-requires-clause-event : goal.happen-requires-clause-event
happen-requires-clause-event c =
    let s = c.args.words.now in
    let m = c.args.self.now in
    let st = c.requires.stands in
    let next = next_event (header_of s) (storm_events s m.storm.given) m.storm in
    let comes = given_next _ c.draw-choice.new.storm next (c.draw-choice.ensures.next (header_of s) (storm_events s m.storm.given) st.world) in
    comes.0 ∙ ap (λ (e : Event). Gives e) (event_now s m next.0 c.draw-choice.new.storm st comes.1)

pub returns : goal.returns
returns c =
    let s = c.args.words.now in
    let m = c.args.self.now in
    let st = c.requires.stands in
    let next = next_event (header_of s) (storm_events s m.storm.given) m.storm in
    let comes = given_next _ c.draw-choice.new.storm next (c.draw-choice.ensures.next (header_of s) (storm_events s m.storm.given) st.world) in
    let new = c.happen.new in
    record {
      stands = on_step s m next.0 c.draw-choice.new.storm new.world new.parcel c.happen.result _ st comes.1 (λ d. d.stands) c.happen.ensures.stands;
      given = on_step s m next.0 c.draw-choice.new.storm new.world new.parcel c.happen.result _ st comes.1 (λ d. d.given) c.happen.ensures.stands;
      event = on_step s m next.0 c.draw-choice.new.storm new.world new.parcel c.happen.result _ st comes.1 (λ d. d.event) c.happen.ensures.stands;
      stops = stops_step s m c.happen.result st c.happen.ensures.stops;
    }
