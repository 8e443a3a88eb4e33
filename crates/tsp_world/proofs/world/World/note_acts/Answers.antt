-- The lines on the desk are told, and all else stays but the count of events.
use Rattle.std.proofs.Common.{◌≡◌, ◌∙◌, ◌+◌, ◌++◌, List, refl, ap, arith, drop, length, map}
use Rattle.std.proofs.lemmas.List.{take_at}
use Rattle.tsp_rules.specs.Values.{Placed}
use Rattle.tsp_run.specs.Run.{posts_from, told_from}
use Rattle.tsp_networks.specs.Sheets.{acts_on, placed_in}
use Rattle.tsp_world.proofs.world.World.note_acts.Goals as goal

pub overflow_add-self : goal.overflow_add-self
overflow_add-self c = let few = c.requires.few_events in omega (arith, few)

pub invariant_of-self-clause-places : goal.invariant_of-self-clause-places
invariant_of-self-clause-places c = c.args.self.now.places

pub invariant_of-self-clause-rooms_are : goal.invariant_of-self-clause-rooms_are
invariant_of-self-clause-rooms_are c = c.args.self.now.rooms_are

pub invariant_of-self-clause-few_events : goal.invariant_of-self-clause-few_events
invariant_of-self-clause-few_events c = let few = c.requires.few_events in omega (arith, few)

pub invariant_of-self-clause-ready : goal.invariant_of-self-clause-ready
invariant_of-self-clause-ready c = c.args.self.now.ready

pub returns : goal.returns
returns c =
    let old = c.args.self.now in
    let moved : map placed_in c.as_mut_slice.result.now ≡ acts_on old.desk = ap (λ l. map placed_in l) (c.as_mut_slice.ensures.value ∙
    c.exchange.ensures.taken) in
    let all : length c.tell.new.lines ≡ c.exchange.new.lines.len = (let same = c.tell.auto.lines in let len = c.as_mut_slice.ensures.len in
    omega (arith, same, len)) in
    record {
      header_is = refl;
      nodes_are = refl;
      events_are = refl;
      last_is = refl;
      sent_is = c.tell.ensures.sent ∙ ap (λ (acts : List Placed). old.sent.items ++ posts_from old.last c.args.node acts) moved;
      lines_are = take_at c.tell.new.lines (drop (length c.tell.new.lines) c.exchange.new.lines.items) c.exchange.new.lines.len all
          ∙ c.tell.ensures.lines ∙ ap (λ (acts : List Placed). told_from (old.events + 1) c.args.node c.args.tick (length old.sent.items) acts) moved;
    }
