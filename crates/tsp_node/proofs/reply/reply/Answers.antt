-- A reply where the target is a clock's value, else nothing.
use Rattle.std.proofs.Common.{◌≡◌, refl, ◌∙◌}
use Rattle.tsp_base.specs.Words.{plain, ticket, target}
use Rattle.tsp_base.proofs.PerformsLemmas.{Performs_nothing, Performs_then_part, Performs_else_part}
use Rattle.tsp_rules.specs.{CommonRows.replies, CommonRows.posts_reply, Guards.is_in_range, Values.Reply}
use Rattle.tsp_node.{proofs.NodeLemmas.PortStands_stamp, specs.NodeStands.port_with}
use Rattle.tsp_node.proofs.reply.reply.Goals as goal

pub returns-in-Some-clause-row : goal.returns-in-Some-clause-row
unfolding replies posts_reply
returns-in-Some-clause-row g c part =
    Performs_then_part is_in_range _ (λ past s. let a = s.clock.offset_is in let b = c.in-Some.ensures.there.0 in rw a at b)
    (record {
      acts = λ past h.
          let e : c.in-Some.stamp ≡ Reply (record {
            ticket = ticket (plain past.seen);
            word = c.args.word;
            counter = c.args.counter;
            reading = target (plain past.seen) c.args.tick;
          }) = c.in-Some.ensures.there.1 ∙ (rw (h.clock.ticket_is, h.clock.offset_is) refl) in
          rw e at c.put.ensures.acts;
      stands = λ past h. PortStands_stamp c.args.from _ c.args.tick past (port_with part c.args.clock.now) h;
    })

pub returns-in-None-clause-row : goal.returns-in-None-clause-row
unfolding replies
returns-in-None-clause-row g c part =
    Performs_else_part is_in_range _ (λ past s. let a = s.clock.offset_is in let b = c.in-None.ensures.none in rw a at b) Performs_nothing
