-- Where no round goes on, no exchange is open.
use Rattle.std.proofs.Common.{◌≡◌, sym, ◌∙◌, ap, w64, to_z, of_z, to_z-of_z, SFits, rules, is_some}
use Rattle.tsp_base.{proofs.PerformsLemmas.Performs_nothing, proofs.PerformsLemmas.Performs_from, specs.Words.Deadlines}
use Rattle.tsp_master.proofs.ReplyLemmas.{Performs_idle_reply}
use Rattle.tsp_master.proofs.master.Master.reply.Goals as goal

pub returns-in-Request-clause-row : goal.returns-in-Request-clause-row
returns-in-Request-clause-row g c = rw c.in-Request.is Performs_nothing

pub returns-then-is_some-clause-row : goal.returns-then-is_some-clause-row
returns-then-is_some-clause-row g c =
    let target = c.target.result in
    let fits : SFits w64 target = search rules in
    let back : to_z w64 (of_z w64 target) ≡ target = to_z-of_z fits in
    rw c.in-Reply.is (Performs_from
    (λ past h. record {
      stands = h;
      goes = ap (λ (d : Deadlines). is_some d.close) (sym h.station.alarms) ∙ ap is_some (sym c.at.ensures) ∙
          sym c.is_some.ensures ∙ c.if-is_some.true;
    })
    (c.sample.ensures.row c.args.station.now c.args.clock.now c.args.tick (back ∙ c.target.ensures.value)))

pub returns-else-is_some-clause-row : goal.returns-else-is_some-clause-row
returns-else-is_some-clause-row g c =
    rw c.in-Reply.is (Performs_idle_reply c.args.from c.in-Reply.reply _
    (λ past h. ap (λ (d : Deadlines). is_some d.close) (sym h.station.alarms) ∙ ap is_some (sym c.at.ensures) ∙ sym c.is_some.ensures ∙ c.if-is_some.false))
