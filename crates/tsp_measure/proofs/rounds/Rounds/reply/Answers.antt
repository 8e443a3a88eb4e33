-- An exchange less is open, and there is a sample more.
use Rattle.std.proofs.Common.{◌≡◌, refl, w64, to_z, of_z, to_z-of_z, SFits, rules}
use Rattle.tsp_measure.proofs.Counters.{IsRounds_replies}
use Rattle.tsp_measure.proofs.rounds.Rounds.reply.Goals as goal

pub invariant_of-self : goal.invariant_of-self
invariant_of-self c =
    IsRounds_replies c.args.peer c.word.result c.counter.result c.ticket.result _ _
    (record { exchanges = c.self.inside.exchanges; asked = c.self.inside.asked; probes = c.self.inside.probes })
    (record { exchanges = c.reply.new.self; asked = c.self.inside.asked; probes = c.self.inside.probes })
    c.reply.result refl refl c.reply.ensures.replies (λ q n. c.reply.ensures.others q.0 n) c.self.invariant

pub returns-clause-replies : goal.returns-clause-replies
returns-clause-replies c =
    let s = c.reading.result in
    let fits : SFits w64 s = search rules in
    let back : to_z w64 (of_z w64 s) ≡ s = to_z-of_z fits in
    let back_target : to_z w64 (of_z w64 c.args.target) ≡ c.args.target = to_z-of_z c.ranges.target in
    let replies = rw (back, back_target, c.word.ensures, c.counter.ensures, c.ticket.ensures.value, c.reading.ensures) at c.reply.ensures.replies in
    rw (← c.self.view_is) replies
