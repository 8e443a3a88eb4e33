-- A message that sets a date carries a time.
use Rattle.std.proofs.{Common.◌≡◌, Common.true, Common.refl, Common.ℤ, lemmas.Bool.false≢true}
use Rattle.tsp_rules.specs.Values.{Kind, Date, DateReq, SetDate, SetDateReq, Body, Nothing, TimeBody, Hops}
use Rattle.tsp_base.specs.Words.{carries_hops, carries_time, body_fits, sets_date}
use Rattle.tsp_date.proofs.task.time_of.Goals as goal

-- messages that set a date carry a time
always_timed : (k : Kind) (b : Body) → sets_date k ≡ true → body_fits k b ≡ true → ((t : ℤ) → b ≡ TimeBody t → ⊥) → ⊥
unfolding body_fits carries_time carries_hops
always_timed k (TimeBody t) e f n = n t refl
always_timed Date (Hops h) e f n = false≢true f
always_timed Date Nothing e f n = false≢true f
always_timed DateReq (Hops h) e f n = false≢true f
always_timed DateReq Nothing e f n = false≢true f
always_timed SetDate (Hops h) e f n = false≢true f
always_timed SetDate Nothing e f n = false≢true f
always_timed SetDateReq (Hops h) e f n = false≢true f
always_timed SetDateReq Nothing e f n = false≢true f
always_timed _ b e f n = false≢true e

pub unreachable-requires : goal.unreachable-requires
unreachable-requires c = always_timed c.args.m.now.kind c.body.result c.requires (rw (← c.body.ensures.body) at c.body.ensures.fits) c.in_default.not-Time
