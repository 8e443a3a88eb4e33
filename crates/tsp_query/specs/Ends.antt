-- How asking a daemon ends, and what is left of the outside then.
use Rattle.std.specs.Prelude.{◌≡◌, ◌⊎◌, ℕ, ◌+◌, ◌<◌, ◌≤◌, ◌^◌, true, List, [], ◌∷◌, ◌++◌, All, Option, Some, None, zero, suc}
use Rattle.tsp_base.specs.declared.{datagram.Datagram.Datagram, place.Place.TheVariants.Peer}
use Rattle.tsp_codec.specs.Canon.{canon}
use Rattle.tsp_io.specs.{Counts.Rose, Counts.one_more, Links.Arrival, Links.Tried}
use Rattle.tsp_query.specs.Arrivals.{answers, answer_in, next_arrival, all_but_first, first_answer}
use Rattle.tsp_query.specs.{Clocks.tick_given, declared.ask.AskEnd.AskEnd, declared.ask.Heard.Heard, declared.question.Question.Question}
use Rattle.tsp_query.specs.declared.ask.AskEnd.TheVariants.{Answer, NoAnswer, LinkFault, OutOfMemory}
use Rattle.tsp_query.specs.declared.ask.Heard.TheVariants.{Answer as HeardAnswer, Other, Failed}

-- what a link and a ticker hold, if all of it is known: the arrivals to come, the sends that were tried, the number of
-- binds and receives, the ticks still to be read, and the last tick that was read
pub record Outside : Type 0 where
  pub arrivals : List Arrival
  pub tried : List Tried
  pub calls : ℕ
  pub readings : List ℕ
  pub last : ℕ

-- what is known of a link and a ticker is exactly this
pub record KnowsExactly (o : Outside) (arrivals : Option (List Arrival)) (tried : Option (List Tried)) (calls : Option ℕ) (readings : Option (List ℕ))
    (last : ℕ) : Type 0 where
  pub arrivals_are : arrivals ≡ Some o.arrivals
  pub tried_are : tried ≡ Some o.tried
  pub calls_are : calls ≡ Some o.calls
  pub readings_are : readings ≡ Some o.readings
  pub last_is : last ≡ o.last

-- the outside after a wait, and after the tick right after it was read
abbrev pub after_wait : Outside → Outside
after_wait o = record {
  arrivals = all_but_first o.arrivals;
  tried = o.tried;
  calls = one_more o.calls;
  readings = all_but_first o.readings;
  last = tick_given o.last o.readings 0;
}

-- the outside after so many waits
abbrev pub heard_times : ℕ → Outside → Outside
heard_times zero o = o
heard_times (suc n) o = after_wait (heard_times n o)

-- the outside after a receive that failed: it is counted, and nothing else has happened
abbrev pub failed : Outside → Outside
failed o = record o { calls = one_more o.calls }

-- how many receives there are up to the answer; eight if there is none
abbrev pub receives : Option (ℕ × Datagram) → ℕ
receives None = 8
receives (Some r) = r.0 + 1

-- what one receive comes to: an answer and the tick right after it, something else or nothing, or a failure
abbrev pub Hears : Question → Outside → Option (List Arrival) → Option (List Tried) → Option ℕ → Option (List ℕ) → ℕ → Heard → Type 0
Hears q o arrivals tried calls readings last (HeardAnswer d tick) = KnowsExactly (after_wait o) arrivals tried calls readings last ×
    (answer_in q (next_arrival o.arrivals) ≡ Some d) × (tick ≡ last)
Hears q o arrivals tried calls readings last Other = KnowsExactly (after_wait o) arrivals tried calls readings last ×
    (answer_in q (next_arrival o.arrivals) ≡ None)
Hears q o arrivals tried calls readings last Failed = KnowsExactly (failed o) arrivals tried calls readings last

-- what was heard as an answer does answer the question, and its tick is at least the last one and at most 2^61
abbrev pub HearsWell : Question → ℕ → Heard → Type 0
HearsWell q last (HeardAnswer d tick) = (answers q d ≡ true) × (last ≤ tick) × (tick ≤ 2 ^ 61)
HearsWell q last _ = Unit {0}

-- what up to eight receives come to: the first answer among them, unless one fails before it; nothing happens after
-- either
abbrev pub Listens : Question → Outside → Option (List Arrival) → Option (List Tried) → Option ℕ → Option (List ℕ) → ℕ → AskEnd → Type 0
Listens q o arrivals tried calls readings last (Answer d tick) = (i : ℕ) × (first_answer q o.arrivals ≡ Some (i, d)) × (tick ≡ tick_given o.last o.readings i) ×
    KnowsExactly (heard_times (i + 1) o) arrivals tried calls readings last
Listens q o arrivals tried calls readings last NoAnswer = (first_answer q o.arrivals ≡ None) × KnowsExactly (heard_times 8 o) arrivals tried calls readings last
Listens q o arrivals tried calls readings last LinkFault = (n : ℕ) × (n < receives (first_answer q o.arrivals)) ×
    KnowsExactly (failed (heard_times n o)) arrivals tried calls readings last
Listens q o arrivals tried calls readings last OutOfMemory = ⊥

-- the outside after one datagram more was sent to the daemon
abbrev pub after_send : Datagram → Outside → Outside
after_send request o = record o { tried = o.tried ++ (Peer (record { 0 = 0 }), canon request) ∷ [] }

-- how asking ends; the last two numbers are the counts of failed sends before and after. The one datagram was tried,
-- unless there was no memory for it. If its send failed, nothing more happened
abbrev pub Asks : Datagram → Question → Outside → Option (List Arrival) → Option (List Tried) → Option ℕ → Option (List ℕ) → ℕ → ℕ → ℕ → AskEnd → Type 0
Asks request q o arrivals tried calls readings last sends sends_now OutOfMemory = KnowsExactly o arrivals tried calls readings last
Asks request q o arrivals tried calls readings last sends sends_now LinkFault =
    (KnowsExactly (after_send request o) arrivals tried calls readings last × Rose sends sends_now) ⊎
    (Listens q (after_send request o) arrivals tried calls readings last LinkFault × (sends_now ≡ sends))
Asks request q o arrivals tried calls readings last sends sends_now end = Listens q (after_send request o) arrivals tried calls readings last end

-- each receive waited a second, if it is told how long receives wait
abbrev pub WaitsSeconds : Option (List ℕ) → Option (List ℕ) → Type 0
WaitsSeconds waits None = Unit {0}
WaitsSeconds None (Some now) = ⊥
WaitsSeconds (Some before) (Some now) = (more : List ℕ) × (now ≡ before ++ more) × All (λ wait. wait ≡ 1000000) more

-- an answer does answer the question, and its tick is at least the last one and at most 2^61
abbrev pub AsksWell : Question → ℕ → AskEnd → Type 0
AsksWell q last (Answer d tick) = (answers q d ≡ true) × (last ≤ tick) × (tick ≤ 2 ^ 61)
AsksWell q last _ = Unit {0}
