-- Laws of asking.
use Rattle.std.proofs.Common.{◌≡◌, ℕ, ◌<◌, ◌≤◌, ◌+◌, ◌-◌, List, [], ◌∷◌, ◌++◌, zero, suc, refl, ap, ◌∙◌, sym, inr, arith, append_assoc, append-nil, Option}
use Rattle.std.proofs.Common.{Some, None, IfSome, subst}
use Rattle.std.proofs.lemmas.List.Elements.{All-nil, All-push}
use Rattle.tsp_base.specs.declared.datagram.Datagram.{Datagram}
use Rattle.tsp_io.specs.{Clocks.TakesReading, Links.Arrival, Links.Tried, Links.NotesReceive}
use Rattle.tsp_query.specs.Arrivals.{answer_in, next_arrival, all_but_first, or_later, asked_from}
use Rattle.tsp_query.specs.{Clocks.tick_given, declared.ask.AskEnd.AskEnd, declared.question.Question.Question}
use Rattle.tsp_query.specs.Ends.{Outside, KnowsExactly, after_wait, heard_times, receives, Listens, after_send, Asks, WaitsSeconds}
use Rattle.tsp_query.specs.declared.ask.AskEnd.TheVariants.{LinkFault, OutOfMemory}

next_reading : (last : ℕ) (rs : List ℕ) (k : ℕ) → tick_given (tick_given last rs 0) (all_but_first rs) k ≡ tick_given last rs (suc k)
next_reading last [] k = refl
next_reading last (x ∷ rs) k = refl

-- a reading that is told is the next one
pub reading_taken : (xs : List ℕ) (readings rest : Option (List ℕ)) (last tick : ℕ) → readings ≡ Some xs → TakesReading readings rest last tick →
    (rest ≡ Some (all_but_first xs)) × (tick ≡ tick_given last xs 0)
reading_taken [] readings rest last tick is takes = subst (λ r. TakesReading r rest last tick) is takes
reading_taken (x ∷ xs) readings rest last tick is takes = subst (λ r. TakesReading r rest last tick) is takes

-- two readings, one right after the other
pub readings_taken : (xs : List ℕ) (readings between then rest : Option (List ℕ)) (last first again sent : ℕ) → readings ≡ Some xs →
    TakesReading readings between last first → then ≡ between → again ≡ first → TakesReading then rest again sent
    → (first ≡ tick_given last xs 0) × (sent ≡ tick_given last xs 1) × (rest ≡ Some (all_but_first (all_but_first xs)))
readings_taken xs readings between then rest last first again sent told takes same stays more =
    let one = reading_taken xs readings between last first told takes in
    let two = reading_taken (all_but_first xs) then rest again sent (same ∙ one.0) more in
    (one.1, two.1 ∙ (ap (λ n. tick_given n (all_but_first xs) 0) (stays ∙ one.1) ∙ next_reading last xs 0), two.0)

pub after_reading : (n : ℕ) (o : Outside) (k : ℕ) → tick_given (heard_times n o).last (heard_times n o).readings k ≡ tick_given o.last o.readings (n + k)
after_reading zero o k = ap (λ i. tick_given o.last o.readings i) (omega arith)
after_reading (suc n) o k =
    let i : n + suc k ≡ suc n + k = omega arith in
    next_reading (heard_times n o).last (heard_times n o).readings k ∙ (after_reading n o (suc k) ∙ ap (λ j. tick_given o.last o.readings j) i)

-- one wait more
pub after_next : (n : ℕ) (o : Outside) → heard_times (n + 1) o ≡ after_wait (heard_times n o)
after_next n o = let e : n + 1 ≡ suc n = omega arith in rw e refl

-- a wait without an answer leaves the others
pub asked_step : (q : Question) (i : ℕ) (a : List Arrival) → i < 8 → answer_in q (next_arrival a) ≡ None → asked_from q i (8 - i) a ≡
    asked_from q (i + 1) (8 - (i + 1)) (all_but_first a)
unfolding asked_from
asked_step q i a h e =
    let n : 8 - i ≡ suc (8 - (i + 1)) = omega arith in
    rw (n, e) refl

-- a wait with an answer
pub asked_hit : (q : Question) (i : ℕ) (a : List Arrival) (d : Datagram) → i < 8 → answer_in q (next_arrival a) ≡ Some d → asked_from q i (8 - i) a ≡
    Some (i, d)
unfolding asked_from
asked_hit q i a d h e =
    let n : 8 - i ≡ suc (8 - (i + 1)) = omega arith in
    rw (n, e) refl

-- no wait is left
pub asked_none : (q : Question) (i : ℕ) (a : List Arrival) → i ≡ 8 → asked_from q i (8 - i) a ≡ None
unfolding asked_from
asked_none q i a e = let n : 8 - i ≡ 0 = omega arith in rw n refl

later_cases : (found : Option Datagram) (i : ℕ) (later : Option (ℕ × Datagram)) (r : ℕ × Datagram) → (later ≡ Some r → i + 1 ≤ r.0) → or_later found i later ≡
    Some r → i ≤ r.0
later_cases None i later r f e = omega (arith, f e)
later_cases (Some d) i later r f e = let s : (i, d) ≡ r = cc in omega (arith, ap (λ (p : ℕ × Datagram). p.0) s)

-- an answer's number is none of an earlier wait
asked_later : (q : Question) (n i : ℕ) (a : List Arrival) (r : ℕ × Datagram) → asked_from q i n a ≡ Some r → i ≤ r.0
unfolding asked_from
asked_later q zero i a r e = absurd (cc)
asked_later q (suc n) i a r e = later_cases (answer_in q (next_arrival a)) i (asked_from q (i + 1) n (all_but_first a)) r
    (λ f. asked_later q n (i + 1) (all_but_first a) r f) e

receives_cases : (found : Option (ℕ × Datagram)) (i : ℕ) → i < 8 → ((r : ℕ × Datagram) → found ≡ Some r → i ≤ r.0) → i + 1 ≤ receives found
receives_cases None i h f = omega arith
receives_cases (Some r) i h f = omega (arith, f r refl)

-- a wait is not beyond the answer's
pub receives_least : (q : Question) (i : ℕ) (a : List Arrival) → i < 8 → i + 1 ≤ receives (asked_from q i (8 - i) a)
receives_least q i a h = receives_cases (asked_from q i (8 - i) a) i h (λ r e. asked_later q (8 - i) i a r e)

-- what eight receives come to is what asking does, once the request was sent
pub asks_listens : (request : Datagram) (q : Question) (o : Outside) (arrivals : Option (List Arrival)) (tried : Option (List Tried)) (calls : Option ℕ)
    (readings : Option (List ℕ)) (last sends sends_now : ℕ) (end : AskEnd) → sends_now ≡ sends →
    Listens q (after_send request o) arrivals tried calls readings last end → Asks request q o arrivals tried calls readings last sends sends_now end
asks_listens request q o arrivals tried calls readings last sends sends_now LinkFault same h = inr (h, same)
asks_listens request q o arrivals tried calls readings last sends sends_now OutOfMemory same h = absurd h
asks_listens request q o arrivals tried calls readings last sends sends_now _ same h = h

-- no receive was made
pub no_wait : (waits : Option (List ℕ)) → WaitsSeconds waits waits
no_wait None = tt
no_wait (Some ws) = ([], sym (append-nil ws), All-nil (λ wait. wait ≡ 1000000))

-- one receive more
pub one_wait : (waits between now : Option (List ℕ)) → WaitsSeconds waits between → NotesReceive between now 1000000 → WaitsSeconds waits now
one_wait waits between None w n = tt
one_wait waits None (Some now) w n = absurd n
one_wait None (Some between) (Some now) w n = absurd w
one_wait (Some before) (Some between) (Some now) w n = (
  w.0 ++ 1000000 ∷ [],
  n ∙ (ap (λ (ws : List ℕ). ws ++ 1000000 ∷ []) w.1 ∙
      append_assoc before w.0 (1000000 ∷ [])),
  All-push (λ wait. wait ≡ 1000000) w.0 1000000 w.2 refl,
)

-- what is told after all eight waits
pub tells_all : (n : ℕ) (o : Outside) (arrivals : Option (List Arrival)) (tried : Option (List Tried)) (calls : Option ℕ) (readings : Option (List ℕ))
    (last : ℕ) → n ≡ 8 →
    KnowsExactly (heard_times n o) arrivals tried calls readings last → KnowsExactly (heard_times 8 o) arrivals tried calls readings last
tells_all n o arrivals tried calls readings last e t = subst (λ k. KnowsExactly (heard_times k o) arrivals tried calls readings last) e t

-- what is said of a value that is there
pub of_some : {A : Type 0} (P : A → Type 0) (r : Option A) (v : A) → IfSome r P → r ≡ Some v → P v
of_some P None v h e = absurd (cc)
of_some P (Some w) v h e = let s : w ≡ v = cc in subst P s h
