-- Laws of the queries.
use Rattle.std.proofs.Common.{◌≡◌, ◌≤◌, ◌∙◌, ap, sym, ℕ, ℤ, ◌%◌, List, subst, Option, Some, refl, Bool, true, false, arith, codes}
use Rattle.tsp_base.specs.Words.{carries_time, carries_hops, MessageValue, body_fits}
use Rattle.tsp_base.specs.declared.{datagram.Datagram.Datagram, datagram.Datagram.TheVariants.Message, kind.Kind.Kind, message.Body.Body}
use Rattle.tsp_base.specs.declared.kind.Kind.TheVariants.{Msite, SetDate, Test}
use Rattle.tsp_base.specs.declared.message.Body.TheVariants.{Nothing, Time as TimeBody}
use Rattle.tsp_io.specs.{Links.Arrival, Links.Tried, declared.link.Link.Ghosts as LinkOf, declared.ticker.Ticker.Ghosts as TickerOf}
use Rattle.tsp_query.proofs.FaultLemmas.{LinkCounts_from}
use Rattle.tsp_query.specs.{Arrivals.all_but_first, Clocks.tick_given, Faults.LinkCounts, Told.AsksOnce, Told.KeepsOn, Told.ReadsWall}
use Rattle.tsp_query.specs.Ends.{Outside, KnowsExactly, Asks, WaitsSeconds}
use Rattle.tsp_query.specs.Queries.{read_twice, trace_kind, message_with, question_of, stamp, diff_in, end_of, QueryEnds}
use Rattle.tsp_query.specs.declared.{ask.AskEnd.AskEnd, query.QueryEnd.QueryEnd, query.QueryEnd.TheVariants.LinkFault as Faulty}
use Rattle.tsp_query.specs.declared.ask.AskEnd.TheVariants.{Answer, LinkFault}
use Rattle.tsp_query.specs.declared.question.Question.{Question, TheVariants.OfWord}

-- the messages of queries carry nothing, but for the one that sets the date
pub fits_msite : body_fits Msite Nothing ≡ true
unfolding body_fits carries_time carries_hops
fits_msite = refl

pub fits_test : body_fits Test Nothing ≡ true
unfolding body_fits carries_time carries_hops
fits_test = refl

pub fits_trace : (on : Bool) → body_fits (trace_kind on) Nothing ≡ true
unfolding body_fits carries_time carries_hops
fits_trace true = refl
fits_trace false = refl

pub fits_date : (time : ℤ) → body_fits SetDate (TimeBody time) ≡ true
unfolding body_fits carries_time
fits_date time = refl

-- asking by a message of equal parts is asking by the query's message
pub asks_message : (kind : Kind) (body : Body) (dates : Bool) (w word : ℕ) (name : List ℕ) (m : MessageValue) (q : Question) (o : Outside)
    (arrivals : Option (List Arrival)) (tried : Option (List Tried)) (calls : Option ℕ) (readings : Option (List ℕ)) (last sends sends_now : ℕ) (end : AskEnd)
    → m ≡ record { kind = kind; number = w % 65536; body = body; name = name } → name ≡ codes "timedc" → q ≡ question_of dates (w % 65536) → w ≡ word
    → Asks (Message m) q o arrivals tried calls readings last sends sends_now end →
    Asks (message_with kind body word) (question_of dates (word % 65536)) o arrivals tried calls readings last sends sends_now end
asks_message kind body dates w word name m q o arrivals tried calls readings last sends sends_now end e f t s h = rw (e, f, t, s) at h

-- asking in the words of a query that a message asks, if an answer that it reads is one that it may end by
pub ends_by : (request : Datagram) (q : Question) (answer : Datagram → ℕ → QueryEnd) (o : Outside) (arrivals : Option (List Arrival))
    (tried : Option (List Tried)) (calls : Option ℕ) (readings : Option (List ℕ)) (last sends sends_now : ℕ) (asked : AskEnd)
    → ((d : Datagram) (tick : ℕ) → Asks request q (read_twice o) arrivals tried calls readings last sends sends_now (Answer d tick)
    → QueryEnds request q answer o arrivals tried calls readings last sends sends_now (answer d tick))
    → Asks request q (read_twice o) arrivals tried calls readings last sends sends_now asked
    → QueryEnds request q answer o arrivals tried calls readings last sends sends_now (end_of answer asked)
ends_by request q answer o arrivals tried calls readings last sends sends_now (Answer d tick) reads h = reads d tick h
ends_by request q answer o arrivals tried calls readings last sends sends_now _ reads h = h

-- what is told once the tick counter was read twice
pub tells_twice : (o : Outside) (arrivals : Option (List Arrival)) (tried : Option (List Tried)) (calls : Option ℕ) (readings now : Option (List ℕ))
    (last sent : ℕ) (later : ℕ)
    → KnowsExactly o arrivals tried calls readings last → sent ≡ tick_given last o.readings 1 → now ≡ Some (all_but_first (all_but_first o.readings)) → later ≡
    sent → KnowsExactly (read_twice o) arrivals tried calls now later
tells_twice o arrivals tried calls readings now last sent later t s r l = record {
  arrivals_are = t.arrivals_are;
  tried_are = t.tried_are;
  calls_are = t.calls_are;
  readings_are = r;
  last_is = l ∙ (s ∙ ap (λ x. tick_given x o.readings 1) t.last_is);
}

-- asking by a stamp of the same word
pub asks_stamp : (w word : ℕ) (o : Outside) (arrivals : Option (List Arrival)) (tried : Option (List Tried)) (calls : Option ℕ) (readings : Option (List ℕ))
    (last sends sends_now : ℕ) (end : AskEnd) → w ≡ word → Asks (stamp w) (OfWord w) o arrivals tried calls readings last sends sends_now end →
    Asks (stamp word) (OfWord word) o arrivals tried calls readings last sends sends_now end
asks_stamp w word o arrivals tried calls readings last sends sends_now end e h = let P : ℕ → Type 0 =
    λ (v : ℕ). Asks (stamp v) (OfWord v) o arrivals tried calls readings last sends sends_now end in subst P e h

-- a sample of equal parts
diff_in_parts : (wall wall' : ℤ) (f f' s s' : ℕ) (d : Datagram) (came : ℕ) → wall ≡ wall' → f ≡ f' → s ≡ s' → diff_in wall f s d came ≡
    diff_in wall' f' s' d came
diff_in_parts wall wall' f f' s s' d came w g t = rw (w, g, t) refl

-- asking in the words of the query that a stamp asks
pub ends-diff : (request : Datagram) (q : Question) (wall wall' : ℤ) (f f' s s' : ℕ) (o : Outside) (arrivals : Option (List Arrival))
    (tried : Option (List Tried)) (calls : Option ℕ) (readings : Option (List ℕ)) (last sends sends_now : ℕ) (end : QueryEnd) (d : Datagram) (tick : ℕ)
    → end ≡ diff_in wall f s d tick → wall ≡ wall' → f ≡ f' → s ≡ s' → Asks request q (read_twice o) arrivals tried calls readings last sends sends_now
    (Answer d tick) → QueryEnds request q (diff_in wall' f' s') o arrivals tried calls readings last sends sends_now end
ends-diff request q wall wall' f f' s s' o arrivals tried calls readings last sends sends_now end d tick e w g t h =
    rw e (d, tick, h, diff_in_parts wall wall' f f' s s' d tick w g t)

-- a question ends by its link where asking did, if no answer means that
linked_end : (answer : Datagram → ℕ → QueryEnd) → ((d : Datagram) (tick : ℕ) → answer d tick ≡ Faulty → ⊥) → (asked : AskEnd) → end_of answer asked ≡ Faulty →
    asked ≡ LinkFault
linked_end answer never (Answer d tick) e = absurd (never d tick e)
linked_end answer never LinkFault e = refl
linked_end answer never _ e = cc

-- so the link's counts are those of asking
pub counts_end : {L : Type 0} (links : LinkOf L) (before now : L) (answer : Datagram → ℕ → QueryEnd) (asked : AskEnd) (end : QueryEnd) →
    ((d : Datagram) (tick : ℕ) → answer d tick ≡ Faulty → ⊥) → end ≡ end_of answer asked
    → LinkCounts links before now (asked ≡ LinkFault) → LinkCounts links before now (end ≡ Faulty)
counts_end links before now answer asked end never is c = LinkCounts_from links before before now _ _ refl refl (λ e. linked_end answer never asked (sym is ∙
    e)) (λ e. is ∙ ap (λ a. end_of answer a) e) c

-- asking, right after the ticker was read for it
pub once_asked : {L T : Type 0} (links : LinkOf L) (tickers : TickerOf T) (link link_now : L) (before between now : T) → ReadsWall tickers before between →
    tickers.last before ≤ tickers.last between → WaitsSeconds (links.waits link) (links.waits link_now)
    → KeepsOn links tickers link between link_now now → AsksOnce links tickers link before link_now now
once_asked links tickers link link_now before between now walled later waits keeps = record {
  waits = waits;
  binds = keeps.binds;
  walled = λ readings told. keeps.walled ∙ walled readings told;
  last = omega (arith, later, keeps.last);
}
