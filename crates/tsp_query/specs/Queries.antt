-- The questions to a daemon, and how each ends.
use Rattle.std.specs.Prelude.{◌≡◌, ℕ, ℤ, pos, ◌%◌, Bool, true, false, List, [], Option, Some, codes}
use Rattle.tsp_base.specs.{Words.sample_diff, Words.sample_err, declared.datagram.Datagram.Datagram, declared.kind.Kind.Kind}
use Rattle.tsp_base.specs.declared.{datagram.Datagram.TheVariants.Message, datagram.Datagram.TheVariants.Stamp, message.Body.Body}
use Rattle.tsp_base.specs.declared.kind.Kind.TheVariants.{TraceOn, TraceOff, SetDate, DateAck}
use Rattle.tsp_base.specs.declared.message.Body.TheVariants.{Nothing, Time as TimeBody}
use Rattle.tsp_base.specs.declared.stamp.Stamp.TheVariants.{Request, Reply}
use Rattle.tsp_io.specs.{Links.Arrival, Links.Tried, declared.link.Link.Ghosts as LinkOf, declared.ticker.Ticker.Ghosts as TickerOf}
use Rattle.tsp_query.specs.{Arrivals.all_but_first, Clocks.tick_given, Clocks.own_clock, Ends.Outside, Ends.KnowsExactly, Ends.Asks}
use Rattle.tsp_query.specs.{Told.HoldsOf, declared.ask.AskEnd.AskEnd, declared.query.QueryEnd.QueryEnd, declared.question.Question.Question}
use Rattle.tsp_query.specs.declared.ask.AskEnd.TheVariants.{Answer, NoAnswer as Unanswered, LinkFault as Faulty, OutOfMemory as Refused}
use Rattle.tsp_query.specs.declared.question.Question.TheVariants.{OfNumber, OfDate}
use Rattle.tsp_query.specs.declared.query.QueryEnd.TheVariants.{Master, Diff, Heard, Date, NoAnswer, LinkFault, OutOfMemory}

-- the outside after the tick counter was read twice
abbrev pub read_twice : Outside → Outside
read_twice o = record o { readings = all_but_first (all_but_first o.readings); last = tick_given o.last o.readings 1 }

-- the kind of message that turns a trace on or off
abbrev pub trace_kind : Bool → Kind
trace_kind true = TraceOn
trace_kind false = TraceOff

-- the message that asks, with this body: its number is the word modulo 65,536, and its name `timedc`
abbrev pub message_with : Kind → Body → ℕ → Datagram
message_with kind body word = Message (record { kind = kind; number = word % 65536; body = body; name = codes "timedc" })

-- the same with no body
abbrev pub message : Kind → ℕ → Datagram
message kind word = message_with kind Nothing word

-- the message that sets the date to this time, in microseconds since 1970
abbrev pub date_message : ℤ → ℕ → Datagram
date_message time word = message_with SetDate (TimeBody time) word

-- what the answer to a message with this number must repeat; the flag is whether the message sets the date
abbrev pub question_of : Bool → ℕ → Question
question_of true number = OfDate number
question_of false number = OfNumber number

-- the stamp request that asks, with counter 0
abbrev pub stamp : ℕ → Datagram
stamp word = Stamp (Request word 0)

-- the end of a question, if its answer is read by this function
abbrev pub end_of : (Datagram → ℕ → QueryEnd) → AskEnd → QueryEnd
end_of answer (Answer d tick) = answer d tick
end_of answer Unanswered = NoAnswer
end_of answer Faulty = LinkFault
end_of answer Refused = OutOfMemory

-- how a question ends that sends this request, and reads its answer by this function
abbrev pub QueryEnds : Datagram → Question → (Datagram → ℕ → QueryEnd) → Outside → Option (List Arrival) → Option (List Tried) → Option ℕ → Option (List ℕ) →
    ℕ → ℕ → ℕ → QueryEnd → Type 0
QueryEnds request q answer o arrivals tried calls readings last sends sends_now NoAnswer =
    Asks request q (read_twice o) arrivals tried calls readings last sends sends_now Unanswered
QueryEnds request q answer o arrivals tried calls readings last sends sends_now LinkFault =
    Asks request q (read_twice o) arrivals tried calls readings last sends sends_now Faulty
QueryEnds request q answer o arrivals tried calls readings last sends sends_now OutOfMemory =
    Asks request q (read_twice o) arrivals tried calls readings last sends sends_now Refused
QueryEnds request q answer o arrivals tried calls readings last sends sends_now end = (d : Datagram) × (tick : ℕ) ×
    Asks request q (read_twice o) arrivals tried calls readings last sends sends_now (Answer d tick) × (end ≡ answer d tick)

-- the answer to a message that is numbered by this word must repeat its number; so must the answer to a date
abbrev pub by_number : ℕ → Question
by_number word = OfNumber (word % 65536)

abbrev pub by_date : ℕ → Question
by_date word = OfDate (word % 65536)

-- so ends a question over a link and a ticker whose request and whose wanted answer are made from the ticker's word, if
-- the outside and the word are told
abbrev pub EndsByWord : {L T : Type 0} → LinkOf L → TickerOf T → (ℕ → Datagram) → (ℕ → Question) → (Datagram → ℕ → QueryEnd) → L → T → L → T → QueryEnd → Type 0
EndsByWord links tickers request question answer link ticker link_now ticker_now end =
    (o : Outside) (word : ℕ) → HoldsOf links tickers (KnowsExactly o) link ticker → tickers.word_is ticker ≡ Some word
    → HoldsOf links tickers (QueryEnds (request word) (question word) answer o) link_now ticker_now (links.send_faults link) (links.send_faults link_now) end

-- the name in an answer
abbrev pub name_told : Datagram → List ℕ
name_told (Message m) = m.name
name_told (Stamp s) = []

-- the answer to who is master: the name in it
abbrev pub master_in : Datagram → ℕ → QueryEnd
master_in d tick = Master (name_told d)

-- the answer that says only that the daemon has heard
abbrev pub heard_in : Datagram → ℕ → QueryEnd
heard_in d tick = Heard

-- whether messages of this kind say that the date was set: DATEACKs
abbrev pub is_date_ack : Kind → Bool
is_date_ack DateAck = true
is_date_ack _ = false

-- whether a datagram says that the date was set: a DATEACK does; an ACK says that it is passed on
abbrev pub says_set : Datagram → Bool
says_set (Message m) = is_date_ack m.kind
says_set (Stamp s) = false

-- the answer to a date: whether it was set, or is passed on
abbrev pub date_answer : Datagram → ℕ → QueryEnd
date_answer d tick = Date (says_set d)

-- the datagram is a stamp reply
abbrev pub IsReplied : Datagram → Type 0
IsReplied (Stamp (Reply r)) = Unit {0}
IsReplied (Stamp (Request w c)) = ⊥
IsReplied (Message m) = ⊥

-- the reading of a reply: the daemon's clock, in microseconds since 1970
abbrev pub reading_in : Datagram → ℤ
reading_in (Stamp (Reply r)) = r.reading
reading_in (Stamp (Request w c)) = pos 0
reading_in (Message m) = pos 0

-- the answer to how far the daemon's clock is ahead, and by how much that may be wrong: the sample of a request that
-- went out at the tick `sent` and was answered at the tick `tick`, by a clock that showed `wall` at the tick `first`
abbrev pub diff_in : ℤ → ℕ → ℕ → Datagram → ℕ → QueryEnd
diff_in wall first sent d tick = Diff (sample_diff (own_clock wall first sent) (reading_in d) (own_clock wall first tick))
    (sample_err (own_clock wall first sent) (own_clock wall first tick))
