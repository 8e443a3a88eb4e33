-- Which datagrams answer a question, and the first answer among the arrivals.
use Rattle.std.specs.Prelude.{ℕ, Bool, true, false, ◌&&◌, ◌==◌, if◌then◌else◌, List, [], ◌∷◌, take, Option, Some, None, zero, suc, ◌+◌}
use Rattle.tsp_base.specs.declared.datagram.{Datagram.Datagram, Datagram.TheVariants.Message, Datagram.TheVariants.Stamp, Taken.Taken}
use Rattle.tsp_base.specs.declared.{datagram.Taken.TheVariants.Good, datagram.Taken.TheVariants.Bad, kind.Kind.Kind, place.Place.Place}
use Rattle.tsp_base.specs.declared.kind.Kind.TheVariants.{Ack, DateAck}
use Rattle.tsp_base.specs.declared.place.Place.TheVariants.{Peer, Stranger}
use Rattle.tsp_base.specs.declared.stamp.Stamp.TheVariants.{Request, Reply}
use Rattle.tsp_codec.specs.Taken.{taken_of}
use Rattle.tsp_io.specs.Links.{Arrival}
use Rattle.tsp_query.specs.declared.question.Question.{Question, TheVariants.OfNumber, TheVariants.OfDate, TheVariants.OfWord}

-- whether messages of this kind are ACKs
abbrev pub is_ack_kind : Kind → Bool
is_ack_kind Ack = true
is_ack_kind _ = false

-- whether messages of this kind are ACKs or DATEACKs
abbrev pub is_date_answer : Kind → Bool
is_date_answer Ack = true
is_date_answer DateAck = true
is_date_answer _ = false

-- whether a datagram answers a question: an ACK with its number, or, to a date, a DATEACK with it too; or a stamp reply
-- with its word and counter 0
abbrev pub answers : Question → Datagram → Bool
answers (OfNumber number) (Message m) = is_ack_kind m.kind && (m.number == number)
answers (OfNumber number) (Stamp s) = false
answers (OfDate number) (Message m) = is_date_answer m.kind && (m.number == number)
answers (OfDate number) (Stamp s) = false
answers (OfWord word) (Message m) = false
answers (OfWord word) (Stamp (Request w c)) = false
answers (OfWord word) (Stamp (Reply r)) = (r.word == word) && (r.counter == 0)

-- the datagram that was read, if it is an answer
abbrev pub answer_of : Question → Taken → Option Datagram
answer_of q (Good d) = if answers q d then Some d else None
answer_of q (Bad fault) = None

-- whether a sender is the daemon, which is the link's only peer, number 0
abbrev pub is_daemon : Place → Bool
is_daemon (Peer p) = p.0 == 0
is_daemon Stranger = false

-- the answer that comes within one wait, if one does; the first 512 octets of a datagram are read
abbrev pub answer_in : Question → Arrival → Option Datagram
answer_in q None = None
answer_in q (Some r) = if is_daemon r.0 then answer_of q (taken_of (take 512 r.1)) else None

-- what comes next: nothing if no arrival is left
abbrev pub next_arrival : List Arrival → Arrival
next_arrival [] = None
next_arrival (a ∷ rest) = a

-- what comes after that
abbrev pub all_but_first : {A : Type 0} → List A → List A
all_but_first [] = []
all_but_first (x ∷ rest) = rest

-- this answer with the number of its wait, or, if there is none, a later one
abbrev pub or_later : Option Datagram → ℕ → Option (ℕ × Datagram) → Option (ℕ × Datagram)
or_later None i later = later
or_later (Some d) i later = Some (i, d)

-- the first answer within so many waits, and the number of its wait; the first of these has number i
unfoldable pub asked_from : Question → ℕ → ℕ → List Arrival → Option (ℕ × Datagram)
asked_from q i zero arrivals = None
asked_from q i (suc n) arrivals = or_later (answer_in q (next_arrival arrivals)) i (asked_from q (i + 1) n (all_but_first arrivals))

-- the first answer within eight waits, and the number of its wait, counted from 0
abbrev pub first_answer : Question → List Arrival → Option (ℕ × Datagram)
first_answer q arrivals = asked_from q 0 8 arrivals
