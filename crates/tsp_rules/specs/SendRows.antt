-- How numbered sends begin, are repeated and end.
use Rattle.std.specs.Prelude.{ℕ, ◌+◌, ◌%◌, ◌==◌, nat_le, ℤ, Bool, true, false, not, ◌&&◌, ◌||◌, if◌then◌else◌, List, Option, None, Some, is_some}
use Rattle.tsp_rules.specs.Values.{Post, Acked, Gave, Leave, Message, Kind, AdjTime, Election, QuitKind, SetDateReq, SetTime, PeerId, Peer, REUSE}
use Rattle.tsp_base.specs.Words.{Past, plain, is_past, MessageValue, word, Row, nothing, puts, ◌followed_by◌, either_by, reading, for_each, others, posts}
use Rattle.tsp_base.specs.Words.{posts_time, is_correction, Sending, deadline_of, is_given_up, open_send, begun, last_post, is_acknowledged, last_number}
use Rattle.tsp_rules.specs.Guards.{target_at, is_in_range, is_slave_at}

-- the port's next own number: 32768, plus the word and the number of such sends so far, modulo 32768
abbrev pub next_number : ℕ → Past → ℕ
next_number x past = 32768 + (word (plain past.seen) + begun past.seen) % 32768

-- a send with the port's next own number begins
unfoldable pub begins : Kind → PeerId → Row
begins kind p = reading next_number (posts p kind)

abbrev pub others_at : ℕ → Past → List PeerId
others_at x past = others past.own past.peers

-- a send with a time and the port's next own number begins
unfoldable pub begins_timed : Kind → PeerId → ℤ → Row
begins_timed kind p time = reading next_number (λ n. posts_time p kind n time)

-- the same to each other peer, ascending, each with a number of its own
unfoldable pub begins_to_others : Kind → Row
begins_to_others kind = reading others_at (for_each (begins kind))

-- whether a correction with this number may begin to p: none was posted to p within REUSE, or the last one was acknowledged and this is the next number
abbrev pub may_correct : PeerId → ℕ → ℕ → Past → Bool
may_correct p number x past =
    is_past (last_post p past.seen) REUSE x || (is_acknowledged p past.seen && (number == (last_number p past.seen + 1) % 32768))

-- an ADJTIME begins, where a correction may
unfoldable pub begins_adjtime : PeerId → ℕ → ℤ → Row
begins_adjtime p number amount = either_by (may_correct p number) (posts_time p AdjTime number amount) nothing

abbrev pub may_set : PeerId → ℕ → ℕ → Past → Bool
may_set p number x past = may_correct p number x past && is_in_range x past

-- a SETTIME to the clock's target begins, where a correction may and the target is in its range
unfoldable pub begins_settime : PeerId → ℕ → Row
begins_settime p number = either_by (may_set p number) (reading target_at (posts_time p SetTime number)) nothing

-- the open send to p
abbrev pub open_at : PeerId → ℕ → Past → Option Sending
open_at p x past = open_send p past.seen

-- whether no send to p is open
abbrev pub is_free : PeerId → ℕ → Past → Bool
is_free p x past = not (is_some (open_at p x past))

abbrev pub is_kind_election : Kind → Bool
is_kind_election Election = true
is_kind_election _ = false

abbrev pub is_kind_quit : Kind → Bool
is_kind_quit QuitKind = true
is_kind_quit _ = false

abbrev pub answers_election : ℕ → Option Sending → Bool
answers_election number None = false
answers_election number (Some s) = is_kind_election s.message.kind && (s.message.number == number)

-- whether an ELECTION with this number is open to p
abbrev pub has_election : PeerId → ℕ → ℕ → Past → Bool
has_election p number x past = answers_election number (open_at p x past)

-- whether an ACK ends sends of this kind: an ELECTION and a date that is passed on have answers of their own
abbrev pub ends_by_ack : Kind → Bool
ends_by_ack Election = false
ends_by_ack SetDateReq = false
ends_by_ack _ = true

abbrev pub answers_other : ℕ → Option Sending → Bool
answers_other number None = false
answers_other number (Some s) = ends_by_ack s.message.kind && (s.message.number == number)

-- whether a send with this number that an ACK ends is open to p
abbrev pub has_other : PeerId → ℕ → ℕ → Past → Bool
has_other p number x past = answers_other number (open_at p x past)

abbrev pub is_quit : Option Sending → Bool
is_quit None = false
is_quit (Some s) = is_kind_quit s.message.kind

-- whether a QUIT is open to p
abbrev pub has_quit : PeerId → ℕ → Past → Bool
has_quit p x past = is_quit (open_at p x past)

-- an ACK ends the send that it names
unfoldable pub acknowledges : PeerId → ℕ → Row
acknowledges p number = either_by (has_other p number) (puts (Acked p)) nothing

-- whether a send is due
abbrev pub is_send_due : Sending → ℕ → Past → Bool
is_send_due s x past = nat_le (deadline_of s) x

-- whether a send that is due is given up
abbrev pub is_spent : Sending → ℕ → Past → Bool
is_spent s x past = is_given_up s x

-- a slave that doesn't acknowledge a correction leaves
unfoldable pub leaves_after : PeerId → Kind → Row
leaves_after p kind = if is_correction kind then either_by (is_slave_at p) (puts (Leave p)) nothing else nothing

-- a send is given up
unfoldable pub gives_up : PeerId → Kind → Row
gives_up p kind = puts (Gave p) followed_by leaves_after p kind

-- a message is posted again
unfoldable pub repeats : PeerId → MessageValue → Row
repeats p m = puts (Post (Peer p) (Message m))

-- a send that is due, without the change that its end may make to the slave table
unfoldable pub repeats_bare_send : PeerId → Option Sending → Row
repeats_bare_send p None = nothing
repeats_bare_send p (Some s) = either_by (is_send_due s) (either_by (is_spent s) (puts (Gave p)) (repeats p s.message)) nothing

-- the open send to p, where it is due: it is posted again or given up
unfoldable pub bare_send : PeerId → Row
bare_send p = reading (open_at p) (repeats_bare_send p)

unfoldable pub repeats_send : PeerId → Option Sending → Row
repeats_send p None = nothing
repeats_send p (Some s) = either_by (is_send_due s) (either_by (is_spent s) (gives_up p s.message.kind) (repeats p s.message)) nothing

-- the same, and a slave whose correction is given up leaves
unfoldable pub due_send : PeerId → Row
due_send p = reading (open_at p) (repeats_send p)

abbrev pub peers_at : ℕ → Past → List PeerId
peers_at x past = past.peers

-- every due send, ascending peers
unfoldable pub due_sends : Row
due_sends = reading peers_at (for_each due_send)
