-- How the network's date is set: a follower passes it on to its master, and a master sets it.
use Rattle.std.specs.Prelude.{ℕ, ◌+◌, ◌==◌, nat_lt, ℤ, Bool, true, false, ◌&&◌, ◌||◌, List, [], ◌∷◌, Option, None, Some}
use Rattle.tsp_rules.specs.Values.{Acked, Leave, Ack, DateAck, MasterUp, SetDateReq, PeerId, Place, Peer, Role, Follow, Master, DATEHOLD, GAP, REUSE}
use Rattle.tsp_base.specs.Words.{Past, plain, is_past, MessageValue, correct_tick, Row, nothing, puts, ◌followed_by◌, either_by, reading, for_each, posts}
use Rattle.tsp_base.specs.Words.{posts_back, posts_to_others, Dating, Sending, is_acknowledged, is_set_date_request, last_asked, last_date, last_post, time_in}
use Rattle.tsp_rules.specs.{ClockRows.sets, Guards.is_clock_value, Guards.role_at, Guards.table_at}
use Rattle.tsp_rules.specs.SendRows.{begins_timed, is_free, open_at}

-- whether a follower of q passes a date on: it began no such send within REUSE, and no send to q is open
abbrev pub may_pass_on : PeerId → ℕ → Past → Bool
may_pass_on q x past = is_past (last_asked past.seen) REUSE x && is_free q x past

-- a client's date is acknowledged, and its passing on begins
unfoldable pub passes_on : Place → PeerId → ℕ → ℤ → Row
passes_on from q number time = either_by (may_pass_on q) (posts_back from Ack number followed_by begins_timed SetDateReq q time) nothing

-- whether no correction of p can still be under way: the last one was acknowledged or is long ago
abbrev pub is_settled : PeerId → ℕ → Past → Bool
is_settled p x past = is_past (last_post p past.seen) REUSE x || is_acknowledged p past.seen

abbrev pub are_settled : List PeerId → ℕ → Past → Bool
are_settled [] x past = true
are_settled (p ∷ rest) x past = is_settled p x past && are_settled rest x past

-- the same of all slaves
abbrev pub all_settled : ℕ → Past → Bool
all_settled x past = are_settled (table_at x past) x past

-- whether a master can set this date now
abbrev pub may_date : ℤ → ℕ → Past → Bool
may_date time x past = is_past (correct_tick (plain past.seen)) GAP x && (is_clock_value time && all_settled x past)

unfoldable pub leaves : PeerId → Row
leaves p = puts (Leave p)

-- every slave leaves, ascending
unfoldable pub leaves_all : Row
leaves_all = reading table_at (for_each leaves)

-- the date is set: the clock steps to it, the sender is answered, and all slaves leave, so that each has to report again
unfoldable pub new_date : Place → ℕ → ℤ → Row
new_date from number time = sets time followed_by (posts_back from DateAck number followed_by (leaves_all followed_by posts_to_others MasterUp 0))

unfoldable pub sets_date_where : Place → ℕ → ℤ → Row
sets_date_where from number time = either_by (may_date time) (new_date from number time) nothing

unfoldable pub date_in : Place → ℕ → ℤ → Role → Row
date_in from number time (Follow q) = passes_on from q number time
date_in from number time Master = sets_date_where from number time
date_in from number time _ = nothing

-- a client sets the date; the flag says whether the port is in charge of it
unfoldable pub date_of : Bool → Place → MessageValue → Row
date_of true from m = reading role_at (date_in from m.number (time_in m.body))
date_of false from m = nothing

abbrev pub date_at : PeerId → ℕ → Past → Option Dating
date_at p x past = last_date p past.seen

abbrev pub is_last : ℕ → ℕ → Option Dating → Bool
is_last number x None = false
is_last number x (Some d) = (d.number == number) && nat_lt x (d.at + DATEHOLD)

-- whether the date that p passed on last has this number, and was set less than DATEHOLD ago
abbrev pub is_dated : PeerId → ℕ → ℕ → Past → Bool
is_dated p number x past = is_last number x (date_at p x past)

unfoldable pub sets_in_charge : Bool → PeerId → MessageValue → Row
sets_in_charge true p m = sets_date_where (Peer p) m.number (time_in m.body)
sets_in_charge false p m = nothing

unfoldable pub date_request_in : Bool → MessageValue → PeerId → Role → Row
date_request_in charge m p Master = either_by (is_dated p m.number) (posts p DateAck m.number) (sets_in_charge charge p m)
date_request_in charge m p _ = nothing

-- a peer passes a date on: a repeat of the last one is answered again; another date is set where the port is in charge
unfoldable pub date_request_of : Bool → MessageValue → PeerId → Row
date_request_of charge m p = reading role_at (date_request_in charge m p)

abbrev pub answers_date : ℕ → Option Sending → Bool
answers_date number None = false
answers_date number (Some s) = is_set_date_request s.message.kind && (s.message.number == number)

-- whether a date is being passed on to p under this number
abbrev pub has_date : PeerId → ℕ → ℕ → Past → Bool
has_date p number x past = answers_date number (open_at p x past)

unfoldable pub date_acked_in : MessageValue → PeerId → Role → Row
date_acked_in m p (Follow q) = either_by (has_date p m.number) (puts (Acked p)) nothing
date_acked_in m p _ = nothing

-- the master has set the date that was passed on
unfoldable pub date_acked : MessageValue → PeerId → Row
date_acked m p = reading role_at (date_acked_in m p)
