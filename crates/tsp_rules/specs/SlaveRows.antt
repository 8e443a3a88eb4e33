-- What a slave does: a port that is Loose or follows a master; and how the quiet time ends.
use Rattle.std.specs.Prelude.{ℕ, ◌==◌, ℤ, Bool, false, ◌&&◌, if◌then◌else◌, Option, None, Some}
use Rattle.tsp_rules.specs.Values.{Become, Ring, Late, Back, Alarm, Quiet, Elect, Search, Kind, Accept, Ack, AdjTime, Conflict, Election, MasterAck, MasterUp}
use Rattle.tsp_rules.specs.Values.{QuitKind, Refuse, SetTime, PeerId, Role, Loose, Follow, GAP}
use Rattle.tsp_base.specs.Words.{Past, plain, is_past, MessageValue, ticket, correct_tick, Row, nothing, puts, ◌followed_by◌, either_by, reading, posts}
use Rattle.tsp_base.specs.Words.{Correcting, last_taken, time_in}
use Rattle.tsp_rules.specs.ClockRows.{can_adjust, adjusts, sets}
use Rattle.tsp_rules.specs.CommonRows.{arms_elect, searches, tells_ticket, follow_row, candidature_row, quits}
use Rattle.tsp_rules.specs.SendRows.{begins, is_free, acknowledges}
use Rattle.tsp_rules.specs.Guards.{role_at, is_in_time, is_armed, is_clock_value, may_back_at, may_stand_at, follows_at}

-- the quiet time ends, however late the alarm is handled
unfoldable pub quiet_rings : Row
quiet_rings = puts (Ring Quiet) followed_by (puts (Become Loose) followed_by searches)

-- an alarm rings where it is in time, else it is late
unfoldable pub rings_or_late : Alarm → Row
rings_or_late alarm = either_by (is_in_time alarm) (puts (Ring alarm)) (puts (Late alarm))

-- no master answered
unfoldable pub search_rings : Row
search_rings = rings_or_late Search followed_by arms_elect

-- the master that is followed is given up
unfoldable pub loosens : Row
loosens = either_by follows_at (puts (Become Loose)) nothing

-- no master was heard for the election delay: the node stands for election where it may, else it searches
unfoldable pub elect_rings : Row
elect_rings = either_by (is_in_time Elect)
    (puts (Ring Elect) followed_by either_by may_stand_at candidature_row (loosens followed_by searches))
    (puts (Late Elect) followed_by arms_elect)

-- another master is heard than the one that is followed, and reported to that one
unfoldable pub reports_conflict : PeerId → Row
reports_conflict q = either_by (is_free q) (begins Conflict q) nothing

unfoldable pub masterup_in : PeerId → Role → Row
masterup_in p Loose = follow_row p
masterup_in p (Follow q) = if q.0 == p.0 then (arms_elect followed_by tells_ticket p) else reports_conflict q
masterup_in p _ = nothing

unfoldable pub masterack_in : PeerId → Role → Row
masterack_in p Loose = either_by (is_armed Search) (follow_row p) nothing
masterack_in p (Follow q) = if q.0 == p.0 then nothing else reports_conflict q
masterack_in p _ = nothing

-- a peer stands for election: it is backed where the hold allows it
unfoldable pub election_of : PeerId → ℕ → Row
election_of p number =
    either_by (may_back_at p) (puts (Back p) followed_by (arms_elect followed_by posts p Accept number)) (posts p Refuse number)

-- whether a correction with this number is the next one, and the last one is at least GAP ago
abbrev pub is_next : ℕ → ℕ → Past → Bool
is_next number x past = (number == ticket (plain past.seen)) && is_past (correct_tick (plain past.seen)) GAP x

abbrev pub is_by : PeerId → ℕ → Option Correcting → Bool
is_by p number None = false
is_by p number (Some c) = (c.from.0 == p.0) && (c.number == number)

-- whether the clock's last correction was taken from this peer under this number
abbrev pub is_repeated : PeerId → ℕ → ℕ → Past → Bool
is_repeated p number x past = is_by p number (last_taken past.seen)

-- a repeat of the last correction is acknowledged again
unfoldable pub acks_repeat : PeerId → ℕ → Row
acks_repeat p number = either_by (is_repeated p number) (posts p Ack number) nothing

-- after a correction the election alarm is armed anew, and the master gets its ACK
unfoldable pub confirms : PeerId → ℕ → Row
confirms p number = arms_elect followed_by posts p Ack number

abbrev pub takes_amount : ℕ → ℤ → ℕ → Past → Bool
takes_amount number amount x past = is_next number x past && can_adjust amount x past

-- an ADJTIME from the master
unfoldable pub adjtime_of : PeerId → ℕ → ℤ → Row
adjtime_of p number amount = either_by (takes_amount number amount) (adjusts amount followed_by confirms p number) (acks_repeat p number)

abbrev pub takes_value : ℕ → ℤ → ℕ → Past → Bool
takes_value number value x past = is_next number x past && is_clock_value value

-- a SETTIME from the master
unfoldable pub settime_of : PeerId → ℕ → ℤ → Row
settime_of p number value = either_by (takes_value number value) (sets value followed_by confirms p number) (acks_repeat p number)

-- what only a follower takes, from the master that it follows
unfoldable pub from_master : PeerId → Row → Role → Row
from_master p row (Follow q) = if q.0 == p.0 then row else nothing
from_master p row _ = nothing

-- what a port that is Loose or follows does with this kind of message of a peer
unfoldable pub slave_takes_kind : PeerId → MessageValue → Kind → Row
slave_takes_kind p m MasterUp = reading role_at (masterup_in p)
slave_takes_kind p m MasterAck = reading role_at (masterack_in p)
slave_takes_kind p m Election = election_of p m.number
slave_takes_kind p m AdjTime = reading role_at (from_master p (adjtime_of p m.number (time_in m.body)))
slave_takes_kind p m SetTime = reading role_at (from_master p (settime_of p m.number (time_in m.body)))
slave_takes_kind p m QuitKind = quits p m.number
slave_takes_kind p m Ack = acknowledges p m.number
slave_takes_kind p m _ = nothing

-- what it does with a message of a peer
unfoldable pub slave_takes : PeerId → MessageValue → Row
slave_takes p m = slave_takes_kind p m m.kind
