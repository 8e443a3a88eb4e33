-- What an exchange says of another clock.
use Rattle.std.specs.Prelude.{ℕ, ℤ, pos, List, ◌++◌, Bool, not, ◌&&◌, ◌==◌, nat_lt, if◌then◌else◌, Option, None, Some, codes, unsigned_abs}
use Rattle.std.specs.Fmt.{signed_decimal}
use Rattle.tsp_icmp.specs.{Days.trip_of, Days.difference_of, Days.IsAtMost, declared.timestamp.Timestamp.Timestamp}
use Rattle.tsp_script.specs.Texts.{space}
use Rattle.tsp_icmp_command.specs.declared.{exchange.Exchange.Exchange, finding.Finding.Finding}
use Rattle.tsp_icmp_command.specs.declared.finding.Finding.TheVariants.{Unlike, NoTime, Late, Apart}

-- the reply repeats the request's identifier, sequence number and originate stamp
abbrev pub repeats_request : Timestamp → Timestamp → Bool
repeats_request request reply = (request.ident == reply.ident && request.seq == reply.seq) && request.originate == reply.originate

-- whether a stamp is milliseconds since midnight, below 86,400,000
abbrev pub is_time_of_day : ℕ → Bool
is_time_of_day stamp = nat_lt stamp 86400000

-- a difference, with the round trip that it took
abbrev pub apart_or_late : Option (ℤ × ℤ) → ℕ → Finding
apart_or_late None trip = Late
apart_or_late (Some x) trip = Apart (record { diff = x.0; err = x.1; trip = trip })

-- what an exchange says of another clock, or why it says nothing
abbrev pub finding_of : Exchange → Finding
finding_of e =
    if not (repeats_request e.request e.reply) then Unlike
    else (if not (is_time_of_day e.request.originate && is_time_of_day e.reply.receive) then NoTime
    else apart_or_late (difference_of e.request.originate e.reply.receive e.arrival) (unsigned_abs (trip_of e.request.originate e.arrival)))

-- a difference is at most three quarters of a day, ahead or behind
abbrev pub IsNearDay : Finding → Type 0
IsNearDay (Apart a) = IsAtMost (pos 64800000) a.diff
IsNearDay Unlike = Unit {0}
IsNearDay NoTime = Unit {0}
IsNearDay Late = Unit {0}

-- the words of a finding
abbrev pub finding_text : Finding → List ℕ
finding_text Unlike = codes "unlike"
finding_text NoTime = codes "no-time"
finding_text Late = codes "late"
finding_text (Apart a) = signed_decimal a.diff ++ space ++ signed_decimal a.err

-- the line of a finding
abbrev pub finding_line : List ℕ → Finding → List ℕ
finding_line name finding = name ++ space ++ finding_text finding
