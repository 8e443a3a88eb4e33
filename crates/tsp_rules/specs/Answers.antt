-- What a port does in a step: its due sends, its due alarms, and then its input.
use Rattle.std.specs.Prelude.{ℕ, Bool, true, false, not, ◌&&◌, List, [], ◌∷◌}
use Rattle.tsp_rules.specs.Values.{Took, Alarm, Quiet, Window, Elect, Search, Round, Probe, CloseAlarm, ResolveAlarm, Message, Stamp, Taken, Good, Bad, Kind}
use Rattle.tsp_rules.specs.Values.{Date, DateAck, DateReq, LoopKind, Msite, MsiteReq, SetDate, SetDateReq, Test, TraceOff, TraceOn, PeerId, Place, Peer}
use Rattle.tsp_rules.specs.Values.{Stranger, Role, Starting, Loose, Follow, Candidate, Master, Request, Reply, ALL}
use Rattle.tsp_base.specs.Words.{Past, MessageValue, Row, nothing, puts, ◌followed_by◌, either_by, reading, is_correction, ReplyValue}
use Rattle.tsp_rules.specs.{CandidateRows.window_rings, CandidateRows.candidate_takes, MasterRows.master_takes, ResolveRows.resolve_rings}
use Rattle.tsp_rules.specs.CommonRows.{replies, names_master, says_master, traces, tests}
use Rattle.tsp_rules.specs.{DateRows.date_acked, DateRows.date_of, DateRows.date_request_of, SendRows.due_sends}
use Rattle.tsp_rules.specs.RoundRows.{round_rings, probe_rings, close_rings, samples, upsetting}
use Rattle.tsp_rules.specs.SlaveRows.{quiet_rings, search_rings, elect_rings, slave_takes}
use Rattle.tsp_rules.specs.Guards.{role_at, follows_at, is_due, is_own, is_heard}

-- what a port does where this alarm is due: `own` says whether its Close moves the node's clock, `wait` whether its Round waits for another port's
unfoldable pub alarm_rings : Bool → Bool → Alarm → Row
alarm_rings own wait Quiet = quiet_rings
alarm_rings own wait Search = search_rings
alarm_rings own wait Elect = elect_rings
alarm_rings own wait Window = window_rings
alarm_rings own wait Probe = probe_rings
alarm_rings own wait CloseAlarm = close_rings own
alarm_rings own wait ResolveAlarm = resolve_rings
alarm_rings own wait Round = round_rings wait

-- an alarm, where it is due when its turn comes
unfoldable pub rings : Bool → Bool → Alarm → Row
rings own wait alarm = either_by (is_due alarm) (alarm_rings own wait alarm) nothing

-- an alarm of a node's only port
unfoldable pub rings_alone : Alarm → Row
rings_alone = rings true false

-- these alarms, one after the other, each where it is due when its turn comes
abbrev pub rings_each : List Alarm → Row
rings_each [] = nothing
rings_each (alarm ∷ []) = rings_alone alarm
rings_each (alarm ∷ next ∷ rest) = rings_alone alarm followed_by rings_each (next ∷ rest)

-- every due alarm, in their order
unfoldable pub due_alarms : Row
due_alarms = rings_each ALL

-- what the port's role does with a peer's message
unfoldable pub says_in : PeerId → MessageValue → Role → Row
says_in p m Starting = nothing
says_in p m Loose = slave_takes p m
says_in p m (Follow q) = slave_takes p m
says_in p m Candidate = candidate_takes p m
says_in p m Master = master_takes p m

unfoldable pub peer_says : MessageValue → PeerId → Row
peer_says m p = reading role_at (says_in p m)

unfoldable pub replies_in : PeerId → ReplyValue → Role → Row
replies_in p r Master = samples p r
replies_in p r _ = nothing

unfoldable pub peer_replies : ReplyValue → PeerId → Row
peer_replies r p = reading role_at (replies_in p r)

-- a row for peers alone, at a port that isn't Starting
unfoldable pub from_peer : Place → (PeerId → Row) → Row
from_peer (Peer p) row = either_by (is_heard p) (row p) nothing
from_peer Stranger row = nothing

-- what is done with this kind of message: some are answered to anybody; a LOOP is handled by the node and not by its port
unfoldable pub handles_kind : Bool → Place → MessageValue → Kind → Row
handles_kind charge from m Msite = names_master from m.number
handles_kind charge from m MsiteReq = says_master from m.number
handles_kind charge from m TraceOn = traces from m.number true
handles_kind charge from m TraceOff = traces from m.number false
handles_kind charge from m Test = tests from m.number
handles_kind charge from m Date = date_of charge from m
handles_kind charge from m SetDate = date_of charge from m
handles_kind charge from m DateReq = from_peer from (date_request_of charge m)
handles_kind charge from m SetDateReq = from_peer from (date_request_of charge m)
handles_kind charge from m DateAck = from_peer from (date_acked m)
handles_kind charge from m LoopKind = nothing
handles_kind charge from m _ = from_peer from (peer_says m)

-- whether a follower ignores a correction, since another port of its node steers the clock
abbrev pub is_left : Bool → Kind → ℕ → Past → Bool
is_left steer kind x past = not steer && (is_correction kind && follows_at x past)

-- what is done with a datagram that was taken: `steer` says whether the port steers the clock, `charge` whether it is in charge of the date
unfoldable pub handles : Bool → Bool → Place → Taken → Row
handles steer charge from (Bad fault) = nothing
handles steer charge from (Good (Message m)) = either_by (is_left steer m.kind) nothing (handles_kind charge from m m.kind)
handles steer charge from (Good (Stamp (Request word counter))) = replies from word counter
handles steer charge from (Good (Stamp (Reply r))) = from_peer from (peer_replies r)

-- a datagram is taken; what seems to come from the port itself is then ignored
unfoldable pub takes : Bool → Bool → Place → Taken → Row
takes steer charge from t = puts (Took from t) followed_by either_by (is_own from) nothing (handles steer charge from t)

-- the input of a step: nothing, or octets from a sender as they were read
pub data Given : Type 0 where
  Turn : Given
  Got : (from : Place) → (taken : Taken) → Given

-- what a node's only port does with its input: it steers the clock and is in charge of the date; a date that it sets ends its round
unfoldable pub input_row : Given → Row
input_row Turn = nothing
input_row (Got from t) = upsetting (takes true true from t)

-- what a node's only port does in a step
unfoldable pub answers : Given → Row
answers g = due_sends followed_by (due_alarms followed_by input_row g)
