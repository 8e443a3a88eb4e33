-- What a node does in a step, over all its ports: port by port the due sends and due alarms, and then the input.
use Rattle.std.specs.Prelude.{ℕ, ◌+◌, ◌-◌, ◌==◌, nat_le, nat_lt, Bool, true, false, not, ◌&&◌, ◌||◌, if◌then◌else◌, List, [], ◌∷◌, filter, length, map, is_some}
use Rattle.tsp_rules.specs.Values.{Act, Boot, Took, Post, Become, Ring, Alarm, Quiet, Round, Probe, CloseAlarm, Message, Taken, Good, Kind, LoopKind, Body}
use Rattle.tsp_rules.specs.Values.{Hops, PeerId, Place, Peer, Stranger, Port, Starting, ALL, HOPS, QUIET}
use Rattle.tsp_base.specs.Words.{deadline, Past, view, first_port, MessageValue, armed, role, is_going, ◌followed_by◌, arms, Row, nothing, puts, either_by}
use Rattle.tsp_base.specs.Words.{others, sets_date}
use Rattle.tsp_rules.specs.{Answers.rings, Answers.takes, CandidateRows.yields, SendRows.due_sends}
use Rattle.tsp_rules.specs.NodeRows.{NodePast, NodeRow, PortSetup, nothing_at_all, on, on_port, ◌and_then◌, reading_all, for_ports, stirring}
use Rattle.tsp_rules.specs.Guards.{is_follow, is_heard, is_master, is_master_at, is_own, is_starting_role}

-- so many ports, from a number on
abbrev pub ports_from : ℕ → List PortSetup → List Port
ports_from k [] = []
ports_from k (s ∷ rest) = record { 0 = k } ∷ ports_from (k + 1) rest

-- the node's ports, in their order
abbrev pub all_ports : ℕ → NodePast → List Port
all_ports x past = ports_from 0 past.ports

-- the node's ports but q, in their order
abbrev pub other_ports : Port → NodePast → List Port
other_ports q past = filter (λ r. not (r.0 == q.0)) (ports_from 0 past.ports)

abbrev pub any_port : (Port → Bool) → List Port → Bool
any_port test [] = false
any_port test (q ∷ rest) = test q || any_port test rest

-- whether port q follows a master
abbrev pub follows_on : NodePast → Port → Bool
follows_on past q = is_follow (role (view q past.lines))

-- whether port q is a master
abbrev pub leads_on : NodePast → Port → Bool
leads_on past q = is_master (role (view q past.lines))

-- whether port q has a round going
abbrev pub goes_on : NodePast → Port → Bool
goes_on past q = is_going (view q past.lines)

-- the ports below q
abbrev pub lower_ports : Port → NodePast → List Port
lower_ports q past = filter (λ r. nat_lt r.0 q.0) (ports_from 0 past.ports)

-- whether port q steers the node's clock: it is the lowest that follows a master
abbrev pub steers : Port → ℕ → NodePast → Bool
steers q x past = follows_on past q && not (any_port (follows_on past) (lower_ports q past))

-- whether a close of port q moves the node's clock: no port follows, and no lower one is a master
abbrev pub leads_clock : Port → ℕ → NodePast → Bool
leads_clock q x past = not (any_port (follows_on past) (ports_from 0 past.ports)) && not (any_port (leads_on past) (lower_ports q past))

-- whether port q is in charge of the date: it steers the clock or leads it
abbrev pub in_charge : Port → ℕ → NodePast → Bool
in_charge q x past = steers q x past || leads_clock q x past

-- whether a round of port q waits: another port has one going
abbrev pub waits : Port → ℕ → NodePast → Bool
waits q x past = any_port (goes_on past) (other_ports q past)

-- a LOOP to a peer of port q: with the port's number, the node's name and HOPS hops
abbrev pub loop_to : Port → List ℕ → PeerId → Act
loop_to q name p = Post (Peer p) (Message (record { kind = LoopKind; number = q.0; body = Hops HOPS; name = name }))

-- a LOOP is sent to each other peer of port q
unfoldable pub sends_loops : Port → Row
sends_loops q x past = map (loop_to q past.name) (others past.own past.peers)

abbrev pub is_probe : Alarm → Bool
is_probe Probe = true
is_probe _ = false

-- whether these are the acts of a Probe that rang
abbrev pub has_rung : List Act → Bool
has_rung (Ring alarm ∷ rest) = is_probe alarm
has_rung _ = false

abbrev pub is_last_probe : Past → Bool
is_last_probe past = is_some (deadline (armed past.seen) CloseAlarm) && not (is_some (deadline (armed past.seen) Probe))

-- whether these acts are those of a round's last Probe, at a node of several ports
abbrev pub ends_probes : List Act → Past → List PortSetup → Bool
ends_probes acts past ports = has_rung acts && (is_last_probe past && nat_le 2 (length ports))

-- the LOOPs after these acts of a port's Probe
unfoldable pub loops_after : Port → List Act → NodeRow
loops_after q acts x past = if ends_probes acts (on_port q past) past.ports then on q (sends_loops q) x past else []

-- a port's Probe, and the LOOPs after the last one of a round
unfoldable pub probes_on : Port → NodeRow
probes_on q x past = (on q (rings true false Probe) and_then loops_after q (rings true false Probe x (on_port q past))) x past

unfoldable pub closes_on : Port → Bool → NodeRow
closes_on q own x past = stirring q (other_ports q past) (rings own false CloseAlarm) x past

unfoldable pub begins_round_on : Port → Bool → NodeRow
begins_round_on q wait = on q (rings true wait Round)

-- an alarm of a port, where it is due when its turn comes
unfoldable pub alarm_on : Port → Alarm → NodeRow
alarm_on q Probe = probes_on q
alarm_on q CloseAlarm = reading_all (leads_clock q) (closes_on q)
alarm_on q Round = reading_all (waits q) (begins_round_on q)
alarm_on q alarm = on q (rings true false alarm)

-- these alarms of a port, one after the other, each where it is due when its turn comes
abbrev pub each_on : Port → List Alarm → NodeRow
each_on q [] = nothing_at_all
each_on q (alarm ∷ []) = alarm_on q alarm
each_on q (alarm ∷ next ∷ rest) = alarm_on q alarm and_then each_on q (next ∷ rest)

-- a port's due alarms, in their order
unfoldable pub alarms_on : Port → NodeRow
alarms_on q = each_on q ALL

-- a port's due sends and its due alarms
unfoldable pub turns_on : Port → NodeRow
turns_on q = on q due_sends and_then alarms_on q

abbrev pub hops_in : Body → ℕ
hops_in (Hops n) = n
hops_in _ = 0

abbrev pub same_name : List ℕ → List ℕ → Bool
same_name [] [] = true
same_name (a ∷ mine) (b ∷ theirs) = (a == b) && same_name mine theirs
same_name _ _ = false

-- what a node does with a LOOP
pub data LoopStep : Type 0 where
  PassOver : LoopStep
  GiveUp : LoopStep
  Forward : MessageValue → LoopStep

-- the same message with one hop less
abbrev pub one_hop_less : MessageValue → MessageValue
one_hop_less m = record m { body = Hops (hops_in m.body - 1) }

-- what is done with a LOOP: an own one on a higher port than it was sent from makes the node give up there; another node's with 1 to 10 hops is passed on
abbrev pub judge : List ℕ → ℕ → Port → MessageValue → LoopStep
judge own ports port m =
    if nat_le 2 ports
    then (if same_name m.name own
    then (if nat_lt m.number port.0 then GiveUp else PassOver)
    else (if nat_le 1 (hops_in m.body) && nat_le (hops_in m.body) HOPS then Forward (one_hop_less m) else PassOver))
    else PassOver

abbrev pub repost : MessageValue → PeerId → Act
repost m p = Post (Peer p) (Message m)

-- a message to each other peer, as it is
unfoldable pub reposts : MessageValue → Row
reposts m x past = map (repost m) (others past.own past.peers)

abbrev pub is_awake_on : NodePast → Port → Bool
is_awake_on past q = not (is_starting_role (role (view q past.lines)))

unfoldable pub reposts_on : MessageValue → Port → NodeRow
reposts_on m q x past = if is_awake_on past q then on q (reposts m) x past else []

-- a master stops leading
unfoldable pub loosens_master : Row
loosens_master = either_by is_master_at yields nothing

unfoldable pub forwards : Port → MessageValue → NodeRow
forwards q m x past = for_ports (reposts_on m) (other_ports q past) x past

unfoldable pub takes_loop_step : Port → LoopStep → NodeRow
takes_loop_step q PassOver = nothing_at_all
takes_loop_step q GiveUp = on q loosens_master
takes_loop_step q (Forward m) = forwards q m

-- whether port q hears this sender: it is another peer, and the port isn't Starting
abbrev pub hears_on : Place → Port → ℕ → NodePast → Bool
hears_on (Peer p) q x past = is_heard p x (on_port q past) && not (is_own (Peer p) x (on_port q past))
hears_on Stranger q x past = false

unfoldable pub judges : Port → MessageValue → NodeRow
judges q m x past = takes_loop_step q (judge past.name (length past.ports) q m) x past

unfoldable pub heeds_loop : Port → MessageValue → Bool → NodeRow
heeds_loop q m true = judges q m
heeds_loop q m false = nothing_at_all

-- a LOOP is taken on a port
unfoldable pub takes_loop : Port → Place → MessageValue → NodeRow
takes_loop q from m = on q (puts (Took from (Good (Message m)))) and_then reading_all (hears_on from q) (heeds_loop q m)

-- the ports whose rounds a correction by such a message ends: all others, and for a date the port's own too
abbrev pub stirred_ports : Port → Kind → NodePast → List Port
stirred_ports q kind past = if sets_date kind then ports_from 0 past.ports else other_ports q past

unfoldable pub takes_message : Port → Place → MessageValue → NodeRow
takes_message q from m x past = stirring q (stirred_ports q m.kind past) (takes (steers q x past) (in_charge q x past) from (Good (Message m))) x past

unfoldable pub takes_kind : Port → Place → MessageValue → Kind → NodeRow
takes_kind q from m LoopKind = takes_loop q from m
takes_kind q from m _ = takes_message q from m

-- a datagram is taken on a port
unfoldable pub takes_on : Port → Place → Taken → NodeRow
takes_on q from (Good (Message m)) = takes_kind q from m m.kind
takes_on q from t = on q (takes true true from t)

-- the input of a node's step: nothing, or octets from a sender on a port, as they were read
pub data NodeGiven : Type 0 where
  NodeTurn : NodeGiven
  GotOn : (q : Port) → (from : Place) → (taken : Taken) → NodeGiven

unfoldable pub input_all : NodeGiven → NodeRow
input_all NodeTurn = nothing_at_all
input_all (GotOn q from t) = takes_on q from t

-- what a node does in a step
unfoldable pub answers_all : NodeGiven → NodeRow
answers_all g = reading_all all_ports (for_ports turns_on) and_then input_all g

unfoldable pub boots_on : Port → NodeRow
boots_on q = on q (puts (Become Starting) followed_by arms Quiet QUIET)

-- a node boots: it is silent on each port for the quiet time
unfoldable pub boots_all : NodeRow
boots_all = on first_port (puts Boot) and_then reading_all all_ports (for_ports boots_on)
