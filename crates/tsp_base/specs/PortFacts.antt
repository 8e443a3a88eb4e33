-- Facts of a port, read off its deeds since its node's last boot. Deeds on other ports change none of them.
use Rattle.std.specs.Prelude.{ℕ, ◌==◌, Bool, true, false, if◌then◌else◌, List, [], ◌∷◌, Option, None, Some}
use Rattle.tsp_base.specs.declared.act.Act.TheVariants.{Boot, Took, Become, Back, Backer, Quit, Arm, Ring, Late, Join, Leave, Rival, Abandon}
use Rattle.tsp_base.specs.declared.{alarm.Alarm.TheVariants.Probe, alarm.Alarm.TheVariants.Close, datagram.Datagram.TheVariants.Message}
use Rattle.tsp_base.specs.declared.{datagram.Taken.Taken, datagram.Taken.TheVariants.Good, place.PeerId.PeerId, place.Place.Place}
use Rattle.tsp_base.specs.declared.{place.Place.TheVariants.Peer, role.Role.Role}
use Rattle.tsp_base.specs.declared.role.Role.TheVariants.{Starting, Follow}
use Rattle.tsp_base.specs.{Alarms.Deadlines, Alarms.with_deadline, Alarms.none_armed, Hold.Held, Messages.MessageValue}
use Rattle.tsp_base.specs.History.{Deed, Begins, Acts, Seen, Here, Elsewhere}

abbrev pub role_after : Deed → Role → Role
role_after (Acts Boot) was = Starting
role_after (Acts (Become r)) was = r
role_after _ was = was

-- the role: that of the last Become
abbrev pub role : List Seen → Role
role [] = Starting
role (Here d ∷ before) = role_after d.deed (role before)
role (Elsewhere d ∷ before) = role before

-- what a step takes: the sender, and what its octets were read as
pub record Received : Type 0 where
  pub from : Place
  pub taken : Taken

abbrev pub taken_after : Deed → Option Received → Option Received
taken_after Begins was = None
taken_after (Acts (Took from t)) was = Some (record { from = from; taken = t })
taken_after _ was = was

-- what this step has taken so far
abbrev pub taken : List Seen → Option Received
taken [] = None
taken (Here d ∷ before) = taken_after d.deed (taken before)
taken (Elsewhere d ∷ before) = taken before

abbrev pub acting_after : Deed → Bool → Bool
acting_after Begins was = false
acting_after (Acts (Took from t)) was = true
acting_after (Acts (Ring a)) was = true
acting_after (Acts (Late a)) was = true
acting_after _ was = was

-- whether an alarm was handled or a datagram taken before in this step: what is posted from here on is no repeat
abbrev pub acting : List Seen → Bool
acting [] = false
acting (Here d ∷ before) = acting_after d.deed (acting before)
acting (Elsewhere d ∷ before) = acting before

-- the message that octets were read as
abbrev pub message_in : Taken → Option MessageValue
message_in (Good (Message m)) = Some m
message_in _ = None

abbrev pub name_of : Option MessageValue → List ℕ
name_of None = []
name_of (Some m) = m.name

-- the name in a message that was taken
abbrev pub name_in : Option Received → List ℕ
name_in None = []
name_in (Some r) = name_of (message_in r.taken)

-- a peer and the message that it seems to have sent
pub record Said : Type 0 where
  pub from : PeerId
  pub message : MessageValue

abbrev pub said_by : Place → Option MessageValue → Option Said
said_by (Peer p) (Some m) = Some (record { from = p; message = m })
said_by _ _ = None

-- the peer and its message, where a message of a peer was taken
abbrev pub said : Option Received → Option Said
said None = None
said (Some r) = said_by r.from (message_in r.taken)

abbrev pub kept_name_after : Deed → Option Received → List ℕ → List ℕ
kept_name_after (Acts Boot) took was = []
kept_name_after (Acts (Become (Follow p))) took was = name_in took
kept_name_after _ took was = was

-- the name of the master that was followed last: that in the message taken in the step of the last Become(Follow)
abbrev pub kept_name : List Seen → List ℕ
kept_name [] = []
kept_name (Here d ∷ before) = kept_name_after d.deed (taken before) (kept_name before)
kept_name (Elsewhere d ∷ before) = kept_name before

abbrev pub held_after : Deed → ℕ → Held → Held
held_after (Acts Boot) x was = record { boot = x; back = None; quit = None }
held_after (Acts (Back p)) x was = record was { back = Some (x, p) }
held_after (Acts (Quit p)) x was = record was { quit = Some x }
held_after _ x was = was

-- the tick of the boot, and the last Back and the last Quit since, each with its tick
abbrev pub held : List Seen → Held
held [] = record { boot = 0; back = None; quit = None }
held (Here d ∷ before) = held_after d.deed d.tick (held before)
held (Elsewhere d ∷ before) = held before

abbrev pub armed_after : Deed → Deadlines → Deadlines
armed_after (Acts Boot) was = none_armed
armed_after (Acts (Become r)) was = none_armed
armed_after (Acts (Arm a at)) was = with_deadline was a (Some at)
armed_after (Acts (Ring a)) was = with_deadline was a None
armed_after (Acts (Late a)) was = with_deadline was a None
armed_after (Acts Abandon) was = with_deadline (with_deadline was Probe None) Close None
armed_after _ was = was

-- what each alarm is armed for: the last Arm of it, unless a Ring or a Late of it or a Become came after; an Abandon turns Probe and Close off
abbrev pub armed : List Seen → Deadlines
armed [] = none_armed
armed (Here d ∷ before) = armed_after d.deed (armed before)
armed (Elsewhere d ∷ before) = armed before

abbrev pub in_table_after : PeerId → Deed → Bool → Bool
in_table_after p (Acts Boot) was = false
in_table_after p (Acts (Become r)) was = false
in_table_after p (Acts (Join q)) was = if q.0 == p.0 then true else was
in_table_after p (Acts (Leave q)) was = if q.0 == p.0 then false else was
in_table_after p _ was = was

-- whether p is in the slave table: it joined since the last Become and didn't leave
abbrev pub in_table : PeerId → List Seen → Bool
in_table p [] = false
in_table p (Here d ∷ before) = in_table_after p d.deed (in_table p before)
in_table p (Elsewhere d ∷ before) = in_table p before

abbrev pub backers_after : Deed → List PeerId → List PeerId
backers_after (Acts Boot) was = []
backers_after (Acts (Become r)) was = []
backers_after (Acts (Backer p)) was = p ∷ was
backers_after _ was = was

-- who has backed this candidature, the newest first
abbrev pub backers : List Seen → List PeerId
backers [] = []
backers (Here d ∷ before) = backers_after d.deed (backers before)
backers (Elsewhere d ∷ before) = backers before

abbrev pub stood_after : Deed → List Seen → List Seen → List Seen
stood_after (Acts Boot) here was = []
stood_after (Acts (Become r)) here was = here
stood_after _ here was = was

-- the place of the last change of the role since the boot; empty where there was none
abbrev pub stood : List Seen → List Seen
stood [] = []
stood (Here d ∷ before) = stood_after d.deed (Here d ∷ before) (stood before)
stood (Elsewhere d ∷ before) = stood before

abbrev pub is_rival_after : PeerId → Deed → Bool → Bool
is_rival_after p (Acts Boot) was = false
is_rival_after p (Acts (Become r)) was = false
is_rival_after p (Acts (Rival q)) was = if q.0 == p.0 then true else was
is_rival_after p _ was = was

-- whether p was found to be a rival since the last Become
abbrev pub is_rival : PeerId → List Seen → Bool
is_rival p [] = false
is_rival p (Here d ∷ before) = is_rival_after p d.deed (is_rival p before)
is_rival p (Elsewhere d ∷ before) = is_rival p before
