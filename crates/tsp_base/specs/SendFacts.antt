-- Facts of a port's numbered sends, each of which is a first post and its repeats.
use Rattle.std.specs.Prelude.{ℕ, ◌+◌, ◌*◌, ◌==◌, nat_le, nat_lt, Bool, true, false, ◌&&◌, ◌||◌, if◌then◌else◌, List, [], ◌∷◌, Option, None, Some}
use Rattle.tsp_base.specs.declared.act.Act.TheVariants.{Boot, Post, Become, Acked, Gave, Correct}
use Rattle.tsp_base.specs.declared.constants.TheConstants.{RETRY, TRIES, LAST}
use Rattle.tsp_base.specs.declared.kind.Kind.TheVariants.{AdjTime, SetTime, Election, Conflict, Quit, Date, DateReq, SetDate, SetDateReq}
use Rattle.tsp_base.specs.declared.place.{PeerId.PeerId, Place.TheVariants.Peer}
use Rattle.tsp_base.specs.History.{Deed, Acts, Seen, Here, Elsewhere, did_of}
use Rattle.tsp_base.specs.{Messages.MessageValue, declared.datagram.Datagram.TheVariants.Message, declared.kind.Kind.Kind}
use Rattle.tsp_base.specs.PortFacts.{Received, Said, said, taken, acting}

-- whether messages of this kind correct a clock: the number of such a send is a ticket
abbrev pub is_correction : Kind → Bool
is_correction AdjTime = true
is_correction SetTime = true
is_correction _ = false

-- whether a send of this kind takes the port's own next number
abbrev pub has_own_number : Kind → Bool
has_own_number Election = true
has_own_number Conflict = true
has_own_number Quit = true
has_own_number SetDateReq = true
has_own_number _ = false

-- whether messages of this kind are numbered sends, which are repeated until they are acknowledged or given up
abbrev pub is_numbered : Kind → Bool
is_numbered AdjTime = true
is_numbered SetTime = true
is_numbered Election = true
is_numbered Conflict = true
is_numbered Quit = true
is_numbered SetDateReq = true
is_numbered _ = false

-- whether messages of this kind pass a date on to the master
abbrev pub is_date_request : Kind → Bool
is_date_request DateReq = true
is_date_request SetDateReq = true
is_date_request _ = false

-- whether messages of this kind set a date: a client's, or one that is passed on
abbrev pub sets_date : Kind → Bool
sets_date Date = true
sets_date SetDate = true
sets_date kind = is_date_request kind

-- whether this is the kind in which a port passes a date on
abbrev pub is_set_date_request : Kind → Bool
is_set_date_request SetDateReq = true
is_set_date_request _ = false

abbrev pub open_to_after : PeerId → Deed → Bool → List Seen → List Seen → List Seen
open_to_after p (Acts Boot) begins here was = []
open_to_after p (Acts (Become r)) begins here was = []
open_to_after p (Acts (Post (Peer q) (Message m))) begins here was = if (q.0 == p.0) && (is_numbered m.kind && begins) then here else was
open_to_after p (Acts (Acked q)) begins here was = if q.0 == p.0 then [] else was
open_to_after p (Acts (Gave q)) begins here was = if q.0 == p.0 then [] else was
open_to_after p _ begins here was = was

-- the open send to p: the place of its first post; empty where none is open
abbrev pub open_to : PeerId → List Seen → List Seen
open_to p [] = []
open_to p (Here d ∷ before) = open_to_after p d.deed (acting before) (Here d ∷ before) (open_to p before)
open_to p (Elsewhere d ∷ before) = open_to p before

abbrev pub begun_to_after : PeerId → Deed → Bool → List Seen → List Seen → List Seen
begun_to_after p (Acts Boot) begins here was = []
begun_to_after p (Acts (Post (Peer q) (Message m))) begins here was = if (q.0 == p.0) && (is_numbered m.kind && begins) then here else was
begun_to_after p _ begins here was = was

-- the last send that began to p since the boot, open or ended: the place of its first post; empty where none began. A numbered post to p belongs to this one
abbrev pub begun_to : PeerId → List Seen → List Seen
begun_to p [] = []
begun_to p (Here d ∷ before) = begun_to_after p d.deed (acting before) (Here d ∷ before) (begun_to p before)
begun_to p (Elsewhere d ∷ before) = begun_to p before

abbrev pub posts_of_after : PeerId → Deed → Bool → ℕ → ℕ
posts_of_after p (Acts Boot) begins n = 0
posts_of_after p (Acts (Become r)) begins n = 0
posts_of_after p (Acts (Post (Peer q) (Message m))) begins n = if (q.0 == p.0) && is_numbered m.kind then (if begins then 1 else n + 1) else n
posts_of_after p (Acts (Acked q)) begins n = if q.0 == p.0 then 0 else n
posts_of_after p (Acts (Gave q)) begins n = if q.0 == p.0 then 0 else n
posts_of_after p _ begins n = n

-- how often the open send to p was posted
abbrev pub posts_of : PeerId → List Seen → ℕ
posts_of p [] = 0
posts_of p (Here d ∷ before) = posts_of_after p d.deed (acting before) (posts_of p before)
posts_of p (Elsewhere d ∷ before) = posts_of p before

-- the message that a deed posts
abbrev pub message_of : Deed → Option MessageValue
message_of (Acts (Post to (Message m))) = Some m
message_of _ = None

-- the message that is posted at a place
abbrev pub message_at : List Seen → Option MessageValue
message_at [] = None
message_at (s ∷ before) = message_of (did_of s).deed

-- an open send: the tick of its first post, how often it was posted, and its message
pub record Sending : Type 0 where
  pub began : ℕ
  pub posts : ℕ
  pub message : MessageValue

abbrev pub sending_of : Option MessageValue → ℕ → ℕ → Option Sending
sending_of None began posts = None
sending_of (Some m) began posts = Some (record { began = began; posts = posts; message = m })

abbrev pub sending_at : List Seen → ℕ → Option Sending
sending_at [] posts = None
sending_at (s ∷ before) posts = sending_of (message_of (did_of s).deed) (did_of s).tick posts

-- the open send to p, if there is one
abbrev pub open_send : PeerId → List Seen → Option Sending
open_send p seen = sending_at (open_to p seen) (posts_of p seen)

-- the tick from which an open send is due: a RETRY has passed since it began for each of its posts
abbrev pub deadline_of : Sending → ℕ
deadline_of s = s.began + s.posts * RETRY

-- whether a send that is due is given up: it began too long ago, or was posted often enough
abbrev pub is_given_up : Sending → ℕ → Bool
is_given_up s tick = nat_lt (s.began + LAST) tick || nat_le TRIES s.posts

-- a send with one post more
abbrev pub again : Option Sending → Option Sending
again None = None
again (Some s) = Some (record s { posts = s.posts + 1 })

-- whether an open send corrects
abbrev pub corrects_in : Option Sending → Bool
corrects_in None = false
corrects_in (Some s) = is_correction s.message.kind

abbrev pub begun_after : Deed → Bool → ℕ → ℕ
begun_after (Acts Boot) begins n = 0
begun_after (Acts (Post to (Message m))) begins n = if has_own_number m.kind && begins then n + 1 else n
begun_after _ begins n = n

-- how many sends with the port's own numbers began since the boot
abbrev pub begun : List Seen → ℕ
begun [] = 0
begun (Here d ∷ before) = begun_after d.deed (acting before) (begun before)
begun (Elsewhere d ∷ before) = begun before

abbrev pub last_to_after : PeerId → Deed → Bool → List Seen → List Seen → List Seen
last_to_after p (Acts Boot) begins here was = []
last_to_after p (Acts (Post (Peer q) (Message m))) begins here was = if (q.0 == p.0) && (is_correction m.kind && begins) then here else was
last_to_after p _ begins here was = was

-- the last correction that began to p since the boot: the place of its first post; empty where there was none
abbrev pub last_to : PeerId → List Seen → List Seen
last_to p [] = []
last_to p (Here d ∷ before) = last_to_after p d.deed (acting before) (Here d ∷ before) (last_to p before)
last_to p (Elsewhere d ∷ before) = last_to p before

abbrev pub number_of : Option MessageValue → ℕ
number_of None = 0
number_of (Some m) = m.number

-- the number of the last correction that began to p
abbrev pub last_number : PeerId → List Seen → ℕ
last_number p seen = number_of (message_at (last_to p seen))

abbrev pub last_post_after : PeerId → Deed → ℕ → Option ℕ → Option ℕ
last_post_after p (Acts Boot) x was = None
last_post_after p (Acts (Post (Peer q) (Message m))) x was = if (q.0 == p.0) && is_correction m.kind then Some x else was
last_post_after p _ x was = was

-- the tick at which a correction was last posted to p since the boot, repeats included
abbrev pub last_post : PeerId → List Seen → Option ℕ
last_post p [] = None
last_post p (Here d ∷ before) = last_post_after p d.deed d.tick (last_post p before)
last_post p (Elsewhere d ∷ before) = last_post p before

-- whether this is a message that corrects
abbrev pub corrects_by : Option MessageValue → Bool
corrects_by None = false
corrects_by (Some m) = is_correction m.kind

abbrev pub is_acknowledged_after : PeerId → Deed → Bool → Bool → Bool → Bool
is_acknowledged_after p (Acts Boot) begins corrects was = false
is_acknowledged_after p (Acts (Post (Peer q) (Message m))) begins corrects was = if (q.0 == p.0) && (is_correction m.kind && begins) then false else was
is_acknowledged_after p (Acts (Acked q)) begins corrects was = if (q.0 == p.0) && corrects then true else was
is_acknowledged_after p _ begins corrects was = was

-- whether the last correction that began to p was acknowledged: an Acked(p) came after its beginning while it was the open send
abbrev pub is_acknowledged : PeerId → List Seen → Bool
is_acknowledged p [] = false
is_acknowledged p (Here d ∷ before) = is_acknowledged_after p d.deed (acting before) (corrects_by (message_at (open_to p before))) (is_acknowledged p before)
is_acknowledged p (Elsewhere d ∷ before) = is_acknowledged p before

-- a correction that a port took: its sender and its number
pub record Correcting : Type 0 where
  pub from : PeerId
  pub number : ℕ

-- the sender and the number of what a step took, where that is a correction
abbrev pub correcting_of : Option Said → Option Correcting
correcting_of None = None
correcting_of (Some s) = if is_correction s.message.kind then Some (record { from = s.from; number = s.message.number }) else None

abbrev pub last_taken_after : Deed → Option Received → Option Correcting → Option Correcting
last_taken_after (Acts Boot) took was = None
last_taken_after (Acts (Correct amount stepped shown)) took was = correcting_of (said took)
last_taken_after _ took was = was

abbrev pub last_taken_elsewhere : Deed → Option Correcting → Option Correcting
last_taken_elsewhere (Acts (Correct amount stepped shown)) was = None
last_taken_elsewhere _ was = was

-- the correction that the node's last Correct took, where that is on this port and came after its step took something: a round's own Correct doesn't
abbrev pub last_taken : List Seen → Option Correcting
last_taken [] = None
last_taken (Here d ∷ before) = last_taken_after d.deed (taken before) (last_taken before)
last_taken (Elsewhere d ∷ before) = last_taken_elsewhere d.deed (last_taken before)

-- a date that was set for a peer: the tick then, and the number under which the peer passed it on
pub record Dating : Type 0 where
  pub at : ℕ
  pub number : ℕ

abbrev pub dating_of : PeerId → ℕ → Option Said → Option Dating → Option Dating
dating_of p x None was = was
dating_of p x (Some s) was = if (s.from.0 == p.0) && is_date_request s.message.kind then Some (record { at = x; number = s.message.number }) else was

abbrev pub last_date_after : PeerId → Deed → ℕ → Option Received → Option Dating → Option Dating
last_date_after p (Acts Boot) x took was = None
last_date_after p (Acts (Correct amount stepped shown)) x took was = dating_of p x (said took) was
last_date_after p _ x took was = was

-- the last date of p since the boot: the last Correct on this port that came after a Took of a date that p passes on
abbrev pub last_date : PeerId → List Seen → Option Dating
last_date p [] = None
last_date p (Here d ∷ before) = last_date_after p d.deed d.tick (taken before) (last_date p before)
last_date p (Elsewhere d ∷ before) = last_date p before

abbrev pub last_asked_after : Deed → Bool → ℕ → Option ℕ → Option ℕ
last_asked_after (Acts Boot) begins x was = None
last_asked_after (Acts (Post to (Message m))) begins x was = if is_set_date_request m.kind && begins then Some x else was
last_asked_after _ begins x was = was

-- the tick at which this port last began to pass a date on, since the boot
abbrev pub last_asked : List Seen → Option ℕ
last_asked [] = None
last_asked (Here d ∷ before) = last_asked_after d.deed (acting before) d.tick (last_asked before)
last_asked (Elsewhere d ∷ before) = last_asked before
