-- How posts are stored: the octets of all names in one list, and in another all else.
use Rattle.std.specs.Prelude.{◌≡◌, ℕ, ◌+◌, ◌*◌, ◌≤◌, Bool, true, false, List, [], length, slice_range, All, vec_len, vec_capacity}
use Rattle.std.specs.Global.{Vec}
use Rattle.tsp_rules.specs.Values.{Datagram, Message, Stamp, Kind, Body, Place, Peer, Stranger, Port, Request, Reply}
use Rattle.tsp_base.specs.Words.{IsReply, body_fits, IsName}
use Rattle.tsp_run.specs.declared.posted.Posted.{Posted}
use Rattle.tsp_networks.specs.{declared.head.StoredDatagram.StoredDatagram, declared.head.Head.Head, declared.way.Way.Way, Posts.posted_on}
use Rattle.tsp_networks.specs.declared.head.StoredDatagram.TheVariants.{Message as HeldMessage, Request as HeldRequest, Reply as HeldReply}

-- the octets that a datagram adds to all names: its own name, if it has one
abbrev pub own_name_in : Datagram → List ℕ
own_name_in (Message m) = m.name
own_name_in (Stamp s) = []

-- the stored datagram, whose name is among these octets
abbrev pub datagram_in : List ℕ → StoredDatagram → Datagram
datagram_in names (HeldMessage port to_peer kind number len start body) = Message (record {
  kind = kind;
  number = number;
  body = body;
  name = slice_range names start (start + len);
})
datagram_in names (HeldRequest port to_peer word counter) = Stamp (Request word counter)
datagram_in names (HeldReply port to_peer ticket word counter reading) = Stamp (Reply (record {
  ticket = ticket;
  word = word;
  counter = counter;
  reading = reading;
}))

-- whether a place is a peer
abbrev pub is_peer : Place → Bool
is_peer (Peer p) = true
is_peer Stranger = false

-- the place with this number, where it is that of a peer
abbrev pub place_of : Bool → ℕ → Place
place_of true n = Peer (record { 0 = n })
place_of false n = Stranger

-- the way of a post with these small parts
abbrev pub way_with : Head → Port → Bool → Way
way_with head port to_peer = record { at = head.at; from = head.from; port = port; to = place_of to_peer head.to }

-- the way of a post with this datagram, whose small parts stand there
abbrev pub way_stored : Head → StoredDatagram → Way
way_stored head (HeldMessage port to_peer kind number len start body) = way_with head port to_peer
way_stored head (HeldRequest port to_peer word counter) = way_with head port to_peer
way_stored head (HeldReply port to_peer ticket word counter reading) = way_with head port to_peer

-- when a stored post was posted, by whom and for whom
abbrev pub way_in : Head → Way
way_in head = way_stored head head.held

-- the stored post
abbrev pub post_in : List ℕ → Head → Posted
post_in names head = posted_on (way_in head) (datagram_in names head.held)

-- a message's name is among these octets, and its body is the one that its kind carries
pub record MessageStands (names : List ℕ) (kind : Kind) (len start : ℕ) (body : Body) : Type 0 where
  pub inside : start + len ≤ length names
  pub name : IsName (slice_range names start (start + len))
  pub body_is : body_fits kind body ≡ true

-- a stored message has its name among these octets; a stored request is any, and a stored reply has values in their ranges
abbrev pub HeldStands : List ℕ → StoredDatagram → Type 0
HeldStands names (HeldMessage port to_peer kind number len start body) = MessageStands names kind len start body
HeldStands names (HeldRequest port to_peer word counter) = Unit {0}
HeldStands names (HeldReply port to_peer ticket word counter reading) = IsReply ticket reading

-- the same of a stored post
abbrev pub HeadStands : List ℕ → Head → Type 0
HeadStands names head = HeldStands names head.held

-- each head has its name among these octets, and there is room for so many more heads, each with a name of 255 octets
pub record ArePosts (names : Vec ℕ) (heads : Vec Head) (spare : ℕ) : Type 0 where
  pub stand : All (HeadStands names.items) heads.items
  pub heads_fit : vec_len heads + spare ≤ vec_capacity heads
  pub names_fit : vec_len names + 255 * spare ≤ vec_capacity names
