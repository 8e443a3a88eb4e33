-- The lines of a schedule.
use Rattle.std.specs.Prelude.{◌≡◌, ◌⊎◌, ℕ, ◌^◌, ◌<◌, ◌≤◌, List, [], ◌∷◌, ◌++◌, Bool, true, false, ◌&&◌, ◌||◌, ◌==◌, nat_le, if◌then◌else◌, length, flat_map}
use Rattle.std.specs.Prelude.{decimal, codes, nat_abs}
use Rattle.std.specs.{Fmt.signed_decimal, List.All, List.AllPass, List.Sorted.IsStrictlyIncreasing, declared.result.Result.Result}
use Rattle.std.specs.declared.result.Result.TheVariants.{Ok, Err}
use Rattle.hex.specs.Hex.{decode_of}
use Rattle.tsp_base.specs.{Words.IsName, declared.event.Event.Event, declared.header.NodeLine.NodeLine, declared.place.Place.Place}
use Rattle.tsp_base.specs.declared.event.Event.TheVariants.{Boot as BootAt, Turn, Take, Bytes}
use Rattle.tsp_base.specs.declared.place.{Place.TheVariants.Peer, Place.TheVariants.Stranger, Port.Port}
use Rattle.tsp_script.specs.{Texts.space, Traces.place_text, declared.event_line.EventItem.EventItem, declared.head_line.HeadItem.HeadItem}
use Rattle.tsp_script.specs.declared.event_line.EventItem.TheVariants.{Event as EventOf, End}
use Rattle.tsp_script.specs.declared.head_line.HeadItem.TheVariants.{Title, Drift, Strict, Node, Net, NotHead}
use Rattle.tsp_script.specs.declared.line_fault.LineFault.{LineFault, TheVariants.Bad}

-- the port after a node's number: nothing for port 0
abbrev pub port_text : Port → List ℕ
port_text port = if port.0 == 0 then [] else 47 ∷ decimal port.0

-- the line of an event, in which `hex` is the hexadecimal of the octets of a `bytes`
abbrev pub event_text : Event → List ℕ → List ℕ
event_text (BootAt at node word) hex = codes "at " ++ decimal at ++ codes " boot " ++ decimal node ++ space ++ decimal word
event_text (Turn at node) hex = codes "at " ++ decimal at ++ codes " turn " ++ decimal node
event_text (Take at datagram) hex = codes "at " ++ decimal at ++ codes " take " ++ decimal datagram
event_text (Bytes at node port from octets) hex = codes "at " ++ decimal at ++ codes " bytes " ++ decimal node ++ port_text port ++ space ++ place_text from ++
    space ++ hex

-- the octets of a `bytes` are those of this hexadecimal, whose letters may be in either case; for other events it is empty
abbrev pub IsHexOf : List ℕ → Event → Type 0
IsHexOf hex (Bytes at node port from octets) = decode_of hex ≡ Ok octets
IsHexOf hex _ = hex ≡ []

-- a peer's number in its range, or a stranger
abbrev pub IsPlace : Place → Type 0
IsPlace (Peer p) = p.0 < 2 ^ 32
IsPlace Stranger = Unit {0}

-- a time of a schedule, in microseconds
abbrev pub IsTrueTime : ℕ → Type 0
IsTrueTime at = at ≤ 1000000000000000

-- an event whose numbers are in their ranges, and whose octets, if it has them, are 1 to 300
abbrev pub IsEvent : Event → Type 0
IsEvent (BootAt at node word) = IsTrueTime at × (node < 2 ^ 32) × (word < 2 ^ 64)
IsEvent (Turn at node) = IsTrueTime at × (node < 2 ^ 32)
IsEvent (Take at datagram) = IsTrueTime at × (datagram < 2 ^ 64)
IsEvent (Bytes at node port from octets) = IsTrueTime at × (node < 2 ^ 32) × (port.0 < 2 ^ 8) × IsPlace from × (1 ≤ length octets) × (length octets ≤ 300)

-- a line after the header is an event's, or the last
abbrev pub SpellsEvent : List ℕ → EventItem → Type 0
SpellsEvent line (EventOf e) = IsEvent e × ((hex : List ℕ) × IsHexOf hex e × (line ≡ event_text e hex))
SpellsEvent line End = line ≡ codes "end"

-- what reading a line after the header gives: the event or the end, or `Bad` where it is neither
abbrev pub ReadsEvent : List ℕ → Result EventItem LineFault → Type 0
ReadsEvent line (Ok item) = SpellsEvent line item
ReadsEvent line (Err Bad) = (item : EventItem) → SpellsEvent line item → ⊥

-- an octet that is allowed in a node's name: a letter, a digit, a dot, a dash or an underscore
abbrev pub is_host : ℕ → Bool
is_host c = ((nat_le 97 c && nat_le c 122) || (nat_le 65 c && nat_le c 90)) || ((nat_le 48 c && nat_le c 57) || ((c == 46) || ((c == 45) || (c == 95))))

-- whether a node may be master
abbrev pub flag_text : Bool → List ℕ
flag_text true = codes "m"
flag_text false = codes "s"

-- the line of a node
abbrev pub node_text : NodeLine → List ℕ
node_text n = codes "node " ++ n.name ++ space ++ signed_decimal n.rate ++ space ++ signed_decimal n.wall ++ space ++ flag_text n.may

-- 1 to 255 octets that are allowed in a node's name
pub record IsHost (octets : List ℕ) : Type 0 where
  pub some : 1 ≤ length octets
  pub name : IsName octets
  pub all : AllPass is_host octets

-- a node's line that is allowed whatever the drift is
pub record IsNodeLine (n : NodeLine) : Type 0 where
  pub host : IsHost n.name
  pub rate : nat_abs n.rate ≤ 1000
  pub wall : nat_abs n.wall ≤ 1000000000000000

-- numbers, a space before each
abbrev pub numbers_text : List ℕ → List ℕ
numbers_text ns = flat_map (λ n. 32 ∷ decimal n) ns

-- the same with no space before the first
abbrev pub joined_text : List ℕ → List ℕ
joined_text [] = []
joined_text (n ∷ ns) = decimal n ++ numbers_text ns

-- the line of a network
abbrev pub net_text : List ℕ → List ℕ
net_text members = codes "net" ++ numbers_text members

-- 1 to 64 numbers in ascending order: a network's line that is allowed whatever the nodes are
pub record IsNetLine (members : List ℕ) : Type 0 where
  pub some : 1 ≤ length members
  pub few : length members ≤ 64
  pub ascending : IsStrictlyIncreasing members
  pub small : All (λ n. n < 2 ^ 32) members

-- the title of a schedule of version 1, or of version 2, whose elections are strict
abbrev pub IsTitle : List ℕ → ℕ → Type 0
IsTitle line version = ((version ≡ 1) × (line ≡ codes "tsp-schedule 1")) ⊎ ((version ≡ 2) × (line ≡ codes "tsp-schedule 2"))

-- a line from the third on that comes after the header: it begins with neither `node ` nor `net `, and isn't the third line `strict`
pub record IsNotHead (place : ℕ) (line : List ℕ) : Type 0 where
  pub no_node : (rest : List ℕ) → line ≡ codes "node " ++ rest → ⊥
  pub no_net : (rest : List ℕ) → line ≡ codes "net " ++ rest → ⊥
  pub not_strict : place ≡ 3 → line ≡ codes "strict" → ⊥

-- the line at a place of the header is this item's, places counted from 1: the title, the drift, and then `strict`, nodes and networks up to the first other
-- line
abbrev pub SpellsHead : ℕ → List ℕ → HeadItem → Type 0
SpellsHead place line (Title version) = (place ≡ 1) × IsTitle line version
SpellsHead place line (Drift p) = (place ≡ 2) × (p ≤ 1000) × (line ≡ codes "drift " ++ decimal p)
SpellsHead place line Strict = (place ≡ 3) × (line ≡ codes "strict")
SpellsHead place line (Node n) = (3 ≤ place) × IsNodeLine n × (line ≡ node_text n)
SpellsHead place line (Net members) = (3 ≤ place) × IsNetLine members × (line ≡ net_text members)
SpellsHead place line NotHead = (3 ≤ place) × IsNotHead place line

-- what reading a line of the header gives: its item, or `Bad` where no item is written so
abbrev pub ReadsHead : ℕ → List ℕ → Result HeadItem LineFault → Type 0
ReadsHead place line (Ok item) = SpellsHead place line item
ReadsHead place line (Err Bad) = (item : HeadItem) → SpellsHead place line item → ⊥
