-- Runs of one node, written out: its inputs, and the acts that are claimed of it.
use Rattle.std.specs.Prelude.{◌≡◌, ℕ, ℤ, Bool, false, List, [], ◌∷◌, ◌++◌, codes}
use Rattle.tsp_rules.specs.Values.{Act, Took, Datagram, Good, PeerId, Place, Role}
use Rattle.tsp_base.specs.Words.{Cause, Booted, Turned, Came, Handed, Step, Past, plain, ticket, target, shown, role, Row, grown, in_step, peer_of}
use Rattle.tsp_rules.specs.{Answers.Turn, Answers.Got, Answers.answers, CommonRows.boots}

-- a step of node n at this true time
abbrev pub step : ℕ → ℕ → Cause → Step
step at n cause = record { at = at; node = n; cause = cause }

-- the names in the scripts
abbrev pub a_name : List ℕ
a_name = codes "a"

abbrev pub b_name : List ℕ
b_name = codes "b"

abbrev pub c_name : List ℕ
c_name = codes "c"

-- an event: a step, its tick, the row that is to be checked, and the acts that are claimed of it
pub record Event : Type 0 where
  pub step : Step
  pub tick : ℕ
  pub row : Row
  pub acts : List Act

-- the past when an event's step begins
abbrev pub begun : Event → Past → Past
begun e past = in_step e.step e.tick past

-- the past after these events, oldest first, if each puts the claimed acts
abbrev pub after : List Event → Past → Past
after [] past = past
after (e ∷ later) past = after later (grown e.tick (begun e past) e.acts)

-- the row of each event puts exactly the claimed acts
abbrev pub Answered : List Event → Past → Type 0
Answered [] past = Unit {0}
Answered (e ∷ later) past = (e.row e.tick (begun e past) ≡ e.acts) × Answered later (grown e.tick (begun e past) e.acts)

-- a node that has done nothing yet: its number, its name, whether it may be master, its peers
abbrev pub fresh : ℕ → List ℕ → Bool → List PeerId → Past
fresh n name may peers = record {
  own = peer_of n;
  name = name;
  may = may;
  strict = false;
  port = record { 0 = 0 };
  peers = peers;
  step = step 0 n Turned;
  seen = [];
}

-- a past with this role, ticket, target and shown value at a tick
pub record Is (past : Past) (r : Role) (number tick : ℕ) (aim display : ℤ) : Type 0 where
  pub role_is : role past.seen ≡ r
  pub ticket_is : ticket (plain past.seen) ≡ number
  pub target_is : target (plain past.seen) tick ≡ aim
  pub shown_is : shown (plain past.seen) tick ≡ display

abbrev pub x_name : List ℕ
x_name = codes "x"

-- node n boots at this time, which is its tick, with this word and at this wall clock
abbrev pub boots_at : ℕ → ℕ → ℕ → ℤ → List Act → Event
boots_at n at word wall acts = record { step = step at n (Booted word wall); tick = at; row = boots; acts = acts }

-- it looks at its timers
abbrev pub turn_at : ℕ → ℕ → List Act → Event
turn_at n at acts = record { step = step at n Turned; tick = at; row = answers Turn; acts = acts }

-- it takes this datagram from there, after the first acts, which were due
abbrev pub hands_late : ℕ → ℕ → List Act → Place → Datagram → List Act → Event
hands_late n at due from d acts = record { step = step at n Handed; tick = at; row = answers (Got from (Good d)); acts = due ++ Took from (Good d) ∷ acts }

-- it takes the datagram that was posted under this number, and nothing is due
abbrev pub comes : ℕ → ℕ → ℕ → Place → Datagram → List Act → Event
comes n at number from d acts = record { step = step at n (Came number); tick = at; row = answers (Got from (Good d)); acts = Took from (Good d) ∷ acts }

-- it is handed this datagram, and nothing is due
abbrev pub hands : ℕ → ℕ → Place → Datagram → List Act → Event
hands n at from d acts = hands_late n at [] from d acts
