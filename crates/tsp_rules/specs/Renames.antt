-- Other names for the peers of a port, and later ticks: what they make of acts and of what rows read, and which peers acts may name.
use Rattle.std.specs.Prelude.{◌≡◌, ℕ, ◌+◌, ◌==◌, Option, None, Some}
use Rattle.tsp_rules.specs.Values.{Act, Boot, Took, Post, Become, Arm, Back, Backer, Sample, Acked, Gave, Join, Leave, Rival, Quit, Alarm, Window, PeerId}
use Rattle.tsp_rules.specs.Values.{Place, Peer, Stranger, Role, Follow, Candidate}
use Rattle.tsp_base.specs.Words.{Sending}

-- other numbers for the peers of a port, and ticks that are later by `shift`
pub record Renaming : Type 0 where
  pub shift : ℕ
  pub peer : PeerId → PeerId

-- a place, with its peer renamed
abbrev pub renamed_place : Renaming → Place → Place
renamed_place m (Peer p) = Peer (m.peer p)
renamed_place m Stranger = Stranger

-- a role, with the followed peer renamed
abbrev pub renamed_role : Renaming → Role → Role
renamed_role m (Follow p) = Follow (m.peer p)
renamed_role m r = r

-- an act, with its peer renamed and its tick later
abbrev pub renamed_act : Renaming → Act → Act
renamed_act m (Took from t) = Took (renamed_place m from) t
renamed_act m (Post to d) = Post (renamed_place m to) d
renamed_act m (Become r) = Become (renamed_role m r)
renamed_act m (Back p) = Back (m.peer p)
renamed_act m (Backer p) = Backer (m.peer p)
renamed_act m (Quit p) = Quit (m.peer p)
renamed_act m (Arm a at) = Arm a (at + m.shift)
renamed_act m (Join p) = Join (m.peer p)
renamed_act m (Leave p) = Leave (m.peer p)
renamed_act m (Rival p) = Rival (m.peer p)
renamed_act m (Acked p) = Acked (m.peer p)
renamed_act m (Gave p) = Gave (m.peer p)
renamed_act m (Sample p counter diff err ticket) = Sample (m.peer p) counter diff err ticket
renamed_act m a = a

-- an open send, which began later
abbrev pub later_send : Renaming → Sending → Sending
later_send m s = record { began = s.began + m.shift; posts = s.posts; message = s.message }

-- the same if there is one
abbrev pub later_sends : Renaming → Option Sending → Option Sending
later_sends m None = None
later_sends m (Some s) = Some (later_send m s)

-- a renaming that tells peers apart, and what is known of a port whose peers are renamed
pub record Naming : Type 1 where
  pub names : Renaming
  pub same : (p q : PeerId) → ((names.peer p).0 == (names.peer q).0) ≡ (p.0 == q.0)
  -- the peers from which something may come
  pub comes : PeerId → Type 0
  -- the peers that the port's acts may name
  pub known : PeerId → Type 0
  -- the port may stand for election
  pub stands : Type 0

-- a place from which something may come
abbrev pub comes_place : Naming → Place → Type 0
comes_place m (Peer p) = m.comes p
comes_place m Stranger = Unit {0}

-- a place to which an answer may go
abbrev pub known_place : Naming → Place → Type 0
known_place m (Peer p) = m.known p
known_place m Stranger = Unit {0}

-- a role that the port may have
abbrev pub known_role : Naming → Role → Type 0
known_role m (Follow p) = m.known p
known_role m Candidate = m.stands
known_role m r = Unit {0}

-- an alarm that the port may arm
abbrev pub Wakes : Naming → Alarm → Type 0
Wakes m Window = m.stands
Wakes m alarm = Unit {0}

-- an act is no boot, and names only known peers, except what it takes and whom it backs; and only a port that may stand is a candidate or
-- waits for the end of the window
abbrev pub Knows : Naming → Act → Type 0
Knows m Boot = ⊥
Knows m (Post to d) = known_place m to
Knows m (Become r) = known_role m r
Knows m (Arm alarm at) = Wakes m alarm
Knows m (Backer p) = m.known p
Knows m (Quit p) = m.known p
Knows m (Join p) = m.known p
Knows m (Leave p) = m.known p
Knows m (Rival p) = m.known p
Knows m (Acked p) = m.known p
Knows m (Gave p) = m.known p
Knows m (Sample p counter diff err ticket) = m.known p
Knows m a = Unit {0}
