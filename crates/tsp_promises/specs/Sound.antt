-- Datagrams whose parts are in their ranges, and ports that take and post nothing else.
use Rattle.std.specs.Prelude.{◌≡◌, ◌<◌, ◌^◌, ℕ, true, List, [], ◌∷◌}
use Rattle.tsp_rules.specs.Values.{Act, Took, Post, Sample, Datagram, Message, Stamp, Taken, Good, Bad, Body, Nothing, TimeBody, Hops, Request, Reply}
use Rattle.tsp_base.specs.Words.{Deed, Begins, Acts, Seen, Here, Elsewhere, Past, plain, body_fits, IsName, word, IsReply, IsMicros, grown}
use Rattle.tsp_rules.specs.Answers.{Given, Turn, Got, answers}

-- a body's number is in its range: hops are less than 256, and a time is from -LIMIT to LIMIT - 1
abbrev pub IsSoundBody : Body → Type 0
IsSoundBody Nothing = Unit {0}
IsSoundBody (Hops h) = h < 2 ^ 8
IsSoundBody (TimeBody t) = IsMicros t

-- the parts of a datagram are in their ranges, as they are in one that was read from octets
abbrev pub IsSound : Datagram → Type 0
IsSound (Message m) = (m.number < 2 ^ 16) × (body_fits m.kind m.body ≡ true) × IsName m.name × IsSoundBody m.body
IsSound (Stamp (Request word counter)) = (word < 2 ^ 64) × (counter < 2 ^ 64)
IsSound (Stamp (Reply r)) = (r.word < 2 ^ 64) × (r.counter < 2 ^ 64) × IsReply r.ticket r.reading

-- what was taken is no datagram, or a sound one
abbrev pub IsSoundTaken : Taken → Type 0
IsSoundTaken (Good datagram) = IsSound datagram
IsSoundTaken (Bad fault) = Unit {0}

-- an act takes or posts a sound datagram; the ticket of a sample is less than 32,768
abbrev pub IsSoundAct : Act → Type 0
IsSoundAct (Took from taken) = IsSoundTaken taken
IsSoundAct (Post to datagram) = IsSound datagram
IsSoundAct (Sample p counter diff err ticket) = ticket < 32768
IsSoundAct _ = Unit {0}

abbrev pub IsSoundDeed : Deed → Type 0
IsSoundDeed Begins = Unit {0}
IsSoundDeed (Acts a) = IsSoundAct a

-- each act here is sound
abbrev pub AreSound : List Seen → Type 0
AreSound [] = Unit {0}
AreSound (Here d ∷ before) = IsSoundDeed d.deed × AreSound before
AreSound (Elsewhere d ∷ before) = AreSound before

-- a port whose node's name is valid, whose node booted with a word of 64 bits, and whose acts are sound
pub record SoundPast (past : Past) : Type 0 where
  pub name : IsName past.name
  pub word_fits : word (plain past.seen) < 2 ^ 64
  pub acts : AreSound past.seen

-- what a step is given is sound
abbrev pub IsSoundGiven : Given → Type 0
IsSoundGiven Turn = Unit {0}
IsSoundGiven (Got from taken) = IsSoundTaken taken

-- what the rules post is sound where all is that was taken
abbrev pub AnswersAreSound : Type 0
AnswersAreSound = (g : Given) (x : ℕ) (past : Past) → IsSoundGiven g → SoundPast past → SoundPast (grown x past (answers g x past))
