-- What the post of a LOOP owes to its port's past.
use Rattle.std.specs.Prelude.{◌≡◌, ◌≢◌, ◌≤◌, ◌⊎◌, ℕ, ◌+◌, List, Some}
use Rattle.tsp_rules.specs.Values.{Message, Good, LoopKind, Hops, PeerId, Peer, HOPS}
use Rattle.tsp_base.specs.Words.{Seen, plain, MessageValue, Setup, heard}

-- a LOOP sets out with the node's own name, the number of its port, and HOPS hops
pub record SetsOut (setup : Setup) (m : MessageValue) : Type 0 where
  pub name : m.name ≡ setup.name
  pub number : m.number ≡ setup.port.0
  pub hops : m.body ≡ Hops HOPS

-- a LOOP is passed on that the step took from a peer, on whatever port: it has another node's name, and goes on with
-- one hop less
pub record PassesOn (setup : Setup) (before : List Seen) (m : MessageValue) : Type 0 where
  pub from : PeerId
  pub message : MessageValue
  pub took : heard (plain before) ≡ Some (record { from = Peer from; taken = Good (Message message) })
  pub kind : message.kind ≡ LoopKind
  pub name : message.name ≡ m.name
  pub number : message.number ≡ m.number
  pub other : message.name ≢ setup.name
  pub left : ℕ
  pub came : message.body ≡ Hops (left + 1)
  pub goes : m.body ≡ Hops left
  pub few : left + 1 ≤ HOPS

-- what the post of a LOOP owes
abbrev pub LoopFits : Setup → List Seen → MessageValue → Type 0
LoopFits setup before m = SetsOut setup m ⊎ PassesOn setup before m
