-- What a node that may not be master does.
use Rattle.std.specs.Prelude.{◌≡◌, ℕ, Bool, true, false, List, [], ◌∷◌, None, Some}
use Rattle.tsp_rules.specs.Values.{Post, Message, Taken, Good, Kind, AdjTime, SetTime, Election, MasterUp, MasterAck, QuitKind, Refuse, Test, PeerId, Place}
use Rattle.tsp_rules.specs.Values.{Peer, Role, Candidate, Master}
use Rattle.tsp_base.specs.Words.{Acts, Deed, Seen, Here, Elsewhere, armed, held, role}

-- kinds of messages that neither masters nor candidates send, nor who refuses one
abbrev pub is_humble : Kind → Bool
is_humble AdjTime = false
is_humble SetTime = false
is_humble Election = false
is_humble MasterUp = false
is_humble MasterAck = false
is_humble QuitKind = false
is_humble Refuse = false
is_humble Test = false
is_humble _ = true

abbrev pub HumblePost : Deed → Type 0
HumblePost (Acts (Post (Peer p) (Message m))) = is_humble m.kind ≡ true
HumblePost _ = Unit {0}

-- the port posts such messages alone to its peers
abbrev pub HumblePosts : List Seen → Type 0
HumblePosts [] = Unit {0}
HumblePosts (Here d ∷ before) = HumblePost d.deed × HumblePosts before
HumblePosts (Elsewhere d ∷ before) = HumblePosts before

abbrev pub leads_in : Role → Bool
leads_in Candidate = true
leads_in Master = true
leads_in _ = false

-- a port that neither stands nor leads, has no alarm of those who do armed, and backs node c alone
pub record Humble (c : ℕ) (seen : List Seen) : Type 0 where
  pub role_is : leads_in (role seen) ≡ false
  pub window : (armed seen).window ≡ None
  pub probe : (armed seen).probe ≡ None
  pub close : (armed seen).close ≡ None
  pub resolve : (armed seen).resolve ≡ None
  pub round : (armed seen).round ≡ None
  pub posts : HumblePosts seen
  pub backs : (b : ℕ) (p : PeerId) → (held seen).back ≡ Some (b, p) → p.0 ≡ c

-- an ELECTION comes from node c alone
abbrev pub Mild : ℕ → Place → Taken → Type 0
Mild c (Peer p) (Good (Message m)) = m.kind ≡ Election → p.0 ≡ c
Mild c from taken = Unit {0}
