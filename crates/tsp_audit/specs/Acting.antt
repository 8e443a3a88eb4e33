-- Which sends a clock's corrections have taken.
use Rattle.std.specs.Prelude.{◌≡◌, ◌<◌, ◌≤◌, ℕ, ◌==◌, ℤ, Bool, true, false, not, List, [], ◌∷◌, ◌++◌, length, get_or, take, Option, None, Some, is_some}
use Rattle.std.specs.List.{list_any}
use Rattle.tsp_audit.specs.{Parts.AllKept, declared.premises.Premises.Premises}
use Rattle.tsp_rules.specs.Values.{Post, Correct, Message, PeerId, Place, Peer}
use Rattle.tsp_base.specs.Words.{Acts, Came, Deed, Did, Here, Line, Seen, dids, of, MessageValue, Within, is_correction, is_numbered, heard, peer_of, posted}
use Rattle.tsp_base.specs.Words.{time_in}
use Rattle.tsp_promises.specs.{CorrectFits.amount_of, Fits.node_of, Setting.Setting}
use Rattle.tsp_promises.specs.Once.{ActsOn, Brings, ConfirmedAt, ObeysAt, OfSend, OnceAt, SpacedAt}
use Rattle.tsp_history.specs.declared.line.HistoryLine.{HistoryLine}
use Rattle.tsp_history.specs.{Histories.history_of, Histories.line_of, PostedPlaces.PostedAt, Posts.PostsAt}

-- the datagram that the line's step takes, if it takes one, was never posted
abbrev pub IsUnposted : Line → List Line → Type 0
IsUnposted l h = (k : ℕ) → l.did.step.cause ≡ Came k → posted (dids h) ≤ k

-- the datagram that the line's step takes is posted by the line at this index of those before it
pub record CameAt (ns : List HistoryLine) (l : Line) (i : ℕ) : Type 0 where
  pub number : ℕ
  pub cause : l.did.step.cause ≡ Came number
  pub posts : PostsAt ns number i

-- a deed posts a message to this node
pub record PostsTo (deed : Deed) (node : ℕ) : Type 0 where
  pub message : MessageValue
  pub is : deed ≡ Acts (Post (Peer (peer_of node)) (Message message))

-- the message that the line's step brings is posted by the line at this index of those before it
pub record BringsAt (ns : List HistoryLine) (l : Line) (i : ℕ) : Type 0 where
  pub below : i < length ns
  pub brings : (noted : HistoryLine) → get_or ns i noted ≡ noted → Brings l (history_of ns) (line_of noted) (history_of (take i ns))

-- a deed posts a numbered message
pub record IsNumbered (deed : Deed) : Type 0 where
  pub to : Place
  pub message : MessageValue
  pub is : deed ≡ Acts (Post to (Message message))
  pub numbered : is_numbered message.kind ≡ true

-- a deed posts a correction that moves a clock with this target by this amount
pub record PostsMove (deed : Deed) (amount target : ℤ) : Type 0 where
  pub to : Place
  pub message : MessageValue
  pub is : deed ≡ Acts (Post to (Message message))
  pub kind : is_correction message.kind ≡ true
  pub amount_is : amount ≡ amount_of message.kind (time_in message.body) target

-- the line is a Correct that takes a post of the send that begins with this datagram
pub record TakesSend (l : Line) (h : List Line) (s : ℕ) : Type 0 where
  pub post : Line
  pub older : List Line
  pub first : Did
  pub begun : List Seen
  pub acts : ActsOn l h post older
  pub of_send : OfSend (node_of l) post older first begun
  pub at : PostedAt (node_of post) post.port (post ∷ older) (Here first ∷ begun) s

-- a Correct of the history takes a post of that send
pub record TakenIn (h : List Line) (s : ℕ) : Type 0 where
  pub correct : Line
  pub past : List Line
  pub place : Within (correct ∷ past) h
  pub takes : TakesSend correct past s

-- a number is among these
abbrev pub is_in : ℕ → List ℕ → Bool
is_in s sends = list_any (λ t. t == s) sends

-- the sends of which Corrects of the history have taken posts are just these
pub record ActedIs (h : List Line) (acted : List ℕ) : Type 0 where
  pub sound : (s : ℕ) → is_in s acted ≡ true → TakenIn h s
  pub complete : (correct : Line) (past : List Line) (s : ℕ) → Within (correct ∷ past) h → TakesSend correct past s → is_in s acted ≡ true

-- whether the datagram with this number is a correction
abbrev pub Corrects : List Line → ℕ → Bool → Type 0
Corrects h s b = (post : Line) (older : List Line) (p : PeerId) (m : MessageValue) → Within (post ∷ older) h → post.did.deed ≡
    Acts (Post (Peer p) (Message m)) → posted (dids older) ≡ s → is_correction m.kind ≡ b

-- the line is a Correct after its step's Took
pub record ActsNow (l : Line) (h : List Line) : Type 0 where
  pub amount : ℤ
  pub stepped : Bool
  pub shown : ℤ
  pub correct : l.did.deed ≡ Acts (Correct amount stepped shown)
  pub took : is_some (heard (dids (of (node_of l) h))) ≡ true

-- whether a send isn't among these; true where there is none
abbrev pub is_unknown : Option ℕ → List ℕ → Bool
is_unknown None sends = true
is_unknown (Some s) sends = not (is_in s sends)

-- whether a deed posts a correction
abbrev pub deed_corrects : Deed → Bool
deed_corrects (Acts (Post to (Message m))) = is_correction m.kind
deed_corrects _ = false

-- the send of which the line's Correct takes a post, if it takes one
abbrev pub TakesAs : Line → List Line → Option ℕ → Type 0
TakesAs l h None = (s : ℕ) → TakesSend l h s → ⊥
TakesAs l h (Some s) = TakesSend l h s

-- these sends, and then this one, if there is one
abbrev pub with_send : Option ℕ → List ℕ → List ℕ
with_send None sends = sends
with_send (Some s) sends = sends ++ s ∷ []

-- a line takes no post of a send that a Correct has taken one of before, and is no Acked of a correction that wasn't
-- taken
pub record TakesWell (l : Line) (h : List Line) : Type 0 where
  pub taken : OnceAt is_numbered l h
  pub confirmed : ConfirmedAt l h

-- what the promise that each correction acts at most once asks of a line
pub record ActsAt (premises : Premises) (setting : Setting) (l : Line) (h : List Line) : Type 0 where
  pub spaced : SpacedAt l h
  pub obeyed : premises.honest ≡ true → ObeysAt setting l h
  pub takes : AllKept premises → TakesWell l h
