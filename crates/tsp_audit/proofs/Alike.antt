-- What is the same of two values that are built alike and are the same.
use Rattle.std.proofs.Common.{subst₂, ◌≡◌, ℕ, ℤ, Bool, List, [], ◌∷◌, None, Some}
use Rattle.tsp_rules.specs.Values.{Acked, Back, Correct, Message, PeerId, Place, Peer, Post, Follow, Sample}
use Rattle.tsp_base.specs.Words.{Acts, Did, Here, MessageValue, Seen}

pub first_same : {A : Type 0} {a b : A} {s t : List A} → a ∷ s ≡ b ∷ t → a ≡ b
first_same e = cc

pub rest_same : {A : Type 0} {a b : A} {s t : List A} → a ∷ s ≡ b ∷ t → s ≡ t
rest_same e = cc

-- what holds of a place holds of the same one
pub carry : {A : Type 0} {a b : A} {s t : List A} (P : A → List A → Type 0) → a ∷ s ≡ b ∷ t → P a s → P b t
carry P e p = subst₂ P (first_same e) (rest_same e) p

pub some_same : {A : Type 0} {a b : A} → Some a ≡ Some b → a ≡ b
some_same e = cc

pub here_same : {d e : Did} {s t : List Seen} → Here d ∷ s ≡ Here e ∷ t → d ≡ e
here_same e = cc

pub message_same : {to from : Place} {m n : MessageValue} → Acts (Post to (Message m)) ≡ Acts (Post from (Message n)) → m ≡ n
message_same e = cc

pub peer_same : {p q : PeerId} {m n : MessageValue} → Acts (Post (Peer p) (Message m)) ≡ Acts (Post (Peer q) (Message n)) → p ≡ q
peer_same e = cc

pub acked_same : {p q : PeerId} → Acts (Acked p) ≡ Acts (Acked q) → p ≡ q
acked_same e = cc

pub correct_same : {a b x y : ℤ} {s t : Bool} → Acts (Correct a s x) ≡ Acts (Correct b t y) → a ≡ b
correct_same e = cc

pub follow_same : {p q : PeerId} → Follow p ≡ Follow q → p ≡ q
follow_same e = cc

-- the same of a sample's peer, counter, difference and error
pub sample_same : {p q : PeerId} {c d m n : ℕ} {a b x y : ℤ} → Acts (Sample p c a x m) ≡ Acts (Sample q d b y n) → (p ≡ q) × (c ≡ d) × (a ≡ b) × (x ≡ y)
sample_same e = (cc, cc, cc, cc)

-- a list with an element isn't empty
pub none_first : {A : Type 0} {a : A} {s : List A} → a ∷ s ≡ [] → ⊥
none_first e = cc

pub none-some : {A : Type 0} {a : A} → None ≡ Some a → ⊥
none-some e = cc

pub back_same : {p q : PeerId} → Acts (Back p) ≡ Acts (Back q) → p ≡ q
back_same e = cc

pub place_same : {to from : Place} {m n : MessageValue} → Acts (Post to (Message m)) ≡ Acts (Post from (Message n)) → to ≡ from
place_same e = cc
