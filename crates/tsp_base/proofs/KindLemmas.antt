-- The table of kinds, each law once.
use Rattle.std.proofs.Common.{◌≡◌, ◌<◌, ◌≤◌, lit<, zero, suc, slice_index_or, ℕ, length, arith, rules, ◌+◌, ◌-◌, List, [], ◌∷◌, refl, Some}
use Rattle.std.proofs.lemmas.Bool.Decides.{nat_tests}
use denote.Enum.Declared.{tag_of}
use Rattle.tsp_base.specs.declared.kind.Kind.TheVariants.{AdjTime, Ack, MasterReq, MasterAck, SetTime, MasterUp, SlaveUp, Election, Accept, Refuse, Conflict}
use Rattle.tsp_base.specs.declared.kind.Kind.TheVariants.{Resolve as ResolveKind, Quit as QuitKind, Date, DateReq, DateAck, TraceOn, TraceOff, Msite, MsiteReq}
use Rattle.tsp_base.specs.declared.kind.Kind.TheVariants.{Test, SetDate, SetDateReq, Loop as LoopKind}
use Rattle.tsp_base.specs.{Words.kind_number, Words.kind_of, Words.kinds, contracts.kind.Kind.the_type, declared.kind.Kind.Kind}

pub number_of_tag : (k : Kind) → tag_of the_type k + 1 ≡ kind_number k
unfolding kind_number
number_of_tag AdjTime = refl
number_of_tag Ack = refl
number_of_tag MasterReq = refl
number_of_tag MasterAck = refl
number_of_tag SetTime = refl
number_of_tag MasterUp = refl
number_of_tag SlaveUp = refl
number_of_tag Election = refl
number_of_tag Accept = refl
number_of_tag Refuse = refl
number_of_tag Conflict = refl
number_of_tag ResolveKind = refl
number_of_tag QuitKind = refl
number_of_tag Date = refl
number_of_tag DateReq = refl
number_of_tag DateAck = refl
number_of_tag TraceOn = refl
number_of_tag TraceOff = refl
number_of_tag Msite = refl
number_of_tag MsiteReq = refl
number_of_tag Test = refl
number_of_tag SetDate = refl
number_of_tag SetDateReq = refl
number_of_tag LoopKind = refl

pub kind_of_kind_number : (k : Kind) → kind_of (kind_number k) ≡ Some k
unfolding kind_number kind_of
kind_of_kind_number AdjTime = refl
kind_of_kind_number Ack = refl
kind_of_kind_number MasterReq = refl
kind_of_kind_number MasterAck = refl
kind_of_kind_number SetTime = refl
kind_of_kind_number MasterUp = refl
kind_of_kind_number SlaveUp = refl
kind_of_kind_number Election = refl
kind_of_kind_number Accept = refl
kind_of_kind_number Refuse = refl
kind_of_kind_number Conflict = refl
kind_of_kind_number ResolveKind = refl
kind_of_kind_number QuitKind = refl
kind_of_kind_number Date = refl
kind_of_kind_number DateReq = refl
kind_of_kind_number DateAck = refl
kind_of_kind_number TraceOn = refl
kind_of_kind_number TraceOff = refl
kind_of_kind_number Msite = refl
kind_of_kind_number MsiteReq = refl
kind_of_kind_number Test = refl
kind_of_kind_number SetDate = refl
kind_of_kind_number SetDateReq = refl
kind_of_kind_number LoopKind = refl

pub at_place : (k d : Kind) → slice_index_or kinds (kind_number k - 1) d ≡ k
unfolding kind_number
at_place AdjTime d = refl
at_place Ack d = refl
at_place MasterReq d = refl
at_place MasterAck d = refl
at_place SetTime d = refl
at_place MasterUp d = refl
at_place SlaveUp d = refl
at_place Election d = refl
at_place Accept d = refl
at_place Refuse d = refl
at_place Conflict d = refl
at_place ResolveKind d = refl
at_place QuitKind d = refl
at_place Date d = refl
at_place DateReq d = refl
at_place DateAck d = refl
at_place TraceOn d = refl
at_place TraceOff d = refl
at_place Msite d = refl
at_place MsiteReq d = refl
at_place Test d = refl
at_place SetDate d = refl
at_place SetDateReq d = refl
at_place LoopKind d = refl

pub place_in_range : (k : Kind) → kind_number k - 1 < 24
unfolding kind_number
place_in_range AdjTime = lit< tt
place_in_range Ack = lit< tt
place_in_range MasterReq = lit< tt
place_in_range MasterAck = lit< tt
place_in_range SetTime = lit< tt
place_in_range MasterUp = lit< tt
place_in_range SlaveUp = lit< tt
place_in_range Election = lit< tt
place_in_range Accept = lit< tt
place_in_range Refuse = lit< tt
place_in_range Conflict = lit< tt
place_in_range ResolveKind = lit< tt
place_in_range QuitKind = lit< tt
place_in_range Date = lit< tt
place_in_range DateReq = lit< tt
place_in_range DateAck = lit< tt
place_in_range TraceOn = lit< tt
place_in_range TraceOff = lit< tt
place_in_range Msite = lit< tt
place_in_range MsiteReq = lit< tt
place_in_range Test = lit< tt
place_in_range SetDate = lit< tt
place_in_range SetDateReq = lit< tt
place_in_range LoopKind = lit< tt

-- the kinds of a list have the numbers from n on
abbrev pub AreNumbered : List Kind → ℕ → Type 0
AreNumbered [] n = Unit {0}
AreNumbered (k ∷ ks) n = (kind_number k ≡ n) × AreNumbered ks (n + 1)

numbered : AreNumbered kinds 1
unfolding kind_number
numbered = search rules

in_place : (ks : List Kind) (n i : ℕ) (d : Kind) → AreNumbered ks n → i < length ks → kind_number (slice_index_or ks i d) ≡ n + i
in_place [] n i d a h = absurd (omega arith)
in_place (x ∷ xs) n zero d a h = grind arith
in_place (x ∷ xs) n (suc i) d a h = let r = in_place xs (n + 1) i d a.1 (omega arith) in grind arith

pub kind_number_kind_of : (n : ℕ) (k : Kind) → kind_of n ≡ Some k → kind_number k ≡ n
unfolding kind_of
kind_number_kind_of n k e = grind (arith, in_place kinds 1 (n - 1) LoopKind numbered)

same_item : (ks : List Kind) (i : ℕ) (d e : Kind) → i < length ks → slice_index_or ks i d ≡ slice_index_or ks i e
same_item [] i d e h = absurd (omega arith)
same_item (x ∷ xs) zero d e h = refl
same_item (x ∷ xs) (suc i) d e h = same_item xs i d e (omega arith)

pub kind_of_here : (n : ℕ) (d : Kind) → 1 ≤ n → n ≤ 24 → Some (slice_index_or kinds (n - 1) d) ≡ kind_of n
unfolding kind_of
kind_of_here n d low high = let e = same_item kinds (n - 1) d LoopKind (omega arith) in grind (arith, nat_tests)
