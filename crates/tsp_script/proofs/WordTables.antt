-- Tables of words: those of alarms, of faults and of acts. Each word is in its table once.
use Rattle.std.proofs.Common.{◌≡◌, ℕ, suc, ◌<◌, ◌≤◌, List, [], ◌∷◌, length, refl, ap, sym, ◌∙◌, true, false, Bool, Option, Some, None, slice_index_or, arith}
use Rattle.std.proofs.Common.{◌==◌, ◌&&◌, if◌then◌else◌}
use Rattle.tsp_base.specs.Words.{alarm_word}
use Rattle.tsp_base.specs.declared.{alarm.Alarm.Alarm, alarm.Alarm.TheVariants.Quiet, alarm.TheConstants.Alarm.ALL, datagram.DecodeFault.DecodeFault}
use Rattle.tsp_base.specs.declared.datagram.DecodeFault.TheVariants.{Short, Long, Version, Kind, StampLength, NoEnd, NameTooLong, Reserved, Time}
use Rattle.tsp_script.proofs.Outcomes.{some_injective, none_not_some}
use Rattle.tsp_script.specs.{declared.verbs.Verb.TheVariants.Boot, declared.verbs.Verb.Verb, Traces.fault_word, Verbs.verbs, Verbs.verb_word}

-- whether two words are the same
abbrev pub same_word : List ℕ → List ℕ → Bool
same_word [] [] = true
same_word [] (y ∷ ys) = false
same_word (x ∷ xs) [] = false
same_word (x ∷ xs) (y ∷ ys) = (x == y) && same_word xs ys

-- the first of some values that has this word
abbrev pub first_with : {A : Type 0} → (A → List ℕ) → List A → List ℕ → Option A
first_with w [] word = None
first_with w (a ∷ rest) word = if same_word (w a) word then Some a else first_with w rest word

-- a value at a place of a list
abbrev StandsIn : {A : Type 0} → List A → A → Type 0
StandsIn {A} all a = (i : ℕ) × (i < length all) × ((d : A) → slice_index_or all i d ≡ a)

stands_behind : {A : Type 0} (s : Bool) (b : A) (rest : List A) (r : Option A) (a : A) → (r ≡ Some a → StandsIn rest a) → (if s then Some b else r) ≡ Some a →
    StandsIn (b ∷ rest) a
stands_behind true b rest r a h e = (0, omega arith, λ d. some_injective b a e)
stands_behind false b rest r a h e = let there = h e in (suc there.0, omega (arith, there.1), there.2)

stands_there : {A : Type 0} (w : A → List ℕ) (all : List A) (word : List ℕ) (a : A) → first_with w all word ≡ Some a → StandsIn all a
stands_there w [] word a e = absurd (none_not_some a e)
stands_there w (b ∷ rest) word a e = stands_behind (same_word (w b) word) b rest (first_with w rest word) a (stands_there w rest word a) e

-- where no value of the table has a word, it is no value's
pub no_word : {A : Type 0} (w : A → List ℕ) (all : List A) (word : List ℕ) (n : ℕ) (a : A) → first_with w all (w a) ≡ Some a → length all ≤ n →
    ((i : ℕ) (d : A) → i < n → word ≡ w (slice_index_or all i d) → ⊥) → word ≡ w a → ⊥
no_word w all word n a first whole none e = let there = stands_there w all (w a) a first in none there.0 a (omega (arith, there.1)) (e ∙ ap w (sym (there.2 a)))

-- a word is one value's
pub one_word : {A : Type 0} (w : A → List ℕ) (all : List A) (a b : A) → first_with w all (w a) ≡ Some a → first_with w all (w b) ≡ Some b → w a ≡ w b → a ≡ b
one_word w all a b first second e = some_injective a b (sym first ∙ ap (λ x. first_with w all x) e ∙ second)

pub first_alarm : (a : Alarm) → first_with alarm_word ALL (alarm_word a) ≡ Some a
first_alarm Quiet = refl
first_alarm _ = refl

abbrev pub faults : List DecodeFault
faults = Short ∷ Long ∷ Version ∷ Kind ∷ StampLength ∷ NoEnd ∷ NameTooLong ∷ Reserved ∷ Time ∷ []

pub first_fault : (f : DecodeFault) → first_with fault_word faults (fault_word f) ≡ Some f
first_fault Short = refl
first_fault _ = refl

pub first_verb : (v : Verb) → first_with verb_word verbs (verb_word v) ≡ Some v
unfolding verb_word
first_verb Boot = refl
first_verb _ = refl
