-- The texts of acts: their words, what stands behind each, and the parts of an act.
use Rattle.std.proofs.Common.{◌≡◌, ◌≢◌, ℕ, List, ◌∷◌, ◌++◌, refl, ◌∙◌, ap, sym, subst, Bool, true, false, append_assoc, Some, decimal, codes, ◌<◌, ◌^◌, ◌==◌, ℤ}
use Rattle.std.proofs.Common.{◌⊎◌, inl, inr, arith, Contains, slice_index_or}
use Rattle.std.{specs.Fmt.signed_decimal, specs.Int.w64, specs.Int.RustNames.FitsSigned, proofs.lemmas.Bool.false≢true, proofs.lemmas.List.append_cancel_left}
use Rattle.tsp_base.specs.declared.{act.Act.Act, role.Role.Role, alarm.Alarm.Alarm, stamp.Stamp.TheVariants.Request, stamp.Stamp.TheVariants.Reply}
use Rattle.tsp_base.specs.declared.{trace.Line2.Line2, kind.Kind.Kind, place.PeerId.PeerId, place.Place.Place}
use Rattle.tsp_base.specs.declared.act.Act.TheVariants.{Close, Correct, Abandon, Trace, Boot, Took, Post, Become, Arm, Sample}
use Rattle.tsp_base.specs.Words.{alarm_word, kind_word}
use Rattle.tsp_base.specs.declared.datagram.{Taken.Taken, Taken.TheVariants.Good, Taken.TheVariants.Bad, DecodeFault.DecodeFault}
use Rattle.tsp_base.specs.declared.datagram.Datagram.{Datagram, TheVariants.Message, TheVariants.Stamp}
use Rattle.tsp_script.specs.ActLines.{IsNumberOf, IsAct, IsRole, IsTaken}
use Rattle.tsp_script.specs.Traces.{way_word, act_text, trace_text, place_text, role_text, taken_text, fault_word}
use Rattle.tsp_script.specs.{Words.first_word, Words.after_word, Texts.message_text, Schedules.IsPlace, Ranges.IsDatagram}
use Rattle.tsp_script.specs.Verbs.{verb_word, verb_of, way_text, rest_of_act, SpellsRest, switch_text}
use Rattle.tsp_script.specs.declared.verbs.Verb.{Verb, TheVariants.Correct as CorrectWord}
use Rattle.tsp_script.specs.declared.verbs.Verb.TheVariants.{Trace as TraceWord, Post as PostWord, Boot as BootWord, Abandon as AbandonWord, Took as TookWord}
use Rattle.tsp_script.specs.declared.verbs.Verb.TheVariants.{Become as BecomeWord, Arm as ArmWord, Sample as SampleWord, Close as CloseWord}
use Rattle.tsp_script.proofs.{Cuts.cut_front, Cuts.space_inside, MessageLines.message_rest, MessageLines.request_rest, MessageLines.reply_rest}
use Rattle.tsp_script.proofs.KindWords.{no_space_spaceless, spaceless, no_space_kind_word, not_kind}

-- a word that a test tells from another is another word
pub told_apart : (is : Verb → Bool) (v w : Verb) → is v ≡ true → is w ≡ false → v ≢ w
told_apart is v w t f e = false≢true (sym f ∙ ap is (sym e) ∙ t)

abbrev is_post : Verb → Bool
is_post PostWord = true
is_post _ = false

pub post_case : (Holds : ℕ → Act → Type 0) (rest : List ℕ) (number : ℕ) (a : Act) → IsAct a → IsNumberOf a number → PostWord ≡ verb_of a → rest ≡
    rest_of_act number a
    → ((to : Place) (d : Datagram) → number < 2 ^ 64 → IsPlace to → IsDatagram d → rest ≡ decimal number ++ 32 ∷ (place_text to ++ 32 ∷ message_text d) →
    Holds number (Post to d)) → Holds number a
post_case Holds rest number (Post to d) is n v r h = h to d n is.0 is.1 r
post_case Holds rest number a is n v r h = absurd (told_apart is_post PostWord (verb_of a) refl refl v)

-- an act that is no post has the number 0
pub other_case : (rest : List ℕ) (number : ℕ) (a : Act) → IsNumberOf a number → PostWord ≢ verb_of a → rest ≡ rest_of_act number a → (number ≡ 0) ×
    (rest ≡ rest_of_act 0 a)
other_case rest number (Post to d) n v r = absurd (v refl)
other_case rest number _ n v r = (n, r)

pub post_differs : (v : Verb) → v ≡ PostWord → (v ≡ BootWord) ⊎ (v ≡ AbandonWord) → ⊥
post_differs v p (inl b) = cc
post_differs v p (inr b) = cc

abbrev number : Verb → ℕ
number TookWord = 1
number BecomeWord = 2
number ArmWord = 3
number SampleWord = 4
number CloseWord = 5
number CorrectWord = 6
number TraceWord = 7
number _ = 0

abbrev is : Verb → Verb → Bool
is v w = number v == number w

-- what holds of each act of a verb, whose text goes on so, holds of this one
abbrev Case : Verb → ((Act → Type 0) → List ℕ → Type 0) → Type 1
Case verb Each = (Holds : Act → Type 0) (rest : List ℕ) (a : Act) → IsAct a → verb ≡ verb_of a → rest ≡ rest_of_act 0 a → Each Holds rest → Holds a

pub took_case : Case TookWord (λ Holds rest. (from : Place) (t : Taken) → IsPlace from → IsTaken t → rest ≡ place_text from ++ 32 ∷ taken_text t →
    Holds (Took from t))
took_case Holds rest (Took from t) i v r h = h from t i.0 i.1 r
took_case Holds rest a i v r h = absurd (told_apart (is TookWord) TookWord (verb_of a) refl refl v)

pub become_case : Case BecomeWord (λ Holds rest. (role : Role) → IsRole role → rest ≡ role_text role → Holds (Become role))
become_case Holds rest (Become role) i v r h = h role i r
become_case Holds rest a i v r h = absurd (told_apart (is BecomeWord) BecomeWord (verb_of a) refl refl v)

pub arm_case : Case ArmWord (λ Holds rest. (alarm : Alarm) (at : ℕ) → at < 2 ^ 64 → rest ≡ alarm_word alarm ++ 32 ∷ decimal at → Holds (Arm alarm at))
arm_case Holds rest (Arm alarm at) i v r h = h alarm at i r
arm_case Holds rest a i v r h = absurd (told_apart (is ArmWord) ArmWord (verb_of a) refl refl v)

pub sample_case : Case SampleWord (λ Holds rest. (p : PeerId) (counter : ℕ) (diff err : ℤ) (ticket : ℕ) → p.0 < 2 ^ 32 → counter < 2 ^ 64 →
    FitsSigned w64 diff → FitsSigned w64 err → ticket < 2 ^ 16
    → rest ≡ decimal p.0 ++ 32 ∷ (decimal counter ++ 32 ∷ (signed_decimal diff ++ 32 ∷ (signed_decimal err ++ 32 ∷ decimal ticket))) →
    Holds (Sample p counter diff err ticket))
sample_case Holds rest (Sample p counter diff err ticket) i v r h = h p counter diff err ticket i.0 i.1 i.2 i.3 i.4 r
sample_case Holds rest a i v r h = absurd (told_apart (is SampleWord) SampleWord (verb_of a) refl refl v)

pub close_case : Case CloseWord (λ Holds rest. (count : ℕ) (lo width mean : ℤ) → count < 2 ^ 32 → FitsSigned w64 lo → FitsSigned w64 width → FitsSigned w64 mean
    → rest ≡ decimal count ++ 32 ∷ (signed_decimal lo ++ 32 ∷ (signed_decimal width ++ 32 ∷ signed_decimal mean)) → Holds (Close count lo width mean))
close_case Holds rest (Close count lo width mean) i v r h = h count lo width mean i.0 i.1 i.2 i.3 r
close_case Holds rest a i v r h = absurd (told_apart (is CloseWord) CloseWord (verb_of a) refl refl v)

pub correct_case : Case CorrectWord (λ Holds rest. (amount : ℤ) (stepped : Bool) (shown : ℤ) → FitsSigned w64 amount → FitsSigned w64 shown
    → rest ≡ signed_decimal amount ++ 32 ∷ (way_text stepped ++ 32 ∷ signed_decimal shown) → Holds (Correct amount stepped shown))
correct_case Holds rest (Correct amount stepped shown) i v r h = h amount stepped shown i.0 i.1 r
correct_case Holds rest a i v r h = absurd (told_apart (is CorrectWord) CorrectWord (verb_of a) refl refl v)

pub trace_case : Case TraceWord (λ Holds rest. (on : Bool) → rest ≡ switch_text on → Holds (Trace on))
trace_case Holds rest (Trace on) i v r h = h on r
trace_case Holds rest a i v r h = absurd (told_apart (is TraceWord) TraceWord (verb_of a) refl refl v)

abbrev Splits : List ℕ → List ℕ → List ℕ → Type 0
Splits line word rest = (first_word line ≡ word) × (after_word line ≡ rest)

way_shown : (b : Bool) (shown : List ℕ) → way_word b ++ shown ≡ 32 ∷ (way_text b ++ 32 ∷ shown)
way_shown true shown = refl
way_shown false shown = refl

correct_is : (amount shown : List ℕ) (stepped : Bool) → (amount ++ way_word stepped) ++ shown ≡ amount ++ 32 ∷ (way_text stepped ++ 32 ∷ shown)
correct_is amount shown stepped = append_assoc amount (way_word stepped) shown ∙ ap (λ w. amount ++ w) (way_shown stepped shown)

-- the text of an act that isn't one word is a word, a space, and what follows it
pub act_joined : (number : ℕ) (a : Act) → BootWord ≢ verb_of a → AbandonWord ≢ verb_of a → act_text number a ≡ verb_word (verb_of a) ++ 32 ∷
    rest_of_act number a
unfolding verb_word
act_joined number Boot n m = absurd (n refl)
act_joined number (Took from taken) n m = simp append_assoc
act_joined number (Post to d) n m = simp append_assoc
act_joined number (Arm alarm at) n m = simp append_assoc
act_joined number (Sample p counter diff err ticket) n m = simp append_assoc
act_joined number (Close count lo width mean) n m = simp append_assoc
act_joined number (Correct amount stepped shown) n m = ap (λ xs. codes "correct" ++ 32 ∷ xs) (correct_is (signed_decimal amount) (signed_decimal shown) stepped)
act_joined number Abandon n m = absurd (m refl)
act_joined number (Trace true) n m = refl
act_joined number (Trace false) n m = refl
act_joined number a n m = refl

abbrev is_boot : Verb → Bool
is_boot BootWord = true
is_boot _ = false

abbrev is_abandon : Verb → Bool
is_abandon AbandonWord = true
is_abandon _ = false

-- a word of an act has no space
spaceless_verb : (v : Verb) → spaceless (verb_word v) ≡ true
unfolding verb_word
spaceless_verb BootWord = refl
spaceless_verb _ = refl

-- an act's text is cut behind its word
pub act_splits : (number : ℕ) (a : Act) → Splits (act_text number a) (verb_word (verb_of a)) (rest_of_act number a)
unfolding verb_word
act_splits number Boot = (refl, refl)
act_splits number Abandon = (refl, refl)
act_splits number a = cut_front (act_text number a) (verb_word (verb_of a)) (rest_of_act number a)
    (no_space_spaceless (verb_word (verb_of a)) (spaceless_verb (verb_of a))) (act_joined number a (told_apart is_boot BootWord (verb_of a) refl refl)
    (told_apart is_abandon AbandonWord (verb_of a) refl refl))

-- an act whose text has no space is `boot` or `abandon`
pub lone_case : (Holds : ℕ → Act → Type 0) (text : List ℕ) (number : ℕ) (a : Act) → IsNumberOf a number → ((word rest : List ℕ) → text ≡ word ++ 32 ∷ rest →
    ⊥) → text ≡ act_text number a
    → (text ≡ act_text 0 Boot → Holds 0 Boot) → (text ≡ act_text 0 Abandon → Holds 0 Abandon) → Holds number a
lone_case Holds text number Boot n none e boot abandon = subst (λ k. Holds k Boot) (sym n) (boot e)
lone_case Holds text number Abandon n none e boot abandon = subst (λ k. Holds k Abandon) (sym n) (abandon e)
lone_case Holds text number a n none e boot abandon = absurd (none (verb_word (verb_of a)) (rest_of_act number a) (e ∙
    act_joined number a (told_apart is_boot BootWord (verb_of a) refl refl) (told_apart is_abandon AbandonWord (verb_of a) refl refl)))

-- what stands behind the first, the second and the third number of a trace's line
abbrev pub behind_port : Line2 → List ℕ
behind_port l = decimal l.tick ++ 32 ∷ act_text l.number l.placed.act

abbrev pub behind_node : Line2 → List ℕ
behind_node l = decimal l.placed.port.0 ++ 32 ∷ behind_port l

abbrev pub behind_event : Line2 → List ℕ
behind_event l = decimal l.node ++ 32 ∷ behind_node l

-- a trace's line as its words
pub trace_parts : (l : Line2) → trace_text l.event l.node l.tick l.number l.placed ≡ decimal l.event ++ 32 ∷ behind_event l
trace_parts l = simp append_assoc

-- a line of equal parts
pub line_of_parts : (event node port tick number : ℕ) (act : Act) (l : Line2) → event ≡ l.event → node ≡ l.node → port ≡ l.placed.port.0 → tick ≡ l.tick →
    number ≡ l.number → act ≡ l.placed.act →
    Some (record { event = event; node = node; tick = tick; number = number; placed = record { port = record { 0 = port }; act = act } }) ≡ Some l
line_of_parts event node port tick number act l a b c d e f = rw (a, b, c, d, e, f) refl

-- a line of numbers and an act's text
pub line_found : (line a b c d : List ℕ) (l : Line2) → line ≡ decimal l.event ++ 32 ∷ a → a ≡ decimal l.node ++ 32 ∷ b → b ≡ decimal l.placed.port.0 ++ 32 ∷ c →
    c ≡ decimal l.tick ++ 32 ∷ d → d ≡ act_text l.number l.placed.act
    → line ≡ trace_text l.event l.node l.tick l.number l.placed
line_found line a b c d l e f g h i = e ∙ rw (f, g, h, i) (sym (trace_parts l))

-- a word, a space and what follows are the text of an act that isn't one word
pub joined_found : (text word rest : List ℕ) (v : Verb) (number : ℕ) (a : Act) → text ≡ word ++ 32 ∷ rest → word ≡ verb_word v → SpellsRest v number rest a →
    v ≢ BootWord → v ≢ AbandonWord → text ≡ act_text number a
joined_found text word rest v number a l w s n m = l ∙ rw (w, s.0, s.1) (sym (act_joined number a (λ b. n (s.0 ∙ sym b)) (λ b. m (s.0 ∙ sym b))))

-- an act whose text has a space is neither `boot` nor `abandon`
pub not_lone : (text word rest : List ℕ) (v : Verb) (number : ℕ) (a : Act) → v ≡ verb_of a → text ≡ act_text number a → text ≡ word ++ 32 ∷ rest →
    (v ≢ BootWord) × (v ≢ AbandonWord)
not_lone text word rest v number Boot w e l = (λ b. no_space_spaceless (codes "boot") refl (space_inside (codes "boot") word rest (sym e ∙ l)), λ b. cc)
not_lone text word rest v number Abandon w e l = (
  λ b. cc,
  λ b. no_space_spaceless (codes "abandon") refl (space_inside (codes "abandon") word rest (sym e ∙
      l)),
)
not_lone text word rest v number a w e l = (
  λ b. told_apart is_boot BootWord (verb_of a) refl refl (sym b ∙ w),
  λ b. told_apart is_abandon AbandonWord (verb_of a) refl refl (sym b ∙ w),
)

kind_word_not_refused : (k : Kind) → kind_word k ≡ codes "refused" → ⊥
unfolding kind_word
kind_word_not_refused = not_kind (codes "refused") refl

request_not_refused : (word : List ℕ) → word ≡ codes "request" → word ≡ codes "refused" → ⊥
request_not_refused word a b = let letter : 113 ≡ 102 = ap (λ xs. slice_index_or xs 2 0) (sym a ∙ b) in omega (arith, letter)

reply_not_refused : (word : List ℕ) → word ≡ codes "reply" → word ≡ codes "refused" → ⊥
reply_not_refused word a b = cc

-- no datagram's line begins with `refused`
pub not_refused : (text : List ℕ) (d : Datagram) → text ≡ message_text d → first_word text ≡ codes "refused" → ⊥
not_refused text (Message m) t w = kind_word_not_refused m.kind (sym (cut_front text (kind_word m.kind) (message_rest m) (no_space_kind_word m.kind) (t ∙
    simp append_assoc)).0 ∙ w)
not_refused text (Stamp (Request word counter)) t w = request_not_refused (first_word text) (cut_front text (codes "request") (request_rest word counter)
    (no_space_spaceless (codes "request") refl) (t ∙ simp append_assoc)).0 w
not_refused text (Stamp (Reply r)) t w = reply_not_refused (first_word text) (cut_front text (codes "reply") (reply_rest r)
    (no_space_spaceless (codes "reply") refl) (t ∙ simp append_assoc)).0 w

-- behind `refused` stands a fault
pub refused_case : (Holds : Taken → Type 0) (text rest : List ℕ) (t : Taken) → text ≡ taken_text t → text ≡ codes "refused " ++ rest →
    ((f : DecodeFault) → rest ≡ fault_word f → Holds (Bad f)) → Holds t
refused_case Holds text rest (Good d) e w h = absurd (not_refused text d e (cut_front text (codes "refused") rest (no_space_spaceless (codes "refused") refl)
    w).0)
refused_case Holds text rest (Bad f) e w h = h f (append_cancel_left (codes "refused ") _ _ (sym w ∙ e))

-- acts of equal parts
pub sample_of_parts : (n counter : ℕ) (diff err : ℤ) (ticket : ℕ) (p : PeerId) (other : ℕ) (near wide : ℤ) (drawn : ℕ) → n ≡ p.0 → counter ≡ other → diff ≡
    near → err ≡ wide → ticket ≡ drawn
    → Sample (record { 0 = n }) counter diff err ticket ≡ Sample p other near wide drawn
sample_of_parts n counter diff err ticket p other near wide drawn a b x y z = rw (a, b, x, y, z) refl

pub close_of_parts : (count : ℕ) (lo width mean : ℤ) (other : ℕ) (least wide middle : ℤ) → count ≡ other → lo ≡ least → width ≡ wide → mean ≡ middle →
    Close count lo width mean ≡ Close other least wide middle
close_of_parts count lo width mean other least wide middle a b x y = rw (a, b, x, y) refl

pub correct_of_parts : (amount : ℤ) (stepped : Bool) (shown other : ℤ) (way : Bool) (last : ℤ) → amount ≡ other → stepped ≡ way → shown ≡ last →
    Correct amount stepped shown ≡ Correct other way last
correct_of_parts amount stepped shown other way last a b x = rw (a, b, x) refl

-- the words of a correction's way have no space
pub no_space_way_text : (stepped : Bool) → ¬ Contains (way_text stepped) 32
no_space_way_text true = no_space_spaceless (codes "step") refl
no_space_way_text false = no_space_spaceless (codes "slew") refl
