-- Laws of the lines of turns and takes.
use Rattle.std.proofs.Common.{◌≡◌, ◌∙◌, ◌<◌, ◌^◌, ℕ, List, [], ◌∷◌, ◌++◌, refl, sym, ap, append_assoc, append-nil, arith, inl, inr, drop, length, length-append}
use Rattle.std.proofs.Common.{subst, ◌+◌, decimal, codes, Contains, Option, None, Some, IfNone}
use Rattle.std.proofs.{Math.Seq.drop-append_seam, lemmas.List.append_cancel_left, lemmas.List.Elements.Contains-append_cases}
use Rattle.tsp_base.specs.declared.plain.Plain.TheVariants.{Boot, Turn, Take}
use Rattle.tsp_base.specs.{Words.event_in, declared.plain.Plain.Plain}
use Rattle.tsp_script.specs.{Plains.IsTurnOrTake, Words.NoDigit, declared.event_line.EventItem.TheVariants.Event as EventOf}
use Rattle.tsp_script.specs.Schedules.{SpellsEvent, IsEvent, IsHexOf, event_text}
use Rattle.tsp_script.proofs.{Cuts.words_apart, Cuts.numbers_apart, Cuts.no_feed_decimal, FrontDigits.front_one}
use Rattle.tsp_script.proofs.EventLines.{words_differ, at_of, verb_of, rest_of, no_space_verb_of, IsTrueTime_at_of}
use Rattle.tsp_script.proofs.KindWords.{no_space_spaceless, no_mark_without}

-- what stands behind its time
abbrev pub behind_time : Plain → List ℕ → List ℕ
behind_time plain back = verb_of (event_in plain) ++ 32 ∷ (rest_of (event_in plain) [] ++ back)

pub plain_parts : (plain : Plain) (back : List ℕ) → IsTurnOrTake plain → event_text (event_in plain) [] ++ back ≡ codes "at " ++
    (decimal (at_of (event_in plain)) ++ 32 ∷ behind_time plain back)
plain_parts (Boot at node word) back i = absurd i
plain_parts _ back i = simp append_assoc

-- the word of a plain event's line, and what follows it
verb_is : (behind rest back word : List ℕ) (plain : Plain) → ¬ Contains word 32 → behind ≡ word ++ 32 ∷ rest → behind ≡ behind_time plain back
    → (verb_of (event_in plain) ≡ word) × (rest_of (event_in plain) [] ++ back ≡ rest)
verb_is behind rest back word plain n e l = words_apart (verb_of (event_in plain)) word (rest_of (event_in plain) [] ++
    back) rest (no_space_verb_of (event_in plain)) n (sym l ∙ e)

-- where `turn` stands it is a turn, and where `take` stands a take
pub turn_parts : (behind rest back : List ℕ) (plain : Plain) → IsTurnOrTake plain → behind ≡ codes "turn " ++ rest → behind ≡ behind_time plain back →
    (at : ℕ) × (node : ℕ) × (plain ≡ Turn at node) × (rest ≡ decimal node ++ back)
turn_parts behind rest back (Turn at node) i e l = (
  at,
  node,
  refl,
  sym (verb_is behind rest back (codes "turn") (Turn at node)
      (no_space_spaceless (codes "turn") refl) e l).1,
)
turn_parts behind rest back (Take at datagram) i e l =
    absurd (words_differ (codes "take") (codes "turn") (verb_is behind rest back (codes "turn") (Take at datagram) (no_space_spaceless (codes "turn") refl) e
    l).0 (omega arith))
turn_parts behind rest back (Boot at node word) i e l = absurd i

pub take_parts : (behind rest back : List ℕ) (plain : Plain) → IsTurnOrTake plain → behind ≡ codes "take " ++ rest → behind ≡ behind_time plain back →
    (at : ℕ) × (datagram : ℕ) × (plain ≡ Take at datagram) × (rest ≡ decimal datagram ++ back)
take_parts behind rest back (Take at datagram) i e l = (
  at,
  datagram,
  refl,
  sym (verb_is behind rest back (codes "take") (Take at datagram)
      (no_space_spaceless (codes "take") refl) e l).1,
)
take_parts behind rest back (Turn at node) i e l =
    absurd (words_differ (codes "turn") (codes "take") (verb_is behind rest back (codes "take") (Turn at node) (no_space_spaceless (codes "take") refl) e l).0
    (omega arith))
take_parts behind rest back (Boot at node word) i e l = absurd i

-- where neither stands it is neither
pub no_plain : (behind back : List ℕ) (plain : Plain) → IsTurnOrTake plain → ((rest : List ℕ) → behind ≡ codes "turn " ++ rest → ⊥) →
    ((rest : List ℕ) → behind ≡ codes "take " ++ rest → ⊥) → behind ≡ behind_time plain back → ⊥
no_plain behind back (Turn at node) i turn take l = turn (decimal node ++ back) l
no_plain behind back (Take at datagram) i turn take l = take (decimal datagram ++ back) l
no_plain behind back (Boot at node word) i turn take l = i

-- events of the same time, verb and rest, in front of what begins with no digit
same_rest : (p q : Plain) (r s : List ℕ) → IsTurnOrTake p → IsTurnOrTake q → IsEvent (event_in p) → IsEvent (event_in q) → NoDigit r → NoDigit s
    → at_of (event_in p) ≡ at_of (event_in q) → (verb_of (event_in p) ≡ verb_of (event_in q)) × (rest_of (event_in p) [] ++ r ≡ rest_of (event_in q) [] ++ s)
    → (p ≡ q) × (r ≡ s)
same_rest (Turn at node) (Turn u m) r s i j h k a b t v = let o = front_one node m r s (omega (arith, h.1)) (omega (arith, k.1)) a b v.1 in
    (rw (t, o.0) refl, o.1)
same_rest (Take at n) (Take u m) r s i j h k a b t v = let o = front_one n m r s h.1 k.1 a b v.1 in (rw (t, o.0) refl, o.1)
same_rest (Boot at node word) q r s i j h k a b t v = absurd i
same_rest p (Boot at node word) r s i j h k a b t v = absurd j
same_rest p q r s i j h k a b t v = absurd (words_differ (verb_of (event_in p)) (verb_of (event_in q)) v.0 (omega arith))

-- a text is one event's, in front of what begins with no digit
pub plain_one : (p q : Plain) (octets r s : List ℕ) → IsTurnOrTake p → IsTurnOrTake q → IsEvent (event_in p) → IsEvent (event_in q) → NoDigit r → NoDigit s →
    octets ≡ event_text (event_in p) [] ++ r → octets ≡ event_text (event_in q) [] ++ s → (p ≡ q) × (r ≡ s)
plain_one p q octets r s i j h k a b e f =
    let l = append_cancel_left (codes "at ") _ _ (sym (e ∙ plain_parts p r i) ∙ (f ∙ plain_parts q s j)) in
    let n = numbers_apart (at_of (event_in p)) (at_of (event_in q)) (behind_time p r) (behind_time q s) (omega (arith, IsTrueTime_at_of (event_in p) h))
    (omega (arith, IsTrueTime_at_of (event_in q) k)) l in
    same_rest p q r s i j h k a b n.0
    (words_apart (verb_of (event_in p)) (verb_of (event_in q)) (rest_of (event_in p) [] ++ r) (rest_of (event_in q) [] ++ s)
    (no_space_verb_of (event_in p)) (no_space_verb_of (event_in q)) n.1)

no_mark_both : (m : ℕ) (xs ys : List ℕ) → ¬ Contains xs m → ¬ Contains ys m → ¬ Contains (xs ++ ys) m
no_mark_both m xs ys n k c = elim (Contains-append_cases xs ys m c) [ inl a ↦ n a | inr b ↦ k b ]

no_feed_parts : (at n : ℕ) (verb : List ℕ) → at < 2 ^ 64 → n < 2 ^ 64 → ¬ Contains verb 10 → ¬ Contains (((codes "at " ++ decimal at) ++ verb) ++ decimal n) 10
no_feed_parts at n verb h k v =
    let front = no_mark_both 10 (codes "at ") (decimal at) (no_mark_without 10 (codes "at ") refl) (no_feed_decimal at h) in
    no_mark_both 10 ((codes "at " ++ decimal at) ++ verb) (decimal n) (no_mark_both 10 (codes "at " ++ decimal at) verb front v) (no_feed_decimal n k)

-- no line feed stands in the line of a turn or a take
pub no_feed_plain : (plain : Plain) → IsTurnOrTake plain → IsEvent (event_in plain) → ¬ Contains (event_text (event_in plain) []) 10
no_feed_plain (Turn at node) i h = no_feed_parts at node (codes " turn ") (omega (arith, h.0)) (omega (arith, h.1)) (no_mark_without 10 (codes " turn ") refl)
no_feed_plain (Take at datagram) i h = no_feed_parts at datagram (codes " take ") (omega (arith, h.0)) h.1 (no_mark_without 10 (codes " take ") refl)
no_feed_plain (Boot at node word) i h = absurd i

-- a line's octets in front of others, and how many they are
pub octets_passed : (octets line rest : List ℕ) (count : ℕ) → octets ≡ line ++ 10 ∷ rest → count + length rest ≡ length octets → (count ≡ length line + 1) ×
    (octets ≡ (line ++ 10 ∷ []) ++ drop count octets)
octets_passed octets line rest count e c =
    let n : count ≡ length (line ++ 10 ∷ []) = omega (arith, ap length e, c, length-append line (10 ∷ rest), length-append line (10 ∷ [])) in
    let whole : octets ≡ (line ++ 10 ∷ []) ++ rest = e ∙ sym (append_assoc line (10 ∷ []) rest) in
    (omega (arith, n, length-append line (10 ∷ [])), rw (n, whole) (ap (λ x. (line ++ 10 ∷ []) ++ x) (sym (drop-append_seam (line ++ 10 ∷ []) rest))))

-- the numbers of a turn and of a take are in their ranges
pub turn_node : (plain : Plain) (at node : ℕ) → plain ≡ Turn at node → IsEvent (event_in plain) → node < 2 ^ 32
turn_node plain at node e h = (subst (λ p. IsEvent (event_in p)) e h).1

pub take_datagram : (plain : Plain) (at datagram : ℕ) → plain ≡ Take at datagram → IsEvent (event_in plain) → datagram < 2 ^ 64
take_datagram plain at datagram e h = (subst (λ p. IsEvent (event_in p)) e h).1

-- octets that were read as a turn or as a take
pub turn_written : (at node : ℕ) (octets behind digits rest : List ℕ) → octets ≡ codes "at " ++ (decimal at ++ 32 ∷ behind) → behind ≡ codes "turn " ++ digits →
    digits ≡ decimal node ++ rest
    → octets ≡ event_text (event_in (Turn at node)) [] ++ rest
turn_written at node octets behind digits rest e f g = e ∙ ap (λ x. codes "at " ++ (decimal at ++ 32 ∷ x)) (f ∙ ap (λ x. codes "turn " ++ x) g) ∙
    sym (plain_parts (Turn at node) rest tt)

pub take_written : (at datagram : ℕ) (octets behind digits rest : List ℕ) → octets ≡ codes "at " ++ (decimal at ++ 32 ∷ behind) → behind ≡ codes "take " ++
    digits → digits ≡ decimal datagram ++ rest
    → octets ≡ event_text (event_in (Take at datagram)) [] ++ rest
take_written at datagram octets behind digits rest e f g =
    e ∙ ap (λ x. codes "at " ++ (decimal at ++ 32 ∷ x)) (f ∙ ap (λ x. codes "take " ++ x) g) ∙ sym (plain_parts (Take at datagram) rest tt)

-- the line of a turn or a take, as its text with nothing behind it, and back
pub plain_spelled : (line : List ℕ) (plain : Plain) → IsTurnOrTake plain → SpellsEvent line (EventOf (event_in plain)) → line ≡
    event_text (event_in plain) [] ++ []
plain_spelled line (Boot at node word) i s = absurd i
plain_spelled line plain i s = s.1.2 ∙ sym (append-nil (event_text (event_in plain) []))

pub plain_spells : (plain : Plain) → IsTurnOrTake plain → IsEvent (event_in plain) → SpellsEvent (event_text (event_in plain) []) (EventOf (event_in plain))
plain_spells (Boot at node word) i h = absurd i
plain_spells _ i h = (h, ([], refl, refl))

pub plain_alone : (line rest : List ℕ) (plain : Plain) → IsTurnOrTake plain → line ≡ event_text (event_in plain) [] ++ rest → length rest ≡ 0 → (hex : List ℕ) ×
    IsHexOf hex (event_in plain) × (line ≡ event_text (event_in plain) hex)
plain_alone line [] (Boot at node word) i e z = absurd i
plain_alone line [] plain i e z = ([], refl, e ∙ append-nil (event_text (event_in plain) []))
plain_alone line (x ∷ xs) plain i e z = absurd (omega (arith, z))

-- octets begin with no turn and no take
abbrev pub NoPlain : List ℕ → Type 0
NoPlain octets = (plain : Plain) (rest : List ℕ) → IsTurnOrTake plain → IsEvent (event_in plain) → NoDigit rest → octets ≡ event_text (event_in plain) [] ++
    rest → ⊥

pub none_plain : {T : Type 0} (octets : List ℕ) (r : Option T) → NoPlain octets → IfNone r (NoPlain octets)
none_plain octets None n = n
none_plain octets (Some t) n = tt
