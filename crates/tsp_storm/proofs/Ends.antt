-- A storm has one answer.
use Rattle.std.proofs.Common.{sym, ap, ◌∙◌, subst, arith, inl, inr, length-append, append-nil, take, drop, take-append-drop, ◌≡◌, ◌⊎◌, ℕ, zero, suc, ◌+◌, ◌<◌}
use Rattle.std.proofs.Common.{List, [], length, Option, None, Some, refl, ◌-◌}
use Rattle.std.proofs.lemmas.{Bool.cases_order, List.length-drop}
use Rattle.tsp_io.specs.Streams.{Grows}
use Rattle.tsp_lines.specs.Outcomes.{limit_line}
use Rattle.tsp_storm.specs.declared.run.StormEnd.TheVariants.{Done, Limit, WriteFault, OutOfMemory}
use Rattle.tsp_storm.specs.Answers.{IsLimit, StopsAfter, IsStormAnswer, IsTextPart, WritesTextPart, StormsAs, AgreesWithAnswer, refused_after, SaysText}
use Rattle.tsp_storm.specs.{Schedules.header_of, Schedules.storm_events, declared.run.StormEnd.StormEnd}
use Rattle.tsp_args.specs.declared.storm.StormWords.{StormWords}
use Rattle.tsp_run.specs.Refusals.{Valid}

-- of a valid schedule each beginning is valid
valid_before : (s : StormWords) (more n all : ℕ) → all ≡ more + n → Valid (header_of s) (storm_events s all) → Valid (header_of s) (storm_events s n)
valid_before s zero n all e v = subst (λ m. Valid (header_of s) (storm_events s m)) (let same : all ≡ n = omega (arith, e) in same) v
valid_before s (suc more) n all e v =
    let is : all ≡ suc (more + n) = omega (arith, e) in
    valid_before s more n (more + n) refl (subst (λ m. Valid (header_of s) (storm_events s m)) is v).1

-- none of its events is refused
not_refused : (s : StormWords) (n all : ℕ) → n < all → Valid (header_of s) (storm_events s all) → refused_after s n ≡ None
not_refused s n all lt v = (valid_before s (all - suc n) (suc n) all (omega (arith, lt)) v).0

none_is_limit : (s : StormWords) (n all : ℕ) → n < all → Valid (header_of s) (storm_events s all) → IsLimit (refused_after s n) → ⊥
none_is_limit s n all lt v (a, b, is) = let none = not_refused s n all lt v in cc

-- a schedule stops after one number of events at most
one_stop : (s : StormWords) (n m : ℕ) → StopsAfter s n → StopsAfter s m → n ≡ m
one_stop s n m a b = elim (cases_order n m) [
  | inl same ↦ same
  | inr (inl lt) ↦ absurd (none_is_limit s n m lt b.valid a.limit)
  | inr (inr gt) ↦ absurd (none_is_limit s m n gt a.valid b.limit)
]

pub one_answer : (s : StormWords) (end other : StormEnd) (text more : List ℕ) → IsStormAnswer s end text → IsStormAnswer s other more → (end ≡ other) ×
    (text ≡ more)
one_answer s Done Done text more a b = (refl, a.2 ∙ sym b.2)
one_answer s Done Limit text more a b = absurd (none_is_limit s b.0 s.events b.1.within a.0 b.1.limit)
one_answer s Limit Done text more a b = absurd (none_is_limit s a.0 s.events a.1.within b.0 a.1.limit)
one_answer s Limit Limit text more a b = (refl, a.2 ∙ ap (λ n. limit_line (n + 1)) (one_stop s a.0 b.0 a.1 b.1) ∙ sym b.2)
one_answer s Done WriteFault text more a b = absurd b
one_answer s Done OutOfMemory text more a b = absurd b
one_answer s Limit WriteFault text more a b = absurd b
one_answer s Limit OutOfMemory text more a b = absurd b
one_answer s WriteFault other text more a b = absurd a
one_answer s OutOfMemory other text more a b = absurd a

-- what was written is no less a part of the text where that text goes by another name
part_of : (s : StormWords) (end : StormEnd) (text : List ℕ) (written now : Option (List ℕ)) → IsStormAnswer s end text → WritesTextPart s written now →
    (rest : List ℕ) × (0 < length rest) × IsTextPart text written now rest
part_of s end text written now a (other, more, rest, b, some, part) = (
  rest,
  some,
  subst (λ t. IsTextPart t written now rest) (one_answer s other end more text b a).1 part,
)

some_text : (s : StormWords) (end : StormEnd) (text : List ℕ) → IsStormAnswer s end text → 0 < length text
some_text s WriteFault text a = absurd a
some_text s OutOfMemory text a = absurd a
some_text s _ text a = let e = ap (λ t. length t) a.2 in omega (arith, e, length-append {A = ℕ})

grows_nothing : (written now : Option (List ℕ)) → now ≡ written → Grows written now []
grows_nothing None now e = e
grows_nothing (Some xs) now e = e ∙ ap (λ ys. Some ys) (sym (append-nil xs))

-- where an answer was to be written, this is how the storm ended
pub said : (s : StormWords) (end : StormEnd) (text : List ℕ) (written now : Option (List ℕ)) (result : StormEnd) → IsStormAnswer s end text →
    SaysText text end written now result → StormsAs s written now result
said s end text written now result a (inr (inl is, (rest, some, part))) = subst (λ r. StormsAs s written now r) (sym is) (end, text, rest, a, some, part)
said s end text written now result a (inr (inr is, (rest, some, part))) = subst (λ r. StormsAs s written now r) (sym is) (inr (end, text, rest, a, some, part))
said s end text written now result a (inl (is, grows)) = subst (λ r. StormsAs s written now r) (sym is) (whole end a) where
  whole : (e : StormEnd) → IsStormAnswer s e text → StormsAs s written now e
  whole WriteFault b = absurd b
  whole OutOfMemory b = absurd b
  whole _ b = (text, b, grows)

-- how a storm ended agrees with the answer
pub agrees : (s : StormWords) (written now : Option (List ℕ)) (result : StormEnd) → StormsAs s written now result → (end : StormEnd) (text : List ℕ) →
    IsStormAnswer s end text → AgreesWithAnswer end text written now result
agrees s written now Done (other, b, grows) end text a = let one = one_answer s end Done text other a b in
    (one.0, subst (λ t. Grows written now t) (sym one.1) grows)
agrees s written now Limit (other, b, grows) end text a = let one = one_answer s end Limit text other a b in
    (one.0, subst (λ t. Grows written now t) (sym one.1) grows)
agrees s written now WriteFault part end text a = part_of s end text written now a part
agrees s written now OutOfMemory (inl same) end text a = (text, some_text s end text a, ([], refl, grows_nothing written now same))
agrees s written now OutOfMemory (inr part) end text a = part_of s end text written now a part

-- not all of a text was written
pub said_part : (text : List ℕ) (end result : StormEnd) (written now : Option (List ℕ)) (at : ℕ) → (result ≡ WriteFault) ⊎ (result ≡ OutOfMemory) →
    at < length text → Grows written now (take at text) → SaysText text end written now result
said_part text end result written now at is lt grows = inr (
  is,
  (
    drop at text,
    omega (arith, length-drop at text, lt),
    (take at text, sym (take-append-drop at text), grows),
  ),
)
