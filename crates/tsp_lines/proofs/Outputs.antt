-- Laws of octets that are given, handed over and written, and of how a treatment ends.
use Rattle.std.proofs.Common.{ℕ, List, [], ◌++◌, None, Some, refl, sym, ap, ◌∙◌, append_assoc, ◌≡◌, ◌+◌, take, drop, append-nil, take-append-drop, length}
use Rattle.std.proofs.Common.{length-drop, arith, slice_range, ◌<◌, ◌⊎◌, inl, inr, Ok, Err, subst, OnOk, OnErr, ◌∷◌}
use Rattle.std.{specs.declared.option.Option.Option, specs.declared.result.Result.Result, proofs.Math.Seq.take-add, proofs.lemmas.List.take_all}
use Rattle.tsp_io.specs.Streams.{Gives, Grows}
use Rattle.tsp_lines.specs.{Outputs.Hands, Outcomes.bad_line, Outcomes.limit_line, declared.treat.Outcome.Outcome, declared.treatment.Stop.Stop}
use Rattle.tsp_lines.specs.Meanings.{Breaks, Meaning, StopsAt, StopsAtEnd, Closes}
use Rattle.tsp_lines.specs.declared.output.Unwritten.{Unwritten, TheVariants.WriteFault as NotWritten, TheVariants.OutOfMemory as NoMemory}
use Rattle.tsp_lines.specs.Turns.{Ends, IsSaying, Sayings, only_bad, only_limited, only_so, outcome_of, line_sayings, end_sayings, Stopped}
use Rattle.tsp_lines.specs.declared.treat.Outcome.TheVariants.{Bad, Limit, Ok as Done, ReadFault, WriteFault, OutOfMemory}
use Rattle.tsp_lines.specs.declared.treatment.Stop.TheVariants.{Bad as Refused, Limit as Limited, WriteFault as Unwrote, OutOfMemory as Unheld}

pub Gives_nil : (a : Option (List ℕ)) → Gives a a []
Gives_nil None = refl
Gives_nil (Some x) = refl

pub Gives_trans : (a b c : Option (List ℕ)) (xs ys : List ℕ) → Gives a b xs → Gives b c ys → Gives a c (xs ++ ys)
Gives_trans a b None xs ys p q = p ∙ rw q refl
Gives_trans a b (Some x) xs ys p q = p ∙ rw q (ap Some (sym (append_assoc xs ys x)))

pub Grows_nil : (a : Option (List ℕ)) → Grows a a []
Grows_nil None = refl
Grows_nil (Some x) = ap Some (sym (append-nil x))

pub Grows_trans : (a b c : Option (List ℕ)) (xs ys : List ℕ) → Grows a b xs → Grows b c ys → Grows a c (xs ++ ys)
Grows_trans None b c xs ys p q = rw (q, p) refl
Grows_trans (Some x) b c xs ys p q = rw (q, p) (ap Some (append_assoc x xs ys))

-- a write took more of the octets
pub Grows_take : (a b c : Option (List ℕ)) (xs : List ℕ) (at n : ℕ) → Grows a b (take at xs) → Grows b c (take n (slice_range xs at (length xs))) →
    Grows a c (take (at + n) xs)
Grows_take a b c xs at n p q =
    let rest : slice_range xs at (length xs) ≡ drop at xs = take_all _ (drop at xs) (omega (arith, length-drop at xs)) in
    rw (take-add at n xs) (Grows_trans a b c _ _ p (rw rest at q))

-- nothing is handed over
pub Hands_nil : (written : Option (List ℕ)) (held : List ℕ) → Hands written held written held []
Hands_nil written held = ([], Grows_nil written, append-nil held)

-- octets and then others are handed over
pub Hands_trans : (a b c : Option (List ℕ)) (held keeps left xs ys : List ℕ) → Hands a held b keeps xs → Hands b keeps c left ys →
    Hands a held c left (xs ++ ys)
Hands_trans a b c held keeps left xs ys p q = (
  p.0 ++ q.0,
  Grows_trans a b c p.0 q.0 p.1 q.1,
  sym (append_assoc held xs ys) ∙ ap (λ l. l ++ ys) p.2 ∙ append_assoc p.0 keeps ys ∙ ap (λ l. p.0 ++ l) q.2 ∙ sym (append_assoc p.0 q.0 left),
)

-- all that was held is written, or its front
pub Hands_all : (a b : Option (List ℕ)) (held octets keeps : List ℕ) → octets ≡ held → Grows a b octets → keeps ≡ [] → Hands a held b keeps []
Hands_all a b held octets keeps o g e = (octets, g, ap (λ l. l ++ []) (sym o) ∙ ap (λ l. octets ++ l) (sym e))

pub Hands_cut : (a b : Option (List ℕ)) (held octets keeps : List ℕ) (at : ℕ) → octets ≡ held → Grows a b (take at octets) → keeps ≡ drop at octets →
    Hands a held b keeps []
Hands_cut a b held octets keeps at o g e = (
  take at octets,
  g,
  append-nil held ∙ sym o ∙ sym (take-append-drop at octets) ∙ ap (λ l. take at octets ++ l) (sym e),
)

-- words that were handed over, and written where all that is held was
pub said : (a b c : Option (List ℕ)) (held keeps left words : List ℕ) → Hands a held b keeps words → Hands b keeps c left [] → Hands a held c left words
said a b c held keeps left words p q = subst (Hands a held c left) (append-nil words) (Hands_trans a b c held keeps left words [] p q)

pub said_ok : (a b c : Option (List ℕ)) (held keeps left words : List ℕ) (r : Result (Unit {0}) Unwritten) → Hands a held b keeps words → OnOk r (left ≡ []) →
    Hands b keeps c left [] → OnOk r (Hands a held c [] words)
said_ok a b c held keeps left words (Ok u) p e q = subst (λ l. Hands a held c l words) e (said a b c held keeps left words p q)
said_ok a b c held keeps left words (Err x) p e q = tt

pub said_err : (a b c : Option (List ℕ)) (held keeps left words : List ℕ) (r : Result (Unit {0}) Unwritten) → Hands a held b keeps words →
    Hands b keeps c left [] → OnErr r (Breaks (λ w. w ≡ words) a held c left)
said_err a b c held keeps left words (Ok u) p q = tt
said_err a b c held keeps left words (Err x) p q = (words, said a b c held keeps left words p q, inr ([], append-nil words))

pub Breaks_imp : (P Q : List ℕ → Type 0) → ((w : List ℕ) → P w → Q w) → (a c : Option (List ℕ)) (held keeps : List ℕ) → Breaks P a held c keeps →
    Breaks Q a held c keeps
Breaks_imp P Q f a c held keeps b = (b.0, b.1, elim b.2 [ inl e ↦ inl e | inr r ↦ inr (r.0, f (b.0 ++ r.0) r.1) ])

-- how it ends where only a part was written
pub Ends_broken : (s : Sayings) (a c : Option (List ℕ)) (held keeps : List ℕ) (fault : Unwritten) → Breaks (IsSaying s) a held c keeps →
    (fault ≡ NotWritten → 0 < length keeps) → Ends s a held c (outcome_of fault)
Ends_broken s a c held keeps NotWritten b some = (keeps, some refl, b)
Ends_broken s a c held keeps NoMemory b some = (keeps, b)

cut_bad : (words : List ℕ) (a c : Option (List ℕ)) (held keeps : List ℕ) → Breaks (λ w. w ≡ words) a held c keeps →
    Breaks (IsSaying (only_bad words)) a held c keeps
cut_bad words a c held keeps b = Breaks_imp (λ w. w ≡ words) (IsSaying (only_bad words)) (λ w e. inr (inl e)) a c held keeps b

cut_limited : (words : List ℕ) (a c : Option (List ℕ)) (held keeps : List ℕ) → Breaks (λ w. w ≡ words) a held c keeps →
    Breaks (IsSaying (only_limited words)) a held c keeps
cut_limited words a c held keeps b = Breaks_imp (λ w. w ≡ words) (IsSaying (only_limited words)) (λ w e. inr (inr (inl e))) a c held keeps b

pub cut_so : (outcome : Outcome) (words : List ℕ) (a c : Option (List ℕ)) (held keeps : List ℕ) → (outcome ≡ Bad) ⊎ (outcome ≡ Limit) →
    Breaks (λ w. w ≡ words) a held c keeps → Breaks (IsSaying (only_so outcome words)) a held c keeps
cut_so outcome words a c held keeps told b = elim told [ inl e ↦ rw e (cut_bad words a c held keeps b) | inr e ↦ rw e (cut_limited words a c held keeps b) ]

-- a part of a saying behind nothing
Breaks_behind : (P Q : List ℕ → Type 0) → ((w : List ℕ) → P w → Q w) → (a b c : Option (List ℕ)) (held keeps left : List ℕ) → Hands a held b keeps [] →
    Breaks P b keeps c left → Breaks Q a held c left
Breaks_behind P Q f a b c held keeps left h p = (
  p.0,
  Hands_trans a b c held keeps left [] p.0 h p.1,
  elim p.2 [ inl e ↦ inl e | inr r ↦ inr (r.0, f (p.0 ++ r.0) r.1) ],
)

-- the words of a refusal, behind nothing, where they are a saying
pub Ends-only_bad : (s : Sayings) (words : List ℕ) (a b c : Option (List ℕ)) (held keeps : List ℕ) (o : Outcome) → s.bad words → Hands a held b keeps [] →
    Ends (only_bad words) b keeps c o → Ends s a held c o
Ends-only_bad s words a b c held keeps Bad p h e = (e.0, rw e.1 p, Hands_trans a b c held keeps [] [] e.0 h e.2)
Ends-only_bad s words a b c held keeps ReadFault p h e = e
Ends-only_bad s words a b c held keeps WriteFault p h e = (
  e.0,
  e.1,
  Breaks_behind (IsSaying (only_bad words)) (IsSaying s) (λ w q. elim q [
    | inl x ↦
        absurd x
    | inr y ↦ elim y [ inl z ↦ inr (inl (rw z p)) | inr y ↦ elim y [ inl x ↦ absurd x | inr x ↦ absurd x ] ]
  ]) a b c held keeps e.0 h e.2,
)
Ends-only_bad s words a b c held keeps OutOfMemory p h e = (
  e.0,
  Breaks_behind (IsSaying (only_bad words)) (IsSaying s) (λ w q. elim q [
    | inl x ↦
        absurd x
    | inr y ↦ elim y [ inl z ↦ inr (inl (rw z p)) | inr y ↦ elim y [ inl x ↦ absurd x | inr x ↦ absurd x ] ]
  ]) a b c held keeps e.0 h e.1,
)
Ends-only_bad s words a b c held keeps _ p h e = absurd e.1

-- the words of a limit, behind nothing, where they are a saying
pub Ends_only_limited : (s : Sayings) (words : List ℕ) (a b c : Option (List ℕ)) (held keeps : List ℕ) (o : Outcome) → s.limited words →
    Hands a held b keeps [] → Ends (only_limited words) b keeps c o → Ends s a held c o
Ends_only_limited s words a b c held keeps ReadFault p h e = e
Ends_only_limited s words a b c held keeps WriteFault p h e = (
  e.0,
  e.1,
  Breaks_behind (IsSaying (only_limited words)) (IsSaying s) (λ w q. elim q [
    | inl x ↦
        absurd x
    | inr y ↦ elim y [ inl z ↦ absurd z | inr y ↦ elim y [ inl x ↦ inr (inr (inl (rw x p))) | inr x ↦ absurd x ] ]
  ]) a b c held keeps e.0 h e.2,
)
Ends_only_limited s words a b c held keeps Limit p h e = (e.0, rw e.1 p, Hands_trans a b c held keeps [] [] e.0 h e.2)
Ends_only_limited s words a b c held keeps OutOfMemory p h e = (
  e.0,
  Breaks_behind (IsSaying (only_limited words)) (IsSaying s) (λ w q. elim q [
    | inl x ↦
        absurd x
    | inr y ↦ elim y [ inl z ↦ absurd z | inr y ↦ elim y [ inl x ↦ inr (inr (inl (rw x p))) | inr x ↦ absurd x ] ]
  ]) a b c held keeps e.0 h e.1,
)
Ends_only_limited s words a b c held keeps _ p h e = absurd e.1

-- how it ends where the treatment stops at a line
pub Ends_line : (m : Meaning) (lines : List (List ℕ)) (text : List ℕ) (number : ℕ) (line : List ℕ) (a b c : Option (List ℕ)) (held keeps left : List ℕ)
    (stop : Stop) (o : Outcome)
    → StopsAt m lines text line a held b keeps stop → (stop ≡ Unwrote → 0 < length keeps) → Stopped number b keeps c left stop o →
    Ends (line_sayings m lines text number line) a held c o
Ends_line m lines text number line a b c held keeps left (Refused cause) o p w e =
    Ends-only_bad (line_sayings m lines text number line) (bad_line number cause) a b c held keeps o (cause, p.1, refl) p.0 e
Ends_line m lines text number line a b c held keeps left Limited o p w e = Ends_only_limited (line_sayings m lines text number line) (limit_line number) a b c
    held keeps o (p.1, refl) p.0 e
Ends_line m lines text number line a b c held keeps left Unwrote o p w e = rw (e.0, e.1) (
  keeps,
  w refl,
  Breaks_imp (λ more. m.accepts (lines ++ line ∷ []) (text ++ more)) (IsSaying (line_sayings m lines text number line)) (λ x y. inr (inr (inr y))) a b held
      keeps p,
)
Ends_line m lines text number line a b c held keeps left Unheld o p w e = rw (e.0, e.1) (
  keeps,
  Breaks_imp (λ more. m.accepts (lines ++ line ∷ []) (text ++ more)) (IsSaying (line_sayings m lines text number line)) (λ x y. inr (inr (inr y))) a b held
      keeps p,
)

-- how it ends where the treatment stops at the input's end
pub Ends_end : (m : Meaning) (lines : List (List ℕ)) (number : ℕ) (a b c : Option (List ℕ)) (held keeps left : List ℕ) (stop : Stop) (o : Outcome)
    → StopsAtEnd m lines a held b keeps stop → (stop ≡ Unwrote → 0 < length keeps) → Stopped number b keeps c left stop o →
    Ends (end_sayings m lines number) a held c o
Ends_end m lines number a b c held keeps left (Refused cause) o p w e = Ends-only_bad (end_sayings m lines number) (bad_line number cause) a b c held keeps o
    (cause, p.1, refl) p.0 e
Ends_end m lines number a b c held keeps left Limited o p w e = absurd p
Ends_end m lines number a b c held keeps left Unwrote o p w e = rw (e.0, e.1) (
  keeps,
  w refl,
  Breaks_imp (m.ends lines) (IsSaying (end_sayings m lines number)) (λ x y. inl y) a b held keeps p,
)
Ends_end m lines number a b c held keeps left Unheld o p w e = rw (e.0, e.1) (
  keeps,
  Breaks_imp (m.ends lines) (IsSaying (end_sayings m lines number)) (λ x y. inl y) a b held keeps p,
)

-- how it ends where the input's end is accepted, and all that is held is written or not
pub Ends_closed : (m : Meaning) (lines : List (List ℕ)) (number : ℕ) (a b c : Option (List ℕ)) (held keeps left : List ℕ) → Closes m lines a held b keeps →
    Hands b keeps c left [] → left ≡ [] → Ends (end_sayings m lines number) a held c Done
Ends_closed m lines number a b c held keeps left p h e = (p.0, p.2, subst (λ l. Hands a held c l p.0) e (said a b c held keeps left p.0 p.1 h))

pub Breaks_closed : (m : Meaning) (lines : List (List ℕ)) (number : ℕ) (a b c : Option (List ℕ)) (held keeps left : List ℕ) → Closes m lines a held b keeps →
    Hands b keeps c left [] → Breaks (IsSaying (end_sayings m lines number)) a held c left
Breaks_closed m lines number a b c held keeps left p h = (
  p.0,
  said a b c held keeps left p.0 p.1 h,
  inr ([], inl (subst (m.ends lines) (sym (append-nil p.0)) p.2)),
)
