-- Laws of a long line that is passed over.
use Rattle.std.proofs.Common.{◌≡◌, ◌≢◌, ℕ, ◌<◌, ◌+◌, List, [], ◌∷◌, ◌++◌, sym, ap, ◌∙◌, append_assoc, append-nil, length, take, arith, length-append, inl, inr}
use Rattle.std.proofs.Common.{subst, true}
use Rattle.std.{proofs.lemmas.List.take-append-le, proofs.lemmas.List.Elements.Contains-append_cases, specs.declared.option.Option.Option}
use Rattle.tsp_io.specs.Streams.{Gives}
use Rattle.tsp_lines.specs.Readings.{ReaderValue, IsNext, IsPassed, ends_input, long_of}
use Rattle.tsp_lines.specs.declared.next.Fill.TheVariants.{More, Over, NotRead}
use Rattle.tsp_lines.specs.declared.next.Next.TheVariants.{Long, LongLast, Limit, Failed}
use Rattle.tsp_lines.{proofs.Outputs.Gives_trans, specs.Lines.NoFeed, specs.Lines.close, specs.declared.next.Next.Next}

-- no line feed in two lists, none in both
pub NoFeed_append : (xs ys : List ℕ) → NoFeed xs → NoFeed ys → NoFeed (xs ++ ys)
NoFeed_append xs ys p q = λ c. elim (Contains-append_cases xs ys 10 c) [ inl a ↦ p a | inr b ↦ q b ]

-- a reader that keeps the first octets of a long line
abbrev pub keeping : ReaderValue → List ℕ → ReaderValue
keeping r start = record r { start = start }

-- what is given behind a part of a long line is given of the whole
pub IsNext_passed : (r : ReaderValue) (front octets start : List ℕ) (n : Next) → NoFeed front → 1024 < length front → start ≡ take 8 front →
    IsPassed r octets n → IsNext (keeping r start) (front ++ octets) n
IsNext_passed r front octets start Long f l s p = (
  front ++ p.0,
  NoFeed_append front p.0 f p.1,
  omega (arith, length-append front p.0, l),
  ap (λ o. front ++ o) p.2 ∙ rw (append_assoc front p.0 (10 ∷ [])) (sym (append_assoc front (close p.0) r.held)),
  s ∙
      sym (take-append-le 8 front p.0 (omega (arith, l))),
  p.3,
)
IsNext_passed r front octets start LongLast f l s p = rw (p.0, append-nil front) (f, l, p.1, s, p.2)
IsNext_passed r front octets start Limit f l s p = (
  p.0,
  (
    front ++ p.1.0,
    p.1.1,
    NoFeed_append front p.1.0 f p.1.2,
    ap (λ o. front ++ o) p.1.3 ∙
        sym (append_assoc front p.1.0 (p.1.1 ∷ [])),
  ),
)
IsNext_passed r front octets start Failed f l s p = rw (p.0, append-nil front) (f, p.1)
IsNext_passed r front octets start _ f l s p = absurd p

-- more of a long line was read
pub passed : (a b c : Option (List ℕ)) (r : ReaderValue) (held octets more start : List ℕ) (got : ℕ) (n : Next) → 1024 < length held → start ≡ take 8 held
    → Gives a b octets → NoFeed (held ++ octets) → Gives b c more → r.got ≡ got + length octets + length more → IsPassed r more n
    → (all : List ℕ) × Gives a c all × (r.got ≡ got + length all) × IsNext (keeping r start) (held ++ all) n
passed a b c r held octets more start got n l s g f h e p = (
  octets ++ more,
  Gives_trans a b c octets more g h,
  omega (arith, e, length-append octets more),
  subst (λ o. IsNext (keeping r start) o n) (append_assoc held octets more) (IsNext_passed r (held ++
      octets) more start n f (omega (arith, l, length-append held octets)) (s ∙ sym (take-append-le 8 held octets (omega (arith, l)))) p),
)

pub passed_more : (a b c : Option (List ℕ)) (held octets more : List ℕ) (got now : ℕ)
    → Gives a b octets → NoFeed (held ++ octets) → Gives b c more → now ≡ got + length octets + length more → NoFeed more
    → (all : List ℕ) × Gives a c all × (now ≡ got + length all) × NoFeed (held ++ all)
passed_more a b c held octets more got now g f h e p = (
  octets ++ more,
  Gives_trans a b c octets more g h,
  omega (arith, e, length-append octets more),
  subst NoFeed (append_assoc held octets more) (NoFeed_append (held ++ octets) more f p),
)

-- more was read behind what is held
pub next_more : (a b c : Option (List ℕ)) (r : ReaderValue) (held octets now more : List ℕ) (got : ℕ) (n : Next)
    → Gives a b octets → now ≡ held ++ octets → Gives b c more → r.got ≡ got + length octets + length more → IsNext r (now ++ more) n
    → (all : List ℕ) × Gives a c all × (r.got ≡ got + length all) × IsNext r (held ++ all) n
next_more a b c r held octets now more got n g f h e p = (
  octets ++ more,
  Gives_trans a b c octets more g h,
  omega (arith, e, length-append octets more),
  subst (λ o. IsNext r o n) (ap (λ l. l ++ more) f ∙ append_assoc held octets more) p,
)

pub Limit_Failed : Limit ≢ Failed
Limit_Failed = λ e. cc

pub More_NotRead : More ≢ NotRead
More_NotRead = λ e. cc

pub Over_NotRead : Over ≢ NotRead
Over_NotRead = λ e. cc

-- what is given at the input's end isn't a failed read
pub over_not_failed : (n : Next) → ends_input n ≡ true → n ≢ Failed
over_not_failed n o e = let f = rw e at o in cc

-- what is given for a long line isn't a failed read
pub long_not_failed : (n : Next) → long_of n ≢ Failed
long_not_failed Limit e = cc
long_not_failed _ e = cc
