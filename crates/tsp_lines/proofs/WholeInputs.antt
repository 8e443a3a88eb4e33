-- What comes of octets that were gathered comes of the input that they were read of.
use Rattle.std.proofs.Common.{◌≡◌, ℕ, ◌+◌, inl, inr, List, [], ◌∷◌, ◌++◌, None, Some, refl, ap, ◌∙◌, append-nil, append_assoc, drop, subst, length, arith, Bool}
use Rattle.std.proofs.Common.{true}
use Rattle.std.specs.declared.option.Option.{Option}
use Rattle.tsp_io.specs.Streams.{Gives}
use Rattle.tsp_lines.specs.{Gatherings.Gathers, Gatherings.ComesGathered, Meanings.Meaning, declared.treat.Outcome.Outcome}
use Rattle.tsp_lines.specs.Lines.{close, closed, Begins, IsInput, IsOver, IsWhole, HasLines, HasNext, HasMore, IsPast}
use Rattle.tsp_lines.specs.Outcomes.{IsBad, IsLimited, Follows, WritesPart, Comes}
use Rattle.tsp_lines.specs.declared.treat.Outcome.TheVariants.{Ok as Done, Bad, ReadFault, WriteFault, Limit, OutOfMemory}

-- what the octets begin with, the input begins with
begins_on : (n : ℕ) (input left : Option (List ℕ)) (octets xs : List ℕ) → Gives input left octets → Begins n (Some octets) xs → Begins n input xs
begins_on n input None octets xs g b = rw g (b.0, tt)
begins_on n input (Some r) octets xs g b = rw g (b.0, (b.1.0 ++ r, ap (λ l. l ++ r) b.1.1 ∙ append_assoc xs b.1.0 r))

-- where the octets are within the limit, they are the input
input_all : (n : ℕ) (input left : Option (List ℕ)) (octets xs : List ℕ) → Gives input left octets → IsOver left → IsInput n (Some octets) xs →
    IsInput n input xs
input_all n input None octets xs g o b = rw g (b.0, tt)
input_all n input (Some r) octets xs g o b = rw g (b.0, ap (λ l. octets ++ l) o ∙ append-nil octets ∙ b.1)

input_on : (n : ℕ) (input left : Option (List ℕ)) (ended : Bool) (octets xs : List ℕ) → Gathers n input left ended octets → IsInput n (Some octets) xs →
    IsInput n input xs
input_on n input left ended octets xs (g, inl o) b = input_all n input left octets xs g o.1 b
input_on n input left ended octets xs (g, inr o) b = let e : length octets ≡ length xs = ap length b.1 in absurd (omega (arith, o.0, b.0, e))

whole_on : (n : ℕ) (input left : Option (List ℕ)) (ended : Bool) (octets : List ℕ) (lines : List (List ℕ)) → Gathers n input left ended octets →
    IsWhole n (Some octets) lines → IsWhole n input lines
whole_on n input left ended octets lines g w = (w.0, w.1, input_on n input left ended octets w.0 g w.2)

lines_on : (n : ℕ) (input left : Option (List ℕ)) (ended : Bool) (octets : List ℕ) (lines : List (List ℕ)) → Gathers n input left ended octets →
    HasLines n (Some octets) lines → HasLines n input lines
lines_on n input left ended octets lines g (inl b) = inl (begins_on n input left octets (closed lines) g.0 b)
lines_on n input left ended octets lines g (inr w) = inr (whole_on n input left ended octets lines g w)

next_on : (n : ℕ) (input left : Option (List ℕ)) (ended : Bool) (octets : List ℕ) (lines : List (List ℕ)) (line : List ℕ) → Gathers n input left ended octets →
    HasNext n (Some octets) lines line → HasNext n input lines line
next_on n input left ended octets lines line g (f, inl b) = (f, inl (begins_on n input left octets (closed lines ++ close line) g.0 b))
next_on n input left ended octets lines line g (f, inr w) = (f, inr (w.0, input_on n input left ended octets (closed lines ++ line) g w.1))

more_on : (n : ℕ) (input left : Option (List ℕ)) (octets : List ℕ) (lines : List (List ℕ)) → Gives input left octets → HasMore n (Some octets) lines →
    HasMore n input lines
more_on n input left octets lines g h = (h.0, begins_on (n + 1) input left octets (closed lines ++ h.0 ∷ []) g h.1)

past_on : (n : ℕ) (input left : Option (List ℕ)) (octets : List ℕ) (lines : List (List ℕ)) → Gives input left octets → IsPast n (Some octets) lines →
    IsPast n input lines
past_on n input left octets lines g h = (h.0, h.1, h.2, h.3, begins_on (n + 1) input left octets (closed lines ++ (h.0 ++ h.1 ∷ [])) g h.4)

bad_on : (m : Meaning) (n : ℕ) (input left : Option (List ℕ)) (ended : Bool) (octets : List ℕ) (lines : List (List ℕ)) (said : List ℕ) →
    Gathers n input left ended octets → IsBad m n (Some octets) lines said → IsBad m n input lines said
bad_on m n input left ended octets lines said g (inl b) = inl (b.0, b.1, next_on n input left ended octets lines b.0 g b.2, b.3, b.4, b.5)
bad_on m n input left ended octets lines said g (inr b) = inr (b.0, whole_on n input left ended octets lines g b.1, b.2, b.3)

limited_on : (m : Meaning) (n : ℕ) (input left : Option (List ℕ)) (ended : Bool) (octets : List ℕ) (lines : List (List ℕ)) (said : List ℕ) →
    Gathers n input left ended octets → IsLimited m n (Some octets) lines said → IsLimited m n input lines said
limited_on m n input left ended octets lines said g (inl l, e) = (inl (l.0, next_on n input left ended octets lines l.0 g l.1, l.2), e)
limited_on m n input left ended octets lines said g (inr (inl p), e) = (inr (inl (past_on n input left octets lines g.0 p)), e)
limited_on m n input left ended octets lines said g (inr (inr f), e) = (inr (inr (f.0, more_on n input left octets lines g.0 f.1)), e)

follows_on : (m : Meaning) (n : ℕ) (input left : Option (List ℕ)) (ended : Bool) (octets : List ℕ) (lines : List (List ℕ)) (said : List ℕ) →
    Gathers n input left ended octets → Follows m n (Some octets) lines said → Follows m n input lines said
follows_on m n input left ended octets lines said g (inl f) = inl (lines_on n input left ended octets lines g f.0, f.1)
follows_on m n input left ended octets lines said g (inr (inl f)) = inr (inl (bad_on m n input left ended octets lines said g f))
follows_on m n input left ended octets lines said g (inr (inr (inl f))) = inr (inr (inl (limited_on m n input left ended octets lines said g f)))
follows_on m n input left ended octets lines said g (inr (inr (inr f))) = inr (inr (inr (whole_on n input left ended octets lines g f.0, f.1)))

part_on : (m : Meaning) (n : ℕ) (input left written now : Option (List ℕ)) (ended : Bool) (octets rest : List ℕ) → Gathers n input left ended octets →
    WritesPart m n (Some octets) written now rest → WritesPart m n input written now rest
part_on m n input left written now ended octets rest g w = (w.0, w.1, w.2, w.3, w.4, w.5, follows_on m n input left ended octets w.0 w.2 g w.6, w.7, w.8)

-- where the lines are all of the octets, these are within the limit
over_on : (n : ℕ) (input left : Option (List ℕ)) (ended : Bool) (octets : List ℕ) (lines : List (List ℕ)) → Gathers n input left ended octets →
    IsWhole n (Some octets) lines → IsOver left × (ended ≡ true)
over_on n input left ended octets lines (g, inl o) w = (o.1, o.2)
over_on n input left ended octets lines (g, inr o) w = let e : length octets ≡ length w.0 = ap length w.2.1 in absurd (omega (arith, o.0, w.2.0, e))

-- what comes of the octets that were gathered, in which no read fails, comes of the input
pub Comes_gathered : (m : Meaning) (n : ℕ) (input left rest written now : Option (List ℕ)) (ended : Bool) (octets : List ℕ) (outcome : Outcome) →
    Gathers n input left ended octets → (outcome ≡ ReadFault → ⊥)
    → Comes m n (Some octets) rest written now outcome → Comes m n input left written now outcome
Comes_gathered m n input left rest written now ended octets Done g f c =
    let w = c.0 in
    ((w.0, w.1, w.2, w.3, w.4, (whole_on n input left ended octets w.0 g w.5.0, w.5.1), w.6), (over_on n input left ended octets w.0 g w.5.0).0)
Comes_gathered m n input left rest written now ended octets Bad g f c = (c.0, c.1, c.2, c.3, c.4, bad_on m n input left ended octets c.0 c.2 g c.5, c.6)
Comes_gathered m n input left rest written now ended octets ReadFault g f c = absurd (f refl)
Comes_gathered m n input left rest written now ended octets WriteFault g f c = (c.0, c.1, part_on m n input left written now ended octets c.0 g c.2)
Comes_gathered m n input left rest written now ended octets Limit g f c = (c.0, c.1, c.2, c.3, c.4, limited_on m n input left ended octets c.0 c.2 g c.5, c.6)
Comes_gathered m n input left rest written now ended octets OutOfMemory g f c = (c.0, part_on m n input left written now ended octets c.0 g c.1)

-- where all lines were accepted, the source gave its end
pub ended_given : (m : Meaning) (n : ℕ) (input left rest written now : Option (List ℕ)) (ended : Bool) (octets : List ℕ) (at : ℕ) (outcome : Outcome) →
    Gathers n input left ended octets → at ≡ 0 → Comes m n (Some (drop at octets)) rest written now outcome → outcome ≡ Done → ended ≡ true
ended_given m n input left rest written now ended octets at outcome g e c d =
    let done : Comes m n (Some octets) rest written now Done = subst (λ o. Comes m n (Some octets) rest written now o) d
    (subst (λ (k : ℕ). Comes m n (Some (drop k octets)) rest written now outcome) e c) in
    (over_on n input left ended octets done.0.0 g done.0.5.0).1

-- where no read failed, the two say the same
pub ComesGathered_comes : (m : Meaning) (n : ℕ) (input left written now : Option (List ℕ)) (outcome : Outcome) → (outcome ≡ ReadFault → ⊥) →
    Comes m n input left written now outcome → ComesGathered m n input left written now outcome
ComesGathered_comes m n input left written now ReadFault f c = absurd (f refl)
ComesGathered_comes m n input left written now _ f c = c

-- the same, of octets of which none was given yet
pub Comes_given : (m : Meaning) (n : ℕ) (input left rest written now : Option (List ℕ)) (ended : Bool) (octets : List ℕ) (at : ℕ) (outcome : Outcome) →
    Gathers n input left ended octets → at ≡ 0 → (outcome ≡ ReadFault → ⊥)
    → Comes m n (Some (drop at octets)) rest written now outcome → Comes m n input left written now outcome
Comes_given m n input left rest written now ended octets at outcome g e f c =
    Comes_gathered m n input left rest written now ended octets outcome g f (subst (λ (k : ℕ). Comes m n (Some (drop k octets)) rest written now outcome) e c)
