-- Laws of what a reader gives of an input of which some lines were accepted.
use Rattle.std.proofs.Common.{◌≡◌, ℕ, ◌<◌, ◌≤◌, ◌+◌, inl, inr, List, [], ◌∷◌, ◌++◌, None, Some, refl, sym, ap, ◌∙◌, append-nil, append_assoc, subst, length}
use Rattle.std.proofs.Common.{length-append, arith, IfSome}
use Rattle.std.{proofs.lemmas.Grind.common_steps, specs.declared.option.Option.Option}
use Rattle.tsp_io.specs.Streams.{Gives}
use Rattle.tsp_lines.specs.Lines.{NoFeed, close, closed, Begins, IsInput, IsOver, HasLines, HasNext, HasMore, IsPast}
use Rattle.tsp_lines.specs.{Readings.ReaderValue, Readings.IsNext, declared.next.Next.TheVariants.Limit}
use Rattle.tsp_lines.proofs.Outputs.{Gives_trans}

-- an input that gave octets begins with the first of them
pub begins : (a b : Option (List ℕ)) (octets front rest : List ℕ) → Gives a b octets → octets ≡ front ++ rest →
    IfSome a (λ xs. (more : List ℕ) × (xs ≡ front ++ more))
begins None b octets front rest g e = tt
begins (Some x) None octets front rest g e = cc
begins (Some x) (Some y) octets front rest g e = let f : x ≡ octets ++ y = cc in (rest ++ y, f ∙ ap (λ l. l ++ y) e ∙ append_assoc front rest y)

-- an input that gave octets and is over is these octets
is_input : (a b : Option (List ℕ)) (octets : List ℕ) → Gives a b octets → IsOver b → IfSome a (λ xs. xs ≡ octets)
is_input None b octets g o = tt
is_input (Some x) None octets g o = cc
is_input (Some x) (Some y) octets g o = let f : x ≡ octets ++ y = cc in f ∙ ap (λ l. octets ++ l) o ∙ append-nil octets

-- the octets ahead of a reader, behind the lines that were accepted
pub record Ahead (input left : Option (List ℕ)) (lines : List (List ℕ)) (r : ReaderValue) (ahead : List ℕ) : Type 0 where
  pub octets : List ℕ
  pub given : Gives input left octets
  pub are : octets ≡ closed lines ++ ahead
  pub count : r.got ≡ length octets

pub Ahead_next : (input left rest : Option (List ℕ)) (lines : List (List ℕ)) (old new : ReaderValue) (octets more : List ℕ)
    → Gives input left octets → octets ≡ closed lines ++ old.held → old.got ≡ length octets → Gives left rest more → new.got ≡ old.got + length more →
    Ahead input rest lines new (old.held ++ more)
Ahead_next input left rest lines old new octets more g e c h f = record {
  octets = octets ++ more;
  given = Gives_trans input left rest octets more g h;
  are = ap (λ l. l ++ more) e ∙ append_assoc (closed lines) old.held more;
  count = omega (arith, c, f, length-append octets more);
}

-- the first octets that were got, and those behind them
module _ (input left : Option (List ℕ)) (lines : List (List ℕ)) (r : ReaderValue) (ahead : List ℕ) (a : Ahead input left lines r ahead) where
  pub Begins_got : (limit : ℕ) (front rest : List ℕ) → a.octets ≡ front ++ rest → r.got ≤ limit + length rest → Begins limit input front
  Begins_got limit front rest e w = let n : length a.octets ≡ length (front ++ rest) = ap length e in (
    omega (arith, n, length-append front rest, a.count, w),
    begins input left a.octets front rest a.given e,
  )

  pub HasLines_got : (limit : ℕ) → r.got ≤ limit + length ahead → HasLines limit input lines
  HasLines_got limit w = inl (Begins_got limit (closed lines) ahead a.are w)

  pub HasNext_line : (line rest : List ℕ) → NoFeed line → ahead ≡ close line ++ rest → r.got ≤ r.limit + length rest → HasNext r.limit input lines line
  HasNext_line line rest n e w = (
    n,
    inl (Begins_got r.limit (closed lines ++ close line) rest (a.are ∙ ap (λ l. closed lines ++ l) e ∙
        sym (append_assoc (closed lines) (close line) rest)) w),
  )

  pub IsInput_got : (limit : ℕ) (octets : List ℕ) → a.octets ≡ octets → r.got ≤ limit → IsOver left → IsInput limit input octets
  IsInput_got limit octets e w o = let n : length a.octets ≡ length octets = ap length e in
      (omega (arith, n, a.count, w), subst (λ l. IfSome input (λ xs. xs ≡ l)) e (is_input input left a.octets a.given o))

  pub HasNext_last : NoFeed ahead → 0 < length ahead → r.got ≤ r.limit → IsOver left → HasNext r.limit input lines ahead
  HasNext_last n p w o = (n, inr (p, IsInput_got r.limit (closed lines ++ ahead) a.are w o))

  pub HasMore_got : (limit : ℕ) → r.got ≤ limit + length ahead → 0 < length ahead → HasMore limit input lines
  HasMore_got limit w some = first ahead refl some where
    first : (octets : List ℕ) → ahead ≡ octets → 0 < length octets → HasMore limit input lines
    first [] e s = absurd (omega (arith, s))
    first (x ∷ rest) e s =
        let n : length ahead ≡ length (x ∷ rest) = ap length e in (
          x,
          Begins_got (limit + 1) (closed lines ++ x ∷ []) rest (a.are ∙ ap (λ l. closed lines ++ l) e ∙ sym (append_assoc (closed lines) (x ∷ []) rest))
              (omega (arith, w, n)),
        )

  pub IsPast_limit : IsNext r ahead Limit → IsPast r.limit input lines
  IsPast_limit p =
      let e : a.octets ≡ closed lines ++ (p.1.0 ++ p.1.1 ∷ []) = a.are ∙ ap (λ l. closed lines ++ l) p.1.3 in
      let n : length a.octets ≡ length (closed lines) + (length p.1.0 + 1) = ap length e ∙ grind (arith, common_steps) in (
        p.1.0,
        p.1.1,
        p.1.2,
        omega (arith, length-append (closed lines) p.1.0, n, p.0, a.count),
        Begins_got (r.limit + 1) (closed lines ++ (p.1.0 ++ p.1.1 ∷ [])) [] (e ∙ sym (append-nil (closed lines ++ (p.1.0 ++ p.1.1 ∷ []))))
            (omega (arith, p.0)),
      )
