-- Octets are cut into lines in one way.
use Rattle.std.proofs.Common.{◌≡◌, ℕ, ◌<◌, inl, inr, List, [], ◌∷◌, ◌++◌, refl, sym, ap, ◌∙◌, append_assoc, length, zero, suc, arith, Bool, true, false, ◌==◌}
use Rattle.std.proofs.Common.{eqb-true, eq-eqb, subst, slice_index_or, All, Contains, ◌⊎◌}
use Rattle.std.proofs.lemmas.List.Elements.{All-cons, All-head, All-tail}
use Rattle.tsp_lines.specs.Lines.{NoFeed, close, closed, AreLines}

Contains_feed : (line rest : List ℕ) → Contains (line ++ 10 ∷ rest) 10
Contains_feed [] rest = (0, omega arith, refl)
Contains_feed (x ∷ xs) rest = let c = Contains_feed xs rest in (suc c.0, omega (arith, c.1), c.2)

NoFeed_tail : (x : ℕ) (xs : List ℕ) → NoFeed (x ∷ xs) → NoFeed xs
NoFeed_tail x xs n = λ c. n (suc c.0, omega (arith, c.1), c.2)

-- octets without a line feed aren't a line with its line feed
NoFeed_no_line : (octets line rest : List ℕ) → NoFeed octets → octets ≡ line ++ 10 ∷ rest → ⊥
NoFeed_no_line octets line rest n e = n (rw e (Contains_feed line rest))

-- the first line feed ends one line
feeds_apart : (a b r s : List ℕ) → NoFeed a → NoFeed b → a ++ 10 ∷ r ≡ b ++ 10 ∷ s → (a ≡ b) × (r ≡ s)
feeds_apart [] [] r s n m e = (refl, cc)
feeds_apart [] (y ∷ b) r s n m e = absurd (m (0, omega arith, cc))
feeds_apart (x ∷ a) [] r s n m e = absurd (n (0, omega arith, cc))
feeds_apart (x ∷ a) (y ∷ b) r s n m e =
    let t : a ++ 10 ∷ r ≡ b ++ 10 ∷ s = cc in
    let p = feeds_apart a b r s (NoFeed_tail x a n) (NoFeed_tail y b m) t in
    let h : x ≡ y = cc in
    (rw (h, p.0) refl, p.1)

close_append : (line rest : List ℕ) → close line ++ rest ≡ line ++ 10 ∷ rest
close_append line rest = append_assoc line (10 ∷ []) rest

-- octets in front of which a line stands
abbrev IsBehind : List ℕ → List ℕ → (List ℕ → Type 0) → Type 0
IsBehind octets line P = (rest : List ℕ) × (octets ≡ line ++ 10 ∷ rest) × P rest

pub AreLines_none : (octets : List ℕ) → AreLines octets [] → octets ≡ []
AreLines_none octets (inl e) = e
AreLines_none octets (inr ([], last, e, p, o)) = cc
AreLines_none octets (inr (x ∷ front, last, e, p, o)) = cc

-- the first of some lines ends at a line feed, or is the last
AreLines_first : (octets line : List ℕ) (lines : List (List ℕ)) → AreLines octets (line ∷ lines) → IsBehind octets line (λ rest. AreLines rest lines) ⊎
    ((lines ≡ []) × (0 < length line) × (octets ≡ line))
AreLines_first octets line lines (inl e) = inl (closed lines, e ∙ close_append line (closed lines), inl refl)
AreLines_first octets line lines (inr ([], last, e, p, o)) = let h : line ≡ last = cc in inr (cc, rw h p, o ∙ sym h)
AreLines_first octets line lines (inr (x ∷ front, last, e, p, o)) =
    let h : x ≡ line = cc in
    let t : lines ≡ front ++ last ∷ [] = cc in
    inl (
      closed front ++ last,
      o ∙ append_assoc (close x) (closed front) last ∙ close_append x (closed front ++ last) ∙
          ap (λ l. l ++ 10 ∷ (closed front ++ last)) h,
      inr (front, last, t, p, refl),
    )

-- octets of one line at least aren't those of none
AreLines_some : (octets line : List ℕ) (lines : List (List ℕ)) → AreLines octets [] → AreLines octets (line ∷ lines) → ⊥
AreLines_some octets line lines a b =
    let none = AreLines_none octets a in
    elim (AreLines_first octets line lines b) [
      | inl r ↦ NoFeed_no_line [] line r.0 (λ c. omega (arith, c.1)) (sym none ∙ r.1)
      | inr r ↦ let e : 0 ≡ length line = ap length (sym none ∙ r.2) in omega (arith, r.1, e)
    ]

conses : (x y : List ℕ) (xs ys : List (List ℕ)) → x ≡ y → xs ≡ ys → x ∷ xs ≡ y ∷ ys
conses x y xs ys h t = rw (h, t) refl

-- the lines of octets are one list
pub AreLines_one : (octets : List ℕ) (ls ms : List (List ℕ)) → All NoFeed ls → All NoFeed ms → AreLines octets ls → AreLines octets ms → ls ≡ ms
AreLines_one octets [] [] n m a b = refl
AreLines_one octets [] (y ∷ ms) n m a b = absurd (AreLines_some octets y ms a b)
AreLines_one octets (x ∷ ls) [] n m a b = absurd (AreLines_some octets x ls b a)
AreLines_one octets (x ∷ ls) (y ∷ ms) n m a b =
    let p = All-head NoFeed x ls n in
    let q = All-head NoFeed y ms m in
    elim (AreLines_first octets x ls a) [
      | inl r ↦ elim (AreLines_first octets y ms b) [
        | inl s ↦
            let e = feeds_apart x y r.0 s.0 p q (sym r.1 ∙ s.1) in
            let t = AreLines_one r.0 ls ms (All-tail NoFeed x ls n) (All-tail NoFeed y ms m) r.2 (rw e.1 s.2) in
            conses x y ls ms e.0 t
        | inr s ↦ absurd (NoFeed_no_line y x r.0 q (sym s.2 ∙ r.1))
      ]
      | inr r ↦ elim (AreLines_first octets y ms b) [
        | inl s ↦ absurd (NoFeed_no_line x y s.0 p (sym r.2 ∙ s.1))
        | inr s ↦ conses x y ls ms (sym r.2 ∙ s.2) (r.0 ∙ sym s.0)
      ]
    ]

-- an octet in front of a line
NoFeed_cons : (x : ℕ) (xs : List ℕ) → (x ≡ 10 → ⊥) → NoFeed xs → NoFeed (x ∷ xs)
NoFeed_cons x xs d n = λ c. at c.0 c.1 c.2 where
  at : (k : ℕ) → k < length (x ∷ xs) → slice_index_or (x ∷ xs) k 10 ≡ 10 → ⊥
  at zero h e = d e
  at (suc k) h e = n (k, omega (arith, h), e)

-- an octet more in front of lines: a line feed makes a line of its own
cut_feed : (xs : List ℕ) (lines : List (List ℕ)) → AreLines xs lines → AreLines (10 ∷ xs) ([] ∷ lines)
cut_feed xs lines (inl e) = inl (ap (λ l. 10 ∷ l) e)
cut_feed xs lines (inr (front, last, e, p, o)) = inr ([] ∷ front, last, ap (λ l. [] ∷ l) e, p, ap (λ l. 10 ∷ l) o)

-- and another octet stands in the first line
cut_octet : (x : ℕ) (xs : List ℕ) (lines : List (List ℕ)) → (x ≡ 10 → ⊥) → All NoFeed lines → AreLines xs lines → (more : List (List ℕ)) × All NoFeed more ×
    AreLines (x ∷ xs) more
cut_octet x xs [] d n a = (
  (x ∷ []) ∷ [],
  All-cons NoFeed (x ∷ []) [] (NoFeed_cons x [] d (λ c. omega (arith, c.1))) n,
  inr ([], x ∷ [], refl, omega arith, ap (λ l. x ∷ l) (AreLines_none xs a)),
)
cut_octet x xs (line ∷ lines) d n a = (
  (x ∷ line) ∷ lines,
  All-cons NoFeed (x ∷ line) lines (NoFeed_cons x line d (All-head NoFeed line lines n))
      (All-tail NoFeed line lines n),
  are a,
) where
  are : AreLines xs (line ∷ lines) → AreLines (x ∷ xs) ((x ∷ line) ∷ lines)
  are (inl e) = inl (ap (λ l. x ∷ l) e)
  are (inr ([], last, e, p, o)) =
      let h : line ≡ last = cc in
      let t : lines ≡ [] = cc in
      inr ([], x ∷ last, rw (h, t) refl, omega arith, ap (λ l. x ∷ l) o)
  are (inr (y ∷ front, last, e, p, o)) =
      let h : y ≡ line = cc in
      let t : lines ≡ front ++ last ∷ [] = cc in
      inr ((x ∷ line) ∷ front, last, ap (λ l. (x ∷ line) ∷ l) t, p, ap (λ l. x ∷ l) (o ∙ ap (λ l. (close l ++ closed front) ++ last) h))

-- octets are lines
pub cut : (octets : List ℕ) → (lines : List (List ℕ)) × All NoFeed lines × AreLines octets lines
cut [] = ([], λ k d h. absurd (omega (arith, h)), inl refl)
cut (x ∷ xs) = let c = cut xs in by (x == 10) refl c where
  by : (b : Bool) → (x == 10) ≡ b → (c : (lines : List (List ℕ)) × All NoFeed lines × AreLines xs lines) → (lines : List (List ℕ)) × All NoFeed lines ×
      AreLines (x ∷ xs) lines
  by true e c = let f : x ≡ 10 = eqb-true x 10 e in (
    [] ∷ c.0,
    All-cons NoFeed [] c.0 (λ k. omega (arith, k.1)) c.1,
    subst (λ y. AreLines (y ∷ xs) ([] ∷ c.0)) (sym f) (cut_feed xs c.0 c.2),
  )
  by false e c = cut_octet x xs c.0 (λ f. let t : (x == 10) ≡ true = eq-eqb x 10 f in cc) c.1 c.2

-- lines at the front of octets are the first of all their lines
pub front_of : (octets rest : List ℕ) (front lines : List (List ℕ)) → All NoFeed front → All NoFeed lines → octets ≡ closed front ++ rest →
    AreLines octets lines → (more : List (List ℕ)) × (lines ≡ front ++ more) × AreLines rest more
front_of octets rest [] lines n m e a = (lines, refl, subst (λ o. AreLines o lines) e a)
front_of octets rest (x ∷ front) [] n m e a =
    let f : [] ≡ x ++ 10 ∷ (closed front ++ rest) = sym (AreLines_none octets a) ∙ e ∙ append_assoc (close x) (closed front) rest ∙
    close_append x (closed front ++ rest) in
    absurd (NoFeed_no_line [] x (closed front ++ rest) (λ c. omega (arith, c.1)) f)
front_of octets rest (x ∷ front) (y ∷ lines) n m e a =
    let f : octets ≡ x ++ 10 ∷ (closed front ++ rest) = e ∙ append_assoc (close x) (closed front) rest ∙ close_append x (closed front ++ rest) in
    elim (AreLines_first octets y lines a) [
      | inl s ↦
          let p = feeds_apart x y (closed front ++ rest) s.0 (All-head NoFeed x front n) (All-head NoFeed y lines m) (sym f ∙ s.1) in
          let t = front_of s.0 rest front lines (All-tail NoFeed x front n) (All-tail NoFeed y lines m) (sym p.1) s.2 in
          (t.0, conses y x lines (front ++ t.0) (sym p.0) t.1, t.2)
      | inr s ↦ absurd (NoFeed_no_line y x (closed front ++ rest) (All-head NoFeed y lines m) (sym s.2 ∙ f))
    ]

-- a line feed behind fewer octets than are without one
pub feed_within : (part line s r : List ℕ) → NoFeed part → part ++ s ≡ line ++ 10 ∷ r → length line < length part → ⊥
feed_within [] line s r n e l = omega (arith, l)
feed_within (x ∷ part) [] s r n e l = n (0, omega arith, cc)
feed_within (x ∷ part) (y ∷ line) s r n e l = let t : part ++ s ≡ line ++ 10 ∷ r = cc in feed_within part line s r (NoFeed_tail x part n) t (omega (arith, l))
