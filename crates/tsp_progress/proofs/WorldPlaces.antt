-- Places of a history, and places of one node's lines.
use Rattle.std.proofs.Common.{sym, ap, subst, arith, ◌∙◌, ◌≡◌, ◌≤◌, inl, inr, ℕ, ◌==◌, Bool, true, false, List, [], ◌∷◌, ◌++◌, length, eq-eqb}
use Rattle.std.proofs.Common.{eqb-true, refl}
use Rattle.tsp_rules.specs.Values.{Act, Port}
use Rattle.tsp_base.specs.Words.{Acts, Line, Step, Within, joined, line_of, of, placed}
use Rattle.tsp_base.proofs.PlaceLemmas.{Within_all, Within_comparable, Within_length, Within_tail, Within_through}
use Rattle.tsp_promises.specs.Fits.{node_of}
use Rattle.tsp_rules.proofs.NodeRowLemmas.{joined_append}
use Rattle.tsp_progress.proofs.TableRows.{within_joined}

of_own : (n : ℕ) (l : Line) (h : List Line) → (node_of l == n) ≡ true → of n (l ∷ h) ≡ l ∷ of n h
of_own n l h e = rw e refl

of_other : (n : ℕ) (l : Line) (h : List Line) → (node_of l == n) ≡ false → of n (l ∷ h) ≡ of n h
of_other n l h e = rw e refl

-- a place of the history is one of its node's lines
pub own_place : (n : ℕ) (l : Line) (older h : List Line) → node_of l ≡ n → Within (l ∷ older) h → Within (l ∷ of n older) (of n h)
own_place n l older [] is w = let bad : ⊥ = cc in absurd bad
own_place n l older (k ∷ h) is (inl e) = subst (λ (ls : List Line). Within (l ∷ of n older) (of n ls)) e
    (subst (λ ls. Within (l ∷ of n older) ls) (sym (of_own n l older (eq-eqb (node_of l) n is))) (Within_all (l ∷ of n older)))
own_place n l older (k ∷ h) is (inr w) = by_case (node_of k == n) refl (own_place n l older h is w) where
  by_case : (b : Bool) → (node_of k == n) ≡ b → Within (l ∷ of n older) (of n h) → Within (l ∷ of n older) (of n (k ∷ h))
  by_case true e v = subst (λ ls. Within (l ∷ of n older) ls) (sym (of_own n k h e)) (inr v)
  by_case false e v = subst (λ ls. Within (l ∷ of n older) ls) (sym (of_other n k h e)) v

-- a place of a node's lines stands in the history
pub record WorldPlace (n : ℕ) (l : Line) (own h : List Line) : Type 0 where
  pub older : List Line
  pub place : Within (l ∷ older) h
  pub own_is : of n older ≡ own
  pub node : node_of l ≡ n

abbrev first_of : Line → List Line → Line
first_of l [] = l
first_of l (k ∷ rest) = k

abbrev rest_of : List Line → List Line
rest_of [] = []
rest_of (k ∷ rest) = rest

pub world_place : (n : ℕ) (l : Line) (own h : List Line) → Within (l ∷ own) (of n h) → WorldPlace n l own h
world_place n l own [] w = let bad : ⊥ = cc in absurd bad
world_place n l own (k ∷ h) w = by_case (node_of k == n) refl (λ v. world_place n l own h v) where
  more : WorldPlace n l own h → WorldPlace n l own (k ∷ h)
  more p = record { older = p.older; place = inr p.place; own_is = p.own_is; node = p.node }

  here : (node_of k == n) ≡ true → (Within (l ∷ own) (of n h) → WorldPlace n l own h) → Within (l ∷ own) (k ∷ of n h) → WorldPlace n l own (k ∷ h)
  here e rest (inl same) =
      let line : k ≡ l = sym (ap (first_of l) same) in
      record {
        older = h;
        place = subst (λ j. Within (j ∷ h) (k ∷ h)) line (Within_all (k ∷ h));
        own_is = sym (ap rest_of same);
        node = subst (λ j. node_of j ≡ n) line (eqb-true (node_of k) n e);
      }
  here e rest (inr v) = more (rest v)

  by_case : (b : Bool) → (node_of k == n) ≡ b → (Within (l ∷ own) (of n h) → WorldPlace n l own h) → WorldPlace n l own (k ∷ h)
  by_case true e rest = here e rest (subst (λ ls. Within (l ∷ own) ls) (of_own n k h e) w)
  by_case false e rest = more (rest (subst (λ ls. Within (l ∷ own) ls) (of_other n k h e) w))

-- a node has no more lines in an earlier history
of_length : (n : ℕ) (s h : List Line) → Within s h → length (of n s) ≤ length (of n h)
of_length n s [] e = subst (λ w. length (of n w) ≤ 0) (sym e) (omega arith)
of_length n s (k ∷ h) (inl e) = subst (λ w. length (of n w) ≤ length (of n (k ∷ h))) (sym e) (omega arith)
of_length n s (k ∷ h) (inr w) = by_case (node_of k == n) refl (of_length n s h w) where
  by_case : (b : Bool) → (node_of k == n) ≡ b → length (of n s) ≤ length (of n h) → length (of n s) ≤ length (of n (k ∷ h))
  by_case true e rest = subst (λ ls. length (of n s) ≤ length ls) (sym (of_own n k h e)) (omega (arith, rest))
  by_case false e rest = subst (λ ls. length (of n s) ≤ length ls) (sym (of_other n k h e)) rest

-- of two places whose node's lines are in this order, one stands before the other
pub in_order : (n : ℕ) (l : Line) (older : List Line) (k : Line) (w h : List Line) → Within (l ∷ older) h → Within (k ∷ w) h →
    Within (l ∷ of n older) (of n w) →
    Within (l ∷ older) w
in_order n l older k w h first second own = elim (Within_comparable (l ∷ older) (k ∷ w) h first second) [
  | inl v ↦ elim v [
    | inl e ↦ too_many (subst (λ ls. Within (rest_of ls) older) e (Within_all older))
    | inr v ↦ v
  ]
  | inr v ↦ elim v [
    | inl e ↦ too_many (subst (λ ls. Within w (rest_of ls)) e (Within_all w))
    | inr v ↦ too_many (Within_tail k w older v)
  ]
] where
  too_many : {A : Type 0} → Within w older → A
  too_many v =
      let few = of_length n w older v in
      let many = Within_length (l ∷ of n older) (of n w) own in
      let bad : ⊥ = omega (arith, few, many) in
      absurd bad

-- an act among those that stand in a node's lines
pub record Among (a : Act) (acts : List Act) : Type 0 where
  pub front : List Act
  pub back : List Act
  pub is : acts ≡ front ++ a ∷ back

pub placed_append : (q : Port) (xs ys : List Act) → placed q (xs ++ ys) ≡ placed q xs ++ placed q ys
placed_append q [] ys = refl
placed_append q (x ∷ xs) ys = ap (λ ps. record { port = q; act = x } ∷ ps) (placed_append q xs ys)

-- it stands there, after those before it
pub act_place : (step : Step) (x : ℕ) (q : Port) (a : Act) (acts : List Act) (h lines : List Line) (m : Among a acts) →
    Within (joined step x (placed q acts) h) lines → Within (line_of step x q (Acts a) ∷ joined step x (placed q m.front) h) lines
act_place step x q a acts h lines m w =
    let before = joined step x (placed q m.front) h in
    let split : joined step x (placed q acts) h ≡ joined step x (placed q m.back) (line_of step x q (Acts a) ∷ before) =
    ap (λ acts. joined step x (placed q acts) h) m.is ∙ ap (λ ps. joined step x ps h) (placed_append q m.front (a ∷ m.back)) ∙
    joined_append step x (placed q m.front) (placed q (a ∷ m.back)) h in
    Within_through (line_of step x q (Acts a) ∷ before) (joined step x (placed q acts) h) lines
    (subst (λ ls. Within (line_of step x q (Acts a) ∷ before) ls) (sym split)
    (within_joined step x (placed q m.back) (line_of step x q (Acts a) ∷ before) (line_of step x q (Acts a) ∷ before)
    (Within_all (line_of step x q (Acts a) ∷ before)))) w
