-- Places of a history and places of one node's lines.
use Rattle.std.proofs.Common.{arith, ap, ◌≡◌, ◌==◌, ℕ, true, false, List, ◌∷◌, refl, sym, subst, inl, inr, eqb-true, eq-eqb, Bool, []}
use Rattle.tsp_rules.specs.Values.{Port}
use Rattle.tsp_base.specs.Words.{Did, Line, of, Within}
use Rattle.tsp_base.proofs.PlaceLemmas.{Within_all, Within_none, Within_length, Within_comparable}
use Rattle.tsp_promises.specs.Fits.{node_of}

-- a line of a port
abbrev pub line_on : Port → Did → Line
line_on q d = record { port = q; did = d }

-- a place within what stands before another one doesn't have that one at its head or before it
pub not_behind : {A : Type 0} (l x : A) (s t : List A) → Within (l ∷ s) t → Within (x ∷ t) (l ∷ s) → ⊥
not_behind l x s t v w = omega (arith, Within_length (l ∷ s) t v, Within_length (x ∷ t) (l ∷ s) w)

of_more : (b : Bool) (n : ℕ) (l : Line) (s t : List Line) → (node_of l == n) ≡ b → Within (of n s) (of n t) → Within (of n s) (of n (l ∷ t))
of_more true n l s t e p = rw e (inr p)
of_more false n l s t e p = rw e p

-- a place of the history is a place of each node's lines
pub Within_of : (n : ℕ) (s t : List Line) → Within s t → Within (of n s) (of n t)
Within_of n s [] e = subst (λ w. Within (of n s) (of n w)) e (Within_all (of n s))
Within_of n s (l ∷ t) (inl e) = subst (λ w. Within (of n s) (of n w)) e (Within_all (of n s))
Within_of n s (l ∷ t) (inr p) = of_more (node_of l == n) n l s t refl (Within_of n s t p)

-- a line stands first among its node's lines
pub of_own : (n : ℕ) (l : Line) (before : List Line) → node_of l ≡ n → of n (l ∷ before) ≡ l ∷ of n before
of_own n l before same = let e : (node_of l == n) ≡ true = subst (λ k. (node_of l == k) ≡ true) same (eq-eqb (node_of l) (node_of l) refl) in rw e refl

-- another node's line changes nothing
pub of_other : (n : ℕ) (l : Line) (before : List Line) → (node_of l == n) ≡ false → of n (l ∷ before) ≡ of n before
of_other n l before e = rw e refl

-- a line's place in the history is, with the line, its place among its node's lines
pub own_in : (n : ℕ) (l : Line) (s h : List Line) → node_of l ≡ n → Within (l ∷ s) h → Within (l ∷ of n s) (of n h)
own_in n l s h e w = subst (λ k. Within k (of n h)) (of_own n l s e) (Within_of n (l ∷ s) h w)

-- where a line of the node stands in the history
pub record Lifted (n : ℕ) (h : List Line) (l : Line) (s : List Line) : Type 0 where
  pub world : List Line
  pub place : Within (l ∷ world) h
  pub own : of n world ≡ s
  pub node : node_of l ≡ n

lift_more : (n : ℕ) (x : Line) (h : List Line) (l : Line) (s : List Line) (b : Bool) → (node_of x == n) ≡ b → (Within (l ∷ s) (of n h) → Lifted n h l s) →
    Within (l ∷ s) (of n (x ∷ h)) → Lifted n (x ∷ h) l s
lift_more n x h l s true e f w = elim (rw e at w) [
  | inl i ↦
      let line : x ≡ l = cc in
      let rest : of n h ≡ s = cc in
      record { world = h; place = inl (ap (λ k. k ∷ h) (sym line)); own = rest; node = subst (λ k. node_of k ≡ n) line (eqb-true (node_of x) n e) }
  | inr p ↦ let o = f p in record { world = o.world; place = inr o.place; own = o.own; node = o.node }
]
lift_more n x h l s false e f w = let o = f (rw e at w) in record { world = o.world; place = inr o.place; own = o.own; node = o.node }

pub lift : (n : ℕ) (h : List Line) (l : Line) (s : List Line) → Within (l ∷ s) (of n h) → Lifted n h l s
lift n [] l s w = Within_none l s w
lift n (x ∷ h) l s w = lift_more n x h l s (node_of x == n) refl (lift n h l s) w

-- one place among the node's lines is one place of the history
pub own_same : (n : ℕ) (s t : Line) (a b h : List Line) → node_of s ≡ n → node_of t ≡ n → Within (s ∷ a) h → Within (t ∷ b) h → s ∷ of n a ≡ t ∷ of n b → s ∷
    a ≡ t ∷ b
own_same n s t a b h sn tn v w o = elim (Within_comparable (s ∷ a) (t ∷ b) h v w) [
  | inl (inl e) ↦ e
  | inl (inr i) ↦ absurd (not_behind s t (of n a) (of n b) (own_in n s a b sn i) (inl (sym o)))
  | inr (inl e) ↦ sym e
  | inr (inr i) ↦ absurd (not_behind t s (of n b) (of n a) (own_in n t b a tn i) (inl o))
]
