-- Laws of the words of kinds.
use Rattle.std.proofs.Common.{◌≡◌, ℕ, List, [], ◌∷◌, zero, suc, refl, arith, true, false, Bool, Some, eq-eqb, Contains, codes, ◌==◌, ◌&&◌, not, None, sym, ap}
use Rattle.std.proofs.Common.{◌∙◌}
use Rattle.tsp_base.specs.{Words.kinds, Words.kind_word, declared.kind.Kind.Kind, declared.kind.Kind.TheVariants.AdjTime}
use Rattle.tsp_script.proofs.{WordTables.first_with, WordTables.one_word, Outcomes.none_not_some}

first_kind : (k : Kind) → first_with kind_word kinds (kind_word k) ≡ Some k
unfolding kind_word
first_kind AdjTime = refl
first_kind _ = refl

-- a word is one kind's
pub kind_word_injective : (k l : Kind) → kind_word k ≡ kind_word l → k ≡ l
kind_word_injective k l e = one_word kind_word kinds k l (first_kind k) (first_kind l) e

-- whether a word is without an octet of this value, and without a space
abbrev pub without : ℕ → List ℕ → Bool
without m [] = true
without m (c ∷ cs) = not (c == m) && without m cs

abbrev pub spaceless : List ℕ → Bool
spaceless word = without 32 word

spaceless_kind_word : (k : Kind) → spaceless (kind_word k) ≡ true
unfolding kind_word
spaceless_kind_word AdjTime = refl
spaceless_kind_word _ = refl

both : (a b : Bool) → a && b ≡ true → (a ≡ true) × (b ≡ true)
both true b p = (refl, p)
both false b p = absurd (cc)

pub no_mark_without : (m : ℕ) (word : List ℕ) → without m word ≡ true → ¬ Contains word m
no_mark_without m [] p (k, h, e) = omega arith
no_mark_without m (c ∷ cs) p (zero, h, e) =
    let q = (both (not (c == m)) (without m cs) p).0 in
    let t = eq-eqb c m e in
    let r = rw t at q in cc
no_mark_without m (c ∷ cs) p (suc k, h, e) = no_mark_without m cs (both (not (c == m)) (without m cs) p).1 (k, omega arith, e)

pub no_space_spaceless : (word : List ℕ) → spaceless word ≡ true → ¬ Contains word 32
no_space_spaceless word p = no_mark_without 32 word p

pub no_space_kind_word : (k : Kind) → ¬ Contains (kind_word k) 32
no_space_kind_word k = no_space_spaceless (kind_word k) (spaceless_kind_word k)

-- what isn't in the table is no kind's word
pub not_kind : (word : List ℕ) → first_with kind_word kinds word ≡ None → (k : Kind) → kind_word k ≡ word → ⊥
not_kind word none k e = none_not_some k (sym none ∙ ap (λ w. first_with kind_word kinds w) (sym e) ∙ first_kind k)

-- no kind has a stamp's word
pub kind_word_not_request : (k : Kind) → kind_word k ≡ codes "request" → ⊥
unfolding kind_word
kind_word_not_request = not_kind (codes "request") refl

pub kind_word_not_reply : (k : Kind) → kind_word k ≡ codes "reply" → ⊥
unfolding kind_word
kind_word_not_reply = not_kind (codes "reply") refl
