-- Laws of rows.
use Rattle.std.proofs.Common.{sym, ◌∙◌, ap, append_assoc, append-nil, eq-eqb, ◌≡◌, ◌≢◌, ◌==◌, ℕ, Bool, true, false, not, if◌then◌else◌, List, [], ◌∷◌, ◌++◌}
use Rattle.std.proofs.Common.{refl}
use Rattle.std.proofs.lemmas.Bool.{ne_eqb}
use Rattle.tsp_base.specs.declared.{act.Act.Act, place.PeerId.PeerId}
use Rattle.tsp_base.specs.Words.{Step, Seen, Here, Acts, Past, Row, added, grown, nothing, ◌followed_by◌, for_each, others}

-- the past grows by one list of acts after another
pub added_append : (step : Step) (x : ℕ) (xs ys : List Act) (seen : List Seen) → added step x (xs ++ ys) seen ≡ added step x ys (added step x xs seen)
added_append step x [] ys seen = refl
added_append step x (a ∷ xs) ys seen = added_append step x xs ys (Here (record { step = step; tick = x; deed = Acts a }) ∷ seen)

pub grown_append : (x : ℕ) (past : Past) (xs ys : List Act) → grown x past (xs ++ ys) ≡ grown x (grown x past xs) ys
grown_append x past xs ys = ap (λ s. record past { seen = s }) (added_append past.step x xs ys past.seen)

-- rows one after another, in whatever way they are grouped
pub then_assoc : (r s t : Row) (x : ℕ) (past : Past) → ((r followed_by s) followed_by t) x past ≡ (r followed_by (s followed_by t)) x past
unfolding ◌followed_by◌
then_assoc r s t x past =
    let a = r x past in
    let b = s x (grown x past a) in
    ap (λ q. (a ++ b) ++ t x q) (grown_append x past a b) ∙ append_assoc a b (t x (grown x (grown x past a) b))

-- a row for each of some, and then for one more
pub for_each_more : {A : Type 0} (r : A → Row) (ps : List A) (p : A) (x : ℕ) (past : Past) →
    for_each r (ps ++ p ∷ []) x past ≡ (for_each r ps followed_by r p) x past
unfolding for_each ◌followed_by◌ nothing
for_each_more r [] p x past = append-nil (r p x past)
for_each_more r (q ∷ ps) p x past =
    let here = r q x past in
    let rest = for_each r ps x (grown x past here) in
    ap (λ zs. here ++ zs) (for_each_more r ps p x (grown x past here))
    ∙ sym (append_assoc here rest (r p x (grown x (grown x past here) rest)))
    ∙ ap (λ s. (here ++ rest) ++ r p x (record past { seen = s })) (sym (added_append past.step x here rest past.seen))

cons_more : (b : Bool) (q : PeerId) (more rest tail : List PeerId) → more ≡ rest ++ tail → (if not b then q ∷ more else more) ≡
    (if not b then q ∷ rest else rest) ++ tail
cons_more true q more rest tail e = e
cons_more false q more rest tail e = ap (λ zs. q ∷ zs) e

-- one more peer, which isn't the own one, is one of the others
pub others_more : (own p : PeerId) (ps : List PeerId) → p.0 ≢ own.0 → others own (ps ++ p ∷ []) ≡ others own ps ++ p ∷ []
others_more own p [] n = let other : (p.0 == own.0) ≡ false = ne_eqb p.0 own.0 n in rw other refl
others_more own p (q ∷ ps) n = cons_more (q.0 == own.0) q (others own (ps ++ p ∷ [])) (others own ps) (p ∷ []) (others_more own p ps n)

-- the own peer isn't one of the others
pub others_own : (own p : PeerId) (ps : List PeerId) → p.0 ≡ own.0 → others own (ps ++ p ∷ []) ≡ others own ps
others_own own p [] e = let same : (p.0 == own.0) ≡ true = eq-eqb p.0 own.0 e in rw same refl
others_own own p (q ∷ ps) e =
    cons_more (q.0 == own.0) q (others own (ps ++ p ∷ [])) (others own ps) [] (others_own own p ps e ∙ sym (append-nil (others own ps)))
    ∙ append-nil (others own (q ∷ ps))
