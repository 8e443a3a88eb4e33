-- Whether clocks are near each other, as it is computed.
use Rattle.std.proofs.Common.{ap, refl, ◌∙◌, arith, rules, subst, subst₂, sym, ◌⊎◌, inl, inr, ◌≡◌, ◌+◌, ◌*◌, ◌≤ℤ◌, ◌<◌, ◌≤◌, ℕ, ℤ, pos, ◌+ℤ◌, ◌-ℤ◌, nat_abs}
use Rattle.std.proofs.Common.{Bool, true, false, Option, Some, List, length, MatchBool}
use Rattle.std.proofs.lemmas.{Bool.cases_lt, Int.ints}
use Rattle.tsp_audit.proofs.AgreementLemmas.{state_at}
use Rattle.tsp_base.specs.Words.{HeaderValue}
use Rattle.tsp_audit.specs.Agreeing.{AgreesBack, AllAgree, BossAgrees, IsAtPlace, MasterNearWithSpare, NodeAgrees, PairAgrees, PairNear, FromRoundStands}
use Rattle.tsp_audit.specs.Agreeing.{shown_by}
use Rattle.tsp_audit.specs.declared.round_correction.{NodeState.NodeState, RoundCorrection.RoundCorrection}

-- two clocks are near each other exactly where the spans of what they may be wrong by meet
pub spans_told : (r : Bool) (x y e f xl xh yl yh : ℤ) (u v : ℕ) → xl ≡ x -ℤ (e +ℤ pos (2 * u)) → xh ≡ x +ℤ (e +ℤ pos (2 * u)) → yl ≡ y -ℤ (f +ℤ pos (2 * v)) →
    yh ≡ y +ℤ (f +ℤ pos (2 * v)) →
    MatchBool r ((xl ≤ℤ yh) × (yl ≤ℤ xh)) ((xl ≤ℤ yh) × (yl ≤ℤ xh) → ⊥) → MatchBool r (pos (nat_abs (x -ℤ y)) ≤ℤ ((e +ℤ f) +ℤ pos (2 * u + 2 * v)))
    (pos (nat_abs (x -ℤ y)) ≤ℤ ((e +ℤ f) +ℤ pos (2 * u + 2 * v)) → ⊥)
spans_told true x y e f xl xh yl yh u v a b c d m = let s = m.0 in let t = m.1 in omega (arith, ints, a, b, c, d, s, t)
spans_told false x y e f xl xh yl yh u v a b c d m = λ near. m (omega (arith, ints, a, b, c, d, near), omega (arith, ints, a, b, c, d, near))

-- a clock is near another exactly where that is within the span of what the first may be wrong by
pub span_told : (r : Bool) (x y e xl xh : ℤ) (u : ℕ) → xl ≡ x -ℤ (e +ℤ pos (2 * u)) → xh ≡ x +ℤ (e +ℤ pos (2 * u)) →
    MatchBool r ((xl ≤ℤ y) × (y ≤ℤ xh)) ((xl ≤ℤ y) × (y ≤ℤ xh) → ⊥) → MatchBool r (pos (nat_abs (x -ℤ y)) ≤ℤ (e +ℤ pos (2 * u)))
    (pos (nat_abs (x -ℤ y)) ≤ℤ (e +ℤ pos (2 * u)) → ⊥)
span_told true x y e xl xh u a b m = let s = m.0 in let t = m.1 in omega (arith, ints, a, b, s, t)
span_told false x y e xl xh u a b m = λ near. m (omega (arith, ints, a, b, near), omega (arith, ints, a, b, near))

pub sums_same : (a b x y : ℤ) (m n : ℕ) → a ≡ b → x ≡ y → m ≡ n → (a +ℤ x) +ℤ pos m ≡ (b +ℤ y) +ℤ pos n
sums_same a b x y m n ab xy mn = subst₂ (λ (w z : ℤ). (a +ℤ x) +ℤ pos m ≡ (w +ℤ z) +ℤ pos n) ab xy (ap (λ (k : ℕ). (a +ℤ x) +ℤ pos k) mn)

some_same : (o : Option RoundCorrection) (c d : RoundCorrection) → o ≡ Some c → o ≡ Some d → c ≡ d
some_same o c d is was = search (rules, is, was)

-- two nodes that one Close corrected agree exactly where they are near
pub pair_told : (header : HeaderValue) (t spare n k : ℕ) (a b : NodeState) (c d : RoundCorrection) (r : Bool) → a.from_round ≡ Some c → b.from_round ≡ Some d →
    c.master ≡ d.master → c.close ≡ d.close →
    MatchBool r (PairNear header t spare n a c k b d) (PairNear header t spare n a c k b d → ⊥) →
    MatchBool r (PairAgrees header t spare n a k b) (PairAgrees header t spare n a k b → ⊥)
pair_told header t spare n k a b c d true ac bd masters closes near = λ e f ae bf ms cs. subst₂ (λ (x y : RoundCorrection). PairNear header t spare n a x k b y)
    (some_same a.from_round c e ac ae) (some_same b.from_round d f bd bf) near
pair_told header t spare n k a b c d false ac bd masters closes far = λ agrees. far (agrees c d ac bd masters closes)

same_state : (states : List NodeState) (k : ℕ) (b f : NodeState) → IsAtPlace states k b → IsAtPlace states k f → b ≡ f
same_state states k b f bat fat = sym (state_at states k k b bat refl) ∙ state_at states k k f fat refl

-- a node agrees with its master exactly where they are near, if that was left alone
pub boss_told : (header : HeaderValue) (t spare n : ℕ) (a : NodeState) (states : List NodeState) (c : RoundCorrection) (b : NodeState) (r : Bool) →
    a.from_round ≡ Some c → IsAtPlace states c.master b → FromRoundStands c b →
    MatchBool r (MasterNearWithSpare header t spare n a c b) (MasterNearWithSpare header t spare n a c b → ⊥) →
    MatchBool r (BossAgrees header t spare n a states) (BossAgrees header t spare n a states → ⊥)
boss_told header t spare n a states c b true ac bat st near = λ e f ae fat left.
    (let ce : c ≡ e = some_same a.from_round c e ac ae in
    let bf : b ≡ f = same_state states c.master b f bat (subst (λ (x : RoundCorrection). IsAtPlace states x.master f) (sym ce) fat) in
    subst₂ (λ (x : RoundCorrection) (y : NodeState). MasterNearWithSpare header t spare n a x y) ce bf near)
boss_told header t spare n a states c b false ac bat st far = λ agrees. far (agrees c b ac bat st)

-- a node agrees with a master that wasn't left alone, whatever that shows
pub boss_moved : (header : HeaderValue) (t spare n : ℕ) (a : NodeState) (states : List NodeState) (c : RoundCorrection) (b : NodeState) → a.from_round ≡
    Some c → IsAtPlace states c.master b → (FromRoundStands c b → ⊥) → BossAgrees header t spare n a states
boss_moved header t spare n a states c b ac bat moved = λ e f ae fat left.
    (let ce : c ≡ e = some_same a.from_round c e ac ae in
    let bf : b ≡ f = same_state states c.master b f bat (subst (λ (x : RoundCorrection). IsAtPlace states x.master f) (sym ce) fat) in
    absurd (moved (subst₂ (λ (x : RoundCorrection) (y : NodeState). FromRoundStands x y) (sym ce) (sym bf) left)))

near_turned : (x y m w : ℤ) → pos (nat_abs (x -ℤ y)) ≤ℤ m → m ≡ w → pos (nat_abs (y -ℤ x)) ≤ℤ w
near_turned x y m w near same = omega (arith, ints, near, same)

-- what two nodes ask of each other is the same
pub pair_turned : (header : HeaderValue) (t spare n k : ℕ) (a b : NodeState) → PairAgrees header t spare n a k b → PairAgrees header t spare k b n a
pair_turned header t spare n k a b f c d bc ad masters closes =
    near_turned (shown_by header n a.moved t) (shown_by header k b.moved t) _ _ (f d c ad bc (sym masters) (sym closes)) (omega (arith, ints))

-- nodes of which each agrees with those up to itself all agree
pub all_back : (header : HeaderValue) (t spare : ℕ) (states : List NodeState) → ((n : ℕ) (a : NodeState) → n < length states → IsAtPlace states n a →
    AgreesBack header t spare n a states) → AllAgree header t spare states
all_back header t spare states back n a at = record { pairs = pairs; master = (back n a at.below at).master } where
  pairs : (k : ℕ) (b : NodeState) → IsAtPlace states k b → PairAgrees header t spare n a k b
  pairs k b kat = by_case (cases_lt n k) where
    by_case : (n < k) ⊎ (k ≤ n) → PairAgrees header t spare n a k b
    by_case (inl lt) = pair_turned header t spare k n b a ((back k b kat.below kat).pairs n a (omega arith) at)
    by_case (inr le) = (back n a at.below at).pairs k b le kat

pub back_all : (header : HeaderValue) (t spare n : ℕ) (a : NodeState) (states : List NodeState) → NodeAgrees header t spare n a states →
    AgreesBack header t spare n a states
back_all header t spare n a states agrees = record { pairs = λ k b le at. agrees.pairs k b at; master = agrees.master }

-- a node that agrees with the others agrees exactly where it does with its master
pub agrees_then : (header : HeaderValue) (t spare n : ℕ) (a : NodeState) (states : List NodeState) (r : Bool) →
    ((k : ℕ) (b : NodeState) → k ≤ n → IsAtPlace states k b → PairAgrees header t spare n a k b) →
    MatchBool r (BossAgrees header t spare n a states) (BossAgrees header t spare n a states → ⊥) →
    MatchBool r (AgreesBack header t spare n a states) (AgreesBack header t spare n a states → ⊥)
agrees_then header t spare n a states true pairs master = record { pairs = pairs; master = master }
agrees_then header t spare n a states false pairs differs = λ agrees. differs agrees.master
