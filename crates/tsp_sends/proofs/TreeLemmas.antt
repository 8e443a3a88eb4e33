-- Lemmas on trees of deadlines.
use Rattle.std.proofs.Common.{◌≡◌, ◌≢◌, ℕ, zero, suc, ◌+◌, ◌-◌, ◌*◌, ◌/◌, ◌%◌, ◌^◌, ◌≤◌, ◌<◌, nat_le, Bool, true, false, ◌||◌, List, length, drop, Option, None}
use Rattle.std.proofs.Common.{Some, set, length-set, get_or-set_same, get_or-set_other, refl, sym, ◌∙◌, ap, add-one, arith, inl, inr}
use Rattle.std.proofs.Math.Nat.{pow-suc, le-mul_of_pos_right, mul-le-mul_right, le_of_mul-le-mul_right, pow-le-pow_right}
use Rattle.std.proofs.lemmas.Nat.{pow_pos, pow-add}
use Rattle.std.proofs.lemmas.{Bool.cases_lt, Bool.cases_eq, Bool.Decides.nat_tests, List.get_or_past, List.drop-set-lt}
use Rattle.tsp_base.specs.Words.{earlier}
use Rattle.tsp_sends.specs.{Deadlines.is_due, Deadlines.deadline_at, Deadlines.IsFirstDueAt, Trees.HoldsEarlier}

-- the earlier of two deadlines has come where one of them has
pub is_due_earlier : (tick : ℕ) (a b : Option ℕ) → is_due tick (earlier a b) ≡ (is_due tick a || is_due tick b)
is_due_earlier tick None b = refl
is_due_earlier tick (Some x) None = by_test (nat_le x tick) where
  by_test : (t : Bool) → t ≡ (t || false)
  by_test true = refl
  by_test false = refl
is_due_earlier tick (Some x) (Some y) = grind (arith, nat_tests)

-- a power of two is twice the one before
pub pow_double : (k : ℕ) → 2 ^ (k + 1) ≡ 2 * 2 ^ k
pow_double k = rw add-one (pow-suc 2 k ∙ omega arith)

both_late : (a b c : Bool) → a ≡ (b || c) → a ≡ false → (b ≡ false) × (c ≡ false)
both_late true b c e f = let bad : ⊥ = cc in absurd bad
both_late false false false e f = (refl, refl)
both_late false true c e f = let bad : ⊥ = cc in absurd bad
both_late false false true e f = let bad : ⊥ = cc in absurd bad

right_due : (a b c : Bool) → a ≡ (b || c) → a ≡ true → b ≡ false → c ≡ true
right_due a false c e f g = sym e ∙ f
right_due a true c e f g = let bad : ⊥ = cc in absurd bad

due_by_children : (nodes : List (Option ℕ)) (i tick : ℕ) → HoldsEarlier 0 nodes → 0 < i → 2 * i + 1 < length nodes →
    is_due tick (deadline_at nodes i) ≡ (is_due tick (deadline_at nodes (2 * i)) || is_due tick (deadline_at nodes (2 * i + 1)))
due_by_children nodes i tick h some inside =
    let ne : i ≢ 0 = omega arith in
    ap (is_due tick) (h.parents i some ne inside) ∙ is_due_earlier tick (deadline_at nodes (2 * i)) (deadline_at nodes (2 * i + 1))

has_children : (n i w : ℕ) → 0 < w → (i + 1) * (2 * w) ≤ n → 2 * i + 1 < n
has_children n i w some h = let wide : 2 * (i + 1) ≤ 2 * (i + 1) * w = le-mul_of_pos_right (2 * (i + 1)) some in omega arith

-- where a node's deadline hasn't come, no leaf's below it has
pub none_due_below : (h : ℕ) (nodes : List (Option ℕ)) (i tick : ℕ) → HoldsEarlier 0 nodes → 0 < i → (i + 1) * 2 ^ h ≤ length nodes →
    is_due tick (deadline_at nodes i) ≡ false
    → (j : ℕ) → i * 2 ^ h ≤ j → j < (i + 1) * 2 ^ h → is_due tick (deadline_at nodes j) ≡ false
none_due_below zero nodes i tick holds some inside late j low high =
    let e : j ≡ i = omega arith in rw e late
none_due_below (suc h) nodes i tick holds some inside late j low high =
    let double : 2 ^ suc h ≡ 2 * 2 ^ h = pow-suc 2 h ∙ omega arith in
    let pos : 0 < 2 ^ h = pow_pos h in
    let within : (i + 1) * (2 * 2 ^ h) ≤ length nodes = rw (← double) inside in
    let from : i * (2 * 2 ^ h) ≤ j = rw (← double) low in
    let to : j < (i + 1) * (2 * 2 ^ h) = rw (← double) high in
    let children : (is_due tick (deadline_at nodes (2 * i)) ≡ false) × (is_due tick (deadline_at nodes (2 * i + 1)) ≡ false) =
    both_late _ _ _ (due_by_children nodes i tick holds some (has_children (length nodes) i (2 ^ h) pos within)) late in
    elim (cases_lt j ((2 * i + 1) * 2 ^ h)) [
      | inl l ↦ none_due_below h nodes (2 * i) tick holds (omega arith) (omega arith) children.0 j (omega arith) l
      | inr m ↦ none_due_below h nodes (2 * i + 1) tick holds (omega arith) (omega arith) children.1 j m (omega arith)
    ]

-- no leaf from `leaf` on that stands before those below the node is due
pub record NoneDueBefore (leaf tick : ℕ) (nodes : List (Option ℕ)) (node height : ℕ) : Type 0 where
  pub order : leaf ≤ node * 2 ^ height
  pub late : (j : ℕ) → leaf ≤ j → j < node * 2 ^ height → is_due tick (deadline_at nodes j) ≡ false

-- at the leaf itself
pub NoneDueBefore_start : (leaf tick : ℕ) (nodes : List (Option ℕ)) → NoneDueBefore leaf tick nodes leaf 0
NoneDueBefore_start leaf tick nodes = record { order = omega arith; late = λ j l h. absurd (omega arith) }

same_start : (n q h k : ℕ) → n ≡ 2 * q → h ≡ k + 1 → q * 2 ^ h ≡ n * 2 ^ k
same_start n q h k e f = rw (f, e, pow_double k) (omega arith)

along : (leaf tick : ℕ) (nodes : List (Option ℕ)) (node height m k : ℕ) → m * 2 ^ k ≡ node * 2 ^ height → NoneDueBefore leaf tick nodes node height →
    NoneDueBefore leaf tick nodes m k
along leaf tick nodes node height m k e h = record { order = rw e h.order; late = λ j l b. h.late j l (rw (← e) b) }

-- a node has the same first leaf as its left child
pub NoneDueBefore_parent : (leaf tick : ℕ) (nodes : List (Option ℕ)) (node q h k : ℕ) → node ≡ 2 * q → h ≡ k + 1 → NoneDueBefore leaf tick nodes node k →
    NoneDueBefore leaf tick nodes q h
NoneDueBefore_parent leaf tick nodes node q h k e f b = along leaf tick nodes node k q h (same_start node q h k e f) b

pub NoneDueBefore_child : (leaf tick : ℕ) (nodes : List (Option ℕ)) (node q h k : ℕ) → node ≡ 2 * q → h ≡ k + 1 → NoneDueBefore leaf tick nodes q h →
    NoneDueBefore leaf tick nodes node k
NoneDueBefore_child leaf tick nodes node q h k e f b = along leaf tick nodes q h node k (sym (same_start node q h k e f)) b

-- a node that isn't due is passed
pub NoneDueBefore_next : (leaf tick : ℕ) (nodes : List (Option ℕ)) (node h : ℕ) → HoldsEarlier 0 nodes → 0 < node → (node + 1) * 2 ^ h ≤ length nodes →
    is_due tick (deadline_at nodes node) ≡ false
    → NoneDueBefore leaf tick nodes node h → NoneDueBefore leaf tick nodes (node + 1) h
NoneDueBefore_next leaf tick nodes node h holds some inside late b = record {
  order = omega (arith, b.order);
  late = λ j l m. elim (cases_lt j (node * 2 ^ h)) [
    | inl before ↦ b.late j l before
    | inr after ↦ none_due_below h nodes node tick holds some inside late j after m
  ];
}

-- an odd node isn't past the last one of its height
pub odd_inside : (node h levels : ℕ) → node % 2 ≡ 1 → node * 2 ^ h ≤ 2 * 2 ^ levels → h ≤ levels → (node + 1) * 2 ^ h ≤ 2 * 2 ^ levels
odd_inside node h levels odd inside low =
    let split : 2 ^ levels ≡ 2 ^ (levels - h) * 2 ^ h = ap (λ n. 2 ^ n) (let e : levels ≡ (levels - h) + h = omega arith in e) ∙ pow-add 2 (levels - h) h in
    let wide : node * 2 ^ h ≤ (2 * 2 ^ (levels - h)) * 2 ^ h = omega (arith, split) in
    let few : node ≤ 2 * 2 ^ (levels - h) = le_of_mul-le-mul_right wide (pow_pos h) in
    let more : node + 1 ≤ 2 * 2 ^ (levels - h) = omega arith in
    let grown : (node + 1) * 2 ^ h ≤ (2 * 2 ^ (levels - h)) * 2 ^ h = mul-le-mul_right (2 ^ h) more in
    omega (arith, split)

-- the right child is due where the node is and the left child isn't
pub right_is_due : (nodes : List (Option ℕ)) (i tick h k : ℕ) → HoldsEarlier 0 nodes → 0 < i → h ≡ k + 1 → (i + 1) * 2 ^ h ≤ length nodes →
    is_due tick (deadline_at nodes i) ≡ true
    → is_due tick (deadline_at nodes (2 * i)) ≡ false → is_due tick (deadline_at nodes (2 * i + 1)) ≡ true
right_is_due nodes i tick h k holds some e inside due late =
    let within : (i + 1) * (2 * 2 ^ k) ≤ length nodes = rw (← pow_double k, ← e) inside in
    right_due _ _ _ (due_by_children nodes i tick holds some (has_children (length nodes) i (2 ^ k) (pow_pos k) within)) due late

-- some leaf below a node that is due is due
pub some_due_below : (h : ℕ) (nodes : List (Option ℕ)) (i tick : ℕ) → HoldsEarlier 0 nodes → 0 < i → (i + 1) * 2 ^ h ≤ length nodes →
    is_due tick (deadline_at nodes i) ≡ true
    → (j : ℕ) × (i * 2 ^ h ≤ j) × (j < (i + 1) * 2 ^ h) × (is_due tick (deadline_at nodes j) ≡ true)
some_due_below zero nodes i tick holds some inside due = (i, omega arith, omega arith, due)
some_due_below (suc h) nodes i tick holds some inside due =
    let double : 2 ^ suc h ≡ 2 * 2 ^ h = pow-suc 2 h ∙ omega arith in
    let within : (i + 1) * (2 * 2 ^ h) ≤ length nodes = rw (← double) inside in
    let left = λ (e : is_due tick (deadline_at nodes (2 * i)) ≡ true). some_due_below h nodes (2 * i) tick holds (omega arith) (omega arith) e in
    let right = λ (e : is_due tick (deadline_at nodes (2 * i + 1)) ≡ true). some_due_below h nodes (2 * i + 1) tick holds (omega arith) (omega arith) e in
    rw double (by_left (is_due tick (deadline_at nodes (2 * i))) refl left right) where
      by_left : (b : Bool) → is_due tick (deadline_at nodes (2 * i)) ≡ b
          → (is_due tick (deadline_at nodes (2 * i)) ≡ true → (j : ℕ) × (2 * i * 2 ^ h ≤ j) × (j < (2 * i + 1) * 2 ^ h) ×
          (is_due tick (deadline_at nodes j) ≡ true))
          → (is_due tick (deadline_at nodes (2 * i + 1)) ≡ true → (j : ℕ) × ((2 * i + 1) * 2 ^ h ≤ j) × (j < (2 * i + 1 + 1) * 2 ^ h) ×
          (is_due tick (deadline_at nodes j) ≡ true))
          → (j : ℕ) × (i * (2 * 2 ^ h) ≤ j) × (j < (i + 1) * (2 * 2 ^ h)) × (is_due tick (deadline_at nodes j) ≡ true)
      by_left true e left right = let w = left e in (w.0, omega (arith, w.1), omega (arith, w.2), w.3)
      by_left false e left right =
          let w = right (right_is_due nodes i tick (suc h) h holds some (omega arith) inside due e) in
          (w.0, omega (arith, w.1), omega (arith, w.2), w.3)

-- a node above the leaves has children
pub children_inside : (n i h k : ℕ) → h ≡ k + 1 → (i + 1) * 2 ^ h ≤ n → 2 * i + 1 < n
children_inside n i h k e inside = let within : (i + 1) * (2 * 2 ^ k) ≤ n = rw (← pow_double k, ← e) inside in has_children n i (2 ^ k) (pow_pos k) within

-- the search has come to a node that is due, and no leaf before those below it is
pub record IsDueNode (leaf tick : ℕ) (nodes : List (Option ℕ)) (node height : ℕ) : Type 0 where
  pub some : 0 < node
  pub inside : (node + 1) * 2 ^ height ≤ length nodes
  pub due : is_due tick (deadline_at nodes node) ≡ true
  pub before : NoneDueBefore leaf tick nodes node height

pub IsDueNode_left : (leaf tick : ℕ) (nodes : List (Option ℕ)) (node h k m : ℕ) → HoldsEarlier 0 nodes → h ≡ k + 1 → m ≡ 2 * node →
    IsDueNode leaf tick nodes node h → is_due tick (deadline_at nodes m) ≡ true
    → IsDueNode leaf tick nodes m k
IsDueNode_left leaf tick nodes node h k m holds e f d due =
    let within : (node + 1) * (2 * 2 ^ k) ≤ length nodes = rw (← pow_double k, ← e) d.inside in
    let same : m * 2 ^ k ≡ 2 * node * 2 ^ k = ap (λ n. n * 2 ^ k) f in
    record {
      some = omega (arith, d.some);
      inside = omega arith;
      due = due;
      before = NoneDueBefore_child leaf tick nodes m node h k f e d.before;
    }

pub IsDueNode_right : (leaf tick : ℕ) (nodes : List (Option ℕ)) (node h k m : ℕ) → HoldsEarlier 0 nodes → h ≡ k + 1 → m ≡ 2 * node →
    IsDueNode leaf tick nodes node h → is_due tick (deadline_at nodes m) ≡ false
    → IsDueNode leaf tick nodes (m + 1) k
IsDueNode_right leaf tick nodes node h k m holds e f d late =
    let within : (node + 1) * (2 * 2 ^ k) ≤ length nodes = rw (← pow_double k, ← e) d.inside in
    let same : m * 2 ^ k ≡ 2 * node * 2 ^ k = ap (λ n. n * 2 ^ k) f in
    let some : 0 < node = d.some in
    let left : is_due tick (deadline_at nodes (2 * node)) ≡ false = rw (← f) late in
    let right : is_due tick (deadline_at nodes (2 * node + 1)) ≡ true = right_is_due nodes node tick h k holds d.some e d.inside d.due left in
    record {
      some = omega arith;
      inside = omega arith;
      due = rw f right;
      before = NoneDueBefore_next leaf tick nodes m k holds (omega arith) (omega arith) late (NoneDueBefore_child leaf tick nodes m node h k f e d.before);
    }

pub IsDueNode_start : (node h tick : ℕ) (nodes : List (Option ℕ)) → 0 < node → (node + 1) * 2 ^ h ≤ length nodes → is_due tick (deadline_at nodes node) ≡ true →
    IsDueNode (node * 2 ^ h) tick nodes node h
IsDueNode_start node h tick nodes some inside due = record {
  some = some;
  inside = inside;
  due = due;
  before = record { order = omega arith; late = λ j l m. absurd (omega arith) };
}

-- at a leaf the search has found the first one that is due
pub IsDueNode_found : (leaf tick : ℕ) (nodes : List (Option ℕ)) (node h : ℕ) → h ≡ 0 → IsDueNode leaf tick nodes node h → IsFirstDueAt leaf tick nodes node
IsDueNode_found leaf tick nodes node h e d =
    let start : node * 2 ^ h ≡ node = rw e (omega arith) in
    let next : (node + 1) * 2 ^ h ≡ node + 1 = rw e (omega arith) in
    record {
      after = omega (arith, d.before.order);
      inside = omega (arith, d.inside);
      due = d.due;
      first = λ j l m. d.before.late j l (omega arith);
    }

-- a node that has changed leaves its parent alone to be mended
pub HoldsEarlier_set : (nodes : List (Option ℕ)) (n : ℕ) (at : Option ℕ) → HoldsEarlier n nodes → n < length nodes
    → (0 < n → 2 * n + 1 < length nodes → at ≡ earlier (deadline_at nodes (2 * n)) (deadline_at nodes (2 * n + 1))) → HoldsEarlier (n / 2) (set nodes n at)
HoldsEarlier_set nodes n at holds within value = record {
  parents = λ i some other inside.
      let fits : 2 * i + 1 < length nodes = omega (arith, length-set nodes n at) in
      let left : 2 * i ≢ n = λ e. other (omega arith) in
      let right : 2 * i + 1 ≢ n = λ e. other (omega arith) in
      elim (cases_eq i n) [
        | inl e ↦
            let positive : 0 < n = omega arith in
            let room : 2 * n + 1 < length nodes = omega arith in
            rw (
              e,
              get_or-set_same nodes n at None within,
              get_or-set_other nodes n (2 * n) at None (λ f. left (ap (λ m. 2 * m) e ∙ f)),
              get_or-set_other nodes n (2 * n + 1) at None (λ f. right (ap (λ m. 2 * m + 1) e ∙ f)),
            ) (value positive room)
        | inr ne ↦ rw (get_or-set_other nodes n i at None ne, get_or-set_other nodes n (2 * i) at None left, get_or-set_other nodes n (2 * i + 1) at None right)
            (holds.parents i some ne fits)
      ];
}

-- the tree is whole, so any node may be taken for the one to be mended
pub HoldsEarlier_any : (nodes : List (Option ℕ)) (n : ℕ) → HoldsEarlier 0 nodes → HoldsEarlier n nodes
HoldsEarlier_any nodes n holds = record { parents = λ i some other inside. holds.parents i some (λ e. absurd (omega arith)) inside }

pub pow_small : (levels : ℕ) → levels ≤ 60 → 2 ^ levels ≤ 2 ^ 60
pow_small levels h = pow-le-pow_right {n = 2} (omega arith) h

-- the search upwards: the node, and those below it, are in the tree
pub record IsClimbing (leaf tick : ℕ) (nodes : List (Option ℕ)) (levels node height : ℕ) : Type 0 where
  pub inside : node * 2 ^ height ≤ 2 * 2 ^ levels
  pub before : NoneDueBefore leaf tick nodes node height

pub IsClimbing_up : (leaf tick : ℕ) (nodes : List (Option ℕ)) (levels node h q : ℕ) → node ≡ 2 * q → IsClimbing leaf tick nodes levels node h →
    IsClimbing leaf tick nodes levels q (h + 1)
IsClimbing_up leaf tick nodes levels node h q e b =
    let same : q * 2 ^ (h + 1) ≡ node * 2 ^ h = same_start node q (h + 1) h e refl in
    record { inside = omega (arith, same, b.inside); before = NoneDueBefore_parent leaf tick nodes node q (h + 1) h e refl b.before }

pub IsClimbing_next : (leaf tick : ℕ) (nodes : List (Option ℕ)) (levels node h : ℕ) → HoldsEarlier 0 nodes → length nodes ≡ 2 * 2 ^ levels → node % 2 ≡ 1 →
    h ≤ levels → is_due tick (deadline_at nodes node) ≡ false
    → IsClimbing leaf tick nodes levels node h → IsClimbing leaf tick nodes levels (node + 1) h
IsClimbing_next leaf tick nodes levels node h holds size odd low late b =
    let inside : (node + 1) * 2 ^ h ≤ 2 * 2 ^ levels = odd_inside node h levels odd b.inside low in
    record { inside = inside; before = NoneDueBefore_next leaf tick nodes node h holds (omega arith) (omega arith) late b.before }

pub climbing_bounds : (leaf tick : ℕ) (nodes : List (Option ℕ)) (levels node h : ℕ) → length nodes ≡ 2 * 2 ^ levels → node % 2 ≡ 1 → h ≤ levels →
    IsClimbing leaf tick nodes levels node h
    → (node + 1 ≤ length nodes) × ((node + 1) * 2 ^ h ≤ length nodes)
climbing_bounds leaf tick nodes levels node h size odd low b =
    let inside : (node + 1) * 2 ^ h ≤ 2 * 2 ^ levels = odd_inside node h levels odd b.inside low in
    let wide : node + 1 ≤ (node + 1) * 2 ^ h = le-mul_of_pos_right (node + 1) (pow_pos h) in
    (omega arith, omega arith)

-- above the root no leaf is left
pub IsClimbing_over : (leaf tick : ℕ) (nodes : List (Option ℕ)) (levels node h : ℕ) → length nodes ≡ 2 * 2 ^ levels → 0 < leaf → h ≡ levels + 1 →
    IsClimbing leaf tick nodes levels node h
    → (j : ℕ) → leaf ≤ j → is_due tick (deadline_at nodes j) ≡ false
IsClimbing_over leaf tick nodes levels zero h size some e b j l = let order : leaf ≤ 0 * 2 ^ h = b.before.order in absurd (omega arith)
IsClimbing_over leaf tick nodes levels (suc n) h size some e b j l =
    let end : 2 ^ h ≡ 2 * 2 ^ levels = rw (e, pow_double levels) refl in
    elim (cases_lt j (length nodes)) [
      | inl inside ↦ b.before.late j l (omega arith)
      | inr past ↦ rw (get_or_past nodes j None past) refl
    ]

-- the leaf that was found below a node is the first one of all
pub IsFirstDueAt_below : (leaf tick : ℕ) (nodes : List (Option ℕ)) (node h i : ℕ) → NoneDueBefore leaf tick nodes node h →
    IsFirstDueAt (node * 2 ^ h) tick nodes i → IsFirstDueAt leaf tick nodes i
IsFirstDueAt_below leaf tick nodes node h i b f = record {
  after = omega (arith, b.order, f.after);
  inside = f.inside;
  due = f.due;
  first = λ j l m. elim (cases_lt j (node * 2 ^ h)) [ inl before ↦ b.late j l before | inr after ↦ f.first j after m ];
}

-- the nodes above the leaves aren't among them
pub leaves_kept : (nodes old : List (Option ℕ)) (levels n : ℕ) (at : Option ℕ) → n < 2 ^ levels → drop (2 ^ levels) nodes ≡ drop (2 ^ levels) old →
    drop (2 ^ levels) (set nodes n at) ≡ drop (2 ^ levels) old
leaves_kept nodes old levels n at h e = drop-set-lt (2 ^ levels) nodes n at h ∙ e

pub half_below : (node h n : ℕ) → node * 2 ^ h < n → node / 2 * 2 ^ (h + 1) < n
half_below node h n b =
    let half : 2 * (node / 2) * 2 ^ h ≤ node * 2 ^ h = mul-le-mul_right (2 ^ h) (omega arith) in
    rw (pow_double h) (omega arith)

-- at the height of the root no parent is left
pub at_root : (node h levels : ℕ) → h ≡ levels → node * 2 ^ h < 2 * 2 ^ levels → node / 2 ≡ 0
at_root zero h levels e b = refl
at_root (suc zero) h levels e b = refl
at_root (suc (suc n)) h levels e b =
    let many : 2 * 2 ^ levels ≤ suc (suc n) * 2 ^ levels = mul-le-mul_right (2 ^ levels) (omega arith) in
    absurd (omega (arith, rw e at b))
