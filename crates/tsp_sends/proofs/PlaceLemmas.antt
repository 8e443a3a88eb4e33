-- Lemmas on the places of a tree: the first leaves.
use Rattle.std.proofs.Common.{◌≡◌, ◌≢◌, ℕ, ◌+◌, ◌-◌, ◌*◌, ◌%◌, ◌^◌, ◌≤◌, ◌<◌, nat_le, true, false, List, length, take, drop, replicate, Option, None, Some, set}
use Rattle.std.proofs.Common.{length-take, length-drop, get_or-take, get_or-drop, get_or-set_other, refl, sym, ◌∙◌, ap, arith, inl, inr}
use Rattle.std.proofs.{Math.Seq.take-set-lt, lemmas.Bool.cases_lt, lemmas.Bool.lt-leb, lemmas.Bool.Decides.nat_tests, lemmas.Nat.shl_whole}
use Rattle.std.proofs.lemmas.List.{get_or_past, length-replicate, get_or-replicate, drop-set-add, take-replicate, drop-replicate}
use Rattle.tsp_sends.specs.{Deadlines.is_due, Deadlines.deadline_at, Deadlines.IsLeast, Trees.HoldsEarlier, Trees.IsTree}
use Rattle.tsp_sends.proofs.TreeLemmas.{none_due_below, some_due_below}

-- the deadlines of the places
abbrev pub places_in : List (Option ℕ) → ℕ → ℕ → List (Option ℕ)
places_in nodes places levels = take places (drop (2 ^ levels) nodes)

pub places_in_length : (nodes : List (Option ℕ)) (places levels : ℕ) → IsTree nodes places levels → length (places_in nodes places levels) ≡ places
places_in_length nodes places levels t = omega (arith, length-take places (drop (2 ^ levels) nodes), length-drop (2 ^ levels) nodes, t.size, t.enough)

-- a place is a leaf
pub places_in_at : (nodes : List (Option ℕ)) (places levels : ℕ) → IsTree nodes places levels → (i : ℕ) → deadline_at (places_in nodes places levels) i ≡
    deadline_at nodes (2 ^ levels + i)
places_in_at nodes places levels t i = elim (cases_lt i places) [
  | inl inside ↦ get_or-take places (drop (2 ^ levels) nodes) i None inside ∙ get_or-drop (2 ^ levels) nodes i None
  | inr past ↦ get_or_past (places_in nodes places levels) i None (omega (arith, places_in_length nodes places levels t)) ∙
      sym (t.spare (2 ^ levels + i) (omega arith))
]

none_late : (tick : ℕ) (d : Option ℕ) → is_due tick d ≡ true → d ≡ None → ⊥
none_late tick None e f = cc
none_late tick (Some u) e f = cc

-- where the root isn't due, no place is
none_due_root : (nodes : List (Option ℕ)) (places levels tick : ℕ) → IsTree nodes places levels → is_due tick (deadline_at nodes 1) ≡ false → (i : ℕ) →
    is_due tick (deadline_at (places_in nodes places levels) i) ≡ false
none_due_root nodes places levels tick t late i =
    let size : length nodes ≡ 2 * 2 ^ levels = t.size in
    elim (cases_lt (2 ^ levels + i) (length nodes)) [
      | inl inside ↦ rw (places_in_at nodes places levels t i) (none_due_below levels nodes 1 tick t.earlier (omega arith) (omega arith) late (2 ^ levels + i)
          (omega arith) (omega arith))
      | inr past ↦ rw (places_in_at nodes places levels t i, get_or_past nodes (2 ^ levels + i) None past) refl
    ]

due_itself : (u : ℕ) → nat_le u u ≡ true
due_itself u = grind (arith, nat_tests)

due_means : (t : ℕ) (d : Option ℕ) → is_due t d ≡ true → (u : ℕ) × (d ≡ Some u) × (u ≤ t)
due_means t None e = let bad : ⊥ = cc in absurd bad
due_means t (Some u) e = (u, refl, grind (arith, nat_tests))

-- no place has a deadline before the root's
first_of_root : (nodes : List (Option ℕ)) (places levels t : ℕ) → IsTree nodes places levels → deadline_at nodes 1 ≡ Some t → (i u : ℕ) →
    deadline_at (places_in nodes places levels) i ≡ Some u → t ≤ u
first_of_root nodes places levels t tree e i u f = elim (cases_lt u t) [
  | inl before ↦
      let late : is_due u (deadline_at nodes 1) ≡ false = rw e (lt-leb t u before) in
      let not_due : is_due u (deadline_at (places_in nodes places levels) i) ≡ false = none_due_root nodes places levels u tree late i in
      let due : is_due u (deadline_at (places_in nodes places levels) i) ≡ true = rw f (due_itself u) in
      let bad : true ≡ false = sym due ∙ not_due in
      absurd (cc)
  | inr after ↦ after
]

-- the root holds the least deadline
pub IsLeast_root : (nodes : List (Option ℕ)) (places levels : ℕ) (r : Option ℕ) → IsTree nodes places levels → deadline_at nodes 1 ≡ r →
    IsLeast (places_in nodes places levels) r
IsLeast_root nodes places levels None tree e = λ i. none_here i (deadline_at (places_in nodes places levels) i) refl where
  none_here : (i : ℕ) (d : Option ℕ) → deadline_at (places_in nodes places levels) i ≡ d → d ≡ None
  none_here i None f = refl
  none_here i (Some u) f =
      let not_due : is_due u (deadline_at (places_in nodes places levels) i) ≡ false = none_due_root nodes places levels u tree (rw e refl) i in
      let due : is_due u (deadline_at (places_in nodes places levels) i) ≡ true = rw f (due_itself u) in
      let bad : true ≡ false = sym due ∙ not_due in
      absurd (cc)
IsLeast_root nodes places levels (Some t) tree e =
    let size : length nodes ≡ 2 * 2 ^ levels = tree.size in
    let w = some_due_below levels nodes 1 t tree.earlier (omega arith) (omega arith) (rw e (due_itself t)) in
    let low : 1 * 2 ^ levels ≤ w.0 = w.1 in
    let back : 2 ^ levels + (w.0 - 2 ^ levels) ≡ w.0 = omega arith in
    let d = due_means t (deadline_at nodes w.0) w.3 in
    let here : deadline_at (places_in nodes places levels) (w.0 - 2 ^ levels) ≡ Some d.0 = places_in_at nodes places levels tree (w.0 - 2 ^ levels) ∙
    rw back d.1 in
    let least : t ≤ d.0 = first_of_root nodes places levels t tree e (w.0 - 2 ^ levels) d.0 here in
    let same : d.0 ≡ t = omega (arith, d.2) in
    record {
      armed = (
        w.0 - 2 ^ levels,
        elim (cases_lt (w.0 - 2 ^ levels) places) [
          | inl inside ↦ omega (arith, places_in_length nodes places levels tree)
          | inr past ↦ absurd (none_late t (deadline_at nodes w.0) w.3 (tree.spare w.0 (omega arith)))
        ],
        here ∙ ap (λ (v : ℕ). Some v) same,
      );
      first = first_of_root nodes places levels t tree e;
    }

-- a place gets another deadline
pub places_in_set : (nodes new : List (Option ℕ)) (places levels i : ℕ) (at : Option ℕ) → i < places → drop (2 ^ levels) new ≡
    drop (2 ^ levels) (set nodes (2 ^ levels + i) at)
    → places_in new places levels ≡ set (places_in nodes places levels) i at
places_in_set nodes new places levels i at h e = ap (take places) (e ∙ drop-set-add (2 ^ levels) nodes i at) ∙
    take-set-lt places (drop (2 ^ levels) nodes) i at h

pub IsTree_set : (nodes new : List (Option ℕ)) (places levels i : ℕ) (at : Option ℕ) → i < places → IsTree nodes places levels → HoldsEarlier 0 new →
    length new ≡ length nodes
    → drop (2 ^ levels) new ≡ drop (2 ^ levels) (set nodes (2 ^ levels + i) at) → IsTree new places levels
IsTree_set nodes new places levels i at inside t holds size leaves = record {
  size = size ∙ t.size;
  small = t.small;
  enough = t.enough;
  tight = t.tight;
  earlier = holds;
  spare = λ j h.
      let back : 2 ^ levels + (j - 2 ^ levels) ≡ j = omega arith in
      let other : j ≢ 2 ^ levels + i = λ e. omega arith in
      ap (deadline_at new) (sym back) ∙ sym (get_or-drop (2 ^ levels) new (j - 2 ^ levels) None) ∙ ap (λ xs. deadline_at xs (j - 2 ^ levels)) leaves
      ∙ get_or-drop (2 ^ levels) (set nodes (2 ^ levels + i) at) (j - 2 ^ levels) None ∙ ap (deadline_at (set nodes (2 ^ levels + i) at)) back ∙
      get_or-set_other nodes (2 ^ levels + i) j at None other ∙ t.spare j h;
}

none_everywhere : (n i : ℕ) → deadline_at (replicate n None) i ≡ None
none_everywhere n i = elim (cases_lt i n) [
  | inl inside ↦ get_or-replicate n i None None inside
  | inr past ↦ get_or_past (replicate n None) i None (omega (arith, length-replicate n (let d : Option ℕ = None in d)))
]

pub IsTree_new : (places levels : ℕ) → levels ≤ 60 → places ≤ 2 ^ levels → ((k : ℕ) → places ≤ 2 ^ k → levels ≤ k) →
    IsTree (replicate (2 * 2 ^ levels) None) places levels
IsTree_new places levels small enough tight = record {
  size = length-replicate (2 * 2 ^ levels) None;
  small = small;
  enough = enough;
  tight = tight;
  earlier = record {
    parents = λ i some other inside. rw (
      none_everywhere (2 * 2 ^ levels) i,
      none_everywhere (2 * 2 ^ levels) (2 * i),
      none_everywhere (2 * 2 ^ levels) (2 * i + 1),
    ) refl;
  };
  spare = λ i h. none_everywhere (2 * 2 ^ levels) i;
}

pub places_in_new : (places levels : ℕ) → places ≤ 2 ^ levels → places_in (replicate (2 * 2 ^ levels) None) places levels ≡ replicate places None
places_in_new places levels enough =
    let left : 2 * 2 ^ levels - 2 ^ levels ≡ 2 ^ levels = omega arith in
    ap (take places) (drop-replicate (2 ^ levels) (2 * 2 ^ levels) None ∙ ap (λ n. replicate n None) left) ∙ take-replicate places (2 ^ levels) None enough

-- the numbers of leaves and of nodes fit
pub leaves_fit : (levels : ℕ) → levels ≤ 60 → (1 * 2 ^ levels) % 2 ^ 64 ≡ 2 ^ levels
leaves_fit levels h = shl_whole 1 1 levels 64 (omega arith) (omega arith) ∙ omega arith

pub nodes_fit : (levels : ℕ) → levels ≤ 60 → (2 * 2 ^ levels) % 2 ^ 64 ≡ 2 * 2 ^ levels
nodes_fit levels h = shl_whole 2 2 levels 64 (omega arith) (omega arith)
