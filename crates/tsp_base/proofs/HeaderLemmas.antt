-- One node or one network more keeps a header's rules.
use Rattle.std.proofs.Common.{◌≡◌, ℕ, ◌+◌, ◌≤◌, ◌<◌, List, [], ◌∷◌, ◌++◌, length, Bool, true, false, if◌then◌else◌, count_by}
use Rattle.std.proofs.Common.{zero, suc, ◌↔◌, nat_lt, arith, subst, slice_index_or, refl, inl, inr}
use Rattle.std.proofs.lemmas.List.{length-append, Elements.All-append, Elements.All-head, Elements.All-tail}
use Rattle.std.proofs.lemmas.List.Sums.{sum_by-append, AllPass-from_list_all, list_all-from_AllPass}
use Rattle.std.proofs.lemmas.Map.{Keys.sorted_from_strictly_increasing, Views.length-le_from_below}
use Rattle.std.proofs.{Math.Bool.and-false, lemmas.Bool.cases_lt, lemmas.Bool.ltb-true, lemmas.Bool.lt-ltb, lemmas.Bool.Decides.eqb_tells}
use Rattle.std.specs.List.{All, list_any, list_all}
use Rattle.tsp_base.specs.declared.header.NodeLine.{NodeLine}
use Rattle.tsp_base.specs.Words.{HeaderValue, IsHeader, KeepsDrift, IsNet, Joins, has_member, nets_with, all_joined}

All_one : {X : Type 0} (P : X → Type 0) (x : X) → P x → All P (x ∷ [])
All_one P x h = λ k d lt. let zero_is : k ≡ 0 = omega (arith, lt) in subst (λ i. P (slice_index_or (x ∷ []) i d)) (let e : 0 ≡ k = omega (arith, lt) in e) h

All_none : {X : Type 0} (P : X → Type 0) → All P []
All_none P = λ k d lt. absurd (omega arith)

-- a header without networks has room for one node more
pub IsHeader_more : (h : HeaderValue) (line : NodeLine) → IsHeader h → h.nets ≡ [] → length h.nodes < 64 → KeepsDrift h.drift line →
    IsHeader (record h { nodes = h.nodes ++ line ∷ [] })
IsHeader_more h line valid none few keeps = record {
  small = valid.small;
  few = (let e : length (h.nodes ++ line ∷ []) ≡ length h.nodes + 1 = length-append h.nodes (line ∷ []) in omega (arith, e, few));
  kept = All-append (KeepsDrift h.drift) h.nodes (line ∷ []) valid.kept (All_one (KeepsDrift h.drift) line keeps);
  few_nets = valid.few_nets;
  nets_are = rw none (All_none _);
  few_ports = valid.few_ports;
}

-- and so does one node more, or none
pub IsHeader_maybe : (b : Bool) (h : HeaderValue) (line : NodeLine) → IsHeader h → h.nets ≡ [] → length h.nodes < 64 → KeepsDrift h.drift line →
    IsHeader (record h { nodes = (if b then h.nodes ++ line ∷ [] else h.nodes) })
IsHeader_maybe true h line valid none few keeps = IsHeader_more h line valid none few keeps
IsHeader_maybe false h line valid none few keeps = valid

-- a network has at most as many members as there are nodes
pub length_net : (nodes : ℕ) (net : List ℕ) → IsNet nodes net → length net ≤ nodes
length_net nodes net h = length-le_from_below nodes net (sorted_from_strictly_increasing net h.ascending) h.known

-- what holds of all members holds of one
of_member : (P : ℕ → Type 0) (n : ℕ) (net : List ℕ) → All P net → has_member n net ≡ true → P n
of_member P n [] all h = cc
of_member P n (m ∷ net) all h = elim (eqb_tells m n) [
  | inl e ↦ subst P e.1 (All-head P m net all)
  | inr e ↦ of_member P n net (All-tail P m net all) (rw e.0 at h)
]

-- one network more counts for its members alone
nets_with_by : (n : ℕ) (nets : List (List ℕ)) (net : List ℕ) (b : Bool) → has_member n net ≡ b → All (λ m. nets_with m nets < 4) net → nets_with n nets ≤ 4 →
    nets_with n nets + count_by (has_member n) (net ∷ []) ≤ 4
nets_with_by n nets net true e free few = let lt : nets_with n nets < 4 = of_member (λ m. nets_with m nets < 4) n net free e in rw e (omega (arith, lt))
nets_with_by n nets net false e free few = rw e (omega (arith, few))

nets_with_more : (n : ℕ) (nets : List (List ℕ)) (net : List ℕ) → All (λ m. nets_with m nets < 4) net → nets_with n nets ≤ 4 → nets_with n (nets ++ net ∷ []) ≤ 4
nets_with_more n nets net free few = rw (sum_by-append (λ x. if has_member n x then 1 else 0) nets (net ∷ [])) (nets_with_by n nets net (has_member n net) refl
    free few)

-- where one node isn't joined, not all are
pub all_joined_not : (n nodes : ℕ) (nets : List (List ℕ)) → n < nodes → list_any (has_member n) nets ≡ false → all_joined nodes nets ≡ false
all_joined_not n zero nets lt h = absurd (omega (arith, lt))
all_joined_not n (suc m) nets lt h = elim (cases_lt n m) [
  | inl below ↦ rw (all_joined_not n m nets below h) refl
  | inr above ↦ let e : m ≡ n = omega (arith, lt, above) in rw (e, h) (and-false (all_joined n nets))
]

-- each is in fewer than 4 networks, as a test says it
pub free_test : (nets : List (List ℕ)) (net : List ℕ) → (list_all (λ n. nat_lt (nets_with n nets) 4) net ≡ true) ↔ All (λ n. nets_with n nets < 4) net
free_test nets net = (
  λ h k d lt. ltb-true _ _ (AllPass-from_list_all (λ n. nat_lt (nets_with n nets) 4) net h k d lt),
  λ all. list_all-from_AllPass (λ n. nat_lt (nets_with n nets) 4) net (λ k d lt. lt-ltb _ _ (all k d lt)),
)

-- a header has room for one network more
pub IsHeader_joined : (h : HeaderValue) (net : List ℕ) → IsHeader h → length h.nets < 64 → Joins (length h.nodes) h.nets net →
    IsHeader (record h { nets = h.nets ++ net ∷ [] })
IsHeader_joined h net valid few joins = record {
  small = valid.small;
  few = valid.few;
  kept = valid.kept;
  few_nets = (let e : length (h.nets ++ net ∷ []) ≡ length h.nets + 1 = length-append h.nets (net ∷ []) in omega (arith, e, few));
  nets_are = All-append (IsNet (length h.nodes)) h.nets (net ∷ []) valid.nets_are (All_one (IsNet (length h.nodes)) net joins.net_is);
  few_ports = λ n. nets_with_more n h.nets net joins.free (valid.few_ports n);
}

pub IsHeader_joined_maybe : (b : Bool) (h : HeaderValue) (net : List ℕ) → IsHeader h → length h.nets < 64 → Joins (length h.nodes) h.nets net →
    IsHeader (record h { nets = (if b then h.nets ++ net ∷ [] else h.nets) })
IsHeader_joined_maybe true h net valid few joins = IsHeader_joined h net valid few joins
IsHeader_joined_maybe false h net valid few joins = valid
