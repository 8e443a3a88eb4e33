-- Who is on which network of a header: each node of a whole header is on one, and who is on one is a node.
use Rattle.std.specs.Prelude.{◌≡◌, ℕ, zero, suc, ◌+◌, ◌*◌, ◌<◌, ◌≤◌, ◌==◌, nat_le, ◌&&◌, ◌||◌, Bool, true, false, if◌then◌else◌, List, [], ◌∷◌, ◌++◌, length}
use Rattle.std.specs.Prelude.{map, slice_index, slice_index_or, refl}
use Rattle.std.proofs.Common.{sym, ap, ◌∙◌, arith, subst, inl, inr, length-append, add-one, le-leb, leb-true, eq-eqb, eqb-true, true≢false}
use Rattle.std.proofs.lemmas.Bool.{cases_lt, ne_eqb, and_parts, or_right}
use Rattle.std.specs.List.{list_any, Sorted.IsStrictlyIncreasing}
use Rattle.tsp_base.specs.Words.{HeaderValue, all_joined, has_member, is_whole}
use Rattle.tsp_rules.specs.{NodeRows.PortSetup, Values.PeerId}
use Rattle.tsp_run.specs.Networks.{networks, networks_among, numbers_below, peers_on, port_on, ports_on, room}

-- whether these numbers rise, each by one at the least, and none is below this
abbrev rises_from : ℕ → List ℕ → Bool
rises_from least [] = true
rises_from least (p ∷ rest) = nat_le least p && rises_from (p + 1) rest

-- the least number behind some others
next : ℕ → List ℕ → ℕ
next least [] = least
next least (p ∷ rest) = next (p + 1) rest

next_append : (least : ℕ) (ps : List ℕ) (q : ℕ) → next least (ps ++ q ∷ []) ≡ q + 1
unfolding next
next_append least [] q = refl
next_append least (p ∷ rest) q = next_append (p + 1) rest q

rises_append : (least : ℕ) (ps : List ℕ) (q : ℕ) → rises_from least ps ≡ true → next least ps ≤ q → rises_from least (ps ++ q ∷ []) ≡ true
unfolding next
rises_append least [] q e h = rw (le-leb least q h) refl
rises_append least (p ∷ rest) q e h = let both = and_parts (nat_le least p) (rises_from (p + 1) rest) e in rw both.0 (rises_append (p + 1) rest q both.1 h)

next_below : (n : ℕ) → next 0 (numbers_below n) ≡ n
unfolding next
next_below zero = refl
next_below (suc n) = next_append 0 (numbers_below n) n ∙ add-one n

-- the numbers of all nodes rise
rises_below : (n : ℕ) → rises_from 0 (numbers_below n) ≡ true
rises_below zero = refl
rises_below (suc n) = rises_append 0 (numbers_below n) n (rises_below n) (let e = next_below n in omega (arith, e))

-- the next number is no less than the last one
rises_first : (least p : ℕ) (rest : List ℕ) (k : ℕ) → rises_from least (p ∷ rest) ≡ true → k < length (p ∷ rest) → least ≤ slice_index (p ∷ rest) k
rises_first least p rest zero e h = leb-true least p (and_parts (nat_le least p) (rises_from (p + 1) rest) e).0
rises_first least p [] (suc k) e h = absurd (omega (arith, h))
rises_first least p (q ∷ rest) (suc k) e h =
    let both = and_parts (nat_le least p) (rises_from (p + 1) (q ∷ rest)) e in
    let first = leb-true least p both.0 in
    let later = rises_first (p + 1) q rest k both.1 (omega (arith, h)) in
    omega (arith, first, later)

-- each number is below the one behind it
rises_next : (least : ℕ) (ps : List ℕ) → rises_from least ps ≡ true → (k : ℕ) → suc k < length ps → slice_index ps k < slice_index ps (suc k)
rises_next least [] e k h = absurd (omega (arith, h))
rises_next least (p ∷ []) e k h = absurd (omega (arith, h))
rises_next least (p ∷ q ∷ rest) e zero h =
    let both = and_parts (nat_le least p) (rises_from (p + 1) (q ∷ rest)) e in
    let next = rises_first (p + 1) q rest 0 both.1 (omega arith) in
    omega (arith, next)
rises_next least (p ∷ q ∷ rest) e (suc k) h =
    let both = and_parts (nat_le least p) (rises_from (p + 1) (q ∷ rest)) e in
    rises_next (p + 1) (q ∷ rest) both.1 k (omega (arith, h))

-- numbers that rise are strictly ascending
pub ascending_below : (n : ℕ) → IsStrictlyIncreasing (numbers_below n)
ascending_below n k h = subst (λ m. slice_index (numbers_below n) k < slice_index (numbers_below n) m) (sym (add-one k))
    (rises_next 0 (numbers_below n) (rises_below n) k (omega (arith, h)))

pub length_below : (n : ℕ) → length (numbers_below n) ≡ n
length_below zero = refl
length_below (suc n) = length-append (numbers_below n) (n ∷ []) ∙ ap (λ k. k + 1) (length_below n) ∙ add-one n

any_append : (n : ℕ) (ms : List ℕ) (m : ℕ) → has_member n (ms ++ m ∷ []) ≡ (has_member n ms || (m == n))
any_append n [] m = elim (m == n) as (λ b. (b || false) ≡ b) [ true ↦ refl | false ↦ refl ]
any_append n (k ∷ rest) m = elim (k == n) as (λ b. (b || has_member n (rest ++ m ∷ [])) ≡ ((b || has_member n rest) || (m == n))) [
  | true ↦ refl
  | false ↦
      any_append n rest m
]

-- each node is among all nodes
member_below : (n m : ℕ) → m < n → has_member m (numbers_below n) ≡ true
member_below zero m h = absurd (omega (arith, h))
member_below (suc n) m h = any_append m (numbers_below n) n ∙ (elim (cases_lt m n) [
  | inl lt ↦ rw (member_below n m lt) refl
  | inr ge ↦ (let same : (n == m) ≡ true = eq-eqb n m (omega (arith, h, ge)) in rw same (or_right (has_member m (numbers_below n)) true refl))
])

-- the peers of a port have their network's numbers
pub numbers_peers : (net : List ℕ) → map (λ (q : PeerId). q.0) (peers_on net) ≡ net
numbers_peers [] = refl
numbers_peers (n ∷ rest) = ap (λ l. n ∷ l) (numbers_peers rest)

joined_some : (n : ℕ) (nets : List (List ℕ)) → list_any (has_member n) nets ≡ true → 1 ≤ length (ports_on n nets)
joined_some n [] e = absurd (true≢false (sym e))
joined_some n (net ∷ rest) e = by_member (has_member n net) (λ f. joined_some n rest f) e where
  by_member : (b : Bool) → (list_any (has_member n) rest ≡ true → 1 ≤ length (ports_on n rest)) → (b || list_any (has_member n) rest) ≡ true →
      1 ≤ length (if b then port_on n net ∷ ports_on n rest else ports_on n rest)
  by_member true more e = omega arith
  by_member false more e = more e

joined_below : (n count : ℕ) (nets : List (List ℕ)) → all_joined count nets ≡ true → n < count → list_any (has_member n) nets ≡ true
joined_below n zero nets e h = absurd (omega (arith, h))
joined_below n (suc count) nets e h =
    let both = and_parts (all_joined count nets) (list_any (has_member count) nets) e in
    elim (cases_lt n count) [
      | inl lt ↦ joined_below n count nets both.0 lt
      | inr ge ↦
          (let same : count ≡ n = omega (arith, h, ge) in subst (λ m. list_any (has_member m) nets ≡ true) same both.1)
    ]

-- each node of a whole header has a port
pub some_port : (header : HeaderValue) → is_whole header ≡ true → (n : ℕ) → n < length header.nodes → 1 ≤ length (ports_on n (networks header))
some_port header whole n h = by_nets header.nets whole where
  by_nets : (nets : List (List ℕ)) → ((length nets == 0) || all_joined (length header.nodes) nets) ≡ true →
      1 ≤ length (ports_on n (networks_among (length header.nodes) nets))
  by_nets [] e = joined_some n (numbers_below (length header.nodes) ∷ []) (let m = member_below (length header.nodes) n h in rw m refl)
  by_nets (net ∷ rest) e = joined_some n (net ∷ rest) (joined_below n (length header.nodes) (net ∷ rest) (let some : (length (net ∷ rest) == 0) ≡
      false = ne_eqb (length (net ∷ rest)) 0 (λ z. absurd (omega (arith, z))) in rw some at e) h)

-- a step's room has place for a boot
pub room_many : (ports : List PortSetup) → 256 * length ports ≤ room ports
room_many [] = omega arith
room_many (s ∷ rest) = let more = room_many rest in omega (arith, more)

below_member : (count n : ℕ) → has_member n (numbers_below count) ≡ true → n < count
below_member zero n e = absurd (true≢false (sym e))
below_member (suc count) n e = by_case (has_member n (numbers_below count)) (λ f. below_member count n f) (count == n) refl
    (sym (any_append n (numbers_below count) count) ∙ e) where
      by_case : (a : Bool) → (a ≡ true → n < count) → (b : Bool) → (count == n) ≡ b → (a || b) ≡ true → n < suc count
      by_case true more b same e = let lt = more refl in omega (arith, lt)
      by_case false more true same e = let is = eqb-true count n same in omega (arith, is)
      by_case false more false same e = absurd (true≢false (sym e))

-- where the header names no network, who is on that of all nodes is a node
pub member_alone : (count n k : ℕ) → has_member n (slice_index_or (networks_among count []) k []) ≡ true → n < count
member_alone count n zero e = below_member count n e
member_alone count n (suc k) e = absurd (true≢false (sym e))

-- the ports on a network, and those on others
pub ports_on_one : (n : ℕ) (net : List ℕ) (rest : List (List ℕ)) → ports_on n (net ∷ []) ++ ports_on n rest ≡ ports_on n (net ∷ rest)
ports_on_one n net rest = by_member (has_member n net) where
  by_member : (b : Bool) → (if b then port_on n net ∷ [] else []) ++ ports_on n rest ≡ (if b then port_on n net ∷ ports_on n rest else ports_on n rest)
  by_member true = refl
  by_member false = refl
