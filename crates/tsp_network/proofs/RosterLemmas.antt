-- Rosters: which nodes the ports of a node of a header reach, and which node a number names there.
use Rattle.std.proofs.Common.{sym, ap, subst, inl, inr, arith, true≢false, eq-eqb, eqb-true, le-leb, leb-true, ◌∙◌, ◌≡◌, ◌≢◌, ◌⊎◌, ℕ, zero, suc, ◌+◌, ◌-◌, ◌<◌}
use Rattle.std.proofs.Common.{◌≤◌, ◌==◌, nat_le, nat_lt, Bool, true, false, not, ◌&&◌, if◌then◌else◌, List, [], ◌∷◌, length, map, slice_index_or, sum, refl}
use Rattle.std.proofs.Common.{All, Option, None, Some}
use Rattle.std.proofs.lemmas.List.Elements.{All-get_or, All-head, All-tail, All-weaker, All-append, All-cons, All-nil, filter_passes}
use Rattle.std.proofs.lemmas.List.Sums.{get_or-le-sum_by}
use Rattle.std.proofs.lemmas.Bool.{and_parts, cases_lt, eqb-false, lt-ltb, ltb-true, ne_eqb, or_cases, or_right}
use Rattle.std.{proofs.lemmas.List.Kept.IsStrictlyIncreasing-filter, specs.List.range_with_len, specs.List.Sorted.IsStrictlyIncreasing}
use Rattle.tsp_rules.specs.{NodeRows.no_port, Values.PeerId, Values.Place, Values.Peer, Values.Stranger, Values.Port}
use Rattle.tsp_base.specs.Words.{is_among, others, peer_of, HeaderValue, IsNet, has_member}
use Rattle.tsp_base.proofs.AscendingLemmas.{Rise, Rise_numbers, Rise_rest}
use Rattle.tsp_network.specs.Rosters.{named_node, neighbours, neighbours_on, others_in, place_in}
use Rattle.tsp_run.specs.Networks.{address_at, address_of, network_at, network_from, networks, networks_among, numbers_below, peers_on, port_at, port_from}
use Rattle.tsp_run.specs.Networks.{port_on, ports_on}
use Rattle.tsp_run.proofs.NetworkLemmas.{on_network, on_port_of, some_same}
use Rattle.tsp_run.specs.{Clocked.IsSetUp, declared.address.Address.Address}
use Rattle.tsp_networks.proofs.MemberLemmas.{ascending_below}

-- nodes that a node numbers: none is the node itself, and none stands there twice
pub record IsRoster (n : ℕ) (nodes : List ℕ) : Type 0 where
  pub apart : (i : ℕ) → i < length nodes → slice_index_or nodes i 0 ≢ n
  pub once : (i j : ℕ) → i < length nodes → j < length nodes → slice_index_or nodes i 0 ≡ slice_index_or nodes j 0 → i ≡ j

-- whom a number names: the node itself, the i-th of the nodes, or nobody
pub data Names (n done : ℕ) (nodes : List ℕ) (p : ℕ) : Type 0 where
  Itself : p ≡ 0 → named_node n done nodes p ≡ n → Names n done nodes p
  Member : (i : ℕ) → i < length nodes → p ≡ done + 1 + i → named_node n done nodes p ≡ slice_index_or nodes i 0 → Names n done nodes p
  Nobody : named_node n done nodes p ≡ p + (n + sum nodes + 1) → Names n done nodes p

pub named_member : (n done : ℕ) (nodes : List ℕ) (i : ℕ) → i < length nodes → named_node n done nodes (done + 1 + i) ≡ slice_index_or nodes i 0
named_member n done nodes i h =
    let some : ((done + 1 + i) == 0) ≡ false = ne_eqb (done + 1 + i) 0 (λ e. let bad : ⊥ = omega (arith, e) in bad) in
    let low : nat_lt done (done + 1 + i) ≡ true = lt-ltb done (done + 1 + i) (omega arith) in
    let high : nat_le (done + 1 + i) (done + length nodes) ≡ true = le-leb (done + 1 + i) (done + length nodes) (omega (arith, h)) in
    let place : (done + 1 + i) - (done + 1) ≡ i = omega arith in
    rw (some, low, high, place) refl

pub names : (n done : ℕ) (nodes : List ℕ) (p : ℕ) → Names n done nodes p
names n done nodes p = by_zero (p == 0) refl where
  by_zero : (b : Bool) → (p == 0) ≡ b → Names n done nodes p
  by_zero true e = Itself (eqb-true p 0 e) (rw e refl)
  by_zero false e = by_range (nat_lt done p && nat_le p (done + length nodes)) refl where
    by_range : (c : Bool) → (nat_lt done p && nat_le p (done + length nodes)) ≡ c → Names n done nodes p
    by_range true f =
        let both = and_parts (nat_lt done p) (nat_le p (done + length nodes)) f in
        let low : done < p = ltb-true done p both.0 in
        let high : p ≤ done + length nodes = leb-true p (done + length nodes) both.1 in
        Member (p - (done + 1)) (omega (arith, low, high)) (omega (arith, low)) (rw (e, f) refl)
    by_range false f = Nobody (rw (e, f) refl)

-- each of these numbers is at most their sum
in_sum : (nodes : List ℕ) (i : ℕ) → i < length nodes → slice_index_or nodes i 0 ≤ sum nodes
in_sum nodes i h = get_or-le-sum_by (λ (m : ℕ). m) nodes i 0 h

-- different numbers name different nodes
pub named_once : (n done : ℕ) (nodes : List ℕ) → IsRoster n nodes → (p q : ℕ) → named_node n done nodes p ≡ named_node n done nodes q → p ≡ q
named_once n done nodes r p q e = by_both (names n done nodes p) (names n done nodes q) where
  by_both : Names n done nodes p → Names n done nodes q → p ≡ q
  by_both (Itself a f) (Itself b g) = a ∙ sym b
  by_both (Itself a f) (Member j h b g) = absurd (r.apart j h (sym g ∙ sym e ∙ f))
  by_both (Itself a f) (Nobody g) = let same : n ≡ q + (n + sum nodes + 1) = sym f ∙ e ∙ g in absurd (omega (arith, same))
  by_both (Member i h a f) (Itself b g) = absurd (r.apart i h (sym f ∙ e ∙ g))
  by_both (Member i h a f) (Member j k b g) = a ∙ ap (λ z. done + 1 + z) (r.once i j h k (sym f ∙ e ∙ g)) ∙ sym b
  by_both (Member i h a f) (Nobody g) = let low = in_sum nodes i h in let same : slice_index_or nodes i 0 ≡ q + (n + sum nodes + 1) = sym f ∙ e ∙ g in
      absurd (omega (arith, low, same))
  by_both (Nobody f) (Itself b g) = let same : n ≡ p + (n + sum nodes + 1) = sym g ∙ sym e ∙ f in absurd (omega (arith, same))
  by_both (Nobody f) (Member j k b g) = let low = in_sum nodes j k in let same : slice_index_or nodes j 0 ≡ p + (n + sum nodes + 1) = sym g ∙ sym e ∙
      f in absurd (omega (arith, low, same))
  by_both (Nobody f) (Nobody g) = let same : p + (n + sum nodes + 1) ≡ q + (n + sum nodes + 1) = sym f ∙ e ∙ g in omega (arith, same)

-- so numbers are compared as their nodes are
pub compared : (n done : ℕ) (nodes : List ℕ) → IsRoster n nodes → (p q : ℕ) → (named_node n done nodes p == named_node n done nodes q) ≡ (p == q)
compared n done nodes r p q = by_case (p == q) refl where
  by_case : (b : Bool) → (p == q) ≡ b → (named_node n done nodes p == named_node n done nodes q) ≡ b
  by_case true e = eq-eqb (named_node n done nodes p) (named_node n done nodes q) (ap (named_node n done nodes) (eqb-true p q e))
  by_case false e = ne_eqb (named_node n done nodes p) (named_node n done nodes q) (λ f. eqb-false p q e (named_once n done nodes r p q f))

-- the peers of a port, in order, name the nodes
pub range_named : (f : PeerId → PeerId) (k : ℕ) (nodes : List ℕ) → ((i : ℕ) → i < length nodes → f (peer_of (k + i)) ≡ peer_of (slice_index_or nodes i 0)) →
    map f (map peer_of (range_with_len k (length nodes))) ≡ map peer_of nodes
range_named f k [] e = refl
range_named f k (m ∷ nodes) e =
    ap (λ h. h ∷ map f (map peer_of (range_with_len (k + 1) (length nodes)))) (ap (λ j. f (peer_of j)) (let a : k ≡ k + 0 = omega arith in a) ∙
    e 0 (omega arith))
    ∙ ap (λ l. peer_of m ∷ l) (range_named f (k + 1) nodes (λ i h. ap (λ j. f (peer_of j)) (let a : (k + 1) + i ≡ k + suc i = omega arith in a) ∙
    e (suc i) (omega (arith, h))))

-- numbers above 0 are all others of number 0
pub others_above : (k count : ℕ) → 0 < k → others (peer_of 0) (map peer_of (range_with_len k count)) ≡ map peer_of (range_with_len k count)
others_above k zero h = refl
others_above k (suc count) h =
    let some : (k == 0) ≡ false = ne_eqb k 0 (λ e. let bad : ⊥ = omega (arith, h, e) in bad) in
    ap (λ b. if not b then peer_of k ∷ others (peer_of 0) (map peer_of (range_with_len (k + 1) count)) else others (peer_of 0)
    (map peer_of (range_with_len (k + 1) count))) some
    ∙ ap (λ l. peer_of k ∷ l) (others_above (k + 1) count (omega arith))

-- which numbers are in a range
pub record InRange (k count p : ℕ) : Type 0 where
  pub i : ℕ
  pub few : i < count
  pub is : p ≡ k + i

pub in_range : (k count p : ℕ) → is_among (peer_of p) (map peer_of (range_with_len k count)) ≡ true → InRange k count p
in_range k zero p e = absurd (true≢false (sym e))
in_range k (suc count) p e = elim (or_cases (k == p) (is_among (peer_of p) (map peer_of (range_with_len (k + 1) count))) e) [
  | inl same ↦ record { i = 0; few = omega arith; is = (let a = eqb-true k p same in omega (arith, a)) }
  | inr there ↦ (let r = in_range (k + 1) count p there in record {
    i = suc r.i;
    few = (let a = r.few in omega (arith, a));
    is = (let a = r.is in omega (arith, a));
  })
]

pub is_in_range : (k count i : ℕ) → i < count → is_among (peer_of (k + i)) (map peer_of (range_with_len k count)) ≡ true
is_in_range k zero i h = absurd (omega (arith, h))
is_in_range k (suc count) zero h = rw (eq-eqb k (k + 0) (omega arith)) refl
is_in_range k (suc count) (suc i) h =
    or_right (k == k + suc i) (is_among (peer_of (k + suc i)) (map peer_of (range_with_len (k + 1) count)))
    (subst (λ j. is_among (peer_of j) (map peer_of (range_with_len (k + 1) count)) ≡ true) (let e : (k + 1) + i ≡ k + suc i = omega arith in
    e) (is_in_range (k + 1) count i (omega (arith, h))))

pub not_in_range : (k count p : ℕ) → ((i : ℕ) → i < count → p ≢ k + i) → is_among (peer_of p) (map peer_of (range_with_len k count)) ≡ false
not_in_range k zero p none = refl
not_in_range k (suc count) p none =
    let first : (k == p) ≡ false = ne_eqb k p (λ e. none 0 (omega arith) (omega (arith, e))) in
    let rest = not_in_range (k + 1) count p (λ i h e. none (suc i) (omega (arith, h)) (omega (arith, e))) in
    rw (first, rest) refl

-- none is none
pub none_some : {A : Type 0} {a : A} → None ≡ Some a → ⊥
none_some e = cc

-- a network of so many nodes, in ascending order
pub record GoodNet (count : ℕ) (net : List ℕ) : Type 0 where
  pub rising : IsStrictlyIncreasing net
  pub low : All (λ m. m < count) net

below_all : (count n : ℕ) → n ≤ count → All (λ m. m < count) (numbers_below n)
below_all count zero few = All-nil (λ m. m < count)
below_all count (suc n) few = All-append (λ m. m < count) (numbers_below n) (n ∷ []) (below_all count n (omega (arith, few)))
    (All-cons (λ m. m < count) n [] (omega (arith, few)) (All-nil (λ m. m < count)))

-- the networks of a header are
pub header_nets : (header : HeaderValue) → IsSetUp header → All (GoodNet (length header.nodes)) (networks header)
header_nets header is = by_nets header.nets is.nets_are where
  by_nets : (nets : List (List ℕ)) → All (IsNet (length header.nodes)) nets → All (GoodNet (length header.nodes)) (networks_among (length header.nodes) nets)
  by_nets [] all = All-cons (GoodNet (length header.nodes)) (numbers_below (length header.nodes)) [] (record {
    rising = ascending_below (length header.nodes);
    low = below_all (length header.nodes) (length header.nodes) (omega arith);
  }) (All-nil (GoodNet (length header.nodes)))
  by_nets (net ∷ rest) all = All-weaker (IsNet (length header.nodes)) (GoodNet (length header.nodes)) (λ k is. record { rising = is.ascending; low = is.known })
      (net ∷ rest) all

-- what is known of a port: its network, and the nodes that it reaches
pub record PortIs (count n r : ℕ) (nets : List (List ℕ)) : Type 0 where
  pub net : List ℕ
  pub good : GoodNet count net
  pub member : has_member n net ≡ true
  pub setup : slice_index_or (ports_on n nets) r no_port ≡ port_on n net
  pub nodes : neighbours_on n r nets ≡ others_in n net

pub length_neighbours : (n : ℕ) (nets : List (List ℕ)) → length (neighbours n nets) ≡ length (ports_on n nets)
length_neighbours n [] = refl
length_neighbours n (net ∷ rest) = by_member (has_member n net) (length_neighbours n rest) where
  by_member : (b : Bool) → length (neighbours n rest) ≡ length (ports_on n rest) →
      length (if b then others_in n net ∷ neighbours n rest else neighbours n rest) ≡ length (if b then port_on n net ∷ ports_on n rest else ports_on n rest)
  by_member true e = ap (λ k. suc k) e
  by_member false e = e

pub port_is : (count n r : ℕ) (nets : List (List ℕ)) → All (GoodNet count) nets → r < length (ports_on n nets) → PortIs count n r nets
port_is count n r [] good h = absurd (omega (arith, h))
port_is count n r (net ∷ rest) good h = by_member (has_member n net) refl r h (λ k. port_is count n k rest (All-tail (GoodNet count) net rest good)) where
  by_member : (b : Bool) → has_member n net ≡ b → (r : ℕ) → r < length (if b then port_on n net ∷ ports_on n rest else ports_on n rest) →
      ((k : ℕ) → k < length (ports_on n rest) → PortIs count n k rest) → PortIs count n r (net ∷ rest)
  by_member true m zero h more = record { net = net; good = All-head (GoodNet count) net rest good; member = m; setup = rw m refl; nodes = rw m refl }
  by_member true m (suc k) h more = let p = more k (omega (arith, h)) in record {
    net = p.net;
    good = p.good;
    member = p.member;
    setup = rw m p.setup;
    nodes = rw m p.nodes;
  }
  by_member false m k h more = let p = more k h in record { net = p.net; good = p.good; member = p.member; setup = rw m p.setup; nodes = rw m p.nodes }

-- different places of a rising list have different numbers
rising_once : (xs : List ℕ) → IsStrictlyIncreasing xs → (i j : ℕ) → i < length xs → j < length xs → slice_index_or xs i 0 ≡ slice_index_or xs j 0 → i ≡ j
rising_once xs up i j h k e = elim (cases_lt i j) [
  | inl lt ↦ (let less = (Rise_numbers xs up).at i j 0 lt k in absurd (omega (arith, less, e)))
  | inr ge ↦ elim (cases_lt j i) [
    | inl lt ↦ (let less = (Rise_numbers xs up).at j i 0 lt h in absurd (omega (arith, less, e)))
    | inr le ↦ omega (arith, ge, le)
  ]
]

passes_apart : (n m : ℕ) → not (m == n) ≡ true → m ≢ n
passes_apart n m e same = true≢false (sym e ∙ ap not (eq-eqb m n same))

-- the others of a network are a roster
pub roster : (count n : ℕ) (net : List ℕ) → GoodNet count net → IsRoster n (others_in n net)
roster count n net good = record {
  apart = λ i h. passes_apart n (slice_index_or (others_in n net) i 0) (All-get_or (λ m. not (m == n) ≡
      true) (others_in n net) i 0 h (filter_passes (λ m. not (m == n)) net));
  once = rising_once (others_in n net) (IsStrictlyIncreasing-filter (λ m. not (m == n)) net good.rising);
}

-- the others among the peers of a port are the others of its network
pub others_on : (n : ℕ) (net : List ℕ) → others (peer_of n) (peers_on net) ≡ map peer_of (others_in n net)
others_on n [] = refl
others_on n (m ∷ rest) = by_case (m == n) (others_on n rest) where
  by_case : (b : Bool) → others (peer_of n) (peers_on rest) ≡ map peer_of (others_in n rest) →
      (if not b then peer_of m ∷ others (peer_of n) (peers_on rest) else others (peer_of n) (peers_on rest)) ≡
      map peer_of (if not b then m ∷ others_in n rest else others_in n rest)
  by_case true e = e
  by_case false e = ap (λ l. peer_of m ∷ l) e

-- a list without this node has no others than all
none_left : (n : ℕ) (xs : List ℕ) → ((i : ℕ) → i < length xs → slice_index_or xs i 0 ≢ n) → length (others_in n xs) ≡ length xs
none_left n [] none = refl
none_left n (m ∷ rest) none =
    let off : (m == n) ≡ false = ne_eqb m n (none 0 (omega arith)) in
    ap (λ b. length (if not b then m ∷ others_in n rest else others_in n rest)) off ∙
    ap (λ k. suc k) (none_left n rest (λ i h. none (suc i) (omega (arith, h))))

-- a node stands in its network once
pub one_fewer : (n : ℕ) (net : List ℕ) → Rise (λ (m : ℕ). m) net → has_member n net ≡ true → suc (length (others_in n net)) ≡ length net
one_fewer n [] up m = absurd (true≢false (sym m))
one_fewer n (k ∷ rest) up m = by_case (k == n) refl (or_cases (k == n) (has_member n rest) m) (λ h. one_fewer n rest (Rise_rest k rest up) h) where
  by_case : (b : Bool) → (k == n) ≡ b → ((k == n) ≡ true) ⊎ (has_member n rest ≡ true) → (has_member n rest ≡ true → suc (length (others_in n rest)) ≡
      length rest) → suc (length (if not b then k ∷ others_in n rest else others_in n rest)) ≡ suc (length rest)
  by_case true e where_ more = ap (λ l. suc l) (none_left n rest (λ i h same. let less = up.at 0 (suc i) 0 (omega arith) (omega (arith, h)) in
      let first = eqb-true k n e in omega (arith, less, same, first)))
  by_case false e (inl same) more = absurd (true≢false (sym same ∙ e))
  by_case false e (inr there) more = ap (λ l. suc l) (more there)

-- where a node stands among others
pub record PlaceIs (m : ℕ) (nodes : List ℕ) : Type 0 where
  pub few : place_in m nodes < length nodes
  pub is : slice_index_or nodes (place_in m nodes) 0 ≡ m

pub place_is : (m : ℕ) (nodes : List ℕ) → has_member m nodes ≡ true → PlaceIs m nodes
place_is m [] e = absurd (true≢false (sym e))
place_is m (n ∷ rest) e = by_case (n == m) refl (or_cases (n == m) (has_member m rest) e) (place_is m rest) where
  by_case : (b : Bool) → (n == m) ≡ b → ((n == m) ≡ true) ⊎ (has_member m rest ≡ true) → (has_member m rest ≡ true → PlaceIs m rest) → PlaceIs m (n ∷ rest)
  by_case true f o more = record { few = rw f (omega arith); is = rw f (eqb-true n m f) }
  by_case false f (inl same) more = absurd (true≢false (sym same ∙ f))
  by_case false f (inr there) more =
      let p = more there in
      record { few = (let a = p.few in rw f (omega (arith, a))); is = rw f p.is }

-- which network a port is on, and whom it reaches there; ports are counted from p, and networks from i
pub record NodesAt (n r p i : ℕ) (nets : List (List ℕ)) : Type 0 where
  pub j : ℕ
  pub network : network_from n (p + r) p i nets ≡ Some (i + j)
  pub nodes : neighbours_on n r nets ≡ others_in n (slice_index_or nets j [])

pub nodes_at : (n r p i : ℕ) (nets : List (List ℕ)) → r < length (ports_on n nets) → NodesAt n r p i nets
nodes_at n r p i [] h = absurd (omega (arith, h))
nodes_at n r p i (net ∷ rest) h = by_member (λ k. nodes_at n k (p + 1) (i + 1) rest) (λ k. nodes_at n k p (i + 1) rest) (has_member n net) refl r h where
  by_member : ((k : ℕ) → k < length (ports_on n rest) → NodesAt n k (p + 1) (i + 1) rest) →
      ((k : ℕ) → k < length (ports_on n rest) → NodesAt n k p (i + 1) rest) → (b : Bool) → has_member n net ≡ b → (r : ℕ) →
      r < length (if b then port_on n net ∷ ports_on n rest else ports_on n rest) → NodesAt n r p i (net ∷ rest)
  by_member more past true m zero h =
      let first : (p == p + 0) ≡ true = eq-eqb p (p + 0) (omega arith) in
      record { j = 0; network = rw (m, first) (ap (λ k. Some k) (let e : i ≡ i + 0 = omega arith in e)); nodes = rw m refl }
  by_member more past true m (suc k) h =
      let s = more k (omega (arith, h)) in
      let other : (p == p + suc k) ≡ false = ne_eqb p (p + suc k) (λ e. let bad : ⊥ = omega (arith, e) in bad) in
      record {
        j = suc s.j;
        network = rw (m, other) (ap (λ z. network_from n z (p + 1) (i + 1) rest) (let e : p + suc k ≡ (p + 1) + k = omega arith in e) ∙ s.network ∙
            ap (λ z. Some z) (let e : (i + 1) + s.j ≡ i + suc s.j = omega arith in e));
        nodes = rw m s.nodes;
      }
  by_member more past false m k h =
      let s = past k h in
      record {
        j = suc s.j;
        network = rw m (s.network ∙ ap (λ z. Some z) (let e : (i + 1) + s.j ≡ i + suc s.j = omega arith in e));
        nodes = rw m s.nodes;
      }

-- another member of a network is one of the others
pub member_others : (n m : ℕ) (net : List ℕ) → m ≢ n → has_member m net ≡ true → has_member m (others_in n net) ≡ true
member_others n m [] off e = e
member_others n m (k ∷ rest) off e = by_case (k == n) refl (or_cases (k == m) (has_member m rest) e) (member_others n m rest off) where
  by_case : (b : Bool) → (k == n) ≡ b → ((k == m) ≡ true) ⊎ (has_member m rest ≡ true) → (has_member m rest ≡ true → has_member m (others_in n rest) ≡ true) →
      has_member m (if not b then k ∷ others_in n rest else others_in n rest) ≡ true
  by_case true f (inl same) more = absurd (off (sym (eqb-true k m same) ∙ eqb-true k n f))
  by_case true f (inr there) more = more there
  by_case false f (inl same) more = rw same refl
  by_case false f (inr there) more = or_right (k == m) (has_member m (others_in n rest)) (more there)

-- whoever posts to a node on a network is one of those that the node reaches by the port at which the post comes
pub poster_near : (nets : List (List ℕ)) (from : ℕ) (port : Port) (to : Place) (a : Address) → address_of nets from port to ≡ Some a → a.node ≢ from →
    has_member from (neighbours_on a.node a.port.0 nets) ≡ true
poster_near nets from port Stranger a e off = absurd (none_some e)
poster_near nets from port (Peer p) a e off = by_network (network_at from port nets) refl e where
  by_port : (k : ℕ) → network_at from port nets ≡ Some k → (o : Option ℕ) → port_from p.0 k 0 0 nets ≡ o → address_at p.0 o ≡ Some a →
      has_member from (neighbours_on a.node a.port.0 nets) ≡ true
  by_port k f None g e = absurd (none_some e)
  by_port k f (Some q) g e =
      let sender = on_network from port.0 k 0 0 nets f in
      let taker = on_port_of p.0 q k 0 0 nets g in
      let few = taker.few in
      let at = nodes_at p.0 q 0 0 nets (omega (arith, few)) in
      let same : at.j ≡ sender.j =
      (let one : 0 + at.j ≡ k = some_same (sym at.network ∙ ap (λ z. network_from p.0 z 0 0 nets) (let e : 0 + q ≡ q = omega arith in e) ∙ taker.network) in
      let two = sender.place in omega (arith, one, two)) in
      let here : Address = record { node = p.0; port = record { 0 = q } } in
      let is : here ≡ a = some_same e in
      let apart : from ≢ p.0 = λ z. off (sym (ap (λ (b : Address). b.node) is) ∙ sym z) in
      subst (λ (b : Address). has_member from (neighbours_on b.node b.port.0 nets) ≡ true) is
      (subst (λ l. has_member from l ≡ true) (sym at.nodes) (member_others p.0 from (slice_index_or nets at.j []) apart
      (subst (λ j. has_member from (slice_index_or nets j []) ≡ true) (sym same) sender.member)))

  by_network : (o : Option ℕ) → network_at from port nets ≡ o → address_at p.0 (port_at p.0 o nets) ≡ Some a →
      has_member from (neighbours_on a.node a.port.0 nets) ≡ true
  by_network None f e = absurd (none_some e)
  by_network (Some k) f e = by_port k f (port_from p.0 k 0 0 nets) refl e
