-- Networks: each port of a node is on its own, each node is a member of its networks, and a datagram that reaches a port is on that port's network.
use Rattle.std.proofs.Common.{sym, ap, subst, arith, ◌∙◌, eqb-true, eq-eqb, ◌≡◌, ℕ, zero, suc, ◌+◌, ◌<◌, ◌≤◌, ◌==◌, ◌||◌, Bool, true, false, if◌then◌else◌}
use Rattle.std.proofs.Common.{List, [], ◌∷◌, length, Option, None, Some, slice_index_or, refl}
use Rattle.std.proofs.{lemmas.Bool.ne_eqb, lemmas.List.Sums.sum_by-append}
use Rattle.tsp_rules.specs.{Values.Place, Values.Peer, Values.Stranger, Values.Port, NodeRows.PortSetup, NodeRows.no_port}
use Rattle.tsp_base.specs.Words.{HeaderValue, IsHeader, has_member, nets_with, is_among, peer_of}
use Rattle.tsp_promises.{proofs.witness.Histories.alone, specs.Setting.Alone}
use Rattle.tsp_run.specs.Networks.{numbers_below, networks, networks_among, peers_on, port_on, ports_on, network_from, network_at, port_from, port_at}
use Rattle.tsp_run.specs.Networks.{address_at, address_of, room}
use Rattle.tsp_run.specs.{Setting.members_of, Setting.named_or, Setting.network_of, declared.address.Address.Address}

pub some_same : {A : Type 0} {a b : A} → Some a ≡ Some b → a ≡ b
some_same e = cc

not_equal : (a b : ℕ) → a + 1 ≤ b → (a == b) ≡ false
not_equal a b h = ne_eqb a b (λ e. absurd (omega (arith, e, h)))

-- a network that port q has, and by which port the node is on it
pub record OnNetwork (n q k p i : ℕ) (nets : List (List ℕ)) : Type 0 where
  pub later : p ≤ q
  pub few : q < p + length (ports_on n nets)
  pub port : port_from n k p i nets ≡ Some q
  pub network : network_from n q p i nets ≡ Some k
  pub j : ℕ
  pub place : k ≡ i + j
  pub member : has_member n (slice_index_or nets j []) ≡ true

-- one network more before
on_more : (n q k p i : ℕ) (net : List ℕ) (rest : List (List ℕ)) → has_member n net ≡ true → OnNetwork n q k (p + 1) (i + 1) rest →
    OnNetwork n q k p i (net ∷ rest)
on_more n q k p i net rest m h =
    let here : (i == k) ≡ false = not_equal i k (let a = h.place in omega (arith, a)) in
    let first : (p == q) ≡ false = not_equal p q h.later in
    record {
      later = (let a = h.later in omega (arith, a));
      few = (let a = h.few in rw m (omega (arith, a)));
      port = rw (here, m) h.port;
      network = rw (m, first) h.network;
      j = suc h.j;
      place = (let a = h.place in omega (arith, a));
      member = h.member;
    }

on_past : (n q k p i : ℕ) (net : List ℕ) (rest : List (List ℕ)) → has_member n net ≡ false → OnNetwork n q k p (i + 1) rest → OnNetwork n q k p i (net ∷ rest)
on_past n q k p i net rest m h =
    let here : (i == k) ≡ false = not_equal i k (let a = h.place in omega (arith, a)) in
    record {
      later = h.later;
      few = (let a = h.few in rw m a);
      port = rw (here, m) h.port;
      network = rw m h.network;
      j = suc h.j;
      place = (let a = h.place in omega (arith, a));
      member = h.member;
    }

on_first : (n p i : ℕ) (net : List ℕ) (rest : List (List ℕ)) → has_member n net ≡ true → OnNetwork n p i p i (net ∷ rest)
on_first n p i net rest m =
    let here : (i == i) ≡ true = eq-eqb i i refl in
    let first : (p == p) ≡ true = eq-eqb p p refl in
    record {
      later = omega arith;
      few = rw m (omega arith);
      port = rw (here, m) refl;
      network = rw (m, first) refl;
      j = 0;
      place = omega arith;
      member = m;
    }

-- the network of a port
pub on_network : (n q k p i : ℕ) (nets : List (List ℕ)) → network_from n q p i nets ≡ Some k → OnNetwork n q k p i nets
on_network n q k p i [] e = let bad : ⊥ = cc in absurd bad
on_network n q k p i (net ∷ rest) e = by_member (has_member n net) refl (λ f. on_network n q k (p + 1) (i + 1) rest f) (λ f. on_network n q k p (i + 1) rest f)
    e where
      by_member : (b : Bool) → has_member n net ≡ b → (network_from n q (p + 1) (i + 1) rest ≡ Some k → OnNetwork n q k (p + 1) (i + 1) rest) →
          (network_from n q p (i + 1) rest ≡ Some k → OnNetwork n q k p (i + 1) rest) →
          (if b then (if p == q then Some i else network_from n q (p + 1) (i + 1) rest) else network_from n q p (i + 1) rest) ≡ Some k →
          OnNetwork n q k p i (net ∷ rest)
      by_member true m more past e = by_port (p == q) refl e where
        by_port : (b : Bool) → (p == q) ≡ b → (if b then Some i else network_from n q (p + 1) (i + 1) rest) ≡ Some k → OnNetwork n q k p i (net ∷ rest)
        by_port true same e = subst (λ r. OnNetwork n r k p i (net ∷ rest)) (eqb-true p q same) (subst (λ r. OnNetwork n p r p i (net ∷ rest)) (some_same e)
            (on_first n p i net rest m))
        by_port false other e = on_more n q k p i net rest m (more e)
      by_member false m more past e = on_past n q k p i net rest m (past e)

-- the port of a network
pub on_port_of : (n q k p i : ℕ) (nets : List (List ℕ)) → port_from n k p i nets ≡ Some q → OnNetwork n q k p i nets
on_port_of n q k p i [] e = let bad : ⊥ = cc in absurd bad
on_port_of n q k p i (net ∷ rest) e = by_place (i == k) refl (λ f. on_port_of n q k (p + 1) (i + 1) rest f) (λ f. on_port_of n q k p (i + 1) rest f)
    (has_member n net) refl e where
      by_place : (c : Bool) → (i == k) ≡ c → (port_from n k (p + 1) (i + 1) rest ≡ Some q → OnNetwork n q k (p + 1) (i + 1) rest) →
          (port_from n k p (i + 1) rest ≡ Some q → OnNetwork n q k p (i + 1) rest) → (b : Bool) → has_member n net ≡ b →
          (if c then (if b then Some p else None) else (if b then port_from n k (p + 1) (i + 1) rest else port_from n k p (i + 1) rest)) ≡ Some q →
          OnNetwork n q k p i (net ∷ rest)
      by_place true same more past true m e = subst (λ r. OnNetwork n q r p i (net ∷ rest)) (eqb-true i k same)
          (subst (λ r. OnNetwork n r i p i (net ∷ rest)) (some_same e) (on_first n p i net rest m))
      by_place true same more past false m e = let bad : ⊥ = cc in absurd bad
      by_place false other more past true m e = on_more n q k p i net rest m (more e)
      by_place false other more past false m e = on_past n q k p i net rest m (past e)

-- how a port is set up: by its network
pub record SetUp (n r p i : ℕ) (nets : List (List ℕ)) : Type 0 where
  pub j : ℕ
  pub network : network_from n (p + r) p i nets ≡ Some (i + j)
  pub setup : slice_index_or (ports_on n nets) r no_port ≡ port_on n (slice_index_or nets j [])

pub set_up : (n r p i : ℕ) (nets : List (List ℕ)) → r < length (ports_on n nets) → SetUp n r p i nets
set_up n r p i [] h = absurd (omega (arith, h))
set_up n r p i (net ∷ rest) h = by_member (λ r. set_up n r (p + 1) (i + 1) rest) (λ r. set_up n r p (i + 1) rest) (has_member n net) refl r h where
  by_member : ((r : ℕ) → r < length (ports_on n rest) → SetUp n r (p + 1) (i + 1) rest) → ((r : ℕ) → r < length (ports_on n rest) → SetUp n r p (i + 1) rest) →
      (b : Bool) → has_member n net ≡ b → (r : ℕ) → r < length (if b then port_on n net ∷ ports_on n rest else ports_on n rest) → SetUp n r p i (net ∷ rest)
  by_member more past true m zero h =
      let first : (p == p + 0) ≡ true = eq-eqb p (p + 0) (omega arith) in
      record { j = 0; network = rw (m, first) (ap (λ k. Some k) (let e : i ≡ i + 0 = omega arith in e)); setup = rw m refl }
  by_member more past true m (suc r) h =
      let s = more r (omega (arith, h)) in
      let other : (p == p + suc r) ≡ false = not_equal p (p + suc r) (omega arith) in
      record {
        j = suc s.j;
        network = rw (m, other) (ap (λ k. network_from n k (p + 1) (i + 1) rest) (let e : p + suc r ≡ (p + 1) + r = omega arith in e) ∙ s.network ∙
            ap (λ k. Some k) (let e : (i + 1) + s.j ≡ i + suc s.j = omega arith in e));
        setup = rw m s.setup;
      }
  by_member more past false m r h =
      let s = past r h in
      record {
        j = suc s.j;
        network = rw m (s.network ∙ ap (λ k. Some k) (let e : (i + 1) + s.j ≡ i + suc s.j = omega arith in e));
        setup = rw m s.setup;
      }

-- the peers of a port are its network's members
pub is_among_peers : (n : ℕ) (net : List ℕ) → is_among (peer_of n) (peers_on net) ≡ has_member n net
is_among_peers n [] = refl
is_among_peers n (m ∷ rest) = ap (λ b. (m == n) || b) (is_among_peers n rest)

-- a node is a member of its networks
pub own_member : (nets : List (List ℕ)) (n : ℕ) (q : Port) → is_among (peer_of n) (members_of nets (network_of nets n q)) ≡ true
own_member nets n q = by_case (network_at n q nets) refl where
  by_case : (o : Option ℕ) → network_at n q nets ≡ o → is_among (peer_of n) (members_of nets (named_or (Alone n q.0) o)) ≡ true
  by_case None e = alone n
  by_case (Some k) e =
      let h = on_network n q.0 k 0 0 nets e in
      let same : h.j ≡ k = (let a = h.place in omega (arith, a)) in
      is_among_peers n (slice_index_or nets k []) ∙ subst (λ j. has_member n (slice_index_or nets j []) ≡ true) same h.member

pub port_named : (q r : Port) → q.0 ≡ r.0 → q ≡ r
port_named q r e = ap (λ k. let p : Port = record { 0 = k } in p) e

-- a node's ports are on different networks
pub ports_apart : (nets : List (List ℕ)) (n : ℕ) (q r : Port) → network_of nets n q ≡ network_of nets n r → q ≡ r
ports_apart nets n q r e = by_case (network_at n q nets) refl (network_at n r nets) refl e where
  by_case : (o : Option ℕ) → network_at n q nets ≡ o → (u : Option ℕ) → network_at n r nets ≡ u → named_or (Alone n q.0) o ≡ named_or (Alone n r.0) u → q ≡ r
  by_case None a None b e = port_named q r (cc)
  by_case (Some k) a (Some m) b e =
      let same : k ≡ m = cc in
      let first = (on_network n q.0 k 0 0 nets a).port in
      let second = (on_network n r.0 m 0 0 nets b).port in
      port_named q r (some_same (sym first ∙ (ap (λ j. port_from n j 0 0 nets) same ∙ second)))
  by_case _ a _ b e = let bad : ⊥ = cc in absurd bad

-- where a datagram goes: its addressee has a port on the network of the post
pub record GoesTo (nets : List (List ℕ)) (from : ℕ) (port : Port) (to : Place) (a : Address) : Type 0 where
  pub to_is : to ≡ Peer (peer_of a.node)
  pub net : network_of nets from port ≡ network_of nets a.node a.port
  pub has : a.port.0 < length (ports_on a.node nets)
  pub k : ℕ
  pub member : has_member a.node (slice_index_or nets k []) ≡ true

pub goes_there : (nets : List (List ℕ)) (from : ℕ) (port : Port) (to : Place) (a : Address) → address_of nets from port to ≡ Some a → GoesTo nets from port to a
goes_there nets from port Stranger a e = let bad : ⊥ = cc in absurd bad
goes_there nets from port (Peer p) a e = by_network (network_at from port nets) refl e where
  by_port : (k : ℕ) → network_at from port nets ≡ Some k → (o : Option ℕ) → port_from p.0 k 0 0 nets ≡ o → address_at p.0 o ≡ Some a →
      GoesTo nets from port (Peer p) a
  by_port k f None g e = let bad : ⊥ = cc in absurd bad
  by_port k f (Some q) g e =
      let h = on_port_of p.0 q k 0 0 nets g in
      let here : Address = record { node = p.0; port = record { 0 = q } } in
      let there : GoesTo nets from port (Peer p) here = record {
        to_is = refl;
        net = ap (λ o. named_or (Alone from port.0) o) f ∙ sym (ap (λ o. named_or (Alone p.0 q) o) h.network);
        has = (let few = h.few in omega (arith, few));
        k = h.j;
        member = h.member;
      } in
      subst (λ b. GoesTo nets from port (Peer p) b) (some_same e) there

  by_network : (o : Option ℕ) → network_at from port nets ≡ o → address_at p.0 (port_at p.0 o nets) ≡ Some a → GoesTo nets from port (Peer p) a
  by_network None f e = let bad : ⊥ = cc in absurd bad
  by_network (Some k) f e = by_port k f (port_from p.0 k 0 0 nets) refl e

-- a node has as many ports as networks
pub length_ports_on : (n : ℕ) (nets : List (List ℕ)) → length (ports_on n nets) ≡ nets_with n nets
length_ports_on n [] = refl
length_ports_on n (net ∷ rest) = by_member (has_member n net) (length_ports_on n rest) ∙
    sym (sum_by-append (λ x. if has_member n x then 1 else 0) (net ∷ []) rest) where
      by_member : (b : Bool) → length (ports_on n rest) ≡ nets_with n rest → length (if b then port_on n net ∷ ports_on n rest else ports_on n rest) ≡
          (0 + (if b then 1 else 0)) + nets_with n rest
      by_member true e = omega (arith, e)
      by_member false e = omega (arith, e)

-- at most 4
pub few_ports_of : (header : HeaderValue) → ((n : ℕ) → nets_with n header.nets ≤ 4) → (n : ℕ) → length (ports_on n (networks header)) ≤ 4
few_ports_of header all n = by_nets header.nets (all n) where
  by_nets : (nets : List (List ℕ)) → nets_with n nets ≤ 4 → length (ports_on n (networks_among (length header.nodes) nets)) ≤ 4
  by_nets [] few = by_member (has_member n (numbers_below (length header.nodes))) where
    by_member : (b : Bool) → length (if b then port_on n (numbers_below (length header.nodes)) ∷ [] else []) ≤ 4
    by_member true = omega arith
    by_member false = omega arith
  by_nets (net ∷ rest) few = let e = length_ports_on n (net ∷ rest) in omega (arith, e, few)

pub few_ports : (header : HeaderValue) → IsHeader header → (n : ℕ) → length (ports_on n (networks header)) ≤ 4
few_ports header is = few_ports_of header is.few_ports

-- no port has more peers than its node wants room for
pub peers_few : (ports : List PortSetup) (r : ℕ) → length (slice_index_or ports r no_port).peers ≤ room ports
peers_few (s ∷ rest) (suc r) = let more = peers_few rest r in omega (arith, more)
peers_few _ _ = omega arith
