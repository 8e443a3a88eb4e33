-- The node of a daemon is set up as its node in the schedule, in other names: each port has its peers' numbers to itself. What comes to a daemon
-- is what comes to its node, and what it sends is what its node posts.
use Rattle.std.proofs.Common.{sym, ap, subst, arith, le-leb, ◌∙◌, ◌≡◌, ◌≢◌, ℕ, zero, suc, ◌+◌, ◌<◌, ◌==◌, nat_le, Bool, true, false, if◌then◌else◌, List, []}
use Rattle.std.proofs.Common.{◌∷◌, length, map, None, Option, Some, slice_index_or, refl, inl, inr, true≢false, eq-eqb, take_all, ◌≤◌, take, ◌++◌, None}
use Rattle.std.proofs.Common.{slice_get}
use Rattle.std.proofs.lemmas.{Bool.lt-leb, Bool.ne_eqb, Bool.cases_lt, Bool.or_right, List.length-map, List.get_or_past, List.map-append}
use Rattle.std.proofs.lemmas.List.{Elements.All-head, Elements.All-tail, FromFn.length-map-range_with_len}
use Rattle.std.specs.List.{range_with_len}
use Rattle.tsp_base.specs.Words.{has_member, peer_of, Line, Step, is_among, others, first_port}
use Rattle.tsp_base.proofs.AscendingLemmas.{Rise_numbers}
use Rattle.tsp_gateway.specs.PortOf.{has_other_peer, port_of_from}
use Rattle.tsp_io.specs.declared.addr.Addr.{Addr}
use Rattle.tsp_rules.specs.Values.{Port, PeerId, Place, Peer, Stranger, Act, Post, Placed, Datagram}
use Rattle.tsp_rules.specs.{GateRows.GotOn, Renames.Renaming, Renames.renamed_place, Renames.Naming, Renames.Knows, Renames.renamed_act}
use Rattle.tsp_rules.specs.NodeRows.{no_port, NodePast, PortSetup, port_setup}
use Rattle.tsp_daemon.specs.{Nodes.numbered_setup, Nodes.setups_from, Nodes.daemon_config, Sessions.given_of, Sessions.port_from}
use Rattle.tsp_daemon.specs.Posts.{send_of, sends_of}
use Rattle.tsp_network.specs.Rosters.{count_below, neighbours, others_in, port_of_number, neighbours_on, renaming_on, named_node, number_for, place_in}
use Rattle.tsp_network.specs.Rosters.{sender_for, destination, send_address}
use Rattle.tsp_network.proofs.RosterLemmas.{is_in_range, not_in_range, IsRoster, compared, in_range, named_member, others_above, range_named, header_nets}
use Rattle.tsp_network.proofs.RosterLemmas.{length_neighbours, one_fewer, others_on, port_is, roster, place_is, none_some}
use Rattle.tsp_network.specs.{Events.MayCome, Kept.IsSent, Lives.addresses, Lives.Daemons, Lives.IsStarted, Networks.Sent, Networks.first_sent}
use Rattle.tsp_network.specs.{Networks.sent_by, Networks.sent_until, Networks.unsent}
use Rattle.tsp_run.proofs.NetworkLemmas.{port_named, goes_there, some_same}
use Rattle.tsp_run.specs.{Clocked.IsSetUp, Networks.networks, Networks.ports_on, Networks.address_of, declared.address.Address.Address}
use Rattle.tsp_run.specs.{Run.posted_by, Run.posts_from, Setup.node_line, Setup.past_of, declared.posted.Posted.Posted}
use Rattle.tsp_alike.specs.AlikeNodes.{AlikeConfigs, AlikeSetup, TellsApart, ComesOn, renamed_given, AllKnown, naming_of, renamed_placed}
use Rattle.tsp_codec.specs.{Canon.canon, Taken.taken_of}

-- lists of lists that are as long, each as the other's
pub data AsLong : List (List Addr) → List (List ℕ) → Type 0 where
  NoneLong : AsLong [] []
  MoreLong : {ps : List Addr} {ns : List ℕ} {pss : List (List Addr)} {nss : List (List ℕ)} → length ps ≡ length ns → AsLong pss nss →
      AsLong (ps ∷ pss) (ns ∷ nss)

-- a daemon's words name as many addresses on each port as there are neighbours
pub as_long : (at : ℕ → ℕ → Addr) (n k : ℕ) (nets : List (List ℕ)) → AsLong (addresses at n k nets) (neighbours n nets)
as_long at n k [] = NoneLong
as_long at n k (net ∷ rest) = by_member (has_member n net) (as_long at n (k + 1) rest) where
  by_member : (b : Bool) → AsLong (addresses at n (k + 1) rest) (neighbours n rest) → AsLong (if b then map (at k) (others_in n net) ∷
      addresses at n (k + 1) rest else addresses at n (k + 1) rest) (if b then others_in n net ∷ neighbours n rest else neighbours n rest)
  by_member true a = MoreLong (length-map (others_in n net) (at k)) a
  by_member false a = a

-- how many ports a daemon has
pub ports_count : (done : ℕ) {pss : List (List Addr)} {nss : List (List ℕ)} → AsLong pss nss → length (setups_from done pss) ≡ length nss
ports_count done NoneLong = refl
ports_count done (MoreLong {ps = ps} e a) = ap (λ k. suc k) (ports_count (done + length ps) a)

-- how they are set up
pub setup_at : (done r : ℕ) {pss : List (List Addr)} {nss : List (List ℕ)} → AsLong pss nss → r < length nss → slice_index_or (setups_from done pss) r no_port ≡
    numbered_setup (done + count_below r nss) (length (slice_index_or nss r []))
setup_at done r NoneLong h = absurd (omega (arith, h))
setup_at done zero (MoreLong {ps = ps} e a) h = ap (λ k. numbered_setup k (length ps)) (let same : done ≡ done + 0 = omega arith in same) ∙
    ap (λ c. numbered_setup (done + 0) c) e
setup_at done (suc r) (MoreLong {ps = ps} {ns = ns} {nss = nss} e a) h =
    setup_at (done + length ps) r a (omega (arith, h))
    ∙ ap (λ k. numbered_setup k (length (slice_index_or nss r []))) (let same : (done + length ps) + count_below r nss ≡
    done + (length ns + count_below r nss) = omega (arith, e) in same)

-- a number above 0 that isn't among these numbers is no other peer of such a port
not_other : (done count p : ℕ) → ((i : ℕ) → i < count → p ≢ done + 1 + i) → 0 < p → has_other_peer (peer_of p) (numbered_setup done count) ≡ false
not_other done count p none some =
    let zero_off : (0 == p) ≡ false = ne_eqb 0 p (λ e. let bad : ⊥ = omega (arith, some, e) in bad) in
    let off = not_in_range (done + 1) count p none in
    rw (zero_off, off) refl

is_other : (done count i : ℕ) → i < count → has_other_peer (peer_of (done + 1 + i)) (numbered_setup done count) ≡ true
is_other done count i h =
    let zero_off : (0 == (done + 1 + i)) ≡ false = ne_eqb 0 (done + 1 + i) (λ e. let bad : ⊥ = omega (arith, e) in bad) in
    let on = is_in_range (done + 1) count i h in
    rw (zero_off, on) refl

-- a daemon finds the port of a number by its segment
pub port_found : (k done r i p : ℕ) {pss : List (List Addr)} {nss : List (List ℕ)} → AsLong pss nss → r < length nss → i < length (slice_index_or nss r []) →
    p ≡ done + count_below r nss + 1 + i →
    (port_of_from k (peer_of p) (setups_from done pss)).0 ≡ k + r
port_found k done r i p NoneLong h few is = absurd (omega (arith, h))
port_found k done zero i p (MoreLong {ps = ps} {pss = pss} e a) h few is =
    let same : p ≡ done + 1 + i = omega (arith, is) in
    let on : has_other_peer (peer_of p) (numbered_setup done (length ps)) ≡ true = subst (λ z. has_other_peer (peer_of z) (numbered_setup done (length ps)) ≡
    true) (sym same) (is_other done (length ps) i (omega (arith, few, e))) in
    ap (λ b. (if b then record { 0 = k } else port_of_from (k + 1) (peer_of p) (setups_from (done + length ps) pss)).0) on ∙
    (let z : k ≡ k + 0 = omega arith in z)
port_found k done (suc r) i p (MoreLong {ps = ps} {ns = ns} {pss = pss} {nss = nss} e a) h few is =
    let off : has_other_peer (peer_of p) (numbered_setup done (length ps)) ≡ false =
    not_other done (length ps) p (λ j low same. let bad : ⊥ = omega (arith, is, e, low, same) in bad) (omega (arith, is)) in
    ap (λ b. (if b then record { 0 = k } else port_of_from (k + 1) (peer_of p) (setups_from (done + length ps) pss)).0) off
    ∙ port_found (k + 1) (done + length ps) r i p a (omega (arith, h)) few (omega (arith, is, e))
    ∙ (let z : (k + 1) + r ≡ k + suc r = omega arith in z)

-- number 0, a daemon's own, is no other peer of any port: it is taken on the first
pub port_own : (k done : ℕ) (pss : List (List Addr)) → (port_of_from k (peer_of 0) (setups_from done pss)).0 ≡ 0
port_own k done [] = refl
port_own k done (ps ∷ pss) = port_own (k + 1) (done + length ps) pss

-- the same of the number of a send
pub port_with_found : (done q r i p : ℕ) (nss : List (List ℕ)) → r < length nss → i < length (slice_index_or nss r []) → p ≡ done + count_below r nss + 1 + i →
    port_of_number p done q nss ≡ Some (record { 0 = q + r })
port_with_found done q r i p [] h few is = absurd (omega (arith, h))
port_with_found done q zero i p (ns ∷ nss) h few is =
    let here : nat_le p (done + length ns) ≡ true = le-leb p (done + length ns) (omega (arith, is, few)) in
    ap (λ b. if b then Some (record { 0 = q }) else port_of_number p (done + length ns) (q + 1) nss) here ∙
    ap (λ k. Some (let z : Port = record { 0 = k } in z)) (let z : q ≡ q + 0 = omega arith in z)
port_with_found done q (suc r) i p (ns ∷ nss) h few is =
    let past : nat_le p (done + length ns) ≡ false = lt-leb p (done + length ns) (omega (arith, is)) in
    ap (λ b. if b then Some (record { 0 = q }) else port_of_number p (done + length ns) (q + 1) nss) past
    ∙ port_with_found (done + length ns) (q + 1) r i p nss (omega (arith, h)) few (omega (arith, is))
    ∙ ap (λ k. Some (let z : Port = record { 0 = k } in z)) (let z : (q + 1) + r ≡ q + suc r = omega arith in z)

-- how the ports of a daemon's node are set up
abbrev pub daemon_ports : Daemons → ℕ → List PortSetup
daemon_ports d n = setups_from 0 (addresses d.address n 0 (networks d.header))

-- equal places have equal numbers
pub place_of : {p q : PeerId} → Peer p ≡ Peer q → p.0 ≡ q.0
place_of e = cc

-- a send is a post's, and goes where it goes, which isn't back to its node
pub record Matches (d : Daemons) (s : Sent) (p : Posted) : Type 0 where
  pub sent : IsSent d s p
  pub goes : destination (networks d.header) s.from s.tried.0 ≡ address_of (networks d.header) p.from p.port p.to
  pub away : (a : Address) → address_of (networks d.header) p.from p.port p.to ≡ Some a → a.node ≢ p.from

-- sends and posts, one for the other
pub data AllMatch (d : Daemons) : List Sent → List Posted → Type 0 where
  NoneMatch : AllMatch d [] []
  MoreMatch : {s : Sent} {p : Posted} {ss : List Sent} {ps : List Posted} → Matches d s p → AllMatch d ss ps → AllMatch d (s ∷ ss) (p ∷ ps)

pub match_append : (d : Daemons) {ss : List Sent} {ps : List Posted} {ts : List Sent} {qs : List Posted} → AllMatch d ss ps → AllMatch d ts qs →
    AllMatch d (ss ++ ts) (ps ++ qs)
match_append d NoneMatch b = b
match_append d (MoreMatch m a) b = MoreMatch m (match_append d a b)

pub match_length : (d : Daemons) {ss : List Sent} {ps : List Posted} → AllMatch d ss ps → length ss ≡ length ps
match_length d NoneMatch = refl
match_length d (MoreMatch m a) = ap (λ k. suc k) (match_length d a)

-- a send that wasn't tried matches the same post
unsent_match : (d : Daemons) {s : Sent} {p : Posted} → Matches d s p → Matches d (unsent s) p
unsent_match d m = record { sent = record { from = m.sent.from; to = m.sent.to; octets = m.sent.octets }; goes = m.goes; away = m.away }

none_match : (d : Daemons) {ss : List Sent} {ps : List Posted} → AllMatch d ss ps → AllMatch d (map unsent ss) ps
none_match d NoneMatch = NoneMatch
none_match d (MoreMatch m a) = MoreMatch (unsent_match d m) (none_match d a)

first_match : (d : Daemons) (n : ℕ) {ss : List Sent} {ps : List Posted} → AllMatch d ss ps → AllMatch d (first_sent n ss) ps
first_match d zero a = none_match d a
first_match d (suc n) NoneMatch = NoneMatch
first_match d (suc n) (MoreMatch m a) = MoreMatch m (first_match d n a)

-- so do all of a turn in which a daemon ended
pub until_match : (d : Daemons) (o : Option ℕ) {ss : List Sent} {ps : List Posted} → AllMatch d ss ps → AllMatch d (sent_until o ss) ps
until_match d None a = a
until_match d (Some n) a = first_match d n a

-- the post of a send
pub record MatchedAt (d : Daemons) (s : Sent) (ps : List Posted) (k : ℕ) : Type 0 where
  pub post : Posted
  pub there : slice_get ps k ≡ Some post
  pub few : k < length ps
  pub matches : Matches d s post

pub match_at : (d : Daemons) {ss : List Sent} {ps : List Posted} → AllMatch d ss ps → (k : ℕ) (s : Sent) → slice_get ss k ≡ Some s → MatchedAt d s ps k
match_at d NoneMatch k s e = let bad : ⊥ = cc in absurd bad
match_at d (MoreMatch {p = p} m a) zero s e = record { post = p; there = refl; few = omega arith; matches = subst (λ z. Matches d z p) (some_same e) m }
match_at d (MoreMatch m a) (suc k) s e = let r = match_at d a k s e in record {
  post = r.post;
  there = r.there;
  few = (let f = r.few in omega (arith, f));
  matches = r.matches;
}

module _ (d : Daemons) (is : IsSetUp d.header) (n : ℕ) where
  abbrev nets : List (List ℕ)
  nets = networks d.header

  long : AsLong (addresses d.address n 0 nets) (neighbours n nets)
  long = as_long d.address n 0 nets

  -- a daemon has as many ports as its node
  pub same_ports : length (ports_on n nets) ≡ length (daemon_ports d n)
  same_ports = sym (length_neighbours n nets) ∙ sym (ports_count 0 long)

  pub is_roster : (q : ℕ) → IsRoster n (neighbours_on n q nets)
  is_roster q = elim (cases_lt q (length (ports_on n nets))) [
    | inl has ↦ (let p = port_is (length d.header.nodes) n q nets (header_nets d.header is) has in
        subst (IsRoster n) (sym p.nodes) (roster (length d.header.nodes) n p.net p.good))
    | inr past ↦ (let all = length_neighbours n nets in
        let none : neighbours_on n q nets ≡ [] = get_or_past (neighbours n nets) q [] (omega (arith, past, all)) in
        subst (IsRoster n) (sym none) (record { apart = λ i h. absurd (omega (arith, h)); once = λ i j h k e. absurd (omega (arith, h)) }))
  ]

  -- different numbers name different nodes
  pub tells_apart : (origin : ℕ) (q : Port) → TellsApart (renaming_on nets n origin q)
  tells_apart origin q p r = compared n (count_below q.0 (neighbours n nets)) (neighbours_on n q.0 nets) (is_roster q.0) p.0 r.0

  -- each port of the daemon
  pub daemon_port : (q : ℕ) → q < length (ports_on n nets) → slice_index_or (daemon_ports d n) q no_port ≡
      numbered_setup (count_below q (neighbours n nets)) (length (neighbours_on n q nets))
  daemon_port q has =
      let all = length_neighbours n nets in
      setup_at 0 q long (omega (arith, has, all)) ∙ ap (λ k. numbered_setup k (length (neighbours_on n q nets)))
      (let e : 0 + count_below q (neighbours n nets) ≡ count_below q (neighbours n nets) = omega arith in e)

  alike_port : (origin : ℕ) (q : Port) → q.0 < length (ports_on n nets) → AlikeSetup (renaming_on nets n origin q)
      (numbered_setup (count_below q.0 (neighbours n nets)) (length (neighbours_on n q.0 nets))) (slice_index_or (ports_on n nets) q.0 no_port)
  alike_port origin q has =
      let p = port_is (length d.header.nodes) n q.0 nets (header_nets d.header is) has in
      let done : ℕ = count_below q.0 (neighbours n nets) in
      let nodes : List ℕ = neighbours_on n q.0 nets in
      let r : Renaming = renaming_on nets n origin q in
      subst (λ s. AlikeSetup r (numbered_setup done (length nodes)) s) (sym p.setup) (record {
        own = refl;
        others_are = others_on n p.net ∙ ap (map peer_of) (sym p.nodes) ∙ sym (range_named r.peer (done + 1) nodes
            (λ i h. ap peer_of (named_member n done nodes i h))) ∙ ap (map r.peer) (sym (others_above (done + 1) (length nodes) (omega arith)));
        count = (let one = length-map p.net peer_of in let two = length-map-range_with_len peer_of (done + 1) (length nodes) in
            let three = one_fewer n p.net (Rise_numbers p.net p.good.rising) p.member in let four : length nodes ≡ length (others_in n p.net) =
            ap (λ l. length l) p.nodes in omega (arith, one, two, three, four));
      })

  -- both are set up alike
  pub configs_alike : IsStarted d n → (origin : ℕ) (step : Step) (h : List Line) → step.node ≡ n → (p : NodePast) → p.name ≡ (daemon_config (d.words n)).name →
      p.may ≡ (daemon_config (d.words n)).may → p.strict ≡ (daemon_config (d.words n)).strict → p.ports ≡ daemon_ports d n →
      AlikeConfigs (renaming_on nets n origin) origin p (past_of d.header step h)
  configs_alike s origin step h node p name may strict ports =
      let count : length p.ports ≡ length (ports_on n nets) = ap (λ (l : List PortSetup). length l) ports ∙ sym same_ports in
      record {
        name = ap (λ k. (node_line d.header k).name) node ∙ sym s.name ∙ sym name;
        may = ap (λ k. (node_line d.header k).may) node ∙ sym s.may ∙ sym may;
        strict = λ e. sym (s.strict (sym may ∙ e)) ∙ sym strict;
        shifts = λ q. refl;
        ports = ap (λ k. length (ports_on k nets)) node ∙ sym count;
        setups = λ q has.
            let there : q.0 < length (ports_on n nets) = omega (arith, has, count) in
            let r : Renaming = renaming_on nets n origin q in
            subst (λ k. AlikeSetup r (port_setup q p) (slice_index_or (ports_on k nets) q.0 no_port)) (sym node)
            (subst (λ (l : List PortSetup). AlikeSetup r (slice_index_or l q.0 no_port) (slice_index_or (ports_on n nets) q.0 no_port)) (sym ports)
            (subst (λ (k : PortSetup). AlikeSetup r k (slice_index_or (ports_on n nets) q.0 no_port)) (sym (daemon_port q.0 there))
            (alike_port origin q there)));
      }

  -- the other peers of a port have the numbers of its segment
  pub record Segment (q num : ℕ) : Type 0 where
    pub has : q < length (ports_on n nets)
    pub i : ℕ
    pub few : i < length (neighbours_on n q nets)
    pub number : num ≡ count_below q (neighbours n nets) + 1 + i

  pub segment : (q num : ℕ) → is_among (peer_of num) (others (slice_index_or (daemon_ports d n) q no_port).own
      (slice_index_or (daemon_ports d n) q no_port).peers) ≡ true → Segment q num
  segment q num e = elim (cases_lt q (length (ports_on n nets))) [
    | inl has ↦ (let known : is_among (peer_of num) (map peer_of (range_with_len (count_below q (neighbours n nets) + 1) (length (neighbours_on n q nets)))) ≡
        true =
        subst (λ l. is_among (peer_of num) l ≡ true) (others_above (count_below q (neighbours n nets) + 1) (length (neighbours_on n q nets)) (omega arith))
        (subst (λ (s : PortSetup). is_among (peer_of num) (others s.own s.peers) ≡ true) (daemon_port q has) e) in
        let r = in_range (count_below q (neighbours n nets) + 1) (length (neighbours_on n q nets)) num known in
        record { has = has; i = r.i; few = r.few; number = r.is })
    | inr past ↦ (let all = same_ports in
        let none : slice_index_or (daemon_ports d n) q no_port ≡ no_port = get_or_past (daemon_ports d n) q no_port (omega (arith, past, all)) in
        absurd (true≢false (sym (subst (λ (s : PortSetup). is_among (peer_of num) (others s.own s.peers) ≡ true) none e))))
  ]

  -- a number by which a daemon knows a sender: the daemon finds the port, the number is a peer's there, and it names the sender
  pub record Found (q : Port) (m num : ℕ) : Type 0 where
    pub port : (port_of_from 0 (peer_of num) (daemon_ports d n)).0 ≡ q.0
    pub among : is_among (peer_of num) (slice_index_or (daemon_ports d n) q.0 no_port).peers ≡ true
    pub names : named_node n (count_below q.0 (neighbours n nets)) (neighbours_on n q.0 nets) num ≡ m

  -- its own number
  found_own : (q : Port) → q.0 ≡ 0 → q.0 < length (ports_on n nets) → Found q n 0
  found_own q first has = record {
    port = port_own 0 0 (addresses d.address n 0 nets) ∙ sym first;
    among = subst (λ (s : PortSetup). is_among (peer_of 0) s.peers ≡ true) (sym (daemon_port q.0 has)) refl;
    names = refl;
  }

  -- that of a neighbour
  found_neighbour : (q : Port) (m : ℕ) → has_member m (neighbours_on n q.0 nets) ≡ true → q.0 < length (ports_on n nets) → Found q m (number_for n q.0 m nets)
  found_neighbour q m member has =
      let nodes : List ℕ = neighbours_on n q.0 nets in
      let done : ℕ = count_below q.0 (neighbours n nets) in
      let p = place_is m nodes member in
      let i : ℕ = place_in m nodes in
      let few = p.few in
      let all = length_neighbours n nets in
      let other : (m == n) ≡ false = ne_eqb m n (λ e. (is_roster q.0).apart i p.few (p.is ∙ e)) in
      let number : number_for n q.0 m nets ≡ done + 1 + i = ap (λ b. if b then 0 else done + 1 + i) other in
      record {
        port = ap (λ k. (port_of_from 0 (peer_of k) (daemon_ports d n)).0) number ∙
            port_found 0 0 q.0 i (done + 1 + i) (as_long d.address n 0 nets) (omega (arith, has, all)) p.few (omega arith) ∙
            (let e : 0 + q.0 ≡ q.0 = omega arith in e);
        among = subst (λ (s : PortSetup). is_among (peer_of (number_for n q.0 m nets)) s.peers ≡ true) (sym (daemon_port q.0 has))
            (or_right (0 == number_for n q.0 m nets) (is_among (peer_of (number_for n q.0 m nets)) (map peer_of (range_with_len (done + 1) (length nodes))))
            (subst (λ k. is_among (peer_of k) (map peer_of (range_with_len (done + 1) (length nodes))) ≡
            true) (sym number) (is_in_range (done + 1) (length nodes) i few)));
        names = ap (named_node n done nodes) number ∙ named_member n done nodes i few ∙ p.is;
      }

  found : (q : Port) (m : PeerId) → MayCome nets n q (Peer m) → q.0 < length (ports_on n nets) → Found q m.0 (number_for n q.0 m.0 nets)
  found q m (inl own) has =
      let number : number_for n q.0 m.0 nets ≡ 0 = ap (λ b. if b then 0 else count_below q.0 (neighbours n nets) + 1 + place_in m.0 (neighbours_on n q.0 nets))
      (eq-eqb m.0 n own.0) in
      subst (λ k. Found q k (number_for n q.0 m.0 nets)) (sym own.0) (subst (λ k. Found q n k) (sym number) (found_own q own.1 has))
  found q m (inr member) has = found_neighbour q m.0 member has

  -- so a daemon is given what its node is
  pub record ComesAs (origin : ℕ) (q : Port) (from : Place) (octets : List ℕ) (past : NodePast) : Type 0 where
    pub same : renamed_given (renaming_on nets n origin) (given_of past.ports (Some (sender_for nets n q from, octets))) ≡ GotOn q from (taken_of octets)
    pub comes : ComesOn past (given_of past.ports (Some (sender_for nets n q from, octets)))

  by_port : (origin : ℕ) (q r : Port) (from place : Place) (octets : List ℕ) → r ≡ q → renamed_place (renaming_on nets n origin q) place ≡ from →
      length octets ≤ 512 →
      renamed_given (renaming_on nets n origin) (GotOn r place (taken_of (take 512 octets))) ≡ GotOn q from (taken_of octets)
  by_port origin q r from place octets port names few =
      ap (λ z. renamed_given (renaming_on nets n origin) (GotOn z place (taken_of (take 512 octets)))) port
      ∙ ap (λ z. GotOn q z (taken_of (take 512 octets))) names ∙ ap (λ z. GotOn q from (taken_of z)) (take_all 512 octets few)

  count : (past : NodePast) → past.ports ≡ daemon_ports d n → length past.ports ≡ length (ports_on n nets)
  count past ports = ap (λ (l : List PortSetup). length l) ports ∙ sym (same_ports)

  pub comes_as : (origin : ℕ) (q : Port) (from : Place) (octets : List ℕ) (past : NodePast) → past.ports ≡ daemon_ports d n → MayCome nets n q from →
      q.0 < length (ports_on n nets) → length octets ≤ 512 → ComesAs origin q from octets past
  comes_as origin q Stranger octets past ports may has few =
      let port : first_port ≡ q = port_named first_port q (sym may) in
      record {
        same = by_port origin q first_port Stranger Stranger octets port refl few;
        comes = (let all = count past ports in omega (arith, has, all));
      }
  comes_as origin q (Peer m) octets past ports may has few =
      let f = found q m may has in
      let num : ℕ = number_for n q.0 m.0 nets in
      let port : port_from past.ports (Peer (peer_of num)) ≡ q = port_named (port_from past.ports (Peer (peer_of num))) q
      (ap (λ (l : List PortSetup). (port_of_from 0 (peer_of num) l).0) ports ∙ f.port) in
      record {
        same = by_port origin q (port_from past.ports (Peer (peer_of num))) (Peer m) (Peer (peer_of num)) octets port (ap (λ k. Peer (peer_of k)) f.names) few;
        comes = subst (λ (r : Port). (r.0 < length past.ports) × (is_among (peer_of num) (port_setup r past).peers ≡ true)) (sym port) (
          (let all = count past ports in omega (arith, has, all)),
          subst (λ (l : List PortSetup). is_among (peer_of num) (slice_index_or l q.0 no_port).peers
              ≡ true) (sym ports) f.among,
        );
      }

  module _ (origin : ℕ) (may : Bool) where
    abbrev naming : Port → Naming
    naming q = naming_of (renaming_on nets n origin q) (tells_apart origin q) (slice_index_or (daemon_ports d n) q.0 no_port) may

    -- a send to a known peer goes where its node's post goes
    peer-matches : (at : ℕ) (port : Port) (num : PeerId) (datagram : Datagram) → Segment port.0 num.0 →
        Matches d (sent_by n (Peer num, canon datagram)) (record {
          at = at;
          from = n;
          port = port;
          to = Peer ((renaming_on nets n origin port).peer num);
          datagram = datagram;
        })
    peer-matches at port num datagram g =
        let done : ℕ = count_below port.0 (neighbours n nets) in
        let nodes : List ℕ = neighbours_on n port.0 nets in
        let all = length_neighbours n nets in
        let few = g.has in
        let some : (num.0 == 0) ≡ false = ne_eqb num.0 0 (λ e. let same = g.number in let bad : ⊥ = omega (arith, e, same) in bad) in
        let found : port_of_number num.0 0 0 (neighbours n nets) ≡ Some port =
        port_with_found 0 0 port.0 g.i num.0 (neighbours n nets) (omega (arith, few, all)) g.few (let same = g.number in omega (arith, same)) ∙
        ap (λ k. Some (let z : Port = record { 0 = k } in z)) (let e : 0 + port.0 ≡ port.0 = omega arith in e) in
        let named_is : named_node n done nodes num.0 ≡ slice_index_or nodes g.i 0 = ap (named_node n done nodes) g.number ∙
        named_member n done nodes g.i g.few in
        record {
          sent = record { from = refl; to = refl; octets = refl };
          goes = ap (λ b. if b then None else send_address nets n num.0 (port_of_number num.0 0 0 (neighbours n nets))) some ∙
              ap (send_address nets n num.0) found;
          away = λ a e same.
              let to = (goes_there nets n port (Peer ((renaming_on nets n origin port).peer num)) a e).to_is in
              (is_roster port.0).apart g.i g.few (sym named_is ∙ place_of to ∙ same);
        }

    act-matches : (at : ℕ) (port : Port) (act : Act) → Knows (naming port) act → AllMatch d (map (sent_by n) (send_of act))
        (posted_by at n port (renamed_act (renaming_on nets n origin port) act))
    act-matches at port (Post (Peer num) datagram) known = MoreMatch (peer-matches at port num datagram (segment port.0 num.0 known)) NoneMatch
    act-matches at port (Post Stranger datagram) known = MoreMatch (record {
      sent = record { from = refl; to = refl; octets = refl };
      goes = refl;
      away = λ a e same. none_some e;
    }) NoneMatch
    act-matches at port _ known = NoneMatch

    -- so it is of all acts of a step
    pub acts_match : (at : ℕ) (acts : List Placed) → AllKnown naming acts → AllMatch d (map (sent_by n) (sends_of acts))
        (posts_from at n (map (renamed_placed (renaming_on nets n origin)) acts))
    acts_match at [] known = NoneMatch
    acts_match at (p ∷ rest) known =
        let first = act-matches at p.port p.act (All-head (λ (k : Placed). Knows (naming k.port) k.act) p rest known) in
        let more = acts_match at rest (All-tail (λ (k : Placed). Knows (naming k.port) k.act) p rest known) in
        subst (λ l. AllMatch d l (posts_from at n (map (renamed_placed (renaming_on nets n origin)) (p ∷ rest))))
        (sym (map-append (sent_by n) (send_of p.act) (sends_of rest))) (match_append d first more)
