-- What is true of every schedule that comes of a number: nothing but a limit refuses any of its events.
use Rattle.std.proofs.Common.{sym, ap, ◌∙◌, subst, arith, inl, inr, length-append, ◌≡◌, ℕ, zero, suc, ◌+◌, ◌<◌, ◌≤◌, Bool, true, false, if◌then◌else◌, List, []}
use Rattle.std.proofs.Common.{◌∷◌, length, nat_le, ◌||◌, Option, None, Some, slice_get, slice_index_or, refl}
use Rattle.std.proofs.lemmas.Bool.{lt-ltb, le-ltb, cases_lt}
use Rattle.tsp_rules.specs.Values.{Event, BootAt, Turn, Take, Bytes}
use Rattle.tsp_base.specs.Words.{HeaderValue, has_member, is_whole, of, dids, first_port, up}
use Rattle.tsp_base.specs.declared.event.EventFault.{EventFault, TheVariants.Limit}
use Rattle.tsp_script.specs.Storms.{StormValue, storm_line}
use Rattle.tsp_storm.specs.Schedules.{after_lines, storm_lines, header_of, generator_of, posted_count, next_event, made, storm_events}
use Rattle.tsp_storm.proofs.{Draws.IsNext, Draws.Moves, Draws.next_moves, Ups.up_later, Ups.up_booted}
use Rattle.tsp_args.specs.{Storms.IsStorm, declared.storm.StormWords.StormWords}
use Rattle.tsp_run.specs.{Networks.networks, Networks.networks_among, Networks.ports_on, declared.address.Address.Address}
use Rattle.tsp_run.specs.Refusals.{Scene, scene, refusal, time_back, unknown, lacks_port, no_node, no_datagram, not_up, down, node_in, room_at, is_crowded}
use Rattle.tsp_run.specs.Refusals.{actor, most_events}
use Rattle.tsp_run.specs.Run.{event_at, last_at, goes_to, posts, run}
use Rattle.tsp_run.{proofs.NetworkLemmas.goes_there, proofs.RefusalLemmas.goes_to_post, specs.declared.posted.Posted.Posted}
use Rattle.tsp_networks.proofs.MemberLemmas.{member_alone, some_port}

-- a generator that has given the lines of so many nodes
pub record After (n : ℕ) (v w : StormValue) : Type 0 where
  pub nodes : w.nodes ≡ v.nodes
  pub named : w.named ≡ v.named + n
  pub given : w.given ≡ v.given
  pub at : w.at ≡ v.at
  pub asked : w.asked ≡ v.asked

pub after_is : (n : ℕ) (v : StormValue) → After n v (after_lines n v)
after_is zero v = record { nodes = refl; named = omega arith; given = refl; at = refl; asked = refl }
after_is (suc n) v = let a = after_is n v in record {
  nodes = a.nodes;
  named = (let e = a.named in omega (arith, e));
  given = a.given;
  at = a.at;
  asked = a.asked;
}

-- there is a line for each node
pub length_storm_lines : (n : ℕ) (v : StormValue) → length (storm_lines n v) ≡ n
length_storm_lines zero v = refl
length_storm_lines (suc n) v = let e = length_storm_lines n v in omega (arith, length-append (storm_lines n v) (storm_line (after_lines n v) ∷ []), e)

-- a generator, and the events that it has given, the newest first
pub record IsMade (header : HeaderValue) (events : List Event) (v : StormValue) : Type 0 where
  pub nodes : v.nodes ≡ length header.nodes
  pub one_net : header.nets ≡ []
  pub some : 1 ≤ v.nodes
  pub named : v.named ≡ v.nodes
  pub quiet : v.asked ≡ None
  pub count : v.given ≡ length events
  pub last : last_at events ≡ v.at
  pub start : v.given ≤ v.nodes → v.at ≡ 0
  pub up : (i : ℕ) → i < v.nodes → i < v.given → up (dids (of i (run header events))) ≡ true

IsMade_begins : (s : StormWords) → IsStorm s → IsMade (header_of s) [] (made s 0).generator
IsMade_begins s is = let a = after_is s.nodes (generator_of s) in record {
  nodes = a.nodes ∙ sym (length_storm_lines s.nodes (generator_of s));
  one_net = refl;
  some = (let e = a.nodes in let some = is.some in omega (arith, e, some));
  named = (let e = a.named in let f = a.nodes in omega (arith, e, f));
  quiet = a.asked;
  count = a.given;
  last = sym a.at;
  start = λ le. a.at;
  up = λ i few none. absurd (let e = a.given in omega (arith, e, none));
}

-- before all nodes are up the next event is the boot of the next
pub next_boots : (posted : ℕ) (v : StormValue) (e : Event) → IsNext posted v e → v.given < v.nodes → (word : ℕ) × (e ≡ BootAt 0 v.given word)
next_boots posted v (BootAt at node word) n lt = (word, let same : at ≡ 0 = n.0 in let node_is : node ≡ v.given = n.1 in cc)
next_boots posted v _ n lt = absurd (let ge = n.0 in omega (arith, ge, lt))

IsMade_next : (header : HeaderValue) (events : List Event) (v : StormValue) → IsMade header events v →
    IsMade header ((next_event header events v).0 ∷ events) (next_event header events v).1
IsMade_next header events v i =
    let e = (next_event header events v).0 in
    let w = (next_event header events v).1 in
    let m : Moves (posted_count header events) v e w = next_moves header events v i.some in
    record {
      nodes = m.nodes ∙ i.nodes;
      one_net = i.one_net;
      some = subst (λ n. 1 ≤ n) (sym m.nodes) i.some;
      named = m.named ∙ i.named ∙ sym m.nodes;
      quiet = m.asked;
      count = (let a = m.given in let b = i.count in omega (arith, a, b));
      last = sym m.at;
      start = λ le. m.at ∙ ap (λ x. event_at x) (next_boots (posted_count header events) v e m.next (let a = m.given in let b = m.nodes in
          omega (arith, a, b, le))).1;
      up = λ k few here. elim (cases_lt k v.given) [
        | inl before ↦ up_later header events e k (i.up k (subst (λ n. k < n) m.nodes few) before)
        | inr after ↦ (
            let same : v.given ≡ k = (let a = m.given in omega (arith, a, here, after)) in
            let boot = next_boots (posted_count header events) v e m.next (let b = m.nodes in omega (arith, b, same, few)) in
            let is : e ≡ BootAt 0 k boot.0 = boot.1 ∙ ap (λ n. BootAt 0 n boot.0) same in
            subst (λ x. up (dids (of k (run header (x ∷ events)))) ≡ true) (sym is) (up_booted header events 0 k boot.0))
      ];
    }

-- each beginning of a schedule is such a one
pub made_is : (s : StormWords) → IsStorm s → (n : ℕ) → IsMade (header_of s) (storm_events s n) (made s n).generator
made_is s is zero = IsMade_begins s is
made_is s is (suc n) = IsMade_next (header_of s) (storm_events s n) (made s n).generator (made_is s is n)

-- the only cause of a refusal is a limit, after so many events
abbrev pub OnlyLimit : ℕ → Option EventFault → Type 0
OnlyLimit events None = Unit {0}
OnlyLimit events (Some (Limit count posted)) = count ≡ events
OnlyLimit events _ = ⊥

no_time_back : (at last : ℕ) → last ≤ at → time_back at last ≡ None
no_time_back at last le = rw (le-ltb at last le) refl

-- a next event is in time
in_time : (header : HeaderValue) (events : List Event) (v : StormValue) (e : Event) → IsMade header events v → IsNext (posted_count header events) v e →
    last_at events ≤ event_at e
in_time header events v (BootAt at node word) i n = let l = i.last in let s = i.start (let lt = n.2 in omega (arith, lt)) in omega (arith, l, s)
in_time header events v _ i n = let l = i.last in let later = n.1 in omega (arith, l, later)

-- a header that names no network is whole
pub whole_alone : (header : HeaderValue) → header.nets ≡ [] → is_whole header ≡ true
whole_alone header none = rw none refl

known_here : (nodes n : ℕ) → n < nodes → unknown nodes n ≡ None
known_here nodes n lt = rw (lt-ltb n nodes lt) refl

-- each node has the first port
first_port_known : (header : HeaderValue) (events : List Event) (node : ℕ) → header.nets ≡ [] → node < length header.nodes →
    lacks_port (scene header events) node first_port ≡ None
first_port_known header events node none lt = rw (lt-ltb 0 (length (ports_on node (networks header))) (let some = some_port header (whole_alone header none)
    node lt in omega (arith, some))) refl

-- its node is one of the schedule's, and its port is one of the node's
node_known : (header : HeaderValue) (events : List Event) (v : StormValue) (e : Event) → IsMade header events v → IsNext (posted_count header events) v e →
    no_node (scene header events) e ≡ None
node_known header events v (BootAt at node word) i n = known_here (length header.nodes) node (let same = n.1 in let lt = n.2 in let nodes = i.nodes in
    omega (arith, same, lt, nodes))
node_known header events v (Turn at node) i n = known_here (length header.nodes) node (let lt = n.2 in let nodes = i.nodes in omega (arith, lt, nodes))
node_known header events v (Take at k) i n = refl
node_known header events v (Bytes at node port from octets) i n =
    let lt : node < length header.nodes = (let below = n.2 in let nodes = i.nodes in omega (arith, below, nodes)) in
    rw (n.3, n.4, known_here (length header.nodes) node lt, first_port_known header events node i.one_net lt) refl

-- what it takes was posted
datagram_known : (header : HeaderValue) (events : List Event) (v : StormValue) (e : Event) → IsNext (posted_count header events) v e →
    no_datagram (posted_count header events) e ≡ None
datagram_known header events v (Take at k) n = rw (lt-ltb k (posted_count header events) n.2) refl
datagram_known header events v _ n = refl

-- once all have booted, each node is up
all_up : (header : HeaderValue) (events : List Event) (v : StormValue) (k : ℕ) → IsMade header events v → v.nodes ≤ v.given → k < v.nodes →
    down (scene header events).up (Some k) ≡ None
all_up header events v k i booted few = rw (i.up k few (omega (arith, booted, few))) refl

-- who is reached on the network of all nodes is a node
reached : (header : HeaderValue) (o : Option Posted) (a : Address) → header.nets ≡ [] → goes_to (networks header) o ≡ Some a → a.node < length header.nodes
reached header o a none is =
    let post = goes_to_post (networks header) o a is in
    let there = goes_there (networks header) post.0.from post.0.port post.0.to a post.2 in
    member_alone (length header.nodes) a.node there.k (subst (λ nets. has_member a.node (slice_index_or (networks_among (length header.nodes) nets) there.k [])
    ≡ true) none there.member)

takers_up : (header : HeaderValue) (events : List Event) (v : StormValue) (k : ℕ) → IsMade header events v → v.nodes ≤ v.given → (o : Option Address) →
    goes_to (networks header) (slice_get (posts (run header events)) k) ≡ o → down (scene header events).up (node_in o) ≡ None
takers_up header events v k i booted None is = refl
takers_up header events v k i booted (Some a) is =
    all_up header events v a.node i booted (let lt = reached header (slice_get (posts (run header events)) k) a i.one_net is in let nodes = i.nodes in
    omega (arith, lt, nodes))

-- who acts is up
node_up : (header : HeaderValue) (events : List Event) (v : StormValue) (e : Event) → IsMade header events v → IsNext (posted_count header events) v e →
    not_up (scene header events) e ≡ None
node_up header events v (BootAt at node word) i n = refl
node_up header events v (Turn at node) i n = all_up header events v node i n.0 n.2
node_up header events v (Take at k) i n = takers_up header events v k i n.0 (goes_to (networks header) (slice_get (posts (run header events)) k)) refl
node_up header events v (Bytes at node port from octets) i n = all_up header events v node i n.0 n.2

at_limit : (b : Bool) (events posted : ℕ) → OnlyLimit events (if b then Some (Limit events posted) else None)
at_limit true events posted = refl
at_limit false events posted = tt

-- the last of the causes
last_cause : (s : Scene) (e : Event) → time_back (event_at e) s.last ≡ None → no_node s e ≡ None → no_datagram (length s.posts) e ≡ None → not_up s e ≡ None →
    OnlyLimit s.events (refusal s e)
last_cause s e time node datagram up =
    rw (time, node, datagram, up) (at_limit (nat_le most_events s.events || is_crowded (length s.posts) (room_at s.networks (actor s e))) s.events
    (length s.posts))

-- nothing but a limit refuses a schedule's next event
pub only_limit : (header : HeaderValue) (events : List Event) (v : StormValue) (e : Event) → IsMade header events v → IsNext (posted_count header events) v e →
    OnlyLimit (length events) (refusal (scene header events) e)
only_limit header events v e i n =
    last_cause (scene header events) e (no_time_back (event_at e) (last_at events) (in_time header events v e i n)) (node_known header events v e i n)
    (datagram_known header events v e n) (node_up header events v e i n)
