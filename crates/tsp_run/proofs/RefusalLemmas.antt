-- What is known if an event can happen, if nothing refuses it, and if two scenes refuse alike.
use Rattle.std.proofs.Common.{ap, ◌∙◌, subst, ◌≡◌, ℕ, ◌+◌, ◌<◌, ◌≤◌, nat_lt, nat_le, ◌||◌, Bool, true, false, if◌then◌else◌, List, length, Option, None, Some}
use Rattle.std.proofs.Common.{slice_get, refl}
use Rattle.std.proofs.lemmas.Bool.{ltb-true, ltb-false, leb-false, or_parts}
use Rattle.tsp_rules.specs.Values.{Event, BootAt, Turn, Take, Bytes, Place, Port}
use Rattle.tsp_base.specs.declared.event.EventFault.{EventFault}
use Rattle.tsp_base.specs.declared.event.EventFault.TheVariants.{TimeBack, NoNode, NotUp, Limit}
use Rattle.tsp_run.specs.{declared.posted.Posted.Posted, declared.address.Address.Address}
use Rattle.tsp_run.specs.Refusals.{Scene, Allowed, Names, refusal, first_of, time_back, unknown, no_node, no_datagram, down, not_up, limit, impossible}
use Rattle.tsp_run.specs.Refusals.{lacks_port, port_count, is_crowded, room_at, node_in, actor, most_events, most_posts}
use Rattle.tsp_run.specs.{Networks.address_of, Networks.ports_on, Networks.room, Run.event_at, Run.goes_to, Run.arrives, Run.arrives_at}

-- there is no first cause where there is neither
pub first_of_none : (a b : Option EventFault) → first_of a b ≡ None → (a ≡ None) × (b ≡ None)
first_of_none None b e = (refl, e)
first_of_none (Some f) b e = let bad : ⊥ = cc in absurd bad

if_none : (b : Bool) (f : EventFault) → (if b then Some f else None) ≡ None → b ≡ false
if_none true f e = let bad : ⊥ = cc in absurd bad
if_none false f e = refl

if_some : (b : Bool) (f : EventFault) → (if b then None else Some f) ≡ None → b ≡ true
if_some true f e = refl
if_some false f e = let bad : ⊥ = cc in absurd bad

-- the pieces of a refusal that isn't there
pub record Pieces (s : Scene) (e : Event) : Type 0 where
  pub time : time_back (event_at e) s.last ≡ None
  pub node : no_node s e ≡ None
  pub datagram : no_datagram (length s.posts) e ≡ None
  pub up : not_up s e ≡ None
  pub limit : limit s.events (length s.posts) (room_at s.networks (actor s e)) ≡ None

pub refusal_none : (s : Scene) (e : Event) → refusal s e ≡ None → Pieces s e
refusal_none s e h =
    let a = first_of_none (time_back (event_at e) s.last) (first_of (no_node s e)
    (first_of (no_datagram (length s.posts) e) (first_of (not_up s e) (limit s.events (length s.posts) (room_at s.networks (actor s e)))))) h in
    let b = first_of_none (no_node s e) (first_of (no_datagram (length s.posts) e)
    (first_of (not_up s e) (limit s.events (length s.posts) (room_at s.networks (actor s e))))) a.1 in
    let c = first_of_none (no_datagram (length s.posts) e) (first_of (not_up s e) (limit s.events (length s.posts) (room_at s.networks (actor s e)))) b.1 in
    let d = first_of_none (not_up s e) (limit s.events (length s.posts) (room_at s.networks (actor s e))) c.1 in
    record { time = a.0; node = b.0; datagram = c.0; up = d.0; limit = d.1 }

known : (nodes m : ℕ) → unknown nodes m ≡ None → m < nodes
known nodes m u = ltb-true m nodes (if_some (nat_lt m nodes) (NoNode m nodes) u)

-- a port on which something is handed to a node is one that the node has
pub handed_port : (s : Scene) (at node : ℕ) (port : Port) (from : Place) (octets : List ℕ) → no_node s (Bytes at node port from octets) ≡ None →
    port.0 < length (ports_on node s.networks)
handed_port s at node port from octets u =
    let later = (first_of_none (unknown s.nodes node) _ u).1 in
    let lacks = (first_of_none (lacks_port s node port) _ later).0 in
    ltb-true port.0 (port_count node s.networks) (if_some (nat_lt port.0 (port_count node s.networks)) (NoNode node s.nodes) lacks)

-- what an event names is there
names : (s : Scene) (e : Event) → no_node s e ≡ None → Names s e
names s (BootAt at node word) u = known s.nodes node u
names s (Turn at node) u = known s.nodes node u
names s (Take at k) u = tt
names s (Bytes at node port from octets) u = (known s.nodes node (first_of_none (unknown s.nodes node) _ u).0, handed_port s at node port from octets u)

room_at_is : (nets : List (List ℕ)) (o : Option ℕ) (n : ℕ) → o ≡ Some n → room_at nets o ≡ Some (room (ports_on n nets))
room_at_is nets o n e = rw e refl

-- what is so if an event can happen
pub record CanHappen (s : Scene) (e : Event) : Type 0 where
  pub time : s.last ≤ event_at e
  pub node : Names s e
  pub up : not_up s e ≡ None

-- an event that isn't impossible can happen
pub can_happen : (s : Scene) (e : Event) → impossible s e ≡ None → CanHappen s e
can_happen s e h =
    let a = first_of_none (time_back (event_at e) s.last) (first_of (no_node s e) (first_of (no_datagram (length s.posts) e) (not_up s e))) h in
    let b = first_of_none (no_node s e) (first_of (no_datagram (length s.posts) e) (not_up s e)) a.1 in
    let c = first_of_none (no_datagram (length s.posts) e) (not_up s e) b.1 in
    record {
      time = ltb-false (event_at e) s.last (if_none (nat_lt (event_at e) s.last) (TimeBack (event_at e) s.last) a.0);
      node = names s e b.0;
      up = c.1;
    }

-- an event that isn't refused isn't impossible
pub allowed_possible : (s : Scene) (e : Event) → refusal s e ≡ None → impossible s e ≡ None
allowed_possible s e h = let p = refusal_none s e h in rw (p.time, p.node, p.datagram, p.up) refl

-- where nothing refuses an event, its facts hold
pub allowed : (s : Scene) (e : Event) → refusal s e ≡ None → Allowed s e
allowed s e h =
    let p = refusal_none s e h in
    let can = can_happen s e (allowed_possible s e h) in
    let wanted = room_at s.networks (actor s e) in
    let full = if_none (nat_le most_events s.events || is_crowded (length s.posts) wanted) (Limit s.events (length s.posts)) p.limit in
    let both = or_parts (nat_le most_events s.events) (is_crowded (length s.posts) wanted) full in
    record {
      time = can.time;
      events = leb-false most_events s.events both.0;
      posts = λ n is. ltb-false most_posts (length s.posts + room (ports_on n s.networks)) (subst (λ o. is_crowded (length s.posts) o ≡
          false) (room_at_is s.networks (actor s e) n is) both.1);
      node = can.node;
      up = can.up;
    }

-- two scenes with the same numbers and posts, in which the same nodes are up
pub record Alike (s t : Scene) : Type 0 where
  pub nodes : s.nodes ≡ t.nodes
  pub networks : s.networks ≡ t.networks
  pub last : s.last ≡ t.last
  pub events : s.events ≡ t.events
  pub posts : s.posts ≡ t.posts
  pub up : (n : ℕ) → s.up n ≡ t.up n

down_alike : (s t : Scene) (a : Alike s t) (o : Option ℕ) → down s.up o ≡ down t.up o
down_alike s t a None = refl
down_alike s t a (Some n) = rw a.up refl

actor_alike : (s t : Scene) → Alike s t → (e : Event) → actor s e ≡ actor t e
actor_alike s t a (Take at k) = rw (a.networks, a.posts) refl
actor_alike s t a _ = refl

not_up_alike : (s t : Scene) → Alike s t → (e : Event) → not_up s e ≡ not_up t e
not_up_alike s t a (BootAt at node word) = refl
not_up_alike s t a (Turn at node) = down_alike s t a (Some node)
not_up_alike s t a (Take at k) = down_alike s t a (node_in (goes_to s.networks (slice_get s.posts k))) ∙ ap (λ o. down t.up o) (actor_alike s t a (Take at k))
not_up_alike s t a (Bytes at node port from octets) = down_alike s t a (Some node)

no_node_alike : (s t : Scene) → Alike s t → (e : Event) → no_node s e ≡ no_node t e
no_node_alike s t a (Take at k) = refl
no_node_alike s t a (Bytes at node port from octets) = rw (a.nodes, a.networks) refl
no_node_alike s t a _ = rw a.nodes refl

-- they refuse the same events for the same causes
pub refusal_alike : (s t : Scene) → Alike s t → (e : Event) → refusal s e ≡ refusal t e
refusal_alike s t a e = rw (not_up_alike s t a e, no_node_alike s t a e, actor_alike s t a e, a.networks, a.last, a.events, a.posts) refl

-- where the only node that may be down isn't the cause, it is up
pub up_down : (s : Scene) (n : ℕ) → down s.up (Some n) ≡ None → s.up n ≡ true
up_down s n e = if_some (s.up n) (NotUp n) e

-- what goes somewhere was posted
pub goes_to_post : (nets : List (List ℕ)) (o : Option Posted) (a : Address) → goes_to nets o ≡ Some a → (p : Posted) × (o ≡ Some p) ×
    (address_of nets p.from p.port p.to ≡ Some a)
goes_to_post nets None a e = let bad : ⊥ = cc in absurd bad
goes_to_post nets (Some p) a e = (p, refl, e)

-- what goes nowhere arrives nowhere
pub goes_nowhere : (nets : List (List ℕ)) (o : Option Posted) → goes_to nets o ≡ None → arrives nets o ≡ None
goes_nowhere nets None e = refl
goes_nowhere nets (Some p) e = ap (λ q. arrives_at p q) e
