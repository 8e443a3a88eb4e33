-- A datagram that is taken reaches the node that the run says.
use Rattle.std.proofs.Common.{refl, sym, ap, ◌∙◌, subst, ◌≡◌, ℕ, ◌<◌, true, List, ◌∷◌, length, Option, None, Some, slice_get, vec_len}
use Rattle.std.{proofs.lemmas.Option.slice_get_within, specs.Option.option_map}
use Rattle.tsp_rules.specs.{Values.Taken, Values.Good, Values.Event, Values.Take, Values.Peer, GateRows.GotOn, GateRows.answers_all}
use Rattle.tsp_base.specs.Words.{HeaderValue, Came}
use Rattle.tsp_gateway.specs.declared.gateway.Gateway.{Gateway}
use Rattle.tsp_networks.specs.{Posts.way_of, declared.way.Way.Way}
use Rattle.tsp_run.specs.{Networks.networks, declared.address.Address.Address, declared.arrival.Arrival.Arrival}
use Rattle.tsp_run.specs.Refusals.{Allowed, down, node_in, refusal, scene}
use Rattle.tsp_run.specs.Run.{arrives, arrives_at, goes_to, reaches, run, posts, steps}
use Rattle.tsp_run.proofs.{NetworkLemmas.some_same, RefusalLemmas.refusal_none, RefusalLemmas.up_down, RefusalLemmas.goes_to_post}
use Rattle.tsp_run.{proofs.RunPromises.posted_read, specs.declared.posted.Posted.Posted}
use Rattle.tsp_world.specs.declared.world.World.{World}
use Rattle.tsp_world.specs.WorldStands.{HappensBy, WorldStands, scene_of, up_at}
use Rattle.tsp_world.proofs.WorldLemmas.{Alike_stands, accepted, up_place}

-- a node that is up has a place
up_within : (places : List (Option Gateway)) (n : ℕ) → up_at places n ≡ true → n < length places
up_within places n up = let found = up_place places n (slice_get places n) refl up in slice_get_within places n (Some found.0) found.1

-- the addressee of a datagram that may be taken is a node
pub addressee : (world : World) (at k : ℕ) (a : Address) → vec_len world.nodes ≡ length world.nodes.items →
    goes_to (networks world.header) (slice_get world.sent.items k) ≡ Some a → Allowed (scene_of world) (Take at k) → a.node < vec_len world.nodes
addressee world at k a len goes allowed =
    let up = up_down (scene_of world) a.node (ap (λ o. down (scene_of world).up (node_in o)) (sym goes) ∙ allowed.up) in
    subst (λ m. a.node < m) (sym len) (up_within world.nodes.items a.node up)

-- what an addressee takes of a poster has come by this take
pub delivered : (header : HeaderValue) (events : List Event) (world new : World) (at k : ℕ) (a : Address) (way : Way) (taken : Taken) → vec_len world.nodes ≡
    length world.nodes.items → WorldStands header events world →
    goes_to (networks world.header) (slice_get world.sent.items k) ≡ Some a → refusal (scene header events) (Take at k) ≡ None → Some way ≡
    option_map way_of (slice_get world.sent.items k) →
    ((p : Posted) → slice_get world.sent.items k ≡ Some p → taken ≡ Good p.datagram) →
    HappensBy (answers_all (GotOn a.port (Peer (record { 0 = way.from })) taken)) at a.node world new → WorldStands header (Take at k ∷ events) new
delivered header events world new at k a way taken len w goes none way_is taken_is happens =
    let nets = networks header in
    let there : goes_to nets (slice_get (posts (run header events)) k) ≡ Some a =
    subst (λ l. goes_to nets (slice_get l k) ≡ Some a) w.sent (subst (λ (h : HeaderValue). goes_to (networks h) (slice_get world.sent.items k) ≡
    Some a) w.header_is goes) in
    let found = goes_to_post nets (slice_get (posts (run header events)) k) a there in
    let stored = ap (λ l. slice_get l k) w.sent ∙ found.1 in
    let read = posted_read header events (accepted header events world w) k found.0 found.1 in
    let same_way : way ≡ way_of found.0 = some_same (way_is ∙ ap (λ o. option_map way_of o) stored) in
    let same_taken = taken_is found.0 stored in
    let arrived : arrives nets (slice_get (posts (run header events)) k) ≡ Some (record {
      node = a.node;
      port = a.port;
      from = Peer (record { 0 = found.0.from });
      taken = Good found.0.datagram;
    }) =
    ap (λ o. arrives nets o) found.1 ∙ ap (λ q. arrives_at found.0 q) found.2
    ∙ ap (λ t. let b : Arrival = record { node = a.node; port = a.port; from = Peer (record { 0 = found.0.from }); taken = t } in Some b) read in
    let down_none = (refusal_none (scene header events) (Take at k) none).up in
    let up = (Alike_stands header events world len w).up a.node ∙ up_down (scene header events) a.node (ap (λ o. down (scene header events).up (node_in o))
    (sym there) ∙ down_none) in
    happens (Came k) header events (Take at k) w refl tt none up
    (ap (λ o. reaches header (run header events) at k o) arrived
    ∙ ap (λ (v : Way). Some (steps header (run header events) (answers_all (GotOn a.port (Peer (record { 0 = v.from })) (Good found.0.datagram)))
    (record { at = at; node = a.node; cause = Came k }))) (sym same_way)
    ∙ ap (λ t. Some (steps header (run header events) (answers_all (GotOn a.port (Peer (record { 0 = way.from })) t)) (record {
      at = at;
      node = a.node;
      cause = Came k;
    }))) (sym same_taken))

-- a datagram that goes somewhere was posted
pub post_within : (nets : List (List ℕ)) (posts : List Posted) (k : ℕ) (a : Address) → goes_to nets (slice_get posts k) ≡ Some a → k < length posts
post_within nets posts k a goes = let found = goes_to_post nets (slice_get posts k) a goes in slice_get_within posts k found.0 found.1
