-- The daemon's node can boot, and then stands for its first past.
use Rattle.std.proofs.Common.{ap, sym, ◌∙◌, arith, refl, subst, length-append, append_assoc, ◌≡◌, ℕ, zero, suc, ◌+◌, ◌*◌, ◌^◌, ◌<◌, ◌≤◌, List, [], ◌∷◌, ◌++◌}
use Rattle.std.proofs.Common.{length, map, drop, slice_get, slice_index, Some}
use Rattle.std.proofs.lemmas.List.{drop_more, get_or-map, length-map, FromFn.length-map-range_with_len, FromFn.get_or-map-range_with_len}
use Rattle.std.{proofs.lemmas.Option.get_or_from_slice_get, proofs.lemmas.Option.slice_get_within, specs.List.range_with_len}
use Rattle.tsp_node.specs.Configs.{IsPortSetup}
use Rattle.tsp_gateway.specs.{GateConfigs.AreGatePorts, GateConfigs.peers_of_ports, Rooms.room_of_ports}
use Rattle.tsp_io.specs.declared.addr.Addr.{Addr}
use Rattle.tsp_rules.specs.{NodeRows.PortSetup, Values.PeerId}
use Rattle.tsp_args.specs.{Ports.all_peers, declared.serve.ServeWords.ServeWords}
use Rattle.tsp_daemon.specs.Nodes.{numbered_peer, port_peers, numbered_setup, setups_from, daemon_config}

-- a port has one peer more than it has behind the daemon
length_peers : (done count : ℕ) → length (port_peers done count) ≡ count + 1
length_peers done count = let len = length-map-range_with_len (λ k. numbered_peer k) (done + 1) count in omega (arith, len)

-- the number of the peer in a place behind the first
number_at : (done count k : ℕ) → k < count → slice_index (map (λ (p : PeerId). p.0) (port_peers done count)) (suc k) ≡ done + 1 + k
number_at done count k h =
    let len = length-map-range_with_len (λ i. numbered_peer i) (done + 1) count in
    get_or-map (λ (p : PeerId). p.0) (map (λ i. numbered_peer i) (range_with_len (done + 1) count)) k (numbered_peer 0) 0 (omega (arith, h, len))
    ∙ ap (λ (p : PeerId). p.0) (get_or-map-range_with_len (λ i. numbered_peer i) (done + 1) count k (done + 1 + k) (numbered_peer 0) h refl)

-- each peer's number is below the next one's
ascends : (done count k : ℕ) → k + 1 < length (map (λ (p : PeerId). p.0) (port_peers done count)) →
    slice_index (map (λ (p : PeerId). p.0) (port_peers done count)) k < slice_index (map (λ (p : PeerId). p.0) (port_peers done count)) (k + 1)
ascends done count k h = by_place k (let len = length_peers done count in let long = length-map (port_peers done count) (λ (p : PeerId). p.0) in
    omega (arith, h, len, long)) where
      numbers : List ℕ
      numbers = map (λ (p : PeerId). p.0) (port_peers done count)

      by_place : (k : ℕ) → k < count → slice_index numbers k < slice_index numbers (k + 1)
      by_place zero less = let next = number_at done count 0 less in omega (arith, next)
      by_place (suc k) less =
          let here = number_at done count k (omega (arith, less)) in
          let next = number_at done count (suc k) less in
          let one : suc k + 1 ≡ suc (suc k) = omega arith in
          subst (λ n. slice_index numbers (suc k) < slice_index numbers n) (sym one) (omega (arith, here, next))

-- a node can have a port behind so many peers
IsPortSetup_numbered_setup : (done count : ℕ) → count ≤ 999 → IsPortSetup (numbered_setup done count)
IsPortSetup_numbered_setup done count few = record {
  peers = record { few = (let len = length_peers done count in omega (arith, len, few)); ascending = ascends done count };
  own = refl;
}

-- a daemon with at most 999 peers can have its ports
pub ArePorts_setups_from : (done : ℕ) (ports : List (List Addr)) → length (all_peers ports) ≤ 999 → AreGatePorts (setups_from done ports)
ArePorts_setups_from done [] few = tt
ArePorts_setups_from done (peers ∷ ports) few =
    let both = length-append peers (all_peers ports) in (
      IsPortSetup_numbered_setup done (length peers) (omega (arith, few, both)),
      ArePorts_setups_from (done + length peers) ports (omega (arith, few, both)),
    )

-- there are as many ports as lists of peers
pub length_setups_from : (done : ℕ) (ports : List (List Addr)) → length (setups_from done ports) ≡ length ports
length_setups_from done [] = refl
length_setups_from done (peers ∷ ports) = ap (λ n. suc n) (length_setups_from (done + length peers) ports)

-- the room of its steps
room_setups : (done : ℕ) (ports : List (List Addr)) → room_of_ports (peers_of_ports (setups_from done ports)) ≡
    24 * length (all_peers ports) + 280 * length ports
room_setups done [] = refl
room_setups done (peers ∷ ports) =
    let both = length-append peers (all_peers ports) in
    let len = length_peers done (length peers) in
    let rest = room_setups (done + length peers) ports in
    omega (arith, both, len, rest)

pub room_is : (s : ServeWords) (ports : List (List PeerId)) → ports ≡ peers_of_ports (daemon_config s).ports → length (all_peers s.ports) ≤ 999 →
    length s.ports ≤ 4 → room_of_ports ports ≤ 24 * 1003 + 4 * 256
room_is s ports is few four = let room = room_setups 0 s.ports in let same = ap room_of_ports is in omega (arith, room, same, few, four)

-- the ports from a place on are the one there and those behind it
ports_here : (ports : List (List Addr)) (i : ℕ) (peers : List Addr) → slice_get ports i ≡ Some peers → drop i ports ≡ peers ∷ drop (i + 1) ports
ports_here ports i peers e = drop_more ports i peers (slice_get_within ports i peers e) ∙
    ap (λ (ps : List Addr). ps ∷ drop (i + 1) ports) (get_or_from_slice_get ports i peers peers e)

-- one port more is set up
pub setups_more : (before : List PortSetup) (done : ℕ) (ports : List (List Addr)) (i : ℕ) (peers : List Addr) → slice_get ports i ≡ Some peers →
    (before ++ numbered_setup done (length peers) ∷ []) ++ setups_from (done + length peers) (drop (i + 1) ports) ≡ before ++ setups_from done (drop i ports)
setups_more before done ports i peers e =
    append_assoc before (numbered_setup done (length peers) ∷ []) (setups_from (done + length peers) (drop (i + 1) ports))
    ∙ ap (λ (ps : List (List Addr)). before ++ setups_from done ps) (sym (ports_here ports i peers e))

-- and its peers are among the few
pub peers_more : (done : ℕ) (ports : List (List Addr)) (i : ℕ) (peers : List Addr) → slice_get ports i ≡ Some peers →
    done + length (all_peers (drop i ports)) ≤ 999 → done + length peers + length (all_peers (drop (i + 1) ports)) ≤ 999
peers_more done ports i peers e few =
    let here = ap (λ (ps : List (List Addr)). length (all_peers ps)) (ports_here ports i peers e) in
    let both = length-append peers (all_peers (drop (i + 1) ports)) in
    omega (arith, few, here, both)

-- the room of so many turns fits 64 bits
pub turns_fit : (turns room : ℕ) → turns ≤ 1000000000 → room ≤ 24 * 1003 + 4 * 256 → turns * room < 2 ^ 64
turns_fit turns room t r = grind arith
