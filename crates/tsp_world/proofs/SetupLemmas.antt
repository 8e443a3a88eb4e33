-- What a header sets its nodes up with: each can boot.
use Rattle.std.proofs.Common.{sym, ap, ◌∙◌, arith, subst, get_or, inl, inr, length-append, add-one, ◌≡◌, ℕ, zero, suc, ◌+◌, ◌*◌, ◌<◌, ◌≤◌, Bool, true, false}
use Rattle.std.proofs.Common.{if◌then◌else◌, List, [], ◌∷◌, ◌++◌, length, All, refl}
use Rattle.std.{proofs.lemmas.List.Elements.All-head, proofs.lemmas.List.Elements.All-tail, specs.List.Sorted.IsStrictlyIncreasing}
use Rattle.std.proofs.{Math.ListN.get_or-append, Math.Seq.get_or-append_seam, lemmas.Bool.cases_lt, lemmas.List.length-map}
use Rattle.tsp_base.specs.Words.{HeaderValue, IsHeader, IsNet, has_member, peer_of}
use Rattle.tsp_base.proofs.HeaderLemmas.{length_net}
use Rattle.tsp_node.specs.Configs.{IsPortSetup}
use Rattle.tsp_gateway.specs.GateConfigs.{AreGatePorts, GateConfigValue, peers_of_ports}
use Rattle.tsp_gateway.specs.{Rooms.ports_in, Rooms.room_of_ports, declared.gateway.Gateway.Gateway}
use Rattle.tsp_networks.proofs.MemberLemmas.{ascending_below, length_below, numbers_peers}
use Rattle.tsp_rules.specs.NodeRows.{PortSetup}
use Rattle.tsp_run.specs.Networks.{networks, networks_among, numbers_below, port_on, ports_on, room}
use Rattle.tsp_run.proofs.NetworkLemmas.{is_among_peers}
use Rattle.tsp_world.specs.{Configs.config_of, Configs.configs_below, NodesReady.NodeReady}

-- a node with these ports wants as much room as the world makes
pub room_peers : (ports : List PortSetup) → room_of_ports (peers_of_ports ports) ≡ room ports
room_peers [] = refl
room_peers (s ∷ rest) = ap (λ k. 24 * length s.peers + 256 + k) (room_peers rest)

pub room_ready : (ports : List PortSetup) (x : ℕ) (node : Gateway) → NodeReady ports x node → room_of_ports (ports_in node) ≡ room ports
room_ready ports x node h = ap room_of_ports h.0 ∙ room_peers ports

pub many_ready : (ports : List PortSetup) (x : ℕ) (node : Gateway) → NodeReady ports x node → length (ports_in node) ≡ length ports
many_ready ports x node h = ap (λ ps. length ps) h.0 ∙ length-map ports (λ (s : PortSetup). s.peers)

can_have : (n : ℕ) (net : List ℕ) → length net ≤ 64 → IsStrictlyIncreasing net → has_member n net ≡ true → IsPortSetup (port_on n net)
can_have n net few ascending m = record {
  peers = record {
    few = (let len = length-map net peer_of in omega (arith, len, few));
    ascending = subst (λ ns. IsStrictlyIncreasing ns) (sym (numbers_peers net)) ascending;
  };
  own = is_among_peers n net ∙ m;
}

are_ports : (n : ℕ) (nets : List (List ℕ)) → All (λ net. (length net ≤ 64) × IsStrictlyIncreasing net) nets → AreGatePorts (ports_on n nets)
are_ports n [] all = tt
are_ports n (net ∷ rest) all = by_member (has_member n net) refl (are_ports n rest (All-tail (λ net. (length net ≤ 64) × IsStrictlyIncreasing net) net rest
    all)) where
      by_member : (b : Bool) → has_member n net ≡ b → AreGatePorts (ports_on n rest) →
          AreGatePorts (if b then port_on n net ∷ ports_on n rest else ports_on n rest)
      by_member true m more = let here = All-head (λ net. (length net ≤ 64) × IsStrictlyIncreasing net) net rest all in (can_have n net here.0 here.1 m, more)
      by_member false m more = more

-- a node can have the ports of its networks
pub can_boot : (header : HeaderValue) → IsHeader header → (n : ℕ) → AreGatePorts (ports_on n (networks header))
can_boot header is n = by_nets header.nets is.nets_are where
  by_nets : (nets : List (List ℕ)) → All (IsNet (length header.nodes)) nets → AreGatePorts (ports_on n (networks_among (length header.nodes) nets))
  by_nets [] all = by_member (has_member n (numbers_below (length header.nodes))) refl where
    by_member : (b : Bool) → has_member n (numbers_below (length header.nodes)) ≡ b → AreGatePorts (if b then port_on n (numbers_below (length header.nodes)) ∷
        [] else [])
    by_member true m = (
      can_have n (numbers_below (length header.nodes)) (let len = length_below (length header.nodes) in let few = is.few in
          omega (arith, len, few)) (ascending_below (length header.nodes)) m,
      tt,
    )
    by_member false m = tt
  by_nets (net ∷ rest) all = are_ports n (net ∷ rest) (λ k d lt. let one = all k d lt in
      ((let le = length_net (length header.nodes) _ one in let few = is.few in omega (arith, le, few)), one.ascending))

pub length_configs_below : (header : HeaderValue) (n : ℕ) → length (configs_below header n) ≡ n
length_configs_below header zero = refl
length_configs_below header (suc n) = length-append (configs_below header n) (config_of header n ∷ []) ∙ ap (λ k. k + 1) (length_configs_below header n) ∙
    add-one n

-- what stands in the place of a node is what it is set up with
pub get_or_configs_below : (header : HeaderValue) (count n : ℕ) (d : GateConfigValue) → n < count → get_or (configs_below header count) n d ≡ config_of header n
get_or_configs_below header zero n d h = absurd (omega (arith, h))
get_or_configs_below header (suc count) n d h =
    let len = length_configs_below header count in
    elim (cases_lt n count) [
      | inl lt ↦ get_or-append (configs_below header count) (config_of header count ∷ []) d n (omega (arith, lt, len)) ∙
          get_or_configs_below header count n d lt
      | inr ge ↦ (let same : n ≡ count = omega (arith, h, ge) in
          subst (λ k. get_or (configs_below header count ++ config_of header count ∷ []) k d ≡ config_of header k) (sym same)
          (subst (λ k. get_or (configs_below header count ++ config_of header count ∷ []) k d ≡
          config_of header count) len (get_or-append_seam (configs_below header count) (config_of header count) [] d)))
    ]
