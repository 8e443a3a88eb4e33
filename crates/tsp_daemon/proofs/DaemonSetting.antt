-- Every daemon has a setting.
use Rattle.std.proofs.Common.{ap, arith, eq-eqb, ◌≡◌, ℕ, zero, suc, ◌+◌, ◌<◌, ◌==◌, ℤ, pos, ◌-ℤ◌, true, List, [], ◌∷◌, length, map, Option, None, Some}
use Rattle.std.proofs.Common.{slice_get, slice_index_or, refl}
use Rattle.std.{proofs.lemmas.Int.ints, specs.List.range_with_len}
use Rattle.tsp_args.specs.declared.serve.ServeWords.{ServeWords}
use Rattle.tsp_base.specs.Words.{is_among}
use Rattle.tsp_io.specs.declared.addr.Addr.{Addr}
use Rattle.tsp_promises.specs.Setting.{Alone, Named, Network, Setting}
use Rattle.tsp_rules.specs.{NodeRows.PortSetup, NodeRows.no_port, Values.PeerId, Values.Port}
use Rattle.tsp_daemon.specs.{Kept.SetByWords, Nodes.is_strict, Nodes.numbered_peer, Nodes.setups_from}
use Rattle.tsp_run.proofs.NetworkLemmas.{port_named}

-- each port is on a network of its own
abbrev net_of : ℕ → Port → Network
net_of zero q = Named q.0
net_of (suc n) q = Alone (suc n) q.0

abbrev peers_in : Option PortSetup → List PeerId
peers_in None = numbered_peer 0 ∷ []
peers_in (Some setup) = setup.peers

-- who is on it: on the daemon's own the peers of its port
abbrev members_in : List PortSetup → Network → List PeerId
members_in ports (Named k) = peers_in (slice_get ports k)
members_in ports (Alone n q) = numbered_peer n ∷ []

-- the number of a network
abbrev number_of : Network → ℕ
number_of (Named k) = k
number_of (Alone n q) = q

apart : (n : ℕ) (p q : Port) → net_of n p ≡ net_of n q → p ≡ q
apart zero p q e = port_named p q (ap number_of e)
apart (suc n) p q e = port_named p q (ap number_of e)

among_self : (n : ℕ) (rest : List PeerId) → is_among (numbered_peer n) (numbered_peer n ∷ rest) ≡ true
among_self n rest = let same : (n == n) ≡ true = eq-eqb n n refl in rw same refl

own_peers : (done : ℕ) (ports : List (List Addr)) (k : ℕ) → is_among (numbered_peer 0) (peers_in (slice_get (setups_from done ports) k)) ≡ true
own_peers done [] k = among_self 0 []
own_peers done (peers ∷ ports) zero = among_self 0 (map (λ number. numbered_peer number) (range_with_len (done + 1) (length peers)))
own_peers done (peers ∷ ports) (suc k) = own_peers (done + length peers) ports k

own : (s : ServeWords) (n : ℕ) (q : Port) → is_among (numbered_peer n) (members_in (setups_from 0 s.ports) (net_of n q)) ≡ true
own s zero q = own_peers 0 s.ports q.0
own s (suc n) q = among_self (suc n) []

port_peers : (done : ℕ) (ports : List (List Addr)) (k : ℕ) → k < length ports → peers_in (slice_get (setups_from done ports) k) ≡
    (slice_index_or (setups_from done ports) k no_port).peers
port_peers done [] k lt = absurd (omega (arith, lt))
port_peers done (peers ∷ ports) zero lt = refl
port_peers done (peers ∷ ports) (suc k) lt = port_peers (done + length peers) ports k (omega (arith, lt))

-- the setting of a daemon's words at its boot
pub daemon_setting : (s : ServeWords) (tick : ℕ) (wall : ℤ) → (setting : Setting) × SetByWords s tick wall setting
daemon_setting s tick wall = (
  record {
    drift = 0;
    tick = λ n t. t;
    wall = λ n life. wall -ℤ pos tick;
    name = λ n. s.name;
    strict = is_strict s.candidacy;
    net = net_of;
    members = members_in (setups_from 0 s.ports);
    small = omega arith;
    ticks = λ n. record { rises = λ s x. omega arith; fast = λ s x. omega arith; slow = λ s x. omega arith };
    apart = apart;
    own = own s;
  },
  record {
    drift_is = refl;
    tick_is = λ t. refl;
    wall_is = omega (arith, ints);
    name_is = refl;
    strict_is = refl;
    members_are = λ q lt. port_peers 0 s.ports q.0 lt;
  },
)
