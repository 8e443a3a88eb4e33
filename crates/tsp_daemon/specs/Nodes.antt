-- The daemon's node, as its arguments set it up.
use Rattle.std.specs.Prelude.{ℕ, ◌+◌, ℤ, Bool, true, false, List, [], ◌∷◌, length, map}
use Rattle.std.specs.List.{range_with_len}
use Rattle.tsp_base.specs.Words.{Booted}
use Rattle.tsp_gateway.specs.GateConfigs.{GateConfigValue}
use Rattle.tsp_io.specs.declared.addr.Addr.{Addr}
use Rattle.tsp_rules.specs.{GateRows.boots_all, Values.PeerId}
use Rattle.tsp_rules.specs.NodeRows.{NodePast, PortSetup, in_node_step, spread}
use Rattle.tsp_args.specs.declared.serve.Candidacy.{Candidacy, TheVariants.Never, TheVariants.Plain, TheVariants.Strict}
use Rattle.tsp_args.specs.declared.serve.ServeWords.{ServeWords}

-- the peer with this number
abbrev pub numbered_peer : ℕ → PeerId
numbered_peer number = record { 0 = number }

-- the peers of a port that come after so many peers of earlier ports: the daemon itself, which is peer 0, and `count`
-- more
abbrev pub port_peers : ℕ → ℕ → List PeerId
port_peers done count = numbered_peer 0 ∷ map (λ number. numbered_peer number) (range_with_len (done + 1) count)

-- how a port with these peers is set up
abbrev pub numbered_setup : ℕ → ℕ → PortSetup
numbered_setup done count = record { own = numbered_peer 0; peers = port_peers done count }

-- how ports are set up: their peers are numbered over all ports, in the order of the arguments, after so many before them
abbrev pub setups_from : ℕ → List (List Addr) → List PortSetup
setups_from done [] = []
setups_from done (peers ∷ ports) = numbered_setup done (length peers) ∷ setups_from (done + length peers) ports

-- whether a node may be master
abbrev pub may_be : Candidacy → Bool
may_be Never = false
may_be Plain = true
may_be Strict = true

-- whether a candidate needs more than half of the peers
abbrev pub is_strict : Candidacy → Bool
is_strict Never = false
is_strict Plain = false
is_strict Strict = true

-- what the node is set up with: its name, whether it may be master, whether elections are strict, and one port for each
-- list of peers
abbrev pub daemon_config : ServeWords → GateConfigValue
daemon_config s = record {
  name = s.name;
  may = may_be s.candidacy;
  strict = is_strict s.candidacy;
  ports = setups_from 0 s.ports;
}

-- the past of such a node when it is about to boot, at this tick, with this wall clock (microseconds) and this word:
-- the only line is the mark of the step
abbrev pub booting : GateConfigValue → ℕ → ℤ → ℕ → NodePast
booting c tick wall word = in_node_step (record { at = tick; node = 0; cause = Booted word wall }) tick (record {
  name = c.name;
  may = c.may;
  strict = c.strict;
  ports = c.ports;
  step = record { at = tick; node = 0; cause = Booted word wall };
  lines = [];
})

-- the past of the daemon's node once it has booted
abbrev pub first_past : ServeWords → ℕ → ℤ → ℕ → NodePast
first_past s tick wall word = spread tick (booting (daemon_config s) tick wall word) (boots_all tick (booting (daemon_config s) tick wall word))
