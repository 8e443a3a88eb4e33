-- The configurations of a schedule's nodes.
use Rattle.std.specs.Prelude.{ℕ, zero, suc, List, [], ◌∷◌, ◌++◌}
use Rattle.tsp_base.specs.Words.{HeaderValue}
use Rattle.tsp_gateway.specs.GateConfigs.{GateConfigValue}
use Rattle.tsp_run.specs.{Networks.networks, Networks.ports_on, Setup.node_line}

-- the configuration of a node: a port for each of its networks
abbrev pub config_of : HeaderValue → ℕ → GateConfigValue
config_of header n = record {
  name = (node_line header n).name;
  may = (node_line header n).may;
  strict = header.strict;
  ports = ports_on n (networks header);
}

-- the configurations of the nodes with numbers below this one, in order
abbrev pub configs_below : HeaderValue → ℕ → List GateConfigValue
configs_below header zero = []
configs_below header (suc n) = configs_below header n ++ config_of header n ∷ []
