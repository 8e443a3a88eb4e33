-- What a schedule's header sets up: the nodes, their ports, and a node's past in a history.
use Rattle.std.specs.Prelude.{ℕ, false, pos, List, [], slice_index_or}
use Rattle.tsp_base.specs.Words.{HeaderValue, Step, Turned, Line, of}
use Rattle.tsp_rules.specs.{NodeRows.NodePast, Values.NodeLine}
use Rattle.tsp_run.specs.Networks.{networks, ports_on}

-- a node without a name, in place of one that doesn't exist
abbrev pub nobody : NodeLine
nobody = record { name = []; rate = pos 0; wall = pos 0; may = false }

-- the node with this number
abbrev pub node_line : HeaderValue → ℕ → NodeLine
node_line header n = slice_index_or header.nodes n nobody

-- the past of the node of a step, in this step and after this history
abbrev pub past_of : HeaderValue → Step → List Line → NodePast
past_of header step history = record {
  name = (node_line header step.node).name;
  may = (node_line header step.node).may;
  strict = header.strict;
  ports = ports_on step.node (networks header);
  step = step;
  lines = of step.node history;
}

-- a step in which nothing happens, for the past of a node outside of any step
abbrev pub rests : ℕ → Step
rests n = record { at = 0; node = n; cause = Turned }
