-- Clocks that keep a header's drift have a setting, and so every header has one.
use Rattle.std.specs.Prelude.{refl}
use Rattle.tsp_promises.proofs.shared.Rates.{keeps_time}
use Rattle.tsp_run.specs.{Clocked.ClocksAreSet, Clocked.clocks_of, Networks.networks, Setting.EachIsSet, Setting.members_of, Setting.network_of}
use Rattle.tsp_run.specs.{Setup.node_line}
use Rattle.tsp_run.proofs.{HeaderLines.rate_node_line, HeaderLines.set_up_of, NetworkLemmas.own_member, NetworkLemmas.ports_apart, OwnClocks.set_back}

pub clocks_are_set : ClocksAreSet
clocks_are_set clocks header is keeps = (
  record {
    drift = header.drift;
    tick = clocks.tick;
    wall = clocks.wall;
    name = λ n. (node_line header n).name;
    strict = header.strict;
    net = network_of (networks header);
    members = members_of (networks header);
    small = is.small;
    ticks = keeps;
    apart = ports_apart (networks header);
    own = own_member (networks header);
  },
  record {
    tick_is = λ n t. refl;
    wall_is = λ n life. refl;
    name_is = λ n. refl;
    drift_is = refl;
    strict_is = refl;
    net_is = λ n q. refl;
    members_are =
        λ k. refl;
  },
)

pub each_is_set_holds : EachIsSet
each_is_set_holds header is =
    let s = clocks_are_set (clocks_of header) header (set_up_of header is)
    (λ n. keeps_time (node_line header n).rate header.drift (rate_node_line header is n) is.small) in
    (s.0, set_back header s.0 s.1)
