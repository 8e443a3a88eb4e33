-- The first port's station has it.
use Rattle.std.proofs.Common.{ap, arith, length, ◌∙◌, ◌<◌}
use Rattle.tsp_base.proofs.Views.{plain_view}
use Rattle.tsp_base.specs.Words.{word}
use Rattle.tsp_gateway.specs.{GatewayStands.port_at, Rooms.ports_in}
use Rattle.tsp_gateway.proofs.AnyLemmas.{places, station_there}
use Rattle.tsp_gateway.proofs.gateway.Gateway.word.Goals as goal

pub returns : goal.returns
returns c = record {
  past = λ past h.
      let some = c.args.self.now.some in
      let within : 0 < length (ports_in c.args.self.now) = omega (arith, some, places c.args.self.now) in
      let s = station_there past c.args.self.now 0 c.index.result.now c.station.result.now within c.index.ensures c.station.ensures h in
      s.word ∙ ap word (plain_view (port_at 0) past.lines);
}
