-- An ACK ends the send that it names.
use Rattle.tsp_acks.proofs.EndingLemmas.{Performs_acknowledges}
use Rattle.tsp_acks.proofs.station.Station.acknowledge.Goals as goal

pub returns-clause-row : goal.returns-clause-row
returns-clause-row g c x =
    let e = c.end.ensures in
    Performs_acknowledges c.args.p c.args.number c.end.result (λ past s. e.test x past s) (λ ended. e.row ended x) e.sends e.same
