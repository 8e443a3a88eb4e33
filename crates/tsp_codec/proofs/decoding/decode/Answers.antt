use Rattle.std.proofs.Common.{ap, Ok}
use Rattle.tsp_codec.proofs.OneReading.{Spells_no_fault, Spells_one}
use Rattle.tsp_codec.proofs.decoding.decode.Goals as goal

pub returns-in-Ok-clause-spelled : goal.returns-in-Ok-clause-spelled
returns-in-Ok-clause-spelled c = λ d s. ap Ok (Spells_one c.args.octets.now c.in-Ok.datagram d c.in-Ok.ensures s)

pub returns-in-Ok-clause-faulty : goal.returns-in-Ok-clause-faulty
returns-in-Ok-clause-faulty c = λ f s. absurd (Spells_no_fault c.args.octets.now c.in-Ok.datagram f c.in-Ok.ensures s)

pub returns-in-Err-clause-spelled : goal.returns-in-Err-clause-spelled
returns-in-Err-clause-spelled c = λ d s. absurd (Spells_no_fault c.args.octets.now d c.in-Err.fault s c.in-Err.ensures)
