use Rattle.std.proofs.Common.{sym}
use Rattle.tsp_base.specs.declared.datagram.Taken.TheVariants.{Good, Bad}
use Rattle.tsp_codec.proofs.TakenOf.{taken_of_Reads}
use Rattle.tsp_codec.proofs.decoding.read_any.Goals as goal

pub returns-in-Ok-clause-value : goal.returns-in-Ok-clause-value
returns-in-Ok-clause-value c = sym (taken_of_Reads c.args.octets.now (Good c.in-Ok.datagram) c.in-Ok.ensures.reads)

pub returns-in-Err-clause-value : goal.returns-in-Err-clause-value
returns-in-Err-clause-value c = sym (taken_of_Reads c.args.octets.now (Bad c.in-Err.fault) c.in-Err.ensures.reads)
