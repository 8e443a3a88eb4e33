use Rattle.std.proofs.Common.{sym}
use Rattle.tsp_base.specs.declared.datagram.{Datagram.TheVariants.Stamp, Taken.TheVariants.Good}
use Rattle.tsp_codec.proofs.TakenOf.{Reads_taken_of_iff}
use Rattle.tsp_codec.proofs.decoding.read.Goals as goal

pub returns-in-Some-clause-reads : goal.returns-in-Some-clause-reads
returns-in-Some-clause-reads c = (Reads_taken_of_iff c.args.octets.now (Good (Stamp c.in-Some.stamp))).0 c.in-Some.ensures

pub returns-in-Some-clause-value : goal.returns-in-Some-clause-value
returns-in-Some-clause-value c = sym c.in-Some.ensures
