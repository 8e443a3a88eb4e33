use Rattle.std.proofs.Common.{arith}
use Rattle.tsp_codec.proofs.OneReading.{IsFault_NoEnd, IsFault_NameTooLong, IsFault_Time}
use Rattle.tsp_codec.proofs.decoding.message_of.Goals.{then-octets, else-octets}
use Rattle.tsp_codec.proofs.decoding.message_of.Goals as goal

pub returns-in_default : goal.returns-in_default
returns-in_default c = elim c.if-octets.branch [
  | then-octets w ↦ rw w.result-is (IsFault_NoEnd c.args.octets.now c.args.kind c.requires.head c.requires.kind c.in_default.ensures
      (omega (arith, w.if-octets)))
  | else-octets w ↦ rw w.result-is (IsFault_NameTooLong c.args.octets.now c.args.kind c.requires.head c.requires.kind c.in_default.ensures
      (omega (arith, w.if-octets)))
]

pub returns-in-None : goal.returns-in-None
returns-in-None c = IsFault_Time c.args.octets.now c.args.kind c.requires.head c.requires.kind c.in-Some.ensures.1 c.in-None.ensures.0 c.in-None.ensures.1
