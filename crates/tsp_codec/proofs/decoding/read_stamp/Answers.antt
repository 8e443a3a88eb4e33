use Rattle.std.proofs.Common.{rules}
use Rattle.tsp_base.specs.declared.datagram.{Datagram.TheVariants.Stamp, Taken.TheVariants.Good}
use Rattle.tsp_codec.proofs.{OneReading.Spells_no_fault, TakenOf.no_stamp, TakenOf.taken_of_Reads}
use Rattle.tsp_codec.proofs.decoding.read_stamp.Goals as goal

pub returns-then-octets-ne-STAMP : goal.returns-then-octets-ne-STAMP
returns-then-octets-ne-STAMP c = no_stamp c.args.octets.now (λ s p. search rules)

pub returns-in_default : goal.returns-in_default
returns-in_default c = no_stamp c.args.octets.now (λ s p. search rules)

pub returns-in-Ok : goal.returns-in-Ok
returns-in-Ok c = taken_of_Reads c.args.octets.now (Good (Stamp c.in-Ok.stamp)) c.in-Ok.ensures

pub returns-in-Err : goal.returns-in-Err
returns-in-Err c = no_stamp c.args.octets.now (λ s p. Spells_no_fault c.args.octets.now (Stamp s) c.in-Err.field-0 p c.in-Err.ensures)

pub returns-in-Ok-reply_of : goal.returns-in-Ok-reply_of
returns-in-Ok-reply_of c = taken_of_Reads c.args.octets.now (Good (Stamp c.in-Ok-reply_of.stamp)) c.in-Ok-reply_of.ensures

pub returns-in-Err-reply_of : goal.returns-in-Err-reply_of
returns-in-Err-reply_of c = no_stamp c.args.octets.now (λ s p. Spells_no_fault c.args.octets.now (Stamp s) c.in-Err-reply_of.field-0 p
    c.in-Err-reply_of.ensures)
