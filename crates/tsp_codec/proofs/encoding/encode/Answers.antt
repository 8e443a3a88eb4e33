use Rattle.tsp_base.specs.declared.datagram.Datagram.TheVariants.{Message}
use Rattle.tsp_codec.proofs.Written.{Spells_canon}
use Rattle.tsp_codec.proofs.encoding.encode.Goals as goal

pub returns-in-Message-clause-spelled : goal.returns-in-Message-clause-spelled
returns-in-Message-clause-spelled c = rw (c.message_spelling.ensures.octets, c.in-Message.is) (Spells_canon (Message _) c.message_spelling.ensures.ranges)
