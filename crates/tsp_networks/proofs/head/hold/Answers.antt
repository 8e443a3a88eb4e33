-- A stored stamp needs no octets.
use Rattle.tsp_networks.proofs.head.hold.Goals as goal

pub returns-in-Stamp-clause-stands : goal.returns-in-Stamp-clause-stands
returns-in-Stamp-clause-stands c = c.hold_stamp.ensures.stands c.args.names.now.items
