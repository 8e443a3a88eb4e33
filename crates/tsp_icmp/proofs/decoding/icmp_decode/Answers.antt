use Rattle.std.proofs.Common.{ap, Ok, sym, ◌∙◌}
use Rattle.tsp_icmp.proofs.Octets.{icmp_octets_injective}
use Rattle.tsp_icmp.proofs.decoding.icmp_decode.Goals as goal

pub returns-in-Ok-clause-spelled : goal.returns-in-Ok-clause-spelled
returns-in-Ok-clause-spelled c = λ t h e. ap Ok (icmp_octets_injective c.in-Ok.t t c.in-Ok.ensures.0 h (sym c.in-Ok.ensures.1 ∙ e))
