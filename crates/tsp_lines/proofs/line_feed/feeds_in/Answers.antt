use Rattle.std.proofs.Common.{eqb, w8, arith}
use Rattle.std.proofs.lemmas.Simd.{bitmask_splat}
use Rattle.tsp_lines.proofs.line_feed.feeds_in.Goals as goal

pub returns : goal.returns
returns c = bitmask_splat w8 eqb c.args.octets 32 10 c.fits-octets.0 (omega arith)
