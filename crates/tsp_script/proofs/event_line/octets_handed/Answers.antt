use Rattle.std.proofs.Common.{arith, length-take}
use Rattle.hex.proofs.HexLemmas.{decode_of-ok}
use Rattle.tsp_script.proofs.EventLines.{short_hex}
use Rattle.tsp_script.proofs.event_line.octets_handed.Goals as goal

pub returns-then-hex-gt600-clause-none : goal.returns-then-hex-gt600-clause-none
returns-then-hex-gt600-clause-none c = λ octets low high e. let s = short_hex c.args.hex.now octets e high in omega arith

pub returns-clause-found : goal.returns-clause-found
returns-clause-found c =
    let d = c.in_ok-count.ensures.found in
    let l = (decode_of-ok c.args.hex.now _ d.1).2 in
    (d.1, omega arith, omega (arith, d.0, l, length-take c.in_ok-count.count c.octets_in.new.buffer))
