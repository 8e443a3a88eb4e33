use Rattle.std.proofs.Common.{rules, ◌≤◌, length, take, ap, ◌++◌, arith}
use Rattle.tsp_page.specs.Numbers.{octets_of_all}
use Rattle.tsp_page.proofs.OctetLemmas.{octets_of_all_take_suc, length_octets_all_taken, length_octets_so_far}
use Rattle.tsp_page.proofs.numbers.octets_of_all.Goals as goal

pub append-requires : goal.append-requires
append-requires g c = let room = length_octets_so_far c.args.numbers.now c.loop-number.number-index (search rules) in rw (c.loop-number.invariant)
    (omega (arith, room, c.requires))

pub loop-number-preserved : goal.loop-number-preserved
loop-number-preserved g c = rw (octets_of_all_take_suc c.args.numbers.now c.loop-number.number-index (search rules), c.append.ensures, c.loop-number.invariant)
    (ap (λ z. octets_of_all (take c.loop-number.number-index c.args.numbers.now) ++ z) c.to_le_bytes.ensures)

pub loop-number-init : goal.loop-number-init
unfolding octets_of_all
loop-number-init g c = search rules

pub returns-clause-size : goal.returns-clause-size
returns-clause-size g c =
    let done : length c.args.numbers.now ≤ c.loop-number.number-index = c.loop-number-test.false in
    rw c.loop-number.invariant (length_octets_all_taken c.args.numbers.now c.loop-number.number-index done)
