use Rattle.std.proofs.Common.{◌≡◌, rules, to_z, of_z, sym}
use Rattle.std.specs.Int.{w64, w128}
use Rattle.tsp_history.specs.Histories.{line_of}
use Rattle.tsp_audit.proofs.TakeLemmas.{obeys_decides, obeys_not}
use Rattle.tsp_audit.proofs.once.obeys_master.Goals as goal

pub returns-in-None : goal.returns-in-None
returns-in-None c setting has timely o = c.in-None.ensures o.post o.older o.brings

pub returns-then-post-master : goal.returns-then-post-master
returns-then-post-master c setting has timely =
    let other : c.index-lines-index.result.node ≡ c.args.master.0 → ⊥ = search rules in
    obeys_not setting c.args.lines.now (line_of c.args.line.now) c.args.amount c.args.master c.in-Some.index c.index-lines-index.result c.in-Some.ensures
    (sym c.index-lines-index.is) (λ same moves. other same)

pub returns-else-post-master : goal.returns-else-post-master
returns-else-post-master c setting has timely =
    let amount : to_z w64 (of_z w64 c.args.amount) ≡ c.args.amount = search rules in
    let target : to_z w128 (of_z w128 c.clock_at-target.result) ≡ c.clock_at-target.result = search rules in
    obeys_decides c.args.header.now setting c.args.lines.now (line_of c.args.line.now) c.args.amount c.args.master c.in-Some.index c.index-lines-index.result
    c.moves.result c.clock_at-target.result has c.in-Some.ensures (sym c.index-lines-index.is) (search rules) (c.clock_at-target.ensures.clock timely)
    (rw (amount, target) at c.moves.ensures)
