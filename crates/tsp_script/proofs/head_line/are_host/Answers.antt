use Rattle.std.proofs.Common.{◌≡◌, ℕ, true, sym, arith}
use Rattle.std.proofs.lemmas.List.{take_all, Elements.All-more}
use Rattle.tsp_script.specs.Schedules.{is_host}
use Rattle.tsp_script.proofs.head_line.are_host.Goals as goal

pub loop-octet-preserved : goal.loop-octet-preserved
loop-octet-preserved c = All-more (λ (x : ℕ). is_host x ≡ true) c.args.octets.now c.loop-octet.octet-index 0 (omega arith) c.loop-octet.invariant
    (sym c.if-not-is_host.ensures)

pub returns : goal.returns
returns c = let i = c.loop-octet.invariant in rw (take_all c.loop-octet.octet-index c.args.octets.now (omega arith)) at i
