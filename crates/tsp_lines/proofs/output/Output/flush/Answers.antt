use Rattle.std.proofs.Common.{◌∙◌, ap, sym, drop}
use Rattle.tsp_lines.proofs.Outputs.{Hands_all, Hands_cut}
use Rattle.tsp_lines.proofs.output.Output.flush.Goals as goal

pub returns-in-Ok-clause-hands : goal.returns-in-Ok-clause-hands
returns-in-Ok-clause-hands g c = Hands_all _ _ c.args.self.now c.deref.result.now c.clear.new.self.items (c.deref.ensures.value ∙
    c.self.view_is) c.in-Ok.ensures.ok c.clear.ensures.items

pub returns-in-Err-clause-hands : goal.returns-in-Err-clause-hands
returns-in-Err-clause-hands g c =
    Hands_cut _ _ c.args.self.now c.deref.result.now c.drop_front.new.octets.items c.in-Err.cut.at (c.deref.ensures.value ∙
    c.self.view_is) c.in-Err.ensures.cut.1 (c.drop_front.ensures ∙ ap (λ l. drop c.in-Err.cut.at l) (sym c.deref.ensures.value))
