use Rattle.std.proofs.Common.{◌++◌, ◌∙◌, ap, sym}
use Rattle.tsp_script.proofs.NameTexts.{plain_text}
use Rattle.tsp_script.proofs.names.append_octets.Goals as goal

pub returns-then-are_plain-clause-text : goal.returns-then-are_plain-clause-text
returns-then-are_plain-clause-text c = c.append.ensures ∙ ap (λ x. c.args.out.now.items ++ x) (sym (plain_text c.args.octets.now c.if-are_plain.ensures))
