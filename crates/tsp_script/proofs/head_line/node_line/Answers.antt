use Rattle.tsp_script.proofs.HeadLines.{node_item}
use Rattle.tsp_script.proofs.head_line.node_line.Goals as goal

pub returns-in-None : goal.returns-in-None
returns-in-None c = λ item s. node_item (λ x. ⊥) c.args.line.now c.args.rest.now item c.requires s (λ n h r l. c.in-None.ensures.none n h r)
