use Rattle.tsp_base.proofs.KindLemmas.{number_of_tag}
use Rattle.tsp_base.proofs.kind.Kind.number.Goals as goal

pub returns : goal.returns
returns c = number_of_tag c.args.self.now
