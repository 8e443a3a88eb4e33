-- Each entry is what the past comes to.
use Rattle.std.proofs.Common.{sym, ◌∙◌}
use Rattle.tsp_master.proofs.TableLemmas.{settled_is}
use Rattle.tsp_master.proofs.master.Master.settled.Goals as goal

pub returns : goal.returns
returns c past h = settled_is c.args.tick past c.args.self.now c.are_settled.ensures.valid h ∙ sym c.are_settled.ensures.value
