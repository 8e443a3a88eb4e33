use Rattle.tsp_cli.proofs.Statuses.{tag_of_status}
use Rattle.tsp_cli.proofs.status.Status.number.Goals as goal

pub returns : goal.returns
returns c = tag_of_status c.args.self.now
