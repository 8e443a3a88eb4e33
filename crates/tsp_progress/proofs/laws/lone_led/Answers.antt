use Rattle.tsp_progress.proofs.laws.lone_led.Goals as goal
use Rattle.tsp_progress.proofs.LoneProof.{lone_led}

pub returns : goal.returns
returns c = lone_led
