use Rattle.tsp_promises.proofs.fit.answers_are_sound.Goals as goal
use Rattle.tsp_promises.proofs.leads.SoundSteps.{answers_sound}

pub returns : goal.returns
returns c = answers_sound
