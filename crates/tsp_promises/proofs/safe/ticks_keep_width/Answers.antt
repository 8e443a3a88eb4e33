use Rattle.std.proofs.Common.{arith}
use Rattle.tsp_base.proofs.TickLemmas.{tick_at_width}
use Rattle.tsp_promises.proofs.shared.Rates.{keeps_time}
use Rattle.tsp_promises.proofs.safe.ticks_keep_width.Goals as goal

pub returns-clause-any : goal.returns-clause-any
returns-clause-any c = λ drift tick start span k. (let f = k.fast start span in omega (arith, f), let g = k.slow start span in omega (arith, g))

pub returns-clause-keeps : goal.returns-clause-keeps
returns-clause-keeps c = keeps_time

pub returns-clause-constant : goal.returns-clause-constant
returns-clause-constant c = tick_at_width
