-- What a node does with a LOOP, by the rules.
use Rattle.std.specs.Prelude.{ℕ, nat_le, nat_lt, Bool, ◌&&◌, if◌then◌else◌}
use Rattle.tsp_rules.specs.Values.{Port, HOPS}
use Rattle.tsp_base.specs.Words.{MessageValue}
use Rattle.tsp_rules.specs.GateRows.{LoopStep, PassOver, GiveUp, Forward, hops_in}
use Rattle.tsp_loop.specs.declared.step.LoopStep.{LoopStep as Step}
use Rattle.tsp_loop.specs.declared.step.LoopStep.TheVariants.{PassOver as Passes, GiveUp as Gives, Forward as Forwards}

abbrev pub loop_step_of : Step → LoopStep
loop_step_of Passes = PassOver
loop_step_of Gives = GiveUp
loop_step_of (Forwards m) = Forward m

-- a node gives up where its own LOOP came back on a higher port
abbrev pub judge_own : ℕ → Port → LoopStep
judge_own number port = if nat_lt number port.0 then GiveUp else PassOver

-- whether a LOOP may be passed on: it has 1 to 10 hops
abbrev pub has_hops : MessageValue → Bool
has_hops m = nat_le 1 (hops_in m.body) && nat_le (hops_in m.body) HOPS
