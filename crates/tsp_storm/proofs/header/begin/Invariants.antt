-- As many lines as were given stand in the header.
use Rattle.std.proofs.Common.{◌≡◌, false, []}
use Rattle.tsp_storm.specs.Schedules.{after_lines, storm_lines, generator_of}
use Rattle.tsp_storm.proofs.header.begin.Given as goal

abbrev pub invariant-loop : goal.invariant-loop
invariant-loop l = record {
  generator : l.storm ≡ after_lines l.counter (generator_of l.words);
  header : l.header ≡ record { drift = 100; strict = false; nodes = storm_lines l.counter (generator_of l.words); nets = [] };
}
