-- As many events as were counted were made, and their acts were counted.
use Rattle.std.proofs.Common.{◌≡◌, ◌≤◌, ◌*◌, ◌^◌}
use Rattle.tsp_storm.specs.{Makings.MakingStands, Schedules.header_of, Schedules.storm_events, Summaries.CountsLines}
use Rattle.tsp_run.specs.Run.{told}
use Rattle.tsp_storm.proofs.run.run.Given as goal

abbrev pub invariant-loop : goal.invariant-loop
invariant-loop l = record {
  stands : MakingStands l.words l.making;
  given : l.making.storm.given ≡ l.counter;
  counted : CountsLines (told (header_of l.words) (storm_events l.words l.counter)) l.counts;
  few_took : l.counts.took ≤ l.counter * 2 ^ 64;
  few_corrects : l.counts.corrects ≤ l.counter * 2 ^ 64;
  few_masters : l.counts.masters ≤ l.counter * 2 ^ 64;
}
