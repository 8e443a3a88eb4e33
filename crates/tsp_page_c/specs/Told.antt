-- A reading as C has it.
use Rattle.std.specs.Prelude.{pos}
use Rattle.tsp_page.specs.{Ranks.rank_number, Readings.status_number}
use Rattle.tsp_page.specs.declared.{daemon_half.DaemonHalf.DaemonHalf, reading.Reading.Reading}
use Rattle.tsp_page_c.specs.declared.Told.{Told}

abbrev pub told_of : DaemonHalf → Reading → Told
told_of h r = record {
  shown = r.shown;
  earliest = r.interval.earliest;
  latest = r.interval.latest;
  age = r.interval.age;
  life = h.life;
  steps = h.steps;
  role = pos (rank_number h.rank);
  status = pos (status_number r.status);
}
