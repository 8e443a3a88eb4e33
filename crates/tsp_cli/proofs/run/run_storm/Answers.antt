use Rattle.std.proofs.Common.{◌∙◌, ap, sym}
use Rattle.tsp_storm.specs.declared.run.StormEnd.{StormEnd}
use Rattle.tsp_cli.{proofs.CommandLemmas.RunsStorm_ended, proofs.CommandLemmas.storm_by, specs.Statuses.status_of_storm}
use Rattle.tsp_cli.proofs.run.run_storm.Goals as goal

pub returns : goal.returns
returns g c = record {
  runs = RunsStorm_ended _ _ _ _ _ c.storm.result c.of_storm.result c.of_storm.ensures c.storm.ensures.ends c.storm.ensures.answers c.storm.ensures.complete;
  write = record {
    later = c.storm.ensures.later;
    cause = λ e. c.storm.ensures.write ((storm_by c.storm.result).3 (sym c.of_storm.ensures ∙ e));
    still = λ h. c.storm.ensures.still (λ e. h (c.of_storm.ensures ∙ ap (λ (s : StormEnd). status_of_storm s) e));
  };
  unread = λ e. (storm_by c.storm.result).0 (sym c.of_storm.ensures ∙ e);
  unlinked = λ e. (storm_by c.storm.result).2 (sym c.of_storm.ensures ∙ e);
  used = λ e. (storm_by c.storm.result).1 (sym c.of_storm.ensures ∙ e);
}
