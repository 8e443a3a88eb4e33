use Rattle.std.proofs.Common.{◌∙◌, ap, sym, refl}
use Rattle.tsp_query.proofs.FaultLemmas.{Counts_from}
use Rattle.tsp_daemon.specs.declared.exit.DaemonExit.{DaemonExit}
use Rattle.tsp_cli.{proofs.CommandLemmas.RunsDaemon_served, proofs.CommandLemmas.served_by, specs.Statuses.status_of_served}
use Rattle.tsp_cli.proofs.run.run_daemon.Goals as goal

pub returns : goal.returns
returns g c = record {
  runs = RunsDaemon_served _ _ _ _ _ _ _ c.serve_words.result c.of_served.result c.of_served.ensures c.serve_words.ensures.serves c.serve_words.ensures.wall
      c.serve_words.ensures.link.cause c.serve_words.ensures.write.cause;
  link =
      Counts_from _ _ _ _ _ refl (λ e. (served_by c.serve_words.result).2 (sym c.of_served.ensures ∙ e))
      (λ e. c.of_served.ensures ∙ ap (λ (s : DaemonExit). status_of_served s) e) c.serve_words.ensures.link;
  write =
      Counts_from _ _ _ _ _ refl (λ e. (served_by c.serve_words.result).3 (sym c.of_served.ensures ∙ e))
      (λ e. c.of_served.ensures ∙ ap (λ (s : DaemonExit). status_of_served s) e) c.serve_words.ensures.write;
  later = c.serve_words.ensures.later;
  unread = λ e. (served_by c.serve_words.result).0 (sym c.of_served.ensures ∙ e);
  used = λ e. (served_by c.serve_words.result).1 (sym c.of_served.ensures ∙ e);
}
