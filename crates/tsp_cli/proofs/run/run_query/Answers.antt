use Rattle.std.proofs.Common.{◌∙◌, ap, sym, refl}
use Rattle.tsp_query.{proofs.FaultLemmas.Counts_from, proofs.FaultLemmas.LinkCounts_from, specs.declared.exit.QueryExit.QueryExit}
use Rattle.tsp_cli.{proofs.CommandLemmas.RunsQuery_asked, proofs.CommandLemmas.asking_by, specs.Statuses.status_of_asking}
use Rattle.tsp_cli.proofs.run.run_query.Goals as goal

pub returns : goal.returns
returns g c = record {
  runs = RunsQuery_asked _ _ _ _ _ _ _ _ _ _ c.ask.result c.of_asking.result c.of_asking.ensures c.ask.ensures.asks c.ask.ensures.faults.cause
      c.ask.ensures.write.cause;
  faults =
      LinkCounts_from _ _ _ _ _ _ refl refl (λ e. (asking_by c.ask.result).2 (sym c.of_asking.ensures ∙ e))
      (λ e. c.of_asking.ensures ∙ ap (λ (a : QueryExit). status_of_asking a) e) c.ask.ensures.faults;
  write =
      Counts_from _ _ _ _ _ refl (λ e. (asking_by c.ask.result).3 (sym c.of_asking.ensures ∙ e))
      (λ e. c.of_asking.ensures ∙ ap (λ (a : QueryExit). status_of_asking a) e) c.ask.ensures.write;
  last = c.ask.ensures.last;
  unread = λ e. (asking_by c.ask.result).0 (sym c.of_asking.ensures ∙ e);
  used = λ e. (asking_by c.ask.result).1 (sym c.of_asking.ensures ∙ e);
}
