use Rattle.std.proofs.Common.{◌∙◌, arith, sym, refl}
use Rattle.tsp_query.proofs.FaultLemmas.{Counts_same}
use Rattle.tsp_cli.proofs.RunLemmas.{Runs_treated, status_by, read_counts, read_open, write_counts, unused_link, daemon_link, question_link}
use Rattle.tsp_cli.{specs.Lines.Replay, specs.Lines.Show, specs.Lines.Pack, specs.Lines.Icmp, proofs.AuditLemmas.RunsAudit_treated}
use Rattle.tsp_cli.proofs.run.run_command.Goals as goal

pub returns-in-Replay : goal.returns-in-Replay
returns-in-Replay g c = let r = c.replay.ensures in record {
  does = rw c.in-Replay.is
      (Runs_treated Replay _ _ _ _ _ _ _ _ _ c.replay.result c.of.result c.of.ensures r.comes r.answers r.keeps_up r.complete
      (λ e. (r.leaves.read e).0) r.leaves.write r.leaves.ended);
  used = λ e. (status_by c.replay.result).2 (sym c.of.ensures ∙ e);
  untouched = rw c.in-Replay.is (refl, refl);
  link = unused_link _ _ _ _ (λ e. (status_by c.replay.result).1 (sym c.of.ensures ∙ e));
  read = read_counts c.replay.result c.of.result _ _ _ c.of.ensures r.leaves.later.0 r.leaves.read r.leaves.still.0;
  unended = read_open c.replay.result c.of.result _ _ _ c.of.ensures r.leaves.read;
  write = write_counts c.replay.result c.of.result _ _ c.of.ensures r.leaves.later.1 r.leaves.write r.leaves.still.1;
  last = omega arith;
}

pub returns-in-Show : goal.returns-in-Show
returns-in-Show g c = let r = c.show.ensures in record {
  does = rw c.in-Show.is
      (Runs_treated Show _ _ _ _ _ _ _ _ _ c.show.result c.of-in-Show.result c.of-in-Show.ensures r.comes r.answers r.keeps_up r.complete
      (λ e. (r.leaves.read e).0) r.leaves.write r.leaves.ended);
  used = λ e. (status_by c.show.result).2 (sym c.of-in-Show.ensures ∙ e);
  untouched = rw c.in-Show.is (refl, refl);
  link = unused_link _ _ _ _ (λ e. (status_by c.show.result).1 (sym c.of-in-Show.ensures ∙ e));
  read = read_counts c.show.result c.of-in-Show.result _ _ _ c.of-in-Show.ensures r.leaves.later.0 r.leaves.read r.leaves.still.0;
  unended = read_open c.show.result c.of-in-Show.result _ _ _ c.of-in-Show.ensures r.leaves.read;
  write = write_counts c.show.result c.of-in-Show.result _ _ c.of-in-Show.ensures r.leaves.later.1 r.leaves.write r.leaves.still.1;
  last = omega arith;
}

pub returns-in-Pack : goal.returns-in-Pack
returns-in-Pack g c = let r = c.pack.ensures in record {
  does = rw c.in-Pack.is
      (Runs_treated Pack _ _ _ _ _ _ _ _ _ c.pack.result c.of-in-Pack.result c.of-in-Pack.ensures r.comes r.answers r.keeps_up r.complete
      (λ e. (r.leaves.read e).0) r.leaves.write r.leaves.ended);
  used = λ e. (status_by c.pack.result).2 (sym c.of-in-Pack.ensures ∙ e);
  untouched = rw c.in-Pack.is (refl, refl);
  link = unused_link _ _ _ _ (λ e. (status_by c.pack.result).1 (sym c.of-in-Pack.ensures ∙ e));
  read = read_counts c.pack.result c.of-in-Pack.result _ _ _ c.of-in-Pack.ensures r.leaves.later.0 r.leaves.read r.leaves.still.0;
  unended = read_open c.pack.result c.of-in-Pack.result _ _ _ c.of-in-Pack.ensures r.leaves.read;
  write = write_counts c.pack.result c.of-in-Pack.result _ _ c.of-in-Pack.ensures r.leaves.later.1 r.leaves.write r.leaves.still.1;
  last = omega arith;
}

pub returns-in-Icmp : goal.returns-in-Icmp
returns-in-Icmp g c = let r = c.average.ensures in record {
  does = rw c.in-Icmp.is
      (Runs_treated Icmp _ _ _ _ _ _ _ _ _ c.average.result c.of-in-Icmp.result c.of-in-Icmp.ensures r.comes r.answers r.keeps_up r.complete
      (λ e. (r.leaves.read e).0) r.leaves.write r.leaves.ended);
  used = λ e. (status_by c.average.result).2 (sym c.of-in-Icmp.ensures ∙ e);
  untouched = rw c.in-Icmp.is (refl, refl);
  link = unused_link _ _ _ _ (λ e. (status_by c.average.result).1 (sym c.of-in-Icmp.ensures ∙ e));
  read = read_counts c.average.result c.of-in-Icmp.result _ _ _ c.of-in-Icmp.ensures r.leaves.later.0 r.leaves.read r.leaves.still.0;
  unended = read_open c.average.result c.of-in-Icmp.result _ _ _ c.of-in-Icmp.ensures r.leaves.read;
  write = write_counts c.average.result c.of-in-Icmp.result _ _ c.of-in-Icmp.ensures r.leaves.later.1 r.leaves.write r.leaves.still.1;
  last = omega arith;
}

pub returns-in-Audit : goal.returns-in-Audit
returns-in-Audit g c = let r = c.check.ensures in record {
  does = rw c.in-Audit.is
      (RunsAudit_treated _ _ _ _ _ _ _ _ _ c.check.result c.of-in-Audit.result c.of-in-Audit.ensures r.treats.comes r.answers r.complete r.treats.gathered
      (λ e. (r.treats.leaves.read e).0) r.treats.leaves.write r.treats.leaves.ended);
  used = λ e. (status_by c.check.result).2 (sym c.of-in-Audit.ensures ∙ e);
  untouched = rw c.in-Audit.is (refl, refl);
  link = unused_link _ _ _ _ (λ e. (status_by c.check.result).1 (sym c.of-in-Audit.ensures ∙ e));
  read = read_counts c.check.result c.of-in-Audit.result _ _ _ c.of-in-Audit.ensures r.treats.leaves.later.0 r.treats.leaves.read r.treats.leaves.still.0;
  unended = read_open c.check.result c.of-in-Audit.result _ _ _ c.of-in-Audit.ensures r.treats.leaves.read;
  write = write_counts c.check.result c.of-in-Audit.result _ _ c.of-in-Audit.ensures r.treats.leaves.later.1 r.treats.leaves.write r.treats.leaves.still.1;
  last = omega arith;
}

pub run_daemon-requires : goal.run_daemon-requires
run_daemon-requires g c = rw c.in-Serve.is at c.requires.command

pub returns-in-Serve : goal.returns-in-Serve
returns-in-Serve g c = let r = c.run_daemon.ensures in record {
  does = rw c.in-Serve.is r.runs;
  used = r.used;
  untouched = rw c.in-Serve.is refl;
  link = daemon_link _ _ _ _ _ r.link r.later.0;
  read = Counts_same _ _ _ refl r.unread;
  unended = λ e. absurd (r.unread e);
  write = r.write;
  last = r.later.1;
}

pub returns-in-Ask : goal.returns-in-Ask
returns-in-Ask g c = let r = c.run_query.ensures in record {
  does = rw c.in-Ask.is r.runs;
  used = r.used;
  untouched = rw c.in-Ask.is refl;
  link = question_link _ _ _ _ _ (rw c.in-Ask.is tt) r.faults;
  read = Counts_same _ _ _ refl r.unread;
  unended = λ e. absurd (r.unread e);
  write = r.write;
  last = r.last;
}

pub run_storm-requires : goal.run_storm-requires
run_storm-requires g c = rw c.in-Storm.is at c.requires.command

pub returns-in-Storm : goal.returns-in-Storm
returns-in-Storm g c = let r = c.run_storm.ensures in record {
  does = rw c.in-Storm.is r.runs;
  used = r.used;
  untouched = rw c.in-Storm.is (refl, refl, refl);
  link = unused_link _ _ _ _ r.unlinked;
  read = Counts_same _ _ _ refl r.unread;
  unended = λ e. absurd (r.unread e);
  write = r.write;
  last = omega arith;
}
