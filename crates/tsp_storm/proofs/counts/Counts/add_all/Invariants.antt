-- What was counted is what the lines so far tell.
use Rattle.std.proofs.Common.{◌≡◌, ◌≤◌, ◌+◌, take}
use Rattle.tsp_rules.specs.RoundRows.{is_correct}
use Rattle.tsp_storm.specs.Summaries.{acts_like, is_arrival, is_mastership}
use Rattle.tsp_storm.proofs.counts.Counts.add_all.Given as goal

abbrev pub invariant-loop-line : goal.invariant-loop-line
invariant-loop-line l = record {
  took : l.self.took ≡ l.initial.self.took + acts_like is_arrival (take l.line-index l.lines);
  corrects : l.self.corrects ≡ l.initial.self.corrects + acts_like is_correct (take l.line-index l.lines);
  masters : l.self.masters ≡ l.initial.self.masters + acts_like is_mastership (take l.line-index l.lines);
  few_took : l.self.took ≤ l.initial.self.took + l.line-index;
  few_corrects : l.self.corrects ≤ l.initial.self.corrects + l.line-index;
  few_masters : l.self.masters ≤ l.initial.self.masters + l.line-index;
}
