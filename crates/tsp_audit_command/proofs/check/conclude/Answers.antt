-- An event that is left lacks something.
use Rattle.tsp_lines.proofs.Outputs.{Hands_nil}
use Rattle.tsp_audit_command.proofs.StandLemmas.{Concludes_told, Halts_concluding}
use Rattle.tsp_audit_command.proofs.check.conclude.Goals as goal

pub returns-in-Err-clause-ends : goal.returns-in-Err-clause-ends
returns-in-Err-clause-ends g c = Halts_concluding c.args.claiming _ _ c.in-Err.stop c.in-Err.ensures

pub returns-in-Ok-judge : goal.returns-in-Ok-judge
returns-in-Ok-judge g c = record {
  later = c.tell.ensures.later;
  cause = c.tell.ensures.cause;
  still = c.tell.ensures.still;
  ends =
      let told = c.tell.ensures in
      Concludes_told c.args.claiming c.pass_all.new.self c.in-Ok-judge.found _ _ _ _ c.tell.result c.in-Ok.ensures c.in-Ok-judge.ensures told.ok told.err
      told.stop;
}

pub returns-in-Err-judge-clause-ends : goal.returns-in-Err-judge-clause-ends
returns-in-Err-judge-clause-ends g c = Hands_nil _ _
