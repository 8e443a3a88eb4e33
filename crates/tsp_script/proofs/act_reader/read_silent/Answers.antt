use Rattle.std.proofs.Common.{◌≡◌, ◌∙◌, sym, Some}
use Rattle.tsp_script.proofs.ActTexts.{took_case, become_case, arm_case, sample_case, close_case, correct_case, trace_case}
use Rattle.tsp_script.proofs.act_reader.read_silent.Goals as goal

pub returns-in-Took-clause-reads : goal.returns-in-Took-clause-reads
returns-in-Took-clause-reads c = λ a i n b d v r. took_case (λ x. c.read_took.result ≡ Some x) c.args.rest.now a i (sym c.in-Took.is ∙
    v) r c.read_took.ensures.reads

pub returns-in-Become-clause-reads : goal.returns-in-Become-clause-reads
returns-in-Become-clause-reads c = λ a i n b d v r. become_case (λ x. c.read_become.result ≡ Some x) c.args.rest.now a i (sym c.in-Become.is ∙
    v) r c.read_become.ensures.reads

pub returns-in-Arm-clause-reads : goal.returns-in-Arm-clause-reads
returns-in-Arm-clause-reads c = λ a i n b d v r. arm_case (λ x. c.read_arm.result ≡ Some x) c.args.rest.now a i (sym c.in-Arm.is ∙ v) r c.read_arm.ensures.reads

pub returns-in-Sample-clause-reads : goal.returns-in-Sample-clause-reads
returns-in-Sample-clause-reads c = λ a i n b d v r. sample_case (λ x. c.read_sample.result ≡ Some x) c.args.rest.now a i (sym c.in-Sample.is ∙
    v) r c.read_sample.ensures.reads

pub returns-in-Close-clause-reads : goal.returns-in-Close-clause-reads
returns-in-Close-clause-reads c = λ a i n b d v r. close_case (λ x. c.read_close.result ≡ Some x) c.args.rest.now a i (sym c.in-Close.is ∙
    v) r c.read_close.ensures.reads

pub returns-in-Correct-clause-reads : goal.returns-in-Correct-clause-reads
returns-in-Correct-clause-reads c = λ a i n b d v r. correct_case (λ x. c.read_correct.result ≡ Some x) c.args.rest.now a i (sym c.in-Correct.is ∙
    v) r c.read_correct.ensures.reads

pub returns-in-Trace-clause-reads : goal.returns-in-Trace-clause-reads
returns-in-Trace-clause-reads c = λ a i n b d v r. trace_case (λ x. c.read_trace_act.result ≡ Some x) c.args.rest.now a i (sym c.in-Trace.is ∙
    v) r c.read_trace_act.ensures.reads
