use Rattle.std.proofs.Common.{arith}
use Rattle.tsp_base.specs.{Words.alarm_word, declared.alarm.TheConstants.Alarm.ALL}
use Rattle.tsp_script.proofs.WordTables.{no_word, first_alarm}
use Rattle.tsp_script.proofs.act_words.alarm_of.Goals as goal

pub returns-clause-reads : goal.returns-clause-reads
returns-clause-reads c = λ a e. absurd (no_word alarm_word ALL c.args.word.now _ a (first_alarm a) (let all = c.loop-alarm-test.false in
    omega (arith, all)) c.loop-alarm.invariant e)
