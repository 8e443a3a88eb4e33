-- None of the alarms so far has the word.
use Rattle.std.proofs.Common.{◌≡◌, ℕ, ◌<◌, slice_index_or}
use Rattle.tsp_base.specs.{Words.alarm_word, declared.alarm.Alarm.Alarm, declared.alarm.TheConstants.Alarm.ALL}
use Rattle.tsp_script.proofs.act_words.alarm_of.Given as goal

abbrev pub invariant-loop-alarm : goal.invariant-loop-alarm
invariant-loop-alarm l = (i : ℕ) (d : Alarm) → i < l.alarm-index → l.word ≡ alarm_word (slice_index_or ALL i d) → ⊥
