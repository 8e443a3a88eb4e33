-- A whole step keeps a port sound, where what it is given is.
use Rattle.std.proofs.Common.{subst, append-nil, sym, ℕ, Bool, true, false, if◌then◌else◌, List, [], ◌∷◌, ◌++◌, All}
use Rattle.std.proofs.lemmas.List.Elements.{All-nil, All-cons}
use Rattle.tsp_base.specs.Words.{Step, Seen, Here, Acts, Past, Row, added, grown, nothing, ◌followed_by◌}
use Rattle.tsp_base.proofs.{LeadsLemmas.Leads_then, LeadsLemmas.Leads_nothing, RowLemmas.added_append}
use Rattle.tsp_rules.specs.Answers.{due_alarms, takes, Turn, Got, input_row, answers}
use Rattle.tsp_rules.{specs.RoundRows.corrects, specs.RoundRows.abandons_going, specs.RoundRows.upsetting, proofs.Unchanged.comes_unchanged}
use Rattle.tsp_rules.specs.{SendRows.due_sends, Values.Act}
use Rattle.tsp_rules.proofs.{BuiltAnswers.built_takes, BuiltRounds.built_abandons_going, BuiltSends.built_due_sends}
use Rattle.tsp_promises.specs.Sound.{IsSoundAct, AreSound, SoundPast, AnswersAreSound}
use Rattle.tsp_promises.proofs.{leads.AlarmTable.sound_alarms, leads.SoundBuilt.sound_built, leads.SoundBuilt.taken_ranges, leads.SoundFacts.Soundly}

pub sound_due_sends : Soundly due_sends
sound_due_sends = sound_built built_due_sends

pub sound_upsetting : (row : Row) → Soundly row → Soundly (upsetting row)
unfolding upsetting
sound_upsetting row k = record { run = λ x past h. ended x past (k.run x past h) (corrects (row x past)) } where
  ended : (x : ℕ) (past : Past) → SoundPast (grown x past (row x past)) → (b : Bool) →
      SoundPast (grown x past (row x past ++ (if b then abandons_going x (grown x past (row x past)) else [])))
  ended x past h false = subst (λ acts. SoundPast (grown x past acts)) (sym (append-nil (row x past))) h
  ended x past h true = rw added_append ((sound_built built_abandons_going).run x (grown x past (row x past)) h)

-- what the rules post is sound
pub answers_sound : AnswersAreSound
unfolding answers input_row
answers_sound Turn x past s h = (Leads_then due_sends (due_alarms followed_by nothing) sound_due_sends
    (Leads_then due_alarms nothing sound_alarms Leads_nothing)).run x past h
answers_sound (Got from t) x past s h = (Leads_then due_sends (due_alarms followed_by upsetting (takes true true from t)) sound_due_sends
    (Leads_then due_alarms (upsetting (takes true true from t)) sound_alarms
    (sound_upsetting (takes true true from t) (sound_built (built_takes true true from t (comes_unchanged from) s tt (taken_ranges t s)))))).run x past h

-- each act of a sound past is sound
before_sound : (step : Step) (x : ℕ) (acts : List Act) (seen : List Seen) → AreSound (added step x acts seen) → AreSound seen
before_sound step x [] seen h = h
before_sound step x (a ∷ rest) seen h = (before_sound step x rest (Here (record { step = step; tick = x; deed = Acts a }) ∷ seen) h).1

pub acts_sound : (step : Step) (x : ℕ) (acts : List Act) (seen : List Seen) → AreSound (added step x acts seen) → All IsSoundAct acts
acts_sound step x [] seen h = All-nil IsSoundAct
acts_sound step x (a ∷ rest) seen h =
    let now = Here (record { step = step; tick = x; deed = Acts a }) ∷ seen in
    All-cons IsSoundAct a rest (before_sound step x rest now h).0 (acts_sound step x rest now h)
