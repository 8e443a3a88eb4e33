-- Each alarm keeps a port sound, and what is known of it: one table for both.
use Rattle.std.proofs.Common.{sym, true≢false, ◌≡◌, ℕ, ◌&&◌, ◌||◌, not, Bool, true, false, List, [], ◌∷◌, refl}
use Rattle.std.proofs.lemmas.Bool.{and_parts}
use Rattle.tsp_rules.specs.Values.{Alarm, Quiet, Window, Elect, Search, Round, Probe, CloseAlarm, ResolveAlarm, ALL}
use Rattle.tsp_rules.specs.{Answers.rings, Answers.rings_alone, Answers.rings_each, Answers.due_alarms, GateRows.is_probe}
use Rattle.tsp_rules.proofs.{BuiltAnswers.built_rings, CalmAlarms.moves_by}
use Rattle.tsp_base.specs.Words.{Past, Leads}
use Rattle.tsp_base.proofs.LeadsLemmas.{Leads_then, Leads_nothing, Leads_from, Leads_to}
use Rattle.tsp_promises.proofs.leads.AlarmLeads.{quiet_leads, search_leads, elect_leads, resolve_leads}
use Rattle.tsp_promises.proofs.{leads.CloseLeads.close_leads, leads.Known.Open, leads.SoundBuilt.sound_built, leads.SoundFacts.Soundly}
use Rattle.tsp_promises.proofs.leads.RoundLeads.{Probed, probe_leads, round_leads, window_leads}

-- what is known of a port around an alarm: a Close needs to know that the port has probed, which a Probe leaves behind
abbrev pub Around : Bool → ℕ → Past → Type 0
Around true = Probed
Around false = Open

pub alarm_leads : (own wait : Bool) (a : Alarm) → Leads (Around (moves_by a)) (rings own wait a) (Around (is_probe a))
alarm_leads own wait Quiet = quiet_leads own wait
alarm_leads own wait Search = search_leads own wait
alarm_leads own wait Elect = elect_leads own wait
alarm_leads own wait Window = window_leads own wait
alarm_leads own wait Probe = probe_leads own wait
alarm_leads own wait CloseAlarm = close_leads own wait
alarm_leads own wait ResolveAlarm = resolve_leads own wait
alarm_leads own wait Round = round_leads own wait

-- an alarm, whether it is due or not
pub sound_rings : (own wait : Bool) (a : Alarm) → Soundly (rings own wait a)
sound_rings own wait a = sound_built (built_rings own wait a)

-- one alarm after the other
sound_each : (alarms : List Alarm) → Soundly (rings_each alarms)
unfolding rings_alone
sound_each [] = Leads_nothing
sound_each (a ∷ []) = sound_rings true false a
sound_each (a ∷ next ∷ rest) = Leads_then (rings_alone a) (rings_each (next ∷ rest)) (sound_rings true false a) (sound_each (next ∷ rest))

pub sound_alarms : Soundly due_alarms
unfolding due_alarms
sound_alarms = sound_each ALL

pub around_open : (b : Bool) (x : ℕ) (past : Past) → Around b x past → Open x past
around_open true x past h = h.open_port
around_open false x past h = h

-- whether each Close of these alarms comes right after a Probe; `probed` says whether a Probe came right before the first
abbrev pub are_probed : Bool → List Alarm → Bool
are_probed probed [] = true
are_probed probed (a ∷ rest) = (not (moves_by a) || probed) && are_probed (is_probe a) rest

-- then what is known before an alarm's turn is what it needs
pub before_turn : (probed : Bool) (a : Alarm) (rest : List Alarm) → are_probed probed (a ∷ rest) ≡ true → (x : ℕ) (past : Past) → Around probed x past →
    Around (moves_by a) x past
before_turn probed a rest e = by_need (moves_by a) probed (and_parts (not (moves_by a) || probed) (are_probed (is_probe a) rest) e).0 where
  by_need : (needs has : Bool) → (not needs || has) ≡ true → (x : ℕ) (past : Past) → Around has x past → Around needs x past
  by_need true true e x past h = h
  by_need true false e x past h = absurd (true≢false (sym e))
  by_need false has e x past h = around_open has x past h

pub after_turn : (probed : Bool) (a : Alarm) (rest : List Alarm) → are_probed probed (a ∷ rest) ≡ true → are_probed (is_probe a) rest ≡ true
after_turn probed a rest e = (and_parts (not (moves_by a) || probed) (are_probed (is_probe a) rest) e).1

each_lead : (probed : Bool) (alarms : List Alarm) → are_probed probed alarms ≡ true → Leads (Around probed) (rings_each alarms) Open
unfolding rings_alone
each_lead probed [] e = Leads_from (around_open probed) Leads_nothing
each_lead probed (a ∷ []) e = Leads_from (before_turn probed a [] e) (Leads_to (around_open (is_probe a)) (alarm_leads true false a))
each_lead probed (a ∷ next ∷ rest) e =
    Leads_from (before_turn probed a (next ∷ rest) e)
    (Leads_then (rings_alone a) (rings_each (next ∷ rest)) (alarm_leads true false a) (each_lead (is_probe a) (next ∷
    rest) (after_turn probed a (next ∷ rest) e)))

-- every due alarm
pub due_alarms_lead : Leads Open due_alarms Open
unfolding due_alarms
due_alarms_lead = each_lead false ALL refl
