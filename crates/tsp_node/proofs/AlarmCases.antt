-- How a port's alarms meet their rows.
use Rattle.std.proofs.Common.{sym, ◌∙◌, ap, ◌≡◌, ◌≢◌, ℕ, Bool, true, false, List, [], ◌∷◌, refl, ◌+◌, ◌<◌, ◌++◌, zero, suc, length, take, Some, arith}
use Rattle.std.proofs.Common.{append-nil, subst, ◌&&◌, ◌||◌, if◌then◌else◌, is_some, not, slice_index_or}
use Rattle.std.proofs.{lemmas.Bool.false≢true, lemmas.Bool.and_parts, Math.Seq.take-suc}
use Rattle.tsp_rules.specs.Values.{Ring, Late, Placed, Alarm, Quiet, Window, Elect, Search, Round, Probe, CloseAlarm, ResolveAlarm, Port, ROUND, WAIT, ALL}
use Rattle.tsp_rules.specs.Answers.{alarm_rings, rings, due_alarms, rings_alone, rings_each}
use Rattle.tsp_rules.specs.{RoundRows.begins_or_waits, RoundRows.corrects, RoundRows.round_rings, CandidateRows.window_rings}
use Rattle.tsp_rules.specs.{ResolveRows.resolve_rings, Guards.is_due, Guards.is_in_time, Guards.is_over, GateRows.is_probe}
use Rattle.tsp_rules.proofs.{BuiltShared.standing_sorts, EmitsBuilt.emits_built, EmitsStill.corrects_none, EmitsStill.still_sorts}
use Rattle.tsp_rules.proofs.BuiltRoles.{built_resolve_rings, built_elect_rings, built_quiet_rings, built_search_rings, built_window_rings}
use Rattle.tsp_rules.proofs.Emits.{Alarming, Emits, Emits_arms, Emits_either, Emits_more, Emits_puts, Emits_then}
use Rattle.tsp_rules.proofs.CalmAlarms.{moves_by}
use Rattle.tsp_base.specs.Words.{deadline, Past, Performs, arms, either_by, nothing, puts, none_armed, with_deadline, for_each, grown, ◌followed_by◌}
use Rattle.tsp_base.proofs.PerformsLemmas.{Performs_nothing, Performs_same}
use Rattle.tsp_slave.{proofs.BesideLemmas.beside_sorts, specs.SlaveAlarms.slave_rings}
use Rattle.tsp_master.specs.MasterAlarms.{master_rings}
use Rattle.tsp_node.specs.{NodeStands.PortUntaken, NodeStands.PortValue, RoleAlarms.is_of_master, RoleAlarms.is_of_slave}

-- the alarms in their order, and their rows

-- one more of a list
pub take_one_more : {A : Type 0} (xs : List A) (i : ℕ) (d : A) → i < length xs → take (i + 1) xs ≡ take i xs ++ slice_index_or xs i d ∷ []
take_one_more xs i d h = let one : i + 1 ≡ suc i = omega arith in ap (λ k. take k xs) one ∙ take-suc xs i d h

-- a row for each of these alarms is theirs, one after the other
each_is : (alarms : List Alarm) (x : ℕ) (past : Past) → for_each rings_alone alarms x past ≡ rings_each alarms x past
unfolding for_each ◌followed_by◌ nothing
each_is [] x past = refl
each_is (a ∷ []) x past = append-nil (rings_alone a x past)
each_is (a ∷ b ∷ rest) x past = ap (λ acts. rings_alone a x past ++ acts) (each_is (b ∷ rest) x (grown x past (rings_alone a x past)))

pub all_due : (x : ℕ) (past : Past) → for_each rings_alone ALL x past ≡ due_alarms x past
unfolding due_alarms
all_due x past = each_is ALL x past

-- whether b is the alarm that is armed where a alone is
abbrev is_same : Alarm → Alarm → Bool
is_same a b = is_some (deadline (with_deadline none_armed a (Some 0)) b)

-- an alarm's place in the order
abbrev place_in : Alarm → List Alarm → ℕ
place_in a [] = 0
place_in a (b ∷ rest) = if is_same a b then 0 else suc (place_in a rest)

abbrev pub place : Alarm → ℕ
place a = place_in a ALL

pub at_place : (a : Alarm) → slice_index_or ALL (place a) Quiet ≡ a
at_place Quiet = refl
at_place _ = refl

pub has_place : (a : Alarm) → place a < length ALL
has_place Quiet = omega arith
has_place _ = omega arith

-- whether a Probe stands right before each Close of these alarms; `probed` says whether one stood before the first
abbrev are_probed : Bool → List Alarm → Bool
are_probed probed [] = true
are_probed probed (a ∷ rest) = (not (moves_by a) || probed) && are_probed (is_probe a) rest

a_probe : (a : Alarm) → is_probe a ≡ true → a ≡ Probe
a_probe Probe e = refl
a_probe _ e = absurd (false≢true e)

-- what comes right before a Close of these alarms
close_after : (alarms : List Alarm) (i : ℕ) (probed : Bool) → are_probed probed alarms ≡ true → slice_index_or alarms (suc i) Quiet ≡ CloseAlarm →
    slice_index_or alarms i Quiet ≡ Probe
close_after [] i probed e is = let bad : ⊥ = cc in absurd bad
close_after (a ∷ []) zero probed e is = let bad : ⊥ = cc in absurd bad
close_after (a ∷ b ∷ rest) zero probed e is =
    let later = (and_parts (not (moves_by a) || probed) (are_probed (is_probe a) (b ∷ rest)) e).1 in
    a_probe a (and_parts (is_probe a) (are_probed (is_probe b) rest) (subst (λ z. ((not (moves_by z) || is_probe a) && are_probed (is_probe b) rest) ≡
    true) is later)).0
close_after (a ∷ rest) (suc i) probed e is = close_after rest i (is_probe a) (and_parts (not (moves_by a) || probed) (are_probed (is_probe a) rest) e).1 is

-- the Close comes right after the Probe
pub close_after_probe : (i : ℕ) → slice_index_or ALL (i + 1) Quiet ≡ CloseAlarm → slice_index_or ALL i Quiet ≡ Probe
close_after_probe i e = let one : i + 1 ≡ suc i = omega arith in close_after ALL i false refl (ap (λ k. slice_index_or ALL k Quiet) (sym one) ∙ e)

-- whether an alarm is due, as the station has it
due_is : (alarm : Alarm) (x : ℕ) (past : Past) (state : PortValue) → PortUntaken past state → is_due alarm x past ≡
    is_over (deadline state.station.alarms alarm) x
due_is alarm x past state h = ap (λ ds. is_over (deadline ds alarm) x) (sym h.stands.station.alarms)

-- one that isn't due does nothing
not_due : (own wait : Bool) (alarm : Alarm) (x : ℕ) (past : Past) → is_due alarm x past ≡ false → rings own wait alarm x past ≡ nothing x past
unfolding rings either_by
not_due own wait alarm x past d = rw d refl

-- one that is rings
now_due : (own wait : Bool) (alarm : Alarm) (x : ℕ) (past : Past) → is_due alarm x past ≡ true → rings own wait alarm x past ≡ alarm_rings own wait alarm x past
unfolding rings either_by
now_due own wait alarm x past d = rw d refl

pub Performs_not_due : {x : ℕ} {port : Port} {old : List Placed} (own wait : Bool) (alarm : Alarm) (before : PortValue) →
    is_over (deadline before.station.alarms alarm) x ≡ false → Performs PortUntaken PortUntaken (rings own wait alarm) x port before before old old
Performs_not_due {x = x} own wait alarm before e = Performs_same (rings own wait alarm)
    (λ past h. sym (not_due own wait alarm x past (due_is alarm x past before h ∙ e))) Performs_nothing

pub corrects_not_due : (x : ℕ) (own wait : Bool) (alarm : Alarm) (before : PortValue) → is_over (deadline before.station.alarms alarm) x ≡ false →
    (past : Past) → PortUntaken past before → false ≡ corrects (rings own wait alarm x past)
unfolding nothing
corrects_not_due x own wait alarm before e past h = ap corrects (sym (not_due own wait alarm x past (due_is alarm x past before h ∙ e)))

pub Performs_now_due : {x : ℕ} {port : Port} {after : PortValue} {old new : List Placed} (own wait : Bool) (alarm : Alarm) (before : PortValue) →
    is_over (deadline before.station.alarms alarm) x ≡ true →
    Performs PortUntaken PortUntaken (alarm_rings own wait alarm) x port before after old new →
    Performs PortUntaken PortUntaken (rings own wait alarm) x port before after old new
Performs_now_due {x = x} own wait alarm before e d = Performs_same (rings own wait alarm)
    (λ past h. sym (now_due own wait alarm x past (due_is alarm x past before h ∙ e))) d

pub corrects_now_due : (x : ℕ) (own wait : Bool) (alarm : Alarm) (before : PortValue) → is_over (deadline before.station.alarms alarm) x ≡ true → (b : Bool) →
    ((past : Past) → PortUntaken past before → b ≡ corrects (alarm_rings own wait alarm x past)) → (past : Past) → PortUntaken past before → b ≡
    corrects (rings own wait alarm x past)
corrects_now_due x own wait alarm before e b k past h = k past h ∙ ap corrects (sym (now_due own wait alarm x past (due_is alarm x past before h ∙ e)))

-- an alarm that is no candidate's and no master's
pub of_slave : (wait : Bool) (alarm : Alarm) → is_of_master wait alarm ≡ false → alarm ≢ Round → alarm ≢ Window → alarm ≢ ResolveAlarm → is_of_slave alarm ≡
    true
of_slave wait Window e r w s = absurd (w refl)
of_slave wait Probe e r w s = absurd (false≢true (sym e))
of_slave wait CloseAlarm e r w s = absurd (false≢true (sym e))
of_slave wait ResolveAlarm e r w s = absurd (s refl)
of_slave wait Round e r w s = absurd (r refl)
of_slave wait _ e r w s = refl

-- one that isn't its master's is no Probe
pub no_probe : (wait : Bool) (alarm : Alarm) → is_of_master wait alarm ≡ false → alarm ≡ Probe → ⊥
no_probe wait Probe e is = false≢true (sym e)
no_probe wait _ e is = let bad : ⊥ = cc in bad

-- a Round that isn't its master's waits
pub waits : (wait : Bool) → is_of_master wait Round ≡ false → wait ≡ true
waits true e = refl
waits false e = absurd (false≢true (sym e))

-- a master's alarm has its row
pub master_rings_is : (own wait : Bool) (alarm : Alarm) → is_of_master wait alarm ≡ true → master_rings own alarm ≡ alarm_rings own wait alarm
unfolding master_rings alarm_rings
master_rings_is own wait Probe e = refl
master_rings_is own wait CloseAlarm e = refl
master_rings_is own false Round e = refl
master_rings_is own _ _ e = absurd (false≢true e)

-- what an alarm of a port that is Starting, Loose or follows puts
pub slave_alarm : (own wait : Bool) (alarm : Alarm) → is_of_slave alarm ≡ true → Emits standing_sorts (alarm_rings own wait alarm)
unfolding alarm_rings
slave_alarm own wait Quiet e = emits_built refl built_quiet_rings
slave_alarm own wait Search e = emits_built refl built_search_rings
slave_alarm own wait Elect e = emits_built refl built_elect_rings
slave_alarm own wait _ e = absurd (false≢true e)

-- one that the slave handles has the slave's row
pub slave_rings_is : (own wait : Bool) (alarm : Alarm) → is_of_slave alarm ≡ true → alarm ≢ Elect → slave_rings alarm ≡ alarm_rings own wait alarm
unfolding slave_rings alarm_rings
slave_rings_is own wait Quiet b e = refl
slave_rings_is own wait Search b e = refl
slave_rings_is own wait Elect b e = absurd (e refl)
slave_rings_is own wait _ b e = absurd (false≢true b)

pub beside_alarm : (own wait : Bool) (alarm : Alarm) → is_of_slave alarm ≡ true → Emits beside_sorts (alarm_rings own wait alarm)
beside_alarm own wait alarm e = Emits_more standing_sorts refl (slave_alarm own wait alarm e)

-- the alarms of a port that is Starting, Loose or follows correct no clock, nor does a candidate's, nor a round that waits
corrects_alarm : (own wait : Bool) (alarm : Alarm) → is_of_slave alarm ≡ true → (x : ℕ) (past : Past) → false ≡ corrects (alarm_rings own wait alarm x past)
corrects_alarm own wait alarm e x past = sym (corrects_none (alarm_rings own wait alarm x past)
    ((Emits_more standing_sorts {all = still_sorts} refl (slave_alarm own wait alarm e)).only x past))

pub beside_window : Emits beside_sorts window_rings
beside_window = emits_built refl (built_window_rings tt)

corrects_window : (x : ℕ) (past : Past) → false ≡ corrects (window_rings x past)
corrects_window x past = sym (corrects_none (window_rings x past) ((emits_built {all = still_sorts} refl (built_window_rings tt)).only x past))

pub emits_wait : Emits (Alarming ∷ []) (round_rings true)
unfolding round_rings begins_or_waits
emits_wait = Emits_either (is_in_time Round) _ _ (Emits_then (puts (Ring Round)) (arms Round WAIT) (Emits_puts (Ring Round) refl) (Emits_arms Round WAIT refl))
    (Emits_then (puts (Late Round)) (arms Round ROUND) (Emits_puts (Late Round) refl) (Emits_arms Round ROUND refl))

corrects_wait : (x : ℕ) (past : Past) → false ≡ corrects (round_rings true x past)
corrects_wait x past = sym (corrects_none (round_rings true x past) ((Emits_more (Alarming ∷ []) {all = still_sorts} refl emits_wait).only x past))

corrects_resolve : (x : ℕ) (past : Past) → false ≡ corrects (resolve_rings x past)
corrects_resolve x past = sym (corrects_none (resolve_rings x past) ((emits_built {all = still_sorts} refl built_resolve_rings).only x past))

-- an alarm that isn't its master's corrects no clock
pub corrects_beside : (own wait : Bool) (alarm : Alarm) → is_of_master wait alarm ≡ false → (x : ℕ) (past : Past) → false ≡
    corrects (alarm_rings own wait alarm x past)
unfolding alarm_rings
corrects_beside own wait Window e x past = corrects_window x past
corrects_beside own wait Probe e x past = absurd (false≢true (sym e))
corrects_beside own wait CloseAlarm e x past = absurd (false≢true (sym e))
corrects_beside own wait ResolveAlarm e x past = corrects_resolve x past
corrects_beside own true Round e x past = corrects_wait x past
corrects_beside own false Round e x past = absurd (false≢true (sym e))
corrects_beside own wait a e x past = corrects_alarm own wait a refl x past
