-- Of the rows of alarms and of a boot none arms Resolve.
use Rattle.std.proofs.Common.{Bool, true, false, [], ◌∷◌}
use Rattle.std.proofs.Common.{refl}
use Rattle.tsp_rules.specs.Values.{Become, Ring, Late, Abandon, Alarm, Quiet, Search, Elect, Window, Round, Probe}
use Rattle.tsp_rules.specs.Values.{CloseAlarm}
use Rattle.tsp_rules.specs.Values.{ResolveAlarm, PeerId, Starting, Loose, Master}
use Rattle.tsp_rules.specs.Values.{MasterUp, QuitKind}
use Rattle.tsp_rules.specs.Values.{CLOSE, PROBE, QUIET, ROUND, WAIT}
use Rattle.tsp_base.specs.Words.{Row, arms, either_by, for_each, nothing, posts_to_others, puts}
use Rattle.tsp_base.specs.Words.{reading, ◌followed_by◌}
use Rattle.tsp_rules.specs.CandidateRows.{has_won, lead_row, window_rings, yields}
use Rattle.tsp_rules.specs.CommonRows.{arms_elect, candidature_row, searches}
use Rattle.tsp_rules.specs.SlaveRows.{quiet_rings, rings_or_late, search_rings, loosens, elect_rings}
use Rattle.tsp_rules.specs.Guards.{follows_at, is_due, is_in_time, may_stand_at, rivals_at, table_at}
use Rattle.tsp_rules.specs.ResolveRows.{resolve_rings, quits_rivals}
use Rattle.tsp_rules.specs.RoundRows.{round_rings, begins_or_waits, round_begins, asks, asks_slaves, probe_rings, asks_measured, arms_next, abandons, has_more}
use Rattle.tsp_rules.specs.RoundRows.{measured_at}
use Rattle.tsp_rules.specs.SendRows.{begins}
use Rattle.tsp_rules.specs.Answers.{alarm_rings, rings}
use Rattle.tsp_rules.proofs.Emits.{Asking, Numbering}
use Rattle.tsp_rules.proofs.{Built.At}
use Rattle.tsp_rules.proofs.{RowCodes.Asks, BuiltRounds.built_close_rings, BuiltRounds.close_sorts}
use Rattle.tsp_rules.proofs.BuiltShared.{built_begins}
use Rattle.tsp_progress.proofs.AskRows.{Clear, Clear_arms, Clear_each, Clear_either, Clear_nothing, Clear_puts, Clear_reading, Clear_then, calm, candidature}
use Rattle.tsp_progress.proofs.AskRows.{elects}
use Rattle.tsp_progress.proofs.AskRows.{search, to_others, yield}

-- the alarms

ask : (p : PeerId) → Clear (asks p)
ask p = calm {sorts = Asking ∷ []} refl refl (At (Asks p tt) refl)

loosen : Clear loosens
unfolding loosens
loosen = Clear_either follows_at (puts (Become Loose)) nothing (Clear_puts (Become Loose) refl) Clear_nothing

lead : Clear lead_row
unfolding lead_row
lead = Clear_then (puts (Become Master)) (arms Round ROUND followed_by posts_to_others MasterUp 0) (Clear_puts (Become Master) refl)
    (Clear_then (arms Round ROUND) (posts_to_others MasterUp 0) (Clear_arms Round ROUND (λ at. refl)) (to_others MasterUp refl))

begin : (wait : Bool) → Clear (begins_or_waits wait)
unfolding begins_or_waits round_begins asks_slaves
begin true = Clear_arms Round WAIT (λ at. refl)
begin false = Clear_then (arms Round ROUND) (arms Probe PROBE followed_by (arms CloseAlarm CLOSE followed_by (posts_to_others MasterUp 0 followed_by
    reading table_at (for_each asks)))) (Clear_arms Round ROUND (λ at. refl))
    (Clear_then (arms Probe PROBE) (arms CloseAlarm CLOSE followed_by (posts_to_others MasterUp 0 followed_by reading table_at (for_each asks)))
    (Clear_arms Probe PROBE (λ at. refl))
    (Clear_then (arms CloseAlarm CLOSE) (posts_to_others MasterUp 0 followed_by reading table_at (for_each asks)) (Clear_arms CloseAlarm CLOSE (λ at. refl))
    (Clear_then (posts_to_others MasterUp 0) (reading table_at (for_each asks)) (to_others MasterUp refl)
    (Clear_reading table_at (for_each asks) (λ ps. Clear_each asks ps ask)))))

abandon : Clear abandons
unfolding abandons
abandon = Clear_puts Abandon refl

probe : Clear (asks_measured followed_by arms_next)
unfolding asks_measured arms_next
probe = Clear_then (reading measured_at (for_each asks)) (either_by has_more (arms Probe PROBE) nothing)
    (Clear_reading measured_at (for_each asks) (λ ps. Clear_each asks ps ask))
    (Clear_either has_more (arms Probe PROBE) nothing (Clear_arms Probe PROBE (λ at. refl)) Clear_nothing)

-- in time, or late
in_time : (a : Alarm) (r s : Row) → Clear r → Clear s → Clear (either_by (is_in_time a) (puts (Ring a) followed_by r) (puts (Late a) followed_by s))
in_time a r s p q = Clear_either (is_in_time a) (puts (Ring a) followed_by r) (puts (Late a) followed_by s)
    (Clear_then (puts (Ring a)) r (Clear_puts (Ring a) refl) p) (Clear_then (puts (Late a)) s (Clear_puts (Late a) refl) q)

off : (own wait : Bool) (a : Alarm) → Clear (alarm_rings own wait a)
unfolding alarm_rings quiet_rings search_rings rings_or_late elect_rings window_rings probe_rings resolve_rings quits_rivals round_rings
off own wait Quiet = Clear_then (puts (Ring Quiet)) (puts (Become Loose) followed_by searches) (Clear_puts (Ring Quiet) refl)
    (Clear_then (puts (Become Loose)) searches (Clear_puts (Become Loose) refl) search)
off own wait Search = Clear_then (either_by (is_in_time Search) (puts (Ring Search)) (puts (Late Search))) arms_elect
    (Clear_either (is_in_time Search) (puts (Ring Search)) (puts (Late Search)) (Clear_puts (Ring Search) refl) (Clear_puts (Late Search) refl)) elects
off own wait Elect = in_time Elect (either_by may_stand_at candidature_row (loosens followed_by searches)) arms_elect
    (Clear_either may_stand_at candidature_row (loosens followed_by searches) candidature (Clear_then loosens searches loosen search)) elects
off own wait Window = in_time Window (either_by has_won lead_row yields) yields (Clear_either has_won lead_row yields lead yield) yield
off own wait Probe = in_time Probe (asks_measured followed_by arms_next) abandons probe abandon
off own wait CloseAlarm = calm {sorts = close_sorts} refl refl (built_close_rings own)
off own wait ResolveAlarm = Clear_either (is_in_time ResolveAlarm) (puts (Ring ResolveAlarm) followed_by reading rivals_at (for_each (begins QuitKind)))
    (puts (Late ResolveAlarm))
    (Clear_then (puts (Ring ResolveAlarm)) (reading rivals_at (for_each (begins QuitKind))) (Clear_puts (Ring ResolveAlarm) refl)
    (Clear_reading rivals_at (for_each (begins QuitKind)) (λ ps. Clear_each (begins QuitKind) ps (λ p. calm {sorts = Numbering ∷ []} refl refl
    (built_begins QuitKind p tt refl refl)))))
    (Clear_puts (Late ResolveAlarm) refl)
off own wait Round = in_time Round (begins_or_waits wait) (arms Round ROUND) (begin wait) (Clear_arms Round ROUND (λ at. refl))

-- an alarm, where it is due
pub rung : (own wait : Bool) (a : Alarm) → Clear (rings own wait a)
unfolding rings
rung own wait a = Clear_either (is_due a) (alarm_rings own wait a) nothing (off own wait a) Clear_nothing

-- a boot
pub started : Clear (puts (Become Starting) followed_by arms Quiet QUIET)
started = Clear_then (puts (Become Starting)) (arms Quiet QUIET) (Clear_puts (Become Starting) refl) (Clear_arms Quiet QUIET (λ at. refl))
