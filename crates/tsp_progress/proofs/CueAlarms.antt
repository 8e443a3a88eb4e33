-- Each alarm has one cue, the first act of its row; so has what is taken.
use Rattle.std.proofs.Common.{◌≡◌, ◌⊎◌, inl, inr, ℕ, ℤ, Bool, true, false, if◌then◌else◌, List, [], ◌∷◌, ◌++◌, Option, ap}
use Rattle.std.proofs.Common.{refl}
use Rattle.tsp_rules.specs.Values.{Act, Took, Become, Ring, Late, Abandon, Alarm, Quiet, Search, Elect, Window, Probe, CloseAlarm}
use Rattle.tsp_rules.specs.Values.{ResolveAlarm, Round, PeerId, Place, Loose, Master}
use Rattle.tsp_rules.specs.Values.{MasterUp, QuitKind}
use Rattle.tsp_rules.specs.Values.{Taken}
use Rattle.tsp_rules.specs.Values.{ROUND, PROBE, CLOSE, WAIT, SPAN}
use Rattle.tsp_base.specs.Words.{Estimate, Past, Row, arms, either_by, for_each, grown, nothing, posts_to_others, puts}
use Rattle.tsp_base.specs.Words.{reading, ◌followed_by◌}
use Rattle.tsp_rules.specs.CandidateRows.{has_won, lead_row, yields, window_rings}
use Rattle.tsp_rules.specs.CommonRows.{arms_elect, candidature_row, searches}
use Rattle.tsp_rules.specs.SlaveRows.{quiet_rings, rings_or_late, search_rings, loosens, elect_rings}
use Rattle.tsp_rules.specs.{ResolveRows.resolve_rings, ResolveRows.quits_rivals}
use Rattle.tsp_rules.specs.{ClockRows.adjusts, ClockRows.can_adjust}
use Rattle.tsp_rules.specs.RoundRows.{Standing, round_rings, begins_or_waits, round_begins, asks, asks_slaves, probe_rings, asks_measured, arms_next, abandons}
use Rattle.tsp_rules.specs.RoundRows.{has_more, measured_at, close_act, close_rings, closes, closes_with, corrects_by, corrects_peer, estimates, mean_by, moves}
use Rattle.tsp_rules.specs.RoundRows.{round_at}
use Rattle.tsp_rules.specs.Guards.{is_in_time, is_own, may_stand_at, follows_at}
use Rattle.tsp_rules.specs.Guards.{table_at, rivals_at}
use Rattle.tsp_rules.specs.SendRows.{begins}
use Rattle.tsp_rules.specs.Answers.{alarm_rings, handles, takes}
use Rattle.tsp_rules.proofs.Emits.{Numbering, Moving, Asking}
use Rattle.tsp_rules.proofs.Emits.{Emits_adjusts}
use Rattle.tsp_rules.proofs.{Built.At}
use Rattle.tsp_rules.proofs.{RowCodes.Asks}
use Rattle.tsp_rules.proofs.BuiltShared.{built_begins}
use Rattle.tsp_rules.proofs.BuiltRounds.{correct_sorts, built_corrects_by}
use Rattle.tsp_rules.proofs.EmitsBuilt.{nothing_measured}
use Rattle.tsp_group.specs.{Groups.group_of, declared.group.Group.Group}
use Rattle.tsp_progress.proofs.CueRows.{Plain, Plain_arms, Plain_each, Plain_either, Plain_nothing, Plain_puts, Plain_reading, Plain_then, Uncued, calm}
use Rattle.tsp_progress.proofs.CueRows.{candidature, elects, emit, handled, search, to_others, uncued_append, yield}

-- acts that begin with a cue of this sort, and have no other
pub record Cued (good : Act → Type 0) (acts : List Act) : Type 0 where
  pub cue : Act
  pub rest : List Act
  pub is : acts ≡ cue ∷ rest
  pub good_is : good cue
  pub uncued : Uncued rest

-- a row of such acts
pub record Answering (good : Act → Type 0) (row : Row) : Type 0 where
  pub run : (x : ℕ) (past : Past) → Cued good (row x past)

module _ {good : Act → Type 0} where
  pub cue_puts : (a : Act) → good a → Answering good (puts a)
  unfolding puts
  cue_puts a g = record { run = λ x past. record { cue = a; rest = []; is = refl; good_is = g; uncued = tt } }

  pub cue_then : (a : Act) (r : Row) → good a → Plain r → Answering good (puts a followed_by r)
  unfolding ◌followed_by◌ puts
  cue_then a r g p = record {
    run = λ x past. record { cue = a; rest = r x (grown x past (a ∷ [])); is = refl; good_is = g; uncued = p.run x (grown x past (a ∷ [])) };
  }

  pub cue_either : (test : ℕ → Past → Bool) (r s : Row) → Answering good r → Answering good s → Answering good (either_by test r s)
  unfolding either_by
  cue_either test r s p q = record {
    run = λ x past. elim (test x past) as (λ b. Cued good (if b then r x past else s x past)) [
      | true ↦ p.run x past
      | false ↦ q.run x past
    ];
  }

  pub cue_reading : {A : Type 0} (fact : ℕ → Past → A) (rows : A → Row) → ((a : A) → Answering good (rows a)) → Answering good (reading fact rows)
  unfolding reading
  cue_reading fact rows k = record { run = λ x past. (k (fact x past)).run x past }

  pub cue_more : (r s : Row) → Answering good r → Plain s → Answering good (r followed_by s)
  unfolding ◌followed_by◌
  cue_more r s p q = record {
    run = λ x past. let c = p.run x past in let after = s x (grown x past (r x past)) in record {
      cue = c.cue;
      rest = c.rest ++ after;
      is = ap (λ acts. acts ++ after) c.is;
      good_is = c.good_is;
      uncued = uncued_append c.rest after c.uncued (q.run x (grown x past (r x past)));
    };
  }

-- the alarm goes off
abbrev pub GoesOff : Alarm → Act → Type 0
GoesOff a act = (act ≡ Ring a) ⊎ (act ≡ Late a)

-- the row of an alarm in time, or late
in_time : (a : Alarm) (r s : Row) → Plain r → Plain s → Answering (GoesOff a) (either_by (is_in_time a) (puts (Ring a) followed_by r)
    (puts (Late a) followed_by s))
in_time a r s p q = cue_either (is_in_time a) (puts (Ring a) followed_by r) (puts (Late a) followed_by s) (cue_then (Ring a) r (inl refl) p)
    (cue_then (Late a) s (inr refl) q)

loosen : Plain loosens
unfolding loosens
loosen = Plain_either follows_at (puts (Become Loose)) nothing (Plain_puts (Become Loose) refl) Plain_nothing

lead : Plain lead_row
unfolding lead_row
lead = Plain_then (puts (Become Master)) (arms Round ROUND followed_by posts_to_others MasterUp 0) (Plain_puts (Become Master) refl)
    (Plain_then (arms Round ROUND) (posts_to_others MasterUp 0) (Plain_arms Round ROUND) (to_others MasterUp refl))

ask : (p : PeerId) → Plain (asks p)
ask p = calm {sorts = Asking ∷ []} refl refl refl (At (Asks p tt) refl)

begin : (wait : Bool) → Plain (begins_or_waits wait)
unfolding begins_or_waits round_begins asks_slaves
begin true = Plain_arms Round WAIT
begin false = Plain_then (arms Round ROUND) (arms Probe PROBE followed_by (arms CloseAlarm CLOSE followed_by (posts_to_others MasterUp 0 followed_by
    reading table_at (for_each asks)))) (Plain_arms Round ROUND)
    (Plain_then (arms Probe PROBE) (arms CloseAlarm CLOSE followed_by (posts_to_others MasterUp 0 followed_by reading table_at (for_each asks)))
    (Plain_arms Probe PROBE)
    (Plain_then (arms CloseAlarm CLOSE) (posts_to_others MasterUp 0 followed_by reading table_at (for_each asks)) (Plain_arms CloseAlarm CLOSE)
    (Plain_then (posts_to_others MasterUp 0) (reading table_at (for_each asks)) (to_others MasterUp refl)
    (Plain_reading table_at (for_each asks) (λ ps. Plain_each asks ps ask)))))

abandon : Plain abandons
unfolding abandons
abandon = Plain_puts Abandon refl

probe : Plain (asks_measured followed_by arms_next)
unfolding asks_measured arms_next
probe = Plain_then (reading measured_at (for_each asks)) (either_by has_more (arms Probe PROBE) nothing)
    (Plain_reading measured_at (for_each asks) (λ ps. Plain_each asks ps ask))
    (Plain_either has_more (arms Probe PROBE) nothing (Plain_arms Probe PROBE) Plain_nothing)

move : (own : Bool) (mean : ℤ) → Plain (moves own mean)
unfolding moves
move true mean = emit (Moving ∷ []) (adjusts mean) refl refl (Emits_adjusts mean refl)
move false mean = Plain_nothing

correct : (mean : ℤ) (p : PeerId) (best : Option Estimate) → Plain (corrects_by mean p best)
correct mean p best = calm {sorts = correct_sorts} refl refl refl (built_corrects_by mean p tt best (nothing_measured mean best))

close : (own : Bool) (g : Group) (round : List Standing) → Plain (closes_with own g round)
unfolding closes_with corrects_peer
close own g round = let mean = mean_by own g in
    Plain_either (can_adjust mean) (puts (close_act own g) followed_by (moves own mean followed_by for_each (λ s. corrects_by mean s.peer s.best) round))
    abandons
    (Plain_then (puts (close_act own g)) (moves own mean followed_by for_each (λ s. corrects_by mean s.peer s.best) round) (Plain_puts (close_act own g) refl)
    (Plain_then (moves own mean) (for_each (λ s. corrects_by mean s.peer s.best) round) (move own mean)
    (Plain_each (λ (s : Standing). corrects_by mean s.peer s.best) round (λ s. correct mean s.peer s.best))))
    abandon

-- each alarm has one cue, and that is the first act of its row
pub alarm_cued : (own wait : Bool) (a : Alarm) → Answering (GoesOff a) (alarm_rings own wait a)
unfolding alarm_rings quiet_rings search_rings rings_or_late elect_rings window_rings probe_rings close_rings closes resolve_rings quits_rivals round_rings
alarm_cued own wait Quiet = cue_then (Ring Quiet) (puts (Become Loose) followed_by searches) (inl refl)
    (Plain_then (puts (Become Loose)) searches (Plain_puts (Become Loose) refl) search)
alarm_cued own wait Search = cue_more (either_by (is_in_time Search) (puts (Ring Search)) (puts (Late Search))) arms_elect
    (cue_either (is_in_time Search) (puts (Ring Search)) (puts (Late Search)) (cue_puts (Ring Search) (inl refl)) (cue_puts (Late Search) (inr refl))) elects
alarm_cued own wait Elect = in_time Elect (either_by may_stand_at candidature_row (loosens followed_by searches)) arms_elect
    (Plain_either may_stand_at candidature_row (loosens followed_by searches) candidature (Plain_then loosens searches loosen search)) elects
alarm_cued own wait Window = in_time Window (either_by has_won lead_row yields) yields (Plain_either has_won lead_row yields lead yield) yield
alarm_cued own wait Probe = in_time Probe (asks_measured followed_by arms_next) abandons probe abandon
alarm_cued own wait CloseAlarm = cue_either (is_in_time CloseAlarm) (reading round_at (λ round. puts (Ring CloseAlarm) followed_by closes_with own
    (group_of SPAN (estimates round)) round)) (puts (Late CloseAlarm) followed_by abandons)
    (cue_reading round_at _ (λ round. cue_then (Ring CloseAlarm) (closes_with own (group_of SPAN (estimates round)) round) (inl refl)
    (close own (group_of SPAN (estimates round)) round)))
    (cue_then (Late CloseAlarm) abandons (inr refl) abandon)
alarm_cued own wait ResolveAlarm = cue_either (is_in_time ResolveAlarm) (puts (Ring ResolveAlarm) followed_by reading rivals_at (for_each (begins QuitKind)))
    (puts (Late ResolveAlarm))
    (cue_then (Ring ResolveAlarm) (reading rivals_at (for_each (begins QuitKind))) (inl refl)
    (Plain_reading rivals_at (for_each (begins QuitKind)) (λ ps. Plain_each (begins QuitKind) ps (λ p. calm {sorts = Numbering ∷ []} refl refl refl
    (built_begins QuitKind p tt refl refl)))))
    (cue_puts (Late ResolveAlarm) (inr refl))
alarm_cued own wait Round = in_time Round (begins_or_waits wait) (arms Round ROUND) (begin wait) (Plain_arms Round ROUND)

-- so it is of what is taken
pub taking_cued : (steer charge : Bool) (from : Place) (t : Taken) → Answering (λ a. a ≡ Took from t) (takes steer charge from t)
unfolding takes
taking_cued steer charge from t = cue_then (Took from t) (either_by (is_own from) nothing (handles steer charge from t)) refl
    (Plain_either (is_own from) nothing (handles steer charge from t) Plain_nothing (handled steer charge from t))
