-- What due sends and due alarms put: few acts, and calm ones.
use Rattle.std.specs.Prelude.{◌≡◌, Bool, true, false, refl}
use Rattle.tsp_rules.specs.Values.{Alarm, Quiet, Window, Elect, Search, Round, Probe, CloseAlarm, ResolveAlarm}
use Rattle.tsp_rules.specs.{Answers.rings, Answers.rings_alone, Answers.due_alarms, SendRows.due_sends}
use Rattle.tsp_rules.proofs.{BuiltAnswers.ring_sorts, BuiltAnswers.built_rings, BuiltSends.built_due_sends, Emits.Moving, Emits.is_in}
use Rattle.tsp_rules.proofs.{CalmBuilt.calm_built, CalmBuilt.calm_unmoving, FewActs.Calm, FewActs.calm_then}

-- whether an alarm may move the clock
abbrev pub moves_by : Alarm → Bool
moves_by CloseAlarm = true
moves_by _ = false

moves_part : (a : Alarm) → is_in Moving (ring_sorts a) ≡ true → moves_by a ≡ true
moves_part CloseAlarm e = refl
moves_part _ e = e

module _ {strange moving : Bool} where
  pub calm_due_sends : Calm strange moving 2 0 due_sends
  calm_due_sends = calm_unmoving refl built_due_sends

  -- only a close moves the clock
  pub calm_rings : (own wait : Bool) (a : Alarm) → (moves_by a ≡ true → moving ≡ true) → Calm strange moving 2 4 (rings own wait a)
  calm_rings own wait a may = calm_built (λ h. may (moves_part a h)) (built_rings own wait a)

module _ {strange : Bool} where
  pub calm_alone : (a : Alarm) → Calm strange true 2 4 (rings_alone a)
  unfolding rings_alone
  calm_alone a = calm_rings true false a (λ e. refl)

  pub calm_due_alarms : Calm strange true 16 32 due_alarms
  unfolding due_alarms
  calm_due_alarms =
      calm_then 2 4 14 28 (rings_alone Quiet) _ (calm_alone Quiet) (calm_then 2 4 12 24 (rings_alone Search) _ (calm_alone Search)
      (calm_then 2 4 10 20 (rings_alone Elect) _ (calm_alone Elect)
      (calm_then 2 4 8 16 (rings_alone Window) _ (calm_alone Window) (calm_then 2 4 6 12 (rings_alone Probe) _ (calm_alone Probe)
      (calm_then 2 4 4 8 (rings_alone CloseAlarm) _ (calm_alone CloseAlarm)
      (calm_then 2 4 2 4 (rings_alone ResolveAlarm) (rings_alone Round) (calm_alone ResolveAlarm) (calm_alone Round)))))))
