-- A network without a master that gets one, and networks that don't.
use Rattle.std.specs.Prelude.{◌≡◌, ◌<◌, ◌+◌, List, [], ◌∷◌}
use Rattle.tsp_rules.specs.Values.{BootAt, Event, Master, Take, Turn}
use Rattle.tsp_base.specs.Words.{dids, time_of}
use Rattle.tsp_promises.specs.Setting.{Setting}
use Rattle.tsp_run.specs.{Ranges.Accepted, Run.run, Setting.SetBy}
use Rattle.tsp_progress.specs.{FollowOn.role_of, FollowUse.two_stay, OneUse.two_may, RefusedUse.both_lose, RefusedUse.until_elects, Watched.Attended}
use Rattle.tsp_progress.specs.Headless.{AllUp, Fair, Foremost, Headless, delay_of, longest_headless}

-- both boot at once, and have looked for a master; a's delay is 300 s, and b's 310 s
abbrev pub until_waits : List Event
until_waits = Turn 85000000 1 ∷ Turn 85000000 0 ∷ Turn 80000000 1 ∷ Turn 80000000 0 ∷ BootAt 0 1 10000000 ∷ BootAt 0 0 0 ∷ []

-- a stands when its delay has passed, b backs it, and a leads
abbrev pub a_leads : List Event
a_leads = Turn 390000000 0 ∷ Take 385020000 3 ∷ Take 385010000 2 ∷ Turn 385000000 0 ∷ until_waits

-- both have the same delay, stand at one moment four times, and refuse each other
abbrev pub second_wave : List Event
second_wave = Take 685040000 9 ∷ Take 685040000 8 ∷ Take 685030000 6 ∷ Take 685030000 7 ∷ Turn 685020000 0 ∷ Turn 685020000 1 ∷ both_lose

abbrev pub third_wave : List Event
third_wave = Take 985060000 13 ∷ Take 985060000 12 ∷ Take 985050000 10 ∷ Take 985050000 11 ∷ Turn 985040000 0 ∷ Turn 985040000 1 ∷ second_wave

abbrev pub fourth_wave : List Event
fourth_wave = Take 1285080000 17 ∷ Take 1285080000 16 ∷ Take 1285070000 14 ∷ Take 1285070000 15 ∷ Turn 1285060000 0 ∷ Turn 1285060000 1 ∷ third_wave

-- each Elect is looked at one tick more than SLACK late
abbrev pub looks_late : List Event
looks_late = Turn 1329000004 1 ∷ Turn 1289000004 0 ∷ Turn 1018000003 1 ∷ Turn 988000003 0 ∷ Turn 707000002 1 ∷ Turn 687000002 0 ∷ Turn 396000001 1 ∷
    Turn 386000001 0 ∷ until_waits

pub record HeadlessUse : Type 0 where
  -- all that is asked for holds of this run, in which nobody leads for 5 minutes, and then a does
  pub accepted : Accepted two_may a_leads
  pub fair : (setting : Setting) → SetBy two_may setting → Fair two_may setting 0 10000 389999999 two_stay (run two_may until_waits) (run two_may a_leads)
  pub up : AllUp two_stay (run two_may until_waits) (run two_may a_leads)
  pub foremost : (setting : Setting) → SetBy two_may setting → Foremost two_may setting 0 10000 two_stay 0 (run two_may until_waits)
  pub headless : Headless two_stay 389999999 (run two_may until_waits) (run two_may a_leads)
  pub leads : role_of 0 (run two_may a_leads) ≡ Master
  -- where both have the same delay, all else holds of a run in which nobody leads for longer
  pub equal_accepted : Accepted two_may fourth_wave
  pub equal_fair : (setting : Setting) → SetBy two_may setting →
      Fair two_may setting 0 10000 1346000000 two_stay (run two_may until_elects) (run two_may fourth_wave)
  pub equal_up : AllUp two_stay (run two_may until_elects) (run two_may fourth_wave)
  pub equal_headless : Headless two_stay 1346000000 (run two_may until_elects) (run two_may fourth_wave)
  pub equal_long : time_of (dids (run two_may until_elects)) + longest_headless 10000 (delay_of 0 (run two_may until_elects)) < 1346000000
  -- where each Elect is looked at one tick more than 1 s late, too
  pub late_accepted : Accepted two_may looks_late
  pub late_attended : Attended 1000001 (run two_may looks_late)
  pub late_foremost : (setting : Setting) → SetBy two_may setting → Foremost two_may setting 1000001 10000 two_stay 0 (run two_may until_waits)
  pub late_headless : Headless two_stay 1346000000 (run two_may until_waits) (run two_may looks_late)
  pub late_long : time_of (dids (run two_may until_waits)) + longest_headless 10000 (delay_of 0 (run two_may until_waits)) < 1346000000
