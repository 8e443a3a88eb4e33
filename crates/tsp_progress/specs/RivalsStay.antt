-- Runs in which two nodes lead, and both stay.
use Rattle.std.specs.Prelude.{◌≡◌, ◌≤◌, ℕ, ◌+◌, ◌*◌, List, ◌∷◌}
use Rattle.tsp_rules.specs.Values.{Event, Master, Take, Turn, SLACK}
use Rattle.tsp_base.specs.Words.{first_port, of, role, view}
use Rattle.tsp_promises.specs.Setting.{Setting}
use Rattle.tsp_run.specs.{Ranges.Accepted, Run.run, Setting.SetBy}
use Rattle.tsp_progress.specs.{AnswersUse.all_stay, Delivered.Delivered, FoundInTime.IsQuick, OneUse.two_may, RefusedUse.until_elects, Watched.Attended}
use Rattle.tsp_progress.specs.{RivalsUse.BothStay, RivalsUse.both_lead, RivalsUse.looked, Watched.Told}

-- both MASTERUPs are lost
abbrev pub both_lost : List Event
both_lost =
    Turn 648000000 1 ∷ Turn 643000000 1 ∷ Turn 642000000 1 ∷ Turn 641000000 1 ∷ Turn 640000000 1 ∷ Turn 638000000 0 ∷ Turn 633000000 0 ∷ Turn 632000000 0 ∷
    Turn 631000000 0 ∷ Turn 630000000 0 ∷ looked

-- each datagram takes 2.6 s, so that both answers come when the resolutions are over
abbrev pub both_slow : List Event
both_slow =
    Turn 648000000 1 ∷ Take 647800000 15 ∷ Turn 647600000 0 ∷ Take 645200000 14 ∷ Turn 643000000 1 ∷ Take 642600000 13 ∷ Turn 642000000 1 ∷
    Turn 641000000 1 ∷ Turn 640000000 1 ∷ Turn 638000000 0 ∷ Take 637800000 12 ∷ Turn 637600000 1 ∷ Take 635200000 11 ∷ Turn 633000000 0 ∷
    Take 632600000 10 ∷ Turn 632000000 0 ∷ Turn 631000000 0 ∷ Turn 630000000 0 ∷ looked

-- both Resolves are looked at one tick more than SLACK late
abbrev pub both_late : List Event
both_late =
    Turn 648000000 1 ∷ Turn 646010001 0 ∷ Turn 643000000 1 ∷ Turn 642000000 1 ∷ Turn 641000000 1 ∷ Take 640030000 15 ∷ Take 640020000 14 ∷
    Take 640010000 13 ∷ Turn 640000000 1 ∷ Turn 638000000 0 ∷ Turn 636010001 1 ∷ Turn 633000000 0 ∷ Turn 632000000 0 ∷ Turn 631000000 0 ∷
    Take 630030000 12 ∷ Take 630020000 11 ∷ Take 630010000 10 ∷ Turn 630000000 0 ∷ looked

-- both win at once; their MASTERUPs come 235 s later, and the questions to which they lead are lost
abbrev pub both_ask : List Event
both_ask =
    Take 625000002 9 ∷ Take 625000002 8 ∷ Turn 390000000 1 ∷ Turn 390000000 0 ∷ Turn 388000000 1 ∷ Turn 388000000 0 ∷ Turn 387000000 1 ∷
    Turn 387000000 0 ∷ Turn 386000000 1 ∷ Turn 386000000 0 ∷ Turn 385000000 0 ∷ Turn 385000000 1 ∷ until_elects

-- a is looked at; the first MASTERUPs come while both still look for rivals, and the next ones 240 s later
abbrev pub slowest : List Event
slowest =
    Turn 875010000 1 ∷ Turn 875010000 0 ∷ Turn 873000000 1 ∷ Turn 873000000 0 ∷ Turn 872000000 1 ∷ Turn 872000000 0 ∷ Turn 871000000 1 ∷
    Turn 871000000 0 ∷ Take 870030000 19 ∷ Take 870030000 18 ∷ Take 870020000 17 ∷ Take 870020000 16 ∷ Take 870010000 15 ∷ Take 870010000 14 ∷
    Turn 870000000 1 ∷ Turn 870000000 0 ∷ Turn 638000000 1 ∷ Turn 638000000 0 ∷ Turn 633000000 1 ∷ Turn 633000000 0 ∷ Turn 632000000 1 ∷
    Turn 632000000 0 ∷ Turn 631000000 1 ∷ Turn 631000000 0 ∷ Turn 630000002 1 ∷ Turn 630000002 0 ∷ Take 630000001 13 ∷ Take 630000001 12 ∷
    Turn 630000000 1 ∷ Turn 630000000 0 ∷ Turn 625000002 0 ∷ both_ask

-- both are told up to this true time
abbrev pub BothTold : ℕ → ℕ → List Event → Type 0
BothTold late t events = (setting : Setting) → SetBy two_may setting → Told late setting t 0 (run two_may events) × Told late setting t 1 (run two_may events)

-- they lead at the look, and stay
abbrev pub StayAfter : List Event → List Event → Type 0
StayAfter early late = (role (view first_port (of 0 (run two_may early))) ≡ Master)
    × ((role (view first_port (of 1 (run two_may early))) ≡ Master) × BothStay (run two_may early) (run two_may late))

pub record RivalsStay : Type 0 where
  -- datagrams are lost
  pub lost_accepted : Accepted two_may both_lost
  pub lost_attended : Attended 0 (run two_may both_lost)
  pub lost_told : BothTold 0 651020004 both_lost
  pub lost : StayAfter looked both_lost
  -- they aren't quick, but else in time
  pub slow_accepted : Accepted two_may both_slow
  pub slow_attended : Attended 0 (run two_may both_slow)
  pub slow_told : BothTold 0 656200004 both_slow
  pub slow_delivered : (setting : Setting) → SetBy two_may setting →
      Delivered setting 2600000 656200004 all_stay (run two_may both_lead) (run two_may both_slow)
  pub slow_bound : 401000000 + (240000001 + 2 * 5000001 + 2 * 2600000) ≡ 656200003
  pub slow_quick : (setting : Setting) → SetBy two_may setting → ¬ IsQuick setting 2600000
  pub slow : StayAfter looked both_slow
  -- the nodes are looked at too late
  pub late_accepted : Accepted two_may both_late
  pub late_attended : Attended 1000001 (run two_may both_late)
  pub late_told : BothTold 1000001 654020007 both_late
  pub late_delivered : (setting : Setting) → SetBy two_may setting →
      Delivered setting 10000 654020007 all_stay (run two_may both_lead) (run two_may both_late)
  pub late_bound : 401000000 + (241000002 + 2 * 6000002 + 2 * 10000) ≡ 654020006
  pub late_slack : ¬ (1000001 ≤ SLACK)
  pub late : StayAfter looked both_late
  -- the history isn't told further than the look
  pub untold_delivered : (setting : Setting) → SetBy two_may setting →
      Delivered setting 10000 651020004 all_stay (run two_may both_lead) (run two_may looked)
  pub untold_attended : Attended 0 (run two_may looked)
  pub untold : (setting : Setting) → SetBy two_may setting → ¬ Told 0 setting 651020004 0 (run two_may looked)
  -- the bound can't be lower by 7 microseconds: 5 before it both still lead
  pub slowest_accepted : Accepted two_may slowest
  pub slowest_attended : Attended 0 (run two_may slowest)
  pub slowest_told : BothTold 0 875020000 slowest
  pub slowest_delivered : (setting : Setting) → SetBy two_may setting →
      Delivered setting 10000 875020000 all_stay (run two_may both_ask) (run two_may slowest)
  pub slowest_bound : 625000002 + (240000001 + 2 * 5000001 + 2 * 10000) ≡ 875020005
  pub slowest_stay : StayAfter (Turn 625000002 0 ∷ both_ask) slowest
