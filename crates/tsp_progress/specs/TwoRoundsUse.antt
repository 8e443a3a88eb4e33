-- A network of two nodes over two rounds, for which all holds that the laws on clocks ask for.
use Rattle.std.specs.Prelude.{◌≡◌, ◌≤◌, ◌+◌, List, ◌∷◌}
use Rattle.tsp_rules.specs.Values.{Event, Take, Turn}
use Rattle.tsp_base.specs.Words.{dids, time_of}
use Rattle.tsp_promises.specs.{ClockAt.clock_at, Premises.Honest, Premises.Life, Setting.Setting}
use Rattle.tsp_run.specs.{Ranges.Accepted, Run.run, Setting.SetBy}
use Rattle.tsp_progress.specs.{AgreesAlways.agreed_after, AgreesOn.HistoryAt, Delivered.Delivered, FollowOn.Calm}
use Rattle.tsp_progress.specs.{FollowOn.FollowUntil, FollowUse.follows_long, FollowUse.two_stay, InTable.GivesUpNone, InTable.InTable, InTable.KeepsRange}
use Rattle.tsp_progress.specs.{InTable.SetsNone, InTable.Undated, OneUse.two_may, TableUse.until_set, Watched.Attended, Watched.Told}

-- the second round: each datagram takes 10 ms
abbrev pub two_rounds : List Event
two_rounds =
    Take 878020000 33 ∷ Take 878010000 32 ∷ Turn 878000000 0 ∷ Take 873020000 31 ∷ Take 873010000 30 ∷ Turn 873000000 0 ∷ Take 872020000 29 ∷
    Take 872010000 28 ∷ Turn 872000000 0 ∷ Take 871020000 27 ∷ Take 871010000 26 ∷ Turn 871000000 0 ∷ Take 870020000 25 ∷ Take 870020000 24 ∷
    Take 870010000 23 ∷ Take 870010000 22 ∷ Turn 870000000 0 ∷ follows_long

pub record TwoRoundsUse : Type 0 where
  -- all that is asked for holds until 1,110 s, when the next round is due, and so the clocks agree from 875.06 s on, but for 10 ms after the second Close
  pub accepted : Accepted two_may two_rounds
  pub attended : Attended 0 (run two_may two_rounds)
  pub told : (setting : Setting) → SetBy two_may setting → Told 0 setting 1110000000 0 (run two_may two_rounds)
  pub calm : Calm 10000 two_stay (run two_may until_set) (run two_may two_rounds)
  pub delivered : (setting : Setting) → SetBy two_may setting →
      Delivered setting 10000 1110000000 two_stay (run two_may until_set) (run two_may two_rounds)
  pub honest : Honest (run two_may two_rounds)
  pub life : Life (run two_may two_rounds)
  pub follows : FollowUntil two_stay 0 1110000000 (run two_may until_set) (run two_may two_rounds)
  pub table : InTable two_stay 0 1110000000 (run two_may until_set) (run two_may two_rounds)
  pub sets : SetsNone 0 (run two_may until_set) (run two_may two_rounds)
  pub undated : Undated 0 (run two_may until_set) (run two_may two_rounds)
  pub gives : GivesUpNone 0 (run two_may until_set) (run two_may two_rounds)
  pub range : KeepsRange (run two_may until_set) (run two_may two_rounds)
  pub settled : time_of (dids (run two_may until_set)) + agreed_after 10000 ≤ 875060000
  pub now : HistoryAt 1000000000 (run two_may two_rounds) (run two_may two_rounds)
  -- then they do
  pub agree : (setting : Setting) → SetBy two_may setting → clock_at setting 0 (run two_may two_rounds) 1000000000 ≡
      clock_at setting 1 (run two_may two_rounds) 1000000000
