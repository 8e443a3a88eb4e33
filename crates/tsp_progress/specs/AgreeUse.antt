-- A network of two nodes whose clocks agree after a Close, and a node that leaves the table.
use Rattle.std.specs.Prelude.{◌≡◌, pos, ◌+ℤ◌, false}
use Rattle.tsp_base.specs.Words.{first_port, in_table, of, peer_of as peer, view}
use Rattle.tsp_promises.specs.{ClockAt.clock_at, Setting.Setting}
use Rattle.tsp_run.specs.{Run.run, Setting.SetBy}
use Rattle.tsp_progress.specs.{FollowUse.follows_long, FollowUse.two_stay, InTable.GivesUpNone, InTable.InTable, InTable.KeepsRange, InTable.SetsNone}
use Rattle.tsp_progress.specs.{InTable.Undated, LateClose.LateClose, OneUse.two_may, OneWire.OneWire, SampledInTime.IsSwift, SampledUse.all_lost}
use Rattle.tsp_progress.specs.{SampledUse.close_line, SampledUse.until_corrects, SampledUse.without, TableUse.until_set}

pub record AgreeUse : Type 0 where
  -- in a run in which two nodes follow on, all else that is asked for holds, and a Close comes late enough
  pub wire : (setting : Setting) → SetBy two_may setting → OneWire two_may setting two_stay
  pub swift : (setting : Setting) → SetBy two_may setting → IsSwift setting 10000
  pub table : InTable two_stay 0 638020000 (run two_may until_set) (run two_may follows_long)
  pub sets : SetsNone 0 (run two_may until_set) (run two_may follows_long)
  pub undated : Undated 0 (run two_may until_set) (run two_may follows_long)
  pub gives : GivesUpNone 0 (run two_may until_set) (run two_may follows_long)
  pub range : KeepsRange (run two_may until_set) (run two_may follows_long)
  pub closes : LateClose 10000 638020000 0 (run two_may until_set) close_line (without 11 (run two_may follows_long)) (run two_may follows_long)
  -- before the Close b is behind a by 10 ms, and `long` after it the clocks agree
  pub apart : (setting : Setting) → SetBy two_may setting → clock_at setting 0 (without 11 (run two_may follows_long)) 638000000 ≡
      clock_at setting 1 (without 11 (run two_may follows_long)) 638000000 +ℤ pos 10000
  -- between the Close and the moment at which b takes its correction they differ by half of that
  pub meanwhile : (setting : Setting) → SetBy two_may setting → clock_at setting 0 (run two_may until_corrects) 638005000 ≡
      clock_at setting 1 (run two_may until_corrects) 638005000 +ℤ pos 5000
  pub agree : (setting : Setting) → SetBy two_may setting → clock_at setting 0 (run two_may follows_long) 638010000 ≡
      clock_at setting 1 (run two_may follows_long) 638010000
  -- where the requests of the round are lost, b isn't in the table any more, and its clock stays behind
  pub left : in_table (peer 1) (view first_port (of 0 (run two_may all_lost))) ≡ false
  pub behind : (setting : Setting) → SetBy two_may setting → clock_at setting 0 (run two_may all_lost) 638010000 ≡
      clock_at setting 1 (run two_may all_lost) 638010000 +ℤ pos 10000
