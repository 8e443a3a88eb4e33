-- A Close that comes so late that nothing from before matters.
use Rattle.std.specs.Prelude.{◌≡◌, ◌≤◌, ◌<◌, ℕ, ◌+◌, ℤ, List, ◌∷◌}
use Rattle.tsp_rules.specs.Values.{Close}
use Rattle.tsp_base.specs.Words.{Acts, Line, Within, dids, time_of}
use Rattle.tsp_promises.specs.{Agreed.FromRound, Fits.node_of}
use Rattle.tsp_progress.specs.FollowOn.{settled_after}

-- at this line node c closes a round, more than 242 s and `long` of true time after the place s, and not after the true time t
pub record LateClose (long t c : ℕ) (s : List Line) (close : Line) (past world : List Line) : Type 0 where
  pub place : Within (close ∷ past) world
  pub node : node_of close ≡ c
  pub count : ℕ
  pub lo : ℤ
  pub size : ℤ
  pub mean : ℤ
  pub deed : close.did.deed ≡ Acts (Close count lo size mean)
  pub late : time_of (dids s) + settled_after long < close.did.step.at
  pub early : close.did.step.at ≤ t

-- the Correct at this line takes what this Close of node c corrects its node by; it rests on a reading after the place s, at most 9.009011 s of true time
-- before the Close
pub record OfRound (s : List Line) (c : ℕ) (close : Line) (past : List Line) (correct : Line) (before : List Line) : Type 0 where
  pub reading : Line
  pub older : List Line
  pub err : ℤ
  pub rests : FromRound c close past correct before reading older err
  pub since : Within s older
  pub young : close.did.step.at ≤ reading.did.step.at + 9009011
