-- A search that finds its master, and one that hears of it too late.
use Rattle.std.specs.Prelude.{◌≡◌, List, [], ◌∷◌, codes}
use Rattle.tsp_rules.specs.Values.{Event, Turn, Take, MasterAck}
use Rattle.tsp_base.specs.Words.{bare}
use Rattle.tsp_promises.specs.Setting.{Setting}
use Rattle.tsp_run.specs.{Refusals.Valid, Run.gained, Run.run, Setting.SetBy}
use Rattle.tsp_progress.specs.{AnswersUse.search_line, AnswersUse.tail_of, AnswersUse.until_searches, FoundInTime.IsQuick, FoundInTime.Searching}
use Rattle.tsp_progress.specs.{TableUse.b_line, TableUse.b_takes, Worked.one_may}

-- each datagram takes 2.6 s, so the answer comes when the search is over
abbrev pub found_late : List Event
found_late = Take 395200000 6 ∷ Turn 395000000 1 ∷ Take 392600000 5 ∷ until_searches

pub record FoundUse : Type 0 where
  -- b searches when it asks a in the run of `answers_use`, and 10 ms are quick; in `table_use` b follows a
  pub searching : Searching search_line (tail_of (run one_may until_searches))
  pub quick : (setting : Setting) → SetBy one_may setting → IsQuick setting 10000
  -- 2.6 s aren't, and b doesn't follow a
  pub slow : (setting : Setting) → SetBy one_may setting → ¬ IsQuick setting 2600000
  pub late_valid : Valid one_may found_late
  pub late : gained one_may found_late ≡ b_line 13 395200000 (b_takes (bare MasterAck 0 (codes "a"))) ∷ []
