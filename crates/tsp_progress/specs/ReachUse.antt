-- A run in which a report reaches a master in time, and one in which it is lost.
use Rattle.std.specs.Prelude.{List, codes}
use Rattle.tsp_rules.specs.Values.{Message, Post, SlaveUp, Peer}
use Rattle.tsp_base.specs.Words.{Acts, Came, Line, MessageValue, bare, first_port, line_of, peer_of as peer}
use Rattle.tsp_promises.specs.Setting.{Setting}
use Rattle.tsp_run.specs.{Run.run, Setting.SetBy}
use Rattle.tsp_progress.specs.{AnswersUse.all_stay, AnswersUse.tail_of, AnswersUse.until_wakes, ReachesInTime.ReachesInTime, ReachesInTime.Tells}
use Rattle.tsp_progress.specs.{TableUse.until_reports, TableUse.until_set, Worked.one_may}

-- b reports to a
abbrev pub report : MessageValue
report = bare SlaveUp 0 (codes "b")

-- the line at which it does
abbrev pub report_line : Line
report_line = line_of (record { at = 390020000; node = 1; cause = Came 6 }) 390020000 first_port (Acts (Post (Peer (peer 0)) (Message report)))

abbrev pub Told : Setting → List Line → Type 0
Told setting world = Tells setting 10000 390050001 all_stay (run one_may until_wakes) report_line (tail_of (run one_may until_reports)) world (peer 0) report

pub record ReachUse : Type 0 where
  -- in the run of `acked_use`, whose datagrams are delivered in time, b reports to a; in `table_use` a takes it in
  pub told : (setting : Setting) → SetBy one_may setting → Told setting (run one_may until_set)
  -- where the report is lost it doesn't
  pub lost_told : (setting : Setting) → SetBy one_may setting → Told setting (run one_may until_reports)
  pub lost : (setting : Setting) → SetBy one_may setting →
      ¬ ReachesInTime one_may setting 10000 390050001 all_stay (run one_may until_wakes) (run one_may until_reports)
