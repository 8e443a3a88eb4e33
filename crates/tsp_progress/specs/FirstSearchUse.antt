-- A run in which a port finds its master when its quiet time ends, and one in which there is none.
use Rattle.std.specs.Prelude.{◌≡◌, List, [], ◌∷◌, codes}
use Rattle.tsp_rules.specs.Values.{Event, BootAt, Turn, Take, MasterReq, Quiet, Ring}
use Rattle.tsp_base.specs.Words.{Acts, Line, Turned, bare, first_port, line_of, peer_of as peer, role}
use Rattle.tsp_promises.specs.Setting.{Setting}
use Rattle.tsp_run.specs.{Refusals.Valid, Run.gained, Run.run, Setting.SetBy}
use Rattle.tsp_progress.specs.{AnswersInTime.Meanwhile, AnswersUse.all_stay, AnswersUse.tail_of, AnswersUse.until_searches, AnswersUse.until_wakes}
use Rattle.tsp_progress.specs.{FirstSearch.Awakes, Heeds.is_master_role, TableUse.a_takes, TableUse.until_reports, Worked.a_line, Worked.one_may}

-- the line at which b's quiet time ends
abbrev pub quiet_line : Line
quiet_line = line_of (record { at = 390000000; node = 1; cause = Turned }) 390000000 first_port (Acts (Ring Quiet))

abbrev pub before_quiet : List Line
before_quiet = tail_of (tail_of (tail_of (tail_of (run one_may until_searches))))

-- both boot at once, so that a isn't master yet when b asks it
abbrev pub none_leads : List Event
none_leads = Take 80010000 1 ∷ Turn 80000000 1 ∷ Turn 80000000 0 ∷ BootAt 0 1 0 ∷ BootAt 0 0 0 ∷ []

pub record FirstSearchUse : Type 0 where
  -- in the run of `answers_use`, whose datagrams are delivered in time, b's quiet time ends beside a, which leads; in `table_use` b follows it
  pub awakes : (setting : Setting) → SetBy one_may setting →
      Awakes setting 10000 390020001 all_stay (run one_may until_wakes) quiet_line before_quiet (run one_may until_reports) (peer 0)
  pub leads : (setting : Setting) → SetBy one_may setting →
      Meanwhile one_may setting 10000 quiet_line before_quiet (run one_may until_reports) (peer 0) (λ x past. is_master_role (role past.seen))
  -- a port that isn't master doesn't answer
  pub none_valid : Valid one_may none_leads
  pub none : gained one_may none_leads ≡ a_line 5 80010000 (a_takes (bare MasterReq 0 (codes "b"))) ∷ []
