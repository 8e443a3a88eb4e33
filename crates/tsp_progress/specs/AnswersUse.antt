-- A run in which datagrams are delivered in time, and one in which a question is lost.
use Rattle.std.specs.Prelude.{ℕ, Bool, true, List, [], ◌∷◌, codes}
use Rattle.tsp_rules.specs.Values.{Event, BootAt, Turn, MasterReq, Message, Post, Peer}
use Rattle.tsp_base.specs.Words.{Acts, Line, Turned, bare, first_port, line_of, peer_of as peer}
use Rattle.tsp_promises.specs.Setting.{Setting}
use Rattle.tsp_run.specs.{Ranges.Accepted, Run.run, Setting.SetBy}
use Rattle.tsp_progress.specs.{AnswersInTime.AnswersInTime, AnswersInTime.Asks, Delivered.Delivered, TableUse.until_reports, Worked.one_may}

-- a leads, and b is in its quiet time
abbrev pub until_wakes : List Event
until_wakes = Turn 390000000 0 ∷ Turn 388000000 0 ∷ Turn 387000000 0 ∷ Turn 386000000 0 ∷ Turn 385000000 0 ∷ BootAt 310000000 1 0 ∷ Turn 85000000 0 ∷
    Turn 80000000 0 ∷ BootAt 0 0 0 ∷ []

-- b searches
abbrev pub until_searches : List Event
until_searches = Turn 390000000 1 ∷ until_wakes

-- the line at which it asks for a master
abbrev pub search_line : Line
search_line = line_of (record { at = 390000000; node = 1; cause = Turned }) 390000000 first_port (Acts (Post (Peer (peer 0))
    (Message (bare MasterReq 0 (codes "b")))))

abbrev pub tail_of : List Line → List Line
tail_of [] = []
tail_of (l ∷ rest) = rest

abbrev pub all_stay : ℕ → Bool
all_stay n = true

-- datagrams take 10 ms; the question is asked
abbrev pub Asked : Setting → List Line → Type 0
Asked setting world = Asks setting 10000 390020001 all_stay (run one_may until_wakes) search_line (tail_of (run one_may until_searches)) world (peer 0)
    (Message (bare MasterReq 0 (codes "b")))

pub record AnswersUse : Type 0 where
  -- the run in which b finds a is accepted; b asks for a master in it, and each datagram is delivered in time from then on, until b hears of a
  pub accepted : Accepted one_may until_reports
  pub asked : (setting : Setting) → SetBy one_may setting → Asked setting (run one_may until_reports)
  pub delivered : (setting : Setting) → SetBy one_may setting →
      Delivered setting 10000 390020001 all_stay (run one_may until_wakes) (run one_may until_reports)
  -- where the question is lost it isn't answered
  pub lost_asked : (setting : Setting) → SetBy one_may setting → Asked setting (run one_may until_searches)
  pub lost : (setting : Setting) → SetBy one_may setting →
      ¬ AnswersInTime one_may setting 10000 390020001 all_stay (run one_may until_wakes) (run one_may until_searches)
