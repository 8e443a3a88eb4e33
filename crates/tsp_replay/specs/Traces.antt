-- The trace of a schedule's run.
use Rattle.std.specs.Prelude.{ℕ, List, [], ◌∷◌, ◌++◌, flat_map, Option, None, Some}
use Rattle.tsp_base.specs.{Words.HeaderValue, declared.event.Event.Event}
use Rattle.tsp_script.specs.Traces.{trace_text}
use Rattle.tsp_run.specs.{Run.told, declared.line.Line.Line}
use Rattle.tsp_schedule.specs.Schedules.{Progress, Untitled, Titled, Drifted, Heading, Running, Ended}

-- a post's number; 0 for other acts, whose lines don't show it
abbrev pub number_in : Option ℕ → ℕ
number_in None = 0
number_in (Some k) = k

-- a line of the trace, with its line feed
abbrev pub line_text : Line → List ℕ
line_text l = trace_text l.event l.node l.tick (number_in l.number) l.placed ++ 10 ∷ []

-- lines of the trace
abbrev pub lines_text : List Line → List ℕ
lines_text lines = flat_map line_text lines

-- the trace of a schedule: all lines of its run
abbrev pub trace : HeaderValue → List Event → List ℕ
trace header events = lines_text (told header events)

-- what is written up to this progress
abbrev pub written_at : Progress → List ℕ
written_at Untitled = []
written_at (Titled version) = []
written_at (Drifted drift) = []
written_at (Heading header) = []
written_at (Running header events) = trace header events
written_at (Ended header events) = trace header events
