-- What is said of a schedule's run in one line.
use Rattle.tsp_rules.specs.{Values.Act, Values.Took, Values.Become, Values.Event, Values.Master, RoundRows.is_correct}
use Rattle.std.specs.Prelude.{◌≡◌, ℕ, Bool, true, false, List, [], ◌∷◌, ◌++◌, length, count_by, codes, decimal}
use Rattle.tsp_base.specs.Words.{HeaderValue}
use Rattle.tsp_storm.specs.{Schedules.posted_count, declared.counts.Counts.Counts}
use Rattle.tsp_run.specs.{Run.told, declared.line.Line.Line}

-- octets reached a node
abbrev pub is_arrival : Act → Bool
is_arrival (Took from taken) = true
is_arrival _ = false

-- a node became master
abbrev pub is_mastership : Act → Bool
is_mastership (Become Master) = true
is_mastership _ = false

-- how many of these lines tell such an act
abbrev pub acts_like : (Act → Bool) → List Line → ℕ
acts_like is_such lines = count_by (λ l. is_such l.placed.act) lines

-- these are the numbers of datagrams taken, of corrections and of masterships in these lines
pub record CountsLines (lines : List Line) (c : Counts) : Type 0 where
  pub took : c.took ≡ acts_like is_arrival lines
  pub corrects : c.corrects ≡ acts_like is_correct lines
  pub masters : c.masters ≡ acts_like is_mastership lines

-- the words of five numbers: of events, of datagrams posted and taken, of corrections and of masterships
abbrev pub summary_text : ℕ → ℕ → ℕ → ℕ → ℕ → List ℕ
summary_text events posted took corrects masters =
    (((((((((codes "events " ++ decimal events) ++ codes " posted ") ++ decimal posted) ++ codes " took ") ++ decimal took) ++ codes " corrects ") ++
    decimal corrects) ++ codes " masters ") ++ decimal masters) ++ 10 ∷ []

-- the summary of a schedule's run
abbrev pub summary : HeaderValue → List Event → List ℕ
summary header events = let lines = told header events in
    summary_text (length events) (posted_count header events) (acts_like is_arrival lines) (acts_like is_correct lines) (acts_like is_mastership lines)
