-- The line that says how a question ended.
use Rattle.std.specs.Prelude.{ℕ, ℤ, Bool, true, false, List, [], ◌∷◌, ◌++◌, codes}
use Rattle.std.specs.Fmt.{signed_decimal}
use Rattle.tsp_query.specs.declared.query.QueryEnd.{QueryEnd}
use Rattle.tsp_query.specs.declared.query.QueryEnd.TheVariants.{Master, Diff, Heard, Date as Dated, NoAnswer, LinkFault, OutOfMemory}
use Rattle.tsp_script.specs.Texts.{name_text, space}
use Rattle.tsp_args.specs.{Queries.switch_word, declared.query.Query.Query, declared.query.Query.TheVariants.Trace}

-- the line of a master's name; the empty name means that the daemon knows of none
abbrev pub master_line : List ℕ → List ℕ
master_line [] = codes "no master\n"
master_line (c ∷ cs) = codes "master " ++ name_text (c ∷ cs) ++ 10 ∷ []

-- the line of how far the daemon's clock is ahead, and by how much that may be wrong, both in microseconds
abbrev pub diff_line : ℤ → ℤ → List ℕ
diff_line diff err = codes "clockdiff " ++ signed_decimal diff ++ space ++ signed_decimal err ++ 10 ∷ []

-- the line of a question to which every answer means the same: the daemon has heard it
abbrev pub heard_line : Query → List ℕ
heard_line (Trace on) = codes "trace " ++ switch_word on ++ 10 ∷ []
heard_line _ = codes "election heard\n"

-- the line of a date: it was set, or is passed on to the master
abbrev pub date_line : Bool → List ℕ
date_line true = codes "date set\n"
date_line false = codes "date forwarded\n"

-- the line that says how a question ended; empty if the link failed or memory ran out
abbrev pub end_line : Query → QueryEnd → List ℕ
end_line q (Master name) = master_line name
end_line q (Diff diff err) = diff_line diff err
end_line q Heard = heard_line q
end_line q (Dated set) = date_line set
end_line q NoAnswer = codes "no answer\n"
end_line q LinkFault = []
end_line q OutOfMemory = []
