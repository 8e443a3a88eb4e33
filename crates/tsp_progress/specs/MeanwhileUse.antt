-- What isn't answered: a QUIT and an ELECTION to a node that boots before they come.
use Rattle.std.specs.Prelude.{◌≡◌, List, [], ◌∷◌, codes}
use Rattle.tsp_rules.specs.Values.{Event, BootAt, Take, Election, QuitKind}
use Rattle.tsp_base.specs.Words.{bare}
use Rattle.tsp_run.specs.{Refusals.Valid, Run.gained}
use Rattle.tsp_progress.specs.{OneUse.two_may, SentAwayUse.until_asks, Worked.a_line}
use Rattle.tsp_progress.specs.TableUse.{a_takes, b_line, b_takes}

-- b boots before a's QUIT comes
abbrev pub quit_lost : List Event
quit_lost = Take 395020000 7 ∷ BootAt 395015000 1 0 ∷ Take 395010000 6 ∷ until_asks

-- a boots before b's ELECTION comes
abbrev pub election_lost : List Event
election_lost = Take 395010000 6 ∷ BootAt 395005000 0 0 ∷ until_asks

-- a port that is Starting meanwhile takes what is asked of it, and does nothing
pub record MeanwhileUse : Type 0 where
  pub quit_valid : Valid two_may quit_lost
  pub quit : gained two_may quit_lost ≡ b_line 15 395020000 (b_takes (bare QuitKind 32769 (codes "a"))) ∷ []
  pub election_valid : Valid two_may election_lost
  pub election : gained two_may election_lost ≡ a_line 14 395010000 (a_takes (bare Election 38528 (codes "b"))) ∷ []
