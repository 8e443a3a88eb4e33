-- A run in which one node alone may be master, and one in which two may.
use Rattle.std.specs.Prelude.{pos, true, List, [], ◌∷◌, codes}
use Rattle.tsp_rules.specs.Values.{Event, BootAt, Turn, Take}
use Rattle.tsp_base.specs.Words.{HeaderValue}
use Rattle.tsp_promises.specs.Setting.{Setting}
use Rattle.tsp_run.specs.{Premised.Sealed, Refusals.Valid, Run.run, Setting.SetBy}
use Rattle.tsp_progress.specs.{LoneLeads.LoneLeads, OneMay.LeftAlone, OneMay.OneMayBe, Watched.Attended, Watched.Told, Worked.one_may, Worked.until_closes}

-- both may be master
abbrev pub two_may : HeaderValue
two_may = record one_may {
  nodes = record { name = codes "a"; rate = pos 0; wall = pos 0; may = true } ∷ record { name = codes "b"; rate = pos 0; wall = pos 0; may = true } ∷ [];
}

-- b, whose delay is the shortest, leads; a, whose delay is the longest, takes its MASTERUP and follows, and is looked at 690 s after its boot
abbrev pub follows_b : List Event
follows_b =
    Turn 690000001 0 ∷ Take 390000000 5 ∷ Turn 390000000 1 ∷ Turn 388000000 1 ∷ Turn 387000000 1 ∷ Turn 386000000 1 ∷ Turn 385000000 1 ∷
    Turn 85000000 1 ∷ Turn 85000000 0 ∷ Turn 80000000 1 ∷ Turn 80000000 0 ∷ BootAt 0 1 0 ∷ BootAt 0 0 299999999 ∷ []

pub record OneUse : Type 0 where
  -- where a alone may be master, all that is asked for holds of a run in which it leads
  pub valid : Valid one_may until_closes
  pub sealed : Sealed until_closes
  pub attended : Attended 0 (run one_may until_closes)
  pub one : OneMayBe 0 one_may
  pub left : LeftAlone 0 (run one_may until_closes)
  -- which is told up to 700 s, more than 690 s after its boot
  pub told_to : (setting : Setting) → SetBy one_may setting → Told 0 setting 700000000 0 (run one_may until_closes)
  -- where both may be, all else holds of a run, and a doesn't lead
  pub two_valid : Valid two_may follows_b
  pub two_sealed : Sealed follows_b
  pub two_attended : Attended 0 (run two_may follows_b)
  pub two_left : LeftAlone 0 (run two_may follows_b)
  pub two : ¬ LoneLeads 0 0 (run two_may follows_b)
