-- That each premise of progress is needed: histories without it, where what is promised isn't so.
use Rattle.std.specs.Prelude.{ℕ, true, false, List, [], ◌∷◌, ◌+◌}
use Rattle.tsp_rules.specs.Values.{Boot, Become, Ring, Elect, Event, BootAt, Turn, Candidate, SLACK}
use Rattle.tsp_base.specs.Words.{Acts, Begins, Deed, HeaderValue, Line, Turned, first_port, line_of}
use Rattle.tsp_run.specs.Run.{run}
use Rattle.tsp_progress.specs.{AlarmsFit.Manner, AloneLeads.AloneLeads, AloneStands.AloneStands, InTime.AllInTime, SendsEnd.SendsEnd, Watched.Attended}
use Rattle.tsp_progress.specs.Worked.{asks_b, one_may}

-- a deed of node 0 at a true time, which is its tick too
abbrev pub does_at : ℕ → Deed → Line
does_at t deed = line_of (record { at = t; node = 0; cause = Turned }) t first_port deed

-- a candidate that has nothing armed, and is looked at after ten seconds
abbrev pub unarmed : List Line
unarmed = does_at 10000000 Begins ∷ does_at 0 (Acts (Become Candidate)) ∷ does_at 0 (Acts Boot) ∷ does_at 0 Begins ∷ []

-- a send that is posted a fourth time
abbrev pub four_posts : List Line
four_posts =
    does_at 4000000 Begins ∷
    does_at 3000000 (Acts asks_b) ∷
    does_at 3000000 Begins ∷
    does_at 2000000 (Acts asks_b) ∷
    does_at 2000000 Begins ∷
    does_at 1000000 (Acts asks_b) ∷
    does_at 1000000 Begins ∷
    does_at 0 (Acts asks_b) ∷
    does_at 0 (Acts (Ring Elect)) ∷
    does_at 0 (Acts Boot) ∷
    does_at 0 Begins ∷
    []

-- a looks at each Elect one tick more than SLACK late, and so arms it anew each time
abbrev pub late_elects : List Event
late_elects = Turn 1289000004 0 ∷ Turn 988000003 0 ∷ Turn 687000002 0 ∷ Turn 386000001 0 ∷ Turn 85000000 0 ∷ Turn 80000000 0 ∷ BootAt 0 0 0 ∷ []

-- b, which may not be master, searches again and again
abbrev pub never_stands : List Event
never_stands =
    Turn 1300000000 1 ∷ Turn 1000000000 1 ∷ Turn 995000000 1 ∷ Turn 695000000 1 ∷ Turn 690000000 1 ∷ Turn 390000000 1 ∷ Turn 385000000 1 ∷
    Turn 85000000 1 ∷ Turn 80000000 1 ∷ BootAt 0 1 0 ∷ []

-- elections that are strict, in which a never has more than half of two
abbrev pub strict_alone : HeaderValue
strict_alone = record one_may { strict = true }

abbrev pub never_wins : List Event
never_wins =
    Turn 1300000000 0 ∷ Turn 1000000000 0 ∷ Turn 998000000 0 ∷ Turn 997000000 0 ∷ Turn 996000000 0 ∷ Turn 995000000 0 ∷
    Turn 695000000 0 ∷ Turn 693000000 0 ∷ Turn 692000000 0 ∷ Turn 691000000 0 ∷ Turn 690000000 0 ∷
    Turn 390000000 0 ∷ Turn 388000000 0 ∷ Turn 387000000 0 ∷ Turn 386000000 0 ∷ Turn 385000000 0 ∷ Turn 85000000 0 ∷ Turn 80000000 0 ∷ BootAt 0 0 0 ∷ []

-- each node may be master, and no election is strict
abbrev pub all_may : ℕ → Manner
all_may n = record { may = true; strict = false }

-- each is looked at in time, or one tick more than SLACK late
pub record Needed : Type 0 where
  -- nodes arm what their roles ask for
  pub unarmed_kept : Attended 0 unarmed
  pub armed : ¬ AllInTime 0 unarmed
  -- a send has three posts
  pub posts_kept : Attended 0 four_posts
  pub posts : ¬ SendsEnd 0 four_posts
  -- looks are late by SLACK at most
  pub late_kept : Attended (SLACK + 1) (run one_may late_elects)
  pub late : ¬ AloneStands all_may (SLACK + 1) (run one_may late_elects)
  -- the node may be master
  pub may_kept : Attended 0 (run one_may never_stands)
  pub may : ¬ AloneStands all_may 0 (run one_may never_stands)
  -- elections aren't strict
  pub strict_kept : Attended 0 (run strict_alone never_wins)
  pub strict : ¬ AloneLeads all_may 0 (run strict_alone never_wins)
