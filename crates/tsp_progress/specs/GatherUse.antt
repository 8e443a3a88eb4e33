-- A network whose nodes come to follow the one that leads, and do so on, and one in which they don't.
use Rattle.std.specs.Prelude.{◌≡◌, ◌<◌, ◌+◌, pos, true, List, [], ◌∷◌, codes, length}
use Rattle.tsp_rules.specs.Values.{BootAt, Candidate, Event, Follow, Take, Turn}
use Rattle.tsp_base.specs.Words.{HeaderValue, dids, peer_of, time_of}
use Rattle.tsp_promises.specs.Setting.{Setting}
use Rattle.tsp_run.specs.{Ranges.Accepted, Refusals.Valid, Run.run, Setting.SetBy}
use Rattle.tsp_progress.specs.{Delivered.Delivered, FollowUse.two_stay, OneUse.two_may, Worked.one_may}
use Rattle.tsp_progress.specs.FollowOn.{AllFollow, Calm, IsMild, OneNetwork, role_of}
use Rattle.tsp_progress.specs.Gather.{AllAwake, AllTold, LeadUntil, gathered_after, others_of}
use Rattle.tsp_progress.specs.{Watched.Attended}

-- a leads, and b begins to look for a master: it follows nobody yet
abbrev pub until_seeks : List Event
until_seeks =
    Turn 390000000 1 ∷ Turn 390000000 0 ∷ Turn 388000000 0 ∷ Turn 387000000 0 ∷ Turn 386000000 0 ∷ Turn 385000000 0 ∷ BootAt 310000000 1 0 ∷
    Turn 85000000 0 ∷ Turn 80000000 0 ∷ BootAt 0 0 0 ∷ []

-- where a third node may be master, too
abbrev pub three_may : HeaderValue
three_may = record one_may {
  nodes = record { name = codes "a"; rate = pos 0; wall = pos 0; may = true } ∷ record { name = codes "b"; rate = pos 0; wall = pos 0; may = true } ∷
      record { name = codes "c"; rate = pos 0; wall = pos 0; may = true } ∷ [];
}

-- c leads, b follows it, and then c is gone; a, which boots later, gets b's vote, and leads
abbrev pub until_leads_alone : List Event
until_leads_alone =
    Turn 790000000 0 ∷ Turn 788000000 0 ∷ Turn 787000000 0 ∷ Turn 786000000 0 ∷ Take 785020000 18 ∷ Take 785010000 16 ∷ Turn 785000000 0 ∷
    Turn 485000000 0 ∷ Turn 480000000 0 ∷ BootAt 400000000 0 0 ∷ Take 390020000 12 ∷ Take 390010000 11 ∷ Turn 390000000 1 ∷ Turn 390000000 2 ∷
    Turn 388000000 2 ∷ Turn 387000000 2 ∷ Turn 386000000 2 ∷ Turn 385000000 2 ∷ BootAt 310000000 1 299000000 ∷ Turn 85000000 2 ∷ Turn 80000000 2 ∷
    BootAt 0 2 0 ∷ []

-- a calls b again and again, but that follows c on: it reports a to c, which doesn't answer
abbrev pub strays_on : List Event
strays_on =
    Turn 1278000000 0 ∷ Turn 1273010000 1 ∷ Turn 1273000000 0 ∷ Turn 1272010000 1 ∷ Turn 1272000000 0 ∷ Turn 1271010000 1 ∷ Turn 1271000000 0 ∷
    Take 1270010000 31 ∷ Turn 1270000000 0 ∷ Turn 1038000000 0 ∷ Turn 1033010000 1 ∷ Turn 1033000000 0 ∷ Turn 1032010000 1 ∷ Turn 1032000000 0 ∷
    Turn 1031010000 1 ∷ Turn 1031000000 0 ∷ Take 1030010000 26 ∷ Turn 1030000000 0 ∷ Turn 793010000 1 ∷ Turn 792010000 1 ∷ Turn 791010000 1 ∷
    Take 790010000 21 ∷ until_leads_alone

-- 599 s after its vote for a, b stands for election, is sent away, follows a, and is set
abbrev pub comes_at_last : List Event
comes_at_last =
    Take 1513020000 53 ∷ Take 1513010000 52 ∷ Turn 1513000000 0 ∷ Take 1512020000 51 ∷ Take 1512010000 50 ∷ Turn 1512000000 0 ∷ Take 1511020000 49 ∷
    Take 1511010000 48 ∷ Turn 1511000000 0 ∷ Take 1510020000 47 ∷ Take 1510020000 46 ∷ Take 1510010000 45 ∷ Take 1510010000 43 ∷ Turn 1510000000 0 ∷
    Take 1384060000 42 ∷ Take 1384050000 41 ∷ Take 1384040000 40 ∷ Take 1384040000 39 ∷ Take 1384030000 38 ∷ Take 1384020000 36 ∷ Turn 1384010000 1 ∷ strays_on

-- and so on for two rounds
abbrev pub gathers_long : List Event
gathers_long =
    Turn 1890000000 0 ∷ Take 1758020000 68 ∷ Take 1758010000 67 ∷ Turn 1758000000 0 ∷ Take 1753020000 66 ∷ Take 1753010000 65 ∷ Turn 1753000000 0 ∷
    Take 1752020000 64 ∷ Take 1752010000 63 ∷ Turn 1752000000 0 ∷ Take 1751020000 62 ∷ Take 1751010000 61 ∷ Turn 1751000000 0 ∷ Take 1750020000 60 ∷
    Take 1750020000 59 ∷ Take 1750010000 58 ∷ Take 1750010000 56 ∷ Turn 1750000000 0 ∷ Take 1518020000 55 ∷ Take 1518010000 54 ∷ Turn 1518000000 0 ∷
    comes_at_last

-- all that a sends is lost: b finds nobody, and stands for election
abbrev pub finds_nobody : List Event
finds_nobody =
    Turn 695000000 1 ∷ Turn 638000000 0 ∷ Turn 633000000 0 ∷ Turn 632000000 0 ∷ Turn 631000000 0 ∷ Turn 630000000 0 ∷ Turn 395000000 1 ∷ until_seeks

pub record GatherUse : Type 0 where
  -- in this run all that is asked for holds since a leads; b follows another until its Elect rings, and then a
  pub accepted : Accepted three_may gathers_long
  pub attended : Attended 0 (run three_may gathers_long)
  pub told : (setting : Setting) → SetBy three_may setting → AllTold 0 setting 1890000000 two_stay (run three_may gathers_long)
  pub one : (setting : Setting) → SetBy three_may setting → OneNetwork three_may setting two_stay 0
  pub calm : Calm 10000 two_stay (run three_may until_leads_alone) (run three_may gathers_long)
  pub delivered : (setting : Setting) → SetBy three_may setting →
      Delivered setting 10000 1890000000 two_stay (run three_may until_leads_alone) (run three_may gathers_long)
  pub mild : IsMild 10000
  pub up : AllAwake two_stay (run three_may until_leads_alone)
  pub leads : LeadUntil two_stay 0 1890000000 (run three_may until_leads_alone) (run three_may gathers_long)
  pub strays : role_of 1 (run three_may strays_on) ≡ Follow (peer_of 2)
  pub settled : (setting : Setting) → SetBy three_may setting → time_of (dids (run three_may until_leads_alone)) +
      gathered_after 10000 (length (others_of setting two_stay 0)) < time_of (dids (run three_may gathers_long))
  pub follows : AllFollow two_stay 0 (run three_may gathers_long)
  -- where what a sends is lost, b stands for election
  pub lost_valid : Valid two_may finds_nobody
  pub lost_attended : Attended 0 (run two_may finds_nobody)
  pub lost_calm : Calm 10000 two_stay (run two_may until_seeks) (run two_may finds_nobody)
  pub lost_leads : LeadUntil two_stay 0 695000000 (run two_may until_seeks) (run two_may finds_nobody)
  pub lost : role_of 1 (run two_may finds_nobody) ≡ Candidate
