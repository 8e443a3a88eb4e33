-- A run that is looked at in time, written out, and runs that aren't.
use Rattle.std.specs.Prelude.{◌≡◌, ℕ, pos, true, false, List, [], ◌∷◌, codes, None, Some}
use Rattle.tsp_rules.specs.Values.{Act, Boot, Post, Become, Arm, Ring, Back, Close, Correct, Gave, Quiet, Elect, Search, Window, Round, Probe, CloseAlarm}
use Rattle.tsp_rules.specs.Values.{Message, Event, BootAt, Turn, Election, MasterReq, MasterUp, Peer, Starting, Loose, Candidate, Master, SLACK}
use Rattle.tsp_base.specs.Words.{HeaderValue, bare, peer_of as peer}
use Rattle.tsp_run.specs.{Refusals.Valid, Run.gained, Run.run, Run.told, declared.line.Line.Line}
use Rattle.tsp_promises.specs.Setting.{Setting}
use Rattle.tsp_run.specs.Setting.{SetBy}
use Rattle.tsp_progress.specs.FreshLeads.{first_lead}
use Rattle.tsp_progress.specs.InTime.{CandidatureEnds, RoundCloses, RoundRecurs, SearchEnds, StartEnds}
use Rattle.tsp_progress.specs.{NeverLate.NeverLate, SendsEnd.SendsEnd, Watched.Attended, Watched.AtBegins, Watched.Told}

-- a (node 0) may be master, b (node 1) may not; neither has drift, and both wall clocks are 0
abbrev pub one_may : HeaderValue
one_may = record {
  drift = 0;
  strict = false;
  nodes = record { name = codes "a"; rate = pos 0; wall = pos 0; may = true } ∷ record { name = codes "b"; rate = pos 0; wall = pos 0; may = false } ∷ [];
  nets = [];
}

-- a boots with the word 0, and looks at its timers when it has something to do, up to its candidature; b never boots
abbrev pub until_stands : List Event
until_stands = Turn 385000000 0 ∷ Turn 85000000 0 ∷ Turn 80000000 0 ∷ BootAt 0 0 0 ∷ []

-- and then up to its master's lead
abbrev pub until_leads : List Event
until_leads = Turn 390000000 0 ∷ Turn 388000000 0 ∷ Turn 387000000 0 ∷ Turn 386000000 0 ∷ until_stands

-- and up to the close of its first round
abbrev pub until_closes : List Event
until_closes = Turn 638000000 0 ∷ Turn 633000000 0 ∷ Turn 632000000 0 ∷ Turn 631000000 0 ∷ Turn 630000000 0 ∷ until_leads

-- the line of an act of a at an event and a tick
abbrev pub a_line : ℕ → ℕ → Act → Line
a_line event tick act = record { event = event; node = 0; tick = tick; number = None; placed = record { port = record { 0 = 0 }; act = act } }

-- the line of a post of a to b, which is datagram number k
abbrev pub a_posts : ℕ → ℕ → ℕ → Act → Line
a_posts event tick k act = record { event = event; node = 0; tick = tick; number = Some k; placed = record { port = record { 0 = 0 }; act = act } }

-- a's ELECTION to b
abbrev pub asks_b : Act
asks_b = Post (Peer (peer 1)) (Message (bare Election 32768 (codes "a")))

-- a tells b that it is master
abbrev pub tells_b : Act
tells_b = Post (Peer (peer 1)) (Message (bare MasterUp 0 (codes "a")))

-- the lines of the trace, the oldest first: the quiet time ends after 80 s, the search 5 s later, Elect rings after a's delay of 300 s, the
-- send is given up after 3 s, the candidature is won after 5 s, a round begins after 240 s and closes 8 s later
abbrev pub told_until_closes : List Line
told_until_closes =
    a_line 1 0 Boot ∷
    a_line 1 0 (Become Starting) ∷
    a_line 1 0 (Arm Quiet 80000000) ∷
    a_line 2 80000000 (Ring Quiet) ∷
    a_line 2 80000000 (Become Loose) ∷
    a_line 2 80000000 (Arm Search 85000000) ∷
    a_posts 2 80000000 0 (Post (Peer (peer 1)) (Message (bare MasterReq 0 (codes "a")))) ∷
    a_line 3 85000000 (Ring Search) ∷
    a_line 3 85000000 (Arm Elect 385000000) ∷
    a_line 4 385000000 (Ring Elect) ∷
    a_line 4 385000000 (Become Candidate) ∷
    a_line 4 385000000 (Back (peer 0)) ∷
    a_line 4 385000000 (Arm Window 390000000) ∷
    a_posts 4 385000000 1 asks_b ∷
    a_posts 5 386000000 2 asks_b ∷
    a_posts 6 387000000 3 asks_b ∷
    a_line 7 388000000 (Gave (peer 1)) ∷
    a_line 8 390000000 (Ring Window) ∷
    a_line 8 390000000 (Become Master) ∷
    a_line 8 390000000 (Arm Round 630000000) ∷
    a_posts 8 390000000 4 tells_b ∷
    a_line 9 630000000 (Ring Round) ∷
    a_line 9 630000000 (Arm Round 870000000) ∷
    a_line 9 630000000 (Arm Probe 631000000) ∷
    a_line 9 630000000 (Arm CloseAlarm 638000000) ∷
    a_posts 9 630000000 5 tells_b ∷
    a_line 10 631000000 (Ring Probe) ∷
    a_line 10 631000000 (Arm Probe 632000000) ∷
    a_line 11 632000000 (Ring Probe) ∷
    a_line 11 632000000 (Arm Probe 633000000) ∷
    a_line 12 633000000 (Ring Probe) ∷
    a_line 13 638000000 (Ring CloseAlarm) ∷
    a_line 13 638000000 (Close 1 (pos 0) (pos 0) (pos 0)) ∷
    a_line 13 638000000 (Correct (pos 0) false (pos 638000000)) ∷
    []

-- no event is refused, a is looked at as soon as something is due, and all of it happens
pub record PromptUse : Type 0 where
  pub valid : Valid one_may until_closes
  pub attended : Attended 0 (run one_may until_closes)
  pub told_is : told one_may until_closes ≡ told_until_closes
  -- the run is told until the close
  pub told_to : (setting : Setting) → SetBy one_may setting → Told 0 setting 638000000 0 (run one_may until_closes)

-- the slowest way to lead: a boots with the word of the longest delay, and each look comes SLACK late
abbrev pub slowest : List Event
slowest =
    Turn 693999999 0 ∷ Turn 691999999 0 ∷ Turn 690999999 0 ∷ Turn 689999999 0 ∷ Turn 687999999 0 ∷ Turn 87000000 0 ∷ Turn 81000000 0 ∷
    BootAt 0 0 299999999 ∷ []

-- the bound is first reached with such looks: a leads one tick before it, 694 s after its boot
pub record SlowUse : Type 0 where
  pub valid : Valid one_may slowest
  pub attended : Attended SLACK (run one_may slowest)
  pub bound : first_lead SLACK ≡ 694000000
  pub last_is : gained one_may slowest ≡ a_line 8 693999999 (Ring Window) ∷ a_line 8 693999999 (Become Master) ∷ a_line 8 693999999 (Arm Round 933999999) ∷
      a_posts 8 693999999 4 tells_b ∷ []

-- a's Window is looked at one tick more than SLACK late
abbrev pub late_window : List Event
late_window = Turn 391000001 0 ∷ until_stands

-- so is its Quiet
abbrev pub late_quiet : List Event
late_quiet = Turn 81000001 0 ∷ BootAt 0 0 0 ∷ []

-- its Search
abbrev pub late_search : List Event
late_search = Turn 86000001 0 ∷ Turn 80000000 0 ∷ BootAt 0 0 0 ∷ []

-- its Round
abbrev pub late_round : List Event
late_round = Turn 631000001 0 ∷ until_leads

-- and its Close, after three Probes
abbrev pub late_close : List Event
late_close = Turn 639000001 0 ∷ Turn 633000000 0 ∷ Turn 632000000 0 ∷ Turn 631000000 0 ∷ Turn 630000000 0 ∷ until_leads

-- runs that are looked at one tick more than SLACK late: what is promised of runs that are looked at within SLACK isn't so
pub record LateUse : Type 0 where
  pub valid : Valid one_may late_window
  -- an alarm is late
  pub late : ¬ NeverLate (run one_may late_window)
  pub candidature : ¬ AtBegins (CandidatureEnds SLACK) (run one_may late_window)
  -- the send is open for six seconds
  pub send : ¬ SendsEnd SLACK (run one_may late_window)
  pub start : ¬ AtBegins (StartEnds SLACK) (run one_may late_quiet)
  pub search : ¬ AtBegins (SearchEnds SLACK) (run one_may late_search)
  pub rounds : ¬ AtBegins (RoundRecurs SLACK) (run one_may late_round)
  pub round : ¬ AtBegins (RoundCloses SLACK) (run one_may late_close)
