-- A run in which two nodes lead, find each other, and one is left.
use Rattle.std.specs.Prelude.{◌≡◌, ◌+◌, List, [], ◌∷◌, codes}
use Rattle.tsp_rules.specs.Values.{Ack, Arm, Become, CloseAlarm, Elect, Event, Follow, Probe, Quit, QuitKind, Ring, Rival, Round, SlaveUp, Take, Turn}
use Rattle.tsp_rules.specs.Values.{MasterAck, MasterUp, ResolveAlarm, ResolveKind, ROUND, WINDOW}
use Rattle.tsp_base.specs.Words.{Begins, Line, Turned, bare, first_port, line_of, of, peer_of as peer, view}
use Rattle.tsp_promises.specs.Setting.{Setting}
use Rattle.tsp_run.specs.{Ranges.Accepted, Run.gained, Run.run, Setting.SetBy}
use Rattle.tsp_progress.specs.{AnswersUse.all_stay, Delivered.Delivered, FoundInTime.Changed, OneUse.two_may, SentAwayUse.until_asks, Watched.Attended}
use Rattle.tsp_progress.specs.{MastersTell.HasOnePort, OneStops.Spans, OneStops.TwoLead, Worked.a_line, Worked.a_posts}
use Rattle.tsp_progress.specs.TableUse.{a_takes, b_line, b_posts, b_takes, sends_b, tells_a}

-- a leads, and then b, since their messages to each other are lost
abbrev pub both_lead : List Event
both_lead = Turn 400000000 1 ∷ Turn 398000000 1 ∷ Turn 397000000 1 ∷ Turn 396000000 1 ∷ until_asks

-- a is looked at, and has nothing to do; from then on datagrams take 10 ms
abbrev pub looked : List Event
looked = Turn 401000000 0 ∷ both_lead

abbrev pub look_line : Line
look_line = line_of (record { at = 401000000; node = 0; cause = Turned }) 401000000 first_port Begins

-- a's round begins, and its MASTERUP, b's question and a's answer come
abbrev pub until_told : List Event
until_told = Turn 630000000 0 ∷ looked

abbrev pub until_known : List Event
until_known = Take 630030000 12 ∷ Take 630020000 11 ∷ Take 630010000 10 ∷ until_told

-- b's resolution ends
abbrev pub until_quits : List Event
until_quits = Turn 635010000 1 ∷ Turn 633000000 0 ∷ Turn 632000000 0 ∷ Turn 631000000 0 ∷ until_known

-- its QUIT comes, and a joins it and is set
abbrev pub until_left : List Event
until_left = Take 635020000 13 ∷ until_quits

abbrev pub until_joined : List Event
until_joined = Take 635050000 17 ∷ Take 635040000 16 ∷ Take 635030000 15 ∷ Take 635030000 14 ∷ until_left

-- b's round, in which a is measured and corrected
abbrev pub until_end : List Event
until_end =
    Take 648020000 29 ∷ Take 648010000 28 ∷ Turn 648000000 1 ∷ Take 643020000 27 ∷ Take 643010000 26 ∷ Turn 643000000 1 ∷ Take 642020000 25 ∷
    Take 642010000 24 ∷ Turn 642000000 1 ∷ Take 641020000 23 ∷ Take 641010000 22 ∷ Turn 641000000 1 ∷ Take 640020000 21 ∷ Take 640020000 20 ∷
    Take 640010000 19 ∷ Take 640010000 18 ∷ Turn 640000000 1 ∷ until_joined

-- neither a nor b changes its role between these places
abbrev pub BothStay : List Line → List Line → Type 0
BothStay early late = (¬ Changed (view first_port (of 0 early)) (view first_port (of 0 late)))
    × (¬ Changed (view first_port (of 1 early)) (view first_port (of 1 late)))

pub record RivalsUse : Type 0 where
  -- all that is asked for holds of the run, until 250.02 s and 4 microseconds after the look
  pub accepted : Accepted two_may until_end
  pub attended : Attended 0 (run two_may until_end)
  pub delivered : (setting : Setting) → SetBy two_may setting →
      Delivered setting 10000 651020004 all_stay (run two_may both_lead) (run two_may until_end)
  pub spans : (setting : Setting) → SetBy two_may setting → Spans setting (ROUND + 0) 240000001 × Spans setting (WINDOW + 0) 5000001
  pub alone : HasOnePort two_may 0 first_port
  pub two : (setting : Setting) → SetBy two_may setting →
      TwoLead two_may setting 0 651020004 all_stay (run two_may both_lead) 0 1 first_port first_port look_line (run two_may both_lead) (run two_may until_end)
  -- when a's round begins it tells b that it is master
  pub tells : gained two_may until_told ≡
      a_line 18 630000000 (Ring Round) ∷
      a_line 18 630000000 (Arm Round 870000000) ∷
      a_line 18 630000000 (Arm Probe 631000000) ∷
      a_line 18 630000000 (Arm CloseAlarm 638000000) ∷
      a_posts 18 630000000 10 (sends_b (bare MasterUp 0 (codes "a"))) ∷ []
  -- b looks for rivals
  pub asks : gained two_may (Take 630010000 10 ∷ until_told) ≡
      b_line 19 630010000 (b_takes (bare MasterUp 0 (codes "a"))) ∷
      b_line 19 630010000 (Arm ResolveAlarm 635010000) ∷
      b_posts 19 630010000 11 (tells_a (bare ResolveKind 0 (codes "b"))) ∷ []
  -- and finds a
  pub finds : gained two_may until_known ≡ b_line 21 630030000 (b_takes (bare MasterAck 0 (codes "a"))) ∷ b_line 21 630030000 (Rival (peer 0)) ∷ []
  -- until its Resolve rings both lead; then it sends a away
  pub lead : BothStay (run two_may looked) (run two_may until_quits)
  pub quits : gained two_may until_quits ≡ b_line 25 635010000 (Ring ResolveAlarm) ∷ b_posts 25 635010000 13 (tells_a (bare QuitKind 38529 (codes "b"))) ∷ []
  -- and a follows b
  pub follows : gained two_may until_left ≡
      a_line 26 635020000 (a_takes (bare QuitKind 38529 (codes "b"))) ∷
      a_line 26 635020000 (Quit (peer 1)) ∷
      a_posts 26 635020000 14 (sends_b (bare Ack 38529 (codes "a"))) ∷
      a_line 26 635020000 (Become (Follow (peer 1))) ∷
      a_line 26 635020000 (Arm Elect 935020000) ∷
      a_posts 26 635020000 15 (sends_b (bare SlaveUp 0 (codes "a"))) ∷ []
