-- A candidate that nobody opposes, and wins; and runs in which one doesn't win: elections are strict, its Window is late, or it is refused.
use Rattle.std.specs.Prelude.{◌≡◌, ◌+◌, List, [], ◌∷◌}
use Rattle.tsp_rules.specs.Values.{Arm, Become, BootAt, Event, Master, Ring, Round, Turn, Window, SLACK}
use Rattle.tsp_base.specs.Words.{Line}
use Rattle.tsp_promises.specs.{Premises.Honest, Premises.Life}
use Rattle.tsp_run.specs.{Ranges.Accepted, Refusals.Valid, Run.gained, Run.run}
use Rattle.tsp_progress.specs.{ElectUse.before_stand, ElectUse.stand_line, Needed.strict_alone, OneAtATime.StandsAt, OneUse.two_may, RefusedUse.both_lose}
use Rattle.tsp_progress.specs.{LoneWins.Unmastered, LoneWins.Welcomed, RefusedUse.b_backs, RefusedUse.both_stand, Watched.Attended, WinsUnopposed.Unhindered}
use Rattle.tsp_progress.specs.{WinsUnopposed.Unopposed, WinsUnopposed.WinsUnopposed}
use Rattle.tsp_progress.specs.{WinsUnopposed.Won, Worked.a_line, Worked.a_posts, Worked.one_may, Worked.tells_b, Worked.until_leads, Worked.until_stands}

-- a stands
abbrev pub a_stands : Line
a_stands = stand_line 0 385000000

abbrev pub before_a : List Line
before_a = before_stand (run one_may until_stands)

-- it is looked at once more after its Window
abbrev pub later_look : List Event
later_look = Turn 400000000 0 ∷ until_leads

-- its Window is looked at one tick more than SLACK late
abbrev pub late_window : List Event
late_window = Turn 400000000 0 ∷ Turn 391000001 0 ∷ Turn 388000000 0 ∷ Turn 387000000 0 ∷ Turn 386000000 0 ∷ until_stands

-- b refuses it
abbrev pub refused_look : List Event
refused_look = Turn 400000000 1 ∷ Turn 400000000 0 ∷ both_lose

-- b waits longer; a stands, and b votes for it
abbrev pub b_waits : List Event
b_waits = Turn 85000000 1 ∷ Turn 85000000 0 ∷ Turn 80000000 1 ∷ Turn 80000000 0 ∷ BootAt 0 1 10000000 ∷ BootAt 0 0 0 ∷ []

abbrev pub before_vote : List Line
before_vote = before_stand (run two_may (Turn 385000000 0 ∷ b_waits))

abbrev pub voted_look : List Event
voted_look = Turn 400000000 0 ∷ Turn 390000000 0 ∷ b_backs

pub record WinUse : Type 0 where
  -- nobody opposes a, and it wins when its Window ends
  pub accepted : Accepted one_may later_look
  pub attended : Attended 0 (run one_may later_look)
  pub stands : StandsAt a_stands before_a (run one_may later_look)
  pub unhindered : Unhindered a_stands before_a (run one_may later_look)
  pub honest : Honest (run one_may later_look)
  pub life : Life (run one_may later_look)
  pub unopposed : Unopposed a_stands before_a (run one_may later_look)
  pub wins : gained one_may until_leads ≡
      a_line 8 390000000 (Ring Window) ∷
      a_line 8 390000000 (Become Master) ∷
      a_line 8 390000000 (Arm Round 630000000) ∷
      a_posts 8 390000000 4 tells_b ∷ []
  -- where elections are strict it doesn't
  pub strict_valid : Valid strict_alone later_look
  pub strict_attended : Attended 0 (run strict_alone later_look)
  pub strict : ¬ WinsUnopposed 0 (run strict_alone later_look)
  -- nor where its Window is late
  pub late_valid : Valid one_may late_window
  pub late_attended : Attended (SLACK + 1) (run one_may late_window)
  pub late : ¬ WinsUnopposed (SLACK + 1) (run one_may late_window)
  -- nor where it is refused
  pub refused_valid : Valid two_may refused_look
  pub refused_attended : Attended 0 (run two_may refused_look)
  pub refused : ¬ Won a_stands (before_stand (run two_may both_stand)) (run two_may refused_look)
  -- b may back a, and no master says anything to it: it wins
  pub voted_accepted : Accepted two_may voted_look
  pub voted_attended : Attended 0 (run two_may voted_look)
  pub voted_stands : StandsAt a_stands before_vote (run two_may voted_look)
  pub welcomed : Welcomed a_stands (run two_may voted_look)
  pub unmastered : Unmastered a_stands before_vote (run two_may voted_look)
  pub voted_honest : Honest (run two_may voted_look)
  pub voted_life : Life (run two_may voted_look)
  pub voted : gained two_may (Turn 390000000 0 ∷ b_backs) ≡
      a_line 10 390000000 (Ring Window) ∷
      a_line 10 390000000 (Become Master) ∷
      a_line 10 390000000 (Arm Round 630000000) ∷
      a_posts 10 390000000 4 tells_b ∷ []
  -- and in the run in which b refuses it it isn't welcome
  pub unwelcome : ¬ Welcomed a_stands (run two_may refused_look)
