-- A run in which a candidate asks a master for its vote, and is sent away.
use Rattle.std.specs.Prelude.{◌≡◌, List, [], ◌∷◌, codes}
use Rattle.tsp_rules.specs.Values.{Event, BootAt, Turn, Take, Quit, Become, Arm, Acked, Elect, Election, QuitKind, Ack, SlaveUp, Follow}
use Rattle.tsp_base.specs.Words.{bare, peer_of as peer}
use Rattle.tsp_run.specs.{Refusals.Valid, Run.gained}
use Rattle.tsp_progress.specs.{OneUse.two_may, Worked.a_line, Worked.a_posts}
use Rattle.tsp_progress.specs.TableUse.{a_takes, b_line, b_posts, b_takes, sends_b, tells_a}

-- a leads, and b, to which nothing of it came, stands
abbrev pub until_asks : List Event
until_asks =
    Turn 395000000 1 ∷ Turn 390000000 0 ∷ Turn 388000000 0 ∷ Turn 387000000 0 ∷ Turn 386000000 0 ∷ Turn 385000000 0 ∷ Turn 85000000 1 ∷ Turn 85000000 0 ∷
    Turn 80000000 1 ∷ Turn 80000000 0 ∷ BootAt 0 1 10000000 ∷ BootAt 0 0 0 ∷ []

-- its ELECTION, the QUIT and its ACK come
abbrev pub until_away : List Event
until_away = Take 395030000 8 ∷ Take 395020000 7 ∷ Take 395010000 6 ∷ until_asks

pub record SentAwayUse : Type 0 where
  pub valid : Valid two_may until_away
  -- a sends b away
  pub sends : gained two_may (Take 395010000 6 ∷ until_asks) ≡
      a_line 13 395010000 (a_takes (bare Election 38528 (codes "b"))) ∷
      a_posts 13 395010000 7 (sends_b (bare QuitKind 32769 (codes "a"))) ∷ []
  -- b acknowledges that, and follows a
  pub follows : gained two_may (Take 395020000 7 ∷ Take 395010000 6 ∷ until_asks) ≡
      b_line 14 395020000 (b_takes (bare QuitKind 32769 (codes "a"))) ∷
      b_line 14 395020000 (Quit (peer 0)) ∷
      b_posts 14 395020000 8 (tells_a (bare Ack 32769 (codes "b"))) ∷
      b_line 14 395020000 (Become (Follow (peer 0))) ∷
      b_line 14 395020000 (Arm Elect 705020000) ∷
      b_posts 14 395020000 9 (tells_a (bare SlaveUp 5760 (codes "b"))) ∷ []
  -- a's send ends
  pub ends : gained two_may until_away ≡ a_line 15 395030000 (a_takes (bare Ack 32769 (codes "b"))) ∷ a_line 15 395030000 (Acked (peer 1)) ∷ []
