-- A run in which a node finds its master, joins it and is set; and what isn't so without what is asked.
use Rattle.std.specs.Prelude.{◌≡◌, ℕ, pos, neg_ℤ, true, List, [], ◌∷◌, codes, None, Some}
use Rattle.tsp_rules.specs.Values.{Act, Took, Post, Become, Arm, Join, Acked, Correct, Ring, Elect, Quiet, Boot, Event, BootAt, Turn, Take}
use Rattle.tsp_rules.specs.Values.{Good, Message, MasterAck, MasterUp, SlaveUp, Ack, SetTime, Follow, Peer}
use Rattle.tsp_base.specs.Words.{Acts, Begins, Line, MessageValue, bare, peer_of as peer, timed}
use Rattle.tsp_run.specs.{Refusals.Valid, Run.gained, Run.run, declared.line.Line.Line as ToldLine}
use Rattle.tsp_progress.specs.{ByTable.ByTable, Needed.does_at, Watched.Attended, Worked.a_line, Worked.a_posts, Worked.one_may}

-- a, which leads, is found by b, which reports to it
abbrev pub until_reports : List Event
until_reports =
    Take 390020000 6 ∷ Take 390010000 5 ∷ Turn 390000000 1 ∷ Turn 390000000 0 ∷ Turn 388000000 0 ∷ Turn 387000000 0 ∷ Turn 386000000 0 ∷ Turn 385000000 0 ∷
    BootAt 310000000 1 0 ∷ Turn 85000000 0 ∷ Turn 80000000 0 ∷ BootAt 0 0 0 ∷ []

-- b joins, and is set
abbrev pub until_set : List Event
until_set = Take 390050000 9 ∷ Take 390040000 8 ∷ Take 390030000 7 ∷ until_reports

-- the line of an act of b
abbrev pub b_line : ℕ → ℕ → Act → ToldLine
b_line event tick act = record { event = event; node = 1; tick = tick; number = None; placed = record { port = record { 0 = 0 }; act = act } }

-- the line of a post of b to a
abbrev pub b_posts : ℕ → ℕ → ℕ → Act → ToldLine
b_posts event tick k act = record { event = event; node = 1; tick = tick; number = Some k; placed = record { port = record { 0 = 0 }; act = act } }

-- a message of a that is taken by b, and one of b that is taken by a
abbrev pub b_takes : MessageValue → Act
b_takes m = Took (Peer (peer 0)) (Good (Message m))

abbrev pub a_takes : MessageValue → Act
a_takes m = Took (Peer (peer 1)) (Good (Message m))

abbrev pub tells_a : MessageValue → Act
tells_a m = Post (Peer (peer 0)) (Message m)

abbrev pub sends_b : MessageValue → Act
sends_b m = Post (Peer (peer 1)) (Message m)

-- b takes a's MASTERUP in its quiet time
abbrev pub hears_early : List Event
hears_early = Take 390010000 4 ∷ Turn 390000000 0 ∷ Turn 388000000 0 ∷ Turn 387000000 0 ∷ Turn 386000000 0 ∷ Turn 385000000 0 ∷ BootAt 311000000 1 0 ∷
    Turn 85000000 0 ∷ Turn 80000000 0 ∷ BootAt 0 0 0 ∷ []

-- a node whose quiet time ends, and that does nothing
abbrev pub stays_silent : List Line
stays_silent = does_at 80000000 (Acts (Ring Quiet)) ∷ does_at 80000000 Begins ∷ does_at 0 (Acts Boot) ∷ does_at 0 Begins ∷ []

pub record TableUse : Type 0 where
  -- no event is refused, and each node is looked at as soon as something is due
  pub valid : Valid one_may until_set
  pub attended : Attended 0 (run one_may until_set)
  -- b searches, and follows a when it hears of it
  pub follows : gained one_may until_reports ≡
      b_line 12 390020000 (b_takes (bare MasterAck 0 (codes "a"))) ∷
      b_line 12 390020000 (Become (Follow (peer 0))) ∷
      b_line 12 390020000 (Arm Elect 690020000) ∷
      b_posts 12 390020000 7 (tells_a (bare SlaveUp 0 (codes "b"))) ∷ []
  -- a takes it in
  pub joins : gained one_may (Take 390030000 7 ∷ until_reports) ≡
      a_line 13 390030000 (a_takes (bare SlaveUp 0 (codes "b"))) ∷
      a_line 13 390030000 (Join (peer 1)) ∷
      a_posts 13 390030000 8 (sends_b (timed SetTime 0 (pos 390030000) (codes "a"))) ∷ []
  -- b's clock is set
  pub sets : gained one_may (Take 390040000 8 ∷ Take 390030000 7 ∷ until_reports) ≡
      b_line 14 390040000 (b_takes (timed SetTime 0 (pos 390030000) (codes "a"))) ∷
      b_line 14 390040000 (Correct (neg_ℤ (pos 10000)) true (pos 390030000)) ∷
      b_line 14 390040000 (Arm Elect 690040000) ∷
      b_posts 14 390040000 9 (tells_a (bare Ack 0 (codes "b"))) ∷ []
  -- a's send ends
  pub ends : gained one_may until_set ≡ a_line 15 390050000 (a_takes (bare Ack 0 (codes "b"))) ∷ a_line 15 390050000 (Acked (peer 1)) ∷ []
  -- a port in its quiet time doesn't heed its peers
  pub early_valid : Valid one_may hears_early
  pub early : gained one_may hears_early ≡ b_line 10 390010000 (b_takes (bare MasterUp 0 (codes "a"))) ∷ []
  -- a history that isn't by the table
  pub silent : ¬ ByTable one_may stays_silent
