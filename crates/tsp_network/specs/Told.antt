-- That a session may be told a step at a time: what `serve` promises of a daemon whose outside is told to its end is what a network says of it
-- in the life that it has been told so far.
use Rattle.std.specs.Prelude.{◌≡◌, ◌⊎◌, ℕ, ◌+◌, ◌*◌, ℤ, List, ◌++◌, drop, length, Option, Some}
use Rattle.tsp_args.specs.declared.serve.ServeWords.{ServeWords}
use Rattle.tsp_base.specs.Words.{Step}
use Rattle.tsp_io.specs.Links.{Arrival, Tried}
use Rattle.tsp_rules.specs.Values.{Event}
use Rattle.tsp_query.specs.{Ends.Outside, Outside.Observed, Outside.Paged, Outside.after_bind}
use Rattle.tsp_daemon.specs.{Serving.IsServed, Serving.first_session, Sessions.Session, Sessions.acts_in_turn, Sessions.after_turns}
use Rattle.tsp_daemon.specs.declared.exit.DaemonExit.{DaemonExit}
use Rattle.tsp_network.specs.{Kept.tried_by, Lives.Daemons, Lives.Life, Lives.session_of, Lives.turn_acts, Lives.turn_told}
use Rattle.tsp_network.specs.Networks.{network, turned_to}

-- what a daemon has been told in this life is the beginning of its outside: an arrival for each turn, and two readings, after one at its start
pub record IsTold (o : Outside) (wall : ℤ) (word : ℕ) (life : Life) : Type 0 where
  pub wall_is : life.wall ≡ wall
  pub word_is : life.word ≡ word
  pub arrivals_left : List Arrival
  pub arrivals_are : o.arrivals ≡ life.arrivals ++ arrivals_left
  pub readings_left : List ℕ
  pub readings_are : o.readings ≡ life.readings ++ readings_left
  pub count : length life.readings ≡ 2 * length life.arrivals + 1

-- the session of a daemon with this outside, as `serve` promises it, after the turns that were told in this life
abbrev pub told_session : ServeWords → Outside → ℤ → ℕ → List ℕ → Life → Session
told_session s o wall word written life = after_turns (length life.arrivals) (first_session s (after_bind o) wall word written)

-- it has come as far as the session of the life: to the same past, with what it had tried and written before, and then the same
pub record ComesAsFar (o : Outside) (written : List ℕ) (whole told : Session) : Type 0 where
  pub past : whole.past ≡ told.past
  pub tried : whole.outside.tried ≡ o.tried ++ told.outside.tried
  pub turns : whole.turns ≡ told.turns
  pub posts : whole.posts ≡ told.posts
  pub shown : whole.written ≡ written ++ told.written

-- so it is with every outside and every life that has been told its beginning; and the next turn's acts are those of the life in which that is
-- told too
pub record SessionsAreTold : Type 0 where
  pub far : (s : ServeWords) (o : Outside) (wall : ℤ) (word : ℕ) (written : List ℕ) (life : Life) → IsTold o wall word life →
      ComesAsFar o written (told_session s o wall word written life) (session_of s life)
  pub acts : (s : ServeWords) (o : Outside) (wall : ℤ) (word : ℕ) (written : List ℕ) (life : Life) (arrival : Arrival) (early tick : ℕ) →
      IsTold o wall word life → IsTold o wall word (turn_told arrival early tick life) →
      acts_in_turn (told_session s o wall word written life) ≡ turn_acts s life (turn_told arrival early tick life)

-- what the link of a daemon was asked to send when `serve` ended, if the daemon is one of a network that has come to this life of it. It is
-- what the link was asked before the start, and what the network has of the daemon since: if nothing was sent after the turns of this life, up
-- to here; and else with one turn more, in which the daemon ends after so many sends
abbrev pub IsTriedSo : Daemons → List Event → Step → Outside → Life → Option (List Tried) → Type 0
IsTriedSo d events step o life tried =
    (tried ≡ Some (o.tried ++ tried_by step.node (drop life.sent_before (network d events).sent)))
    ⊎ ((m : ℕ) × ((arrival : Arrival) (early tick : ℕ) → IsTold o life.wall life.word (turn_told arrival early tick life) → d.tries (length events) ≡ Some m →
    tried ≡ Some (o.tried ++ tried_by step.node
    (drop life.sent_before (turned_to d (length events) step life (turn_told arrival early tick life) (network d events)).sent))))

-- so it is with every daemon of which `serve` says how it was served, in as many turns as this life has
abbrev pub ServedIsTried : Type 0
ServedIsTried =
    (d : Daemons) (events : List Event) (step : Step) (life : Life) (o : Outside) (written : List ℕ) (waits : Option (List ℕ)) (page : Paged)
    (now : Observed) (served : DaemonExit) → (network d events).lives step.node ≡ Some life → IsTold o life.wall life.word life →
    (by : IsServed (d.words step.node) (after_bind o) life.wall life.word written waits page now served) → by.taken ≡ length life.arrivals →
    IsTriedSo d events step o life now.tried
