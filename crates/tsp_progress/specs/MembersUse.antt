-- A follower that stays in its master's table, and ones that don't.
use Rattle.std.specs.Prelude.{◌≡◌, ◌<◌, ℕ, ◌+◌, true, false, List, [], ◌∷◌}
use Rattle.tsp_rules.specs.Values.{Become, Boot, Bytes, Event, Leave, Master, Stranger, Turn}
use Rattle.tsp_base.specs.Words.{Acts, Begins, Line, dids, first_port, peer_of, time_of}
use Rattle.tsp_promises.specs.{Premises.Honest, Premises.Life, Setting.Setting}
use Rattle.tsp_run.specs.{Ranges.Accepted, Refusals.Valid, Run.run, Setting.SetBy}
use Rattle.tsp_progress.specs.{AckedUse.ack_lost, Delivered.Delivered, FollowOn.Calm, FollowOn.FollowUntil, FollowUse.follows_long, FollowUse.two_stay}
use Rattle.tsp_progress.specs.{Needed.does_at, OneUse.two_may, OneWire.OneWire, ReportsSoon.is_slave_of, SampledUse.all_lost}
use Rattle.tsp_progress.specs.{SettlesTable.settled_table_after, StaysIn.InRange, StaysIn.IsBrief, TableKept.TablesLast, TableUse.until_reports}
use Rattle.tsp_progress.specs.{TableUse.until_set, Watched.Attended, Watched.Told, Worked.one_may}

-- the run of `follow_use`, in which a looks at its timers once more
abbrev pub looks_on : List Event
looks_on = Turn 700000000 0 ∷ follows_long

-- a client outside sets the date, to 400 s
abbrev pub date_octets : List ℕ
date_octets = 22 ∷ 1 ∷ 0 ∷ 1 ∷ 0 ∷ 0 ∷ 1 ∷ 144 ∷ 0 ∷ 0 ∷ 0 ∷ 0 ∷ 0 ∷ []

abbrev pub sets_a_date : List Event
sets_a_date = Bytes 395000000 0 first_port Stranger date_octets ∷ until_set

-- a master that lets a slave go for nothing
abbrev pub lets_go : List Line
lets_go = does_at 10 (Acts (Leave (peer_of 1))) ∷ does_at 10 Begins ∷ does_at 5 (Acts (Become Master)) ∷ does_at 5 Begins ∷ does_at 0 (Acts Boot) ∷
    does_at 0 Begins ∷ []

pub record MembersUse : Type 0 where
  -- in this run all that is asked for holds, and it goes on for long enough
  pub accepted : Accepted two_may looks_on
  pub attended : Attended 0 (run two_may looks_on)
  pub told : (setting : Setting) → SetBy two_may setting → Told 0 setting 700000000 0 (run two_may looks_on)
  pub wire : (setting : Setting) → SetBy two_may setting → OneWire two_may setting two_stay
  pub calm : Calm 10000 two_stay (run two_may until_set) (run two_may looks_on)
  pub delivered : (setting : Setting) → SetBy two_may setting →
      Delivered setting 10000 700000000 two_stay (run two_may until_set) (run two_may looks_on)
  pub brief : (setting : Setting) → SetBy two_may setting → IsBrief setting 10000
  pub honest : Honest (run two_may looks_on)
  pub life : Life (run two_may looks_on)
  pub range : InRange two_may 10000 0 (run two_may until_set) (run two_may looks_on)
  pub follows : FollowUntil two_stay 0 700000000 (run two_may until_set) (run two_may looks_on)
  pub settled : time_of (dids (run two_may until_set)) + settled_table_after 10000 < time_of (dids (run two_may looks_on))
  -- so b is in a's table
  pub member : is_slave_of 0 1 (run two_may looks_on) ≡ true
  -- it isn't before its report has come
  pub unreported : is_slave_of 0 1 (run one_may until_reports) ≡ false
  -- where it was, it leaves when a round's requests are lost, when the acknowledgment of a correction is lost, and when the date is set
  pub joined : is_slave_of 0 1 (run two_may until_set) ≡ true
  pub unsampled : is_slave_of 0 1 (run one_may all_lost) ≡ false
  pub unacked : is_slave_of 0 1 (run one_may ack_lost) ≡ false
  pub dated_valid : Valid two_may sets_a_date
  pub dated : is_slave_of 0 1 (run two_may sets_a_date) ≡ false
  -- a history in which a slave leaves for nothing is that of no run
  pub sudden : ¬ TablesLast lets_go
