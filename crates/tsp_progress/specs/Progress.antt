-- What happens in time in runs that are looked at in time.
use Rattle.std.specs.Prelude.{◌≡◌, ◌≤◌, ℕ, ◌+◌, false, true, List, ◌∷◌}
use Rattle.tsp_rules.specs.Values.{Event, Port, SLACK, WINDOW}
use Rattle.tsp_rules.specs.{CommonRows.is_idle, Guards.is_master}
use Rattle.tsp_base.specs.Words.{Did, HeaderValue, Here, Line, Seen, held, of, role, stood, view}
use Rattle.tsp_promises.specs.Setting.{Setting}
use Rattle.tsp_run.specs.Clocked.{Clocks, PossibleBy, SetByClocks, run_by}
use Rattle.tsp_run.specs.{Possible.Possible, Run.run, Setting.SetBy}
use Rattle.tsp_progress.specs.{AlarmsFit.Manner, AloneLeads.AloneLeads, AloneLeads.last_word, AloneStands.AloneStands, AloneStands.news, AloneStands.patience}
use Rattle.tsp_progress.specs.{InTime.AllInTime, InTime.EndsInTime, NeverLate.NeverLate, RunsWake.manner_of, SendsEnd.SendsEnd, SendsEnd.SendsEnded}
use Rattle.tsp_progress.specs.{Stands.Stands}
use Rattle.tsp_progress.specs.RoundsRecur.{RoundsRecur, RoundsRecurred}
use Rattle.tsp_progress.specs.FreshLeads.{FreshLeads, first_lead, untouched}
use Rattle.tsp_progress.specs.Watched.{Attended, Told}

-- what happens in time in a history in which each node is looked at at most `late` ticks after something is due
pub record Progress (m : ℕ → Manner) (late : ℕ) (world : List Line) : Type 0 where
  -- sends end
  pub sends : SendsEnd late world
  -- quiet times, candidatures, rounds, resolutions and searches end
  pub in_time : AllInTime late world
  -- a master's rounds recur
  pub rounds : RoundsRecur late world
  -- no alarm is handled late
  pub never_late : NeverLate world
  -- when Elect rings, a node that may be master and took no QUIT lately stands
  pub stands : Stands m world
  -- if it hears nothing, it stands soon, and leads soon
  pub alone_stands : AloneStands m late world
  pub alone_leads : AloneLeads m late world
  -- if it heard nothing since its boot, it leads sooner
  pub fresh_leads : FreshLeads m late world

-- what is so of node n after the whole history, which is told up to the true time t
pub record ProgressTo (m : ℕ → Manner) (late : ℕ) (setting : Setting) (t n : ℕ) (world : List Line) : Type 0 where
  pub sends : SendsEnded late setting t n world
  pub in_time : EndsInTime late setting t n world
  pub rounds : RoundsRecurred late setting t n world
  -- a port that is Loose or follows stands soon, if the node may be master
  pub alone_stands : (m n).may ≡ true → (q : Port) → is_idle (role (view q (of n world))) ≡ true → setting.tick n t ≤ news (view q (of n world)) + patience late
  -- where elections aren't strict, a port that has a role and isn't master is master soon
  pub alone_leads : (m n).may ≡ true → (m n).strict ≡ false → (q : Port) → (start : Did) (idle : List Seen) → stood (view q (of n world)) ≡ Here start ∷ idle →
      is_master (role (view q (of n world))) ≡ false →
      setting.tick n t ≤ last_word (view q (of n world)) + (patience late + WINDOW + late)
  pub fresh_leads : (m n).may ≡ true → (m n).strict ≡ false → (q : Port) → (start : Did) (idle : List Seen) → stood (view q (of n world)) ≡ Here start ∷ idle →
      is_master (role (view q (of n world))) ≡ false → untouched (view q (of n world)) ≡ true →
      setting.tick n t ≤ (held (view q (of n world))).boot + first_lead late

-- the run of each possible schedule that is looked at within SLACK makes progress, up to each time up to which it is told
abbrev pub RunsProgress : Type 0
RunsProgress = (header : HeaderValue) (setting : Setting) (events : List Event) (late : ℕ) → SetBy header setting → Possible header events →
    Attended late (run header events) → late ≤ SLACK →
    Progress (manner_of header) late (run header events)
    × ((t n : ℕ) → Told late setting t n (run header events) → ProgressTo (manner_of header) late setting t n (run header events))

-- so does a run by any clocks that keep the header's drift
abbrev pub ClockedRunsProgress : Type 0
ClockedRunsProgress = (clocks : Clocks) (header : HeaderValue) (setting : Setting) (events : List Event) (late : ℕ) → SetByClocks clocks header setting →
    PossibleBy clocks header events → Attended late (run_by clocks header events) → late ≤ SLACK →
    Progress (manner_of header) late (run_by clocks header events)
    × ((t n : ℕ) → Told late setting t n (run_by clocks header events) → ProgressTo (manner_of header) late setting t n (run_by clocks header events))
