-- At a Close a master moves its own clock, and posts an ADJTIME to each node in its table.
use Rattle.std.proofs.Common.{subst, ◌≡◌, ◌≤◌, ℕ, ◌==◌, Bool, true, false, List, is_some}
use Rattle.tsp_rules.specs.Values.{SLACK}
use Rattle.tsp_base.specs.Words.{HeaderValue, Line, Within, estimate, is_measured, of, peer_of, view}
use Rattle.tsp_promises.specs.Setting.{Setting}
use Rattle.tsp_run.specs.Clocked.{Clocks, clocks_of, run_by}
use Rattle.tsp_run.proofs.{OwnClocks.possible_own, OwnClocks.runs_by_own_clocks, OwnClocks.set_own}
use Rattle.tsp_progress.specs.{Delivered.Delivered, FollowOn.Calm, FollowOn.FollowUntil, FollowOn.OneNetwork, InTable.InTable, InTable.KeepsRange}
use Rattle.tsp_progress.specs.{InTable.SetsNone, LateClose.LateClose, MeasuresTable.HasSample, RunsWake.manner_of, SampledInTime.IsSwift}
use Rattle.tsp_progress.specs.SlewsTable.{ClockedRunsSlewTable, RunsSlewTable, SlewsTable}
use Rattle.tsp_progress.specs.{Watched.Attended, Watched.Told}
use Rattle.tsp_progress.proofs.{AllAsked.Tended, AllAsked.all_asked, AllAsked.on_first, LateCloses.port, SlewPlaces.moves_own, SlewPlaces.slews}
use Rattle.tsp_progress.proofs.{TableSampled.has_sample}

module _ {clocks : Clocks} {header : HeaderValue} {setting : Setting} (late long t : ℕ) (stays : ℕ → Bool) (c : ℕ) (s world : List Line)
    (a : Tended clocks header setting late long t stays c s world) where
  pub sampled_at : (C : Line) (cp : List Line) (r : LateClose long t c s C cp world) (n : ℕ) → stays n ≡ true → (n == c) ≡ false → HasSample c n C cp
  sampled_at C cp r n there other = has_sample a.set world a.table a.fits (manner_of header) a.woken a.wakes late long t c stays s a.attended a.slack a.told
      a.one a.delivered a.s_in a.calm a.follow a.members a.swift a.range (on_first a) C cp r n there other

  pub slews_table : SlewsTable long t stays c s world
  slews_table = record {
    own = λ C cp r. moves_own a.set world a.table a.fits long t c stays s a.s_in a.calm a.sets a.one.single (on_first a) C cp r;
    each = λ C cp r n there other.
        let h = sampled_at C cp r n there other in
        let on = port setting world a.fits long t c stays s a.s_in a.calm (on_first a) C cp r in
        slews a.set world a.table a.fits long t c stays s a.s_in a.calm a.sets a.one.single (on_first a) C cp r n (a.one.net n there) other
        (subst (λ q. is_measured (peer_of n) (view q (of c cp)) ≡ true) on h.measured)
        (subst (λ q. is_some (estimate (peer_of n) (view q (of c cp))) ≡ true) on h.sampled);
  }

pub clocked_runs_slew_table : ClockedRunsSlewTable
clocked_runs_slew_table clocks header setting events late long t stays c s set possible attended slack told one s-in calm delivered swift follow members sets
    range =
    slews_table late long t stays c s (run_by clocks header events)
    (all_asked clocks header setting events late long t stays c s set possible attended slack told one s-in calm delivered swift follow members sets range)

pub runs_slew_table : RunsSlewTable
runs_slew_table header setting events late long t stays c s set possible = subst (λ h. Attended late h → late ≤ SLACK → Told late setting t c h →
    OneNetwork header setting stays c → Within s h → Calm long stays s h → Delivered setting long t stays s h → IsSwift setting long →
    FollowUntil stays c t s h → InTable stays c t s h → SetsNone c s h → KeepsRange s h → SlewsTable long t stays c s h) (runs_by_own_clocks header events)
    (clocked_runs_slew_table (clocks_of header) header setting events late long t stays c s (set_own header setting set) (possible_own header events possible))
