-- Each follower is moved by each round of its master, soon after the Close, and left alone until the next.
use Rattle.std.proofs.Common.{subst, ◌≡◌, ◌≤◌, ℕ, Bool, true, List}
use Rattle.tsp_rules.specs.Values.{SLACK}
use Rattle.tsp_base.specs.Words.{HeaderValue, Line, Within}
use Rattle.tsp_promises.specs.{Premises.Honest, Premises.Life, Setting.Setting}
use Rattle.tsp_promises.proofs.promised.OwnFitsProof.{Given, given}
use Rattle.tsp_run.specs.Clocked.{Clocks, clocks_of, run_by}
use Rattle.tsp_run.proofs.{OwnClocks.possible_own, OwnClocks.runs_by_own_clocks, OwnClocks.set_own, RunFits.clocked_runs_fit}
use Rattle.tsp_progress.specs.{Delivered.Delivered, FollowOn.Calm, FollowOn.FollowUntil, FollowOn.OneNetwork, InTable.InTable, InTable.KeepsRange}
use Rattle.tsp_progress.specs.{InTable.SetsNone, InTable.Undated, OneWire.OneWire, SampledInTime.IsSwift}
use Rattle.tsp_progress.specs.TakesRounds.{ClockedRunsTakeRounds, RunsTakeRounds, TakesRounds}
use Rattle.tsp_progress.specs.{Watched.Attended, Watched.Told}
use Rattle.tsp_progress.proofs.{AllAsked.Tended, AllAsked.all_asked, OwnKept.own_kept, TakesOne.takes_round}

pub one_network : {header : HeaderValue} {setting : Setting} {stays : ℕ → Bool} (c : ℕ) → OneWire header setting stays → stays c ≡ true →
    OneNetwork header setting stays c
one_network c wire there = record { there = there; single = wire.single c there; net = λ n is. wire.net n c is there }

pub takes_rounds : {clocks : Clocks} {header : HeaderValue} {setting : Setting} (late long t : ℕ) (stays : ℕ → Bool) (c : ℕ) (s world : List Line) →
    Tended clocks header setting late long t stays c s world → Given setting world → OneWire header setting stays → Undated c s world →
    TakesRounds long t stays c s world
takes_rounds late long t stays c s world a whole wire undated = record {
  each = λ C cp r early n there other. takes_round late long t stays c s world a whole C cp r early n there other (wire.single n there);
  own = λ C cp r h w h-in until none. own_kept late long t stays c s world a undated C cp r h w h-in until none;
}

pub clocked_runs_take_rounds : ClockedRunsTakeRounds
clocked_runs_take_rounds clocks header setting events late long t stays c s set possible attended slack told wire there s-in calm delivered swift honest life
    follow members sets undated range =
    let world = run_by clocks header events in
    takes_rounds late long t stays c s world
    (all_asked clocks header setting events late long t stays c s set possible attended slack told (one_network c wire there) s-in calm delivered swift follow
    members sets range)
    (given setting world (clocked_runs_fit clocks header setting events set possible).0 honest life) wire undated

pub runs_take_rounds : RunsTakeRounds
runs_take_rounds header setting events late long t stays c s set possible = subst (λ h. Attended late h → late ≤ SLACK → Told late setting t c h →
    OneWire header setting stays → stays c ≡ true → Within s h → Calm long stays s h → Delivered setting long t stays s h → IsSwift setting long →
    Honest h → Life h → FollowUntil stays c t s h → InTable stays c t s h → SetsNone c s h → Undated c s h → KeepsRange s h →
    TakesRounds long t stays c s h) (runs_by_own_clocks header events)
    (clocked_runs_take_rounds (clocks_of header) header setting events late long t stays c s (set_own header setting set)
    (possible_own header events possible))
