-- Clocks that one round corrected agree within twice `long`, and drift.
use Rattle.std.proofs.Common.{arith, subst, ◌≤◌, ◌≤ℤ◌, ℕ, ◌+◌, ◌*◌, ℤ, pos, ◌+ℤ◌, List, [], ◌∷◌}
use Rattle.std.proofs.lemmas.Int.{ints}
use Rattle.tsp_base.specs.Words.{Line, Within, dids, time_of}
use Rattle.tsp_base.proofs.PlaceLemmas.{Within_through}
use Rattle.tsp_promises.specs.{Agreed.ClocksAgree, ClockAt.drifted, Premises.Honest, Premises.Life}
use Rattle.tsp_promises.specs.{Premises.TakenWithinAt, Setting.Setting}
use Rattle.tsp_promises.proofs.{promised.AgreedProof.stay_agreed, shared.EverywhereLemmas.Everywhere_at, promised.OwnFitsProof.Given}
use Rattle.tsp_promises.proofs.{promised.OwnFitsProof.given}
use Rattle.tsp_run.specs.Clocked.{clocks_of, run_by}
use Rattle.tsp_run.proofs.{OwnClocks.possible_own, OwnClocks.runs_by_own_clocks, OwnClocks.set_own, RunFits.clocked_runs_fit}
use Rattle.tsp_progress.specs.AgreesSoon.{AgreeSoon, ClockedRunsAgreeSoon, CorrectedBy, RunsAgreeSoon}
use Rattle.tsp_progress.specs.{ErrSoon.soon_err, FollowOn.AfterPlace}
use Rattle.tsp_progress.proofs.ErrSoonProof.{errs_soon}

wider_two : (x e f : ℤ) (b w : ℕ) → x ≤ℤ ((e +ℤ f) +ℤ pos w) → e ≤ℤ pos b → f ≤ℤ pos b → x ≤ℤ pos (2 * b + w)
wider_two x e f b w h i j = omega (arith, ints, h, i, j)

wider_one : (x e : ℤ) (b w : ℕ) → x ≤ℤ (e +ℤ pos w) → e ≤ℤ pos b → x ≤ℤ pos (b + w)
wider_one x e b w h i = omega (arith, ints, h, i)

module _ (setting : Setting) (world : List Line) (whole : Given setting world) (long : ℕ) (s : List Line)
    (soon : AfterPlace s world (λ l older. TakenWithinAt long l older)) where
  bounded : (h : List Line) → Within h world → (m : ℕ) (close : Line) (before : List Line) (c : Line) (past : List Line) (r : Line) (older : List Line) →
      (k : CorrectedBy s m close before c past r older h) → k.err ≤ℤ pos (soon_err setting long)
  bounded h w m close before c past r older k = errs_soon setting world whole long s soon m close before c past r older k.err
      (Within_through (c ∷ past) h world k.unchanged.within w) k.rests k.since

  clocks : (h : List Line) (time : ℕ) → Within h world → time_of (dids h) ≤ time → (c : Line) (past : List Line) → Within (c ∷ past) h →
      ClocksAgree setting h time
  clocks [] time w le c past v = let bad : ⊥ = cc in absurd bad
  clocks (k ∷ rest) time w le c past v = Everywhere_at (λ (j : Line) (z : List Line). (x : ℕ) → j.did.step.at ≤ x → ClocksAgree setting (j ∷ z) x) k rest world
      (stay_agreed setting world whole) w time le

  pub agree_soon : AgreeSoon setting long s world
  agree_soon = record {
    peers = λ h time m close before c d past qast r q older qolder w le j k.
        let near = (clocks h time w le c past j.unchanged.within).peers m close before c d past qast r q older qolder j.err k.err j.rests k.rests j.unchanged
        k.unchanged in
        wider_two _ j.err k.err (soon_err setting long) (drifted setting time r + drifted setting time q) near
        (bounded h w m close before c past r older j) (bounded h w m close before d qast q qolder k);
    master = λ h time m close before c past r older w le k but.
        let near = (clocks h time w le c past k.unchanged.within).master m close before c past r older k.err k.rests k.unchanged but in
        wider_one _ k.err (soon_err setting long) (drifted setting time r) near (bounded h w m close before c past r older k);
  }

pub clocked_runs_agree_soon : ClockedRunsAgreeSoon
clocked_runs_agree_soon clocks header setting events long s set possible honest life soon =
    agree_soon setting (run_by clocks header events)
    (given setting (run_by clocks header events) (clocked_runs_fit clocks header setting events set possible).0 honest life) long s soon

pub runs_agree_soon : RunsAgreeSoon
runs_agree_soon header setting events long s set possible = subst (λ h. Honest h → Life h → AfterPlace s h (λ l older. TakenWithinAt long l older) →
    AgreeSoon setting long s h) (runs_by_own_clocks header events)
    (clocked_runs_agree_soon (clocks_of header) header setting events long s (set_own header setting set) (possible_own header events possible))
