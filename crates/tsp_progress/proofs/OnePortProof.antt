-- A node with one port does everything there.
use Rattle.std.proofs.Common.{ap, subst, arith, inl, inr, ◌≡◌, ◌<◌, ℕ, List, [], ◌∷◌, length}
use Rattle.tsp_rules.specs.Values.{Port}
use Rattle.tsp_base.specs.Words.{Line, Within, first_port}
use Rattle.tsp_promises.specs.{Fits.node_of}
use Rattle.tsp_run.specs.{Networks.networks, Networks.ports_on}
use Rattle.tsp_run.specs.Clocked.{clocks_of, run_by}
use Rattle.tsp_run.proofs.{FitsLines.ArePlaced, FitsLines.IsOn, OwnClocks.possible_own, OwnClocks.runs_by_own_clocks, OwnClocks.set_own, RunFits.ran}
use Rattle.tsp_progress.specs.OnePort.{ClockedRunsUseOnePort, RunsUseOnePort, UsesOnePort}

placed_at : (nets : List (List ℕ)) (l : Line) (older h : List Line) → ArePlaced nets h → Within (l ∷ older) h → IsOn (length (ports_on (node_of l) nets)) l
placed_at nets l older [] p w = let bad : ⊥ = cc in absurd bad
placed_at nets l older (k ∷ h) p (inl e) = let same : k ≡ l = cc in subst (λ (j : Line). IsOn (length (ports_on (node_of j) nets)) j) same p.0
placed_at nets l older (k ∷ h) p (inr w) = placed_at nets l older h p.1 w

-- the only port
first_only : (q : Port) (ports : ℕ) → ports ≡ 1 → q.0 < ports → q ≡ first_port
first_only q ports e less = let zero : q.0 ≡ 0 = omega (arith, e, less) in ap (λ (n : ℕ). let p : Port = record { 0 = n } in p) zero

pub clocked_runs_use_one_port : ClockedRunsUseOnePort
clocked_runs_use_one_port clocks header setting events set possible l older w single unshared =
    let placed = (ran possible.header_is set events possible).placed in
    first_only l.port (length (ports_on (node_of l) (networks header))) single
    (placed_at (networks header) l older (run_by clocks header events) placed w unshared)

pub runs_use_one_port : RunsUseOnePort
runs_use_one_port header setting events set possible = subst (λ h. UsesOnePort header h) (runs_by_own_clocks header events)
    (clocked_runs_use_one_port (clocks_of header) header setting events (set_own header setting set) (possible_own header events possible))
