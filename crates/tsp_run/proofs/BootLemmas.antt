-- A node that has booted is up.
use Rattle.std.proofs.Common.{sym, subst, ◌≡◌, ℕ, true, List, [], ◌∷◌, refl}
use Rattle.tsp_base.specs.Words.{dids, first_port, up, puts}
use Rattle.tsp_rules.specs.{GateRows.all_ports, GateRows.boots_all, GateRows.boots_on, Values.Boot, Values.Placed}
use Rattle.tsp_rules.specs.NodeRows.{NodePast, on, ◌and_then◌, reading_all, for_ports, spread}
use Rattle.tsp_rules.proofs.NodeRowLemmas.{spread_append}
use Rattle.tsp_run.proofs.RunLemmas.{up_joined}

pub boots_up : (x : ℕ) (past : NodePast) → up (dids (spread x past (boots_all x past)).lines) ≡ true
unfolding boots_all on puts ◌and_then◌
boots_up x past =
    let boot : List Placed = record { port = first_port; act = Boot } ∷ [] in
    let rest = reading_all all_ports (for_ports boots_on) x (spread x past boot) in
    subst (λ (z : NodePast). up (dids z.lines) ≡ true) (sym (spread_append x past boot rest)) (up_joined past.step x rest (spread x past boot).lines refl)
