-- What the station does; no slave and no rival is left.
use Rattle.std.proofs.Common.{refl}
use Rattle.tsp_date.proofs.KeepLemmas.{DatesStand_by}
use Rattle.tsp_master.proofs.TurnLemmas.{MasterStands_changing, turning_sorts}
use Rattle.tsp_resolve.proofs.ResolveLemmas.{ResolveStands_changed, rivalless}
use Rattle.tsp_node.proofs.{AlarmCases.beside_window, PartLemmas.still_alike, RivalKeeps.window_changes}
use Rattle.tsp_node.proofs.NodeLemmas.{Performs_station, Performs_untaken}
use Rattle.tsp_node.proofs.part.Part.ring_window.Goals as goal
use Rattle.tsp_rules.{proofs.BuiltRoles.built_window_rings, proofs.EmitsBuilt.emits_built, specs.CandidateRows.window_rings}

pub returns-clause-row : goal.returns-clause-row
returns-clause-row g c clock =
    let x = c.args.tick in
    Performs_untaken (emits_built refl (built_window_rings tt))
    (Performs_station refl refl refl beside_window (DatesStand_by window_rings (emits_built refl (built_window_rings tt)))
    (λ past h s. MasterStands_changing window_rings (emits_built {all = turning_sorts} refl (built_window_rings tt)) x past c.args.self.now.master
    c.clear.new.self (window_changes x past) (record { slaves = c.clear.ensures.slaves; peers = c.clear.ensures.peers; rounds = c.clear.ensures.rounds })
    h.master)
    (λ past h s. ResolveStands_changed x past (window_rings x past) c.args.self.now.resolve c.clear-2.new.self
    ((emits_built {all = rivalless} refl (built_window_rings tt)).only x past) (window_changes x past) c.clear-2.ensures.many c.clear-2.ensures.none
    h.resolve)
    c.candidate_ring.ensures.row)

pub invariant_of-self : goal.invariant_of-self
invariant_of-self g c = still_alike c.args.self.now c.clear.ensures.peers c.clear-2.ensures.many refl c.candidate_ring.ensures.port.peers
