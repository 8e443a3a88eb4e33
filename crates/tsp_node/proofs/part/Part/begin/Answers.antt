-- The role, and then the alarm; the slaves are forgotten.
use Rattle.std.proofs.Common.{refl, ◌∙◌, ap}
use Rattle.tsp_rules.{specs.Values.Become, specs.Values.Quiet, specs.Values.Starting, specs.Values.QUIET, proofs.BuiltGate.built_starts}
use Rattle.tsp_rules.proofs.EmitsBuilt.{emits_built}
use Rattle.tsp_base.{proofs.PerformsLemmas.Performs_then, specs.Words.arms, specs.Words.puts, specs.Words.◌followed_by◌}
use Rattle.tsp_master.proofs.TurnLemmas.{MasterStands_changing, turning_sorts}
use Rattle.tsp_date.proofs.KeepLemmas.{DatesStand_by}
use Rattle.tsp_resolve.proofs.ResolveLemmas.{ResolveStands_changed, rivalless}
use Rattle.tsp_acks.specs.declared.station.Station.{Station}
use Rattle.tsp_node.proofs.{NodeLemmas.Performs_station, PartLemmas.still_alike, RivalKeeps.begin_changes}
use Rattle.tsp_node.proofs.part.Part.begin.Goals as goal

pub returns-clause-row : goal.returns-clause-row
returns-clause-row g c clock =
    let row = puts (Become Starting) followed_by arms Quiet QUIET in
    Performs_station refl refl refl (emits_built refl built_starts) (DatesStand_by row (emits_built refl built_starts))
    (λ past h s. MasterStands_changing row (emits_built {all = turning_sorts} refl built_starts) c.args.tick past c.args.self.now.master c.clear.new.self
    (begin_changes c.args.tick past) (record { slaves = c.clear.ensures.slaves; peers = c.clear.ensures.peers; rounds = c.clear.ensures.rounds }) h.master)
    (λ past h s. ResolveStands_changed c.args.tick past (row c.args.tick past) c.args.self.now.resolve c.clear-2.new.self
    ((emits_built {all = rivalless} refl built_starts).only c.args.tick past) (begin_changes c.args.tick past) c.clear-2.ensures.many c.clear-2.ensures.none
    h.resolve)
    (Performs_then (c.become_role.ensures.row c.args.tick) c.arm.ensures.row)

pub invariant_of-self : goal.invariant_of-self
invariant_of-self g c = still_alike c.args.self.now c.clear.ensures.peers c.clear-2.ensures.many refl (ap (λ (s : Station). s.peers) c.arm.ensures.station ∙
    c.become_role.ensures.peers)
