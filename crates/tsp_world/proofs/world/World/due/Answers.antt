-- What is kept from now on is so of the node that was looked at.
use Rattle.std.proofs.Common.{◌≡◌, ◌∙◌, Some, ap, arith, length, rules, subst, sym, vec_len}
use Rattle.tsp_gateway.{proofs.RestLemmas.RestsUntil_deadline, specs.Dues.RestsUntil, specs.declared.gateway.Gateway.Gateway}
use Rattle.tsp_run.proofs.NetworkLemmas.{some_same}
use Rattle.tsp_world.{proofs.ReadyLemmas.AreDues_known, proofs.ReadyLemmas.place_there, specs.WorldStands.RestsFor}
use Rattle.tsp_world.proofs.world.World.due.Goals as goal
use Rattle.tsp_world.proofs.world.World.due.Goals.{Joined-index, in-Some, in-None}

rests : (c : Joined-index) → RestsFor c.args.node c.match-index.due c.args.self.now
rests c node there = elim c.match-index.branch [
  | in-Some w ↦
      let world = c.args.self.now in
      let len : vec_len world.nodes ≡ length world.nodes.items = search rules in
      let found = place_there world c.args.node c.index.result.now c.requires.node len c.index.ensures in
      let same = some_same (some_same (ap Some (sym w.in-Some.is) ∙ sym found ∙ there)) in
      subst (λ (g : Gateway). RestsUntil c.match-index.due g) same (subst (λ t. RestsUntil t w.in-Some.gateway) (sym w.due-is)
      (RestsUntil_deadline w.in-Some.gateway w.deadline-due.result w.deadline-due.ensures))
  | in-None w ↦ λ x q part before at. (let none = w.due-is in absurd (omega (arith, before, none)))
]

pub invariant_of-self-clause-dues_are : goal.invariant_of-self-clause-dues_are
invariant_of-self-clause-dues_are c = AreDues_known c.args.self.now.dues.items c.args.self.now.nodes.items c.args.node c.match-index.due
    (rests (goal.at.invariant_of-self-clause-dues_are c).Joined-index) c.args.self.now.dues_are

pub returns-clause-due : goal.returns-clause-due
returns-clause-due c = rests (goal.at.returns-clause-due c).Joined-index
