-- No node is up, and each is set up as the header says.
use Rattle.std.proofs.Common.{◌≡◌, ◌∙◌, ap, refl, sym, subst, rules, length, Some, None, slice_get, [], ◌∷◌}
use Rattle.tsp_run.specs.{Networks.numbers_below, Ranges.IsInRange}
use Rattle.std.proofs.lemmas.List.Elements.{All-nil}
use Rattle.tsp_networks.specs.Rooms.{AreRooms}
use Rattle.tsp_world.{proofs.Replicates.slice_get_replicate, specs.WorldStands.PlaceStands}
use Rattle.tsp_world.proofs.world.World.new.Goals as goal

pub invariant_of-result-clause-ready : goal.invariant_of-result-clause-ready
invariant_of-result-clause-ready c = record {
  header_is = c.nodes-3.ensures.valid;
  whole = c.requires.whole;
  one_is = c.in_ok-one.ensures ∙ ap (λ l. numbers_below (length l) ∷ []) c.nodes.ensures.nodes;
  configs_are = c.in_ok-configs.ensures;
  places = λ n place is node up.
      let none = slice_get_replicate _ n None place (subst (λ ps. slice_get ps n ≡ Some place) c.in_ok-nodes.ensures.places is) in
      let bad : ⊥ = cc in absurd bad;
}

pub invariant_of-result-clause-rooms_are : goal.invariant_of-result-clause-rooms_are
invariant_of-result-clause-rooms_are c = subst (λ nets. AreRooms nets c.in_ok-rooms.rooms.items) c.networks_of-nets.ensures.networks c.in_ok-rooms.ensures.rooms

pub invariant_of-result-clause-dues_are : goal.invariant_of-result-clause-dues_are
invariant_of-result-clause-dues_are c n due node is there =
    let none = slice_get_replicate _ n None (Some due) (subst (λ ds. slice_get ds n ≡ Some (Some due)) c.in_ok-dues.ensures.places is) in
    let bad : ⊥ = cc in absurd bad

pub returns : goal.returns
returns c = record {
  header_is = refl;
  ranges = All-nil IsInRange;
  valid = tt;
  count = refl;
  last = refl;
  sent = c.new.ensures.items;
  lines = c.new-2.ensures.items;
  places = search rules;
  nodes = λ n place is. subst (λ p. PlaceStands c.args.header [] n p) (sym (slice_get_replicate _ n None place (subst (λ ps. slice_get ps n ≡
      Some place) c.in_ok-nodes.ensures.places is))) refl;
  nobody = λ n past. refl;
}
