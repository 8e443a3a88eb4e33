-- One room more.
use Rattle.std.proofs.Common.{◌≡◌, ℕ, ◌≤◌, List, [], ◌∷◌, ◌++◌, length, Some, ◌∙◌, sym, ap, subst, arith, inl, inr, get_or, length-append, rules}
use Rattle.std.proofs.lemmas.Option.{slice_get_within, get_or_from_slice_get, slice_get-get_or}
use Rattle.std.proofs.{Math.ListN.get_or-append, Math.Seq.get_or-append_seam, lemmas.Bool.cases_lt}
use Rattle.tsp_run.specs.Networks.{ports_on, room}
use Rattle.tsp_networks.specs.Rooms.{AreRooms}
use Rattle.tsp_networks.proofs.rooms_of.Goals as goal

none_are : (nets : List (List ℕ)) → AreRooms nets []
none_are nets n r is = let bad : ⊥ = cc in absurd bad

more_are : (nets : List (List ℕ)) (rooms : List ℕ) (r : ℕ) → AreRooms nets rooms → r ≡ room (ports_on (length rooms) nets) → r ≤ 200000 →
    AreRooms nets (rooms ++ r ∷ [])
more_are nets rooms r are is few n q there =
    let here = get_or_from_slice_get (rooms ++ r ∷ []) n q 0 there in
    let within = slice_get_within (rooms ++ r ∷ []) n q there in
    let len = length-append rooms (r ∷ []) in
    elim (cases_lt n (length rooms)) [
      | inl lt ↦ are n q (slice_get-get_or rooms n 0 lt ∙ ap (λ k. Some k) (sym (get_or-append rooms (r ∷ []) 0 n lt) ∙ here))
      | inr ge ↦ (
          let same : n ≡ length rooms = omega (arith, ge, within, len) in
          let last : r ≡ q = sym (get_or-append_seam rooms r [] 0) ∙ ap (λ k. get_or (rooms ++ r ∷ []) k 0) (sym same) ∙ here in
          (sym last ∙ is ∙ ap (λ k. room (ports_on k nets)) (sym same), subst (λ k. k ≤ 200000) last few)
          )
    ]

pub loop-node-init : goal.loop-node-init
loop-node-init c = record {
  are = subst (λ l. AreRooms c.args.nets.now l) (sym c.new-rooms.ensures.items) (none_are c.args.nets.now);
  len = c.new-rooms.ensures.len;
}

pub loop-node-preserved : goal.loop-node-preserved
loop-node-preserved c =
    let nets = c.args.nets.now in
    let rooms = c.loop-node.rooms.items in
    let len : length rooms ≡ c.loop-node.node = search rules in
    record {
      are = subst (λ l. AreRooms nets l) (sym c.in_ok-push.ensures.items)
          (more_are nets rooms c.room_of.result c.loop-node.invariant.are (c.room_of.ensures.room ∙ ap (λ k. room (ports_on k nets)) (sym len))
          c.room_of.ensures.few);
      len = (let a = c.in_ok-push.ensures.len in let b = c.loop-node.invariant.len in omega (arith, a, b));
    }
