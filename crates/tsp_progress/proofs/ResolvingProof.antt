-- What a master does at once that hears of another, by the table.
use Rattle.std.proofs.Common.{◌≡◌, false, List, [], ◌∷◌, refl}
use Rattle.std.proofs.lemmas.Bool.{not-true}
use Rattle.tsp_rules.specs.Values.{Ack, Conflict, MasterAck, MasterUp, Master, ResolveAlarm, Rival}
use Rattle.tsp_rules.specs.{Guards.is_armed, MasterRows.master_takes_kind, NodeRows.NodePast, ResolveRows.finds_rival, ResolveRows.is_new_rival}
use Rattle.tsp_rules.specs.ResolveRows.{resolves}
use Rattle.tsp_base.specs.Words.{HeaderValue, Line, arms, either_by, nothing, of, posts, posts_to_others, puts, ◌followed_by◌}
use Rattle.tsp_progress.specs.ByTable.{ByTable, KeepsTable, node_in, port_before}
use Rattle.tsp_progress.specs.Heeds.{Heeds, is_master_role, posts_bare, role_before}
use Rattle.tsp_progress.specs.Resolving.{AllResolve, Resolves, is_settled, resolve_acts}
use Rattle.tsp_progress.proofs.HeedsProof.{master_is, next, says_kind, unsteered}

module _ (node : NodePast) (lines : List Line) (table : KeepsTable node lines) where
  masterup : Heeds MasterUp is_master_role (λ p m x past. is_settled x past) (λ p m x past. resolve_acts x past) node lines
  unfolding says_kind master_takes_kind resolves either_by nothing arms posts_to_others ◌followed_by◌
  masterup l older p m h kind in_role so =
      let free : is_armed ResolveAlarm l.did.tick (port_before node l older) ≡ false =
      not-true (is_armed ResolveAlarm l.did.tick (port_before node l older)) so in
      next node lines table l older p m h MasterUp Master kind (master_is (role_before node l older) in_role) refl (unsteered _ MasterUp refl)
      (resolve_acts l.did.tick (port_before node l older)) (rw free refl)

  conflict : Heeds Conflict is_master_role (λ p m x past. is_settled x past) (λ p m x past. posts_bare Ack m.number past p ∷ resolve_acts x past) node lines
  unfolding says_kind master_takes_kind resolves either_by nothing arms posts posts_to_others ◌followed_by◌
  conflict l older p m h kind in_role so =
      let free : is_armed ResolveAlarm l.did.tick (port_before node l older) ≡ false =
      not-true (is_armed ResolveAlarm l.did.tick (port_before node l older)) so in
      next node lines table l older p m h Conflict Master kind (master_is (role_before node l older) in_role) refl (unsteered _ Conflict refl)
      (posts_bare Ack m.number (port_before node l older) p ∷ resolve_acts l.did.tick (port_before node l older)) (rw free refl)

  masterack : Heeds MasterAck is_master_role (λ p m x past. is_new_rival p x past) (λ p m x past. Rival p ∷ []) node lines
  unfolding says_kind master_takes_kind finds_rival either_by puts
  masterack l older p m h kind in_role so =
      next node lines table l older p m h MasterAck Master kind (master_is (role_before node l older) in_role) refl (unsteered _ MasterAck refl) (Rival p ∷ [])
      (rw so refl)

  pub resolves_now : Resolves node lines
  resolves_now = record { masterup = masterup; conflict = conflict; masterack = masterack }

-- wherever the table is kept
pub all_resolve : (header : HeaderValue) (world : List Line) → ByTable header world → AllResolve header world
all_resolve header world table n = resolves_now (node_in header n) (of n world) (table n)
