-- Rows of a port's other parts leave its rivals alone, but for a change of the role.
use Rattle.std.proofs.Common.{sym, ◌∙◌, ap, ◌≡◌, ℕ, Bool, true, false, not, ◌&&◌, List, ◌∷◌, refl, if◌then◌else◌, [], true≢false, ◌≢◌}
use Rattle.tsp_rules.specs.Values.{Act, Role, Become, Ring, Late, Quiet, Window, Starting, QUIET, Master}
use Rattle.tsp_rules.{proofs.Emits.AllOf, proofs.Emits.Emits, proofs.Emits.Emits_more, specs.Guards.is_master, specs.Guards.is_in_time}
use Rattle.tsp_rules.proofs.EmitsTables.{changes}
use Rattle.tsp_rules.specs.CandidateRows.{has_won, lead_row, window_rings, yields}
use Rattle.tsp_base.specs.Words.{Did, Elsewhere, Past, Step, role, Row, grown, in_step, arms, either_by, puts, ◌followed_by◌}
use Rattle.tsp_master.proofs.TurnLemmas.{changes_parted, parting_sorts}
use Rattle.tsp_resolve.specs.{ResolveStands.ResolveStands, declared.resolve.Resolve.Resolve}
use Rattle.tsp_resolve.proofs.ResolveLemmas.{ResolveStands_changed, ResolveStands_idle, ResolveStands_same, rivalless}
use Rattle.tsp_node.{proofs.TakeEmits.role_sorts, specs.Unmarking.Unmarks}

-- rows that change the role for certain

-- the end of a candidature
pub window_changes : (x : ℕ) (past : Past) → changes (window_rings x past) ≡ true
unfolding window_rings lead_row yields either_by puts ◌followed_by◌
window_changes x past = by_time (is_in_time Window x past) where
  after : Past
  after = grown x past (Ring Window ∷ [])

  won : (b : Bool) → changes (if b then lead_row x after else yields x after) ≡ true
  won true = refl
  won false = refl

  by_time : (b : Bool) → changes (if b then (puts (Ring Window) followed_by either_by has_won lead_row yields) x past else
      (puts (Late Window) followed_by yields) x past) ≡ true
  by_time true = won (has_won x after)
  by_time false = refl

-- a life begins with a change of the role
pub begin_changes : (x : ℕ) (past : Past) → changes ((puts (Become Starting) followed_by arms Quiet QUIET) x past) ≡ true
unfolding puts arms ◌followed_by◌
begin_changes x past = refl

not_master : (r : Role) → is_master r ≡ false → r ≢ Master
not_master Master e = absurd (true≢false e)
not_master _ e = λ f. let bad : ⊥ = cc in bad

-- the rivals are forgotten where a port led and leads no more
pub ResolveStands_parted : (row : Row) → Emits role_sorts row → (x : ℕ) (past : Past) (old new : Resolve) (before after : Role) → role past.seen ≡ before →
    role (grown x past (row x past)).seen ≡ after →
    Unmarks (is_master before && not (is_master after)) old new → ResolveStands past old → ResolveStands (grown x past (row x past)) new
ResolveStands_parted row e x past old new before after was is unmarks h = by_roles (is_master before) (is_master after) refl refl unmarks where
  acts : List Act
  acts = row x past

  all : AllOf rivalless acts
  all = (Emits_more role_sorts {all = rivalless} refl e).only x past

  turned : is_master before ≡ true → changes acts ≡ not (is_master after)
  turned led = changes_parted acts ((Emits_more role_sorts {all = parting_sorts} refl e).only x past) past.step x past.seen before after was is led

  by_roles : (b a : Bool) → is_master before ≡ b → is_master after ≡ a → Unmarks (b && not a) old new → ResolveStands (grown x past acts) new
  by_roles true true f g c = rw c (ResolveStands_same x past acts old all (turned f ∙ ap not g) h)
  by_roles true false f g c = ResolveStands_changed x past acts old new all (turned f ∙ ap not g) c.many c.none h
  by_roles false a f g c = rw c (ResolveStands_idle x past acts old all (λ r. not_master before f (sym was ∙ r)) h)

-- a correction on another port
pub ResolveStands_elsewhere : (did : Did) (past : Past) (r : Resolve) → ResolveStands past r →
    ResolveStands (record past { seen = Elsewhere did ∷ past.seen }) r
ResolveStands_elsewhere did past r h = record { many = h.many; rivals = h.rivals; empty = h.empty }

-- it doesn't matter in which step a port is, and a step that begins changes nothing
pub ResolveStands_step : (step : Step) (past : Past) (r : Resolve) → ResolveStands past r → ResolveStands (record past { step = step }) r
ResolveStands_step step past r h = record { many = h.many; rivals = h.rivals; empty = h.empty }

pub ResolveStands_in_step : (step : Step) (x : ℕ) (past : Past) (r : Resolve) → ResolveStands past r → ResolveStands (in_step step x past) r
ResolveStands_in_step step x past r h = record { many = h.many; rivals = h.rivals; empty = h.empty }
