-- A port whose peers keep their numbers, and of which nothing needs to be known.
use Rattle.std.specs.Prelude.{ℕ, Bool, refl}
use Rattle.tsp_rules.specs.Values.{Alarm, Window, Place, Peer, Stranger, Role, Candidate}
use Rattle.tsp_base.specs.Words.{Past}
use Rattle.tsp_rules.specs.Renames.{Naming, Wakes, comes_place, known_place, known_role}
use Rattle.tsp_rules.proofs.RowCodes.{Due, Fact, IsOwn, RoleAt, Test, no, yes}

-- nothing is renamed, every peer is known, and the port may stand for election
abbrev pub unchanged : Naming
unchanged = record { names = record { shift = 0; peer = λ p. p }; same = λ p q. refl; comes = λ p. Unit {0}; known = λ p. Unit {0}; stands = Unit {0} }

-- then every place is known
pub place_unchanged : (from : Place) → known_place unchanged from
place_unchanged (Peer p) = tt
place_unchanged Stranger = tt

-- anything may come from it
pub comes_unchanged : (from : Place) → comes_place unchanged from
comes_unchanged (Peer p) = tt
comes_unchanged Stranger = tt

-- every role
role_unchanged : (r : Role) → known_role unchanged r
role_unchanged Candidate = tt
role_unchanged _ = tt

-- and every alarm
wakes_unchanged : (alarm : Alarm) → Wakes unchanged alarm
wakes_unchanged Window = tt
wakes_unchanged _ = tt

-- facts and tests tell nothing new
pub told_unchanged : {A : Type 0} {f : A → A} {told : A → Type 0} {fact fact' : ℕ → Past → A} → Fact unchanged A f told fact fact' → (a : A) → told a
told_unchanged RoleAt r = role_unchanged r
told_unchanged _ a = tt

pub yes_unchanged : {t t' : ℕ → Past → Bool} (test : Test unchanged t t') → yes test
yes_unchanged (Due alarm) = wakes_unchanged alarm
yes_unchanged _ = tt

pub no_unchanged : {t t' : ℕ → Past → Bool} (test : Test unchanged t t') → no test
no_unchanged (IsOwn from comes) = place_unchanged from
no_unchanged _ = tt
