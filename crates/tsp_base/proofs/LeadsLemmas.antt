-- The rules by which rows lead from one fact of a past to another.
use Rattle.std.specs.Prelude.{◌≡◌, ℕ, Bool, true, false, if◌then◌else◌, List, [], ◌∷◌, refl}
use Rattle.tsp_base.specs.Words.{Past, Leads, Row, grown, nothing, puts, ◌followed_by◌, either_by, reading, for_each}
use Rattle.tsp_base.{proofs.RowLemmas.added_append, specs.declared.act.Act.Act}

pub Leads_then : {P Q R : ℕ → Past → Type 0} (r s : Row) → Leads P r Q → Leads Q s R → Leads P (r followed_by s) R
unfolding ◌followed_by◌
Leads_then {R = R} r s p q = record { run = λ x past h. rw added_append (q.run x (grown x past (r x past)) (p.run x past h)) }

pub Leads_either : {P Q : ℕ → Past → Type 0} (test : ℕ → Past → Bool) (r s : Row) →
    Leads (λ x past. P x past × (test x past ≡ true)) r Q → Leads (λ x past. P x past × (test x past ≡ false)) s Q → Leads P (either_by test r s) Q
unfolding either_by
Leads_either {P = P} {Q = Q} test r s p q = record {
  run = λ x past h.
      either_case P Q r s x past h (test x past) (λ e. p.run x past (h, e)) (λ e. q.run x past (h, e));
} where
  either_case : (P Q : ℕ → Past → Type 0) (r s : Row) (x : ℕ) (past : Past) → P x past → (b : Bool) →
      (b ≡ true → Q x (grown x past (r x past))) → (b ≡ false → Q x (grown x past (s x past))) → Q x (grown x past (if b then r x past else s x past))
  either_case P Q r s x past h true f g = f refl
  either_case P Q r s x past h false f g = g refl

pub Leads_reading : {A : Type 0} {P Q : ℕ → Past → Type 0} (fact : ℕ → Past → A) (rows : A → Row) →
    ((a : A) → Leads (λ x past. P x past × (fact x past ≡ a)) (rows a) Q) → Leads P (reading fact rows) Q
unfolding reading
Leads_reading fact rows k = record { run = λ x past h. (k (fact x past)).run x past (h, refl) }

pub Leads_nothing : {P : ℕ → Past → Type 0} → Leads P nothing P
unfolding nothing
Leads_nothing = record { run = λ x past h. h }

pub Leads_puts : {P Q : ℕ → Past → Type 0} (a : Act) → ((x : ℕ) (past : Past) → P x past → Q x (grown x past (a ∷ []))) → Leads P (puts a) Q
unfolding puts
Leads_puts a k = record { run = k }

pub Leads_each : {A : Type 0} {P : ℕ → Past → Type 0} (r : A → Row) (ps : List A) → ((p : A) → Leads P (r p) P) → Leads P (for_each r ps) P
unfolding for_each
Leads_each r [] k = Leads_nothing
Leads_each r (p ∷ ps) k = Leads_then (r p) (for_each r ps) (k p) (Leads_each r ps k)

pub Leads_from : {P Q R : ℕ → Past → Type 0} {r : Row} → ((x : ℕ) (past : Past) → P x past → Q x past) → Leads Q r R → Leads P r R
Leads_from k p = record { run = λ x past h. p.run x past (k x past h) }

pub Leads_to : {P Q R : ℕ → Past → Type 0} {r : Row} → ((x : ℕ) (past : Past) → Q x past → R x past) → Leads P r Q → Leads P r R
Leads_to {r = r} k p = record { run = λ x past h. k x (grown x past (r x past)) (p.run x past h) }
