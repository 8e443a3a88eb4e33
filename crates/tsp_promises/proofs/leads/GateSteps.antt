-- A port's row, and what it stirs, over all ports of a node.
use Rattle.std.proofs.Common.{sym, subst, append-nil, ◌≡◌, ◌<◌, ℕ, ◌==◌, ◌||◌, Bool, true, false, if◌then◌else◌, List, [], ◌∷◌, ◌++◌, length, None, refl}
use Rattle.std.proofs.Common.{true≢false, eq-eqb, ◌∙◌}
use Rattle.tsp_base.specs.Words.{Past, view, Leads, armed, is_going, Row, grown, placed}
use Rattle.tsp_base.proofs.ViewPlaces.{port_same}
use Rattle.tsp_rules.specs.NodeRows.{NodePast, on_port, spread, nothing_at_all, on, ◌and_then◌, for_ports, abandons_on, stirring, NodeRow, reading_all}
use Rattle.tsp_rules.{specs.RoundRows.corrects, proofs.FewActs.is_calm, specs.Values.Abandon, specs.Values.Port, specs.Values.Act}
use Rattle.tsp_rules.proofs.{Asides.all_aside, Asides.on_other, NodeRowLemmas.Bootless, NodeRowLemmas.spread_append, NodeRowLemmas.on_own}
use Rattle.tsp_promises.proofs.leads.Elsewheres.{Family, kept_aside, calm_bootless, shut_of}
use Rattle.tsp_promises.proofs.shared.PortLists.{listed, Ranged}

-- how rows over ports lead from what is known of each port to what is known then

-- of each port of a node
abbrev pub AllPorts : (Port → ℕ → Past → Type 0) → ℕ → NodePast → Type 0
AllPorts S x past = (r : Port) → r.0 < length past.ports → S r x (on_port r past)

-- after a past of which P holds, the row's acts lead to one of which Q holds
pub record LeadsAll (P : ℕ → NodePast → Type 0) (row : NodeRow) (Q : ℕ → NodePast → Type 0) : Type 0 where
  pub run : (x : ℕ) (past : NodePast) → P x past → Q x (spread x past (row x past))

pub All_after : {P Q R : ℕ → NodePast → Type 0} (r s : NodeRow) → LeadsAll P r Q → LeadsAll Q s R → LeadsAll P (r and_then s) R
unfolding ◌and_then◌
All_after {R = R} r s p q = record {
  run = λ x past h. subst (λ z. R x z) (sym (spread_append x past (r x past) (s x (spread x past (r x past)))))
      (q.run x (spread x past (r x past)) (p.run x past h));
}

pub All_reading : {A : Type 0} {P Q : ℕ → NodePast → Type 0} (fact : ℕ → NodePast → A) (rows : A → NodeRow) → ((a : A) → LeadsAll P (rows a) Q) →
    LeadsAll P (reading_all fact rows) Q
unfolding reading_all
All_reading fact rows k = record { run = λ x past h. (k (fact x past)).run x past h }

pub All_from : {P Q R : ℕ → NodePast → Type 0} {r : NodeRow} → ((x : ℕ) (past : NodePast) → P x past → Q x past) → LeadsAll Q r R → LeadsAll P r R
All_from k p = record { run = λ x past h. p.run x past (k x past h) }

pub All_to : {P Q R : ℕ → NodePast → Type 0} {r : NodeRow} → ((x : ℕ) (past : NodePast) → Q x past → R x past) → LeadsAll P r Q → LeadsAll P r R
All_to {r = r} k p = record { run = λ x past h. k x (spread x past (r x past)) (p.run x past h) }

-- what acts on port q make of each port
pub placed_all : (q : Port) (x : ℕ) (past : NodePast) (acts : List Act) (S R : Port → ℕ → Past → Type 0) → Bootless acts →
    R q x (grown x (on_port q past) acts) →
    ((r : Port) → (q.0 == r.0) ≡ false → r.0 < length past.ports → S r x (on_port r past) → R r x (all_aside x (on_port r past) acts)) → AllPorts S x past →
    AllPorts R x (spread x past (placed q acts))
placed_all q x past acts S R bootless own others all r has = by_case (q.0 == r.0) refl where
  by_case : (b : Bool) → (q.0 == r.0) ≡ b → R r x (on_port r (spread x past (placed q acts)))
  by_case true e = subst (λ p. R p x (on_port p (spread x past (placed q acts)))) (port_same q r e) (subst (λ z. R q x z) (sym (on_own q x past acts)) own)
  by_case false e = subst (λ z. R r x z) (sym (on_other q r x past acts e bootless)) (others r e has (all r has))

-- one of two, by a test
pub record Pick (b : Bool) (P Q : ℕ → Past → Type 0) (x : ℕ) (past : Past) : Type 0 where
  pub yes : b ≡ true → P x past
  pub no : b ≡ false → Q x past

pub picks : {b : Bool} {P Q : ℕ → Past → Type 0} {x : ℕ} {past : Past} → b ≡ true → P x past → Pick b P Q x past
picks e h = record { yes = λ t. h; no = λ f. absurd (true≢false (sym e ∙ f)) }

pub passes : {b : Bool} {P Q : ℕ → Past → Type 0} {x : ℕ} {past : Past} → b ≡ false → Q x past → Pick b P Q x past
passes e h = record { yes = λ t. absurd (true≢false (sym t ∙ e)); no = λ f. h }

-- a port is itself
pub same_port : (q : Port) → (q.0 == q.0) ≡ true
same_port q = eq-eqb q.0 q.0 refl

-- port q as P says, and each other port as its own predicate says
pub record AtPort (q : Port) (P : ℕ → Past → Type 0) (F : Port → ℕ → Past → Type 0) (x : ℕ) (past : NodePast) : Type 0 where
  pub has : q.0 < length past.ports
  pub all : AllPorts (λ r. Pick (q.0 == r.0) P (F r)) x past

pub own_of : {P : ℕ → Past → Type 0} {F : Port → ℕ → Past → Type 0} (q : Port) (x : ℕ) (past : NodePast) → AtPort q P F x past → P x (on_port q past)
own_of q x past h = (h.all q h.has).yes (same_port q)

-- what is known of port q is known otherwise
pub at_to : {P Q : ℕ → Past → Type 0} {F : Port → ℕ → Past → Type 0} (q : Port) → ((x : ℕ) (past : Past) → P x past → Q x past) → (x : ℕ) (past : NodePast) →
    AtPort q P F x past → AtPort q Q F x past
at_to q k x past h = record { has = h.has; all = λ r has. let p = h.all r has in record { yes = λ e. k x (on_port r past) (p.yes e); no = p.no } }

module _ (F : Port → Bool → ℕ → Past → Type 0) (family : (r : Port) → Family (F r)) where
  -- a row of port q that doesn't move the clock
  pub on_run : {P Q : ℕ → Past → Type 0} (strange : Bool) (q : Port) (row : Row) (x : ℕ) (past : NodePast) → is_calm strange false (row x (on_port q past)) ≡
      true → Q x (grown x (on_port q past) (row x (on_port q past))) →
      AtPort q P (λ r. F r false) x past → AtPort q Q (λ r. F r false) x (spread x past (on q row x past))
  unfolding on
  on_run {P} {Q} strange q row x past calm own h =
      let acts = row x (on_port q past) in
      record {
        has = h.has;
        all = placed_all q x past acts (λ r. Pick (q.0 == r.0) P (F r false)) (λ r. Pick (q.0 == r.0) Q (F r false)) (calm_bootless strange false acts calm)
            (picks (same_port q) own)
            (λ r n has p. passes n (kept_aside (family r) strange x (on_port r past) acts calm (p.no n))) h.all;
      }

  pub on_leads : {P Q : ℕ → Past → Type 0} (strange : Bool) (q : Port) (row : Row) → ((x : ℕ) (past : Past) → is_calm strange false (row x past) ≡ true) →
      Leads P row Q → LeadsAll (AtPort q P (λ r. F r false)) (on q row) (AtPort q Q (λ r. F r false))
  on_leads strange q row calm k = record {
    run = λ x past h. on_run strange q row x past (calm x (on_port q past))
        (k.run x (on_port q past) (own_of q x past h)) h;
  }

  -- port by port a round is given up, of those that are stirred
  abandons_one : (q : Port) (rest : List Port) (x : ℕ) (past : NodePast) → q.0 < length past.ports →
      AllPorts (λ r. Pick (listed r (q ∷ rest)) (F r true) (F r false)) x past →
      AllPorts (λ r. Pick (listed r rest) (F r true) (F r false)) x (spread x past (abandons_on q x past))
  unfolding abandons_on
  abandons_one q rest x past has all = by_case (is_going (view q past.lines)) refl where
    stirred : F q true x (on_port q past)
    stirred = let same = same_port q in (all q has).yes (rw same refl)

    or-more : (r : Port) → listed r rest ≡ true → (b : Bool) → (b || listed r rest) ≡ true
    or-more r e true = refl
    or-more r e false = e

    shut : (armed (on_port q past).seen).close ≡ None → (r : Port) (h : r.0 < length past.ports) → (b : Bool) → (q.0 == r.0) ≡ b → listed r rest ≡ false →
        F r false x (on_port r past)
    shut none r h true e n = subst (λ p. F p false x (on_port p past)) (port_same q r e) ((family q).shut x (on_port q past) none stirred)
    shut none r h false e n = (all r h).no (rw e n)

    by_case : (b : Bool) → is_going (view q past.lines) ≡ b → AllPorts (λ r. Pick (listed r rest) (F r true) (F r false)) x
        (spread x past (if b then record { port = q; act = Abandon } ∷ [] else []))
    by_case true e = placed_all q x past (Abandon ∷ []) (λ r. Pick (listed r (q ∷ rest)) (F r true) (F r false))
        (λ r. Pick (listed r rest) (F r true) (F r false)) ((λ is. let bad : ⊥ = cc in bad), tt)
        (let calm = (family q).abandons x (on_port q past) stirred in record {
          yes = λ t. (family q).weaken x (grown x (on_port q past) (Abandon ∷ [])) calm;
          no = λ t. calm;
        })
        (λ r n h p. record {
          yes = λ t. (family r).still x (on_port r past) Abandon refl (p.yes (or-more r t (q.0 == r.0)));
          no = λ t. (family r).still x (on_port r past) Abandon refl (p.no (rw n t));
        })
        all
    by_case false e = λ r h. record {
      yes = λ t. (all r h).yes (or-more r t (q.0 == r.0));
      no = λ t. shut (shut_of (armed (view q past.lines)).close e) r h (q.0 == r.0) refl t;
    }

  pub abandons_all : (ports : List Port) (x : ℕ) (past : NodePast) → Ranged (length past.ports) ports →
      AllPorts (λ r. Pick (listed r ports) (F r true) (F r false)) x past → AllPorts (λ r. F r false) x (spread x past (for_ports abandons_on ports x past))
  unfolding for_ports nothing_at_all ◌and_then◌
  abandons_all [] x past ranged all = λ r has. (all r has).no refl
  abandons_all (q ∷ rest) x past ranged all =
      let first = abandons_on q x past in
      subst (λ z. AllPorts (λ r. F r false) x z) (sym (spread_append x past first (for_ports abandons_on rest x (spread x past first))))
      (abandons_all rest x (spread x past first) ranged.1 (abandons_one q rest x past ranged.0 all))

  -- a row of port q, and what it stirs
  pub stirring_all : (q : Port) (ports : List Port) (row : Row) (x : ℕ) (past : NodePast) (S : Port → ℕ → Past → Type 0) → Bootless (row x (on_port q past)) →
      Ranged (length past.ports) ports → AllPorts S x past →
      (corrects (row x (on_port q past)) ≡ false → F q false x (grown x (on_port q past) (row x (on_port q past)))) →
      (corrects (row x (on_port q past)) ≡ true → Pick (listed q ports) (F q true) (F q false) x (grown x (on_port q past) (row x (on_port q past)))) →
      (corrects (row x (on_port q past)) ≡ false → (r : Port) → (q.0 == r.0) ≡ false → r.0 < length past.ports → S r x (on_port r past) →
      F r false x (all_aside x (on_port r past) (row x (on_port q past)))) →
      ((r : Port) → (q.0 == r.0) ≡ false → r.0 < length past.ports → S r x (on_port r past) →
      F r true x (all_aside x (on_port r past) (row x (on_port q past)))) →
      ((r : Port) → (q.0 == r.0) ≡ false → r.0 < length past.ports → listed r ports ≡ true) →
      AllPorts (λ r. F r false) x (spread x past (stirring q ports row x past))
  unfolding stirring on
  stirring_all q ports row x past S bootless ranged all own_still own_moved still moved others = by_case (corrects (row x (on_port q past))) refl where
    by_case : (b : Bool) → corrects (row x (on_port q past)) ≡ b →
        AllPorts (λ r. F r false) x (spread x past (placed q (row x (on_port q past)) ++
        (if b then for_ports abandons_on ports x (spread x past (placed q (row x (on_port q past)))) else [])))
    by_case false e =
        let acts = row x (on_port q past) in
        subst (λ z. AllPorts (λ r. F r false) x (spread x past z)) (sym (append-nil (placed q acts)))
        (placed_all q x past acts S (λ r. F r false) bootless (own_still e) (λ r n has s. still e r n has s) all)
    by_case true e =
        let acts = row x (on_port q past) in
        subst (λ z. AllPorts (λ r. F r false) x z) (sym (spread_append x past (placed q acts) (for_ports abandons_on ports x (spread x past (placed q acts)))))
        (abandons_all ports x (spread x past (placed q acts)) ranged
        (placed_all q x past acts S (λ r. Pick (listed r ports) (F r true) (F r false)) bootless (own_moved e)
        (λ r n has s. picks (others r n has) (moved r n has s)) all))
