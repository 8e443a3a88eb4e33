-- What ports see of rows over ports.
use Rattle.std.proofs.Common.{sym, ap, subst, eq-eqb, ◌∙◌, ◌≡◌, ◌≢◌, ℕ, ◌==◌, true, false, ◌||◌, List, [], ◌∷◌, ◌++◌, refl}
use Rattle.std.proofs.lemmas.List.{append_assoc}
use Rattle.tsp_rules.specs.{Values.Act, Values.Boot, Values.Placed, Values.Port, NodePerforms.PerformsAll}
use Rattle.tsp_rules.specs.NodeRows.{NodePast, NodeRow, on_port, spread, ◌and_then◌}
use Rattle.tsp_base.specs.Words.{Step, Acts, Line, Seen, Elsewhere, view, seen_as, is_shared, joined, line_of, added, grown, placed}

-- a port's acts are its own
pub view_own : (q : Port) (step : Step) (x : ℕ) (acts : List Act) (lines : List Line) → view q (joined step x (placed q acts) lines) ≡
    added step x acts (view q lines)
view_own q step x [] lines = refl
view_own q step x (a ∷ rest) lines =
    let here : ((q.0 == q.0) || is_shared (Acts a)) ≡ true = let e : (q.0 == q.0) ≡ true = eq-eqb q.0 q.0 refl in rw e refl in
    view_own q step x rest (line_of step x q (Acts a) ∷ lines)
    ∙ ap (λ b. added step x rest (seen_as b (line_of step x q (Acts a)).did ∷ view q lines)) here

-- so the past that a port has after its row is its own past, grown by that
pub on_own : (q : Port) (x : ℕ) (past : NodePast) (acts : List Act) → on_port q (spread x past (placed q acts)) ≡ grown x (on_port q past) acts
on_own q x past acts = ap (λ s. record (on_port q past) { seen = s }) (view_own q past.step x acts past.lines)

-- what was seen, and then these acts elsewhere
abbrev pub passed : Step → ℕ → List Act → List Seen → List Seen
passed step x [] seen = seen
passed step x (a ∷ rest) seen = passed step x rest (Elsewhere (line_of step x (record { 0 = 0 }) (Acts a)).did ∷ seen)

-- no act is a boot
abbrev pub Bootless : List Act → Type 0
Bootless [] = Unit {0}
Bootless (a ∷ rest) = (a ≢ Boot) × Bootless rest

not_shared : (a : Act) → a ≢ Boot → is_shared (Acts a) ≡ false
not_shared Boot n = absurd (n refl)
not_shared _ n = refl

-- another port's acts are elsewhere, unless they boot
pub view_other : (q r : Port) (step : Step) (x : ℕ) (acts : List Act) (lines : List Line) → (q.0 == r.0) ≡ false → Bootless acts →
    view r (joined step x (placed q acts) lines) ≡ passed step x acts (view r lines)
view_other q r step x [] lines n b = refl
view_other q r step x (a ∷ rest) lines n b =
    let there : ((q.0 == r.0) || is_shared (Acts a)) ≡ false = rw (n, not_shared a b.0) refl in
    view_other q r step x rest (line_of step x q (Acts a) ∷ lines) n b.1
    ∙ ap (λ c. passed step x rest (seen_as c (line_of step x q (Acts a)).did ∷ view r lines)) there

pub joined_append : (step : Step) (x : ℕ) (ps qs : List Placed) (lines : List Line) → joined step x (ps ++ qs) lines ≡ joined step x qs (joined step x ps lines)
joined_append step x [] qs lines = refl
joined_append step x (p ∷ ps) qs lines = joined_append step x ps qs (line_of step x p.port (Acts p.act) ∷ lines)

pub spread_append : (x : ℕ) (past : NodePast) (ps qs : List Placed) → spread x past (ps ++ qs) ≡ spread x (spread x past ps) qs
spread_append x past ps qs = ap (λ l. record past { lines = l }) (joined_append past.step x ps qs past.lines)

-- calls over ports follow one another as their rows do
pub All_then : {S T U : Type 0} {p : NodePast → S → Type 0} {q : NodePast → T → Type 0} {w : NodePast → U → Type 0} {r s : NodeRow} {x : ℕ} {first : S}
    {middle : T} {last : U} {old mid new : List Placed} →
    PerformsAll p q r x first middle old mid → PerformsAll q w s x middle last mid new → PerformsAll p w (r and_then s) x first last old new
unfolding ◌and_then◌
All_then {w = w} {r = r} {s = s} {x = x} {last = last} {old = old} a b = record {
  acts = λ past h.
      let mid_past = spread x past (r x past) in
      b.acts mid_past (a.stands past h) ∙ ap (λ zs. zs ++ s x mid_past) (a.acts past h) ∙ append_assoc old (r x past) (s x mid_past);
  stands = λ past h. subst (λ k. w k last) (sym (spread_append x past (r x past) (s x (spread x past (r x past)))))
      (b.stands (spread x past (r x past)) (a.stands past h));
}
