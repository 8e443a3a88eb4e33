-- What is told of a correction, by the row that was performed.
use Rattle.std.proofs.Common.{◌∙◌, ap, append-nil, sym, ◌≡◌, ℕ, Bool, true, false, List, [], ◌∷◌, ◌++◌, map, refl}
use Rattle.std.proofs.lemmas.List.{append_cancel_left}
use Rattle.tsp_base.specs.Words.{Past, Performs, Row, placed, ◌followed_by◌}
use Rattle.tsp_rules.specs.{ClockRows.adjusts, ClockRows.sets, RoundRows.corrects, Values.Act, Values.Placed, Values.Port}
use Rattle.tsp_rules.proofs.{Emits.Emits, EmitsStill.row_corrects_none, EmitsStill.still_sorts}
use Rattle.tsp_slave.specs.declared.change.Change.TheVariants.{By, To}
use Rattle.tsp_slave.specs.{ClockChanges.changes_clock, Corrections.TellsCorrection, declared.change.Change.Change}

abbrev act_in : Placed → Act
act_in p = p.act

acts_placed : (port : Port) (acts : List Act) → map act_in (placed port acts) ≡ acts
acts_placed port [] = refl
acts_placed port (a ∷ rest) = ap (λ more. a ∷ more) (acts_placed port rest)

-- the acts that were put are one list
put_one : (port : Port) (old new : List Placed) (xs ys : List Act) → new ≡ old ++ placed port xs → new ≡ old ++ placed port ys → xs ≡ ys
put_one port old new xs ys e f =
    let same : placed port xs ≡ placed port ys = append_cancel_left old (placed port xs) (placed port ys) (sym e ∙ f) in
    sym (acts_placed port xs) ∙ (ap (map act_in) same ∙ acts_placed port ys)

-- what the row that was performed tells
pub tells_row : {S T : Type 0} {p : Past → S → Type 0} {q : Past → T → Type 0} {row : Row} {x : ℕ} {port : Port} {before : S} {after : T}
    {old new : List Placed} → Performs p q row x port before after old new →
    (past : Past) → p past before → (told : Bool) → told ≡ corrects (row x past) → TellsCorrection told port old new
tells_row {row = row} {x = x} {port = port} {old = old} {new = new} d past h told e = λ acts is. e ∙
    ap corrects (put_one port old new (row x past) acts (d.acts past h) is)

-- a row that can't correct
pub tells_still : {S T : Type 0} {p : Past → S → Type 0} {q : Past → T → Type 0} {row : Row} {x : ℕ} {port : Port} {before : S} {after : T}
    {old new : List Placed} → Emits still_sorts row → Performs p q row x port before after old new →
    (past : Past) → p past before → TellsCorrection false port old new
tells_still {x = x} e d past h = tells_row d past h false (sym (row_corrects_none e x past))

-- nothing was put
pub tells_nothing : (port : Port) (old : List Placed) → TellsCorrection false port old old
tells_nothing port old = λ acts is. ap corrects (put_one port old old [] acts (sym (append-nil old)) is)

-- the clock is changed
pub corrects_change : (change : Change) (row : Row) (x : ℕ) (past : Past) → true ≡ corrects ((changes_clock change followed_by row) x past)
unfolding changes_clock ◌followed_by◌ adjusts sets
corrects_change (By amount) row x past = refl
corrects_change (To value) row x past = refl
