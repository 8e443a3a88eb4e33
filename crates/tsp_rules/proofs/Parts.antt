-- A call on a part of a state performs its row for the whole state too.
use Rattle.std.specs.Prelude.{ℕ, List}
use Rattle.tsp_base.specs.Words.{Past, Performs, Row, grown}
use Rattle.tsp_rules.specs.Values.{Placed, Port}

-- the part stands where the whole does, and the whole stands after the row if the part does
pub Performs_part : {R S T U : Type 0} {p : Past → R → Type 0} {q : Past → S → Type 0} {v : Past → T → Type 0} {w : Past → U → Type 0} {row : Row} {x : ℕ}
    {port : Port} {first : R} {last : S} {before : T} {after : U} {old new : List Placed} → Performs p q row x port first last old new →
    ((past : Past) → v past before → p past first) →
    ((past : Past) → v past before → q (grown x past (row x past)) last → w (grown x past (row x past)) after) → Performs v w row x port before after old new
Performs_part d from to = record { acts = λ past h. d.acts past (from past h); stands = λ past h. to past h (d.stands past (from past h)) }
