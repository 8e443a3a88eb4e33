-- Calls one after the other, and on one of two ways, perform the rows that are built alike.
use Rattle.std.proofs.Common.{sym, ◌∙◌, ap, append_assoc, append-nil, ◌≡◌, ℕ, Bool, true, false, if◌then◌else◌, List, [], ◌∷◌, ◌++◌}
use Rattle.std.proofs.lemmas.List.{map-append}
use Rattle.tsp_base.specs.declared.{act.Placed.Placed, place.Port.Port}
use Rattle.tsp_base.specs.Words.{Past, Performs, Keeps, Row, grown, placed, nothing, ◌followed_by◌, either_by, reading, for_each}
use Rattle.tsp_base.proofs.RowLemmas.{added_append, for_each_more}

-- one call after another
pub Performs_then : {S T U : Type 0} {p : Past → S → Type 0} {q : Past → T → Type 0} {w : Past → U → Type 0} {r s : Row} {x : ℕ} {port : Port} {first : S}
    {middle : T} {last : U} {old mid new : List Placed} →
    Performs p q r x port first middle old mid → Performs q w s x port middle last mid new → Performs p w (r followed_by s) x port first last old new
unfolding ◌followed_by◌
Performs_then {r = r} {s = s} {x = x} {port = port} {old = old} a b = record {
  acts = λ past h.
      let mid_past = grown x past (r x past) in
      b.acts mid_past (a.stands past h) ∙ ap (λ zs. zs ++ placed port (s x mid_past)) (a.acts past h)
      ∙ append_assoc old (placed port (r x past)) (placed port (s x mid_past)) ∙ ap (λ zs. old ++ zs) (sym (map-append _ (r x past) (s x mid_past)));
  stands = λ past h. rw added_append (b.stands (grown x past (r x past)) (a.stands past h));
}

-- no call
pub Performs_nothing : {S : Type 0} {p : Past → S → Type 0} {x : ℕ} {port : Port} {state : S} {old : List Placed} →
    Performs p p nothing x port state state old old
unfolding nothing
Performs_nothing {old = old} = record { acts = λ past h. sym (append-nil old); stands = λ past h. h }

-- a call for what a fact is
pub Performs_reading : {A S T : Type 0} {p : Past → S → Type 0} {q : Past → T → Type 0} (fact : ℕ → Past → A) (rows : A → Row) (a : A) {x : ℕ} {port : Port}
    {before : S} {after : T} {old new : List Placed} →
    ((past : Past) → p past before → fact x past ≡ a) → Performs p q (rows a) x port before after old new →
    Performs p q (reading fact rows) x port before after old new
unfolding reading
Performs_reading fact rows a t d = record { acts = λ past h. rw (t past h) (d.acts past h); stands = λ past h. rw (t past h) (d.stands past h) }

-- a call on the first of two ways
pub Performs_then_part : {S T : Type 0} {p : Past → S → Type 0} {q : Past → T → Type 0} (test : ℕ → Past → Bool) {r : Row} (s : Row) {x : ℕ} {port : Port}
    {before : S} {after : T} {old new : List Placed} →
    ((past : Past) → p past before → test x past ≡ true) → Performs p q r x port before after old new →
    Performs p q (either_by test r s) x port before after old new
unfolding either_by
Performs_then_part test s t d = record { acts = λ past h. rw (t past h) (d.acts past h); stands = λ past h. rw (t past h) (d.stands past h) }

-- a call on the second of two ways
pub Performs_else_part : {S T : Type 0} {p : Past → S → Type 0} {q : Past → T → Type 0} (test : ℕ → Past → Bool) (r : Row) {s : Row} {x : ℕ} {port : Port}
    {before : S} {after : T} {old new : List Placed} →
    ((past : Past) → p past before → test x past ≡ false) → Performs p q s x port before after old new →
    Performs p q (either_by test r s) x port before after old new
unfolding either_by
Performs_else_part test r t d = record { acts = λ past h. rw (t past h) (d.acts past h); stands = λ past h. rw (t past h) (d.stands past h) }

-- calls for some, and then for one more
pub Performs_each_more : {A S T U : Type 0} {p : Past → S → Type 0} {q : Past → T → Type 0} {w : Past → U → Type 0} (r : A →
    Row) (done : List A) (next : A) {x : ℕ} {port : Port} {first : S} {middle : T} {last : U} {old mid new : List Placed} →
    Performs p q (for_each r done) x port first middle old mid → Performs q w (r next) x port middle last mid new →
    Performs p w (for_each r (done ++ next ∷ [])) x port first last old new
Performs_each_more r done next {x = x} a b = record {
  acts = λ past h. rw (for_each_more r done next x past) ((Performs_then a b).acts past h);
  stands = λ past h. rw (for_each_more r done next x past) ((Performs_then a b).stands past h);
}

-- the same acts, by another row
pub Performs_same : {S T : Type 0} {p : Past → S → Type 0} {q : Past → T → Type 0} {r : Row} (s : Row) {x : ℕ} {port : Port} {before : S} {after : T}
    {old new : List Placed} →
    ((past : Past) → p past before → r x past ≡ s x past) → Performs p q r x port before after old new → Performs p q s x port before after old new
Performs_same s t d = record { acts = λ past h. rw (sym (t past h)) (d.acts past h); stands = λ past h. rw (sym (t past h)) (d.stands past h) }

-- a call that is known of more pasts than are asked for
pub Performs_from : {R S T : Type 0} {p : Past → S → Type 0} {q : Past → T → Type 0} {w : Past → R → Type 0} {r : Row} {x : ℕ} {port : Port} {first : R}
    {before : S} {after : T} {old new : List Placed} →
    ((past : Past) → w past first → p past before) → Performs p q r x port before after old new → Performs w q r x port first after old new
Performs_from k d = record { acts = λ past h. d.acts past (k past h); stands = λ past h. d.stands past (k past h) }

-- a call after which less is asked for than is known
pub Performs_to : {S T U : Type 0} {p : Past → S → Type 0} {q : Past → T → Type 0} {w : Past → U → Type 0} {r : Row} {x : ℕ} {port : Port} {before : S}
    {after : T} {last : U} {old new : List Placed} →
    ((past : Past) → q past after → w past last) → Performs p q r x port before after old new → Performs p w r x port before last old new
Performs_to {r = r} {x = x} k d = record { acts = d.acts; stands = λ past h. k (grown x past (r x past)) (d.stands past h) }

-- rows that keep a state, one after the other, on one of two ways, for what a fact is, and for each of some
pub Keeps_nothing : {T : Type 0} (also : Past → T → Type 0) → Keeps also nothing
unfolding nothing
Keeps_nothing also x past state h = h

pub Keeps_then : {T : Type 0} (also : Past → T → Type 0) (r s : Row) → Keeps also r → Keeps also s → Keeps also (r followed_by s)
unfolding ◌followed_by◌
Keeps_then also r s p q x past state h = rw added_append (q x (grown x past (r x past)) state (p x past state h))

pub Keeps_reading : {A T : Type 0} (also : Past → T → Type 0) (fact : ℕ → Past → A) (rows : A → Row) → ((a : A) → Keeps also (rows a)) →
    Keeps also (reading fact rows)
unfolding reading
Keeps_reading also fact rows k x past state h = k (fact x past) x past state h

pub Keeps_either : {T : Type 0} (also : Past → T → Type 0) (test : ℕ → Past → Bool) (r s : Row) → Keeps also r → Keeps also s → Keeps also (either_by test r s)
unfolding either_by
Keeps_either also test r s p q x past state h =
    elim (test x past) as (λ b. also (grown x past (if b then r x past else s x past)) state) [ true ↦ p x past state h | false ↦ q x past state h ]

pub Keeps_each : {A T : Type 0} (also : Past → T → Type 0) (r : A → Row) (ps : List A) → ((p : A) → Keeps also (r p)) → Keeps also (for_each r ps)
unfolding for_each
Keeps_each also r [] k = Keeps_nothing also
Keeps_each also r (p ∷ ps) k = Keeps_then also (r p) (for_each r ps) (k p) (Keeps_each also r ps k)
