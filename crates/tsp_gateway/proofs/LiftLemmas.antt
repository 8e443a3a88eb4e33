-- A port's call is one of its node.
use Rattle.std.proofs.Common.{sym, subst, ap, inl, inr, arith, append-nil, eq-eqb, eqb-true, get_or, true≢false, ◌∙◌, ◌≡◌, ◌≢◌, ℕ, zero, suc, ◌+◌, ◌<◌, ◌==◌}
use Rattle.std.proofs.Common.{◌⊎◌, Bool, true, false, List, [], ◌∷◌, length, Some, slice_get, refl}
use Rattle.std.proofs.{Math.ListN.set, Math.ListN.length-set, lemmas.Bool.ne_eqb, lemmas.List.length-map, lemmas.Option.slice_get-get_or}
use Rattle.tsp_base.specs.Words.{Past, dids, plain, tracing, Performs, Row, grown, placed}
use Rattle.tsp_base.proofs.Views.{plain_view}
use Rattle.tsp_rules.specs.{NodePerforms.PerformsAll, RoundRows.corrects, Values.Act, Values.Boot, Values.Placed}
use Rattle.tsp_rules.specs.NodeRows.{NodePast, NodeRow, abandons_on, for_ports, on, on_port, reading_all, spread, stirring, ◌and_then◌}
use Rattle.tsp_rules.proofs.Emits.{Sort, Acking, Alarming, AllOf, Asking, Backing, Changing, Closing, Correcting, Counting, Emits, Emits_more, Following}
use Rattle.tsp_rules.proofs.Emits.{Giving, Leading, Numbering, Passing, Posting, Rivalling, Rounding, Sampling, Tabling, is_in, sort_of}
use Rattle.tsp_rules.proofs.NodeRowLemmas.{All_then, Bootless, on_own}
use Rattle.tsp_rules.proofs.{Asides.all_aside, Asides.on_other, EmitsStill.row_corrects_none}
use Rattle.tsp_clients.{proofs.ClientLemmas.TraceStands_by, specs.ClientStands.TraceStands}
use Rattle.tsp_clock.specs.{ClockStands.ClockStands, Clocks.ClockValue}
use Rattle.tsp_node.specs.declared.part.Part.{Part}
use Rattle.tsp_node.specs.NodeStands.{PortStands, PortValue, TakeStands, TracedValue, port_with, traced_with}
use Rattle.tsp_node.proofs.{NodeLemmas.Performs_traced, TakeEmits.bootless, TakeEmits.silent_trace}
use Rattle.tsp_gateway.specs.{GatewayStands.GatewayStands, GatewayStands.port_at, Rooms.ports_in, declared.gateway.Gateway.Gateway}
use Rattle.tsp_gateway.specs.Untold.{Untold, told, upset_ports}
use Rattle.tsp_gateway.proofs.AsideLemmas.{clock_same, stands_still, stands_told}

-- a list after one place of it was written
pub set_cases : {X : Type 0} (xs : List X) (i m : ℕ) (y z : X) → slice_get (set xs i y) m ≡ Some z → ((i ≡ m) × (y ≡ z)) ⊎ ((i ≢ m) × (slice_get xs m ≡ Some z))
set_cases [] i m y z e = let bad : ⊥ = cc in absurd bad
set_cases (x ∷ xs) zero zero y z e = inl (refl, cc)
set_cases (x ∷ xs) (suc i) (suc m) y z e = elim (set_cases xs i m y z e) [
  | inl h ↦ inl (ap suc h.0, h.1)
  | inr h ↦ inr ((λ q. h.0 (cc)), h.1)
]
set_cases (x ∷ xs) _ _ y z e = inr ((λ q. cc), e)

bootless_act : (a : Act) → is_in (sort_of a) bootless ≡ true → a ≡ Boot → ⊥
bootless_act a e is = true≢false (sym (subst (λ b. is_in (sort_of b) bootless ≡ true) is e))

bootless_all : (acts : List Act) → AllOf bootless acts → Bootless acts
bootless_all [] h = tt
bootless_all (a ∷ rest) h = (λ is. bootless_act a h.0 is, bootless_all rest h.1)

-- rows of no Boot
pub bootless_by : {row : Row} → Emits bootless row → (x : ℕ) (past : Past) → Bootless (row x past)
bootless_by {row} e x past = bootless_all (row x past) (e.only x past)

pub bootless_silent : {row : Row} → Emits silent_trace row → Emits bootless row
bootless_silent e = Emits_more silent_trace refl e

-- two ports are two
pub apart : (q r : ℕ) → q ≢ r → ((port_at q).0 == (port_at r).0) ≡ false
apart q r n = ne_eqb q r n

-- what a port of a node stands for, with the trace
pub take_stands : (q : ℕ) (past : NodePast) (g : Gateway) (part : Part) → slice_get g.ports.items q ≡ Some part → GatewayStands past g →
    TakeStands (on_port (port_at q) past) (traced_with part g.clock g.tracing)
take_stands q past g part was h = record { port = h.ports q part was; trace = ap tracing (plain_view (port_at q) past.lines) ∙ h.traces }

-- what all ports see alike of a port's acts
same_plain : (q r x : ℕ) (past : NodePast) (acts : List Act) → plain (grown x (on_port (port_at q) past) acts).seen ≡
    plain (on_port (port_at r) (spread x past (placed (port_at q) acts))).seen
same_plain q r x past acts =
    ap (λ (p : Past). plain p.seen) (sym (on_own (port_at q) x past acts)) ∙ plain_view (port_at q) (spread x past (placed (port_at q) acts)).lines
    ∙ sym (plain_view (port_at r) (spread x past (placed (port_at q) acts)).lines)

traces_on : (q x : ℕ) (past : NodePast) (acts : List Act) (flag : Bool) → TraceStands (grown x (on_port (port_at q) past) acts) flag →
    tracing (dids (spread x past (placed (port_at q) acts)).lines) ≡ flag
traces_on q x past acts flag h =
    ap tracing (sym (plain_view (port_at q) (spread x past (placed (port_at q) acts)).lines)) ∙
    ap (λ (p : Past). tracing (plain p.seen)) (on_own (port_at q) x past acts) ∙ h

own_on : (q x : ℕ) (past : NodePast) (acts : List Act) (state : PortValue) → PortStands (grown x (on_port (port_at q) past) acts) state →
    PortStands (on_port (port_at q) (spread x past (placed (port_at q) acts))) state
own_on q x past acts state h = subst (λ (p : Past). PortStands p state) (sym (on_own (port_at q) x past acts)) h

clock_on : (q r x : ℕ) (past : NodePast) (acts : List Act) (clock : ClockValue) → q ≢ r → Bootless acts →
    ClockStands (grown x (on_port (port_at q) past) acts) clock → ClockStands (all_aside x (on_port (port_at r) past) acts) clock
clock_on q r x past acts clock n b h =
    let other = on_other (port_at q) (port_at r) x past acts (apart q r n) b in
    clock_same (grown x (on_port (port_at q) past) acts) (all_aside x (on_port (port_at r) past) acts) clock (same_plain q r x past acts ∙
    ap (λ (p : Past). plain p.seen) other) h

-- what a node stands for after acts of a port: where they correct, it stands once the other ports are told
abbrev pub After : Bool → ℕ → ℕ → NodePast → Gateway → Type 0
After true q x past g = Untold q x past g
After false q x past g = GatewayStands past g

on_after : (moves : Bool) (q x : ℕ) (past : NodePast) (acts : List Act) (g h : Gateway) (part : Part) → Bootless acts → corrects acts ≡ moves → h.ports.items ≡
    set g.ports.items q part → GatewayStands past g →
    TakeStands (grown x (on_port (port_at q) past) acts) (traced_with part h.clock h.tracing) → After moves q x (spread x past (placed (port_at q) acts)) h
on_after false q x past acts g h part b c is s t = record {
  many = ap (λ (ps : List Part). length ps) is ∙ length-set g.ports.items q part ∙ s.many;
  traces = traces_on q x past acts h.tracing t.trace;
  ports = λ r p there. elim (set_cases g.ports.items q r part p (subst (λ (ps : List Part). slice_get ps r ≡ Some p) is there)) [
    | inl same ↦ subst (λ k. PortStands (on_port (port_at k) (spread x past (placed (port_at q) acts))) (port_with p h.clock)) same.0
        (subst (λ (k : Part). PortStands (on_port (port_at q) (spread x past (placed (port_at q) acts))) (port_with k h.clock)) same.1
        (own_on q x past acts (port_with part h.clock) t.port))
    | inr other ↦ subst (λ (k : Past). PortStands k (port_with p h.clock)) (sym (on_other (port_at q) (port_at r) x past acts (apart q r other.0) b))
        (stands_still x (on_port (port_at r) past) acts p g.clock h.clock b c (clock_on q r x past acts h.clock other.0 b t.port.clock) (s.ports r p other.1))
  ];
}
on_after true q x past acts g h part b c is s t = record {
  many = ap (λ (ps : List Part). length ps) is ∙ length-set g.ports.items q part ∙ s.many;
  traces = traces_on q x past acts h.tracing t.trace;
  here = λ p there. elim (set_cases g.ports.items q q part p (subst (λ (ps : List Part). slice_get ps q ≡ Some p) is there)) [
    | inl same ↦ subst (λ (k : Part). PortStands (on_port (port_at q) (spread x past (placed (port_at q) acts))) (port_with k h.clock)) same.1
        (own_on q x past acts (port_with part h.clock) t.port)
    | inr other ↦ absurd (other.0 refl)
  ];
  others = λ r p there n. elim (set_cases g.ports.items q r part p (subst (λ (ps : List Part). slice_get ps r ≡ Some p) is there)) [
    | inl same ↦ absurd (n (sym same.0))
    | inr other ↦ subst (λ (k : Past). PortStands k (told x p h.clock)) (sym (on_other (port_at q) (port_at r) x past acts (apart q r other.0) b))
        (stands_told x (on_port (port_at r) past) acts p g.clock h.clock b c (clock_on q r x past acts h.clock other.0 b t.port.clock) (s.ports r p other.1))
  ];
}

-- a port's call, which corrects or doesn't
pub All_on : {W : NodePast → Gateway → Type 0} {P Q : Past → TracedValue → Type 0} {row : Row} {x q : ℕ} {g h : Gateway} {old new : List Placed} (moves : Bool)
    (before after : Part) → Emits bootless row →
    ((past : NodePast) → W past g → corrects (row x (on_port (port_at q) past)) ≡ moves) → h.ports.items ≡ set g.ports.items q after →
    ((past : NodePast) → W past g → GatewayStands past g) →
    ((past : NodePast) → W past g → P (on_port (port_at q) past) (traced_with before g.clock g.tracing)) →
    ((past : Past) → Q past (traced_with after h.clock h.tracing) → TakeStands past (traced_with after h.clock h.tracing)) →
    Performs P Q row x (port_at q) (traced_with before g.clock g.tracing) (traced_with after h.clock h.tracing) old new →
    PerformsAll W (After moves q x) (on (port_at q) row) x g h old new
unfolding on
All_on {row = row} {x = x} {q = q} {g = g} {h = h} moves before after e same is stands from to d = record {
  acts = λ past w. d.acts (on_port (port_at q) past) (from past w);
  stands = λ past w.
      let acts = row x (on_port (port_at q) past) in
      on_after moves q x past acts g h after (bootless_by e x (on_port (port_at q) past)) (same past w) is (stands past w)
      (to (grown x (on_port (port_at q) past) acts) (d.stands (on_port (port_at q) past) (from past w)));
}

-- the same acts, by another row
pub All_same : {S T : Type 0} {p : NodePast → S → Type 0} {q : NodePast → T → Type 0} {r : NodeRow} (s : NodeRow) {x : ℕ} {before : S} {after : T}
    {old new : List Placed} →
    ((past : NodePast) → p past before → r x past ≡ s x past) → PerformsAll p q r x before after old new → PerformsAll p q s x before after old new
All_same s {x} {before} {after} t d = record { acts = λ past h. rw (sym (t past h)) (d.acts past h); stands = λ past h. rw (sym (t past h)) (d.stands past h) }

-- a port's row, and what it stirs
pub All_stirred : {W : NodePast → Gateway → Type 0} {x : ℕ} {g h i : Gateway} {old mid new : List Placed} (q : ℕ) (row : Row) (whole : Bool) →
    ((past : NodePast) → W past g → corrects (row x (on_port (port_at q) past)) ≡ true) →
    PerformsAll W (Untold q x) (on (port_at q) row) x g h old mid → PerformsAll (Untold q x) GatewayStands
    (reading_all (upset_ports whole (port_at q)) (for_ports abandons_on)) x h i mid new →
    PerformsAll W GatewayStands (λ y past. stirring (port_at q) (upset_ports whole (port_at q) y past) row y past) x g i old new
unfolding stirring reading_all ◌and_then◌
All_stirred {x = x} q row true moves d e = All_same (λ y past. stirring (port_at q) (upset_ports true (port_at q) y past) row y past)
    (λ past w. rw (moves past w) refl) (All_then d e)
All_stirred {x = x} q row false moves d e = All_same (λ y past. stirring (port_at q) (upset_ports false (port_at q) y past) row y past)
    (λ past w. rw (moves past w) refl) (All_then d e)

-- a row that stirs nothing
pub All_unstirred : {W : NodePast → Gateway → Type 0} {x : ℕ} {g h : Gateway} {old new : List Placed} (q : ℕ) (row : Row) (whole : Bool) →
    ((past : NodePast) → W past g → corrects (row x (on_port (port_at q) past)) ≡ false) →
    PerformsAll W GatewayStands (on (port_at q) row) x g h old new → PerformsAll W GatewayStands
    (λ y past. stirring (port_at q) (upset_ports whole (port_at q) y past) row y past) x g h old new
unfolding stirring
All_unstirred {x = x} q row whole still d =
    All_same (λ y past. stirring (port_at q) (upset_ports whole (port_at q) y past) row y past)
    (λ past w. rw (still past w) (sym (append-nil (on (port_at q) row x past)))) d

-- all sorts but Boot, Took, Trace and what moves the clock
abbrev pub still_sorts : List Sort
still_sorts = Asking ∷ Correcting ∷ Numbering ∷ Passing ∷ Posting ∷ Leading ∷ Following ∷ Changing ∷ Backing ∷ Counting ∷ Rounding ∷ Alarming ∷ Tabling ∷
    Rivalling ∷ Acking ∷ Giving ∷ Sampling ∷ Closing ∷ []

-- rows of these sorts don't correct
pub still_by : {row : Row} → Emits still_sorts row → (x : ℕ) (past : Past) → corrects (row x past) ≡ false
still_by e x past = row_corrects_none (Emits_more still_sorts refl e) x past

pub silent_still : {row : Row} → Emits still_sorts row → Emits silent_trace row
silent_still e = Emits_more still_sorts refl e

-- the part in a place
pub part_there : (g : Gateway) (q : ℕ) (part : Part) → q < length (ports_in g) → part ≡ get_or g.ports.items q part → slice_get g.ports.items q ≡ Some part
part_there g q part lt is =
    let inside : q < length g.ports.items = subst (λ n. q < n) (length-map g.ports.items _) lt in
    slice_get-get_or g.ports.items q part inside ∙ ap (λ p. Some p) (sym is)

-- a port's call that leaves clock and trace alone
pub All_here : {row : Row} {x q : ℕ} {g h : Gateway} {before : Part} {old new : List Placed} (after : Part) → Emits still_sorts row →
    slice_get g.ports.items q ≡ Some before → h.ports.items ≡ set g.ports.items q after → h.tracing ≡ g.tracing →
    Performs PortStands PortStands row x (port_at q) (port_with before g.clock) (port_with after h.clock) old new →
    PerformsAll GatewayStands GatewayStands (on (port_at q) row) x g h old new
All_here {row} {x} {q} {g} {h} {before} {old} {new} after e was is same d =
    All_on {W = GatewayStands} {P = TakeStands} {Q = TakeStands} false before after (bootless_silent (silent_still e))
    (λ past w. still_by e x (on_port (port_at q) past)) is (λ past w. w) (λ past w. take_stands q past g before was w) (λ past t. t)
    (subst (λ t. Performs TakeStands TakeStands row x (port_at q) (traced_with before g.clock g.tracing) (traced_with after h.clock t) old new) (sym same)
    (Performs_traced g.tracing (TraceStands_by row (Emits_more silent_trace refl (silent_still e))) d))

-- the same part in its place
pub set_same : {X : Type 0} (xs : List X) (i : ℕ) (x : X) → slice_get xs i ≡ Some x → set xs i x ≡ xs
set_same [] i x e = let bad : ⊥ = cc in absurd bad
set_same (y ∷ ys) zero x e = let same : x ≡ y = cc in ap (λ z. z ∷ ys) same
set_same (y ∷ ys) (suc i) x e = ap (λ zs. y ∷ zs) (set_same ys i x e)

-- what stands in a place of a list that was written there
pub set_there : {X : Type 0} (xs : List X) (i : ℕ) (y z : X) → slice_get (set xs i y) i ≡ Some z → y ≡ z
set_there xs i y z e = elim (set_cases xs i i y z e) [
  | inl h ↦ h.1
  | inr h ↦ absurd (h.0 refl)
]

-- a row for what a fact is
pub All_reading : {A S T : Type 0} {p : NodePast → S → Type 0} {q : NodePast → T → Type 0} (fact : ℕ → NodePast → A) (rows : A →
    NodeRow) (a : A) {x : ℕ} {before : S} {after : T} {old new : List Placed} →
    ((past : NodePast) → p past before → fact x past ≡ a) → PerformsAll p q (rows a) x before after old new →
    PerformsAll p q (reading_all fact rows) x before after old new
unfolding reading_all
All_reading fact rows a t d = record { acts = λ past h. rw (t past h) (d.acts past h); stands = λ past h. rw (t past h) (d.stands past h) }

-- what stands in a place of a list
there_is : {X : Type 0} (xs : List X) (i : ℕ) → i < length xs → (x : X) × (slice_get xs i ≡ Some x)
there_is [] i lt = let bad : ⊥ = omega (arith, lt) in absurd bad
there_is (y ∷ ys) zero lt = (y, refl)
there_is (y ∷ ys) (suc i) lt = there_is ys i (omega (arith, lt))

-- the part of a port that the node has
pub part_of : (g : Gateway) (q : ℕ) → q < length (ports_in g) → (part : Part) × (slice_get g.ports.items q ≡ Some part)
part_of g q lt = there_is g.ports.items q (subst (λ n. q < n) (length-map g.ports.items _) lt)

-- acts of a port that change nothing of it
pub All_idle : {row : Row} {x q : ℕ} {g : Gateway} {old new : List Placed} → q < length (ports_in g) → Emits bootless row →
    ((y : ℕ) (past : Past) → corrects (row y past) ≡ false) →
    ((part : Part) → slice_get g.ports.items q ≡ Some part → Performs TakeStands TakeStands row x (port_at q) (traced_with part g.clock g.tracing)
    (traced_with part g.clock g.tracing) old new) → PerformsAll GatewayStands GatewayStands (on (port_at q) row) x g g old new
All_idle {row} {x} {q} {g} lt e still d =
    let one = part_of g q lt in
    All_on {W = GatewayStands} {P = TakeStands} {Q = TakeStands} false one.0 one.0 e (λ past w. still x (on_port (port_at q) past))
    (sym (set_same g.ports.items q one.0 one.1)) (λ past w. w) (λ past w. take_stands q past g one.0 one.1 w) (λ past t. t) (d one.0 one.1)

-- what holds of each number below n, and of n
pub one_more : (P : ℕ → Type 0) (n : ℕ) → ((k : ℕ) → k < n → P k) → P n → (k : ℕ) → k < n + 1 → P k
one_more P n below here k lt = by_case (k == n) refl where
  by_case : (b : Bool) → (k == n) ≡ b → P k
  by_case true e = subst P (sym (eqb-true k n e)) here
  by_case false e = let other : k ≢ n = λ same. true≢false (sym (eq-eqb k n same) ∙ e) in below k (omega (arith, lt, other))

-- how many ports a node has
pub ports_many : (g : Gateway) → length (ports_in g) ≡ length g.ports.items
ports_many g = length-map g.ports.items _

-- a call that is known of more pasts than are asked for
pub All_from : {R S T : Type 0} {p : NodePast → S → Type 0} {q : NodePast → T → Type 0} {w : NodePast → R → Type 0} {r : NodeRow} {x : ℕ} {first : R}
    {before : S} {after : T} {old new : List Placed} →
    ((past : NodePast) → w past first → p past before) → PerformsAll p q r x before after old new → PerformsAll w q r x first after old new
All_from k d = record { acts = λ past h. d.acts past (k past h); stands = λ past h. d.stands past (k past h) }

-- a call after which less is asked for than is known
pub All_to : {S T U : Type 0} {p : NodePast → S → Type 0} {q : NodePast → T → Type 0} {w : NodePast → U → Type 0} {r : NodeRow} {x : ℕ} {before : S} {after : T}
    {last : U} {old new : List Placed} →
    ((past : NodePast) → q past after → w past last) → PerformsAll p q r x before after old new → PerformsAll p w r x before last old new
All_to {r = r} {x = x} k d = record { acts = d.acts; stands = λ past h. k (spread x past (r x past)) (d.stands past h) }

-- nothing is done
pub All_nothing : {S : Type 0} {p : NodePast → S → Type 0} {x : ℕ} {state : S} {old : List Placed} → PerformsAll p p (λ y past. []) x state state old old
All_nothing {old = old} = record { acts = λ past h. sym (append-nil old); stands = λ past h. h }

-- a call by an equal row
pub All_row : {S T : Type 0} {p : NodePast → S → Type 0} {q : NodePast → T → Type 0} {r s : NodeRow} {x : ℕ} {before : S} {after : T} {old new : List Placed} →
    r ≡ s → PerformsAll p q r x before after old new → PerformsAll p q s x before after old new
All_row {p = p} {q = q} {x = x} {before = before} {after = after} {old = old} {new = new} e d =
    subst (λ (w : NodeRow). PerformsAll p q w x before after old new) e d
