-- Laws of the lines of a header: each is one item's.
use Rattle.std.proofs.Common.{◌≡◌, ◌≢◌, subst, slice_index_or, ℕ, ◌≤◌, List, [], ◌∷◌, ◌++◌, length, refl, sym, ap, ◌∙◌, inl, inr, arith, Result, Ok, Err}
use Rattle.std.proofs.Common.{append_assoc, true, Bool, codes, Contains, ℤ, pos, negsuc, nat_abs, ◌<◌, ◌^◌, false}
use Rattle.std.specs.{Fmt.signed_decimal, Int.w64, Int.RustNames.FitsSigned}
use Rattle.std.proofs.lemmas.{Fmt.decimal_injective, List.append_cancel_left}
use lib.Signed.{mag}
use Rattle.tsp_base.specs.declared.header.NodeLine.{NodeLine}
use Rattle.tsp_script.specs.Schedules.{is_host, flag_text, node_text, numbers_text, joined_text, net_text, IsHost, IsNodeLine, IsTitle, SpellsHead, ReadsHead}
use Rattle.tsp_script.{specs.Schedules.IsNetLine, proofs.Cuts.words_apart, proofs.Cuts.signs_apart, proofs.NetLines.joined_text_injective}
use Rattle.tsp_script.specs.declared.{head_line.HeadItem.HeadItem, line_fault.LineFault.LineFault, line_fault.LineFault.TheVariants.Bad}
use Rattle.tsp_script.specs.declared.head_line.HeadItem.TheVariants.{Title, Drift, Strict, Node, Net, NotHead}

host_not_space : (c : ℕ) → is_host c ≡ true → c ≡ 32 → ⊥
host_not_space c q e = let P : ℕ → Type 0 = λ (x : ℕ). is_host x ≡ true in let r = subst P e q in cc

-- a schedule's name has no space
pub no_space_host : (name : List ℕ) → IsHost name → ¬ Contains name 32
no_space_host name h (k, b, e) = host_not_space (slice_index_or name k 32) (h.all k 32 b) e

pub fits_wall : (z : ℤ) → nat_abs z ≤ 1000000000000000 → FitsSigned w64 z
fits_wall (pos n) h = record { sfits = omega arith }
fits_wall (negsuc n) h = record { sfits = omega arith }

-- what stands behind `node ` in a node's line
abbrev pub node_rest : NodeLine → List ℕ
node_rest n = n.name ++ 32 ∷ (signed_decimal n.rate ++ 32 ∷ (signed_decimal n.wall ++ 32 ∷ flag_text n.may))

pub node_form : (n : NodeLine) → node_text n ≡ codes "node " ++ node_rest n
node_form n = simp append_assoc

pub net_form : (members : List ℕ) → 1 ≤ length members → net_text members ≡ codes "net " ++ joined_text members
net_form [] h = absurd (omega arith)
net_form (n ∷ ns) h = refl

-- lines with another octet at a place are other lines
pub lines_differ : (i : ℕ) (k l : List ℕ) → k ≡ l → slice_index_or k i 0 ≢ slice_index_or l i 0 → ⊥
lines_differ i k l e n = n (ap (λ (x : List ℕ). slice_index_or x i 0) e)

pub node_not_net : (a b : List ℕ) → codes "node " ++ a ≡ codes "net" ++ b → ⊥
node_not_net a b e = lines_differ 1 (codes "node " ++ a) (codes "net" ++ b) e (omega arith)

pub strict_not_node : (rest : List ℕ) → codes "strict" ≡ codes "node " ++ rest → ⊥
strict_not_node rest e = lines_differ 0 (codes "strict") (codes "node " ++ rest) e (omega arith)

pub strict_not_net : (rest : List ℕ) → codes "strict" ≡ codes "net" ++ rest → ⊥
strict_not_net rest e = lines_differ 0 (codes "strict") (codes "net" ++ rest) e (omega arith)

titles_differ : codes "tsp-schedule 1" ≡ codes "tsp-schedule 2" → ⊥
titles_differ e = lines_differ 13 (codes "tsp-schedule 1") (codes "tsp-schedule 2") e (omega arith)

-- a title is of one version
pub one_version : (line : List ℕ) (v w : ℕ) → IsTitle line v → IsTitle line w → v ≡ w
one_version line v w (inl a) (inl b) = a.0 ∙ sym b.0
one_version line v w (inl a) (inr b) = absurd (titles_differ (sym a.1 ∙ b.1))
one_version line v w (inr a) (inl b) = absurd (titles_differ (sym b.1 ∙ a.1))
one_version line v w (inr a) (inr b) = a.0 ∙ sym b.0

-- a line from the fourth on that begins with `node ` is a node's or none
pub node_item : (Holds : HeadItem → Type 0) (line rest : List ℕ) (item : HeadItem) → line ≡ codes "node " ++ rest → SpellsHead 4 line item
    → ((n : NodeLine) → IsNodeLine n → rest ≡ node_rest n → line ≡ node_text n → Holds (Node n)) → Holds item
node_item Holds line rest (Node n) l s reads = reads n s.1 (append_cancel_left (codes "node ") _ _ (sym l ∙ (s.2 ∙ node_form n))) s.2
node_item Holds line rest (Net members) l s reads = absurd (node_not_net rest (numbers_text members) (sym l ∙ s.2))
node_item Holds line rest NotHead l s reads = absurd (s.1.no_node rest l)
node_item Holds line rest item l s reads = absurd (omega (arith, s.0))

-- every other line from the fourth on is no longer the header's
pub other_line : (line : List ℕ) → ((rest : List ℕ) → line ≡ codes "node " ++ rest → ⊥) → ((rest : List ℕ) → line ≡ codes "net " ++ rest → ⊥) →
    SpellsHead 4 line NotHead
other_line line a b = (omega arith, record { no_node = a; no_net = b; not_strict = λ e. absurd (omega (arith, e)) })

-- the places from the third on are alike but for `strict`
to_later : (place : ℕ) (line : List ℕ) (item : HeadItem) → 3 ≤ place → (place ≡ 3 → line ≡ codes "strict" → ⊥) → SpellsHead 4 line item →
    SpellsHead place line item
to_later place line (Node m) h n s = (h, s.1, s.2)
to_later place line (Net members) h n s = (h, s.1, s.2)
to_later place line NotHead h n s = (h, record { no_node = s.1.no_node; no_net = s.1.no_net; not_strict = n })
to_later place line item h n s = absurd (omega (arith, s.0))

pub from_later : (place : ℕ) (line : List ℕ) (item : HeadItem) → 3 ≤ place → (place ≡ 3 → line ≡ codes "strict" → ⊥) → SpellsHead place line item →
    SpellsHead 4 line item
from_later place line Strict h n s = absurd (n s.0 s.1)
from_later place line (Node m) h n s = (omega arith, s.1, s.2)
from_later place line (Net members) h n s = (omega arith, s.1, s.2)
from_later place line NotHead h n s = other_line line s.1.no_node s.1.no_net
from_later place line item h n s = absurd (omega (arith, h, s.0))

pub reads_later : (place : ℕ) (line : List ℕ) (r : Result HeadItem LineFault) → 3 ≤ place → (place ≡ 3 → line ≡ codes "strict" → ⊥) → ReadsHead 4 line r →
    ReadsHead place line r
reads_later place line (Ok item) h n s = to_later place line item h n s
reads_later place line (Err Bad) h n s = λ item t. s item (from_later place line item h n t)

-- a node of equal parts
pub node_of_parts : (name : List ℕ) (rate wall : ℤ) (may : Bool) (n : NodeLine) → name ≡ n.name → rate ≡ n.rate → wall ≡ n.wall → may ≡ n.may
    → record { name = name; rate = rate; wall = wall; may = may } ≡ n
node_of_parts name rate wall may n a b w m = rw (a, b, w, m) refl

small : (z : ℤ) → nat_abs z ≤ 1000000000000000 → mag z < 2 ^ 63
small (pos n) h = omega (arith, h)
small (negsuc n) h = omega (arith, h)

flags_differ : flag_text true ≡ flag_text false → ⊥
flags_differ e = let q : ◌≡◌ {A = ℕ} 109 115 = ap (λ l. slice_index_or l 0 0) e in omega (arith, q)

flag_text_injective : (a b : Bool) → flag_text a ≡ flag_text b → a ≡ b
flag_text_injective true true e = refl
flag_text_injective true false e = absurd (flags_differ e)
flag_text_injective false true e = absurd (flags_differ (sym e))
flag_text_injective false false e = refl

nodes_apart : (m n : NodeLine) → IsNodeLine m → IsNodeLine n → node_rest m ≡ node_rest n → m ≡ n
nodes_apart m n h k e =
    let a = words_apart m.name n.name (signed_decimal m.rate ++ 32 ∷ (signed_decimal m.wall ++ 32 ∷ flag_text m.may)) (signed_decimal n.rate ++ 32 ∷
    (signed_decimal n.wall ++ 32 ∷ flag_text n.may)) (no_space_host m.name h.host) (no_space_host n.name k.host) e in
    let i : nat_abs m.rate ≤ 1000000000000000 = omega (arith, h.rate) in
    let j : nat_abs n.rate ≤ 1000000000000000 = omega (arith, k.rate) in
    let b = signs_apart m.rate n.rate (signed_decimal m.wall ++ 32 ∷ flag_text m.may) (signed_decimal n.wall ++ 32 ∷ flag_text n.may) (fits_wall m.rate i)
    (fits_wall n.rate j) (small m.rate i) (small n.rate j) a.1 in
    let c = signs_apart m.wall n.wall (flag_text m.may) (flag_text n.may) (fits_wall m.wall h.wall) (fits_wall n.wall k.wall) (small m.wall h.wall)
    (small n.wall k.wall) b.1 in
    node_of_parts m.name m.rate m.wall m.may n a.0 b.0 c.0 (flag_text_injective m.may n.may c.1)

networks_apart : (k l : List ℕ) → IsNetLine k → IsNetLine l → net_text k ≡ net_text l → k ≡ l
networks_apart k l h i e = joined_text_injective k l h.small i.small (append_cancel_left (codes "net ") _ _ (sym (net_form k h.some) ∙ (e ∙ net_form l i.some)))

-- a line at a place of the header is one item
pub SpellsHead_one : (place : ℕ) (line : List ℕ) (a b : HeadItem) → SpellsHead place line a → SpellsHead place line b → a ≡ b
SpellsHead_one place line (Title v) (Title w) s t = ap Title (one_version line v w s.1 t.1)
SpellsHead_one place line (Drift p) (Drift q) s t = ap Drift (decimal_injective p q (omega (arith, s.1)) (omega (arith, t.1))
    (append_cancel_left (codes "drift ") _ _ (sym s.2 ∙ t.2)))
SpellsHead_one place line Strict Strict s t = refl
SpellsHead_one place line Strict (Node n) s t = absurd (strict_not_node (node_rest n) (sym s.1 ∙ (t.2 ∙ node_form n)))
SpellsHead_one place line Strict (Net l) s t = absurd (strict_not_net (numbers_text l) (sym s.1 ∙ t.2))
SpellsHead_one place line Strict NotHead s t = absurd (t.1.not_strict s.0 s.1)
SpellsHead_one place line (Node m) Strict s t = absurd (strict_not_node (node_rest m) (sym t.1 ∙ (s.2 ∙ node_form m)))
SpellsHead_one place line (Node m) (Node n) s t = ap Node (nodes_apart m n s.1 t.1 (append_cancel_left (codes "node ") _ _ (sym (node_form m) ∙
    (sym s.2 ∙ (t.2 ∙ node_form n)))))
SpellsHead_one place line (Node m) (Net l) s t = absurd (node_not_net (node_rest m) (numbers_text l) (sym (node_form m) ∙ (sym s.2 ∙ t.2)))
SpellsHead_one place line (Node m) NotHead s t = absurd (t.1.no_node (node_rest m) (s.2 ∙ node_form m))
SpellsHead_one place line (Net k) Strict s t = absurd (strict_not_net (numbers_text k) (sym t.1 ∙ s.2))
SpellsHead_one place line (Net k) (Node n) s t = absurd (node_not_net (node_rest n) (numbers_text k) (sym (node_form n) ∙ (sym t.2 ∙ s.2)))
SpellsHead_one place line (Net k) (Net l) s t = ap Net (networks_apart k l s.1 t.1 (sym s.2 ∙ t.2))
SpellsHead_one place line (Net k) NotHead s t = absurd (t.1.no_net (joined_text k) (s.2 ∙ net_form k s.1.some))
SpellsHead_one place line NotHead Strict s t = absurd (s.1.not_strict t.0 t.1)
SpellsHead_one place line NotHead (Node n) s t = absurd (s.1.no_node (node_rest n) (t.2 ∙ node_form n))
SpellsHead_one place line NotHead (Net l) s t = absurd (s.1.no_net (joined_text l) (t.2 ∙ net_form l t.1.some))
SpellsHead_one place line NotHead NotHead s t = refl
SpellsHead_one place line a b s t = absurd (omega (arith, s.0, t.0))

-- so what is read there is the only one
pub reads_one : (place : ℕ) (line : List ℕ) (r : Result HeadItem LineFault) → ReadsHead place line r → (item : HeadItem) → SpellsHead place line item → r ≡
    Ok item
reads_one place line (Ok read) s item t = ap Ok (SpellsHead_one place line read item s t)
reads_one place line (Err Bad) s item t = absurd (s item t)
