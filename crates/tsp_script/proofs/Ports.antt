-- Laws of a node's number with its port.
use Rattle.std.proofs.Common.{◌≡◌, ℕ, ◌<◌, ◌^◌, List, [], ◌∷◌, ◌++◌, Bool, true, false, ◌==◌, if◌then◌else◌, length, refl, sym, ap, ◌∙◌, ◌⊎◌, inl, inr, zero}
use Rattle.std.proofs.Common.{suc, arith, decimal, Contains}
use Rattle.std.proofs.lemmas.{Bool.eqb-true, Fmt.decimal_is_IsNumeral, Fmt.decimal_injective, List.append-nil}
use Rattle.std.proofs.lemmas.List.Elements.{Contains-append_cases}
use Rattle.tsp_base.specs.declared.place.Port.{Port}
use Rattle.tsp_script.proofs.Cuts.{words_apart, mark_front, line_of_marks, before_mark_alone, after_mark_alone, no_slash_decimal, no_space_decimal}
use Rattle.tsp_script.{proofs.Cuts.no_space_later, specs.Schedules.port_text, specs.Words.before_mark, specs.Words.after_mark}

-- the word after a node's slash is this port's: its number, or nothing for port 0
abbrev NamesPort : List ℕ → Port → Type 0
NamesPort word port = ((port ≡ record { 0 = 0 }) × (word ≡ [])) ⊎ (word ≡ decimal port.0)

parts_by : (node : ℕ) (port : Port) (word : List ℕ) → node < 2 ^ 64 → (b : Bool) → (port.0 == 0) ≡ b → word ≡ decimal node ++
    (if b then [] else 47 ∷ decimal port.0)
    → (before_mark 47 word ≡ decimal node) × NamesPort (after_mark 47 word) port
parts_by node port word h true z e =
    let w : word ≡ decimal node = e ∙ append-nil (decimal node) in
    let p : port ≡ record { 0 = 0 } = ap (λ n. record { 0 = n }) (eqb-true port.0 0 z) in
    rw w (before_mark_alone 47 (decimal node) (no_slash_decimal node h), inl (p, after_mark_alone 47 (decimal node) (no_slash_decimal node h)))
parts_by node port word h false z e =
    let p = mark_front 47 word (decimal node) (decimal port.0) (no_slash_decimal node h) e in
    (p.0, inr p.1)

-- a node's number and its port are parted by the first stroke
port_parts : (node : ℕ) (port : Port) (word : List ℕ) → node < 2 ^ 64 → word ≡ decimal node ++ port_text port
    → (before_mark 47 word ≡ decimal node) × NamesPort (after_mark 47 word) port
port_parts node port word h e = parts_by node port word h (port.0 == 0) refl e

-- a number has a digit
decimal_some : (n : ℕ) → n < 2 ^ 64 → [] ≡ decimal n → ⊥
decimal_some n h e = let z : 0 ≡ length (decimal n) = ap length e in omega (arith, z, (decimal_is_IsNumeral n h).0.0)

-- a word is one port's
one_port : (p q : Port) (word : List ℕ) → p.0 < 2 ^ 64 → q.0 < 2 ^ 64 → NamesPort word p → NamesPort word q → p ≡ q
one_port p q word h k (inl a) (inl b) = a.0 ∙ sym b.0
one_port p q word h k (inl a) (inr b) = absurd (decimal_some q.0 k (sym a.1 ∙ b))
one_port p q word h k (inr a) (inl b) = absurd (decimal_some p.0 h (sym b.1 ∙ a))
one_port p q word h k (inr a) (inr b) = ap (λ n. record { 0 = n }) (decimal_injective p.0 q.0 h k (sym a ∙ b))

-- a node's number with its port is one node's and one port's
pub ports_apart : (m n : ℕ) (p q : Port) → m < 2 ^ 64 → n < 2 ^ 64 → p.0 < 2 ^ 64 → q.0 < 2 ^ 64 → decimal m ++ port_text p ≡ decimal n ++ port_text q →
    (m ≡ n) × (p ≡ q)
ports_apart m n p q h k i j e =
    let a = port_parts m p (decimal m ++ port_text p) h refl in
    let b = port_parts n q (decimal m ++ port_text p) k e in
    (decimal_injective m n h k (sym a.0 ∙ b.0), one_port p q (after_mark 47 (decimal m ++ port_text p)) i j a.1 b.1)

no_space_by : (node : ℕ) (port : Port) (b : Bool) → node < 2 ^ 64 → port.0 < 2 ^ 64 → ¬ Contains (decimal node ++ (if b then [] else 47 ∷ decimal port.0)) 32
no_space_by node port true h k c = no_space_decimal node h (rw (append-nil (decimal node)) at c)
no_space_by node port false h k c = elim (Contains-append_cases (decimal node) (47 ∷ decimal port.0) 32 c) [
  | inl i ↦ no_space_decimal node h i
  | inr i ↦ no_space_later 47 (decimal port.0) (omega arith) (no_space_decimal port.0 k) i
]

pub no_space_port : (node : ℕ) (port : Port) → node < 2 ^ 64 → port.0 < 2 ^ 64 → ¬ Contains (decimal node ++ port_text port) 32
no_space_port node port h k = no_space_by node port (port.0 == 0) h k

-- a port other than 0 is written behind a stroke
port_text_some : (port : Port) → 0 < port.0 → port_text port ≡ 47 ∷ decimal port.0
port_text_some port h = grind arith

pub stroke_parts : (node : ℕ) (port : Port) (word : List ℕ) → node < 2 ^ 64 → 0 < port.0 → word ≡ decimal node ++ port_text port →
    (before_mark 47 word ≡ decimal node) × (after_mark 47 word ≡ decimal port.0)
stroke_parts node port word h s e = mark_front 47 word (decimal node) (decimal port.0) (no_slash_decimal node h) (e ∙ rw (port_text_some port s) refl)

pub node_found : (word front rest : List ℕ) (node : ℕ) (port : Port) → front ≡ before_mark 47 word → rest ≡ after_mark 47 word → front ≡ decimal node → rest ≡
    decimal port.0 → 0 < port.0 → port.0 < 2 ^ 8 → word ≡ decimal node ++ port_text port
node_found word front rest node port f r n p h k =
    let some : 0 < length (after_mark 47 word) = omega (arith, ap length r, ap length p, (decimal_is_IsNumeral port.0 (omega (arith, k))).0.0) in
    line_of_marks 47 word some ∙ rw (sym f ∙ n, sym r ∙ p, port_text_some port h) refl

-- port 0 isn't written
pub port_none : (line rest : List ℕ) (node : ℕ) → line ≡ decimal node ++ 32 ∷ rest → line ≡ (decimal node ++ port_text (record { 0 = 0 })) ++ 32 ∷ rest
port_none line rest node e = e ∙ ap (λ (w : List ℕ). w ++ 32 ∷ rest) (sym (append-nil (decimal node)))

-- a node's number and its port in front of a space are one node's and one port's
pub nodes_apart : (line : List ℕ) (m n : ℕ) (p q : Port) (r s : List ℕ) → m < 2 ^ 64 → n < 2 ^ 64 → p.0 < 2 ^ 64 → q.0 < 2 ^ 64
    → line ≡ (decimal m ++ port_text p) ++ 32 ∷ r → line ≡ (decimal n ++ port_text q) ++ 32 ∷ s → (m ≡ n) × (p ≡ q) × (r ≡ s)
nodes_apart line m n p q r s h k i j e f =
    let w = words_apart (decimal m ++ port_text p) (decimal n ++ port_text q) r s (no_space_port m p h i) (no_space_port n q k j) (sym e ∙ f) in
    let a = ports_apart m n p q h k i j w.0 in
    (a.0, a.1, w.1)

number_cases : (n : ℕ) → (n ≡ 0) ⊎ (0 < n)
number_cases zero = inl refl
number_cases (suc n) = inr (omega arith)

-- where no number stands in front of a space, a node's number has a port other than 0
pub port_stands : (line rest : List ℕ) (node : ℕ) (port : Port) → line ≡ (decimal node ++ port_text port) ++ 32 ∷ rest →
    (line ≡ decimal node ++ 32 ∷ rest → ⊥) → 0 < port.0
port_stands line rest node port e none = elim (number_cases port.0) [
  | inl z ↦ absurd (none (e ∙ ap (λ (n : ℕ). (decimal node ++ port_text (record { 0 = n })) ++ 32 ∷ rest) z ∙
      ap (λ (w : List ℕ). w ++ 32 ∷ rest) (append-nil (decimal node))))
  | inr s ↦ s
]
