-- The port of a node on the network of another node's port, as one walk over the networks finds it.
use Rattle.std.proofs.Common.{◌∙◌, sym, ap, subst, arith, drop, eq-eqb, get_or, length, ◌<◌, ◌≡◌, ℕ, ◌+◌, ◌==◌, Bool, true, false, if◌then◌else◌, List, [], ◌∷◌}
use Rattle.std.proofs.Common.{Option, None, Some, refl}
use Rattle.std.proofs.lemmas.{Bool.ne_eqb, List.drop_more}
use Rattle.tsp_base.specs.Words.{has_member}
use Rattle.tsp_rules.specs.Values.{Port}
use Rattle.tsp_run.specs.Networks.{network_at, network_from, port_at, port_from}
use Rattle.tsp_run.proofs.NetworkLemmas.{on_network}

-- by which port node n is on a network, if these networks' numbers begin with i and n's ports on them with o
port_left : ℕ → ℕ → ℕ → Option ℕ → List (List ℕ) → Option ℕ
port_left n o i None nets = None
port_left n o i (Some k) nets = port_from n k o i nets

-- the same of the network of port q of node m, whose ports on these networks begin with p
pub beside : ℕ → ℕ → ℕ → ℕ → ℕ → ℕ → List (List ℕ) → Option ℕ
beside n m q o p i nets = port_left n o i (network_from m q p i nets) nets

-- how many ports node n has with those on one network more
abbrev pub with_port : ℕ → List ℕ → ℕ → ℕ
with_port n net o = if has_member n net then o + 1 else o

first : (n : ℕ) (nets : List (List ℕ)) (o : Option ℕ) → port_left n 0 0 o nets ≡ port_at n o nets
unfolding port_left
first n nets None = refl
first n nets (Some k) = refl

-- before the first network
pub beside_all : (n m : ℕ) (port : Port) (nets : List (List ℕ)) → beside n m port.0 0 0 0 nets ≡ port_at n (network_at m port nets) nets
unfolding beside
beside_all n m port nets = first n nets (network_at m port nets)

found : (n m o p i : ℕ) (net : List ℕ) (rest : List (List ℕ)) → has_member m net ≡ true → beside n m p o p i (net ∷ rest) ≡
    (if has_member n net then Some o else None)
unfolding beside port_left
found n m o p i net rest is = rw (is, eq-eqb p p refl, eq-eqb i i refl) refl

-- at the network of that port
pub beside_found : (n m q o p i : ℕ) (net : List ℕ) (rest left : List (List ℕ)) (all : Option ℕ) → left ≡ net ∷ rest → has_member m net ≡ true → p ≡ q →
    beside n m q o p i left ≡ all → (if has_member n net then Some o else None) ≡ all
beside_found n m q o p i net rest left all here is at before =
    sym (found n m o p i net rest is) ∙ ap (λ l. beside n m p o p i l) (sym here) ∙ subst (λ r. beside n m r o p i left ≡ all) (sym at) before

-- the networks that are left begin with the next one
pub next_net : (nets : List (List ℕ)) (i : ℕ) (net : List ℕ) → i < length nets → get_or nets i net ≡ net → drop i nets ≡ net ∷ drop (i + 1) nets
next_net nets i net inside is = drop_more nets i net inside ∙ ap (λ h. h ∷ drop (i + 1) nets) is

counted : (n k o i : ℕ) (rest : List (List ℕ)) (b : Bool) → (if b then port_from n k (o + 1) (i + 1) rest else port_from n k o (i + 1) rest) ≡
    port_from n k (if b then o + 1 else o) (i + 1) rest
counted n k o i rest true = refl
counted n k o i rest false = refl

passed : (n m q o p i : ℕ) (net : List ℕ) (rest : List (List ℕ)) (r : Option ℕ) → network_from m q p (i + 1) rest ≡ r → port_left n o i r (net ∷ rest) ≡
    port_left n (with_port n net o) (i + 1) r rest
unfolding port_left
passed n m q o p i net rest None is = refl
passed n m q o p i net rest (Some k) is =
    let place = (on_network m q k p (i + 1) rest is).place in
    let later : (i == k) ≡ false = ne_eqb i k (λ e. absurd (omega (arith, e, place))) in
    rw later (counted n k o i rest (has_member n net))

-- past a network on which m has another port
pub beside_other : (n m q o p i : ℕ) (net : List ℕ) (rest : List (List ℕ)) → has_member m net ≡ true → (p == q) ≡ false → beside n m q o p i (net ∷ rest) ≡
    beside n m q (with_port n net o) (p + 1) (i + 1) rest
unfolding beside
beside_other n m q o p i net rest is other = rw (is, other) (passed n m q o (p + 1) i net rest (network_from m q (p + 1) (i + 1) rest) refl)

-- past a network on which m isn't
pub beside_past : (n m q o p i : ℕ) (net : List ℕ) (rest : List (List ℕ)) → has_member m net ≡ false → beside n m q o p i (net ∷ rest) ≡
    beside n m q (with_port n net o) p (i + 1) rest
unfolding beside
beside_past n m q o p i net rest isnt = rw isnt (passed n m q o p i net rest (network_from m q p (i + 1) rest) refl)

-- after the last network
pub beside_none : (n m q o p i : ℕ) → beside n m q o p i [] ≡ None
unfolding beside port_left
beside_none n m q o p i = refl
