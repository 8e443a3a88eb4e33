-- Lists of a node's ports.
use Rattle.std.proofs.Common.{sym, subst, arith, true≢false, eqb-true, eq-eqb, ◌∙◌, ◌≡◌, ◌≢◌, ◌≤◌, ◌<◌, ℕ, ◌+◌, ◌==◌, ◌||◌, not, Bool, true, false}
use Rattle.std.proofs.Common.{if◌then◌else◌, List, [], ◌∷◌, length, filter, refl}
use Rattle.tsp_rules.specs.{GateRows.ports_from, GateRows.other_ports, NodeRows.PortSetup, NodeRows.NodePast, Values.Port}
use Rattle.std.proofs.lemmas.Bool.Decides.{nat_tests}
use Rattle.tsp_base.specs.Words.{sets_date}
use Rattle.tsp_rules.proofs.BuiltAll.{EachPort, OtherPorts, PortsOf, StirredPorts}

-- whether r is one of these
abbrev pub listed : Port → List Port → Bool
listed r [] = false
listed r (q ∷ rest) = (q.0 == r.0) || listed r rest

-- each is one of the first n
abbrev pub Ranged : ℕ → List Port → Type 0
Ranged n [] = Unit {0}
Ranged n (q ∷ rest) = (q.0 < n) × Ranged n rest

-- none is q
abbrev pub Others : Port → List Port → Type 0
Others q [] = Unit {0}
Others q (r ∷ rest) = ((q.0 == r.0) ≡ false) × Others q rest

pub ranged_from : (n k : ℕ) (setups : List PortSetup) → k + length setups ≤ n → Ranged n (ports_from k setups)
ranged_from n k [] le = tt
ranged_from n k (s ∷ rest) le = (omega (arith, le), ranged_from n (k + 1) rest (omega (arith, le)))

pub listed_from : (r : Port) (k : ℕ) (setups : List PortSetup) → k ≤ r.0 → r.0 < k + length setups → listed r (ports_from k setups) ≡ true
listed_from r k [] le lt = let bad : ⊥ = omega (arith, le, lt) in absurd bad
listed_from r k (s ∷ rest) le lt = by_case (λ more. listed_from r (k + 1) rest more (omega (arith, lt))) (k == r.0) refl where
  by_case : (k + 1 ≤ r.0 → listed r (ports_from (k + 1) rest) ≡ true) → (b : Bool) → (k == r.0) ≡ b → ((k == r.0) || listed r (ports_from (k + 1) rest)) ≡ true
  by_case more true e = rw e refl
  by_case more false e =
      let other : k ≢ r.0 = λ same. true≢false (sym (eq-eqb k r.0 same) ∙ e) in
      rw e (more (omega (arith, le, other)))

pub port_swap : (q r : Port) (c : Bool) → (q.0 == r.0) ≡ c → (r.0 == q.0) ≡ c
port_swap q r c e = grind (arith, nat_tests)

without : Port → List Port → List Port
without q ports = filter (λ r. not (r.0 == q.0)) ports

ranged_without : (n : ℕ) (q : Port) (ports : List Port) → Ranged n ports → Ranged n (without q ports)
unfolding without
ranged_without n q [] h = tt
ranged_without n q (r ∷ rest) h = by_case (ranged_without n q rest h.1) (r.0 == q.0) where
  by_case : Ranged n (without q rest) → (b : Bool) → Ranged n (if not b then r ∷ without q rest else without q rest)
  by_case more true = more
  by_case more false = (h.0, more)

others_without : (q : Port) (ports : List Port) → Others q (without q ports)
unfolding without
others_without q [] = tt
others_without q (r ∷ rest) = by_case (others_without q rest) (r.0 == q.0) refl where
  by_case : Others q (without q rest) → (b : Bool) → (r.0 == q.0) ≡ b → Others q (if not b then r ∷ without q rest else without q rest)
  by_case more true e = more
  by_case more false e = (port_swap r q false e, more)

listed_without : (q r : Port) (ports : List Port) → (q.0 == r.0) ≡ false → listed r ports ≡ true → listed r (without q ports) ≡ true
unfolding without
listed_without q r [] n h = h
listed_without q r (s ∷ rest) n h = by_case (λ k. listed_without q r rest n k) (s.0 == q.0) refl (s.0 == r.0) refl where
  by_case : (listed r rest ≡ true → listed r (without q rest) ≡ true) → (b : Bool) → (s.0 == q.0) ≡ b → (c : Bool) → (s.0 == r.0) ≡ c →
      listed r (if not b then s ∷ without q rest else without q rest) ≡ true
  by_case more true e true f =
      let same : s.0 ≡ q.0 = eqb-true s.0 q.0 e in
      let bad : (q.0 == r.0) ≡ true = subst (λ n. (n == r.0) ≡ true) same f in
      absurd (true≢false (sym bad ∙ n))
  by_case more true e false f = more (subst (λ c. (c || listed r rest) ≡ true) f h)
  by_case more false e true f = rw f refl
  by_case more false e false f = rw f (more (subst (λ c. (c || listed r rest) ≡ true) f h))

-- the other ports of a node
pub other_ranged : (q : Port) (past : NodePast) → Ranged (length past.ports) (other_ports q past)
unfolding without
other_ranged q past = ranged_without (length past.ports) q (ports_from 0 past.ports) (ranged_from (length past.ports) 0 past.ports (omega arith))

each_ranged : (past : NodePast) → Ranged (length past.ports) (ports_from 0 past.ports)
each_ranged past = ranged_from (length past.ports) 0 past.ports (omega arith)

-- so is each that a row goes through
pub listed_ranged : {ports : NodePast → List Port} (past : NodePast) → PortsOf ports → Ranged (length past.ports) (ports past)
listed_ranged past EachPort = each_ranged past
listed_ranged past (OtherPorts q) = other_ranged q past
listed_ranged past (StirredPorts q kind) = elim (sets_date kind) as (λ b. Ranged (length past.ports) (if b then ports_from 0 past.ports else other_ports q
    past)) [ true ↦ each_ranged past | false ↦ other_ranged q past ]

pub other_others : (q : Port) (past : NodePast) → Others q (other_ports q past)
unfolding without
other_others q past = others_without q (ports_from 0 past.ports)

pub other_listed : (q r : Port) (past : NodePast) → (q.0 == r.0) ≡ false → r.0 < length past.ports → listed r (other_ports q past) ≡ true
unfolding without
other_listed q r past n has = listed_without q r (ports_from 0 past.ports) n (listed_from r 0 past.ports (omega arith) (omega (arith, has)))

-- q isn't one of them
pub unlisted : (q : Port) (ports : List Port) → Others q ports → listed q ports ≡ false
unlisted q [] h = refl
unlisted q (r ∷ rest) h = let no = port_swap q r false h.0 in rw no (unlisted q rest h.1)
