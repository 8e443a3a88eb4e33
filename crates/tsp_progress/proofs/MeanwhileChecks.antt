-- What is so of a port meanwhile, as a computation over a history.
use Rattle.std.proofs.Common.{sym, subst, true≢false, inl, inr, ◌≡◌, ◌≤◌, ℕ, ◌+◌, ◌==◌, ◌&&◌, ◌||◌, not, nat_le, Bool, true, false, List, [], ◌∷◌, length}
use Rattle.std.proofs.Common.{eq-eqb, eqb-true, le-leb, refl}
use Rattle.std.proofs.lemmas.Bool.{and_parts}
use Rattle.tsp_rules.specs.Values.{PeerId, Role, Follow}
use Rattle.tsp_rules.specs.GateRows.{steers}
use Rattle.tsp_base.specs.Words.{HeaderValue, Line, Past, Within, of, peer_of}
use Rattle.tsp_base.proofs.PlaceLemmas.{Within_length}
use Rattle.tsp_promises.specs.{Fits.node_of, Setting.Setting}
use Rattle.tsp_progress.specs.{AnswersInTime.Meanwhile, ByTable.before_line, ByTable.node_in, ByTable.port_before, Heeds.role_before, Obedient.Obedient}

-- a line of this node, after so many others, by this true time
abbrev is_meant : ℕ → ℕ → ℕ → Line → List Line → Bool
is_meant n first by line before = nat_le first (length before) && ((node_of line == n) && nat_le line.did.step.at by)

-- this is so of each of them
abbrev pub all_meant : ℕ → ℕ → ℕ → (Line → List Line → Bool) → List Line → Bool
all_meant n first by test [] = true
all_meant n first by test (line ∷ before) = (not (is_meant n first by line before) || test line before) && all_meant n first by test before

or_not : (a b : Bool) → a ≡ true → (not a || b) ≡ true → b ≡ true
or_not true b e f = f
or_not false b e f = absurd (true≢false (sym e))

meant_at : (n first by : ℕ) (test : Line → List Line → Bool) (world : List Line) (line : Line) (before : List Line) → all_meant n first by test world ≡ true →
    Within (line ∷ before) world → is_meant n first by line before ≡ true → test line before ≡ true
meant_at n first by test [] line before all w m = let bad : ⊥ = cc in absurd bad
meant_at n first by test (k ∷ rest) line before all (inl same) m =
    let own : (not (is_meant n first by line before) || test line before) ≡ true = subst (λ (ls : List Line). at ls) (sym same)
    (and_parts (not (is_meant n first by k rest) || test k rest) (all_meant n first by test rest) all).0 in
    or_not (is_meant n first by line before) (test line before) m own
  where
    at : List Line → Type 0
    at [] = Unit {0}
    at (j ∷ js) = (not (is_meant n first by j js) || test j js) ≡ true
meant_at n first by test (k ∷ rest) line before all (inr w) m = meant_at n first by test rest line before
    ((and_parts (not (is_meant n first by k rest) || test k rest) (all_meant n first by test rest) all).1) w m

is_meant_holds : (n long : ℕ) (l : Line) (older : List Line) (line : Line) (before : List Line) → Within (l ∷ older) before → node_of line ≡ n →
    line.did.step.at ≤ l.did.step.at + long → is_meant n (length (l ∷ older)) (l.did.step.at + long) line before ≡ true
is_meant_holds n long l older line before later node soon =
    let first = le-leb (length (l ∷ older)) (length before) (Within_length (l ∷ older) before later) in
    let own = eq-eqb (node_of line) n node in
    let by = le-leb line.did.step.at (l.did.step.at + long) soon in
    rw (first, own, by) refl

pub meanwhile_by : (header : HeaderValue) (setting : Setting) (long : ℕ) (l : Line) (older world : List Line) (p : PeerId) (test : ℕ → Past → Bool) →
    all_meant p.0 (length (l ∷ older)) (l.did.step.at + long) (λ line before. test line.did.tick (port_before (node_in header p.0) line (of p.0 before))) world
    ≡
    true → Meanwhile header setting long l older world p test
meanwhile_by header setting long l older world p test all line before place later node net soon =
    meant_at p.0 (length (l ∷ older)) (l.did.step.at + long) (λ line before. test line.did.tick (port_before (node_in header p.0) line (of p.0 before))) world
    line
    before all place (is_meant_holds p.0 long l older line before later node soon)

abbrev follows_node : ℕ → Role → Bool
follows_node n (Follow q) = q.0 == n
follows_node n _ = false

follows_node_holds : (n : ℕ) (r : Role) → follows_node n r ≡ true → r ≡ Follow (peer_of n)
follows_node_holds n (Follow q) e = let same : q.0 ≡ n = eqb-true q.0 n e in rw (sym same) refl
follows_node_holds n _ e = absurd (true≢false (sym e))

abbrev pub obeys_at : HeaderValue → ℕ → PeerId → (ℕ → Past → Bool) → Line → List Line → Bool
obeys_at header n p takes line before =
    follows_node n (role_before (node_in header p.0) line (of p.0 before)) &&
    (steers line.port line.did.tick (before_line (node_in header p.0) line (of p.0 before)) &&
    takes line.did.tick (port_before (node_in header p.0) line (of p.0 before)))

pub obedient_by : (header : HeaderValue) (setting : Setting) (long : ℕ) (l : Line) (older world : List Line) (p : PeerId) (takes : ℕ → Past → Bool) →
    all_meant p.0 (length (l ∷ older)) (l.did.step.at + long) (obeys_at header (node_of l) p takes) world ≡ true →
    Obedient header setting long l older world p takes
obedient_by header setting long l older world p takes all line before place later node net soon =
    let here = meant_at p.0 (length (l ∷ older)) (l.did.step.at + long) (obeys_at header (node_of l) p takes) world line before all place
    (is_meant_holds p.0 long l older line before later node soon) in
    let one = and_parts (follows_node (node_of l) (role_before (node_in header p.0) line (of p.0 before)))
    (steers line.port line.did.tick (before_line (node_in header p.0) line (of p.0 before)) &&
    takes line.did.tick (port_before (node_in header p.0) line (of p.0 before))) here in
    let two = and_parts (steers line.port line.did.tick (before_line (node_in header p.0) line (of p.0 before)))
    (takes line.did.tick (port_before (node_in header p.0) line (of p.0 before))) one.1 in
    (follows_node_holds (node_of l) (role_before (node_in header p.0) line (of p.0 before)) one.0, (two.0, two.1))
