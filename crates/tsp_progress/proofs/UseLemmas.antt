-- The header of small runs, and the ranges of their events.
use Rattle.std.proofs.Common.{sym, ap, arith, true≢false, ◌∙◌, ◌≡◌, ◌<◌, ℕ, ◌==◌, pos, Bool, true, false, All, List, [], ◌∷◌, ◌++◌}
use Rattle.std.proofs.Common.{refl}
use Rattle.std.proofs.lemmas.List.Elements.{All-nil, All-cons, All-contains}
use Rattle.tsp_rules.specs.Values.{BootAt, Event, Turn, Take, NodeLine}
use Rattle.tsp_base.specs.Words.{IsHeader, IsName, IsNet, KeepsDrift, first_port, is_among, peer_of}
use Rattle.tsp_promises.specs.Setting.{Named, Setting}
use Rattle.tsp_run.specs.{Ranges.IsInRange, Setting.SetBy}
use Rattle.tsp_progress.specs.{OneUse.two_may, TableUse.until_reports, Worked.one_may}

-- b's question to a is one to another member of its network
pub member : (setting : Setting) → SetBy one_may setting → is_among (peer_of 0) (setting.members (setting.net 1 first_port)) ≡ true
member setting set = ap (λ k. is_among (peer_of 0) (setting.members k)) (set.net_is 1 first_port) ∙ ap (is_among (peer_of 0)) (set.members_are (Named 0))

-- a name of one letter
one_letter : (c : ℕ) → (0 == c) ≡ false → IsName (c ∷ [])
one_letter c e = record {
  short = omega arith;
  no_nul = λ k. true≢false (All-contains (λ x. (0 == x) ≡ false) (c ∷ []) 0 (All-cons (λ x. (0 == x) ≡ false) c [] e (All-nil (λ x. (0 == x) ≡ false))) k);
}

-- a node without drift that has it
pub keeps : (c : ℕ) (may : Bool) → (0 == c) ≡ false → KeepsDrift 0 (record { name = c ∷ []; rate = pos 0; wall = pos 0; may = may })
keeps c may e = record { name = one_letter c e; rate = omega arith; wall = omega arith }

abbrev pub node_a : NodeLine
node_a = record { name = 97 ∷ []; rate = pos 0; wall = pos 0; may = true }

abbrev node_b : NodeLine
node_b = record { name = 98 ∷ []; rate = pos 0; wall = pos 0; may = false }

pub header_is : IsHeader one_may
header_is = record {
  small = omega arith;
  few = omega arith;
  kept = All-cons (KeepsDrift 0) (node_a) (node_b ∷ []) (keeps 97 true refl) (All-cons (KeepsDrift 0) node_b [] (keeps 98 false refl) (All-nil (KeepsDrift 0)));
  few_nets = omega arith;
  nets_are = All-nil (IsNet 2);
  few_ports = λ n. omega arith;
}

-- where both may be master
abbrev pub node_b_may : NodeLine
node_b_may = record { name = 98 ∷ []; rate = pos 0; wall = pos 0; may = true }

pub two_header_is : IsHeader two_may
two_header_is = record {
  small = omega arith;
  few = omega arith;
  kept = All-cons (KeepsDrift 0) node_a (node_b_may ∷ []) (keeps 97 true refl)
      (All-cons (KeepsDrift 0) node_b_may [] (keeps 98 true refl) (All-nil (KeepsDrift 0)));
  few_nets = omega arith;
  nets_are = All-nil (IsNet 2);
  few_ports = λ n. omega arith;
}

-- both boot at once, b with a word in its range
pub boot_ranges : (word : ℕ) → word < 18446744073709551616 → All IsInRange (BootAt 0 1 word ∷ BootAt 0 0 0 ∷ [])
boot_ranges word small = All-cons IsInRange (BootAt 0 1 word) (BootAt 0 0 0 ∷ []) (omega (arith, small)) (All-cons IsInRange (BootAt 0 0 0) [] (omega arith)
    (All-nil IsInRange))

pub ranges : All IsInRange until_reports
ranges = All-cons IsInRange (Take 390020000 6) (Take 390010000 5 ∷ Turn 390000000 1 ∷ Turn 390000000 0 ∷ Turn 388000000 0 ∷ Turn 387000000 0 ∷
    Turn 386000000 0 ∷ Turn 385000000 0 ∷ BootAt 310000000 1 0 ∷ Turn 85000000 0 ∷ Turn 80000000 0 ∷ BootAt 0 0 0 ∷
    []) tt (All-cons IsInRange (Take 390010000 5) (Turn 390000000 1 ∷ Turn 390000000 0 ∷ Turn 388000000 0 ∷ Turn 387000000 0 ∷ Turn 386000000 0 ∷
    Turn 385000000 0 ∷ BootAt 310000000 1 0 ∷ Turn 85000000 0 ∷ Turn 80000000 0 ∷ BootAt 0 0 0 ∷
    []) tt (All-cons IsInRange (Turn 390000000 1) (Turn 390000000 0 ∷ Turn 388000000 0 ∷ Turn 387000000 0 ∷ Turn 386000000 0 ∷ Turn 385000000 0 ∷
    BootAt 310000000 1 0 ∷ Turn 85000000 0 ∷ Turn 80000000 0 ∷ BootAt 0 0 0 ∷ []) tt (All-cons IsInRange (Turn 390000000 0) (Turn 388000000 0 ∷
    Turn 387000000 0 ∷ Turn 386000000 0 ∷ Turn 385000000 0 ∷ BootAt 310000000 1 0 ∷ Turn 85000000 0 ∷ Turn 80000000 0 ∷ BootAt 0 0 0 ∷
    []) tt (All-cons IsInRange (Turn 388000000 0) (Turn 387000000 0 ∷ Turn 386000000 0 ∷ Turn 385000000 0 ∷ BootAt 310000000 1 0 ∷ Turn 85000000 0 ∷
    Turn 80000000 0 ∷ BootAt 0 0 0 ∷ []) tt (All-cons IsInRange (Turn 387000000 0) (Turn 386000000 0 ∷ Turn 385000000 0 ∷ BootAt 310000000 1 0 ∷
    Turn 85000000 0 ∷ Turn 80000000 0 ∷ BootAt 0 0 0 ∷ []) tt (All-cons IsInRange (Turn 386000000 0) (Turn 385000000 0 ∷ BootAt 310000000 1 0 ∷
    Turn 85000000 0 ∷ Turn 80000000 0 ∷ BootAt 0 0 0 ∷ []) tt (All-cons IsInRange (Turn 385000000 0) (BootAt 310000000 1 0 ∷ Turn 85000000 0 ∷ Turn 80000000 0 ∷
    BootAt 0 0 0 ∷ []) tt (All-cons IsInRange (BootAt 310000000 1 0) (Turn 85000000 0 ∷ Turn 80000000 0 ∷ BootAt 0 0 0 ∷
    []) (omega arith) (All-cons IsInRange (Turn 85000000 0) (Turn 80000000 0 ∷ BootAt 0 0 0 ∷ []) tt (All-cons IsInRange (Turn 80000000 0) (BootAt 0 0 0 ∷
    []) tt (All-cons IsInRange (BootAt 0 0 0) ([]) (omega arith) (All-nil IsInRange))))))))))))

-- whether these events are turns and takes alone
abbrev pub are_plain : List Event → Bool
are_plain [] = true
are_plain (Take at k ∷ rest) = are_plain rest
are_plain (Turn at node ∷ rest) = are_plain rest
are_plain _ = false

-- the ranges of such events after others
pub later_ranges : (later before : List Event) → are_plain later ≡ true → All IsInRange before → All IsInRange (later ++ before)
later_ranges [] before e all = all
later_ranges (Take at k ∷ rest) before e all = All-cons IsInRange (Take at k) (rest ++ before) tt (later_ranges rest before e all)
later_ranges (Turn at node ∷ rest) before e all = All-cons IsInRange (Turn at node) (rest ++ before) tt (later_ranges rest before e all)
later_ranges _ before e all = absurd (true≢false (sym e))
