-- That one of two nodes alone leads, as a computation.
use Rattle.std.proofs.Common.{sym, ap, subst, arith, true≢false, inl, inr, ◌∙◌, ◌≡◌, ◌≢◌, ◌≤◌, ℕ, ◌==◌, ◌&&◌, ◌||◌, not, nat_le, Bool, true, false}
use Rattle.std.proofs.Common.{zero, suc, List, [], ◌∷◌, length, le-leb}
use Rattle.std.proofs.Common.{pos, refl}
use Rattle.std.proofs.lemmas.List.Elements.{All-nil, All-cons}
use Rattle.std.proofs.lemmas.Bool.{and_parts, not-true}
use Rattle.tsp_rules.specs.Values.{Master, NodeLine}
use Rattle.tsp_rules.specs.Guards.{is_master}
use Rattle.tsp_rules.proofs.GuardFacts.{master_is}
use Rattle.tsp_base.specs.Words.{IsHeader, IsNet, KeepsDrift, Line, Within}
use Rattle.tsp_base.proofs.PlaceLemmas.{Within_length}
use Rattle.tsp_progress.specs.{FollowOn.role_of, FollowUse.two_stay, Gather.LeadUntil, Gather.LeadsOnly}
use Rattle.tsp_progress.specs.{GatherUse.three_may}
use Rattle.tsp_progress.proofs.UseLemmas.{keeps, node_a, node_b_may}

-- from a place of this length on
abbrev pub holds_from : (List Line → Bool) → ℕ → List Line → Bool
holds_from test first [] = not (nat_le first 0)
holds_from test first (l ∷ older) = (not (nat_le first (length (l ∷ older))) || test (l ∷ older)) && holds_from test first older

or_yes : (a b : Bool) → a ≡ true → (not a || b) ≡ true → b ≡ true
or_yes true b e f = f
or_yes false b e f = absurd (true≢false (sym e))

pub holds_at : (test : List Line → Bool) (first : ℕ) (world : List Line) → holds_from test first world ≡ true → (h : List Line) → Within h world →
    first ≤ length h → test h ≡ true
holds_at test first [] e h w le =
    absurd (true≢false (sym e ∙ ap not (le-leb first 0 (let len = ap (λ (z : List Line). length z) w in omega (arith, le, len)))))
holds_at test first (l ∷ older) e h (inr w) le =
    holds_at test first older (and_parts (not (nat_le first (length (l ∷ older))) || test (l ∷ older)) (holds_from test first older) e).1 h w le
holds_at test first (l ∷ older) e h (inl same) le =
    let at = (and_parts (not (nat_le first (length (l ∷ older))) || test (l ∷ older)) (holds_from test first older) e).0 in
    let here : (not (nat_le first (length h)) || test h) ≡ true =
    subst (λ (z : List Line). (not (nat_le first (length z)) || test z) ≡ true) (sym same) at in
    or_yes (nat_le first (length h)) (test h) (le-leb first (length h) le) here

-- the first node is master, and the second isn't
abbrev pub first_leads : List Line → Bool
first_leads h = is_master (role_of 0 h) && not (is_master (role_of 1 h))

leads_is : (h : List Line) → first_leads h ≡ true → LeadsOnly two_stay 0 h
leads_is h e =
    let both = and_parts (is_master (role_of 0 h)) (not (is_master (role_of 1 h))) e in
    record { leads = master_is (role_of 0 h) both.0; alone = λ n there other. by_node n there other (not-true (is_master (role_of 1 h)) both.1) }
  where
    by_node : (n : ℕ) → two_stay n ≡ true → (n == 0) ≡ false → is_master (role_of 1 h) ≡ false → role_of n h ≢ Master
    by_node zero there other k is = true≢false other
    by_node (suc zero) there other k is = true≢false (sym (ap is_master is) ∙ k)
    by_node (suc (suc n)) there other k is = true≢false (sym there)

pub lead_by : (t : ℕ) (s world : List Line) → holds_from first_leads (length s) world ≡ true → LeadUntil two_stay 0 t s world
lead_by t s world e h w v le = leads_is h (holds_at first_leads (length s) world e h w (Within_length s h v))

-- the header of three nodes that may be master
abbrev node_c_may : NodeLine
node_c_may = record { name = 99 ∷ []; rate = pos 0; wall = pos 0; may = true }

pub three_header_is : IsHeader three_may
three_header_is = record {
  small = omega arith;
  few = omega arith;
  kept = All-cons (KeepsDrift 0) node_a (node_b_may ∷ (node_c_may ∷ [])) (keeps 97 true refl)
      (All-cons (KeepsDrift 0) node_b_may (node_c_may ∷ []) (keeps 98 true refl)
      (All-cons (KeepsDrift 0) node_c_may [] (keeps 99 true refl) (All-nil (KeepsDrift 0))));
  few_nets = omega arith;
  nets_are = All-nil (IsNet 3);
  few_ports = λ n. omega arith;
}
