-- That no node of two is master from a place on, as a computation.
use Rattle.std.proofs.Common.{sym, ap, subst, true≢false, inl, inr, ◌∙◌, ◌≡◌, ◌≢◌, ◌≤◌, ℕ, zero, suc, ◌&&◌, ◌||◌, not, nat_le, Bool, true, false, List, []}
use Rattle.std.proofs.Common.{◌∷◌, length, le-leb}
use Rattle.std.proofs.lemmas.Bool.{and_parts, not-true}
use Rattle.tsp_rules.specs.Values.{Master}
use Rattle.tsp_rules.specs.Guards.{is_master}
use Rattle.tsp_base.specs.Words.{Line, Within, dids, time_of}
use Rattle.tsp_base.proofs.PlaceLemmas.{Within_length}
use Rattle.tsp_progress.specs.{FollowOn.role_of, FollowUse.two_stay, Headless.Headless}

abbrev leads_none : List Line → Bool
leads_none h = not (is_master (role_of 0 h)) && not (is_master (role_of 1 h))

-- nobody leads at any place of so many lines or more, until the true time t
abbrev pub all_headless : ℕ → ℕ → List Line → Bool
all_headless first t [] = not (nat_le first 0)
all_headless first t (l ∷ before) = (not (nat_le first (length (l ∷ before)) && nat_le l.did.step.at t) || leads_none (l ∷ before)) && all_headless first t
    before

either_none : (a b c : Bool) → a ≡ true → b ≡ true → (not (a && b) || c) ≡ true → c ≡ true
either_none true true c e f h = h
either_none true false c e f h = absurd (true≢false (sym f))
either_none false b c e f h = absurd (true≢false (sym e))

none_master : (h : List Line) → leads_none h ≡ true → (n : ℕ) → two_stay n ≡ true → role_of n h ≢ Master
none_master h e zero there is = true≢false (sym (ap is_master is) ∙
    not-true (is_master (role_of 0 h)) (and_parts (not (is_master (role_of 0 h))) (not (is_master (role_of 1 h))) e).0)
none_master h e (suc zero) there is = true≢false (sym (ap is_master is) ∙
    not-true (is_master (role_of 1 h)) (and_parts (not (is_master (role_of 0 h))) (not (is_master (role_of 1 h))) e).1)
none_master h e (suc (suc n)) there is = true≢false (sym there)

pub headless_by : (t : ℕ) (s world : List Line) → all_headless (length s) t world ≡ true → Headless two_stay t s world
headless_by t s [] e h place since until n there =
    let few : nat_le (length s) 0 ≡ true = le-leb (length s) 0 (Within_length s [] (subst (λ b. Within s b) place since)) in
    absurd (true≢false (sym e ∙ ap not few))
headless_by t s (l ∷ rest) e h (inr w) since until n there =
    headless_by t s rest (and_parts (not (nat_le (length s) (length (l ∷ rest)) && nat_le l.did.step.at t) || leads_none (l ∷ rest))
    (all_headless (length s) t rest) e).1 h w since until n there
headless_by t s (l ∷ rest) e h (inl same) since until n there =
    let both = and_parts (not (nat_le (length s) (length (l ∷ rest)) && nat_le l.did.step.at t) || leads_none (l ∷ rest)) (all_headless (length s) t rest) e in
    let many : nat_le (length s) (length (l ∷ rest)) ≡ true = le-leb (length s) (length (l ∷ rest)) (Within_length s (l ∷ rest)
    (subst (λ b. Within s b) same since)) in
    let soon : nat_le l.did.step.at t ≡ true = le-leb l.did.step.at t (subst (λ b. time_of (dids b) ≤ t) same until) in
    let none = either_none (nat_le (length s) (length (l ∷ rest))) (nat_le l.did.step.at t) (leads_none (l ∷ rest)) many soon both.0 in
    subst (λ b. role_of n b ≢ Master) (sym same) (none_master (l ∷ rest) none n there)
