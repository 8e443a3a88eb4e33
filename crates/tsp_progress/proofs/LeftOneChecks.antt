-- That a port isn't Starting from a place on, and that nobody stands after it, as computations.
use Rattle.std.proofs.Common.{sym, ap, subst, true≢false, inl, inr, ◌∙◌, ◌≡◌, ℕ, ◌&&◌, ◌||◌, not, nat_le, Bool, true, false, List, [], ◌∷◌, length}
use Rattle.std.proofs.Common.{le-leb, refl}
use Rattle.std.proofs.lemmas.Bool.{and_parts, not-true}
use Rattle.tsp_rules.specs.Values.{Become, Port}
use Rattle.tsp_rules.specs.Guards.{is_starting_role}
use Rattle.tsp_base.specs.Words.{Acts, Deed, Line, Within, of, role, view}
use Rattle.tsp_base.proofs.PlaceLemmas.{Within_length}
use Rattle.tsp_progress.specs.{Heeds.is_candidate_role, NoneBeside.StaysUp, OneLeft.Unasked}

abbrev is_up : ℕ → Port → List Line → Bool
is_up n q lines = not (is_starting_role (role (view q (of n lines))))

-- the port isn't Starting at any place of so many lines or more
abbrev all_up : ℕ → ℕ → Port → List Line → Bool
all_up first n q [] = not (nat_le first 0)
all_up first n q (l ∷ before) = (not (nat_le first (length (l ∷ before))) || is_up n q (l ∷ before)) && all_up first n q before

either_up : (a b : Bool) → a ≡ true → (not a || b) ≡ true → b ≡ true
either_up true b e h = h
either_up false b e h = absurd (true≢false (sym e))

pub up_by : (n : ℕ) (q : Port) (s world : List Line) → all_up (length s) n q world ≡ true → StaysUp n q s world
up_by n q s [] e before since place =
    let few : nat_le (length s) 0 ≡ true = le-leb (length s) 0 (Within_length s [] (subst (λ b. Within s b) place since)) in
    absurd (true≢false (sym e ∙ ap not few))
up_by n q s (l ∷ rest) e before since (inr w) = up_by n q s rest (and_parts (not (nat_le (length s) (length (l ∷ rest))) || is_up n q (l ∷ rest))
    (all_up (length s) n q rest) e).1 before since w
up_by n q s (l ∷ rest) e before since (inl same) =
    let both = and_parts (not (nat_le (length s) (length (l ∷ rest))) || is_up n q (l ∷ rest)) (all_up (length s) n q rest) e in
    let many : nat_le (length s) (length (l ∷ rest)) ≡ true = le-leb (length s) (length (l ∷ rest)) (Within_length s (l ∷ rest)
    (subst (λ b. Within s b) same since)) in
    let up = either_up (nat_le (length s) (length (l ∷ rest))) (is_up n q (l ∷ rest)) many both.0 in
    ap (λ ls. is_starting_role (role (view q (of n ls)))) same ∙ not-true (is_starting_role (role (view q (of n (l ∷ rest))))) up

abbrev stands : Deed → Bool
stands (Acts (Become r)) = is_candidate_role r
stands _ = false

-- nobody stands after a place of this length
abbrev none_stands : ℕ → List Line → Bool
none_stands first [] = true
none_stands first (l ∷ older) = not (nat_le first (length older) && stands l.did.deed) && none_stands first older

pub unasked_by : (s world : List Line) → none_stands (length s) world ≡ true → Unasked s world
unasked_by s [] e l older w since is = let bad : ⊥ = cc in absurd bad
unasked_by s (k ∷ rest) e l older (inr w) since is = unasked_by s rest (and_parts (not (nat_le (length s) (length rest) && stands k.did.deed))
    (none_stands (length s) rest) e).1 l older w since is
unasked_by s (k ∷ rest) e l older (inl same) since is =
    let both = and_parts (not (nat_le (length s) (length rest) && stands k.did.deed)) (none_stands (length s) rest) e in
    let line : k ≡ l = cc in
    let tail : rest ≡ older = cc in
    let late : nat_le (length s) (length rest) ≡ true = le-leb (length s) (length rest) (Within_length s rest (subst (λ o. Within s o) (sym tail) since)) in
    let deed : stands k.did.deed ≡ true = ap (λ (j : Line). stands j.did.deed) line ∙ ap stands is in
    let bad : not (nat_le (length s) (length rest) && stands k.did.deed) ≡ false = rw (late, deed) refl in
    absurd (true≢false (sym both.0 ∙ bad))
