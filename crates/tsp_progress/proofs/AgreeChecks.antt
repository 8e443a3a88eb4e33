-- That a master of two nodes keeps both in its table, and posts and takes nothing else, as a computation.
use Rattle.std.proofs.Common.{sym, ap, subst, arith, true≢false, inl, inr, ◌∙◌, ◌≡◌, ◌≤◌, ℕ, ◌==◌, ◌+ℤ◌, ◌&&◌, ◌||◌, not, nat_le, Bool, true, false}
use Rattle.std.proofs.Common.{ℤ, pos, zero, suc, List, [], ◌∷◌, length, le-leb}
use Rattle.std.proofs.lemmas.{Bool.and_parts, Bool.not-true, Int.ints}
use Rattle.tsp_rules.specs.Values.{Abandon, AdjTime, Good, Kind, Message, Peer, Post, SetTime, Took}
use Rattle.tsp_rules.specs.Guards.{is_clock_value}
use Rattle.tsp_base.specs.Words.{Acts, Deed, Line, Within, dids, first_port, in_table, lives, moved, of, peer_of, sets_date, target, tick_at, time_in}
use Rattle.tsp_base.specs.Words.{view}
use Rattle.tsp_base.proofs.PlaceLemmas.{Within_length}
use Rattle.tsp_promises.specs.{ClockAt.clock_at, Fits.node_of, Setting.Setting}
use Rattle.tsp_run.specs.{Setting.SetBy, Setup.node_line}
use Rattle.tsp_progress.specs.{FollowOn.AfterPlace, FollowUse.two_stay, InTable.GivesUpNone, InTable.InTable, InTable.KeepsRange, InTable.SetsNone}
use Rattle.tsp_progress.specs.{InTable.Undated, OneUse.two_may}

or_yes : (a b : Bool) → a ≡ true → (not a || b) ≡ true → b ≡ true
or_yes true b e f = f
or_yes false b e f = absurd (true≢false (sym e))

-- a test of each line from a place of this length on
abbrev pub all_after : (Line → List Line → Bool) → ℕ → List Line → Bool
all_after test first [] = true
all_after test first (l ∷ older) = (not (nat_le first (length older)) || test l older) && all_after test first older

after_at : (test : Line → List Line → Bool) (first : ℕ) (h : List Line) → all_after test first h ≡ true → (l : Line) (older : List Line) →
    Within (l ∷ older) h → first ≤ length older → test l older ≡ true
after_at test first [] e l older w le = let bad : ⊥ = cc in absurd bad
after_at test first (k ∷ rest) e l older (inr w) le = after_at test first rest
    (and_parts (not (nat_le first (length rest)) || test k rest) (all_after test first rest) e).1 l older w le
after_at test first (k ∷ rest) e l older (inl same) le =
    let at = (and_parts (not (nat_le first (length rest)) || test k rest) (all_after test first rest) e).0 in
    let line : k ≡ l = cc in
    let tail : rest ≡ older = cc in
    let here : (not (nat_le first (length older)) || test l older) ≡ true = subst (λ z. (not (nat_le first (length z)) || test l z) ≡ true) tail
    (subst (λ z. (not (nat_le first (length rest)) || test z rest) ≡ true) line at) in
    or_yes (nat_le first (length older)) (test l older) (le-leb first (length older) le) here

after_by : (test : Line → List Line → Bool) (s world : List Line) → all_after test (length s) world ≡ true → AfterPlace s world (λ l older. test l older ≡ true)
after_by test s world e l older w v = after_at test (length s) world e l older w (Within_length s older v)

abbrev is_set : Kind → Bool
is_set SetTime = true
is_set _ = false

abbrev is_adjust : Kind → Bool
is_adjust AdjTime = true
is_adjust _ = false

-- no SETTIME is posted, no date is taken, and no round is given up
abbrev quiet_deed : Deed → Bool
quiet_deed (Acts (Post (Peer p) (Message m))) = not (is_set m.kind)
quiet_deed (Acts (Took from (Good (Message m)))) = not (sets_date m.kind)
quiet_deed (Acts Abandon) = false
quiet_deed _ = true

abbrev pub quiet_line : Line → List Line → Bool
quiet_line l older = quiet_deed l.did.deed

pub sets_by : (s world : List Line) → all_after quiet_line (length s) world ≡ true → SetsNone 0 s world
sets_by s world e l older w v node p m is kind =
    true≢false (sym (after_by quiet_line s world e l older w v) ∙ (ap quiet_deed is ∙ ap (λ k. not (is_set k)) kind))

pub undated_by : (s world : List Line) → all_after quiet_line (length s) world ≡ true → Undated 0 s world
undated_by s world e l older w v node from m is = not-true (sets_date m.kind) (sym (ap quiet_deed is) ∙ after_by quiet_line s world e l older w v)

pub gives_by : (s world : List Line) → all_after quiet_line (length s) world ≡ true → GivesUpNone 0 s world
gives_by s world e l older w v node is = true≢false (sym (after_by quiet_line s world e l older w v) ∙ ap quiet_deed is)

-- the clocks stay in their range
abbrev moves_in : ℤ → Deed → Bool
moves_in z (Acts (Took from (Good (Message m)))) = not (is_adjust m.kind) || is_clock_value (z +ℤ time_in m.body)
moves_in z _ = true

abbrev pub range_line : Line → List Line → Bool
range_line l older = is_clock_value (target (dids (of (node_of l) older)) l.did.tick) && moves_in (target (dids (of (node_of l) older)) l.did.tick) l.did.deed

pub range_by : (s world : List Line) → all_after range_line (length s) world ≡ true → KeepsRange s world
range_by s world e = record {
  now = λ l older w v. (both l older w v).0;
  moved = λ l older w v from m is kind.
      let here = sym (ap (moves_in (target (dids (of (node_of l) older)) l.did.tick)) is) ∙ (both l older w v).1 in
      or_yes (is_adjust m.kind) (is_clock_value (target (dids (of (node_of l) older)) l.did.tick +ℤ time_in m.body)) (ap is_adjust kind) here;
} where
  both : (l : Line) (older : List Line) → Within (l ∷ older) world → Within s older →
      (is_clock_value (target (dids (of (node_of l) older)) l.did.tick) ≡ true) × (moves_in (target (dids (of (node_of l) older)) l.did.tick) l.did.deed ≡ true)
  both l older w v = and_parts (is_clock_value (target (dids (of (node_of l) older)) l.did.tick))
      (moves_in (target (dids (of (node_of l) older)) l.did.tick) l.did.deed) (after_by range_line s world e l older w v)

-- the second node is in the first one's table, from a place of this length on
abbrev table_here : List Line → Bool
table_here h = in_table (peer_of 1) (view first_port (of 0 h))

abbrev pub table_from : ℕ → List Line → Bool
table_from first [] = not (nat_le first 0)
table_from first (l ∷ older) = (not (nat_le first (length (l ∷ older))) || table_here (l ∷ older)) && table_from first older

table_at : (first : ℕ) (world : List Line) → table_from first world ≡ true → (h : List Line) → Within h world → first ≤ length h → table_here h ≡ true
table_at first [] e h w le = absurd (true≢false (sym e ∙ ap not (le-leb first 0 (let len = ap (λ (z : List Line). length z) w in omega (arith, le, len)))))
table_at first (l ∷ older) e h (inr w) le = table_at first older
    (and_parts (not (nat_le first (length (l ∷ older))) || table_here (l ∷ older)) (table_from first older) e).1 h w le
table_at first (l ∷ older) e h (inl same) le =
    let at = (and_parts (not (nat_le first (length (l ∷ older))) || table_here (l ∷ older)) (table_from first older) e).0 in
    let here : (not (nat_le first (length h)) || table_here h) ≡ true = subst (λ (z : List Line). (not (nat_le first (length z)) || table_here z) ≡ true)
    (sym same) at in
    or_yes (nat_le first (length h)) (table_here h) (le-leb first (length h) le) here

pub table_by : (t : ℕ) (s world : List Line) → table_from (length s) world ≡ true → InTable two_stay 0 t s world
table_by t s world e h w v le n there other = by_node n there other (table_at (length s) world e h w (Within_length s h v)) where
  by_node : (n : ℕ) → two_stay n ≡ true → (n == 0) ≡ false → table_here h ≡ true → in_table (peer_of n) (view first_port (of 0 h)) ≡ true
  by_node zero there other k = absurd (true≢false other)
  by_node (suc zero) there other k = k
  by_node (suc (suc n)) there other k = absurd (true≢false (sym there))

-- what two clocks show, by what moved them
pub clock_is : (setting : Setting) → SetBy two_may setting → (n : ℕ) (h : List Line) (x : ℕ) → clock_at setting n h x ≡
    ((node_line two_may n).wall +ℤ moved (dids (of n h))) +ℤ pos (tick_at (node_line two_may n).rate x)
clock_is setting set n h x =
    ap (λ w. (w +ℤ moved (dids (of n h))) +ℤ pos (setting.tick n x)) (set.wall_is n (lives (dids (of n h)))) ∙
    ap (λ k. ((node_line two_may n).wall +ℤ moved (dids (of n h))) +ℤ pos k) (set.tick_is n x)

apart_by : (m0 m1 : ℤ) (x : ℕ) (d : ℤ) → m0 ≡ m1 +ℤ d → (pos 0 +ℤ m0) +ℤ pos x ≡ ((pos 0 +ℤ m1) +ℤ pos x) +ℤ d
apart_by m0 m1 x d e = omega (arith, ints, e)

pub clocks_apart : (setting : Setting) → SetBy two_may setting → (h : List Line) (x : ℕ) (m0 m1 d : ℤ) → moved (dids (of 0 h)) ≡ m0 →
    moved (dids (of 1 h)) ≡ m1 → m0 ≡ m1 +ℤ d → clock_at setting 0 h x ≡ clock_at setting 1 h x +ℤ d
clocks_apart setting set h x m0 m1 d e f g =
    (clock_is setting set 0 h x ∙ ap (λ z. (pos 0 +ℤ z) +ℤ pos (tick_at (pos 0) x)) e) ∙ (apart_by m0 m1 (tick_at (pos 0) x) d g ∙
    ap (λ z. z +ℤ d) (sym (clock_is setting set 1 h x ∙ ap (λ z. (pos 0 +ℤ z) +ℤ pos (tick_at (pos 0) x)) f)))

pub clocks_same : (setting : Setting) → SetBy two_may setting → (h : List Line) (x : ℕ) (m : ℤ) → moved (dids (of 0 h)) ≡ m → moved (dids (of 1 h)) ≡ m →
    clock_at setting 0 h x ≡ clock_at setting 1 h x
clocks_same setting set h x m e f =
    (clock_is setting set 0 h x ∙ ap (λ z. (pos 0 +ℤ z) +ℤ pos (tick_at (pos 0) x)) e) ∙
    sym (clock_is setting set 1 h x ∙ ap (λ z. (pos 0 +ℤ z) +ℤ pos (tick_at (pos 0) x)) f)
