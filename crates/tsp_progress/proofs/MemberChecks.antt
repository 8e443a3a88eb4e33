-- That clocks are in their range, as a computation.
use Rattle.std.proofs.Common.{sym, ap, subst, true≢false, inl, inr, ◌∙◌, ◌≡◌, ◌≤◌, ℕ, ◌+◌, ◌==◌, ◌&&◌, ◌||◌, not, nat_le, Bool, true, false, List, [], ◌∷◌}
use Rattle.std.proofs.Common.{length, if◌then◌else◌, le-leb, eq-eqb, refl}
use Rattle.std.proofs.lemmas.Bool.{and_parts}
use Rattle.tsp_rules.specs.Values.{AdjTime, Kind, Message, Peer, Post}
use Rattle.tsp_rules.specs.{ClockRows.can_adjust, Guards.is_in_range}
use Rattle.tsp_base.specs.Words.{Acts, Deed, HeaderValue, Line, Within, of, time_in}
use Rattle.tsp_base.proofs.PlaceLemmas.{Within_length}
use Rattle.tsp_promises.specs.{Fits.node_of}
use Rattle.tsp_progress.specs.{ByTable.node_in, ByTable.port_before, StaysIn.InRange}

or_yes : (a b : Bool) → a ≡ true → (not a || b) ≡ true → b ≡ true
or_yes true b e f = f
or_yes false b e f = absurd (true≢false (sym e))

-- a test of each line from a place of this length on
abbrev pub all_after : (Line → List Line → Bool) → ℕ → List Line → Bool
all_after test first [] = true
all_after test first (l ∷ older) = (not (nat_le first (length older)) || test l older) && all_after test first older

after_is : (test : Line → List Line → Bool) (first : ℕ) (h : List Line) → all_after test first h ≡ true → (l : Line) (older : List Line) →
    Within (l ∷ older) h → first ≤ length older → test l older ≡ true
after_is test first [] e l older w le = let bad : ⊥ = cc in absurd bad
after_is test first (k ∷ rest) e l older (inr w) le = after_is test first rest
    (and_parts (not (nat_le first (length rest)) || test k rest) (all_after test first rest) e).1 l older w le
after_is test first (k ∷ rest) e l older (inl same) le =
    let at = (and_parts (not (nat_le first (length rest)) || test k rest) (all_after test first rest) e).0 in
    let line : k ≡ l = cc in
    let tail : rest ≡ older = cc in
    let here : (not (nat_le first (length older)) || test l older) ≡ true = subst (λ z. (not (nat_le first (length z)) || test l z) ≡ true) tail
    (subst (λ z. (not (nat_le first (length rest)) || test z rest) ≡ true) line at) in
    or_yes (nat_le first (length older)) (test l older) (le-leb first (length older) le) here

abbrev is_adjtime : Kind → Bool
is_adjtime AdjTime = true
is_adjtime _ = false

-- what an ADJTIME on its way would add
abbrev adds_deed : HeaderValue → Line → List Line → Bool → Deed → Bool
adds_deed header l older soon (Acts (Post (Peer q) (Message m))) =
    if (q.0 == node_of l) && (is_adjtime m.kind && soon)
    then can_adjust (time_in m.body) l.did.tick (port_before (node_in header (node_of l)) l (of (node_of l) older))
    else true
adds_deed header l older soon _ = true

abbrev adds_all : HeaderValue → ℕ → Line → List Line → List Line → Bool
adds_all header long l older [] = true
adds_all header long l older (p ∷ w) = adds_deed header l older (nat_le l.did.step.at (p.did.step.at + long)) p.did.deed && adds_all header long l older w

abbrev pub range_line : HeaderValue → ℕ → Line → List Line → Bool
range_line header long l older =
    is_in_range l.did.tick (port_before (node_in header (node_of l)) l (of (node_of l) older)) && adds_all header long l older older

then_is : (b soon test : Bool) → b ≡ true → soon ≡ true → (if b && soon then test else true) ≡ true → test ≡ true
then_is true true test e f k = k
then_is true false test e f k = absurd (true≢false (sym f))
then_is false soon test e f k = absurd (true≢false (sym e))

adds_at : (header : HeaderValue) (long : ℕ) (l : Line) (older h : List Line) → adds_all header long l older h ≡ true → (post : Line) (before : List Line) →
    Within (post ∷ before) h → adds_deed header l older (nat_le l.did.step.at (post.did.step.at + long)) post.did.deed ≡ true
adds_at header long l older [] e post before w = let bad : ⊥ = cc in absurd bad
adds_at header long l older (p ∷ rest) e post before (inl same) =
    let line : p ≡ post = cc in
    subst (λ (z : Line). adds_deed header l older (nat_le l.did.step.at (z.did.step.at + long)) z.did.deed ≡ true) line
    (and_parts (adds_deed header l older (nat_le l.did.step.at (p.did.step.at + long)) p.did.deed) (adds_all header long l older rest) e).0
adds_at header long l older (p ∷ rest) e post before (inr w) = adds_at header long l older rest
    (and_parts (adds_deed header l older (nat_le l.did.step.at (p.did.step.at + long)) p.did.deed) (adds_all header long l older rest) e).1 post before w

pub range_by : (header : HeaderValue) (long c : ℕ) (s world : List Line) → all_after (range_line header long) (length s) world ≡ true →
    InRange header long c s world
range_by header long c s world e = record {
  clock = λ l older w v. (parts l older w v).0;
  moved = λ l older w v post before m p kind soon.
      let test = can_adjust (time_in m.body) l.did.tick (port_before (node_in header (node_of l)) l (of (node_of l) older)) in
      let near = nat_le l.did.step.at (post.did.step.at + long) in
      let all = sym (ap (adds_deed header l older near) p.deed) ∙ adds_at header long l older older (parts l older w v).1 post before p.place in
      let own : (node_of l == node_of l) ≡ true = eq-eqb (node_of l) (node_of l) refl in
      let adj : is_adjtime m.kind ≡ true = ap is_adjtime kind in
      fits (node_of l == node_of l) (is_adjtime m.kind) near test own adj (le-leb l.did.step.at (post.did.step.at + long) soon) all;
} where
  fits : (a b soon test : Bool) → a ≡ true → b ≡ true → soon ≡ true → (if a && (b && soon) then test else true) ≡ true → test ≡ true
  fits true b soon test e f g k = then_is b soon test f g k
  fits false b soon test e f g k = absurd (true≢false (sym e))

  parts : (l : Line) (older : List Line) → Within (l ∷ older) world → Within s older →
      (is_in_range l.did.tick (port_before (node_in header (node_of l)) l (of (node_of l) older)) ≡ true) × (adds_all header long l older older ≡ true)
  parts l older w v = and_parts (is_in_range l.did.tick (port_before (node_in header (node_of l)) l (of (node_of l) older)))
      (adds_all header long l older older)
      (after_is (range_line header long) (length s) world e l older w (Within_length s older v))
