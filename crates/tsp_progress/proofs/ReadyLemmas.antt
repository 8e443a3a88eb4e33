-- A node's last correction, and what a line that doesn't correct it leaves alone.
use Rattle.std.proofs.Common.{sym, ap, arith, inr, ◌∙◌, ◌≡◌, ◌≢◌, ◌≤◌, ◌<◌, ℕ, ◌+◌, ◌%◌, ◌==◌}
use Rattle.std.proofs.Common.{◌||◌, le-leb, Bool, true, false, List, [], ◌∷◌, Option, None, Some, eqb-true, ℤ, int_lt, ◌<ℤ◌, refl}
use Rattle.std.proofs.lemmas.{Int.ints}
use Rattle.tsp_rules.specs.Values.{Boot, Correct, PeerId, Role, Follow, Master, GAP}
use Rattle.tsp_base.specs.Words.{Acts, Deed, Elsewhere, Line, Within, correct_tick}
use Rattle.tsp_base.specs.Words.{dids, first_port, is_past, last_correct, last_taken, last_taken_after, of}
use Rattle.tsp_base.specs.Words.{seen_as, is_shared, taken, ticket, view}
use Rattle.tsp_base.proofs.{PlaceLemmas.Within_all}
use Rattle.tsp_promises.specs.{Fits.node_of}
use Rattle.tsp_promises.proofs.{shared.HistoryPlaces.of_other, shared.HistoryPlaces.of_own}

-- a node's last correction stands in the history
pub record CorrectLine (n y : ℕ) (h : List Line) : Type 0 where
  pub line : Line
  pub before : List Line
  pub place : Within (line ∷ before) h
  pub node : node_of line ≡ n
  pub amount : ℤ
  pub stepped : Bool
  pub shown : ℤ
  pub deed : line.did.deed ≡ Acts (Correct amount stepped shown)
  pub tick : line.did.tick ≡ y

pub some_same : (x y : ℕ) → Some x ≡ Some y → x ≡ y
some_same x y e = ap kept e where
  kept : Option ℕ → ℕ
  kept None = x
  kept (Some z) = z

pub none_some : {A : Type 0} (y : ℕ) → None ≡ Some y → A
none_some y e = let bad : ⊥ = cc in absurd bad

pub correct_line : (n y : ℕ) (h : List Line) → correct_tick (dids (of n h)) ≡ Some y → CorrectLine n y h
correct_line n y [] e = none_some y e
correct_line n y (l ∷ h) e = by_node (node_of l == n) refl (correct_line n y h) where
  later : CorrectLine n y h → CorrectLine n y (l ∷ h)
  later c = record {
    line = c.line;
    before = c.before;
    place = inr c.place;
    node = c.node;
    amount = c.amount;
    stepped = c.stepped;
    shown = c.shown;
    deed = c.deed;
    tick = c.tick;
  }

  by_deed : (deed : Deed) → l.did.deed ≡ deed → node_of l ≡ n → correct_tick (l.did ∷ dids (of n h)) ≡ Some y →
      (correct_tick (dids (of n h)) ≡ Some y → CorrectLine n y h) → CorrectLine n y (l ∷ h)
  by_deed (Acts Boot) is node k older = none_some y (sym (rw is refl) ∙ k)
  by_deed (Acts (Correct amount stepped shown)) is node k older = record {
    line = l;
    before = h;
    place = Within_all (l ∷ h);
    node = node;
    amount = amount;
    stepped = stepped;
    shown = shown;
    deed = is;
    tick = some_same l.did.tick y (sym (let same : correct_tick (l.did ∷ dids (of n h)) ≡ Some l.did.tick = rw is refl in same) ∙ k);
  }
  by_deed _ is node k older = later (older (sym (let same : correct_tick (l.did ∷ dids (of n h)) ≡ correct_tick (dids (of n h)) = rw is refl in same) ∙ k))

  by_node : (b : Bool) → (node_of l == n) ≡ b → (correct_tick (dids (of n h)) ≡ Some y → CorrectLine n y h) → CorrectLine n y (l ∷ h)
  by_node true same older = by_deed l.did.deed refl (eqb-true (node_of l) n same)
      (ap (λ ls. correct_tick (dids ls)) (sym (of_own n l h (eqb-true (node_of l) n same))) ∙ e) older
  by_node false same older = later (older (ap (λ ls. correct_tick (dids ls)) (sym (of_other n l h same)) ∙ e))

-- what a line of the node that neither boots nor corrects it leaves alone
pub record LeftAlone (n : ℕ) (l : Line) (h : List Line) : Type 0 where
  pub number : ticket (dids (of n (l ∷ h))) ≡ ticket (dids (of n h))
  pub tick : correct_tick (dids (of n (l ∷ h))) ≡ correct_tick (dids (of n h))
  pub last : last_correct (dids (of n (l ∷ h))) ≡ last_correct (dids (of n h))
  pub taken_is : last_taken (view first_port (of n (l ∷ h))) ≡ last_taken (view first_port (of n h))

pub left_alone : (n : ℕ) (l : Line) (h : List Line) → node_of l ≡ n → l.did.deed ≢ Acts Boot →
    ((amount : ℤ) (stepped : Bool) (shown : ℤ) → l.did.deed ≢ Acts (Correct amount stepped shown)) → LeftAlone n l h
left_alone n l h node unbooted uncorrected = by_deed l.did.deed refl where
  abbrev-of : of n (l ∷ h) ≡ l ∷ of n h
  abbrev-of = of_own n l h node

  flagged : (b : Bool) (deed : Deed) → l.did.deed ≡ deed → last_taken_after deed (taken (view first_port (of n h))) (last_taken (view first_port (of n h))) ≡
      last_taken (view first_port (of n h)) →
      last_taken (Elsewhere l.did ∷ view first_port (of n h)) ≡ last_taken (view first_port (of n h)) →
      last_taken (seen_as b l.did ∷ view first_port (of n h)) ≡ last_taken (view first_port (of n h))
  flagged true deed is here there = ap (λ d. last_taken_after d (taken (view first_port (of n h))) (last_taken (view first_port (of n h)))) is ∙ here
  flagged false deed is here there = there

  by_deed : (deed : Deed) → l.did.deed ≡ deed → LeftAlone n l h
  by_deed (Acts Boot) is = absurd (unbooted is)
  by_deed (Acts (Correct amount stepped shown)) is = absurd (uncorrected amount stepped shown is)
  by_deed deed is = record {
    number = ap (λ ls. ticket (dids ls)) abbrev-of ∙ rw is refl;
    tick = ap (λ ls. correct_tick (dids ls)) abbrev-of ∙ rw is refl;
    last = ap (λ ls. last_correct (dids ls)) abbrev-of ∙ rw is refl;
    taken_is = ap (λ ls. last_taken (view first_port ls)) abbrev-of ∙
        flagged ((l.port.0 == 0) || is_shared l.did.deed) deed is refl (rw is refl);
  }

pub other_line : (n : ℕ) (l : Line) (h : List Line) → (node_of l == n) ≡ false → LeftAlone n l h
other_line n l h e = record {
  number = ap (λ ls. ticket (dids ls)) (of_other n l h e);
  tick = ap (λ ls. correct_tick (dids ls)) (of_other n l h e);
  last = ap (λ ls. last_correct (dids ls)) (of_other n l h e);
  taken_is = ap (λ ls. last_taken (view first_port ls)) (of_other n l h e);
}

-- an order that a test finds
pub less_int : (a b : ℤ) → a <ℤ b → int_lt a b ≡ true
less_int a b h = by (int_lt a b) refl where
  by : (t : Bool) → int_lt a b ≡ t → int_lt a b ≡ true
  by true e = e
  by false e = absurd (omega (arith, ints, e, h))

pub past_gap : (o : Option ℕ) (x : ℕ) → ((y : ℕ) → o ≡ Some y → y + GAP ≤ x) → is_past o GAP x ≡ true
past_gap None x k = refl
past_gap (Some y) x k = le-leb (y + GAP) x (k y refl)

pub small_number : (number n : ℕ) → number ≡ n % 32768 → number < 32768
small_number number n e = let small : n % 32768 < 32768 = omega arith in omega (arith, e, small)

pub follows_master : {A : Type 0} (p : PeerId) (r : Role) → r ≡ Follow p → r ≡ Master → A
follows_master p r e m = let bad : Follow p ≡ Master = sym e ∙ m in absurd (no bad) where
  no : Follow p ≡ Master → ⊥
  no e = cc

pub same_peers : (p q : PeerId) → Follow p ≡ Follow q → p ≡ q
same_peers p q e = cc
