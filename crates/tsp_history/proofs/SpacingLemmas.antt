-- How spacing carries over a line.
use Rattle.std.proofs.Common.{◌∙◌, ap, sym, subst, arith, refl, inl, inr, eq-eqb, ◌≡◌, ◌<◌, ◌≤◌, ◌+◌, ◌==◌, ℕ, ℤ, nat_lt, if◌then◌else◌, Bool, true, false}
use Rattle.std.proofs.Common.{List, [], ◌∷◌, Option, None, Some, MatchBool}
use Rattle.std.proofs.lemmas.Bool.{ltb-false, ltb-true}
use Rattle.tsp_base.specs.declared.{act.Act.Act, act.Act.TheVariants.Boot, act.Act.TheVariants.Correct, constants.TheConstants.GAP}
use Rattle.tsp_promises.{proofs.shared.HistoryPlaces.of_other, proofs.promised.SteadyProof.lives_more, specs.Fits.node_of}
use Rattle.tsp_base.specs.Words.{Acts, Line, of, dids, lives, lives_after, Within}
use Rattle.tsp_base.proofs.PlaceLemmas.{Within_tail}
use Rattle.tsp_history.specs.declared.brief.Brief.{Brief, TheVariants.Boot as BriefBoot, TheVariants.Correct as BriefCorrect}
use Rattle.tsp_history.specs.{HeldActs.act_of, Histories.deed_of, Spacing.later_of, Spacing.Spaced, Spacing.SpacedBy}

-- a node's lines with one of its own
pub of_own : (n : ℕ) (l : Line) (h : List Line) → node_of l ≡ n → of n (l ∷ h) ≡ (l ∷ of n h)
of_own n l h e = let same : (node_of l == n) ≡ true = eq-eqb (node_of l) n e in rw same refl

lives_own : (n : ℕ) (l : Line) (h : List Line) → node_of l ≡ n → lives (dids (of n (l ∷ h))) ≡ lives_after l.did.deed (lives (dids (of n h)))
lives_own n l h e = ap (λ o. lives (dids o)) (of_own n l h e)

lives_no_fewer : (n : ℕ) (l : Line) (h : List Line) (b : Bool) → (node_of l == n) ≡ b → lives (dids (of n h)) ≤ lives (dids (of n (l ∷ h)))
lives_no_fewer n l h true e = rw e (lives_more l.did.deed (lives (dids (of n h))))
lives_no_fewer n l h false e = rw e (omega arith)

-- an earlier place has no more lives before it
pub lives_mono : (n : ℕ) (s h : List Line) → Within s h → lives (dids (of n s)) ≤ lives (dids (of n h))
lives_mono n s [] e = subst (λ k. lives (dids (of n k)) ≤ 0) (sym e) (omega arith)
lives_mono n s (l ∷ h) (inl e) = subst (λ k. lives (dids (of n k)) ≤ lives (dids (of n (l ∷ h)))) (sym e) (omega arith)
lives_mono n s (l ∷ h) (inr w) = omega (arith, lives_mono n s h w, lives_no_fewer n l h (node_of l == n) refl)

-- another node's line changes nothing
pub spaced_other : (b : Bool) (n x : ℕ) (l : Line) (h : List Line) → (node_of l == n) ≡ false → MatchBool b (Spaced n x h) (Spaced n x h → ⊥) →
    MatchBool b (Spaced n x (l ∷ h)) (Spaced n x (l ∷ h) → ⊥)
spaced_other b n x l h other m = over b m where
  same : lives (dids (of n (l ∷ h))) ≡ lives (dids (of n h))
  same = ap (λ o. lives (dids o)) (of_other n l h other)

  not_it : (k : Line) → k ≡ l → node_of k ≡ n → ⊥
  not_it k e node = let bad : true ≡ false = sym (eq-eqb (node_of l) n (sym (ap node_of e) ∙ node)) ∙ other in grind (arith, bad)

  carry : Spaced n x h → Spaced n x (l ∷ h)
  carry f k older a s y (inl e) node deed lived = let here : k ≡ l = cc in absurd (not_it k here node)
  carry f k older a s y (inr w) node deed lived = f k older a s y w node deed (lived ∙ same)

  over : (b : Bool) → MatchBool b (Spaced n x h) (Spaced n x h → ⊥) → MatchBool b (Spaced n x (l ∷ h)) (Spaced n x (l ∷ h) → ⊥)
  over true f = carry f
  over false f = λ g. f (λ k older a s y w node deed lived. g k older a s y (inr w) node deed (lived ∙ sym same))

-- nor does a line that neither boots nor corrects
pub spaced_plain : (b : Bool) (n x : ℕ) (l : Line) (h : List Line) → node_of l ≡ n → ((k : ℕ) → lives_after l.did.deed k ≡ k) →
    ((a : ℤ) (s : Bool) (y : ℤ) → l.did.deed ≡ Acts (Correct a s y) → ⊥) →
    MatchBool b (Spaced n x h) (Spaced n x h → ⊥) → MatchBool b (Spaced n x (l ∷ h)) (Spaced n x (l ∷ h) → ⊥)
spaced_plain b n x l h own quiet other m = over b m where
  same : lives (dids (of n (l ∷ h))) ≡ lives (dids (of n h))
  same = lives_own n l h own ∙ quiet (lives (dids (of n h)))

  carry : Spaced n x h → Spaced n x (l ∷ h)
  carry f k older a s y (inl e) node deed lived = let here : k ≡ l = cc in absurd (other a s y (sym (ap (λ (m : Line). m.did.deed) here) ∙ deed))
  carry f k older a s y (inr w) node deed lived = f k older a s y w node deed (lived ∙ same)

  over : (b : Bool) → MatchBool b (Spaced n x h) (Spaced n x h → ⊥) → MatchBool b (Spaced n x (l ∷ h)) (Spaced n x (l ∷ h) → ⊥)
  over true f = carry f
  over false f = λ g. f (λ k older a s y w node deed lived. g k older a s y (inr w) node deed (lived ∙ sym same))

-- right after a boot there is no correction of this life
pub spaced_boot : (n x : ℕ) (l : Line) (h : List Line) → node_of l ≡ n → l.did.deed ≡ Acts Boot → Spaced n x (l ∷ h)
spaced_boot n x l h own boot k older a s y (inl e) node deed lived =
    let here : k ≡ l = cc in
    let bad : Acts Boot ≡ Acts (Correct a s y) = sym boot ∙ sym (ap (λ (m : Line). m.did.deed) here) ∙ deed in
    absurd (cc)
spaced_boot n x l h own boot k older a s y (inr w) node deed lived =
    let more : lives (dids (of n (l ∷ h))) ≡ lives (dids (of n h)) + 1 = lives_own n l h own ∙ ap (λ d. lives_after d (lives (dids (of n h)))) boot in
    let few : lives (dids (of n older)) ≤ lives (dids (of n h)) = lives_mono n older h (Within_tail k older h w) in
    absurd (omega (arith, more, few, lived))

-- a correction that is far enough before
pub spaced_far : (b : Bool) (n x : ℕ) (l : Line) (h : List Line) (a : ℤ) (s : Bool) (y : ℤ) → node_of l ≡ n → l.did.deed ≡ Acts (Correct a s y) →
    l.did.tick + GAP ≤ x →
    MatchBool b (Spaced n x h) (Spaced n x h → ⊥) → MatchBool b (Spaced n x (l ∷ h)) (Spaced n x (l ∷ h) → ⊥)
spaced_far b n x l h a s y own correct far m = over b m where
  same : lives (dids (of n (l ∷ h))) ≡ lives (dids (of n h))
  same = lives_own n l h own ∙ ap (λ d. lives_after d (lives (dids (of n h)))) correct

  carry : Spaced n x h → Spaced n x (l ∷ h)
  carry f k older c t z (inl e) node deed lived = let here : k ≡ l = cc in subst (λ (m : Line). m.did.tick + GAP ≤ x) (sym here) far
  carry f k older c t z (inr w) node deed lived = f k older c t z w node deed (lived ∙ same)

  over : (b : Bool) → MatchBool b (Spaced n x h) (Spaced n x h → ⊥) → MatchBool b (Spaced n x (l ∷ h)) (Spaced n x (l ∷ h) → ⊥)
  over true f = carry f
  over false f = λ g. f (λ k older c t z w node deed lived. g k older c t z (inr w) node deed (lived ∙ sym same))

-- a correction that is too near
pub spaced_near : (n x : ℕ) (l : Line) (h : List Line) (a : ℤ) (s : Bool) (y : ℤ) → node_of l ≡ n → l.did.deed ≡ Acts (Correct a s y) → x < l.did.tick + GAP →
    Spaced n x (l ∷ h) → ⊥
spaced_near n x l h a s y own correct near f =
    let same : lives (dids (of n (l ∷ h))) ≡ lives (dids (of n h)) = lives_own n l h own ∙ ap (λ d. lives_after d (lives (dids (of n h)))) correct in
    let far : l.did.tick + GAP ≤ x = f l h a s y (inl refl) own correct (sym same) in
    omega (arith, near, far)

-- an act that isn't held as a boot begins no life
held_no_boot : (b : Brief) (name : List ℕ) → (b ≡ BriefBoot → ⊥) → (k : ℕ) → lives_after (deed_of (act_of b name)) k ≡ k
held_no_boot BriefBoot name other k = absurd (other refl)
held_no_boot _ name other k = refl

pub no_boot : (o : Option Act) (b : Brief) → (name : List ℕ) × (o ≡ act_of b name) → (b ≡ BriefBoot → ⊥) → (k : ℕ) → lives_after (deed_of o) k ≡ k
no_boot o b (name, is) other k = ap (λ a. lives_after (deed_of a) k) is ∙ held_no_boot b name other k

-- a correction, after a history that is spaced
pub spaced_correct : (r b : Bool) (n x : ℕ) (l : Line) (h : List Line) (a : ℤ) (s : Bool) (y : ℤ) → node_of l ≡ n → l.did.deed ≡ Acts (Correct a s y) → b ≡
    true →
    MatchBool r (l.did.tick + GAP ≤ x) (x < l.did.tick + GAP) → MatchBool b (Spaced n x h) (Spaced n x h → ⊥) →
    MatchBool r (Spaced n x (l ∷ h)) (Spaced n x (l ∷ h) → ⊥)
spaced_correct true b n x l h a s y own correct e far m = spaced_far true n x l h a s y own correct far
    (subst (λ c. MatchBool c (Spaced n x h) (Spaced n x h → ⊥)) e m)
spaced_correct false b n x l h a s y own correct e near m = spaced_near n x l h a s y own correct near

-- a correction, after a history that isn't spaced
pub spaced_not : (b : Bool) (n x : ℕ) (l : Line) (h : List Line) (a : ℤ) (s : Bool) (y : ℤ) → node_of l ≡ n → l.did.deed ≡ Acts (Correct a s y) → b ≡ false →
    MatchBool b (Spaced n x h) (Spaced n x h → ⊥) → MatchBool b (Spaced n x (l ∷ h)) (Spaced n x (l ∷ h) → ⊥)
spaced_not b n x l h a s y own correct e m = subst (λ c. MatchBool c (Spaced n x (l ∷ h)) (Spaced n x (l ∷ h) → ⊥)) (sym e) bad where
  same : lives (dids (of n (l ∷ h))) ≡ lives (dids (of n h))
  same = lives_own n l h own ∙ ap (λ d. lives_after d (lives (dids (of n h)))) correct

  before : Spaced n x h → ⊥
  before = subst (λ c. MatchBool c (Spaced n x h) (Spaced n x h → ⊥)) e m

  bad : Spaced n x (l ∷ h) → ⊥
  bad g = before (λ k older c t z w node deed lived. g k older c t z (inr w) node deed (lived ∙ sym same))

-- an act that isn't held as a correction is none
held_no_correct : (b : Brief) (name : List ℕ) → ((a : ℤ) (s : Bool) (y : ℤ) → b ≡ BriefCorrect a s y → ⊥) → (a : ℤ) (s : Bool) (y : ℤ) →
    deed_of (act_of b name) ≡ Acts (Correct a s y) → ⊥
held_no_correct (BriefCorrect c t z) name other a s y e = other c t z refl
held_no_correct _ name other a s y e = cc

pub no_correct : (o : Option Act) (b : Brief) → (name : List ℕ) × (o ≡ act_of b name) → ((a : ℤ) (s : Bool) (y : ℤ) → b ≡ BriefCorrect a s y → ⊥) →
    (a : ℤ) (s : Bool) (y : ℤ) → deed_of o ≡ Acts (Correct a s y) → ⊥
no_correct o b (name, is) other a s y e = held_no_correct b name other a s y (sym (ap deed_of is) ∙ e)

-- after a correction the later one of the ticks tells
pub spaced_later : (n : ℕ) (l : Line) (h : List Line) (o : Option ℕ) (a : ℤ) (s : Bool) (y : ℤ) → node_of l ≡ n → l.did.deed ≡ Acts (Correct a s y) →
    SpacedBy n h o → SpacedBy n (l ∷ h) (Some (later_of o l.did.tick))
spaced_later n l h None a s y own correct spaced x b far = spaced_correct b true n x l h a s y own correct refl far (spaced x true refl)
spaced_later n l h (Some e) a s y own correct spaced x b far = by_tick (nat_lt l.did.tick e) refl where
  by_tick : (t : Bool) → nat_lt l.did.tick e ≡ t → MatchBool b (Spaced n x (l ∷ h)) (Spaced n x (l ∷ h) → ⊥)
  by_tick true before =
      let tick : l.did.tick < e = ltb-true l.did.tick e before in
      let last : MatchBool b (e + GAP ≤ x) (x < e + GAP) = subst (λ t. MatchBool b ((if t then e else l.did.tick) + GAP ≤ x)
      (x < (if t then e else l.did.tick) + GAP)) before far in
      over b last tick
    where
      over : (b : Bool) → MatchBool b (e + GAP ≤ x) (x < e + GAP) → l.did.tick < e → MatchBool b (Spaced n x (l ∷ h)) (Spaced n x (l ∷ h) → ⊥)
      over true far tick = spaced_far true n x l h a s y own correct (omega arith) (spaced x true far)
      over false near tick = spaced_not false n x l h a s y own correct refl (spaced x false near)
  by_tick false after =
      let tick : e ≤ l.did.tick = ltb-false l.did.tick e after in
      let last : MatchBool b (l.did.tick + GAP ≤ x) (x < l.did.tick + GAP) = subst (λ t. MatchBool b ((if t then e else l.did.tick) + GAP ≤ x)
      (x < (if t then e else l.did.tick) + GAP)) after far in
      over b last tick
    where
      over : (b : Bool) → MatchBool b (l.did.tick + GAP ≤ x) (x < l.did.tick + GAP) → e ≤ l.did.tick → MatchBool b (Spaced n x (l ∷ h)) (Spaced n x (l ∷ h) → ⊥)
      over true far tick = spaced_far true n x l h a s y own correct far (spaced x true (omega arith))
      over false near tick = spaced_near n x l h a s y own correct near

-- nothing tells right after a boot
pub spaced_new : (n : ℕ) (l : Line) (h : List Line) → node_of l ≡ n → l.did.deed ≡ Acts Boot → SpacedBy n (l ∷ h) None
spaced_new n l h own boot x b far = subst (λ c. MatchBool c (Spaced n x (l ∷ h)) (Spaced n x (l ∷ h) → ⊥)) (sym far) (spaced_boot n x l h own boot)

-- nothing tells where there is no line
pub spaced_none : (n : ℕ) → SpacedBy n [] None
spaced_none n x b far = subst (λ c. MatchBool c (Spaced n x []) (Spaced n x [] → ⊥)) (sym far)
    (λ other older a s y w node deed lived. absurd (no-place other older w)) where
      no-place : (l : Line) (older : List Line) → Within (l ∷ older) [] → ⊥
      no-place l older e = cc
