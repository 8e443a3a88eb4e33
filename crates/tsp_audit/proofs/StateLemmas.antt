-- How what is kept of a node changes with a line.
use Rattle.std.proofs.Common.{sym, ap, subst, ◌∙◌, arith, inl, inr, ◌≡◌, ◌==◌, ◌<◌, ◌≤◌, ◌+◌, ◌^◌, ℕ, ℤ, pos, Bool, false, MatchOption, Option, None, Some}
use Rattle.std.proofs.Common.{List, [], ◌∷◌, refl}
use Rattle.std.proofs.lemmas.Int.{ints}
use Rattle.tsp_rules.specs.Values.{Boot, Correct}
use Rattle.tsp_base.specs.Words.{Acts, Deed, Did, Line, dids, from_act, of, all_corrects, all_corrects_after, lives, lives_after, moved, moved_after, Within}
use Rattle.tsp_promises.specs.{Agreed.FromRound, Fits.node_of}
use Rattle.tsp_base.proofs.{PlaceLemmas.Within_all, PlaceLemmas.Within_comparable, ViewPlaces.Within_dids}
use Rattle.tsp_promises.proofs.shared.HistoryPlaces.{Within_of, of_other, of_own}
use Rattle.tsp_audit.specs.Agreeing.{AfterIs, FromRoundAs, FirstIs, IsFromNoRound, LiveIs, NodeIs}
use Rattle.tsp_audit.specs.{Changes.IsCorrect, Changes.LeavesState, declared.round_correction.NodeState.NodeState}
use Rattle.tsp_audit.specs.declared.round_correction.RoundCorrection.{RoundCorrection}
use Rattle.tsp_history.{proofs.SpacingLemmas.lives_mono, specs.Clocks.IsSumOf}
use Rattle.tsp_audit.proofs.Alike.{carry, first_same, rest_same}

-- a node's Corrects and Boots grow in number
corrects_deed : (deed : Deed) (n : ℕ) → n ≤ all_corrects_after deed n
corrects_deed (Acts (Correct a s y)) n = omega arith
corrects_deed _ n = omega arith

corrects_dids : (s t : List Did) → Within s t → all_corrects s ≤ all_corrects t
corrects_dids s [] e = subst (λ w. all_corrects w ≤ 0) (sym e) (omega arith)
corrects_dids s (d ∷ t) (inl e) = subst (λ w. all_corrects w ≤ all_corrects (d ∷ t)) (sym e) (omega arith)
corrects_dids s (d ∷ t) (inr p) = omega (arith, corrects_dids s t p, corrects_deed d.deed (all_corrects t))

corrects_mono : (n : ℕ) (s t : List Line) → Within s t → all_corrects (dids (of n s)) ≤ all_corrects (dids (of n t))
corrects_mono n s t w = corrects_dids (dids (of n s)) (dids (of n t)) (Within_dids (of n s) (of n t) (Within_of n s t w))

correct_counts : (n : ℕ) (l : Line) (h : List Line) (a : ℤ) (s : Bool) (y : ℤ) → node_of l ≡ n → l.did.deed ≡ Acts (Correct a s y) →
    all_corrects (dids (of n (l ∷ h))) ≡ all_corrects (dids (of n h)) + 1
correct_counts n l h a s y node deed = ap (λ (t : List Line). all_corrects (dids t)) (of_own n l h node) ∙
    ap (λ (d : Deed). all_corrects_after d (all_corrects (dids (of n h)))) deed

-- the last Correct of a node is one line
pub last_one : (n : ℕ) (c d : Line) (past qast h : List Line) (a b : ℤ) (s t : Bool) (x y : ℤ) → node_of c ≡ n → node_of d ≡ n → c.did.deed ≡
    Acts (Correct a s x) → d.did.deed ≡ Acts (Correct b t y) → Within (c ∷ past) h → Within (d ∷ qast) h →
    all_corrects (dids (of n (c ∷ past))) ≡ all_corrects (dids (of n h)) → all_corrects (dids (of n (d ∷ qast))) ≡ all_corrects (dids (of n h)) → c ∷ past ≡ d ∷
    qast
last_one n c d past qast h a b s t x y cn dn cd dd v w ce de = elim (Within_comparable (c ∷ past) (d ∷ qast) h v w) [
  | inl (inl e) ↦ e
  | inl (inr i) ↦ absurd (omega (arith, corrects_mono n (c ∷ past) qast i, correct_counts n d qast b t y dn dd, ce, de))
  | inr (inl e) ↦ sym e
  | inr (inr i) ↦ absurd (omega (arith, corrects_mono n (d ∷ qast) past i, correct_counts n c past a s x cn cd, ce, de))
]

-- a line changes nothing of a node's clock
pub record Still (n : ℕ) (l : Line) (h : List Line) : Type 0 where
  pub moved_is : moved (dids (of n (l ∷ h))) ≡ moved (dids (of n h))
  pub lives_is : lives (dids (of n (l ∷ h))) ≡ lives (dids (of n h))
  pub corrects_is : all_corrects (dids (of n (l ∷ h))) ≡ all_corrects (dids (of n h))

pub still_other : (n : ℕ) (l : Line) (h : List Line) → (node_of l == n) ≡ false → Still n l h
still_other n l h e = let same : of n (l ∷ h) ≡ of n h = of_other n l h e in
    record {
      moved_is = ap (λ (t : List Line). moved (dids t)) same;
      lives_is = ap (λ (t : List Line). lives (dids t)) same;
      corrects_is = ap (λ (t : List Line). all_corrects (dids t)) same;
    }

moved_same : (d : Deed) → ((k : ℕ) → lives_after d k ≡ k) → ((k : ℕ) → all_corrects_after d k ≡ k) → (z : ℤ) → moved_after d z ≡ z
moved_same (Acts Boot) f g z = let bad : ⊥ = omega (arith, f 0) in absurd bad
moved_same (Acts (Correct a s y)) f g z = let bad : ⊥ = omega (arith, g 0) in absurd bad
moved_same _ f g z = refl

pub still_deed : (n : ℕ) (l : Line) (h : List Line) → node_of l ≡ n → ((k : ℕ) → lives_after l.did.deed k ≡ k) →
    ((k : ℕ) → all_corrects_after l.did.deed k ≡ k) → Still n l h
still_deed n l h node f g =
    let own : of n (l ∷ h) ≡ l ∷ of n h = of_own n l h node in
    record {
      moved_is = ap (λ (t : List Line). moved (dids t)) own ∙ moved_same l.did.deed f g (moved (dids (of n h)));
      lives_is = ap (λ (t : List Line). lives (dids t)) own ∙ f (lives (dids (of n h)));
      corrects_is = ap (λ (t : List Line). all_corrects (dids t)) own ∙ g (all_corrects (dids (of n h)));
    }

-- a Correct of a node after which none of it came is no line that isn't one
not_now : (n : ℕ) (l c : Line) (h past : List Line) (a : ℤ) (s : Bool) (y : ℤ) → node_of c ≡ n → c.did.deed ≡ Acts (Correct a s y) → c ∷ past ≡ l ∷ h →
    all_corrects (dids (of n (l ∷ h))) ≡ all_corrects (dids (of n h)) → ⊥
not_now n l c h past a s y node deed e still =
    let line : c ≡ l = first_same e in
    let counts : all_corrects (dids (of n (l ∷ h))) ≡ all_corrects (dids (of n h)) + 1 =
    correct_counts n l h a s y (subst (λ (k : Line). node_of k ≡ n) line node) (subst (λ (k : Line). k.did.deed ≡ Acts (Correct a s y)) line deed) in
    omega (arith, counts, still)

live_still : (n : ℕ) (l : Line) (h : List Line) (o : Option RoundCorrection) → Still n l h → LiveIs n h o → LiveIs n (l ∷ h) o
live_still n l h None st none = λ c past node u m close cpast r older e from_round. elim u.within [
  | inl same ↦ not_now n l c h past from_round.acts.amount from_round.acts.stepped from_round.acts.shown node from_round.acts.correct same st.corrects_is
  | inr w ↦ none c past node (record { within = w; since = record { corrects = u.since.corrects ∙ st.corrects_is; lives = u.since.lives ∙ st.lives_is } }) m
      close cpast r older e from_round
]
live_still n l h (Some k) st a = record {
  correct = a.correct;
  past = a.past;
  is = a.is;
  node = a.node;
  unchanged = record {
    within = inr a.unchanged.within;
    since = record {
      corrects = a.unchanged.since.corrects ∙ sym st.corrects_is;
      lives = a.unchanged.since.lives ∙ sym st.lives_is;
    };
  };
}

after_still : (n : ℕ) (l : Line) (h : List Line) (o : Option ℕ) → all_corrects (dids (of n (l ∷ h))) ≡ all_corrects (dids (of n h)) → AfterIs n h o →
    AfterIs n (l ∷ h) o
after_still n l h None still none = λ act apast x. elim x.place [
  | inl same ↦ not_now n l x.next h x.before x.amount x.stepped x.shown x.node x.deed same still
  | inr w ↦ none act apast (record {
    next = x.next;
    before = x.before;
    is = x.is;
    amount = x.amount;
    stepped = x.stepped;
    shown = x.shown;
    place = w;
    node = x.node;
    deed = x.deed;
    corrects = x.corrects ∙ still;
  })
]
after_still n l h (Some k) still a = record {
  act = a.act;
  apast = a.apast;
  index_is = a.index_is;
  after = record {
    next = a.after.next;
    before = a.after.before;
    is = a.after.is;
    amount = a.after.amount;
    stepped = a.after.stepped;
    shown = a.after.shown;
    place = inr a.after.place;
    node = a.after.node;
    deed = a.after.deed;
    corrects = a.after.corrects ∙ sym still;
  };
}

pub node_still : (n : ℕ) (l : Line) (h : List Line) (s : NodeState) → Still n l h → NodeIs n h s → NodeIs n (l ∷ h) s
node_still n l h s st a = record {
  moved_is = a.moved_is ∙ sym st.moved_is;
  bounded = a.bounded;
  lives_is = a.lives_is ∙ sym st.lives_is;
  corrects_is = a.corrects_is ∙ sym st.corrects_is;
  after_is = after_still n l h s.after st.corrects_is a.after_is;
  correction_is = live_still n l h s.from_round st a.correction_is;
}

-- a Boot forgets what was corrected
pub node_boot : (n : ℕ) (l : Line) (h : List Line) (s t : NodeState) → node_of l ≡ n → l.did.deed ≡ Acts Boot → NodeIs n h s → t.moved ≡ pos 0 → t.lives ≡
    lives (dids (of n (l ∷ h))) → t.corrects ≡ s.corrects → t.after ≡ s.after → t.from_round ≡ None → NodeIs n (l ∷ h) t
node_boot n l h s t node deed a moved_is lives_is corrects_is after_is correction_is =
    let own : of n (l ∷ h) ≡ l ∷ of n h = of_own n l h node in
    let still : all_corrects (dids (of n (l ∷ h))) ≡ all_corrects (dids (of n h)) = ap (λ (k : List Line). all_corrects (dids k)) own ∙
    ap (λ (d : Deed). all_corrects_after d (all_corrects (dids (of n h)))) deed in
    let more : lives (dids (of n (l ∷ h))) ≡ lives (dids (of n h)) + 1 = ap (λ (k : List Line). lives (dids k)) own ∙
    ap (λ (d : Deed). lives_after d (lives (dids (of n h)))) deed in
    let none : LiveIs n (l ∷ h) None = λ c past same u m close cpast r older e from_round. elim u.within [
      | inl now ↦ not_now n l c h past from_round.acts.amount from_round.acts.stepped from_round.acts.shown same from_round.acts.correct now still
      | inr w ↦ omega (arith, lives_mono n (c ∷ past) h w, more, u.since.lives)
    ] in
    record {
      moved_is = moved_is ∙ sym (ap (λ (k : List Line). moved (dids k)) own ∙ ap (λ (d : Deed). moved_after d (moved (dids (of n h)))) deed);
      bounded = subst (λ (z : ℤ). IsSumOf 4294967295 z) (sym moved_is) (omega arith, omega arith);
      lives_is = lives_is;
      corrects_is = corrects_is ∙ (a.corrects_is ∙ sym still);
      after_is = subst (λ (o : Option ℕ). AfterIs n (l ∷ h) o) (sym after_is) (after_still n l h s.after still a.after_is);
      correction_is = subst (λ (o : Option RoundCorrection). LiveIs n (l ∷ h) o) (sym correction_is) none;
    }

live_correct : (n : ℕ) (l : Line) (h : List Line) (o : Option RoundCorrection) (a : ℤ) (s : Bool) (y : ℤ) → node_of l ≡ n → l.did.deed ≡ Acts (Correct a s y) →
    MatchOption o (IsFromNoRound l h) (λ c. FromRoundAs l h c) → LiveIs n (l ∷ h) o
live_correct n l h None a s y node deed none = λ c past same u m close cpast r older e from_round. elim u.within [
  | inl now ↦
      none m close cpast r older e (carry (λ (k : Line) (p : List Line). FromRound m close cpast k p r older e) now from_round)
  | inr w ↦ omega (arith, corrects_mono n (c ∷ past) h w, correct_counts n l h a s y node deed, u.since.corrects)
]
live_correct n l h (Some k) a s y node deed is = record {
  correct = l;
  past = h;
  is = is;
  node = node;
  unchanged = record {
    within = Within_all (l ∷ h);
    since = record { corrects = refl; lives = refl };
  };
}

after_correct : (n : ℕ) (l : Line) (h : List Line) (o : Option ℕ) (a : ℤ) (s : Bool) (y : ℤ) → node_of l ≡ n → l.did.deed ≡ Acts (Correct a s y) →
    FirstIs (from_act h) o → AfterIs n (l ∷ h) o
after_correct n l h None a s y node deed none = λ act apast x. elim x.place [
  | inl now ↦
      let rest : x.before ≡ h = rest_same now in
      let both : [] ≡ act ∷ apast = sym none ∙ (ap from_act (sym rest) ∙ x.is) in
      let bad : ⊥ = cc in bad
  | inr w ↦ omega (arith, corrects_mono n (x.next ∷ x.before) h w, correct_counts n l h a s y node deed, x.corrects)
]
after_correct n l h (Some k) a s y node deed b = record {
  act = b.line;
  apast = b.before;
  index_is = b.index_is;
  after = record { next = l; before = h; is = b.is; amount = a; stepped = s; shown = y; place = Within_all (l ∷ h); node = node; deed = deed; corrects = refl };
}

-- after a Correct
pub node_correct : (n : ℕ) (l : Line) (h : List Line) (s t : NodeState) → node_of l ≡ n → IsCorrect l.did.deed → NodeIs n h s → FirstIs (from_act h) t.after →
    MatchOption t.from_round (IsFromNoRound l h) (λ c. FromRoundAs l h c) →
    t.moved ≡ moved (dids (of n (l ∷ h))) → IsSumOf 4294967295 t.moved → t.lives ≡ s.lives → t.corrects ≡ all_corrects (dids (of n (l ∷ h))) →
    NodeIs n (l ∷ h) t
node_correct n l h s t node is a first from_round moved_is bounded lives_is corrects_is =
    let own : of n (l ∷ h) ≡ l ∷ of n h = of_own n l h node in
    let still : lives (dids (of n (l ∷ h))) ≡ lives (dids (of n h)) = ap (λ (k : List Line). lives (dids k)) own ∙
    ap (λ (d : Deed). lives_after d (lives (dids (of n h)))) is.is in
    record {
      moved_is = moved_is;
      bounded = bounded;
      lives_is = lives_is ∙ (a.lives_is ∙ sym still);
      corrects_is = corrects_is;
      after_is = after_correct n l h t.after is.amount is.stepped is.shown node is.is first;
      correction_is = live_correct n l h t.from_round is.amount is.stepped is.shown node is.is from_round;
    }

-- as many amounts as there can be lines
pub sum_more : (count : ℕ) (z : ℤ) → count < 2 ^ 32 → IsSumOf count z → IsSumOf 4294967295 z
sum_more count z few sum = (omega (arith, ints, few, sum.0), omega (arith, ints, few, sum.1))

-- a Boot isn't quiet
pub boot_loud : (deed : Deed) → deed ≡ Acts Boot → LeavesState deed → ⊥
boot_loud deed is quiet = let k : 1 ≡ 0 = subst (λ d. lives_after d 0 ≡ 0) is (quiet.lives 0) in omega (arith, k)

-- nor is a Correct
pub correct_loud : (deed : Deed) → IsCorrect deed → LeavesState deed → ⊥
correct_loud deed c quiet = let k : 1 ≡ 0 = subst (λ d. all_corrects_after d 0 ≡ 0) c.is (quiet.corrects 0) in omega (arith, k)
