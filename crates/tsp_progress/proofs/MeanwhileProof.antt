-- All clocks of the network agree at each time, also soon after a Close.
use Rattle.std.proofs.Common.{sym, ap, subst, arith, true≢false, inl, inr, ◌∙◌, ◌≡◌, ◌≤◌, ◌<◌, ◌≤ℤ◌, ℕ, ◌+◌, ◌-◌, ◌*◌, ◌==◌, ◌-ℤ◌, ◌+ℤ◌, ℤ, pos}
use Rattle.std.proofs.Common.{nat_abs, Bool, true, false, List, [], ◌∷◌, eqb-true, eq-eqb, refl}
use Rattle.std.proofs.lemmas.{Int.ints}
use Rattle.tsp_rules.specs.Values.{Act, Close}
use Rattle.tsp_base.specs.Words.{Acts, Deed, Did, HeaderValue, Line, Step, Undisturbed, Within, all_corrects, dids, lives, moved, of, time_of}
use Rattle.tsp_base.specs.Words.{width}
use Rattle.tsp_base.proofs.PlaceLemmas.{Within_all, Within_comparable, Within_tail, Within_through}
use Rattle.tsp_promises.specs.{Agreed.UnchangedBut, ClockAt.ClocksWithin, ClockAt.clock_at, ClockAt.drifted, Fits.SameStep, Fits.node_of}
use Rattle.tsp_promises.specs.{Setting.Setting}
use Rattle.tsp_promises.proofs.{promised.ClockProof.offset, promised.ClockProof.offset_same, promised.SinceProof.since, shared.HistoryPlaces.Within_of}
use Rattle.tsp_promises.proofs.{shared.HistoryPlaces.of_own}
use Rattle.tsp_promises.proofs.{shared.MasterMoved.close_keeps, shared.MasterMoved.moved_right_after, shared.MasterMoved.offset_kept}
use Rattle.tsp_promises.proofs.{shared.MasterMoved.offset_meant, shared.SendPlaces.right_after}
use Rattle.tsp_promises.proofs.promised.OwnFitsProof.{Given, fits_at, fits_in, own_fits, place_time}
use Rattle.tsp_run.specs.Clocked.{Clocks}
use Rattle.tsp_progress.specs.{AgreesSoon.CorrectedBy, ErrSoon.soon_err}
use Rattle.tsp_progress.specs.{InTable.Undated, LateClose.LateClose}
use Rattle.tsp_progress.specs.{OneWire.OneWire, TakesRounds.NoneSince, TakesRounds.TakesRound, TakesRounds.TakesRounds}
use Rattle.tsp_progress.proofs.{AgreesOnProof.corrected, AgreesOnProof.either_way, AgreesOnProof.no_way, AgreesOnProof.wider}
use Rattle.tsp_progress.proofs.{AgreesOnProof.within_more, AgreesOnProof.young_drift, AgreesSoonProof.agree_soon, AllAsked.Tended}
use Rattle.tsp_progress.proofs.{AllAsked.on_first, CorrectBetween.Between, CorrectBetween.between}
use Rattle.tsp_progress.proofs.{LateCloses.since as close_since, MeanBetween.Small, OffsetSmall.mean_is_small, OffsetSmall.near_before}
use Rattle.tsp_progress.proofs.{TakesOne.takes_there, TakesProof.takes_rounds, TimePlaces.before_time}

-- two clocks that moved by little since
moved_apart : (n0 c0 n1 c1 d : ℤ) (k l : ℕ) → n1 ≡ n0 → c1 ≡ c0 +ℤ d → pos (nat_abs (n0 -ℤ c0)) ≤ℤ pos k → Small l d →
    pos (nat_abs (n1 -ℤ c1)) ≤ℤ pos (k + l)
moved_apart n0 c0 n1 c1 d k l e f near small = let low = small.0 in let high = small.1 in omega (arith, ints, e, f, near, low, high)

none_small : (l : ℕ) → Small l (pos 0)
none_small l = (omega (arith, ints), omega (arith, ints))

by_both : (a b c : ℤ) (k l : ℕ) → pos (nat_abs (a -ℤ c)) ≤ℤ pos k → pos (nat_abs (b -ℤ c)) ≤ℤ pos l → pos (nat_abs (a -ℤ b)) ≤ℤ pos (k + l)
by_both a b c k l h i = omega (arith, ints, h, i)

plus_tick : (o p d : ℤ) (x : ℕ) → o ≡ p +ℤ d → o +ℤ pos x ≡ (p +ℤ pos x) +ℤ d
plus_tick o p d x e = omega (arith, ints, e)

plus_none : (o p : ℤ) → o ≡ p → o ≡ p +ℤ pos 0
plus_none o p e = omega (arith, ints, e)

module _ {clocks : Clocks} {header : HeaderValue} {setting : Setting} (late long t : ℕ) (stays : ℕ → Bool) (c : ℕ) (s world : List Line)
    (a : Tended clocks header setting late long t stays c s world) (whole : Given setting world) (wire : OneWire header setting stays)
    (undated : Undated c s world) (C : Line) (cp : List Line) (r : LateClose long t c s C cp world) (D : Line) (dp : List Line)
    (d : LateClose long t c s D dp world) (before : Within (D ∷ dp) cp) (apart : D.did.step.at + 237000000 ≤ C.did.step.at) (none : NoneSince c D dp cp)
    (x : ℕ) (h : List Line) (within : Within h world) (upto : time_of (dids h) ≤ x) (c-in : Within (C ∷ cp) h) (none-c : NoneSince c C cp h)
    (all : (k : Line) (w : List Line) → Within (k ∷ w) world → k.did.step.at ≤ x → Within (k ∷ w) h) (soon-c : x < C.did.step.at + long) (upper : x + long < t)
    (age : ℕ) (recent : x ≤ D.did.step.at + age) where
  abbrev E : ℕ
  E = soon_err setting long

  abbrev W : ℕ
  W = width setting.drift (age + 9009011)

  short : long ≤ 4000000
  short = let swift = a.swift in omega (arith, swift)

  cp-in : Within cp world
  cp-in = Within_tail C cp world r.place

  cp-h : Within cp h
  cp-h = Within_tail C cp h c-in

  c-upto : C.did.step.at ≤ x
  c-upto = let le = place_time setting (C ∷ cp) h (fits_at setting h world a.fits within) c-in in omega (arith, le, upto)

  cp-time : time_of (dids cp) ≤ C.did.step.at
  cp-time = (fits_in setting C cp world a.fits r.place).order

  until : time_of (dids h) ≤ t
  until = omega (arith, upto, upper)

  since-cp : Within s cp
  since-cp = close_since setting world a.fits long t c stays s a.s_in a.calm (on_first a) C cp r

  abbrev Takes : TakesRounds long t stays c s world
  Takes = takes_rounds late long t stays c s world a whole wire undated

  d-early : D.did.step.at + long < t
  d-early = let upto-c = r.early in let small = short in omega (arith, apart, upto-c, small)

  -- a follower was corrected by the last round, or by the one before, and is left alone since
  data State (n : ℕ) : Type 0 where
    New : (k : TakesRound long t c n s C cp world) → Within (k.correct ∷ k.before) h → State n
    Old : (k : TakesRound long t c n s D dp world) → Within (k.correct ∷ k.before) cp → Undisturbed (dids (of n (k.correct ∷ k.before))) (dids (of n h)) →
        State n

  module _ (n : ℕ) (there : stays n ≡ true) (other : (n == c) ≡ false) where
    abbrev K : TakesRound long t c n s D dp world
    K = Takes.each D dp d d-early n there other

    k-cp : Within (K.correct ∷ K.before) cp
    k-cp = before_time setting world a.fits K.correct K.before C cp K.place r.place
        (let soon = K.soon in let small = short in omega (arith, soon, apart, small))

    k-h : Within (K.correct ∷ K.before) h
    k-h = Within_through (K.correct ∷ K.before) cp h k-cp cp-h

    since-k : Within s (K.correct ∷ K.before)
    since-k = inr (Within_through s (D ∷ dp) K.before (inr (close_since setting world a.fits long t c stays s a.s_in a.calm (on_first a) D dp d)) K.after)

    -- it isn't moved again before the later Close
    not-before : (b : Between n (K.correct ∷ K.before) h) → Within (b.line ∷ b.before) cp → ⊥
    not-before b w =
        let b-in : Within (b.line ∷ b.before) world = Within_through (b.line ∷ b.before) cp world w cp-in in
        let time : time_of (dids (b.line ∷ b.before)) ≤ t =
        (let le = place_time setting (b.line ∷ b.before) cp (fits_at setting cp world a.fits cp-in) w in let now = cp-time in let up = r.early in
        omega (arith, le, now, up)) in
        let u = K.left (b.line ∷ b.before) (inr b.after) b-in time (λ o q count lo size mean v z node is. none o q count lo size mean
        (Within_through (o ∷ q) (b.line ∷ b.before) cp v w) z node is) in
        let low = (since setting (of n (K.correct ∷ K.before)) (of n b.before) (own_fits setting n b.before (fits_at setting b.before world a.fits
        (Within_tail b.line b.before world b-in))) (Within_of n (K.correct ∷ K.before) b.before b.after)).all in
        let own : of n (b.line ∷ b.before) ≡ b.line ∷ of n b.before = of_own n b.line b.before b.node in
        let more : all_corrects (dids (of n (b.line ∷ b.before))) ≡ all_corrects (dids (of n b.before)) + 1 =
        ap (λ ls. all_corrects (dids ls)) own ∙ rw b.deed refl in
        let same = u.since.corrects in
        omega (arith, low, more, same)

    state : State n
    state = elim (between world long stays s a.calm n (K.correct ∷ K.before) h since-k k-h within) [
      | inr q ↦ Old K k-cp q.left
      | inl b ↦ moved b
    ] where
      moved : Between n (K.correct ∷ K.before) h → State n
      moved b =
          let b-in : Within (b.line ∷ b.before) world = Within_through (b.line ∷ b.before) h world b.place within in
          let le = place_time setting (b.line ∷ b.before) h (fits_at setting h world a.fits within) b.place in
          let own-line : C ≡ b.line → ⊥ = λ e. true≢false (sym (eq-eqb n c (sym b.node ∙ (ap node_of (sym e) ∙ r.node))) ∙ other) in
          elim (Within_comparable (C ∷ cp) (b.line ∷ b.before) world r.place b-in) [
            | inl (inl e) ↦ absurd (own-line (let line : C ≡ b.line = cc in line))
            | inl (inr w) ↦
                let at-c = c-upto in
                let k = takes_there late long t stays c s world a whole C cp r (omega (arith, at-c, upper)) n there other (wire.single n there) b.line b.before
                b-in b.node w (omega (arith, le, upto, soon-c)) b.amount b.stepped b.shown b.deed in
                New k.0 (subst (λ z. Within z h) k.1 b.place)
            | inr (inl e) ↦ absurd (own-line (let line : C ≡ b.line = cc in line))
            | inr (inr w) ↦ absurd (not-before b w)
          ]

  -- the Close's step is that of the line before it
  same-time : (deed : Deed) (act : Act) (ls : List Did) → deed ≡ Acts act → SameStep deed C.did.step ls → time_of ls ≡ C.did.step.at
  same-time deed act [] is f = absurd (subst (λ z. SameStep z C.did.step []) is f)
  same-time deed act (l ∷ ls) is f = ap (λ (z : Step). z.at) (subst (λ z. SameStep z C.did.step (l ∷ ls)) is f)

  cp-at : time_of (dids cp) ≡ C.did.step.at
  cp-at = same-time C.did.deed (Close r.count r.lo r.size r.mean) (dids cp) r.deed (fits_in setting C cp world a.fits r.place).step

  recent-c : C.did.step.at ≤ D.did.step.at + age
  recent-c = let le = c-upto in omega (arith, le, recent)

  -- how far a follower that the last round corrected is from its master
  near-new : (n : ℕ) (k : TakesRound long t c n s C cp world) → Within (k.correct ∷ k.before) h → ClocksWithin setting h x n c (pos (E + 2 * W))
  near-new n k w =
      let by = corrected late long t stays c s world a whole wire undated C cp n k h w within until none-c in
      let near = (agree_soon setting world whole long s a.calm.soon).master h x c C cp k.correct k.before k.round.reading k.round.older within upto by
      (Takes.own C cp r h c-in within until none-c) in
      let le = c-upto in
      let drift = young_drift setting x k.round.reading C.did.step.at k.round.young le in
      let more = wider setting.drift ((x - C.did.step.at) + 9009011) (age + 9009011) (omega (arith, le, apart, recent)) in
      subst (λ z. ClocksWithin setting h x z c (pos (E + 2 * W))) k.node
      (within_more _ (E + drifted setting x k.round.reading) (E + 2 * W) (omega (arith, drift, more)) near)

  -- by how much the master moved at the last Close
  record Moved : Type 0 where
    pub by : ℤ
    pub is : clock_at setting c h x ≡ clock_at setting c cp x +ℤ by
    pub small : Small (E + (E + 2 * W)) by

  master-moved : Moved
  master-moved = elim kept.corrects [
    | inl same ↦
        let closed = close_keeps C.did (dids (of c cp)) r.count r.lo r.size r.mean r.deed in
        let own : dids (of c (C ∷ cp)) ≡ C.did ∷ dids (of c cp) = ap dids (of_own c C cp r.node) in
        let first : offset setting c cp ≡ offset setting c (C ∷ cp) = offset_same setting c cp (C ∷ cp) (sym (ap lives own ∙ closed.lives))
        (sym (ap moved own ∙ closed.moved_is)) in
        let later : offset setting c (C ∷ cp) ≡ offset setting c h = offset_kept setting c (C ∷ cp) h (fits_at setting h world a.fits within) c-in
        (record { corrects = same; lives = kept.lives }) in
        record {
          by = pos 0;
          is = plus_tick (offset setting c h) (offset setting c cp) (pos 0) (setting.tick c x) (plus_none (offset setting c h) (offset setting c cp)
              (sym (first ∙ later)));
          small = none_small (E + (E + 2 * W));
        }
    | inr n ↦
        let h-fits = fits_at setting h world a.fits within in
        let same = right_after setting n.next n.before C cp n.amount n.stepped n.shown (fits_at setting (n.next ∷ n.before) h h-fits n.place) n.deed n.is in
        let moves = moved_right_after setting c C n.next cp h r.count r.lo r.size r.mean n.amount n.stepped n.shown h-fits r.deed r.node kept.lives
        (subst (λ w. Within (n.next ∷ w) h) same n.place) n.node n.deed
        (subst (λ w. all_corrects (dids (of c (n.next ∷ w))) ≡ all_corrects (dids (of c h))) same n.corrects) in
        record {
          by = r.mean;
          is = plus_tick (offset setting c h) (offset setting c cp) r.mean (setting.tick c x)
              (offset_meant setting c C cp h r.count r.lo r.size r.mean r.deed r.node kept.lives moves);
          small = mean_is_small late long t stays c s world a whole wire undated C cp r D dp d before apart none age recent-c;
        }
  ] where
    kept : UnchangedBut c C cp h
    kept = Takes.own C cp r h c-in within until none-c

  near-old : (n : ℕ) → stays n ≡ true → (n == c) ≡ false → (k : TakesRound long t c n s D dp world) → Within (k.correct ∷ k.before) cp →
      Undisturbed (dids (of n (k.correct ∷ k.before))) (dids (of n h)) → ClocksWithin setting h x n c (pos ((E + 2 * W) + (E + (E + 2 * W))))
  near-old n there other k w u =
      let le = c-upto in
      let at = cp-at in
      let up = r.early in
      let small = short in
      let near = near_before late long t stays c s world a whole wire undated C cp r D dp d before apart none age recent-c cp (Within_all cp) x
      (omega (arith, le, at)) recent (omega (arith, at, apart, small)) n there other k w in
      let still = k.left cp w cp-in (omega (arith, at, up)) none in
      let u2 : Undisturbed (dids (of n cp)) (dids (of n h)) = record {
        corrects = sym still.since.corrects ∙ u.corrects;
        lives = sym still.since.lives ∙ u.lives;
      } in
      let own : clock_at setting n h x ≡ clock_at setting n cp x =
      ap (λ z. z +ℤ pos (setting.tick n x)) (sym (offset_kept setting n cp h (fits_at setting h world a.fits within) cp-h u2)) in
      let m = master-moved in
      moved_apart (clock_at setting n cp x) (clock_at setting c cp x) (clock_at setting n h x) (clock_at setting c h x) m.by (E + 2 * W) (E + (E + 2 * W)) own
      m.is
      near m.small

  abbrev Bound : ℕ
  Bound = 4 * E + 6 * W

  old-by : (n : ℕ) (k : TakesRound long t c n s D dp world) → Within (k.correct ∷ k.before) cp →
      Undisturbed (dids (of n (k.correct ∷ k.before))) (dids (of n h)) → CorrectedBy s c D dp k.correct k.before k.round.reading k.round.older h
  old-by n k w u = record {
    err = k.round.err;
    rests = k.round.rests;
    since = k.round.since;
    unchanged = record {
      within = Within_through (k.correct ∷ k.before) cp h w cp-h;
      since = subst (λ z. Undisturbed (dids (of z (k.correct ∷ k.before))) (dids (of z h))) (sym k.node) u;
    };
  }

  old-drift : (n : ℕ) (k : TakesRound long t c n s D dp world) → drifted setting x k.round.reading ≤ 2 * W
  old-drift n k =
      let le = c-upto in
      let drift = young_drift setting x k.round.reading D.did.step.at k.round.young (omega (arith, le, apart)) in
      let more = wider setting.drift ((x - D.did.step.at) + 9009011) (age + 9009011) (omega (arith, recent)) in
      omega (arith, drift, more)

  pair : (n m : ℕ) → stays n ≡ true → stays m ≡ true → (n == c) ≡ false → (m == c) ≡ false → State n → State m → ClocksWithin setting h x n m (pos Bound)
  pair n m nt mt na ma (New j v) (New k w) = within_more _ ((E + 2 * W) + (E + 2 * W)) Bound (omega arith)
      (by_both (clock_at setting n h x) (clock_at setting m h x) (clock_at setting c h x) (E + 2 * W) (E + 2 * W) (near-new n j v) (near-new m k w))
  pair n m nt mt na ma (New j v) (Old k w u) = within_more _ ((E + 2 * W) + ((E + 2 * W) + (E + (E + 2 * W)))) Bound (omega arith)
      (by_both (clock_at setting n h x) (clock_at setting m h x) (clock_at setting c h x) (E + 2 * W) ((E + 2 * W) + (E + (E + 2 * W))) (near-new n j v)
      (near-old m mt ma k w u))
  pair n m nt mt na ma (Old j v u) (New k w) = within_more _ (((E + 2 * W) + (E + (E + 2 * W))) + (E + 2 * W)) Bound (omega arith)
      (by_both (clock_at setting n h x) (clock_at setting m h x) (clock_at setting c h x) ((E + 2 * W) + (E + (E + 2 * W))) (E + 2 * W)
      (near-old n nt na j v u) (near-new m k w))
  pair n m nt mt na ma (Old j v u) (Old k w z) =
      let near = (agree_soon setting world whole long s a.calm.soon).peers h x c D dp j.correct k.correct j.before k.before j.round.reading k.round.reading
      j.round.older k.round.older within upto (old-by n j v u) (old-by m k w z) in
      let one = old-drift n j in
      let two = old-drift m k in
      subst (λ i. ClocksWithin setting h x i m (pos Bound)) j.node (subst (λ i. ClocksWithin setting h x (node_of j.correct) i (pos Bound)) k.node
      (within_more _ (2 * E + (drifted setting x j.round.reading + drifted setting x k.round.reading)) Bound (omega (arith, one, two)) near))

  alone : (n : ℕ) → stays n ≡ true → (n == c) ≡ false → State n → ClocksWithin setting h x n c (pos Bound)
  alone n there other (New k w) = within_more _ (E + 2 * W) Bound (omega arith) (near-new n k w)
  alone n there other (Old k w u) = within_more _ ((E + 2 * W) + (E + (E + 2 * W))) Bound (omega arith) (near-old n there other k w u)

  pub agree_between : (n m : ℕ) → stays n ≡ true → stays m ≡ true → ClocksWithin setting h x n m (pos Bound)
  agree_between n m nt mt = by_nodes (n == c) (m == c) refl refl where
    by_nodes : (b e : Bool) → (n == c) ≡ b → (m == c) ≡ e → ClocksWithin setting h x n m (pos Bound)
    by_nodes false false e f = pair n m nt mt e f (state n nt e) (state m mt f)
    by_nodes false true e f = subst (λ z. ClocksWithin setting h x n z (pos Bound)) (sym (eqb-true m c f)) (alone n nt e (state n nt e))
    by_nodes true false e f = subst (λ z. ClocksWithin setting h x z m (pos Bound)) (sym (eqb-true n c e))
        (either_way (clock_at setting m h x) (clock_at setting c h x) (pos Bound) (alone m mt f (state m mt f)))
    by_nodes true true e f = subst (λ z. ClocksWithin setting h x z m (pos Bound)) (sym (eqb-true n c e ∙ sym (eqb-true m c f)))
        (no_way (clock_at setting m h x) Bound)
