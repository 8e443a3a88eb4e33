-- From `long` after a Close on, until the next one, all clocks of the network agree.
use Rattle.std.proofs.Common.{sym, subst, arith, inr, ◌∙◌, ◌≡◌, ◌≤◌, ◌<◌, ◌≤ℤ◌, ℕ, ◌+◌, ◌-◌, ◌*◌, ◌==◌, ◌-ℤ◌, ℤ, pos, nat_abs, Bool, true, false}
use Rattle.std.proofs.Common.{List, ◌∷◌, eqb-true, mul-le-mul_left, refl}
use Rattle.std.proofs.lemmas.Int.{ints}
use Rattle.tsp_rules.specs.Values.{SLACK}
use Rattle.tsp_base.specs.Words.{HeaderValue, Line, Within, dids, time_of, width}
use Rattle.tsp_base.proofs.PlaceLemmas.{Within_through}
use Rattle.tsp_promises.specs.{Agreed.Unchanged, ClockAt.ClocksWithin, ClockAt.clock_at, ClockAt.drifted, Fits.node_of, Premises.Honest, Premises.Life}
use Rattle.tsp_promises.specs.{Setting.Setting}
use Rattle.tsp_promises.proofs.promised.OwnFitsProof.{Given, given}
use Rattle.tsp_run.specs.Clocked.{Clocks, clocks_of, run_by}
use Rattle.tsp_run.proofs.{OwnClocks.possible_own, OwnClocks.runs_by_own_clocks, OwnClocks.set_own, RunFits.clocked_runs_fit}
use Rattle.tsp_progress.specs.{AgreesOn.AgreesUntilNext, AgreesOn.ClockedRunsAgreeUntilNext, AgreesOn.HistoryAt, AgreesOn.RunsAgreeUntilNext}
use Rattle.tsp_progress.specs.{AgreesOn.agree_within, AgreesSoon.AgreeSoon, AgreesSoon.CorrectedBy, Delivered.Delivered, ErrSoon.soon_err, FollowOn.Calm}
use Rattle.tsp_progress.specs.{FollowOn.FollowUntil, InTable.InTable, InTable.KeepsRange, InTable.SetsNone, InTable.Undated, LateClose.LateClose}
use Rattle.tsp_progress.specs.{OneWire.OneWire, SampledInTime.IsSwift, TakesRounds.NoneSince, TakesRounds.TakesRound, TakesRounds.TakesRounds}
use Rattle.tsp_progress.specs.{Watched.Attended, Watched.Told}
use Rattle.tsp_progress.proofs.{AgreesSoonProof.agree_soon, AllAsked.Tended, AllAsked.all_asked, TakesProof.one_network, TakesProof.takes_rounds}

-- what a counter drifts in a longer time is more
pub wider : (drift x y : ℕ) → x ≤ y → width drift x ≤ width drift y
wider drift x y le = let m : drift * x ≤ drift * y = mul-le-mul_left drift le in omega (arith, m)

-- two clocks differ by as much either way
pub either_way : (a b : ℤ) (e : ℤ) → pos (nat_abs (a -ℤ b)) ≤ℤ e → pos (nat_abs (b -ℤ a)) ≤ℤ e
either_way a b e h = omega (arith, ints, h)

pub no_way : (a : ℤ) (e : ℕ) → pos (nat_abs (a -ℤ a)) ≤ℤ pos e
no_way a e = omega (arith, ints)

pub within_more : (x : ℤ) (a b : ℕ) → a ≤ b → x ≤ℤ pos a → x ≤ℤ pos b
within_more x a b le h = omega (arith, ints, le, h)

-- the drift of a reading that is so young
pub young_drift : (setting : Setting) (x : ℕ) (r : Line) (at : ℕ) → at ≤ r.did.step.at + 9009011 → at ≤ x →
    drifted setting x r ≤ 2 * width setting.drift ((x - at) + 9009011)
young_drift setting x r at young le =
    let w = wider setting.drift (x - r.did.step.at) ((x - at) + 9009011) (omega (arith, young, le)) in
    omega (arith, w)

module _ {clocks : Clocks} {header : HeaderValue} {setting : Setting} (late long t : ℕ) (stays : ℕ → Bool) (c : ℕ) (s world : List Line)
    (a : Tended clocks header setting late long t stays c s world) (whole : Given setting world) (wire : OneWire header setting stays)
    (undated : Undated c s world) where
  soon : AgreeSoon setting long s world
  soon = agree_soon setting world whole long s a.calm.soon

  abbrev Takes : TakesRounds long t stays c s world
  Takes = takes_rounds late long t stays c s world a whole wire undated

  -- who was corrected by the round of a Close
  pub corrected : (C : Line) (cp : List Line) (n : ℕ) (k : TakesRound long t c n s C cp world) (h : List Line) → Within (k.correct ∷ k.before) h →
      Within h world → time_of (dids h) ≤ t → NoneSince c C cp h → CorrectedBy s c C cp k.correct k.before k.round.reading k.round.older h
  corrected C cp n k h w h-in until none = record {
    err = k.round.err;
    rests = k.round.rests;
    since = k.round.since;
    unchanged = subst (λ j. Unchanged j (k.correct ∷ k.before) h) (sym k.node) (k.left h w h-in until none);
  }

  module _ (C : Line) (cp : List Line) (r : LateClose long t c s C cp world) (early : C.did.step.at + long < t) (x : ℕ) (h : List Line)
      (now : HistoryAt x h world) (later : C.did.step.at + long ≤ x) (until : x ≤ t) (none : NoneSince c C cp h) where
    abbrev Bound : ℕ
    Bound = agree_within setting long (x - C.did.step.at)

    until-h : time_of (dids h) ≤ t
    until-h = let upto = now.upto in omega (arith, upto, until)

    module _ (n : ℕ) (there : stays n ≡ true) (other : (n == c) ≡ false) where
      abbrev K : TakesRound long t c n s C cp world
      K = Takes.each C cp r early n there other

      in-h : Within (K.correct ∷ K.before) h
      in-h = now.all K.correct K.before K.place (let soon = K.soon in omega (arith, soon, later))

      by : CorrectedBy s c C cp K.correct K.before K.round.reading K.round.older h
      by = corrected C cp n K h in-h now.within until-h none

      drift : drifted setting x K.round.reading ≤ 2 * width setting.drift ((x - C.did.step.at) + 9009011)
      drift = young_drift setting x K.round.reading C.did.step.at K.round.young (omega (arith, later))

    peers : (n m : ℕ) (n-there : stays n ≡ true) (m-there : stays m ≡ true) (n-other : (n == c) ≡ false) (m-other : (m == c) ≡ false) →
        ClocksWithin setting h x n m (pos Bound)
    peers n m n-there m-there n-other m-other =
        let j = K n n-there n-other in
        let k = K m m-there m-other in
        let near = soon.peers h x c C cp j.correct k.correct j.before k.before j.round.reading k.round.reading j.round.older k.round.older now.within now.upto
        (by n n-there n-other) (by m m-there m-other) in
        let d = drift n n-there n-other in
        let e = drift m m-there m-other in
        subst (λ z. ClocksWithin setting h x z m (pos Bound)) j.node (subst (λ z. ClocksWithin setting h x (node_of j.correct) z (pos Bound)) k.node
        (within_more _ (2 * soon_err setting long + (drifted setting x j.round.reading + drifted setting x k.round.reading)) Bound
        (omega (arith, d, e)) near))

    master : (n : ℕ) (there : stays n ≡ true) (other : (n == c) ≡ false) → ClocksWithin setting h x n c (pos Bound)
    master n there other =
        let j = K n there other in
        let c-in : Within (C ∷ cp) h = Within_through (C ∷ cp) (j.correct ∷ j.before) h (inr j.after) (in-h n there other) in
        let near = soon.master h x c C cp j.correct j.before j.round.reading j.round.older now.within now.upto (by n there other)
        (Takes.own C cp r h c-in now.within until-h none) in
        let d = drift n there other in
        subst (λ z. ClocksWithin setting h x z c (pos Bound)) j.node
        (within_more _ (soon_err setting long + drifted setting x j.round.reading) Bound (omega (arith, d)) near)

    pub agree_at : (n m : ℕ) → stays n ≡ true → stays m ≡ true → ClocksWithin setting h x n m (pos Bound)
    agree_at n m n-there m-there = by_nodes (n == c) (m == c) refl refl where
      by_nodes : (b d : Bool) → (n == c) ≡ b → (m == c) ≡ d → ClocksWithin setting h x n m (pos Bound)
      by_nodes false false e f = peers n m n-there m-there e f
      by_nodes false true e f = subst (λ z. ClocksWithin setting h x n z (pos Bound)) (sym (eqb-true m c f)) (master n n-there e)
      by_nodes true false e f = subst (λ z. ClocksWithin setting h x z m (pos Bound)) (sym (eqb-true n c e))
          (either_way (clock_at setting m h x) (clock_at setting c h x) (pos Bound) (master m m-there f))
      by_nodes true true e f = subst (λ z. ClocksWithin setting h x z m (pos Bound)) (sym (eqb-true n c e ∙ sym (eqb-true m c f)))
          (no_way (clock_at setting m h x) Bound)

  pub agrees_until_next : AgreesUntilNext setting long t stays c s world
  agrees_until_next C cp r early x h now later until none n m n-there m-there = agree_at C cp r early x h now later until none n m n-there m-there

pub clocked_runs_agree_until_next : ClockedRunsAgreeUntilNext
clocked_runs_agree_until_next clocks header setting events late long t stays c s set possible attended slack told wire there s-in calm delivered swift honest
    life follow members sets undated range =
    let world = run_by clocks header events in
    agrees_until_next late long t stays c s world
    (all_asked clocks header setting events late long t stays c s set possible attended slack told (one_network c wire there) s-in calm delivered swift follow
    members sets range)
    (given setting world (clocked_runs_fit clocks header setting events set possible).0 honest life) wire undated

pub runs_agree_until_next : RunsAgreeUntilNext
runs_agree_until_next header setting events late long t stays c s set possible = subst (λ h. Attended late h → late ≤ SLACK → Told late setting t c h →
    OneWire header setting stays → stays c ≡ true → Within s h → Calm long stays s h → Delivered setting long t stays s h → IsSwift setting long →
    Honest h → Life h → FollowUntil stays c t s h → InTable stays c t s h → SetsNone c s h → Undated c s h → KeepsRange s h →
    AgreesUntilNext setting long t stays c s h) (runs_by_own_clocks header events)
    (clocked_runs_agree_until_next (clocks_of header) header setting events late long t stays c s (set_own header setting set)
    (possible_own header events possible))
