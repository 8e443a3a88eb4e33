-- The offsets of a round are small, if the clocks agreed when they were read; and so is its mean.
use Rattle.std.proofs.Common.{sym, ap, subst, arith, inl, inr, ◌∙◌, ◌≡◌, ◌≤◌, ◌<◌, ◌≤ℤ◌, ℕ, ◌+◌, ◌-◌, ◌*◌, ◌==◌, ◌-ℤ◌, ℤ, pos}
use Rattle.std.proofs.Common.{nat_abs, map, Bool, true, false, List, ◌∷◌, Option, None, Some, eqb-true, refl}
use Rattle.std.proofs.lemmas.Int.{ints}
use Rattle.tsp_rules.specs.Values.{Peer, PeerId, Post, Reply, Stamp, SPAN}
use Rattle.tsp_rules.specs.RoundRows.{estimates, standing}
use Rattle.tsp_base.specs.Words.{Acts, Did, Estimate, HeaderValue, Line, Sampled, Within, best, dids, estimate, estimate_of, first_port, of, peer_of, time_of}
use Rattle.tsp_base.specs.Words.{Here, started, view, width}
use Rattle.tsp_base.proofs.PlaceLemmas.{Within_tail, Within_through}
use Rattle.tsp_promises.specs.{ClockAt.ClocksWithin, ClockAt.clock, ClockAt.drifted, Fits.node_of, RoundFits.CloseFits, Setting.Setting}
use Rattle.tsp_promises.proofs.{shared.HistoryPlaces.line_on, promised.MeasuredProof.reading_at, promised.MeasuredProof.sample_fits}
use Rattle.tsp_promises.proofs.{shared.RoundPlaces.best_at, shared.RoundPlaces.same_start}
use Rattle.tsp_promises.proofs.promised.OwnFitsProof.{Given, fits_at, fits_in, given_at, locate, place_time}
use Rattle.tsp_run.specs.Clocked.{Clocks}
use Rattle.tsp_progress.specs.{ErrSoon.soon_err, InTable.Undated, LateClose.LateClose, OneWire.OneWire}
use Rattle.tsp_progress.specs.{TakesRounds.NoneSince, TakesRounds.TakesRound, TakesRounds.TakesRounds}
use Rattle.tsp_progress.proofs.{AgreesOnProof.corrected, AgreesOnProof.wider, AgreesOnProof.within_more, AgreesOnProof.young_drift, AgreesSoonProof.agree_soon}
use Rattle.tsp_progress.proofs.{AllAsked.Tended}
use Rattle.tsp_progress.proofs.{AllAsked.on_first, ErrSoonProof.sample_soon, LateCloses.after_time, LateCloses.since, MeanBetween.Small}
use Rattle.tsp_progress.proofs.{MeanBetween.estimates_small}
use Rattle.tsp_progress.proofs.{MeanBetween.mean_small, SlewPlaces.mean_of_round, TableSampled.begin_young, TableSampled.close_fits, TakesProof.takes_rounds}
use Rattle.tsp_progress.proofs.{TimePlaces.before_time}

small_of : (diff a b e : ℤ) (k l : ℕ) → pos (nat_abs (diff -ℤ (a -ℤ b))) ≤ℤ e → e ≤ℤ pos k → pos (nat_abs (a -ℤ b)) ≤ℤ pos l → Small (k + l) diff
small_of diff a b e k l near err apart = (omega (arith, ints, near, err, apart), omega (arith, ints, near, err, apart))

sample_of : (o : Option Sampled) (b : Estimate) → estimate_of o ≡ Some b → (x : Sampled) × ((o ≡ Some x) × (b.diff ≡ x.diff))
sample_of None b e = let bad : ⊥ = cc in absurd bad
sample_of (Some x) b e = (
  x,
  (
    refl,
    let same : Some (record { diff = x.diff; ticket = x.ticket }) ≡ Some b = e in
        let both : (let k : Estimate = record { diff = x.diff; ticket = x.ticket } in k) ≡ b = cc in sym (ap (λ (k : Estimate). k.diff) both),
  ),
)

module _ {clocks : Clocks} {header : HeaderValue} {setting : Setting} (late long t : ℕ) (stays : ℕ → Bool) (c : ℕ) (s world : List Line)
    (a : Tended clocks header setting late long t stays c s world) (whole : Given setting world) (wire : OneWire header setting stays)
    (undated : Undated c s world) (C : Line) (cp : List Line) (r : LateClose long t c s C cp world) (D : Line) (dp : List Line)
    (d : LateClose long t c s D dp world) (before : Within (D ∷ dp) cp) (apart : D.did.step.at + 237000000 ≤ C.did.step.at) (none : NoneSince c D dp cp)
    (age : ℕ) (recent : C.did.step.at ≤ D.did.step.at + age) where
  abbrev Near : ℕ
  Near = soon_err setting long + 2 * width setting.drift (age + 9009011)

  short : long ≤ 4000000
  short = let swift = a.swift in omega (arith, swift)

  cp-in : Within cp world
  cp-in = Within_tail C cp world r.place

  abbrev Takes : TakesRounds long t stays c s world
  Takes = takes_rounds late long t stays c s world a whole wire undated

  abbrev Cf : CloseFits C.did (view first_port (of c cp))
  Cf = close_fits setting world a.fits long t c stays s a.s_in a.calm (on_first a) C cp r

  early : D.did.step.at + long < t
  early = let upto = r.early in let small = short in omega (arith, apart, upto, small)

  since-cp : Within s cp
  since-cp = since setting world a.fits long t c stays s a.s_in a.calm (on_first a) C cp r

  -- at a place between, soon after the earlier Close, a follower agrees with its master
  pub near_before : (h : List Line) → Within h cp → (x : ℕ) → time_of (dids h) ≤ x → x ≤ D.did.step.at + age → D.did.step.at + long < time_of (dids h) →
      (j : ℕ) → stays j ≡ true → (j == c) ≡ false → (k : TakesRound long t c j s D dp world) → Within (k.correct ∷ k.before) h →
      ClocksWithin setting h x j c (pos Near)
  near_before h w x upto soon later j there other k in-h =
      let h-in = Within_through h cp world w cp-in in
      let until : time_of (dids h) ≤ t =
      (let le = place_time setting h cp (fits_at setting cp world a.fits cp-in) w in let order = (fits_in setting C cp world a.fits r.place).order in
      let up = r.early in omega (arith, le, order, up)) in
      let none-h : NoneSince c D dp h = λ o b count lo size mean v u node is. none o b count lo size mean (Within_through (o ∷ b) h cp v w) u node is in
      let by = corrected late long t stays c s world a whole wire undated D dp j k h in-h h-in until none-h in
      let d-in : Within (D ∷ dp) h = Within_through (D ∷ dp) (k.correct ∷ k.before) h (inr k.after) in-h in
      let near = (agree_soon setting world whole long s a.calm.soon).master h x c D dp k.correct k.before k.round.reading k.round.older h-in upto by
      (Takes.own D dp d h d-in h-in until none-h) in
      let drift = young_drift setting x k.round.reading D.did.step.at k.round.young (omega (arith, upto, later)) in
      let more = wider setting.drift ((x - D.did.step.at) + 9009011) (age + 9009011) (omega (arith, soon)) in
      subst (λ z. ClocksWithin setting h x z c (pos Near)) k.node
      (within_more _ (soon_err setting long + drifted setting x k.round.reading) Near
      (omega (arith, drift, more)) near)

  -- so each offset of the later round is small
  offset_small : (p : PeerId) (e : Estimate) → estimate p (view first_port (of c cp)) ≡ Some e → Small (soon_err setting long + Near) e.diff
  offset_small p e is =
      let x = sample_of (best p (view first_port (of c cp))) e is in
      let b = best_at p (view first_port (of c cp)) x.0 x.1.0 in
      let l = locate c first_port cp b.did b.rest (rw b.deed refl) b.place in
      let line = line_on first_port b.did in
      let line-in : Within (line ∷ l.older) world = Within_through (line ∷ l.older) cp world l.place cp-in in
      let g = given_at setting (line ∷ l.older) world whole line-in in
      let sf = sample_fits setting line l.older p x.0.counter x.0.ticket x.0.diff x.0.err g.fits.0 b.deed in
      let read = reading_at setting line l.older p x.0.counter x.0.ticket x.0.diff x.0.err g.fits g.honest (inl g.life) b.deed sf in
      let read-cp : Within (read.post ∷ read.older) cp = Within_through (read.post ∷ read.older) l.older cp read.place (Within_tail line l.older cp l.place) in
      let read-in : Within (read.post ∷ read.older) world = Within_through (read.post ∷ read.older) cp world read-cp cp-in in
      let mine : started (view first_port (of c l.older)) ≡ Here sf.start ∷ sf.idle = subst (λ k. started (view first_port (of k l.older)) ≡ Here sf.start ∷
      sf.idle)
      l.node sf.start_is in
      let same : sf.start ≡ Cf.start = same_start sf.start Cf.start sf.idle Cf.idle (view first_port (of c l.older)) b.rest (view first_port (of c cp)) mine
      (sym l.before) b.round Cf.start_is in
      let after : Cf.start.step.at ≤ read.post.did.step.at = subst (λ (z : Did). z.step.at ≤ read.post.did.step.at) same read.after in
      let young = begin_young setting world a.fits long t c stays s a.s_in a.calm (on_first a) C cp r in
      let enough = r.late in
      let small = short in
      let since-r : Within s read.older = after_time setting world a.fits s a.s_in read.post read.older read-in (omega (arith, after, young, enough)) in
      let there : stays p.0 ≡ true = subst (λ k. stays k ≡ true) read.node (a.calm.only read.post read.older read-in since-r) in
      let deed : read.post.did.deed ≡ Acts (Post (Peer (peer_of c)) (Stamp (Reply sf.reply))) =
      read.deed ∙ ap (λ k. Acts (Post (Peer (peer_of k)) (Stamp (Reply sf.reply)))) l.node in
      let other : (p.0 == c) ≡ false = not_own (p.0 == c) refl (λ e. a.calm.unsent read.post read.older read-in since-r (Stamp (Reply sf.reply))
      (deed ∙ ap (λ k. Acts (Post (Peer (peer_of k)) (Stamp (Reply sf.reply)))) (sym (read.node ∙ eqb-true p.0 c e)))) in
      let k = Takes.each D dp d early p.0 there other in
      let in-r : Within (k.correct ∷ k.before) read.older = before_time setting world a.fits k.correct k.before read.post read.older k.place read-in
      (let soon = k.soon in omega (arith, soon, after, young, apart, small)) in
      let upto : read.post.did.step.at ≤ C.did.step.at =
      (let le = place_time setting (read.post ∷ read.older) cp (fits_at setting cp world a.fits cp-in) read-cp in
      let order = (fits_in setting C cp world a.fits r.place).order in omega (arith, le, order)) in
      let near = near_before (read.post ∷ read.older) read-cp read.post.did.step.at (omega arith) (omega (arith, upto, recent))
      (omega (arith, after, young, apart, small)) p.0 there other k (inr in-r) in
      let near-line : pos (nat_abs (clock setting p.0 (read.post ∷ read.older) -ℤ clock setting (node_of line) (read.post ∷ read.older))) ≤ℤ pos Near =
      subst (λ z. pos (nat_abs (clock setting p.0 (read.post ∷ read.older) -ℤ clock setting z (read.post ∷ read.older))) ≤ℤ pos Near) (sym l.node) near in
      let err = sample_soon setting world whole long s a.calm.soon line l.older line-in p x.0.counter x.0.ticket x.0.diff x.0.err b.deed read.post read.older
      (Peer (peer_of (node_of line))) (Stamp (Reply sf.reply)) read.place read.takes read.deed since-r in
      subst (λ z. Small (soon_err setting long + Near) z) (sym x.1.1)
      (small_of x.0.diff (clock setting p.0 (read.post ∷ read.older)) (clock setting (node_of line) (read.post ∷ read.older)) x.0.err (soon_err setting long)
      Near
      read.error err near-line)
    where
      not_own : (q : Bool) → (p.0 == c) ≡ q → ((p.0 == c) ≡ true → ⊥) → (p.0 == c) ≡ false
      not_own true e bad = absurd (bad e)
      not_own false e bad = e

  -- and so is its mean
  pub mean_is_small : Small (soon_err setting long + Near) r.mean
  mean_is_small =
      let m = mean_of_round a.set world a.table a.fits long t c stays s a.s_in a.calm a.sets a.one.single (on_first a) C cp r in
      subst (λ z. Small (soon_err setting long + Near) z) (sym m.is)
      (mean_small (soon_err setting long + Near) SPAN (estimates (map (standing m.seen) m.peers)) (omega arith)
      (estimates_small (soon_err setting long + Near) m.seen m.peers (λ p e is. offset_small p e (m.same p ∙ is))))
