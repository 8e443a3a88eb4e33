-- What the estimates of a round tell of the clocks.
use Rattle.std.proofs.Common.{sym, ap, arith, subst, subst₂, inl, inr, ◌∙◌, ◌≡◌, ◌≤◌, ◌≤ℤ◌, ◌⊎◌, ℕ, ◌+◌, ◌-◌, ◌*◌, ℤ, pos, ◌+ℤ◌, ◌-ℤ◌, nat_abs, List, ◌∷◌, refl}
use Rattle.std.proofs.lemmas.Int.{ints}
use Rattle.tsp_rules.specs.Values.{Close}
use Rattle.tsp_base.specs.Words.{Acts, Did, Line, dids, of, view, lives, time_of, Within, Sampled, Undisturbed, width}
use Rattle.tsp_promises.specs.{Agreed.Unchanged, ClockAt.clock_at, Fits.Fits, Fits.node_of, RoundFits.CloseFits, Setting.Setting}
use Rattle.tsp_promises.specs.CorrectionFits.{FollowedBy}
use Rattle.tsp_promises.specs.Estimates.{EndedNear, Estimate, EstimatesHold, EstimatesNear, MasterNear, Moves, NearMean}
use Rattle.tsp_base.proofs.PlaceLemmas.{Within_through, Within_tail}
use Rattle.tsp_promises.proofs.{promised.ClockProof.offset, shared.Clocks.drift_apart, shared.EverywhereLemmas.Everywhere_from}
use Rattle.tsp_promises.proofs.{promised.TakingProof.corrects_adj, shared.HistoryPlaces.of_own}
use Rattle.tsp_promises.proofs.{promised.OwnFitsProof.Given, promised.OwnFitsProof.given_at, promised.OwnFitsProof.fits_at, promised.OwnFitsProof.place_time}
use Rattle.tsp_promises.proofs.{promised.OwnFitsProof.deed_fits}
use Rattle.tsp_promises.proofs.shared.MasterMoved.{master_moved, moved_right_after, offset_kept, offset_meant, same_mean}
use Rattle.tsp_promises.{proofs.promised.TakingProof.ReadAt, proofs.promised.TakingProof.begun_by, proofs.promised.TakingProof.read_at}
use Rattle.tsp_promises.{proofs.shared.SendPlaces.post_fits}

-- what a Close owes
close_fits : (setting : Setting) (m : ℕ) (close : Line) (cpast : List Line) (count : ℕ) (lo size mean : ℤ) → Fits setting (close ∷ cpast) → close.did.deed ≡
    Acts (Close count lo size mean) → node_of close ≡ m → CloseFits close.did (view close.port (of m cpast))
close_fits setting m close cpast count lo size mean f deed node = subst (λ n. CloseFits close.did (view close.port (of n cpast))) node
    (deed_fits setting close cpast (Acts (Close count lo size mean)) deed f.0)

-- the reading of an estimate that a Close has
reading : (setting : Setting) (m k : ℕ) (close : Line) (cpast : List Line) (x : Sampled) (r : Line) (older h now : List Line) → Given setting h →
    Within (close ∷ cpast) h → (c : CloseFits close.did (view close.port (of m cpast))) → Estimate m k close cpast x r older now →
    ReadAt setting m k cpast x c.start r older
reading setting m k close cpast x r older h now g close_in c e =
    let rd = e.reading in
    let fc = fits_at setting (close ∷ cpast) h g.fits close_in in
    let gs = given_at setting (rd.line ∷ rd.before) h g (Within_through (rd.line ∷ rd.before) cpast h rd.at (Within_tail close cpast h close_in)) in
    read_at setting m k close.port rd.line r rd.before cpast older x c.start c.idle rd.to rd.datagram gs.fits gs.honest gs.life fc.1 rd.node rd.port e.best_is
    rd.is rd.reads rd.takes rd.deed c.start_is c.undisturbed

-- it stands before the Close
reading_in : (m k : ℕ) (close : Line) (cpast : List Line) (x : Sampled) (r : Line) (older now : List Line) → Estimate m k close cpast x r older now →
    Within (r ∷ older) cpast
reading_in m k close cpast x r older now e = let rd = e.reading in Within_through (r ∷
    older) rd.before cpast rd.reads (Within_tail rd.line rd.before cpast rd.at)

-- the clock of k against m's as it was before the Close
off_by : (own master diff e : ℤ) (kr kt mr mt w : ℕ) → pos (nat_abs (diff -ℤ ((own +ℤ pos kr) -ℤ (master +ℤ pos mr)))) ≤ℤ e → kt + mr ≤ kr + mt + w →
    kr + mt ≤ kt + mr + w →
    pos (nat_abs (diff -ℤ ((own +ℤ pos kt) -ℤ (master +ℤ pos mt)))) ≤ℤ (e +ℤ pos w)
off_by own master diff e kr kt mr mt w a b c = omega (arith, ints)

-- an estimate holds at a later time, as long as its node is left alone
holds : (setting : Setting) (m k : ℕ) (cpast : List Line) (x : Sampled) (start : Did) (r : Line) (older h : List Line) (t : ℕ) → Fits setting h →
    Within (r ∷ older) h → time_of (dids h) ≤ t → ReadAt setting m k cpast x start r older → Undisturbed (dids (of k (r ∷ older))) (dids (of k h)) →
    pos (nat_abs (x.diff -ℤ (clock_at setting k h t -ℤ clock_at setting m cpast t))) ≤ℤ (x.err +ℤ pos (2 * width setting.drift (t - r.did.step.at)))
holds setting m k cpast x start r older h t f r_in by d u =
    let order : r.did.step.at ≤ t = (let p = place_time setting (r ∷ older) h f r_in in omega arith) in
    let a = drift_apart setting k m r.did.step.at t order in
    let still = offset_kept setting k (r ∷ older) h f r_in u in
    subst₂ (λ y z. pos (nat_abs (x.diff -ℤ ((y +ℤ pos (setting.tick k t)) -ℤ (z +ℤ pos (setting.tick m t))))) ≤ℤ
    (x.err +ℤ pos (2 * width setting.drift (t - r.did.step.at)))) still d.same_m
    (off_by (offset setting k (r ∷ older)) (offset setting m (r ∷ older)) x.diff x.err (setting.tick k r.did.step.at) (setting.tick k t)
    (setting.tick m r.did.step.at) (setting.tick m t) (2 * width setting.drift (t - r.did.step.at)) d.error a.0 a.1)

two_near : (a b c d ref e f : ℤ) (v w : ℕ) → pos (nat_abs (a -ℤ (c -ℤ ref))) ≤ℤ (e +ℤ pos v) → pos (nat_abs (b -ℤ (d -ℤ ref))) ≤ℤ (f +ℤ pos w) →
    pos (nat_abs (a -ℤ b)) ≤ℤ ((pos (nat_abs (c -ℤ d)) +ℤ (e +ℤ f)) +ℤ pos (v + w))
two_near a b c d ref e f v w h k = omega (arith, ints)

one_near : (diff mean c ref now e : ℤ) (w : ℕ) → pos (nat_abs (diff -ℤ (c -ℤ ref))) ≤ℤ (e +ℤ pos w) → now ≡ ref +ℤ mean →
    pos (nat_abs (now -ℤ c)) ≤ℤ ((pos (nat_abs (mean -ℤ diff)) +ℤ e) +ℤ pos w)
one_near diff mean c ref now e w h g = omega (arith, ints)

by_mean : (now then mean : ℤ) (tick : ℕ) → now ≡ then +ℤ mean → now +ℤ pos tick ≡ (then +ℤ pos tick) +ℤ mean
by_mean now then mean tick e = omega (arith, ints)

estimates_near : (setting : Setting) (close : Line) (cpast : List Line) → Given setting (close ∷ cpast) → EstimatesNear setting close cpast
estimates_near setting close cpast g m k l count lo size mean x y r q rolder qolder deed node d e =
    let f = g.fits in
    let c = close_fits setting m close cpast count lo size mean f deed node in
    let t = close.did.step.at in
    two_near x.diff y.diff (clock_at setting k cpast t) (clock_at setting l cpast t) (clock_at setting m cpast t) x.err y.err
    (2 * width setting.drift (t - r.did.step.at)) (2 * width setting.drift (t - q.did.step.at))
    (holds setting m k cpast x c.start r rolder cpast t f.1 (reading_in m k close cpast x r rolder cpast d) f.0.order
    (reading setting m k close cpast x r rolder (close ∷ cpast) cpast g (inl refl) c d) d.unchanged)
    (holds setting m l cpast y c.start q qolder cpast t f.1 (reading_in m l close cpast y q qolder cpast e) f.0.order
    (reading setting m l close cpast y q qolder (close ∷ cpast) cpast g (inl refl) c e) e.unchanged)

-- an estimate against the master's clock, which has moved by the mean since the Close
near_mean : (setting : Setting) (m k : ℕ) (close : Line) (cpast : List Line) (count : ℕ) (lo size mean : ℤ) (x : Sampled) (r : Line) (older h : List Line)
    (t : ℕ) → Given setting h → time_of (dids h) ≤ t → Within (close ∷ cpast) h → close.did.deed ≡ Acts (Close count lo size mean) → node_of close ≡ m →
    Estimate m k close cpast x r older h → offset setting m h ≡ offset setting m cpast +ℤ mean → NearMean setting m k mean x r h t
near_mean setting m k close cpast count lo size mean x r older h t g by close_in deed node e meant =
    let c = close_fits setting m close cpast count lo size mean (fits_at setting (close ∷ cpast) h g.fits close_in) deed node in
    let r_in : Within (r ∷ older) h = Within_through (r ∷ older) cpast h (reading_in m k close cpast x r older h e) (Within_tail close cpast h close_in) in
    let near = holds setting m k cpast x c.start r older h t g.fits r_in by (reading setting m k close cpast x r older h h g close_in c e) e.unchanged in
    one_near x.diff mean (clock_at setting k h t) (clock_at setting m cpast t) (clock_at setting m h t) x.err (2 * width setting.drift (t - r.did.step.at)) near
    (by_mean (offset setting m h) (offset setting m cpast) mean (setting.tick m t) meant)

master_near : (setting : Setting) (h : List Line) (t : ℕ) → Given setting h → time_of (dids h) ≤ t → MasterNear setting h t
master_near setting h t g by m k close cpast mean f fw x r older f_in b e v =
    let gf = given_at setting (f ∷ fw) h g f_in in
    let owes = post_fits setting m f fw b.peer b.message gf.fits.0 b.first_node b.posts (corrects_adj b.message.kind b.kind) in
    let u = begun_by f.did (view f.port (of m fw)) b.peer b.message close.did (view f.port (of m cpast)) (inl b.kind) b.close_is (owes.begins b.begins).from in
    let c = u.1.from in
    let close_h : Within (close ∷ cpast) h = Within_through (close ∷ cpast) (f ∷ fw) h (inr b.closes) f_in in
    let same : u.1.mean ≡ mean = same_mean b.count c.count b.lo c.lo b.size c.size mean u.1.mean (sym b.deed ∙ c.deed) in
    let followed = subst (λ z. (z ≡ pos 0) ⊎ FollowedBy close.did (view f.port (of m cpast)) (view f.port (of m fw)) z) same c.followed in
    let fw_in : Within fw h = Within_tail f fw h f_in in
    let moved_is = master_moved setting m f.port close cpast fw h b.count b.lo b.size mean g.fits b.deed b.node close_h v fw_in followed in
    near_mean setting m k close cpast b.count b.lo b.size mean x r older h t g by close_h b.deed b.node e
    (offset_meant setting m close cpast h b.count b.lo b.size mean b.deed b.node v.lives moved_is)

-- m's clock has moved by the mean since the Close
meant_by : (setting : Setting) (m : ℕ) (close c : Line) (cpast h : List Line) (amount : ℤ) → Fits setting h → (v : Moves m close c amount) →
    Unchanged m (c ∷ (close ∷ cpast)) h →
    offset setting m h ≡ offset setting m cpast +ℤ v.mean
meant_by setting m close c cpast h amount f v u =
    let own : dids (of m (c ∷ (close ∷ cpast))) ≡ c.did ∷ dids (of m (close ∷ cpast)) = ap dids (of_own m c (close ∷ cpast) v.correct_node) in
    let lives_c : lives (c.did ∷ dids (of m (close ∷ cpast))) ≡ lives (dids (of m (close ∷ cpast))) = rw v.correct refl in
    let one : lives (dids (of m (close ∷ cpast))) ≡ lives (dids (of m h)) = sym (ap lives own ∙ lives_c) ∙ u.since.lives in
    offset_meant setting m close cpast h v.count v.lo v.size v.mean v.deed v.node one
    (moved_right_after setting m close c cpast h v.count v.lo v.size v.mean amount v.stepped v.shown f v.deed v.node one u.within v.correct_node v.correct
    u.since.corrects)

pub ended_near : (setting : Setting) (h : List Line) (t : ℕ) → Given setting h → time_of (dids h) ≤ t → EndedNear setting h t
ended_near setting h t g by m k close c cpast amount x r older u v e =
    near_mean setting m k close cpast v.count v.lo v.size v.mean x r older h t g by (Within_tail c (close ∷ cpast) h u.within) v.deed v.node e
    (meant_by setting m close c cpast h amount g.fits v u)

pub estimates_hold : (setting : Setting) (world : List Line) → Given setting world → EstimatesHold setting world
estimates_hold setting world g = record {
  apart = Everywhere_from (EstimatesNear setting) world (λ l s w. estimates_near setting l s (given_at setting (l ∷ s) world g w));
  near = Everywhere_from (λ (l : Line) (before : List Line). (t : ℕ) → l.did.step.at ≤ t → MasterNear setting (l ∷ before) t) world
      (λ l s w t by. master_near setting (l ∷ s) t (given_at setting (l ∷ s) world g w) by);
  ended = Everywhere_from (λ (l : Line) (before : List Line). (t : ℕ) → l.did.step.at ≤ t → EndedNear setting (l ∷ before) t) world
      (λ l s w t by. ended_near setting (l ∷ s) t (given_at setting (l ∷ s) world g w) by);
}
