-- Clocks corrected in one round agree, by a bound that outlasts later Corrects, and so do those along chains of
-- corrected masters.
use Rattle.std.proofs.Common.{arith, ◌≡◌, ◌≤◌, ◌≤ℤ◌, ℤ, pos, ◌+ℤ◌, ◌-ℤ◌, nat_abs, ℕ, ◌+◌, sym, ap, subst, inl, inr, ◌∙◌, ◌-◌, ◌*◌, List, ◌∷◌, is_some, refl}
use Rattle.std.proofs.Common.{subst₂, []}
use Rattle.std.proofs.lemmas.Int.{ints}
use Rattle.tsp_base.specs.Words.{Line, of, dids, lives, view, moved, time_of, Within, width}
use Rattle.tsp_base.proofs.PlaceLemmas.{Within_through, Within_tail}
use Rattle.tsp_promises.proofs.promised.OwnFitsProof.{given, Given, given_at, place_time, own_fits, fits_at}
use Rattle.tsp_promises.specs.Agreed.{Agreed, AgreedAt, ClocksAgree, MasterAgrees, PeersAgree, RestsOnSample, StayAgreed, Unchanged, FromRound, UnchangedBut}
use Rattle.tsp_promises.specs.Throughout.{BoundAt, BoundsLast, PeersBound, Throughout, moved_since}
use Rattle.tsp_promises.specs.Chained.{Hop, Hops, IsChain, ChainAgrees, ChainsAgree, Chained, ChainedAt, TreeAgrees, bound, hop_bound, last_hop, node_at}
use Rattle.tsp_promises.specs.Chained.{RelayAgrees, Relayed}
use Rattle.tsp_promises.specs.{Setting.Setting, ClockAt.clock_at, Fits.Fits, Fits.node_of}
use Rattle.tsp_promises.proofs.{shared.EverywhereLemmas.Everywhere_from, shared.MasterMoved.close_life, shared.MasterMoved.master_moved}
use Rattle.tsp_promises.proofs.{shared.MasterMoved.offset_corrected}
use Rattle.tsp_promises.proofs.{promised.ClockProof.offset, shared.MasterMoved.offset_kept, shared.MasterMoved.offset_meant, shared.MasterMoved.same_mean}
use Rattle.tsp_promises.proofs.{shared.HistoryPlaces.Within_of, promised.TakingProof.Met, promised.TakingProof.begun_by, promised.TakingProof.corrects_adj}
use Rattle.tsp_promises.proofs.{promised.TakingProof.whole, shared.Clocks.drift_apart}
use Rattle.tsp_promises.proofs.{shared.SendPlaces.post_fits, promised.SinceProof.since}

-- k0 and m0 are the clocks besides their ticks at the reading, k1 that of k after its Correct; the ticks are those at the reading and now
pub sums : (k0 k1 m0 mean diff amount e : ℤ) (kr kt mr mt w : ℕ) → amount ≡ mean -ℤ diff → k1 ≡ k0 +ℤ amount →
    pos (nat_abs (diff -ℤ ((k0 +ℤ pos kr) -ℤ (m0 +ℤ pos mr)))) ≤ℤ e →
    kt + mr ≤ kr + mt + w → kr + mt ≤ kt + mr + w →
    pos (nat_abs ((k1 +ℤ pos kt) -ℤ ((m0 +ℤ mean) +ℤ pos mt))) ≤ℤ (e +ℤ pos w)
sums k0 k1 m0 mean diff amount e kr kt mr mt w a b f g h = omega (arith, ints)

-- two clocks near a third are near each other
pub triangle : (a b ref e f : ℤ) (w v : ℕ) → pos (nat_abs (a -ℤ ref)) ≤ℤ (e +ℤ pos w) → pos (nat_abs (b -ℤ ref)) ≤ℤ (f +ℤ pos v) →
    pos (nat_abs (a -ℤ b)) ≤ℤ ((e +ℤ f) +ℤ pos (w + v))
triangle a b ref e f w v h k = omega (arith, ints)

-- a clock that moved by the mean
pub moved_by : (now then mean : ℤ) (tick : ℕ) → now ≡ then +ℤ mean → now +ℤ pos tick ≡ (then +ℤ mean) +ℤ pos tick
moved_by now then mean tick e = omega (arith, ints)

-- the clock of k against m's clock as its Close left it
pub core : (setting : Setting) (m : ℕ) (cpast : List Line) (mean : ℤ) (c : Line) (past : List Line) (r : Line) (rolder h : List Line) (err : ℤ) (t : ℕ) →
    Fits setting h → time_of (dids h) ≤ t →
    Unchanged (node_of c) (c ∷ past) h → Met setting m (node_of c) cpast mean c past r rolder err →
    pos (nat_abs (clock_at setting (node_of c) h t -ℤ ((offset setting m cpast +ℤ mean) +ℤ pos (setting.tick m t)))) ≤ℤ
    (err +ℤ pos (2 * width setting.drift (t - r.did.step.at)))
core setting m cpast mean c past r rolder h err t f by u x =
    let k = node_of c in
    let k1 : offset setting k h ≡ offset setting k (r ∷ rolder) +ℤ x.amount =
    sym (offset_kept setting k (c ∷ past) h f u.within u.since) ∙ (offset_corrected setting c past x.amount x.stepped x.shown x.deed ∙
    ap (λ z. z +ℤ x.amount) (sym x.same_k)) in
    let r_h : Within (r ∷ rolder) h = Within_through (r ∷ rolder) past h x.reads (Within_tail c past h u.within) in
    let order : r.did.step.at ≤ t = (let p = place_time setting (r ∷ rolder) h f r_h in omega arith) in
    let d = drift_apart setting k m r.did.step.at t order in
    subst (λ z. pos (nat_abs (clock_at setting k h t -ℤ ((z +ℤ mean) +ℤ pos (setting.tick m t)))) ≤ℤ (err +ℤ pos (2 * width setting.drift (t - r.did.step.at))))
    x.same_m
    (sums (offset setting k (r ∷ rolder)) (offset setting k h) (offset setting m (r ∷ rolder)) mean x.diff x.amount err
    (setting.tick k r.did.step.at) (setting.tick k t) (setting.tick m r.did.step.at) (setting.tick m t) (2 * width setting.drift (t - r.did.step.at))
    x.amount_is k1 x.error d.0 d.1)

pub agreed_peers : (setting : Setting) (h : List Line) (t : ℕ) → Given setting h → time_of (dids h) ≤ t → PeersAgree setting h t
agreed_peers setting h t g by m close cpast c d past qast r q rolder qolder e f x y u v =
    let one = whole setting m close cpast c past r rolder e (given_at setting (c ∷ past) h g u.within) x in
    let two = whole setting m close cpast d qast q qolder f (given_at setting (d ∷ qast) h g v.within) y in
    let mean : two.mean ≡ one.mean = same_mean one.count two.count one.lo two.lo one.size two.size one.mean two.mean (sym one.deed ∙ two.deed) in
    triangle (clock_at setting (node_of c) h t) (clock_at setting (node_of d) h t) ((offset setting m cpast +ℤ one.mean) +ℤ pos (setting.tick m t)) e f
    (2 * width setting.drift (t - r.did.step.at)) (2 * width setting.drift (t - q.did.step.at))
    (core setting m cpast one.mean c past r rolder h e t g.fits by u one.met)
    (core setting m cpast one.mean d qast q qolder h f t g.fits by v (subst (λ z. Met setting m (node_of d) cpast z d qast q qolder f) mean two.met))

pub agreed_master : (setting : Setting) (h : List Line) (t : ℕ) → Given setting h → time_of (dids h) ≤ t → MasterAgrees setting h t
agreed_master setting h t g by m close cpast c past r rolder e x u v =
    let w = whole setting m close cpast c past r rolder e (given_at setting (c ∷ past) h g u.within) x in
    let past_h : Within past h = Within_tail c past h u.within in
    let close_in : Within (close ∷ cpast) h = Within_through (close ∷ cpast) past h x.closes past_h in
    let moved_is = master_moved setting m w.port close cpast w.fw h w.count w.lo w.size w.mean g.fits w.deed x.close_node close_in v
    (Within_through w.fw past h w.fw_in past_h) w.followed in
    subst (λ z. pos (nat_abs (clock_at setting (node_of c) h t -ℤ z)) ≤ℤ (e +ℤ pos (2 * width setting.drift (t - r.did.step.at))))
    (sym (moved_by (offset setting m h) (offset setting m cpast) w.mean (setting.tick m t) (offset_meant setting m close cpast h w.count w.lo w.size w.mean
    w.deed x.close_node v.lives moved_is)))
    (core setting m cpast w.mean c past r rolder h e t g.fits by u w.met)

clocks_agree : (setting : Setting) (h : List Line) (t : ℕ) → Given setting h → time_of (dids h) ≤ t → ClocksAgree setting h t
clocks_agree setting h t g by = record { peers = agreed_peers setting h t g by; master = agreed_master setting h t g by }

-- what a Close begins rests on a sample
rests_on : (setting : Setting) (l : Line) (world : List Line) → Fits setting (l ∷ world) → RestsOnSample l (view l.port (of (node_of l) world))
rests_on setting l world f p m close older deed kind acts close_is =
    let fits = post_fits setting (node_of l) l world p m f.0 refl deed (corrects_adj m.kind kind) in
    let u = begun_by l.did (view l.port (of (node_of l) world)) p m close older (inl kind) close_is (fits.begins acts).from in
    ap (λ z. is_some z) u.1.from.best_is

pub agreed : (setting : Setting) (h : List Line) → Given setting h → Agreed setting h
agreed setting h g = Everywhere_from (AgreedAt setting) h (λ l s w.
    let gs = given_at setting (l ∷ s) h g w in
    record { rests = rests_on setting l s gs.fits; clocks = λ a is. clocks_agree setting (l ∷ s) l.did.step.at gs (omega arith) })

pub stay_agreed : (setting : Setting) (h : List Line) → Given setting h → StayAgreed setting h
stay_agreed setting h g = Everywhere_from (λ (l : Line) (s : List Line). (t : ℕ) → l.did.step.at ≤ t → ClocksAgree setting (l ∷ s) t) h
    (λ l s w t by. clocks_agree setting (l ∷ s) t (given_at setting (l ∷ s) h g w) by)

-- the clocks as they were left, and what moved them since
back : (wk wm ck cm hk hm mean e : ℤ) (tk tm w : ℕ) → pos (nat_abs (((wk +ℤ ck) +ℤ pos tk) -ℤ (((wm +ℤ cm) +ℤ mean) +ℤ pos tm))) ≤ℤ (e +ℤ pos w) →
    pos (nat_abs ((((wk +ℤ hk) +ℤ pos tk) -ℤ (hk -ℤ ck)) -ℤ (((wm +ℤ hm) +ℤ pos tm) -ℤ ((hm -ℤ cm) -ℤ mean)))) ≤ℤ (e +ℤ pos w)
back wk wm ck cm hk hm mean e tk tm w h = omega (arith, ints)

besides : (c d x y b : ℤ) → pos (nat_abs ((c -ℤ x) -ℤ (d -ℤ y))) ≤ℤ b → pos (nat_abs (c -ℤ d)) ≤ℤ ((b +ℤ pos (nat_abs x)) +ℤ pos (nat_abs y))
besides c d x y b h = omega (arith, ints)

bound_at : (setting : Setting) (h : List Line) (t : ℕ) → Given setting h → time_of (dids h) ≤ t → BoundAt setting h t
bound_at setting h t g by m close cpast mean c past r older err s =
    let k = node_of c in
    let gc = given_at setting (c ∷ past) h g s.within in
    let w = whole setting m close cpast c past r older err gc s.from_round in
    let is : w.mean ≡ mean = same_mean s.count w.count s.lo w.lo s.size w.size mean w.mean (sym s.deed ∙ w.deed) in
    let met = subst (λ z. Met setting m k cpast z c past r older err) is w.met in
    let o = place_time setting (c ∷ past) h g.fits s.within in
    let left = core setting m cpast mean c past r older (c ∷ past) err t gc.fits (omega arith) (record {
      within = inl refl;
      since = record { corrects = refl; lives = refl };
    }) met in
    let w_k : setting.wall k (lives (dids (of k (c ∷ past)))) ≡ setting.wall k (lives (dids (of k h))) = ap (setting.wall k) s.one_life in
    let w_m : setting.wall m (lives (dids (of m cpast))) ≡ setting.wall m (lives (dids (of m h))) =
    ap (setting.wall m) (close_life m close cpast h s.count s.lo s.size mean s.deed s.from_round.close_node s.one_life_master) in
    let taken = back (setting.wall k (lives (dids (of k h)))) (setting.wall m (lives (dids (of m h)))) (moved (dids (of k (c ∷ past))))
    (moved (dids (of m cpast))) (moved (dids (of k h))) (moved (dids (of m h)))
    mean err (setting.tick k t) (setting.tick m t) (2 * width setting.drift (t - r.did.step.at))
    (subst₂ (λ x y. pos (nat_abs (((x +ℤ moved (dids (of k (c ∷ past)))) +ℤ pos (setting.tick k t)) -ℤ (((y +ℤ moved (dids (of m cpast))) +ℤ mean) +ℤ pos
    (setting.tick m t))))
    ≤ℤ (err +ℤ pos (2 * width setting.drift (t - r.did.step.at)))) w_k w_m left) in
    record {
      taken_back = taken;
      now = besides (clock_at setting k h t) (clock_at setting m h t) (moved (dids (of k h)) -ℤ moved (dids (of k (c ∷ past))))
          ((moved (dids (of m h)) -ℤ moved (dids (of m cpast))) -ℤ mean) (err +ℤ pos (2 * width setting.drift (t - r.did.step.at))) taken;
    }

-- a clock with what moved it since a place taken back is as that place left it
left_as : (wall was now then : ℤ) (tick : ℕ) → was ≡ wall → ((wall +ℤ now) +ℤ pos tick) -ℤ (now -ℤ then) ≡ (was +ℤ then) +ℤ pos tick
left_as wall was now then tick e = omega (arith, ints)

peers_bound : (setting : Setting) (h : List Line) (t : ℕ) → Given setting h → time_of (dids h) ≤ t → PeersBound setting h t
peers_bound setting h t g by m close cpast c d past qast r q rolder qolder e f x y =
    let k = node_of c in
    let l = node_of d in
    let gc = given_at setting (c ∷ past) h g x.within in
    let gd = given_at setting (d ∷ qast) h g y.within in
    let one = whole setting m close cpast c past r rolder e gc x.from_round in
    let two = whole setting m close cpast d qast q qolder f gd y.from_round in
    let mean : two.mean ≡ one.mean = same_mean one.count two.count one.lo two.lo one.size two.size one.mean two.mean (sym one.deed ∙ two.deed) in
    let met = subst (λ z. Met setting m l cpast z d qast q qolder f) mean two.met in
    let o = place_time setting (c ∷ past) h g.fits x.within in
    let p = place_time setting (d ∷ qast) h g.fits y.within in
    let near_c = core setting m cpast one.mean c past r rolder (c ∷ past) e t gc.fits (omega arith) (record {
      within = inl refl;
      since = record { corrects = refl; lives = refl };
    }) one.met in
    let near_d = core setting m cpast one.mean d qast q qolder (d ∷ qast) f t gd.fits (omega arith) (record {
      within = inl refl;
      since = record { corrects = refl; lives = refl };
    }) met in
    let v = 2 * width setting.drift (t - r.did.step.at) in
    let w = 2 * width setting.drift (t - q.did.step.at) in
    let near = triangle (clock_at setting k (c ∷ past) t) (clock_at setting l (d ∷ qast) t) ((offset setting m cpast +ℤ one.mean) +ℤ pos (setting.tick m t)) e f
    v w near_c near_d in
    let back_c = left_as (setting.wall k (lives (dids (of k h)))) (setting.wall k (lives (dids (of k (c ∷ past))))) (moved (dids (of k h)))
    (moved (dids (of k (c ∷ past)))) (setting.tick k t)
    (ap (setting.wall k) x.one_life) in
    let back_d = left_as (setting.wall l (lives (dids (of l h)))) (setting.wall l (lives (dids (of l (d ∷ qast))))) (moved (dids (of l h)))
    (moved (dids (of l (d ∷ qast)))) (setting.tick l t)
    (ap (setting.wall l) y.one_life) in
    let taken = subst₂ (λ a b. pos (nat_abs (a -ℤ b)) ≤ℤ ((e +ℤ f) +ℤ pos (v + w))) (sym back_c) (sym back_d) near in
    record {
      taken_back = taken;
      now = besides (clock_at setting k h t) (clock_at setting l h t) (moved_since k (c ∷ past) h) (moved_since l (d ∷ qast) h)
          ((e +ℤ f) +ℤ pos (v + w)) taken;
    }

pub throughout : (setting : Setting) (world : List Line) → Given setting world → Throughout setting world
throughout setting world g = Everywhere_from (λ (l : Line) (s : List Line). (t : ℕ) → l.did.step.at ≤ t → BoundsLast setting (l ∷ s) t) world
    (λ l s w t by. (let gs = given_at setting (l ∷ s) world g w in record {
      master = bound_at setting (l ∷ s) t gs by;
      peers = peers_bound setting (l ∷ s) t gs by;
    }))

none_off : (a : ℤ) → pos (nat_abs (a -ℤ a)) ≤ℤ pos 0
none_off a = omega (arith, ints)

two_off : (a b c x y : ℤ) → pos (nat_abs (a -ℤ b)) ≤ℤ y → pos (nat_abs (b -ℤ c)) ≤ℤ x → pos (nat_abs (a -ℤ c)) ≤ℤ (x +ℤ y)
two_off a b c x y h k = omega (arith, ints)

-- a link's clock from its master's, where the master is left alone since its own Correct, which stands before the Close
hop_off : (setting : Setting) (h : List Line) (t : ℕ) → Given setting h → time_of (dids h) ≤ t → (d x : Hop) → Unchanged (node_at d) (d.correct ∷ d.past) h →
    Hops (node_at d) x h → Within (d.correct ∷ d.past) x.cpast →
    pos (nat_abs (clock_at setting (node_at x) h t -ℤ clock_at setting (node_at d) h t)) ≤ℤ hop_bound setting t x
hop_off setting h t given by d x v hop d_in =
    let g = node_at d in
    let past_h : Within x.past h = Within_tail x.correct x.past h hop.unchanged.within in
    let close_h : Within (x.close ∷ x.cpast) h = Within_through (x.close ∷ x.cpast) x.past h hop.from_round.closes past_h in
    let fc = fits_at setting (x.close ∷ x.cpast) h given.fits close_h in
    let one = since setting (of g (d.correct ∷ d.past)) (of g (x.close ∷ x.cpast)) (own_fits setting g (x.close ∷ x.cpast) fc) (Within_of g (d.correct ∷
    d.past) (x.close ∷ x.cpast) (inr d_in)) in
    let two = since setting (of g (x.close ∷ x.cpast)) (of g h) (own_fits setting g h given.fits) (Within_of g (x.close ∷ x.cpast) h close_h) in
    let same = v.since in
    let but : UnchangedBut g x.close x.cpast h = record {
      lives = omega (arith, one.lives, two.lives, same.lives);
      corrects = inl (omega (arith, one.all, two.all, same.corrects));
    } in
    agreed_master setting h t given by g x.close x.cpast x.correct x.past x.reading x.older x.err hop.from_round hop.unchanged but

-- the last link's node is left alone
last_kept : (m : ℕ) (first : Hop) (rest : List Hop) (h : List Line) → Hops m first h → IsChain first rest h →
    Unchanged (node_at (last_hop first rest)) ((last_hop first rest).correct ∷ (last_hop first rest).past) h
last_kept m first [] h a c = a.unchanged
last_kept m first (x ∷ rest) h a c = c.0.unchanged

-- the last clock of a chain from the first link's
lower : (setting : Setting) (h : List Line) (t : ℕ) → Given setting h → time_of (dids h) ≤ t → (m : ℕ) (first : Hop) (rest : List Hop) → Hops m first h →
    IsChain first rest h →
    pos (nat_abs (clock_at setting (node_at (last_hop first rest)) h t -ℤ clock_at setting (node_at first) h t)) ≤ℤ bound setting t rest
lower setting h t given by m first [] a c = none_off (clock_at setting (node_at first) h t)
lower setting h t given by m first (x ∷ rest) a c =
    let d = last_hop first rest in
    let one = hop_off setting h t given by d x (last_kept m first rest h a c.2) c.0 c.1 in
    let two = lower setting h t given by m first rest a c.2 in
    two_off (clock_at setting (node_at x) h t) (clock_at setting (node_at d) h t) (clock_at setting (node_at first) h t) (bound setting t rest)
    (hop_bound setting t x) one two

down : (setting : Setting) (h : List Line) (t : ℕ) → Given setting h → time_of (dids h) ≤ t → ChainAgrees setting h t
down setting h t given by m first rest a c but =
    let one = lower setting h t given by m first rest a c in
    let two = agreed_master setting h t given by m first.close first.cpast first.correct first.past first.reading first.older first.err a.from_round a.unchanged
    but in
    let z : pos (nat_abs (clock_at setting (node_at (last_hop first rest)) h t -ℤ clock_at setting m h t)) ≤ℤ
    (hop_bound setting t first +ℤ bound setting t rest) =
    two_off (clock_at setting (node_at (last_hop first rest)) h t) (clock_at setting (node_at first) h t) (clock_at setting m h t) (hop_bound setting t first)
    (bound setting t rest) one two in
    omega (arith, ints, z)

across_sum : (a b c d x y e f : ℤ) (w v : ℕ) → pos (nat_abs (a -ℤ b)) ≤ℤ x → pos (nat_abs (b -ℤ c)) ≤ℤ ((e +ℤ f) +ℤ pos (w + v)) → pos (nat_abs (d -ℤ c)) ≤ℤ y →
    pos (nat_abs (a -ℤ d)) ≤ℤ ((x +ℤ (e +ℤ pos w)) +ℤ (y +ℤ (f +ℤ pos v)))
across_sum a b c d x y e f w v h k l = omega (arith, ints)

across : (setting : Setting) (h : List Line) (t : ℕ) → Given setting h → time_of (dids h) ≤ t → ChainsAgree setting h t
across setting h t given by m a b xs ys x y close cpast c d =
    let one = lower setting h t given by m a xs x c in
    let two = lower setting h t given by m b ys y d in
    let cast_b : FromRound m a.close a.cpast b.correct b.past b.reading b.older b.err =
    subst (λ z. FromRound m z a.cpast b.correct b.past b.reading b.older b.err) (sym close)
    (subst (λ z. FromRound m b.close z b.correct b.past b.reading b.older b.err) (sym cpast) y.from_round) in
    let tops = agreed_peers setting h t given by m a.close a.cpast a.correct b.correct a.past b.past a.reading b.reading a.older b.older a.err b.err
    x.from_round cast_b x.unchanged y.unchanged in
    across_sum (clock_at setting (node_at (last_hop a xs)) h t) (clock_at setting (node_at a) h t) (clock_at setting (node_at b) h t)
    (clock_at setting (node_at (last_hop b ys)) h t)
    (bound setting t xs) (bound setting t ys) a.err b.err (2 * width setting.drift (t - a.reading.did.step.at))
    (2 * width setting.drift (t - b.reading.did.step.at)) one tops two

-- two clocks near a third
both_off : (a b c x y : ℤ) → pos (nat_abs (a -ℤ c)) ≤ℤ x → pos (nat_abs (b -ℤ c)) ≤ℤ y → pos (nat_abs (a -ℤ b)) ≤ℤ (x +ℤ y)
both_off a b c x y h k = omega (arith, ints)

tree : (setting : Setting) (h : List Line) (t : ℕ) → Given setting h → time_of (dids h) ≤ t → TreeAgrees setting h t
tree setting h t given by g a b xs ys x y u v c d =
    both_off (clock_at setting (node_at (last_hop a xs)) h t) (clock_at setting (node_at (last_hop b ys)) h t) (clock_at setting g h t)
    (bound setting t xs +ℤ hop_bound setting t a) (bound setting t ys +ℤ hop_bound setting t b)
    (down setting h t given by g a xs x c u) (down setting h t given by g b ys y d v)

-- at a place
pub chained_at : (setting : Setting) (h : List Line) (t : ℕ) → Given setting h → time_of (dids h) ≤ t → ChainedAt setting h t
chained_at setting h t g by = record { down = down setting h t g by; across = across setting h t g by; tree = tree setting h t g by }

pub chained : (setting : Setting) (h : List Line) → Given setting h → Chained setting h
chained setting h g = Everywhere_from (λ (l : Line) (s : List Line). (t : ℕ) → l.did.step.at ≤ t → ChainedAt setting (l ∷ s) t) h
    (λ l s w t by. chained_at setting (l ∷ s) t (given_at setting (l ∷ s) h g w) by)

abbrev hop : Line → List Line → Line → List Line → Line → List Line → ℤ → Hop
hop close cpast c past r older e = record { close = close; cpast = cpast; correct = c; past = past; reading = r; older = older; err = e }

two_links : (a : ℕ) (e f : ℤ) (v w : ℕ) → pos a ≤ℤ ((pos 0 +ℤ (e +ℤ pos w)) +ℤ (f +ℤ pos v)) → pos a ≤ℤ ((f +ℤ e) +ℤ pos (v + w))
two_links a e f v w h = omega (arith, ints)

relay_agrees : (setting : Setting) (h : List Line) (t : ℕ) → ChainAgrees setting h t → RelayAgrees setting h t
relay_agrees setting h t down g m close shut cpast spast c d past qast r q rolder qolder e f x y d_node d_in u v n =
    let first = hop shut spast d qast q qolder f in
    let second = hop close cpast c past r rolder e in
    let one : Hops m first h = record { from_round = y; unchanged = v } in
    let two : Hops (node_of d) second h = record { from_round = subst (λ k. FromRound k close cpast c past r rolder e) (sym d_node) x; unchanged = u } in
    two_links (nat_abs (clock_at setting (node_of c) h t -ℤ clock_at setting m h t)) e f (2 * width setting.drift (t - q.did.step.at))
    (2 * width setting.drift (t - r.did.step.at))
    (down m first (second ∷ []) one (two, d_in, tt) n)

pub relayed : (setting : Setting) (h : List Line) → Given setting h → Relayed setting h
relayed setting h g = Everywhere_from (λ (l : Line) (s : List Line). (t : ℕ) → l.did.step.at ≤ t → RelayAgrees setting (l ∷ s) t) h
    (λ l s w t by. relay_agrees setting (l ∷ s) t (chained_at setting (l ∷ s) t (given_at setting (l ∷ s) h g w) by).down)

-- for the theorem
pub ruleset all_agreed = (given, agreed, stay_agreed)
