-- The error of a reading is at most half of its round, and the rounds of a port stand apart.
use Rattle.std.proofs.Common.{sym, ap, arith, subst, subst₂, inl, inr, ◌∙◌, ◌≡◌, ◌≤◌, ◌≤ℤ◌, ℕ, ◌+◌, ◌-◌, ◌/◌, ℤ, pos, ◌+ℤ◌, ◌-ℤ◌, List, ◌∷◌, refl, true≢false}
use Rattle.std.proofs.Common.{◌==◌, ◌||◌, ◌⊎◌, Bool, true, false, [], Option, None, Some, is_some}
use Rattle.std.proofs.lemmas.Int.{ints}
use Rattle.tsp_rules.specs.Values.{Port, Boot, Become, Arm, Ring, Late, Abandon, Close, CloseAlarm, CLOSE, ROUND, SLACK}
use Rattle.tsp_base.specs.Words.{Did, Line, Here, of, dids, plain, view, all_corrects, boot_tick, moved, target, tick_of, wall, Within, half_up, peer_of, Acts}
use Rattle.tsp_base.specs.Words.{Deed, Seen, seen_as, is_shared, lives, lives_after, armed, armed_after, is_going, started, started_after, Setup}
use Rattle.tsp_base.proofs.{PlaceLemmas.Within_tail, Views.plain_view}
use Rattle.tsp_promises.proofs.promised.OwnFitsProof.{fits_in, locate, own_tick, fits_at, own_fits, deed_fits, view_line}
use Rattle.tsp_promises.specs.{Seldom.ErrAt, Seldom.ErrsBounded, Fits.Fits, Fits.node_of, Fits.Sees, MeasureFits.SampleFits}
use Rattle.tsp_promises.specs.{RoundFits.CloseFits, RoundFits.StartFits, Seldom.Seldom, Seldom.SeldomAt, Setting.Setting, Setting.setup_of}
use Rattle.tsp_promises.specs.{DeedFits.DeedFits, OwnFits.OwnFits, Since.OneLife}
use Rattle.tsp_promises.proofs.shared.RoundPlaces.{best_at, exchange_at, same_start, started_at}
use Rattle.tsp_promises.proofs.shared.HistoryPlaces.{of_own, Within_of, line_on, own_in}
use Rattle.tsp_promises.proofs.{promised.MeasuredProof.first_now, promised.MeasuredProof.half_up_pos, promised.MeasuredProof.sample_fits}
use Rattle.tsp_promises.proofs.{promised.TakingProof.cast_kind, promised.TakingProof.taking_of, promised.TakingProof.begun_facts, promised.TakingProof.used_by}
use Rattle.tsp_promises.proofs.{shared.EverywhereLemmas.Everywhere_from, promised.SinceProof.lasting, promised.SinceProof.since}

-- a sample's error is half the ticks from its request, which stands in the round, to itself
record Trip (err : ℤ) (start last : ℕ) : Type 0 where
  pub request : ℕ
  pub sampled : ℕ
  pub err_is : err ≡ pos ((sampled - request + 1) / 2)
  pub from : start ≤ request
  pub order : request ≤ sampled
  pub to : sampled ≤ last

-- two targets of a clock that was left alone between
apart : (wt wl mt ml : ℤ) (bt bl tt tl : ℕ) → wt ≡ wl → bt ≡ bl → mt ≡ ml → tt ≤ tl → (((wl -ℤ pos bl) +ℤ ml) +ℤ pos tl) -ℤ (((wt -ℤ pos bt) +ℤ mt) +ℤ pos tt) ≡
    pos (tl - tt)
apart wt wl mt ml bt bl tt tl e f g h = omega (arith, ints)

-- the tick of a line stands no later than what its node has done since
tick_by : (setting : Setting) (n : ℕ) (l : Line) (s h : List Line) → Fits setting h → node_of l ≡ n → Within (l ∷ s) h → l.did.tick ≤ tick_of (dids (of n h))
tick_by setting n l s h f node w =
    let i = since setting (of n (l ∷ s)) (of n h) (own_fits setting n h f) (Within_of n (l ∷ s) h w) in
    subst (λ z. tick_of (dids z) ≤ tick_of (dids (of n h))) (of_own n l s node) i.tick

own_by : (setting : Setting) (n : ℕ) (l : Line) (s : List Line) → Fits setting (l ∷ s) → node_of l ≡ n → tick_of (dids (of n s)) ≤ l.did.tick
own_by setting n l s f node = subst (λ k. tick_of (dids (of k s)) ≤ l.did.tick) node (own_tick setting l s f)

-- of a Sample that stands in the history
trip_of : (setting : Setting) (m k : ℕ) (q : Port) (d : Did) (lo cpast : List Line) (counter number : ℕ) (diff err : ℤ) → Fits setting cpast → d.step.node ≡ m →
    Within (line_on q d ∷ lo) cpast →
    (s : SampleFits d (view q (of m lo)) (peer_of k) counter diff err number) → Trip err s.start.tick (tick_of (dids (of m cpast)))
trip_of setting m k q d lo cpast counter number diff err f node place s =
    let seen = view q (of m lo) in
    let fl = fits_at setting (line_on q d ∷ lo) cpast f place in
    let e = exchange_at (peer_of k) counter seen s.post s.older s.exchange_is in
    let t = locate m q lo s.post s.older (rw e.deed refl) e.place in
    let start_in : Within (Here s.start ∷ s.idle) (view q (of m t.older)) = subst (λ x. Within (Here s.start ∷ s.idle) x) (sym t.before)
    (e.after s.start s.idle s.start_is) in
    let sl = locate m q t.older s.start s.idle (rw (started_at seen s.start s.idle s.start_is).deed refl) start_in in
    let ft = fits_at setting (line_on q s.post ∷ t.older) lo fl.1 t.place in
    let old_in : Within t.older lo = Within_tail (line_on q s.post) t.older lo t.place in
    let first = first_now q (of m lo) (of m sl.older) s.idle sl.before s.undisturbed in
    let one = since setting (of m sl.older) (of m t.older) (own_fits setting m t.older ft.1)
    (Within_of m sl.older t.older (Within_tail (line_on q s.start) sl.older t.older sl.place)) in
    let two = since setting (of m t.older) (of m lo) (own_fits setting m lo fl.1) (Within_of m t.older lo old_in) in
    let life : OneLife (dids (of m t.older)) (dids (of m lo)) = elim two.life [ inl o ↦ o | inr o ↦ absurd (omega (arith, one.lives, o.lives, first.lives)) ] in
    let all : all_corrects (dids (of m t.older)) ≡ all_corrects (dids (of m lo)) = omega (arith, one.all, two.all, first.corrects) in
    let start_t = tick_by setting m (line_on q s.start) sl.older t.older ft.1 sl.node sl.place in
    let t_own = own_by setting m (line_on q s.post) t.older ft t.node in
    let t_l = tick_by setting m (line_on q s.post) t.older lo fl.1 t.node t.place in
    let l_own = own_by setting m (line_on q d) lo fl node in
    let older_is : plain s.older ≡ dids (of m t.older) = ap plain (sym t.before) ∙ plain_view q (of m t.older) in
    let now_is : plain seen ≡ dids (of m lo) = plain_view q (of m lo) in
    let order : s.post.tick ≤ d.tick = omega (arith, t_l, l_own) in
    let gap : target (dids (of m lo)) d.tick -ℤ target (dids (of m t.older)) s.post.tick ≡ pos (d.tick - s.post.tick) =
    apart (wall (dids (of m t.older))) (wall (dids (of m lo))) (moved (dids (of m t.older))) (moved (dids (of m lo))) (boot_tick (dids (of m t.older)))
    (boot_tick (dids (of m lo))) s.post.tick d.tick life.wall life.boot (life.still all) order in
    let half : err ≡ half_up (target (dids (of m lo)) d.tick -ℤ target (dids (of m t.older)) s.post.tick) =
    subst₂ (λ x y. err ≡ half_up (target y d.tick -ℤ target x s.post.tick)) older_is now_is s.err_is in
    record {
      request = s.post.tick;
      sampled = d.tick;
      err_is = half ∙ (ap half_up gap ∙ half_up_pos (d.tick - s.post.tick));
      from = omega (arith, start_t, t_own);
      order = order;
      to = tick_by setting m (line_on q d) lo cpast f node place;
    }

at_most_half : (err : ℤ) (start last close : ℕ) → Trip err start last → last ≤ close → close ≤ start + 9000000 → err ≤ℤ pos 4500000
at_most_half err start last close t a b =
    let half : (t.sampled - t.request + 1) / 2 ≤ 4500000 = (let x = t.from in let y = t.order in let z = t.to in omega arith) in
    let e = t.err_is in
    omega (arith, ints, half, e)

pub errs_bounded : (setting : Setting) (world : List Line) → Fits setting world → ErrsBounded world
errs_bounded setting whole h = Everywhere_from ErrAt whole (λ l world w m close cpast r older err x.
    let f = fits_at setting (l ∷ world) whole h w in
    let k = node_of l in
    let q = x.post.port in
    let kind = cast_kind setting m close cpast l world r older err f x in
    let taking = taking_of x kind in
    let from = (begun_facts setting m l world f taking).fits.from in
    let u = (used_by x.first x.begun (peer_of k) x.acts.brings.message close.did (view q (of m cpast)) x.sample (inl kind) x.close_is x.best_is from).from in
    let fc = fits_at setting (close ∷ cpast) world f.1 x.closes in
    let b = best_at (peer_of k) (view q (of m cpast)) x.sample x.best_is in
    let lb = locate m q cpast b.did b.rest (rw b.deed refl) b.place in
    let s = subst (λ n. SampleFits b.did (view q (of n lb.older)) (peer_of k) x.sample.counter x.sample.diff x.sample.err x.sample.ticket) lb.node
    (sample_fits setting (line_on q b.did) lb.older (peer_of k) x.sample.counter x.sample.ticket x.sample.diff x.sample.err
    (fits_in setting (line_on q b.did) lb.older cpast fc.1 lb.place) b.deed) in
    let trip = trip_of setting m k q b.did lb.older cpast x.sample.counter x.sample.ticket x.sample.diff x.sample.err fc.1 lb.node lb.place s in
    let same = same_start s.start u.start s.idle u.idle (view q (of m lb.older)) b.rest (view q (of m cpast)) s.start_is (sym lb.before) b.round u.start_is in
    let soon : close.did.tick ≤ s.start.tick + 9000000 = subst (λ (z : Did). close.did.tick ≤ z.tick + 9000000) (sym same) u.soon in
    subst (λ e. e ≤ℤ pos 4500000) x.err_is (at_most_half x.sample.err s.start.tick (tick_of (dids (of m cpast))) close.did.tick trip
    (own_by setting m close cpast fc x.close_node) soon))

-- what stands after a round's end: no other round yet, or one that began ROUND later
abbrev Ahead : Did → List Seen → List Seen → Option ℕ → Type 0
Ahead first idle st close = ((st ≡ Here first ∷ idle) × (close ≡ None)) ⊎ ((start : Did) ×
    ((rest : List Seen) × ((st ≡ Here start ∷ rest) × (first.tick + ROUND ≤ start.tick))))

shut : (first : Did) (idle st : List Seen) (close : Option ℕ) → Ahead first idle st close → Ahead first idle st None
shut first idle st close (inl h) = inl (h.0, refl)
shut first idle st close (inr h) = inr h

begins_later : (first : Did) (idle : List Seen) (d : Did) (before : List Seen) (close : Option ℕ) (at : ℕ) → StartFits d before →
    Ahead first idle (started before) close → Ahead first idle (Here d ∷ before) (Some at)
begins_later first idle d before close at f (inl h) = inr (d, (before, (refl, f.spaced first idle h.0)))
begins_later first idle d before close at f (inr h) = let s = f.spaced h.0 h.1.0 h.1.1.0 in let e = h.1.1.1 in inr (d, (before, (refl, omega (arith, s, e))))

-- by what the deed is, which is no boot
by_deed_holds : (setup : Setup) (first : Did) (idle : List Seen) (d : Did) (before : List Seen) (deed : Deed) (n : ℕ) → DeedFits setup deed d before →
    lives_after deed n ≡ n → Ahead first idle (started before) (armed before).close →
    Ahead first idle (started_after deed (Here d ∷ before) (started before)) (armed_after deed (armed before)).close
by_deed_holds setup first idle d before (Acts Boot) n f e h = absurd (omega arith)
by_deed_holds setup first idle d before (Acts (Arm CloseAlarm at)) n f e h = begins_later first idle d before (armed before).close at f h
by_deed_holds setup first idle d before (Acts (Become r)) n f e h = shut first idle (started before) (armed before).close h
by_deed_holds setup first idle d before (Acts (Ring CloseAlarm)) n f e h = shut first idle (started before) (armed before).close h
by_deed_holds setup first idle d before (Acts (Late CloseAlarm)) n f e h = shut first idle (started before) (armed before).close h
by_deed_holds setup first idle d before (Acts Abandon) n f e h = shut first idle (started before) (armed before).close h
by_deed_holds setup first idle d before _ n f e h = h

module _ (setting : Setting) (q : Port) (first : Did) (idle : List Seen) where
  one-more : (l : Line) (t : List Line) → ((r : Port) → Sees r l → DeedFits (setup_of setting (node_of l) r) l.did.deed l.did (view r t)) →
      lives_after l.did.deed (lives (dids t)) ≡ lives (dids t) → Ahead first idle (started (view q t)) (armed (view q t)).close →
      (b : Bool) → ((l.port.0 == q.0) || is_shared l.did.deed) ≡ b → Ahead first idle (started (seen_as b l.did ∷ view q t)) (armed (seen_as b l.did ∷
      view q t)).close
  one-more l t deeds same h true e = by_deed_holds (setup_of setting (node_of l) q) first idle l.did (view q t) l.did.deed (lives (dids t)) (deeds q e) same h
  one-more l t deeds same h false e = h

  -- from a place where the round has ended, in one life
  along : (s t : List Line) → OwnFits setting t → Within s t → lives (dids s) ≡ lives (dids t) → started (view q s) ≡ Here first ∷ idle →
      (armed (view q s)).close ≡ None → Ahead first idle (started (view q t)) (armed (view q t)).close
  along s t f w life st shut_is = lasting setting (λ t. Ahead first idle (started (view q t)) (armed (view q t)).close) s t f w life (inl (st, shut_is))
      (λ l t o i k by h. one-more l t o.deeds k h ((l.port.0 == q.0) || is_shared l.did.deed) refl)

-- the line before a Close rang its alarm
record Rang (q : Port) (own : List Line) (past : List Seen) (ring : Did) : Type 0 where
  pub line : Line
  pub rest : List Line
  pub own_is : own ≡ line ∷ rest
  pub did_is : line.did ≡ ring
  pub past_is : view q rest ≡ past

rang : (q : Port) (own : List Line) (past : List Seen) (ring : Did) → view q own ≡ Here ring ∷ past → Rang q own past ring
rang q [] past ring e = let bad : ⊥ = cc in absurd bad
rang q (l ∷ rest) past ring e = seen ((l.port.0 == q.0) || is_shared l.did.deed) e where
  seen : (b : Bool) → seen_as b l.did ∷ view q rest ≡ Here ring ∷ past → Rang q (l ∷ rest) past ring
  seen true k = record { line = l; rest = rest; own_is = refl; did_is = cc; past_is = cc }
  seen false k = let bad : ⊥ = cc in absurd bad

-- the earlier Close isn't the Ring right before the later one
before_ring : (first : Line) (older rest : List Line) (line : Line) (ring : Did) (count : ℕ) (lo size mean : ℤ) → first.did.deed ≡
    Acts (Close count lo size mean) → line.did ≡ ring → ring.deed ≡ Acts (Ring CloseAlarm) → Within (first ∷ older) (line ∷ rest) → Within (first ∷ older) rest
before_ring first older rest line ring count lo size mean deed is rings (inl e) =
    let same : first ≡ line = cc in
    let deeds = sym deed ∙ (ap (λ (z : Line). z.did.deed) same ∙ (ap (λ (z : Did). z.deed) is ∙ rings)) in
    let bad : ⊥ = cc in absurd bad
before_ring first older rest line ring count lo size mean deed is rings (inr w) = w

closes_apart : (first now other then_start : Did) (idle later : List Seen) (st : List Seen) (close : Option ℕ) → Ahead first idle st close → is_some close ≡
    true → st ≡ Here then_start ∷ later → other.tick ≤ first.tick + (CLOSE + SLACK) → then_start.tick + CLOSE ≤ now.tick →
    other.tick + (ROUND - SLACK) ≤ now.tick
closes_apart first now other then_start idle later st close (inl h) going is soon over = absurd (true≢false (sym going ∙ ap (λ o. is_some o) h.1))
closes_apart first now other then_start idle later st close (inr h) going is soon over =
    let places : Here h.0 ∷ h.1.0 ≡ Here then_start ∷ later = sym h.1.1.0 ∙ is in
    let same : h.0 ≡ then_start = cc in
    let later_is : first.tick + ROUND ≤ then_start.tick = subst (λ (z : Did). first.tick + ROUND ≤ z.tick) same h.1.1.1 in
    omega (arith, later_is, soon, over)

pub seldom : (setting : Setting) (world : List Line) → Fits setting world → Seldom world
seldom setting whole h = Everywhere_from SeldomAt whole (λ l world w other older count n lo size mean low long middle deed place node port was life.
    let f = fits_at setting (l ∷ world) whole h w in
    let m = node_of l in
    let q = l.port in
    let cf = deed_fits setting l world (Acts (Close count lo size mean)) deed f.0 in
    let fo = fits_in setting other older world f.1 place in
    let co : CloseFits other.did (view q (of m older)) = subst (λ p. CloseFits other.did (view p (of m older))) port
    (subst (λ k. CloseFits other.did (view other.port (of k older))) node (deed_fits setting other older (Acts (Close n low long middle)) was fo)) in
    let r = rang q (of m world) cf.past cf.ring cf.is in
    let own_o : of m (other ∷ older) ≡ other ∷ of m older = of_own m other older node in
    let own = own_in m other older world node place in
    let in_rest = before_ring other (of m older) r.rest r.line cf.ring n low long middle was r.did_is cf.rings
    (subst (λ z. Within (other ∷ of m older) z) r.own_is own) in
    let fits : OwnFits setting (r.line ∷ r.rest) = subst (OwnFits setting) r.own_is (own_fits setting m world f.1) in
    let seen : view q (other ∷ of m older) ≡ Here other.did ∷ view q (of m older) = ap (view q) (sym own_o) ∙
    subst (λ p. view p (of m (other ∷ older)) ≡ Here other.did ∷ view p (of m older)) port (view_line m other older node) in
    let st : started (view q (other ∷ of m older)) ≡ Here co.start ∷ co.idle = ap started seen ∙ (rw was refl ∙ co.start_is) in
    let shut_is : (armed (view q (other ∷ of m older))).close ≡ None = ap (λ z. (armed z).close) seen ∙
    (rw was refl ∙ (ap (λ z. (armed z).close) co.is ∙ rw co.rings refl)) in
    let lives_o : lives (dids (other ∷ of m older)) ≡ lives (dids (of m older)) = rw was refl in
    let ring_deed : r.line.did.deed ≡ Acts (Ring CloseAlarm) = ap (λ (z : Did). z.deed) r.did_is ∙ cf.rings in
    let lives_r : lives (dids (r.line ∷ r.rest)) ≡ lives (dids r.rest) = rw ring_deed refl in
    let lives_is : lives (dids (other ∷ of m older)) ≡ lives (dids r.rest) = lives_o ∙ (life ∙ (ap (λ z. lives (dids z)) r.own_is ∙ lives_r)) in
    let ahead = along setting q co.start co.idle (other ∷ of m older) r.rest fits.1 in_rest lives_is st shut_is in
    let going : is_some (armed (view q r.rest)).close ≡ true = ap is_going r.past_is ∙ cf.going in
    let rung : started (Here cf.ring ∷ cf.past) ≡ started cf.past = rw cf.rings refl in
    let begun : started (view q r.rest) ≡ Here cf.start ∷ cf.idle = ap started r.past_is ∙ (sym rung ∙ (sym (ap started cf.is) ∙ cf.start_is)) in
    closes_apart co.start l.did other.did cf.start co.idle cf.idle (started (view q r.rest)) (armed (view q r.rest)).close ahead going begun co.soon cf.over)
