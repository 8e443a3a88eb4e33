-- A measurement errs by at most half its round trip. A Sample's err is half its round trip.
use Rattle.std.proofs.Common.{sym, ap, arith, subst, subst₂, inl, inr, ◌∙◌, ◌≡◌, true, ℤ, pos, ◌+ℤ◌, ◌-ℤ◌, ◌≤ℤ◌, nat_abs, ℕ, zero, suc, ◌+◌, ◌-◌, ◌/◌, ◌≤◌, ◌⊎◌}
use Rattle.std.proofs.Common.{List, ◌∷◌, refl}
use Rattle.std.proofs.lemmas.Int.{ints}
use Rattle.tsp_rules.specs.Values.{Post, Sample, Datagram, Stamp, PeerId, Place, Peer, Port, Request, Reply, LIFE}
use Rattle.tsp_base.specs.Words.{Came, Acts, Did, Line, Seen, Here, of, dids, view, plain, all_corrects, base, boot_tick, lives, moved, target, up, word, wall}
use Rattle.tsp_base.specs.Words.{ticket, Within, half_down, half_up, sample_diff, sample_err, ReplyValue, Undisturbed, peer_of, posted}
use Rattle.tsp_base.proofs.{PlaceLemmas.Within_through, PlaceLemmas.Within_tail, Views.plain_view}
use Rattle.tsp_promises.specs.Premises.{Honest, HonestAt, Life, OwnWords, OwnWordsAt, TakenWithinAt}
use Rattle.tsp_promises.proofs.promised.OwnFitsProof.{Located, locate, fits_in, tick_in, deed_fits, own_fits, fits_at, place_time}
use Rattle.tsp_promises.specs.{Measured.MeasuredAt, Measured.Measured, Measured.TripAt, Measured.Trips, Since.Since, Since.OneLife}
use Rattle.tsp_promises.specs.{Fits.Fits, Fits.LineFits, Fits.Alive, Fits.node_of, MeasureFits.ReplyFits, MeasureFits.SampleFits}
use Rattle.tsp_promises.specs.{ClockAt.clock, Setting.Setting}
use Rattle.tsp_promises.proofs.promised.WordsProof.{Asks, SameLife, asks_up, request_fits, request_unique}
use Rattle.tsp_promises.proofs.{shared.HistoryPlaces.line_on, shared.HistoryPlaces.of_own, shared.HistoryPlaces.Within_of, promised.SendProof.number-same}
use Rattle.tsp_promises.proofs.{shared.EverywhereLemmas.Everywhere_from, shared.EverywhereLemmas.Everywhere_within, promised.KnownProof.known}
use Rattle.tsp_promises.proofs.{promised.SinceProof.since}
use Rattle.tsp_promises.proofs.{shared.RoundPlaces.started_at, shared.RoundPlaces.exchange_at, shared.SendPlaces.post_unique, shared.SendPlaces.same_number}
use Rattle.tsp_promises.proofs.{promised.ClockProof.base_is, promised.ClockProof.clock_post, shared.Clocks.tick_mono}

-- the arithmetic of an exchange
pub half_up_pos : (z : ℕ) → half_up (pos z) ≡ pos ((z + 1) / 2)
half_up_pos zero = refl
half_up_pos (suc z) = omega (arith, ints)

half : (diff err s a c d : ℤ) (y z : ℕ) → y ≤ z → c ≡ a +ℤ pos y → d -ℤ a ≡ pos z → diff ≡ sample_diff a s d → err ≡ sample_err a d →
    pos (nat_abs (diff -ℤ (s -ℤ c))) ≤ℤ err
half diff err s a c d y z h e g k l =
    let err_is : err ≡ pos ((z + 1) / 2) = l ∙ (ap half_up g ∙ half_up_pos z) in
    let diff_is : diff ≡ (s -ℤ a) -ℤ pos (z / 2) = k ∙ ap (λ w. (s -ℤ a) -ℤ half_down w) g in
    omega (arith, ints)

-- the reading of a Sample: the reply that its step takes, as its poster posted it
pub record Reading (setting : Setting) (l : Line) (world : List Line) (k : ℕ) (diff err : ℤ) (start : Did) (idle : List Seen) (reply : ReplyValue) : Type 0
  where
    pub post : Line
    pub older : List Line
    pub place : Within (post ∷ older) world
    pub deed : post.did.deed ≡ Acts (Post (Peer (peer_of (node_of l))) (Stamp (Reply reply)))
    pub node : node_of post ≡ k
    pub takes : l.did.step.cause ≡ Came (posted (dids older))
    pub number : reply.ticket ≡ ticket (dids (of k older))
    pub error : pos (nat_abs (diff -ℤ (clock setting k (post ∷ older) -ℤ clock setting (node_of l) (post ∷ older)))) ≤ℤ err
    pub undisturbed : Undisturbed (dids (of (node_of l) (post ∷ older))) (dids (of (node_of l) world))
    pub moved_is : moved (dids (of (node_of l) (post ∷ older))) ≡ moved (dids (of (node_of l) world))
    pub after : start.step.at ≤ post.did.step.at

-- from one place to a later one the node is left alone, where it is left alone from an earlier place to a still later one
record Still (old mid now : List Did) : Type 0 where
  pub all_mid : all_corrects mid ≡ all_corrects now
  pub lives_mid : lives mid ≡ lives now
  pub lives_old : lives old ≡ lives now
  pub moved_mid : moved mid ≡ moved now
  pub moved_old : moved old ≡ moved now
  pub wall_old : wall old ≡ wall now
  pub boot_old : boot_tick old ≡ boot_tick now

still : (first old mid now : List Did) → Since first old → Since old mid → Since mid now → Since old now → Undisturbed first now → Still old mid now
still first old mid now a b c d u =
    let one : OneLife old now = elim d.life [ inl o ↦ o | inr o ↦ absurd (omega (arith, a.lives, o.lives, u.lives)) ] in
    let two : OneLife mid now = elim c.life [ inl o ↦ o | inr o ↦ absurd (omega (arith, a.lives, b.lives, o.lives, u.lives)) ] in
    let all_old : all_corrects old ≡ all_corrects now = omega (arith, a.all, d.all, u.corrects) in
    let all_mid : all_corrects mid ≡ all_corrects now = omega (arith, a.all, b.all, c.all, u.corrects) in
    record {
      all_mid = all_mid;
      lives_mid = two.lives;
      lives_old = one.lives;
      moved_mid = two.still all_mid;
      moved_old = one.still all_old;
      wall_old = one.wall;
      boot_old = one.boot;
    }

-- the two clocks at the reading, and the two targets of the exchange
exchange : (w wt wn mt mm mn s diff err clock_k clock_n a d : ℤ) (bt bn tt tr tl : ℕ) → wt -ℤ pos bt ≡ w → wt ≡ wn → bt ≡ bn → mm ≡ mn → mt ≡ mn → tt ≤ tr →
    tr ≤ tl → clock_k ≡ s →
    clock_n ≡ (w +ℤ mm) +ℤ pos tr → a ≡ ((wt -ℤ pos bt) +ℤ mt) +ℤ pos tt → d ≡ ((wn -ℤ pos bn) +ℤ mn) +ℤ pos tl → diff ≡ sample_diff a s d → err ≡
    sample_err a d →
    pos (nat_abs (diff -ℤ (clock_k -ℤ clock_n))) ≤ℤ err
exchange w wt wn mt mm mn s diff err clock_k clock_n a d bt bn tt tr tl e1 e2 e3 e4 e5 o1 o2 ck cn ae de di er =
    let z : d -ℤ a ≡ pos (tl - tt) = (rw (ae, de) (omega (arith, ints))) in
    let c : clock_n ≡ a +ℤ pos (tr - tt) = (rw (ae, cn) (omega (arith, ints))) in
    rw ck (half diff err s a clock_n d (tr - tt) (tl - tt) (omega arith) c z di er)

-- with the request t, at its place in the history, and the start of the round
reading_t : (setting : Setting) (l r t : Line) (world older tw : List Line) (p : PeerId) (k counter number : ℕ) (diff err : ℤ) (w : ℕ) →
    Fits setting (l ∷ world) → (f : SampleFits l.did (view l.port (of (node_of l) world)) p counter diff err number) →
    up (dids (of (node_of l) world)) ≡ true → Within (r ∷ older) world → r.did.deed ≡ Acts (Post (Peer (peer_of (node_of l))) (Stamp (Reply f.reply))) →
    node_of r ≡ k → l.did.step.cause ≡ Came (posted (dids older)) →
    ReplyFits r.did (view r.port (of k older)) (Peer (peer_of (node_of l))) f.reply → Within (t ∷ tw) older → Asks (node_of l) t p w counter → t.did ≡ f.post →
    view l.port (of (node_of l) tw) ≡ f.older →
    Located (node_of l) l.port tw f.start f.idle → Reading setting l world k diff err f.start f.idle f.reply
reading_t setting l r t world older tw p k counter number diff err w f s l_up r_in r_deed r_node takes g t_in asks t_is seen_t sl =
    let n = node_of l in
    let fr = fits_at setting (r ∷ older) world f.1 r_in in
    let ft = fits_at setting (t ∷ tw) older fr.1 t_in in
    let own = own_fits setting n world f.1 in
    let t_world : Within (t ∷ tw) world = Within_through (t ∷ tw) (r ∷ older) world (inr t_in) r_in in
    let start_in : Within (line_on l.port s.start ∷ sl.older) tw = sl.place in
    let mid_now = since setting (of n (r ∷ older)) (of n world) own (Within_of n (r ∷ older) world r_in) in
    let own_r = own_fits setting n (r ∷ older) fr in
    let old_mid = since setting (of n (t ∷ tw)) (of n (r ∷ older)) own_r (Within_of n (t ∷ tw) (r ∷ older) (inr t_in)) in
    let old_now = since setting (of n (t ∷ tw)) (of n world) own (Within_of n (t ∷ tw) world t_world) in
    let own_t = own_fits setting n (t ∷ tw) ft in
    let first_old = since setting (of n sl.older) (of n (t ∷ tw)) own_t (Within_of n sl.older (t ∷
    tw) (inr (Within_tail (line_on l.port s.start) sl.older tw start_in))) in
    let first_is : plain s.idle ≡ dids (of n sl.older) = ap plain (sym sl.before) ∙ plain_view l.port (of n sl.older) in
    let now_is : plain (view l.port (of n world)) ≡ dids (of n world) = plain_view l.port (of n world) in
    let quiet : Undisturbed (dids (of n sl.older)) (dids (of n world)) = subst₂ (λ x y. Undisturbed x y) first_is now_is s.undisturbed in
    let st = still (dids (of n sl.older)) (dids (of n (t ∷ tw))) (dids (of n (r ∷ older))) (dids (of n world)) first_old old_mid mid_now old_now quiet in
    let t_own : dids (of n (t ∷ tw)) ≡ t.did ∷ dids (of n tw) = ap dids (of_own n t tw asks.node) in
    let moved_t : moved (dids (of n tw)) ≡ moved (dids (of n world)) = sym (ap moved t_own ∙ rw asks.deed refl) ∙ st.moved_old in
    let wall_t : wall (dids (of n tw)) ≡ wall (dids (of n world)) = sym (ap wall t_own ∙ rw asks.deed refl) ∙ st.wall_old in
    let boot_t : boot_tick (dids (of n tw)) ≡ boot_tick (dids (of n world)) = sym (ap boot_tick t_own ∙ rw asks.deed refl) ∙ st.boot_old in
    let t_up : up (dids (of n tw)) ≡ true = asks_up setting n t tw p w counter asks ft.0 in
    let lives_t : lives (dids (of n tw)) ≡ lives (dids (of n world)) = sym (ap lives t_own ∙ rw asks.deed refl) ∙ st.lives_old in
    let base_t : base (dids (of n tw)) ≡ setting.wall n (lives (dids (of n (r ∷ older)))) =
    base_is setting n tw ft.1 t_up ∙ ap (setting.wall n) (lives_t ∙ sym st.lives_mid) in
    let older_is : plain s.older ≡ dids (of n tw) = ap plain (sym seen_t) ∙ plain_view l.port (of n tw) in
    let a_is : target (plain s.older) s.post.tick ≡ target (dids (of n tw)) t.did.tick =
    subst₂ (λ x y. target x y.tick ≡ target (dids (of n tw)) t.did.tick) (sym older_is) t_is refl in
    let d_is : target (plain (view l.port (of n world))) l.did.tick ≡ target (dids (of n world)) l.did.tick = ap (λ x. target x l.did.tick) now_is in
    let t_at : t.did.step.at ≤ r.did.step.at = place_time setting (t ∷ tw) (r ∷ older) fr (inr t_in) in
    let r_at : r.did.step.at ≤ l.did.step.at = (let q = place_time setting (r ∷ older) world f.1 r_in in omega (arith, f.0.order)) in
    let tick_t : t.did.tick ≡ setting.tick n t.did.step.at = tick_in setting n t tw older fr.1 asks.node t_in in
    let m1 = tick_mono setting n t.did.step.at r.did.step.at t_at in
    let m2 = tick_mono setting n r.did.step.at l.did.step.at r_at in
    let clock_k : clock setting k (r ∷ older) ≡ s.reply.reading =
    subst (λ x. clock setting x (r ∷ older) ≡ s.reply.reading) r_node (clock_post setting r older (Peer (peer_of n)) (Stamp (Reply s.reply)) fr r_deed ∙
    sym (g.reading_is ∙ (ap (λ x. target x r.did.tick) (plain_view r.port (of k older)) ∙ ap (λ x. target (dids (of x older)) r.did.tick) (sym r_node)))) in
    record {
      post = r;
      older = older;
      place = r_in;
      deed = r_deed;
      node = r_node;
      takes = takes;
      number = g.ticket_is ∙ ap ticket (plain_view r.port (of k older));
      error = exchange (setting.wall n (lives (dids (of n (r ∷ older))))) (wall (dids (of n tw))) (wall (dids (of n world))) (moved (dids (of n tw)))
          (moved (dids (of n (r ∷ older)))) (moved (dids (of n world))) s.reply.reading diff err (clock setting k (r ∷ older)) (clock setting n (r ∷ older))
          (target (plain s.older) s.post.tick) (target (plain (view l.port (of n world))) l.did.tick) (boot_tick (dids (of n tw)))
          (boot_tick (dids (of n world))) t.did.tick (setting.tick n r.did.step.at) l.did.tick
          base_t wall_t boot_t st.moved_mid moved_t (omega arith) (omega (arith, f.0.tick)) clock_k refl a_is d_is s.diff_is s.err_is;
      undisturbed = record { corrects = st.all_mid; lives = st.lives_mid };
      moved_is = st.moved_mid;
      after = (let q = place_time setting (line_on l.port s.start ∷ sl.older) tw ft.1 start_in in omega (arith, ft.0.order));
    }

pub first_now : (q : Port) (now first : List Line) (idle : List Seen) → view q first ≡ idle → Undisturbed (plain idle) (plain (view q now)) →
    Undisturbed (dids first) (dids now)
first_now q now first idle before u = subst₂ (λ x y. Undisturbed x y) (ap plain (sym before) ∙ plain_view q first) (plain_view q now) u

-- the request has the word that its node still has
word_now : (setting : Setting) (n : ℕ) (t start : Line) (tw sw world : List Line) (p : PeerId) (w c : ℕ) → Fits setting world → Within (t ∷ tw) world →
    Within (start ∷ sw) tw → Asks n t p w c → Undisturbed (dids (of n sw)) (dids (of n world)) → w ≡ word (dids (of n world))
word_now setting n t start tw sw world p w c f t_in s_in asks u =
    let own = own_fits setting n world f in
    let tw_in : Within tw world = Within_tail t tw world t_in in
    let sw_in : Within sw tw = Within_tail start sw tw s_in in
    let g = request_fits setting n t tw p w c asks (fits_in setting t tw world f t_in) in
    let a = since setting (of n tw) (of n world) own (Within_of n tw world tw_in) in
    let b = since setting (of n sw) (of n tw) (own_fits setting n tw (fits_at setting tw world f tw_in)) (Within_of n sw tw sw_in) in
    let life : OneLife (dids (of n tw)) (dids (of n world)) = elim a.life [ inl o ↦ o | inr o ↦ absurd (omega (arith, b.lives, o.lives, u.lives)) ] in
    (g.word_is ∙ ap word (plain_view t.port (of n tw))) ∙ life.word

-- no datagram outlives LIFE, or the words of boots of one node differ
abbrev pub LifeOrWords : List Line → Type 0
LifeOrWords h = Life h ⊎ OwnWords h

pub life_or_words_at : (s h : List Line) → LifeOrWords h → Within s h → LifeOrWords s
life_or_words_at s h (inl life) w = inl (Everywhere_within (TakenWithinAt LIFE) s h life w)
life_or_words_at s h (inr words) w = inr (Everywhere_within OwnWordsAt s h words w)

-- with the request q that the reply r answers
reading_q : (setting : Setting) (l r q : Line) (world older a : List Line) (p : PeerId) (counter number : ℕ) (diff err : ℤ) → Fits setting (l ∷ world) →
    (f : SampleFits l.did (view l.port (of (node_of l) world)) p counter diff err number) → up (dids (of (node_of l) world)) ≡ true → Within (r ∷ older) world →
    r.did.deed ≡ Acts (Post (Peer (peer_of (node_of l))) (Stamp (Reply f.reply))) → l.did.step.cause ≡ Came (posted (dids older)) →
    ReplyFits r.did (view r.port (of (node_of r) older)) (Peer (peer_of (node_of l))) f.reply →
    Within (q ∷ a) older → q.did.deed ≡ Acts (Post (Peer (peer_of (node_of r))) (Stamp (Request f.reply.word f.reply.counter))) → node_of q ≡ node_of l →
    q.port ≡ l.port →
    (l.did.step.at ≤ q.did.step.at + 60000000) ⊎ OwnWords world → Reading setting l world (node_of r) diff err f.start f.idle f.reply
reading_q setting l r q world older a p counter number diff err w s l_up r_in r_deed takes g q_in q_deed q_node q_port why =
    let n = node_of l in
    let seen = view l.port (of n world) in
    let e = exchange_at p counter seen s.post s.older s.exchange_is in
    let t = locate n l.port world s.post s.older (rw e.deed refl) e.place in
    let tl = line_on l.port s.post in
    let asks_q : Asks n q (peer_of (node_of r)) s.reply.word s.reply.counter = record { node = q_node; deed = q_deed } in
    let asks_t : Asks n tl p e.word counter = record { node = t.node; deed = e.deed } in
    let q_world : Within (q ∷ a) world = Within_through (q ∷ a) (r ∷ older) world (inr q_in) r_in in
    let start_in : Within (Here s.start ∷ s.idle) (view l.port (of n t.older)) = subst (λ x. Within (Here s.start ∷ s.idle) x) (sym t.before)
    (e.after s.start s.idle s.start_is) in
    let sl = locate n l.port t.older s.start s.idle (rw (started_at seen s.start s.idle s.start_is).deed refl) start_in in
    let first : Undisturbed (dids (of n sl.older)) (dids (of n world)) = first_now l.port (of n world) (of n sl.older) s.idle sl.before s.undisturbed in
    let word_is : s.reply.word ≡ e.word =
    (s.word_is ∙ ap word (plain_view l.port (of n world))) ∙ sym (word_now setting n tl (line_on l.port s.start) t.older sl.older world p e.word counter w.1
    t.place sl.place asks_t first) in
    let now_in : Within t.older world = Within_tail tl t.older world t.place in
    let s_t = since setting (of n sl.older) (of n t.older) (own_fits setting n t.older (fits_at setting t.older world w.1 now_in))
    (Within_of n sl.older t.older (Within_tail (line_on l.port s.start) sl.older t.older sl.place)) in
    let t_w = since setting (of n t.older) (of n world) (own_fits setting n world w.1) (Within_of n t.older world now_in) in
    let kept : lives (dids (of n t.older)) ≡ lives (dids (of n world)) = omega (arith, s_t.lives, t_w.lives, first.lives) in
    let one : SameLife q tl world s.reply.word e.word = elim why [
      | inl soon ↦ inl (let o = place_time setting (tl ∷ t.older) world w.1 t.place in omega (arith, w.0.order, soon))
      | inr words ↦ inr (words, word_is)
    ] in
    let same = request_unique setting n q tl a t.older world (peer_of (node_of r)) p s.reply.word s.reply.counter e.word counter w.1 q_world t.place asks_q
    asks_t q_port one kept s.counter_is in
    reading_t setting l r tl world older t.older p (node_of r) counter number diff err e.word w s l_up r_in r_deed refl takes g
    (subst (λ x. Within x older) same q_in) asks_t refl t.before sl

pub sample_fits : (setting : Setting) (l : Line) (world : List Line) (p : PeerId) (counter number : ℕ) (diff err : ℤ) → LineFits setting l world → l.did.deed ≡
    Acts (Sample p counter diff err number) →
    SampleFits l.did (view l.port (of (node_of l) world)) p counter diff err number
sample_fits setting l world p counter number diff err f is = deed_fits setting l world (Acts (Sample p counter diff err number)) is f

pub reading_at : (setting : Setting) (l : Line) (world : List Line) (p : PeerId) (counter number : ℕ) (diff err : ℤ) → Fits setting (l ∷ world) →
    Honest (l ∷ world) → LifeOrWords (l ∷ world) → l.did.deed ≡ Acts (Sample p counter diff err number) →
    (s : SampleFits l.did (view l.port (of (node_of l) world)) p counter diff err number) → Reading setting l world p.0 diff err s.start s.idle s.reply
reading_at setting l world p counter number diff err f h why is s =
    let n = node_of l in
    let r = known setting l world (Sample p counter diff err number) p (Stamp (Reply s.reply)) f h is s.took in
    let fr = fits_at setting (r.post ∷ r.older) world f.1 r.place in
    let hr = Everywhere_within HonestAt (r.post ∷ r.older) world h.1 r.place in
    let g : ReplyFits r.post.did (view r.post.port (of (node_of r.post) r.older)) (Peer (peer_of n)) s.reply =
    (deed_fits setting r.post r.older (Acts (Post (Peer (peer_of n)) (Stamp (Reply s.reply)))) r.deed fr.0).fits in
    let q = known setting r.post r.older (Post (Peer (peer_of n)) (Stamp (Reply s.reply))) (peer_of n) (Stamp (Request s.reply.word s.reply.counter)) fr hr
    r.deed g.took in
    let near : (l.did.step.at ≤ q.post.did.step.at + 60000000) ⊎ OwnWords world = elim why [
      | inl life ↦
          let to_r = life.0 r.post r.older (Peer (peer_of n)) (Stamp (Reply s.reply)) r.place r.deed r.takes in
          let to_q = (Everywhere_within (TakenWithinAt LIFE) (r.post ∷ r.older) world life.1 r.place).0 q.post q.older (Peer (peer_of (node_of r.post)))
          (Stamp (Request s.reply.word s.reply.counter)) q.place q.deed q.takes in
          inl (omega (arith, to_r, to_q))
      | inr words ↦ inr words.1
    ] in
    let q_node : node_of q.post ≡ n = number-same (node_of q.post) n q.node in
    let net : setting.net n q.post.port ≡ setting.net n l.port = subst (λ k. setting.net k q.post.port ≡ setting.net n l.port) {x = node_of q.post} q_node
    (◌∙◌ {a = setting.net (node_of q.post) q.post.port} q.net r.net) in
    let l_up : up (dids (of n world)) ≡ true = subst (λ k. Alive setting k l.did (dids (of n world))) is f.0.alive in
    subst (λ k. Reading setting l world k diff err s.start s.idle s.reply) {x = node_of r.post} (ap (λ (z : PeerId). z.0) r.node)
    (reading_q setting l r.post q.post world r.older q.older p counter number diff err f s l_up r.place r.deed r.takes g q.place q.deed q_node
    (setting.apart n q.post.port l.port net) near)

-- the reading is the post that the step takes
pub reading_is : (setting : Setting) (l : Line) (world : List Line) (k : ℕ) (diff err : ℤ) (start : Did) (idle : List Seen) (reply : ReplyValue) (post : Line)
    (older : List Line) (to : Place) (datagram : Datagram) →
    (r : Reading setting l world k diff err start idle reply) → Within (post ∷ older) world → post.did.deed ≡ Acts (Post to datagram) → l.did.step.cause ≡
    Came (posted (dids older)) → r.post ∷ r.older ≡ post ∷ older
reading_is setting l world k diff err start idle reply post older to datagram r w deed takes =
    post_unique world r.post post r.older older (Peer (peer_of (node_of l))) to (Stamp (Reply reply)) datagram r.place w r.deed deed
    (same_number (posted (dids r.older)) (posted (dids older)) (sym r.takes ∙ takes))

measured_at : (setting : Setting) (l : Line) (world : List Line) → Fits setting (l ∷ world) → Honest (l ∷ world) → LifeOrWords (l ∷ world) →
    MeasuredAt setting l world
measured_at setting l world f h why p counter diff err number is =
    let s = sample_fits setting l world p counter number diff err f.0 is in
    let r = reading_at setting l world p counter number diff err f h why is s in
    record { post = r.post; older = r.older; place = r.place; takes = r.takes; from = ap peer_of r.node; reply = s.reply; deed = r.deed; near = r.error }

pub measured : (setting : Setting) (world : List Line) → Fits setting world → Honest world → LifeOrWords world → Measured setting world
measured setting world f h why = Everywhere_from (MeasuredAt setting) world (λ l s w.
    measured_at setting l s (fits_at setting (l ∷ s) world f w) (Everywhere_within HonestAt (l ∷ s) world h w) (life_or_words_at (l ∷ s) world why w))

pub trips : (setting : Setting) (world : List Line) → Fits setting world → Trips world
trips setting world f = Everywhere_from TripAt world (λ l before w p counter diff err number is.
    let s = sample_fits setting l before p counter number diff err (fits_in setting l before world f w) is in
    record { request = s.post; older = s.older; going = s.going; exchange_is = s.exchange_is; err_is = s.err_is })
