-- One follower is moved by one round of its master.
use Rattle.std.proofs.Common.{sym, ap, subst, arith, true≢false, inl, inr, ◌∙◌, ◌≡◌, ◌≤◌, ◌<◌, ◌&&◌, ℕ, ◌+◌, ◌==◌, ◌+ℤ◌, ℤ, Bool, true}
use Rattle.std.proofs.Common.{false, List, ◌∷◌, Option, None, Some, length, eq-eqb, le-leb, refl}
use Rattle.tsp_rules.specs.Values.{Correct, GAP, Message, Peer, PeerId, Post}
use Rattle.tsp_rules.specs.{ClockRows.can_adjust, Guards.is_clock_value, SlaveRows.is_next, SlaveRows.takes_amount}
use Rattle.tsp_base.specs.Words.{Acts, Did, Estimate, HeaderValue, Here, Line, Past, Sampled, Step, Within, best}
use Rattle.tsp_base.specs.Words.{correct_tick, dids, estimate_of, first_port, is_among, is_past, of, peer_of, plain, posted, started}
use Rattle.tsp_base.specs.Words.{target, ticket, time_in, time_of, view}
use Rattle.tsp_base.proofs.{PlaceLemmas.Within_comparable, PlaceLemmas.Within_tail, PlaceLemmas.Within_through, Views.plain_view}
use Rattle.tsp_promises.specs.{Agreed.Unchanged, Fits.node_of, RoundFits.CloseFits, Setting.Setting}
use Rattle.tsp_promises.proofs.{shared.HistoryPlaces.line_on, shared.HistoryPlaces.of_own, shared.Clocks.near}
use Rattle.tsp_promises.proofs.{promised.MeasuredProof.reading_at, promised.MeasuredProof.sample_fits}
use Rattle.tsp_promises.proofs.{shared.RoundPlaces.best_at, shared.RoundPlaces.same_start, promised.SinceProof.last_by, shared.SendPlaces.post_unique}
use Rattle.tsp_promises.proofs.{shared.SendPlaces.same_number}
use Rattle.tsp_promises.proofs.promised.OwnFitsProof.{Given, Located, fits_at, fits_in, given_at, locate, of_tick, own_fits, place_time, tick_in}
use Rattle.tsp_run.specs.Clocked.{Clocks}
use Rattle.tsp_progress.specs.{ByTable.node_in, FollowOn.AfterPlace, LateClose.LateClose, LateClose.OfRound, Obeyed.Adjusts, Obeyed.MovedIn, Obeyed.Obeyed}
use Rattle.tsp_progress.specs.{SentAway.past_there, SlewsTable.Slews, TakesRounds.NoneSince, TakesRounds.TakesRound}
use Rattle.tsp_progress.specs.TicketKept.{TicketStays}
use Rattle.tsp_progress.proofs.{AllAsked.Tended, AllAsked.on_first, CorrectBetween.Between, CorrectBetween.NoneBetween, CorrectBetween.between}
use Rattle.tsp_progress.proofs.{CorrectBetween.last_is}
use Rattle.tsp_progress.proofs.{LateCloses.after_time, LateCloses.older_posts, LateCloses.port as close_port_is, LateCloses.since, MovedByProof.moved_by_master}
use Rattle.tsp_progress.proofs.{ObeyedProof.all_obey, RoundCorrects.not_again, RoundCorrects.of_round, SlewsProof.slews_table, TableSampled.begin_at}
use Rattle.tsp_progress.proofs.{TableSampled.begin_since, TableSampled.begin_young, TableSampled.close_fits, TicketProof.keeps_ticket}

-- what an estimate rests on
sample_of : (o : Option Sampled) (b : Estimate) → estimate_of o ≡ Some b → (x : Sampled) × ((o ≡ Some x) × (b.ticket ≡ x.ticket))
sample_of None b e = let bad : ⊥ = cc in absurd bad
sample_of (Some x) b e = (
  x,
  (
    refl,
    let same : Some (record { diff = x.diff; ticket = x.ticket }) ≡ Some b = e in
        let tickets : (let k : Estimate = record { diff = x.diff; ticket = x.ticket } in k) ≡ b = cc in sym (ap (λ (k : Estimate). k.ticket) tickets),
  ),
)

module _ {clocks : Clocks} {header : HeaderValue} {setting : Setting} (late long t : ℕ) (stays : ℕ → Bool) (c : ℕ) (s world : List Line)
    (a : Tended clocks header setting late long t stays c s world) (whole : Given setting world) (C : Line) (cp : List Line)
    (r : LateClose long t c s C cp world) (early : C.did.step.at + long < t) (n : ℕ) (there : stays n ≡ true) (other : (n == c) ≡ false)
    (single : length (node_in header n).ports ≡ 1) where
  abbrev P : PeerId
  P = peer_of n

  short : long ≤ 4000000
  short = let swift = a.swift in omega (arith, swift)

  cp-in : Within cp world
  cp-in = Within_tail C cp world r.place

  since-cp : Within s cp
  since-cp = since setting world a.fits long t c stays s a.s_in a.calm (on_first a) C cp r

  abbrev Cf : CloseFits C.did (view first_port (of c cp))
  Cf = close_fits setting world a.fits long t c stays s a.s_in a.calm (on_first a) C cp r

  young : C.did.step.at ≤ Cf.start.step.at + 9009011
  young = begin_young setting world a.fits long t c stays s a.s_in a.calm (on_first a) C cp r

  sl : Slews c n r.mean C cp world
  sl = (slews_table late long t stays c s world a).each C cp r n there other

  post-at : sl.post.did.step.at ≡ C.did.step.at
  post-at = ap (λ (z : Step). z.at) sl.same

  -- a Correct of the node after the Close, and soon, is of this round
  module _ (K : Line) (W : List Line) (place : Within (K ∷ W) world) (node : node_of K ≡ n) (after : Within (C ∷ cp) W)
      (soon : K.did.step.at ≤ C.did.step.at + long) (amount : ℤ) (stepped : Bool) (shown : ℤ) (deed : K.did.deed ≡ Acts (Correct amount stepped shown)) where
    since-w : Within s W
    since-w = Within_through s (C ∷ cp) W (inr since-cp) after

    k-port : K.port ≡ first_port
    k-port = a.single K W place (subst (λ k. length (node_in header k).ports ≡ 1) (sym node) single) (rw deed refl)

    k-other : (node_of K == c) ≡ false
    k-other = subst (λ k. (k == c) ≡ false) (sym node) other

    k-late : C.did.step.at ≤ K.did.step.at
    k-late =
        let order = (fits_in setting K W world a.fits place).order in
        let le = place_time setting (C ∷ cp) W (fits_at setting W world a.fits (Within_tail K W world place)) after in
        omega (arith, order, le)

    k-after : time_of (dids s) + long < K.did.step.at
    k-after = let le = k-late in let after_s = r.late in omega (arith, le, after_s)

    k-until : K.did.step.at ≤ t
    k-until = omega (arith, soon, early)

    taken : OfRound s c C cp K W
    taken = of_round setting world whole long t c stays s a.s_in a.calm a.follow a.sets (on_first a) K W place since-w k-until k-other k-port amount stepped
        shown deed k-after C cp r after soon short

    left : (h : List Line) → Within (K ∷ W) h → Within h world → time_of (dids h) ≤ t → NoneSince c C cp h → Unchanged n (K ∷ W) h
    left h in-h h-in le none = record {
      within = in-h;
      since = elim (between world long stays s a.calm n (K ∷ W) h (inr since-w) in-h h-in) [
        | inr q ↦ q.left
        | inl b ↦ absurd (again b)
      ];
    } where
      again : Between n (K ∷ W) h → ⊥
      again b =
          let j-in : Within (b.line ∷ b.before) world = Within_through (b.line ∷ b.before) h world b.place h-in in
          let order = place_time setting (b.line ∷ b.before) h (fits_at setting h world a.fits h-in) b.place in
          let b-order = (fits_in setting b.line b.before world a.fits j-in).order in
          let b-late = place_time setting (K ∷ W) b.before (fits_at setting b.before world a.fits (Within_tail b.line b.before world j-in)) b.after in
          let low = k-after in
          not_again setting world whole long t c stays s a.s_in a.calm a.follow a.sets (on_first a) b.line b.before j-in
          (Within_through s (K ∷ W) b.before (inr since-w) b.after) (omega (arith, order, le)) (subst (λ k. (k == c) ≡ false) (sym b.node) other)
          (a.single b.line b.before j-in (subst (λ k. length (node_in header k).ports ≡ 1) (sym b.node) single)
          (rw b.deed refl)) b.amount b.stepped b.shown b.deed (omega (arith, b-order, b-late, low)) C cp r.place
          (λ D dp count lo size mean w v node_d deed_d. none D dp count lo size mean
          (Within_through (D ∷ dp) b.before h w (Within_tail b.line b.before h b.place)) v node_d deed_d) K W b.after after (node ∙ sym b.node) amount stepped
          shown deed

    pub takes_it : TakesRound long t c n s C cp world
    takes_it = record { correct = K; before = W; place = place; node = node; after = after; soon = soon; round = taken; left = left }

    -- at that line
    pub takes_there : (k : TakesRound long t c n s C cp world) × (K ∷ W ≡ k.correct ∷ k.before)
    takes_there = (record { correct = K; before = W; place = place; node = node; after = after; soon = soon; round = taken; left = left }, refl)

  -- the ADJTIME of the round
  c-net : setting.net (node_of sl.post) sl.post.port ≡ setting.net n first_port
  c-net = ap (λ q. setting.net (node_of sl.post) q) sl.port ∙ (ap (λ k. setting.net k first_port) sl.node ∙ sym (a.one.net n there))

  adjusts : Adjusts setting long t stays c s sl.post sl.older world P sl.message
  adjusts = record {
    tells = record {
      posts = record {
        place = sl.place;
        deed = sl.deed;
        member = ap (λ k. is_among P (setting.members k)) c-net ∙ setting.own n first_port;
        other = ap (λ k. n == k) sl.node ∙ other;
      };
      since = Within_through s (C ∷ cp) sl.older (inr since-cp) sl.after;
      there = there;
      early = (let at = post-at in omega (arith, at, early));
    };
    node = sl.node;
    port = sl.port;
    kind = sl.kind;
  }

  obeyed : Obeyed header setting long c sl.post sl.older world P sl.message
  obeyed = all_obey a.set world a.table whole long t c stays s a.one a.delivered a.follow sl.post sl.older P sl.message adjusts

  abbrev A : Line
  A = obeyed.arrives.line

  abbrev B : List Line
  B = obeyed.arrives.before

  b-in : Within B world
  b-in = Within_tail A B world obeyed.arrives.place

  close-b : Within (C ∷ cp) B
  close-b = Within_through (C ∷ cp) (sl.post ∷ sl.older) B (inr sl.after) obeyed.arrives.later

  since-b : Within s B
  since-b = Within_through s (C ∷ cp) B (inr since-cp) close-b

  a-soon : A.did.step.at ≤ C.did.step.at + long
  a-soon = let soon = obeyed.arrives.soon in let at = post-at in omega (arith, soon, at)

  a-late : C.did.step.at ≤ A.did.step.at
  a-late =
      let order = (fits_in setting A B world a.fits obeyed.arrives.place).order in
      let le = place_time setting (C ∷ cp) B (fits_at setting B world a.fits b-in) close-b in
      omega (arith, order, le)

  -- the reading of the sample
  record Read : Type 0 where
    pub line : Line
    pub older : List Line
    pub place : Within (line ∷ older) cp
    pub ticket_is : sl.message.number ≡ ticket (dids (of n (line ∷ older)))
    pub after : Cf.start.step.at ≤ line.did.step.at

  reading : Read
  reading =
      let port = close_port_is setting world a.fits long t c stays s a.s_in a.calm (on_first a) C cp r in
      let x = sample_of (best P (view C.port (of c cp))) sl.best sl.best_is in
      let best-is : best P (view first_port (of c cp)) ≡ Some x.0 = subst (λ q. best P (view q (of c cp)) ≡ Some x.0) port x.1.0 in
      let b = best_at P (view first_port (of c cp)) x.0 best-is in
      let l = locate c first_port cp b.did b.rest (rw b.deed refl) b.place in
      let line = line_on first_port b.did in
      let g = given_at setting (line ∷ l.older) world whole (Within_through (line ∷ l.older) cp world l.place cp-in) in
      let sf = sample_fits setting line l.older P x.0.counter x.0.ticket x.0.diff x.0.err g.fits.0 b.deed in
      let read = reading_at setting line l.older P x.0.counter x.0.ticket x.0.diff x.0.err g.fits g.honest (inl g.life) b.deed sf in
      let mine : started (view first_port (of c l.older)) ≡ Here sf.start ∷ sf.idle = subst (λ k. started (view first_port (of k l.older)) ≡ Here sf.start ∷
      sf.idle)
      l.node sf.start_is in
      let same : sf.start ≡ Cf.start = same_start sf.start Cf.start sf.idle Cf.idle (view first_port (of c l.older)) b.rest (view first_port (of c cp)) mine
      (sym l.before) b.round Cf.start_is in
      let own : ticket (dids (of n (read.post ∷ read.older))) ≡ ticket (dids (of n read.older)) =
      ap (λ ls. ticket (dids ls)) (of_own n read.post read.older read.node) ∙ rw read.deed refl in
      record {
        line = read.post;
        older = read.older;
        place = Within_through (read.post ∷ read.older) l.older cp read.place (Within_tail line l.older cp l.place);
        ticket_is = sl.number ∙ (x.1.1 ∙ (sf.number_is ∙ (read.number ∙ sym own)));
        after = subst (λ (z : Did). z.step.at ≤ read.post.did.step.at) same read.after;
      }

  corrects-first : AfterPlace s world (λ l older. node_of l ≡ n → (amount : ℤ) (stepped : Bool) (shown : ℤ) → l.did.deed ≡
      Acts (Correct amount stepped shown) → l.port ≡ first_port)
  corrects-first l older place since-s node amount stepped shown deed = a.single l older place
      (subst (λ k. length (node_in header k).ports ≡ 1) (sym node) single) (rw deed refl)

  cp-until : time_of (dids cp) ≤ t
  cp-until = let order = (fits_in setting C cp world a.fits r.place).order in omega (arith, order, early)

  -- its ticket stays since any place not before the round's beginning, up to the Close
  stays-to-close : (g : List Line) → Within s g → Within g cp → Cf.start.step.at ≤ time_of (dids g) → TicketStays n g cp
  stays-to-close g since-g w low = keeps_ticket setting world a.fits long t c stays s a.calm a.follow n g cp other corrects-first since-g w cp-in cp-until
      (λ q qo m v node deed kind.
      let old = older_posts setting world a.fits long t c stays s a.s_in a.calm (on_first a) C cp r a.sets q qo n m v node deed kind in
      let recent = young in
      let small = short in
      omega (arith, old, recent, low, small))

  abbrev Begin : Located c first_port cp Cf.start Cf.idle
  Begin = begin_at setting world a.fits long t c stays s a.s_in a.calm (on_first a) C cp r

  abbrev G : List Line
  G = line_on first_port Cf.start ∷ Begin.older

  g-in : Within G cp
  g-in = Begin.place

  since-g : Within s G
  since-g = inr (begin_since setting world a.fits long t c stays s a.s_in a.calm (on_first a) C cp r)

  g-b : Within G B
  g-b = Within_through G (C ∷ cp) B (inr g-in) close-b

  -- no Correct stands between the beginning and the Close
  before-close : (b : Between n G B) → Within (b.line ∷ b.before) cp → ⊥
  before-close b w =
      let b-world : Within (b.line ∷ b.before) world = Within_through (b.line ∷ b.before) cp world w cp-in in
      let order = place_time setting (b.line ∷ b.before) cp (fits_at setting cp world a.fits cp-in) w in
      let low = place_time setting G b.before (fits_at setting b.before world a.fits (Within_tail b.line b.before world b-world)) b.after in
      let b-order = (fits_in setting b.line b.before world a.fits b-world).order in
      let until = cp-until in
      let m = moved_by_master setting world a.fits long t c stays s a.calm a.follow b.line b.before b-world (Within_through s G b.before since-g b.after)
      (omega (arith, order, until)) (subst (λ k. (k == c) ≡ false) (sym b.node) other)
      (corrects-first b.line b.before b-world (Within_through s G b.before since-g b.after) b.node b.amount b.stepped b.shown b.deed) b.amount b.stepped
      b.shown b.deed in
      let old = older_posts setting world a.fits long t c stays s a.s_in a.calm (on_first a) C cp r a.sets m.post m.before n m.message
      (Within_through (m.post ∷ m.before) b.before cp m.place (Within_tail b.line b.before cp w)) m.node
      (subst (λ k. m.post.did.deed ≡ Acts (Post (Peer (peer_of k)) (Message m.message))) b.node m.deed) m.kind in
      let soon = m.soon in
      let recent = young in
      let small = short in
      omega (arith, low, b-order, old, soon, recent, small)

  -- so the correction is the next one
  number-is : NoneBetween n G B → sl.message.number ≡ ticket (dids (of n B))
  number-is q =
      let from-reading = stays-to-close (reading.line ∷ reading.older) (inr (after_time setting world a.fits s a.s_in reading.line reading.older
      (Within_through (reading.line ∷ reading.older) cp world reading.place cp-in)
      (let late_enough = r.late in let recent = young in let after = reading.after in omega (arith, late_enough, recent, after)))) reading.place reading.after
      in
      let from-begin = stays-to-close G since-g g-in (omega arith) in
      reading.ticket_is ∙ (sym from-reading.same ∙ (from-begin.same ∙ sym q.ticket_is))

  gap : NoneBetween n G B → (o : Option ℕ) → correct_tick (dids (of n B)) ≡ o → is_past o GAP A.did.tick ≡ true
  gap q None e = refl
  gap q (Some y) e =
      let g-world : Within G world = Within_through G cp world g-in cp-in in
      let g-fits = fits_at setting G world a.fits g-world in
      let last = last_is (dids (of n G)) y (sym q.tick_is ∙ e) in
      let by = last_by setting (of n G) (own_fits setting n G g-fits) in
      let low = of_tick setting n G g-fits in
      let tick = tick_in setting n A B world a.fits obeyed.arrives.node obeyed.arrives.place in
      let over = Cf.over in
      let c-tick = tick_in setting c C cp world a.fits r.node r.place in
      let s-tick = tick_in setting c (line_on first_port Cf.start) Begin.older world a.fits Begin.node g-world in
      let order = place_time setting G cp (fits_at setting cp world a.fits cp-in) g-in in
      let c-order = (fits_in setting C cp world a.fits r.place).order in
      let late_a = a-late in
      let most = (near setting c Cf.start.step.at C.did.step.at (omega (arith, order, c-order))).most in
      let least = (near setting n Cf.start.step.at A.did.step.at (omega (arith, order, c-order, late_a))).least in
      le-leb (y + GAP) A.did.tick (omega (arith, last, by, low, tick, over, c-tick, s-tick, most, least, late_a))

  abbrev There : Past
  There = past_there header n A B

  seen-is : plain There.seen ≡ dids (of n B)
  seen-is = plain_view A.port (of n B)

  and-true : (x y : Bool) → x ≡ true → y ≡ true → (x && y) ≡ true
  and-true x y e f = rw (e, f) refl

  takes : NoneBetween n G B → takes_amount sl.message.number (time_in sl.message.body) A.did.tick There ≡ true
  takes q =
      let number : (sl.message.number == ticket (plain There.seen)) ≡ true =
      subst (λ ds. (sl.message.number == ticket ds) ≡ true) (sym seen-is) (eq-eqb sl.message.number (ticket (dids (of n B))) (number-is q)) in
      let rests : is_past (correct_tick (plain There.seen)) GAP A.did.tick ≡ true =
      subst (λ ds. is_past (correct_tick ds) GAP A.did.tick ≡ true) (sym seen-is) (gap q (correct_tick (dids (of n B))) refl) in
      let range : is_clock_value (target (dids (of n B)) A.did.tick +ℤ time_in sl.message.body) ≡ true =
      subst (λ k. is_clock_value (target (dids (of k B)) A.did.tick +ℤ time_in sl.message.body) ≡ true) obeyed.arrives.node
      (a.range.moved A B obeyed.arrives.place since-b (Peer (peer_of (node_of sl.post))) sl.message obeyed.arrives.took sl.kind) in
      let can : can_adjust (time_in sl.message.body) A.did.tick There ≡ true =
      subst (λ ds. is_clock_value (target ds A.did.tick +ℤ time_in sl.message.body) ≡ true) (sym seen-is) range in
      and-true (is_next sl.message.number A.did.tick There) (can_adjust (time_in sl.message.body) A.did.tick There)
      (and-true (sl.message.number == ticket (plain There.seen)) (is_past (correct_tick (plain There.seen)) GAP A.did.tick) number rests) can

  moved : NoneBetween n G B → TakesRound long t c n s C cp world
  moved q =
      let m : MovedIn setting c n A.did.step world = obeyed.moves (takes q) in
      let br = m.rests.acts.brings in
      let posts : m.rests.post ∷ m.rests.before ≡ sl.post ∷ sl.older = post_unique world m.rests.post sl.post m.rests.before sl.older
      (Peer (peer_of (node_of m.correct))) (Peer P) (Message br.message) (Message sl.message)
      (Within_through (m.rests.post ∷ m.rests.before) m.past world br.place (Within_tail m.correct m.past world m.place)) sl.place br.deed sl.deed
      (same_number (posted (dids m.rests.before)) (posted (dids sl.older)) (sym br.cause ∙ (ap (λ (z : Step). z.cause) m.same ∙ obeyed.arrives.came))) in
      let after : Within (C ∷ cp) m.past = Within_through (C ∷ cp) (sl.post ∷ sl.older) m.past (inr sl.after)
      (subst (λ (z : List Line). Within z m.past) posts br.place) in
      let at : m.correct.did.step.at ≡ A.did.step.at = ap (λ (z : Step). z.at) m.same in
      let soon = a-soon in
      takes_it m.correct m.past m.place m.node after (omega (arith, at, soon)) m.rests.acts.amount m.rests.acts.stepped m.rests.acts.shown
      m.rests.acts.correct

  pub takes_round : TakesRound long t c n s C cp world
  takes_round = elim (between world long stays s a.calm n G B since-g g-b b-in) [
    | inr q ↦ moved q
    | inl b ↦
        let b-world : Within (b.line ∷ b.before) world = Within_through (b.line ∷ b.before) B world b.place b-in in
        elim (Within_comparable (C ∷ cp) (b.line ∷ b.before) world r.place b-world) [
          | inl (inl e) ↦ absurd (let line : C ≡ b.line = cc in let nodes : n ≡ c = sym b.node ∙ (ap node_of (sym line) ∙ r.node) in
              true≢false (sym (eq-eqb n c nodes) ∙ other))
          | inl (inr w) ↦
              let order = place_time setting (b.line ∷ b.before) B (fits_at setting B world a.fits b-in) b.place in
              let a-order = (fits_in setting A B world a.fits obeyed.arrives.place).order in
              let soon = a-soon in
              takes_it b.line b.before b-world b.node w (omega (arith, order, a-order, soon)) b.amount b.stepped b.shown b.deed
          | inr (inl e) ↦ absurd (let line : b.line ≡ C = cc in let nodes : n ≡ c = sym b.node ∙ (ap node_of line ∙ r.node) in
              true≢false (sym (eq-eqb n c nodes) ∙ other))
          | inr (inr w) ↦ absurd (before-close b w)
        ]
  ]
