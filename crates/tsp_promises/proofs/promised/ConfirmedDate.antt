-- A date that was passed on and acknowledged was set.
use Rattle.std.proofs.Common.{sym, ap, arith, subst, subst₂, inl, inr, ◌⊎◌, ◌∙◌, ◌≡◌, ◌+◌, ◌*◌, ◌%◌, ◌<◌, ◌≤◌, true, ℕ, List, ◌∷◌, is_some, refl}
use Rattle.tsp_rules.specs.Values.{Post, Correct, Acked, Message, Kind, Date, DateAck, SetDate, SetDateReq, PeerId, Peer, Port, LIFE, QUIET}
use Rattle.tsp_base.specs.Words.{Acts, Did, Line, Seen, Here, of, dids, view, MessageValue, boot_tick, lives, word, Within, acting, begun, begun_to}
use Rattle.tsp_base.specs.Words.{has_own_number, is_date_request, is_numbered, open_to, Receives, peer_of}
use Rattle.tsp_base.proofs.{PlaceLemmas.Within_comparable, PlaceLemmas.Within_tail, PlaceLemmas.Within_through, Views.plain_view}
use Rattle.tsp_promises.proofs.promised.OwnFitsProof.{own_fits, fits_at, place_time, locate, fits_in, seen_in, tick_in, view_line, deed_fits}
use Rattle.tsp_promises.specs.Premises.{Few, FewAt, Honest, HonestAt, Life, TakenWithinAt}
use Rattle.tsp_promises.specs.{DateFits.AnswersClient, DateFits.AnswersPassedOn, DateFits.DateAckFits, Setting.Setting, Setting.setup_of}
use Rattle.tsp_promises.proofs.{shared.EverywhereLemmas.Everywhere_at, shared.EverywhereLemmas.Everywhere_within, promised.SameSendProof.too-late}
use Rattle.tsp_promises.proofs.{shared.Clocks.near}
use Rattle.tsp_promises.proofs.{promised.OnceDatedProof.Passing, promised.OnceDatedProof.passed_apart, promised.OnceDatedProof.passes_in}
use Rattle.tsp_promises.proofs.{promised.LastTakenProof.date_at}
use Rattle.tsp_promises.proofs.{shared.ElectionFacts.begun_mono, shared.ElectionFacts.boots, shared.ElectionFacts.boots_view, promised.ConfirmedProof.port_is}
use Rattle.tsp_promises.proofs.{promised.SendProof.BeginsSend, promised.SendProof.number-same, promised.SendProof.opened, promised.KnownProof.known}
use Rattle.tsp_promises.proofs.{promised.KnownProof.heard_taken}
use Rattle.tsp_promises.proofs.{shared.HistoryPlaces.lift, shared.HistoryPlaces.own_in, shared.HistoryPlaces.line_on, shared.SendPlaces.send_place}
use Rattle.tsp_promises.proofs.{promised.SinceProof.since}
use Rattle.tsp_promises.specs.{Fits.Fits, Fits.LineFits, Fits.node_of, Dated.DateConfirmedAt, AckFits.Acknowledges, DeedFits.MessageFits}
use Rattle.tsp_promises.specs.{Since.OneLife, Once.Acted}

-- the date that port q of n passes on to k is still open
record OpenDate (n k : ℕ) (q : Port) (world : List Line) (f : Did) (fw : List Line) (m : MessageValue) : Type 0 where
  pub place : Within (line_on q f ∷ fw) world
  pub passing : Passing n q (peer_of k) m f fw
  pub kind : m.kind ≡ SetDateReq
  pub is : open_to (peer_of k) (view q (of n world)) ≡ Here f ∷ view q (of n fw)

-- where the send begins that a post of a date is of
record DateSend (n k : ℕ) (q : Port) (p : Did) (o : List Line) (m : MessageValue) : Type 0 where
  pub first : Did
  pub fw : List Line
  pub place : Within (line_on q first ∷ fw) (line_on q p ∷ o)
  pub passing : Passing n q (peer_of k) m first fw
  pub kind : m.kind ≡ SetDateReq
  pub is : begun_to (peer_of k) (Here p ∷ view q (of n o)) ≡ Here first ∷ view q (of n fw)
  pub after : first.step.at ≤ p.step.at
  pub soon : p.step.at ≤ first.step.at + 4004007

date_send : (setting : Setting) (n k : ℕ) (q : Port) (p : Did) (o : List Line) (m : MessageValue) → Fits setting (line_on q p ∷ o) → p.step.node ≡ n → p.deed ≡
    Acts (Post (Peer (peer_of k)) (Message m)) → is_date_request m.kind ≡ true → DateSend n k q p o m
date_send setting n k q p o m f node deed request =
    let kind = (passes_in setting n (line_on q p) o (peer_of k) m f.0 node deed request).is in
    let s = send_place setting n k (line_on q p) o m f node deed (ap is_numbered kind) in
    record {
      first = s.first;
      fw = s.fw;
      place = s.place;
      passing = record { node = s.node; sends = s.sends; kind = request };
      kind = kind;
      is = s.is;
      after = s.after;
      soon = s.soon;
    }

-- it is the open one's, or an earlier one's
date_order : (n k : ℕ) (q : Port) (world : List Line) (f p : Did) (fw o : List Line) (mf mp : MessageValue) → OpenDate n k q world f fw mf →
    Within (line_on q p ∷ o) world → (s : DateSend n k q p o mp) →
    (line_on q s.first ∷ s.fw ≡ line_on q f ∷ fw) ⊎ Within (line_on q s.first ∷ s.fw) fw
date_order n k q world f p fw o mf mp d p_in s =
    let s_in = Within_through (line_on q s.first ∷ s.fw) (line_on q p ∷ o) world s.place p_in in
    elim (Within_comparable (line_on q s.first ∷ s.fw) (line_on q f ∷ fw) world s_in d.place) [
      | inl (inl e) ↦ inl e
      | inl (inr i) ↦ inr i
      | inr (inl e) ↦ inl (sym e)
      | inr (inr i) ↦ absurd (too-late n k q f s.first fw s.fw world mp d.is (seen_in n (line_on q s.first) s.fw world s.passing.node s_in) s.passing.sends
          (seen_in n (line_on q f) fw s.fw d.passing.node i))
    ]

-- the times of two beginnings of one port
record Times (setting : Setting) (n : ℕ) (s f : Did) : Type 0 where
  pub order : s.step.at ≤ f.step.at
  pub least : 1000 * s.tick + 999 * f.step.at ≤ 1000 * f.tick + 999 * s.step.at + 2000
  pub most : 1000 * f.tick + 1001 * s.step.at ≤ 1000 * s.tick + 1001 * f.step.at + 2000

times : (setting : Setting) (n : ℕ) (q r : Port) (s f : Did) (sw fw world : List Line) → Fits setting world → s.step.node ≡ n → f.step.node ≡ n →
    Within (line_on r f ∷ fw) world → Within (line_on q s ∷ sw) fw → Times setting n s f
times setting n q r s f sw fw world w s_node f_node f_in s_in =
    let wf = fits_at setting (line_on r f ∷ fw) world w f_in in
    let order : s.step.at ≤ f.step.at = place_time setting (line_on q s ∷ sw) (line_on r f ∷ fw) wf (inr s_in) in
    let tick_s : s.tick ≡ setting.tick n s.step.at = tick_in setting n (line_on q s) sw fw wf.1 s_node s_in in
    let tick_f : f.tick ≡ setting.tick n f.step.at = tick_in setting n (line_on r f) fw world w f_node f_in in
    let m = near setting n s.step.at f.step.at order in
    record {
      order = order;
      least = (let least = m.least in omega arith);
      most = (let most = m.most in omega arith);
    }

-- an earlier one of that port lies REUSE before it
not_recent : (setting : Setting) (n k : ℕ) (q : Port) (world : List Line) (f p : Did) (fw o : List Line) (mf mp : MessageValue) → Fits setting world →
    OpenDate n k q world f fw mf → (s : DateSend n k q p o mp) → Within (line_on q s.first ∷ s.fw) fw → f.step.at ≤ p.step.at + 60000000 → ⊥
not_recent setting n k q world f p fw o mf mp w d s i recent =
    let apart = passed_apart setting n q (peer_of k) (peer_of k) mp mf s.first f s.fw fw (fits_at setting (line_on q f ∷ fw) world w d.place) i s.passing
    d.passing in
    let t = times setting n q q s.first f s.fw fw world w s.passing.node d.passing.node d.place i in
    omega (arith, apart, t.most, t.order, s.soon, recent)

-- the number under which a date begins to be passed on
date_number : (setting : Setting) (n : ℕ) (q : Port) (p : PeerId) (m : MessageValue) (d : Did) (dw : List Line) → LineFits setting (line_on q d) dw →
    Passing n q p m d dw → m.kind ≡ SetDateReq → m.number ≡ 32768 + (word (dids (of n dw)) + begun (view q (of n dw))) % 32768
date_number setting n q p m d dw f x kind =
    let fits = deed_fits setting (line_on q d) dw (Acts (Post (Peer p) (Message m))) x.sends.deed f in
    let dated = subst (λ kd. MessageFits (setup_of setting d.step.node q) kd d (view q (of d.step.node dw)) p m) kind fits.fits in
    let next = subst (λ z. acting (view q (of z dw)) ≡ true → m.number ≡ 32768 + (word (dids (of z dw)) + begun (view q (of z dw))) % 32768) x.node
    (λ acts. dated.numbered.next acts ∙ ap (λ ds. 32768 + (word ds + begun (view q (of d.step.node dw))) % 32768) (plain_view q (of d.step.node dw))) in
    next x.sends.begins

-- in one life each has another number
one_life : (setting : Setting) (n : ℕ) (q : Port) (p r : PeerId) (world : List Line) (s f : Did) (sw fw : List Line) (ms mf : MessageValue) →
    Fits setting world → Few world → Within (line_on q f ∷ fw) world → Within (line_on q s ∷ sw) fw → Passing n q p ms s sw → Passing n q r mf f fw →
    ms.kind ≡ SetDateReq → mf.kind ≡ SetDateReq → OneLife (dids (line_on q s ∷ of n sw)) (dids (of n fw)) → ms.number ≡ mf.number → ⊥
one_life setting n q p r world s f sw fw ms mf w few f_in s_in x y s_kind f_kind life same =
    let wf = fits_at setting (line_on q f ∷ fw) world w f_in in
    let one = date_number setting n q p ms s sw (fits_in setting (line_on q s) sw fw wf.1 s_in) x s_kind in
    let two = date_number setting n q r mf f fw wf.0 y f_kind in
    let word_is : word (dids (line_on q s ∷ of n sw)) ≡ word (dids (of n sw)) = rw x.sends.deed refl in
    let lives_is : lives (dids (line_on q s ∷ of n sw)) ≡ lives (dids (of n sw)) = rw x.sends.deed refl in
    let boots_is : boots (Here s ∷ view q (of n sw)) ≡ boots (view q (of n sw)) = rw x.sends.deed refl in
    let s_count = begins-one p s (view q (of n sw)) ms x.sends s_kind in
    let f_count = begins-one r f (view q (of n fw)) mf y.sends f_kind in
    let more = begun_mono (Here s ∷ view q (of n sw)) (view q (of n fw)) (seen_in n (line_on q s) sw fw x.node s_in) (boots_is ∙
    (boots_view q (of n sw) ∙ (sym lives_is ∙ (life.lives ∙ sym (boots_view q (of n fw)))))) in
    let at : begun (view q (of f.step.node (line_on q f ∷ fw))) < 32768 = Everywhere_at FewAt (line_on q f) fw world few f_in in
    let most : begun (Here f ∷ view q (of n fw)) < 32768 = subst (λ z. begun z < 32768) (view_line n (line_on q f) fw y.node)
    (subst (λ z. begun (view q (of z (line_on q f ∷ fw))) < 32768) y.node at) in
    omega (arith, one, two, word_is, life.word, s_count, f_count, more, most, same)
  where
    begins-one : (p : PeerId) (d : Did) (seen : List Seen) (m : MessageValue) → BeginsSend p m d seen → m.kind ≡ SetDateReq → begun (Here d ∷ seen) ≡
        begun seen + 1
    begins-one p d seen m b kind =
        let own : has_own_number m.kind ≡ true = ap has_own_number kind in
        rw b.deed (rw (own, b.begins) refl)

-- an earlier one's Correct lies DATEHOLD back
not_held : (setting : Setting) (n k : ℕ) (q r : Port) (world : List Line) (f p c u : Did) (fw o cw uo : List Line) (mf mp : MessageValue) → Fits setting world →
    Few world → OpenDate n k q world f fw mf → (s : DateSend n k q p o mp) → Within (line_on q s.first ∷ s.fw) fw → mp.number ≡ mf.number →
    Within (line_on r u ∷ uo) world → Within (line_on r c ∷ cw) uo → u.step.node ≡ k → c.step.node ≡ k → c.step.at ≤ p.step.at + 30000000 →
    f.step.at ≤ u.step.at → u.tick < c.tick + 45000000 → ⊥
not_held setting n k q r world f p c u fw o cw uo mf mp w few d s i same u_in c_in u_node c_node came after fresh =
    let wf = fits_at setting (line_on q f ∷ fw) world w d.place in
    let place = own_in n (line_on q s.first) s.fw fw s.passing.node i in
    let l = since setting (line_on q s.first ∷ of n s.fw) (of n fw) (own_fits setting n fw wf.1) place in
    elim l.life [
      | inl one ↦ one_life setting n q (peer_of k) (peer_of k) world s.first f s.fw fw mp mf w few d.place i s.passing d.passing s.kind d.kind one same
      | inr new ↦
          let rested = ((passes_in setting n (line_on q f) fw (peer_of k) mf wf.0 d.passing.node d.passing.sends.deed d.passing.kind).begins
          d.passing.sends.begins).rested in
          let quiet : boot_tick (dids (of n fw)) + QUIET ≤ f.tick = subst (λ z. boot_tick z + QUIET ≤ f.tick) (plain_view q (of n fw)) rested in
          let t = times setting n q q s.first f s.fw fw world w s.passing.node d.passing.node d.place i in
          let v = times setting k r r c u cw uo world w c_node u_node u_in c_in in
          omega (arith, new.boot, quiet, t.most, t.order, v.least, v.order, s.soon, came, after, fresh)
    ]

on_port : (q : Port) (p : Line) (o world : List Line) → p.port ≡ q → Within (p ∷ o) world → Within (line_on q p.did ∷ o) world
on_port q p o world e w = subst (λ z. Within (line_on z p.did ∷ o) world) e w

-- the DATEACK u answers a date that n passed on to k
confirmed_date : (setting : Setting) (n k : ℕ) (q : Port) (f : Did) (u : Line) (world fw uo : List Line) (m answer : MessageValue) → Fits setting world →
    Honest world → Life world → Few world → OpenDate n k q world f fw m → Within (u ∷ uo) world → node_of u ≡ k →
    setting.net k u.port ≡ setting.net n q → u.did.deed ≡ Acts (Post (Peer (peer_of n)) (Message answer)) → f.step.at ≤ u.did.step.at + LIFE → answer.number ≡
    m.number → AnswersPassedOn u.did (view u.port (of k uo)) (peer_of n) answer.number → Acted n k world f (view q (of n fw))
confirmed_date setting n k q f u world fw uo m answer w honest life few d u_in u_node net u_deed soon number r =
    let fu = fits_at setting (u ∷ uo) world w u_in in
    let hu = Everywhere_within HonestAt (u ∷ uo) world honest u_in in
    let lu = Everywhere_within (TakenWithinAt LIFE) (u ∷ uo) world life u_in in
    let p2 = known setting u uo (Post (Peer (peer_of n)) (Message answer)) (peer_of n) (Message r.message) fu hu u_deed
    (subst (λ z. Receives (view u.port (of z uo)) (peer_of n) (Message r.message)) (sym u_node) r.took) in
    let p2_node : node_of p2.post ≡ n = number-same (node_of p2.post) n p2.node in
    let p2_net : setting.net (node_of p2.post) p2.post.port ≡ setting.net k u.port = subst (λ z. setting.net (node_of p2.post) p2.post.port ≡
    setting.net z u.port) u_node p2.net in
    let p2_port = port_is setting n k q u.port p2.post p2_node p2_net net in
    let p2_deed = subst (λ z. p2.post.did.deed ≡ Acts (Post (Peer (peer_of z)) (Message r.message))) u_node p2.deed in
    let p2_uo = on_port q p2.post p2.older uo p2_port p2.place in
    let p2_in = Within_through (line_on q p2.post.did ∷ p2.older) uo world p2_uo (Within_tail u uo world u_in) in
    let s2 = date_send setting n k q p2.post.did p2.older r.message (fits_at setting (line_on q p2.post.did ∷ p2.older) world w p2_in) p2_node p2_deed r.kind in
    let life_u = lu.0 p2.post p2.older (Peer (peer_of (node_of u))) (Message r.message) p2.place p2.deed p2.takes in
    elim (date_order n k q world f p2.post.did fw p2.older m r.message d p2_in s2) [
      | inr i ↦ absurd (not_recent setting n k q world f p2.post.did fw p2.older m r.message w d s2 i (omega arith))
      | inl e ↦
          let first : s2.first ≡ f = (let line : line_on q s2.first ≡ line_on q f = cc in ap (λ (z : Line). z.did) line) in
          let p2_at : p2.post.did.step.at ≤ u.did.step.at = (let z = place_time setting (line_on q p2.post.did ∷ p2.older) uo fu.1 p2_uo in
          omega (arith, fu.0.order)) in
          let after : f.step.at ≤ u.did.step.at = (let z = subst (λ (y : Did). y.step.at ≤ p2.post.did.step.at) first s2.after in omega arith) in
          confirmed-correct after
    ]
  where
    confirmed-correct : f.step.at ≤ u.did.step.at → Acted n k world f (view q (of n fw))
    confirmed-correct after =
        let uo_in = Within_tail u uo world u_in in
        let wo = (fits_at setting (u ∷ uo) world w u_in).1 in
        let t = date_at u.port (peer_of n) (of k uo) r.last r.last_is in
        let c = lift k uo (line_on u.port t.correct) t.rest t.place in
        let c_in = Within_through (line_on u.port t.correct ∷ c.world) uo world c.place uo_in in
        let took : Receives (view u.port (of t.correct.step.node c.world)) (peer_of n) (Message t.message) =
        subst (λ z. Receives (view u.port (of z c.world)) (peer_of n) (Message t.message)) (sym c.node)
        (subst (λ z. Receives (view u.port z) (peer_of n) (Message t.message)) (sym c.own) t.took) in
        let fc = fits_at setting (line_on u.port t.correct ∷ c.world) world w c_in in
        let p3 = known setting (line_on u.port t.correct) c.world (Correct t.amount t.stepped t.shown) (peer_of n) (Message t.message) fc
        (Everywhere_within HonestAt (line_on u.port t.correct ∷ c.world) world honest c_in) t.deed took in
        let p3_node : node_of p3.post ≡ n = number-same (node_of p3.post) n p3.node in
        let p3_net : setting.net (node_of p3.post) p3.post.port ≡ setting.net k u.port = subst (λ z. setting.net (node_of p3.post) p3.post.port ≡
        setting.net z u.port) c.node p3.net in
        let p3_port = port_is setting n k q u.port p3.post p3_node p3_net net in
        let p3_deed = subst (λ z. p3.post.did.deed ≡ Acts (Post (Peer (peer_of z)) (Message t.message))) c.node p3.deed in
        let p3_in = Within_through (line_on q p3.post.did ∷ p3.older) c.world world (on_port q p3.post p3.older c.world p3_port p3.place)
        (Within_tail (line_on u.port t.correct) c.world world c_in) in
        let s3 = date_send setting n k q p3.post.did p3.older t.message (fits_at setting (line_on q p3.post.did ∷ p3.older) world w p3_in) p3_node p3_deed
        t.kind in
        let came = (Everywhere_within (TakenWithinAt LIFE) (line_on u.port t.correct ∷ c.world) world life c_in).0 p3.post p3.older
        (Peer (peer_of t.correct.step.node)) (Message t.message) p3.place p3.deed p3.takes in
        let same : t.message.number ≡ m.number = t.number ∙ (r.same ∙ number) in
        let fresh : u.did.tick < t.correct.tick + 45000000 = omega (arith, r.fresh, t.at) in
        elim (date_order n k q world f p3.post.did fw p3.older m t.message d p3_in s3) [
          | inr i ↦ absurd (not_held setting n k q u.port world f p3.post.did t.correct u.did fw p3.older c.world uo m t.message w few d s3 i same u_in c.place
              u_node c.node came after fresh)
          | inl e ↦
              let line : line_on q s3.first ≡ line_on q f = cc in
              let first : s3.first ≡ f = ap (λ (z : Line). z.did) {x = line_on q s3.first} line in
              let rest : s3.fw ≡ fw = cc in
              record {
                correct = line_on u.port t.correct;
                past = c.world;
                place = c_in;
                node = c.node;
                post = p3.post;
                older = p3.older;
                acts = record {
                  amount = t.amount;
                  stepped = t.stepped;
                  shown = t.shown;
                  correct = t.deed;
                  brings = record { place = p3.place; cause = p3.takes; message = t.message; deed = p3.deed };
                  took = ap (λ o. is_some o)
                      (heard_taken setting u.port _ (of t.correct.step.node c.world) (own_fits setting t.correct.step.node c.world fc.1) took);
                };
                from = p3_node;
                of_send = record {
                  message = t.message;
                  deed = p3_deed;
                  numbered = ap is_numbered s3.kind;
                  is = subst₂ (λ z y. begun_to (peer_of k) (Here p3.post.did ∷ view z (of y p3.older)) ≡ Here f ∷ view q (of n fw)) (sym p3_port) (sym p3_node)
                      (subst₂ (λ z y. begun_to (peer_of k) (Here p3.post.did ∷ view q (of n p3.older)) ≡ Here z ∷ view q
                      (of n y)) {x = s3.first} {u = s3.fw} first rest s3.is);
                };
              }
        ]

-- nobody posts a client's date
no_client : (setting : Setting) (u : Line) (uo : List Line) (n : ℕ) (answer : MessageValue) → Fits setting (u ∷ uo) → Honest (u ∷ uo) → u.did.deed ≡
    Acts (Post (Peer (peer_of n)) (Message answer)) → AnswersClient (Peer (peer_of n)) (view u.port (of (node_of u) uo)) answer.number → ⊥
no_client setting u uo n answer f honest deed c =
    let p = known setting u uo (Post (Peer (peer_of n)) (Message answer)) (peer_of n) (Message c.message) f honest deed c.took in
    let fits = deed_fits setting p.post p.older (Acts (Post (Peer (peer_of (node_of u))) (Message c.message))) p.deed
    (fits_in setting p.post p.older uo f.1 p.place) in
    let by = λ (kd : Kind) (e : c.message.kind ≡ kd). subst (λ k. MessageFits (setup_of setting (node_of p.post) p.post.port) k p.post.did
    (view p.post.port (of (node_of p.post) p.older)) (peer_of (node_of u)) c.message) e fits.fits in
    elim c.kind [ inl e ↦ by Date e | inr e ↦ by SetDate e ]

-- the Acked l takes a DATEACK u of k
confirmed_by : (setting : Setting) (l : Line) (world fw : List Line) (k : ℕ) (f : Did) (m : MessageValue) → Fits setting (l ∷ world) → Honest (l ∷ world) →
    Life (l ∷ world) → Few (l ∷ world) → l.did.deed ≡ Acts (Acked (peer_of k)) → OpenDate (node_of l) k l.port world f fw m →
    Acknowledges DateAck (view l.port (of (node_of l) world)) (peer_of k) m.number → Acted (node_of l) k world f (view l.port (of (node_of l) fw))
confirmed_by setting l world fw k f m w honest life few deed d a =
    let n = node_of l in
    let u = known setting l world (Acked (peer_of k)) (peer_of k) (Message a.message) w honest deed a.took in
    let u_node : node_of u.post ≡ k = number-same (node_of u.post) k u.node in
    let fu = fits_at setting (u.post ∷ u.older) world w.1 u.place in
    let fits = deed_fits setting u.post u.older (Acts (Post (Peer (peer_of n)) (Message a.message))) u.deed fu.0 in
    let ack : DateAckFits (Peer (peer_of n)) u.post.did (view u.post.port (of (node_of u.post) u.older)) a.message.number =
    subst (λ kd. MessageFits (setup_of setting (node_of u.post) u.post.port) kd u.post.did (view u.post.port (of (node_of u.post) u.older)) (peer_of n)
    a.message) a.kind fits.fits in
    let net : setting.net k u.post.port ≡ setting.net n l.port = subst (λ z. setting.net z u.post.port ≡ setting.net n l.port) u_node u.net in
    let life_l = life.0 u.post u.older (Peer (peer_of n)) (Message a.message) u.place u.deed u.takes in
    let f_at : f.step.at ≤ l.did.step.at = (let z = place_time setting (line_on l.port f ∷ fw) world w.1 d.place in omega (arith, w.0.order)) in
    elim ack [
      | inl c ↦ absurd (no_client setting u.post u.older n a.message fu (Everywhere_within HonestAt (u.post ∷ u.older) world honest.1 u.place) u.deed c)
      | inr r ↦
          confirmed_date setting n k l.port f u.post world fw u.older m a.message w.1 honest.1 life.1 few.1 d u.place u_node net u.deed (omega arith)
          a.number_is
          (subst (λ z. AnswersPassedOn u.post.did (view u.post.port (of z u.older)) (peer_of n) a.message.number) u_node r)
    ]

pub date_confirmed : (setting : Setting) (l : Line) (world : List Line) → Fits setting (l ∷ world) → Honest (l ∷ world) → Life (l ∷ world) → Few (l ∷ world) →
    DateConfirmedAt l world
date_confirmed setting l world w honest life few p first older m deed open_is first_deed kind =
    let n = node_of l in
    let seen = view l.port (of n world) in
    let a : Acknowledges DateAck seen p m.number = (deed_fits setting l world (Acts (Acked p)) deed w.0 first older m open_is first_deed).date kind in
    let o = opened p seen first older open_is in
    let f = locate n l.port world first older (rw first_deed refl) o.place in
    let sends : BeginsSend p m first (view l.port (of n f.older)) = record {
      deed = first_deed;
      kind = ap is_numbered kind;
      begins = subst (λ z. acting z ≡ true) (sym f.before) o.begins.begins;
    } in
    let d : OpenDate n p.0 l.port world first f.older m = record {
      place = f.place;
      passing = record {
        node = f.node;
        sends = sends;
        kind = ap is_date_request kind;
      };
      kind = kind;
      is = open_is ∙ ap (λ z. Here first ∷ z) (sym f.before);
    } in
    subst (λ z. Acted n p.0 world first z) f.before (confirmed_by setting l world f.older p.0 first m w honest life few deed d a)
