-- What stands behind a Backer: the ACCEPT that was taken, the Back in its step, and the ELECTION that it answers.
use Rattle.std.proofs.Common.{sym, ap, arith, subst, subst₂, inl, inr, ◌∙◌, ◌≡◌, ◌≤◌, ◌<◌, ◌⊎◌, ℕ, ◌+◌, ◌%◌, true, false, List, [], ◌∷◌, Option, Some, refl}
use Rattle.tsp_rules.specs.Values.{Post, Back, Backer, Message, Accept, Election, PeerId, Peer, Port, LAST, LIFE}
use Rattle.tsp_base.specs.Words.{Deed, Begins, Step, Acts, Did, Line, Seen, Here, of, dids, view, is_shared, MessageValue, boot_tick, lives, lives_after, word}
use Rattle.tsp_base.specs.Words.{Within, acting, stood, stood_after, begun, is_numbered, Receives, peer_of, Setup}
use Rattle.tsp_base.proofs.{PlaceLemmas.Within_all, PlaceLemmas.Within_through, PlaceLemmas.Within_tail, Views.plain_view}
use Rattle.tsp_promises.specs.Premises.{Few, FewAt, Honest, HonestAt, Life, TakenWithinAt}
use Rattle.tsp_promises.proofs.shared.ElectionFacts.{Asks, begun_asks, asks_life, one_asking, open_at, boots, boots_view}
use Rattle.tsp_promises.proofs.promised.OwnFitsProof.{locate, view_line, seen_in, tick_in, deed_fits, own_fits, fits_at, place_time}
use Rattle.tsp_promises.proofs.shared.Elections.{AskFits, VoteFits, ElectFits, ElectsAt, Elects}
use Rattle.tsp_promises.proofs.promised.KnownProof.{GoesOn, StepAt, in_step_holds, known, own_in_step, port_split, step_at}
use Rattle.tsp_promises.specs.{Fits.Fits, Fits.SameStep, Fits.node_of, Setting.Network, Setting.Setting, Setting.setup_of, StepFacts.backed}
use Rattle.tsp_promises.specs.{StepFacts.backed_after, DeedFits.MessageFits, DeedFits.ElectionFits, HoldFits.AcceptFits, HoldFits.BackerFits, OwnFits.OwnFits}
use Rattle.tsp_promises.proofs.{shared.HistoryPlaces.line_on, shared.HistoryPlaces.Within_of, shared.HistoryPlaces.lift, shared.HistoryPlaces.own_in}
use Rattle.tsp_promises.proofs.{promised.SinceProof.since, shared.Clocks.near}
use Rattle.tsp_promises.proofs.{shared.EverywhereLemmas.Everywhere_at, shared.EverywhereLemmas.Everywhere_within, promised.SendProof.opened}
use Rattle.tsp_promises.proofs.{promised.SendProof.send_is}

-- a history that fits, also as elections ask, under their premises
pub record Polled (setting : Setting) (world : List Line) : Type 0 where
  pub fits : Fits setting world
  pub elects : Elects setting world
  pub honest : Honest world
  pub life : Life world
  pub few : Few world

pub polled_at : (setting : Setting) (s h : List Line) → Polled setting h → Within s h → Polled setting s
polled_at setting s h p w = record {
  fits = fits_at setting s h p.fits w;
  elects = Everywhere_within (ElectsAt setting) s h p.elects w;
  honest = Everywhere_within HonestAt s h p.honest w;
  life = Everywhere_within (TakenWithinAt LIFE) s h p.life w;
  few = Everywhere_within FewAt s h p.few w;
}

-- an ACCEPT of p that counts: the post that was taken, and the ELECTION that it answers
pub record Vote (setting : Setting) (a : ℕ) (q : Port) (x : Did) (xo : List Line) (p : PeerId) (number : ℕ) : Type 0 where
  pub y : Line
  pub yo : List Line
  pub y_in : Within (y ∷ yo) xo
  pub voter : peer_of (node_of y) ≡ p
  pub net : setting.net (node_of y) y.port ≡ setting.net a q
  pub soon : x.step.at ≤ y.did.step.at + LIFE
  pub answer : MessageValue
  pub posts : y.did.deed ≡ Acts (Post (Peer (peer_of a)) (Message answer))
  pub backs : backed (view y.port (of (node_of y) yo)) ≡ Some (peer_of a)
  pub e : Line
  pub eo : List Line
  pub e_in : Within (e ∷ eo) yo
  pub asker : node_of e ≡ a
  pub port : e.port ≡ q
  pub elect : MessageValue
  pub asks : e.did.deed ≡ Acts (Post (Peer (peer_of (node_of y))) (Message elect))
  pub kind : elect.kind ≡ Election
  pub number_is : elect.number ≡ number
  pub early : y.did.step.at ≤ e.did.step.at + LIFE

-- the ACCEPT fits
accept_fits : (setting : Setting) (y : Line) (yo : List Line) (to : PeerId) (answer : MessageValue) → ElectsAt setting y yo → y.did.deed ≡
    Acts (Post (Peer to) (Message answer)) → answer.kind ≡ Accept → AcceptFits (view y.port (of (node_of y) yo)) to answer.number
accept_fits setting y yo to answer f deed kind =
    let one : VoteFits answer.kind (view y.port (of (node_of y) yo)) to answer = subst (λ k. ElectFits (setup_of setting (node_of y) y.port) k y.did
    (view y.port (of (node_of y) yo))) deed f in
    subst (λ k. VoteFits k (view y.port (of (node_of y) yo)) to answer) kind one

pub vote_of : (setting : Setting) (a : ℕ) (q : Port) (x : Did) (xo : List Line) (p : PeerId) (answer : MessageValue) → Polled setting (line_on q x ∷ xo) →
    x.step.node ≡ a → x.deed ≡ Acts (Backer p) →
    Receives (view q (of a xo)) p (Message answer) → answer.kind ≡ Accept → Vote setting a q x xo p answer.number
vote_of setting a q x xo p answer w node deed took kind =
    let took' : Receives (view q (of x.step.node xo)) p (Message answer) = subst (λ n. Receives (view q (of n xo)) p (Message answer)) (sym node) took in
    let k = known setting (line_on q x) xo (Backer p) p (Message answer) w.fits w.honest deed took' in
    let wx = polled_at setting xo (line_on q x ∷ xo) w (inr (Within_all xo)) in
    let wy = polled_at setting (k.post ∷ k.older) xo wx k.place in
    let acc = accept_fits setting k.post k.older (peer_of x.step.node) answer wy.elects.0 k.deed kind in
    let j = known setting k.post k.older (Post (Peer (peer_of x.step.node)) (Message answer)) (peer_of x.step.node) (Message acc.message) wy.fits wy.honest
    k.deed acc.took in
    let asker : node_of j.post ≡ x.step.node = ap (λ (z : PeerId). z.0) {x = peer_of (node_of j.post)} j.node in
    let net : setting.net (node_of j.post) j.post.port ≡ setting.net x.step.node q = ◌∙◌ {a = setting.net (node_of j.post) j.post.port} j.net k.net in
    record {
      y = k.post;
      yo = k.older;
      y_in = k.place;
      voter = k.node;
      net = subst (λ n. setting.net (node_of k.post) k.post.port ≡ setting.net n q) node k.net;
      soon = w.life.0 k.post k.older (Peer (peer_of x.step.node)) (Message answer) k.place k.deed k.takes;
      answer = answer;
      posts = subst (λ n. k.post.did.deed ≡ Acts (Post (Peer (peer_of n)) (Message answer))) node k.deed;
      backs = subst (λ n. backed (view k.post.port (of (node_of k.post) k.older)) ≡ Some (peer_of n)) node acc.backs;
      e = j.post;
      eo = j.older;
      e_in = j.place;
      asker = ◌∙◌ {a = node_of j.post} asker node;
      port = setting.apart x.step.node j.post.port q (subst (λ n. setting.net n j.post.port ≡ setting.net x.step.node q) asker net);
      elect = acc.message;
      asks = j.deed;
      kind = acc.kind;
      number_is = acc.number_is;
      early = wy.life.0 j.post j.older (Peer (peer_of (node_of k.post))) (Message acc.message) j.place j.deed j.takes;
    }

-- node c backed a on this network, between two true times
pub record Backed (setting : Setting) (c a : ℕ) (net : Network) (from upto : ℕ) (world : List Line) : Type 0 where
  pub line : Line
  pub older : List Line
  pub place : Within (line ∷ older) world
  pub node : node_of line ≡ c
  pub deed : line.did.deed ≡ Acts (Back (peer_of a))
  pub net_is : setting.net c line.port ≡ net
  pub after : from ≤ line.did.step.at + 3
  pub by : line.did.step.at ≤ upto

-- where the Back stands of the candidate that a step has backed
back_at : (setting : Setting) (q : Port) (p : PeerId) (t : List Line) → OwnFits setting t → backed (view q t) ≡ Some p →
    StepAt (λ l. (l.port ≡ q) × (l.did.deed ≡ Acts (Back p))) t
back_at setting q p t f e = step_at setting _ (λ t. backed (view q t) ≡ Some p) t f none split e where
  none : backed [] ≡ Some p → ⊥
  none e = cc

  by_deed_holds : (deed : Deed) (o : Option PeerId) → backed_after deed o ≡ Some p → (deed ≡ Acts (Back p)) ⊎ (GoesOn deed × (o ≡ Some p))
  by_deed_holds Begins o e = let bad : ⊥ = cc in absurd bad
  by_deed_holds (Acts (Back r)) o e = let same : r ≡ p = cc in inl (ap (λ (z : PeerId). Acts (Back z)) same)
  by_deed_holds (Acts a) o e = inr ((a, refl), e)

  split : (l : Line) (t : List Line) → backed (view q (l ∷ t)) ≡ Some p →
      ((l.port ≡ q) × (l.did.deed ≡ Acts (Back p))) ⊎ (GoesOn l.did.deed × (backed (view q t) ≡ Some p))
  split l t e = port_split q (Back p) (λ s. backed s ≡ Some p) l t refl (λ e. by_deed_holds l.did.deed (backed (view q t)) e) (λ e. e) e

-- the Back in the step of an ACCEPT
pub back_of : (setting : Setting) (a : ℕ) (net : Network) (from upto : ℕ) (y : Line) (yo world : List Line) (answer : MessageValue) → Fits setting world →
    Within (y ∷ yo) world → y.did.deed ≡ Acts (Post (Peer (peer_of a)) (Message answer)) →
    backed (view y.port (of (node_of y) yo)) ≡ Some (peer_of a) → setting.net (node_of y) y.port ≡ net → from ≤ y.did.step.at → y.did.step.at ≤ upto →
    Backed setting (node_of y) a net from upto world
back_of setting a net from upto y yo world answer f w deed backs net_is after by =
    let fy = fits_at setting (y ∷ yo) world f w in
    let own = own_fits setting (node_of y) yo fy.1 in
    let b = back_at setting y.port (peer_of a) (of (node_of y) yo) own backs in
    let x = lift (node_of y) yo b.line b.rest b.place in
    let same = subst (λ k. SameStep k y.did.step (dids yo)) deed fy.0.step in
    let in_step = in_step_holds (Post (Peer (peer_of a)) (Message answer)) y.did.step yo same in
    let step : b.line.did.step ≡ y.did.step = b.step y.did.step (own_in_step (node_of y) y.did.step yo refl in_step) in
    record {
      line = b.line;
      older = x.world;
      place = Within_through (b.line ∷ x.world) yo world x.place (Within_tail y yo world w);
      node = x.node;
      deed = b.is.1;
      net_is = ap (setting.net (node_of y)) b.is.0 ∙ net_is;
      after = (let t = ap (λ (s : Step). s.at) step in omega (arith, t, after));
      by = (let t = ap (λ (s : Step). s.at) step in omega (arith, t, by));
    }

-- the number of an ELECTION that begins
asking_number : (setting : Setting) (n : ℕ) (q : Port) (d : Did) (older world : List Line) (p : PeerId) (m : MessageValue) → Elects setting world →
    Within (line_on q d ∷ older) world → d.step.node ≡ n →
    d.deed ≡ Acts (Post (Peer p) (Message m)) → m.kind ≡ Election → acting (view q (of n older)) ≡ true → m.number ≡
    32768 + (word (dids (of n older)) + begun (view q (of n older))) % 32768
asking_number setting n q d older world p m f w node deed kind acts =
    let own = Everywhere_at (ElectsAt setting) (line_on q d) older world f w in
    let here : ElectFits (setup_of setting n q) d.deed d (view q (of n older)) = subst (λ k. ElectFits (setup_of setting k q) d.deed d (view q (of k older)))
    node own in
    let one : VoteFits m.kind (view q (of n older)) p m = subst (λ k. ElectFits (setup_of setting n q) k d (view q (of n older))) deed here in
    let a : AskFits (view q (of n older)) m.number = subst (λ k. VoteFits k (view q (of n older)) p m) kind one in
    a.next acts ∙ ap (λ k. 32768 + (k + begun (view q (of n older))) % 32768) (ap word (plain_view q (of n older)))

few_in : (n : ℕ) (q : Port) (d : Did) (older world : List Line) (p : PeerId) → Few world → Within (line_on q d ∷ older) world → d.step.node ≡ n →
    Asks p d (view q (of n older)) → begun (view q (of n older)) < 32767
few_in n q d older world p few w node a =
    let one = Everywhere_at FewAt (line_on q d) older world few w in
    let two : begun (view q (of n (line_on q d ∷ older))) < 32768 = subst (λ k. begun (view q (of k (line_on q d ∷ older))) < 32768) node one in
    let three : begun (Here d ∷ view q (of n older)) < 32768 = subst (λ s. begun s < 32768) (view_line n (line_on q d) older node) two in
    let count = begun_asks p d (view q (of n older)) a in
    omega (arith, three, count)

same_word : (setting : Setting) (n : ℕ) (s t : List Line) → Fits setting t → Within s t → lives (dids (of n s)) ≡ lives (dids (of n t)) → word (dids (of n s)) ≡
    word (dids (of n t))
same_word setting n s t f w e =
    let i = since setting (of n s) (of n t) (own_fits setting n t f) (Within_of n s t w) in
    elim i.life [ inl one ↦ one.word | inr new ↦ absurd (omega (arith, new.lives, e)) ]

-- by their numbers two ELECTIONs of one life are one
same_asking : (setting : Setting) (n : ℕ) (q : Port) (p : PeerId) (g f : Did) (gw fw world : List Line) (mg mf : MessageValue) → Polled setting world →
    Within (line_on q g ∷ gw) world → Within (line_on q f ∷ fw) world →
    g.step.node ≡ n → f.step.node ≡ n → g.deed ≡ Acts (Post (Peer p) (Message mg)) → f.deed ≡ Acts (Post (Peer p) (Message mf)) → mg.kind ≡ Election → mf.kind ≡
    Election → acting (view q (of n gw)) ≡ true → acting (view q (of n fw)) ≡ true →
    mg.number ≡ mf.number → lives (dids (of n gw)) ≡ lives (dids (of n world)) → lives (dids (of n fw)) ≡ lives (dids (of n world)) → Here g ∷
    view q (of n gw) ≡ Here f ∷ view q (of n fw)
same_asking setting n q p g f gw fw world mg mf w g_in f_in g_node f_node g_deed f_deed g_kind f_kind g_acts f_acts number g_life f_life =
    let a : Asks p g (view q (of n gw)) = record { message = mg; deed = g_deed; kind = g_kind; begins = g_acts } in
    let b : Asks p f (view q (of n fw)) = record { message = mf; deed = f_deed; kind = f_kind; begins = f_acts } in
    let one = asking_number setting n q g gw world p mg w.elects g_in g_node g_deed g_kind g_acts in
    let two = asking_number setting n q f fw world p mf w.elects f_in f_node f_deed f_kind f_acts in
    let g_word = same_word setting n gw world w.fits (Within_tail (line_on q g) gw world g_in) g_life in
    let f_word = same_word setting n fw world w.fits (Within_tail (line_on q f) fw world f_in) f_life in
    let g_few = few_in n q g gw world p w.few g_in g_node a in
    let f_few = few_in n q f fw world p w.few f_in f_node b in
    let same : begun (view q (of n gw)) ≡ begun (view q (of n fw)) = omega (arith, one, two, g_word, f_word, g_few, f_few, number) in
    let life : boots (Here g ∷ view q (of n gw)) ≡ boots (Here f ∷ view q (of n fw)) =
    asks_life p g (view q (of n gw)) a ∙ (boots_view q (of n gw) ∙ (g_life ∙ (sym f_life ∙
    (sym (boots_view q (of n fw)) ∙ sym (asks_life p f (view q (of n fw)) b))))) in
    one_asking p g f (view q (of n gw)) (view q (of n fw)) (view q (of n world)) a b (seen_in n (line_on q g) gw world g_node g_in)
    (seen_in n (line_on q f) fw world f_node f_in) life same

-- where the send begins that an ELECTION belongs to
record AskPlace (setting : Setting) (a : ℕ) (q : Port) (e : Line) (eo : List Line) (to : PeerId) (m : MessageValue) : Type 0 where
  pub g : Did
  pub gw : List Line
  pub place : Within (line_on q g ∷ gw) (e ∷ eo)
  pub node : g.step.node ≡ a
  pub deed : g.deed ≡ Acts (Post (Peer to) (Message m))
  pub begins : acting (view q (of a gw)) ≡ true
  pub soon : e.did.tick ≤ g.tick + LAST

ask_place : (setting : Setting) (a : ℕ) (q : Port) (e : Line) (eo : List Line) (to : PeerId) (m : MessageValue) → Fits setting (e ∷ eo) → node_of e ≡ a →
    e.port ≡ q → e.did.deed ≡ Acts (Post (Peer to) (Message m)) → m.kind ≡ Election → AskPlace setting a q e eo to m
ask_place setting a q e eo to m f node port deed kind =
    let own = deed_fits setting e eo (Acts (Post (Peer to) (Message m))) deed f.0 in
    let asks : ElectionFits e.did (view e.port (of (node_of e) eo)) to m = subst (λ k. MessageFits (setup_of setting (node_of e) e.port) k e.did
    (view e.port (of (node_of e) eo)) to m) kind own.fits in
    let here : ElectionFits e.did (view q (of a eo)) to m = subst₂ (λ n r. ElectionFits e.did (view r (of n eo)) to m) node port asks in
    let d = send_is to e.did (view q (of a eo)) m deed (ap is_numbered kind) here.numbered.repeats in
    let line : view q (of a (e ∷ eo)) ≡ Here e.did ∷ view q (of a eo) = subst (λ r. view r (of a (e ∷ eo)) ≡ Here e.did ∷
    view r (of a eo)) port (view_line a e eo node) in
    let l = locate a q (e ∷ eo) d.first d.older (rw d.same refl) (subst (λ s. Within (Here d.first ∷ d.older) s) (sym line) d.place) in
    record {
      g = d.first;
      gw = l.older;
      place = l.place;
      node = l.node;
      deed = d.same;
      begins = subst (λ s. acting s ≡ true) (sym l.before) d.begins;
      soon = d.soon;
    }

-- the open ELECTION of a candidature that x ends
pub record OpenPlace (a : ℕ) (q : Port) (xo : List Line) (start : Did) (p : PeerId) (number : ℕ) : Type 0 where
  pub f : Did
  pub fw : List Line
  pub place : Within (line_on q f ∷ fw) xo
  pub node : f.step.node ≡ a
  pub message : MessageValue
  pub deed : f.deed ≡ Acts (Post (Peer p) (Message message))
  pub kind : message.kind ≡ Election
  pub begins : acting (view q (of a fw)) ≡ true
  pub number_is : message.number ≡ number
  pub life : lives (dids (of a fw)) ≡ lives (dids (of a xo))
  pub so : List Line
  pub after : Within (line_on q start ∷ so) fw

pub open_place : (a : ℕ) (q : Port) (who : Setup) (x : Did) (xo : List Line) (p : PeerId) (vs : List Seen) (start : Did) (idle : List Seen) → view q (of a xo) ≡
    vs → (b : BackerFits who x vs p) → stood vs ≡ Here start ∷ idle → is_shared start.deed ≡ false →
    OpenPlace a q xo start p b.answer.number
open_place a q who x xo p vs start idle seen b stands own =
    let o = open_at p b.past b.first b.older b.ends in
    let k = opened p b.past b.first b.older b.ends in
    let acked : stood_after b.acked.deed (Here b.acked ∷ b.past) (stood b.past) ≡ stood b.past =
    ap (λ d. stood_after d (Here b.acked ∷ b.past) (stood b.past)) b.deed in
    let still : lives_after b.acked.deed (boots b.past) ≡ boots b.past = ap (λ d. lives_after d (boots b.past)) b.deed in
    let role : stood b.past ≡ Here start ∷ idle = sym acked ∙ (ap stood (sym b.is) ∙ stands) in
    let in_vs : Within (Here b.first ∷ b.older) vs = subst (λ s. Within (Here b.first ∷ b.older) s) (sym b.is) (inr o.place) in
    let in_xo : Within (Here b.first ∷ b.older) (view q (of a xo)) = subst (λ s. Within (Here b.first ∷ b.older) s) (sym seen) in_vs in
    let l = locate a q xo b.first b.older (rw b.asks refl) in_xo in
    let s_in : Within (Here start ∷ idle) (view q (of a l.older)) = subst (λ s. Within (Here start ∷ idle) s) (sym l.before) (o.after (Here start) idle role) in
    let s = locate a q l.older start idle own s_in in
    let asks : Asks p b.first b.older = record { message = b.message; deed = b.asks; kind = b.election; begins = k.begins.begins } in
    record {
      f = b.first;
      fw = l.older;
      place = l.place;
      node = l.node;
      message = b.message;
      deed = b.asks;
      kind = b.election;
      begins = subst (λ s. acting s ≡ true) (sym l.before) k.begins.begins;
      number_is = b.number;
      life = sym (boots_view q (of a l.older)) ∙ (ap boots l.before ∙ (sym (asks_life p b.first b.older asks) ∙
          (o.life ∙ (sym still ∙ (ap boots (sym b.is) ∙ (ap boots (sym seen) ∙ boots_view q (of a xo)))))));
      so = s.older;
      after = s.place;
    }

-- an ELECTION of the candidature was posted in it
pub asked_late : (setting : Setting) (a : ℕ) (q : Port) (x : Did) (xo : List Line) (p : PeerId) (number : ℕ) (start : Did) → Polled setting (line_on q x ∷ xo) →
    x.step.node ≡ a → boot_tick (dids (of a xo)) + 290000000 ≤ x.tick →
    (v : Vote setting a q x xo p number) → OpenPlace a q xo start p number → start.step.at ≤ v.e.did.step.at
asked_late setting a q x xo p number start w node rested v o =
    let wx = polled_at setting xo (line_on q x ∷ xo) w (inr (Within_all xo)) in
    let e_in : Within (v.e ∷ v.eo) xo = Within_through (v.e ∷ v.eo) v.yo xo v.e_in (Within_tail v.y v.yo xo v.y_in) in
    let we = polled_at setting (v.e ∷ v.eo) xo wx e_in in
    let asks : v.e.did.deed ≡ Acts (Post (Peer p) (Message v.elect)) = subst (λ t. v.e.did.deed ≡ Acts (Post (Peer t) (Message v.elect))) v.voter v.asks in
    let g = ask_place setting a q v.e v.eo p v.elect we.fits v.asker v.port asks v.kind in
    let g_in : Within (line_on q g.g ∷ g.gw) xo = Within_through (line_on q g.g ∷ g.gw) (v.e ∷ v.eo) xo g.place e_in in
    let own = own_fits setting a xo wx.fits in
    let i = since setting (line_on q g.g ∷ of a g.gw) (of a xo) own (own_in a (line_on q g.g) g.gw xo g.node g_in) in
    let late : g.g.step.at ≤ v.e.did.step.at = place_time setting (line_on q g.g ∷ g.gw) (v.e ∷ v.eo) we.fits g.place in
    elim i.life [
      | inr new ↦
          let tick_e = tick_in setting a v.e v.eo xo wx.fits v.asker e_in in
          let tick_x : x.tick ≡ setting.tick a x.step.at = subst (λ n. x.tick ≡ setting.tick n x.step.at) node w.fits.0.tick in
          let e_by = place_time setting (v.e ∷ v.eo) xo wx.fits e_in in
          let n = near setting a v.e.did.step.at x.step.at (omega (arith, w.fits.0.order, e_by)) in
          absurd (omega (arith, new.boot, rested, g.soon, v.early, v.soon, tick_e, tick_x, n.most))
      | inl one ↦
          let same : lives (dids (of a g.gw)) ≡ lives (dids (of a xo)) = sym (ap (λ d. lives_after d (lives (dids (of a g.gw)))) g.deed) ∙ one.lives in
          let asking =
          same_asking setting a q p g.g o.f g.gw o.fw xo v.elect o.message wx g_in o.place g.node o.node g.deed o.deed v.kind o.kind g.begins o.begins
          (v.number_is ∙ sym o.number_is) same o.life in
          let did : g.g ≡ o.f = cc in
          let at : g.g.step.at ≡ o.f.step.at = ap (λ (d : Did). d.step.at) did in
          let wf = polled_at setting (line_on q o.f ∷ o.fw) xo wx o.place in
          let early = place_time setting (line_on q start ∷ o.so) o.fw wf.fits.1 o.after in
          let order = wf.fits.0.order in
          omega (arith, early, order, at, late)
    ]
