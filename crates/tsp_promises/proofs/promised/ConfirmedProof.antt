-- An acknowledged correction was taken.
use Rattle.std.proofs.Common.{sym, ap, arith, subst, subst₂, inl, inr, ◌∙◌, ◌≡◌, Bool, true, ℕ, ◌+◌, ◌<◌, ◌≤◌, ℤ, List, [], ◌∷◌, Some, is_some, refl}
use Rattle.tsp_rules.specs.Values.{Post, Correct, Acked, Message, Kind, Ack, AdjTime, Conflict, Date, Msite, MsiteReq, QuitKind, SetDate, SetTime, Test}
use Rattle.tsp_rules.specs.Values.{TraceOff, TraceOn, PeerId, Peer, Port, LIFE}
use Rattle.tsp_base.specs.Words.{Came, Acts, Did, Line, Seen, Here, of, dids, view, MessageValue, all_corrects, corrects, lives, ticket, word, Within, acting}
use Rattle.tsp_base.specs.Words.{begun_to, is_correction, last_taken, open_to, Setup, Receives, heard, peer_of, posted}
use Rattle.tsp_base.proofs.PlaceLemmas.{Within_all, Within_through, Within_tail, Within_comparable}
use Rattle.tsp_base.proofs.Views.{plain_view}
use Rattle.tsp_promises.proofs.promised.OwnFitsProof.{Given, given_at, deed_fits, own_fits, own_fits_at, fits_at, place_time, locate}
use Rattle.tsp_promises.proofs.promised.SendProof.{CorrectsTo, numbered, opened, number-same}
use Rattle.tsp_promises.specs.{Once.Acted, Once.Brings, Once.ConfirmedAt, Once.OnceConfirmed, Setting.Setting, Setting.setup_of, AckFits.Acknowledges}
use Rattle.tsp_promises.specs.{AckFits.AckFits, AckFits.Answers, DeedFits.MessageFits, Fits.Fits, Fits.node_of, Since.OneLife}
use Rattle.tsp_promises.proofs.{promised.OnceTakenProof.takes_of, promised.KnownProof.known, promised.KnownProof.heard_taken, shared.HistoryPlaces.line_on}
use Rattle.tsp_promises.proofs.{shared.HistoryPlaces.lift}
use Rattle.tsp_promises.proofs.{shared.HistoryPlaces.own_in, shared.HistoryPlaces.Within_of, promised.SinceProof.since, promised.SameSendProof.same_send}
use Rattle.tsp_promises.proofs.{promised.LastTakenProof.last_taken_at}
use Rattle.tsp_promises.proofs.{promised.SourceProof.Source, promised.SourceProof.source}

-- the last Correct doesn't stand before the source of a number that it took
before_source : (setting : Setting) (k : ℕ) (c r : Line) (cw ro uo : List Line) (amount : ℤ) (stepped : Bool) (shown : ℤ) → Fits setting uo →
    Within (r ∷ ro) uo → Within (c ∷ cw) ro → node_of c ≡ k → c.did.deed ≡ Acts (Correct amount stepped shown) →
    all_corrects (dids (c ∷ of k cw)) ≡ all_corrects (dids (of k uo)) → lives (dids (c ∷ of k cw)) ≡ lives (dids (of k uo)) → ticket (dids (of k cw)) ≡
    ticket (dids (of k ro)) → ⊥
before_source setting k c r cw ro uo amount stepped shown f r_in c_in node deed all lives_is same =
    let own = own_fits setting k uo f in
    let ro_in : Within (of k ro) (of k uo) = Within_of k ro uo (Within_tail r ro uo r_in) in
    let one = since setting (c ∷ of k cw) (of k ro) (own_fits_at setting (of k ro) (of k uo) own ro_in) (own_in k c cw ro node c_in) in
    let two = since setting (of k ro) (of k uo) own ro_in in
    let life : OneLife (dids (c ∷ of k cw)) (dids (of k ro)) = elim one.life [ inl o ↦ o | inr o ↦ absurd (omega (arith, o.lives, two.lives)) ] in
    let word_is : word (dids (c ∷ of k cw)) ≡ word (dids (of k cw)) = rw deed refl in
    let corrects_is : corrects (dids (c ∷ of k cw)) ≡ corrects (dids (of k cw)) + 1 = rw deed refl in
    omega (arith, life.word, life.corrects, one.all, two.all)

after_source : (setting : Setting) (k : ℕ) (c r : Line) (cw ro uo : List Line) (amount : ℤ) (stepped : Bool) (shown : ℤ) → Fits setting uo →
    Within (r ∷ ro) uo → Within (c ∷ cw) uo → node_of c ≡ k → c.did.deed ≡ Acts (Correct amount stepped shown) →
    all_corrects (dids (c ∷ of k cw)) ≡ all_corrects (dids (of k uo)) → lives (dids (c ∷ of k cw)) ≡ lives (dids (of k uo)) → ticket (dids (of k cw)) ≡
    ticket (dids (of k ro)) → r.did.step.at ≤ c.did.step.at
after_source setting k c r cw ro uo amount stepped shown f r_in c_in node deed all lives_is same = elim (Within_comparable (r ∷ ro) (c ∷ cw) uo r_in c_in) [
  | inl i ↦ place_time setting (r ∷ ro) (c ∷ cw) (fits_at setting (c ∷ cw) uo f c_in) i
  | inr (inl e) ↦ (let line : c ≡ r = cc in let o = ap (λ (z : Line). z.did.step.at) line in omega arith)
  | inr (inr i) ↦ absurd (before_source setting k c r cw ro uo amount stepped shown f r_in i node deed all lives_is same)
]

-- an ACK of a number below 32,768 answers a correction
record AnswersOne (kind : Kind) (seen : List Seen) (p : PeerId) (number : ℕ) : Type 0 where
  pub kind_is : is_correction kind ≡ true
  pub taken : last_taken seen ≡ Some (record { from = p; number = number })

answers_one : (setup : Setup) (kind : Kind) (here : Did) (before seen : List Seen) (k p : PeerId) (m : MessageValue) (number : ℕ) →
    MessageFits setup kind here before k m → m.number ≡ number → number < 32768 → Answers kind (Peer p) seen number → AnswersOne kind seen p number
answers_one setup AdjTime here before seen k p m number f e small a = record { kind_is = refl; taken = a }
answers_one setup SetTime here before seen k p m number f e small a = record { kind_is = refl; taken = a }
answers_one setup Conflict here before seen k p m number f e small a = absurd (omega (arith, f.number))
answers_one setup QuitKind here before seen k p m number f e small a = absurd (omega (arith, f.number))
answers_one setup Msite here before seen k p m number f e small a = absurd f
answers_one setup MsiteReq here before seen k p m number f e small a = absurd f
answers_one setup Test here before seen k p m number f e small a = absurd f
answers_one setup TraceOn here before seen k p m number f e small a = absurd f
answers_one setup TraceOff here before seen k p m number f e small a = absurd f
answers_one setup Date here before seen k p m number f e small a = absurd f
answers_one setup SetDate here before seen k p m number f e small a = absurd f
answers_one setup _ here before seen k p m number f e small a = absurd a

-- the open send: where it begins
record OpenSend (setting : Setting) (n k : ℕ) (q : Port) (world : List Line) (f : Did) (fw : List Line) (m : MessageValue) : Type 0 where
  pub place : Within (line_on q f ∷ fw) world
  pub node : f.step.node ≡ n
  pub corrects : CorrectsTo (peer_of k) m f (view q (of n fw))
  pub is : open_to (peer_of k) (view q (of n world)) ≡ Here f ∷ view q (of n fw)
  pub source : Source k f fw m.number
  pub small : m.number < 32768

-- the last Correct before the ACK takes a post p3 of the open send
confirmed_c : (setting : Setting) (n k : ℕ) (q : Port) (f : Did) (u c p3 : Line) (world fw uo cw o3 : List Line) (mf t2 : MessageValue) (amount : ℤ)
    (stepped : Bool) (shown : ℤ) → Given setting world → OnceConfirmed world → OpenSend setting n k q world f fw mf →
    Within (u ∷ uo) world → Within (line_on q f ∷ fw) uo → Within (c ∷ cw) uo → node_of c ≡ k → c.did.deed ≡ Acts (Correct amount stepped shown) →
    all_corrects (dids (c ∷ of k cw)) ≡ all_corrects (dids (of k uo)) →
    lives (dids (c ∷ of k cw)) ≡ lives (dids (of k uo)) → Receives (view c.port (of k cw)) (peer_of n) (Message t2) → is_correction t2.kind ≡ true → t2.number ≡
    mf.number →
    Within (p3 ∷ o3) cw → p3.did.deed ≡ Acts (Post (Peer (peer_of k)) (Message t2)) → node_of p3 ≡ n → p3.port ≡ q → c.did.step.cause ≡
    Came (posted (dids o3)) → Acted n k world f (view q (of n fw))
confirmed_c setting n k q f u c p3 world fw uo cw o3 mf t2 amount stepped shown g h s u_in f_uo c_in c_node c_deed all lives_is took kind number p3_in p3_deed
    p3_node p3_port takes =
    let gu = given_at setting (u ∷ uo) world g u_in in
    let guo = given_at setting uo (u ∷ uo) gu (inr (Within_all uo)) in
    let gc = given_at setting (c ∷ cw) uo guo c_in in
    let src = s.source in
    let r_uo : Within (src.r ∷ src.ro) uo = Within_through (src.r ∷ src.ro) fw uo src.place (Within_tail (line_on q f) fw uo f_uo) in
    let fits = deed_fits setting c cw (Acts (Correct amount stepped shown)) c_deed gc.fits.0 in
    let heard_is : is_some (heard (dids (of (node_of c) cw))) ≡ true =
    subst (λ z. is_some (heard (dids (of z cw))) ≡ true) (sym c_node)
    (ap (λ o. is_some o) (heard_taken setting c.port _ (of k cw) (own_fits setting k cw gc.fits.1) took)) in
    let deed' = subst (λ z. p3.did.deed ≡ Acts (Post (Peer (peer_of z)) (Message t2))) (sym c_node) p3_deed in
    let brings : Brings c cw p3 o3 = record { place = p3_in; cause = takes; message = t2; deed = deed' } in
    let t = takes_of setting c cw p3 o3 (Correct amount stepped shown) amount gc.fits c_deed brings heard_is kind fits.why in
    let num : t2.number ≡ ticket (dids (of k cw)) = t.number ∙ (ap ticket (plain_view c.port (of (node_of c) cw)) ∙ ap (λ z. ticket (dids (of z cw))) c_node) in
    let after = after_source setting k c src.r cw src.ro uo amount stepped shown guo.fits r_uo c_in c_node c_deed all lives_is (sym num ∙ (number ∙ src.is)) in
    let life_c = gc.life.0 p3 o3 (Peer (peer_of k)) (Message t2) p3_in p3_deed takes in
    let c_world : Within (c ∷ cw) world = Within_through (c ∷ cw) uo world c_in (Within_tail u uo world u_in) in
    let p3_world : Within (p3 ∷ o3) world = Within_through (p3 ∷ o3) cw world p3_in (Within_tail c cw world c_world) in
    let p3_q : Within (line_on q p3.did ∷ o3) world = subst (λ z. Within (line_on z p3.did ∷ o3) world) p3_port p3_world in
    let same = same_send setting n k q world f p3.did fw o3 mf t2 g.fits h s.place s.node s.corrects s.is p3_q p3_node p3_deed kind number s.small
    (let z = src.soon in omega arith) in
    record {
      correct = c;
      past = cw;
      place = c_world;
      node = c_node;
      post = p3;
      older = o3;
      acts = record { amount = amount; stepped = stepped; shown = shown; correct = c_deed; brings = brings; took = heard_is };
      from = p3_node;
      of_send = record {
        message = t2;
        deed = p3_deed;
        numbered = numbered t2.kind kind;
        is = subst₂ (λ z y. begun_to (peer_of k) (Here p3.did ∷ view z (of y o3)) ≡ Here f ∷ view q (of n fw)) (sym p3_port) (sym p3_node) same.is;
      };
    }

-- a post of node n that reaches a port which shares its network with port q of n was posted on q
pub port_is : (setting : Setting) (n k : ℕ) (q r : Port) (p : Line) → node_of p ≡ n → setting.net (node_of p) p.port ≡ setting.net k r → setting.net k r ≡
    setting.net n q → p.port ≡ q
port_is setting n k q r p node one two = setting.apart n p.port q (subst (λ z. setting.net z p.port ≡ setting.net n q) node (one ∙ two))

-- the ACK u answers a post p2 of the open send
confirmed_u : (setting : Setting) (n k : ℕ) (q : Port) (f : Did) (u p2 : Line) (world fw uo o2 : List Line) (mf m2 : MessageValue) → Given setting world →
    OnceConfirmed world → OpenSend setting n k q world f fw mf → Within (u ∷ uo) world → node_of u ≡ k →
    setting.net k u.port ≡ setting.net n q → f.step.at ≤ u.did.step.at + LIFE → Within (p2 ∷ o2) uo → p2.did.deed ≡
    Acts (Post (Peer (peer_of k)) (Message m2)) → node_of p2 ≡ n → p2.port ≡ q → u.did.step.at ≤ p2.did.step.at + LIFE → m2.number ≡ mf.number →
    Answers m2.kind (Peer (peer_of n)) (view u.port (of k uo)) mf.number → Acted n k world f (view q (of n fw))
confirmed_u setting n k q f u p2 world fw uo o2 mf m2 g h s u_in u_node net life_l p2_in p2_deed p2_node p2_port life_u number answers =
    let gu = given_at setting (u ∷ uo) world g u_in in
    let guo = given_at setting uo (u ∷ uo) gu (inr (Within_all uo)) in
    let gp = given_at setting (p2 ∷ o2) uo guo p2_in in
    let fits = deed_fits setting p2 o2 (Acts (Post (Peer (peer_of k)) (Message m2))) p2_deed gp.fits.0 in
    let one = answers_one (setup_of setting (node_of p2) p2.port) m2.kind p2.did (view p2.port (of (node_of p2) o2)) (view u.port (of k uo)) (peer_of k)
    (peer_of n) m2 mf.number fits.fits number s.small answers in
    let p2_world : Within (p2 ∷ o2) world = Within_through (p2 ∷ o2) uo world p2_in (Within_tail u uo world u_in) in
    let p2_q : Within (line_on q p2.did ∷ o2) world = subst (λ z. Within (line_on z p2.did ∷ o2) world) p2_port p2_world in
    let same = same_send setting n k q world f p2.did fw o2 mf m2 g.fits h s.place s.node s.corrects s.is p2_q p2_node p2_deed one.kind_is number s.small
    (omega arith) in
    let f_uo : Within (line_on q f ∷ fw) uo = Within_through (line_on q f ∷ fw) (p2 ∷
    o2) uo (subst (λ z. Within (line_on q f ∷ fw) (line_on z p2.did ∷ o2)) (sym p2_port) same.place) p2_in in
    let t = last_taken_at u.port (of k uo) (peer_of n) mf.number one.taken in
    let c = lift k uo (line_on u.port t.correct) t.rest t.place in
    let gc = given_at setting (line_on u.port t.correct ∷ c.world) uo guo c.place in
    let took : Receives (view u.port (of k c.world)) (peer_of n) (Message t.message) =
    subst (λ z. Receives (view u.port z) (peer_of n) (Message t.message)) (sym c.own) t.took in
    let p3 = known setting (line_on u.port t.correct) c.world (Correct t.amount t.stepped t.shown) (peer_of n) (Message t.message) gc.fits gc.honest t.deed
    (subst (λ z. Receives (view u.port (of z c.world)) (peer_of n) (Message t.message)) (sym c.node) took) in
    let p3_node : node_of p3.post ≡ n = number-same (node_of p3.post) n p3.node in
    let p3_net : setting.net (node_of p3.post) p3.post.port ≡ setting.net k u.port = subst (λ z. setting.net (node_of p3.post) p3.post.port ≡
    setting.net z u.port) c.node p3.net in
    confirmed_c setting n k q f u (line_on u.port t.correct) p3.post world fw uo c.world p3.older mf t.message t.amount t.stepped t.shown g h s u_in f_uo
    c.place c.node t.deed
    (ap (λ z. all_corrects (dids (line_on u.port t.correct ∷ z))) c.own ∙ t.all) (ap (λ z. lives (dids (line_on u.port t.correct ∷ z))) c.own ∙
    t.lives) took t.kind t.number_is
    p3.place (subst (λ z. p3.post.did.deed ≡ Acts (Post (Peer (peer_of z)) (Message t.message))) c.node p3.deed) p3_node
    (port_is setting n k q u.port p3.post p3_node p3_net net) p3.takes

-- the Acked l takes an ACK u of k
confirmed_f : (setting : Setting) (l : Line) (world fw : List Line) (k : ℕ) (f : Did) (mf : MessageValue) → Given setting (l ∷ world) → l.did.deed ≡
    Acts (Acked (peer_of k)) → OnceConfirmed world → OpenSend setting (node_of l) k l.port world f fw mf →
    Acknowledges Ack (view l.port (of (node_of l) world)) (peer_of k) mf.number → Acted (node_of l) k world f (view l.port (of (node_of l) fw))
confirmed_f setting l world fw k f mf g l_deed h s a =
    let n = node_of l in
    let gw = given_at setting world (l ∷ world) g (inr (Within_all world)) in
    let u = known setting l world (Acked (peer_of k)) (peer_of k) (Message a.message) g.fits g.honest l_deed a.took in
    let gu = given_at setting (u.post ∷ u.older) world gw u.place in
    let u_node : node_of u.post ≡ k = number-same (node_of u.post) k u.node in
    let fits = deed_fits setting u.post u.older (Acts (Post (Peer (peer_of n)) (Message a.message))) u.deed gu.fits.0 in
    let ack : AckFits (Peer (peer_of n)) (view u.post.port (of (node_of u.post) u.older)) a.message.number =
    subst (λ kd. MessageFits (setup_of setting (node_of u.post) u.post.port) kd u.post.did (view u.post.port (of (node_of u.post) u.older)) (peer_of n)
    a.message) a.kind fits.fits in
    let p2 = known setting u.post u.older (Post (Peer (peer_of n)) (Message a.message)) (peer_of n) (Message ack.message) gu.fits gu.honest u.deed ack.took in
    let p2_node : node_of p2.post ≡ n = number-same (node_of p2.post) n p2.node in
    let net : setting.net k u.post.port ≡ setting.net n l.port = subst (λ z. setting.net z u.post.port ≡ setting.net n l.port) u_node u.net in
    let p2_net : setting.net (node_of p2.post) p2.post.port ≡ setting.net k u.post.port = subst (λ z. setting.net (node_of p2.post) p2.post.port ≡
    setting.net z u.post.port) u_node p2.net in
    let life_l = g.life.0 u.post u.older (Peer (peer_of n)) (Message a.message) u.place u.deed u.takes in
    let f_at : f.step.at ≤ l.did.step.at = (let z = place_time setting (line_on l.port f ∷ fw) world g.fits.1 s.place in omega (arith, g.fits.0.order)) in
    let answers : Answers ack.message.kind (Peer (peer_of n)) (view u.post.port (of k u.older)) mf.number =
    subst₂ (λ z y. Answers ack.message.kind (Peer (peer_of n)) (view u.post.port (of z u.older)) y) u_node a.number_is ack.answers in
    confirmed_u setting n k l.port f u.post p2.post world fw u.older p2.older mf ack.message gw h s u.place u_node net (omega arith) p2.place
    (subst (λ z. p2.post.did.deed ≡ Acts (Post (Peer (peer_of z)) (Message ack.message))) u_node p2.deed) p2_node
    (port_is setting n k l.port u.post.port p2.post p2_node p2_net net) (gu.life.0 p2.post p2.older (Peer (peer_of (node_of u.post))) (Message ack.message)
    p2.place p2.deed p2.takes) (ack.number_is ∙ a.number_is) answers

confirmed_at : (setting : Setting) (l : Line) (world : List Line) → Given setting (l ∷ world) → OnceConfirmed world → ConfirmedAt l world
confirmed_at setting l world g h p first older m deed open_is first_deed kind =
    let n = node_of l in
    let seen = view l.port (of n world) in
    let a : Acknowledges Ack seen p m.number = (deed_fits setting l world (Acts (Acked p)) deed g.fits.0 first older m open_is first_deed).correction kind in
    let o = opened p seen first older open_is in
    let f = locate n l.port world first older (rw first_deed refl) o.place in
    let gw = given_at setting world (l ∷ world) g (inr (Within_all world)) in
    let c : CorrectsTo p m first (view l.port (of n f.older)) = record {
      deed = first_deed;
      kind = kind;
      begins = subst (λ z. acting z ≡ true) (sym f.before) o.begins.begins;
    } in
    let src = source setting n p.0 l.port first f.older m (given_at setting (line_on l.port first ∷ f.older) world gw f.place) f.node c in
    subst (λ z. Acted n p.0 world first z) f.before
    (confirmed_f setting l world f.older p.0 first m g deed h
    (record {
      place = f.place;
      node = f.node;
      corrects = c;
      is = open_is ∙ ap (λ z. Here first ∷ z) (sym f.before);
      source = src;
      small = omega (arith, src.is);
    }) a)

pub once_confirmed : (setting : Setting) (world : List Line) → Given setting world → OnceConfirmed world
once_confirmed setting [] g = tt
once_confirmed setting (l ∷ world) g = let h = once_confirmed setting world (given_at setting world (l ∷ world) g (inr (Within_all world))) in
    (confirmed_at setting l world g h, h)
