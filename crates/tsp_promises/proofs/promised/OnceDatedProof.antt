-- No two Corrects take posts of one date that is passed on, and so of no send.
use Rattle.std.proofs.Common.{sym, ap, arith, subst, subst₂, inl, inr, eq-eqb, eqb-true, true≢false, ◌∙◌, ◌≡◌, ◌≢◌, ◌==◌, ◌≤◌, Bool, true, false, ℕ, ◌+◌, ℤ}
use Rattle.std.proofs.Common.{List, ◌∷◌, refl}
use Rattle.tsp_rules.specs.Values.{Post, Correct, Message, Kind, Date, DateReq, SetDate, SetDateReq, PeerId, Peer, Port, LIFE, QUIET, REUSE}
use Rattle.tsp_base.specs.Words.{Acts, Did, Line, Seen, Here, of, dids, view, is_shared, MessageValue, boot_tick, lives, Within, acting, is_correction}
use Rattle.tsp_base.specs.Words.{is_date_request, is_numbered, is_set_date_request, sets_date, Setup, Receives, peer_of}
use Rattle.tsp_base.proofs.{PlaceLemmas.Within_through, PlaceLemmas.Within_tail, PlaceLemmas.Within_comparable, ViewPlaces.sees_own}
use Rattle.tsp_base.proofs.Views.{plain_view}
use Rattle.tsp_promises.proofs.promised.OwnFitsProof.{fits_in, tick_in, deed_fits, own_fits, own_fits_at, fits_at, place_time, seen_same}
use Rattle.tsp_promises.proofs.promised.OnceTakenProof.{Twice, acts_rested, corrected_at, correct_fits, numbered_by, twice}
use Rattle.tsp_promises.specs.{Premises.Honest, Premises.HonestAt, Premises.Life, Premises.TakenWithinAt, Setting.Setting, Setting.setup_of}
use Rattle.tsp_promises.specs.{Fits.Fits, Fits.LineFits, Fits.node_of, Once.ActsOn, Once.OfSend, Once.OnceAt, Once.OnceTaken}
use Rattle.tsp_promises.specs.{DateFits.PassOnFits, DeedFits.MessageFits}
use Rattle.tsp_promises.proofs.{promised.LastTakenProof.DateLate, promised.LastTakenProof.asked_late, promised.LastTakenProof.date_late}
use Rattle.tsp_promises.proofs.{shared.SendPlaces.send_place}
use Rattle.tsp_promises.proofs.{promised.OnceTakenProof.DatesOf, promised.OnceTakenProof.dates_of, promised.SendProof.BeginsSend}
use Rattle.tsp_promises.proofs.{promised.SendProof.number-same, promised.SendProof.one_message}
use Rattle.tsp_promises.proofs.{shared.HistoryPlaces.line_on, shared.HistoryPlaces.lift, shared.HistoryPlaces.own_in, promised.KnownProof.known}
use Rattle.tsp_promises.proofs.{promised.KnownProof.line_is}
use Rattle.tsp_promises.proofs.{shared.Clocks.near, shared.EverywhereLemmas.Everywhere_from, shared.EverywhereLemmas.Everywhere_within}
use Rattle.tsp_promises.proofs.{promised.SinceProof.since}

-- what a post owes that passes a date on
pub record PassesOn (here : Did) (seen : List Seen) (kind : Kind) : Type 0 where
  pub is : kind ≡ SetDateReq
  pub begins : acting seen ≡ true → PassOnFits here seen

passes_on : (setup : Setup) (kind : Kind) (here : Did) (seen : List Seen) (p : PeerId) (m : MessageValue) → is_date_request kind ≡ true →
    MessageFits setup kind here seen p m → PassesOn here seen kind
passes_on setup DateReq here seen p m e f = absurd f
passes_on setup SetDateReq here seen p m e f = record { is = refl; begins = f.begins }
passes_on setup _ here seen p m e f = absurd (true≢false (sym e))

pub passes_in : (setting : Setting) (m : ℕ) (x : Line) (rest : List Line) (p : PeerId) (message : MessageValue) → LineFits setting x rest → node_of x ≡ m →
    x.did.deed ≡ Acts (Post (Peer p) (Message message)) → is_date_request message.kind ≡ true → PassesOn x.did (view x.port (of m rest)) message.kind
passes_in setting m x rest p message f node deed kind =
    subst (λ n. PassesOn x.did (view x.port (of n rest)) message.kind) node
    (passes_on (setup_of setting (node_of x) x.port) message.kind x.did (view x.port (of (node_of x) rest)) p message kind
    (deed_fits setting x rest (Acts (Post (Peer p) (Message message))) deed f).fits)

-- where port r of m begins to pass a date on
pub record Passing (m : ℕ) (r : Port) (p : PeerId) (message : MessageValue) (f : Did) (fw : List Line) : Type 0 where
  pub node : f.step.node ≡ m
  pub sends : BeginsSend p message f (view r (of m fw))
  pub kind : is_date_request message.kind ≡ true

-- it begins that REUSE after it last did
pub passed_apart : (setting : Setting) (m : ℕ) (r : Port) (p q : PeerId) (mf mg : MessageValue) (f g : Did) (fw gw : List Line) →
    Fits setting (line_on r g ∷ gw) → Within (line_on r f ∷ fw) gw → Passing m r p mf f fw → Passing m r q mg g gw → f.tick + REUSE ≤ g.tick
passed_apart setting m r p q mf mg f g fw gw w f_in x y =
    let own = own_fits setting m gw w.1 in
    let place = own_in m (line_on r f) fw gw x.node f_in in
    let i = since setting (line_on r f ∷ of m fw) (of m gw) own place in
    let fx = passes_in setting m (line_on r f) fw p mf (fits_in setting (line_on r f) fw gw w.1 f_in) x.node x.sends.deed x.kind in
    let gx = (passes_in setting m (line_on r g) gw q mg w.0 y.node y.sends.deed y.kind).begins y.sends.begins in
    let rested : boot_tick (dids (of m gw)) + QUIET ≤ g.tick = subst (λ z. boot_tick z + QUIET ≤ g.tick) (plain_view r (of m gw)) gx.rested in
    elim i.life [
      | inr new ↦ omega (arith, new.boot)
      | inl one ↦
          let late = asked_late setting r p mf (line_on r f) (of m fw) (of m gw) own x.sends.deed (ap is_set_date_request fx.is) x.sends.begins
          (sees_own r (is_shared f.deed)) place one.lives in
          omega (arith, late.by, gx.seldom late.at late.is)
    ]

-- two such beginnings don't lie close together
passed_close : (setting : Setting) (m : ℕ) (r : Port) (p q : PeerId) (mf mg : MessageValue) (f g : Did) (fw gw h : List Line) → Fits setting h →
    Within (line_on r g ∷ gw) h → Within (line_on r f ∷ fw) gw → Passing m r p mf f fw → Passing m r q mg g gw →
    g.step.at ≤ f.step.at + 34004007 → ⊥
passed_close setting m r p q mf mg f g fw gw h w g_in f_in x y soon =
    let wg = fits_at setting (line_on r g ∷ gw) h w g_in in
    let apart = passed_apart setting m r p q mf mg f g fw gw wg f_in x y in
    let order : f.step.at ≤ g.step.at = place_time setting (line_on r f ∷ fw) (line_on r g ∷ gw) wg (inr f_in) in
    let n = near setting m f.step.at g.step.at order in
    let tick_f : f.tick ≡ setting.tick m f.step.at = tick_in setting m (line_on r f) fw gw wg.1 x.node f_in in
    let tick_g : g.tick ≡ setting.tick m g.step.at = tick_in setting m (line_on r g) gw h w y.node g_in in
    (let most = n.most in omega arith)

-- soon after the date that port r of m began to pass on at f, port q of n takes no other of it
no_other : (setting : Setting) (n m : ℕ) (q r : Port) (f z : Did) (fw zw h : List Line) (mf mz : MessageValue) (amount : ℤ) (stepped : Bool) (shown : ℤ) →
    Fits setting h → Honest h → Life h → setting.net m r ≡ setting.net n q → Within (line_on r f ∷ fw) h →
    Passing m r (peer_of n) mf f fw → Within (line_on q z ∷ zw) h → z.step.node ≡ n → z.deed ≡ Acts (Correct amount stepped shown) →
    Receives (view q (of n zw)) (peer_of m) (Message mz) → is_date_request mz.kind ≡ true → mz.number ≢ mf.number →
    f.step.at ≤ z.step.at → z.step.at ≤ f.step.at + 34004007 → ⊥
no_other setting n m q r f z fw zw h mf mz amount stepped shown w honest life net f_in x z_in z_node z_deed took kind differ low high =
    let zx = fits_at setting (line_on q z ∷ zw) h w z_in in
    let k = known setting (line_on q z) zw (Correct amount stepped shown) (peer_of m) (Message mz) zx (Everywhere_within HonestAt (line_on q z ∷
    zw) h honest z_in) z_deed (subst (λ j. Receives (view q (of j zw)) (peer_of m) (Message mz)) (sym z_node) took) in
    let node : node_of k.post ≡ m = number-same (node_of k.post) m k.node in
    let knet : setting.net m k.post.port ≡ setting.net n q = subst₂ (λ i j. setting.net i k.post.port ≡ setting.net j q) node z_node k.net in
    let port : k.post.port ≡ r = setting.apart m k.post.port r (knet ∙ sym net) in
    let fp = fits_at setting (k.post ∷ k.older) zw zx.1 k.place in
    let deed = subst (λ j. k.post.did.deed ≡ Acts (Post (Peer (peer_of j)) (Message mz))) z_node k.deed in
    let is = (passes_in setting m k.post k.older (peer_of n) mz fp.0 node deed kind).is in
    let s = send_place setting m n k.post k.older mz fp node deed (ap is_numbered is) in
    let g_z : Within (line_on k.post.port s.first ∷ s.fw) zw = Within_through (line_on k.post.port s.first ∷ s.fw) (k.post ∷ k.older) zw s.place k.place in
    let g_h : Within (line_on r s.first ∷ s.fw) h = subst (λ j. Within (line_on j s.first ∷ s.fw) h) port (Within_through (line_on k.post.port s.first ∷
    s.fw) zw h g_z (Within_tail (line_on q z) zw h z_in)) in
    let y : Passing m r (peer_of n) mz s.first s.fw = record {
      node = s.node;
      sends = subst (λ j. BeginsSend (peer_of n) mz s.first (view j (of m s.fw))) port
          s.sends;
      kind = kind;
    } in
    let came = (Everywhere_within (TakenWithinAt LIFE) (line_on q z ∷ zw) h life z_in).0 k.post k.older (Peer (peer_of n)) (Message mz) k.place deed k.takes in
    let before : k.post.did.step.at ≤ z.step.at = (let t = place_time setting (k.post ∷ k.older) zw zx.1 k.place in omega (arith, zx.0.order)) in
    elim (Within_comparable (line_on r f ∷ fw) (line_on r s.first ∷ s.fw) h f_in g_h) [
      | inl (inl e) ↦ differ (same f s.first fw s.fw mf mz e x.sends.deed y.sends.deed)
      | inl (inr i) ↦ passed_close setting m r (peer_of n) (peer_of n) mf mz f s.first fw s.fw h w g_h i x y (omega (arith, s.after))
      | inr (inl e) ↦ differ (same f s.first fw s.fw mf mz (sym e) x.sends.deed y.sends.deed)
      | inr (inr i) ↦ passed_close setting m r (peer_of n) (peer_of n) mz mf s.first f s.fw fw h w f_in i y x (omega (arith, s.soon))
    ]
  where
    same : (a b : Did) (s t : List Line) (ma mb : MessageValue) → line_on r a ∷ s ≡ line_on r b ∷ t → a.deed ≡ Acts (Post (Peer (peer_of n)) (Message ma)) →
        b.deed ≡ Acts (Post (Peer (peer_of n)) (Message mb)) → mb.number ≡ ma.number
    same a b s t ma mb e da db =
        let line : line_on r a ≡ line_on r b = cc in
        let deeds = sym db ∙ (ap (λ (z : Line). z.did.deed) (sym line) ∙ da) in
        ap (λ (z : MessageValue). z.number) (one_message (peer_of n) (peer_of n) mb ma deeds)

-- a numbered message that sets a date passes it on
requests : (k : Kind) → sets_date k ≡ true → is_numbered k ≡ true → is_date_request k ≡ true
requests Date s n = absurd (true≢false (sym n))
requests SetDate s n = absurd (true≢false (sym n))
requests _ s n = s

-- both Corrects take on one port what one node posted
record OnePort (l c post other : Line) : Type 0 where
  pub sender : node_of other ≡ node_of post
  pub port : c.port ≡ l.port

one_port : (setting : Setting) (l c post other : Line) (world past older rest : List Line) (m n : MessageValue) → Within (c ∷ past) world →
    Within (post ∷ older) world → Within (other ∷ rest) world → (d : Twice setting l world post older c past other rest m n) →
    setting.net (node_of post) post.port ≡ setting.net (node_of l) l.port → setting.net (node_of other) other.port ≡ setting.net (node_of c) c.port →
    OnePort l c post other
one_port setting l c post other world past older rest m n w p_in o_in d here there =
    let x = d.late.begins in
    let y = d.early.begins in
    let start = d.start in
    let first_is : x.first ≡ y.first = cc in
    let sender : node_of other ≡ node_of post = sym y.node ∙ (ap (λ (z : Did). z.step.node) (sym first_is) ∙ x.node) in
    let start' : Here x.first ∷ view post.port (of (node_of post) x.fw) ≡ Here y.first ∷ view other.port (of (node_of post) y.fw) = start ∙
    ap (λ k. Here y.first ∷ view other.port (of k y.fw)) sender in
    let x_in = Within_through (line_on post.port x.first ∷ x.fw) (post ∷ older) world x.place p_in in
    let y_in = Within_through (line_on other.port y.first ∷ y.fw) (other ∷ rest) world y.place o_in in
    let same = seen_same (node_of post) post.port other.port x.first y.first x.fw y.fw world x.node (y.node ∙ sender) x_in y_in start' in
    let line : line_on post.port x.first ≡ line_on other.port y.first = cc in
    let out : post.port ≡ other.port = ap (λ (z : Line). z.port) line in
    let there' : setting.net (node_of post) post.port ≡ setting.net (node_of l) c.port =
    subst₂ (λ k j. setting.net k post.port ≡ setting.net j c.port) sender d.node (subst (λ k. setting.net (node_of other) k ≡
    setting.net (node_of c) c.port) (sym out) there) in
    record { sender = sender; port = setting.apart (node_of l) c.port l.port (sym there' ∙ here) }

-- with the last date that the taker had of the sender when it took the later post
dated_by : (setting : Setting) (l c post : Line) (world past older rest fw : List Line) (f : Did) (m : MessageValue) → Fits setting (l ∷ world) →
    Honest (l ∷ world) → Life (l ∷ world) → Within (line_on post.port f ∷ fw) world → Passing (node_of post) post.port (peer_of (node_of l)) m f fw →
    setting.net (node_of post) post.port ≡ setting.net (node_of l) l.port → DatesOf setting l post l.did (view l.port (of (node_of l) world))
    (peer_of (node_of post)) m → f.step.at ≤ c.did.step.at → l.did.step.at ≤ f.step.at + 34004007 → l.did.tick ≤ c.did.tick + 34100000 →
    DateLate l.port (peer_of (node_of post)) c.did (of (node_of l) past) (of (node_of l) world) → ⊥
dated_by setting l c post world past older rest fw f m w honest life f_in x net dates low high soon h =
    let n = node_of l in
    let z = lift n world (line_on l.port h.correct) h.rest h.place in
    let own = own_fits_at setting (line_on l.port h.correct ∷ h.rest) (of n world) (own_fits setting n world w.1) h.place in
    let i = since setting (line_on l.port c.did ∷ of n past) (line_on l.port h.correct ∷ h.rest) own h.after in
    let z_at : h.correct.step.at ≤ l.did.step.at = (let t = place_time setting (line_on l.port h.correct ∷ z.world) world w.1 z.place in
    omega (arith, w.0.order)) in
    by_number (h.last.number == m.number) refl z.world z.place z.own z.node (omega (arith, i.time)) (omega arith) (omega (arith, i.tick))
  where
    not-number : (h.last.number == m.number) ≡ false → h.last.number ≡ m.number → ⊥
    not-number e k = true≢false (sym (eq-eqb h.last.number m.number k) ∙ e)

    by_number : (b : Bool) → (h.last.number == m.number) ≡ b → (zw : List Line) → Within (line_on l.port h.correct ∷ zw) world → of (node_of l) zw ≡ h.rest →
        h.correct.step.node ≡ node_of l → f.step.at ≤ h.correct.step.at → h.correct.step.at ≤ f.step.at + 34004007 →
        c.did.tick ≤ h.correct.tick → ⊥
    by_number true e zw z_in own node a b t = omega (arith, dates.again h.last x.kind h.is (eqb-true h.last.number m.number e), h.at)
    by_number false e zw z_in own node a b t =
        no_other setting (node_of l) (node_of post) l.port post.port f h.correct fw zw world m h.message h.amount h.stepped h.shown w.1 honest.1 life.1 net f_in
        x z_in node h.deed
        (subst (λ k. Receives (view l.port k) (peer_of (node_of post)) (Message h.message)) (sym own) h.took) h.kind (λ k. not-number e (sym h.number ∙ k)) a b

dated_at : (setting : Setting) (l : Line) (world : List Line) → Fits setting (l ∷ world) → Honest (l ∷ world) → Life (l ∷ world) →
    (post c other : Line) (older past rest : List Line) (first : Did) (begun : List Seen) → (a : ActsOn l world post older) →
    is_correction a.brings.message.kind ≡ false → Within (c ∷ past) world → ActsOn c past other rest → OfSend (node_of l) post older first begun →
    OfSend (node_of c) other rest first begun → ⊥
dated_at setting l world f honest life post c other older past rest first begun a kind w b s t =
    let n = node_of l in
    let m = a.brings.message in
    let d = twice setting l world post older c past other rest first begun f life a w b s t in
    let fc = fits_at setting (c ∷ past) world f.1 w in
    let x = dates_of setting l world post older (Correct a.amount a.stepped a.shown) a.amount f a.correct a.brings a.took kind
    (correct_fits setting l world post older f a).why in
    let y = dates_of setting c past other rest (Correct b.amount b.stepped b.shown) b.amount fc b.correct b.brings b.took
    (subst (λ (z : MessageValue). is_correction z.kind ≡ false) d.message kind) (correct_fits setting c past other rest fc b).why in
    let one = one_port setting l c post other world past older rest m b.brings.message w a.brings.place (Within_through (other ∷
    rest) past world b.brings.place (Within_tail c past world w)) d x.net y.net in
    let request = requests m.kind x.kind (numbered_by n post older first begun m s a.brings.deed) in
    let line : line_on l.port c.did ≡ c = line_is c l.port one.port in
    let place : Within (line_on l.port c.did ∷ of n past) (of n world) = subst (λ z. Within (z ∷ of n past) (of n world)) (sym line)
    (own_in n c past world d.node w) in
    let own = own_fits setting n world f.1 in
    let i = since setting (line_on l.port c.did ∷ of n past) (of n world) own place in
    let rested = acts_rested setting l world post older f a in
    let lives_is : lives (c.did ∷ dids (of n past)) ≡ lives (dids (of n world)) =
    elim i.life [ inl o ↦ o.lives | inr o ↦ absurd (omega (arith, o.boot, rested, d.soon)) ] in
    let took_p : Receives (view c.port (of (node_of c) past)) (peer_of (node_of post)) (Message m) =
    subst₂ (λ z v. Receives (view c.port (of (node_of c) past)) (peer_of z) (Message v)) one.sender (sym d.message) y.took in
    let took : Receives (view l.port (of n past)) (peer_of (node_of post)) (Message m) =
    subst₂ (λ z v. Receives (view z (of v past)) (peer_of (node_of post)) (Message m)) one.port d.node took_p in
    let h = date_late setting l.port (peer_of (node_of post)) c.did (of n past) (of n world) m b.amount b.stepped b.shown own b.correct took request place
    lives_is in
    let begins = d.late.begins in
    dated_by setting l c post world past older rest begins.fw begins.first m f honest life (Within_through (line_on post.port begins.first ∷ begins.fw) (post ∷
    older) world begins.place a.brings.place)
    (record { node = begins.node; sends = begins.sends; kind = request }) x.net x (let p = d.early.begins.after in let q = d.early.took in let r = d.at in
    omega arith) (let p = begins.soon in let q = d.late.life in omega arith) d.soon h

taken_at : (setting : Setting) (l : Line) (world : List Line) → Fits setting (l ∷ world) → Honest (l ∷ world) → Life (l ∷ world) → OnceAt is_numbered l world
taken_at setting l world f honest life post c other older past rest first begun a kind w b s t = by_kind (is_correction a.brings.message.kind) refl where
  by_kind : (k : Bool) → is_correction a.brings.message.kind ≡ k → ⊥
  by_kind true e = corrected_at setting l world f life post c other older past rest first begun a e w b s t
  by_kind false e = dated_at setting l world f honest life post c other older past rest first begun a e w b s t

pub once_taken : (setting : Setting) (world : List Line) → Fits setting world → Honest world → Life world → OnceTaken world
once_taken setting world f honest life = Everywhere_from (OnceAt is_numbered) world (λ l s w.
    taken_at setting l s (fits_at setting (l ∷ s) world f w) (Everywhere_within HonestAt (l ∷ s) world honest w) (Everywhere_within (TakenWithinAt LIFE) (l ∷
    s) world life w))
