-- Where the send of a post begins in the history, what its posts have in common, and who corrects: only masters do, and
-- a Correct that is the next act after a Close stands right after it.
use Rattle.std.proofs.Common.{sym, ap, arith, subst, subst₂, inl, inr, true≢false, ◌∙◌, ◌≡◌, ◌+◌, ◌*◌, ◌≤◌, true, false, ℕ, List, [], ◌∷◌, refl, ◌==◌, ℤ, Bool}
use Rattle.std.proofs.Common.{◌||◌}
use Rattle.tsp_rules.specs.Values.{Post, Datagram, Message, Kind, AdjTime, Conflict, Election, QuitKind, SetDateReq, SetTime, PeerId, Place, Peer, LAST}
use Rattle.tsp_rules.specs.Values.{Correct, Close, Ack, DateAck, Stranger, Master, Took, Taken, Good}
use Rattle.tsp_base.specs.Words.{Acts, Came, Deed, Did, Line, Seen, Here, of, dids, view, is_shared, MessageValue, Within, acting, begun_to, is_correction}
use Rattle.tsp_base.specs.Words.{is_numbered, Setup, peer_of, posted, posted_after, Begins, Step, from_act, from_act_at, seen_as, role}
use Rattle.tsp_promises.proofs.promised.OwnFitsProof.{place_time, locate, view_line, tick_in, deed_fits, fits_at}
use Rattle.tsp_promises.specs.CorrectFits.{EndsRound, WhyCorrect, ByRound, ByMaster, ByDate}
use Rattle.tsp_promises.specs.{DeedFits.MessageFits, DeedFits.DeedFits, DeedFits.PostFits, DeedFits.StrangerFits}
use Rattle.tsp_promises.{specs.CorrectionFits.CorrectionFits, specs.CorrectionFits.RepeatFits, proofs.shared.EverywhereLemmas.Everywhere_from}
use Rattle.tsp_promises.specs.{Fits.Fits, Fits.LineFits, Fits.node_of, Fits.SameStep, Setting.Setting, Setting.setup_of}
use Rattle.tsp_promises.{specs.OnlyMaster.Leads, specs.OnlyMaster.LeadsAt, specs.OnlyMaster.OnlyMaster, proofs.shared.Clocks.near}
use Rattle.tsp_promises.proofs.{promised.SendProof.BeginsSend, promised.SendProof.send_is, shared.HistoryPlaces.line_on, shared.HistoryPlaces.of_own}
use Rattle.std.proofs.Math.Bool.{or-true}

-- what a Correct rests on right after this deed: its port's round ends with the deed
pub record Closes (setup : Setup) (d : Did) (seen : List Seen) (b : Bool) (amount : ℤ) : Type 0 where
  pub on : b ≡ true
  pub round : EndsRound setup (Here d ∷ seen) amount
  pub close : d ≡ round.close
  pub past : seen ≡ round.past

-- so it is, unless the deed is a Took
pub after_close : (setup : Setup) (here d : Did) (seen : List Seen) (b : Bool) (amount : ℤ) → ((from : Place) (t : Taken) → d.deed ≡ Acts (Took from t) → ⊥) →
    WhyCorrect setup here (seen_as b d ∷ seen) amount → Closes setup d seen b amount
after_close setup here d seen true amount none (ByRound r) = record { on = refl; round = r; close = (let k = r.is in cc); past = (let k = r.is in cc) }
after_close setup here d seen true amount none (ByMaster t) =
    let same : d ≡ t.took = (let k = t.is in cc) in
    absurd (none (Peer t.from) (Good (Message t.message)) (ap (λ (z : Did). z.deed) same ∙ t.deed))
after_close setup here d seen true amount none (ByDate t) =
    let same : d ≡ t.took = (let k = t.is in cc) in
    absurd (none t.from (Good (Message t.message)) (ap (λ (z : Did). z.deed) same ∙ t.deed))
after_close setup here d seen false amount none (ByRound r) = let bad : ⊥ = (let k = r.is in cc) in absurd bad
after_close setup here d seen false amount none (ByMaster t) = let bad : ⊥ = (let k = t.is in cc) in absurd bad
after_close setup here d seen false amount none (ByDate t) = let bad : ⊥ = (let k = t.is in cc) in absurd bad

-- no Correct stands right after a mark
no_mark : (setup : Setup) (here d : Did) (seen : List Seen) (amount : ℤ) → d.deed ≡ Begins → WhyCorrect setup here (Here d ∷ seen) amount → ⊥
no_mark setup here d seen amount is why =
    let c = after_close setup here d seen true amount (λ from t e. (let k = sym is ∙ e in cc)) why in
    let k = sym is ∙ (ap (λ (z : Did). z.deed) c.close ∙ c.round.deed) in
    cc

-- what a Correct's port sees of a mark right before it
sees_mark : (l x : Line) (rest : List Line) → x.did.deed ≡ Begins → node_of x ≡ node_of l → view l.port (of (node_of l) (x ∷ rest)) ≡ Here x.did ∷
    view l.port (of (node_of l) rest)
sees_mark l x rest is node = ap (view l.port) (of_own (node_of l) x rest node) ∙ rw (is, or-true (x.port.0 == l.port.0)) refl

after_deed : (setting : Setting) (l x close : Line) (rest older : List Line) (amount : ℤ) (stepped : Bool) (shown : ℤ) → Fits setting (l ∷ (x ∷ rest)) →
    l.did.deed ≡ Acts (Correct amount stepped shown) → (deed : Deed) → deed ≡ x.did.deed →
    from_act_at deed (x ∷ rest) (from_act rest) ≡ close ∷ older → x ∷ rest ≡ close ∷ older
after_deed setting l x close rest older amount stepped shown f is (Acts a) d e = e
after_deed setting l x close rest older amount stepped shown f is Begins d e =
    let step : x.did.step ≡ l.did.step = subst (λ k. SameStep k l.did.step (dids (x ∷ rest))) is f.0.step in
    let fits = deed_fits setting l (x ∷ rest) (Acts (Correct amount stepped shown)) is f.0 in
    absurd (no_mark (setup_of setting (node_of l) l.port) l.did x.did (view l.port (of (node_of l) rest)) amount (sym d)
    (subst (λ s. WhyCorrect (setup_of setting (node_of l) l.port) l.did s amount) (sees_mark l x rest (sym d) (ap (λ (s : Step). s.node) step)) fits.why))

pub right_after : (setting : Setting) (l : Line) (world : List Line) (close : Line) (older : List Line) (amount : ℤ) (stepped : Bool) (shown : ℤ) →
    Fits setting (l ∷ world) → l.did.deed ≡ Acts (Correct amount stepped shown) → from_act world ≡ close ∷ older →
    world ≡ close ∷ older
right_after setting l [] close older amount stepped shown f is e = let bad : ⊥ = cc in absurd bad
right_after setting l (x ∷ rest) close older amount stepped shown f is e = after_deed setting l x close rest older amount stepped shown f is x.did.deed refl e

-- what the post of a correction to a peer owes
pub correction_fits : (setup : Setup) (k : Kind) (here : Did) (seen : List Seen) (p : PeerId) (m : MessageValue) → is_correction k ≡ true →
    MessageFits setup k here seen p m → CorrectionFits here seen p m
correction_fits setup AdjTime here seen p m e f = f
correction_fits setup SetTime here seen p m e f = f
correction_fits setup _ here seen p m e f = absurd (true≢false (sym e))

-- strangers get no corrections
strangers : (k : Kind) (here : Did) (seen : List Seen) (number : ℕ) → is_correction k ≡ true → StrangerFits k here seen number → ⊥
strangers Ack here seen number e f = true≢false (sym e)
strangers DateAck here seen number e f = true≢false (sym e)
strangers _ here seen number e f = f

posts_lead : (setup : Setup) (to : Place) (m : MessageValue) (here : Did) (seen : List Seen) → is_correction m.kind ≡ true →
    PostFits setup to (Message m) here seen → role seen ≡ Master
posts_lead setup (Peer p) m here seen e f = (correction_fits setup m.kind here seen p m e f).leads
posts_lead setup Stranger m here seen e f = absurd (strangers m.kind here seen m.number e f.0)

-- a Correct right after a Close
correct_leads : (setting : Setting) (l close : Line) (older : List Line) (count : ℕ) (lo size mean amount : ℤ) → node_of close ≡ node_of l →
    LineFits setting close older → close.did.deed ≡ Acts (Close count lo size mean) →
    (b : Bool) → ((close.port.0 == l.port.0) || is_shared close.did.deed) ≡ b → WhyCorrect (setup_of setting (node_of l) l.port) l.did (seen_as b close.did ∷
    view l.port (of (node_of l) older)) amount →
    role (seen_as b close.did ∷ view l.port (of (node_of l) older)) ≡ Master
correct_leads setting l close older count lo size mean amount node f is true e why =
    let leads : role (view l.port (of (node_of l) older)) ≡ Master =
    subst (λ n. role (view l.port (of n older)) ≡ Master) node
    (subst (λ d. DeedFits (setup_of setting (node_of close) l.port) d close.did (view l.port (of (node_of close) older))) is (f.deeds l.port e)).leads in
    rw is leads
correct_leads setting l close older count lo size mean amount node f is false e (ByRound r) = let bad : ⊥ = (let k = r.is in cc) in absurd bad
correct_leads setting l close older count lo size mean amount node f is false e (ByMaster t) = let bad : ⊥ = (let k = t.is in cc) in absurd bad
correct_leads setting l close older count lo size mean amount node f is false e (ByDate t) = let bad : ⊥ = (let k = t.is in cc) in absurd bad

leads_at : (setting : Setting) (l : Line) (world : List Line) → Fits setting (l ∷ world) → LeadsAt l world
leads_at setting l world f = record {
  posts = λ to m is kind. posts_lead (setup_of setting (node_of l) l.port) to m l.did (view l.port (of (node_of l) world)) kind
      (deed_fits setting l world (Acts (Post to (Message m))) is f.0).fits;
  closes = λ count lo size mean is. (deed_fits setting l world (Acts (Close count lo size mean)) is f.0).leads;
  corrects = λ close older count lo size mean amount stepped shown at close_is is. corrects_at setting l world f close older count lo size mean amount stepped
      shown at close_is is;
} where
  corrects_at : (setting : Setting) (l : Line) (world : List Line) → Fits setting (l ∷ world) →
      (close : Line) (older : List Line) (count : ℕ) (lo size mean amount : ℤ) (stepped : Bool) (shown : ℤ) → from_act world ≡ close ∷ older →
      close.did.deed ≡ Acts (Close count lo size mean) → l.did.deed ≡ Acts (Correct amount stepped shown) → Leads l world
  corrects_at setting l world f close older count lo size mean amount stepped shown from close_is is =
      let at = right_after setting l world close older amount stepped shown f is from in
      let g : Fits setting (l ∷ (close ∷ older)) = subst (λ w. Fits setting (l ∷ w)) at f in
      let step : close.did.step ≡ l.did.step = subst (λ k. SameStep k l.did.step (dids (close ∷ older))) is g.0.step in
      let node : node_of close ≡ node_of l = ap (λ (s : Step). s.node) step in
      let own = of_own (node_of l) close older node in
      let fits = deed_fits setting l (close ∷ older) (Acts (Correct amount stepped shown)) is g.0 in
      let setup = setup_of setting (node_of l) l.port in
      let why : WhyCorrect setup l.did (view l.port (close ∷ of (node_of l) older)) amount =
      subst (λ w. WhyCorrect setup l.did (view l.port w) amount) own fits.why in
      subst (λ w. Leads l w) (sym at) (subst (λ w. role (view l.port w) ≡ Master) (sym own)
      (correct_leads setting l close older count lo size mean amount node g.1.0 close_is ((close.port.0 == l.port.0) || is_shared close.did.deed) refl why))

pub only_master : (setting : Setting) (world : List Line) → Fits setting world → OnlyMaster world
only_master setting world f = Everywhere_from LeadsAt world (λ l s w. leads_at setting l s (fits_at setting (l ∷ s) world f w))

-- where the send of the post p of node m to k begins
pub record SendPlace (m k : ℕ) (p : Line) (o : List Line) (msg : MessageValue) : Type 0 where
  pub first : Did
  pub fw : List Line
  pub place : Within (line_on p.port first ∷ fw) (p ∷ o)
  pub node : first.step.node ≡ m
  pub sends : BeginsSend (peer_of k) msg first (view p.port (of m fw))
  pub is : begun_to (peer_of k) (Here p.did ∷ view p.port (of m o)) ≡ Here first ∷ view p.port (of m fw)
  pub after : first.step.at ≤ p.did.step.at
  pub soon : p.did.step.at ≤ first.step.at + 4004007
  pub ticks : p.did.tick ≤ first.tick + LAST

-- what the post of a correction owes
pub post_fits : (setting : Setting) (m : ℕ) (p : Line) (o : List Line) (k : PeerId) (msg : MessageValue) → LineFits setting p o → node_of p ≡ m → p.did.deed ≡
    Acts (Post (Peer k) (Message msg)) → is_correction msg.kind ≡ true →
    CorrectionFits p.did (view p.port (of m o)) k msg
post_fits setting m p o k msg f node deed kind =
    subst (λ n. CorrectionFits p.did (view p.port (of n o)) k msg) node
    (correction_fits (setup_of setting (node_of p) p.port) msg.kind p.did (view p.port (of (node_of p) o)) k msg kind
    (deed_fits setting p o (Acts (Post (Peer k) (Message msg))) deed f).fits)

-- a numbered post that begins no send repeats the open one
repeats_of : (setup : Setup) (kind : Kind) (here : Did) (seen : List Seen) (p : PeerId) (m : MessageValue) → is_numbered kind ≡ true →
    MessageFits setup kind here seen p m → acting seen ≡ false → RepeatFits here seen p m
repeats_of setup AdjTime here seen p m n f = f.repeats
repeats_of setup SetTime here seen p m n f = f.repeats
repeats_of setup Election here seen p m n f = f.numbered.repeats
repeats_of setup Conflict here seen p m n f = f.repeats
repeats_of setup QuitKind here seen p m n f = f.repeats
repeats_of setup SetDateReq here seen p m n f = f.numbered.repeats
repeats_of setup _ here seen p m n f = absurd (true≢false (sym n))

pub repeats_in : (setting : Setting) (m : ℕ) (p : Line) (o : List Line) (k : PeerId) (msg : MessageValue) → LineFits setting p o → node_of p ≡ m → p.did.deed ≡
    Acts (Post (Peer k) (Message msg)) → is_numbered msg.kind ≡ true →
    acting (view p.port (of m o)) ≡ false → RepeatFits p.did (view p.port (of m o)) k msg
repeats_in setting m p o k msg f node deed kind =
    subst (λ n. acting (view p.port (of n o)) ≡ false → RepeatFits p.did (view p.port (of n o)) k msg) node
    (repeats_of (setup_of setting (node_of p) p.port) msg.kind p.did (view p.port (of (node_of p) o)) k msg kind
    (deed_fits setting p o (Acts (Post (Peer k) (Message msg))) deed f).fits)

pub not_shared : (d : Did) (to : Place) (datagram : Datagram) → d.deed ≡ Acts (Post to datagram) → is_shared d.deed ≡ false
not_shared d to datagram e = rw e refl

pub send_place : (setting : Setting) (m k : ℕ) (p : Line) (o : List Line) (msg : MessageValue) → Fits setting (p ∷ o) → node_of p ≡ m → p.did.deed ≡
    Acts (Post (Peer (peer_of k)) (Message msg)) → is_numbered msg.kind ≡ true →
    SendPlace m k p o msg
send_place setting m k p o msg f node deed kind =
    let d = send_is (peer_of k) p.did (view p.port (of m o)) msg deed kind (repeats_in setting m p o (peer_of k) msg f.0 node deed kind) in
    let at : Within (Here d.first ∷ d.older) (view p.port (of m (p ∷ o))) = subst (λ s. Within (Here d.first ∷ d.older) s) (sym (view_line m p o node)) d.place
    in
    let l = locate m p.port (p ∷ o) d.first d.older (not_shared d.first (Peer (peer_of k)) (Message msg) d.same) at in
    let after : d.first.step.at ≤ p.did.step.at = place_time setting (line_on p.port d.first ∷ l.older) (p ∷ o) f l.place in
    let n = near setting m d.first.step.at p.did.step.at after in
    let tick_f = tick_in setting m (line_on p.port d.first) l.older (p ∷ o) f l.node l.place in
    let tick_p = tick_in setting m p o (p ∷ o) f node (inl refl) in
    let least = subst₂ (λ x y. 1000 * x + 999 * p.did.step.at ≤ 1000 * y + 999 * d.first.step.at + 2000) (sym tick_f) (sym tick_p) n.least in
    record {
      first = d.first;
      fw = l.older;
      place = l.place;
      node = l.node;
      sends = record { deed = d.same; kind = kind; begins = subst (λ s. acting s ≡ true) (sym l.before) d.begins };
      is = d.is ∙ ap (λ s. Here d.first ∷ s) (sym l.before);
      after = after;
      soon = omega (arith, d.soon);
      ticks = d.soon;
    }

-- the number of a post names its place
posted_deed : (deed : Deed) (n : ℕ) → n ≤ posted_after deed n
posted_deed (Acts (Post to datagram)) n = omega arith
posted_deed _ n = omega arith

pub posted_mono : (s t : List Line) → Within s t → posted (dids s) ≤ posted (dids t)
posted_mono s [] e = subst (λ w. posted (dids w) ≤ 0) (sym e) (omega arith)
posted_mono s (l ∷ t) (inl e) = subst (λ w. posted (dids w) ≤ posted (dids (l ∷ t))) (sym e) (omega arith)
posted_mono s (l ∷ t) (inr p) = omega (arith, posted_mono s t p, posted_deed l.did.deed (posted (dids t)))

pub posted_post : (q : Line) (b : List Line) (to : Place) (datagram : Datagram) → q.did.deed ≡ Acts (Post to datagram) → posted (dids (q ∷ b)) ≡
    posted (dids b) + 1
posted_post q b to datagram e = rw e refl

-- a step comes by one datagram
pub same_number : (j k : ℕ) → Came j ≡ Came k → j ≡ k
same_number j k e = cc

pub post_unique : (t : List Line) (p q : Line) (a b : List Line) (to for : Place) (m n : Datagram) → Within (p ∷ a) t → Within (q ∷ b) t →
    p.did.deed ≡ Acts (Post to m) → q.did.deed ≡ Acts (Post for n) → posted (dids a) ≡ posted (dids b) → p ∷ a ≡ q ∷ b
post_unique [] p q a b j k m n v w x y e = let bad : ⊥ = cc in absurd bad
post_unique (l ∷ t) p q a b j k m n (inl v) (inl w) x y e = v ∙ sym w
post_unique (l ∷ t) p q a b j k m n (inl v) (inr w) x y e =
    let s : a ≡ t = cc in
    absurd (omega (arith, posted_mono (q ∷ b) t w, posted_post q b k n y, ap (λ k. posted (dids k)) s))
post_unique (l ∷ t) p q a b j k m n (inr v) (inl w) x y e =
    let s : b ≡ t = cc in
    absurd (omega (arith, posted_mono (p ∷ a) t v, posted_post p a j m x, ap (λ k. posted (dids k)) s))
post_unique (l ∷ t) p q a b j k m n (inr v) (inr w) x y e = post_unique t p q a b j k m n v w x y e
