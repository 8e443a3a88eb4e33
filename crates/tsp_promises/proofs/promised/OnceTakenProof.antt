-- No two Corrects take posts of one correction. What a Correct takes, and what it makes of the ticket.
use Rattle.std.proofs.Common.{sym, ap, arith, subst, subst₂, inl, inr, true≢false, ◌∙◌, ◌≡◌, ℕ, ◌+◌, ◌<◌, ◌≤◌, ℤ, Bool, true, false, List, ◌∷◌, Some, None}
use Rattle.std.proofs.Common.{is_some, refl}
use Rattle.std.proofs.lemmas.Bool.{cases_lt}
use Rattle.tsp_rules.specs.Values.{Act, Took, Post, Correct, Datagram, Message, Good, Kind, AdjTime, SetTime, PeerId, Place, Peer, Follow, DATEHOLD, QUIET}
use Rattle.tsp_rules.specs.Values.{LIFE}
use Rattle.tsp_base.specs.Words.{Cause, Came, Handed, Acts, Did, Line, Seen, Here, Step, of, dids, plain, view, MessageValue, all_corrects, corrects, word}
use Rattle.tsp_base.specs.Words.{boot_tick, tick_of, ticket, target, Within, role, taken, Dating, is_correction, is_date_request, last_date, sets_date}
use Rattle.tsp_base.specs.Words.{Receives, TakesFrom, heard, peer_of, posted, time_in, is_numbered}
use Rattle.tsp_base.proofs.{PlaceLemmas.Within_through, PlaceLemmas.Within_tail, Views.plain_view}
use Rattle.tsp_promises.specs.CorrectFits.{WhyCorrect, ByRound, ByMaster, ByDate, TakesCorrection, amount_of, CorrectFits}
use Rattle.tsp_promises.proofs.promised.OwnFitsProof.{locate, fits_in, own_step, tick_in, own_fits, fits_at, place_time, deed_fits, own_tick}
use Rattle.tsp_promises.specs.{Once.Brings, Once.ActsOn, Once.OfSend, Once.OnceAt, Once.OnceCorrected, Setting.Setting, Setting.setup_of}
use Rattle.tsp_promises.specs.{Fits.Fits, Fits.SameStep, Fits.TookFits, Fits.node_of, Premises.Life, Premises.TakenWithinAt, Since.Since}
use Rattle.tsp_promises.proofs.{shared.Clocks.near, shared.SendPlaces.post_unique, shared.SendPlaces.same_number, shared.SendPlaces.SendPlace}
use Rattle.tsp_promises.proofs.{shared.SendPlaces.send_place}
use Rattle.tsp_promises.proofs.{shared.EverywhereLemmas.Everywhere_from, shared.EverywhereLemmas.Everywhere_within, promised.SinceProof.since}
use Rattle.tsp_promises.proofs.shared.HistoryPlaces.{line_on, own_in}

-- a Correct in a step that has taken this correction of p
pub record TakesOf (here : Did) (seen : List Seen) (amount : ℤ) (p : PeerId) (m : MessageValue) : Type 0 where
  pub number : m.number ≡ ticket (plain seen)
  pub amount_is : amount ≡ amount_of m.kind (time_in m.body) (target (plain seen) here.tick)
  pub follows : role seen ≡ Follow p

pub taken_of : (here : Did) (seen : List Seen) (amount : ℤ) (t : TakesCorrection here seen amount) → Receives seen t.from (Message t.message)
taken_of here seen amount t = ap taken t.is ∙ rw t.deed refl

-- what a Took shows is what its step brings
pub record Shows (setting : Setting) (x : Line) (from : Place) (m : MessageValue) (post : Line) (brought : MessageValue) : Type 0 where
  pub from_is : from ≡ Peer (peer_of (node_of post))
  pub message_is : m ≡ brought
  pub net : setting.net (node_of post) post.port ≡ setting.net (node_of x) x.port

same_datagram : (p q : Place) (d e : Datagram) → Acts (Post p d) ≡ Acts (Post q e) → d ≡ e
same_datagram p q d e h = cc

same_read : (m n : MessageValue) (d : Datagram) → Good (Message m) ≡ Good d → d ≡ Message n → m ≡ n
same_read m n d e h = cc

took_came : (setting : Setting) (x : Line) (rest world : List Line) (post : Line) (older : List Line) (to from : Place) (m brought : MessageValue)
    (cause : Cause) → cause ≡ Came (posted (dids older)) → Within (x ∷ rest) world → Within (post ∷ older) world →
    post.did.deed ≡ Acts (Post to (Message brought)) → TookFits cause setting x rest from (Good (Message m)) → Shows setting x from m post brought
took_came setting x rest world post older to from m brought Handed is w v deed f = let bad : ⊥ = cc in absurd bad
took_came setting x rest world post older to from m brought (Came k) is w v deed f =
    let place = Within_through (f.post ∷ f.older) rest world f.place (Within_tail x rest world w) in
    let same = post_unique world f.post post f.older older (Peer (peer_of (node_of x))) to f.datagram (Message brought) place v f.deed deed (f.number ∙
    same_number k (posted (dids older)) is) in
    let line : f.post ≡ post = cc in
    let datagram = same_datagram (Peer (peer_of (node_of x))) to f.datagram (Message brought) (sym f.deed ∙ (ap (λ (z : Line). z.did.deed) line ∙ deed)) in
    record {
      from_is = f.from_is ∙ ap (λ (z : Line). Peer (peer_of (node_of z))) line;
      message_is = same_read m brought f.datagram f.taken_is datagram;
      net = subst (λ (z : Line). setting.net (node_of z) z.port ≡ setting.net (node_of x) x.port) line f.net;
    }
took_came setting x rest world post older to from m brought _ is w v deed f = absurd f

-- the Took right before an act shows what the step brings
shows : (setting : Setting) (l : Line) (world : List Line) (a : Act) (post : Line) (older : List Line) (took : Did) (past : List Seen) (from : Place)
    (m : MessageValue) → Fits setting (l ∷ world) → l.did.deed ≡ Acts a → (b : Brings l world post older) →
    view l.port (of (node_of l) world) ≡ Here took ∷ past → took.deed ≡ Acts (Took from (Good (Message m))) →
    Shows setting (line_on l.port l.did) from m post b.message
shows setting l world a post older took past from m f act b is deed =
    let n = node_of l in
    let x = locate n l.port world took past (rw deed refl) (subst (λ s. Within (Here took ∷ past) s) (sym is) (inl refl)) in
    let fits = fits_in setting (line_on l.port took) x.older world f.1 x.place in
    let own : SameStep l.did.deed l.did.step (dids (of n world)) = own_step l.did.deed l.did.step n world refl f.0.step in
    let dids_is : dids (of n world) ≡ took ∷ plain past = sym (plain_view l.port (of n world)) ∙ ap plain is in
    let step : took.step ≡ l.did.step = subst₂ (λ d t. SameStep d l.did.step t) act dids_is own in
    let cause : took.step.cause ≡ Came (posted (dids older)) = ap (λ (s : Step). s.cause) step ∙ b.cause in
    let s = took_came setting (line_on l.port took) x.older world post older (Peer (peer_of n)) from m b.message took.step.cause cause x.place b.place b.deed
    (fits.took from (Good (Message m)) deed) in
    record { from_is = s.from_is; message_is = s.message_is; net = subst (λ k. setting.net (node_of post) post.port ≡ setting.net k l.port) x.node s.net }

-- a Correct at a round's end has taken nothing
none_heard : (l : Line) (world : List Line) → heard (plain (view l.port (of (node_of l) world))) ≡ None → is_some (heard (dids (of (node_of l) world))) ≡ true →
    ⊥
none_heard l world e h = true≢false (sym h ∙ ap (λ k. is_some k) (ap heard (sym (plain_view l.port (of (node_of l) world))) ∙ e))

-- what is heard in the step of a Correct that takes a post is its message
pub heard_as : (setting : Setting) (l : Line) (world : List Line) (post : Line) (older : List Line) (a : Act) (amount : ℤ) → Fits setting (l ∷ world) →
    l.did.deed ≡ Acts a → (b : Brings l world post older) → is_some (heard (dids (of (node_of l) world))) ≡ true →
    WhyCorrect (setup_of setting (node_of l) l.port) l.did (view l.port (of (node_of l) world)) amount → (from : Place) ×
    (heard (plain (view l.port (of (node_of l) world))) ≡ Some (record { from = from; taken = Good (Message b.message) }))
heard_as setting l world post older a amount f act b h (ByRound r) = absurd (none_heard l world r.untaken h)
heard_as setting l world post older a amount f act b h (ByDate t) =
    let s = shows setting l world a post older t.took t.past t.from t.message f act b t.is t.deed in
    (t.from, ap (λ v. heard (plain v)) t.is ∙ (rw t.deed refl ∙ ap (λ m. Some (record { from = t.from; taken = Good (Message m) })) s.message_is))
heard_as setting l world post older a amount f act b h (ByMaster t) =
    let s = shows setting l world a post older t.took t.past (Peer t.from) t.message f act b t.is t.deed in
    (Peer t.from, ap (λ v. heard (plain v)) t.is ∙ (rw t.deed refl ∙ ap (λ m. Some (record { from = Peer t.from; taken = Good (Message m) })) s.message_is))

pub no_correction : (k : Kind) → sets_date k ≡ true → is_correction k ≡ true → ⊥
no_correction AdjTime e c = true≢false (sym e)
no_correction SetTime e c = true≢false (sym e)
no_correction _ e c = true≢false (sym c)

pub takes_of : (setting : Setting) (l : Line) (world : List Line) (post : Line) (older : List Line) (a : Act) (amount : ℤ) → Fits setting (l ∷ world) →
    l.did.deed ≡ Acts a → (b : Brings l world post older) → is_some (heard (dids (of (node_of l) world))) ≡ true →
    is_correction b.message.kind ≡ true → WhyCorrect (setup_of setting (node_of l) l.port) l.did (view l.port (of (node_of l) world)) amount →
    TakesOf l.did (view l.port (of (node_of l) world)) amount (peer_of (node_of post)) b.message
takes_of setting l world post older a amount f act b h kind (ByRound r) = absurd (none_heard l world r.untaken h)
takes_of setting l world post older a amount f act b h kind (ByDate t) =
    let s = shows setting l world a post older t.took t.past t.from t.message f act b t.is t.deed in
    absurd (no_correction b.message.kind (subst (λ (m : MessageValue). sets_date m.kind ≡ true) s.message_is t.kind) kind)
takes_of setting l world post older a amount f act b h kind (ByMaster t) =
    let seen = view l.port (of (node_of l) world) in
    let s = shows setting l world a post older t.took t.past (Peer t.from) t.message f act b t.is t.deed in
    record {
      number = subst (λ (z : MessageValue). z.number ≡ ticket (plain seen)) s.message_is t.number;
      amount_is = subst (λ (z : MessageValue). amount ≡ amount_of z.kind (time_in z.body) (target (plain seen) l.did.tick)) s.message_is t.amount_is;
      follows = t.follows ∙ same-follow t.from (peer_of (node_of post)) s.from_is;
    }
  where
    same-follow : (p q : PeerId) → Peer p ≡ Peer q → Follow p ≡ Follow q
    same-follow p q e = cc

-- a Correct in a step that has taken another numbered message of p, which so passes a date on
pub record DatesOf (setting : Setting) (l post : Line) (here : Did) (seen : List Seen) (p : PeerId) (m : MessageValue) : Type 0 where
  pub took : Receives seen p (Message m)
  pub net : setting.net (node_of post) post.port ≡ setting.net (node_of l) l.port
  pub kind : sets_date m.kind ≡ true
  pub again : (d : Dating) → is_date_request m.kind ≡ true → last_date p seen ≡ Some d → d.number ≡ m.number → d.at + DATEHOLD ≤ here.tick

pub dates_of : (setting : Setting) (l : Line) (world : List Line) (post : Line) (older : List Line) (a : Act) (amount : ℤ) → Fits setting (l ∷ world) →
    l.did.deed ≡ Acts a → (b : Brings l world post older) → is_some (heard (dids (of (node_of l) world))) ≡ true →
    is_correction b.message.kind ≡ false → WhyCorrect (setup_of setting (node_of l) l.port) l.did (view l.port (of (node_of l) world)) amount →
    DatesOf setting l post l.did (view l.port (of (node_of l) world)) (peer_of (node_of post)) b.message
dates_of setting l world post older a amount f act b h kind (ByRound r) = absurd (none_heard l world r.untaken h)
dates_of setting l world post older a amount f act b h kind (ByMaster t) =
    let s = shows setting l world a post older t.took t.past (Peer t.from) t.message f act b t.is t.deed in
    absurd (true≢false (sym (subst (λ (m : MessageValue). is_correction m.kind ≡ true) s.message_is t.kind) ∙ kind))
dates_of setting l world post older a amount f act b h kind (ByDate t) =
    let seen = view l.port (of (node_of l) world) in
    let took : TakesFrom seen t.from (Message t.message) = ap taken t.is ∙ rw t.deed refl in
    let s = shows setting l world a post older t.took t.past t.from t.message f act b t.is t.deed in
    record {
      took = subst₂ (λ x m. TakesFrom seen x (Message m)) s.from_is s.message_is took;
      net = s.net;
      kind = subst (λ (m : MessageValue). sets_date m.kind ≡ true) s.message_is t.kind;
      again = λ d request last number.
          t.again (peer_of (node_of post)) d s.from_is (subst (λ (m : MessageValue). is_date_request m.kind ≡ true) (sym s.message_is) request) last (number ∙
          ap (λ (m : MessageValue). m.number) (sym s.message_is));
    }

-- after a Correct the ticket is another until QUIET later
pub ticket_moves : (c : Did) (past now : List Did) (amount : ℤ) (stepped : Bool) (shown : ℤ) (x : ℕ) → c.deed ≡ Acts (Correct amount stepped shown) →
    Since (c ∷ past) now →
    tick_of now ≤ x → boot_tick now + QUIET ≤ x → x < c.tick + QUIET → ticket past ≡ ticket now → ⊥
ticket_moves c past now amount stepped shown x is i by rested soon same =
    let word_is : word (c ∷ past) ≡ word past = rw is refl in
    let corrects_is : corrects (c ∷ past) ≡ corrects past + 1 = rw is refl in
    elim i.life [
      | inl o ↦ elim (cases_lt (all_corrects (c ∷ past)) (all_corrects now)) [
        | inl more ↦ omega (arith, i.spaced more, i.last, o.word, o.corrects, i.all)
        | inr none ↦ omega (arith, o.word, o.corrects, i.all)
      ]
      | inr b ↦ omega (arith, b.boot)
    ]

-- what the Correct owes that takes a post
pub correct_fits : (setting : Setting) (l : Line) (world : List Line) (post : Line) (older : List Line) → Fits setting (l ∷ world) →
    (a : ActsOn l world post older) → CorrectFits (setup_of setting (node_of l) l.port) l.did (view l.port (of (node_of l) world)) a.amount a.stepped a.shown
correct_fits setting l world post older f a = deed_fits setting l world (Acts (Correct a.amount a.stepped a.shown)) a.correct f.0

-- the node that takes a post of a send has rested since its boot
pub acts_rested : (setting : Setting) (l : Line) (world : List Line) (post : Line) (older : List Line) → Fits setting (l ∷ world) → ActsOn l world post older →
    boot_tick (dids (of (node_of l) world)) + QUIET ≤ l.did.tick
acts_rested setting l world post older f a = subst (λ k. boot_tick k + QUIET ≤ l.did.tick) (plain_view l.port (of (node_of l) world))
    (correct_fits setting l world post older f a).rested

-- what is known of a Correct that takes a post of a correction
pub record Acting (l : Line) (world : List Line) (post : Line) (amount : ℤ) (m : MessageValue) : Type 0 where
  pub takes : TakesOf l.did (view l.port (of (node_of l) world)) amount (peer_of (node_of post)) m
  pub number : m.number ≡ ticket (dids (of (node_of l) world))
  pub rested : boot_tick (dids (of (node_of l) world)) + QUIET ≤ l.did.tick

pub acting_on : (setting : Setting) (l : Line) (world : List Line) (post : Line) (older : List Line) → Fits setting (l ∷ world) →
    (a : ActsOn l world post older) → is_correction a.brings.message.kind ≡ true → Acting l world post a.amount a.brings.message
acting_on setting l world post older f a kind =
    let fits = correct_fits setting l world post older f a in
    let t = takes_of setting l world post older (Correct a.amount a.stepped a.shown) a.amount f a.correct a.brings a.took kind fits.why in
    record { takes = t; number = t.number ∙ ap ticket (plain_view l.port (of (node_of l) world)); rested = acts_rested setting l world post older f a }

-- where the send of what a Correct takes begins, and how long ago
pub record Aged (k : ℕ) (post : Line) (older : List Line) (at : ℕ) (m : MessageValue) : Type 0 where
  pub begins : SendPlace (node_of post) k post older m
  pub took : post.did.step.at ≤ at
  pub life : at ≤ post.did.step.at + LIFE

pub aged : (setting : Setting) (l : Line) (world : List Line) (post : Line) (older : List Line) → Fits setting (l ∷ world) → Life (l ∷ world) →
    (a : ActsOn l world post older) → is_numbered a.brings.message.kind ≡ true → Aged (node_of l) post older l.did.step.at a.brings.message
aged setting l world post older f life a kind =
    let b = a.brings in
    let p = place_time setting (post ∷ older) world f.1 b.place in
    record {
      begins = send_place setting (node_of post) (node_of l) post older b.message (fits_at setting (post ∷ older) world f.1 b.place) refl b.deed kind;
      took = omega (arith, f.0.order);
      life = life.0 post older (Peer (peer_of (node_of l))) (Message b.message) b.place b.deed b.cause;
    }

-- a post is of one node's message to one node
pub posts_same : (j k : ℕ) (m n : MessageValue) → Acts (Post (Peer (peer_of j)) (Message m)) ≡ Acts (Post (Peer (peer_of k)) (Message n)) → (j ≡ k) × (m ≡ n)
posts_same j k m n e = let p : peer_of j ≡ peer_of k = cc in (ap (λ (z : PeerId). z.0) p, cc)

-- a numbered post that is known to be of a send
pub numbered_by : (k : ℕ) (post : Line) (older : List Line) (first : Did) (begun : List Seen) (m : MessageValue) → OfSend k post older first begun →
    post.did.deed ≡ Acts (Post (Peer (peer_of k)) (Message m)) → is_numbered m.kind ≡ true
numbered_by k post older first begun m s deed = subst (λ (z : MessageValue). is_numbered z.kind ≡ true) (posts_same k k s.message m (sym s.deed ∙ deed)).1
    s.numbered

-- two Corrects of one node that take posts of one send, the later soon after the earlier
pub record Twice (setting : Setting) (l : Line) (world : List Line) (post : Line) (older : List Line) (c : Line) (past : List Line) (other : Line)
    (rest : List Line) (m n : MessageValue) : Type 0 where
  pub late : Aged (node_of l) post older l.did.step.at m
  pub early : Aged (node_of c) other rest c.did.step.at n
  pub start : Here late.begins.first ∷ view post.port (of (node_of post) late.begins.fw) ≡ Here early.begins.first ∷
      view other.port (of (node_of other) early.begins.fw)
  pub node : node_of c ≡ node_of l
  pub message : m ≡ n
  pub order : c.did.step.at ≤ l.did.step.at
  pub at : late.begins.first.step.at ≡ early.begins.first.step.at
  pub soon : l.did.tick ≤ c.did.tick + 34100000

pub twice : (setting : Setting) (l : Line) (world : List Line) (post : Line) (older : List Line) (c : Line) (past : List Line) (other : Line) (rest : List Line)
    (first : Did) (begun : List Seen) → Fits setting (l ∷ world) → Life (l ∷ world) →
    (a : ActsOn l world post older) → Within (c ∷ past) world → (b : ActsOn c past other rest) → OfSend (node_of l) post older first begun →
    OfSend (node_of c) other rest first begun → Twice setting l world post older c past other rest a.brings.message b.brings.message
twice setting l world post older c past other rest first begun f life a w b s t =
    let fc = fits_at setting (c ∷ past) world f.1 w in
    let x = aged setting l world post older f life a (numbered_by (node_of l) post older first begun a.brings.message s a.brings.deed) in
    let y = aged setting c past other rest fc (Everywhere_within (TakenWithinAt LIFE) (c ∷ past) world life.1 w) b
    (numbered_by (node_of c) other rest first begun b.brings.message t b.brings.deed) in
    let one : Here x.begins.first ∷ view post.port (of (node_of post) x.begins.fw) ≡ Here y.begins.first ∷ view other.port (of (node_of other) y.begins.fw) =
    sym x.begins.is ∙ (s.is ∙ (sym t.is ∙ y.begins.is)) in
    let two : x.begins.first ≡ y.begins.first = cc in
    let at : x.begins.first.step.at ≡ y.begins.first.step.at = ap (λ (d : Did). d.step.at) two in
    let same = posts_same (node_of l) (node_of c) a.brings.message b.brings.message (sym x.begins.sends.deed ∙
    (ap (λ (d : Did). d.deed) two ∙ y.begins.sends.deed)) in
    let n = node_of l in
    let node : node_of c ≡ n = sym same.0 in
    let order : c.did.step.at ≤ l.did.step.at = (let t = place_time setting (c ∷ past) world f.1 w in omega (arith, f.0.order)) in
    let law = near setting n c.did.step.at l.did.step.at order in
    let tick_c : c.did.tick ≡ setting.tick n c.did.step.at = tick_in setting n c past world f.1 node w in
    let tick_l : l.did.tick ≡ setting.tick n l.did.step.at = f.0.tick in
    record {
      late = x;
      early = y;
      start = one;
      node = node;
      message = same.1;
      order = order;
      at = at;
      soon = (let m = law.most in let u = x.begins.soon in let v = x.life in let z = y.begins.after in let q = y.took in omega arith);
    }

pub corrected_at : (setting : Setting) (l : Line) (world : List Line) → Fits setting (l ∷ world) → Life (l ∷ world) → OnceAt is_correction l world
corrected_at setting l world f life post c other older past rest first begun a kind w b s t =
    let d = twice setting l world post older c past other rest first begun f life a w b s t in
    let fc = fits_at setting (c ∷ past) world f.1 w in
    let n = node_of l in
    let i = since setting (c ∷ of n past) (of n world) (own_fits setting n world f.1) (own_in n c past world d.node w) in
    let gl = acting_on setting l world post older f a kind in
    let gc = acting_on setting c past other rest fc b (subst (λ (m : MessageValue). is_correction m.kind ≡ true) d.message kind) in
    let number : ticket (dids (of n past)) ≡ ticket (dids (of n world)) = subst (λ k. ticket (dids (of k past)) ≡ ticket (dids (of n world))) d.node
    (sym gc.number ∙ (ap (λ (m : MessageValue). m.number) (sym d.message) ∙ gl.number)) in
    ticket_moves c.did (dids (of n past)) (dids (of n world)) b.amount b.stepped b.shown l.did.tick b.correct i (own_tick setting l world f) gl.rested
    (omega (arith, d.soon)) number

pub once_corrected : (setting : Setting) (world : List Line) → Fits setting world → Life world → OnceCorrected world
once_corrected setting world f life = Everywhere_from (OnceAt is_correction) world (λ l s w. corrected_at setting l s (fits_at setting (l ∷ s) world f w)
    (Everywhere_within (TakenWithinAt LIFE) (l ∷ s) world life w))
