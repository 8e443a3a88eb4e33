-- What is known of a Correct that takes a correction, and of the reading on which that rests: that of the sample that
-- a Close used, where it takes the Close's ADJTIME.
use Rattle.std.proofs.Common.{sym, ap, subst, subst₂, inl, ◌∙◌, ◌≡◌, ◌≤◌, ◌≤ℤ◌, ℕ, pos, ◌-ℤ◌, nat_abs, List, ◌∷◌, Some, refl, arith, inr, ◌⊎◌, ◌+◌, ℤ, None}
use Rattle.std.proofs.Common.{Bool, true}
use Rattle.tsp_rules.specs.Values.{Post, Sample, Datagram, PeerId, Place, Port, Message, AdjTime, Peer, CLOSE, SLACK, Close, Correct, Kind}
use Rattle.tsp_base.specs.Words.{Came, Acts, Did, Line, Seen, Here, of, dids, view, plain, lives, moved, ticket, Within, Sampled, best, started, ReplyValue}
use Rattle.tsp_base.specs.Words.{Undisturbed, peer_of, posted, MessageValue, taken, target, is_correction, time_in}
use Rattle.tsp_base.proofs.{PlaceLemmas.Within_tail, PlaceLemmas.Within_through, Views.plain_view}
use Rattle.tsp_promises.proofs.shared.RoundPlaces.{BestAt, best_at, started_at, same_start, some_is}
use Rattle.tsp_promises.proofs.promised.OwnFitsProof.{own_fits, fits_at, Given, given_at, place_time, locate, tick_in}
use Rattle.tsp_promises.proofs.promised.MeasuredProof.{Reading, first_now, reading_at, reading_is, sample_fits}
use Rattle.tsp_promises.specs.CorrectionFits.{AnswersSlaveUp, AtClose, BeginFits, FromClose, FollowedBy}
use Rattle.tsp_promises.proofs.promised.OnceTakenProof.{Acting, acting_on, numbered_by, posts_same}
use Rattle.tsp_promises.specs.{Fits.Fits, Fits.node_of, OneError.FromReading, OneError.Taking, Premises.Honest, Premises.Life}
use Rattle.tsp_promises.specs.{Agreed.FromRound, ClockAt.clock, CorrectFits.amount_of, Setting.Setting, StepFacts.closed}
use Rattle.tsp_promises.proofs.{shared.SendPlaces.SendPlace, shared.SendPlaces.post_fits, shared.SendPlaces.send_place, promised.SendProof.numbered}
use Rattle.tsp_promises.proofs.{promised.SinceProof.since}
use Rattle.tsp_promises.proofs.{shared.Clocks.near, shared.MasterMoved.Kept, shared.MasterMoved.kept_from, shared.MasterMoved.first_after}
use Rattle.tsp_promises.proofs.{promised.ClockProof.offset, promised.ClockProof.offset_same, shared.HistoryPlaces.Within_of, shared.HistoryPlaces.line_on}

-- from the round's best sample to its Close the node is left alone
kept_to_close : (setting : Setting) (m : ℕ) (q : Port) (cpast before : List Line) (p : PeerId) (sample : Sampled) (start : Did) (idle : List Seen) →
    Fits setting cpast →
    (b : BestAt p sample (view q (of m cpast))) → b.rest ≡ view q (of m before) → started (view q (of m cpast)) ≡ Here start ∷ idle →
    Undisturbed (plain idle) (plain (view q (of m cpast))) →
    Kept (dids (of m before)) (dids (of m cpast))
kept_to_close setting m q cpast before p sample start idle f b rest_is start_is u =
    let lb = locate m q cpast b.did b.rest (rw b.deed refl) b.place in
    let same : dids (of m lb.older) ≡ dids (of m before) = sym (plain_view q (of m lb.older)) ∙ (ap plain (lb.before ∙ rest_is) ∙ plain_view q (of m before)) in
    let begins : started (view q (of m lb.older)) ≡ Here start ∷ idle = ap started lb.before ∙ (b.round ∙ start_is) in
    let sa = started_at (view q (of m lb.older)) start idle begins in
    let ls = locate m q lb.older start idle (rw sa.deed refl) sa.place in
    let lo_in : Within lb.older cpast = Within_tail (line_on q b.did) lb.older cpast lb.place in
    let so_in : Within ls.older lb.older = Within_tail (line_on q start) ls.older lb.older ls.place in
    let one = since setting (of m ls.older) (of m lb.older) (own_fits setting m lb.older (fits_at setting lb.older cpast f lo_in))
    (Within_of m ls.older lb.older so_in) in
    let two = since setting (of m lb.older) (of m cpast) (own_fits setting m cpast f) (Within_of m lb.older cpast lo_in) in
    subst (λ d. Kept d (dids (of m cpast))) same (kept_from (dids (of m ls.older)) (dids (of m lb.older)) (dids (of m cpast)) one two
    (first_now q (of m cpast) (of m ls.older) idle ls.before u))

-- what is known of the reading r that m took of k, for the Close that stands after cpast
pub record ReadAt (setting : Setting) (m k : ℕ) (cpast : List Line) (sample : Sampled) (start : Did) (r : Line) (older : List Line) : Type 0 where
  pub node : node_of r ≡ k
  pub number : sample.ticket ≡ ticket (dids (of k older))
  pub error : pos (nat_abs (sample.diff -ℤ (clock setting k (r ∷ older) -ℤ clock setting m (r ∷ older)))) ≤ℤ sample.err
  pub same_m : offset setting m (r ∷ older) ≡ offset setting m cpast
  pub after : start.step.at ≤ r.did.step.at

-- with the Reading of the Sample's line
read_with : (setting : Setting) (m k : ℕ) (l r : Line) (before cpast older : List Line) (sample : Sampled) (start s : Did) (i : List Seen) (reply : ReplyValue)
    → node_of l ≡ m →
    Kept (dids (of m before)) (dids (of m cpast)) → sample.ticket ≡ reply.ticket → s ≡ start →
    (x : Reading setting l before k sample.diff sample.err s i reply) → x.post ∷ x.older ≡ r ∷ older → ReadAt setting m k cpast sample start r older
read_with setting m k l r before cpast older sample start s i reply l_node kept number start_is x same =
    let post_is : x.post ≡ r = cc in
    let older_is : x.older ≡ older = cc in
    record {
      node = subst (λ z. node_of z ≡ k) post_is x.node;
      number = number ∙ subst (λ z. reply.ticket ≡ ticket (dids (of k z))) older_is x.number;
      error = subst₂ (λ z n. pos (nat_abs (sample.diff -ℤ (clock setting k z -ℤ clock setting n z))) ≤ℤ sample.err) same l_node x.error;
      same_m = offset_same setting m (r ∷ older) cpast (subst₂ (λ z n. lives (dids (of n z)) ≡ lives (dids (of n before))) same l_node x.undisturbed.lives ∙
          kept.undisturbed.lives)
          (subst₂ (λ z n. moved (dids (of n z)) ≡ moved (dids (of n before))) same l_node x.moved_is ∙ kept.moved);
      after = subst₂ (λ z y. z.step.at ≤ y.did.step.at) start_is post_is x.after;
    }

pub read_at : (setting : Setting) (m k : ℕ) (q : Port) (l r : Line) (before cpast older : List Line) (sample : Sampled) (start : Did) (idle : List Seen)
    (to : Place) (datagram : Datagram) → Fits setting (l ∷ before) → Honest (l ∷ before) → Life (l ∷ before) → Fits setting cpast →
    node_of l ≡ m → l.port ≡ q → best (peer_of k) (view q (of m cpast)) ≡ Some sample → sample.place ≡ Here l.did ∷ view q (of m before) →
    Within (r ∷ older) before → l.did.step.cause ≡ Came (posted (dids older)) → r.did.deed ≡ Acts (Post to datagram) →
    started (view q (of m cpast)) ≡ Here start ∷ idle → Undisturbed (plain idle) (plain (view q (of m cpast))) → ReadAt setting m k cpast sample start r older
read_at setting m k q l r before cpast older sample start idle to datagram f h w fc l_node l_port best_is place r_in takes r_deed start_is u =
    let b = best_at (peer_of k) (view q (of m cpast)) sample best_is in
    let both : Here b.did ∷ b.rest ≡ Here l.did ∷ view q (of m before) = sym b.is ∙ place in
    let did_is : b.did ≡ l.did = cc in
    let rest_is : b.rest ≡ view q (of m before) = cc in
    let deed : l.did.deed ≡ Acts (Sample (peer_of k) sample.counter sample.diff sample.err sample.ticket) =
    subst (λ (d : Did). d.deed ≡ Acts (Sample (peer_of k) sample.counter sample.diff sample.err sample.ticket)) did_is b.deed in
    let s = sample_fits setting l before (peer_of k) sample.counter sample.ticket sample.diff sample.err f.0 deed in
    let x = reading_at setting l before (peer_of k) sample.counter sample.ticket sample.diff sample.err f h (inl w) deed s in
    let same = reading_is setting l before k sample.diff sample.err s.start s.idle s.reply r older to datagram x r_in r_deed takes in
    let mine : started (view q (of m before)) ≡ Here s.start ∷ s.idle = subst₂ (λ n p. started (view p (of n before)) ≡ Here s.start ∷
    s.idle) l_node l_port s.start_is in
    let start_same = same_start s.start start s.idle idle (view q (of m before)) b.rest (view q (of m cpast)) mine rest_is b.round start_is in
    read_with setting m k l r before cpast older sample start s.start s.idle s.reply l_node
    (kept_to_close setting m q cpast before (peer_of k) sample start idle fc b rest_is start_is u) s.number_is start_same x same

-- the round began at most so long before its Close
pub round_soon : (setting : Setting) (m : ℕ) (q : Port) (close : Line) (cpast past : List Line) (start : Did) (idle : List Seen) → Fits setting past →
    Within (close ∷ cpast) past → node_of close ≡ m →
    started (view q (of m cpast)) ≡ Here start ∷ idle → close.did.tick ≤ start.tick + (CLOSE + SLACK) → close.did.step.at ≤ start.step.at + 9009011
round_soon setting m q close cpast past start idle f close_in node start_is soon =
    let fc = fits_at setting (close ∷ cpast) past f close_in in
    let sa = started_at (view q (of m cpast)) start idle start_is in
    let ls = locate m q cpast start idle (rw sa.deed refl) sa.place in
    let order : start.step.at ≤ close.did.step.at = (let p = place_time setting (line_on q start ∷ ls.older) cpast fc.1 ls.place in
    omega (arith, fc.0.order)) in
    let n = near setting m start.step.at close.did.step.at order in
    let tick_s : start.tick ≡ setting.tick m start.step.at = tick_in setting m (line_on q start) ls.older cpast fc.1 ls.node ls.place in
    let tick_c : close.did.tick ≡ setting.tick m close.did.step.at = tick_in setting m close cpast past f node close_in in
    (let k = n.least in omega arith)

-- what the Close that begins a correction owes, from the sample that it had
pub record Used (first : Did) (begun : List Seen) (p : PeerId) (m : MessageValue) (close : Did) (past : List Seen) (sample : Sampled) : Type 0 where
  pub mean : ℤ
  pub from : FromClose first begun p m close past mean sample

-- what begins before its step has taken anything, or is an ADJTIME, begins at a Close
pub begun_by : (first : Did) (begun : List Seen) (p : PeerId) (m : MessageValue) (close : Did) (past : List Seen) → (m.kind ≡ AdjTime) ⊎ (taken begun ≡ None) →
    closed begun ≡ Here close ∷ past → AnswersSlaveUp begun p m ⊎ AtClose first begun p m → (sample : Sampled) × Used first begun p m close past sample
begun_by first begun p m close past (inl kind) close_is (inl s) = let bad : ⊥ = (let k = sym kind ∙ s.sets in cc) in absurd bad
begun_by first begun p m close past (inr none) close_is (inl s) = let bad : ⊥ = (let k = sym none ∙ s.took in cc) in absurd bad
begun_by first begun p m close past none close_is (inr a) =
    let both : Here a.close ∷ a.past ≡ Here close ∷ past = sym a.is.is ∙ close_is in
    let did_is : a.close ≡ close = cc in
    let past_is : a.past ≡ past = cc in
    (a.sample, record { mean = a.mean; from = subst₂ (λ y z. FromClose first begun p m y z a.mean a.sample) did_is past_is a.is })

pub used_by : (first : Did) (begun : List Seen) (p : PeerId) (m : MessageValue) (close : Did) (past : List Seen) (sample : Sampled) →
    (m.kind ≡ AdjTime) ⊎ (taken begun ≡ None) → closed begun ≡ Here close ∷ past → best p past ≡ Some sample →
    AnswersSlaveUp begun p m ⊎ AtClose first begun p m → Used first begun p m close past sample
used_by first begun p m close past sample none close_is best_is from =
    let u = begun_by first begun p m close past none close_is from in
    subst (λ z. Used first begun p m close past z) (some_is u.0 sample (sym u.1.from.best_is ∙ best_is)) u.1

-- where the send begins and what its beginning owes; and the clock was moved as it says
pub record BegunFacts (m : ℕ) (c : Line) (past : List Line) (t : Taking m c past) : Type 0 where
  pub begins : SendPlace (node_of t.post) (node_of c) t.post t.before t.acts.brings.message
  pub acting : Acting c past t.post t.acts.amount t.acts.brings.message
  pub first_is : begins.first ≡ t.first
  pub begun_is : view t.post.port (of m begins.fw) ≡ t.begun
  pub fits : BeginFits t.first t.begun (peer_of (node_of c)) t.acts.brings.message

pub begun_facts : (setting : Setting) (m : ℕ) (c : Line) (past : List Line) → Fits setting (c ∷ past) → (t : Taking m c past) → BegunFacts m c past t
begun_facts setting m c past f t =
    let k = node_of c in
    let b = t.acts.brings in
    let fp = fits_at setting (t.post ∷ t.before) past f.1 b.place in
    let s = send_place setting (node_of t.post) k t.post t.before b.message fp refl b.deed (numbered b.message.kind t.kind) in
    let both : Here s.first ∷ view t.post.port (of (node_of t.post) s.fw) ≡ Here t.first ∷ t.begun = sym s.is ∙ t.of_send.is in
    let first_is : s.first ≡ t.first = cc in
    let begun_is : view t.post.port (of (node_of t.post) s.fw) ≡ t.begun = cc in
    let line = line_on t.post.port s.first in
    let lf = fits_at setting (line ∷ s.fw) (t.post ∷ t.before) fp s.place in
    let fits = post_fits setting (node_of t.post) line s.fw (peer_of k) b.message lf.0 s.node s.sends.deed t.kind in
    record {
      begins = s;
      acting = acting_on setting c past t.post t.before f t.acts t.kind;
      first_is = first_is;
      begun_is = ap (λ n. view t.post.port (of n s.fw)) (sym t.node) ∙ begun_is;
      fits = subst₂ (λ y z. BeginFits y z (peer_of k) b.message) first_is begun_is (fits.begins s.sends.begins);
    }

-- with the reading on which it rests
pub record ReadFacts (setting : Setting) (m : ℕ) (c : Line) (past : List Line) (t : Taking m c past) (close : Line) (cpast : List Line) (r : Line)
    (older : List Line) (sample : Sampled) : Type 0 where
  pub used : Used t.first t.begun (peer_of (node_of c)) t.acts.brings.message close.did (view t.post.port (of m cpast)) sample
  pub read : ReadAt setting m (node_of c) cpast sample used.from.start r older
  pub reads : Within (r ∷ older) past
  pub kept : Kept (dids (of (node_of c) (r ∷ older))) (dids (of (node_of c) past))

pub read_facts : (setting : Setting) (m : ℕ) (c : Line) (past : List Line) → Given setting (c ∷ past) → (t : Taking m c past) → BegunFacts m c past t →
    (close : Line) (cpast : List Line) (r : Line) (older : List Line) →
    (x : FromReading m c past t close cpast r older) → ReadFacts setting m c past t close cpast r older x.sample
read_facts setting m c past g t d close cpast r older x =
    let k = node_of c in
    let q = t.post.port in
    let b = t.acts.brings in
    let used = used_by t.first t.begun (peer_of k) t.acts.brings.message close.did (view q (of m cpast)) x.sample x.none x.close_is x.best_is d.fits.from in
    let u = used.from in
    let rd = x.reading in
    let gs = given_at setting (rd.line ∷ rd.before) (c ∷ past) g (inr rd.at) in
    let fc = fits_at setting (close ∷ cpast) past g.fits.1 x.closes in
    let read = read_at setting m k q rd.line r rd.before cpast older x.sample u.start u.idle rd.to rd.datagram gs.fits gs.honest gs.life fc.1 rd.node rd.port
    u.best_is rd.is rd.reads rd.takes rd.deed u.start_is u.undisturbed in
    let first_at : d.begins.first.step.at ≡ t.first.step.at = ap (λ (z : Did). z.step.at) d.first_is in
    let round = round_soon setting m q close cpast past u.start u.idle g.fits.1 x.closes x.close_node u.start_is u.soon in
    let time : c.did.step.at ≤ r.did.step.at + 65000000 =
    (let p = d.begins.soon in let l = g.life.0 t.post t.before (Peer (peer_of k))
    (Message b.message) b.place b.deed b.cause in let o = u.at in let s = read.after in omega arith) in
    let reads : Within (r ∷ older) past = Within_through (r ∷ older) rd.before past rd.reads (Within_tail rd.line rd.before past rd.at) in
    let same : ticket (dids (of k older)) ≡ ticket (dids (of k past)) = sym read.number ∙ (sym u.number ∙ d.acting.number) in
    record {
      used = used;
      read = read;
      reads = reads;
      kept = first_after setting k c r past older rd.to rd.datagram g.fits refl read.node rd.deed reads d.acting.rested same time;
    }

pub corrects_adj : (k : Kind) → k ≡ AdjTime → is_correction k ≡ true
corrects_adj k e = ap is_correction e

-- what a FromRound's Correct takes is an ADJTIME, as the beginning of its send is
pub cast_kind : (setting : Setting) (m : ℕ) (close : Line) (cpast : List Line) (c : Line) (past : List Line) (r : Line) (rolder : List Line) (err : ℤ) →
    Fits setting (c ∷ past) → (x : FromRound m close cpast c past r rolder err) → x.acts.brings.message.kind ≡ AdjTime
cast_kind setting m close cpast c past r rolder err f x =
    let k = node_of c in
    let b = x.acts.brings in
    let s = send_place setting (node_of x.post) k x.post x.before b.message (fits_at setting (x.post ∷ x.before) past f.1 b.place) refl b.deed
    (numbered_by k x.post x.before x.first x.begun b.message x.of_send b.deed) in
    let both : Here s.first ∷ view x.post.port (of (node_of x.post) s.fw) ≡ Here x.first ∷ x.begun = sym s.is ∙ x.of_send.is in
    let first_is : s.first ≡ x.first = cc in
    ap (λ (z : MessageValue). z.kind) (posts_same k k b.message x.message (sym s.sends.deed ∙ (ap (λ (z : Did). z.deed) first_is ∙ x.begins))).1 ∙ x.kind

-- a FromRound takes a correction
abbrev pub taking_of : {m : ℕ} {close c r : Line} {cpast past rolder : List Line} {err : ℤ}
    (x : FromRound m close cpast c past r rolder err) → x.acts.brings.message.kind ≡ AdjTime → Taking m c past
taking_of x kind = record {
  post = x.post;
  before = x.before;
  acts = x.acts;
  kind = corrects_adj x.acts.brings.message.kind kind;
  node = x.node;
  first = x.first;
  begun = x.begun;
  of_send = x.of_send;
}

-- and rests on its reading
abbrev pub reading_of : {m : ℕ} {close c r : Line} {cpast past rolder : List Line} {err : ℤ}
    (x : FromRound m close cpast c past r rolder err) (kind : x.acts.brings.message.kind ≡ AdjTime) →
    FromReading m c past (taking_of x kind) close cpast r rolder
reading_of x kind = record {
  none = inl kind;
  closes = x.closes;
  close_node = x.close_node;
  close_port = x.close_port;
  close_is = x.close_is;
  sample = x.sample;
  best_is = x.best_is;
  reading = x.reading;
}

-- what a FromRound says of the clocks at the reading and the Correct
pub record Met (setting : Setting) (m k : ℕ) (cpast : List Line) (mean : ℤ) (c : Line) (past : List Line) (r : Line) (rolder : List Line) (err : ℤ) : Type 0
  where
    pub diff : ℤ
    pub amount : ℤ
    pub stepped : Bool
    pub shown : ℤ
    pub amount_is : amount ≡ mean -ℤ diff
    pub deed : c.did.deed ≡ Acts (Correct amount stepped shown)
    pub error : pos (nat_abs (diff -ℤ (clock setting k (r ∷ rolder) -ℤ clock setting m (r ∷ rolder)))) ≤ℤ err
    pub same_m : offset setting m (r ∷ rolder) ≡ offset setting m cpast
    pub same_k : offset setting k (r ∷ rolder) ≡ offset setting k past
    pub reads : Within (r ∷ rolder) past

-- the amount of a Correct that takes an ADJTIME is its time
pub amount_adj : (c : Line) (past : List Line) (post : Line) (amount : ℤ) (m : MessageValue) → Acting c past post amount m → m.kind ≡ AdjTime → amount ≡
    time_in m.body
amount_adj c past post amount m a kind = a.takes.amount_is ∙ ap (λ k. amount_of k (time_in m.body) (target (plain (view c.port (of (node_of c) past)))
    c.did.tick)) kind

-- a FromRound and all that is known of it
pub record Whole (setting : Setting) (m : ℕ) (close : Line) (cpast : List Line) (c : Line) (past : List Line) (r : Line) (rolder : List Line) (err : ℤ) : Type 0
  where
    pub mean : ℤ
    pub met : Met setting m (node_of c) cpast mean c past r rolder err
    pub count : ℕ
    pub lo : ℤ
    pub size : ℤ
    pub deed : close.did.deed ≡ Acts (Close count lo size mean)
    pub port : Port
    pub fw : List Line
    pub fw_in : Within fw past
    pub followed : (mean ≡ pos 0) ⊎ FollowedBy close.did (view port (of m cpast)) (view port (of m fw)) mean

pub whole : (setting : Setting) (m : ℕ) (close : Line) (cpast : List Line) (c : Line) (past : List Line) (r : Line) (rolder : List Line) (err : ℤ) →
    Given setting (c ∷ past) → FromRound m close cpast c past r rolder err → Whole setting m close cpast c past r rolder err
whole setting m close cpast c past r rolder err g x =
    let k = node_of c in
    let kind = cast_kind setting m close cpast c past r rolder err g.fits x in
    let taking = taking_of x kind in
    let t = begun_facts setting m c past g.fits taking in
    let d = read_facts setting m c past g taking t close cpast r rolder (reading_of x kind) in
    let u = d.used.from in
    let s = t.begins in
    record {
      mean = d.used.mean;
      met = record {
        diff = x.sample.diff;
        amount = x.acts.amount;
        stepped = x.acts.stepped;
        shown = x.acts.shown;
        amount_is = amount_adj c past x.post x.acts.amount x.acts.brings.message t.acting kind ∙ u.value kind;
        deed = x.acts.correct;
        error = subst (λ e. pos (nat_abs (x.sample.diff -ℤ (clock setting k (r ∷ rolder) -ℤ clock setting m (r ∷ rolder)))) ≤ℤ e) x.err_is d.read.error;
        same_m = d.read.same_m;
        same_k = offset_same setting k (r ∷ rolder) past d.kept.undisturbed.lives d.kept.moved;
        reads = d.reads;
      };
      count = u.count;
      lo = u.lo;
      size = u.size;
      deed = u.deed;
      port = x.post.port;
      fw = s.fw;
      fw_in = Within_tail (line_on x.post.port s.first) s.fw past (Within_through (line_on x.post.port s.first ∷ s.fw) (x.post ∷
          x.before) past s.place x.acts.brings.place);
      followed = subst (λ w. (d.used.mean ≡ pos 0) ⊎ FollowedBy close.did (view x.post.port (of m cpast)) w d.used.mean) (sym t.begun_is) u.followed;
    }
