-- A clock is corrected only as it was measured.
use Rattle.std.proofs.Common.{sym, ap, arith, subst, inl, inr, ◌∙◌, ◌≡◌, ◌⊎◌, ℕ, ◌+◌, ◌≤◌, List, ◌∷◌, Some, refl}
use Rattle.tsp_rules.specs.Values.{Post, Message, Stamp, Peer, Port, Reply}
use Rattle.tsp_base.specs.Words.{Acts, Did, Here, Line, of, dids, view, ticket, Within, Sampled, best, ReplyValue, Receives, Undisturbed, peer_of, posted}
use Rattle.tsp_base.proofs.PlaceLemmas.{Within_all, Within_through, Within_tail}
use Rattle.tsp_promises.specs.OneError.{FromSlaveUp, OneError, OneErrorAt, SourceReading, SourceSlaveUp, Taking}
use Rattle.tsp_promises.specs.{Agreed.ReadingOf, CorrectionFits.AnswersSlaveUp, CorrectionFits.AtClose, Fits.node_of, Setting.Setting}
use Rattle.tsp_promises.proofs.promised.TakingProof.{BegunFacts, begun_facts, read_facts}
use Rattle.tsp_promises.proofs.{promised.OwnFitsProof.Given, promised.OwnFitsProof.given_at, promised.OwnFitsProof.locate, shared.RoundPlaces.best_at}
use Rattle.tsp_promises.proofs.{shared.RoundPlaces.closed_at}
use Rattle.tsp_promises.proofs.{promised.MeasuredProof.reading_at, promised.MeasuredProof.sample_fits, shared.SendPlaces.post_unique}
use Rattle.tsp_promises.proofs.{shared.SendPlaces.same_number}
use Rattle.tsp_promises.proofs.{shared.EverywhereLemmas.Everywhere_from, promised.KnownProof.known, shared.MasterMoved.first_after}
use Rattle.tsp_promises.proofs.{promised.SourceProof.slaveup_ticket}
use Rattle.tsp_promises.proofs.{shared.HistoryPlaces.line_on, promised.SendProof.number-same}

-- where a sample of k was read: by a reply of k's
record SampleRead (m k : ℕ) (q : Port) (x : Sampled) (past : List Line) : Type 0 where
  pub r : Line
  pub older : List Line
  pub is : ReadingOf m q x.place past r older
  pub node : node_of r ≡ k
  pub reply : ReplyValue
  pub replied : r.did.deed ≡ Acts (Post is.to (Stamp (Reply reply)))
  pub ticket : x.ticket ≡ reply.ticket

-- since the SLAVEUP that a SETTIME answers
since_slaveup : (setting : Setting) (m : ℕ) (c : Line) (past : List Line) → Given setting (c ∷ past) → (t : Taking m c past) (r : Line) (older : List Line) →
    FromSlaveUp m c past t r older →
    Undisturbed (dids (of (node_of c) (r ∷ older))) (dids (of (node_of c) past))
since_slaveup setting m c past g t r older x =
    let k = node_of c in
    let d = begun_facts setting m c past g.fits t in
    let b = t.acts.brings in
    let s = d.begins in
    let line = line_on t.post.port s.first in
    let line_in : Within (line ∷ s.fw) past = Within_through (line ∷ s.fw) (t.post ∷ t.before) past s.place t.acts.brings.place in
    let gl = given_at setting (line ∷ s.fw) (c ∷ past) g (inr line_in) in
    let took : Receives (view t.post.port (of m s.fw)) (peer_of k) (Message x.message) =
    subst (λ v. Receives v (peer_of k) (Message x.message)) (sym d.begun_is) x.took in
    let here : Receives (view t.post.port (of s.first.step.node s.fw)) (peer_of k) (Message x.message) =
    subst (λ n. Receives (view t.post.port (of n s.fw)) (peer_of k) (Message x.message)) (sym (s.node ∙ t.node)) took in
    let up = known setting line s.fw (Post (Peer (peer_of k)) (Message t.acts.brings.message)) (peer_of k) (Message x.message) gl.fits gl.honest s.sends.deed
    here in
    let node : node_of up.post ≡ k = number-same (node_of up.post) k up.node in
    let up_in : Within (up.post ∷ up.older) past = Within_through (up.post ∷ up.older) s.fw past up.place (Within_tail line s.fw past line_in) in
    let number : posted (dids up.older) ≡ posted (dids older) =
    same_number (posted (dids up.older)) (posted (dids older)) (sym up.takes ∙ (ap (λ (z : Did). z.step.cause) d.first_is ∙ x.takes)) in
    let same : up.post ∷ up.older ≡ r ∷ older = post_unique past up.post r up.older older (Peer (peer_of s.first.step.node)) x.to (Message x.message) x.datagram
    up_in x.place up.deed x.deed number in
    let gu = given_at setting (up.post ∷ up.older) (c ∷ past) g (inr up_in) in
    let is = slaveup_ticket setting k s.first.step.node up.post up.older x.message gu.fits.0 node up.deed x.kind in
    let soon : s.first.step.at ≤ up.post.did.step.at + 30000000 = gl.life.0 up.post up.older (Peer (peer_of s.first.step.node)) (Message x.message) up.place
    up.deed up.takes in
    let time : c.did.step.at ≤ up.post.did.step.at + 65000000 =
    (let p = s.soon in let l = g.life.0 t.post t.before (Peer (peer_of k)) (Message b.message) b.place b.deed b.cause in omega arith) in
    let ticket_is : ticket (dids (of k up.older)) ≡ ticket (dids (of k past)) = sym is ∙ (x.number ∙ d.acting.number) in
    let kept =
    first_after setting k c up.post past up.older (Peer (peer_of s.first.step.node))
    (Message x.message) g.fits refl node up.deed up_in d.acting.rested ticket_is time in
    subst (λ w. Undisturbed (dids (of k w)) (dids (of k past))) {x = up.post ∷ up.older} same kept.undisturbed

-- the SLAVEUP that the beginning of a send answers
answered : (setting : Setting) (m : ℕ) (c : Line) (past : List Line) → Given setting (c ∷ past) → (t : Taking m c past) → BegunFacts m c past t →
    AnswersSlaveUp t.begun (peer_of (node_of c)) t.acts.brings.message → SourceSlaveUp m c past t
answered setting m c past g t d s =
    let k = node_of c in
    let b = d.begins in
    let line = line_on t.post.port b.first in
    let line_in : Within (line ∷ b.fw) past = Within_through (line ∷ b.fw) (t.post ∷ t.before) past b.place t.acts.brings.place in
    let gl = given_at setting (line ∷ b.fw) (c ∷ past) g (inr line_in) in
    let took : Receives (view t.post.port (of m b.fw)) (peer_of k) (Message s.message) =
    subst (λ v. Receives v (peer_of k) (Message s.message)) (sym d.begun_is) s.took in
    let here : Receives (view t.post.port (of b.first.step.node b.fw)) (peer_of k) (Message s.message) =
    subst (λ n. Receives (view t.post.port (of n b.fw)) (peer_of k) (Message s.message)) (sym (b.node ∙ t.node)) took in
    let up = known setting line b.fw (Post (Peer (peer_of k)) (Message t.acts.brings.message)) (peer_of k) (Message s.message) gl.fits gl.honest b.sends.deed
    here in
    record {
      r = up.post;
      older = up.older;
      is = record {
        message = s.message;
        kind = s.kind;
        took = s.took;
        number = s.number;
        place = Within_through (up.post ∷ up.older) b.fw past up.place (Within_tail line b.fw past line_in);
        takes = ap (λ (z : Did). z.step.cause) (sym d.first_is) ∙ up.takes;
        to = Peer (peer_of b.first.step.node);
        datagram = Message s.message;
        deed = up.deed;
      };
      node = number-same (node_of up.post) k up.node;
      posted = up.deed;
    }

-- the reading of the sample from which a Close begins a send
sampled : (setting : Setting) (m k : ℕ) (q : Port) (cpast past : List Line) (x : Sampled) → Given setting past → Within cpast past →
    best (peer_of k) (view q (of m cpast)) ≡ Some x → SampleRead m k q x past
sampled setting m k q cpast past x g c_in is =
    let b = best_at (peer_of k) (view q (of m cpast)) x is in
    let s = locate m q cpast b.did b.rest (rw b.deed refl) b.place in
    let line = line_on q b.did in
    let at : Within (line ∷ s.older) past = Within_through (line ∷ s.older) cpast past s.place c_in in
    let gs = given_at setting (line ∷ s.older) past g at in
    let sf = sample_fits setting line s.older (peer_of k) x.counter x.ticket x.diff x.err gs.fits.0 b.deed in
    let read = reading_at setting line s.older (peer_of k) x.counter x.ticket x.diff x.err gs.fits gs.honest (inl gs.life) b.deed sf in
    record {
      r = read.post;
      older = read.older;
      is = record {
        line = line;
        before = s.older;
        at = at;
        node = s.node;
        port = refl;
        is = b.is ∙ ap (λ z. Here b.did ∷ z) (sym s.before);
        reads = read.place;
        takes = read.takes;
        to = Peer (peer_of b.did.step.node);
        datagram = Stamp (Reply sf.reply);
        deed = read.deed;
      };
      node = read.node;
      reply = sf.reply;
      replied = read.deed;
      ticket = sf.number_is;
    }

-- the Close at which a send begins, and the reading
closing : (setting : Setting) (m : ℕ) (c : Line) (past : List Line) → Given setting (c ∷ past) → (t : Taking m c past) → BegunFacts m c past t →
    AtClose t.first t.begun (peer_of (node_of c)) t.acts.brings.message → SourceReading m c past t
closing setting m c past g t d a =
    let q = t.post.port in
    let u = a.is in
    let b = d.begins in
    let line_in : Within (line_on q b.first ∷ b.fw) past = Within_through (line_on q b.first ∷ b.fw) (t.post ∷ t.before) past b.place t.acts.brings.place in
    let shut : Within (Here a.close ∷ a.past) (view q (of m b.fw)) = subst (λ v. Within (Here a.close ∷ a.past) v) (sym d.begun_is)
    (closed_at t.begun a.close a.past u.is) in
    let l = locate m q b.fw a.close a.past (rw u.deed refl) shut in
    let closes : Within (line_on q a.close ∷ l.older) past = Within_through (line_on q a.close ∷
    l.older) b.fw past l.place (Within_tail (line_on q b.first) b.fw past line_in) in
    let gp = given_at setting past (c ∷ past) g (inr (Within_all past)) in
    let is : best (peer_of (node_of c)) (view q (of m l.older)) ≡ Some a.sample = ap (best (peer_of (node_of c))) l.before ∙ u.best_is in
    let s = sampled setting m (node_of c) q l.older past a.sample gp (Within_tail (line_on q a.close) l.older past closes) is in
    record {
      close = line_on q a.close;
      cpast = l.older;
      r = s.r;
      older = s.older;
      is = record {
        none = inr u.untaken;
        closes = closes;
        close_node = l.node;
        close_port = refl;
        close_is = u.is ∙ ap (λ z. Here a.close ∷ z) (sym l.before);
        sample = a.sample;
        best_is = is;
        reading = s.is;
      };
      number = u.number;
      node = s.node;
      reply = s.reply;
      replied = s.replied;
      ticket = s.ticket;
    }

source_of : (setting : Setting) (m : ℕ) (c : Line) (past : List Line) → Given setting (c ∷ past) → (t : Taking m c past) → SourceReading m c past t ⊎
    SourceSlaveUp m c past t
source_of setting m c past g t =
    let d = begun_facts setting m c past g.fits t in
    elim d.fits.from [
      | inl s ↦ inr (answered setting m c past g t d s)
      | inr a ↦ inl (closing setting m c past g t d a)
    ]

pub one_error : (setting : Setting) (world : List Line) → Given setting world → OneError world
one_error setting world g = Everywhere_from OneErrorAt world (λ l s w.
    let gs = given_at setting (l ∷ s) world g w in
    record {
      source = λ m t. source_of setting m l s gs t;
      by_reading = λ m t close cpast r older x. (read_facts setting m l s gs t (begun_facts setting m l s gs.fits t) close cpast r older x).kept.undisturbed;
      by_slaveup = λ m t r older x. since_slaveup setting m l s gs t r older x;
    })
