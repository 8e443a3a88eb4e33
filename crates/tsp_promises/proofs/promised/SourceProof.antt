-- Where the number of a correction comes from.
use Rattle.std.proofs.Common.{sym, ap, arith, subst, inl, inr, ◌∙◌, ◌≡◌, ℕ, ◌+◌, ◌≤◌, List, ◌∷◌, refl}
use Rattle.tsp_rules.specs.Values.{Post, Datagram, Message, Stamp, SlaveUp, Place, Peer, Port, Reply}
use Rattle.tsp_base.specs.Words.{Acts, Did, Line, Seen, Here, of, dids, view, plain, MessageValue, ticket, Within, Sampled, started, ReplyValue, Receives}
use Rattle.tsp_base.specs.Words.{peer_of}
use Rattle.tsp_base.proofs.{PlaceLemmas.Within_all, PlaceLemmas.Within_through, PlaceLemmas.Within_tail, Views.plain_view}
use Rattle.tsp_promises.specs.{CorrectionFits.AnswersSlaveUp, CorrectionFits.AtClose, Fits.Fits, Fits.LineFits, Fits.node_of}
use Rattle.tsp_promises.specs.{DeedFits.MessageFits, Setting.Setting, Setting.setup_of}
use Rattle.tsp_promises.proofs.{promised.KnownProof.known, promised.OwnFitsProof.Given, promised.OwnFitsProof.given_at, promised.OwnFitsProof.deed_fits}
use Rattle.tsp_promises.proofs.{promised.OwnFitsProof.locate}
use Rattle.tsp_promises.proofs.{promised.MeasuredProof.Reading, promised.MeasuredProof.reading_at, promised.MeasuredProof.sample_fits}
use Rattle.tsp_promises.proofs.{promised.TakingProof.round_soon}
use Rattle.tsp_promises.proofs.{shared.HistoryPlaces.line_on, shared.RoundPlaces.best_at, shared.RoundPlaces.closed_at, shared.RoundPlaces.same_start}
use Rattle.tsp_promises.proofs.{shared.SendPlaces.post_fits, promised.SendProof.CorrectsTo, promised.SendProof.number-same}

-- k posted its ticket at most 30 s before the correction f began with it
pub record Source (k : ℕ) (f : Did) (fw : List Line) (number : ℕ) : Type 0 where
  pub r : Line
  pub ro : List Line
  pub to : Place
  pub datagram : Datagram
  pub place : Within (r ∷ ro) fw
  pub node : node_of r ≡ k
  pub deed : r.did.deed ≡ Acts (Post to datagram)
  pub is : number ≡ ticket (dids (of k ro))
  pub soon : f.step.at ≤ r.did.step.at + 30000000

-- the number of a SLAVEUP is the ticket of the node that posts it
pub slaveup_ticket : (setting : Setting) (k to : ℕ) (r : Line) (ro : List Line) (m : MessageValue) → LineFits setting r ro → node_of r ≡ k → r.did.deed ≡
    Acts (Post (Peer (peer_of to)) (Message m)) → m.kind ≡ SlaveUp → m.number ≡ ticket (dids (of k ro))
slaveup_ticket setting k to r ro m f node deed kind =
    let fits = deed_fits setting r ro (Acts (Post (Peer (peer_of to)) (Message m))) deed f in
    let seen = view r.port (of (node_of r) ro) in
    let up : m.number ≡ ticket (plain seen) = subst (λ kd. MessageFits (setup_of setting (node_of r) r.port) kd r.did seen (peer_of to) m) kind fits.fits in
    subst (λ n. m.number ≡ ticket (dids (of n ro))) node (up ∙ ap ticket (plain_view r.port (of (node_of r) ro)))

from_slaveup : (setting : Setting) (m k : ℕ) (q : Port) (f : Did) (fw : List Line) (mf : MessageValue) → Given setting (line_on q f ∷ fw) → f.step.node ≡ m →
    f.deed ≡ Acts (Post (Peer (peer_of k)) (Message mf)) →
    AnswersSlaveUp (view q (of m fw)) (peer_of k) mf → Source k f fw mf.number
from_slaveup setting m k q f fw mf g f_node deed s =
    let took = subst (λ n. Receives (view q (of n fw)) (peer_of k) (Message s.message)) (sym f_node) s.took in
    let r = known setting (line_on q f) fw (Post (Peer (peer_of k)) (Message mf)) (peer_of k) (Message s.message) g.fits g.honest deed took in
    let node : node_of r.post ≡ k = number-same (node_of r.post) k r.node in
    let gr = given_at setting (r.post ∷ r.older) fw (given_at setting fw (line_on q f ∷ fw) g (inr (Within_all fw))) r.place in
    let is = slaveup_ticket setting k f.step.node r.post r.older s.message gr.fits.0 node r.deed s.kind in
    record {
      r = r.post;
      ro = r.older;
      to = Peer (peer_of f.step.node);
      datagram = Message s.message;
      place = r.place;
      node = node;
      deed = r.deed;
      is = sym s.number ∙ is;
      soon = g.life.0 r.post r.older (Peer (peer_of f.step.node)) (Message s.message) r.place r.deed r.takes;
    }

-- with the places of the Close and of its sample
from_reading : (setting : Setting) (m k : ℕ) (q : Port) (f close b start s : Did) (fw cw sw : List Line) (idle i : List Seen) (sample : Sampled) (number : ℕ)
    (reply : ReplyValue) → Fits setting fw → Within (line_on q close ∷ cw) fw →
    close.step.node ≡ m → started (view q (of m cw)) ≡ Here start ∷ idle → close.tick ≤ start.tick + 9000000 → close.step.at ≡ f.step.at → s ≡ start → number ≡
    sample.ticket → sample.ticket ≡ reply.ticket → Within (line_on q b ∷ sw) cw →
    Reading setting (line_on q b) sw k sample.diff sample.err s i reply → Source k f fw number
from_reading setting m k q f close b start s fw cw sw idle i sample number reply w c_in c_node start_is soon at same is ticket_is b_in x =
    let round = round_soon setting m q (line_on q close) cw fw start idle w c_in c_node start_is soon in
    let after : start.step.at ≤ x.post.did.step.at = subst (λ z. z.step.at ≤ x.post.did.step.at) same x.after in
    record {
      r = x.post;
      ro = x.older;
      to = Peer (peer_of b.step.node);
      datagram = Stamp (Reply reply);
      place = Within_through (x.post ∷ x.older) sw fw x.place (Within_through sw cw fw (Within_tail (line_on q b) sw cw b_in)
          (Within_tail (line_on q close) cw fw c_in));
      node = x.node;
      deed = x.deed;
      is = is ∙ (ticket_is ∙ x.number);
      soon = omega arith;
    }

from_close : (setting : Setting) (m k : ℕ) (q : Port) (f : Did) (fw : List Line) (mf : MessageValue) → Given setting (line_on q f ∷ fw) → f.step.node ≡ m →
    AtClose f (view q (of m fw)) (peer_of k) mf → Source k f fw mf.number
from_close setting m k q f fw mf g f_node a =
    let u = a.is in
    let gf = given_at setting fw (line_on q f ∷ fw) g (inr (Within_all fw)) in
    let c = locate m q fw a.close a.past (rw u.deed refl) (closed_at (view q (of m fw)) a.close a.past u.is) in
    let b = best_at (peer_of k) a.past a.sample u.best_is in
    let b_place : Within (Here b.did ∷ b.rest) (view q (of m c.older)) = subst (λ z. Within (Here b.did ∷ b.rest) z) (sym c.before) b.place in
    let s = locate m q c.older b.did b.rest (rw b.deed refl) b_place in
    let s_in : Within (line_on q b.did ∷ s.older) fw = Within_through (line_on q b.did ∷
    s.older) c.older fw s.place (Within_tail (line_on q a.close) c.older fw c.place) in
    let gs = given_at setting (line_on q b.did ∷ s.older) fw gf s_in in
    let sf = sample_fits setting (line_on q b.did) s.older (peer_of k) a.sample.counter a.sample.ticket a.sample.diff a.sample.err gs.fits.0 b.deed in
    let x = reading_at setting (line_on q b.did) s.older (peer_of k) a.sample.counter a.sample.ticket a.sample.diff a.sample.err gs.fits gs.honest (inl gs.life)
    b.deed sf in
    let mine : started (view q (of m s.older)) ≡ Here sf.start ∷ sf.idle = subst (λ n. started (view q (of n s.older)) ≡ Here sf.start ∷
    sf.idle) s.node sf.start_is in
    let same = same_start sf.start u.start sf.idle u.idle (view q (of m s.older)) b.rest a.past mine (sym s.before) b.round u.start_is in
    from_reading setting m k q f a.close b.did u.start sf.start fw c.older s.older u.idle sf.idle a.sample mf.number sf.reply gf.fits c.place c.node
    (ap started c.before ∙ u.start_is) u.soon u.at same u.number sf.number_is s.place x

pub source : (setting : Setting) (m k : ℕ) (q : Port) (f : Did) (fw : List Line) (mf : MessageValue) → Given setting (line_on q f ∷ fw) → f.step.node ≡ m →
    CorrectsTo (peer_of k) mf f (view q (of m fw)) → Source k f fw mf.number
source setting m k q f fw mf g f_node c =
    let fits = post_fits setting m (line_on q f) fw (peer_of k) mf g.fits.0 f_node c.deed c.kind in
    let b = fits.begins c.begins in
    elim b.from [
      | inl s ↦ from_slaveup setting m k q f fw mf g f_node c.deed s
      | inr a ↦ from_close setting m k q f fw mf g f_node a
    ]
