-- A Correct came of one round at most.
use Rattle.std.proofs.Common.{sym, ap, subst, subst₂, ◌∙◌, arith, get_or, take, ◌≡◌, ◌≤◌, ℕ, ℤ, List, ◌∷◌, refl, Some}
use Rattle.tsp_rules.specs.Values.{Post, Message, AdjTime, Peer, Port}
use Rattle.tsp_base.specs.Words.{Acts, Did, Here, Line, Seen, dids, of, view, MessageValue, all_corrects, lives, Within, Sampled, best, begun_to, peer_of}
use Rattle.tsp_base.specs.Words.{posted}
use Rattle.tsp_promises.specs.{Agreed.FromRound, Agreed.ReadingOf, Fits.node_of, Once.ActsOn, Once.OfSend}
use Rattle.tsp_base.proofs.PlaceLemmas.{Within_tail, Within_through}
use Rattle.tsp_promises.proofs.{shared.HistoryPlaces.line_on, promised.OwnFitsProof.seen_same}
use Rattle.tsp_promises.proofs.shared.SendPlaces.{post_unique, posted_mono, posted_post, same_number}
use Rattle.tsp_audit.proofs.{Prefixes.history_within, SendPlaces.brings_one, SendPlaces.send_number, TakeLemmas.same_noted, Alike.here_same}
use Rattle.tsp_audit.{specs.Acting.TakesSend, specs.Agreeing.FromRoundAs, specs.Agreeing.IsFromNoRound, proofs.Alike.first_same}
use Rattle.tsp_audit.specs.FromRounds.{BegunAt, HasNoRound, IsAdjusting, RoundAs, Rounds}
use Rattle.tsp_audit.specs.declared.round_correction.RoundCorrection.{RoundCorrection}
use Rattle.tsp_history.specs.declared.line.HistoryLine.{HistoryLine}
use Rattle.tsp_history.specs.{Histories.deed_of, Histories.history_of, Histories.line_of, Posts.PostsAt}
use Rattle.tsp_audit.proofs.Alike.{carry, message_same, rest_same, some_same}

-- what a port sees as its own at one place is one line
pub lines_one : (m : ℕ) (q : Port) (world : List Line) (a b : Line) (s t : List Line) → node_of a ≡ m → node_of b ≡ m → a.port ≡ q → b.port ≡ q →
    Within (a ∷ s) world → Within (b ∷ t) world →
    Here a.did ∷ view q (of m s) ≡ Here b.did ∷ view q (of m t) → a ∷ s ≡ b ∷ t
lines_one m q world a b s t na nb pa pb va vb e =
    let wa : Within (line_on q a.did ∷ s) world = subst (λ (p : Port). Within (line_on p a.did ∷ s) world) pa va in
    let wb : Within (line_on q b.did ∷ t) world = subst (λ (p : Port). Within (line_on p b.did ∷ t) world) pb vb in
    subst₂ (λ (p r : Port). line_on p a.did ∷ s ≡ line_on r b.did ∷ t) (sym pa) (sym pb) (seen_same m q q a.did b.did s t world na nb wa wb e)

-- a sample has one reading
reading_one : (m : ℕ) (q : Port) (place : List Seen) (world : List Line) (r s : Line) (older rest : List Line) → ReadingOf m q place world r older →
    ReadingOf m q place world s rest → r ∷ older ≡ s ∷ rest
reading_one m q place world r s older rest x y =
    let lines : x.line ∷ x.before ≡ y.line ∷ y.before = lines_one m q world x.line y.line x.before y.before x.node y.node x.port y.port x.at y.at (sym x.is ∙
    y.is) in
    let line : x.line ≡ y.line = first_same lines in
    let number : posted (dids older) ≡ posted (dids rest) = same_number (posted (dids older)) (posted (dids rest)) (sym x.takes ∙
    (ap (λ (l : Line). l.did.step.cause) line ∙ y.takes)) in
    post_unique world r s older rest x.to y.to x.datagram y.datagram (Within_through (r ∷
    older) x.before world x.reads (Within_tail x.line x.before world x.at))
    (Within_through (s ∷ rest) y.before world y.reads (Within_tail y.line y.before world y.at)) x.deed y.deed number

-- two rounds are one
pub record RoundOne (close other : Line) (cpast opast : List Line) (r s : Line) (older rest : List Line) (e f : ℤ) : Type 0 where
  pub closes : close ∷ cpast ≡ other ∷ opast
  pub reading : r ∷ older ≡ s ∷ rest
  pub err : e ≡ f

pub rounds_one : (m : ℕ) (q : Port) (k : ℕ) (seen : List Seen) (world : List Line) (close other : Line) (cpast opast : List Line) (r s : Line)
    (older rest : List Line) (e f : ℤ) →
    Rounds m q k seen world close cpast r older e → Rounds m q k seen world other opast s rest f → RoundOne close other cpast opast r s older rest e f
rounds_one m q k seen world close other cpast opast r s older rest e f a b =
    let closes : close ∷ cpast ≡ other ∷ opast = lines_one m q world close other cpast opast a.close_node b.close_node a.close_port b.close_port a.closes
    b.closes (sym a.close_is ∙ b.close_is) in
    let past : cpast ≡ opast = rest_same closes in
    let samples : Some a.sample ≡ Some b.sample = sym a.best_is ∙ (ap (λ (t : List Line). best (peer_of k) (view q (of m t))) past ∙ b.best_is) in
    let sample : a.sample ≡ b.sample = some_same samples in
    record {
      closes = closes;
      reading = reading_one m q a.sample.place world r s older rest a.reading (subst (λ (x : Sampled). ReadingOf m q x.place world s rest) (sym sample)
          b.reading);
      err = sym a.err_is ∙ (ap (λ (x : Sampled). x.err) sample ∙ b.err_is);
    }

-- of a longer history
pub rounds_lift : (m : ℕ) (q : Port) (k : ℕ) (seen : List Seen) (h world : List Line) (close : Line) (cpast : List Line) (r : Line) (older : List Line) (e : ℤ)
    → Within h world →
    Rounds m q k seen h close cpast r older e → Rounds m q k seen world close cpast r older e
rounds_lift m q k seen h world close cpast r older e w a = record {
  closes = Within_through (close ∷ cpast) h world a.closes w;
  close_node = a.close_node;
  close_port = a.close_port;
  close_is = a.close_is;
  sample = a.sample;
  best_is = a.best_is;
  err_is = a.err_is;
  reading = record {
    line = a.reading.line;
    before = a.reading.before;
    at = Within_through (a.reading.line ∷ a.reading.before) h world a.reading.at w;
    node = a.reading.node;
    port = a.reading.port;
    is = a.reading.is;
    reads = a.reading.reads;
    takes = a.reading.takes;
    to = a.reading.to;
    datagram = a.reading.datagram;
    deed = a.reading.deed;
  };
}

from_round_rounds : (m : ℕ) (close : Line) (cpast : List Line) (l : Line) (h : List Line) (r : Line) (older : List Line) (e : ℤ) →
    (c : FromRound m close cpast l h r older e) → Rounds m c.post.port (node_of l) c.begun h close cpast r older e
from_round_rounds m close cpast l h r older e c = record {
  closes = c.closes;
  close_node = c.close_node;
  close_port = c.close_port;
  close_is = c.close_is;
  sample = c.sample;
  best_is = c.best_is;
  err_is = c.err_is;
  reading = c.reading;
}

-- two sends of which a line's Correct takes a post are one
record SendOne (p : Line) (b : List Line) (first : Did) (begun : List Seen) (o : Line) (c : List Line) (start : Did) (past : List Seen) : Type 0 where
  post : p ≡ o
  send : Here first ∷ begun ≡ Here start ∷ past

send_one : (l : Line) (h : List Line) (p o : Line) (b c : List Line) (first start : Did) (begun past : List Seen) → ActsOn l h p b → ActsOn l h o c →
    OfSend (node_of l) p b first begun → OfSend (node_of l) o c start past → SendOne p b first begun o c start past
send_one l h p o b c first start begun past x y s t =
    let e : p ∷ b ≡ o ∷ c = brings_one l h p o b c x.brings y.brings in
    let post : p ≡ o = first_same e in
    let rest : b ≡ c = rest_same e in
    let seen : begun_to (peer_of (node_of l)) (Here p.did ∷ view p.port (of (node_of p) b)) ≡
    begun_to (peer_of (node_of l)) (Here o.did ∷ view o.port (of (node_of o) c)) =
    subst₂ (λ (i : Line) (t : List Line). begun_to (peer_of (node_of l)) (Here p.did ∷ view p.port (of (node_of p) b)) ≡
    begun_to (peer_of (node_of l)) (Here i.did ∷ view i.port (of (node_of i) t))) post rest refl in
    record { post = post; send = sym s.is ∙ (seen ∙ t.is) }

-- a line comes from one round
pub record FromOneRound (m n : ℕ) (close other : Line) (cpast opast : List Line) (r s : Line) (older rest : List Line) (e f : ℤ) : Type 0 where
  pub master : m ≡ n
  pub rounds : RoundOne close other cpast opast r s older rest e f

pub from_round_one : (l : Line) (h : List Line) (m n : ℕ) (close other : Line) (cpast opast : List Line) (r s : Line) (older rest : List Line) (e f : ℤ) →
    FromRound m close cpast l h r older e → FromRound n other opast l h s rest f → FromOneRound m n close other cpast opast r s older rest e f
from_round_one l h m n close other cpast opast r s older rest e f a b =
    let one = send_one l h a.post b.post a.before b.before a.first b.first a.begun b.begun a.acts b.acts a.of_send b.of_send in
    let begun : a.begun ≡ b.begun = rest_same one.send in
    let master : m ≡ n = sym a.node ∙ (ap node_of one.post ∙ b.node) in
    let port : a.post.port ≡ b.post.port = ap (λ (i : Line). i.port) one.post in
    let there : Rounds m a.post.port (node_of l) b.begun h other opast s rest f =
    subst₂ (λ (i : ℕ) (p : Port). Rounds i p (node_of l) b.begun h other opast s rest f) (sym master) (sym port)
    (from_round_rounds n other opast l h s rest f b) in
    let here : Rounds m a.post.port (node_of l) a.begun h other opast s rest f = subst (λ (t : List Seen). Rounds m a.post.port (node_of l) t h other opast s
    rest f) (sym begun) there in
    record {
      master = master;
      rounds = rounds_one m a.post.port (node_of l) a.begun h close other cpast opast r s older rest e f
          (from_round_rounds m close cpast l h r older e a) here;
    }

-- a round of which a send came makes the Correct that takes a post of it a FromRound
pub begun_from_round : (ns : List HistoryLine) (l : Line) (i : ℕ) (c : RoundCorrection) → (x : BegunAt ns l i) →
    RoundAs x.noted.node x.noted.port (node_of l) (history_of (take i ns)) c → FromRoundAs l (history_of ns) c
begun_from_round ns l i c x r =
    let seen : List Seen = view x.noted.port (of x.noted.node (history_of (take i ns))) in
    let lifted : Rounds x.noted.node x.noted.port (node_of l) seen (history_of ns) r.close r.cpast r.reading r.older c.err =
    rounds_lift x.noted.node x.noted.port (node_of l) seen (history_of (take i ns)) (history_of ns) r.close r.cpast r.reading r.older c.err
    (history_within ns i) r.rounds in
    let rounds : Rounds c.master x.post.port (node_of l) seen (history_of ns) r.close r.cpast r.reading r.older c.err =
    subst₂ (λ (n : ℕ) (p : Port). Rounds n p (node_of l) seen (history_of ns) r.close r.cpast r.reading r.older c.err) (sym r.master_is) (sym x.port) lifted in
    record {
      close = r.close;
      cpast = r.cpast;
      reading = r.reading;
      older = r.older;
      from_round = record {
        post = x.post;
        before = x.before;
        acts = x.acts;
        node = x.node ∙ sym r.master_is;
        first = (line_of x.noted).did;
        begun = seen;
        of_send = x.of_send;
        message = x.message;
        begins = x.begins;
        kind = x.kind;
        closes = rounds.closes;
        close_node = rounds.close_node;
        close_port = rounds.close_port;
        close_is = rounds.close_is;
        sample = rounds.sample;
        best_is = rounds.best_is;
        err_is = rounds.err_is;
        reading = rounds.reading;
      };
      at_is = r.at_is;
      close_is = r.close_is;
      lives_is = subst (λ (n : ℕ). c.lives ≡ lives (dids (of n (r.close ∷ r.cpast)))) (sym r.master_is) r.lives_is;
      corrects_is = subst (λ (n : ℕ). c.corrects ≡ all_corrects (dids (of n (r.close ∷ r.cpast)))) (sym r.master_is) r.corrects_is;
    }

-- without one it is none
pub begun_none : (ns : List HistoryLine) (l : Line) (i : ℕ) → (x : BegunAt ns l i) → HasNoRound x.noted.node x.noted.port (node_of l) (history_of (take i ns)) →
    IsFromNoRound l (history_of ns)
begun_none ns l i x none = λ m close cpast r older e c.
    let one = send_one l (history_of ns) c.post x.post c.before x.before c.first (line_of x.noted).did c.begun
    (view x.noted.port (of x.noted.node (history_of (take i ns)))) c.acts x.acts c.of_send x.of_send in
    let begun : c.begun ≡ view x.noted.port (of x.noted.node (history_of (take i ns))) = rest_same one.send in
    let master : m ≡ x.noted.node = sym c.node ∙ (ap node_of one.post ∙ x.node) in
    let port : c.post.port ≡ x.noted.port = ap (λ (j : Line). j.port) one.post ∙ x.port in
    let there : Rounds x.noted.node x.noted.port (node_of l) c.begun (history_of ns) close cpast r older e =
    subst₂ (λ (j : ℕ) (p : Port). Rounds j p (node_of l) c.begun (history_of ns) close cpast r older e) master port
    (from_round_rounds m close cpast l (history_of ns) r older e c) in
    none (history_of ns) close cpast r older e (history_within ns i) (subst (λ (t : List Seen). Rounds x.noted.node x.noted.port (node_of l) t (history_of ns)
    close cpast r older e) begun there)

-- a FromRound takes a post of a send
from_round_takes : (m : ℕ) (close : Line) (cpast : List Line) (l : Line) (h : List Line) (r : Line) (older : List Line) (e : ℤ) →
    FromRound m close cpast l h r older e → (s : ℕ) × TakesSend l h s
from_round_takes m close cpast l h r older e c =
    let b = send_number (node_of l) c.post c.before c.first c.begun c.of_send in
    (b.number, record { post = c.post; older = c.before; first = c.first; begun = c.begun; acts = c.acts; of_send = c.of_send; at = b.at })

pub takes_none : (l : Line) (h : List Line) → ((s : ℕ) → TakesSend l h s → ⊥) → IsFromNoRound l h
takes_none l h bad = λ m close cpast r older e c. let t = from_round_takes m close cpast l h r older e c in bad t.0 t.1

-- a send's first post is one of the history's
pub takes_posted : (l : Line) (h : List Line) (s : ℕ) → TakesSend l h s → posted (dids h) ≤ s → ⊥
takes_posted l h s t few =
    let w : Within (t.at.line ∷ t.at.before) h = Within_through (t.at.line ∷ t.at.before) (t.post ∷ t.older) h t.at.within t.acts.brings.place in
    omega (arith, few, t.at.number, posted_mono (t.at.line ∷ t.at.before) h w, posted_post t.at.line t.at.before t.at.to t.at.datagram t.at.deed)

-- the first post of a send stands where the post with its number does
first_there : (ns : List HistoryLine) (l : Line) (s i : ℕ) (noted : HistoryLine) → (t : TakesSend l (history_of ns) s) → PostsAt ns s i → get_or ns i noted ≡
    noted → t.at.line ∷ t.at.before ≡ line_of noted ∷ history_of (take i ns)
first_there ns l s i noted t p is =
    let same : p.noted ≡ noted = same_noted ns i p.noted noted p.below p.noted_is is in
    let w : Within (t.at.line ∷ t.at.before) (history_of ns) = Within_through (t.at.line ∷ t.at.before) (t.post ∷ t.older) (history_of ns) t.at.within
    t.acts.brings.place in
    let place : t.at.line ∷ t.at.before ≡ line_of p.noted ∷ history_of (take i ns) =
    post_unique (history_of ns) t.at.line (line_of p.noted) t.at.before (history_of (take i ns)) t.at.to p.to t.at.datagram p.datagram w p.within t.at.deed
    (ap deed_of p.act) (t.at.number ∙ sym p.number) in
    place ∙ ap (λ (n : HistoryLine). line_of n ∷ history_of (take i ns)) same

-- the send that it begins, as its port sees it
first_seen : (ns : List HistoryLine) (l : Line) (s i : ℕ) (noted : HistoryLine) → (t : TakesSend l (history_of ns) s) → PostsAt ns s i → get_or ns i noted ≡
    noted → Here t.first ∷ t.begun ≡ Here (line_of noted).did ∷ view noted.port (of noted.node (history_of (take i ns)))
first_seen ns l s i noted t p is =
    let there : t.at.line ∷ t.at.before ≡ line_of noted ∷ history_of (take i ns) = first_there ns l s i noted t p is in
    let own : Here t.first ∷ t.begun ≡ Here t.at.line.did ∷ view t.at.line.port (of (node_of t.at.line) t.at.before) =
    subst₂ (λ (n : ℕ) (q : Port). Here t.first ∷ t.begun ≡ Here t.at.line.did ∷ view q (of n t.at.before)) (sym t.at.node) (sym t.at.port) t.at.is in
    carry (λ (j : Line) (b : List Line). Here t.first ∷ t.begun ≡ Here j.did ∷ view j.port (of (node_of j) b)) there own

pub begun_other : (ns : List HistoryLine) (l : Line) (s i : ℕ) (noted : HistoryLine) → TakesSend l (history_of ns) s → PostsAt ns s i → get_or ns i noted ≡
    noted → (IsAdjusting (deed_of noted.act) → ⊥) → IsFromNoRound l (history_of ns)
begun_other ns l s i noted t p is bad = λ m close cpast r older e c.
    let one = send_one l (history_of ns) c.post t.post c.before t.older c.first t.first c.begun t.begun c.acts t.acts c.of_send t.of_send in
    let both : Here c.first ∷ c.begun ≡ Here (line_of noted).did ∷ view noted.port (of noted.node (history_of (take i ns))) = one.send ∙
    first_seen ns l s i noted t p is in
    let first : c.first ≡ (line_of noted).did = here_same both in
    bad (record { to = Peer (peer_of (node_of l)); message = c.message; is = sym (ap (λ (d : Did). d.deed) first) ∙ c.begins; kind = c.kind })

pub begun_found : (ns : List HistoryLine) (l : Line) (s i : ℕ) (noted : HistoryLine) → TakesSend l (history_of ns) s → PostsAt ns s i → get_or ns i noted ≡
    noted → IsAdjusting (deed_of noted.act) → BegunAt ns l i
begun_found ns l s i noted t p is adjusts =
    let same : p.noted ≡ noted = same_noted ns i p.noted noted p.below p.noted_is is in
    let there : t.at.line ∷ t.at.before ≡ line_of noted ∷ history_of (take i ns) = first_there ns l s i noted t p is in
    let line : t.at.line ≡ line_of noted = first_same there in
    let seen : Here t.first ∷ t.begun ≡ Here (line_of noted).did ∷ view noted.port (of noted.node (history_of (take i ns))) =
    first_seen ns l s i noted t p is in
    let first : t.first ≡ (line_of noted).did = here_same seen in
    let b = send_number (node_of l) t.post t.older t.first t.begun t.of_send in
    let begins : deed_of noted.act ≡ Acts (Post (Peer (peer_of (node_of l))) (Message b.message)) = sym (ap (λ (d : Did). d.deed) first) ∙ b.deed in
    let deeds : Acts (Post adjusts.to (Message adjusts.message)) ≡ Acts (Post (Peer (peer_of (node_of l))) (Message b.message)) = sym adjusts.is ∙ begins in
    let message : adjusts.message ≡ b.message = message_same deeds in
    record {
      noted = noted;
      at = record {
        below = p.below;
        noted_is = is;
        within = subst (λ (n : HistoryLine). Within (line_of n ∷ history_of (take i ns)) (history_of ns)) same
            p.within;
      };
      post = t.post;
      before = t.older;
      acts = t.acts;
      node = sym t.at.node ∙ ap node_of line;
      port = sym t.at.port ∙ ap (λ (j : Line). j.port) line;
      of_send = record { message = t.of_send.message; deed = t.of_send.deed; numbered = t.of_send.numbered; is = t.of_send.is ∙ seen };
      message = b.message;
      begins = begins;
      kind = subst (λ (m : MessageValue). m.kind ≡ AdjTime) message adjusts.kind;
    }
