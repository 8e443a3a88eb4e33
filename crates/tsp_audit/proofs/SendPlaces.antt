-- Sends by the numbers of the datagrams with which they begin.
use Rattle.std.proofs.Common.{sym, ap, subst, subst₂, ◌∙◌, ◌≡◌, ℕ, List, ◌∷◌, refl}
use Rattle.tsp_rules.specs.Values.{Post, Message, PeerId, Peer, Port}
use Rattle.tsp_base.specs.Words.{Acts, Did, Here, Line, Seen, dids, of, view, MessageValue, Within, begun_to, peer_of, posted}
use Rattle.tsp_promises.proofs.{shared.SendPlaces.post_unique, shared.SendPlaces.same_number, shared.SendPlaces.not_shared, shared.HistoryPlaces.line_on}
use Rattle.tsp_promises.proofs.{promised.OwnFitsProof.locate, promised.OwnFitsProof.view_line, promised.OwnFitsProof.seen_same, promised.SendProof.begun_at}
use Rattle.tsp_promises.specs.{Once.Brings, Once.OfSend, Fits.node_of}
use Rattle.tsp_base.proofs.PlaceLemmas.{Within_through}
use Rattle.tsp_audit.{proofs.Alike.carry, proofs.Alike.first_same, proofs.Alike.here_same, proofs.Alike.rest_same, specs.Acting.TakesSend}
use Rattle.tsp_history.specs.PostedPlaces.{PostedAt}

-- the place where the last send to p began, and the message that begins it
pub record Begun (n : ℕ) (q : Port) (p : PeerId) (h : List Line) (first : Did) (older : List Seen) : Type 0 where
  pub number : ℕ
  pub at : PostedAt n q h (Here first ∷ older) number
  pub message : MessageValue
  pub deed : first.deed ≡ Acts (Post (Peer p) (Message message))

pub begun_told : (n : ℕ) (q : Port) (p : PeerId) (h : List Line) (first : Did) (older : List Seen) → begun_to p (view q (of n h)) ≡ Here first ∷ older →
    Begun n q p h first older
begun_told n q p h first older e =
    let o = begun_at p (view q (of n h)) first older e in
    let l = locate n q h first older (not_shared first (Peer p) (Message o.message) o.begins.deed) o.place in
    record {
      number = posted (dids l.older);
      at = record {
        line = line_on q first;
        before = l.older;
        within = l.place;
        node = l.node;
        port = refl;
        is = ap (λ s. Here first ∷ s) (sym l.before);
        to = Peer p;
        datagram = Message o.message;
        deed = o.begins.deed;
        number = refl;
      };
      message = o.message;
      deed = o.begins.deed;
    }

-- one number is one place
pub one_place : (world : List Line) (n m : ℕ) (q r : Port) (h k : List Line) (seen sight : List Seen) (s : ℕ) → Within h world → Within k world →
    PostedAt n q h seen s → PostedAt m r k sight s → seen ≡ sight
one_place world n m q r h k seen sight s v w a b =
    let e : a.line ∷ a.before ≡ b.line ∷ b.before = post_unique world a.line b.line a.before b.before a.to b.to a.datagram b.datagram (Within_through (a.line ∷
    a.before) h world a.within v) (Within_through (b.line ∷ b.before) k world b.within w) a.deed b.deed (a.number ∙ sym b.number) in
    let line : a.line ≡ b.line = first_same e in
    let rest : a.before ≡ b.before = rest_same e in
    let node : n ≡ m = sym a.node ∙ (ap node_of line ∙ b.node) in
    let port : q ≡ r = sym a.port ∙ (ap (λ (l : Line). l.port) line ∙ b.port) in
    let did : a.line.did ≡ b.line.did = ap (λ (l : Line). l.did) line in
    let view_is : view q (of n a.before) ≡ view r (of m b.before) = subst₂ (λ (i : ℕ) (p : Port). view q (of n a.before) ≡ view p (of i b.before)) node port
    (ap (λ (t : List Line). view q (of n t)) rest) in
    let same : Here a.line.did ∷ view q (of n a.before) ≡ Here b.line.did ∷ view r (of m b.before) = subst₂ (λ (d : Did) (s : List Seen). Here a.line.did ∷
    view q (of n a.before) ≡ Here d ∷ s) did view_is refl in
    a.is ∙ (same ∙ sym b.is)

on_port : (l : Line) (q : Port) → l.port ≡ q → l ≡ line_on q l.did
on_port l q e = subst (λ (p : Port). l ≡ line_on p l.did) e refl

-- one place has one number
pub one_number : (world : List Line) (n m : ℕ) (q r : Port) (h k : List Line) (seen sight : List Seen) (s t : ℕ) → Within h world → Within k world →
    PostedAt n q h seen s → PostedAt m r k sight t → seen ≡ sight → s ≡ t
one_number world n m q r h k seen sight s t v w a b e =
    let same : Here a.line.did ∷ view q (of n a.before) ≡ Here b.line.did ∷ view r (of m b.before) = sym a.is ∙ (e ∙ b.is) in
    let did : a.line.did ≡ b.line.did = here_same same in
    let node : n ≡ m = sym a.node ∙ (ap (λ (d : Did). d.step.node) did ∙ b.node) in
    let there : Within (line_on q a.line.did ∷ a.before) world = subst (λ (l : Line). Within (l ∷ a.before) world) (on_port a.line q a.port)
    (Within_through (a.line ∷ a.before) h world a.within v) in
    let here : Within (line_on r b.line.did ∷ b.before) world = subst (λ (l : Line). Within (l ∷ b.before) world) (on_port b.line r b.port)
    (Within_through (b.line ∷ b.before) k world b.within w) in
    let places : line_on q a.line.did ∷ a.before ≡ line_on r b.line.did ∷ b.before =
    seen_same m q r a.line.did b.line.did a.before b.before world (a.node ∙ node) b.node there here (subst (λ (i : ℕ). Here a.line.did ∷
    view q (of i a.before) ≡ Here b.line.did ∷ view r (of m b.before)) node same) in
    let rest : a.before ≡ b.before = rest_same places in
    sym a.number ∙ (ap (λ (b : List Line). posted (dids b)) rest ∙ b.number)

-- a send has a number
pub send_number : (k : ℕ) (post : Line) (older : List Line) (first : Did) (begun : List Seen) → OfSend k post older first begun →
    Begun (node_of post) post.port (peer_of k) (post ∷ older) first begun
send_number k post older first begun sends =
    begun_told (node_of post) post.port (peer_of k) (post ∷ older) first begun (subst (λ (s : List Seen). begun_to (peer_of k) s ≡ Here first ∷
    begun) (sym (view_line (node_of post) post older refl)) sends.is)

-- the step of a line brings one message
pub brings_one : (l : Line) (h : List Line) (post other : Line) (older rest : List Line) → Brings l h post older → Brings l h other rest → post ∷ older ≡
    other ∷ rest
brings_one l h post other older rest a b =
    post_unique h post other older rest (Peer (peer_of (node_of l))) (Peer (peer_of (node_of l))) (Message a.message) (Message b.message) a.place b.place a.deed
    b.deed (same_number (posted (dids older)) (posted (dids rest)) (sym a.cause ∙ b.cause))

-- so a line takes posts of one send
pub takes_one : (l : Line) (h : List Line) (s t : ℕ) → TakesSend l h s → TakesSend l h t → s ≡ t
takes_one l h s t a b =
    let e : a.post ∷ a.older ≡ b.post ∷ b.older = brings_one l h a.post b.post a.older b.older a.acts.brings b.acts.brings in
    let seen = carry (λ (p : Line) (o : List Line). begun_to (peer_of (node_of l)) (Here a.post.did ∷ view a.post.port (of (node_of a.post) a.older)) ≡
    begun_to (peer_of (node_of l)) (Here p.did ∷ view p.port (of (node_of p) o))) e refl in
    one_number h (node_of a.post) (node_of b.post) a.post.port b.post.port (a.post ∷ a.older) (b.post ∷ b.older) (Here a.first ∷ a.begun) (Here b.first ∷
    b.begun) s t a.acts.brings.place b.acts.brings.place a.at b.at (sym a.of_send.is ∙ (seen ∙ b.of_send.is))
