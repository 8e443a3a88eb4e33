-- What a line's step brings, and the send that its Correct takes a post of.
use Rattle.std.proofs.Common.{sym, ap, subst, subst₂, ◌∙◌, arith, get_or, take, ◌≡◌, ◌<◌, ◌≤◌, ◌+◌, ℕ, ℤ, pos, ◌+ℤ◌, Bool, true, false, MatchBool, MatchOption}
use Rattle.std.proofs.Common.{Option, None, List, [], ◌∷◌, length, refl, is_some, Some}
use Rattle.std.proofs.lemmas.List.{get_or_default}
use Rattle.tsp_rules.specs.Values.{Post, Correct, Datagram, Message, PeerId, Place, Peer, Follow}
use Rattle.tsp_base.specs.Words.{Acts, Came, Here, Line, Seen, dids, of, view, MessageValue, HeaderValue, lives, moved, role, Within, begun_to, is_correction}
use Rattle.tsp_base.specs.Words.{is_numbered, heard, peer_of, posted, time_in}
use Rattle.tsp_promises.specs.{Once.Brings, Once.Obeys, Once.ObeysAt, Once.SpacedAt, ClockAt.clock_at, CorrectFits.amount_of, Fits.node_of, Setting.Setting}
use Rattle.tsp_promises.proofs.{promised.OwnFitsProof.view_line, shared.SendPlaces.post_unique, shared.SendPlaces.posted_mono, shared.SendPlaces.posted_post}
use Rattle.tsp_promises.proofs.{shared.SendPlaces.same_number}
use Rattle.tsp_history.proofs.HistoryLemmas.{history_more}
use Rattle.tsp_audit.{proofs.SendPlaces.brings_one, specs.Settings.HasClocks, specs.Settings.clock_in, proofs.Alike.correct_same}
use Rattle.tsp_audit.specs.Acting.{ActsNow, BringsAt, CameAt, Corrects, IsNumbered, IsUnposted, PostsMove, PostsTo, TakesSend, deed_corrects}
use Rattle.tsp_history.specs.{Histories.deed_of, Histories.history_of, Histories.line_of, PostedPlaces.PostedAt, PostedPlaces.IsPostAt}
use Rattle.tsp_history.specs.{Posts.PostsAt, Spacing.Spaced, declared.line.HistoryLine.HistoryLine}
use Rattle.tsp_audit.proofs.Alike.{carry, first_same, follow_same, message_same}

-- one line stands at an index
pub same_noted : (ns : List HistoryLine) (i : ℕ) (a b : HistoryLine) → i < length ns → get_or ns i a ≡ a → get_or ns i b ≡ b → a ≡ b
same_noted ns i a b lt p q = sym p ∙ (get_or_default ns i a b lt ∙ q)

-- nothing comes that was never posted
pub unposted : (l : Line) (h : List Line) → IsUnposted l h → (post : Line) (older : List Line) (to : Place) (datagram : Datagram) → Within (post ∷ older) h →
    l.did.step.cause ≡ Came (posted (dids older)) → post.did.deed ≡ Acts (Post to datagram) → ⊥
unposted l h few post older to datagram w cause deed = omega (
  arith,
  few (posted (dids older)) cause,
  posted_mono (post ∷ older) h w,
  posted_post post older to datagram deed,
)

-- what comes was posted where the post with its number stands
pub came_there : (ns : List HistoryLine) (l : Line) (i : ℕ) (noted : HistoryLine) → CameAt ns l i → get_or ns i noted ≡ noted →
    (post : Line) (older : List Line) (to : Place) (datagram : Datagram) → Within (post ∷ older) (history_of ns) →
    l.did.step.cause ≡ Came (posted (dids older)) → post.did.deed ≡ Acts (Post to datagram) → post ∷ older ≡ line_of noted ∷ history_of (take i ns)
came_there ns l i noted came is post older to datagram w cause deed =
    let p = came.posts in
    let same : p.noted ≡ noted = same_noted ns i p.noted noted p.below p.noted_is is in
    let number : posted (dids older) ≡ posted (dids (history_of (take i ns))) = sym (same_number came.number (posted (dids older)) (sym came.cause ∙ cause)) ∙
    sym p.number in
    post_unique (history_of ns) post (line_of p.noted) older (history_of (take i ns)) to p.to datagram p.datagram w p.within deed (ap deed_of p.act) number ∙
    ap (λ (m : HistoryLine). line_of m ∷ history_of (take i ns)) same

pub came_within : (ns : List HistoryLine) (l : Line) (i : ℕ) → CameAt ns l i → (noted : HistoryLine) → get_or ns i noted ≡ noted →
    Within (line_of noted ∷ history_of (take i ns)) (history_of ns)
came_within ns l i came noted is =
    let p = came.posts in
    subst (λ (n : HistoryLine). Within (line_of n ∷ history_of (take i ns)) (history_of ns)) (same_noted ns i p.noted noted p.below p.noted_is is) p.within

pub came_cause : (ns : List HistoryLine) (l : Line) (i : ℕ) → CameAt ns l i → l.did.step.cause ≡ Came (posted (dids (history_of (take i ns))))
came_cause ns l i came = came.cause ∙ ap Came (sym came.posts.number)

pub brings_none : (l : Line) (h : List Line) → IsUnposted l h → (post : Line) (older : List Line) → Brings l h post older → ⊥
brings_none l h few post older b = unposted l h few post older (Peer (peer_of (node_of l))) (Message b.message) b.place b.cause b.deed

pub brings_other : (ns : List HistoryLine) (l : Line) (i : ℕ) (noted : HistoryLine) → CameAt ns l i → get_or ns i noted ≡ noted →
    (PostsTo (deed_of noted.act) (node_of l) → ⊥) → (post : Line) (older : List Line) → Brings l (history_of ns) post older → ⊥
brings_other ns l i noted came is bad post older b =
    let place : post ∷ older ≡ line_of noted ∷ history_of (take i ns) = came_there ns l i noted came is post older (Peer (peer_of (node_of l)))
    (Message b.message) b.place b.cause b.deed in
    let line : post ≡ line_of noted = first_same place in
    bad (record { message = b.message; is = subst (λ (m : Line). m.did.deed ≡ Acts (Post (Peer (peer_of (node_of l))) (Message b.message))) line b.deed })

pub brings_found : (ns : List HistoryLine) (l : Line) (i : ℕ) (noted : HistoryLine) → CameAt ns l i → get_or ns i noted ≡ noted →
    PostsTo (deed_of noted.act) (node_of l) → BringsAt ns l i
brings_found ns l i noted came is posts = record {
  below = came.posts.below;
  brings = λ other at.
      let mine : noted ≡ other = same_noted ns i noted other came.posts.below is at in
      record {
        place = came_within ns l i came other at;
        cause = came_cause ns l i came;
        message = posts.message;
        deed = subst (λ (n : HistoryLine). deed_of n.act ≡ Acts (Post (Peer (peer_of (node_of l))) (Message posts.message))) mine posts.is;
      };
}

-- a Correct that takes a numbered post of a send
pub takes_found : (ns : List HistoryLine) (l : Line) (i : ℕ) (noted : HistoryLine) (k : ℕ) (a : ℤ) (s : Bool) (y : ℤ) → BringsAt ns l i → get_or ns i noted ≡
    noted → l.did.deed ≡ Acts (Correct a s y) → is_some (heard (dids (of (node_of l) (history_of ns)))) ≡ true →
    IsNumbered (deed_of noted.act) → PostedAt noted.node noted.port (history_of (take (i + 1) ns))
    (begun_to (peer_of (node_of l)) (view noted.port (of noted.node (history_of (take (i + 1) ns))))) k → TakesSend l (history_of ns) k
takes_found ns l i noted k a s y b is correct took numbered told =
    let brings : Brings l (history_of ns) (line_of noted) (history_of (take i ns)) = b.brings noted is in
    let more : history_of (take (i + 1) ns) ≡ line_of noted ∷ history_of (take i ns) = history_more ns i noted b.below is in
    let deeds : Acts (Post numbered.to (Message numbered.message)) ≡ Acts (Post (Peer (peer_of (node_of l))) (Message brings.message)) = sym numbered.is ∙
    brings.deed in
    let message : numbered.message ≡ brings.message = message_same deeds in
    let begun : begun_to (peer_of (node_of l)) (view noted.port (of noted.node (line_of noted ∷ history_of (take i ns)))) ≡ Here told.line.did ∷
    view noted.port (of noted.node told.before) =
    subst (λ (h : List Line). begun_to (peer_of (node_of l)) (view noted.port (of noted.node h)) ≡ Here told.line.did ∷
    view noted.port (of noted.node told.before)) more told.is in
    record {
      post = line_of noted;
      older = history_of (take i ns);
      first = told.line.did;
      begun = view noted.port (of noted.node told.before);
      acts = record { amount = a; stepped = s; shown = y; correct = correct; brings = brings; took = took };
      of_send = record {
        message = brings.message;
        deed = brings.deed;
        numbered = subst (λ (m : MessageValue). is_numbered m.kind ≡ true) message numbered.numbered;
        is = ap (λ (seen : List Seen). begun_to (peer_of (node_of l)) seen) (sym (view_line noted.node (line_of noted) (history_of (take i ns)) refl)) ∙ begun;
      };
      at = record {
        line = told.line;
        before = told.before;
        within = subst (λ (h : List Line). Within (told.line ∷ told.before) h) more told.within;
        node = told.node;
        port = told.port;
        is = refl;
        to = told.to;
        datagram = told.datagram;
        deed = told.deed;
        number = told.number;
      };
    }

-- the post that a Correct takes is the one that its step brings
takes_there : (ns : List HistoryLine) (l : Line) (i : ℕ) (noted : HistoryLine) (k : ℕ) → BringsAt ns l i → get_or ns i noted ≡ noted →
    (t : TakesSend l (history_of ns) k) → t.post ∷ t.older ≡ line_of noted ∷ history_of (take i ns)
takes_there ns l i noted k b is t = brings_one l (history_of ns) t.post (line_of noted) t.older (history_of (take i ns)) t.acts.brings (b.brings noted is)

pub takes_unnumbered : (ns : List HistoryLine) (l : Line) (i : ℕ) (noted : HistoryLine) (k : ℕ) → BringsAt ns l i → get_or ns i noted ≡ noted →
    (IsNumbered (deed_of noted.act) → ⊥) → TakesSend l (history_of ns) k → ⊥
takes_unnumbered ns l i noted k b is bad t =
    let place : t.post ∷ t.older ≡ line_of noted ∷ history_of (take i ns) = takes_there ns l i noted k b is t in
    let line : t.post ≡ line_of noted = first_same place in
    bad (record {
      to = Peer (peer_of (node_of l));
      message = t.of_send.message;
      is = subst (λ (m : Line). m.did.deed ≡
          Acts (Post (Peer (peer_of (node_of l))) (Message t.of_send.message))) line t.of_send.deed;
      numbered = t.of_send.numbered;
    })

pub takes_unbegun : (ns : List HistoryLine) (l : Line) (i : ℕ) (noted : HistoryLine) (k : ℕ) → BringsAt ns l i → get_or ns i noted ≡ noted →
    begun_to (peer_of (node_of l)) (view noted.port (of noted.node (history_of (take (i + 1) ns)))) ≡ [] → TakesSend l (history_of ns) k → ⊥
takes_unbegun ns l i noted k b is none t =
    let place : t.post ∷ t.older ≡ line_of noted ∷ history_of (take i ns) = takes_there ns l i noted k b is t in
    let more : history_of (take (i + 1) ns) ≡ line_of noted ∷ history_of (take i ns) = history_more ns i noted b.below is in
    let begun = carry (λ (p : Line) (o : List Line). begun_to (peer_of (node_of l)) (Here p.did ∷ view p.port (of (node_of p) o)) ≡ Here t.first ∷ t.begun)
    place t.of_send.is in
    let empty : begun_to (peer_of (node_of l)) (view noted.port (of noted.node (line_of noted ∷ history_of (take i ns)))) ≡ [] =
    subst (λ (h : List Line). begun_to (peer_of (node_of l)) (view noted.port (of noted.node h)) ≡ []) more none in
    let both : [] ≡ Here t.first ∷ t.begun = sym empty ∙ (ap (λ (seen : List Seen). begun_to (peer_of (node_of l)) seen)
    (view_line noted.node (line_of noted) (history_of (take i ns)) refl) ∙ begun) in
    let bad : ⊥ = cc in
    bad

-- a follower's Correct obeys
pub obeys_found : (setting : Setting) (ns : List HistoryLine) (l : Line) (amount : ℤ) (master : PeerId) (i : ℕ) (noted : HistoryLine) → BringsAt ns l i →
    get_or ns i noted ≡ noted → noted.node ≡ master.0 →
    PostsMove (deed_of noted.act) amount (clock_at setting (node_of l) (history_of ns) l.did.step.at) → Obeys setting l (history_of ns) amount master
obeys_found setting ns l amount master i noted b is node moves =
    let brings : Brings l (history_of ns) (line_of noted) (history_of (take i ns)) = b.brings noted is in
    let deeds : Acts (Post moves.to (Message moves.message)) ≡ Acts (Post (Peer (peer_of (node_of l))) (Message brings.message)) = sym moves.is ∙ brings.deed in
    let message : moves.message ≡ brings.message = message_same deeds in
    record {
      post = line_of noted;
      older = history_of (take i ns);
      brings = brings;
      from = ap peer_of node;
      kind = subst (λ (m : MessageValue). is_correction m.kind ≡ true) message moves.kind;
      amount_is = subst (λ (m : MessageValue). amount ≡ amount_of m.kind (time_in m.body) (clock_at setting (node_of l) (history_of ns) l.did.step.at)) message
          moves.amount_is;
    }

pub obeys_not : (setting : Setting) (ns : List HistoryLine) (l : Line) (amount : ℤ) (master : PeerId) (i : ℕ) (noted : HistoryLine) → BringsAt ns l i →
    get_or ns i noted ≡ noted →
    (noted.node ≡ master.0 → PostsMove (deed_of noted.act) amount (clock_at setting (node_of l) (history_of ns) l.did.step.at) → ⊥) →
    Obeys setting l (history_of ns) amount master → ⊥
obeys_not setting ns l amount master i noted b is bad o =
    let place : o.post ∷ o.older ≡ line_of noted ∷ history_of (take i ns) = brings_one l (history_of ns) o.post (line_of noted) o.older (history_of (take i ns))
    o.brings (b.brings noted is) in
    let line : o.post ≡ line_of noted = first_same place in
    bad (ap (λ (p : PeerId). p.0) (ap (λ (m : Line). peer_of (node_of m)) (sym line) ∙ o.from))
    (record {
      to = Peer (peer_of (node_of l));
      message = o.brings.message;
      is = subst (λ (m : Line). m.did.deed ≡ Acts (Post (Peer (peer_of (node_of l))) (Message o.brings.message))) line o.brings.deed;
      kind = o.kind;
      amount_is = o.amount_is;
    })

-- the clock by a header is that by its setting
pub clock_set : (header : HeaderValue) (setting : Setting) (n : ℕ) (h : List Line) (at : ℕ) → HasClocks header setting → clock_in header n h at ≡
    clock_at setting n h at
clock_set header setting n h at has =
    subst₂ (λ (w : ℤ) (x : ℕ). clock_in header n h at ≡ (w +ℤ moved (dids (of n h))) +ℤ pos x) (sym (has.wall_is n (lives (dids (of n h)))))
    (sym (has.tick_is n at)) refl

pub obeys_decides : (header : HeaderValue) (setting : Setting) (ns : List HistoryLine) (l : Line) (amount : ℤ) (master : PeerId) (i : ℕ) (noted : HistoryLine)
    (b : Bool) (t : ℤ) → HasClocks header setting → BringsAt ns l i → get_or ns i noted ≡ noted → noted.node ≡ master.0 →
    t ≡ clock_in header (node_of l) (history_of ns) l.did.step.at → MatchBool b (PostsMove (deed_of noted.act) amount t)
    (PostsMove (deed_of noted.act) amount t → ⊥) →
    MatchBool b (Obeys setting l (history_of ns) amount master) (Obeys setting l (history_of ns) amount master → ⊥)
obeys_decides header setting ns l amount master i noted b t has brings is node clock m = by_case b m where
  same : t ≡ clock_at setting (node_of l) (history_of ns) l.did.step.at
  same = clock ∙ clock_set header setting (node_of l) (history_of ns) l.did.step.at has

  by_case : (b : Bool) → MatchBool b (PostsMove (deed_of noted.act) amount t) (PostsMove (deed_of noted.act) amount t → ⊥) →
      MatchBool b (Obeys setting l (history_of ns) amount master) (Obeys setting l (history_of ns) amount master → ⊥)
  by_case true good = obeys_found setting ns l amount master i noted brings is node (subst (λ (z : ℤ). PostsMove (deed_of noted.act) amount z) same good)
  by_case false bad = obeys_not setting ns l amount master i noted brings is (λ e moves. bad (subst (λ (z : ℤ). PostsMove (deed_of noted.act) amount z)
      (sym same) moves))

pub obeys_line : (setting : Setting) (l : Line) (h : List Line) (amount : ℤ) (s : Bool) (y : ℤ) (master : PeerId) (b : Bool) → l.did.deed ≡
    Acts (Correct amount s y) → role (view l.port (of (node_of l) h)) ≡ Follow master →
    MatchBool b (Obeys setting l h amount master) (Obeys setting l h amount master → ⊥) → MatchBool b (ObeysAt setting l h) (ObeysAt setting l h → ⊥)
obeys_line setting l h amount s y master true deed follows good = λ q a t z d r.
    let deeds : Acts (Correct amount s y) ≡ Acts (Correct a t z) = sym deed ∙ d in
    let same : amount ≡ a = correct_same deeds in
    let roles : Follow master ≡ Follow q = sym follows ∙ r in
    let who : master ≡ q = follow_same roles in
    subst₂ (λ (z : ℤ) (p : PeerId). Obeys setting l h z p) same who good
obeys_line setting l h amount s y master false deed follows bad = λ f. bad (f master amount s y deed follows)

pub spaced_decides : (b : Bool) (l : Line) (h : List Line) (a : ℤ) (s : Bool) (y : ℤ) → l.did.deed ≡ Acts (Correct a s y) →
    MatchBool b (Spaced (node_of l) l.did.tick h) (Spaced (node_of l) l.did.tick h → ⊥) →
    MatchBool b (SpacedAt l h) (SpacedAt l h → ⊥)
spaced_decides true l h a s y deed good = λ other older c d t u x z here w n there lived. good other older d u z w n there lived
spaced_decides false l h a s y deed bad = λ f. bad (λ other older d u z w n there lived. f other older a d s u y z deed w n there lived)

pub takes_decide : (ns : List HistoryLine) (l : Line) (i : ℕ) (noted : HistoryLine) (r : Option ℕ) → BringsAt ns l i → get_or ns i noted ≡ noted →
    ActsNow l (history_of ns) → IsNumbered (deed_of noted.act) →
    IsPostAt noted.node noted.port (history_of (take (i + 1) ns)) (begun_to (peer_of (node_of l))
    (view noted.port (of noted.node (history_of (take (i + 1) ns))))) r →
    MatchOption r ((s : ℕ) → TakesSend l (history_of ns) s → ⊥) (λ s. TakesSend l (history_of ns) s)
takes_decide ns l i noted None b is acts numbered none = λ s t. takes_unbegun ns l i noted s b is none t
takes_decide ns l i noted (Some k) b is acts numbered told = takes_found ns l i noted k acts.amount acts.stepped acts.shown b is acts.correct acts.took numbered
    told

-- what was never posted is no correction, nor anything else
pub corrects_none : (h : List Line) (k : ℕ) → posted (dids h) ≤ k → Corrects h k false
corrects_none h k few = λ post older p m w d n. absurd (omega (arith, few, n, posted_mono (post ∷ older) h w, posted_post post older (Peer p) (Message m) d))

pub corrects_at : (ns : List HistoryLine) (k i : ℕ) (noted : HistoryLine) (b : Bool) → PostsAt ns k i → get_or ns i noted ≡ noted → b ≡
    deed_corrects (deed_of noted.act) → Corrects (history_of ns) k b
corrects_at ns k i noted b at is corrects = λ post older p m w d n.
    let same : at.noted ≡ noted = same_noted ns i at.noted noted at.below at.noted_is is in
    let place : post ∷ older ≡ line_of at.noted ∷ history_of (take i ns) =
    post_unique (history_of ns) post (line_of at.noted) older (history_of (take i ns)) (Peer p) at.to (Message m) at.datagram w at.within d (ap deed_of at.act)
    (n ∙ sym at.number) in
    let line : post ≡ line_of at.noted = first_same place in
    let deed : deed_of noted.act ≡ Acts (Post (Peer p) (Message m)) = sym (ap (λ (l : Line). l.did.deed) (line ∙ ap line_of same)) ∙ d in
    sym (corrects ∙ ap deed_corrects deed)
