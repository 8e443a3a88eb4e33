-- LOOPs come along chains, in one name.
use Rattle.std.proofs.Common.{sym, ap, subst, subst₂, inl, inr, ◌∙◌, ◌≡◌, List, [], ◌∷◌, Some, refl, arith, ◌≢◌, ℕ, ◌+◌, ◌<◌, ◌≤◌, length, is_some}
use Rattle.tsp_rules.specs.Values.{Post, Good, PeerId, Peer, Become, Message, LoopKind, Hops, Place, Stranger, Loose, HOPS}
use Rattle.tsp_base.specs.Words.{Acts, Line, of, dids, Within, Received, heard, peer_of, view, MessageValue}
use Rattle.tsp_base.proofs.{PlaceLemmas.Within_through, PlaceLemmas.Within_tail, PlaceLemmas.Within_none, Views.plain_view}
use Rattle.tsp_promises.proofs.shared.EverywhereLemmas.{Everywhere_at, Everywhere_from, Everywhere_within}
use Rattle.tsp_promises.proofs.promised.KnownProof.{heard_taken, known, step_at, took_deed, took_post}
use Rattle.tsp_promises.specs.Looped.{ChainAt, GivesUpAt, HopsAt, IsLoopChain, Looped, LoopPost, SentBy}
use Rattle.tsp_promises.specs.{Fits.Fits, Fits.node_of, Fits.LineFits, Setting.Setting, Setting.setup_of}
use Rattle.tsp_promises.specs.{DeedFits.MessageFits, DeedFits.StrangerFits, Premises.Honest, Premises.HonestAt, Premises.NamesApartAt}
use Rattle.tsp_promises.{proofs.promised.OwnFitsProof.fits_in, specs.HoldFits.YieldFits, specs.LoopFits.LoopFits}
use Rattle.tsp_promises.proofs.promised.OwnFitsProof.{own_fits, fits_at, deed_fits}

-- whose name a chain of posts carries, and under which number: those of the first one; all others are by nodes of other names
abbrev Named : Setting → List ℕ → ℕ → List LoopPost → Type 0
Named setting name number [] = ⊥
Named setting name number (first ∷ []) = (setting.name (node_of first.post) ≡ name) × (first.post.port.0 ≡ number)
Named setting name number (late ∷ early ∷ rest) = (setting.name (node_of late.post) ≢ name) × Named setting name number (early ∷ rest)

-- a post's chain
record Traced (setting : Setting) (x : LoopPost) : Type 0 where
  pub rest : List LoopPost
  pub chain : IsLoopChain (x ∷ rest)
  pub named : Named setting x.message.name x.message.number (x ∷ rest)

none_heard : (r : Received) → heard [] ≡ Some r → ⊥
none_heard r e = cc

same_hops : (a b : ℕ) → Hops a ≡ Hops b → a ≡ b
same_hops a b e = cc

-- what the post of a LOOP owes
loop_fits : (setting : Setting) (l : Line) (world : List Line) (to : PeerId) (m : MessageValue) → LineFits setting l world → l.did.deed ≡
    Acts (Post (Peer to) (Message m)) → m.kind ≡ LoopKind → LoopFits (setup_of setting (node_of l) l.port) (view l.port (of (node_of l) world)) m
loop_fits setting l world to m f deed kind =
    subst (λ k. MessageFits (setup_of setting (node_of l) l.port) k l.did (view l.port (of (node_of l) world)) to m) kind
    (deed_fits setting l world (Acts (Post (Peer to) (Message m))) deed f).fits

-- it sets out here, or is passed on
traced_by : (setting : Setting) (x : LoopPost) → Fits setting (x.post ∷ x.older) → Honest (x.post ∷ x.older) →
    ((y : LoopPost) → Within (y.post ∷ y.older) x.older → Traced setting y) →
    LoopFits (setup_of setting (node_of x.post) x.post.port) (view x.post.port (of (node_of x.post) x.older)) x.message → Traced setting x
traced_by setting x f honest trace (inl s) = record { rest = []; chain = same_hops x.hops HOPS (sym x.hops_is ∙ s.hops); named = (sym s.name, sym s.number) }
traced_by setting x f honest trace (inr p) =
    let n = node_of x.post in
    let r : Received = record { from = Peer p.from; taken = Good (Message p.message) } in
    let took : heard (dids (of n x.older)) ≡ Some r = ap heard (sym (plain_view x.post.port (of n x.older))) ∙ p.took in
    let at = step_at setting _ (λ t. heard (dids t) ≡ Some r) (of n x.older) (own_fits setting n x.older f.1) (λ e. none_heard r e)
    (λ l t e. took_deed r l.did.deed (heard (dids t)) e) took in
    let k = took_post setting x.post x.older (Post (Peer x.to) (Message x.message)) p.from (Message p.message) _ f honest x.deed at at.is in
    let y : LoopPost = record {
      post = k.post;
      older = k.older;
      to = peer_of n;
      message = p.message;
      deed = k.deed;
      kind = p.kind;
      hops = p.left + 1;
      hops_is = p.came;
    } in
    let t = trace y k.place in
    let left : x.hops ≡ p.left = same_hops x.hops p.left (sym x.hops_is ∙ p.goes) in
    record {
      rest = y ∷ t.rest;
      chain = (
        record { brings = record { place = k.place; cause = k.takes; message = p.message; deed = k.deed }; took = ap (λ o. is_some o) took },
        (ap (λ h. h + 1) (sym left), t.chain),
      );
      named = ((λ e. p.other (p.name ∙ sym e)), subst₂ (λ name number. Named setting name number (y ∷ t.rest)) p.name p.number t.named);
    }

traced : (setting : Setting) (t : List Line) → Fits setting t → Honest t → (x : LoopPost) → Within (x.post ∷ x.older) t → Traced setting x
traced setting [] f h x w = Within_none x.post x.older w
traced setting (l ∷ t) f h x (inr w) = traced setting t f.1 h.1 x w
traced setting (l ∷ t) f h x (inl e) =
    let older : t ≡ x.older = cc in
    traced_by setting x (subst (λ z. Fits setting z) (sym e) f) (subst (λ z. Honest z) (sym e) h)
    (λ y w. traced setting t f.1 h.1 y (subst (λ z. Within (y.post ∷ y.older) z) (sym older) w))
    (loop_fits setting x.post x.older x.to x.message (subst (λ z. Fits setting z) (sym e) f).0 x.deed x.kind)

-- a chain is as long as its hops say
chain_length : (x : LoopPost) (rest : List LoopPost) → IsLoopChain (x ∷ rest) → length (x ∷ rest) + x.hops ≡ HOPS + 1
chain_length x [] c = omega (arith, c)
chain_length x (y ∷ rest) c = omega (arith, c.1.0, chain_length y rest c.1.1)

-- a LOOP has few hops, to whomever it is posted
hops_by : (setting : Setting) (l : Line) (world : List Line) (to : Place) (m : MessageValue) → LineFits setting l world → l.did.deed ≡
    Acts (Post to (Message m)) → m.kind ≡ LoopKind → (hops : ℕ) × ((m.body ≡ Hops hops) × (hops ≤ HOPS))
hops_by setting l world Stranger m f deed kind =
    absurd (subst (λ k. StrangerFits k l.did (view l.port (of (node_of l) world)) m.number) kind (deed_fits setting l world (Acts (Post Stranger (Message m)))
    deed f).fits.0)
hops_by setting l world (Peer p) m f deed kind = of_fits (loop_fits setting l world p m f deed kind) where
  of_fits : LoopFits (setup_of setting (node_of l) l.port) (view l.port (of (node_of l) world)) m → (hops : ℕ) × ((m.body ≡ Hops hops) × (hops ≤ HOPS))
  of_fits (inl s) = (HOPS, (s.hops, omega arith))
  of_fits (inr p) = (p.left, (p.goes, omega (arith, p.few)))

-- its post ends a chain
chain_by : (setting : Setting) (l : Line) (world : List Line) → Fits setting (l ∷ world) → Honest (l ∷ world) → ChainAt l world
chain_by setting l world f honest Stranger m deed kind =
    absurd (subst (λ k. StrangerFits k l.did (view l.port (of (node_of l) world)) m.number) kind (deed_fits setting l world (Acts (Post Stranger (Message m)))
    deed f.0).fits.0)
chain_by setting l world f honest (Peer p) m deed kind =
    let h = hops_by setting l world (Peer p) m f.0 deed kind in
    let x : LoopPost = record { post = l; older = world; to = p; message = m; deed = deed; kind = kind; hops = h.0; hops_is = h.1.0 } in
    let t = traced setting (l ∷ world) f honest x (inl refl) in
    record { last = x; rest = t.rest; post_is = refl; older_is = refl; chain = t.chain; few = omega (arith, chain_length x t.rest t.chain) }

-- the last post of these stands in the history
abbrev Inside : List LoopPost → List Line → Type 0
Inside [] world = Unit {0}
Inside (x ∷ rest) world = Within (x.post ∷ x.older) world

-- a chain in the name of node n was begun by it, and passed on by others
sent_by : (setting : Setting) (l : Line) (world : List Line) (number : ℕ) → NamesApartAt setting l world → number < l.port.0 → (chain : List LoopPost) →
    IsLoopChain chain → Named setting (setting.name (node_of l)) number chain → Inside chain world → SentBy (node_of l) l.port chain
sent_by setting l world number apart below [] c named inside = c
sent_by setting l world number apart below (first ∷ []) c named inside = (apart first.post first.older inside named.0, omega (arith, named.1))
sent_by setting l world number apart below (late ∷ early ∷ rest) c named inside = (
  (λ e. named.0 (ap setting.name e)),
  sent_by setting l world number apart below (early ∷ rest) c.1.1 named.1 (Within_through (early.post ∷
      early.older) late.older world c.0.brings.place (Within_tail late.post late.older world inside)),
)

gives_up_holds : (setting : Setting) (l : Line) (world : List Line) → Fits setting (l ∷ world) → Honest (l ∷ world) → NamesApartAt setting l world →
    GivesUpAt l world
gives_up_holds setting l world f honest apart deed leads =
    let y : YieldFits (setup_of setting (node_of l) l.port) (view l.port (of (node_of l) world)) =
    deed_fits setting l world (Acts (Become Loose)) deed f.0 leads in
    let k = known setting l world (Become Loose) y.from (Message y.message) f honest deed y.took in
    let fk = fits_in setting k.post k.older world f.1 k.place in
    let h = hops_by setting k.post k.older (Peer (peer_of (node_of l))) y.message fk k.deed y.kind in
    let x : LoopPost = record {
      post = k.post;
      older = k.older;
      to = peer_of (node_of l);
      message = y.message;
      deed = k.deed;
      kind = y.kind;
      hops = h.0;
      hops_is = h.1.0;
    } in
    let t = traced setting world f.1 honest.1 x k.place in
    record {
      last = x;
      rest = t.rest;
      takes = record {
        brings = record { place = k.place; cause = k.takes; message = y.message; deed = k.deed };
        took = ap (λ o. is_some o) (heard_taken setting l.port _ (of (node_of l) world) (own_fits setting (node_of l) world f.1) y.took);
      };
      chain = t.chain;
      sent = sent_by setting l world y.message.number apart y.number (x ∷ t.rest) t.chain (subst (λ name. Named setting name y.message.number (x ∷ t.rest))
          y.name t.named) k.place;
    }

pub looped_in : (setting : Setting) (world : List Line) → Fits setting world → Looped setting world
looped_in setting world f = record {
  hops = Everywhere_from HopsAt world (λ l s w. λ to m deed kind. hops_by setting l s to m (fits_in setting l s world f w) deed kind);
  chains = λ honest. Everywhere_from ChainAt world (λ l s w. chain_by setting l s (fits_at setting (l ∷ s) world f w) (Everywhere_within HonestAt (l ∷
      s) world honest w));
  gives_up = λ honest apart. Everywhere_from GivesUpAt world (λ l s w. gives_up_holds setting l s (fits_at setting (l ∷ s) world f w)
      (Everywhere_within HonestAt (l ∷
      s) world honest w) (Everywhere_at (NamesApartAt setting) l s world apart w));
}
