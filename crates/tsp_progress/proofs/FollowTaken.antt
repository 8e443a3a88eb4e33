-- What a step took that nobody handed from outside was posted.
use Rattle.std.proofs.Common.{sym, ap, subst, ◌∙◌, ◌≡◌, ◌≢◌, List, [], ◌∷◌, Some, refl}
use Rattle.tsp_rules.specs.Values.{Act, Post, Datagram, Good, Peer, Place, Taken}
use Rattle.tsp_base.specs.Words.{Acts, Came, Cause, Handed, Line, Received, Step, Within, dids, of, peer_of, posted, taken, view}
use Rattle.tsp_base.proofs.PlaceLemmas.{Within_tail, Within_through}
use Rattle.tsp_promises.specs.{Fits.Fits, Fits.SameStep, Fits.TookFits, Fits.node_of, Setting.Setting}
use Rattle.tsp_promises.proofs.{shared.HistoryPlaces.lift, promised.KnownProof.in_step_holds, promised.KnownProof.own_in_step, promised.KnownProof.step_at}
use Rattle.tsp_promises.proofs.{promised.KnownProof.took_split}
use Rattle.tsp_promises.proofs.promised.OwnFitsProof.{fits_in, own_fits}

pub record PostTaken (setting : Setting) (l : Line) (world : List Line) (from : Place) (taken : Taken) : Type 0 where
  pub post : Line
  pub older : List Line
  pub place : Within (post ∷ older) world
  pub takes : l.did.step.cause ≡ Came (posted (dids older))
  pub datagram : Datagram
  pub deed : post.did.deed ≡ Acts (Post (Peer (peer_of (node_of l))) datagram)
  pub from_is : from ≡ Peer (peer_of (node_of post))
  pub taken_is : taken ≡ Good datagram
  pub net : setting.net (node_of post) post.port ≡ setting.net (node_of l) l.port

none_taken : (r : Received) → taken [] ≡ Some r → ⊥
none_taken r e = cc

by_cause : (setting : Setting) (l : Line) (world : List Line) (r : Received) (x : Line) (older : List Line) (cause : Cause) → cause ≢ Handed →
    x.did.step ≡ l.did.step → cause ≡ l.did.step.cause → x.port ≡ l.port → Within (x ∷ older) world → TookFits cause setting x older r.from r.taken →
    PostTaken setting l world r.from r.taken
by_cause setting l world r x older Handed inside step is port w f = absurd (inside refl)
by_cause setting l world r x older (Came k) inside step is port w f =
    let node : node_of x ≡ node_of l = ap (λ (s : Step). s.node) step in
    record {
      post = f.post;
      older = f.older;
      place = Within_through (f.post ∷ f.older) older world f.place (Within_tail x older world w);
      takes = sym is ∙ ap Came (sym f.number);
      datagram = f.datagram;
      deed = subst (λ n. f.post.did.deed ≡ Acts (Post (Peer (peer_of n)) f.datagram)) node f.deed;
      from_is = f.from_is;
      taken_is = f.taken_is;
      net = subst (λ n. setting.net (node_of f.post) f.post.port ≡ setting.net n l.port) node
          (subst (λ q. setting.net (node_of f.post) f.post.port ≡ setting.net (node_of x) q) port f.net);
    }
by_cause setting l world r x older _ inside step is port w f = absurd f

pub taken_post : (setting : Setting) (l : Line) (world : List Line) (a : Act) (r : Received) → Fits setting (l ∷ world) → l.did.deed ≡ Acts a →
    l.did.step.cause ≢ Handed → taken (view l.port (of (node_of l) world)) ≡ Some r → PostTaken setting l world r.from r.taken
taken_post setting l world a r f act inside e =
    let n = node_of l in
    let own = of n world in
    let t = step_at setting _ (λ t. taken (view l.port t) ≡ Some r) own (own_fits setting n world f.1) (λ e. none_taken r e) (took_split l.port r) e in
    let x = lift n world t.line t.rest t.place in
    let same : SameStep (Acts a) l.did.step (dids world) = subst (λ k. SameStep k l.did.step (dids world)) act f.0.step in
    let step : t.line.did.step ≡ l.did.step = t.step l.did.step (own_in_step n l.did.step world refl (in_step_holds a l.did.step world same)) in
    let cause : t.line.did.step.cause ≡ l.did.step.cause = ap (λ (s : Step). s.cause) step in
    let fits = fits_in setting t.line x.world world f.1 x.place in
    by_cause setting l world r t.line x.world t.line.did.step.cause (λ h. inside (sym cause ∙ h)) step cause t.is.0 x.place
    (fits.took r.from r.taken t.is.1)
