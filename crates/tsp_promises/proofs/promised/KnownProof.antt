-- What a step took from a peer is what that peer posted, and what a port's step has taken is what the node's has.
use Rattle.std.proofs.Common.{sym, true≢false, ◌∙◌, ◌≡◌, ◌==◌, ◌||◌, ◌⊎◌, Bool, true, false, List, [], ◌∷◌, Option, None, Some, refl, ap, subst, subst₂, inl}
use Rattle.std.proofs.Common.{inr, ℕ}
use Rattle.std.proofs.Math.Bool.{or-true}
use Rattle.tsp_rules.specs.Values.{Took, Port, Act, Post, Datagram, Taken, Good, PeerId, Place, Peer}
use Rattle.tsp_base.specs.Words.{Begins, Acts, Deed, Line, dids, view, seen_as, is_shared, Received, taken, taken_after, heard, Cause, Came, Handed, Step, Seen}
use Rattle.tsp_base.specs.Words.{Here}
use Rattle.tsp_base.specs.Words.{Elsewhere, of, Within, Receives, peer_of, posted}
use Rattle.tsp_base.proofs.{PlaceLemmas.Within_through, PlaceLemmas.Within_tail, ViewPlaces.port_same, ViewPlaces.or-false, Views.plain_view}
use Rattle.tsp_promises.specs.{Fits.Fits, Fits.SameStep, Fits.TookFits, Fits.node_of, OwnFits.OwnFits, OwnFits.OwnLineFits, Premises.Honest, Premises.HonestAt}
use Rattle.tsp_promises.{proofs.promised.OwnFitsProof.own_deed, proofs.promised.OwnFitsProof.own_fits, proofs.promised.OwnFitsProof.fits_in}
use Rattle.tsp_promises.{specs.Setting.Setting}
use Rattle.tsp_promises.proofs.{shared.EverywhereLemmas.Everywhere_at, shared.HistoryPlaces.lift, shared.HistoryPlaces.of_own, shared.HistoryPlaces.line_on}

-- the deeds' newest line is of this step
abbrev pub InStep : List Line → Step → Type 0
InStep [] step = ⊥
InStep (l ∷ before) step = l.did.step ≡ step

-- of an act, the line before is of its step
pub in_step_holds : (a : Act) (s : Step) (t : List Line) → SameStep (Acts a) s (dids t) → InStep t s
in_step_holds a s [] e = e
in_step_holds a s (x ∷ t) e = e

-- and so is the line before of its node
pub own_in_step : (n : ℕ) (s : Step) (world : List Line) → s.node ≡ n → InStep world s → InStep (of n world) s
own_in_step n s [] same e = absurd e
own_in_step n s (x ∷ world) same e = rw (of_own n x world (ap (λ (k : Step). k.node) e ∙ same)) e

pub line_is : (l : Line) (q : Port) → l.port ≡ q → line_on q l.did ≡ l
line_is l q e = subst (λ p. line_on p l.did ≡ l) e refl

-- where a line of this step stands of which P holds
pub record StepAt (P : Line → Type 0) (t : List Line) : Type 0 where
  pub line : Line
  pub rest : List Line
  pub place : Within (line ∷ rest) t
  pub is : P line
  pub step : (s : Step) → InStep t s → line.did.step ≡ s

-- a deed that goes on with a step
abbrev pub GoesOn : Deed → Type 0
GoesOn deed = (a : Act) × (deed ≡ Acts a)

-- what P makes true, or was true before and the step goes on
pub step_at : (setting : Setting) (P : Line → Type 0) (Q : List Line → Type 0) (t : List Line) → OwnFits setting t → (Q [] → ⊥) →
    ((l : Line) (t : List Line) → Q (l ∷ t) → P l ⊎ (GoesOn l.did.deed × Q t)) → Q t → StepAt P t
step_at setting P Q [] f none split h = absurd (none h)
step_at setting P Q (l ∷ t) f none split h = elim (split l t h) [
  | inl here ↦ record { line = l; rest = t; place = inl refl; is = here; step = λ s i. i }
  | inr m ↦
      let o = step_at setting P Q t f.1 none split m.1 in
      let same = subst (λ k. SameStep k l.did.step (dids t)) m.0.1 f.0.step in
      record { line = o.line; rest = o.rest; place = inr o.place; is = o.is; step = λ s i. o.step l.did.step (in_step_holds m.0.0 l.did.step t same) ∙ i }
]

-- what a port sees is made true by a line of its own, or was true before and the step goes on
pub port_split : (q : Port) (mark : Act) (Q : List Seen → Type 0) (l : Line) (t : List Line) → is_shared (Acts mark) ≡ false →
    (Q (Here l.did ∷ view q t) → (l.did.deed ≡ Acts mark) ⊎ (GoesOn l.did.deed × Q (view q t))) → (Q (Elsewhere l.did ∷ view q t) → Q (view q t)) →
    Q (view q (l ∷ t)) →
    ((l.port ≡ q) × (l.did.deed ≡ Acts mark)) ⊎ (GoesOn l.did.deed × Q (view q t))
port_split q mark Q l t own here there = by_port ((l.port.0 == q.0) || is_shared l.did.deed) refl where
  unshared : (deed : Deed) → ((l.port.0 == q.0) || is_shared deed) ≡ false → GoesOn deed
  unshared Begins e = absurd (true≢false (sym (or-true (l.port.0 == q.0)) ∙ e))
  unshared (Acts a) e = (a, refl)

  by_port : (b : Bool) → ((l.port.0 == q.0) || is_shared l.did.deed) ≡ b → Q (seen_as b l.did ∷ view q t) →
      ((l.port ≡ q) × (l.did.deed ≡ Acts mark)) ⊎ (GoesOn l.did.deed × Q (view q t))
  by_port true b h = elim (here h) [
    | inl is ↦ inl (port_same l.port q (or-false (l.port.0 == q.0) (is_shared l.did.deed) b (ap is_shared is ∙ own)), is)
    | inr m ↦ inr m
  ]
  by_port false b h = inr (unshared l.did.deed b, there h)

-- what was taken is what a Took says, or was taken before it
pub took_deed : (r : Received) (deed : Deed) (o : Option Received) → taken_after deed o ≡ Some r →
    (deed ≡ Acts (Took r.from r.taken)) ⊎ (GoesOn deed × (o ≡ Some r))
took_deed r Begins o e = let bad : ⊥ = cc in absurd bad
took_deed r (Acts (Took from x)) o e =
    let k : record { from = from; taken = x } ≡ r = cc in
    inl (ap (λ (z : Received). Acts (Took z.from z.taken)) k)
took_deed r (Acts a) o e = inr ((a, refl), e)

pub took_split : (q : Port) (r : Received) (l : Line) (t : List Line) → taken (view q (l ∷ t)) ≡ Some r →
    ((l.port ≡ q) × (l.did.deed ≡ Acts (Took r.from r.taken))) ⊎ (GoesOn l.did.deed × (taken (view q t) ≡ Some r))
took_split q r l t e = port_split q (Took r.from r.taken) (λ s. taken s ≡ Some r) l t refl (λ e. took_deed r l.did.deed (taken (view q t)) e) (λ e. e) e

-- a Took is its step's first
pub unheard : (setting : Setting) (l : Line) (t : List Line) (from : Place) (x : Taken) → OwnLineFits setting l t → l.did.deed ≡ Acts (Took from x) →
    heard (dids t) ≡ None
unheard setting l t from x f is = ap heard (sym (plain_view l.port t)) ∙ own_deed setting l t (Acts (Took from x)) is f

-- what a port's step has taken is what the node's step has
pub heard_taken : (setting : Setting) (q : Port) (r : Received) (t : List Line) → OwnFits setting t → taken (view q t) ≡ Some r → heard (dids t) ≡ Some r
heard_taken setting q r [] f e = let bad : ⊥ = cc in absurd bad
heard_taken setting q r (l ∷ t) f e = elim (took_split q r l t e) [
  | inl x ↦ ap (λ d. taken_after d (heard (dids t))) x.1
  | inr m ↦ goes m.0.0 m.0.1 (heard_taken setting q r t f.1 m.1)
] where
  goes : (a : Act) → l.did.deed ≡ Acts a → heard (dids t) ≡ Some r → taken_after l.did.deed (heard (dids t)) ≡ Some r
  goes (Took from x) is h = let bad : ⊥ = (let k = sym (unheard setting l t from x f.0 is) ∙ h in cc) in absurd bad
  goes _ is h = ap (λ d. taken_after d (heard (dids t))) is ∙ h

-- the post that a line's step takes on port q
pub record Known (setting : Setting) (l : Line) (q : Port) (world : List Line) (from : PeerId) (datagram : Datagram) : Type 0 where
  pub post : Line
  pub older : List Line
  pub place : Within (post ∷ older) world
  pub takes : l.did.step.cause ≡ Came (posted (dids older))
  pub deed : post.did.deed ≡ Acts (Post (Peer (peer_of (node_of l))) datagram)
  pub node : peer_of (node_of post) ≡ from
  pub net : setting.net (node_of post) post.port ≡ setting.net (node_of l) q

same_place : (p q : PeerId) → Peer p ≡ Peer q → p ≡ q
same_place p q e = cc

same_good : (d e : Datagram) → Good d ≡ Good e → d ≡ e
same_good d e h = cc

-- by the cause of the step
known_by : (setting : Setting) (l : Line) (world : List Line) (from : PeerId) (datagram : Datagram) (x : Line) (older : List Line) (cause : Cause) →
    x.did.step ≡ l.did.step → cause ≡ l.did.step.cause → Within (x ∷ older) world →
    HonestAt x older → x.did.deed ≡ Acts (Took (Peer from) (Good datagram)) → TookFits cause setting x older (Peer from) (Good datagram) →
    Known setting l x.port world from datagram
known_by setting l world from datagram x older Handed step is w h deed f = absurd (h (ap (λ (s : Step). s.cause) step ∙ sym is) from (Good datagram) deed)
known_by setting l world from datagram x older (Came k) step is w h deed f =
    let node : node_of x ≡ node_of l = ap (λ (s : Step). s.node) step in
    let same : datagram ≡ f.datagram = same_good datagram f.datagram f.taken_is in
    record {
      post = f.post;
      older = f.older;
      place = Within_through (f.post ∷ f.older) older world f.place (Within_tail x older world w);
      takes = sym is ∙ ap Came (sym f.number);
      deed = subst₂ (λ n d. f.post.did.deed ≡ Acts (Post (Peer (peer_of n)) d)) node (sym same) f.deed;
      node = sym (same_place from (peer_of (node_of f.post)) f.from_is);
      net = subst (λ n. setting.net (node_of f.post) f.post.port ≡ setting.net n x.port) node f.net;
    }
known_by setting l world from datagram x older _ step is w h deed f = absurd f

-- an act comes after its step's Took
pub took_post : (setting : Setting) (l : Line) (world : List Line) (a : Act) (from : PeerId) (datagram : Datagram) (P : Line → Type 0) →
    Fits setting (l ∷ world) → Honest (l ∷ world) → l.did.deed ≡ Acts a →
    (t : StepAt P (of (node_of l) world)) → t.line.did.deed ≡ Acts (Took (Peer from) (Good datagram)) → Known setting l t.line.port world from datagram
took_post setting l world a from datagram P f h act t deed =
    let n = node_of l in
    let x = lift n world t.line t.rest t.place in
    let same : SameStep (Acts a) l.did.step (dids world) = subst (λ k. SameStep k l.did.step (dids world)) act f.0.step in
    let step : t.line.did.step ≡ l.did.step = t.step l.did.step (own_in_step n l.did.step world refl (in_step_holds a l.did.step world same)) in
    let fits = fits_in setting t.line x.world world f.1 x.place in
    known_by setting l world from datagram t.line x.world t.line.did.step.cause step (ap (λ (s : Step). s.cause) step) x.place
    (Everywhere_at HonestAt t.line x.world world h.1 x.place) deed (fits.took (Peer from) (Good datagram) deed)

-- what its port has taken in the step
pub known : (setting : Setting) (l : Line) (world : List Line) (a : Act) (from : PeerId) (datagram : Datagram) → Fits setting (l ∷ world) →
    Honest (l ∷ world) → l.did.deed ≡ Acts a →
    Receives (view l.port (of (node_of l) world)) from datagram → Known setting l l.port world from datagram
known setting l world a from datagram f h act e =
    let r : Received = record { from = Peer from; taken = Good datagram } in
    let own = of (node_of l) world in
    let t = step_at setting _ (λ t. taken (view l.port t) ≡ Some r) own (own_fits setting (node_of l) world f.1) (λ e. none r e) (took_split l.port r) e in
    subst (λ q. Known setting l q world from datagram) t.is.0 (took_post setting l world a from datagram _ f h act t t.is.1)
  where
    none : (r : Received) → taken [] ≡ Some r → ⊥
    none r e = cc
