-- Who stands for election isn't Starting until it boots, and backs nobody else while it holds itself; what an ACCEPT says of who posted it.
use Rattle.std.proofs.Common.{sym, ap, subst, arith, inl, inr, true≢false, ◌∙◌, ◌≡◌, ◌≢◌, ◌≤◌, ◌⊎◌, ℕ, ◌+◌, ◌==◌}
use Rattle.std.proofs.Common.{false, List, [], ◌∷◌, eq-eqb, Option, Some, refl}
use Rattle.tsp_rules.specs.Values.{Act, Accept, Back, Become, Boot, Candidate, Starting, Message, PeerId, Peer, Port, Post, Role, HOLD, LIFE}
use Rattle.tsp_base.specs.Words.{Acts, Begins, Deed, Did, Elsewhere, Here, Line, MessageValue, Receives, Seen, Step, Within, dids, of, peer_of, role}
use Rattle.tsp_base.specs.Words.{role_after, view}
use Rattle.tsp_base.proofs.PlaceLemmas.{Within_all, Within_comparable, Within_tail, Within_through}
use Rattle.tsp_base.proofs.ViewPlaces.{here_is, shown}
use Rattle.tsp_promises.specs.{DeedFits.MessageFits, Fits.Fits, Fits.node_of, HoldFits.AcceptFits, Premises.Honest, Premises.HonestAt, Premises.Life}
use Rattle.tsp_promises.specs.{Premises.TakenWithinAt, Setting.Setting, Setting.setup_of}
use Rattle.tsp_promises.proofs.{shared.EverywhereLemmas.Everywhere_at, shared.EverywhereLemmas.Everywhere_within, shared.HistoryPlaces.lift}
use Rattle.tsp_promises.proofs.{promised.KnownProof.known, promised.OwnFitsProof.deed_fits, promised.OwnFitsProof.fits_at, promised.OwnFitsProof.fits_in}
use Rattle.tsp_promises.proofs.{promised.OwnFitsProof.place_time}
use Rattle.tsp_promises.proofs.{promised.OwnFitsProof.own_fits, promised.ResolvedProof.holds_at}
use Rattle.tsp_promises.proofs.promised.KnownProof.{GoesOn, StepAt, in_step_holds, own_in_step, port_split, step_at}
use Rattle.tsp_promises.specs.{Fits.SameStep, OwnFits.OwnFits, StepFacts.backed, StepFacts.backed_after}
use Rattle.tsp_progress.proofs.{StandActs.Kept, StandActs.StandFits}

-- who stood is Starting again only after a boot
pub awake_since : (start : Did) (idle : List Seen) → start.deed ≡ Acts (Become Candidate) → (seen : List Seen) → Within (Here start ∷ idle) seen → Kept seen →
    ((d : Did) (before : List Seen) → Within (Here d ∷ before) seen → Within (Here start ∷ idle) before → d.deed ≢ Acts Boot) → role seen ≢ Starting
awake_since start idle stands [] w kept calm e = let bad : ⊥ = cc in absurd bad
awake_since start idle stands (s ∷ before) (inl same) kept calm e =
    let now : role (Here start ∷ idle) ≡ Candidate = rw stands refl in
    let was : role (Here start ∷ idle) ≡ Starting = ap role same ∙ e in
    let both = sym now ∙ was in
    let bad : ⊥ = cc in
    bad
awake_since start idle stands (Elsewhere d ∷ before) (inr w) kept calm e =
    awake_since start idle stands before w kept.1 (λ c b v f. calm c b (inr v) f) e
awake_since start idle stands (Here d ∷ before) (inr w) kept calm e =
    by_deed d.deed refl (awake_since start idle stands before w kept.1 (λ c b v f. calm c b (inr v) f)) where
      kept-role : (deed : Deed) → d.deed ≡ deed → role_after deed (role before) ≡ Starting
      kept-role deed is = ap (λ k. role_after k (role before)) (sym is) ∙ e

      by_role : (r : Role) → d.deed ≡ Acts (Become r) → (role before ≡ Starting → ⊥) → ⊥
      by_role Starting is more = more (subst (λ k. StandFits k d before) is kept.0.fits)
      by_role r is more = let now : r ≡ Starting = kept-role (Acts (Become r)) is in
          more (subst (λ k. StandFits k d before) (is ∙ ap (λ k. Acts (Become k)) now) kept.0.fits)

      by_deed : (deed : Deed) → d.deed ≡ deed → (role before ≡ Starting → ⊥) → ⊥
      by_deed (Acts Boot) is more = calm d before (Within_all (Here d ∷ before)) w is
      by_deed (Acts (Become r)) is more = by_role r is more
      by_deed deed is more = more (kept-role deed is)

-- a boot that a port sees stands in the history
pub record SeenAt (n : ℕ) (q : Port) (d : Did) (before : List Seen) (world : List Line) : Type 0 where
  pub line : Line
  pub older : List Line
  pub place : Within (line ∷ older) world
  pub node : node_of line ≡ n
  pub did_is : line.did ≡ d
  pub before_is : view q (of n older) ≡ before

pub seen_at : (n : ℕ) (q : Port) (d : Did) (before : List Seen) (world : List Line) → Within (Here d ∷ before) (view q (of n world)) →
    SeenAt n q d before world
seen_at n q d before world w =
    let s = shown q (of n world) (Here d) before w in
    let l = lift n world s.line s.rest s.place in
    record {
      line = s.line;
      older = l.world;
      place = l.place;
      node = l.node;
      did_is = (here_is _ s.line.did d s.is).1;
      before_is = ap (view q) l.own ∙ s.before;
    }

-- where the Back stands of the candidate that a step has backed
back_at : (setting : Setting) (q : Port) (p : PeerId) (t : List Line) → OwnFits setting t → backed (view q t) ≡ Some p →
    StepAt (λ l. (l.port ≡ q) × (l.did.deed ≡ Acts (Back p))) t
back_at setting q p t f e = step_at setting _ (λ t. backed (view q t) ≡ Some p) t f none split e where
  none : backed [] ≡ Some p → ⊥
  none e = cc

  by_deed_holds : (deed : Deed) (o : Option PeerId) → backed_after deed o ≡ Some p → (deed ≡ Acts (Back p)) ⊎ (GoesOn deed × (o ≡ Some p))
  by_deed_holds Begins o e = let bad : ⊥ = cc in absurd bad
  by_deed_holds (Acts (Back r)) o e = let same : r ≡ p = cc in inl (ap (λ (z : PeerId). Acts (Back z)) same)
  by_deed_holds (Acts a) o e = inr ((a, refl), e)

  split : (l : Line) (t : List Line) → backed (view q (l ∷ t)) ≡ Some p →
      ((l.port ≡ q) × (l.did.deed ≡ Acts (Back p))) ⊎ (GoesOn l.did.deed × (backed (view q t) ≡ Some p))
  split l t e = port_split q (Back p) (λ s. backed s ≡ Some p) l t refl (λ e. by_deed_holds l.did.deed (backed (view q t)) e) (λ e. e) e

-- it is in the step of a post
record Backing (y : Line) (p : PeerId) (world : List Line) : Type 0 where
  pub line : Line
  pub older : List Line
  pub place : Within (line ∷ older) world
  pub node : node_of line ≡ node_of y
  pub port : line.port ≡ y.port
  pub deed : line.did.deed ≡ Acts (Back p)
  pub at : line.did.step.at ≡ y.did.step.at

backing_of : (setting : Setting) (y : Line) (yo world : List Line) (p : PeerId) (act : Act) → Fits setting world → Within (y ∷ yo) world → y.did.deed ≡
    Acts act → backed (view y.port (of (node_of y) yo)) ≡ Some p → Backing y p world
backing_of setting y yo world p act f w deed backs =
    let fy = fits_at setting (y ∷ yo) world f w in
    let own = own_fits setting (node_of y) yo fy.1 in
    let b = back_at setting y.port p (of (node_of y) yo) own backs in
    let x = lift (node_of y) yo b.line b.rest b.place in
    let same = subst (λ k. SameStep k y.did.step (dids yo)) deed fy.0.step in
    let in_step = in_step_holds act y.did.step yo same in
    let step : b.line.did.step ≡ y.did.step = b.step y.did.step (own_in_step (node_of y) y.did.step yo refl in_step) in
    record {
      line = b.line;
      older = x.world;
      place = Within_through (b.line ∷ x.world) yo world x.place (Within_tail y yo world w);
      node = x.node;
      port = b.is.0;
      deed = b.is.1;
      at = ap (λ (s : Step). s.at) step;
    }

-- node a's Backs of two candidates
module _ (setting : Setting) (world : List Line) (fits : Fits setting world) where
  hold_after : (b : Line) (bo : List Line) (x : Line) (xo : List Line) → Within (x ∷ xo) world → Within (b ∷ bo) xo → node_of b ≡ node_of x →
      b.port ≡ x.port → (p q : PeerId) → x.did.deed ≡ Acts (Back p) → b.did.deed ≡ Acts (Back q) → q ≢ p → b.did.tick + HOLD ≤ x.did.tick
  hold_after b bo x xo place early node port p q x_is b_is differ =
      elim (holds_at setting x xo (fits_at setting (x ∷ xo) world fits place) p q b bo x_is early node port b_is) [
        | inl same ↦ absurd (differ same)
        | inr gap ↦ gap
      ]

  -- they are HOLD ticks apart
  pub hold_apart : (b : Line) (bo : List Line) (x : Line) (xo : List Line) → Within (b ∷ bo) world → Within (x ∷ xo) world → node_of b ≡ node_of x →
      b.port ≡ x.port → (p q : PeerId) → x.did.deed ≡ Acts (Back p) → b.did.deed ≡ Acts (Back q) → (p.0 == q.0) ≡ false →
      (b.did.tick + HOLD ≤ x.did.tick) ⊎ (x.did.tick + HOLD ≤ b.did.tick)
  hold_apart b bo x xo bw xw node port p q x_is b_is other = elim (Within_comparable (b ∷ bo) (x ∷ xo) world bw xw) [
    | inl w ↦ elim w [
      | inl e ↦ absurd (same e)
      | inr w ↦ inl (hold_after b bo x xo xw w node port p q x_is b_is (λ e. apart (sym e)))
    ]
    | inr w ↦ elim w [
      | inl e ↦ absurd (same (sym e))
      | inr w ↦ inr (hold_after x xo b bo bw w (sym node) (sym port) q p b_is x_is apart)
    ]
  ] where
    apart : p ≢ q
    apart e = true≢false (sym (eq-eqb p.0 q.0 (ap (λ (k : PeerId). k.0) e)) ∙ other)

    back_of : (a b : PeerId) → Acts (Back a) ≡ Acts (Back b) → a ≡ b
    back_of a b e = cc

    same : b ∷ bo ≡ x ∷ xo → ⊥
    same e =
        let line : b ≡ x = cc in
        apart (back_of p q (sym x_is ∙ (ap (λ (k : Line). k.did.deed) (sym line) ∙ b_is)))

  -- an ACCEPT that node b's port q takes was posted by who backed b then
  pub record VotesFor (a b : ℕ) (q : Port) (at : ℕ) : Type 0 where
    pub line : Line
    pub older : List Line
    pub place : Within (line ∷ older) world
    pub node : node_of line ≡ a
    pub net : setting.net (node_of line) line.port ≡ setting.net b q
    pub deed : line.did.deed ≡ Acts (Back (peer_of b))
    pub after : at ≤ line.did.step.at + LIFE
    pub by : line.did.step.at ≤ at

  pub votes_for : Honest world → Life world → (a b : ℕ) (l : Line) (older : List Line) (act : Act) (answer : MessageValue) → Within (l ∷ older) world →
      node_of l ≡ b → l.did.deed ≡ Acts act → Receives (view l.port (of (node_of l) older)) (peer_of a) (Message answer) → answer.kind ≡ Accept →
      VotesFor a b l.port l.did.step.at
  votes_for honest life a b l older act answer place node is took kind =
      let fit = fits_at setting (l ∷ older) world fits place in
      let true_words : Honest (l ∷ older) = Everywhere_within HonestAt (l ∷ older) world honest place in
      let k = known setting l older act (peer_of a) (Message answer) fit true_words is took in
      let y = k.post in
      let yw : Within (y ∷ k.older) world = Within_through (y ∷ k.older) older world k.place (Within_tail l older world place) in
      let d = deed_fits setting y k.older (Acts (Post (Peer (peer_of (node_of l))) (Message answer))) k.deed (fits_in setting y k.older world fits yw) in
      let acc : AcceptFits (view y.port (of (node_of y) k.older)) (peer_of (node_of l)) answer.number =
      subst (λ z. MessageFits (setup_of setting (node_of y) y.port) z y.did (view y.port (of (node_of y) k.older)) (peer_of (node_of l)) answer) kind d.fits in
      let x = backing_of setting y k.older world (peer_of (node_of l)) (Post (Peer (peer_of (node_of l))) (Message answer)) fits yw k.deed acc.backs in
      let young = Everywhere_at (TakenWithinAt LIFE) l older world life place y k.older (Peer (peer_of (node_of l))) (Message answer) k.place k.deed k.takes in
      let order = place_time setting (y ∷ k.older) (l ∷ older) fit (inr k.place) in
      let who : node_of y ≡ a = ap (λ (z : PeerId). z.0) {x = peer_of (node_of y)} k.node in
      let when = x.at in
      record {
        line = x.line;
        older = x.older;
        place = x.place;
        node = x.node ∙ who;
        net = ap (λ n. setting.net n x.line.port) x.node ∙ (ap (setting.net (node_of y)) x.port ∙ (k.net ∙ ap (λ n. setting.net n l.port) node));
        deed = x.deed ∙ ap (λ n. Acts (Back (peer_of n))) node;
        after = omega (arith, young, when);
        by = omega (arith, order, when);
      }
