-- What a boot, a backing and a QUIT keep a node from: it is silent after its boot, backs no two candidates within the
-- hold, and doesn't stay master after a QUIT, whose sender it follows.
use Rattle.std.proofs.Common.{arith, subst, inl, inr, ◌∙◌, ◌≡◌, ◌≤◌, ◌+◌, false, List, ◌∷◌, sym, ap, eq-eqb, ◌⊎◌, ℕ, ◌==◌, ◌&&◌, not, Bool, true, if◌then◌else◌}
use Rattle.std.proofs.Common.{[], Option, None, Some, refl}
use Rattle.tsp_rules.specs.Values.{Post, Back, Message, Accept, Election, PeerId, Place, Peer, Stranger, QUIET, Correct, Took, Become, Quit, Port, Role, Master}
use Rattle.tsp_rules.specs.Values.{ELECT_MIN, Boot, Follow}
use Rattle.tsp_base.specs.Words.{Acts, Did, Line, Seen, of, dids, view, is_shared, MessageValue, boot_tick, Setup, Begins, Deed, Here, Elsewhere, is_among}
use Rattle.tsp_base.specs.Words.{message_in, role, role_after, said_by}
use Rattle.tsp_base.proofs.{ViewPlaces.sees_own, Views.plain_view}
use Rattle.tsp_promises.specs.StepFacts.{backed, is_unbacked, StepEnds, if_master, is_quit, owes, owes_after, quit_by, quits_master, quits_master_after}
use Rattle.tsp_promises.specs.StepFacts.{unheeded, unheeded_after, unless_starting}
use Rattle.tsp_promises.specs.Resolved.{YieldsAt, Yields, YieldsTaken, YieldsTakenAt, QuietAt, StaysQuiet, Became, BecomesAfter}
use Rattle.tsp_promises.specs.DeedFits.{MessageFits, PostFits, StrangerFits, DeedFits}
use Rattle.tsp_promises.proofs.promised.OwnFitsProof.{deed_fits, mark_fits, own_tick, port_fits, own_fits, fits_at}
use Rattle.tsp_promises.specs.{Fits.Fits, Fits.Finished, Fits.Sees, Fits.node_of, OneBack.HoldsAt, OneBack.IsBacked, OneBack.BacksAt}
use Rattle.tsp_promises.specs.{OneBack.OneBack, Setting.Setting, Setting.setup_of, PortFits.PortFits, QuitFits.QuitFits, Silent.Silent, Silent.SilentAt}
use Rattle.tsp_promises.proofs.{shared.HistoryPlaces.own_in, promised.SinceProof.back_late, promised.SinceProof.quit_late, promised.SinceProof.since}
use Rattle.tsp_promises.proofs.{shared.EverywhereLemmas.Everywhere_from}
use Rattle.tsp_promises.proofs.{leads.Leaves.none-some, leads.Leaves.some_same}

pub holds_at : (setting : Setting) (l : Line) (world : List Line) → Fits setting (l ∷ world) → HoldsAt l world
holds_at setting l world f p q other older is w node port other_is =
    let n = node_of l in
    let own = own_fits setting n world f.1 in
    let place = own_in n other older world node w in
    let i = since setting (other ∷ of n older) (of n world) own place in
    let fits = deed_fits setting l world (Acts (Back p)) is f.0 in
    let rested : boot_tick (dids (of n world)) + QUIET ≤ l.did.tick = subst (λ k. boot_tick k + QUIET ≤ l.did.tick) (plain_view l.port (of n world)) fits.rested
    in
    elim i.life [
      | inr new ↦ inr (omega (arith, new.boot))
      | inl one ↦
          let sees : Sees l.port other = subst (λ k. Sees k other) port (sees_own other.port (is_shared other.did.deed)) in
          let late = back_late setting l.port q other (of n older) (of n world) own other_is sees place one.lives in
          elim (fits.holds late.at late.last late.is) [
            | inr long ↦ inr (omega (arith, late.by))
            | inl same ↦ elim late.holds [ inl e ↦ inl (e ∙ same) | inr long ↦ inr (omega (arith, long, late.upto, i.tick, own_tick setting l world f)) ]
          ]
    ]

-- an ACCEPT goes to peers alone, after a Back of that peer
accepts_backed : (setup : Setup) (to : Place) (m : MessageValue) (here : Did) (seen : List Seen) → m.kind ≡ Accept → PostFits setup to (Message m) here seen →
    IsBacked to (backed seen)
accepts_backed setup (Peer p) m here seen kind f = (subst (λ z. MessageFits setup z here seen p m) kind f).backs
accepts_backed setup Stranger m here seen kind f = subst (λ z. StrangerFits z here seen m.number) kind f.0

-- an ELECTION goes to peers alone, after the port has backed itself
asks_backed : (setup : Setup) (to : Place) (m : MessageValue) (here : Did) (seen : List Seen) → m.kind ≡ Election → PostFits setup to (Message m) here seen →
    is_unbacked seen ≡ false
asks_backed setup (Peer p) m here seen kind f = (subst (λ z. MessageFits setup z here seen p m) kind f).backs
asks_backed setup Stranger m here seen kind f = absurd (subst (λ z. StrangerFits z here seen m.number) kind f.0)

backs_at : (setting : Setting) (l : Line) (world : List Line) → Fits setting (l ∷ world) → BacksAt l world
backs_at setting l world f = record {
  accepts = λ to m is kind. accepts_backed (setup_of setting (node_of l) l.port) to m l.did (view l.port (of (node_of l) world)) kind
      (deed_fits setting l world (Acts (Post to (Message m))) is f.0).fits;
  asks = λ to m is kind. asks_backed (setup_of setting (node_of l) l.port) to m l.did (view l.port (of (node_of l) world)) kind
      (deed_fits setting l world (Acts (Post to (Message m))) is f.0).fits;
  ends = λ is q. (mark_fits setting l world is f.0 q).backs;
}

pub one_back : (setting : Setting) (world : List Line) → Fits setting world → Finished setting world → OneBack world
one_back setting world f end = record {
  holds = Everywhere_from HoldsAt world (λ l s w. holds_at setting l s (fits_at setting (l ∷ s) world f w));
  backs = Everywhere_from BacksAt world (λ l s w. backs_at setting l s (fits_at setting (l ∷ s) world f w));
  ends = λ n q. (end n q).backs;
}

pub silent : (setting : Setting) (world : List Line) → Fits setting world → Silent world
silent setting whole h = Everywhere_from SilentAt whole (λ l world w.
    let f = (fits_at setting (l ∷ world) whole h w).0 in
    let seen = plain_view l.port (of (node_of l) world) in
    record {
      posts = λ to datagram is. elim (deed_fits setting l world (Acts (Post to datagram)) is f).rested [
        | inl late ↦ inl (subst (λ d. boot_tick d + QUIET ≤ l.did.tick) seen late)
        | inr early ↦ inr early
      ];
      corrects = λ amount stepped shown is. subst (λ d. boot_tick d + QUIET ≤ l.did.tick) seen (deed_fits setting l world (Acts (Correct amount stepped shown))
          is f).rested;
    })

pub yields : (setting : Setting) (world : List Line) → Fits setting world → Finished setting world → Yields world
yields setting world f end = record {
  marks = Everywhere_from (λ (l : Line) (before : List Line). l.did.deed ≡ Begins → (q : Port) → YieldsAt (view q (of (node_of l) before))) world
      (λ l s w is q. (mark_fits setting l s is (fits_at setting (l ∷ s) world f w).0 q).follows);
  ends = λ n q. (end n q).follows;
}

if_some : (b : Bool) (p q : PeerId) → (if b then Some p else None) ≡ Some q → (b ≡ true) × (p ≡ q)
if_some true p q e = (refl, some_same p q e)
if_some false p q e = none-some q e

-- whom a QUIT is from that a master takes: the port is a master, and the QUIT is to be heeded
master_takes : (peers : List PeerId) (n : ℕ) (r : Role) (o : Option PeerId) (p : PeerId) → if_master r o ≡ Some p → (r ≡ Master) ×
    (unless_starting r o ≡ Some p)
master_takes peers n Master o p e = (refl, e)
master_takes peers n _ o p e = none-some p e

-- the port that has taken it as a master hasn't heeded it yet, or owes to follow its sender
abbrev Told : List PeerId → List Seen → PeerId → Type 0
Told peers seen p = (unheeded peers seen ≡ Some p) ⊎ (is_among p (owes seen) ≡ true)

-- the Quit that heeds it
told_quit : (peers : List PeerId) (d : Did) (before : List Seen) (q p : PeerId) → QuitFits before q → quits_master peers before ≡ Some p →
    is_among p (owes_after (Acts (Quit q)) (role before) (owes before)) ≡ true
told_quit peers d before q p f e =
    let told : quits_master peers (Here f.took ∷ f.past) ≡ Some p = subst (λ z. quits_master peers z ≡ Some p) f.is e in
    let took : if_master (role f.past) (quit_by peers f.took.step.node (Some (record { from = q; message = f.message }))) ≡ Some p =
    subst (λ deed. quits_master_after peers f.took.step.node deed (role f.past) (quits_master peers f.past) ≡ Some p) f.deed told in
    let m = master_takes peers f.took.step.node (role f.past) (quit_by peers f.took.step.node (Some (record { from = q; message = f.message }))) p took in
    let by = subst (λ r. if_master r (quit_by peers f.took.step.node (Some (record { from = q; message = f.message }))) ≡ Some p) m.0 took in
    let same = (if_some (is_quit f.message.kind && (is_among q peers && not (q.0 == f.took.step.node))) q p by).1 in
    let leads : role before ≡ Master = ap role f.is ∙ (ap (λ deed. role_after deed (role f.past)) f.deed ∙ m.0) in
    subst (λ r. is_among p (owes_after (Acts (Quit q)) r (owes before)) ≡ true) (sym leads) (subst (λ k. is_among k (q ∷ owes before) ≡
    true) same (among-first q (owes before)))
  where
    among-first : (q : PeerId) (rest : List PeerId) → is_among q (q ∷ rest) ≡ true
    among-first q rest = rw (eq-eqb q.0 q.0 refl) refl

told_deed : (setup : Setup) (d : Did) (before : List Seen) (p : PeerId) (deed : Deed) → DeedFits setup deed d before →
    (quits_master setup.peers before ≡ Some p → Told setup.peers before p) →
    quits_master_after setup.peers d.step.node deed (role before) (quits_master setup.peers before) ≡ Some p →
    (unheeded_after setup.peers d.step.node deed (role before) (unheeded setup.peers before) ≡ Some p) ⊎
    (is_among p (owes_after deed (role before) (owes before)) ≡ true)
told_deed setup d before p Begins f h e = none-some p e
told_deed setup d before p (Acts (Took from t)) f h e = inl (master_takes setup.peers d.step.node (role before)
    (quit_by setup.peers d.step.node (said_by from (message_in t))) p e).1
told_deed setup d before p (Acts (Quit q)) f h e = inr (told_quit setup.peers d before q p f e)
told_deed setup d before p _ f h e = h e

told : (setup : Setup) (seen : List Seen) (p : PeerId) → PortFits setup seen → quits_master setup.peers seen ≡ Some p → Told setup.peers seen p
told setup [] p f e = none-some p e
told setup (Elsewhere d ∷ before) p f e = told setup before p f e
told setup (Here d ∷ before) p f e = told_deed setup d before p d.deed f.0 (told setup before p f.1) e

-- so it follows that peer at the step's end
yields_told : (setup : Setup) (seen : List Seen) → PortFits setup seen → StepEnds setup seen → YieldsTakenAt setup.peers seen
yields_told setup seen f end p e = elim (told setup seen p f e) [
  | inl left ↦ none-some p (sym end.heeds ∙ left)
  | inr owed ↦ end.follows p owed
]

pub yields_taken : (setting : Setting) (world : List Line) → Fits setting world → Finished setting world → YieldsTaken setting world
yields_taken setting world f end = record {
  marks = Everywhere_from (λ (l : Line) (before : List Line). l.did.deed ≡ Begins → (q : Port) →
      YieldsTakenAt (setup_of setting (node_of l) q).peers (view q (of (node_of l) before))) world
      (λ l s w is q.
      let here = fits_at setting (l ∷ s) world f w in
      yields_told (setup_of setting (node_of l) q) (view q (of (node_of l) s)) (port_fits setting (node_of l) s here.1 q) (mark_fits setting l s is here.0 q));
  ends = λ n q. yields_told (setup_of setting n q) (view q (of n world)) (port_fits setting n world f q) (end n q);
}

quiet_at : (setting : Setting) (l : Line) (world : List Line) → Fits setting (l ∷ world) → QuietAt l world
quiet_at setting l world f other older p is w node port other_is =
    let n = node_of l in
    let own = own_fits setting n world f.1 in
    let place = own_in n other older world node w in
    let i = since setting (other ∷ of n older) (of n world) own place in
    let fits = deed_fits setting l world (Acts (Become Master)) is f.0 in
    let rested : boot_tick (dids (of n world)) + ELECT_MIN ≤ l.did.tick = subst (λ k. boot_tick k + ELECT_MIN ≤ l.did.tick) (plain_view l.port (of n world))
    fits.rested in
    elim i.life [
      | inr new ↦ omega (arith, new.boot)
      | inl one ↦
          let sees : Sees l.port other = subst (λ k. Sees k other) port (sees_own other.port (is_shared other.did.deed)) in
          let late = quit_late setting l.port p other (of n older) (of n world) own other_is sees place one.lives in
          omega (arith, late.by, fits.quiet late.at late.is)
    ]

pub stays_quiet : (setting : Setting) (world : List Line) → Fits setting world → StaysQuiet world
stays_quiet setting world f = Everywhere_from QuietAt world (λ l s w. quiet_at setting l s (fits_at setting (l ∷ s) world f w))

later : (s : Seen) (before : List Seen) (p : PeerId) → Became before p → Became (s ∷ before) p
later s before p b = record { did = b.did; before = b.before; place = inr b.place; deed = b.deed; after = b.after }

-- a QUIT to a follower changes nothing that is owed
quit_owes : (r : Role) (q p : PeerId) (was : List PeerId) → r ≡ Follow p → owes_after (Acts (Quit q)) r was ≡ was
quit_owes r q p was e = rw e refl

became_deed : (d : Did) (before : List Seen) (p : PeerId) (deed : Deed) → deed ≡ d.deed → (is_among p (owes before) ≡ true → role before ≡ Follow p →
    Became before p) →
    is_among p (owes_after deed (role before) (owes before)) ≡ true → role_after deed (role before) ≡ Follow p → Became (Here d ∷ before) p
became_deed d before p Begins is h o r = let bad : ⊥ = cc in absurd bad
became_deed d before p (Acts Boot) is h o r = let bad : ⊥ = cc in absurd bad
became_deed d before p (Acts (Become s)) is h o r = record {
  did = d;
  before = before;
  place = inl refl;
  deed = sym is ∙ ap (λ (z : Role). Acts (Become z)) r;
  after = o;
}
became_deed d before p (Acts (Quit q)) is h o r = later (Here d) before p (h (sym (ap (is_among p) (quit_owes (role before) q p (owes before) r)) ∙ o) r)
became_deed d before p _ is h o r = later (Here d) before p (h o r)

pub becomes_after : BecomesAfter
becomes_after [] p o r = let bad : ⊥ = cc in absurd bad
becomes_after (Elsewhere d ∷ before) p o r = later (Elsewhere d) before p (becomes_after before p o r)
becomes_after (Here d ∷ before) p o r = became_deed d before p d.deed refl (becomes_after before p) o r
