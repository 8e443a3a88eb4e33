-- What is asked is answered, once.
use Rattle.std.proofs.Common.{sym, ap, arith, subst, inl, inr, true≢false, ◌∙◌, ◌≡◌, ◌==◌, ◌||◌, ◌≤◌, ℕ, ◌+◌, Bool, true, false, List, [], ◌∷◌, Option, None}
use Rattle.std.proofs.Common.{Some, refl}
use Rattle.tsp_rules.specs.Values.{Act, Took, Post, Quit, Message, Taken, Good, PeerId, Place, Peer, Stranger, Port}
use Rattle.tsp_base.specs.Words.{Acts, Begins, Deed, Did, Line, Seen, Here, Step, dids, is_shared, of, seen_as, view, Received, taken, taken_after, Setup}
use Rattle.tsp_base.specs.Words.{heard}
use Rattle.tsp_base.proofs.{ViewPlaces.or-false, ViewPlaces.port_same, ViewPlaces.sees_own, Views.plain_view}
use Rattle.tsp_promises.specs.Answered.{Answered, AnswersAt, HeedsQuit, OneForOneAt, QuitsAt, StrangersAt, TakesOneAt, from_strangers}
use Rattle.tsp_promises.specs.Answered.{from_strangers_after, has_answered, has_answered_after, has_quit, has_quit_after, to_strangers, to_strangers_after}
use Rattle.tsp_promises.specs.StepFacts.{is_answered, is_answered_after, unacknowledged, unheeded}
use Rattle.tsp_promises.proofs.promised.OwnFitsProof.{fits_at, own_deed, own_fits, deed_fits, mark_fits}
use Rattle.tsp_promises.specs.{DeedFits.DeedFits, OwnFits.OwnFits, QuitFits.QuitFits, Fits.Finished, Fits.Fits, Fits.SameStep, Fits.node_of, Setting.Setting}
use Rattle.tsp_promises.specs.{Setting.setup_of}
use Rattle.tsp_promises.proofs.{shared.EverywhereLemmas.Everywhere_from, shared.HistoryPlaces.of_own, shared.Printed.heard_now, promised.KnownProof.heard_taken}
use Rattle.tsp_promises.proofs.{promised.KnownProof.took_split}
use Rattle.tsp_promises.proofs.{promised.KnownProof.unheard, shared.StrangerFacts.answering, shared.StrangerFacts.answers_asked}

none-some : {A B : Type 0} (o : Option A) (a : A) → o ≡ None → o ≡ Some a → B
none-some o a e f = let bad : ⊥ = (let k = sym e ∙ f in cc) in absurd bad

-- a node that has taken nothing in this step has no Quit in it
quit_deed : (setup : Setup) (d : Did) (q : Port) (t : List Line) (deed : Deed) → DeedFits setup deed d (view q t) →
    (heard (dids t) ≡ None → has_quit (dids t) ≡ false) → taken_after deed (heard (dids t)) ≡ None → has_quit_after deed (has_quit (dids t)) ≡ false
quit_deed setup d q t Begins f o e = refl
quit_deed setup d q t (Acts (Took from x)) f o e = let bad : ⊥ = cc in absurd bad
quit_deed setup d q t (Acts (Quit p)) f o e = none-some (heard (dids t)) _ e (ap heard (sym (plain_view q t)) ∙
    heard_now (Peer p) f.message f.took f.past (view q t) f.is f.deed)
quit_deed setup d q t _ f o e = o e

no_quit : (setting : Setting) (own : List Line) → OwnFits setting own → heard (dids own) ≡ None → has_quit (dids own) ≡ false
no_quit setting [] f e = refl
no_quit setting (l ∷ t) f e =
    quit_deed (setup_of setting (node_of l) l.port) l.did l.port t l.did.deed (own_deed setting l t l.did.deed refl f.0) (no_quit setting t f.1) e

-- the line that a port sees at the head as a Took on it
took_line : (x : Line) (q : Port) (took : Did) (from : Place) (t : Taken) (b : Bool) (vs past : List Seen) → ((x.port.0 == q.0) || is_shared x.did.deed) ≡ b →
    seen_as b x.did ∷ vs ≡ Here took ∷ past → took.deed ≡ Acts (Took from t) →
    (x.did.deed ≡ Acts (Took from t)) × (x.port ≡ q)
took_line x q took from t true vs past sees e deed =
    let same : x.did ≡ took = cc in
    let is : x.did.deed ≡ Acts (Took from t) = ap (λ (d : Did). d.deed) same ∙ deed in
    let own : is_shared x.did.deed ≡ false = ap is_shared is in
    (is, port_same x.port q (or-false (x.port.0 == q.0) (is_shared x.did.deed) sees own))
took_line x q took from t false vs past sees e deed = let bad : ⊥ = cc in absurd bad

quits_of : (setting : Setting) (l : Line) (world : List Line) (p : PeerId) (own : List Line) → OwnFits setting own → of (node_of l) world ≡ own →
    QuitFits (view l.port own) p → HeedsQuit l world p
quits_of setting l world p [] f is q = let bad : ⊥ = (let k = q.is in cc) in absurd bad
quits_of setting l world p (x ∷ older) f is q =
    let at = took_line x l.port q.took (Peer p) (Good (Message q.message)) ((x.port.0 == l.port.0) || is_shared x.did.deed) (view l.port older) q.past refl q.is
    q.deed in
    let none = unheard setting x older (Peer p) (Good (Message q.message)) f.0 at.0 in
    record {
      took = x;
      older = older;
      is = is;
      port = at.1;
      message = q.message;
      deed = at.0;
      kind = q.kind;
      only = ap (λ k. has_quit (dids k)) is ∙ (ap (λ k. has_quit_after k (has_quit (dids older))) at.0 ∙ no_quit setting older f.1 none);
    }

-- a port that has taken something took it first in the step
untaken : (setting : Setting) (l : Line) (t : List Line) (from : Place) (x : Taken) (q : Port) (r : Received) → OwnFits setting (l ∷ t) →
    l.did.deed ≡ Acts (Took from x) → taken (view q t) ≡ Some r → ⊥
untaken setting l t from x q r f is e = none-some (heard (dids t)) r (unheard setting l t from x f.0 is) (heard_taken setting q r t f.1 e)

-- so no two ports have taken something in one step
one_port : (setting : Setting) (p q : Port) (r s : Received) (t : List Line) → OwnFits setting t → taken (view p t) ≡ Some r → taken (view q t) ≡ Some s → p ≡ q
one_port setting p q r s [] f d e = let bad : ⊥ = cc in absurd bad
one_port setting p q r s (l ∷ t) f d e = elim (took_split p r l t d) [
  | inl x ↦ elim (took_split q s l t e) [ inl y ↦ sym x.0 ∙ y.0 | inr y ↦ absurd (untaken setting l t r.from r.taken q s f x.1 y.1) ]
  | inr x ↦ elim (took_split q s l t e) [ inl y ↦ absurd (untaken setting l t s.from s.taken p r f y.1 x.1) | inr y ↦ one_port setting p q r s t f.1 x.1 y.1 ]
]

-- a node that has taken nothing in this step has posted nothing to strangers
none_posted : (setting : Setting) (t : List Line) → OwnFits setting t → heard (dids t) ≡ None → has_answered (dids t) ≡ false
none_posted setting [] f e = refl
none_posted setting (l ∷ t) f e = by_deed_holds l.did.deed refl e (none_posted setting t f.1) where
  by_deed_holds : (deed : Deed) → l.did.deed ≡ deed → taken_after deed (heard (dids t)) ≡ None → (heard (dids t) ≡ None → has_answered (dids t) ≡ false) →
      has_answered_after deed (has_answered (dids t)) ≡ false
  by_deed_holds Begins is e o = refl
  by_deed_holds (Acts (Took from x)) is e o = let bad : ⊥ = cc in absurd bad
  by_deed_holds (Acts (Post Stranger datagram)) is e o =
      let a =
      answering (setup_of setting (node_of l) l.port) datagram l.did (view l.port t) (own_deed setting l t (Acts (Post Stranger datagram)) is f.0).fits in
      none-some (heard (dids t)) _ e (heard_taken setting l.port (record { from = Stranger; taken = Good a.asked }) t f.1 a.took)
  by_deed_holds _ is e o = o e

-- where a port that has taken something may post to a stranger, no port has posted to one in this step
none_answered : (setting : Setting) (q : Port) (r : Received) (own : List Line) → OwnFits setting own → taken (view q own) ≡ Some r →
    is_answered (view q own) ≡ false → has_answered (dids own) ≡ false
none_answered setting q r [] f took none = refl
none_answered setting q r (l ∷ t) f took none = elim (took_split q r l t took) [
  | inl x ↦ ap (λ d. has_answered_after d (has_answered (dids t))) x.1 ∙ none_posted setting t f.1 (unheard setting l t r.from r.taken f.0 x.1)
  | inr m ↦ goes m.0.0 m.0.1 m.1 (none_answered setting q r t f.1 m.1)
] where
  seen : (b : Bool) → is_answered (seen_as b l.did ∷ view q t) ≡ false → ((k : Bool) → is_answered_after l.did.deed k ≡ k) → is_answered (view q t) ≡ false
  seen true e still = sym (still (is_answered (view q t))) ∙ e
  seen false e still = e

  goes : (a : Act) → l.did.deed ≡ Acts a → taken (view q t) ≡ Some r → (is_answered (view q t) ≡ false → has_answered (dids t) ≡ false) →
      has_answered_after l.did.deed (has_answered (dids t)) ≡ false
  goes (Post Stranger datagram) is e o =
      let a =
      answering (setup_of setting (node_of l) l.port) datagram l.did (view l.port t) (own_deed setting l t (Acts (Post Stranger datagram)) is f.0).fits in
      let same = one_port setting l.port q (record { from = Stranger; taken = Good a.asked }) r t f.1 a.took e in
      let sees : ((l.port.0 == q.0) || is_shared l.did.deed) ≡ true =
      subst (λ p. ((l.port.0 == p.0) || is_shared l.did.deed) ≡ true) same (sees_own l.port (is_shared l.did.deed)) in
      absurd (true≢false (ap (λ d. is_answered_after d (is_answered (view q t))) (sym is) ∙ (rw sees at none)))
  goes _ is e o =
      ap (λ d. has_answered_after d (has_answered (dids t))) is
      ∙ o (seen ((l.port.0 == q.0) || is_shared l.did.deed) none (λ k. ap (λ d. is_answered_after d k) is))

strangers_at : (setting : Setting) (l : Line) (world : List Line) → Fits setting (l ∷ world) → StrangersAt setting l world
strangers_at setting l world f datagram is =
    let own = of (node_of l) world in
    let a = answering (setup_of setting (node_of l) l.port) datagram l.did (view l.port own) (deed_fits setting l world (Acts (Post Stranger datagram)) is
    f.0).fits in
    record {
      asked = a.asked;
      took = a.took;
      answer = a.answer;
      named = a.named;
      first = none_answered setting l.port (record { from = Stranger; taken = Good a.asked }) own (own_fits setting (node_of l) world f.1) a.took a.first;
    }

-- before an act of a node, what the step of the history's newest line has done is what that node has done in it
current : {A : Type 0} (done : List Did → A) (after : Deed → A → A) → ((d : Did) (t : List Did) → done (d ∷ t) ≡ after d.deed (done t)) →
    ((x y : A) → after Begins x ≡ after Begins y) →
    (setting : Setting) (l : Line) (t : List Line) (a : Act) → Fits setting (l ∷ t) → l.did.deed ≡ Acts a → done (dids (of (node_of l) t)) ≡ done (dids t)
current done after more begins setting l [] a f is = refl
current done after more begins setting l (y ∷ t) a f is =
    let same : y.did.step ≡ l.did.step = subst (λ d. SameStep d l.did.step (dids (y ∷ t))) is f.0.step in
    let node : node_of y ≡ node_of l = ap (λ (s : Step). s.node) same in
    subst (λ n. done (dids (of n (y ∷ t))) ≡ done (dids (y ∷ t))) node (by_deed_holds y.did.deed refl (current done after more begins setting y t))
  where
    newest : after y.did.deed (done (dids (of (node_of y) t))) ≡ after y.did.deed (done (dids t)) → done (dids (of (node_of y) (y ∷ t))) ≡ done (dids (y ∷ t))
    newest e = ap (λ k. done (dids k)) (of_own (node_of y) y t refl) ∙ (more y.did (dids (of (node_of y) t)) ∙ (e ∙ sym (more y.did (dids t))))

    by_deed_holds : (deed : Deed) → y.did.deed ≡ deed → ((a : Act) → Fits setting (y ∷ t) → y.did.deed ≡ Acts a → done (dids (of (node_of y) t)) ≡
        done (dids t)) →
        done (dids (of (node_of y) (y ∷ t))) ≡ done (dids (y ∷ t))
    by_deed_holds Begins is o = newest
        (subst (λ d. after d (done (dids (of (node_of y) t))) ≡ after d (done (dids t))) (sym is) (begins (done (dids (of (node_of y) t))) (done (dids t))))
    by_deed_holds (Acts a) is o = newest (ap (after y.did.deed) (o a f.1 is))

abbrev pending_from : Place → Bool → ℕ
pending_from Stranger false = 1
pending_from _ _ = 0

-- how many answers to strangers the step may still post
abbrev pending : Option Received → Bool → ℕ
pending None answered = 0
pending (Some r) answered = pending_from r.from answered

one_pending : (p : Place) (b : Bool) → pending_from p b ≤ 1
one_pending Stranger false = omega arith
one_pending Stranger true = omega arith
one_pending (Peer p) b = omega arith

-- what may still be posted to strangers is accounted for
counted : (setting : Setting) (w : List Line) → Fits setting w → to_strangers (dids w) + pending (heard (dids w)) (has_answered (dids w)) ≤ from_strangers
    (dids w)
counted setting [] f = omega arith
counted setting (l ∷ t) f = by_deed_holds l.did.deed refl (counted setting t f.1) where
  by_deed_holds : (deed : Deed) → deed ≡ l.did.deed → to_strangers (dids t) + pending (heard (dids t)) (has_answered (dids t)) ≤ from_strangers (dids t) →
      to_strangers_after deed (to_strangers (dids t)) + pending (taken_after deed (heard (dids t))) (has_answered_after deed (has_answered (dids t))) ≤
      from_strangers_after deed (from_strangers (dids t))
  by_deed_holds Begins is o = omega (arith, o)
  by_deed_holds (Acts (Post Stranger datagram)) is o =
      let a = strangers_at setting l t f datagram (sym is) in
      let c = current heard taken_after (λ d t. refl) (λ x y. refl) setting l t (Post Stranger datagram) f (sym is) in
      let took = heard_taken setting l.port (record { from = Stranger; taken = Good a.asked }) (of (node_of l) t) (own_fits setting (node_of l) t f.1) a.took in
      let hears : heard (dids t) ≡ Some (record { from = Stranger; taken = Good a.asked }) = sym c ∙ took in
      let none : has_answered (dids t) ≡ false =
      sym (current has_answered has_answered_after (λ d t. refl) (λ x y. refl) setting l t (Post Stranger datagram) f (sym is)) ∙ a.first in
      let before : pending (heard (dids t)) (has_answered (dids t)) ≡ 1 = ap (λ b. pending (heard (dids t)) b) none ∙ ap (λ h. pending h false) hears in
      let after : pending (heard (dids t)) true ≡ 0 = ap (λ h. pending h true) hears in
      omega (arith, o, before, after)
  by_deed_holds (Acts (Took Stranger x)) is o = let few = one_pending Stranger (has_answered (dids t)) in omega (arith, o, few)
  by_deed_holds (Acts (Took (Peer p) x)) is o = omega (arith, o)
  by_deed_holds _ is o = o

pub answered : (setting : Setting) (world : List Line) → Fits setting world → Finished setting world → Answered setting world
answered setting world f end = record {
  takes_one = Everywhere_from TakesOneAt world (λ l s w from t is.
      ap heard (sym (plain_view l.port (of (node_of l) s))) ∙ deed_fits setting l s (Acts (Took from t)) is (fits_at setting (l ∷ s) world f w).0);
  quits = Everywhere_from QuitsAt world (λ l s w p is.
      let g = fits_at setting (l ∷ s) world f w in
      quits_of setting l s p (of (node_of l) s) (own_fits setting (node_of l) s g.1) refl (deed_fits setting l s (Acts (Quit p)) is g.0));
  heeded = record {
    marks = Everywhere_from (λ (l : Line) (before : List Line). l.did.deed ≡ Begins → (q : Port) →
        unheeded (setup_of setting (node_of l) q).peers (view q (of (node_of l) before)) ≡ None) world
        (λ l s w is q. (mark_fits setting l s is (fits_at setting (l ∷ s) world f w).0 q).heeds);
    ends = λ n q. (end n q).heeds;
  };
  acknowledged = record {
    marks = Everywhere_from (λ (l : Line) (before : List Line). l.did.deed ≡ Begins → (q : Port) → unacknowledged (view q (of (node_of l) before)) ≡ None)
        world (λ l s w is q. (mark_fits setting l s is (fits_at setting (l ∷ s) world f w).0 q).acknowledged);
    ends = λ n q. (end n q).acknowledged;
  };
  -- each answer answers what its step took from there
  answers = Everywhere_from AnswersAt world (λ l s w to datagram is answer.
      let owes = deed_fits setting l s (Acts (Post to datagram)) is (fits_at setting (l ∷ s) world f w).0 in
      let a = answers_asked (setup_of setting (node_of l) l.port) to datagram l.did (view l.port (of (node_of l) s)) owes.fits answer in
      record { asked = a.asked; took = a.took; answer = a.answer });
  strangers = Everywhere_from (StrangersAt setting) world (λ l s w. strangers_at setting l s (fits_at setting (l ∷ s) world f w));
  one_for_one = Everywhere_from OneForOneAt world (λ l s w. let c = counted setting (l ∷ s) (fits_at setting (l ∷ s) world f w) in omega (arith, c));
}
