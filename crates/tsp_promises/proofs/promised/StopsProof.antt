-- Rivals that take the QUITs of one resolution lead no more. Lines of one step, and where steps have ended.
use Rattle.std.proofs.Common.{sym, ap, arith, subst, inl, inr, eqb-true, ◌∙◌, ◌≡◌, ◌==◌, ◌≤◌, Bool, true, false, ℕ, List, [], ◌∷◌, refl, eq-eqb, ◌||◌, ◌<◌, ◌+◌}
use Rattle.tsp_rules.specs.Values.{Act, Port, Boot, Post, Become, Ring, Quit, ResolveAlarm, Message, PeerId, Peer, Role, Follow, Master, ELECT_MIN, LIFE}
use Rattle.tsp_base.specs.Words.{Begins, Acts, Deed, Did, Line, Step, of, dids, view, time_of, Within, steps, steps_after, Seen, Here, plain, seen_as}
use Rattle.tsp_base.specs.Words.{is_shared, boot_tick, tick_of, is_among, role, role_after, begun_to, peer_of, MessageValue}
use Rattle.tsp_base.proofs.PlaceLemmas.{Within_comparable, Within_none, Within_tail, Within_through}
use Rattle.tsp_base.proofs.{ViewPlaces.sees_own, ViewPlaces.Within_dids, Views.plain_view}
use Rattle.tsp_promises.proofs.promised.OwnFitsProof.{mark_fits, own_fits, fits_at, of_tick, place_time, fits_in}
use Rattle.tsp_promises.specs.{Everywhere.Everywhere, Fits.Finished, Fits.Fits, Fits.LineFits, Fits.SameStep, Fits.node_of, Fits.Sees}
use Rattle.tsp_promises.specs.{Premises.Life, Premises.TakenWithinAt, Resolved.StopsBy, Resolved.StopsLeading, Resolved.TakesQuit}
use Rattle.tsp_promises.specs.{OwnFits.OwnFits, Setting.Setting, Setting.setup_of, StepFacts.StepEnds, StepFacts.owes, StepFacts.owes_after}
use Rattle.tsp_promises.{proofs.promised.SinceProof.quit_late, specs.DeedFits.DeedFits}
use Rattle.tsp_promises.proofs.{shared.HistoryPlaces.line_on, shared.HistoryPlaces.of_other, shared.HistoryPlaces.of_own, shared.HistoryPlaces.own_in}
use Rattle.tsp_promises.proofs.{promised.SinceProof.since}
use Rattle.tsp_promises.proofs.{shared.Clocks.near, shared.EverywhereLemmas.Everywhere_from, shared.EverywhereLemmas.Everywhere_within}
use Rattle.tsp_promises.proofs.{shared.SendPlaces.send_place}

-- each act is of the step of the deed before it
abbrev pub Stepped : List Did → Type 0
Stepped = Everywhere (λ (d : Did) (before : List Did). SameStep d.deed d.step before)

pub own_stepped : (setting : Setting) (t : List Line) → OwnFits setting t → Stepped (dids t)
own_stepped setting [] f = tt
own_stepped setting (l ∷ t) f = (f.0.step, own_stepped setting t f.1)

pub all_stepped : (setting : Setting) (t : List Line) → Fits setting t → Stepped (dids t)
all_stepped setting [] f = tt
all_stepped setting (l ∷ t) f = (f.0.step, all_stepped setting t f.1)

steps_deed : (deed : Deed) (n : ℕ) → n ≤ steps_after deed n
steps_deed Begins n = omega arith
steps_deed _ n = omega arith

steps_mono : (s t : List Did) → Within s t → steps s ≤ steps t
steps_mono s [] e = subst (λ w. steps w ≤ 0) (sym e) (omega arith)
steps_mono s (d ∷ t) (inl e) = subst (λ w. steps w ≤ steps (d ∷ t)) (sym e) (omega arith)
steps_mono s (d ∷ t) (inr w) = omega (arith, steps_mono s t w, steps_deed d.deed (steps t))

-- the newest deed is of this step
abbrev NewestOf : List Did → Step → Type 0
NewestOf [] step = ⊥
NewestOf (d ∷ before) step = d.step ≡ step

newest_act : (a : Act) (d : Did) (t : List Did) (step : Step) → SameStep (Acts a) d.step t → NewestOf t step → d.step ≡ step
newest_act a d [] step same n = absurd n
newest_act a d (x ∷ t) step same n = sym same ∙ n

newest_deed : (a : Did) (s : List Did) (d : Did) (t : List Did) (deed : Deed) → Within (a ∷ s) t → steps (a ∷ s) ≡ steps_after deed (steps t) →
    SameStep deed d.step t → (steps (a ∷ s) ≡ steps t → NewestOf t a.step) → d.step ≡ a.step
newest_deed a s d t Begins w e same h = absurd (omega (arith, steps_mono (a ∷ s) t w))
newest_deed a s d t (Acts x) w e same h = newest_act x d t a.step same (h e)

-- where no step has begun since a deed, the newest deed is of its step
newest : (a : Did) (s t : List Did) → Stepped t → Within (a ∷ s) t → steps (a ∷ s) ≡ steps t → NewestOf t a.step
newest a s [] f w e = Within_none a s w
newest a s (d ∷ t) f (inl i) e = let same : a ≡ d = cc in ap (λ (z : Did). z.step) (sym same)
newest a s (d ∷ t) f (inr w) e = newest_deed a s d t d.deed w e f.0 (newest a s t f.1 w)

-- and its time is the history's
pub last_time : (a : Did) (s t : List Did) → Stepped t → Within (a ∷ s) t → steps (a ∷ s) ≡ steps t → time_of t ≡ a.step.at
last_time a s t f w e = at t (newest a s t f w e) where
  at : (t : List Did) → NewestOf t a.step → time_of t ≡ a.step.at
  at [] n = absurd n
  at (d ∷ t) n = ap (λ (z : Step). z.at) n

-- two acts with as many steps before them are of one step
pub one_step : (a b : Did) (s r t : List Did) → Stepped t → Within (a ∷ s) t → Within (b ∷ r) t → steps (a ∷ s) ≡ steps (b ∷ r) → (x y : Act) → a.deed ≡
    Acts x → b.deed ≡ Acts y → a.step ≡ b.step
one_step a b s r t f v w e x y is_a is_b = elim (Within_comparable (a ∷ s) (b ∷ r) t v w) [
  | inl (inl i) ↦ let same : a ≡ b = cc in ap (λ (z : Did). z.step) same
  | inl (inr i) ↦ sym (newest a s (b ∷ r) (stepped_at (b ∷ r) t f w) (inr i) e)
  | inr (inl i) ↦ let same : b ≡ a = cc in ap (λ (z : Did). z.step) (sym same)
  | inr (inr i) ↦ newest b r (a ∷ s) (stepped_at (a ∷ s) t f v) (inr i) (sym e)
] where
  stepped_at : (s t : List Did) → Stepped t → Within s t → Stepped s
  stepped_at s [] f e = subst (λ z. Stepped z) (sym e) f
  stepped_at s (d ∷ t) f (inl e) = subst (λ z. Stepped z) (sym e) f
  stepped_at s (d ∷ t) f (inr w) = stepped_at s t f.1 w

-- every other node than that of the newest line has ended its step
abbrev OthersEnd : Setting → List Line → Type 0
OthersEnd setting [] = (n : ℕ) (q : Port) → StepEnds (setup_of setting n q) (view q (of n []))
OthersEnd setting (x ∷ t) = (n : ℕ) (q : Port) → (node_of x == n) ≡ false → StepEnds (setup_of setting n q) (view q (of n (x ∷ t)))

ended_mark : (setting : Setting) (x : Line) (t : List Line) → LineFits setting x t → x.did.deed ≡ Begins → OthersEnd setting (x ∷ t) → Finished setting t
ended_mark setting x t f is o n q = by_node (node_of x == n) refl where
  by_node : (b : Bool) → (node_of x == n) ≡ b → StepEnds (setup_of setting n q) (view q (of n t))
  by_node true e = subst (λ k. StepEnds (setup_of setting k q) (view q (of k t))) (eqb-true (node_of x) n e) (mark_fits setting x t is f q)
  by_node false e = subst (λ w. StepEnds (setup_of setting n q) (view q w)) (of_other n x t e) (o n q e)

finished_others : (setting : Setting) (t : List Line) → Finished setting t → OthersEnd setting t
finished_others setting [] o = o
finished_others setting (y ∷ t) o = λ n q e. o n q

ended_act : (setting : Setting) (a : Act) (x : Line) (t : List Line) → SameStep (Acts a) x.did.step (dids t) → OthersEnd setting (x ∷ t) → OthersEnd setting t
ended_act setting a x [] same o = absurd same
ended_act setting a x (y ∷ t) same o = λ n q e.
    let node : node_of y ≡ node_of x = ap (λ (s : Step). s.node) same in
    let other : (node_of x == n) ≡ false = subst (λ k. (k == n) ≡ false) node e in
    subst (λ w. StepEnds (setup_of setting n q) (view q w)) (of_other n x (y ∷ t) other) (o n q other)

ended_before : (setting : Setting) (x : Line) (t : List Line) (deed : Deed) → deed ≡ x.did.deed → LineFits setting x t → OthersEnd setting (x ∷ t) →
    OthersEnd setting t
ended_before setting x t Begins is f o = finished_others setting t (ended_mark setting x t f (sym is) o)
ended_before setting x t (Acts a) is f o = ended_act setting a x t (subst (λ k. SameStep k x.did.step (dids t)) (sym is) f.step) o

ended_in : (setting : Setting) (s h : List Line) → Fits setting h → OthersEnd setting h → Within s h → OthersEnd setting s
ended_in setting s [] f o e = subst (λ w. OthersEnd setting w) (sym e) o
ended_in setting s (x ∷ h) f o (inl e) = subst (λ w. OthersEnd setting w) (sym e) o
ended_in setting s (x ∷ h) f o (inr w) = ended_in setting s h f.1 (ended_before setting x h x.did.deed refl f.0 o) w

-- where a port leads after a QUIT, it owes its step's end to follow somebody
record Owing (seen : List Seen) : Type 0 where
  pub peer : PeerId
  pub is : is_among peer (owes seen) ≡ true

-- the first of a list is among it
first_among : (p : PeerId) (ps : List PeerId) → is_among p (p ∷ ps) ≡ true
first_among p ps = rw (eq-eqb p.0 p.0 refl) refl

-- a port that becomes master has been quiet since a Quit
quiet_own : (setting : Setting) (q : Port) (p : PeerId) (x l : Line) (rest t : List Line) → OwnFits setting (l ∷ t) → Sees q l → l.did.deed ≡
    Acts (Become Master) → x.did.deed ≡ Acts (Quit p) → Sees q x → Within (x ∷ rest) t → x.did.tick + ELECT_MIN ≤ l.did.tick
quiet_own setting q p x l rest t f sees is quit x_sees w =
    let i = since setting (x ∷ rest) t f.1 w in
    let fits = subst (λ k. DeedFits (setup_of setting (node_of l) q) k l.did (view q t)) is (f.0.deeds q sees) in
    let rested : boot_tick (dids t) + ELECT_MIN ≤ l.did.tick = subst (λ k. boot_tick k + ELECT_MIN ≤ l.did.tick) (plain_view q t) fits.rested in
    elim i.life [
      | inr new ↦ omega (arith, new.boot)
      | inl one ↦ let late = quit_late setting q p x rest t f.1 quit x_sees w one.lives in omega (arith, late.by, fits.quiet late.at late.is)
    ]

owing_deed : (setting : Setting) (q : Port) (p : PeerId) (x l : Line) (rest t : List Line) (limit : ℕ) (deed : Deed) → deed ≡ l.did.deed →
    OwnFits setting (l ∷ t) → Sees q l → DeedFits (setup_of setting (node_of l) q) deed l.did (view q t) → x.did.deed ≡ Acts (Quit p) → Sees q x →
    Within (x ∷ rest) t → l.did.tick ≤ limit → limit < x.did.tick + ELECT_MIN → (role (view q t) ≡ Master → Owing (view q t)) →
    role_after deed (role (view q t)) ≡ Master → (peer : PeerId) × (is_among peer (owes_after deed (role (view q t)) (owes (view q t))) ≡ true)
owing_deed setting q p x l rest t limit Begins is f sees fits quit x_sees w by soon h e =
    let o = h e in
    let bad : ⊥ = (let k : Follow o.peer ≡ Master = sym (fits.follows o.peer o.is) ∙ e in cc) in absurd bad
owing_deed setting q p x l rest t limit (Acts Boot) is f sees fits quit x_sees w by soon h e = let bad : ⊥ = cc in absurd bad
owing_deed setting q p x l rest t limit (Acts (Become r)) is f sees fits quit x_sees w by soon h e =
    let lead : l.did.deed ≡ Acts (Become Master) = sym is ∙ ap (λ (z : Role). Acts (Become z)) e in
    absurd (omega (arith, quiet_own setting q p x l rest t f sees lead quit x_sees w))
owing_deed setting q p x l rest t limit (Acts (Quit r)) is f sees fits quit x_sees w by soon h e = (r, rw e (first_among r (owes (view q t))))
owing_deed setting q p x l rest t limit _ is f sees fits quit x_sees w by soon h e = let o = h e in (o.peer, o.is)

owing : (setting : Setting) (q : Port) (p : PeerId) (x : Line) (rest t : List Line) (limit : ℕ) → OwnFits setting t → x.did.deed ≡ Acts (Quit p) → Sees q x →
    Within (x ∷ rest) t → tick_of (dids t) ≤ limit → limit < x.did.tick + ELECT_MIN →
    role (view q t) ≡ Master → Owing (view q t)
owing setting q p x rest [] limit f quit sees w by soon e = Within_none x rest w
owing setting q p x rest (l ∷ t) limit f quit sees (inl s) by soon e =
    let here : role (view q (x ∷ rest)) ≡ Master = subst (λ k. role (view q k) ≡ Master) (sym s) e in
    let before : role (view q rest) ≡ Master = at-quit here in
    subst (λ k. Owing (view q k)) s (rw sees (record { peer = p; is = rw (quit, before) (first_among p (owes (view q rest))) }))
  where
    at-quit : role (view q (x ∷ rest)) ≡ Master → role (view q rest) ≡ Master
    at-quit h = (let k = sees in rw (sees, quit) at h)
owing setting q p x rest (l ∷ t) limit f quit sees (inr w) by soon e =
    more ((l.port.0 == q.0) || is_shared l.did.deed) refl (owing setting q p x rest t limit f.1 quit sees w (omega (arith, f.0.tick)) soon) e
  where
    more : (b : Bool) → ((l.port.0 == q.0) || is_shared l.did.deed) ≡ b → (role (view q t) ≡ Master → Owing (view q t)) → role (seen_as b l.did ∷ view q t) ≡
        Master → Owing (seen_as b l.did ∷ view q t)
    more true b h e = let o = owing_deed setting q p x l rest t limit l.did.deed refl f b (f.0.deeds q b) quit sees w by soon h e in
        record { peer = o.0; is = o.1 }
    more false b h e = let o = h e in record { peer = o.peer; is = o.is }

-- when a QUIT's step comes, counted from the alarm's step
record Times (ring x : Line) : Type 0 where
  pub after : ring.did.step.at ≤ x.did.step.at
  pub soon : x.did.step.at ≤ ring.did.step.at + 34004007

-- the send of the QUIT begins in the alarm's step
begins_then : (setting : Setting) (m : ℕ) (q : Port) (ring : Line) (past fw h : List Line) (first : Did) (p : PeerId) (message : MessageValue) →
    Fits setting h → Within (ring ∷ past) h → node_of ring ≡ m → ring.did.deed ≡ Acts (Ring ResolveAlarm) →
    Within (line_on q first ∷ fw) h → first.step.node ≡ m → first.deed ≡ Acts (Post (Peer p) (Message message)) → steps (plain (view q (of m fw))) ≡
    steps (dids (of m (ring ∷ past))) → first.step ≡ ring.did.step
begins_then setting m q ring past fw h first p message f ring_in ring_node rings first_in first_node deed same =
    let own = own_stepped setting (of m h) (own_fits setting m h f) in
    let a : Within (first ∷ dids (of m fw)) (dids (of m h)) = Within_dids (line_on q first ∷
    of m fw) (of m h) (own_in m (line_on q first) fw h first_node first_in) in
    let b : Within (ring.did ∷ dids (of m past)) (dids (of m h)) = Within_dids (ring ∷ of m past) (of m h) (own_in m ring past h ring_node ring_in) in
    let count_a : steps (first ∷ dids (of m fw)) ≡ steps (plain (view q (of m fw))) = rw deed (ap steps (sym (plain_view q (of m fw)))) in
    let count_b : steps (dids (of m (ring ∷ past))) ≡ steps (ring.did ∷ dids (of m past)) = ap (λ z. steps (dids z)) (of_own m ring past ring_node) in
    one_step first ring.did (dids (of m fw)) (dids (of m past)) (dids (of m h)) own a b (count_a ∙ (same ∙ count_b)) (Post (Peer p) (Message message))
    (Ring ResolveAlarm) deed rings

takes_times : (setting : Setting) (ring x : Line) (rpast xpast h : List Line) → Fits setting h → Life h → Within (ring ∷ rpast) h → ring.did.deed ≡
    Acts (Ring ResolveAlarm) → Within (x ∷ xpast) h → TakesQuit ring rpast x xpast → Times ring x
takes_times setting ring x rpast xpast h f life ring_in rings x_in t =
    let m = node_of ring in
    let p = t.post in
    let pk = peer_of (node_of x) in
    let fx = fits_at setting (x ∷ xpast) h f x_in in
    let fp = fits_at setting (p ∷ t.older) xpast fx.1 t.place in
    let s = t.of_send in
    let d = send_place setting m (node_of x) p t.older s.message fp t.node s.deed s.numbered in
    let is : begun_to pk (Here p.did ∷ view p.port (of m t.older)) ≡ Here t.first ∷ t.begun =
    subst (λ n. begun_to pk (Here p.did ∷ view p.port (of n t.older)) ≡ Here t.first ∷ t.begun) t.node s.is in
    let both : Here d.first ∷ view p.port (of m d.fw) ≡ Here t.first ∷ t.begun = sym d.is ∙ is in
    let begun_is : view p.port (of m d.fw) ≡ t.begun = cc in
    let line = line_on p.port d.first in
    let d_in : Within (line ∷ d.fw) h = Within_through (line ∷ d.fw) (p ∷ t.older) h d.place (Within_through (p ∷
    t.older) xpast h t.place (Within_tail x xpast h x_in)) in
    let step = begins_then setting m p.port ring rpast d.fw h d.first pk s.message f ring_in refl rings d_in d.node d.sends.deed
    (ap (λ z. steps (plain z)) begun_is ∙ t.step) in
    let at : d.first.step.at ≡ ring.did.step.at = ap (λ (z : Step). z.at) step in
    let came = place_time setting (p ∷ t.older) xpast fx.1 t.place in
    let lives = (Everywhere_within (TakenWithinAt LIFE) (x ∷ xpast) h life x_in).0 p t.older (Peer pk) (Message s.message) t.place s.deed t.takes in
    record { after = omega (arith, d.after, fx.0.order); soon = omega (arith, d.soon) }

stops_by : (setting : Setting) (h : List Line) → Fits setting h → Finished setting h → Life h → StopsBy h
stops_by setting h f end life ring x y past xpast ypast ring_in rings x_in tx y_in ty last leads =
    let r = node_of x in
    let fx = fits_at setting (x ∷ xpast) h f x_in in
    let one = takes_times setting ring x past xpast h f life ring_in rings x_in tx in
    let two = takes_times setting ring y past ypast h f life ring_in rings y_in ty in
    let order : x.did.step.at ≤ time_of (dids h) = place_time setting (x ∷ xpast) h f x_in in
    let now : time_of (dids h) ≡ y.did.step.at = last_time (y.did) (dids ypast) (dids h) (all_stepped setting h f) (Within_dids (y ∷ ypast) h y_in) last in
    let n = near setting r x.did.step.at (time_of (dids h)) order in
    let tick_x : x.did.tick ≡ setting.tick r x.did.step.at = fx.0.tick in
    let limit = setting.tick r (time_of (dids h)) in
    let soon : limit < x.did.tick + ELECT_MIN = (let k = n.most in let a = one.after in let b = two.soon in omega arith) in
    let o = owing setting x.port (peer_of (node_of ring)) x (of r xpast) (of r h) limit (own_fits setting r h f) tx.quits
    (sees_own x.port (is_shared x.did.deed)) (own_in r x xpast h refl x_in) (of_tick setting r h f) soon leads in
    let follows : role (view x.port (of r h)) ≡ Follow o.peer = (end r x.port).follows o.peer o.is in
    not-both o.peer (sym follows ∙ leads)
  where
    not-both : (p : PeerId) → Follow p ≡ Master → ⊥
    not-both p e = cc

pub stops_leading : (setting : Setting) (h : List Line) → Fits setting h → Finished setting h → Life h → StopsLeading h
stops_leading setting h f end life = record {
  marks = Everywhere_from (λ (l : Line) (before : List Line). l.did.deed ≡ Begins → StopsBy before) h (λ l before w is.
      let before_in : Within before h = Within_tail l before h w in
      stops_by setting before (fits_at setting before h f before_in) (ended_mark setting l before (fits_in setting l before h f w) is
      (ended_in setting (l ∷ before) h f (finished_others setting h end) w)) (Everywhere_within (TakenWithinAt LIFE) before h life before_in));
  ends = stops_by setting h f end life;
}
