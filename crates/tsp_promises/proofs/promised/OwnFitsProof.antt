-- A history that fits: the lines of each of its nodes, what a line owes to its own port's past, what a schedule gives,
-- and which place of the history a place is of what a port sees.
use Rattle.std.proofs.Common.{sym, ap, arith, subst, inl, inr, ◌∙◌, ◌≡◌, ℕ, List, [], ◌∷◌, length, refl, ◌==◌, ◌||◌, true, false, eqb-true, Bool, ◌≤◌}
use Rattle.std.proofs.Math.Bool.{or-true}
use Rattle.tsp_rules.specs.Values.{Port, LIFE}
use Rattle.tsp_base.specs.Words.{Did, Line, Here, of, dids, view, plain, Within, Seen, is_shared, Deed, Begins, Acts, Step, time_of, tick_of, seen_as}
use Rattle.tsp_base.proofs.PlaceLemmas.{Within_length, Within_comparable}
use Rattle.tsp_base.proofs.{ViewPlaces.on_port, ViewPlaces.sees_own, ViewPlaces.Within_view, Views.plain_view}
use Rattle.tsp_promises.proofs.shared.HistoryPlaces.{not_behind, own_in, own_same, line_on, lift, of_own}
use Rattle.tsp_promises.specs.{DeedFits.DeedFits, Fits.Fits, Fits.LineFits, Fits.node_of, Fits.Alive, Fits.SameStep, Fits.Sees}
use Rattle.tsp_promises.specs.{Premises.Honest, Premises.HonestAt, Premises.Life, Premises.TakenWithinAt, Setting.Setting, Setting.setup_of}
use Rattle.tsp_promises.specs.{OwnFits.OwnFits, OwnFits.OwnLineFits, PortFits.PortFits}
use Rattle.tsp_promises.proofs.{shared.Clocks.tick_mono, shared.EverywhereLemmas.Everywhere_at, shared.EverywhereLemmas.Everywhere_within}

-- a line's tick, by its node's number
pub tick_is : (setting : Setting) (n : ℕ) (l : Line) (world : List Line) → node_of l ≡ n → LineFits setting l world → l.did.tick ≡ setting.tick n l.did.step.at
tick_is setting n l world same f = subst (λ k. l.did.tick ≡ setting.tick k l.did.step.at) same f.tick

-- the line before in the history is the line before of the node
pub own_step : (deed : Deed) (step : Step) (n : ℕ) (world : List Line) → step.node ≡ n → SameStep deed step (dids world) →
    SameStep deed step (dids (of n world))
own_step Begins step n world same e = tt
own_step (Acts a) step n [] same e = e
own_step (Acts a) step n (x ∷ world) same e =
    let node : node_of x ≡ n = ap (λ (s : Step). s.node) e ∙ same in
    rw (of_own n x world node) e

own_line_fits : (setting : Setting) (n : ℕ) (l : Line) (world : List Line) → node_of l ≡ n → LineFits setting l world →
    time_of (dids (of n world)) ≤ time_of (dids world) → tick_of (dids (of n world)) ≤ setting.tick n (time_of (dids world)) →
    OwnLineFits setting l (of n world)
own_line_fits setting n l world same f time tick = record {
  time = omega (arith, f.order);
  tick = omega (arith, tick_mono setting n (time_of (dids world)) l.did.step.at f.order, tick_is setting n l world same f);
  step = own_step l.did.deed l.did.step n world same f.step;
  alive = subst (λ k. Alive setting l.did.deed l.did (dids (of k world))) same f.alive;
  deeds = λ q s. subst (λ k. DeedFits (setup_of setting (node_of l) q) l.did.deed l.did (view q (of k world))) same (f.deeds q s);
}

-- what holds of a node's lines, by what it is before each line: one of its own, or another's
pub node_walk : (setting : Setting) (n : ℕ) (P : List Line → List Line → Type 0) → P [] [] →
    ((l : Line) (world : List Line) → Fits setting (l ∷ world) → node_of l ≡ n → P world (of n world) → P (l ∷ world) (l ∷ of n world)) →
    ((l : Line) (world : List Line) → Fits setting (l ∷ world) → P world (of n world) → P (l ∷ world) (of n world)) → (world : List Line) →
    Fits setting world → P world (of n world)
node_walk setting n P none mine other [] f = none
node_walk setting n P none mine other (l ∷ world) f = by_node (node_of l == n) refl (node_walk setting n P none mine other world f.1) where
  by_node : (b : Bool) → (node_of l == n) ≡ b → P world (of n world) → P (l ∷ world) (of n (l ∷ world))
  by_node true e h = rw e (mine l world f (eqb-true (node_of l) n e) h)
  by_node false e h = rw e (other l world f h)

-- the last line of a node isn't later than the history
pub of_time : (setting : Setting) (n : ℕ) (world : List Line) → Fits setting world → time_of (dids (of n world)) ≤ time_of (dids world)
of_time setting n =
    node_walk setting n (λ world own. time_of (dids own) ≤ time_of (dids world)) (omega arith) (λ l world f node h. omega arith)
    (λ l world f h. omega (arith, f.0.order, h))

pub of_tick : (setting : Setting) (n : ℕ) (world : List Line) → Fits setting world → tick_of (dids (of n world)) ≤ setting.tick n (time_of (dids world))
of_tick setting n = node_walk setting n (λ world own. tick_of (dids own) ≤ setting.tick n (time_of (dids world))) (omega arith)
    (λ l world f node h. omega (arith, tick_is setting n l world node f.0))
    (λ l world f h. omega (arith, tick_mono setting n (time_of (dids world)) l.did.step.at f.0.order, h))

pub own_fits : (setting : Setting) (n : ℕ) (world : List Line) → Fits setting world → OwnFits setting (of n world)
own_fits setting n = node_walk setting n (λ world own. OwnFits setting own) tt
    (λ l world f node h. (own_line_fits setting n l world node f.0 (of_time setting n world f.1) (of_tick setting n world f.1), h)) (λ l world f h. h)

-- a history that fits, up to a place
pub fits_at : (setting : Setting) (s h : List Line) → Fits setting h → Within s h → Fits setting s
fits_at setting s h f w = Everywhere_within (LineFits setting) s h f w

pub own_fits_at : (setting : Setting) (s h : List Line) → OwnFits setting h → Within s h → OwnFits setting s
own_fits_at setting s h f w = Everywhere_within (OwnLineFits setting) s h f w

-- time doesn't go back from a place on
pub place_time : (setting : Setting) (s h : List Line) → Fits setting h → Within s h → time_of (dids s) ≤ time_of (dids h)
place_time setting s [] f e = subst (λ w. time_of (dids w) ≤ 0) (sym e) (omega arith)
place_time setting s (l ∷ h) f (inl e) = subst (λ w. time_of (dids w) ≤ l.did.step.at) (sym e) (omega arith)
place_time setting s (l ∷ h) f (inr p) = omega (arith, place_time setting s h f.1 p, f.0.order)

-- by what the deed is
pub deed_fits : (setting : Setting) (l : Line) (world : List Line) (deed : Deed) → l.did.deed ≡ deed → LineFits setting l world →
    DeedFits (setup_of setting (node_of l) l.port) deed l.did (view l.port (of (node_of l) world))
deed_fits setting l world deed e f = subst (λ k. DeedFits (setup_of setting (node_of l) l.port) k l.did (view l.port (of (node_of l) world))) e
    (f.deeds l.port (sees_own l.port (is_shared l.did.deed)))

pub own_deed : (setting : Setting) (l : Line) (t : List Line) (deed : Deed) → l.did.deed ≡ deed → OwnLineFits setting l t →
    DeedFits (setup_of setting (node_of l) l.port) deed l.did (view l.port t)
own_deed setting l t deed e f =
    subst (λ k. DeedFits (setup_of setting (node_of l) l.port) k l.did (view l.port t)) e (f.deeds l.port (sees_own l.port (is_shared l.did.deed)))

-- a mark is owed to on every port
pub mark_fits : (setting : Setting) (l : Line) (world : List Line) → l.did.deed ≡ Begins → LineFits setting l world → (q : Port) →
    DeedFits (setup_of setting (node_of l) q) Begins l.did (view q (of (node_of l) world))
mark_fits setting l world is f q =
    let sees : Sees q l = rw is (or-true (l.port.0 == q.0)) in
    subst (λ k. DeedFits (setup_of setting (node_of l) q) k l.did (view q (of (node_of l) world))) is (f.deeds q sees)

-- a line's tick isn't below its node's last
pub own_tick : (setting : Setting) (l : Line) (world : List Line) → Fits setting (l ∷ world) → tick_of (dids (of (node_of l) world)) ≤ l.did.tick
own_tick setting l world f =
    let own : OwnFits setting (l ∷ of (node_of l) world) = subst (λ k. OwnFits setting k) (of_own (node_of l) l world refl) (own_fits setting (node_of l) (l ∷
    world) f) in
    own.0.tick

-- so each deed on a port fits
pub port_fits : (setting : Setting) (n : ℕ) (world : List Line) → Fits setting world → (q : Port) → PortFits (setup_of setting n q) (view q (of n world))
port_fits setting n world f q =
    node_walk setting n (λ world own. PortFits (setup_of setting n q) (view q own)) tt
    (λ l t f node h. here l t f node h ((l.port.0 == q.0) || is_shared l.did.deed) refl) (λ l t f h. h) world f
  where
    here : (l : Line) (t : List Line) → Fits setting (l ∷ t) → node_of l ≡ n → PortFits (setup_of setting n q) (view q (of n t)) →
        (b : Bool) → ((l.port.0 == q.0) || is_shared l.did.deed) ≡ b → PortFits (setup_of setting n q) (seen_as b l.did ∷ view q (of n t))
    here l t f same rest true e = (subst (λ k. DeedFits (setup_of setting k q) l.did.deed l.did (view q (of k t))) same (f.0.deeds q e), rest)
    here l t f same rest false e = rest

-- what a schedule gives
pub record Given (setting : Setting) (world : List Line) : Type 0 where
  pub fits : Fits setting world
  pub honest : Honest world
  pub life : Life world

pub given : (setting : Setting) (world : List Line) → Fits setting world → Honest world → Life world → Given setting world
given setting world f honest life = record { fits = f; honest = honest; life = life }

pub given_at : (setting : Setting) (s h : List Line) → Given setting h → Within s h → Given setting s
given_at setting s h g w = record {
  fits = fits_at setting s h g.fits w;
  honest = Everywhere_within HonestAt s h g.honest w;
  life = Everywhere_within (TakenWithinAt LIFE) s h g.life w;
}

-- the place in the history of a deed that port q of node n sees as its own
pub record Located (n : ℕ) (q : Port) (world : List Line) (d : Did) (vs : List Seen) : Type 0 where
  pub older : List Line
  pub place : Within (line_on q d ∷ older) world
  pub node : d.step.node ≡ n
  pub before : view q (of n older) ≡ vs

pub locate : (n : ℕ) (q : Port) (world : List Line) (d : Did) (vs : List Seen) → is_shared d.deed ≡ false → Within (Here d ∷ vs) (view q (of n world)) →
    Located n q world d vs
locate n q world d vs own w =
    let o = on_port q (of n world) d vs own w in
    let l = lift n world (line_on q d) o.rest o.place in
    record { older = l.world; place = l.place; node = l.node; before = ap (view q) l.own ∙ o.before }

-- what port q of node n sees after its own line
pub view_line : (n : ℕ) (l : Line) (older : List Line) → node_of l ≡ n → view l.port (of n (l ∷ older)) ≡ Here l.did ∷ view l.port (of n older)
view_line n l older node =
    let b : ((l.port.0 == l.port.0) || is_shared l.did.deed) ≡ true = sees_own l.port (is_shared l.did.deed) in
    rw (of_own n l older node) (rw b refl)

-- a place of the history is a place of what its port sees
pub seen_in : (n : ℕ) (l : Line) (older world : List Line) → node_of l ≡ n → Within (l ∷ older) world →
    Within (Here l.did ∷ view l.port (of n older)) (view l.port (of n world))
seen_in n l older world node w =
    let own : Within (l ∷ of n older) (of n world) = own_in n l older world node w in
    let v = Within_view l.port (l ∷ of n older) (of n world) own in
    let b : ((l.port.0 == l.port.0) || is_shared l.did.deed) ≡ true = sees_own l.port (is_shared l.did.deed) in
    rw b at v

-- the line at a place fits
pub fits_in : (setting : Setting) (l : Line) (older world : List Line) → Fits setting world → Within (l ∷ older) world → LineFits setting l older
fits_in setting l older world f w = Everywhere_at (LineFits setting) l older world f w

pub tick_in : (setting : Setting) (n : ℕ) (l : Line) (older world : List Line) → Fits setting world → node_of l ≡ n → Within (l ∷ older) world → l.did.tick ≡
    setting.tick n l.did.step.at
tick_in setting n l older world f node w = tick_is setting n l older node (fits_in setting l older world f w)

-- order of what a port sees is order in the history
pub seen_before : (m : ℕ) (q : Port) (s t : Did) (a b h : List Line) → s.step.node ≡ m → t.step.node ≡ m → Within (line_on q s ∷ a) h →
    Within (line_on q t ∷ b) h → Within (Here s ∷ view q (of m a)) (view q (of m b)) → Within (line_on q s ∷ a) b
seen_before m q s t a b h sn tn v w o = elim (Within_comparable (line_on q s ∷ a) (line_on q t ∷ b) h v w) [
  | inl (inl e) ↦ absurd (late (inl (sym e)))
  | inl (inr i) ↦ i
  | inr i ↦ absurd (late i)
] where
  late : Within (line_on q t ∷ b) (line_on q s ∷ a) → ⊥
  late i =
      let seen = seen_in m (line_on q t) b (line_on q s ∷ a) tn i in
      not_behind (Here s) (Here t) (view q (of m a)) (view q (of m b)) o
      (subst (λ z. Within (Here t ∷ view q (of m b)) z) (view_line m (line_on q s) a sn) seen)

dids_length : (s : List Line) → length (dids s) ≡ length s
dids_length [] = refl
dids_length (l ∷ s) = omega (arith, dids_length s)

-- a place is named by how much stands before it
place_same : {A : Type 0} (a b : A) (s t h : List A) → Within (a ∷ s) h → Within (b ∷ t) h → length s ≡ length t → a ∷ s ≡ b ∷ t
place_same a b s t h v w e = elim (Within_comparable (a ∷ s) (b ∷ t) h v w) [
  | inl (inl k) ↦ k
  | inl (inr k) ↦ absurd (omega (arith, Within_length (a ∷ s) t k))
  | inr (inl k) ↦ sym k
  | inr (inr k) ↦ absurd (omega (arith, Within_length (b ∷ t) s k))
]

-- one place of what two ports see is one place of the history
pub seen_same : (m : ℕ) (q r : Port) (s t : Did) (a b h : List Line) → s.step.node ≡ m → t.step.node ≡ m → Within (line_on q s ∷ a) h →
    Within (line_on r t ∷ b) h → Here s ∷ view q (of m a) ≡ Here t ∷ view r (of m b) → line_on q s ∷ a ≡ line_on r t ∷ b
seen_same m q r s t a b h sn tn v w e =
    let rest : view q (of m a) ≡ view r (of m b) = cc in
    let same : dids (of m a) ≡ dids (of m b) = sym (plain_view q (of m a)) ∙ (ap plain rest ∙ plain_view r (of m b)) in
    let long : length (of m a) ≡ length (of m b) = sym (dids_length (of m a)) ∙ (ap length same ∙ dids_length (of m b)) in
    own_same m (line_on q s) (line_on r t) a b h sn tn v w
    (place_same (line_on q s) (line_on r t) (of m a) (of m b) (of m h) (own_in m (line_on q s) a h sn v) (own_in m (line_on r t) b h tn w) long)
