-- The shown clock runs on between steps, and meets its target.
use Rattle.std.proofs.Common.{arith, subst, sym, inl, inr, eqb-true, true≢false, ◌∙◌, ◌≡◌, ◌==◌, ◌≤◌, ◌⊎◌, ℕ, ◌+◌, ◌-◌, ◌*◌, ◌/◌, ℤ, pos, negsuc, ◌+ℤ◌, ◌-ℤ◌}
use Rattle.std.proofs.Common.{nat_abs, Bool, true, false, List, [], ◌∷◌, refl}
use Rattle.std.proofs.lemmas.Int.{ints}
use Rattle.tsp_rules.specs.Values.{Boot, Correct, SLEW}
use Rattle.tsp_base.specs.Words.{Deed, Begins, Acts, Did, Line, of, dids, boot_after, boot_tick, eased, last_correct, last_correct_after, lives, lives_after}
use Rattle.tsp_base.specs.Words.{moved, moved_after, rest, rest_after, shown, target, tick_of, time_of, wall, wall_after, Within, width}
use Rattle.tsp_promises.specs.{Fits.Fits, Fits.node_of, OwnFits.OwnFits, Setting.Setting, ClockAt.shown_at}
use Rattle.tsp_promises.specs.Steady.{Advances, Meets, MeetsBy, NoneStepped, RunsOn, RunsOverTime, Steady, SteadyAt}
use Rattle.tsp_promises.proofs.{shared.Clocks.tick_mono, shared.Clocks.ticks_over, shared.EverywhereLemmas.Everywhere_from, promised.OwnFitsProof.tick_in}
use Rattle.tsp_promises.proofs.{shared.HistoryPlaces.of_other, shared.HistoryPlaces.of_own, shared.HistoryPlaces.Within_of, promised.SinceProof.last_by}
use Rattle.tsp_promises.proofs.{promised.SinceProof.since}
use Rattle.tsp_promises.proofs.promised.OwnFitsProof.{fits_at, node_walk, own_fits, tick_is}
use Rattle.tsp_base.proofs.TickLemmas.{eased_none}

-- more slewing changes a rest by no more than itself
eased_by : (r : ℤ) (n m : ℕ) → n ≤ m → nat_abs (eased r m -ℤ eased r n) ≤ m - n
eased_by (pos r) n m h = grind (arith, ints)
eased_by (negsuc r) n m h = grind (arith, ints)

-- two readings, at the ticks x and y, are apart as the ticks are, give or take one in two hundred of them and c besides
abbrev pub Near : ℕ → ℤ → ℤ → ℕ → ℕ → Type 0
Near c early late x y = 200 * nat_abs ((late -ℤ early) -ℤ pos (y - x)) ≤ (y - x) + c

between : (a e f : ℤ) (x y d : ℕ) → x ≤ y → nat_abs (f -ℤ e) ≤ d → nat_abs ((((a +ℤ pos y) -ℤ f) -ℤ ((a +ℤ pos x) -ℤ e)) -ℤ pos (y - x)) ≤ d
between a e f x y d h k = omega (arith, ints)

-- by as much as is slewed between
slewed_by : (t : List Did) (x y : ℕ) → x ≤ y → nat_abs ((shown t y -ℤ shown t x) -ℤ pos (y - x)) ≤ (y - last_correct t) / 200 - (x - last_correct t) / 200
slewed_by t x y k =
    let c = last_correct t in
    let n : (x - c) / 200 ≤ (y - c) / 200 = omega arith in
    let e = eased_by (rest t) ((x - c) / 200) ((y - c) / 200) n in
    between ((wall t -ℤ pos (boot_tick t)) +ℤ moved t) (eased (rest t) ((x - c) / 200)) (eased (rest t) ((y - c) / 200)) x y ((y - c) / 200 - (x - c) / 200) k e

-- in one stretch
stretch : (t : List Did) (x y : ℕ) → last_correct t ≤ x → x ≤ y → Near 199 (shown t x) (shown t y) x y
stretch t x y h k = let b = slewed_by t x y k in omega (arith, b)

-- and nothing besides from its beginning on
pub stretch_from : (t : List Did) (x y : ℕ) → last_correct t ≡ x → x ≤ y → Near 0 (shown t x) (shown t y) x y
stretch_from t x y h k = let b = slewed_by t x y k in omega (arith, b, h)

-- what a deed leaves to show
abbrev shown_by : Deed → Did → List Did → ℕ → ℤ
shown_by deed d b y =
    (((wall_after deed d.step.cause (wall b) -ℤ pos (boot_after deed d.tick (boot_tick b))) +ℤ moved_after deed (moved b)) +ℤ pos y)
    -ℤ eased (rest_after deed (eased (rest b) ((d.tick - last_correct b) / SLEW)) (rest b)) ((y - last_correct_after deed d.tick (last_correct b)) / SLEW)

slewed_on : (a e r amount f : ℤ) (x y d : ℕ) → x ≤ y → r ≡ e +ℤ amount → nat_abs (f -ℤ r) ≤ d →
    nat_abs (((((a +ℤ amount) +ℤ pos y) -ℤ f) -ℤ ((a +ℤ pos x) -ℤ e)) -ℤ pos (y - x)) ≤ d
slewed_on a e r amount f x y d h k l = omega (arith, ints)

reorder : (w m a : ℤ) → w +ℤ (m +ℤ a) ≡ (w +ℤ m) +ℤ a
reorder w m a = omega (arith, ints)

-- a deed changes nothing of it, or is a Correct that leaves what was shown and then slews
abbrev Onward : Deed → Did → List Did → Type 0
Onward deed d b = ((y : ℕ) → shown_by deed d b y ≡ shown b y) ⊎ ((y : ℕ) → d.tick ≤ y →
    200 * nat_abs ((shown_by deed d b y -ℤ shown b d.tick) -ℤ pos (y - d.tick)) ≤ y - d.tick)

onward : (deed : Deed) (d : Did) (b : List Did) → lives_after deed (lives b) ≡ lives b → ((amount : ℤ) (stepped : Bool) (value : ℤ) → deed ≡
    Acts (Correct amount stepped value) → stepped ≡ false) → Onward deed d b
onward Begins d b j none = inl (λ y. refl)
onward (Acts Boot) d b j none = absurd (omega (arith, j))
onward (Acts (Correct amount true value)) d b j none = absurd (true≢false (none amount true value refl))
onward (Acts (Correct amount false value)) d b j none = inr (λ y h.
    let left = eased (rest b) ((d.tick - last_correct b) / 200) in
    let n = (y - d.tick) / 200 in
    let e : nat_abs (eased (left +ℤ amount) n -ℤ (left +ℤ amount)) ≤ n = subst (λ z. nat_abs (eased (left +ℤ amount) n -ℤ z) ≤ n) (eased_none (left +ℤ amount))
    (let z = eased_by (left +ℤ amount) 0 n (omega arith) in omega (arith, z)) in
    let w = wall b -ℤ pos (boot_tick b) in
    let s = slewed_on (w +ℤ moved b) left (left +ℤ amount) amount (eased (left +ℤ amount) n) d.tick y n h refl e in
    let z = subst (λ k. nat_abs ((((k +ℤ pos y) -ℤ eased (left +ℤ amount) n) -ℤ (((w +ℤ moved b) +ℤ pos d.tick) -ℤ left)) -ℤ pos (y - d.tick)) ≤ n)
    (sym (reorder w (moved b) amount)) s in
    omega (arith, z))
onward _ d b j none = inl (λ y. refl)

pub lives_more : (deed : Deed) (n : ℕ) → n ≤ lives_after deed n
lives_more (Acts Boot) n = omega arith
lives_more _ n = omega arith

joined : (n : ℕ) (a b c : ℤ) (x m y : ℕ) → x ≤ m → m ≤ y → Near n a b x m → 200 * nat_abs ((c -ℤ b) -ℤ pos (y - m)) ≤ y - m → Near n a c x y
joined n a b c x m y h k p q = omega (arith, ints)

abbrev pub NextFrom : ℕ → ℕ → List Line → List Line → Type 0
NextFrom n x s h = (l : Line) (before : List Line) → Within (l ∷ before) h → Within s before → node_of l ≡ n → x ≤ l.did.tick

-- a line of the node itself
own_line : (setting : Setting) (c n : ℕ) (l : Line) (b s : List Line) (x y : ℕ) → node_of l ≡ n → OwnFits setting (l ∷ of n b) → Within s b →
    lives (dids (of n s)) ≡ lives_after l.did.deed (lives (dids (of n b))) →
    NoneStepped n s (l ∷ b) → NextFrom n x s (l ∷ b) → l.did.tick ≤ y → x ≤ y →
    ((z : ℕ) → lives (dids (of n s)) ≡ lives (dids (of n b)) → tick_of (dids (of n b)) ≤ z → x ≤ z →
    Near c (shown (dids (of n s)) x) (shown (dids (of n b)) z) x z) →
    Near c (shown (dids (of n s)) x) (shown (dids (l ∷ of n b)) y) x y
own_line setting c n l b s x y node f i j none next z k earlier =
    let m = lives_more l.did.deed (lives (dids (of n b))) in
    let g = since setting (of n s) (of n b) f.1 (Within_of n s b i) in
    let same : lives_after l.did.deed (lives (dids (of n b))) ≡ lives (dids (of n b)) = omega (arith, m, g.lives, j) in
    let before : lives (dids (of n s)) ≡ lives (dids (of n b)) = omega (arith, m, g.lives, j) in
    let order = f.0.tick in
    let here : x ≤ l.did.tick = next l b (inl refl) i node in
    elim (onward l.did.deed l.did (dids (of n b)) same (λ amount stepped value is. none l b amount stepped value (inl refl) i node is)) [
      | inl e ↦ subst (λ v. Near c (shown (dids (of n s)) x) v x y) (sym (e y)) (earlier y before (omega (arith, order, z)) k)
      | inr e ↦ joined c (shown (dids (of n s)) x) (shown (dids (of n b)) l.did.tick) (shown (dids (l ∷ of n b)) y) x l.did.tick y here z
          (earlier l.did.tick before order here) (e y z)
    ]

-- from a reading to a later one, as close as readings in its own stretch are
pub steadily_by : (setting : Setting) (c n : ℕ) (h s : List Line) (x y : ℕ) → Fits setting h → Within s h →
    ((z : ℕ) → x ≤ z → Near c (shown (dids (of n s)) x) (shown (dids (of n s)) z) x z) → lives (dids (of n s)) ≡ lives (dids (of n h)) →
    NoneStepped n s h → NextFrom n x s h → tick_of (dids (of n h)) ≤ y → x ≤ y → Near c (shown (dids (of n s)) x) (shown (dids (of n h)) y) x y
steadily_by setting c n [] s x y f w start j none next z k = subst (λ u. Near c (shown (dids (of n s)) x) (shown (dids (of n u)) y) x y) w (start y k)
steadily_by setting c n (l ∷ b) s x y f (inl e) start j none next z k = subst (λ u. Near c (shown (dids (of n s)) x) (shown (dids (of n u)) y) x y) e
    (start y k)
steadily_by setting c n (l ∷ b) s x y f (inr i) start j none next z k =
    by_node (λ v same by o. steadily_by setting c n b s x v f.1 i start same (λ d r amount stepped value p q node is.
    none d r amount stepped value (inr p) q node is) (λ d r p q node. next d r (inr p) q node) by o) (node_of l == n) refl
  where
    by_node : ((v : ℕ) → lives (dids (of n s)) ≡ lives (dids (of n b)) → tick_of (dids (of n b)) ≤ v → x ≤ v →
        Near c (shown (dids (of n s)) x) (shown (dids (of n b)) v) x v) →
        (own : Bool) → (node_of l == n) ≡ own → Near c (shown (dids (of n s)) x) (shown (dids (of n (l ∷ b))) y) x y
    by_node earlier true e =
        let node : node_of l ≡ n = eqb-true (node_of l) n e in
        let own : of n (l ∷ b) ≡ l ∷ of n b = of_own n l b node in
        subst (λ u. Near c (shown (dids (of n s)) x) (shown (dids u) y) x y) (sym own)
        (own_line setting c n l b s x y node (subst (λ u. OwnFits setting u) own (own_fits setting n (l ∷ b) f)) i (subst (λ u. lives (dids (of n s)) ≡
        lives (dids u)) own j) none next (subst (λ u. tick_of (dids u) ≤ y) own z) k earlier)
    by_node earlier false e =
        let other : of n (l ∷ b) ≡ of n b = of_other n l b e in
        subst (λ u. Near c (shown (dids (of n s)) x) (shown (dids u) y) x y) (sym other)
        (earlier y (subst (λ u. lives (dids (of n s)) ≡ lives (dids u)) other j) (subst (λ u. tick_of (dids u) ≤ y) other z) k)

-- whenever the first is
steadily : (setting : Setting) (n : ℕ) (h s : List Line) (x y : ℕ) → Fits setting h → Within s h → lives (dids (of n s)) ≡ lives (dids (of n h)) →
    NoneStepped n s h → tick_of (dids (of n s)) ≤ x → NextFrom n x s h →
    tick_of (dids (of n h)) ≤ y → x ≤ y → Near 199 (shown (dids (of n s)) x) (shown (dids (of n h)) y) x y
steadily setting n h s x y f w j none a next z k =
    let last = last_by setting (of n s) (own_fits setting n s (fits_at setting s h f w)) in
    steadily_by setting 199 n h s x y f w (λ v o. stretch (dids (of n s)) x v (omega (arith, last, a)) o) j none next z k

advances : (early late : ℤ) (x y : ℕ) → Near 199 early late x y → Advances early late (y - x)
advances early late x y n = record { rate = omega (arith, n); never_back = omega (arith, ints, n); rises = λ two. omega (arith, ints, n) }

runs_on : (setting : Setting) (h : List Line) → Fits setting h → RunsOn h
runs_on setting h f n s x y u r = advances (shown (dids (of n s)) x) (shown (dids (of n h)) y) x y (steadily setting n h s x y f u.within u.lives u.none r.from
    r.next r.to r.order)

-- over true time
over : (early late : ℤ) (x y t w : ℕ) → Near 199 early late x y → x ≤ y → y ≤ x + t + w → x + t ≤ y + w →
    nat_abs ((late -ℤ early) -ℤ pos t) ≤ w + (t + w + 199) / 200
over early late x y t w n o p q = omega (arith, ints, n)

-- a node's last tick is that of its last time
own_at : (setting : Setting) (n : ℕ) (s : List Line) → Fits setting s → tick_of (dids (of n s)) ≤ setting.tick n (time_of (dids (of n s)))
own_at setting n = node_walk setting n (λ world own. tick_of (dids own) ≤ setting.tick n (time_of (dids own))) (omega arith)
    (λ l s f node h. omega (arith, tick_is setting n l s node f.0)) (λ l s f h. h)

pub runs_over_time : (setting : Setting) (h : List Line) → Fits setting h → RunsOverTime setting h
runs_over_time setting h f n s a b u r =
    let rate = setting.tick n in
    let from = own_at setting n s (fits_at setting s h f u.within) in
    let from_a = tick_mono setting n (time_of (dids (of n s))) a r.from in
    let to = own_at setting n h f in
    let to_b = tick_mono setting n (time_of (dids (of n h))) b r.to in
    let order = tick_mono setting n a b r.order in
    let next : NextFrom n (rate a) s h = λ l before w v node.
    let t = tick_in setting n l before h f node w in
    let m = tick_mono setting n a l.did.step.at (r.next l before w v node) in
    omega (arith, t, m) in
    let near = steadily setting n h s (rate a) (rate b) f u.within u.lives u.none (omega (arith, from, from_a)) next (omega (arith, to, to_b)) order in
    let t = ticks_over setting n a b r.order in
    over (shown_at setting n s a) (shown_at setting n h b) (rate a) (rate b) (b - a) (width setting.drift (b - a)) near order t.0 t.1

pub steady : (setting : Setting) (world : List Line) → Fits setting world → Steady setting world
steady setting world f = Everywhere_from (λ (l : Line) (s : List Line). SteadyAt setting (l ∷ s)) world
    (λ l s w. let g = fits_at setting (l ∷ s) world f w in record { ticks = runs_on setting (l ∷ s) g; time = runs_over_time setting (l ∷ s) g })

-- what is left of a rest
eased_abs : (r : ℤ) (k : ℕ) → nat_abs (eased r k) ≡ nat_abs r - k
eased_abs (pos r) k = grind (arith, ints)
eased_abs (negsuc r) k = grind (arith, ints)

off_target : (t e : ℤ) → nat_abs ((t -ℤ e) -ℤ t) ≡ nat_abs e
off_target t e = omega (arith, ints)

none_left : (a b : ℤ) → nat_abs (a -ℤ b) ≡ 0 → a ≡ b
none_left a b e = omega (arith, ints)

pub meets_by : (ds : List Did) (y : ℕ) → MeetsBy ds y
meets_by ds y =
    let left : nat_abs (shown ds y -ℤ target ds y) ≡ nat_abs (rest ds) - (y - last_correct ds) / 200 =
    off_target (target ds y) (eased (rest ds) ((y - last_correct ds) / 200)) ∙ eased_abs (rest ds) ((y - last_correct ds) / 200) in
    record {
      left = left;
      met = λ late. none_left (shown ds y) (target ds y) (let z : nat_abs (rest ds) - (y - last_correct ds) / 200 ≡
          0 = omega (arith, late) in left ∙ z);
    }

pub meets : (world : List Line) → Meets world
meets world = Everywhere_from (λ (l : Line) (before : List Line). (n : ℕ) (y : ℕ) → MeetsBy (dids (of n (l ∷ before))) y) world
    (λ l s w n y. meets_by (dids (of n (l ∷ s))) y)
