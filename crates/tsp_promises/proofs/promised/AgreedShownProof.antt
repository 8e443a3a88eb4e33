-- What clocks show agrees where the clocks do. A Correct prints what its clock shows.
use Rattle.tsp_promises.proofs.promised.OwnFitsProof.{given, fits_in, Given, given_at, fits_at, own_fits, deed_fits, own_tick}
use Rattle.tsp_promises.specs.AgreedShown.{AgreedShown, HasMet, ShownWithin, ShownAgree, ShownAsClocks, ShownNear, Waited, WaitedFor}
use Rattle.tsp_promises.proofs.promised.SteadyProof.{meets_by, runs_over_time, Near, NextFrom, steadily_by, stretch_from}
use Rattle.tsp_promises.specs.{Chained.Hop, Chained.Hops, Chained.IsChain, Chained.last_hop, Chained.node_at, CorrectFits.is_stepped}
use Rattle.tsp_promises.specs.{Fits.Alive, Fits.Fits, Fits.node_of, Shows.PrintedApart, Shows.Prints, Shows.Shows, Shows.ShowsAt}
use Rattle.tsp_promises.specs.{Agreed.FromRound, Agreed.Unchanged, ClockAt.clock_at, ClockAt.left_at, ClockAt.shown_at, Steady.shown_width}
use Rattle.tsp_promises.{proofs.shared.EverywhereLemmas.Everywhere_from, specs.Setting.Setting}
use Rattle.tsp_promises.proofs.{promised.ClockProof.clock_target, promised.ClockProof.shown_is, promised.ClockProof.stays_up, promised.ClockProof.post_up}
use Rattle.tsp_promises.proofs.{promised.SinceProof.since}
use Rattle.tsp_promises.proofs.promised.AgreedProof.{agreed_master, agreed_peers, chained_at}
use Rattle.tsp_promises.proofs.{shared.HistoryPlaces.of_own, shared.HistoryPlaces.Within_of, shared.Printed.after_slew, shared.Printed.shows_target}
use Rattle.std.proofs.Common.{sym, arith, subst, ◌∙◌, ◌≡◌, ◌≤◌, ◌≤ℤ◌, ℕ, ◌+◌, ◌-◌, ℤ, pos, ◌+ℤ◌, ◌-ℤ◌, nat_abs, true, List, [], ◌∷◌, ap, subst₂, inl, ◌/◌, Bool}
use Rattle.std.proofs.Common.{false, refl}
use Rattle.std.proofs.lemmas.Int.{ints}
use Rattle.tsp_base.specs.Words.{Line, of, dids, time_of, up, Within, Acts, Did, last_correct, last_correct_after, shown, target, tick_of, heard}
use Rattle.tsp_base.proofs.{PlaceLemmas.Within_through, PlaceLemmas.Within_tail, Views.plain_view}
use Rattle.tsp_rules.specs.Values.{Correct}

-- clocks less what is left
less : (c d x y b : ℤ) → pos (nat_abs (c -ℤ d)) ≤ℤ b → pos (nat_abs ((c -ℤ x) -ℤ (d -ℤ y))) ≤ℤ ((b +ℤ pos (nat_abs x)) +ℤ pos (nat_abs y))
less c d x y b h = omega (arith, ints)

shown_within : (setting : Setting) (h : List Line) (t : ℕ) → Fits setting h → (k l : ℕ) (b : ℤ) → up (dids (of k h)) ≡ true → up (dids (of l h)) ≡ true →
    pos (nat_abs (clock_at setting k h t -ℤ clock_at setting l h t)) ≤ℤ b → ShownWithin setting h t k l b
shown_within setting h t f k l b ku lu near =
    rw (shown_is setting k h t f ku, shown_is setting l h t f lu) (less (clock_at setting k h t) (clock_at setting l h t) (left_at setting k h t)
    (left_at setting l h t) b near)

-- a clock that has met its target shows it
shows_clock : (setting : Setting) (n : ℕ) (h : List Line) (t : ℕ) → Fits setting h → up (dids (of n h)) ≡ true → HasMet setting n h t → shown_at setting n h t ≡
    clock_at setting n h t
shows_clock setting n h t f u met = (meets_by (dids (of n h)) (setting.tick n t)).met met ∙ sym (clock_target setting n h t f u)

-- whoever was corrected has booted
corrected_up : (setting : Setting) (m : ℕ) (close : Line) (cpast : List Line) (c : Line) (past : List Line) (r : Line) (older : List Line) (e : ℤ)
    (h : List Line) → Fits setting h → FromRound m close cpast c past r older e → Unchanged (node_of c) (c ∷ past) h → up (dids (of (node_of c) h)) ≡ true
corrected_up setting m close cpast c past r older e h f x u =
    let k = node_of c in
    let fc = fits_at setting (c ∷ past) h f u.within in
    stays_up k past h (Within_tail c past h u.within) (subst (λ z. Alive setting z c.did (dids (of k past))) x.acts.correct fc.0.alive)

-- and so has whoever corrected it
master_up : (setting : Setting) (m : ℕ) (close : Line) (cpast : List Line) (c : Line) (past : List Line) (r : Line) (older : List Line) (e : ℤ) (h : List Line)
    → Fits setting h → FromRound m close cpast c past r older e → Unchanged (node_of c) (c ∷ past) h → up (dids (of m h)) ≡ true
master_up setting m close cpast c past r older e h f x u =
    let b = x.acts.brings in
    let post_h : Within (x.post ∷ x.before) h = Within_through (x.post ∷ x.before) past h b.place (Within_tail c past h u.within) in
    let posted = post_up setting x.post x.before _ _ (fits_in setting x.post x.before h f post_h) b.deed in
    stays_up m x.before h (Within_tail x.post x.before h post_h) (subst (λ n. up (dids (of n x.before)) ≡ true) x.node posted)

hop_up : (setting : Setting) (m : ℕ) (x : Hop) (h : List Line) → Fits setting h → Hops m x h → up (dids (of (node_at x) h)) ≡ true
hop_up setting m x h f a = corrected_up setting m x.close x.cpast x.correct x.past x.reading x.older x.err h f a.from_round a.unchanged

last_up : (setting : Setting) (m : ℕ) (first : Hop) (rest : List Hop) (h : List Line) → Fits setting h → Hops m first h → IsChain first rest h →
    up (dids (of (node_at (last_hop first rest)) h)) ≡ true
last_up setting m first [] h f a c = hop_up setting m first h f a
last_up setting m first (x ∷ rest) h f a c = hop_up setting (node_at (last_hop first rest)) x h f c.0

shown_agree : (setting : Setting) (h : List Line) (t : ℕ) → Given setting h → time_of (dids h) ≤ t → ShownAgree setting h t
shown_agree setting h t g by =
    let at = chained_at setting h t g by in
    record {
      peers = λ m close cpast c d past qast r q rolder qolder e f x y u v.
          shown_within setting h t g.fits (node_of c) (node_of d) _
          (corrected_up setting m close cpast c past r rolder e h g.fits x u) (corrected_up setting m close cpast d qast q qolder f h g.fits y v)
          (agreed_peers setting h t g by m close cpast c d past qast r q rolder qolder e f x y u v);
      master = λ m close cpast c past r rolder e x u v.
          shown_within setting h t g.fits (node_of c) m _
          (corrected_up setting m close cpast c past r rolder e h g.fits x u) (master_up setting m close cpast c past r rolder e h g.fits x u)
          (agreed_master setting h t g by m close cpast c past r rolder e x u v);
      down = λ m first rest a c but.
          shown_within setting h t g.fits (node_at (last_hop first rest)) m _ (last_up setting m first rest h g.fits a c)
          (master_up setting m first.close first.cpast first.correct first.past first.reading first.older first.err h g.fits a.from_round a.unchanged)
          (at.down m first rest a c but);
      across = λ m a b xs ys x y close cpast c d.
          shown_within setting h t g.fits (node_at (last_hop a xs)) (node_at (last_hop b ys)) _
          (last_up setting m a xs h g.fits x c) (last_up setting m b ys h g.fits y d) (at.across m a b xs ys x y close cpast c d);
      tree = λ n a b xs ys x y u v c d.
          shown_within setting h t g.fits (node_at (last_hop a xs)) (node_at (last_hop b ys)) _
          (last_up setting n a xs h g.fits x c) (last_up setting n b ys h g.fits y d) (at.tree n a b xs ys x y u v c d);
    }

pub agreed_shown : (setting : Setting) (world : List Line) → Given setting world → AgreedShown setting world
agreed_shown setting world g = Everywhere_from (λ (l : Line) (s : List Line). (t : ℕ) → l.did.step.at ≤ t → ShownAgree setting (l ∷ s) t) world
    (λ l s w t by. shown_agree setting (l ∷ s) t (given_at setting (l ∷ s) world g w) by)

pub shown_near : (setting : Setting) (world : List Line) → Fits setting world → ShownNear setting world
shown_near setting world f = Everywhere_from (λ (l : Line) (s : List Line). (t : ℕ) → ShownAsClocks setting (l ∷ s) t) world (λ l s w t m n b mu nu near.
    let g = fits_at setting (l ∷ s) world f w in
    record {
      within = shown_within setting (l ∷ s) t g m n b mu nu near;
      met = λ x y. rw (shows_clock setting m (l ∷ s) t g mu x, shows_clock setting n (l ∷ s) t g nu y) near;
    })

-- a later value of l against an earlier one of k
waits : (k l late b : ℤ) (d w : ℕ) → nat_abs ((late -ℤ l) -ℤ pos d) ≤ w → pos (nat_abs (k -ℤ l)) ≤ℤ b → ((pos d -ℤ pos w) -ℤ b) ≤ℤ (late -ℤ k)
waits k l late b d w h n = omega (arith, ints)

waited_for : (setting : Setting) (h : List Line) → Fits setting h → WaitedFor setting h
waited_for setting h f k l s t d b u r near =
    let e : t + d - t ≡ d = omega arith in
    let run = runs_over_time setting h f l s t (t + d) u r in
    let there : nat_abs ((shown_at setting l h (t + d) -ℤ shown_at setting l s t) -ℤ pos d) ≤ shown_width setting.drift d =
    subst (λ z. nat_abs ((shown_at setting l h (t + d) -ℤ shown_at setting l s t) -ℤ pos z) ≤ shown_width setting.drift z) e run in
    waits (shown_at setting k s t) (shown_at setting l s t) (shown_at setting l h (t + d)) b d (shown_width setting.drift d) there near

pub waited : (setting : Setting) (world : List Line) → Fits setting world → Waited setting world
waited setting world f = Everywhere_from (λ (l : Line) (s : List Line). WaitedFor setting (l ∷ s)) world (λ l s w. waited_for setting (l ∷
    s) (fits_at setting (l ∷ s) world f w))

-- for the theorem
pub ruleset all_shown = (given, agreed_shown, shown_near)

-- a node's line at the head of its lines
own_lines : (l : Line) (world : List Line) → dids (of (node_of l) (l ∷ world)) ≡ l.did ∷ dids (of (node_of l) world)
own_lines l world = ap dids (of_own (node_of l) l world refl)

slewed_shows : (d : Did) (b : List Did) (amount printed : ℤ) (stepped : Bool) → d.deed ≡ Acts (Correct amount stepped printed) → stepped ≡ false →
    shown (d ∷ b) d.tick ≡ shown b d.tick
slewed_shows d b amount printed stepped is slewed =
    let deed : d.deed ≡ Acts (Correct amount false printed) = is ∙ ap (λ s. Acts (Correct amount s printed)) slewed in
    subst (λ k. shown (record { step = d.step; tick = d.tick; deed = k } ∷ b) d.tick ≡ shown b d.tick) (sym deed) (after_slew d.step d.tick b amount printed)

stepped_shows : (d : Did) (b : List Did) (amount printed : ℤ) (stepped : Bool) → d.deed ≡ Acts (Correct amount stepped printed) → stepped ≡ true →
    shown (d ∷ b) d.tick ≡ target (d ∷ b) d.tick
stepped_shows d b amount printed stepped is jumps =
    let deed : d.deed ≡ Acts (Correct amount true printed) = is ∙ ap (λ s. Acts (Correct amount s printed)) jumps in
    subst (λ k. shown (record { step = d.step; tick = d.tick; deed = k } ∷ b) d.tick ≡ target (record { step = d.step; tick = d.tick; deed = k } ∷ b) d.tick)
    (sym deed) (shows_target d.step d.tick b amount printed)

prints : (setting : Setting) (l : Line) (world : List Line) → Fits setting (l ∷ world) → (amount : ℤ) (stepped : Bool) (printed : ℤ) → l.did.deed ≡
    Acts (Correct amount stepped printed) → Prints l world amount stepped printed
prints setting l world f amount stepped printed is =
    let fits = deed_fits setting l world (Acts (Correct amount stepped printed)) is f.0 in
    let seen = plain_view l.port (of (node_of l) world) in
    let b = dids (of (node_of l) world) in
    let own = own_lines l world in
    let here : printed ≡ shown (l.did ∷ b) l.did.tick = fits.prints ∙ ap (λ k. shown (l.did ∷ k) l.did.tick) seen in
    record {
      value = here ∙ ap (λ k. shown k l.did.tick) (sym own);
      flag = fits.flag ∙ ap (λ k. is_stepped amount (heard k)) seen;
      slewed = λ e. here ∙ slewed_shows l.did b amount printed stepped is e;
      jumps = λ e. here ∙ (stepped_shows l.did b amount printed stepped is e ∙ ap (λ k. target k l.did.tick) (sym own));
    }

-- later lines of a node have later ticks
next_from : (setting : Setting) (n : ℕ) (s h : List Line) → Fits setting h → NextFrom n (tick_of (dids (of n s))) s h
next_from setting n s h f l before w v node =
    let g = fits_at setting (l ∷ before) h f w in
    let order = since setting (of n s) (of n before) (own_fits setting n before g.1) (Within_of n s before v) in
    let tick : tick_of (dids (of n before)) ≤ l.did.tick = subst (λ k. tick_of (dids (of k before)) ≤ l.did.tick) node (own_tick setting l before g) in
    omega (arith, order.tick, tick)

in_two_hundred : (x y : ℤ) (s t : ℕ) → Near 0 x y s t → nat_abs ((y -ℤ x) -ℤ pos (t - s)) ≤ (t - s) / 200
in_two_hundred x y s t n = omega (arith, n)

apart : (setting : Setting) (l : Line) (world : List Line) → Fits setting (l ∷ world) → PrintedApart l world
apart setting l world f early past a b stepped later x y is_early is_late node w u =
    let n = node_of l in
    let g = fits_at setting (early ∷ past) world f.1 w in
    let place : dids (of n (early ∷ past)) ≡ early.did ∷ dids (of n past) = ap dids (of_own n early past node) in
    let first : x ≡ shown (dids (of n (early ∷ past))) early.did.tick = subst (λ k. x ≡ shown (dids (of k (early ∷ past))) early.did.tick) node
    (prints setting early past g a stepped x is_early).value in
    let second = (prints setting l world f b later y is_late).value in
    let tick : tick_of (dids (of n (early ∷ past))) ≡ early.did.tick = ap tick_of place in
    let start : last_correct (dids (of n (early ∷ past))) ≡ early.did.tick =
    ap last_correct place ∙ ap (λ k. last_correct_after k early.did.tick (last_correct (dids (of n past)))) is_early in
    let next = subst (λ k. NextFrom n k (early ∷ past) (l ∷ world)) tick (next_from setting n (early ∷ past) (l ∷ world) f) in
    let last : tick_of (dids (of n (l ∷ world))) ≡ l.did.tick = ap tick_of (own_lines l world) in
    let order : early.did.tick ≤ l.did.tick = next l world (inl refl) w refl in
    let near = steadily_by setting 0 n (l ∷ world) (early ∷ past) early.did.tick l.did.tick f u.within (λ z k. stretch_from (dids (of n (early ∷ past)))
    early.did.tick z start k) u.lives u.none next (omega (arith, last)) order in
    in_two_hundred x y early.did.tick l.did.tick (subst₂ (λ v w. Near 0 v w early.did.tick l.did.tick) (sym first) (sym second) near)

pub shows : (setting : Setting) (world : List Line) → Fits setting world → Shows world
shows setting world f = Everywhere_from ShowsAt world (λ l s w. let g = fits_at setting (l ∷ s) world f w in
    record { prints = prints setting l s g; apart = apart setting l s g })
