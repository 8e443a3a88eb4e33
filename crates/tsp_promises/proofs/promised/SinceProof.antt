-- What a node's deeds up to one place tell of its deeds up to a later one. The last Back and the last Quit that a port
-- has seen.
use Rattle.std.proofs.Common.{sym, arith, subst, inl, inr, ℕ, ◌+◌, ◌≤◌, List, [], ◌∷◌, refl, ◌∙◌, ◌≡◌, ◌==◌, ◌||◌, ◌⊎◌, Bool, true, false, cond, Option, Some}
use Rattle.std.proofs.lemmas.Bool.{cases_lt}
use Rattle.tsp_rules.specs.Values.{Boot, Correct, Port, GAP, QUIET, Back, Quit, PeerId, HOLD}
use Rattle.tsp_base.specs.Words.{Did, Deed, Acts, Line, dids, view, is_shared, all_corrects, boot_tick, last_correct, last_correct_after, time_of, tick_of}
use Rattle.tsp_base.specs.Words.{Within, Setup, Seen, Here, seen_as, lives, lives_after, held}
use Rattle.tsp_base.proofs.{ViewPlaces.sees_own, Views.plain_view}
use Rattle.tsp_base.specs.{Hold.Held, Words.Elsewhere, Words.held_after}
use Rattle.tsp_promises.specs.{Fits.node_of, Fits.Sees, OwnFits.OwnFits, OwnFits.OwnLineFits, Setting.Setting, Setting.setup_of}
use Rattle.tsp_promises.specs.{DeedFits.DeedFits, Since.Since}

-- a Correct stands apart from the last one and from the boot
pub record Apart (here : Did) (before : List Did) : Type 0 where
  pub gap : last_correct before + GAP ≤ here.tick
  pub rested : boot_tick before + QUIET ≤ here.tick

abbrev pub ApartIf : Deed → Did → List Did → Type 0
ApartIf (Acts (Correct amount stepped shown)) here before = Apart here before
ApartIf _ here before = Unit {0}

apart_deed : (setup : Setup) (deed : Deed) (here : Did) (q : Port) (own : List Line) → DeedFits setup deed here (view q own) → ApartIf deed here (dids own)
apart_deed setup (Acts (Correct amount stepped shown)) here q own f =
    let e = plain_view q own in
    record {
      gap = subst (λ w. last_correct w + GAP ≤ here.tick) e f.gap;
      rested = subst (λ w. boot_tick w + QUIET ≤ here.tick) e f.rested;
    }
apart_deed setup _ here q own f = tt

pub apart_if : (setting : Setting) (l : Line) (before : List Line) → OwnLineFits setting l before → ApartIf l.did.deed l.did (dids before)
apart_if setting l before f = apart_deed (setup_of setting (node_of l) l.port) l.did.deed l.did l.port before
    (f.deeds l.port (sees_own l.port (is_shared l.did.deed)))

last_deed : (deed : Deed) (last x y : ℕ) → last ≤ x → x ≤ y → last_correct_after deed y last ≤ y
last_deed (Acts Boot) last x y h k = omega arith
last_deed (Acts (Correct amount stepped shown)) last x y h k = omega arith
last_deed _ last x y h k = omega arith

-- the last Correct isn't later than the last deed
pub last_by : (setting : Setting) (t : List Line) → OwnFits setting t → last_correct (dids t) ≤ tick_of (dids t)
last_by setting [] f = omega arith
last_by setting (l ∷ before) f = last_deed l.did.deed (last_correct (dids before)) (tick_of (dids before)) l.did.tick (last_by setting before f.1) f.0.tick

Since_here : (t : List Did) → last_correct t ≤ tick_of t → Since t t
Since_here t last = record {
  time = omega arith;
  tick = omega arith;
  all = omega arith;
  spaced = λ h. omega arith;
  last = last;
  lasts = omega arith;
  lives = omega arith;
  life = inl (record { lives = refl; word = refl; wall = refl; boot = refl; corrects = refl; still = λ e. refl });
}

-- what one more deed makes of it
Since_deed : (s t : List Did) (d : Did) (deed : Deed) → time_of t ≤ d.step.at → tick_of t ≤ d.tick → ApartIf deed d t → Since s t →
    Since s (record { step = d.step; tick = d.tick; deed = deed } ∷ t)
Since_deed s t d (Acts Boot) time tick f h = record {
  time = omega (arith, h.time);
  tick = omega (arith, h.tick);
  all = h.all;
  spaced = λ q. omega (arith, h.spaced q, h.last);
  last = omega arith;
  lasts = omega (arith, h.lasts, h.last);
  lives = omega (arith, h.lives);
  life = inr (record { lives = omega (arith, h.lives); boot = omega (arith, h.tick) });
}
Since_deed s t d (Acts (Correct amount stepped shown)) time tick f h = record {
  time = omega (arith, h.time);
  tick = omega (arith, h.tick);
  all = omega (arith, h.all);
  spaced = λ q. elim (cases_lt (all_corrects s) (all_corrects t)) [
    | inl more ↦ omega (arith, h.spaced more, f.gap)
    | inr none ↦ omega (arith, h.all, h.tick)
  ];
  last = omega arith;
  lasts = omega (arith, h.lasts, f.gap);
  lives = h.lives;
  life = elim h.life [
    | inl o ↦ inl (record {
      lives = o.lives;
      word = o.word;
      wall = o.wall;
      boot = o.boot;
      corrects = omega (arith, o.corrects);
      still = λ e. absurd (omega (arith, h.all));
    })
    | inr b ↦ inr (record { lives = b.lives; boot = b.boot })
  ];
}
Since_deed s t d _ time tick f h = record {
  time = omega (arith, h.time);
  tick = omega (arith, h.tick);
  all = h.all;
  spaced = h.spaced;
  last = omega (arith, h.last);
  lasts = h.lasts;
  lives = h.lives;
  life = elim h.life [
    | inl o ↦ inl (record { lives = o.lives; word = o.word; wall = o.wall; boot = o.boot; corrects = o.corrects; still = o.still })
    | inr b ↦ inr (record { lives = b.lives; boot = b.boot })
  ];
}

pub since : (setting : Setting) (s t : List Line) → OwnFits setting t → Within s t → Since (dids s) (dids t)
since setting s [] f e = subst (λ w. Since (dids w) []) (sym e) (Since_here [] (omega arith))
since setting s (l ∷ t) f (inl e) = subst (λ w. Since (dids w) (dids (l ∷ t))) (sym e) (Since_here (dids (l ∷ t)) (last_by setting (l ∷ t) f))
since setting s (l ∷ t) f (inr p) = Since_deed (dids s) (dids t) l.did l.did.deed f.0.time f.0.tick (apart_if setting l t f.0) (since setting s t f.1 p)

-- c was backed at tick x, the node hasn't booted since, and it is tick y now
pub record BackedLate (seen : List Seen) (x y : ℕ) (c : PeerId) : Type 0 where
  pub at : ℕ
  pub last : PeerId
  pub is : (held seen).back ≡ Some (at, last)
  pub by : x ≤ at
  pub upto : at ≤ y
  pub holds : (c ≡ last) ⊎ (x + HOLD ≤ at)

-- the last of these ticks is x or later
pub record NotBefore (o : Option ℕ) (x : ℕ) : Type 0 where
  pub at : ℕ
  pub is : o ≡ Some at
  pub by : x ≤ at

pub later_if : (b : Bool) (was : Option ℕ) (x y : ℕ) → x ≤ y → NotBefore was x → NotBefore (cond b (Some y) was) x
later_if true was x y by h = record { at = y; is = refl; by = by }
later_if false was x y by h = h

back_deed : (setup : Setup) (d : Did) (deed : Deed) (seen : List Seen) (x y n : ℕ) (c : PeerId) → DeedFits setup deed d seen → lives_after deed n ≡ n →
    y ≤ d.tick → BackedLate seen x y c →
    BackedLate (Here (record { step = d.step; tick = d.tick; deed = deed }) ∷ seen) x d.tick c
back_deed setup d (Acts Boot) seen x y n c f v by h = absurd (omega arith)
back_deed setup d (Acts (Back p)) seen x y n c f v by h = record {
  at = d.tick;
  last = p;
  is = refl;
  by = omega (arith, h.by, h.upto);
  upto = omega arith;
  holds = elim (f.holds h.at h.last h.is) [
    | inl same ↦ elim h.holds [ inl e ↦ inl (e ∙ same) | inr long ↦ inr (omega (arith, h.upto)) ]
    | inr long ↦ inr (omega (arith, h.by))
  ];
}
back_deed setup d _ seen x y n c f v by h = record { at = h.at; last = h.last; is = h.is; by = h.by; upto = omega (arith, h.upto); holds = h.holds }

quit_deed : (deed : Deed) (was : Held) (x y n : ℕ) → lives_after deed n ≡ n → x ≤ y → NotBefore was.quit x → NotBefore (held_after deed y was).quit x
quit_deed (Acts Boot) was x y n v by h = absurd (omega arith)
quit_deed (Acts (Quit p)) was x y n v by h = record { at = y; is = refl; by = by }
quit_deed _ was x y n v by h = h

-- the node didn't boot in this line
pub still_lives : (setting : Setting) (s : List Line) (l : Line) (t : List Line) → OwnFits setting (l ∷ t) → Within s t → lives (dids s) ≡
    lives (dids (l ∷ t)) →
    (lives (dids s) ≡ lives (dids t)) × (lives_after l.did.deed (lives (dids t)) ≡ lives (dids t))
still_lives setting s l t f w e =
    let i = since setting s t f.1 w in
    let j = since setting t (l ∷ t) f (inr (all t)) in
    (omega (arith, i.lives, j.lives), omega (arith, i.lives, j.lives))
  where
    all : (t : List Line) → Within t t
    all [] = refl
    all (x ∷ t) = inl refl

-- what holds at a place, and no later line changes while the node doesn't boot
pub lasting : (setting : Setting) (P : List Line → Type 0) (s t : List Line) → OwnFits setting t → Within s t → lives (dids s) ≡ lives (dids t) → P s →
    ((l : Line) (t : List Line) → OwnLineFits setting l t → Within s t → lives_after l.did.deed (lives (dids t)) ≡ lives (dids t) →
    tick_of (dids s) ≤ l.did.tick → P t → P (l ∷ t)) → P t
lasting setting P s [] f w v here more = subst P w here
lasting setting P s (l ∷ t) f (inl e) v here more = subst P e here
lasting setting P s (l ∷ t) f (inr w) v here more =
    let k = still_lives setting s l t f w v in
    let i = since setting s t f.1 w in
    more l t f.0 w k.1 (omega (arith, i.tick, f.0.tick)) (lasting setting P s t f.1 w k.0 here more)

-- the same of what a port sees, from a line that it sees
pub lasting_seen : (setting : Setting) (q : Port) (P : List Seen → Type 0) (x : Line) (rest t : List Line) → OwnFits setting t → Sees q x →
    Within (x ∷ rest) t → lives (dids (x ∷ rest)) ≡ lives (dids t) →
    P (Here x.did ∷ view q rest) → ((d : Did) (s : List Seen) (n : ℕ) → lives_after d.deed n ≡ n → x.did.tick ≤ d.tick → P s → P (Here d ∷ s)) →
    ((d : Did) (s : List Seen) → P s → P (Elsewhere d ∷ s)) → P (view q t)
lasting_seen setting q P x rest t f sees w v here more other =
    lasting setting (λ t. P (view q t)) (x ∷ rest) t f w v (rw sees here) (λ l t o i k by h. by_port l t k by h ((l.port.0 == q.0) || is_shared l.did.deed))
  where
    by_port : (l : Line) (t : List Line) → lives_after l.did.deed (lives (dids t)) ≡ lives (dids t) → x.did.tick ≤ l.did.tick → P (view q t) → (b : Bool) →
        P (seen_as b l.did ∷ view q t)
    by_port l t k by h true = more l.did (view q t) (lives (dids t)) k by h
    by_port l t k by h false = other l.did (view q t) h

pub back_late : (setting : Setting) (q : Port) (c : PeerId) (x : Line) (rest t : List Line) → OwnFits setting t → x.did.deed ≡ Acts (Back c) → Sees q x →
    Within (x ∷ rest) t →
    lives (dids (x ∷ rest)) ≡ lives (dids t) → BackedLate (view q t) x.did.tick (tick_of (dids t)) c
back_late setting q c x rest t f deed sees w v =
    lasting setting (λ t. BackedLate (view q t) x.did.tick (tick_of (dids t)) c) (x ∷ rest) t f w v
    (rw sees (record { at = x.did.tick; last = c; is = rw deed refl; by = omega arith; upto = omega arith; holds = inl refl }))
    (λ l t o i k by h. more l t o k h ((l.port.0 == q.0) || is_shared l.did.deed) refl)
  where
    more : (l : Line) (t : List Line) → OwnLineFits setting l t → lives_after l.did.deed (lives (dids t)) ≡ lives (dids t) →
        BackedLate (view q t) x.did.tick (tick_of (dids t)) c →
        (b : Bool) → ((l.port.0 == q.0) || is_shared l.did.deed) ≡ b → BackedLate (seen_as b l.did ∷ view q t) x.did.tick l.did.tick c
    more l t o k h true e =
        back_deed (setup_of setting (node_of l) q) l.did l.did.deed (view q t) x.did.tick (tick_of (dids t)) (lives (dids t)) c (o.deeds q e) k o.tick h
    more l t o k h false e = record { at = h.at; last = h.last; is = h.is; by = h.by; upto = omega (arith, h.upto, o.tick); holds = h.holds }

-- the last Quit that a port has seen isn't before one
pub quit_late : (setting : Setting) (q : Port) (c : PeerId) (x : Line) (rest t : List Line) → OwnFits setting t → x.did.deed ≡ Acts (Quit c) → Sees q x →
    Within (x ∷ rest) t →
    lives (dids (x ∷ rest)) ≡ lives (dids t) → NotBefore (held (view q t)).quit x.did.tick
quit_late setting q c x rest t f deed sees w v = lasting_seen setting q (λ s. NotBefore (held s).quit x.did.tick) x rest t f sees w v
    (record { at = x.did.tick; is = rw deed refl; by = omega arith }) (λ d s n k by h. quit_deed d.deed (held s) x.did.tick d.tick n k by h) (λ d s h. h)
