-- The premises of small histories, by computing. What a reading asks of the lines after a place, by computing.
use Rattle.std.proofs.Common.{sym, arith, subst, subst₂, inl, inr, eqb-true, eq-eqb, true≢false, ◌≡◌, ◌==◌, ◌&&◌, ◌||◌, nat_le, nat_lt, cond, Bool, true, false}
use Rattle.std.proofs.Common.{ℕ, ◌+◌, ℤ, List, [], ◌∷◌, refl, ap, ◌∙◌, ◌≤◌, zero, suc}
use Rattle.std.proofs.lemmas.Bool.{leb-true, ltb-true, or_left, or_right, and_parts}
use Rattle.tsp_rules.specs.Values.{Boot, Took, Post, Datagram, Place, Peer, LIFE, Correct}
use Rattle.tsp_base.specs.Words.{Cause, Booted, Came, Handed, Acts, Deed, Line, dids, of, view, Within, begun, posted, lives, tick_of, time_of}
use Rattle.tsp_base.proofs.PlaceLemmas.{Within_none, Within_strict}
use Rattle.tsp_promises.specs.Premises.{Few, Honest, Life, TakenWithinAt, Words, WordsAt}
use Rattle.tsp_promises.specs.{Fits.Fits, Fits.node_of, Steady.NoneStepped, Steady.ReadTicks, Steady.ReadTimes, Steady.Unstepped}
use Rattle.tsp_promises.specs.Kept.{Example}
use Rattle.tsp_promises.proofs.witness.Histories.{still, post_at, post_here, skip, skipped}
use Rattle.tsp_promises.proofs.{witness.HistoriesFit.all_finished, witness.HistoriesFit.all_settled, shared.SendPlaces.posted_mono}
use Rattle.tsp_promises.proofs.{shared.SendPlaces.posted_post}

-- the post of a number is the one that is found by it
found_is : (h : List Line) (post : Line) (older : List Line) (to : Place) (datagram : Datagram) → Within (post ∷ older) h → post.did.deed ≡
    Acts (Post to datagram) → post_at (posted (dids older)) h ≡ post ∷ older
found_is [] post older to datagram w deed = let bad : ⊥ = cc in absurd bad
found_is (l ∷ t) post older to datagram (inl e) deed = subst (λ z. post_at (posted (dids older)) z ≡ post ∷
    older) e (rw deed (rw (eq-eqb (posted (dids older)) (posted (dids older)) refl) refl))
found_is (l ∷ t) post older to datagram (inr w) deed = by_deed_holds l.did.deed (found_is t post older to datagram w deed) where
  later : (b : Bool) → (posted (dids t) == posted (dids older)) ≡ b → b ≡ false
  later true e = (let k = eqb-true (posted (dids t)) (posted (dids older)) e in absurd (omega (
    arith,
    posted_mono (post ∷ older) t w,
    posted_post post older to datagram deed,
  )))
  later false e = refl

  by_deed_holds : (d : Deed) → post_at (posted (dids older)) t ≡ post ∷ older → post_here (posted (dids older)) d (posted (dids t)) (l ∷
      t) (post_at (posted (dids older)) t) ≡ post ∷ older
  by_deed_holds (Acts (Post for other)) e = rw (later (posted (dids t) == posted (dids older)) refl) e
  by_deed_holds _ e = e

abbrev soon_after : ℕ → List Line → Bool
soon_after at [] = true
soon_after at (post ∷ older) = nat_le at (post.did.step.at + LIFE)

abbrev soon_by : Cause → ℕ → List Line → Bool
soon_by (Came k) at t = soon_after at (post_at k t)
soon_by _ at t = true

-- whether all that is taken was posted at most LIFE before
abbrev pub all_soon : List Line → Bool
all_soon [] = true
all_soon (l ∷ t) = soon_by l.did.step.cause l.did.step.at t && all_soon t

soon_at : (l : Line) (t : List Line) → soon_by l.did.step.cause l.did.step.at t ≡ true → TakenWithinAt LIFE l t
soon_at l t e post older to datagram w deed cause =
    let a : soon_after l.did.step.at (post_at (posted (dids older)) t) ≡ true = subst (λ c. soon_by c l.did.step.at t ≡ true) cause e in
    let b : soon_after l.did.step.at (post ∷ older) ≡ true = subst (λ z. soon_after l.did.step.at z ≡ true) (found_is t post older to datagram w deed) a in
    leb-true l.did.step.at (post.did.step.at + LIFE) b

pub life_by : (h : List Line) → all_soon h ≡ true → Life h
life_by [] e = tt
life_by (l ∷ t) e = let a = and_parts (soon_by l.did.step.cause l.did.step.at t) (all_soon t) e in (soon_at l t a.0, life_by t a.1)

abbrev ours_by : Cause → Deed → Bool
ours_by Handed (Acts (Took (Peer p) taken)) = false
ours_by _ _ = true

-- whether no octets from outside are a peer's
abbrev pub all_ours : List Line → Bool
all_ours [] = true
all_ours (l ∷ t) = ours_by l.did.step.cause l.did.deed && all_ours t

pub honest_by : (h : List Line) → all_ours h ≡ true → Honest h
honest_by [] e = tt
honest_by (l ∷ t) e =
    let a = and_parts (ours_by l.did.step.cause l.did.deed) (all_ours t) e in
    (λ handed p taken deed. true≢false (sym (subst₂ (λ c d. ours_by c d ≡ true) handed deed a.0)), honest_by t a.1)

abbrev word_by : Deed → Cause → ℕ → Bool
word_by (Acts Boot) (Booted v wall) w = v == w
word_by _ cause w = false

abbrev word_among : ℕ → List Line → Bool
word_among w [] = false
word_among w (l ∷ t) = word_by l.did.deed l.did.step.cause w || word_among w t

abbrev new_by : Deed → Cause → List Line → Bool
new_by (Acts Boot) (Booted w wall) t = cond (word_among w t) false true
new_by _ cause t = true

-- whether each boot has another word than those before
abbrev pub all_new : List Line → Bool
all_new [] = true
all_new (l ∷ t) = new_by l.did.deed l.did.step.cause t && all_new t

among : (t : List Line) (l : Line) (s : List Line) (w : ℕ) (wall : ℤ) → Within (l ∷ s) t → l.did.deed ≡ Acts Boot → l.did.step.cause ≡ Booted w wall →
    word_among w t ≡ true
among [] l s w wall i deed cause = let bad : ⊥ = cc in absurd bad
among (x ∷ t) l s w wall (inl e) deed cause = subst (λ z. word_among w z ≡ true) e (or_left (word_by l.did.deed l.did.step.cause w) (word_among w s)
    (rw (deed, cause) (eq-eqb w w refl)))
among (x ∷ t) l s w wall (inr i) deed cause = or_right (word_by x.did.deed x.did.step.cause w) (word_among w t) (among t l s w wall i deed cause)

new_at : (l : Line) (t : List Line) → new_by l.did.deed l.did.step.cause t ≡ true → WordsAt l t
new_at l t e other older v w x y i deed other_deed cause other_cause same =
    let a : cond (word_among w t) false true ≡ true = (rw (deed, cause) at e) in
    let b : word_among w t ≡ true = subst (λ k. word_among k t ≡ true) same (among t other older v y i other_deed other_cause) in
    true≢false (sym (subst (λ k. cond k false true ≡ true) b a))

pub words_by : (h : List Line) → all_new h ≡ true → Words h
words_by [] e = tt
words_by (l ∷ t) e = let a = and_parts (new_by l.did.deed l.did.step.cause t) (all_new t) e in (new_at l t a.0, words_by t a.1)

-- all of them, of a history that ends with a step
abbrev pub kept_by : (strict : Bool) (h : List Line) → Fits (still strict) h → all_settled h ≡ true → all_ours h ≡ true →
    all_soon h ≡ true → all_new h ≡ true → Example
kept_by strict h f ended ours soon new =
    record {
      setting = still strict;
      world = h;
      kept = record { fits = f; finished = all_finished strict h ended; honest = honest_by h ours; life = life_by h soon; words = words_by h new };
    }

-- whether each port begins few sends with own numbers
abbrev pub all_few : List Line → Bool
all_few [] = true
all_few (l ∷ t) = nat_lt (begun (view l.port (of (node_of l) (l ∷ t)))) 32768 && all_few t

pub few_by : (h : List Line) → all_few h ≡ true → Few h
few_by [] e = tt
few_by (l ∷ t) e = let a = and_parts (nat_lt (begun (view l.port (of (node_of l) (l ∷ t)))) 32768) (all_few t) e in
    (ltb-true (begun (view l.port (of (node_of l) (l ∷ t)))) 32768 a.0, few_by t a.1)

abbrev keeps : Deed → Bool
keeps (Acts (Correct amount true value)) = false
keeps _ = true

-- whether none of the first k lines is a Correct of node n that steps its clock
abbrev pub all_keep : ℕ → ℕ → List Line → Bool
all_keep n zero h = true
all_keep n (suc k) [] = true
all_keep n (suc k) (l ∷ t) = cond (node_of l == n) (keeps l.did.deed) true && all_keep n k t

-- a number that each of node n's first k lines reaches
abbrev pub all_late : (Line → ℕ) → ℕ → ℕ → ℕ → List Line → Bool
all_late f n x zero h = true
all_late f n x (suc k) [] = true
all_late f n x (suc k) (l ∷ t) = cond (node_of l == n) (nat_le x (f l)) true && all_late f n x k t

own : (n : ℕ) (l : Line) (b : Bool) → cond (node_of l == n) b true ≡ true → node_of l ≡ n → b ≡ true
own n l b e node =
    let same : (node_of l == n) ≡ true = subst (λ k. (node_of l == k) ≡ true) node (eq-eqb (node_of l) (node_of l) refl) in
    subst (λ c. cond c b true ≡ true) same e

not_stepped : (deed : Deed) (amount : ℤ) (stepped : Bool) (value : ℤ) → keeps deed ≡ true → deed ≡ Acts (Correct amount stepped value) → stepped ≡ false
not_stepped deed amount true value e is = absurd (true≢false (sym e ∙ ap keeps is))
not_stepped deed amount false value e is = refl

none_by : (n k : ℕ) (h : List Line) → all_keep n k h ≡ true → NoneStepped n (skip k h) h
none_by n zero h e l before amount stepped value w i node is = absurd (Within_strict l before h w i)
none_by n (suc k) [] e l before amount stepped value w i node is = Within_none l before w
none_by n (suc k) (x ∷ t) e l before amount stepped value (inl w) i node is =
    let line : x ≡ l = cc in
    let a = and_parts (cond (node_of x == n) (keeps x.did.deed) true) (all_keep n k t) e in
    not_stepped l.did.deed amount stepped value (subst (λ z. keeps z.did.deed ≡ true) line
    (own n x (keeps x.did.deed) a.0 (subst (λ z. node_of z ≡ n) (sym line) node))) is
none_by n (suc k) (x ∷ t) e l before amount stepped value (inr w) i node is =
    none_by n k t (and_parts (cond (node_of x == n) (keeps x.did.deed) true) (all_keep n k t) e).1 l before amount stepped value w i node is

late_by : (f : Line → ℕ) (n x k : ℕ) (h : List Line) → all_late f n x k h ≡ true → (l : Line) (before : List Line) → Within (l ∷ before) h →
    Within (skip k h) before → node_of l ≡ n → x ≤ f l
late_by f n x zero h e l before w i node = absurd (Within_strict l before h w i)
late_by f n x (suc k) [] e l before w i node = Within_none l before w
late_by f n x (suc k) (y ∷ t) e l before (inl w) i node =
    let line : y ≡ l = cc in
    let a = and_parts (cond (node_of y == n) (nat_le x (f y)) true) (all_late f n x k t) e in
    leb-true x (f l) (subst (λ z. nat_le x (f z) ≡ true) line (own n y (nat_le x (f y)) a.0 (subst (λ z. node_of z ≡ n) (sym line) node)))
late_by f n x (suc k) (y ∷ t) e l before (inr w) i node = late_by f n x k t (and_parts (cond (node_of y == n) (nat_le x (f y)) true) (all_late f n x k t) e).1 l
    before w i node

-- after the first k lines, backwards
pub unstepped_by : (n k : ℕ) (h : List Line) → lives (dids (of n (skip k h))) ≡ lives (dids (of n h)) → all_keep n k h ≡ true → Unstepped n (skip k h) h
unstepped_by n k h same e = record { within = skipped k h; lives = same; none = none_by n k h e }

pub read_by : (n k : ℕ) (h : List Line) (x y : ℕ) → tick_of (dids (of n (skip k h))) ≤ x → all_late (λ l. l.did.tick) n x k h ≡ true → x ≤ y →
    tick_of (dids (of n h)) ≤ y → ReadTicks n (skip k h) h x y
read_by n k h x y from e order to = record { from = from; next = late_by (λ l. l.did.tick) n x k h e; order = order; to = to }

pub read_at_by : (n k : ℕ) (h : List Line) (a b : ℕ) → time_of (dids (of n (skip k h))) ≤ a → all_late (λ l. l.did.step.at) n a k h ≡ true → a ≤ b →
    time_of (dids (of n h)) ≤ b → ReadTimes n (skip k h) h a b
read_at_by n k h a b from e order to = record { from = from; next = late_by (λ l. l.did.step.at) n a k h e; order = order; to = to }
