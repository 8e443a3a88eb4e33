-- Why the master's clock lies in the interval.
use Rattle.std.proofs.Common.{
  ◌≡◌,
  ◌≢◌,
  ℕ,
  ◌+◌,
  ◌-◌,
  ◌*◌,
  ◌/◌,
  ◌≤◌,
  nat_le,
  if◌then◌else◌,
  Bool,
  true,
  false,
  ℤ,
  pos,
  ◌-ℤ◌,
  ◌+ℤ◌,
  ◌≤ℤ◌,
  List,
  refl,
  ap,
  sym,
  subst,
  ◌∙◌,
  arith,
  mul-le-mul_left,
}
use Rattle.std.proofs.lemmas.{Int.ints, Bool.leb-true}
use Rattle.tsp_base.proofs.PlaceLemmas.{Within_all}
use Rattle.tsp_base.specs.Words.{Line, of, dids, lives, moved, width}
use Rattle.tsp_promises.specs.{ClockAt.clock_at, Fits.Fits, Setting.Setting, Looked.Look, Looked.IsAhead}
use Rattle.tsp_promises.proofs.{promised.ClockProof.clock_target, promised.ClockProof.offset, promised.ClockProof.offset_more, shared.Clocks.tick_mono}
use Rattle.tsp_promises.proofs.{promised.LookedProof.looked}
use Rattle.tsp_page.specs.{Formula.spread, Formula.target_at, Formula.tick_error, Readings.interval_by, Readings.looked_interval, Readings.leading_interval}
use Rattle.tsp_page.specs.declared.{daemon_half.DaemonHalf.DaemonHalf, look_half.LookHalf.LookHalf}
use Rattle.tsp_page.specs.declared.rank.Rank.{Rank, TheVariants.Nobody, TheVariants.Follows, TheVariants.Leads}
use Rattle.tsp_page.proofs.PastLemmas.{target_told}
use Rattle.tsp_page_laws.specs.Looks.{SaysClock, SaysLook, Holds, LiesWithin}

-- true time is within the own ticks and twice their width, however many they are
pub by_all_ticks : (p y x : ℕ) → p ≤ 1000 → y ≤ x + (p * y + 999999) / 1000000 → y ≤ x + 2 * width p x
by_all_ticks p y x small reach =
    let a : p * y ≤ p * (x + (p * y + 999999) / 1000000) = mul-le-mul_left p reach in
    let c : (p * y + 999999) / 1000000 * p ≤ (p * y + 999999) / 1000000 * 1000 = mul-le-mul_left ((p * y + 999999) / 1000000) small in
    omega (arith, a, c)

width_mono : (p x y : ℕ) → x ≤ y → width p x ≤ width p y
width_mono p x y h = let m : p * x ≤ p * y = mul-le-mul_left p h in omega (arith, m)

-- true time since the master was read, by the own ticks since
reach : (setting : Setting) (k first middle t : ℕ) → first ≤ middle → middle ≤ t → t - middle ≤ (setting.tick k t - setting.tick k first) +
    (setting.drift * (t - middle) + 999999) / 1000000
reach setting k first middle t b p =
    let e : middle + (t - middle) ≡ t = omega (arith, p) in
    let slow : setting.tick k middle + (t - middle) ≤ setting.tick k t + (setting.drift * (t - middle) + 999999) / 1000000 =
    subst (λ w. setting.tick k middle + (t - middle) ≤ setting.tick k w + (setting.drift * (t - middle) + 999999) / 1000000) e ((setting.ticks
    k).slow middle (t - middle)) in
    let early = tick_mono setting k first middle b in
    let late = tick_mono setting k middle t p in
    omega (arith, slow, early, late)

≤ℤ-same : (z : ℤ) → z ≤ℤ z
≤ℤ-same z = omega (arith, ints)

difference : (a b : ℤ) → a ≡ b +ℤ (a -ℤ b)
difference a b = omega (arith, ints)

plus_last : (z am : ℤ) (x : ℕ) (y : ℤ) → y ≡ z +ℤ am → y +ℤ pos x ≡ (z +ℤ pos x) +ℤ am
plus_last z am x y e = omega (arith, ints, e)

-- k's ticks since its first reading
abbrev ticks_since : Setting → {k m : ℕ} {h : List Line} {t : ℕ} → Look k m h t → ℕ
ticks_since setting {k} {m} {h} {t} look = setting.tick k t - setting.tick k look.first

-- an interval around a target, by what a look bounds
lower : (cm ck low s kl ks dm lm am : ℤ) (b : ℕ) → ((s -ℤ kl) -ℤ pos (2 * b)) ≤ℤ (cm -ℤ ck) → kl ≡ ks +ℤ am → dm ≡ lm +ℤ am → low ≤ℤ (s -ℤ ks)
    → (((ck -ℤ (dm -ℤ lm)) +ℤ low) -ℤ pos (2 * b)) ≤ℤ cm
lower cm ck low s kl ks dm lm am b a e f g = omega (arith, ints, a, e, f, g)

upper : (cm ck high s kf ks dm lm am : ℤ) (b : ℕ) → (cm -ℤ ck) ≤ℤ ((s -ℤ kf) +ℤ pos (2 * b)) → kf ≡ ks +ℤ am → dm ≡ lm +ℤ am → (s -ℤ ks) ≤ℤ high
    → cm ≤ℤ (((ck -ℤ (dm -ℤ lm)) +ℤ high) +ℤ pos (2 * b))
upper cm ck high s kf ks dm lm am b a e f g = omega (arith, ints, a, e, f, g)

-- a wider bound holds too
wider : (setting : Setting) (k m t : ℕ) (h : List Line) (look : Look k m h t) (a b : ℕ) → a ≤ b → IsAhead setting look a → IsAhead setting look b
wider setting k m t h look a b le ahead = (omega (arith, ints, ahead.0, le), omega (arith, ints, ahead.1, le))

-- the look as a look at clocks left alone: the own clock counts as it is now
abbrev look_of : (setting : Setting) (k m t : ℕ) (h : List Line) (l : LookHalf) → SaysLook setting k m h t l → Look k m h t
look_of setting k m t h l s = record {
  first = s.first;
  middle = s.middle;
  last = s.last;
  begins = s.begins;
  ends = s.ends;
  passed = s.passed;
  before = h;
  there = s.there;
  after = h;
  own_before = record { within = Within_all h; since = record { corrects = refl; lives = refl } };
  other = s.other;
  own_after = record { within = Within_all h; since = record { corrects = refl; lives = refl } };
}

-- for so many own ticks the spread is twice a width that is as wide as that of the true time
chosen : (setting : Setting) (h : List Line) → Fits setting h → (k m t : ℕ) (look : Look k m h t) (soon : Bool) → (soon ≡ true
    → ticks_since setting look ≤ 100000000)
    → IsAhead setting look (width setting.drift (ticks_since setting look + (if soon then width setting.drift (ticks_since setting look) else 2 *
    width setting.drift (ticks_since setting look))))
chosen setting h fits k m t look true short = (looked setting h fits k m t look).1 (ticks_since setting look) refl (short refl)
chosen setting h fits k m t look false short =
    let y = ticks_since setting look in
    let span = t - look.middle in
    let before_t : look.middle ≤ t = let e = look.ends in let p = look.passed in omega arith in
    let near : span ≤ y + 2 * width setting.drift y = by_all_ticks setting.drift span y setting.small (reach setting k look.first look.middle t
    look.begins before_t) in
    wider setting k m t h look (width setting.drift span) (width setting.drift (y + 2 * width setting.drift y))
    (width_mono setting.drift span (y + 2 * width setting.drift y) near) (looked setting h fits k m t look).0

ahead_by : (setting : Setting) (h : List Line) → Fits setting h → (k m t : ℕ) (look : Look k m h t)
    → IsAhead setting look (width setting.drift (ticks_since setting look + tick_error setting.drift (ticks_since setting look)))
ahead_by setting h fits k m t look = chosen setting h fits k m t look (nat_le (ticks_since setting look) 100000000) (λ e. leb-true (ticks_since
    setting look) 100000000 e)

-- the interval of a host that doesn't lead is the looked one
not_leading : (r : Rank) (d : DaemonHalf) (l : LookHalf) (x : ℕ) → r ≢ Leads → interval_by r d l x ≡ looked_interval d l x
not_leading Leads d l x ne = absurd (ne refl)
not_leading Follows d l x ne = refl
not_leading Nobody d l x ne = refl

leading : (r : Rank) (d : DaemonHalf) (l : LookHalf) (x : ℕ) → r ≡ Leads → interval_by r d l x ≡ leading_interval d x
leading r d l x e = rw e refl

same_spread : (p q a b : ℕ) → p ≡ q → a ≡ b → spread p a ≡ spread q b
same_spread p q a b e f = rw (e, f) refl

-- a correction since the place moves the clock as much
corrected_since : (setting : Setting) (k : ℕ) (seen h : List Line) (at : ℕ) (am : ℤ) → lives (dids (of k seen)) ≡ lives (dids (of k h))
    → moved (dids (of k h)) ≡ moved (dids (of k seen)) +ℤ am
    → clock_at setting k h at ≡ clock_at setting k seen at +ℤ am
corrected_since setting k seen h at am life more =
    plus_last (offset setting k seen) am (setting.tick k at) (offset setting k h) (offset_more setting k seen h am life more)

pub within : (setting : Setting) (k m t : ℕ) (h : List Line) (d : DaemonHalf) (l : LookHalf) → Fits setting h → SaysClock k h d
    → SaysLook setting k m h t l → d.rank ≢ Leads
    → LiesWithin setting k m h t d l
within setting k m t h d l fits c s ne =
    let x = setting.tick k t in
    let look = look_of setting k m t h l s in
    let own : target_at d x ≡ clock_at setting k h t = target_told (dids (of k h)) d x c.clock ∙ sym (clock_target setting k h t fits c.booted) in
    let am = moved (dids (of k h)) -ℤ moved (dids (of k s.seen)) in
    let more : moved (dids (of k h)) ≡ moved (dids (of k s.seen)) +ℤ am = difference (moved (dids (of k h))) (moved (dids (of k s.seen))) in
    let total : d.moved ≡ l.moved +ℤ am = rw (c.moved_is, s.moved_is) more in
    let ahead = ahead_by setting h fits k m t look in
    let w = width setting.drift (ticks_since setting look + tick_error setting.drift (ticks_since setting look)) in
    let apart : spread l.drift (x - l.looked) ≡ 2 * w = same_spread l.drift setting.drift (x - l.looked) (ticks_since setting look) s.drift_is (ap (λ
    z. x - z) s.looked_is) in
    let late = corrected_since setting k s.seen h s.last am s.same_life more in
    let early = corrected_since setting k s.seen h s.first am s.same_life more in
    subst (λ i. Holds i (clock_at setting m h t)) (sym (not_leading d.rank d l x ne)) (record {
      earliest = rw (own, apart) (lower (clock_at setting m h t) (clock_at setting k h t) l.low (clock_at setting m s.there s.middle) (clock_at
          setting k h s.last) (clock_at setting k s.seen s.last)
          d.moved l.moved am w ahead.0 late total s.low_is);
      latest = rw (own, apart) (upper (clock_at setting m h t) (clock_at setting k h t) l.high (clock_at setting m s.there s.middle) (clock_at
          setting k h s.first) (clock_at setting k s.seen s.first)
          d.moved l.moved am w ahead.1 early total s.high_is);
    })

pub leads_within : (setting : Setting) (k t : ℕ) (h : List Line) (d : DaemonHalf) (l : LookHalf) → Fits setting h → SaysClock k h d
    → d.rank ≡ Leads → LiesWithin setting k k h t d l
leads_within setting k t h d l fits c e =
    let x = setting.tick k t in
    let own : target_at d x ≡ clock_at setting k h t = target_told (dids (of k h)) d x c.clock ∙ sym (clock_target setting k h t fits c.booted) in
    subst (λ i. Holds i (clock_at setting k h t)) (sym (leading d.rank d l x e)) (record {
      earliest = rw own (≤ℤ-same (clock_at setting k h t));
      latest = rw own (≤ℤ-same (clock_at setting k h t));
    })
