-- What a half shows doesn't fall, nor does what the halves show that are written one after the other.
use Rattle.std.proofs.Common.{◌≡◌, ℕ, ◌+◌, ◌-◌, ◌*◌, ◌/◌, ◌≤◌, ℤ, pos, negsuc, ◌+ℤ◌, ◌-ℤ◌, ◌*ℤ◌, ◌≤ℤ◌, nat_abs, List, [], ◌∷◌, ap, arith, mul-le-mul_left}
use Rattle.std.proofs.lemmas.Int.{ints, clamps}
use Rattle.std.specs.Int.{int_div_euclid, int_max}
use borrow.Author.Differences.{up, down}
use Rattle.tsp_clock.proofs.Slewing.{eased_more}
use Rattle.tsp_page.specs.declared.daemon_half.DaemonHalf.{DaemonHalf}
use Rattle.tsp_page.specs.Formula.{elapsed, gained, tick_at, rest_at, clock_shown_at, shown_at}
use Rattle.tsp_page.specs.Pages.{whole_tick, shown_when, Written, KeepsOn, IsBefore, last_half}
use Rattle.tsp_page.specs.Sound.{IsSoundCount}

-- the slewing of a time is no longer than the time
slewed : (at x y : ℕ) → x ≤ y → ((x - at) / 200 ≤ (y - at) / 200) × ((y - at) / 200 - (x - at) / 200 ≤ y - x)
slewed at x y h = (omega arith, omega arith)

rises_by : (target e f : ℤ) (x y at d : ℕ) → x ≤ y → d ≤ y - x → f ≤ℤ (e +ℤ pos d)
    → ((target +ℤ (pos x -ℤ pos at)) -ℤ e) ≤ℤ ((target +ℤ (pos y -ℤ pos at)) -ℤ f)
rises_by target e f x y at d h k l = omega (arith, ints)

pub clock_rises : (h : DaemonHalf) (x y : ℕ) → x ≤ y → clock_shown_at h x ≤ℤ clock_shown_at h y
clock_rises h x y le =
    let s = slewed h.tick x y le in
    let e = eased_more h.rest ((x - h.tick) / 200) ((y - h.tick) / 200) s.0 in
    rises_by h.target (rest_at h x) (rest_at h y) x y h.tick ((y - h.tick) / 200 - (x - h.tick) / 200) le s.1 e

max_rises : (m a b : ℤ) → a ≤ℤ b → int_max m a ≤ℤ int_max m b
max_rises m a b h = omega (arith, ints, clamps)

pub max_above : (m a : ℤ) → m ≤ℤ int_max m a
max_above m a = omega (arith, ints, clamps)

pub page_rises : (h : DaemonHalf) (x y : ℕ) → x ≤ y → shown_at h x ≤ℤ shown_at h y
page_rises h x y le = max_rises h.least (clock_shown_at h x) (clock_shown_at h y) (clock_rises h x y le)

-- quotients rise
quotient_rises : (a b : ℤ) → a ≤ℤ b → int_div_euclid a (pos 1000) ≤ℤ int_div_euclid b (pos 1000)
quotient_rises (pos a) (pos b) h = omega (arith, ints, h)
quotient_rises (pos a) (negsuc b) h = omega (arith, ints, h)
quotient_rises (negsuc a) (pos b) h = omega (arith, ints, h)
quotient_rises (negsuc a) (negsuc b) h = omega (arith, ints, h)

-- a rest of d billions less takes d off the quotient
quotient_falls : (a b : ℤ) (d : ℕ) → a ≤ℤ (b +ℤ pos (d * 1000000000)) → int_div_euclid a (pos 1000000000) ≤ℤ (int_div_euclid b (pos 1000000000) +ℤ pos d)
quotient_falls (pos a) (pos b) d h = omega (arith, ints, h)
quotient_falls (pos a) (negsuc b) d h = omega (arith, ints, h)
quotient_falls (negsuc a) (pos b) d h = omega (arith, ints, h)
quotient_falls (negsuc a) (negsuc b) d h = omega (arith, ints, h)

-- by how much a product with a rate may fall
product_falls : (e f rate : ℤ) (d : ℕ) → f ≡ e +ℤ pos d → nat_abs rate ≤ 1000000 → (e *ℤ rate) ≤ℤ ((f *ℤ rate) +ℤ pos (d * 1000000000))
product_falls e f rate d h small =
    let u : up e + d + down f ≡ down e + up f = omega (arith, ints, h) in
    let a : (up e + d + down f) * up rate ≡ (down e + up f) * up rate = ap (λ z. z * up rate) u in
    let b : (up e + d + down f) * down rate ≡ (down e + up f) * down rate = ap (λ z. z * down rate) u in
    let few : down rate ≤ up rate + 1000000 = omega (arith, ints, small) in
    let m : d * down rate ≤ d * (up rate + 1000000) = mul-le-mul_left d few in
    omega (arith, ints, a, b, m)

tick_rises_by : (tick e f g k : ℤ) (d : ℕ) → f ≡ e +ℤ pos d → g ≤ℤ (k +ℤ pos d) → ((tick +ℤ e) +ℤ g) ≤ℤ ((tick +ℤ f) +ℤ k)
tick_rises_by tick e f g k d h l = omega (arith, ints)

-- two numbers of which one is no less, by their difference
difference : (e f : ℤ) → e ≤ℤ f → f ≡ e +ℤ pos (nat_abs (f -ℤ e))
difference e f h = omega (arith, ints, h)

pub tick_rises : (h : DaemonHalf) → IsSoundCount h → (n m : ℕ) → n ≤ m → tick_at h n ≤ℤ tick_at h m
tick_rises h sound n m le =
    let e = elapsed h n in
    let f = elapsed h m in
    let d = nat_abs (f -ℤ e) in
    let up_to : e ≤ℤ f = quotient_rises (pos n -ℤ h.origin) (pos m -ℤ h.origin) (omega (arith, ints, le)) in
    let more : f ≡ e +ℤ pos d = difference e f up_to in
    let gain = quotient_falls (e *ℤ h.rate) (f *ℤ h.rate) d (product_falls e f h.rate d more sound.rate) in
    tick_rises_by (pos h.origin_tick) e f (gained h.rate e) (gained h.rate f) d more gain

whole_rises : (a b : ℤ) → a ≤ℤ b → whole_tick a ≤ whole_tick b
whole_rises (pos a) (pos b) h = omega (arith, ints, h)
whole_rises (pos a) (negsuc b) h = omega (arith, ints, h)
whole_rises (negsuc a) b h = omega arith

pub when_rises : (h : DaemonHalf) → IsSoundCount h → (n m : ℕ) → n ≤ m → shown_when h n ≤ℤ shown_when h m
when_rises h sound n m le = page_rises h (whole_tick (tick_at h n)) (whole_tick (tick_at h m)) (whole_rises (tick_at h n) (tick_at h m) (tick_rises h
    sound n m le))

trans : (a b c : ℤ) → a ≤ℤ b → b ≤ℤ c → a ≤ℤ c
trans a b c h k = omega (arith, ints, h, k)

-- what each later half shows, whenever it is read, is no less than what an earlier one showed when it was replaced
all_above : (h : DaemonHalf) (w : Written) (ws : List Written) → KeepsOn h (w ∷ ws) → (m : ℕ) → w.half.least ≤ℤ shown_when (last_half w.half ws) m
all_above h w [] k m = max_above w.half.least (clock_shown_at w.half (whole_tick (tick_at w.half m)))
all_above h w (v ∷ vs) k m =
    let least : w.half.least ≤ℤ shown_when w.half v.at = max_above w.half.least (clock_shown_at w.half (whole_tick (tick_at w.half v.at))) in
    let next : shown_when w.half v.at ≤ℤ v.half.least = k.1.0.least in
    trans w.half.least (shown_when w.half v.at) (shown_when (last_half v.half vs) m) least
    (trans (shown_when w.half v.at) v.half.least (shown_when (last_half v.half vs) m) next (all_above w.half v vs k.1 m))

pub reads_rise : (h : DaemonHalf) (ws : List Written) → IsSoundCount h → KeepsOn h ws → (n m : ℕ) → n ≤ m → IsBefore n ws
    → shown_when h n ≤ℤ shown_when (last_half h ws) m
reads_rise h [] sound k n m le before = when_rises h sound n m le
reads_rise h (w ∷ ws) sound k n m le before =
    trans (shown_when h n) (shown_when h w.at) (shown_when (last_half w.half ws) m) (when_rises h sound n w.at before)
    (trans (shown_when h w.at) w.half.least (shown_when (last_half w.half ws) m) k.0.least (all_above h w ws k m))
