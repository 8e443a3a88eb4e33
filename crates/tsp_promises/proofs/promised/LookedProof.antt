-- Why a look at a clock bounds how far that clock is ahead later.
use Rattle.std.proofs.Common.{sym, arith, subst, mul-le-mul_left, ◌≡◌, ℕ, ◌+◌, ◌-◌, ◌*◌, ◌/◌, ◌≤◌, ℤ, pos, ◌-ℤ◌, ◌+ℤ◌, ◌≤ℤ◌, List}
use Rattle.std.proofs.lemmas.Int.{ints}
use Rattle.tsp_base.specs.Words.{Line, width}
use Rattle.tsp_promises.specs.Looked.{Look, width_by_ticks, IsAhead, Looked}
use Rattle.tsp_promises.{proofs.shared.Clocks.tick_mono, proofs.promised.ClockProof.offset, proofs.shared.MasterMoved.offset_kept, specs.Fits.Fits}
use Rattle.tsp_promises.{specs.Setting.Setting}

-- the drift of a span, rounded up
abbrev part : ℕ → ℕ → ℕ
part p x = (p * x + 999999) / 1000000

sharp_over : (setting : Setting) (n a b : ℕ) → a ≤ b →
    (setting.tick n b ≤ setting.tick n a + (b - a) + part setting.drift (b - a)) × (setting.tick n a + (b - a) ≤ setting.tick n b + part setting.drift (b - a))
sharp_over setting n a b o =
    let e : a + (b - a) ≡ b = omega arith in
    subst (λ w. (setting.tick n w ≤ setting.tick n a + (b - a) + part setting.drift (b - a)) ×
    (setting.tick n a + (b - a) ≤ setting.tick n w + part setting.drift (b - a))) e
    (let k = setting.ticks n in (k.fast a (b - a), k.slow a (b - a)))

-- the drift of a span is no more than that of a longer one
part_mono : (p x y : ℕ) → x ≤ y → part p x ≤ part p y
part_mono p x y h = let m : p * x ≤ p * y = mul-le-mul_left p h in omega arith

-- a span whose ticks are x or fewer drifts by no more than the ticks tell, for 100 s
by_ticks : (p y x : ℕ) → p ≤ 1000 → y ≤ x + part p y → x ≤ 100000000 → part p y ≤ width_by_ticks p x
by_ticks p y x small reach short =
    let w : ℕ = width p x in
    let e : ℕ = part p y in
    let a : p * y ≤ p * (x + e) = mul-le-mul_left p reach in
    let b : y * p ≤ y * 1000 = mul-le-mul_left y small in
    let c : e * p ≤ e * 1000 = mul-le-mul_left e small in
    let near : e ≤ w + 101 = omega arith in
    let d : p * e ≤ p * (w + 101) = mul-le-mul_left p near in
    omega arith

-- two clocks, by the values that they had
apart : (w v : ℤ) (kf kl kt mm mt span e b : ℕ) →
    kf ≤ kl → kl ≤ kt →
    (mt ≤ mm + span + e) → (mm + span ≤ mt + e) → (kt ≤ kl + span + e) → (kf + span ≤ kt + e) → e ≤ b →
    ((((v +ℤ pos mm) -ℤ (w +ℤ pos kl)) -ℤ pos (2 * b)) ≤ℤ ((v +ℤ pos mt) -ℤ (w +ℤ pos kt))) ×
    (((v +ℤ pos mt) -ℤ (w +ℤ pos kt)) ≤ℤ (((v +ℤ pos mm) -ℤ (w +ℤ pos kf)) +ℤ pos (2 * b)))
apart w v kf kl kt mm mt span e b f l up down kup kdown le = (omega (arith, ints), omega (arith, ints))

looked_from : (setting : Setting) (h : List Line) → Fits setting h → (k m t : ℕ) (look : Look k m h t) (b : ℕ) → part setting.drift (t - look.middle) ≤ b →
    IsAhead setting look b
looked_from setting h fits k m t look b le =
    let kb = offset_kept setting k look.before h fits look.own_before.within look.own_before.since in
    let ka = offset_kept setting k look.after h fits look.own_after.within look.own_after.since in
    let mt = offset_kept setting m look.there h fits look.other.within look.other.since in
    let span : ℕ = t - look.middle in
    let e : ℕ = part setting.drift span in
    let n : look.middle ≤ t = let i = look.begins in let j = look.ends in let q = look.passed in omega arith in
    let mine = sharp_over setting m look.middle t n in
    let mid = sharp_over setting k look.middle t n in
    let late = sharp_over setting k look.last t look.passed in
    let less : part setting.drift (t - look.last) ≤ e = part_mono setting.drift (t - look.last) span (let j = look.ends in omega arith) in
    let first = tick_mono setting k look.first look.middle look.begins in
    let second = tick_mono setting k look.middle look.last look.ends in
    let third = tick_mono setting k look.last t look.passed in
    let kup : setting.tick k t ≤ setting.tick k look.last + span + e = let j = look.ends in omega (arith, late.0, less) in
    let kdown : setting.tick k look.first + span ≤ setting.tick k t + e = omega (arith, mid.1, first) in
    rw kb (rw ka (rw mt (
    apart (offset setting k h) (offset setting m h)
    (setting.tick k look.first) (setting.tick k look.last) (setting.tick k t)
    (setting.tick m look.middle) (setting.tick m t) span e b
    (omega (arith, first, second)) third mine.0 mine.1 kup kdown le)))

pub looked : (setting : Setting) (h : List Line) → Fits setting h → Looked setting h
looked setting h fits k m t look = (
  looked_from setting h fits k m t look (width setting.drift (t - look.middle)) (omega arith),
  λ x is short. looked_from setting h fits k m t look (width_by_ticks setting.drift x)
      (by_ticks setting.drift (t - look.middle) x setting.small (subst (λ y. t - look.middle ≤ y + part setting.drift (t - look.middle)) (sym is) reach) short),
) where
  reach : t - look.middle ≤ (setting.tick k t - setting.tick k look.first) + part setting.drift (t - look.middle)
  reach =
      let n : look.middle ≤ t = let i = look.begins in let j = look.ends in let q = look.passed in omega arith in
      let mid = sharp_over setting k look.middle t n in
      let first = tick_mono setting k look.first look.middle look.begins in
      let all = tick_mono setting k look.middle t n in
      omega (arith, mid.1, first, all)
