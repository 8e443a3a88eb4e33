-- After how many microseconds so many ticks have passed.
use Rattle.std.proofs.Common.{◌≡◌, ℕ, ◌+◌, ◌-◌, ◌*◌, ◌/◌, ◌%◌, ◌^◌, ◌<◌, ◌≤◌, arith, mul-le-mul_left}
use Rattle.std.proofs.Math.Nat.{div-mul-le_self}
use Rattle.std.proofs.lemmas.Nat.{div-add-mod', div_below, le-div, mod_below}
use Rattle.tsp_io.specs.Speeds.{reach}

few_by : (speed few part : ℕ) → 999000000 ≤ speed → part ≤ few * 999000000 → few * 999000000 ≤ few * speed → (few + 1) * speed ≡ few * speed + speed →
    part + (speed - 1) < (few + 1) * speed
few_by speed few part low small more one = omega (arith, low, small, more, one)

-- they are few
pub reach_few : (speed ticks : ℕ) → 999000000 ≤ speed → ticks ≤ 2 ^ 51 → reach speed ticks ≤ 2254054054054054
reach_few speed ticks low small =
    let few : ℕ = 2254054054054054 in
    let more : few * 999000000 ≤ few * speed = mul-le-mul_left few low in
    let one : (few + 1) * speed ≡ few * speed + speed = omega arith in
    let part : ticks * 1000000000 ≤ few * 999000000 = omega (arith, small) in
    let less : ticks * 1000000000 + (speed - 1) < (few + 1) * speed = few_by speed few (ticks * 1000000000) low part more one in
    let below = div_below (ticks * 1000000000 + (speed - 1)) speed (few + 1) (omega (arith, low)) less in
    omega (arith, below)

whole_by : (n part speed left : ℕ) → 0 < speed → n + left ≡ part + (speed - 1) → left < speed → part ≤ n
whole_by n part speed left up e less = omega (arith, up, e, less)

-- so many microseconds are enough
pub reach_comes : (speed ticks : ℕ) → 999000000 ≤ speed → ticks ≤ reach speed ticks * speed / 1000000000
reach_comes speed ticks low =
    let part : ℕ = ticks * 1000000000 in
    let up : reach speed ticks * speed + (part + (speed - 1)) % speed ≡ part + (speed - 1) = div-add-mod' (part + (speed - 1)) speed in
    let less : (part + (speed - 1)) % speed < speed = mod_below (part + (speed - 1)) speed (omega (arith, low)) in
    let whole : part ≤ reach speed ticks * speed =
    whole_by (reach speed ticks * speed) part speed ((part + (speed - 1)) % speed) (omega (arith, low)) up less in
    le-div ticks (reach speed ticks * speed) 1000000000 (omega arith) whole

first_by : (part speed e : ℕ) → 0 < speed → part ≤ e * speed → (e + 1) * speed ≡ e * speed + speed → part + (speed - 1) < (e + 1) * speed
first_by part speed e up less one = omega (arith, up, less, one)

-- and fewer aren't
pub reach_first : (speed ticks e : ℕ) → 999000000 ≤ speed → ticks ≤ e * speed / 1000000000 → reach speed ticks ≤ e
reach_first speed ticks e low enough =
    let part : ℕ = ticks * 1000000000 in
    let whole : e * speed / 1000000000 * 1000000000 ≤ e * speed = div-mul-le_self (e * speed) 1000000000 in
    let some : part ≤ e * speed = omega (arith, enough, whole) in
    let one : (e + 1) * speed ≡ e * speed + speed = omega arith in
    let less = first_by part speed e (omega (arith, low)) some one in
    let below = div_below (part + (speed - 1)) speed (e + 1) (omega (arith, low)) less in
    omega (arith, below)
