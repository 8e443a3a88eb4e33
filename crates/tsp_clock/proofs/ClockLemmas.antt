-- What keeps a clock in its range.
use Rattle.std.proofs.Common.{arith, SFits, w64, ◌≡◌, ℕ, ◌+◌, ◌-◌, ◌/◌, ◌%◌, ◌^◌, ◌≤◌, ℤ, pos, negsuc, ◌+ℤ◌, ◌-ℤ◌, ◌≤ℤ◌, ◌<ℤ◌, Bool, true, false, if◌then◌else◌}
use Rattle.std.proofs.Common.{refl}
use Rattle.std.proofs.lemmas.Int.{ints}
use Rattle.tsp_base.specs.Words.{Past, plain, eased, base, moved, word, corrects, grown}
use Rattle.tsp_base.proofs.TickLemmas.{eased_none}
use Rattle.tsp_rules.specs.{ClockRows.is_step, ClockRows.adjusts, ClockRows.sets, Guards.is_clock_value, Values.SLEW}
use Rattle.tsp_clock.specs.Clocks.{ClockValue, target_of, slew_rest, shown_of, adjusted, set_to}
use Rattle.tsp_clock.specs.ClockStands.{ClockStands}

-- the ends of a clock's range
pub clock_value_low : (z : ℤ) → is_clock_value z ≡ true → negsuc 2147483647999999 <ℤ z
clock_value_low z h = grind (arith, ints)

pub clock_value_high : (z : ℤ) → is_clock_value z ≡ true → z <ℤ pos 2147483648000000
clock_value_high z h = grind (arith, ints)

-- one correction more
pub next_ticket : (old w n : ℕ) → old ≡ (w + n) % 32768 → (old + 1) % 32768 ≡ (w + (n + 1)) % 32768
next_ticket old w n e = omega arith

pub set_offset : (value base moved : ℤ) (x : ℕ) → value -ℤ pos x ≡ base +ℤ (moved +ℤ (value -ℤ ((base +ℤ moved) +ℤ pos x)))
set_offset value base moved x = omega (arith, ints)

pub adjusted_offset : (base moved amount : ℤ) → (base +ℤ moved) +ℤ amount ≡ base +ℤ (moved +ℤ amount)
adjusted_offset base moved amount = omega (arith, ints)

-- what is shown right after an adjustment: the new target after a step, else what was shown before
shown_after : (b : Bool) (offset left amount : ℤ) (x n : ℕ) → n ≡ 0 →
    ((offset +ℤ amount) +ℤ pos x) -ℤ eased (if b then pos 0 else left +ℤ amount) n ≡ (if b then (offset +ℤ pos x) +ℤ amount else (offset +ℤ pos x) -ℤ left)
shown_after true offset left amount x n e = rw (e, eased_none (pos 0)) (omega (arith, ints))
shown_after false offset left amount x n e = rw (e, eased_none (left +ℤ amount)) (omega (arith, ints))

pub shown_adjusted : (v : ClockValue) (x : ℕ) (amount : ℤ) →
    shown_of (adjusted v x amount) x ≡ (if is_step amount then target_of v x +ℤ amount else shown_of v x)
shown_adjusted v x amount = shown_after (is_step amount) v.offset (slew_rest v x) amount x ((x - x) / SLEW) (omega arith)

-- a clock that was set stands for the past with that correction
pub Stands_sets : (value : ℤ) (x : ℕ) (past : Past) (v : ClockValue) → ClockStands past v → ClockStands (grown x past (sets value x past)) (set_to v x value)
unfolding sets
Stands_sets value x past v h = record {
  offset_is = set_offset value (base (plain past.seen)) (moved (plain past.seen)) x;
  rest_is = refl;
  at_is = refl;
  ticket_is = next_ticket _ (word (plain past.seen)) (corrects (plain past.seen)) h.ticket_is;
}

-- and so does one that was adjusted
pub Stands_adjusts : (amount : ℤ) (x : ℕ) (past : Past) (v : ClockValue) → ClockStands past v →
    ClockStands (grown x past (adjusts amount x past)) (adjusted v x amount)
unfolding adjusts
Stands_adjusts amount x past v h = record {
  offset_is = rw h.offset_is (adjusted_offset (base (plain past.seen)) (moved (plain past.seen)) amount);
  rest_is = rw (h.rest_is, h.at_is) refl;
  at_is = refl;
  ticket_is = next_ticket _ (word (plain past.seen)) (corrects (plain past.seen)) h.ticket_is;
}

-- a step shows the new target
pub stepped_low : (t : ℤ) → is_clock_value t ≡ true → negsuc 2147483647999999 <ℤ (t -ℤ pos 0)
stepped_low t h = let low : negsuc 2147483647999999 <ℤ t = clock_value_low t h in omega (arith, ints)

pub stepped_high : (t : ℤ) (x : ℕ) → is_clock_value t ≡ true → (t -ℤ pos 0) ≤ℤ pos (2147483648000000 + x)
stepped_high t x h = let high : t <ℤ pos 2147483648000000 = clock_value_high t h in omega (arith, ints)

-- any other correction leaves what is shown
pub shown_kept : (t left amount : ℤ) → (t +ℤ amount) -ℤ (left +ℤ amount) ≡ t -ℤ left
shown_kept t left amount = omega (arith, ints)

fits_between : (z : ℤ) → negsuc 9000000000000000000 <ℤ z → z <ℤ pos 9000000000000000000 → SFits w64 z
fits_between (pos n) low high = record { sfits = omega (arith, ints) }
fits_between (negsuc n) low high = record { sfits = omega (arith, ints) }

-- and its rest fits its type
pub left_fits : (t left amount : ℤ) (x : ℕ) → x ≤ 2 ^ 61 → is_clock_value (t +ℤ amount) ≡ true → negsuc 2147483647999999 <ℤ (t -ℤ left) →
    (t -ℤ left) ≤ℤ pos (2147483648000000 + x) → SFits w64 (left +ℤ amount)
left_fits t left amount x early h shown_low shown_high =
    let low : negsuc 2147483647999999 <ℤ (t +ℤ amount) = clock_value_low (t +ℤ amount) h in
    let high : (t +ℤ amount) <ℤ pos 2147483648000000 = clock_value_high (t +ℤ amount) h in
    fits_between (left +ℤ amount) (omega (arith, ints)) (omega (arith, ints))

-- from a target to a value
pub amount_fits : (value t : ℤ) (x : ℕ) → x ≤ 2 ^ 61 → is_clock_value value ≡ true → negsuc 2147483647999999 <ℤ t → t <ℤ pos (2147483648000000 + x) →
    SFits w64 (value -ℤ t)
amount_fits value t x early h from to =
    let low : negsuc 2147483647999999 <ℤ value = clock_value_low value h in
    let high : value <ℤ pos 2147483648000000 = clock_value_high value h in
    fits_between (value -ℤ t) (omega (arith, ints)) (omega (arith, ints))
