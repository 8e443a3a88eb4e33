-- Lemmas on a rest that is slewed away.
use Rattle.std.proofs.Common.{◌≡◌, ℕ, ◌+◌, ◌-◌, ◌*◌, ◌/◌, ◌≤◌, ℤ, pos, negsuc, ◌+ℤ◌, ◌-ℤ◌, ◌≤ℤ◌, nat_abs, arith}
use Rattle.std.proofs.lemmas.Int.{ints}
use Rattle.tsp_base.specs.Words.{eased}

-- more slewing changes a rest by no more than itself
pub eased_more : (r : ℤ) (n m : ℕ) → n ≤ m → eased r m ≤ℤ (eased r n +ℤ pos (m - n))
eased_more (pos r) n m h = grind (arith, ints)
eased_more (negsuc r) n m h = grind (arith, ints)

-- a rest that was slewed whole is none
pub eased_whole : (r : ℤ) (n : ℕ) → nat_abs r ≤ n → eased r n ≡ pos 0
eased_whole (pos r) n h = grind (arith, ints)
eased_whole (negsuc r) n h = grind (arith, ints)

-- the slewing of a time is no longer than the time
pub slewed_between : (at x y : ℕ) → at ≤ x → x ≤ y → ((x - at) / 200 ≤ (y - at) / 200) × ((y - at) / 200 - (x - at) / 200 ≤ y - x)
slewed_between at x y h k = (omega arith, omega arith)

pub slewed_whole : (at n x : ℕ) → at + 200 * n ≤ x → n ≤ (x - at) / 200
slewed_whole at n x h = omega arith

pub rises_by : (offset e f : ℤ) (x y d : ℕ) → x ≤ y → d ≤ y - x → f ≤ℤ (e +ℤ pos d) → ((offset +ℤ pos x) -ℤ e) ≤ℤ ((offset +ℤ pos y) -ℤ f)
rises_by offset e f x y d h k l = omega (arith, ints)

pub stays_by : (offset r amount : ℤ) (x : ℕ) → ((offset +ℤ amount) +ℤ pos x) -ℤ (r +ℤ amount) ≡ (offset +ℤ pos x) -ℤ r
stays_by offset r amount x = omega (arith, ints)

pub moves_by : (offset amount : ℤ) (y : ℕ) → (offset +ℤ amount) +ℤ pos y ≡ (offset +ℤ pos y) +ℤ amount
moves_by offset amount y = omega (arith, ints)

pub none_left : (t : ℤ) → t -ℤ pos 0 ≡ t
none_left t = omega (arith, ints)

pub no_time : (x : ℕ) → (x - x) / 200 ≡ 0
no_time x = omega arith
