-- The largest group of values that lie within a span, and its mean (the averaging of the TEMPO method).
use Rattle.std.specs.Prelude.{◌≡◌, ℕ, ◌*◌, ◌/◌, ◌<◌, ◌==◌, nat_lt, Bool, true, false, ◌&&◌, if◌then◌else◌, ℤ, pos, negsuc, ◌+ℤ◌, ◌-ℤ◌, ◌≤ℤ◌, int_lt, int_le}
use Rattle.std.specs.Prelude.{unsigned_abs, List, length}
use Rattle.std.specs.List.{filter, fold, count_by, Contains}
use Rattle.std.specs.Int.{int_max}
use Rattle.tsp_group.specs.declared.group.Group.{Group}

-- whether x lies from lo to lo + span
abbrev pub is_member : ℕ → ℤ → ℤ → Bool
is_member span lo x = int_le lo x && int_le x (lo +ℤ pos span)

-- the values from lo to lo + span
abbrev pub members : ℕ → List ℤ → ℤ → List ℤ
members span values lo = filter (is_member span lo) values

-- the sum of the values
abbrev pub total : List ℤ → ℤ
total values = fold ◌+ℤ◌ (pos 0) values

-- the group of the values from lo to lo + span: its width is the greatest member minus lo
unfoldable pub group_from : ℕ → List ℤ → ℤ → Group
group_from span values lo = record {
  lo = lo;
  width = fold int_max lo (members span values lo) -ℤ lo;
  count = length (members span values lo);
  sum = total (members span values lo);
}

-- whether g is better than h: more members, then the lesser width, then the lesser magnitude of lo, then the lesser lo
unfoldable pub goes_before : Group → Group → Bool
goes_before g h =
    if g.count == h.count
    then (if unsigned_abs g.width == unsigned_abs h.width
    then (if unsigned_abs g.lo == unsigned_abs h.lo then int_lt g.lo h.lo else nat_lt (unsigned_abs g.lo) (unsigned_abs h.lo))
    else nat_lt (unsigned_abs g.width) (unsigned_abs h.width))
    else nat_lt h.count g.count

-- the better of two groups
unfoldable pub better : Group → Group → Group
better g h = if goes_before h g then h else g

-- a group without members, which is worse than any other
abbrev pub no_group : Group
no_group = record { lo = pos 0; width = pos 0; count = 0; sum = pos 0 }

-- the better one of a group and that of the values from lo on
abbrev pub try_lo : ℕ → List ℤ → Group → ℤ → Group
try_lo span values best lo = better best (group_from span values lo)

-- the largest group: each value is tried as lo
abbrev pub group_of : ℕ → List ℤ → Group
group_of span values = fold (try_lo span values) no_group values

-- g is the group from one of the values on, and that of no other value is better
pub record IsLargest (span : ℕ) (values : List ℤ) (g : Group) : Type 0 where
  pub from : Contains values g.lo
  pub whole : g ≡ group_from span values g.lo
  pub first : (lo : ℤ) → Contains values lo → goes_before (group_from span values lo) g ≡ false

-- a whole number divided by n, rounded down
abbrev pub floor_div : ℤ → ℕ → ℤ
floor_div (pos a) n = pos (a / n)
floor_div (negsuc a) n = negsuc (a / n)

-- the mean of a group
abbrev pub mean_of : Group → ℤ
mean_of g = floor_div g.sum g.count

-- a group has at least one member, and its sum is less than 2 ^ 30 seconds for each member, so that it has a mean
pub record HasMean (g : Group) : Type 0 where
  pub some : 0 < g.count
  pub near : unsigned_abs g.sum < g.count * 1073741824000000

-- x and y differ by at most n
pub record IsWithin (n : ℕ) (x y : ℤ) : Type 0 where
  pub low : x ≤ℤ (y +ℤ pos n)
  pub high : y ≤ℤ (x +ℤ pos n)

-- any two of the values that pass the test lie within the span of each other
abbrev pub Agree : ℕ → List ℤ → (ℤ → Bool) → Type 0
Agree span values test = (x y : ℤ) → Contains values x → Contains values y → test x ≡ true → test y ≡ true → IsWithin span x y

-- where more than half of the values agree, the mean is at most twice the span from each of those
abbrev pub FollowsMajority : ℕ → List ℤ → ℤ → Type 0
FollowsMajority span values mean = (test : ℤ → Bool) → length values < 2 * count_by test values → Agree span values test → (x : ℤ) → Contains values x →
    test x ≡ true → IsWithin (2 * span) mean x
