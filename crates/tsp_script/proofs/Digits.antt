-- Digits: how a number's text grows by one, and eight that are read at once.
use Rattle.std.proofs.Common.{◌≡◌, ℕ, ◌+◌, ◌-◌, ◌*◌, ◌/◌, ◌%◌, ◌<◌, ◌≤◌, List, [], ◌∷◌, ◌++◌, length, take, slice_index_or, arith, append_assoc, ◌∙◌, decimal}
use Rattle.std.proofs.Common.{◌^◌, sym, ap, append-nil, subst, refl, lit<, lit≤, Fits, w8}
use Rattle.std.{proofs.Math.Nat.pow-le-pow_right, specs.Int.RustNames.bit_and}
use Rattle.std.proofs.lemmas.{Fmt.decimal_step, Grind.pow_more, List.take_more, Nat.and_block, Nat.and_le_r, Nat.and_mask, Nat.Bits.and_high}
use Rattle.tsp_script.specs.Eights.{octets_word, eight_value, word_at}

-- a digit behind a number that isn't 0
pub decimal_digit : (n d : ℕ) → 0 < n → n ≤ 1000000000000000000 → 48 ≤ d → d < 58 → decimal (n * 10 + (d - 48)) ≡ decimal n ++ d ∷ []
decimal_digit n d some small low high =
    let q : (n * 10 + (d - 48)) / 10 ≡ n = omega arith in
    let r : 48 + (n * 10 + (d - 48)) % 10 ≡ d = omega arith in
    let s = decimal_step (n * 10 + (d - 48)) (omega arith) (omega arith) in
    rw (q, r) at s

-- one digit more of those behind a number
pub digits_more : (front n k : ℕ) (ds : List ℕ) → k < length ds → 0 < n → n ≤ 1000000000000000000 → 48 ≤ slice_index_or ds k 0 → slice_index_or ds k 0 < 58 →
    decimal n ≡ decimal front ++ take k ds
    → decimal (n * 10 + (slice_index_or ds k 0 - 48)) ≡ decimal front ++ take (k + 1) ds
digits_more front n k ds h some small low high e =
    let s = decimal_digit n (slice_index_or ds k 0) some small low high in
    rw (take_more ds k 0 h) (rw e at s ∙ append_assoc (decimal front) (take k ds) (slice_index_or ds k 0 ∷ []))

-- how large a number of so many digits is
pub digits_bound : (n k d : ℕ) → n < 10 ^ (k + 1) → 48 ≤ d → d < 58 → n * 10 + (d - 48) < 10 ^ (k + 1 + 1)
digits_bound n k d h low high = rw (pow_more 10 (k + 1)) (omega arith)

pub digits_small : (n k : ℕ) → k < 17 → n < 10 ^ (k + 1) → n < 100000000000000000
digits_small n k h s = let most : 10 ^ (k + 1) ≤ 10 ^ 17 = pow-le-pow_right {n = 10} (omega arith) {i = k + 1} {j = 17} (omega arith) in omega (arith, most)

-- the high half of an octet is 3
abbrev pub IsHigh : ℕ → Type 0
IsHigh b = (48 ≤ b) × (b < 64)

-- an octet is a digit's
abbrev pub IsDigit : ℕ → Type 0
IsDigit b = (48 ≤ b) × (b < 58)

-- the high half of an octet behind others
high_half : (r b m c : ℕ) → b < 256 → bit_and (r * 256 + b) (m * 256 + 240) ≡ c * 256 + 48 → (bit_and r m ≡ c) × IsHigh b
high_half r b m c h e =
    let s : bit_and (r * 256 + b) (m * 256 + 240) ≡ bit_and r m * 256 + bit_and b 240 = and_block 8 r m b 240 (omega arith) (omega arith) in
    let n : bit_and b 240 ≤ 240 = and_le_r b 240 in
    let t : bit_and b 240 ≡ (b / 16 % 16) * 16 = and_high b 4 4 in
    (omega arith, (omega arith, omega arith))

high_alone : (b : ℕ) → b < 256 → bit_and b 240 ≡ 48 → IsHigh b
high_alone b h e = let t : bit_and b 240 ≡ (b / 16 % 16) * 16 = and_high b 4 4 in (omega arith, omega arith)

-- the high half of each of eight octets
pub all_high : (a b c d e f g h : ℕ) → a < 256 → b < 256 → c < 256 → d < 256 → e < 256 → f < 256 → g < 256 → h < 256
    → bit_and (octets_word a b c d e f g h) 0xF0F0F0F0F0F0F0F0 ≡ 0x3030303030303030
    → (IsHigh a × IsHigh b × IsHigh c × IsHigh d) × (IsHigh e × IsHigh f × IsHigh g × IsHigh h)
all_high a b c d e f g h a' b' c' d' e' f' g' h' is =
    let p = high_half ((((((h * 256 + g) * 256 + f) * 256 + e) * 256 + d) * 256 + c) * 256 + b) a 0xF0F0F0F0F0F0F0 0x30303030303030 a' is in
    let q = high_half (((((h * 256 + g) * 256 + f) * 256 + e) * 256 + d) * 256 + c) b 0xF0F0F0F0F0F0 0x303030303030 b' p.0 in
    let r = high_half ((((h * 256 + g) * 256 + f) * 256 + e) * 256 + d) c 0xF0F0F0F0F0 0x3030303030 c' q.0 in
    let s = high_half (((h * 256 + g) * 256 + f) * 256 + e) d 0xF0F0F0F0 0x30303030 d' r.0 in
    let t = high_half ((h * 256 + g) * 256 + f) e 0xF0F0F0 0x303030 e' s.0 in
    let u = high_half (h * 256 + g) f 0xF0F0 0x3030 f' t.0 in
    let v = high_half h g 0xF0 0x30 g' u.0 in
    ((p.1, q.1, r.1, s.1), (t.1, u.1, v.1, high_alone h h' v.0))

-- the low octet of two, behind others
low_octet : (r low m : ℕ) → low < 65536 → bit_and (r * 65536 + low) (m * 65536 + 255) ≡ bit_and r m * 65536 + low % 256
low_octet r low m h =
    let s : bit_and (r * 65536 + low) (m * 65536 + 255) ≡ bit_and r m * 65536 + bit_and low 255 = and_block 16 r m low 255 h (omega arith) in
    let t : bit_and low 255 ≡ low % 256 = and_mask low 8 in
    omega (arith, s, t)

-- digits in pairs
pairs_value : (a b c d e f g h w : ℕ) → a < 10 → b < 10 → c < 10 → d < 10 → e < 10 → f < 10 → g < 10 → h < 10 → w ≡ octets_word a b c d e f g h
    → bit_and (w * 10 + w / 256) 0x00FF00FF00FF00FF ≡ (((g * 10 + h) * 65536 + (e * 10 + f)) * 65536 + (c * 10 + d)) * 65536 + (a * 10 + b)
pairs_value a b c d e f g h w a' b' c' d' e' f' g' h' is =
    let low : ℕ = (b * 10 + c) * 256 + (a * 10 + b) in
    let next : ℕ = (d * 10 + e) * 256 + (c * 10 + d) in
    let third : ℕ = (f * 10 + g) * 256 + (e * 10 + f) in
    let top : ℕ = h * 10 * 256 + (g * 10 + h) in
    let shifted : w / 256 ≡ (((((h * 256 + g) * 256 + f) * 256 + e) * 256 + d) * 256 + c) * 256 + b = omega arith in
    let whole : w * 10 + w / 256 ≡ ((top * 65536 + third) * 65536 + next) * 65536 + low = omega arith in
    let s : bit_and (((top * 65536 + third) * 65536 + next) * 65536 + low) 0x00FF00FF00FF00FF ≡
    bit_and ((top * 65536 + third) * 65536 + next) 0xFF00FF00FF * 65536 + low % 256 =
    low_octet ((top * 65536 + third) * 65536 + next) low 0xFF00FF00FF (omega arith) in
    let t : bit_and ((top * 65536 + third) * 65536 + next) 0xFF00FF00FF ≡ bit_and (top * 65536 + third) 0xFF00FF * 65536 + next % 256 =
    low_octet (top * 65536 + third) next 0xFF00FF (omega arith) in
    let u : bit_and (top * 65536 + third) 0xFF00FF ≡ bit_and top 255 * 65536 + third % 256 = low_octet top third 255 (omega arith) in
    let v : bit_and top 255 ≡ top % 256 = and_mask top 8 in
    ap (λ (x : ℕ). bit_and x 0x00FF00FF00FF00FF) whole ∙ omega (arith, s, t, u, v)

-- pairs in fours
fours_value : (a b c d p : ℕ) → a < 100 → b < 100 → c < 100 → d < 100 → p ≡ ((d * 65536 + c) * 65536 + b) * 65536 + a
    → bit_and (p * 100 + p / 65536) 0x0000FFFF0000FFFF ≡ (c * 100 + d) * 4294967296 + (a * 100 + b)
fours_value a b c d p a' b' c' d' is =
    let low : ℕ = (b * 100 + c) * 65536 + (a * 100 + b) in
    let top : ℕ = d * 100 * 65536 + (c * 100 + d) in
    let shifted : p / 65536 ≡ (d * 65536 + c) * 65536 + b = omega arith in
    let whole : p * 100 + p / 65536 ≡ top * 4294967296 + low = omega arith in
    let s : bit_and (top * 4294967296 + low) 0x0000FFFF0000FFFF ≡ bit_and top 65535 * 4294967296 + bit_and low 65535 =
    and_block 32 top 65535 low 65535 (omega arith) (omega arith) in
    let t : bit_and low 65535 ≡ low % 65536 = and_mask low 16 in
    let u : bit_and top 65535 ≡ top % 65536 = and_mask top 16 in
    ap (λ (x : ℕ). bit_and x 0x0000FFFF0000FFFF) whole ∙ omega (arith, s, t, u)

-- fours in one number
whole_value : (a b q : ℕ) → a < 10000 → b < 10000 → q ≡ b * 4294967296 + a → (q * 10000 + q / 4294967296) % 4294967296 ≡ a * 10000 + b
whole_value a b q a' b' is =
    let shifted : q / 4294967296 ≡ b = omega arith in
    let whole : q * 10000 + q / 4294967296 ≡ b * 10000 * 4294967296 + (a * 10000 + b) = omega arith in
    omega (arith, whole)

-- eight digits in one number
pub joined_value : (a b c d e f g h w p q : ℕ) → a < 10 → b < 10 → c < 10 → d < 10 → e < 10 → f < 10 → g < 10 → h < 10 → w ≡ octets_word a b c d e f g h
    → p ≡ bit_and (w * 10 + w / 256) 0x00FF00FF00FF00FF → q ≡ bit_and (p * 100 + p / 65536) 0x0000FFFF0000FFFF
    → (q * 10000 + q / 4294967296) % 4294967296 ≡ eight_value a b c d e f g h
joined_value a b c d e f g h w p q a' b' c' d' e' f' g' h' is is_p is_q =
    let s = is_p ∙ pairs_value a b c d e f g h w a' b' c' d' e' f' g' h' is in
    let t = is_q ∙ fours_value (a * 10 + b) (c * 10 + d) (e * 10 + f) (g * 10 + h) p (omega arith) (omega arith) (omega arith) (omega arith) s in
    let u = whole_value ((a * 10 + b) * 100 + (c * 10 + d)) ((e * 10 + f) * 100 + (g * 10 + h)) q (omega arith) (omega arith) t in
    omega (arith, u)

-- a number of at most so much whose text is that of another one and then so many digits
abbrev Grown : ℕ → ℕ → ℕ → ℕ → List ℕ → Type 0
Grown front n k most ds = (0 < n) × (n ≤ most) × (decimal n ≡ decimal front ++ take k ds)

-- one digit more
grow : (front n k most : ℕ) (ds : List ℕ) → k < 8 → 8 ≤ length ds → most ≤ 1000000000000000000 → IsDigit (slice_index_or ds k 0) → Grown front n k most ds →
    Grown front (n * 10 + (slice_index_or ds k 0 - 48)) (k + 1) (most * 10 + 9) ds
grow front n k most ds k' l small d g = (omega arith, omega arith, digits_more front n k ds (omega arith) g.0 (omega arith) d.0 d.1 g.2)

joined_eight : (front n a b c d e f g h : ℕ) → n ≡ eight_value a b c d e f g h → front * 100000000 + n ≡
    (((((((front * 10 + a) * 10 + b) * 10 + c) * 10 + d) * 10 + e) * 10 + f) * 10 + g) * 10 + h
joined_eight front n a b c d e f g h is = omega (arith, is)

-- eight digits behind a number
eight_more : (front n : ℕ) (ds : List ℕ) → 8 ≤ length ds → 0 < front → front ≤ 10000000000
    → IsDigit (slice_index_or ds 0 0) → IsDigit (slice_index_or ds 1 0) → IsDigit (slice_index_or ds 2 0) → IsDigit (slice_index_or ds 3 0)
    → IsDigit (slice_index_or ds 4 0) → IsDigit (slice_index_or ds 5 0) → IsDigit (slice_index_or ds 6 0) → IsDigit (slice_index_or ds 7 0)
    → n ≡ eight_value (slice_index_or ds 0 0 - 48) (slice_index_or ds 1 0 - 48) (slice_index_or ds 2 0 - 48) (slice_index_or ds 3 0 - 48)
    (slice_index_or ds 4 0 - 48) (slice_index_or ds 5 0 - 48) (slice_index_or ds 6 0 - 48) (slice_index_or ds 7 0 - 48)
    → decimal (front * 100000000 + n) ≡ decimal front ++ take 8 ds
eight_more front n ds l some small a b c d e f g h is =
    let g1 = grow front front 0 10000000000 ds (lit< tt) l (lit≤ tt) a (some, small, sym (append-nil (decimal front))) in
    let g2 = grow front _ 1 100000000009 ds (lit< tt) l (lit≤ tt) b g1 in
    let g3 = grow front _ 2 1000000000099 ds (lit< tt) l (lit≤ tt) c g2 in
    let g4 = grow front _ 3 10000000000999 ds (lit< tt) l (lit≤ tt) d g3 in
    let g5 = grow front _ 4 100000000009999 ds (lit< tt) l (lit≤ tt) e g4 in
    let g6 = grow front _ 5 1000000000099999 ds (lit< tt) l (lit≤ tt) f g5 in
    let g7 = grow front _ 6 10000000000999999 ds (lit< tt) l (lit≤ tt) g g6 in
    let g8 = grow front _ 7 100000000009999999 ds (lit< tt) l (lit≤ tt) h g7 in
    ap decimal (joined_eight front n _ _ _ _ _ _ _ _ is) ∙ g8.2

-- the first eight of some octets are in the half of the digits
abbrev pub AreHigh : List ℕ → Type 0
AreHigh ds = (IsHigh (slice_index_or ds 0 0) × IsHigh (slice_index_or ds 1 0) × IsHigh (slice_index_or ds 2 0) × IsHigh (slice_index_or ds 3 0)) ×
    (IsHigh (slice_index_or ds 4 0) × IsHigh (slice_index_or ds 5 0) × IsHigh (slice_index_or ds 6 0) × IsHigh (slice_index_or ds 7 0))

-- they are digits
abbrev pub AreDigits : List ℕ → Type 0
AreDigits ds = (IsDigit (slice_index_or ds 0 0) × IsDigit (slice_index_or ds 1 0) × IsDigit (slice_index_or ds 2 0) × IsDigit (slice_index_or ds 3 0)) ×
    (IsDigit (slice_index_or ds 4 0) × IsDigit (slice_index_or ds 5 0) × IsDigit (slice_index_or ds 6 0) × IsDigit (slice_index_or ds 7 0))

pub high_word : (ds : List ℕ) (word : ℕ) → ((k : ℕ) → Fits w8 (slice_index_or ds k 0)) → word ≡ word_at ds → bit_and word 0xF0F0F0F0F0F0F0F0 ≡
    0x3030303030303030 → AreHigh ds
high_word ds word fits is high =
    all_high (slice_index_or ds 0 0) (slice_index_or ds 1 0) (slice_index_or ds 2 0) (slice_index_or ds 3 0) (slice_index_or ds 4 0) (slice_index_or ds 5 0)
    (slice_index_or ds 6 0) (slice_index_or ds 7 0)
    (fits 0).fits (fits 1).fits (fits 2).fits (fits 3).fits (fits 4).fits (fits 5).fits (fits 6).fits (fits 7).fits
    (ap (λ (x : ℕ). bit_and x 0xF0F0F0F0F0F0F0F0) (sym is) ∙ high)

-- two words of which one is octet by octet at most the other, and one by so much more
more_le : (x y a i : ℕ) → x ≤ y → a ≤ i → x * 256 + a ≤ y * 256 + i
more_le x y a i h k = omega arith

octets_le : (a b c d e f g h i j l m n o p q : ℕ) → a ≤ i → b ≤ j → c ≤ l → d ≤ m → e ≤ n → f ≤ o → g ≤ p → h ≤ q →
    octets_word a b c d e f g h ≤ octets_word i j l m n o p q
octets_le a b c d e f g h i j l m n o p q a' b' c' d' e' f' g' h' =
    more_le _ _ a i (more_le _ _ b j (more_le _ _ c l (more_le _ _ d m (more_le _ _ e n (more_le _ _ f o (more_le h q g p h' g') f') e') d') c') b') a'

more_sum : (x y z a i k : ℕ) → x ≡ y + z → a ≡ i + k → x * 256 + a ≡ (y * 256 + i) + (z * 256 + k)
more_sum x y z a i k h e = omega arith

octets_sum : (k a b c d e f g h i j l m n o p q : ℕ) → a ≡ i + k → b ≡ j + k → c ≡ l + k → d ≡ m + k → e ≡ n + k → f ≡ o + k → g ≡ p + k → h ≡ q + k
    → octets_word a b c d e f g h ≡ octets_word i j l m n o p q + octets_word k k k k k k k k
octets_sum k a b c d e f g h i j l m n o p q a' b' c' d' e' f' g' h' =
    more_sum _ _ _ a i k (more_sum _ _ _ b j k (more_sum _ _ _ c l k (more_sum _ _ _ d m k
    (more_sum _ _ _ e n k (more_sum _ _ _ f o k (more_sum h q k g p k h' g') f') e') d') c') b') a'

high_top : (b : ℕ) → IsHigh b → b ≤ 63
high_top b h = omega (arith, h.1)

-- how large the word of such octets is
pub high_word_bounds : (ds : List ℕ) (word : ℕ) → word ≡ word_at ds → AreHigh ds → (3472328296227680304 ≤ word) × (word < 4629771061636907072)
high_word_bounds ds word is p =
    let low : octets_word 48 48 48 48 48 48 48 48 ≤ word_at ds = octets_le 48 48 48 48 48 48 48 48 _ _ _ _ _ _ _ _ p.0.0.0 p.0.1.0 p.0.2.0 p.0.3.0 p.1.0.0
    p.1.1.0 p.1.2.0 p.1.3.0 in
    let high : word_at ds ≤ octets_word 63 63 63 63 63 63 63 63 = octets_le _ _ _ _ _ _ _ _ 63 63 63 63 63 63 63 63 (high_top _ p.0.0) (high_top _ p.0.1)
    (high_top _ p.0.2) (high_top _ p.0.3) (high_top _ p.1.0) (high_top _ p.1.1) (high_top _ p.1.2) (high_top _ p.1.3) in
    bounds_of word (word_at ds) is low high
  where
    bounds_of : (w v : ℕ) → w ≡ v → 3472328296227680304 ≤ v → v ≤ 4557430888798830399 → (3472328296227680304 ≤ w) × (w < 4629771061636907072)
    bounds_of w v e l h = (omega arith, omega arith)

pub digits_word : (ds : List ℕ) (word : ℕ) → ((k : ℕ) → Fits w8 (slice_index_or ds k 0)) → word ≡ word_at ds → AreHigh ds →
    bit_and (word + 0x0606060606060606) 0xF0F0F0F0F0F0F0F0 ≡ 0x3030303030303030 → AreDigits ds
digits_word ds word fits is p high =
    let more = octets_sum 6 (slice_index_or ds 0 0 + 6) (slice_index_or ds 1 0 + 6) (slice_index_or ds 2 0 + 6) (slice_index_or ds 3 0 + 6)
    (slice_index_or ds 4 0 + 6) (slice_index_or ds 5 0 + 6) (slice_index_or ds 6 0 + 6) (slice_index_or ds 7 0 + 6) _ _ _ _ _ _ _ _ refl refl refl refl refl
    refl refl refl in
    let sum : word + 0x0606060606060606 ≡ octets_word (slice_index_or ds 0 0 + 6) (slice_index_or ds 1 0 + 6) (slice_index_or ds 2 0 + 6)
    (slice_index_or ds 3 0 + 6) (slice_index_or ds 4 0 + 6) (slice_index_or ds 5 0 + 6) (slice_index_or ds 6 0 + 6) (slice_index_or ds 7 0 + 6) =
    ap (λ (x : ℕ). x + 0x0606060606060606) is ∙ sym more in
    let q = all_high (slice_index_or ds 0 0 + 6) (slice_index_or ds 1 0 + 6) (slice_index_or ds 2 0 + 6) (slice_index_or ds 3 0 + 6) (slice_index_or ds 4 0 + 6)
    (slice_index_or ds 5 0 + 6) (slice_index_or ds 6 0 + 6) (slice_index_or ds 7 0 + 6)
    (omega (arith, p.0.0.1)) (omega (arith, p.0.1.1)) (omega (arith, p.0.2.1)) (omega (arith, p.0.3.1)) (omega (arith, p.1.0.1)) (omega (arith, p.1.1.1))
    (omega (arith, p.1.2.1)) (omega (arith, p.1.3.1)) (ap (λ (x : ℕ). bit_and x 0xF0F0F0F0F0F0F0F0) (sym sum) ∙ high) in (
      ((p.0.0.0, omega (arith, q.0.0.1)), (p.0.1.0, omega (arith, q.0.1.1)), (p.0.2.0, omega (arith, q.0.2.1)), (p.0.3.0, omega (arith, q.0.3.1))),
      ((p.1.0.0, omega (arith, q.1.0.1)), (p.1.1.0, omega (arith, q.1.1.1)), (p.1.2.0, omega (arith, q.1.2.1)), (p.1.3.0, omega (arith, q.1.3.1))),
    )

-- a digit's octet is its value and 48
octet_of_value : (b : ℕ) → IsDigit b → (b ≡ (b - 48) + 48) × (b - 48 < 10)
octet_of_value b h = (omega arith, omega arith)

without : (w x c : ℕ) → w ≡ x + c → w - c ≡ x
without w x c e = omega (arith, e)

value_top : (x : ℕ) → x < 10 → x ≤ 9
value_top x h = omega arith

-- the word of the digits' values
pub values_word : (ds : List ℕ) (word : ℕ) → word ≡ word_at ds → AreDigits ds → (word - 3472328296227680304 ≤ 651061555542690057) ×
    (word - 3472328296227680304 ≡ octets_word (slice_index_or ds 0 0 - 48) (slice_index_or ds 1 0 - 48) (slice_index_or ds 2 0 - 48)
    (slice_index_or ds 3 0 - 48) (slice_index_or ds 4 0 - 48) (slice_index_or ds 5 0 - 48) (slice_index_or ds 6 0 - 48) (slice_index_or ds 7 0 - 48))
values_word ds word is p =
    let a = octet_of_value (slice_index_or ds 0 0) p.0.0 in
    let b = octet_of_value (slice_index_or ds 1 0) p.0.1 in
    let c = octet_of_value (slice_index_or ds 2 0) p.0.2 in
    let d = octet_of_value (slice_index_or ds 3 0) p.0.3 in
    let e = octet_of_value (slice_index_or ds 4 0) p.1.0 in
    let f = octet_of_value (slice_index_or ds 5 0) p.1.1 in
    let g = octet_of_value (slice_index_or ds 6 0) p.1.2 in
    let h = octet_of_value (slice_index_or ds 7 0) p.1.3 in
    let values : ℕ = octets_word (slice_index_or ds 0 0 - 48) (slice_index_or ds 1 0 - 48) (slice_index_or ds 2 0 - 48) (slice_index_or ds 3 0 - 48)
    (slice_index_or ds 4 0 - 48) (slice_index_or ds 5 0 - 48) (slice_index_or ds 6 0 - 48) (slice_index_or ds 7 0 - 48) in
    let shift : word ≡ values + 3472328296227680304 = is ∙ octets_sum 48 _ _ _ _ _ _ _ _ (slice_index_or ds 0 0 - 48) (slice_index_or ds 1 0 - 48)
    (slice_index_or ds 2 0 - 48) (slice_index_or ds 3 0 - 48) (slice_index_or ds 4 0 - 48) (slice_index_or ds 5 0 - 48) (slice_index_or ds 6 0 - 48)
    (slice_index_or ds 7 0 - 48) a.0 b.0 c.0 d.0 e.0 f.0 g.0 h.0 in
    let less : word - 3472328296227680304 ≡ values = without word values 3472328296227680304 shift in
    let small : values ≤ 651061555542690057 = octets_le (slice_index_or ds 0 0 - 48) (slice_index_or ds 1 0 - 48) (slice_index_or ds 2 0 - 48)
    (slice_index_or ds 3 0 - 48) (slice_index_or ds 4 0 - 48) (slice_index_or ds 5 0 - 48) (slice_index_or ds 6 0 - 48) (slice_index_or ds 7 0 - 48) 9 9 9 9
    9 9 9 9 (value_top _ a.1) (value_top _ b.1) (value_top _ c.1) (value_top _ d.1) (value_top _ e.1) (value_top _ f.1) (value_top _ g.1) (value_top _ h.1)
    in
    (subst (λ (v : ℕ). v ≤ 651061555542690057) (sym less) small, less)

-- the number of eight digits
pub eight_read : (ds : List ℕ) (n : ℕ) → 8 ≤ length ds → AreDigits ds → n ≡ eight_value (slice_index_or ds 0 0 - 48) (slice_index_or ds 1 0 - 48)
    (slice_index_or ds 2 0 - 48) (slice_index_or ds 3 0 - 48) (slice_index_or ds 4 0 - 48) (slice_index_or ds 5 0 - 48) (slice_index_or ds 6 0 - 48)
    (slice_index_or ds 7 0 - 48)
    → (n < 100000000) × ((front : ℕ) → 0 < front → front ≤ 10000000000 → decimal (front * 100000000 + n) ≡ decimal front ++ take 8 ds)
eight_read ds n l p is = (
  omega (arith, is, p.0.0.1, p.0.1.1, p.0.2.1, p.0.3.1, p.1.0.1, p.1.1.1, p.1.2.1, p.1.3.1),
  λ front some small. eight_more front n ds l some small p.0.0 p.0.1 p.0.2 p.0.3 p.1.0 p.1.1 p.1.2 p.1.3 is,
)
