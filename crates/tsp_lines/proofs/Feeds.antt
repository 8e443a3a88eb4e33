-- Laws of the first line feed, and of a buffer that is read into.
use Rattle.std.proofs.Common.{◌≡◌, ℕ, ◌<◌, ◌≤◌, ◌+◌, ◌-◌, List, [], ◌∷◌, ◌++◌, None, Some, refl, sym, ap, ◌∙◌, take, drop, length, get_or, append_assoc}
use Rattle.std.proofs.Common.{take-append-drop, length-drop, arith, eq-eqb, eqb-true, length-take-le, add_assoc, zero, suc, subst, MatchOption, slice_range}
use Rattle.std.proofs.Common.{◌^◌, inl, inr, map, w64, not}
use Rattle.std.proofs.lemmas.List.{drop_more, drop-take, drop-drop, drop_all, append-nil, length-map, take_at, Elements.Contains-append_left}
use Rattle.std.proofs.Math.Seq.{take-length, take-add}
use Rattle.std.proofs.lemmas.{Grind.common_steps, Grind.get_or_default_zero, Bool.cases_lt, Nat.Bits.bit_at-trailing_zeros, Nat.Bits.bit_at_above}
use Rattle.std.specs.{declared.option.Option.Option, List.prefix_len, Simd.Lanes.mask_l, Simd.Lanes.chunk}
use Rattle.std.proofs.lemmas.Simd.{length-chunk, mask_l-lt, trailing_mask_l, run_in_chunk_fails, run_in_chunk_stops}
use lib.Count.{count_trailing_zeros}
use Rattle.memchr.specs.Find.{IsFirstByte, is_byte, Nowhere, Passes}
use Rattle.tsp_io.specs.Streams.{Gives}
use Rattle.tsp_lines.specs.{Lines.NoFeed, Lines.close, Lines.IsFront, Readings.ReaderValue}

NoFeed_take : (hay : List ℕ) (n : ℕ) → n ≤ length hay → Nowhere (Passes (is_byte 10) hay) 0 n → NoFeed (take n hay)
NoFeed_take hay n h p = λ c.
    let l : length (take n hay) ≡ n = length-take-le n hay h in
    let lt : c.0 < n = omega (arith, l, c.1) in
    let e : get_or hay c.0 0 ≡ 10 = grind (arith, common_steps, c.2, get_or_default_zero (take n hay) c.0 10 c.1, lt) in
    p c.0 (omega arith) lt (eq-eqb _ 10 e)

split_feed : (hay : List ℕ) (k : ℕ) → k < length hay → get_or hay k 0 ≡ 10 → hay ≡ close (take k hay) ++ drop (k + 1) hay
split_feed hay k h e =
    sym (take-append-drop k hay)
    ∙ ap (λ l. take k hay ++ l) (drop_more hay k 0 h ∙ ap (λ x. x ∷ drop (k + 1) hay) e)
    ∙ sym (append_assoc (take k hay) (10 ∷ []) (drop (k + 1) hay))

-- the first line feed ends a line
pub first_feed : (hay : List ℕ) (r : Option ℕ) → IsFirstByte (is_byte 10) hay r → MatchOption r (NoFeed hay) (λ k. NoFeed (take k hay) ×
    (hay ≡ close (take k hay) ++ drop (k + 1) hay))
first_feed hay None p = rw (take-length hay) at (NoFeed_take hay (length hay) (omega arith) p)
first_feed hay (Some k) p = (NoFeed_take hay k (omega (arith, p.0.high)) p.0.before, split_feed hay k p.0.high (eqb-true _ _ p.1))

-- the first line feed is all that is left
pub last_feed : (held : List ℕ) (place : ℕ) → length held ≤ place + 1 → held ≡ close (take place held) ++ drop (place + 1) held → held ≡ take place held ++ 10 ∷
    []
last_feed held place h e = e ∙ (ap (λ xs. close (take place held) ++ xs) (drop_all (place + 1) held h) ∙ append-nil (close (take place held)))

-- how much is held at most
pub held_length : (buf : List ℕ) (at end : ℕ) → length (slice_range buf at end) ≤ end - at
held_length buf at end = grind (arith, common_steps)

-- the part of a buffer up to a place of what is held, and the part behind that place
pub held_line : (buf : List ℕ) (at end place : ℕ) → place < length (slice_range buf at end) → slice_range buf at (at + place) ≡
    take place (slice_range buf at end)
held_line buf at end place h = grind (arith, common_steps)

pub held_rest : (buf : List ℕ) (at end place : ℕ) → place < length (slice_range buf at end) → slice_range buf (at + place + 1) end ≡
    drop (place + 1) (slice_range buf at end)
held_rest buf at end place h =
    let m = end - at - (place + 1) in
    let below : place < end - at = grind (arith, common_steps, h) in
    let e : place + 1 + m ≡ end - at = omega (arith, below) in
    let f : end - (at + place + 1) ≡ m = omega (arith, below) in
    let g : drop (at + place + 1) buf ≡ drop (place + 1) (drop at buf) = ap (λ n. drop n buf) (add_assoc at place 1) ∙ sym (drop-drop (place + 1) at buf) in
    rw (f, g) (sym (drop-take (place + 1) m (drop at buf)) ∙ ap (λ n. drop (place + 1) (take n (drop at buf))) e)

-- a reader whose line is the part up to a place of what is held
pub taken_line : (v : ReaderValue) (buf line start : List ℕ) (at end place got limit : ℕ)
    → record { line = line; start = start; held = slice_range buf at end; got = got; limit = limit } ≡ v → place < length v.held
    → record { line = slice_range buf at (at + place); start = start; held = slice_range buf (at + place + 1) end; got = got; limit = limit } ≡
    record v { line = take place v.held; held = drop (place + 1) v.held }
taken_line v buf line start at end place got limit e w =
    let within : place < length (slice_range buf at end) = subst {A = ReaderValue} (λ u. place < length u.held) (sym e) w in
    subst {A = ReaderValue} (λ u. record {
      line = slice_range buf at (at + place);
      start = start;
      held = slice_range buf (at + place + 1) end;
      got = got;
      limit = limit;
    } ≡ record u { line = take place u.held; held = drop (place + 1) u.held }) e
    (rw (held_line buf at end place within, held_rest buf at end place within) refl)

-- a reader that uses some of what is held
skipped : (buf : List ℕ) (at end count : ℕ) → count ≤ length (slice_range buf at end) → slice_range buf (at + count) end ≡ drop count (slice_range buf at end)
skipped buf at end count h =
    let m = end - at - count in
    let below : count ≤ end - at = omega (arith, h, held_length buf at end) in
    let e : count + m ≡ end - at = omega (arith, below) in
    let f : end - (at + count) ≡ m = omega (arith, below) in
    let g : drop (at + count) buf ≡ drop count (drop at buf) = sym (drop-drop count at buf) in
    rw (f, g) (sym (drop-take count m (drop at buf)) ∙ ap (λ n. drop count (take n (drop at buf))) e)

pub skipped_octets : (v : ReaderValue) (buf line start : List ℕ) (at end count got limit : ℕ)
    → record { line = line; start = start; held = slice_range buf at end; got = got; limit = limit } ≡ v → count ≤ length v.held
    → record { line = line; start = start; held = slice_range buf (at + count) end; got = got; limit = limit } ≡ record v { held = drop count v.held }
skipped_octets v buf line start at end count got limit e w =
    let within : count ≤ length (slice_range buf at end) = subst {A = ReaderValue} (λ u. count ≤ length u.held) (sym e) w in
    subst {A = ReaderValue} (λ u. record { line = line; start = start; held = slice_range buf (at + count) end; got = got; limit = limit } ≡
    record u { held = drop count u.held }) e
    (rw (skipped buf at end count within) refl)

-- the first octets of the first octets
take-take : (xs : List ℕ) (n m : ℕ) → n ≤ m → take n (take m xs) ≡ take n xs
take-take xs zero m h = refl
take-take xs (suc n) zero h = absurd (omega (arith, h))
take-take [] (suc n) (suc m) h = refl
take-take (x ∷ xs) (suc n) (suc m) h = ap (λ l. x ∷ l) (take-take xs n m (omega (arith, h)))

-- what is used where a line ends at a place of what is held
used : (held : List ℕ) (place got limit : ℕ) → place < length held → (limit < got → place + 1 < length held) → got ≤ limit + 1 → length held ≤ 65536 →
    (got ≤ limit + length (drop (place + 1) held)) × (length (drop (place + 1) held) < 65536)
used held place got limit h before most room =
    let l : length (drop (place + 1) held) ≡ length held - (place + 1) = length-drop (place + 1) held in
    (grind (arith, l, h, before, most), omega (arith, l, h, room))

-- a line that is given, and one that is too long
pub given_line : (held : List ℕ) (place got limit : ℕ) → place < length held → NoFeed (take place held) → held ≡ close (take place held) ++
    drop (place + 1) held → (limit < got → place + 1 < length held) → (got ≤ limit + 1) × (length held ≤ 65536) → place ≤ 1024
    → NoFeed (take place held) × (length (take place held) ≤ 1024) × (held ≡ close (take place held) ++ drop (place + 1) held) ×
    ((got ≤ limit + length (drop (place + 1) held)) × (length (drop (place + 1) held) < 65536))
given_line held place got limit h n s before most short = (
  n,
  omega (arith, length-take-le place held (omega (arith, h)), short),
  s,
  used held place got limit h before most.0 most.1,
)

pub given_long : (held : List ℕ) (place got limit : ℕ) → place < length held → NoFeed (take place held) → held ≡ close (take place held) ++
    drop (place + 1) held → (limit < got → place + 1 < length held) → (got ≤ limit + 1) × (length held ≤ 65536) → 1024 < place
    → (line : List ℕ) × NoFeed line × (1024 < length line) × (held ≡ close line ++ drop (place + 1) held) × (take 8 held ≡ take 8 line) ×
    ((got ≤ limit + length (drop (place + 1) held)) × (length (drop (place + 1) held) < 65536))
given_long held place got limit h n s before most long = (
  take place held,
  n,
  omega (arith, length-take-le place held (omega (arith, h)), long),
  s,
  sym (take-take held 8 place (omega (arith, long))),
  used held place got limit h before most.0 most.1,
)

split_end : (xs : List ℕ) → 0 < length xs → (part : List ℕ) × (x : ℕ) × (xs ≡ part ++ x ∷ [])
split_end [] h = absurd (omega arith)
split_end (x ∷ []) h = ([], x, refl)
split_end (x ∷ y ∷ ys) h = let r = split_end (y ∷ ys) (omega arith) in (x ∷ r.0, r.1, ap (λ l. x ∷ l) r.2)

-- octets without a line feed, but for the last
pub NoFeed_end : (xs : List ℕ) → 0 < length xs → NoFeed xs → (part : List ℕ) × (x : ℕ) × NoFeed part × (xs ≡ part ++ x ∷ [])
NoFeed_end xs h n = let r = split_end xs h in (r.0, r.1, λ c. n (rw r.2 (Contains-append_left r.0 (r.1 ∷ []) 10 c)), r.2)

pub some_held : (buf : List ℕ) (at end : ℕ) → at < end → end ≤ length buf → 0 < length (slice_range buf at end)
some_held buf at end h k = grind (arith, common_steps)

-- the first line of octets, of which this is the place of the line feed
pub front_line : (octets line : List ℕ) (place : ℕ) → place < length octets → NoFeed (take place octets) → octets ≡ close (take place octets) ++
    drop (place + 1) octets → line ≡ take place octets → IsFront octets (length line + 1) line
front_line octets line place h n s e =
    let l : length line ≡ place = ap length e ∙ length-take-le place octets (omega (arith, h)) in
    (subst NoFeed (sym e) n, refl, s ∙ ap (λ x. close x ++ drop (place + 1) octets) (sym e) ∙ ap (λ k. close line ++ drop (k + 1) octets) (sym l))

-- the place of the lowest bit is that of the first line feed
pub near_feed : (hay : List ℕ) (mask : ℕ) → 32 ≤ length hay → mask ≡ mask_l (map (is_byte 10) (chunk 0 32 hay)) → 0 < mask →
    IsFirstByte (is_byte 10) hay (Some (count_trailing_zeros 64 mask))
near_feed hay mask room is some =
    let lanes : List ℕ = chunk 0 32 hay in
    let zeros : ℕ = count_trailing_zeros 64 mask in
    let long : length (map (is_byte 10) lanes) ≡ 32 = length-map lanes (is_byte 10) ∙ length-chunk 0 32 hay (omega arith) in
    let bound : mask_l (map (is_byte 10) lanes) < 2 ^ 32 = subst (λ (n : ℕ). mask_l (map (is_byte 10) lanes) < 2 ^ n) long (mask_l-lt (map (is_byte 10) lanes))
    in
    let few : mask < 2 ^ 32 = omega (arith, is, bound) in
    let bits = bit_at-trailing_zeros w64 mask some (omega (arith, few)) in
    let below : zeros < 32 = elim (cases_lt zeros 32) [
      | inl b ↦ b
      | inr t ↦ let z = bit_at_above mask 32 zeros few t in absurd (omega (arith, z, bits.1))
    ] in
    let counted : zeros ≡ prefix_len (λ x. not (is_byte 10 x)) lanes = ap (count_trailing_zeros 64) is ∙
    trailing_mask_l (is_byte 10) 64 lanes (omega (arith, length-chunk 0 32 hay (omega arith))) (omega (arith, is, some)) in
    let first : 0 + zeros ≡ zeros = omega arith in (
      record {
        low = omega arith;
        high = omega arith;
        before = λ k l h. λ t. let f = run_in_chunk_fails (is_byte 10) hay 0 32 zeros 0 (omega arith) counted k l
            (omega arith) in cc;
      },
      subst (Passes (is_byte 10) hay) first (run_in_chunk_stops (is_byte 10) hay 0 32 zeros 0 (omega arith) counted below),
    )

-- octets behind those that are held
pub take_held : (buf : List ℕ) (held n : ℕ) → take (held + n) buf ≡ take held buf ++ slice_range buf held (held + n)
take_held buf held n = let e : held + n - held ≡ n = omega arith in take-add held n buf ∙ ap (λ k. take held buf ++ take k (drop held buf)) (sym e)

pub length_slice : (buf : List ℕ) (held n : ℕ) → held + n ≤ length buf → length (slice_range buf held (held + n)) ≡ n
length_slice buf held n h = grind (arith, common_steps)

-- what was read stands behind what is held
pub read_behind_held : (left rest : Option (List ℕ)) (new old front : List ℕ) (held count : ℕ)
    → Gives left rest (slice_range new held (held + count)) → held + count ≤ length new → take held new ≡ take held old → take held old ≡ front
    → (octets : List ℕ) × Gives left rest octets × (length octets ≡ count) × (take (held + count) new ≡ front ++ octets)
read_behind_held left rest new old front held count g h e f = (
  slice_range new held (held + count),
  g,
  length_slice new held count h,
  take_held new held count ∙ ap (λ l. l ++ slice_range new held (held + count)) (e ∙ f),
)

-- a buffer that was written back whole
pub written_back : (len n : ℕ) (new old : List ℕ) → length new ≡ len → slice_range (take len (new ++ drop (length new) old)) 0 n ≡ take n new
written_back len n new old h = let e : n - 0 ≡ n = omega arith in rw (take_at new (drop (length new) old) len h, e) refl

-- what is held after a read of so many octets
pub filled : (n m count at end : ℕ) (new items before held octets : List ℕ) → length new ≡ n → before ≡ items → slice_range items at end ≡ held → m ≡
    end - at + count
    → take (end - at + count) new ≡ slice_range before at end ++ octets → slice_range (take n (new ++ drop (length new) items)) 0 m ≡ held ++ octets
filled n m count at end new items before held octets l b h e t =
    let whole : slice_range before at end ≡ held = ap (λ xs. slice_range xs at end) b ∙ h in
    rw e (written_back n (end - at + count) new items l ∙ (t ∙ ap (λ xs. xs ++ octets) whole))

pub no_octets : (octets : List ℕ) → length octets ≡ 0 → octets ≡ []
no_octets [] h = refl
no_octets (x ∷ xs) h = absurd (omega arith)
