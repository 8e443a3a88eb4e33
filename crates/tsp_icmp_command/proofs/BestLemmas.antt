-- The best differences go on with each difference, and each is its clock's first of least trip.
use Rattle.std.proofs.Common.{◌≡◌, ℕ, List, [], ◌∷◌, ◌++◌, Bool, true, false, Option, Some, None, refl, sym, ap, ◌∙◌, append-nil, ◌≢◌, if◌then◌else◌, not, ◌&&◌}
use Rattle.std.proofs.Common.{nat_lt, ◌<◌, ◌≤◌, arith, subst, ◌+◌, zero, suc, length, cond, get_or, slice_set, position}
use Rattle.std.specs.{Cmp.Lexicographic.same_text, Cmp.Lexicographic.other_text, Str.bytes_eq}
use Rattle.std.specs.List.{filter, fold, cons_option, All, position_or_len}
use Rattle.std.proofs.lemmas.List.Elements.{filter_map-append, All-nil, All-cons, All-head, All-tail, All-filter, filter_passes}
use Rattle.std.proofs.lemmas.{List.Sums.fold-append, List.Sums.passes_at_first, List.set-get_or, Bool.lt-ltb}
use Rattle.tsp_icmp_command.specs.Bests.{BestValue, is_same_clock, of_shorter_trip, bests, note, with_difference, difference_in, differences, IsBestDifference}
use Rattle.tsp_icmp_command.specs.{Findings.finding_of, declared.exchange.Exchange.Exchange}

-- tests of names
equal_case : (t : Bool) (xs ys : List ℕ) → bytes_eq xs ys ≡ t → xs ≡ ys → bytes_eq xs ys ≡ true
equal_case true xs ys e p = e
equal_case false xs ys e p = absurd (other_text xs ys (sym e) p)

pub equal : (xs ys : List ℕ) → xs ≡ ys → bytes_eq xs ys ≡ true
equal xs ys p = equal_case (bytes_eq xs ys) xs ys refl p

unequal_case : (t : Bool) (xs ys : List ℕ) → bytes_eq xs ys ≡ t → xs ≢ ys → bytes_eq xs ys ≡ false
unequal_case true xs ys e n = absurd (n (same_text xs ys (sym e)))
unequal_case false xs ys e n = e

unequal : (xs ys : List ℕ) → xs ≢ ys → bytes_eq xs ys ≡ false
unequal xs ys n = unequal_case (bytes_eq xs ys) xs ys refl n

-- whether a difference is of another clock
abbrev other : BestValue → BestValue → Bool
other m b = not (is_same_clock m b)

filter_keeps : (p : BestValue → Bool) (b : BestValue) (bs : List BestValue) → p b ≡ true → filter p (b ∷ bs) ≡ b ∷ filter p bs
filter_keeps p b bs e = rw e refl

filter_drops : (p : BestValue → Bool) (b : BestValue) (bs : List BestValue) → p b ≡ false → filter p (b ∷ bs) ≡ filter p bs
filter_drops p b bs e = rw e refl

note_same : (b x : BestValue) (bs : List BestValue) → is_same_clock b x ≡ true → note (b ∷ bs) x ≡ of_shorter_trip b x ∷ bs
note_same b x bs e = rw e refl

note_other : (b x : BestValue) (bs : List BestValue) → is_same_clock b x ≡ false → note (b ∷ bs) x ≡ b ∷ note bs x
note_other b x bs e = rw e refl

of_shorter_trip_other : (b x : BestValue) → is_same_clock b x ≡ false → of_shorter_trip b x ≡ b
of_shorter_trip_other b x e = rw e refl

-- the better one of two has the earlier one's name
name_case : (s t : Bool) (a b : BestValue) → is_same_clock a b ≡ s → (if s && t then b else a).name ≡ a.name
name_case true true a b e = sym (same_text a.name b.name (sym e))
name_case true false a b e = refl
name_case false t a b e = refl

pub name_of_shorter_trip : (a b : BestValue) → (of_shorter_trip a b).name ≡ a.name
name_of_shorter_trip a b = name_case (is_same_clock a b) (nat_lt b.trip a.trip) a b refl

pub name_fold : (first : BestValue) (later : List BestValue) → (fold of_shorter_trip first later).name ≡ first.name
name_fold first [] = refl
name_fold first (b ∷ bs) = name_fold (of_shorter_trip first b) bs ∙ name_of_shorter_trip first b

filter_ap : (t : Bool) (p : BestValue → Bool) (b : BestValue) (xs ys : List BestValue) → p b ≡ t → filter p xs ≡ filter p ys → filter p (b ∷ xs) ≡
    filter p (b ∷ ys)
filter_ap true p b xs ys e h = filter_keeps p b xs e ∙ ap (λ l. b ∷ l) h ∙ sym (filter_keeps p b ys e)
filter_ap false p b xs ys e h = filter_drops p b xs e ∙ h ∙ sym (filter_drops p b ys e)

-- a clock's own differences don't stand among the others'
own_case : (t : Bool) (m x b : BestValue) (bs : List BestValue) → is_same_clock b x ≡ t → m.name ≡ x.name → filter (other m) (note bs x) ≡ filter (other m) bs →
    filter (other m) (note (b ∷ bs) x) ≡ filter (other m) (b ∷ bs)
own_case true m x b bs e h rest =
    let same : b.name ≡ x.name = same_text b.name x.name (sym e) in
    ap (filter (other m)) (note_same b x bs e)
    ∙ filter_drops (other m) (of_shorter_trip b x) bs (ap not (equal m.name (of_shorter_trip b x).name (h ∙ sym same ∙ sym (name_of_shorter_trip b x))))
    ∙ sym (filter_drops (other m) b bs (ap not (equal m.name b.name (h ∙ sym same))))
own_case false m x b bs e h rest = ap (filter (other m)) (note_other b x bs e) ∙ filter_ap (other m b) (other m) b (note bs x) bs refl rest

filter_note_own : (m x : BestValue) (bs : List BestValue) → m.name ≡ x.name → filter (other m) (note bs x) ≡ filter (other m) bs
filter_note_own m x [] h = filter_drops (other m) x [] (ap not (equal m.name x.name h))
filter_note_own m x (b ∷ bs) h = own_case (is_same_clock b x) m x b bs refl h (filter_note_own m x bs h)

-- another clock's difference goes on among the others'
behind_case : (t : Bool) (m x b : BestValue) (bs : List BestValue) → other m b ≡ t → is_same_clock b x ≡ false → filter (other m) (note bs x) ≡
    note (filter (other m) bs) x
    → filter (other m) (b ∷ note bs x) ≡ note (filter (other m) (b ∷ bs)) x
behind_case true m x b bs t e rest = filter_keeps (other m) b (note bs x) t ∙ ap (λ l. b ∷ l) rest ∙ sym (note_other b x (filter (other m) bs) e) ∙
    ap (λ l. note l x) (sym (filter_keeps (other m) b bs t))
behind_case false m x b bs t e rest = filter_drops (other m) b (note bs x) t ∙ rest ∙ ap (λ l. note l x) (sym (filter_drops (other m) b bs t))

other_case : (t : Bool) (m x b : BestValue) (bs : List BestValue) → is_same_clock b x ≡ t → m.name ≢ x.name → filter (other m) (note bs x) ≡
    note (filter (other m) bs) x
    → filter (other m) (note (b ∷ bs) x) ≡ note (filter (other m) (b ∷ bs)) x
other_case true m x b bs e n rest =
    let same : b.name ≡ x.name = same_text b.name x.name (sym e) in
    ap (filter (other m)) (note_same b x bs e)
    ∙ filter_keeps (other m) (of_shorter_trip b x) bs (ap not (unequal m.name (of_shorter_trip b x).name (λ p. n (p ∙ name_of_shorter_trip b x ∙ same))))
    ∙ sym (note_same b x (filter (other m) bs) e)
    ∙ ap (λ l. note l x) (sym (filter_keeps (other m) b bs (ap not (unequal m.name b.name (λ p. n (p ∙ same))))))
other_case false m x b bs e n rest = ap (filter (other m)) (note_other b x bs e) ∙ behind_case (other m b) m x b bs refl e rest

filter_note_other : (m x : BestValue) (bs : List BestValue) → m.name ≢ x.name → filter (other m) (note bs x) ≡ note (filter (other m) bs) x
filter_note_other m x [] n = filter_keeps (other m) x [] (ap not (unequal m.name x.name n))
filter_note_other m x (b ∷ bs) n = other_case (is_same_clock b x) m x b bs refl n (filter_note_other m x bs n)

first_case : (t : Bool) (m x f : BestValue) (bs : List BestValue) → f.name ≡ m.name → bytes_eq f.name x.name ≡ t → of_shorter_trip f x ∷
    filter (other m) (note bs x) ≡ note (f ∷ filter (other m) bs) x
first_case true m x f bs h e =
    ap (λ l. of_shorter_trip f x ∷ l) (filter_note_own m x bs (sym h ∙ same_text f.name x.name (sym e))) ∙ sym (note_same f x (filter (other m) bs) e)
first_case false m x f bs h e =
    ap (λ b. b ∷ filter (other m) (note bs x)) (of_shorter_trip_other f x e)
    ∙ ap (λ l. f ∷ l) (filter_note_other m x bs (λ p. other_text f.name x.name (sym e) (h ∙ p)))
    ∙ sym (note_other f x (filter (other m) bs) e)

-- one difference more
bests_more : (ms : List BestValue) (x : BestValue) → bests (ms ++ x ∷ []) ≡ note (bests ms) x
bests_more [] x = refl
bests_more (m ∷ ms) x =
    let f = fold of_shorter_trip m ms in
    ap (λ b. b ∷ filter (other m) (bests (ms ++ x ∷ []))) (fold-append of_shorter_trip m ms (x ∷ []))
    ∙ ap (λ l. of_shorter_trip f x ∷ filter (other m) l) (bests_more ms x)
    ∙ first_case (is_same_clock f x) m x f (bests ms) (name_fold m ms) refl

with_case : (ms : List BestValue) (o : Option BestValue) → bests (ms ++ cons_option o []) ≡ with_difference (bests ms) o
with_case ms None = ap bests (append-nil ms)
with_case ms (Some x) = bests_more ms x

-- an exchange more, which gives a difference or none
pub bests_with_difference : (es : List Exchange) (e : Exchange) → bests (differences (es ++ e ∷ [])) ≡
    with_difference (bests (differences es)) (difference_in e.name (finding_of e))
bests_with_difference es e = ap bests (filter_map-append (λ x. difference_in x.name (finding_of x)) es (e ∷ [])) ∙
    with_case (differences es) (difference_in e.name (finding_of e))

abbrev Greater : BestValue → BestValue → Type 0
Greater b m = is_same_clock b m ≡ true → b.trip < m.trip

abbrev AtLeast : BestValue → BestValue → Type 0
AtLeast b m = is_same_clock b m ≡ true → b.trip ≤ m.trip

-- the first of these differences took no lesser trip
least_head : (x r : BestValue) (xs earlier later : List BestValue) → x ∷ xs ≡ earlier ++ r ∷ later → All (Greater r) earlier → AtLeast r x
least_head x r xs [] later e first same = let h : x ≡ r = cc in omega (arith, ap (λ (b : BestValue). b.trip) h)
least_head x r xs (y ∷ ys) later e first same = let h : x ≡ y = cc in let g = All-head (Greater r) y ys first (rw h at same) in
    omega (arith, ap (λ (b : BestValue). b.trip) h, g)

-- a difference of greater trip in front
in_front : (m r : BestValue) (ms : List BestValue) → IsBestDifference ms r → Greater r m → IsBestDifference (m ∷ ms) r
in_front m r ms h g = record {
  earlier = m ∷ h.earlier;
  later = h.later;
  whole = ap (λ l. m ∷ l) h.whole;
  first = All-cons (Greater r) m h.earlier g h.first;
  least = h.least;
}

-- a difference of no lesser trip behind the first
behind_first : (m x r : BestValue) (xs earlier later : List BestValue) → m ∷ xs ≡ earlier ++ r ∷ later → All (Greater r) earlier → All (AtLeast r) later →
    is_same_clock r m ≡ true
    → (is_same_clock r x ≡ true → m.trip ≤ x.trip) → IsBestDifference (m ∷ x ∷ xs) r
behind_first m x r xs [] later e first least same h =
    let p : m ≡ r = cc in
    let q : xs ≡ later = cc in
    record {
      earlier = [];
      later = x ∷ xs;
      whole = ap (λ b. b ∷ x ∷ xs) p;
      first = All-nil (Greater r);
      least = All-cons (AtLeast r) x xs (λ s. let g = h s in omega (arith, g, ap (λ (b : BestValue). b.trip) p)) (subst (All (AtLeast r)) (sym q) least);
    }
behind_first m x r xs (y ∷ ys) later e first least same h =
    let p : m ≡ y = cc in
    let q : xs ≡ ys ++ r ∷ later = cc in
    let g = All-head (Greater r) y ys first (rw p at same) in
    let less : r.trip < m.trip = omega (arith, g, ap (λ (b : BestValue). b.trip) p) in
    record {
      earlier = m ∷ x ∷ ys;
      later = later;
      whole = ap (λ l. m ∷ x ∷ l) q;
      first = All-cons (Greater r) m (x ∷ ys) (λ s. less) (All-cons (Greater r) x ys (λ s. let k = h s in
          omega (arith, k, less)) (All-tail (Greater r) y ys first));
      least = least;
    }

-- a later difference takes the place of the earlier one, or not
step : (s t : Bool) (m x r : BestValue) (xs : List BestValue) → is_same_clock m x ≡ s → nat_lt x.trip m.trip ≡ t → r.name ≡ m.name →
    IsBestDifference ((if s && t then x else m) ∷ xs) r → IsBestDifference (m ∷ x ∷ xs) r
step true true m x r xs es et n h =
    let named : r.name ≡ x.name = n ∙ same_text m.name x.name (sym es) in
    let k = least_head x r xs h.earlier h.later h.whole h.first (equal r.name x.name named) in
    let l : x.trip < m.trip = grind (arith, et) in
    in_front m r (x ∷ xs) h (λ s. omega (arith, k, l))
step true false m x r xs es et n h =
    let l : m.trip ≤ x.trip = grind (arith, et) in
    behind_first m x r xs h.earlier h.later h.whole h.first h.least (equal r.name m.name n) (λ s. l)
step false t m x r xs es et n h =
    behind_first m x r xs h.earlier h.later h.whole h.first h.least (equal r.name m.name n) (λ s. let c = equal m.name x.name (sym n ∙
    same_text r.name x.name (sym s)) in absurd (differ (is_same_clock m x) c es)) where
      differ : (b : Bool) → b ≡ true → b ≡ false → ⊥
      differ b p q = cc

fold_is_best : (m : BestValue) (ms : List BestValue) → IsBestDifference (m ∷ ms) (fold of_shorter_trip m ms)
fold_is_best m [] = record { earlier = []; later = []; whole = refl; first = All-nil (Greater m); least = All-nil (AtLeast m) }
fold_is_best m (x ∷ xs) = step (is_same_clock m x) (nat_lt x.trip m.trip) m x (fold of_shorter_trip (of_shorter_trip m x) xs) xs refl refl
    (name_fold (of_shorter_trip m x) xs ∙ name_of_shorter_trip m x) (fold_is_best (of_shorter_trip m x) xs)

-- another clock's best stays so
of_other : (m b : BestValue) (ms : List BestValue) → IsBestDifference ms b → not (is_same_clock m b) ≡ true → IsBestDifference (m ∷ ms) b
of_other m b ms h o = in_front m b ms h (λ s. absurd (no (is_same_clock m b) (equal m.name b.name (sym (same_text b.name m.name (sym s)))) o)) where
  no : (t : Bool) → t ≡ true → not t ≡ true → ⊥
  no true p q = cc
  no false p q = cc

pub bests_are_best : (ms : List BestValue) → All (IsBestDifference ms) (bests ms)
bests_are_best [] = All-nil (IsBestDifference [])
bests_are_best (m ∷ ms) =
    let p = λ (b : BestValue). not (is_same_clock m b) in
    let known = All-filter p (IsBestDifference ms) (bests ms) (bests_are_best ms) in
    let others = filter_passes p (bests ms) in
    All-cons (IsBestDifference (m ∷ ms)) (fold of_shorter_trip m ms) (filter p (bests ms)) (fold_is_best m ms)
    (λ k d h. of_other m _ ms (known k d h) (others k d h))

-- whether a difference is of this clock
abbrev of_clock : List ℕ → BestValue → Bool
of_clock name b = bytes_eq b.name name

here : (t : Bool) (b : BestValue) (all : List BestValue) (x : BestValue) (p : ℕ) → cond (not t) (1 + p) 0 < length (b ∷ all)
    → (p < length all → note all x ≡ slice_set all p (of_shorter_trip (get_or all p x) x))
    → (if t then of_shorter_trip b x ∷ all else b ∷ note all x) ≡ slice_set (b ∷ all) (cond (not t) (1 + p) 0)
    (of_shorter_trip (get_or (b ∷ all) (cond (not t) (1 + p) 0) x) x)
here true b all x p h rest = refl
here false b all x p h rest = let e : 1 + p ≡ suc p = omega arith in rw e (ap (λ l. b ∷ l) (rest (omega (arith, h))))

note_at : (all : List BestValue) (x : BestValue) → position_or_len (of_clock x.name) all < length all
    → note all x ≡ slice_set all (position_or_len (of_clock x.name) all) (of_shorter_trip (get_or all (position_or_len (of_clock x.name) all) x) x)
note_at [] x h = absurd (omega arith)
note_at (b ∷ all) x h = here (of_clock x.name b) b all x (position_or_len (of_clock x.name) all) h (note_at all x)

missing : (t : Bool) (b : BestValue) (all : List BestValue) (x : BestValue) (p : ℕ) → length (b ∷ all) < suc (cond (not t) (1 + p) 0)
    → (length all < suc p → note all x ≡ all ++ x ∷ []) → (if t then of_shorter_trip b x ∷ all else b ∷ note all x) ≡ (b ∷ all) ++ x ∷ []
missing true b all x p h rest = absurd (omega (arith, h))
missing false b all x p h rest = ap (λ l. b ∷ l) (rest (omega (arith, h)))

note_append : (all : List BestValue) (x : BestValue) → length all < suc (position_or_len (of_clock x.name) all) → note all x ≡ all ++ x ∷ []
note_append [] x h = refl
note_append (b ∷ all) x h = missing (of_clock x.name b) b all x (position_or_len (of_clock x.name) all) h (note_append all x)

some_case : (t : Bool) (p i : ℕ) → cond t (Some p) None ≡ Some i → (t ≡ true) × (p ≡ i)
some_case true p i e = (refl, cc)
some_case false p i e = cc

none_case : (t : Bool) (p : ℕ) → cond t (Some p) None ≡ None → t ≡ false
none_case true p e = cc
none_case false p e = refl

-- the clock that is at this place
pub position_some : (all : List BestValue) (name : List ℕ) (i : ℕ) → position (of_clock name) all ≡ Some i →
    (position_or_len (of_clock name) all < length all) × (position_or_len (of_clock name) all ≡ i)
position_some all name i e =
    let s = some_case (nat_lt (position_or_len (of_clock name) all) (length all)) (position_or_len (of_clock name) all) i e in
    (grind (arith, s.0), s.1)

get_or_any : (all : List BestValue) (i : ℕ) (d e : BestValue) → i < length all → get_or all i d ≡ get_or all i e
get_or_any [] i d e h = absurd (omega arith)
get_or_any (b ∷ all) zero d e h = refl
get_or_any (b ∷ all) (suc i) d e h = get_or_any all i d e (omega (arith, h))

at_place : (all : List BestValue) (x y : BestValue) (i : ℕ) → position (of_clock x.name) all ≡ Some i → y ≡ get_or all i y → y ≡ get_or all i x
at_place all x y i e g = let p = position_some all x.name i e in g ∙ get_or_any all i y x (omega (arith, p.0, p.1))

of_shorter_trip_case : (s t : Bool) (a b : BestValue) → s ≡ true → t ≡ true → (if s && t then b else a) ≡ b
of_shorter_trip_case true true a b p q = refl
of_shorter_trip_case true false a b p q = cc
of_shorter_trip_case false t a b p q = cc

worse_case : (s t : Bool) (a b : BestValue) → t ≡ false → (if s && t then b else a) ≡ a
worse_case true true a b q = cc
worse_case true false a b q = refl
worse_case false t a b q = refl

geb : (a b : ℕ) → b < suc a → nat_lt a b ≡ false
geb a b h = grind arith

-- a later difference of lesser trip takes the place of its clock's
pub note_replaces : (all : List BestValue) (x y : BestValue) (i : ℕ) → position (of_clock x.name) all ≡ Some i → y ≡ get_or all i y → x.trip < y.trip →
    note all x ≡ slice_set all i x
note_replaces all x y i e g less =
    let h : x.trip < (get_or all i x).trip = rw (at_place all x y i e g) at less in
    let p = position_some all x.name i e in
    let same : of_clock x.name (get_or all i x) ≡ true = rw p.1 at (passes_at_first (of_clock x.name) all x p.0) in
    (rw p.1 at (note_at all x p.0)) ∙ ap (slice_set all i) (of_shorter_trip_case (is_same_clock (get_or all i x) x) (nat_lt x.trip (get_or all i x).trip)
    (get_or all i x) x same (lt-ltb _ _ h))

-- a later difference of no lesser trip changes nothing
pub note_keeps : (all : List BestValue) (x y : BestValue) (i : ℕ) → position (of_clock x.name) all ≡ Some i → y ≡ get_or all i y → y.trip < suc x.trip →
    note all x ≡ all
note_keeps all x y i e g more =
    let h : (get_or all i x).trip < suc x.trip = rw (at_place all x y i e g) at more in
    let p = position_some all x.name i e in
    (rw p.1 at (note_at all x p.0)) ∙ ap (slice_set all i) (worse_case (is_same_clock (get_or all i x) x) (nat_lt x.trip (get_or all i x).trip) (get_or all i x)
    x (geb _ _ h)) ∙ set-get_or all i x

-- a clock's first difference stands behind the others'
pub note_adds : (all : List BestValue) (x : BestValue) → position (of_clock x.name) all ≡ None → note all x ≡ all ++ x ∷ []
note_adds all x e =
    let n = none_case (nat_lt (position_or_len (of_clock x.name) all) (length all)) (position_or_len (of_clock x.name) all) e in
    note_append all x (grind (arith, n))
