-- Lemmas on the best sample.
use Rattle.std.proofs.Common.{◌≡◌, ◌∙◌, refl, ap, subst, ℕ, ◌<◌, Bool, true, false, Option, None, Some, cond, ℤ, ◌≤ℤ◌, ◌<ℤ◌, List, [], ◌∷◌, ◌++◌, length}
use Rattle.std.proofs.Common.{get_or, arith, append_assoc, append-nil, length-append, int_lt}
use Rattle.std.{proofs.Math.Seq.get_or-append_seam, proofs.lemmas.Int.ints, proofs.lemmas.List.get_or_append_left, specs.List.fold}
use Rattle.std.proofs.lemmas.List.Elements.{All-push, All-weaker, All-nil, All-get_or}
use Rattle.tsp_measure.specs.Measures.{IsFirstOfLeastTrip, IsBestSample, better, best_of}
use Rattle.tsp_measure.specs.declared.sample.TimedSample.{TimedSample}

lesser : (x y : ℤ) → int_lt x y ≡ true → x <ℤ y
lesser x y h = grind (arith, ints)

not_lesser : (x y : ℤ) → int_lt x y ≡ false → y ≤ℤ x
not_lesser x y h = grind (arith, ints)

below_all : (x y z : ℤ) → x <ℤ y → y ≤ℤ z → x <ℤ z
below_all x y z h k = omega (arith, ints)

below_all_le : (x y z : ℤ) → x <ℤ y → y ≤ℤ z → x ≤ℤ z
below_all_le x y z h k = omega (arith, ints)

le_itself : (x : ℤ) → x ≤ℤ x
le_itself x = omega (arith, ints)

-- one more sample of a lesser trip
later_best : (xs : List TimedSample) (x early : TimedSample) (i : ℕ) → IsFirstOfLeastTrip xs early i → x.trip <ℤ early.trip →
    IsFirstOfLeastTrip (xs ++ x ∷ []) x (length xs)
later_best xs x early i h lt = record {
  inside = omega (arith, length-append xs (x ∷ []));
  is = get_or-append_seam xs x [] x;
  least = All-push (λ (t : TimedSample). x.trip ≤ℤ t.trip) xs x (All-weaker (λ (t : TimedSample). early.trip ≤ℤ t.trip) (λ (t : TimedSample). x.trip ≤ℤ t.trip)
      (λ t le. below_all_le x.trip early.trip t.trip lt le) xs h.least) (le_itself x.trip);
  first = λ k less. rw (get_or_append_left xs (x ∷ []) x k less) (below_all x.trip early.trip (get_or xs k x).trip lt
      (All-get_or (λ (t : TimedSample). early.trip ≤ℤ t.trip) xs k x less h.least));
}

-- one more sample of no lesser trip
earlier_best : (xs : List TimedSample) (x early : TimedSample) (i : ℕ) → IsFirstOfLeastTrip xs early i → early.trip ≤ℤ x.trip →
    IsFirstOfLeastTrip (xs ++ x ∷ []) early i
earlier_best xs x early i h le = record {
  inside = let n = h.inside in omega (arith, length-append xs (x ∷ []));
  is = get_or_append_left xs (x ∷ []) early i h.inside ∙ h.is;
  least = All-push (λ (t : TimedSample). early.trip ≤ℤ t.trip) xs x h.least le;
  first = λ k less. let n = h.inside in let m : k < length xs = omega arith in rw (get_or_append_left xs (x ∷ []) early k m) (h.first k less);
}

only_best : (xs : List TimedSample) (x : TimedSample) → xs ≡ [] → IsFirstOfLeastTrip (xs ++ x ∷ []) x (length xs)
only_best xs x e = record {
  inside = omega (arith, length-append xs (x ∷ []));
  is = get_or-append_seam xs x [] x;
  least = All-push (λ (t : TimedSample). x.trip ≤ℤ t.trip) xs x (rw e (All-nil (λ (t : TimedSample). x.trip ≤ℤ t.trip))) (le_itself x.trip);
  first = λ k less. absurd (let n : length xs ≡ 0 = ap length e in omega arith);
}

better_by : (xs : List TimedSample) (x early : TimedSample) (i : ℕ) (t : Bool) → int_lt x.trip early.trip ≡ t → IsFirstOfLeastTrip xs early i →
    IsBestSample (xs ++ x ∷ []) (cond t (Some x) (Some early))
better_by xs x early i true e h = (length xs, later_best xs x early i h (lesser x.trip early.trip e))
better_by xs x early i false e h = (i, earlier_best xs x early i h (not_lesser x.trip early.trip e))

better_is_best : (xs : List TimedSample) (x : TimedSample) (r : Option TimedSample) → IsBestSample xs r → IsBestSample (xs ++ x ∷ []) (better r x)
better_is_best xs x None h = (length xs, only_best xs x h)
better_is_best xs x (Some early) h = better_by xs x early h.0 (int_lt x.trip early.trip) refl h.1

best_from : (ys xs : List TimedSample) (r : Option TimedSample) → IsBestSample xs r → IsBestSample (xs ++ ys) (fold better r ys)
best_from [] xs r h = rw (append-nil xs) h
best_from (y ∷ ys) xs r h = subst (λ (zs : List TimedSample). IsBestSample zs (fold better (better r y) ys)) (append_assoc xs (y ∷ []) ys) (best_from ys (xs ++
    y ∷ []) (better r y) (better_is_best xs y r h))

pub best_of_IsBestOf : (xs : List TimedSample) → IsBestSample xs (best_of xs)
best_of_IsBestOf xs = best_from xs [] None refl
