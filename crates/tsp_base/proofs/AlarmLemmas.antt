-- The earlier of two deadlines.
use Rattle.std.proofs.Common.{refl, inl, inr, arith, ap, sym, subst, ◌∙◌, ◌≡◌, ◌≤◌, ◌⊎◌, ℕ, List, [], ◌∷◌, length, drop, Option, None, Some, IfSome, IsSome}
use Rattle.std.proofs.Common.{min}
use Rattle.std.proofs.lemmas.{Bool.cases_lt, List.drop_all}
use Rattle.tsp_base.specs.declared.alarm.Alarm.{Alarm}
use Rattle.tsp_base.specs.declared.alarm.Alarm.TheVariants.{Quiet, Search, Elect, Window, Probe, Close as CloseAlarm, Resolve as ResolveAlarm, Round}
use Rattle.tsp_base.specs.Words.{Deadlines, deadline, deadlines_in, earlier, least_deadline}

-- the earlier of two is one of them
pub earlier_is_one : (a b : Option ℕ) → (earlier a b ≡ a) ⊎ (earlier a b ≡ b)
earlier_is_one None b = inr refl
earlier_is_one (Some x) None = inl refl
earlier_is_one (Some x) (Some y) = elim (cases_lt x y) [
  | inl lt ↦ inl (let e : min x y ≡ x = omega (arith, lt) in ap (λ n. Some n) e)
  | inr ge ↦ inr (let e : min x y ≡ y = omega (arith, ge) in ap (λ n. Some n) e)
]

-- the earliest of some deadlines and this one
abbrev pub earliest : List (Option ℕ) → Option ℕ → Option ℕ
earliest [] least = least
earliest (d ∷ rest) least = earliest rest (earlier least d)

-- an alarm with the earliest deadline, if one is armed
pub least_deadline_armed : (d : Deadlines) → (a : Alarm) × (least_deadline d ≡ deadline d a)
least_deadline_armed d =
    one (earlier (earlier d.quiet d.search) (earlier d.elect d.window)) (earlier (earlier d.probe d.close) (earlier d.resolve d.round))
    (two d.quiet d.search d.elect d.window Quiet Search Elect Window refl refl refl refl)
    (two d.probe d.close d.resolve d.round Probe CloseAlarm ResolveAlarm Round refl refl refl refl) where
      one : (x y : Option ℕ) → (a : Alarm) × (x ≡ deadline d a) → (a : Alarm) × (y ≡ deadline d a) → (a : Alarm) × (earlier x y ≡ deadline d a)
      one x y p q = elim (earlier_is_one x y) [ inl e ↦ (p.0, e ∙ p.1) | inr e ↦ (q.0, e ∙ q.1) ]

      two : (w x y z : Option ℕ) (a b e f : Alarm) → w ≡ deadline d a → x ≡ deadline d b → y ≡ deadline d e → z ≡ deadline d f → (k : Alarm) ×
          (earlier (earlier w x) (earlier y z) ≡ deadline d k)
      two w x y z a b e f p q r s = one (earlier w x) (earlier y z) (one w x (a, p) (b, q)) (one y z (e, r) (f, s))

-- a deadline is armed for this tick or an earlier one
abbrev pub IsBy : ℕ → Option ℕ → Type 0
IsBy t None = ⊥
IsBy t (Some x) = x ≤ t

by_left : (t : ℕ) (a b : Option ℕ) → IsBy t a → IsBy t (earlier a b)
by_left t None b p = absurd p
by_left t (Some x) None p = p
by_left t (Some x) (Some y) p = omega (arith, p)

by_right : (t : ℕ) (a b : Option ℕ) → IsBy t b → IsBy t (earlier a b)
by_right t None b p = p
by_right t (Some x) None p = absurd p
by_right t (Some x) (Some y) p = omega (arith, p)

by_some : (t : ℕ) (d : Option ℕ) → d ≡ Some t → IsBy t d
by_some t d e = subst (λ x. IsBy t x) (sym e) (omega arith)

is_by : (t : ℕ) (d : Option ℕ) → IsBy t d → IfSome d (λ l. l ≤ t) × IsSome d
is_by t None p = absurd p
is_by t (Some x) p = (p, refl)

-- each half of the alarms, in two pairs
abbrev early : Deadlines → Option ℕ
early d = earlier (earlier d.quiet d.search) (earlier d.elect d.window)

abbrev late : Deadlines → Option ℕ
late d = earlier (earlier d.probe d.close) (earlier d.resolve d.round)

-- the earliest deadline is no later than any alarm's
pub none_later : (d : Deadlines) (a : Alarm) (t : ℕ) → deadline d a ≡ Some t → IfSome (least_deadline d) (λ l. l ≤ t) × IsSome (least_deadline d)
none_later d a t e = is_by t (least_deadline d) (pick a e) where
  pick : (a : Alarm) → deadline d a ≡ Some t → IsBy t (least_deadline d)
  pick Quiet e = by_left t (early d) (late d) (by_left t (earlier d.quiet d.search) (earlier d.elect d.window)
      (by_left t d.quiet d.search (by_some t d.quiet e)))
  pick Search e = by_left t (early d) (late d) (by_left t (earlier d.quiet d.search) (earlier d.elect d.window)
      (by_right t d.quiet d.search (by_some t d.search e)))
  pick Elect e = by_left t (early d) (late d) (by_right t (earlier d.quiet d.search) (earlier d.elect d.window)
      (by_left t d.elect d.window (by_some t d.elect e)))
  pick Window e = by_left t (early d) (late d) (by_right t (earlier d.quiet d.search) (earlier d.elect d.window)
      (by_right t d.elect d.window (by_some t d.window e)))
  pick Probe e = by_right t (early d) (late d) (by_left t (earlier d.probe d.close) (earlier d.resolve d.round)
      (by_left t d.probe d.close (by_some t d.probe e)))
  pick CloseAlarm e = by_right t (early d) (late d) (by_left t (earlier d.probe d.close) (earlier d.resolve d.round)
      (by_right t d.probe d.close (by_some t d.close e)))
  pick ResolveAlarm e = by_right t (early d) (late d) (by_right t (earlier d.probe d.close) (earlier d.resolve d.round)
      (by_left t d.resolve d.round (by_some t d.resolve e)))
  pick Round e = by_right t (early d) (late d) (by_right t (earlier d.probe d.close) (earlier d.resolve d.round)
      (by_right t d.resolve d.round (by_some t d.round e)))

-- what holds of each list of eight
eight : (P : List (Option ℕ) → Type 0) → ((q s e w p c r o : Option ℕ) → P (q ∷ s ∷ e ∷ w ∷ p ∷ c ∷ r ∷ o ∷ [])) → (xs : List (Option ℕ)) → length xs ≡ 8 → P xs
eight P all (q ∷ s ∷ e ∷ w ∷ p ∷ c ∷ r ∷ o ∷ []) l = all q s e w p c r o
eight P all _ l = absurd (omega (arith, l))

earlier_assoc : (a b c : Option ℕ) → earlier (earlier a b) c ≡ earlier a (earlier b c)
earlier_assoc None b c = refl
earlier_assoc (Some x) None c = refl
earlier_assoc (Some x) (Some y) None = refl
earlier_assoc (Some x) (Some y) (Some z) = let e : min (min x y) z ≡ min x (min y z) = omega arith in ap (λ n. Some n) e

-- one after the other, the eight have the same earliest one as in pairs
in_pairs : (q s e w p c r o : Option ℕ) → earliest (q ∷ s ∷ e ∷ w ∷ p ∷ c ∷ r ∷ o ∷ []) None ≡
    least_deadline (deadlines_in (q ∷ s ∷ e ∷ w ∷ p ∷ c ∷ r ∷ o ∷ []))
in_pairs q s e w p c r o =
    let four = earlier (earlier q s) (earlier e w) in
    ap (λ x. earlier (earlier (earlier (earlier x p) c) r) o) (earlier_assoc (earlier q s) e w)
    ∙ ap (λ x. earlier (earlier x r) o) (earlier_assoc four p c)
    ∙ earlier_assoc (earlier four (earlier p c)) r o
    ∙ earlier_assoc four (earlier p c) (earlier r o)

-- a walk over all eight finds the earliest one
pub all_seen : (xs : List (Option ℕ)) (i : ℕ) (least : Option ℕ) → length xs ≡ 8 → 8 ≤ i → earliest (drop i xs) least ≡ earliest xs None → least ≡
    least_deadline (deadlines_in xs)
all_seen xs i least e past walk =
    let none : drop i xs ≡ [] = drop_all i xs (omega (arith, e, past)) in
    sym (ap (λ rest. earliest rest least) none) ∙ walk ∙ eight (λ xs. earliest xs None ≡ least_deadline (deadlines_in xs)) in_pairs xs e
