-- A search stays armed until it is due, unless the port changes its role.
use Rattle.std.proofs.Common.{sym, subst, arith, inl, inr, ◌∙◌, ◌≡◌, ◌≤◌, ◌<◌, ◌⊎◌, ℕ, ◌+◌, true, List, [], ◌∷◌, Option, Some, refl}
use Rattle.tsp_rules.specs.Values.{Boot, Become, Arm, Ring, Late, Alarm, Search, Role, WINDOW, Port}
use Rattle.tsp_base.specs.Words.{Acts, Deed, Did, Elsewhere, Here, Line, Seen, Within, armed, armed_after, plain, role, role_after, tick_of, view}
use Rattle.tsp_base.proofs.PlaceLemmas.{Within_all}
use Rattle.tsp_progress.specs.AlarmsFit.{AlarmFits, AlarmsFit, Manner}
use Rattle.tsp_progress.specs.FoundInTime.{Changed, is_change}
use Rattle.tsp_progress.proofs.{InTimeProof.value_of, StandsProof.Rising}

-- the role is r, and Search is armed for this tick or a later one
pub record SeeksBy (r : Role) (bound : ℕ) (now : Role) (search : Option ℕ) : Type 0 where
  pub role_is : now ≡ r
  pub at : ℕ
  pub search_is : search ≡ Some at
  pub late : bound ≤ at

abbrev pub Seeks : Role → ℕ → List Seen → Type 0
Seeks r bound seen = SeeksBy r bound (role seen) (armed seen).search

module _ (r : Role) (x : ℕ) (d : Did) (before : List Seen) (low : x ≤ d.tick) (high : d.tick < x + WINDOW) (k : Seeks r (x + WINDOW) before) where
  -- after a deed
  abbrev After : Deed → Type 0
  After deed = (is_change deed ≡ true) ⊎ SeeksBy r (x + WINDOW) (role_after deed (role before)) (armed_after deed (armed before)).search

  stays : SeeksBy r (x + WINDOW) (role before) (armed before).search
  stays = k

  arms : (a : Alarm) (at : ℕ) → AlarmFits (Acts (Arm a at)) d before → After (Acts (Arm a at))
  arms Search at f = inr (record { role_is = k.role_is; at = at; search_is = refl; late = omega (arith, f, low) })
  arms _ at f = inr stays

  rings : (a : Alarm) → AlarmFits (Acts (Ring a)) d before → After (Acts (Ring a))
  rings Search f =
      let same = value_of (sym f.armed_is ∙ k.search_is) in
      let due = f.due in
      let late = k.late in
      let bad : ⊥ = omega (arith, same, due, late, high) in
      absurd bad
  rings _ f = inr stays

  lates : (a : Alarm) → AlarmFits (Acts (Late a)) d before → After (Acts (Late a))
  lates Search f =
      let same = value_of (sym f.armed_is ∙ k.search_is) in
      let due = f.late in
      let late = k.late in
      let bad : ⊥ = omega (arith, same, due, late, high) in
      absurd bad
  lates _ f = inr stays

  by_deed_holds : (deed : Deed) → AlarmFits deed d before → After deed
  by_deed_holds (Acts Boot) f = inl refl
  by_deed_holds (Acts (Become s)) f = inl refl
  by_deed_holds (Acts (Arm a at)) f = arms a at f
  by_deed_holds (Acts (Ring a)) f = rings a f
  by_deed_holds (Acts (Late a)) f = lates a f
  by_deed_holds _ f = inr stays

module _ (m : Manner) (r : Role) (x : ℕ) (early : List Seen) (seeks : Seeks r (x + WINDOW) early) (from : x ≤ tick_of (plain early)) where
  later : (s : Seen) (before : List Seen) → Changed early before → Changed early (s ∷ before)
  later s before c = record { change = c.change; before = c.before; place = inr c.place; since = c.since; is = c.is }

  -- ticks don't fall
  low_tick : (seen : List Seen) → Within early seen → Rising seen → x ≤ tick_of (plain seen)
  low_tick [] w up = subst (λ s. x ≤ tick_of (plain s)) w from
  low_tick (s ∷ before) (inl e) up = subst (λ s. x ≤ tick_of (plain s)) e from
  low_tick (s ∷ before) (inr w) up = let low = low_tick before w up.1 in let le = up.0 in omega (arith, low, le)

  -- after this past, before Search is due, the role changed or the port still seeks
  pub kept : (seen : List Seen) → Within early seen → AlarmsFit m seen → Rising seen → tick_of (plain seen) < x + WINDOW →
      Changed early seen ⊎ Seeks r (x + WINDOW) seen
  kept [] w f up high = inr (subst (λ s. Seeks r (x + WINDOW) s) w seeks)
  kept (s ∷ before) (inl e) f up high = inr (subst (λ s. Seeks r (x + WINDOW) s) e seeks)
  kept (Elsewhere d ∷ before) (inr w) f up high = elim (kept before w f.1 up.1 (let le = up.0 in omega (arith, le, high))) [
    | inl c ↦ inl (later (Elsewhere d) before c)
    | inr k ↦ inr k
  ]
  kept (Here d ∷ before) (inr w) f up high = elim (kept before w f.1.1 up.1 (let le = up.0 in omega (arith, le, high))) [
    | inl c ↦ inl (later (Here d) before c)
    | inr k ↦ elim (by_deed_holds r x d before (low_tick (Here d ∷ before) (inr w) up) high k d.deed f.0) [
      | inl is ↦ inl (record { change = d; before = before; place = inl refl; since = w; is = is })
      | inr still ↦ inr still
    ]
  ]

-- a place of a past fits, and rises
pub alarms_within : (m : Manner) (s seen : List Seen) → Within s seen → AlarmsFit m seen → AlarmsFit m s
alarms_within m s [] w f = subst (λ k. AlarmsFit m k) (sym w) tt
alarms_within m s (k ∷ before) (inl e) f = subst (λ k. AlarmsFit m k) (sym e) f
alarms_within m s (Here d ∷ before) (inr w) f = alarms_within m s before w f.1.1
alarms_within m s (Elsewhere d ∷ before) (inr w) f = alarms_within m s before w f.1

pub rising_within : (s seen : List Seen) → Within s seen → Rising seen → Rising s
rising_within s [] w f = subst (λ k. Rising k) (sym w) tt
rising_within s (k ∷ before) (inl e) f = subst (λ k. Rising k) (sym e) f
rising_within s (k ∷ before) (inr w) f = rising_within s before w f.1

-- what a port sees of an earlier part of the lines it sees of all
pub view_within : (q : Port) (s lines : List Line) → Within s lines → Within (view q s) (view q lines)
view_within q s [] w = subst (λ k. Within (view q k) []) (sym w) refl
view_within q s (l ∷ before) (inl e) = subst (λ k. Within (view q k) (view q (l ∷ before))) (sym e) (Within_all (view q (l ∷ before)))
view_within q s (l ∷ before) (inr w) = inr (view_within q s before w)
