-- What a port keeps while its role doesn't change.
use Rattle.std.proofs.Common.{sym, ap, subst, arith, true≢false, inl, inr, ◌∙◌, ◌≡◌, ◌≤◌, ◌<◌, ◌⊎◌, ℕ, ◌==◌, Bool, true, false, if◌then◌else◌, List}
use Rattle.std.proofs.Common.{[], ◌∷◌, Option, None, Some, refl}
use Rattle.tsp_rules.specs.Values.{Boot, Become, Arm, Ring, Late, Rival, Alarm, ResolveAlarm, PeerId, Port, Role}
use Rattle.tsp_base.specs.Words.{Acts, Deed, Did, Elsewhere, Here, Line, Seen, Within, armed, armed_after, is_rival, is_rival_after, of, plain, role}
use Rattle.tsp_base.specs.Words.{role_after}
use Rattle.tsp_base.specs.Words.{tick_of, view}
use Rattle.tsp_base.proofs.PlaceLemmas.{Within_length, Within_through}
use Rattle.tsp_promises.proofs.shared.HistoryPlaces.{Within_of}
use Rattle.tsp_progress.specs.AlarmsFit.{AlarmFits, AlarmsFit, Manner}
use Rattle.tsp_progress.specs.FoundInTime.{Changed, is_change}
use Rattle.tsp_progress.specs.MastersTell.{LeadsOn}
use Rattle.tsp_progress.proofs.SearchKept.{alarms_within, view_within}
use Rattle.tsp_progress.proofs.{InTimeProof.value_of, StandsProof.Rising}

-- a change in a past is one in a longer past
pub changed_more : (early s t : List Seen) → Within s t → Changed early s → Changed early t
changed_more early s t w c = record {
  change = c.change;
  before = c.before;
  place = Within_through (Here c.change ∷ c.before) s t c.place w;
  since = c.since;
  is = c.is;
}

-- and one since an earlier place
pub changed_since : (early later t : List Seen) → Within early later → Changed later t → Changed early t
changed_since early later t w c = record {
  change = c.change;
  before = c.before;
  place = c.place;
  since = Within_through early later c.before w c.since;
  is = c.is;
}

module _ (early : List Seen) where
  -- the newest deed is no change
  pub no_change_now : (d : Did) (before : List Seen) → Within early before → ¬ Changed early (Here d ∷ before) → is_change d.deed ≡ false
  no_change_now d before w k = by_case (is_change d.deed) refl where
    by_case : (b : Bool) → is_change d.deed ≡ b → is_change d.deed ≡ false
    by_case true e = absurd (k (record { change = d; before = before; place = inl refl; since = w; is = e }))
    by_case false e = e

  pub unchanged_before : (s : Seen) (before : List Seen) → ¬ Changed early (s ∷ before) → ¬ Changed early before
  unchanged_before s before k c = k (record { change = c.change; before = c.before; place = inr c.place; since = c.since; is = c.is })

  -- whether it changed
  pub either : (seen : List Seen) → Within early seen → Changed early seen ⊎ (¬ Changed early seen)
  either [] w = inr (λ c. let bad : ⊥ = cc in bad)
  either (s ∷ before) (inl e) = inr (λ c.
      let few = Within_length (Here c.change ∷ c.before) (s ∷ before) c.place in
      let many = Within_length early c.before c.since in
      let same = Within_length (s ∷ before) early (inl-all (s ∷ before) early e) in
      omega (arith, few, many, same)) where
        inl-all : (t e : List Seen) → e ≡ t → Within t e
        inl-all [] e is = subst (λ k. Within [] k) (sym is) refl
        inl-all (s ∷ t) e is = subst (λ k. Within (s ∷ t) k) (sym is) (inl refl)
  either (Elsewhere d ∷ before) (inr w) = elim (either before w) [
    | inl c ↦ inl (record { change = c.change; before = c.before; place = inr c.place; since = c.since; is = c.is })
    | inr none ↦ inr (λ c. none (older c))
  ] where
    older : Changed early (Elsewhere d ∷ before) → Changed early before
    older c = elim c.place [
      | inl e ↦ absurd (let bad : ⊥ = cc in bad)
      | inr v ↦ record { change = c.change; before = c.before; place = v; since = c.since; is = c.is }
    ]
  either (Here d ∷ before) (inr w) = by_case (is_change d.deed) refl (either before w) where
    by_case : (b : Bool) → is_change d.deed ≡ b → Changed early before ⊎ (¬ Changed early before) → Changed early (Here d ∷ before)
        ⊎ (¬ Changed early (Here d ∷ before))
    by_case true e rest = inl (record { change = d; before = before; place = inl refl; since = w; is = e })
    by_case false e (inl c) = inl (record { change = c.change; before = c.before; place = inr c.place; since = c.since; is = c.is })
    by_case false e (inr none) = inr (λ c. elim c.place [
      | inl same ↦ let first : c.change ≡ d = cc in true≢false (sym c.is ∙ (ap (λ (k : Did). is_change k.deed) first ∙ e))
      | inr v ↦ none (record { change = c.change; before = c.before; place = v; since = c.since; is = c.is })
    ])

  -- the role stays
  role_by : (deed : Deed) (was : Role) → is_change deed ≡ false → role_after deed was ≡ was
  role_by (Acts Boot) was e = absurd (true≢false e)
  role_by (Acts (Become r)) was e = absurd (true≢false e)
  role_by _ was e = refl

  pub role_kept : (seen : List Seen) → Within early seen → ¬ Changed early seen → role seen ≡ role early
  role_kept [] w k = ap role (sym w)
  role_kept (s ∷ before) (inl e) k = ap role (sym e)
  role_kept (Elsewhere d ∷ before) (inr w) k = role_kept before w (unchanged_before (Elsewhere d) before k)
  role_kept (Here d ∷ before) (inr w) k = role_by d.deed (role before) (no_change_now d before w k) ∙
      role_kept before w (unchanged_before (Here d) before k)

  -- a rival stays one
  rival_by : (p : PeerId) (deed : Deed) → is_change deed ≡ false → is_rival_after p deed true ≡ true
  rival_by p (Acts Boot) e = absurd (true≢false e)
  rival_by p (Acts (Become r)) e = absurd (true≢false e)
  rival_by p (Acts (Rival q)) e = by_case (q.0 == p.0) where
    by_case : (b : Bool) → (if b then true else true) ≡ true
    by_case true = refl
    by_case false = refl
  rival_by p _ e = refl

  pub rival_kept : (p : PeerId) (seen : List Seen) → Within early seen → ¬ Changed early seen → is_rival p early ≡ true → is_rival p seen ≡ true
  rival_kept p [] w k h = subst (λ s. is_rival p s ≡ true) w h
  rival_kept p (s ∷ before) (inl e) k h = subst (λ s. is_rival p s ≡ true) e h
  rival_kept p (Elsewhere d ∷ before) (inr w) k h = rival_kept p before w (unchanged_before (Elsewhere d) before k) h
  rival_kept p (Here d ∷ before) (inr w) k h = ap (is_rival_after p d.deed) (rival_kept p before w (unchanged_before (Here d) before k) h) ∙
      rival_by p d.deed (no_change_now d before w k)

  -- Resolve goes off, which was armed for that tick
  pub record WentOff (at : ℕ) (seen : List Seen) : Type 0 where
    pub off : Did
    pub before : List Seen
    pub place : Within (Here off ∷ before) seen
    pub since : Within early before
    pub armed_is : (armed before).resolve ≡ Some at
    pub is : (off.deed ≡ Acts (Ring ResolveAlarm)) ⊎ (off.deed ≡ Acts (Late ResolveAlarm))

  -- it isn't armed where it is armed already
  abbrev pub ArmedOnce : List Seen → Type 0
  ArmedOnce seen = (d : Did) (before : List Seen) (at : ℕ) → Within (Here d ∷ before) seen → d.deed ≡ Acts (Arm ResolveAlarm at) → (armed before).resolve ≡ None

  some_none : {A : Type 0} {o : Option ℕ} {at : ℕ} → o ≡ None → o ≡ Some at → A
  some_none n e = let bad : None ≡ Some _ = sym n ∙ e in let no : ⊥ = cc in absurd no

  off_later : (at : ℕ) (s : Seen) (before : List Seen) → WentOff at before → WentOff at (s ∷ before)
  off_later at s before o = record { off = o.off; before = o.before; place = inr o.place; since = o.since; armed_is = o.armed_is; is = o.is }

  -- so it stays armed until it goes off
  pub until_off : (at : ℕ) (seen : List Seen) → Within early seen → ¬ Changed early seen → ArmedOnce seen → (armed early).resolve ≡ Some at →
      WentOff at seen ⊎ ((armed seen).resolve ≡ Some at)
  until_off at [] w k once h = inr (subst (λ s. (armed s).resolve ≡ Some at) w h)
  until_off at (s ∷ before) (inl e) k once h = inr (subst (λ s. (armed s).resolve ≡ Some at) e h)
  until_off at (Elsewhere d ∷ before) (inr w) k once h =
      elim (until_off at before w (unchanged_before (Elsewhere d) before k) (λ e b to v is. once e b to (inr v) is) h) [
        | inl o ↦ inl (off_later at (Elsewhere d) before o)
        | inr still ↦ inr still
      ]
  until_off at (Here d ∷ before) (inr w) k once h =
      elim (until_off at before w (unchanged_before (Here d) before k) (λ e b to v is. once e b to (inr v) is) h) [
        | inl o ↦ inl (off_later at (Here d) before o)
        | inr still ↦ by_deed d.deed refl (no_change_now d before w k) still
      ] where
        arms : (a : Alarm) (to : ℕ) → d.deed ≡ Acts (Arm a to) → (armed before).resolve ≡ Some at →
            (armed_after (Acts (Arm a to)) (armed before)).resolve ≡ Some at
        arms ResolveAlarm to is still = some_none (once d before to (inl refl) is) still
        arms _ to is still = still

        rings : (a : Alarm) → d.deed ≡ Acts (Ring a) → (armed before).resolve ≡ Some at → WentOff at (Here d ∷ before)
            ⊎ ((armed_after (Acts (Ring a)) (armed before)).resolve ≡ Some at)
        rings ResolveAlarm is still = inl (record { off = d; before = before; place = inl refl; since = w; armed_is = still; is = inl is })
        rings _ is still = inr still

        lates : (a : Alarm) → d.deed ≡ Acts (Late a) → (armed before).resolve ≡ Some at → WentOff at (Here d ∷ before)
            ⊎ ((armed_after (Acts (Late a)) (armed before)).resolve ≡ Some at)
        lates ResolveAlarm is still = inl (record { off = d; before = before; place = inl refl; since = w; armed_is = still; is = inr is })
        lates _ is still = inr still

        by_deed : (deed : Deed) → d.deed ≡ deed → is_change deed ≡ false → (armed before).resolve ≡ Some at → WentOff at (Here d ∷ before)
            ⊎ ((armed_after deed (armed before)).resolve ≡ Some at)
        by_deed (Acts Boot) is e still = absurd (true≢false e)
        by_deed (Acts (Become r)) is e still = absurd (true≢false e)
        by_deed (Acts (Arm a to)) is e still = inr (arms a to is still)
        by_deed (Acts (Ring a)) is e still = rings a is still
        by_deed (Acts (Late a)) is e still = lates a is still
        by_deed _ is e still = inr still

  -- and it doesn't go off before it is due
  pub off_due : (m : Manner) (at : ℕ) (seen : List Seen) → AlarmsFit m seen → (o : WentOff at seen) → at ≤ o.off.tick
  off_due m at seen f o = elim o.is [
    | inl ring ↦ let fit = subst (λ d. AlarmFits d o.off o.before) ring here.0 in
        let same = value_of (sym o.armed_is ∙ fit.armed_is) in let due = fit.due in omega (arith, same, due)
    | inr late ↦ let fit = subst (λ d. AlarmFits d o.off o.before) late here.0 in
        let same = value_of (sym o.armed_is ∙ fit.armed_is) in let due = fit.late in omega (arith, same, due)
  ] where
    here : AlarmsFit m (Here o.off ∷ o.before)
    here = alarms_within m (Here o.off ∷ o.before) seen o.place f

  -- a place's ticks are at most those of a later place
  pub tick_before : (s seen : List Seen) → Within s seen → Rising seen → tick_of (plain s) ≤ tick_of (plain seen)
  tick_before s [] w up = subst (λ k. tick_of (plain k) ≤ 0) (sym w) (omega arith)
  tick_before s (k ∷ before) (inl e) up = subst (λ t. tick_of (plain t) ≤ tick_of (plain (k ∷ before))) (sym e) (omega arith)
  tick_before s (k ∷ before) (inr w) up = let low = tick_before s before w up.1 in let le = up.0 in omega (arith, low, le)

  -- before that it is armed
  pub armed_until : (m : Manner) (at : ℕ) (seen : List Seen) → Within early seen → ¬ Changed early seen → ArmedOnce seen → AlarmsFit m seen → Rising seen →
      tick_of (plain seen) < at → (armed early).resolve ≡ Some at → (armed seen).resolve ≡ Some at
  armed_until m at seen w k once f up high h = elim (until_off at seen w k once h) [
    | inl o ↦ let due = off_due m at seen f o in
        let low = tick_before (Here o.off ∷ o.before) seen o.place up in
        absurd (omega (arith, due, low, high))
    | inr still ↦ still
  ]

-- a master that leads on does so from each later place
pub leads_later : (n : ℕ) (q : Port) (early later world : List Line) → LeadsOn n q early world → Within early later → Within later world →
    LeadsOn n q later world
leads_later n q early later world k w v =
    let first : Within (view q (of n early)) (view q (of n later)) = view_within q (of n early) (of n later) (Within_of n early later w) in
    let last : Within (view q (of n later)) (view q (of n world)) = view_within q (of n later) (of n world) (Within_of n later world v) in
    record {
      place = v;
      master = role_kept (view q (of n early)) (view q (of n later)) first (λ c. k.stays (changed_more _ _ _ last c)) ∙ k.master;
      stays = λ c. k.stays (changed_since _ _ _ first c);
    }
