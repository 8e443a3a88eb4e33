-- A port that boots and hears nothing is master soon.
use Rattle.std.proofs.Common.{sym, ap, subst, arith, true≢false, ◌∙◌, ◌≡◌, ◌≤◌, ◌<◌, ◌⊎◌, inl, inr, ℕ, ◌+◌, ◌%◌, ◌||◌, not, Bool, true, false, if◌then◌else◌}
use Rattle.std.proofs.Common.{List, [], ◌∷◌, Option, None, Some, is_some, refl}
use Rattle.std.proofs.{Math.Nat.mod-lt, lemmas.Bool.not-true, lemmas.Bool.or_cases, lemmas.Bool.or_parts, lemmas.Bool.or_right}
use Rattle.tsp_rules.specs.Values.{Act, Boot, Took, Become, Arm, Ring, Late, Back, Quit, Abandon, Alarm, Quiet, Search, Elect, Window, Probe, CloseAlarm}
use Rattle.tsp_rules.specs.Values.{ResolveAlarm, Round, PeerId, Role, Starting, Loose, Follow, Candidate, Master, WINDOW, QUIET, SLACK, ELECT_MIN, ELECT_SPREAD}
use Rattle.tsp_rules.specs.{Guards.is_master}
use Rattle.tsp_base.specs.Words.{Acts, Begins, Deadlines, Deed, Did, Line, Seen, Here, Elsewhere, armed, armed_after, deadline, held, held_after, is_past}
use Rattle.tsp_base.specs.Words.{none_armed, of, plain, role, role_after, stood, taken, taken_after, tick_of, view, word}
use Rattle.tsp_promises.specs.{Fits.Fits, Fits.node_of, Setting.Setting}
use Rattle.tsp_promises.proofs.{shared.EverywhereLemmas.Everywhere_at, shared.EverywhereLemmas.Everywhere_from, shared.EverywhereLemmas.Everywhere_within}
use Rattle.tsp_promises.proofs.{promised.OwnFitsProof.own_fits}
use Rattle.tsp_progress.specs.AlarmsFit.{AlarmFits, AlarmsFit, ArmFits, LateFits, Manner, NextFits, NextTo, RingFits, newest_is, stands_by, stands_now}
use Rattle.tsp_progress.specs.CausesFit.{CausesFit, Heard, Unheard, backs_by, backs_itself_now, elects_by, loosens_by, searches_by, seeks_by, starts_by}
use Rattle.tsp_progress.specs.CausesFit.{stirred, stirs_in, wins_by}
use Rattle.tsp_progress.specs.FreshLeads.{FreshLeads, FreshLeadsAt, first_lead, untouched, untouched_after}
use Rattle.tsp_progress.specs.{Stands.AfterElect, Stands.StandsOn, Wakes.Wakes, Wakes.Woken, Wakes.WokenAt, Watched.Attended, Watched.AttendedAt}
use Rattle.tsp_progress.specs.{Watched.Watched}
use Rattle.tsp_progress.proofs.AloneProof.{Paced, PacedAt, moves_by, soon_before, waits_by}
use Rattle.tsp_progress.proofs.InTimeProof.{none_some, value_of}
use Rattle.tsp_progress.proofs.PaceProof.{paced}
use Rattle.tsp_progress.proofs.StandsProof.{rising, stands_on}

-- roles of a port that stood for election
abbrev is_leading : Role → Bool
is_leading Candidate = true
is_leading Master = true
is_leading _ = false

-- deeds that end a candidature
abbrev ends_by : Deed → Bool
ends_by (Acts (Ring Window)) = true
ends_by (Acts (Late Window)) = true
ends_by _ = false

-- by when, after the boot, Search and Elect ring
abbrev boot_search : ℕ → ℕ
boot_search late = QUIET + late + WINDOW

abbrev boot_elect : ℕ → ℕ
boot_elect late = boot_search late + late + (ELECT_MIN + ELECT_SPREAD)

-- a port that hasn't stood since the boot
record Before (late b x : ℕ) (rl : Role) (d : Deadlines) (moved waited elected ended stood : Bool) : Type 0 where
  pub quiet : (at : ℕ) → d.quiet ≡ Some at → at ≤ b + QUIET
  pub search : (at : ℕ) → d.search ≡ Some at → at ≤ b + boot_search late
  pub elect : (at : ℕ) → d.elect ≡ Some at → at ≤ b + boot_elect late
  pub window : d.window ≡ None
  pub leads : is_leading rl ≡ false
  pub moves : moved ≡ true → x ≤ b + (QUIET + late)
  pub waits : waited ≡ true → x ≤ b + (boot_search late + late)
  pub elects : elected ≡ true → x ≤ b + (boot_elect late + late)
  pub ended_not : ended ≡ false
  pub stood_not : stood ≡ false

-- a port that has
record Behind (late b x : ℕ) (rl : Role) (d : Deadlines) (started elected sought searched loosened won stood : Bool) : Type 0 where
  pub quiet : d.quiet ≡ None
  pub search : d.search ≡ None
  pub elect : d.elect ≡ None
  pub window : (at : ℕ) → d.window ≡ Some at → at ≤ b + (boot_elect late + late + WINDOW)
  pub leads : is_leading rl ≡ true
  pub started_not : started ≡ false
  pub elected_not : elected ≡ false
  pub sought_not : sought ≡ false
  pub searched_not : searched ≡ false
  pub wins : loosened ≡ true → won ≡ true
  pub stands : stood ≡ true → x ≤ b + (boot_elect late + late)

-- a port that took nothing that stirs since the boot
record FreshIn (late b x : ℕ) (quit : Option ℕ) (took : Bool) (rl : Role) (d : Deadlines) (moved waited ended started elected sought searched loosened won stood
    : Bool) : Type 0 where
  pub heard : took ≡ false
  pub quit_is : quit ≡ None
  pub phase : Before late b x rl d moved waited elected ended stood ⊎ Behind late b x rl d started elected sought searched loosened won stood

abbrev Fresh : ℕ → List Seen → Type 0
Fresh late seen = FreshIn late (held seen).boot (tick_of (plain seen)) (held seen).quit (stirred (taken seen)) (role seen) (armed seen)
    (newest_is moves_by seen) (newest_is waits_by seen) (newest_is ends_by seen) (newest_is starts_by seen) (newest_is elects_by seen) (newest_is seeks_by seen)
    (newest_is searches_by seen) (newest_is loosens_by seen) (newest_is wins_by seen) (stands_now seen || backs_itself_now seen)

wrong : {A : Type 0} → false ≡ true → A
wrong e = absurd (true≢false (sym e))

clash : {A : Type 0} {b : Bool} → b ≡ false → b ≡ true → A
clash n e = absurd (true≢false (sym e ∙ n))

none : {A : Type 0} {at : ℕ} → None ≡ Some at → A
none e = none_some refl e

-- which of a few deeds was the newest
one_of : (test : Deed → Bool) (p q : Deed → Bool) (seen : List Seen) → ((deed : Deed) → test deed ≡ true → (p deed ≡ true) ⊎ (q deed ≡ true)) →
    newest_is test seen ≡ true → (newest_is p seen ≡ true) ⊎ (newest_is q seen ≡ true)
one_of test p q [] k e = wrong e
one_of test p q (Here d ∷ older) k e = k d.deed e
one_of test p q (Elsewhere d ∷ older) k e = wrong e

module _ (late : ℕ) (slack : late ≤ SLACK) (m : Manner) (may : m.may ≡ true) (strict : m.strict ≡ false) (d : Did) (before : List Seen) (level : d.tick ≡
    tick_of (plain before)) (pace : Paced late before) (inv : Fresh late before) where
  -- after an act that leaves holds and what was taken alone
  abbrev After : Deed → Type 0
  After deed = FreshIn late (held before).boot d.tick (held before).quit (stirred (taken before)) (role_after deed (role before))
      (armed_after deed (armed before)) (moves_by deed) (waits_by deed) (ends_by deed) (starts_by deed)
      (elects_by deed) (seeks_by deed) (searches_by deed) (loosens_by deed) (wins_by deed)
      (stands_by deed || (if backs_by deed then stands_now before else false))

  rung : (a : Alarm) (at : ℕ) → deadline (armed before) a ≡ Some at → d.tick ≤ at + late
  rung a at e = let le = soon_before late before pace a at e in omega (arith, le, level)

  never : {A : Type 0} (a : Alarm) → LateFits a d before → A
  never a f = let le = rung a f.at f.armed_is in let over = f.late in let no : ⊥ = omega (arith, le, over, slack) in absurd no

  -- nothing that stirs was taken in this step
  unheard : {A : Type 0} {B : Type 0} → Heard before ⊎ B → (B → A) → A
  unheard (inl heard) k = clash inv.heard heard
  unheard (inr c) k = k c

  in_phase : (rl : Role) (dl : Deadlines) (moved waited ended started elected sought searched loosened won stood : Bool) →
      (Before late (held before).boot d.tick rl dl moved waited elected ended stood ⊎
      Behind late (held before).boot d.tick rl dl started elected sought searched loosened won stood) →
      FreshIn late (held before).boot d.tick (held before).quit (stirred (taken before)) rl dl moved waited ended started elected sought searched loosened won
      stood
  in_phase rl dl moved waited ended started elected sought searched loosened won stood p = record { heard = inv.heard; quit_is = inv.quit_is; phase = p }

  -- Elect that rang is followed by a candidature
  elect_stands : (deed : Deed) → AfterElect m before deed → newest_is elects_by before ≡ true → deed ≡ Acts (Become Candidate)
  elect_stands deed after e = stands-by before deed after e (ap (λ o. is_past o ELECT_MIN (tick_of (plain before))) inv.quit_is) where
    ring-is : (deed : Deed) → elects_by deed ≡ true → deed ≡ Acts (Ring Elect)
    ring-is (Acts (Ring Elect)) e = refl
    ring-is _ e = wrong e

    stands-by : (before : List Seen) (deed : Deed) → AfterElect m before deed → newest_is elects_by before ≡ true →
        is_past (held before).quit ELECT_MIN (tick_of (plain before)) ≡ true → deed ≡ Acts (Become Candidate)
    stands-by [] deed after e past = wrong e
    stands-by (Elsewhere k ∷ older) deed after e past = wrong e
    stands-by (Here k ∷ older) deed after e past = let is = ring-is k.deed e in after is may (subst (λ h. is_past h.quit ELECT_MIN k.tick ≡
        true) (ap (λ deed. held_after deed k.tick (held older)) is) past)

  -- a won election is followed by the lead
  won_next : (seen : List Seen) → newest_is wins_by seen ≡ true → NextTo m seen (Acts (Become Loose)) → ⊥
  won_next [] e n = true≢false (sym e)
  won_next (Elsewhere k ∷ older) e n = true≢false (sym e)
  won_next (Here k ∷ older) e n = by_deed k.deed e n where
    by_deed : (last : Deed) → wins_by last ≡ true → NextFits m last k.tick older (Acts (Become Loose)) → ⊥
    by_deed (Acts (Ring Window)) e n = let is = n.wins strict in let bad : ⊥ = cc in bad
    by_deed _ e n = true≢false (sym e)

  -- alarms that an act leaves alone or turns off
  record Kept (dl : Deadlines) : Type 0 where
    pub quiet : (at : ℕ) → dl.quiet ≡ Some at → (armed before).quiet ≡ Some at
    pub search : (at : ℕ) → dl.search ≡ Some at → (armed before).search ≡ Some at
    pub elect : (at : ℕ) → dl.elect ≡ Some at → (armed before).elect ≡ Some at
    pub window : (at : ℕ) → dl.window ≡ Some at → (armed before).window ≡ Some at

  gone : (o : Option ℕ) → ((at : ℕ) → o ≡ Some at → ⊥) → o ≡ None
  gone None k = refl
  gone (Some at) k = absurd (k at refl)

  off : (o p : Option ℕ) → p ≡ None → ((at : ℕ) → o ≡ Some at → p ≡ Some at) → o ≡ None
  off o p e k = gone o (λ at is. none_some e (k at is))

  -- before it stood
  before_act : (dl : Deadlines) → Kept dl → Before late (held before).boot (tick_of (plain before)) (role before) (armed before) (newest_is moves_by before)
      (newest_is waits_by before) (newest_is elects_by before) (newest_is ends_by before) (stands_now before || backs_itself_now before) →
      (moved waited elected stood : Bool) → (moved ≡ true → d.tick ≤ (held before).boot + (QUIET + late)) →
      (waited ≡ true → d.tick ≤ (held before).boot + (boot_search late + late)) →
      (elected ≡ true → d.tick ≤ (held before).boot + (boot_elect late + late)) → stood ≡ false →
      Before late (held before).boot d.tick (role before) dl moved waited elected false stood
  before_act dl k p moved waited elected stood mv wt el st = record {
    quiet = λ at e. p.quiet at (k.quiet at e);
    search = λ at e. p.search at (k.search at e);
    elect = λ at e. p.elect at (k.elect at e);
    window = off dl.window (armed before).window p.window k.window;
    leads = p.leads;
    moves = mv;
    waits = wt;
    elects = el;
    ended_not = refl;
    stood_not = st;
  }

  -- and behind
  behind_act : (dl : Deadlines) → Kept dl → Behind late (held before).boot (tick_of (plain before)) (role before) (armed before) (newest_is starts_by before)
      (newest_is elects_by before) (newest_is seeks_by before) (newest_is searches_by before) (newest_is loosens_by before) (newest_is wins_by before)
      (stands_now before || backs_itself_now before) →
      (loosened won stood : Bool) → (loosened ≡ true → won ≡ true) → (stood ≡ true → d.tick ≤ (held before).boot + (boot_elect late + late)) →
      Behind late (held before).boot d.tick (role before) dl false false false false loosened won stood
  behind_act dl k p loosened won stood wn st = record {
    quiet = off dl.quiet (armed before).quiet p.quiet k.quiet;
    search = off dl.search (armed before).search p.search k.search;
    elect = off dl.elect (armed before).elect p.elect k.elect;
    window = λ at e. p.window at (k.window at e);
    leads = p.leads;
    started_not = refl;
    elected_not = refl;
    sought_not = refl;
    searched_not = refl;
    wins = wn;
    stands = st;
  }

  -- an act that arms nothing
  goes_on : (dl : Deadlines) → Kept dl → FreshIn late (held before).boot d.tick (held before).quit (stirred (taken before)) (role before) dl false false false
      false false false false false false false
  goes_on dl k = in_phase (role before) dl false false false false false false false false false false (elim inv.phase [
    | inl p ↦ inl (before_act dl k p false false false false wrong wrong wrong refl)
    | inr p ↦ inr (behind_act dl k p false false false wrong wrong)
  ])

  as_it_was : Kept (armed before)
  as_it_was = record { quiet = λ at e. e; search = λ at e. e; elect = λ at e. e; window = λ at e. e }

  -- a change of the role that isn't yet behind a candidature
  unarmed : (rl : Role) → is_leading rl ≡ false → (moved : Bool) → (moved ≡ true → d.tick ≤ (held before).boot + (QUIET + late)) →
      Before late (held before).boot d.tick rl none_armed moved false false false false
  unarmed rl l moved mv = record {
    quiet = λ at e. none e;
    search = λ at e. none e;
    elect = λ at e. none e;
    window = refl;
    leads = l;
    moves = mv;
    waits = wrong;
    elects = wrong;
    ended_not = refl;
    stood_not = refl;
  }

  leading : (rl : Role) → is_leading rl ≡ true → (stood : Bool) → (stood ≡ true → d.tick ≤ (held before).boot + (boot_elect late + late)) →
      Behind late (held before).boot d.tick rl none_armed false false false false false false stood
  leading rl l stood st = record {
    quiet = refl;
    search = refl;
    elect = refl;
    window = λ at e. none e;
    leads = l;
    started_not = refl;
    elected_not = refl;
    sought_not = refl;
    searched_not = refl;
    wins = wrong;
    stands = st;
  }

  becomes : (r : Role) → AfterElect m before (Acts (Become r)) → NextTo m before (Acts (Become r)) → (Heard before ⊎ Unheard (Acts (Become r)) d before) →
      After (Acts (Become r))
  becomes Candidate a n c = unheard c (λ by. in_phase Candidate none_armed false false false false false false false false false true (elim inv.phase [
    | inl p ↦ inr (leading Candidate refl true (λ e. let le = p.elects by in omega (arith, le, level)))
    | inr p ↦ clash p.elected_not by
  ]))
  becomes Master a n c = unheard c (λ by. in_phase Master none_armed false false false false false false false false false false (elim inv.phase [
    | inl p ↦ clash p.ended_not (wins-end before by)
    | inr p ↦ inr (leading Master refl false wrong)
  ])) where
    wins-end : (seen : List Seen) → newest_is wins_by seen ≡ true → newest_is ends_by seen ≡ true
    wins-end [] e = wrong e
    wins-end (Elsewhere k ∷ older) e = wrong e
    wins-end (Here k ∷ older) e = by_deed k.deed e where
      by_deed : (last : Deed) → wins_by last ≡ true → ends_by last ≡ true
      by_deed (Acts (Ring Window)) e = refl
      by_deed _ e = wrong e
  becomes Loose a n c = unheard c (λ by. in_phase Loose none_armed true false false false false true true false false false (elim inv.phase [
    | inl p ↦ inl (unarmed Loose refl true (λ e. elim (one_of loosens_by or-moves elects_by before which by) [
      | inl moved ↦ elim (one_of or-moves moves_by ends_by before split moved) [
        | inl k ↦ let le = p.moves k in omega (arith, le, level)
        | inr k ↦ clash p.ended_not k
      ]
      | inr rang ↦ let is = elect_stands (Acts (Become Loose)) a rang in let bad : ⊥ = cc in absurd bad
    ]))
    | inr p ↦ absurd (won_next before (p.wins by) n)
  ])) where
    or-moves : Deed → Bool
    or-moves deed = moves_by deed || ends_by deed

    which : (deed : Deed) → loosens_by deed ≡ true → (or-moves deed ≡ true) ⊎ (elects_by deed ≡ true)
    which (Acts (Ring Quiet)) e = inl refl
    which (Acts (Ring Window)) e = inl refl
    which (Acts (Late Window)) e = inl refl
    which (Acts (Ring Elect)) e = inr refl
    which _ e = wrong e

    split : (deed : Deed) → or-moves deed ≡ true → (moves_by deed ≡ true) ⊎ (ends_by deed ≡ true)
    split deed e = or_cases (moves_by deed) (ends_by deed) e
  becomes (Follow p) a n c = unheard c (λ by. absurd by)
  becomes Starting a n c = unheard c (λ by. in_phase Starting none_armed false false false true false false false false false false (elim inv.phase [
    | inl p ↦ inl (unarmed Starting refl false wrong)
    | inr p ↦ clash (ap is_leading by) p.leads
  ]))

  -- arming
  arms : (a : Alarm) (at : ℕ) → AfterElect m before (Acts (Arm a at)) → ArmFits a d before at → (Heard before ⊎ Unheard (Acts (Arm a at)) d before) →
      After (Acts (Arm a at))
  arms Quiet at a f c = unheard c (λ by. in_phase (role before) _ false false false false false false false false false false (elim inv.phase [
    | inl p ↦ let boot = by.0 in inl (record {
      quiet = λ to e. let same : at ≡ to = value_of e in omega (arith, same, f, boot);
      search = p.search;
      elect = p.elect;
      window = p.window;
      leads = p.leads;
      moves = wrong;
      waits = wrong;
      elects = wrong;
      ended_not = refl;
      stood_not = refl;
    })
    | inr p ↦ clash p.started_not by.1
  ]))
  arms Search at a f c = unheard c (λ by. in_phase (role before) _ false false false false false false false false false false (elim inv.phase [
    | inl p ↦ inl (record {
      quiet = p.quiet;
      search = λ to e. let same : at ≡ to = value_of e in elim (one_of searches_by moves_by elects_by before which by) [
        | inl moved ↦ let le = p.moves moved in omega (arith, same, f, le, level)
        | inr rang ↦ let is = elect_stands (Acts (Arm Search at)) a rang in let bad : ⊥ = cc in absurd bad
      ];
      elect = p.elect;
      window = p.window;
      leads = p.leads;
      moves = wrong;
      waits = wrong;
      elects = wrong;
      ended_not = refl;
      stood_not = refl;
    })
    | inr p ↦ clash p.searched_not by
  ])) where
    which : (deed : Deed) → searches_by deed ≡ true → (moves_by deed ≡ true) ⊎ (elects_by deed ≡ true)
    which (Acts (Become Loose)) e = inl refl
    which (Acts (Ring Elect)) e = inr refl
    which _ e = wrong e
  arms Elect at a f c = unheard c (λ by. in_phase (role before) _ false false false false false false false false false false (elim inv.phase [
    | inl p ↦ inl (record {
      quiet = p.quiet;
      search = p.search;
      elect = λ to e. let same : at ≡ to = value_of e in elim (one_of seeks_by moves_by waits_by before which by) [
        | inl moved ↦ let le = p.moves moved in omega (arith, same, f, le, level, less)
        | inr waited ↦ let le = p.waits waited in omega (arith, same, f, le, level, less)
      ];
      window = p.window;
      leads = p.leads;
      moves = wrong;
      waits = wrong;
      elects = wrong;
      ended_not = refl;
      stood_not = refl;
    })
    | inr p ↦ clash p.sought_not by
  ])) where
    less : word (plain before) % ELECT_SPREAD < ELECT_SPREAD
    less = mod-lt (word (plain before)) {m = ELECT_SPREAD} (omega arith)

    which : (deed : Deed) → seeks_by deed ≡ true → (moves_by deed ≡ true) ⊎ (waits_by deed ≡ true)
    which (Acts (Become Loose)) e = inl refl
    which (Acts (Ring Search)) e = inr refl
    which (Acts (Late Search)) e = inr refl
    which (Acts (Late Elect)) e = inr refl
    which _ e = wrong e
  arms Window at a f c = unheard c (λ by. in_phase (role before) _ false false false false false false false false false false (elim inv.phase [
    | inl p ↦ clash p.stood_not (or_right (stands_now before) (backs_itself_now before) by)
    | inr p ↦ let le = p.stands (or_right (stands_now before) (backs_itself_now before) by) in inr (record {
      quiet = p.quiet;
      search = p.search;
      elect = p.elect;
      window = λ to e. let same : at ≡ to = value_of e in omega (arith, same, f, le, level);
      leads = p.leads;
      started_not = refl;
      elected_not = refl;
      sought_not = refl;
      searched_not = refl;
      wins = wrong;
      stands = wrong;
    })
  ]))
  arms Probe at a f c = goes_on _ (record { quiet = λ to e. e; search = λ to e. e; elect = λ to e. e; window = λ to e. e })
  arms CloseAlarm at a f c = goes_on _ (record { quiet = λ to e. e; search = λ to e. e; elect = λ to e. e; window = λ to e. e })
  arms ResolveAlarm at a f c = goes_on _ (record { quiet = λ to e. e; search = λ to e. e; elect = λ to e. e; window = λ to e. e })
  arms Round at a f c = goes_on _ (record { quiet = λ to e. e; search = λ to e. e; elect = λ to e. e; window = λ to e. e })

  -- ringing
  rings : (a : Alarm) → RingFits a d before → After (Acts (Ring a))
  rings Quiet f = in_phase (role before) _ true false false false false false false true false false (elim inv.phase [
    | inl p ↦ let due = rung Quiet f.at f.armed_is in let le = p.quiet f.at f.armed_is in
        inl (before_act _ (record { quiet = λ at e. none e; search = λ at e. e; elect = λ at e. e; window = λ at e. e }) p true false false false
        (λ e. omega (arith, due, le)) wrong wrong refl)
    | inr p ↦ none_some p.quiet f.armed_is
  ])
  rings Search f = in_phase (role before) _ false true false false false true false false false false (elim inv.phase [
    | inl p ↦ let due = rung Search f.at f.armed_is in let le = p.search f.at f.armed_is in
        inl (before_act _ (record { quiet = λ at e. e; search = λ at e. none e; elect = λ at e. e; window = λ at e. e }) p false true false false wrong
        (λ e. omega (arith, due, le)) wrong refl)
    | inr p ↦ none_some p.search f.armed_is
  ])
  rings Elect f = in_phase (role before) _ false false false false true false true true false false (elim inv.phase [
    | inl p ↦ let due = rung Elect f.at f.armed_is in let le = p.elect f.at f.armed_is in
        inl (before_act _ (record { quiet = λ at e. e; search = λ at e. e; elect = λ at e. none e; window = λ at e. e }) p false false true false wrong wrong
        (λ e. omega (arith, due, le)) refl)
    | inr p ↦ none_some p.elect f.armed_is
  ])
  rings Window f = in_phase (role before) _ true false true false false false false true true false (elim inv.phase [
    | inl p ↦ none_some p.window f.armed_is
    | inr p ↦ inr (behind_act _ (record { quiet = λ at e. e; search = λ at e. e; elect = λ at e. e; window = λ at e. none e }) p true true false (λ e. refl)
        wrong)
  ])
  rings Probe f = goes_on _ (record { quiet = λ to e. e; search = λ to e. e; elect = λ to e. e; window = λ to e. e })
  rings CloseAlarm f = goes_on _ (record { quiet = λ to e. e; search = λ to e. e; elect = λ to e. e; window = λ to e. e })
  rings ResolveAlarm f = goes_on _ (record { quiet = λ to e. e; search = λ to e. e; elect = λ to e. e; window = λ to e. e })
  rings Round f = goes_on _ (record { quiet = λ to e. e; search = λ to e. e; elect = λ to e. e; window = λ to e. e })

  backs : (p : PeerId) → FreshIn late (held before).boot d.tick (held before).quit (stirred (taken before)) (role before) (armed before) false false false false
      false false false false false (stands_now before)
  backs p = in_phase (role before) (armed before) false false false false false false false false false (stands_now before) (elim inv.phase [
    | inl k ↦ inl (before_act (armed before) as_it_was k false false false (stands_now before) wrong wrong wrong
        (or_parts (stands_now before) (backs_itself_now before) k.stood_not).0)
    | inr k ↦ inr (behind_act (armed before) as_it_was k false false (stands_now before) wrong (λ e. let le = k.stands (rw e refl) in omega (arith, le, level)))
  ])

-- what is so after a deed
abbrev FreshAfter : ℕ → Did → List Seen → Deed → Type 0
FreshAfter late d before deed = FreshIn late (held_after deed d.tick (held before)).boot d.tick (held_after deed d.tick (held before)).quit
    (stirred (taken_after deed (taken before))) (role_after deed (role before)) (armed_after deed (armed before))
    (moves_by deed) (waits_by deed) (ends_by deed) (starts_by deed) (elects_by deed) (seeks_by deed) (searches_by deed) (loosens_by deed) (wins_by deed)
    (stands_by deed || (if backs_by deed then stands_now before else false))

-- a boot
booted : (late : ℕ) (d : Did) (before : List Seen) → not (stirred (taken before)) ≡ true → FreshAfter late d before (Acts Boot)
booted late d before e = record {
  heard = not-true (stirred (taken before)) e;
  quit_is = refl;
  phase = inl (record {
    quiet = λ at is. none is;
    search = λ at is. none is;
    elect = λ at is. none is;
    window = refl;
    leads = refl;
    moves = wrong;
    waits = wrong;
    elects = wrong;
    ended_not = refl;
    stood_not = refl;
  });
}

-- where nothing is done
still : {late b x y : ℕ} {quit : Option ℕ} {took tk : Bool} {rl : Role} {dl : Deadlines} {mo wa en st el so se lo wi sd : Bool} → tk ≡ false →
    FreshIn late b x quit took rl dl mo wa en st el so se lo wi sd → FreshIn late b y quit tk rl dl false false false false false false false false false false
still e f = record {
  heard = e;
  quit_is = f.quit_is;
  phase = elim f.phase [
    | inl p ↦ inl (record {
      quiet = p.quiet;
      search = p.search;
      elect = p.elect;
      window = p.window;
      leads = p.leads;
      moves = wrong;
      waits = wrong;
      elects = wrong;
      ended_not = refl;
      stood_not = refl;
    })
    | inr p ↦ inr (record {
      quiet = p.quiet;
      search = p.search;
      elect = p.elect;
      window = p.window;
      leads = p.leads;
      started_not = refl;
      elected_not = refl;
      sought_not = refl;
      searched_not = refl;
      wins = wrong;
      stands = wrong;
    })
  ];
}

module _ (late : ℕ) (slack : late ≤ SLACK) (m : Manner) (may : m.may ≡ true) (strict : m.strict ≡ false) where
  one-more : (d : Did) (before : List Seen) → PacedAt late (Here d) before → Paced late before → AfterElect m before d.deed → NextTo m before d.deed →
      AlarmFits d.deed d before → (Heard before ⊎ Unheard d.deed d before) → untouched (Here d ∷ before) ≡ true →
      (untouched before ≡ true → Fresh late before) → Fresh late (Here d ∷ before)
  one-more d before p pace after next fits cause free older = by_deed d.deed refl after next fits cause free where
    tried : (b : Bool) → (if b then false else untouched before) ≡ true → (b ≡ false) × (untouched before ≡ true)
    tried true e = wrong e
    tried false e = (refl, e)

    by_act : (a : Act) → d.deed ≡ Acts a → AfterElect m before (Acts a) → NextTo m before (Acts a) → AlarmFits (Acts a) d before →
        (Heard before ⊎ Unheard (Acts a) d before) → untouched_after (Acts a) (taken before) (untouched before) ≡ true → FreshAfter late d before (Acts a)
    by_act Boot is a n f c e = booted late d before e
    by_act (Took from t) is a n f c e = let both = tried (stirs_in t) e in still both.0 (older both.1)
    by_act (Become r) is a n f c e = becomes late slack m may strict d before (p.level _ is) pace (older e) r a n c
    by_act (Arm al at) is a n f c e = arms late slack m may strict d before (p.level _ is) pace (older e) al at a f c
    by_act (Ring al) is a n f c e = rings late slack m may strict d before (p.level _ is) pace (older e) al f
    by_act (Late al) is a n f c e = never late slack m may strict d before (p.level _ is) pace (older e) al f
    by_act (Back q) is a n f c e = backs late slack m may strict d before (p.level _ is) pace (older e) q
    by_act (Quit q) is a n f c e = unheard late slack m may strict d before (p.level _ is) pace (older e) c (λ by. absurd by)
    by_act Abandon is a n f c e = goes_on late slack m may strict d before (p.level _ is) pace (older e) _ (record {
      quiet = λ to k. k;
      search = λ to k. k;
      elect = λ to k. k;
      window = λ to k. k;
    })
    by_act _ is a n f c e = goes_on late slack m may strict d before (p.level _ is) pace (older e) _ (record {
      quiet = λ to k. k;
      search = λ to k. k;
      elect = λ to k. k;
      window = λ to k. k;
    })

    by_deed : (deed : Deed) → d.deed ≡ deed → AfterElect m before deed → NextTo m before deed → AlarmFits deed d before →
        (Heard before ⊎ Unheard deed d before) → untouched_after deed (taken before) (untouched before) ≡ true → FreshAfter late d before deed
    by_deed Begins is a n f c e = still refl (older e)
    by_deed (Acts act) is a n f c e = by_act act is a n f c e

  fresh : (seen : List Seen) → AlarmsFit m seen → CausesFit seen → StandsOn m seen → Paced late seen → untouched seen ≡ true → Fresh late seen
  fresh [] f c s p e = wrong e
  fresh (Here d ∷ before) f c s p e = one-more d before p.0 p.1 s.0 f.1.0 f.0 c.0 e (λ u. fresh before f.1.1 c.1 s.1 p.1 u)
  fresh (Elsewhere d ∷ before) f c s p e = let k = fresh before f.1 c s p.1 e in still k.heard k

  -- so a port that is no master booted lately
  pub leads_first : (seen : List Seen) (x : ℕ) → Wakes m seen → StandsOn m seen → Paced late seen → Watched late x seen → (start : Did) (idle : List Seen) →
      stood seen ≡ Here start ∷ idle → is_master (role seen) ≡ false → untouched seen ≡ true → x ≤ (held seen).boot + first_lead late
  leads_first seen x w s p watched start idle stood-is other free = by_role (role seen) refl other where
    k : Fresh late seen
    k = fresh seen w.acts w.causes s p free

    search-soon : (o : Option ℕ) → (armed seen).search ≡ o → is_some o ≡ true → x ≤ (held seen).boot + first_lead late
    search-soon None e some = wrong some
    search-soon (Some at) e some = let due = watched.alarms Search at e in elim k.phase [
      | inl q ↦ let le = q.search at e in omega (arith, due, le)
      | inr q ↦ none_some q.search e
    ]

    elect-soon : (o : Option ℕ) → (armed seen).elect ≡ o → is_some o ≡ true → x ≤ (held seen).boot + first_lead late
    elect-soon None e some = wrong some
    elect-soon (Some at) e some = let due = watched.alarms Elect at e in elim k.phase [
      | inl q ↦ let le = q.elect at e in omega (arith, due, le)
      | inr q ↦ none_some q.elect e
    ]

    loosely : (b : Bool) → is_some (armed seen).search ≡ b → (b || is_some (armed seen).elect) ≡ true → x ≤ (held seen).boot + first_lead late
    loosely true e some = search-soon (armed seen).search refl e
    loosely false e some = elect-soon (armed seen).elect refl some

    by_role : (r : Role) → role seen ≡ r → is_master r ≡ false → x ≤ (held seen).boot + first_lead late
    by_role Starting r n = let due = watched.alarms Quiet _ (w.starting r start idle stood-is) in omega (arith, due)
    by_role Loose r n = loosely (is_some (armed seen).search) refl (w.loose r)
    by_role (Follow q) r n = elect-soon (armed seen).elect refl (w.follow q r)
    by_role Candidate r n = let c = w.candidate r in let due = watched.alarms Window _ c.window_is in elim k.phase [
      | inl q ↦ clash q.leads (ap is_leading r)
      | inr q ↦ let le = q.window _ c.window_is in omega (arith, due, le)
    ]
    by_role Master r n = absurd (true≢false n)

pub fresh_leads : (m : ℕ → Manner) (setting : Setting) (late : ℕ) (world : List Line) → Fits setting world → Woken m world → Attended late world →
    late ≤ SLACK → FreshLeads m late world
fresh_leads m setting late world f w a slack = Everywhere_from (FreshLeadsAt m late) world (λ l before within begins may strict q start idle stood-is other
    free.
    let n = node_of l in
    let whole = Everywhere_within _ (l ∷ before) world f within in
    let attended = Everywhere_within _ (l ∷ before) world a within in
    let wakes = Everywhere_at (WokenAt m) l before world w within begins q in
    let seen = view q (of n before) in
    leads_first late slack (m n) may strict seen l.did.tick wakes
    (stands_on (m n) seen wakes.acts (rising setting q (of n before) (own_fits setting n before whole.1)))
    (paced setting late before whole.1 attended.1 (m n) n q wakes.acts)
    (Everywhere_at (AttendedAt late) l before world a within begins q) start idle stood-is other free)
