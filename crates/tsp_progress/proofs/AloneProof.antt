-- A port that hears nothing stands for election soon.
use Rattle.std.proofs.Common.{sym, ap, subst, arith, true≢false, ◌∙◌, ◌≡◌, ◌≤◌, ◌≢◌, ◌⊎◌, inl, inr, ℕ, ◌+◌, ◌||◌, le-leb, ◌%◌, ◌<◌, Bool, true, false}
use Rattle.std.proofs.Common.{if◌then◌else◌, List, [], ◌∷◌, Option, None, Some, is_some, refl}
use Rattle.std.proofs.{Math.Nat.mod-lt, lemmas.Bool.or_right}
use Rattle.tsp_rules.specs.Values.{Act, Boot, Took, Become, Arm, Ring, Late, Back, Quit, Abandon, Alarm, Quiet, Search, Elect, Window, Probe}
use Rattle.tsp_rules.specs.Values.{CloseAlarm, ResolveAlarm, Round, PeerId, Role, Starting, Loose, Follow, Candidate, Master, ELECT_MIN, ELECT_SPREAD, WINDOW}
use Rattle.tsp_rules.specs.Values.{QUIET, SLACK}
use Rattle.tsp_rules.specs.{CommonRows.is_idle, Guards.delay}
use Rattle.tsp_base.specs.Words.{Acts, Begins, Deadlines, none_armed, Deed, Did, Held, Seen, Here, Elsewhere, armed, armed_after, deadline, did_of, held}
use Rattle.tsp_base.specs.Words.{held_after, is_past, plain, role, taken, taken_after, tick_of, word}
use Rattle.tsp_progress.specs.AlarmsFit.{AlarmFits, AlarmsFit, ArmFits, LateFits, Manner, RingFits, stands_by, stands_now}
use Rattle.tsp_progress.specs.AloneStands.{is_news, news, patience}
use Rattle.tsp_progress.specs.CausesFit.{starts_by, CausesFit, Heard, Unheard, backs_by, backs_itself_now, elects_by, loosens_by, newest_is, searches_by}
use Rattle.tsp_progress.specs.CausesFit.{seeks_by}
use Rattle.tsp_progress.specs.CausesFit.{stirred, stirs_in}
use Rattle.tsp_progress.specs.{Stands.AfterElect, Stands.StandsOn, Wakes.Wakes, Watched.Watched}
use Rattle.tsp_progress.proofs.InTimeProof.{none_some, value_of}

-- an entry at its pace: an act at the tick of the entry before it, and no alarm overdue by more than `late` ticks
pub record PacedAt (late : ℕ) (s : Seen) (before : List Seen) : Type 0 where
  pub order : tick_of (plain before) ≤ (did_of s).tick
  pub level : (act : Act) → (did_of s).deed ≡ Acts act → (did_of s).tick ≡ tick_of (plain before)
  pub aside : (d : Did) → s ≡ Elsewhere d → (did_of s).tick ≡ tick_of (plain before)
  pub soon : (a : Alarm) (at : ℕ) → deadline (armed (s ∷ before)) a ≡ Some at → (did_of s).tick ≤ at + late

-- each entry is
abbrev pub Paced : ℕ → List Seen → Type 0
Paced late [] = Unit {0}
Paced late (s ∷ before) = PacedAt late s before × Paced late before

-- deeds after which the port becomes Loose or searches
abbrev pub moves_by : Deed → Bool
moves_by (Acts (Ring Quiet)) = true
moves_by (Acts (Ring Window)) = true
moves_by (Acts (Late Window)) = true
moves_by (Acts (Become Loose)) = true
moves_by _ = false

-- deeds after which it arms Elect again
abbrev pub waits_by : Deed → Bool
waits_by (Acts (Ring Search)) = true
waits_by (Acts (Late Search)) = true
waits_by (Acts (Late Elect)) = true
waits_by _ = false

-- the longest delay
abbrev pub longest_delay : ℕ
longest_delay = ELECT_MIN + ELECT_SPREAD

-- by when, after the news, Elect rings for the first time, Search rings, and Elect rings again
abbrev pub first_elect : ℕ → ℕ
first_elect late = WINDOW + late + longest_delay

abbrev pub then_search : ℕ → ℕ
then_search late = first_elect late + late + WINDOW

abbrev pub then_elect : ℕ → ℕ
then_elect late = then_search late + late + longest_delay

-- what is armed, and what was done last, by the news
pub record Waits (late r x : ℕ) (h : Held) (d : Deadlines) (took moved waited elected stood : Bool) : Type 0 where
  pub news_le : r ≤ x
  pub heard : took ≡ true → r ≡ x
  pub boot_le : h.boot ≤ r
  pub quit_le : (q : ℕ) → h.quit ≡ Some q → q ≤ r
  pub quiet : (at : ℕ) → d.quiet ≡ Some at → at ≤ r + QUIET
  pub window : (at : ℕ) → d.window ≡ Some at → at ≤ r + WINDOW
  pub search : (at : ℕ) → d.search ≡ Some at → at ≤ r + then_search late
  pub ahead : (at : ℕ) → d.elect ≡ Some at → at ≤ x + longest_delay
  pub elect : (at : ℕ) → d.elect ≡ Some at → (at ≤ r + first_elect late) ⊎ ((at ≤ r + then_elect late) × ((q : ℕ) → h.quit ≡ Some q → q + ELECT_MIN ≤ at))
  pub moves : moved ≡ true → x ≤ r + (first_elect late + late)
  pub waits : waited ≡ true → x ≤ r + (then_search late + late)
  pub elects : elected ≡ true → (x ≤ r + (first_elect late + late)) ⊎ (is_past h.quit ELECT_MIN x ≡ true)
  pub rings : elected ≡ true → x ≤ r + (then_elect late + late)
  pub stands : stood ≡ true → r ≡ x

abbrev pub Waiting : ℕ → List Seen → Type 0
Waiting late seen = Waits late (news seen) (tick_of (plain seen)) (held seen) (armed seen) (stirred (taken seen)) (newest_is moves_by seen)
    (newest_is waits_by seen) (newest_is elects_by seen) (stands_now seen || backs_itself_now seen)

no_send : {A : Type 0} {at : ℕ} → None ≡ Some at → A
no_send e = none_some refl e

-- no alarm was overdue before
pub soon_before : (late : ℕ) (before : List Seen) → Paced late before → (a : Alarm) (at : ℕ) → deadline (armed before) a ≡ Some at →
    tick_of (plain before) ≤ at + late
soon_before late [] p a at e = omega arith
soon_before late (s ∷ older) p a at e = p.0.soon a at e

-- nothing that stirs was taken
unheard : {late r x : ℕ} {h : Held} {d : Deadlines} {took moved waited elected stood : Bool} → Waits late r x h d took moved waited elected stood →
    Waits late r x h d false moved waited elected stood
unheard w = record {
  news_le = w.news_le;
  heard = λ e. absurd (true≢false (sym e));
  boot_le = w.boot_le;
  quit_le = w.quit_le;
  quiet = w.quiet;
  window = w.window;
  search = w.search;
  ahead = w.ahead;
  elect = w.elect;
  moves = w.moves;
  waits = w.waits;
  elects = w.elects;
  rings = w.rings;
  stands = w.stands;
}

-- one deed more
module _ (late : ℕ) (slack : late ≤ SLACK) (m : Manner) (may : m.may ≡ true) (d : Did) (before : List Seen) (level : d.tick ≡
    tick_of (plain before)) (paced : Paced late before) (inv : Waiting late before) where
  -- after this deed
  abbrev After : Deed → Type 0
  After deed = Waits late (if is_news deed then d.tick else news before) d.tick (held_after deed d.tick (held before)) (armed_after deed (armed before))
      (stirred (taken_after deed (taken before))) (moves_by deed) (waits_by deed) (elects_by deed)
      (stands_now (Here (record d { deed = deed }) ∷ before) || backs_itself_now (Here (record d { deed = deed }) ∷ before))

  r_le : news before ≤ d.tick
  r_le = let le = inv.news_le in omega (arith, le, level)

  heard_now : (stirred (taken before) ≡ true) → news before ≡ d.tick
  heard_now e = inv.heard e ∙ sym level

  quit_le_holds : (q : ℕ) → (held before).quit ≡ Some q → q ≤ d.tick
  quit_le_holds q e = let le = inv.quit_le q e in let r = r_le in omega (arith, le, r)

  -- Elect as it was
  elect_kept : (at : ℕ) → (armed before).elect ≡ Some at → (at ≤ news before + first_elect late) ⊎
      ((at ≤ news before + then_elect late) × ((q : ℕ) → (held before).quit ≡ Some q → q + ELECT_MIN ≤ at))
  elect_kept at e = inv.elect at e

  ahead_kept : (at : ℕ) → (armed before).elect ≡ Some at → at ≤ d.tick + longest_delay
  ahead_kept at e = let le = inv.ahead at e in omega (arith, le, level)

  -- nothing of this sort was done last
  not_done : {A : Type 0} → false ≡ true → A
  not_done e = absurd (true≢false (sym e))

  -- an act that arms nothing and notes no QUIT
  record Kept (dl : Deadlines) : Type 0 where
    pub quiet : (at : ℕ) → dl.quiet ≡ Some at → (armed before).quiet ≡ Some at
    pub window : (at : ℕ) → dl.window ≡ Some at → (armed before).window ≡ Some at
    pub search : (at : ℕ) → dl.search ≡ Some at → (armed before).search ≡ Some at
    pub elect : (at : ℕ) → dl.elect ≡ Some at → (armed before).elect ≡ Some at

  kept : (dl : Deadlines) → Kept dl → (h : Held) → h.boot ≡ (held before).boot → h.quit ≡ (held before).quit → (moved waited elected stood : Bool) →
      (moved ≡ true → d.tick ≤ news before + (first_elect late + late)) → (waited ≡ true → d.tick ≤ news before + (then_search late + late)) →
      (elected ≡ true → (d.tick ≤ news before + (first_elect late + late)) ⊎ (is_past h.quit ELECT_MIN d.tick ≡ true)) →
      (elected ≡ true → d.tick ≤ news before + (then_elect late + late)) → (stood ≡ true → news before ≡ d.tick) →
      Waits late (news before) d.tick h dl (stirred (taken before)) moved waited elected stood
  kept dl k h boot quit moved waited elected stood mv wt el rg st = record {
    news_le = r_le;
    heard = heard_now;
    boot_le = (let le = inv.boot_le in omega (arith, le, boot));
    quit_le = λ q is. inv.quit_le q (sym quit ∙ is);
    quiet = λ at is. inv.quiet at (k.quiet at is);
    window = λ at is. inv.window at (k.window at is);
    search = λ at is. inv.search at (k.search at is);
    ahead = λ at is. ahead_kept at (k.elect at is);
    elect = λ at is. elim (inv.elect at (k.elect at is)) [
      | inl le ↦ inl le
      | inr both ↦ inr (both.0, λ q e. both.1 q (sym quit ∙ e))
    ];
    moves = mv;
    waits = wt;
    elects = el;
    rings = rg;
    stands = st;
  }

  -- the alarms as they were
  as_it_was : Kept (armed before)
  as_it_was = record { quiet = λ at e. e; window = λ at e. e; search = λ at e. e; elect = λ at e. e }

  plain_act : (dl : Deadlines) → Kept dl → (h : Held) → h.boot ≡ (held before).boot → h.quit ≡ (held before).quit →
      Waits late (news before) d.tick h dl (stirred (taken before)) false false false false
  plain_act dl k h boot quit = kept dl k h boot quit false false false false not_done not_done not_done not_done not_done

  -- a change of the role that is no news
  changed : (moved : Bool) → (moved ≡ true → d.tick ≤ news before + (first_elect late + late)) →
      Waits late (news before) d.tick (held before) none_armed (stirred (taken before)) moved false false false
  changed moved mv = record {
    news_le = r_le;
    heard = heard_now;
    boot_le = inv.boot_le;
    quit_le = inv.quit_le;
    quiet = λ at e. no_send e;
    window = λ at e. no_send e;
    search = λ at e. no_send e;
    ahead = λ at e. no_send e;
    elect = λ at e. no_send e;
    moves = mv;
    waits = λ f. absurd (true≢false (sym f));
    elects = λ f. absurd (true≢false (sym f));
    rings = λ f. absurd (true≢false (sym f));
    stands = λ f. absurd (true≢false (sym f));
  }

  -- an alarm that was armed wasn't long overdue
  rung : (a : Alarm) (at : ℕ) → deadline (armed before) a ≡ Some at → d.tick ≤ at + late
  rung a at e = let le = soon_before late before paced a at e in omega (arith, le, level)

  never : {A : Type 0} (a : Alarm) → LateFits a d before → A
  never a f = let le = rung a f.at f.armed_is in let over = f.late in let no : ⊥ = omega (arith, le, over, slack) in absurd no

  booted : After (Acts Boot)
  booted = record {
    news_le = omega arith;
    heard = λ e. refl;
    boot_le = omega arith;
    quit_le = λ q e. no_send e;
    quiet = λ at e. no_send e;
    window = λ at e. no_send e;
    search = λ at e. no_send e;
    ahead = λ at e. no_send e;
    elect = λ at e. no_send e;
    moves = λ f. absurd (true≢false (sym f));
    waits = λ f. absurd (true≢false (sym f));
    elects = λ f. absurd (true≢false (sym f));
    rings = λ f. absurd (true≢false (sym f));
    stands = λ f. refl;
  }

  stood : After (Acts (Become Candidate))
  stood = record {
    news_le = omega arith;
    heard = λ e. refl;
    boot_le = (let le = inv.boot_le in let r = r_le in omega (arith, le, r));
    quit_le = quit_le_holds;
    quiet = λ at e. no_send e;
    window = λ at e. no_send e;
    search = λ at e. no_send e;
    ahead = λ at e. no_send e;
    elect = λ at e. no_send e;
    moves = λ f. absurd (true≢false (sym f));
    waits = λ f. absurd (true≢false (sym f));
    elects = λ f. absurd (true≢false (sym f));
    rings = λ f. absurd (true≢false (sym f));
    stands = λ f. refl;
  }

  -- a datagram: if it stirs, what is armed is within its time from now
  took : (b : Bool) → Waits late (if b then d.tick else news before) d.tick (held before) (armed before) b false false false false
  took true = record {
    news_le = omega arith;
    heard = λ e. refl;
    boot_le = (let le = inv.boot_le in let r = r_le in omega (arith, le, r));
    quit_le = quit_le_holds;
    quiet = λ at e. let le = inv.quiet at e in let r = r_le in omega (arith, le, r);
    window = λ at e. let le = inv.window at e in let r = r_le in omega (arith, le, r);
    search = λ at e. let le = inv.search at e in let r = r_le in omega (arith, le, r);
    ahead = ahead_kept;
    elect = λ at e. let le = ahead_kept at e in inl (omega (arith, le));
    moves = λ f. absurd (true≢false (sym f));
    waits = λ f. absurd (true≢false (sym f));
    elects = λ f. absurd (true≢false (sym f));
    rings = λ f. absurd (true≢false (sym f));
    stands = λ f. refl;
  }
  took false = unheard (plain_act (armed before) as_it_was (held before) refl refl)

  -- after Elect rang without a candidature it isn't long since the news
  not_stood : (deed : Deed) → AfterElect m before deed → deed ≢ Acts (Become Candidate) → newest_is elects_by before ≡ true →
      d.tick ≤ news before + (first_elect late + late)
  not_stood deed after other e = elim (inv.elects e) [
    | inl le ↦ omega (arith, le, level)
    | inr past ↦ absurd (other (stands-by before deed after e past))
  ] where
    ring-is : (deed : Deed) → elects_by deed ≡ true → deed ≡ Acts (Ring Elect)
    ring-is (Acts (Ring Elect)) e = refl
    ring-is _ e = absurd (true≢false (sym e))

    held-same : (k : Did) (older : List Seen) → k.deed ≡ Acts (Ring Elect) → held (Here k ∷ older) ≡ held older
    held-same k older is = ap (λ deed. held_after deed k.tick (held older)) is

    stands-by : (before : List Seen) (deed : Deed) → AfterElect m before deed → newest_is elects_by before ≡ true →
        is_past (held before).quit ELECT_MIN (tick_of (plain before)) ≡ true → deed ≡ Acts (Become Candidate)
    stands-by [] deed after e past = absurd (true≢false (sym e))
    stands-by (Elsewhere k ∷ older) deed after e past = absurd (true≢false (sym e))
    stands-by (Here k ∷ older) deed after e past = let is = ring-is k.deed e in after is may (subst (λ h. is_past h.quit ELECT_MIN k.tick ≡
        true) (held-same k older is) past)

  loosened : AfterElect m before (Acts (Become Loose)) → (Heard before ⊎ (newest_is loosens_by before ≡ true)) → After (Acts (Become Loose))
  loosened after (inl heard) = changed true (λ e. let r = heard_now heard in omega (arith, r))
  loosened after (inr by) = changed true (λ e. by_newest by) where
    by_deed : (last : Deed) → loosens_by last ≡ true → (moves_by last ≡ true) ⊎ (elects_by last ≡ true)
    by_deed (Acts (Ring Quiet)) e = inl refl
    by_deed (Acts (Ring Window)) e = inl refl
    by_deed (Acts (Late Window)) e = inl refl
    by_deed (Acts (Ring Elect)) e = inr refl
    by_deed _ e = absurd (true≢false (sym e))

    which : (seen : List Seen) → newest_is loosens_by seen ≡ true → (newest_is moves_by seen ≡ true) ⊎ (newest_is elects_by seen ≡ true)
    which [] e = absurd (true≢false (sym e))
    which (Here k ∷ older) e = by_deed k.deed e
    which (Elsewhere k ∷ older) e = absurd (true≢false (sym e))

    by_newest : newest_is loosens_by before ≡ true → d.tick ≤ news before + (first_elect late + late)
    by_newest e = elim (which before e) [
      | inl moved ↦ let le = inv.moves moved in omega (arith, le, level)
      | inr rang ↦ not_stood (Acts (Become Loose)) after (λ is. let bad : ⊥ = cc in bad) rang
    ]

  -- arming

  quiets : (at : ℕ) → at ≡ d.tick + QUIET → (Heard before ⊎ (((held before).boot ≡ d.tick) × (newest_is starts_by before ≡ true))) → After (Acts (Arm Quiet at))
  quiets at f cause = let base = plain_act (armed before) as_it_was (held before) refl refl in record {
    news_le = base.news_le;
    heard = base.heard;
    boot_le = base.boot_le;
    quit_le = base.quit_le;
    quiet = λ to e. let same : at ≡ to = value_of e in elim cause [
      | inl heard ↦ let r = heard_now heard in omega (arith, f, same, r)
      | inr by ↦ let boot = by.0 in let le = inv.boot_le in omega (arith, f, same, boot, le)
    ];
    window = base.window;
    search = base.search;
    ahead = base.ahead;
    elect = base.elect;
    moves = base.moves;
    waits = base.waits;
    elects = base.elects;
    rings = base.rings;
    stands = base.stands;
  }

  windows : (at : ℕ) → at ≡ d.tick + WINDOW → (Heard before ⊎ (backs_itself_now before ≡ true)) → After (Acts (Arm Window at))
  windows at f cause = let base = plain_act (armed before) as_it_was (held before) refl refl in record {
    news_le = base.news_le;
    heard = base.heard;
    boot_le = base.boot_le;
    quit_le = base.quit_le;
    quiet = base.quiet;
    window = λ to e. let same : at ≡ to = value_of e in elim cause [
      | inl heard ↦ let r = heard_now heard in omega (arith, f, same, r)
      | inr backs ↦ let r = inv.stands (or_right (stands_now before) (backs_itself_now before) backs) in omega (arith, f, same, r, level)
    ];
    search = base.search;
    ahead = base.ahead;
    elect = base.elect;
    moves = base.moves;
    waits = base.waits;
    elects = base.elects;
    rings = base.rings;
    stands = base.stands;
  }

  searches : (at : ℕ) → AfterElect m before (Acts (Arm Search at)) → at ≡ d.tick + WINDOW → (Heard before ⊎ (newest_is searches_by before ≡ true)) →
      After (Acts (Arm Search at))
  searches at after f cause = let base = plain_act (armed before) as_it_was (held before) refl refl in record {
    news_le = base.news_le;
    heard = base.heard;
    boot_le = base.boot_le;
    quit_le = base.quit_le;
    quiet = base.quiet;
    window = base.window;
    search = λ to e. let same : at ≡ to = value_of e in elim cause [
      | inl heard ↦ let r = heard_now heard in omega (arith, f, same, r)
      | inr by ↦ let soon = by_newest by in omega (arith, f, same, soon)
    ];
    ahead = base.ahead;
    elect = base.elect;
    moves = base.moves;
    waits = base.waits;
    elects = base.elects;
    rings = base.rings;
    stands = base.stands;
  } where
    by_deed : (last : Deed) → searches_by last ≡ true → (moves_by last ≡ true) ⊎ (elects_by last ≡ true)
    by_deed (Acts (Become Loose)) e = inl refl
    by_deed (Acts (Ring Elect)) e = inr refl
    by_deed _ e = absurd (true≢false (sym e))

    which : (seen : List Seen) → newest_is searches_by seen ≡ true → (newest_is moves_by seen ≡ true) ⊎ (newest_is elects_by seen ≡ true)
    which [] e = absurd (true≢false (sym e))
    which (Here k ∷ older) e = by_deed k.deed e
    which (Elsewhere k ∷ older) e = absurd (true≢false (sym e))

    by_newest : newest_is searches_by before ≡ true → d.tick ≤ news before + (first_elect late + late)
    by_newest e = elim (which before e) [
      | inl moved ↦ let le = inv.moves moved in omega (arith, le, level)
      | inr rang ↦ not_stood (Acts (Arm Search at)) after (λ is. let bad : ⊥ = cc in bad) rang
    ]

  elects : (at : ℕ) → at ≡ d.tick + delay (word (plain before)) → (Heard before ⊎ (newest_is seeks_by before ≡ true)) → After (Acts (Arm Elect at))
  elects at f cause = let base = plain_act (armed before) as_it_was (held before) refl refl in record {
    news_le = base.news_le;
    heard = base.heard;
    boot_le = base.boot_le;
    quit_le = base.quit_le;
    quiet = base.quiet;
    window = base.window;
    search = base.search;
    ahead = λ to e. let same : at ≡ to = value_of e in omega (arith, f, same, less);
    elect = λ to e. let same : at ≡ to = value_of e in elim cause [
      | inl heard ↦ let r = heard_now heard in inl (omega (arith, f, same, less, r))
      | inr by ↦ inr ((let soon = by_newest by in omega (arith, f, same, less, soon)), λ q quit. let le = quit_le_holds q quit in omega (arith, f, same, le))
    ];
    moves = base.moves;
    waits = base.waits;
    elects = base.elects;
    rings = base.rings;
    stands = base.stands;
  } where
    less : word (plain before) % ELECT_SPREAD < ELECT_SPREAD
    less = mod-lt (word (plain before)) {m = ELECT_SPREAD} (omega arith)

    by_deed : (last : Deed) → seeks_by last ≡ true → (moves_by last ≡ true) ⊎ (waits_by last ≡ true)
    by_deed (Acts (Become Loose)) e = inl refl
    by_deed (Acts (Ring Search)) e = inr refl
    by_deed (Acts (Late Search)) e = inr refl
    by_deed (Acts (Late Elect)) e = inr refl
    by_deed _ e = absurd (true≢false (sym e))

    which : (seen : List Seen) → newest_is seeks_by seen ≡ true → (newest_is moves_by seen ≡ true) ⊎ (newest_is waits_by seen ≡ true)
    which [] e = absurd (true≢false (sym e))
    which (Here k ∷ older) e = by_deed k.deed e
    which (Elsewhere k ∷ older) e = absurd (true≢false (sym e))

    by_newest : newest_is seeks_by before ≡ true → d.tick ≤ news before + (then_search late + late)
    by_newest e = elim (which before e) [
      | inl moved ↦ let le = inv.moves moved in omega (arith, le, level)
      | inr waited ↦ let le = inv.waits waited in omega (arith, le, level)
    ]

  arms : (a : Alarm) (at : ℕ) → AfterElect m before (Acts (Arm a at)) → ArmFits a d before at → (Heard before ⊎ Unheard (Acts (Arm a at)) d before) →
      After (Acts (Arm a at))
  arms Quiet at after f c = quiets at f c
  arms Search at after f c = searches at after f c
  arms Elect at after f c = elects at f c
  arms Window at after f c = windows at f c
  arms Probe at after f c = plain_act _ (record { quiet = λ to e. e; window = λ to e. e; search = λ to e. e; elect = λ to e. e }) (held before) refl refl
  arms CloseAlarm at after f c = plain_act _ (record { quiet = λ to e. e; window = λ to e. e; search = λ to e. e; elect = λ to e. e }) (held before) refl refl
  arms ResolveAlarm at after f c = plain_act _ (record { quiet = λ to e. e; window = λ to e. e; search = λ to e. e; elect = λ to e. e }) (held before) refl refl
  arms Round at after f c = plain_act _ (record { quiet = λ to e. e; window = λ to e. e; search = λ to e. e; elect = λ to e. e }) (held before) refl refl

  -- ringing

  past_quit : (o : Option ℕ) (at : ℕ) → ((q : ℕ) → o ≡ Some q → q + ELECT_MIN ≤ at) → at ≤ d.tick → is_past o ELECT_MIN d.tick ≡ true
  past_quit None at k le = refl
  past_quit (Some q) at k le = let more = k q refl in le-leb (q + ELECT_MIN) d.tick (omega (arith, more, le))

  rings : (a : Alarm) → RingFits a d before → After (Acts (Ring a))
  rings Quiet f =
      let due = rung Quiet f.at f.armed_is in let le = inv.quiet f.at f.armed_is in
      kept _ (record { quiet = λ at e. no_send e; window = λ at e. e; search = λ at e. e; elect = λ at e. e }) (held before) refl refl true false false false
      (λ e. omega (arith, due, le)) not_done not_done not_done not_done
  rings Window f =
      let due = rung Window f.at f.armed_is in let le = inv.window f.at f.armed_is in
      kept _ (record { quiet = λ at e. e; window = λ at e. no_send e; search = λ at e. e; elect = λ at e. e }) (held before) refl refl true false false false
      (λ e. omega (arith, due, le)) not_done not_done not_done not_done
  rings Search f =
      let due = rung Search f.at f.armed_is in let le = inv.search f.at f.armed_is in
      kept _ (record { quiet = λ at e. e; window = λ at e. e; search = λ at e. no_send e; elect = λ at e. e }) (held before) refl refl false true false false
      not_done (λ e. omega (arith, due, le)) not_done not_done not_done
  rings Elect f =
      let due = rung Elect f.at f.armed_is in let now = f.due in
      kept _ (record { quiet = λ at e. e; window = λ at e. e; search = λ at e. e; elect = λ at e. no_send e }) (held before) refl refl false false true false
      not_done not_done
      (λ e. elim (inv.elect f.at f.armed_is) [
        | inl le ↦ inl (omega (arith, due, le))
        | inr both ↦ inr (past_quit (held before).quit f.at both.1 now)
      ])
      (λ e. elim (inv.elect f.at f.armed_is) [
        | inl le ↦ omega (arith, due, le)
        | inr both ↦ let le = both.0 in omega (arith, due, le)
      ]) not_done
  rings Probe f = plain_act _ (record { quiet = λ to e. e; window = λ to e. e; search = λ to e. e; elect = λ to e. e }) (held before) refl refl
  rings CloseAlarm f = plain_act _ (record { quiet = λ to e. e; window = λ to e. e; search = λ to e. e; elect = λ to e. e }) (held before) refl refl
  rings ResolveAlarm f = plain_act _ (record { quiet = λ to e. e; window = λ to e. e; search = λ to e. e; elect = λ to e. e }) (held before) refl refl
  rings Round f = plain_act _ (record { quiet = λ to e. e; window = λ to e. e; search = λ to e. e; elect = λ to e. e }) (held before) refl refl

  quit : (p : PeerId) → (Heard before ⊎ ⊥) → After (Acts (Quit p))
  quit p (inr none) = absurd none
  quit p (inl heard) = let r = heard_now heard in record {
    news_le = r_le;
    heard = heard_now;
    boot_le = inv.boot_le;
    quit_le = λ q e. let same : d.tick ≡ q = value_of e in omega (arith, same, r);
    quiet = inv.quiet;
    window = inv.window;
    search = inv.search;
    ahead = ahead_kept;
    elect = λ at e. let le = ahead_kept at e in inl (omega (arith, le, r));
    moves = not_done;
    waits = not_done;
    elects = not_done;
    rings = not_done;
    stands = not_done;
  }

  backs : (p : PeerId) → After (Acts (Back p))
  backs p = kept (armed before) as_it_was _ refl refl false false false (stands_now before) not_done not_done not_done not_done
      (λ e. inv.stands (rw e refl) ∙ sym level)

  becomes : (r : Role) → AfterElect m before (Acts (Become r)) → (Heard before ⊎ Unheard (Acts (Become r)) d before) → After (Acts (Become r))
  becomes Candidate after c = stood
  becomes Loose after c = loosened after c
  becomes (Follow p) after c = changed false not_done
  becomes Master after c = changed false not_done
  becomes Starting after c = changed false not_done

  -- an act
  acts : (a : Act) → AfterElect m before (Acts a) → AlarmFits (Acts a) d before → (Heard before ⊎ Unheard (Acts a) d before) → After (Acts a)
  acts Boot after f c = booted
  acts (Took from t) after f c = took (stirs_in t)
  acts (Become r) after f c = becomes r after c
  acts (Arm a at) after f c = arms a at after f c
  acts (Ring a) after f c = rings a f
  acts (Late a) after f c = never a f
  acts (Back p) after f c = backs p
  acts (Quit p) after f c = quit p c
  acts Abandon after f c = plain_act _ (record { quiet = λ to e. e; window = λ to e. e; search = λ to e. e; elect = λ to e. e }) (held before) refl refl
  acts _ after f c = plain_act _ (record { quiet = λ to e. e; window = λ to e. e; search = λ to e. e; elect = λ to e. e }) (held before) refl refl

-- where a step begins
begun : (late : ℕ) (d : Did) (before : List Seen) → tick_of (plain before) ≤ d.tick → Waiting late before →
    Waits late (news before) d.tick (held before) (armed before) false false false false false
begun late d before order inv = record {
  news_le = (let le = inv.news_le in omega (arith, le, order));
  heard = λ e. absurd (true≢false (sym e));
  boot_le = inv.boot_le;
  quit_le = inv.quit_le;
  quiet = inv.quiet;
  window = inv.window;
  search = inv.search;
  ahead = λ at e. let le = inv.ahead at e in omega (arith, le, order);
  elect = inv.elect;
  moves = λ e. absurd (true≢false (sym e));
  waits = λ e. absurd (true≢false (sym e));
  elects = λ e. absurd (true≢false (sym e));
  rings = λ e. absurd (true≢false (sym e));
  stands = λ e. absurd (true≢false (sym e));
}

-- after an act on another port
aside : (late : ℕ) (d : Did) (before : List Seen) → d.tick ≡ tick_of (plain before) → Waiting late before →
    Waits late (news before) d.tick (held before) (armed before) (stirred (taken before)) false false false false
aside late d before level inv = record {
  news_le = (let le = inv.news_le in omega (arith, le, level));
  heard = λ e. inv.heard e ∙ sym level;
  boot_le = inv.boot_le;
  quit_le = inv.quit_le;
  quiet = inv.quiet;
  window = inv.window;
  search = inv.search;
  ahead = λ at e. let le = inv.ahead at e in omega (arith, le, level);
  elect = inv.elect;
  moves = λ e. absurd (true≢false (sym e));
  waits = λ e. absurd (true≢false (sym e));
  elects = λ e. absurd (true≢false (sym e));
  rings = λ e. absurd (true≢false (sym e));
  stands = λ e. absurd (true≢false (sym e));
}

-- before anything
unbegun : (late : ℕ) → Waiting late []
unbegun late = record {
  news_le = omega arith;
  heard = λ e. refl;
  boot_le = omega arith;
  quit_le = λ q e. no_send e;
  quiet = λ at e. no_send e;
  window = λ at e. no_send e;
  search = λ at e. no_send e;
  ahead = λ at e. no_send e;
  elect = λ at e. no_send e;
  moves = λ e. absurd (true≢false (sym e));
  waits = λ e. absurd (true≢false (sym e));
  elects = λ e. absurd (true≢false (sym e));
  rings = λ e. absurd (true≢false (sym e));
  stands = λ e. refl;
}

module _ (late : ℕ) (slack : late ≤ SLACK) (m : Manner) (may : m.may ≡ true) where
  one-more : (d : Did) (before : List Seen) → PacedAt late (Here d) before → Paced late before → AfterElect m before d.deed → AlarmFits d.deed d before →
      (Heard before ⊎ Unheard d.deed d before) → Waiting late before → Waiting late (Here d ∷ before)
  one-more d before p paced after fits cause inv = by_deed d.deed refl after fits cause where
    by_deed : (deed : Deed) → d.deed ≡ deed → AfterElect m before deed → AlarmFits deed d before → (Heard before ⊎ Unheard deed d before) →
        Waits late (if is_news deed then d.tick else news before) d.tick (held_after deed d.tick (held before)) (armed_after deed (armed before))
        (stirred (taken_after deed (taken before))) (moves_by deed) (waits_by deed) (elects_by deed)
        (stands_by deed || (if backs_by deed then stands_now before else false))
    by_deed Begins is after fits cause = begun late d before p.order inv
    by_deed (Acts a) is after fits cause = acts late slack m may d before (p.level a is) paced inv a after fits cause

  pub waiting : (seen : List Seen) → AlarmsFit m seen → CausesFit seen → StandsOn m seen → Paced late seen → Waiting late seen
  waiting [] f c s p = unbegun late
  waiting (Here d ∷ before) f c s p = one-more d before p.0 p.1 s.0 f.0 c.0 (waiting before f.1.1 c.1 s.1 p.1)
  waiting (Elsewhere d ∷ before) f c s p = aside late d before (p.0.aside d refl) (waiting before f.1 c s p.1)

  -- so an idle port doesn't wait for long
  pub idle_waits : (seen : List Seen) (x : ℕ) → Wakes m seen → StandsOn m seen → Paced late seen → Watched late x seen → is_idle (role seen) ≡ true →
      x ≤ news seen + patience late
  idle_waits seen x w s p watched idle = by_role (role seen) refl idle where
    inv : Waiting late seen
    inv = waiting seen w.acts w.causes s p

    by-search : (o : Option ℕ) → (armed seen).search ≡ o → is_some o ≡ true → x ≤ news seen + patience late
    by-search None e some = absurd (true≢false (sym some))
    by-search (Some at) e some = let due = watched.alarms Search at e in let le = inv.search at e in omega (arith, due, le)

    by-elect : (o : Option ℕ) → (armed seen).elect ≡ o → is_some o ≡ true → x ≤ news seen + patience late
    by-elect None e some = absurd (true≢false (sym some))
    by-elect (Some at) e some = let due = watched.alarms Elect at e in elim (inv.elect at e) [
      | inl le ↦ omega (arith, due, le)
      | inr both ↦ let le = both.0 in omega (arith, due, le)
    ]

    loosely : (b : Bool) → is_some (armed seen).search ≡ b → (b || is_some (armed seen).elect) ≡ true → x ≤ news seen + patience late
    loosely true e some = by-search (armed seen).search refl e
    loosely false e some = by-elect (armed seen).elect refl some

    by_role : (r : Role) → role seen ≡ r → is_idle r ≡ true → x ≤ news seen + patience late
    by_role Loose r i = loosely (is_some (armed seen).search) refl (w.loose r)
    by_role (Follow q) r i = by-elect (armed seen).elect refl (w.follow q r)
    by_role _ r i = absurd (true≢false (sym i))
