-- A port that hears nothing is master soon.
use Rattle.std.proofs.Common.{sym, ap, arith, true≢false, ◌∙◌, ◌≡◌, ◌≤◌, ◌⊎◌, inl, inr, ℕ, ◌+◌, Bool, true, false, if◌then◌else◌, List, [], ◌∷◌, None}
use Rattle.std.proofs.Common.{refl}
use Rattle.tsp_rules.specs.Values.{Act, Boot, Took, Become, Arm, Ring, Late, Alarm, Quiet, Search, Elect, Window, Probe, CloseAlarm, ResolveAlarm, Round}
use Rattle.tsp_rules.specs.Values.{PeerId, Role, Starting, Loose, Follow, Candidate, Master, WINDOW, SLACK}
use Rattle.tsp_rules.specs.{CommonRows.is_idle, Guards.is_master}
use Rattle.tsp_base.specs.Words.{Acts, Begins, Deadlines, Deed, Did, Line, Seen, Here, Elsewhere, armed, armed_after, held, held_after, none_armed, of, plain}
use Rattle.tsp_base.specs.Words.{role, role_after, stood, taken, taken_after, tick_of, view}
use Rattle.tsp_promises.specs.{Fits.Fits, Fits.node_of, Setting.Setting}
use Rattle.tsp_promises.proofs.{shared.EverywhereLemmas.Everywhere_at, shared.EverywhereLemmas.Everywhere_from, shared.EverywhereLemmas.Everywhere_within}
use Rattle.tsp_promises.proofs.{promised.OwnFitsProof.own_fits}
use Rattle.tsp_progress.specs.AlarmsFit.{AlarmFits, AlarmsFit, LateFits, Manner, NextFits, NextTo, RingFits}
use Rattle.tsp_progress.specs.AloneLeads.{AloneLeads, AloneLeadsAt, is_word, last_word}
use Rattle.tsp_progress.specs.AloneStands.{is_news, news, patience}
use Rattle.tsp_progress.specs.CausesFit.{CausesFit, Heard, Unheard, elects_by, loosens_by, newest_is, searches_by, seeks_by, stirred, stirs_in, wins_by}
use Rattle.tsp_progress.specs.{Stands.StandsOn, Wakes.Wakes, Wakes.Woken, Wakes.WokenAt, Watched.Attended, Watched.AttendedAt, Watched.Watched}
use Rattle.tsp_progress.proofs.AloneProof.{Paced, PacedAt, Waiting, idle_waits, soon_before, waiting}
use Rattle.tsp_progress.proofs.InTimeProof.{none_some}
use Rattle.tsp_progress.proofs.PaceProof.{paced}
use Rattle.tsp_progress.proofs.StandsProof.{rising, stands_on}

-- roles of a port that stood for election
abbrev is_leading : Role → Bool
is_leading Candidate = true
is_leading Master = true
is_leading _ = false

-- a port that stood since it heard something, and goes on to lead
record Leading (late w r : ℕ) (rl : Role) (d : Deadlines) (elected sought searched loosened won : Bool) : Type 0 where
  pub soon : r ≤ w + patience late
  pub leads : is_leading rl ≡ true
  pub quiet : d.quiet ≡ None
  pub search : d.search ≡ None
  pub elect : d.elect ≡ None
  pub elected_not : elected ≡ false
  pub sought_not : sought ≡ false
  pub searched_not : searched ≡ false
  pub wins : loosened ≡ true → won ≡ true

-- what was heard last, and whether the port stood since
record Hears (late w r x boot : ℕ) (took : Bool) (rl : Role) (d : Deadlines) (elected sought searched loosened won : Bool) : Type 0 where
  pub word_le : w ≤ r
  pub boot_le : boot ≤ w
  pub heard : took ≡ true → w ≡ x
  pub phase : (r ≡ w) ⊎ Leading late w r rl d elected sought searched loosened won

abbrev Hearing : ℕ → List Seen → Type 0
Hearing late seen = Hears late (last_word seen) (news seen) (tick_of (plain seen)) (held seen).boot (stirred (taken seen)) (role seen) (armed seen)
    (newest_is elects_by seen) (newest_is seeks_by seen) (newest_is searches_by seen) (newest_is loosens_by seen) (newest_is wins_by seen)

wrong : {A : Type 0} → false ≡ true → A
wrong e = absurd (true≢false (sym e))

-- a false test that holds
clash : {A : Type 0} {b : Bool} → b ≡ false → b ≡ true → A
clash n e = absurd (true≢false (sym e ∙ n))

unheard : {late w r x boot : ℕ} {took : Bool} {rl : Role} {dl : Deadlines} {el sk se lo wi : Bool} → Hears late w r x boot took rl dl el sk se lo wi →
    Hears late w r x boot false rl dl el sk se lo wi
unheard h = record { word_le = h.word_le; boot_le = h.boot_le; heard = λ e. wrong e; phase = h.phase }

module _ (late : ℕ) (slack : late ≤ SLACK) (m : Manner) (d : Did) (before : List Seen) (strict : m.strict ≡ false) (level : d.tick ≡
    tick_of (plain before)) (pace : Paced late before) (waits : Waiting late before) (inv : Hearing late before) where
  abbrev After : Deed → Type 0
  After deed = Hears late (if is_word deed then d.tick else last_word before) (if is_news deed then d.tick else news before) d.tick
      (held_after deed d.tick (held before)).boot (stirred (taken_after deed (taken before)))
      (role_after deed (role before)) (armed_after deed (armed before)) (elects_by deed) (seeks_by deed) (searches_by deed) (loosens_by deed) (wins_by deed)

  news_le_holds : news before ≤ d.tick
  news_le_holds = let le = waits.news_le in omega (arith, le, level)

  heard_now : stirred (taken before) ≡ true → last_word before ≡ d.tick
  heard_now e = inv.heard e ∙ sym level

  -- what was heard came in this step
  both_now : stirred (taken before) ≡ true → news before ≡ last_word before
  both_now e = waits.heard e ∙ sym (inv.heard e)

  -- an act that is neither news nor a boot, in this phase
  phased : (rl : Role) (dl : Deadlines) (el sk se lo wi : Bool) → ((news before ≡ last_word before) ⊎
      Leading late (last_word before) (news before) rl dl el sk se lo wi) → Hears late (last_word before) (news before) d.tick (held before).boot
      (stirred (taken before)) rl dl el sk se lo wi
  phased rl dl el sk se lo wi p = record { word_le = inv.word_le; boot_le = inv.boot_le; heard = heard_now; phase = p }

  -- the alarms that a leading port has off
  record Quieter (dl : Deadlines) : Type 0 where
    pub quiet : (armed before).quiet ≡ None → dl.quiet ≡ None
    pub search : (armed before).search ≡ None → dl.search ≡ None
    pub elect : (armed before).elect ≡ None → dl.elect ≡ None

  goes_on : (dl : Deadlines) → Quieter dl → Hears late (last_word before) (news before) d.tick (held before).boot (stirred (taken before)) (role before) dl
      false false false false false
  goes_on dl k = phased (role before) dl false false false false false (elim inv.phase [
    | inl same ↦ inl same
    | inr l ↦ inr (record {
      soon = l.soon;
      leads = l.leads;
      quiet = k.quiet l.quiet;
      search = k.search l.search;
      elect = k.elect l.elect;
      elected_not = refl;
      sought_not = refl;
      searched_not = refl;
      wins = λ e. wrong e;
    })
  ])

  never : {A : Type 0} (a : Alarm) → LateFits a d before → A
  never a f = let le = soon_before late before pace a f.at f.armed_is in let over = f.late in let no : ⊥ = omega (arith, le, over, slack, level) in absurd no

  -- a word
  worded : (rl : Role) (dl : Deadlines) (boot : ℕ) → boot ≤ d.tick → (took el sk se lo wi : Bool) →
      Hears late d.tick d.tick d.tick boot took rl dl el sk se lo wi
  worded rl dl boot le took el sk se lo wi = record { word_le = omega arith; boot_le = le; heard = λ e. refl; phase = inl refl }

  boot_le_holds : (held before).boot ≤ d.tick
  boot_le_holds = let a = inv.boot_le in let b = inv.word_le in let c = news_le_holds in omega (arith, a, b, c)

  -- a datagram
  took : (b : Bool) → Hears late (if b then d.tick else last_word before) (if b then d.tick else news before) d.tick (held before).boot b (role before)
      (armed before) false false false false false
  took true = worded (role before) (armed before) (held before).boot boot_le_holds true false false false false false
  took false = unheard (goes_on (armed before) (record { quiet = λ e. e; search = λ e. e; elect = λ e. e }))

  -- the port stands for election
  stands : (Heard before ⊎ (newest_is elects_by before ≡ true)) → After (Acts (Become Candidate))
  stands cause = record {
    word_le = (let a = inv.word_le in let b = news_le_holds in omega (arith, a, b));
    boot_le = inv.boot_le;
    heard = heard_now;
    phase = elim cause [
      | inl heard ↦ inl (sym (heard_now heard))
      | inr by ↦ elim inv.phase [
        | inl same ↦ inr (record {
          soon = (let le = waits.rings by in omega (arith, le, level, same));
          leads = refl;
          quiet = refl;
          search = refl;
          elect = refl;
          elected_not = refl;
          sought_not = refl;
          searched_not = refl;
          wins = λ e. wrong e;
        })
        | inr l ↦ clash l.elected_not by
      ]
    ];
  }

  -- it wins
  leads : (Heard before ⊎ (newest_is wins_by before ≡ true)) → After (Acts (Become Master))
  leads cause = phased Master none_armed false false false false false (elim inv.phase [
    | inl same ↦ inl same
    | inr l ↦ inr (record {
      soon = l.soon;
      leads = refl;
      quiet = refl;
      search = refl;
      elect = refl;
      elected_not = refl;
      sought_not = refl;
      searched_not = refl;
      wins = λ e. wrong e;
    })
  ])

  -- what comes after its window
  won_next : (before : List Seen) → newest_is wins_by before ≡ true → NextTo m before (Acts (Become Loose)) → ⊥
  won_next [] e n = true≢false (sym e)
  won_next (Elsewhere k ∷ older) e n = true≢false (sym e)
  won_next (Here k ∷ older) e n = by_deed k.deed e n where
    by_deed : (last : Deed) → wins_by last ≡ true → NextFits m last k.tick older (Acts (Become Loose)) → ⊥
    by_deed (Acts (Ring Window)) e n = let is = n.wins strict in let bad : ⊥ = cc in bad
    by_deed _ e n = true≢false (sym e)

  loosens : NextTo m before (Acts (Become Loose)) → (Heard before ⊎ (newest_is loosens_by before ≡ true)) → After (Acts (Become Loose))
  loosens next cause = phased Loose none_armed false true true false false (elim cause [
    | inl heard ↦ inl (both_now heard)
    | inr by ↦ elim inv.phase [
      | inl same ↦ inl same
      | inr l ↦ absurd (won_next before (l.wins by) next)
    ]
  ])

  follows : (p : PeerId) → (Heard before ⊎ ⊥) → After (Acts (Become (Follow p)))
  follows p (inl heard) = phased (Follow p) none_armed false false false false false (inl (both_now heard))
  follows p (inr none) = absurd none

  starts : (Heard before ⊎ (role before ≡ Starting)) → After (Acts (Become Starting))
  starts cause = phased Starting none_armed false false false false false (elim cause [
    | inl heard ↦ inl (both_now heard)
    | inr is ↦ elim inv.phase [
      | inl same ↦ inl same
      | inr l ↦ clash (ap is_leading is) l.leads
    ]
  ])

  becomes : (r : Role) → NextTo m before (Acts (Become r)) → (Heard before ⊎ Unheard (Acts (Become r)) d before) → After (Acts (Become r))
  becomes Candidate n c = stands c
  becomes Master n c = leads c
  becomes Loose n c = loosens n c
  becomes (Follow p) n c = follows p c
  becomes Starting n c = starts c

  -- an alarm is armed
  arms : (a : Alarm) (at : ℕ) → (Heard before ⊎ Unheard (Acts (Arm a at)) d before) → After (Acts (Arm a at))
  arms Quiet at c = phased (role before) _ false false false false false (elim c [
    | inl heard ↦ inl (both_now heard)
    | inr by ↦ inl (let boot = by.0 in let a = inv.boot_le in let b = inv.word_le in let e = news_le_holds in omega (arith, boot, a, b, e))
  ])
  arms Search at c = phased (role before) _ false false false false false (elim c [
    | inl heard ↦ inl (both_now heard)
    | inr by ↦ elim inv.phase [ inl same ↦ inl same | inr l ↦ clash l.searched_not by ]
  ])
  arms Elect at c = phased (role before) _ false false false false false (elim c [
    | inl heard ↦ inl (both_now heard)
    | inr by ↦ elim inv.phase [ inl same ↦ inl same | inr l ↦ clash l.sought_not by ]
  ])
  arms Window at c = goes_on _ (record { quiet = λ e. e; search = λ e. e; elect = λ e. e })
  arms Probe at c = goes_on _ (record { quiet = λ e. e; search = λ e. e; elect = λ e. e })
  arms CloseAlarm at c = goes_on _ (record { quiet = λ e. e; search = λ e. e; elect = λ e. e })
  arms ResolveAlarm at c = goes_on _ (record { quiet = λ e. e; search = λ e. e; elect = λ e. e })
  arms Round at c = goes_on _ (record { quiet = λ e. e; search = λ e. e; elect = λ e. e })

  -- an alarm rings
  rings : (a : Alarm) → RingFits a d before → After (Acts (Ring a))
  rings Quiet f = phased (role before) _ false false false true false (elim inv.phase [ inl same ↦ inl same | inr l ↦ none_some l.quiet f.armed_is ])
  rings Search f = phased (role before) _ false true false false false (elim inv.phase [ inl same ↦ inl same | inr l ↦ none_some l.search f.armed_is ])
  rings Elect f = phased (role before) _ true false true true false (elim inv.phase [ inl same ↦ inl same | inr l ↦ none_some l.elect f.armed_is ])
  rings Window f = phased (role before) _ false false false true true (elim inv.phase [
    | inl same ↦ inl same
    | inr l ↦ inr (record {
      soon = l.soon;
      leads = l.leads;
      quiet = l.quiet;
      search = l.search;
      elect = l.elect;
      elected_not = refl;
      sought_not = refl;
      searched_not = refl;
      wins = λ e. refl;
    })
  ])
  rings Probe f = goes_on _ (record { quiet = λ e. e; search = λ e. e; elect = λ e. e })
  rings CloseAlarm f = goes_on _ (record { quiet = λ e. e; search = λ e. e; elect = λ e. e })
  rings ResolveAlarm f = goes_on _ (record { quiet = λ e. e; search = λ e. e; elect = λ e. e })
  rings Round f = goes_on _ (record { quiet = λ e. e; search = λ e. e; elect = λ e. e })

  acts : (a : Act) → NextTo m before (Acts a) → AlarmFits (Acts a) d before → (Heard before ⊎ Unheard (Acts a) d before) → After (Acts a)
  acts Boot n f c = worded Starting none_armed d.tick (omega arith) _ false false false false false
  acts (Took from t) n f c = took (stirs_in t)
  acts (Become r) n f c = becomes r n c
  acts (Arm a at) n f c = arms a at c
  acts (Ring a) n f c = rings a f
  acts (Late a) n f c = never a f
  acts _ n f c = goes_on _ (record { quiet = λ e. e; search = λ e. e; elect = λ e. e })

-- an entry that isn't an act here
still : (late w r x y boot : ℕ) (took : Bool) (rl : Role) (dl : Deadlines) (el sk se lo wi : Bool) → (took ≡ true → w ≡ y) →
    Hears late w r x boot false rl dl el sk se lo wi → Hears late w r y boot took rl dl false false false false false
still late w r x y boot took rl dl el sk se lo wi now h = record {
  word_le = h.word_le;
  boot_le = h.boot_le;
  heard = now;
  phase = elim h.phase [
    | inl same ↦ inl same
    | inr l ↦ inr (record {
      soon = l.soon;
      leads = l.leads;
      quiet = l.quiet;
      search = l.search;
      elect = l.elect;
      elected_not = refl;
      sought_not = refl;
      searched_not = refl;
      wins = λ e. wrong e;
    })
  ];
}

module _ (late : ℕ) (slack : late ≤ SLACK) (m : Manner) (may : m.may ≡ true) (strict : m.strict ≡ false) where
  one-more : (d : Did) (before : List Seen) → PacedAt late (Here d) before → Paced late before → NextTo m before d.deed → AlarmFits d.deed d before →
      (Heard before ⊎ Unheard d.deed d before) → Waiting late before → Hearing late before → Hearing late (Here d ∷ before)
  one-more d before p pace next fits cause waits inv = by_deed d.deed refl next fits cause where
    by_deed : (deed : Deed) → d.deed ≡ deed → NextTo m before deed → AlarmFits deed d before → (Heard before ⊎ Unheard deed d before) →
        Hears late (if is_word deed then d.tick else last_word before) (if is_news deed then d.tick else news before) d.tick
        (held_after deed d.tick (held before)).boot (stirred (taken_after deed (taken before)))
        (role_after deed (role before)) (armed_after deed (armed before)) (elects_by deed) (seeks_by deed) (searches_by deed) (loosens_by deed) (wins_by deed)
    by_deed Begins is n f c = still late (last_word before) (news before) _ d.tick _ false (role before) (armed before) _ _ _ _ _ (λ e. wrong e) (unheard inv)
    by_deed (Acts a) is n f c = acts late slack m d before strict (p.level a is) pace waits inv a n f c

  hearing : (seen : List Seen) → AlarmsFit m seen → CausesFit seen → StandsOn m seen → Paced late seen → Hearing late seen
  hearing [] f c s p = record { word_le = omega arith; boot_le = omega arith; heard = λ e. wrong e; phase = inl refl }
  hearing (Here d ∷ before) f c s p = one-more d before p.0 p.1 f.1.0 f.0 c.0 (waiting late slack m may before f.1.1 c.1 s.1 p.1)
      (hearing before f.1.1 c.1 s.1 p.1)
  hearing (Elsewhere d ∷ before) f c s p =
      let h = hearing before f.1 c s p.1 in
      still late (last_word before) (news before) _ d.tick _ (stirred (taken before)) (role before) (armed before) _ _ _ _ _ (λ e. h.heard e ∙
      sym (p.0.aside d refl)) (unheard h)

  -- so a port that is no master doesn't wait for long
  pub leads_soon : (seen : List Seen) (x : ℕ) → Wakes m seen → StandsOn m seen → Paced late seen → Watched late x seen → (start : Did) (idle : List Seen) →
      stood seen ≡ Here start ∷ idle → is_master (role seen) ≡ false → x ≤ last_word seen + (patience late + WINDOW + late)
  leads_soon seen x w s p watched start idle stood-is other = by_role (role seen) refl other where
    h : Hearing late seen
    h = hearing seen w.acts w.causes s p

    waits : Waiting late seen
    waits = waiting late slack m may seen w.acts w.causes s p

    -- the port stood at most so long after what it heard
    soon : news seen ≤ last_word seen + patience late
    soon = elim h.phase [
      | inl same ↦ omega (arith, same)
      | inr l ↦ l.soon
    ]

    idly : is_idle (role seen) ≡ true → is_leading (role seen) ≡ false → x ≤ last_word seen + (patience late + WINDOW + late)
    idly i n = elim h.phase [
      | inl same ↦ let le = idle_waits late slack m may seen x w s p watched i in omega (arith, le, same)
      | inr l ↦ clash n l.leads
    ]

    by_role : (r : Role) → role seen ≡ r → is_master r ≡ false → x ≤ last_word seen + (patience late + WINDOW + late)
    by_role Starting r n = let due = watched.alarms Quiet _ (w.starting r start idle stood-is) in let le = h.boot_le in omega (arith, due, le)
    by_role Loose r n = idly (ap is_idle r) (ap is_leading r)
    by_role (Follow q) r n = idly (ap is_idle r) (ap is_leading r)
    by_role Candidate r n = let c = w.candidate r in let due = watched.alarms Window _ c.window_is in let le = waits.window _ c.window_is in let first = soon in
        omega (arith, due, le, first)
    by_role Master r n = absurd (true≢false n)

pub alone_leads : (m : ℕ → Manner) (setting : Setting) (late : ℕ) (world : List Line) → Fits setting world → Woken m world → Attended late world →
    late ≤ SLACK → AloneLeads m late world
alone_leads m setting late world f w a slack = Everywhere_from (AloneLeadsAt m late) world (λ l before within begins may strict q start idle stood-is other.
    let n = node_of l in
    let whole = Everywhere_within _ (l ∷ before) world f within in
    let attended = Everywhere_within _ (l ∷ before) world a within in
    let wakes = Everywhere_at (WokenAt m) l before world w within begins q in
    let seen = view q (of n before) in
    leads_soon late slack (m n) may strict seen l.did.tick wakes
    (stands_on (m n) seen wakes.acts (rising setting q (of n before) (own_fits setting n before whole.1)))
    (paced setting late before whole.1 attended.1 (m n) n q wakes.acts)
    (Everywhere_at (AttendedAt late) l before world a within begins q) start idle stood-is other)

-- whether a place is one of this port
abbrev pub is_here : List Seen → Bool
is_here (Here d ∷ idle) = true
is_here _ = false

-- what is said of a port that has a role, where it has one
pub has_role : (place : List Seen) (x most : ℕ) → ((start : Did) (idle : List Seen) → place ≡ Here start ∷ idle → x ≤ most) → is_here place ≡ true → x ≤ most
has_role (Here d ∷ idle) x most k e = k d idle refl
has_role _ x most k e = wrong e
