-- What single acts make of a port that has armed what its role asks for.
use Rattle.std.proofs.Common.{sym, ap, ℤ, pos, arith, subst, true≢false, ◌∙◌, ◌≡◌, ◌≢◌, ◌≤◌, ℕ, ◌+◌, ◌||◌, Bool, true, false, List, [], ◌∷◌, Option, None, Some}
use Rattle.std.proofs.Common.{inl}
use Rattle.std.proofs.Common.{inr, is_some, refl, leb-true, leb-false, nat_le}
use Rattle.std.proofs.lemmas.Bool.{and_left, and_right, lt-leb, not-false, or_right}
use Rattle.tsp_rules.specs.Values.{Act, Boot, Become, Arm, Ring, Late, Back, Alarm, Quiet, Search, Elect, Window, Probe, CloseAlarm, ResolveAlarm, Round}
use Rattle.tsp_rules.specs.ClockRows.{adjusts}
use Rattle.tsp_rules.specs.Values.{Close, Correct, PeerId, Role, Starting, Loose, Follow, Candidate, Master, SLACK, QUIET, WINDOW, ROUND, WAIT, PROBE, CLOSE}
use Rattle.tsp_base.specs.Words.{Acts, Deed, Did, Here, Elsewhere, Seen, Past, Row, Leads, role, armed, deadline, held, stood, grown, arms, puts, plain, word}
use Rattle.tsp_base.proofs.LeadsLemmas.{Leads_puts, Leads_reading}
use Rattle.tsp_rules.specs.{CommonRows.arms_elect, Guards.delay, Guards.delay_at, Guards.is_due, Guards.is_in_time, Guards.is_met, Guards.is_over}
use Rattle.tsp_rules.proofs.Emits.{Sort, Booting, Leading, Following, Changing, Backing, Alarming, Rounding, Closing, Emits, Keeps_by, is_in, sort_of}
use Rattle.tsp_progress.specs.AlarmsFit.{AlarmsFit, ArmFits, LateFits, Manner, NextFits, NextTo, RingFits, BackNext, CloseNext, ProbeNext, RoundNext}
use Rattle.tsp_progress.specs.AlarmsFit.{arms_round_by, asks_next, begins_round, newest_is, rings_round, rounds_by, is_zero}
use Rattle.tsp_progress.specs.AlarmsFit.{is_candidate, owes_next}
use Rattle.tsp_progress.specs.AlarmsFit.{stands_by, stands_now}
use Rattle.tsp_progress.specs.{CausesFit.CausesFit, Wakes.Wakes, Wakes.Windowed}

-- a port in the midst of a row: whether a port that is Loose or follows, and whether a master, has armed what it needs
pub record Waking (m : Manner) (idle lead : Bool) (seen : List Seen) : Type 0 where
  pub acts : AlarmsFit m seen
  pub starting : role seen ≡ Starting → (start : Did) (before : List Seen) → stood seen ≡ Here start ∷ before → (armed seen).quiet ≡
      Some ((held seen).boot + QUIET)
  pub candidate : role seen ≡ Candidate → Windowed seen
  pub loose : idle ≡ true → role seen ≡ Loose → (is_some (armed seen).search || is_some (armed seen).elect) ≡ true
  pub follow : idle ≡ true → (p : PeerId) → role seen ≡ Follow p → is_some (armed seen).elect ≡ true
  pub master : lead ≡ true → role seen ≡ Master → is_some (armed seen).round ≡ true

-- the same, where the newest act asks nothing of the next one
pub record Settled (m : Manner) (idle lead : Bool) (seen : List Seen) : Type 0 where
  pub waking : Waking m idle lead seen
  pub free : owes_next seen ≡ false

-- a port's own manner
abbrev pub manner : Past → Manner
manner past = record { may = past.may; strict = past.strict }

-- all is armed
abbrev pub Awake : ℕ → Past → Type 0
Awake x past = Settled (manner past) true true past.seen

-- all is armed, or what is left out
abbrev pub Nearly : Bool → Bool → ℕ → Past → Type 0
Nearly idle lead x past = Settled (manner past) idle lead past.seen

-- the port may change to this role
pub record Ready (r : Role) (x : ℕ) (past : Past) : Type 0 where
  pub acts : AlarmsFit (manner past) past.seen
  pub next : NextTo (manner past) past.seen (Acts (Become r))

-- the port took this role now
pub record Became (r : Role) (x : ℕ) (past : Past) : Type 0 where
  pub acts : AlarmsFit (manner past) past.seen
  pub role_is : role past.seen ≡ r
  pub start : Did
  pub before : List Seen
  pub stood_is : stood past.seen ≡ Here start ∷ before
  pub now : start.tick ≡ x
  pub stands : stands_now past.seen ≡ is_candidate r
  pub backs : r ≡ Candidate → (p : PeerId) → NextTo (manner past) past.seen (Acts (Back p))
  pub free : owes_next past.seen ≡ is_candidate r
  pub newest : (test : Deed → Bool) → newest_is test past.seen ≡ test (Acts (Become r))

pub wakes_of : {m : Manner} {seen : List Seen} → Settled m true true seen → CausesFit seen → Wakes m seen
wakes_of s c = let w = s.waking in record {
  acts = w.acts;
  settled = s.free;
  causes = c;
  starting = w.starting;
  candidate = w.candidate;
  loose = w.loose refl;
  follow = w.follow refl;
  master = w.master refl;
}

pub waking_of : {m : Manner} {seen : List Seen} → Wakes m seen → Settled m true true seen
waking_of w = record {
  waking = record {
    acts = w.acts;
    starting = w.starting;
    candidate = w.candidate;
    loose = λ e. w.loose;
    follow = λ e. w.follow;
    master = λ e. w.master;
  };
  free = w.settled;
}

-- what asks nothing lets anything come

free_next : (m : Manner) (deed : Deed) (x : ℕ) (older : List Seen) (next : Deed) → asks_next deed x older ≡ false → NextFits m deed x older next
free_next m (Acts (Ring Quiet)) x older next e = absurd (true≢false e)
free_next m (Acts (Ring Search)) x older next e = absurd (true≢false e)
free_next m (Acts (Ring Elect)) x older next e = absurd (true≢false e)
free_next m (Acts (Ring Window)) x older next e = absurd (true≢false e)
free_next m (Acts (Ring Round)) x older next e = absurd (true≢false e)
free_next m (Acts (Ring CloseAlarm)) x older next e = absurd (true≢false e)
free_next m (Acts (Ring _)) x older next e = tt
free_next m (Acts (Late Search)) x older next e = absurd (true≢false e)
free_next m (Acts (Late Elect)) x older next e = absurd (true≢false e)
free_next m (Acts (Late Window)) x older next e = absurd (true≢false e)
free_next m (Acts (Late Round)) x older next e = absurd (true≢false e)
free_next m (Acts (Late CloseAlarm)) x older next e = absurd (true≢false e)
free_next m (Acts (Late Probe)) x older next e = absurd (true≢false e)
free_next m (Acts (Late _)) x older next e = tt
free_next m (Acts (Arm Round at)) x older next e = subst (λ b. RoundNext b next) (sym e) tt
free_next m (Acts (Arm Probe at)) x older next e = subst (λ b. ProbeNext b next) (sym e) tt
free_next m (Acts (Arm _ at)) x older next e = tt
free_next m (Acts (Become Candidate)) x older next e = absurd (true≢false e)
free_next m (Acts (Become _)) x older next e = tt
free_next m (Acts (Back p)) x older next e = absurd (true≢false e)
free_next m (Acts (Close count lo size mean)) x older next e = subst (λ b. CloseNext b mean next) (sym (not-false (is_zero mean) e)) tt
free_next m _ x older next e = tt

pub free_to : (m : Manner) (seen : List Seen) (next : Deed) → owes_next seen ≡ false → NextTo m seen next
free_to m [] next e = tt
free_to m (Here d ∷ before) next e = free_next m d.deed d.tick before next e
free_to m (Elsewhere d ∷ before) next e = tt

-- a port whose newest act asks nothing hasn't just stood for election
stands_asks : (deed : Deed) (x : ℕ) (older : List Seen) → asks_next deed x older ≡ false → stands_by deed ≡ false
stands_asks (Acts (Become r)) x older e = e
stands_asks _ x older e = refl

pub not_standing : (seen : List Seen) → owes_next seen ≡ false → stands_now seen ≡ false
not_standing [] e = refl
not_standing (Here d ∷ before) e = stands_asks d.deed d.tick before e
not_standing (Elsewhere d ∷ before) e = refl

-- acts that are no change of the role, none on an alarm and no backing
abbrev pub is_far : Act → Bool
is_far Boot = false
is_far (Become r) = false
is_far (Arm a at) = false
is_far (Ring a) = false
is_far (Late a) = false
is_far (Back p) = false
is_far (Close count lo size mean) = false
is_far _ = true

windowed_keeps : (d : Did) (seen : List Seen) → stood (Here d ∷ seen) ≡ stood seen → (armed (Here d ∷ seen)).window ≡ (armed seen).window → Windowed seen →
    Windowed (Here d ∷ seen)
windowed_keeps d seen s a w = record { start = w.start; idle = w.idle; stood_is = s ∙ w.stood_is; window_is = a ∙ w.window_is }

far_waking : {idle lead : Bool} (a : Act) → is_far a ≡ true → (x : ℕ) (past : Past) → NextTo (manner past) past.seen (Acts a) →
    Waking (manner past) idle lead past.seen → Waking (manner past) idle lead (grown x past (a ∷ [])).seen
far_waking Boot e x past n w = absurd (true≢false (sym e))
far_waking (Become r) e x past n w = absurd (true≢false (sym e))
far_waking (Arm a at) e x past n w = absurd (true≢false (sym e))
far_waking (Ring a) e x past n w = absurd (true≢false (sym e))
far_waking (Late a) e x past n w = absurd (true≢false (sym e))
far_waking (Back p) e x past n w = absurd (true≢false (sym e))
far_waking (Close count lo size mean) e x past n w = absurd (true≢false (sym e))
far_waking _ e x past n w = record {
  acts = (tt, (n, w.acts));
  starting = w.starting;
  candidate = λ r. windowed_keeps _ past.seen refl refl (w.candidate r);
  loose = w.loose;
  follow = w.follow;
  master = w.master;
}

far_free : (a : Act) → is_far a ≡ true → (x : ℕ) (past : Past) → owes_next (grown x past (a ∷ [])).seen ≡ false
far_free Boot e x past = absurd (true≢false (sym e))
far_free (Become r) e x past = absurd (true≢false (sym e))
far_free (Arm a at) e x past = absurd (true≢false (sym e))
far_free (Ring a) e x past = absurd (true≢false (sym e))
far_free (Late a) e x past = absurd (true≢false (sym e))
far_free (Back p) e x past = absurd (true≢false (sym e))
far_free (Close count lo size mean) e x past = absurd (true≢false (sym e))
far_free _ e x past = refl

-- they leave what is armed alone
pub keeps : {idle lead : Bool} (a : Act) → is_far a ≡ true → (x : ℕ) (past : Past) → Nearly idle lead x past → Nearly idle lead x (grown x past (a ∷ []))
keeps a e x past s = record { waking = far_waking a e x past (free_to (manner past) past.seen (Acts a) s.free) s.waking; free = far_free a e x past }

pub far : {idle lead : Bool} (a : Act) → is_far a ≡ true → Leads (Nearly idle lead) (puts a) (Nearly idle lead)
far a e = Leads_puts a (keeps a e)

-- acts of other sorts are far
abbrev pub near_sorts : List Sort
near_sorts = Booting ∷ Leading ∷ Following ∷ Changing ∷ Backing ∷ Alarming ∷ Rounding ∷ Closing ∷ []

far_arm : (a : Alarm) (at : ℕ) → is_in (sort_of (Arm a at)) near_sorts ≡ false → is_far (Arm a at) ≡ true
far_arm Probe at e = absurd (true≢false e)
far_arm CloseAlarm at e = absurd (true≢false e)
far_arm _ at e = absurd (true≢false e)

far_ring : (a : Alarm) → is_in (sort_of (Ring a)) near_sorts ≡ false → is_far (Ring a) ≡ true
far_ring Probe e = absurd (true≢false e)
far_ring CloseAlarm e = absurd (true≢false e)
far_ring _ e = absurd (true≢false e)

far_late : (a : Alarm) → is_in (sort_of (Late a)) near_sorts ≡ false → is_far (Late a) ≡ true
far_late Probe e = absurd (true≢false e)
far_late CloseAlarm e = absurd (true≢false e)
far_late _ e = absurd (true≢false e)

far_become : (r : Role) → is_in (sort_of (Become r)) near_sorts ≡ false → is_far (Become r) ≡ true
far_become Master e = absurd (true≢false e)
far_become (Follow p) e = absurd (true≢false e)
far_become _ e = absurd (true≢false e)

other_far : (a : Act) → is_in (sort_of a) near_sorts ≡ false → is_far a ≡ true
other_far Boot e = absurd (true≢false e)
other_far (Become r) e = far_become r e
other_far (Arm a at) e = far_arm a at e
other_far (Ring a) e = far_ring a e
other_far (Late a) e = far_late a e
other_far (Back p) e = absurd (true≢false e)
other_far (Close count lo size mean) e = absurd (true≢false e)
other_far _ e = refl

-- a row of other sorts
pub far_row : (sorts : List Sort) (row : Row) → ((a : Act) → is_in (sort_of a) sorts ≡ true → is_in (sort_of a) near_sorts ≡ false) → Emits sorts row →
    {idle lead : Bool} → Leads (Nearly idle lead) row (Nearly idle lead)
unfolding puts
far_row sorts row out e {idle} {lead} = record {
  run = λ x past h. Keeps_by {T = ℕ} sorts (λ p n. Nearly idle lead n p) row
      (λ a i y p n k. keeps a (other_far a (out a i)) y p k) e x past x h;
}

-- a change of the role turns all alarms off
pub becomes : (r : Role) → Leads (Ready r) (puts (Become r)) (Became r)
becomes r = Leads_puts (Become r) (λ x past h. record {
  acts = (tt, (h.next, h.acts));
  role_is = refl;
  start = record { step = past.step; tick = x; deed = Acts (Become r) };
  before = past.seen;
  stood_is = refl;
  now = refl;
  stands = refl;
  backs = λ e p. subst (λ k. NextFits (manner past) (Acts (Become k)) x past.seen (Acts (Back p))) (sym e) (p, refl);
  free = refl;
  newest = λ test. refl;
})

pub ready : {idle lead : Bool} (r : Role) (x : ℕ) (past : Past) → Nearly idle lead x past → Ready r x past
ready r x past s = record { acts = s.waking.acts; next = free_to (manner past) past.seen (Acts (Become r)) s.free }

-- arming, after a change of the role

-- the port is in no other role
other_role : {A : Type 0} {now : Role} (r s : Role) → now ≡ r → now ≡ s → (r ≡ s → ⊥) → A
other_role r s is e n = absurd (n (sym is ∙ e))

pub loose_searches : Leads (Became Loose) (arms Search WINDOW) Awake
unfolding arms
loose_searches = record {
  run = λ x past h. record {
    waking = record {
      acts = (refl, (free_to (manner past) past.seen _ h.free, h.acts));
      starting = λ r. other_role Loose Starting h.role_is r (λ e. let bad : ⊥ = cc in bad);
      candidate = λ r. other_role Loose Candidate h.role_is r (λ e. let bad : ⊥ = cc in bad);
      loose = λ i r. refl;
      follow = λ i p r. other_role Loose (Follow p) h.role_is r (λ e. let bad : ⊥ = cc in bad);
      master = λ l r. other_role Loose Master h.role_is r (λ e. let bad : ⊥ = cc in bad);
    };
    free = refl;
  };
}

delay_fits : (x : ℕ) (past : Past) (long : ℕ) → delay_at x past ≡ long → x + long ≡ x + delay (word (plain past.seen))
delay_fits x past long e = ap (λ n. x + n) (sym e)

pub loose_elects : Leads (Became Loose) arms_elect Awake
unfolding arms_elect arms
loose_elects = Leads_reading delay_at (arms Elect) (λ long. record {
  run = λ x past h. record {
    waking = record {
      acts = (delay_fits x past long h.1, (free_to (manner past) past.seen _ h.0.free, h.0.acts));
      starting = λ r. other_role Loose Starting h.0.role_is r (λ e. let bad : ⊥ = cc in bad);
      candidate = λ r. other_role Loose Candidate h.0.role_is r (λ e. let bad : ⊥ = cc in bad);
      loose = λ i r. or_right (is_some (armed past.seen).search) true refl;
      follow = λ i p r. refl;
      master = λ l r. other_role Loose Master h.0.role_is r (λ e. let bad : ⊥ = cc in bad);
    };
    free = refl;
  };
})

pub follow_elects : (p : PeerId) → Leads (Became (Follow p)) arms_elect Awake
unfolding arms_elect arms
follow_elects p = Leads_reading delay_at (arms Elect) (λ long. record {
  run = λ x past h. record {
    waking = record {
      acts = (delay_fits x past long h.1, (free_to (manner past) past.seen _ h.0.free, h.0.acts));
      starting = λ r. other_role (Follow p) Starting h.0.role_is r (λ e. let bad : ⊥ = cc in bad);
      candidate = λ r. other_role (Follow p) Candidate h.0.role_is r (λ e. let bad : ⊥ = cc in bad);
      loose = λ i r. or_right (is_some (armed past.seen).search) true refl;
      follow = λ i q r. refl;
      master = λ l r. other_role (Follow p) Master h.0.role_is r (λ e. let bad : ⊥ = cc in bad);
    };
    free = refl;
  };
})

pub master_rounds : Leads (Became Master) (arms Round ROUND) Awake
unfolding arms
master_rounds = record {
  run = λ x past h. record {
    waking = record {
      acts = ((inl refl, h.newest rounds_by), (free_to (manner past) past.seen _ h.free, h.acts));
      starting = λ r. other_role Master Starting h.role_is r (λ e. let bad : ⊥ = cc in bad);
      candidate = λ r. other_role Master Candidate h.role_is r (λ e. let bad : ⊥ = cc in bad);
      loose = λ i r. other_role Master Loose h.role_is r (λ e. let bad : ⊥ = cc in bad);
      follow = λ i p r. other_role Master (Follow p) h.role_is r (λ e. let bad : ⊥ = cc in bad);
      master = λ l r. refl;
    };
    free = and_left (newest_is rings_round past.seen) (nat_le (x + ROUND) (x + ROUND)) (h.newest rings_round);
  };
}

-- a round closed with this mean, and the clock is to be moved by it
pub record Closed (mean : ℤ) (x : ℕ) (past : Past) : Type 0 where
  pub waking : Waking (manner past) true true past.seen
  pub next : (stepped : Bool) (shown : ℤ) → NextTo (manner past) past.seen (Acts (Correct mean stepped shown))

-- the port stood for election now, and backed itself
pub record Backed (x : ℕ) (past : Past) : Type 0 where
  pub acts : AlarmsFit (manner past) past.seen
  pub role_is : role past.seen ≡ Candidate
  pub start : Did
  pub before : List Seen
  pub stood_is : stood past.seen ≡ Here start ∷ before
  pub now : start.tick ≡ x
  pub next : (at : ℕ) → NextTo (manner past) past.seen (Acts (Arm Window at))

pub backs_itself : (own : PeerId) → Leads (Became Candidate) (puts (Back own)) Backed
backs_itself own = Leads_puts (Back own) (λ x past h. record {
  acts = (tt, (h.backs refl own, h.acts));
  role_is = h.role_is;
  start = h.start;
  before = h.before;
  stood_is = h.stood_is;
  now = h.now;
  next = λ at. subst (λ b. BackNext b (Acts (Arm Window at))) (sym h.stands) (at, refl);
})

pub candidate_windows : Leads Backed (arms Window WINDOW) Awake
unfolding arms
candidate_windows = record {
  run = λ x past h. record {
    waking = record {
      acts = (refl, (h.next (x + WINDOW), h.acts));
      starting = λ r. other_role Candidate Starting h.role_is r (λ e. let bad : ⊥ = cc in bad);
      candidate = λ r. record { start = h.start; idle = h.before; stood_is = h.stood_is; window_is = ap (λ n. Some (n + WINDOW)) (sym h.now) };
      loose = λ i r. other_role Candidate Loose h.role_is r (λ e. let bad : ⊥ = cc in bad);
      follow = λ i p r. other_role Candidate (Follow p) h.role_is r (λ e. let bad : ⊥ = cc in bad);
      master = λ l r. other_role Candidate Master h.role_is r (λ e. let bad : ⊥ = cc in bad);
    };
    free = refl;
  };
}

-- a port that became Starting at its node's boot, now
pub record Begun (x : ℕ) (past : Past) : Type 0 where
  pub became : Became Starting x past
  pub boot : (held past.seen).boot ≡ x

pub starting_quiets : Leads Begun (arms Quiet QUIET) Awake
unfolding arms
starting_quiets = record {
  run = λ x past h. record {
    waking = record {
      acts = (refl, (free_to (manner past) past.seen _ h.became.free, h.became.acts));
      starting = λ r start before s. ap (λ n. Some (n + QUIET)) (sym h.boot);
      candidate = λ r. other_role Starting Candidate h.became.role_is r (λ e. let bad : ⊥ = cc in bad);
      loose = λ i r. other_role Starting Loose h.became.role_is r (λ e. let bad : ⊥ = cc in bad);
      follow = λ i p r. other_role Starting (Follow p) h.became.role_is r (λ e. let bad : ⊥ = cc in bad);
      master = λ l r. other_role Starting Master h.became.role_is r (λ e. let bad : ⊥ = cc in bad);
    };
    free = refl;
  };
}

-- arming, in whatever role

-- the next act may arm this alarm
pub record Arming (a : Alarm) (idle lead : Bool) (x : ℕ) (past : Past) : Type 0 where
  pub waking : Waking (manner past) idle lead past.seen
  pub next : (at : ℕ) → NextTo (manner past) past.seen (Acts (Arm a at))

pub arming : {idle lead : Bool} (a : Alarm) (x : ℕ) (past : Past) → Nearly idle lead x past → Arming a idle lead x past
arming a x past s = record { waking = s.waking; next = λ at. free_to (manner past) past.seen (Acts (Arm a at)) s.free }

pub arms_any_elect : {idle lead : Bool} → Leads (Arming Elect idle lead) arms_elect (Nearly true lead)
unfolding arms_elect arms
arms_any_elect = Leads_reading delay_at (arms Elect) (λ long. record {
  run = λ x past h. let w = h.0.waking in record {
    waking = record {
      acts = (delay_fits x past long h.1, (h.0.next (x + long), w.acts));
      starting = w.starting;
      candidate = λ r. windowed_keeps _ past.seen refl refl (w.candidate r);
      loose = λ i r. or_right (is_some (armed past.seen).search) true refl;
      follow = λ i q r. refl;
      master = w.master;
    };
    free = refl;
  };
})

-- another candidate is backed, and Elect may be armed anew
pub backs_another : (p : PeerId) → Leads Awake (puts (Back p)) (Arming Elect true true)
backs_another p = Leads_puts (Back p) (λ x past s. let w = s.waking in record {
  waking = record {
    acts = (tt, (free_to (manner past) past.seen (Acts (Back p)) s.free, w.acts));
    starting = w.starting;
    candidate = λ r. windowed_keeps _ past.seen refl refl (w.candidate r);
    loose = w.loose;
    follow = w.follow;
    master = w.master;
  };
  next = λ at. subst (λ b. BackNext b (Acts (Arm Elect at))) (sym (not_standing past.seen s.free)) (at, refl);
})

-- the port follows nobody, and has perhaps nothing armed
pub record Unled (x : ℕ) (past : Past) : Type 0 where
  pub waking : Waking (manner past) false true past.seen
  pub next : (at : ℕ) → NextTo (manner past) past.seen (Acts (Arm Search at))
  pub alone : (p : PeerId) → role past.seen ≡ Follow p → ⊥

pub arms_search : Leads Unled (arms Search WINDOW) Awake
unfolding arms
arms_search = record {
  run = λ x past h. record {
    waking = record {
      acts = (refl, (h.next (x + WINDOW), h.waking.acts));
      starting = h.waking.starting;
      candidate = λ r. windowed_keeps _ past.seen refl refl (h.waking.candidate r);
      loose = λ i r. refl;
      follow = λ i p r. absurd (h.alone p r);
      master = h.waking.master;
    };
    free = refl;
  };
}

-- alarms that no role needs
abbrev pub is_needed : Alarm → Bool
is_needed Probe = false
is_needed CloseAlarm = false
is_needed ResolveAlarm = false
is_needed _ = true

arm_waking : {idle lead : Bool} (a : Alarm) → is_needed a ≡ false → (x at : ℕ) (past : Past) →
    ArmFits a (record { step = past.step; tick = x; deed = Acts (Arm a at) }) past.seen at → NextTo (manner past) past.seen (Acts (Arm a at)) →
    Waking (manner past) idle lead past.seen → Waking (manner past) idle lead (grown x past (Arm a at ∷ [])).seen
arm_waking Probe e x at past fits n w = record {
  acts = (fits, (n, w.acts));
  starting = w.starting;
  candidate = λ r. windowed_keeps _ past.seen refl refl (w.candidate r);
  loose = w.loose;
  follow = w.follow;
  master = w.master;
}
arm_waking CloseAlarm e x at past fits n w = record {
  acts = (fits, (n, w.acts));
  starting = w.starting;
  candidate = λ r. windowed_keeps _ past.seen refl refl (w.candidate r);
  loose = w.loose;
  follow = w.follow;
  master = w.master;
}
arm_waking ResolveAlarm e x at past fits n w = record {
  acts = (fits, (n, w.acts));
  starting = w.starting;
  candidate = λ r. windowed_keeps _ past.seen refl refl (w.candidate r);
  loose = w.loose;
  follow = w.follow;
  master = w.master;
}
arm_waking _ e x at past fits n w = absurd (true≢false e)

-- Probe may be armed: no round begins with it
pub record Probing (x : ℕ) (past : Past) : Type 0 where
  pub awake : Awake x past
  pub other : newest_is arms_round_by past.seen ≡ false

pub arms_probe : Leads Probing (arms Probe PROBE) Awake
unfolding arms
arms_probe = record {
  run = λ x past h. record {
    waking = arm_waking Probe refl x (x + PROBE) past refl (free_to (manner past) past.seen (Acts (Arm Probe (x + PROBE))) h.awake.free) h.awake.waking;
    free = h.other;
  };
}

pub arms_resolve : {idle lead : Bool} → Leads (Nearly idle lead) (arms ResolveAlarm WINDOW) (Nearly idle lead)
unfolding arms
arms_resolve = record {
  run = λ x past h. record {
    waking = arm_waking ResolveAlarm refl x (x + WINDOW) past refl (free_to (manner past) past.seen (Acts (Arm ResolveAlarm (x + WINDOW))) h.free) h.waking;
    free = refl;
  };
}

-- an alarm that is due rings, or is late

-- the port has armed what it needs, and this alarm is due
abbrev pub Due : Alarm → ℕ → Past → Type 0
Due a x past = Awake x past × (is_due a x past ≡ true)

over_is : (o : Option ℕ) (x : ℕ) → is_over o x ≡ true → (at : ℕ) × ((o ≡ Some at) × (at ≤ x))
over_is None x e = absurd (true≢false (sym e))
over_is (Some at) x e = (at, (refl, leb-true at x e))

rings_fits : (a : Alarm) (here : Did) (x : ℕ) (past : Past) → here.tick ≡ x → is_due a x past ≡ true → (a ≢ Quiet → is_in_time a x past ≡ true) →
    RingFits a here past.seen
rings_fits a here x past now due soon =
    let o = over_is (deadline (armed past.seen) a) x due in
    let at = o.1.1 in
    record {
      at = o.0;
      armed_is = o.1.0;
      due = omega (arith, at, now);
      soon = λ n. let met : is_met (Some o.0) x ≡ true = sym (ap (λ k. is_met k x) o.1.0) ∙ soon n in let le = leb-true x (o.0 + SLACK) met in
          omega (arith, le, now);
    }

late_fits : (a : Alarm) (here : Did) (x : ℕ) (past : Past) → here.tick ≡ x → a ≢ Quiet → is_due a x past ≡ true → is_in_time a x past ≡ false →
    LateFits a here past.seen
late_fits a here x past now other due late =
    let o = over_is (deadline (armed past.seen) a) x due in
    let not-met : is_met (Some o.0) x ≡ false = sym (ap (λ k. is_met k x) o.1.0) ∙ late in
    let more = leb-false x (o.0 + SLACK) not-met in
    record { at = o.0; armed_is = o.1.0; late = omega (arith, more, now); other = other }

-- this act on an alarm is the newest, and asks something of the next one
pub record Rang (deed : Deed) (x : ℕ) (past : Past) : Type 0 where
  pub acts : AlarmsFit (manner past) past.seen
  pub older : List Seen
  pub next : (next : Deed) → NextFits (manner past) deed x older next → NextTo (manner past) past.seen next
  pub held_is : held older ≡ held past.seen
  pub is : (test : Deed → Bool) → newest_is test past.seen ≡ test deed

ring_rang : (a : Alarm) (x : ℕ) (past : Past) → RingFits a (record { step = past.step; tick = x; deed = Acts (Ring a) }) past.seen → Awake x past →
    Rang (Acts (Ring a)) x (grown x past (Ring a ∷ []))
ring_rang a x past f s = record {
  acts = (f, (free_to (manner past) past.seen (Acts (Ring a)) s.free, s.waking.acts));
  older = past.seen;
  next = λ n k. k;
  held_is = refl;
  is = λ test. refl;
}

late_rang : (a : Alarm) (x : ℕ) (past : Past) → LateFits a (record { step = past.step; tick = x; deed = Acts (Late a) }) past.seen → Awake x past →
    Rang (Acts (Late a)) x (grown x past (Late a ∷ []))
late_rang a x past f s = record {
  acts = (f, (free_to (manner past) past.seen (Acts (Late a)) s.free, s.waking.acts));
  older = past.seen;
  next = λ n k. k;
  held_is = refl;
  is = λ test. refl;
}

-- alarms that don't end a role
abbrev pub is_lasting : Alarm → Bool
is_lasting Quiet = false
is_lasting Window = false
is_lasting _ = true

-- what stays armed when this alarm goes off
abbrev pub idle_after : Alarm → Bool
idle_after Search = false
idle_after Elect = false
idle_after _ = true

abbrev pub lead_after : Alarm → Bool
lead_after Round = false
lead_after _ = true

module _ (x : ℕ) (past : Past) (s : Awake x past) where
  ring_waking : (a : Alarm) → is_lasting a ≡ true → RingFits a (record { step = past.step; tick = x; deed = Acts (Ring a) }) past.seen →
      Waking (manner past) (idle_after a) (lead_after a) (grown x past (Ring a ∷ [])).seen
  ring_waking Quiet e f = absurd (true≢false (sym e))
  ring_waking Window e f = absurd (true≢false (sym e))
  ring_waking Search e f = let w = s.waking in record {
    acts = (f, (free_to (manner past) past.seen _ s.free, w.acts));
    starting = w.starting;
    candidate = λ r. windowed_keeps _ past.seen refl refl (w.candidate r);
    loose = λ i r. absurd (true≢false (sym i));
    follow =
        λ i p r. absurd (true≢false (sym i));
    master = w.master;
  }
  ring_waking Elect e f = let w = s.waking in record {
    acts = (f, (free_to (manner past) past.seen _ s.free, w.acts));
    starting = w.starting;
    candidate = λ r. windowed_keeps _ past.seen refl refl (w.candidate r);
    loose = λ i r. absurd (true≢false (sym i));
    follow =
        λ i p r. absurd (true≢false (sym i));
    master = w.master;
  }
  ring_waking Round e f = let w = s.waking in record {
    acts = (f, (free_to (manner past) past.seen _ s.free, w.acts));
    starting = w.starting;
    candidate = λ r. windowed_keeps _ past.seen refl refl (w.candidate r);
    loose = w.loose;
    follow = w.follow;
    master = λ l r. absurd (true≢false (sym l));
  }
  ring_waking _ e f = let w = s.waking in record {
    acts = (f, (free_to (manner past) past.seen _ s.free, w.acts));
    starting = w.starting;
    candidate = λ r. windowed_keeps _ past.seen refl refl (w.candidate r);
    loose = w.loose;
    follow = w.follow;
    master = w.master;
  }

  late_waking : (a : Alarm) → is_lasting a ≡ true → LateFits a (record { step = past.step; tick = x; deed = Acts (Late a) }) past.seen →
      Waking (manner past) (idle_after a) (lead_after a) (grown x past (Late a ∷ [])).seen
  late_waking Quiet e f = absurd (true≢false (sym e))
  late_waking Window e f = absurd (true≢false (sym e))
  late_waking Search e f = let w = s.waking in record {
    acts = (f, (free_to (manner past) past.seen _ s.free, w.acts));
    starting = w.starting;
    candidate = λ r. windowed_keeps _ past.seen refl refl (w.candidate r);
    loose = λ i r. absurd (true≢false (sym i));
    follow =
        λ i p r. absurd (true≢false (sym i));
    master = w.master;
  }
  late_waking Elect e f = let w = s.waking in record {
    acts = (f, (free_to (manner past) past.seen _ s.free, w.acts));
    starting = w.starting;
    candidate = λ r. windowed_keeps _ past.seen refl refl (w.candidate r);
    loose = λ i r. absurd (true≢false (sym i));
    follow =
        λ i p r. absurd (true≢false (sym i));
    master = w.master;
  }
  late_waking Round e f = let w = s.waking in record {
    acts = (f, (free_to (manner past) past.seen _ s.free, w.acts));
    starting = w.starting;
    candidate = λ r. windowed_keeps _ past.seen refl refl (w.candidate r);
    loose = w.loose;
    follow = w.follow;
    master = λ l r. absurd (true≢false (sym l));
  }
  late_waking _ e f = let w = s.waking in record {
    acts = (f, (free_to (manner past) past.seen _ s.free, w.acts));
    starting = w.starting;
    candidate = λ r. windowed_keeps _ past.seen refl refl (w.candidate r);
    loose = w.loose;
    follow = w.follow;
    master = w.master;
  }

-- the newest act and what is armed
pub record Off (a : Alarm) (deed : Deed) (x : ℕ) (past : Past) : Type 0 where
  pub rang : Rang deed x past
  pub waking : Waking (manner past) (idle_after a) (lead_after a) past.seen

-- a due alarm that ends no role rings in time
pub rings_off : (a : Alarm) → is_lasting a ≡ true → Leads (λ x past. Due a x past × (is_in_time a x past ≡ true)) (puts (Ring a)) (Off a (Acts (Ring a)))
rings_off a lasts = Leads_puts (Ring a) (λ x past h.
    let f = rings_fits a (record { step = past.step; tick = x; deed = Acts (Ring a) }) x past refl h.0.1 (λ n. h.1) in
    record { rang = ring_rang a x past f h.0.0; waking = ring_waking x past h.0.0 a lasts f })

-- it is late
pub late_off : (a : Alarm) → is_lasting a ≡ true → a ≢ Quiet → Leads (λ x past. Due a x past × (is_in_time a x past ≡ false)) (puts (Late a))
    (Off a (Acts (Late a)))
late_off a lasts other = Leads_puts (Late a) (λ x past h.
    let f = late_fits a (record { step = past.step; tick = x; deed = Acts (Late a) }) x past refl other h.0.1 h.1 in
    record { rang = late_rang a x past f h.0.0; waking = late_waking x past h.0.0 a lasts f })

-- Quiet rings whenever it is due
pub quiet_off : Leads (Due Quiet) (puts (Ring Quiet)) (Rang (Acts (Ring Quiet)))
quiet_off = Leads_puts (Ring Quiet) (λ x past h. ring_rang Quiet x past (rings_fits Quiet _ x past refl h.1 (λ n. absurd (n refl))) h.0)

-- Window rings in time, or is late
pub window_off : Leads (λ x past. Due Window x past × (is_in_time Window x past ≡ true)) (puts (Ring Window)) (Rang (Acts (Ring Window)))
window_off = Leads_puts (Ring Window) (λ x past h. ring_rang Window x past (rings_fits Window _ x past refl h.0.1 (λ n. h.1)) h.0.0)

pub window_late : Leads (λ x past. Due Window x past × (is_in_time Window x past ≡ false)) (puts (Late Window)) (Rang (Acts (Late Window)))
window_late = Leads_puts (Late Window) (λ x past h. late_rang Window x past (late_fits Window _ x past refl (λ e. let bad : ⊥ = cc in bad) h.0.1 h.1) h.0.0)

-- a role that an alarm's act asks for
pub ready_by : {deed : Deed} (r : Role) → ((m : Manner) (x : ℕ) (older : List Seen) → NextFits m deed x older (Acts (Become r))) → (x : ℕ) (past : Past) →
    Rang deed x past → Ready r x past
ready_by r k x past h = record { acts = h.acts; next = h.next (Acts (Become r)) (k (manner past) x h.older) }

-- an alarm that it asks for
pub arming_by : {deed : Deed} (a b : Alarm) → ((m : Manner) (x : ℕ) (older : List Seen) (at : ℕ) → NextFits m deed x older (Acts (Arm b at))) →
    (x : ℕ) (past : Past) → Off a deed x past → Arming b (idle_after a) (lead_after a) x past
arming_by a b k x past h = record { waking = h.waking; next = λ at. h.rang.next (Acts (Arm b at)) (k (manner past) x h.rang.older at) }

-- an act on an alarm that asks nothing
pub settled_by : {deed : Deed} (a : Alarm) → (x : ℕ) (past : Past) → owes_next past.seen ≡ false → Off a deed x past →
    Nearly (idle_after a) (lead_after a) x past
settled_by a x past free h = record { waking = h.waking; free = free }

-- a far act that is asked for
pub far_by : {deed : Deed} (a : Alarm) (act : Act) → is_far act ≡ true → ((m : Manner) (x : ℕ) (older : List Seen) → NextFits m deed x older (Acts act)) →
    Leads (Off a deed) (puts act) (Nearly (idle_after a) (lead_after a))
far_by a act far k = Leads_puts act (λ x past h. record {
  waking = far_waking act far x past (h.rang.next (Acts act) (k (manner past) x h.rang.older)) h.waking;
  free = far_free act far x past;
})

close_waking : (count : ℕ) (lo size mean : ℤ) (x : ℕ) (past : Past) → NextTo (manner past) past.seen (Acts (Close count lo size mean)) →
    Waking (manner past) true true past.seen → Waking (manner past) true true (grown x past (Close count lo size mean ∷ [])).seen
close_waking count lo size mean x past n w = record {
  acts = (tt, (n, w.acts));
  starting = w.starting;
  candidate = λ r. windowed_keeps _ past.seen refl refl (w.candidate r);
  loose = w.loose;
  follow = w.follow;
  master = w.master;
}

close_next : (mean : ℤ) (stepped : Bool) (shown : ℤ) → CloseNext (is_zero mean) mean (Acts (Correct mean stepped shown))
close_next mean stepped shown = by_zero (is_zero mean) where
  by_zero : (b : Bool) → CloseNext b mean (Acts (Correct mean stepped shown))
  by_zero true = tt
  by_zero false = (stepped, (shown, refl))

-- a round closes with any mean
pub closes_by : (count : ℕ) (lo size mean : ℤ) → Leads (Off CloseAlarm (Acts (Ring CloseAlarm))) (puts (Close count lo size mean)) (Closed mean)
closes_by count lo size mean = Leads_puts (Close count lo size mean) (λ x past h. record {
  waking = close_waking count lo size mean x past (h.rang.next (Acts (Close count lo size mean)) (inl (count, (lo, (size, (mean, refl)))))) h.waking;
  next = λ stepped shown. close_next mean stepped shown;
})

-- with the mean 0 nothing is asked
pub closes_still : (count : ℕ) (lo size : ℤ) → Leads (Off CloseAlarm (Acts (Ring CloseAlarm))) (puts (Close count lo size (pos 0))) Awake
closes_still count lo size = Leads_puts (Close count lo size (pos 0)) (λ x past h. record {
  waking = close_waking count lo size (pos 0) x past (h.rang.next (Acts (Close count lo size (pos 0))) (inl (count, (lo, (size, (pos 0, refl)))))) h.waking;
  free = refl;
})

-- the clock is moved by the mean
pub corrects_by_mean : (mean : ℤ) → Leads (Closed mean) (adjusts mean) Awake
unfolding adjusts
corrects_by_mean mean = record { run = λ x past h. record { waking = far_waking _ refl x past (h.next _ _) h.waking; free = refl } }

-- Round is armed again, for a round or to wait

round_waking : (x at : ℕ) (past : Past) → ArmFits Round (record { step = past.step; tick = x; deed = Acts (Arm Round at) }) past.seen at →
    NextTo (manner past) past.seen (Acts (Arm Round at)) → Waking (manner past) true false past.seen →
    Waking (manner past) true true (grown x past (Arm Round at ∷ [])).seen
round_waking x at past fits n w = record {
  acts = (fits, (n, w.acts));
  starting = w.starting;
  candidate = λ r. windowed_keeps _ past.seen refl refl (w.candidate r);
  loose = w.loose;
  follow = w.follow;
  master = λ l r. refl;
}

pub late_round : Leads (Off Round (Acts (Late Round))) (arms Round ROUND) Awake
unfolding arms
late_round = record {
  run = λ x past h. record {
    waking = round_waking x (x + ROUND) past (inl refl, h.rang.is rounds_by) (h.rang.next (Acts (Arm Round (x + ROUND))) (x + ROUND, refl)) h.waking;
    free = and_left (newest_is rings_round past.seen) (nat_le (x + ROUND) (x + ROUND)) (h.rang.is rings_round);
  };
}

pub wait_round : Leads (Off Round (Acts (Ring Round))) (arms Round WAIT) Awake
unfolding arms
wait_round = record {
  run = λ x past h. record {
    waking = round_waking x (x + WAIT) past (inr refl, h.rang.is rounds_by) (h.rang.next (Acts (Arm Round (x + WAIT))) (x + WAIT, refl)) h.waking;
    free = and_right (newest_is rings_round past.seen) (nat_le (x + ROUND) (x + WAIT)) (lt-leb (x + ROUND) (x + WAIT) (omega arith));
  };
}

-- a round begins: Round is armed, then Probe, then Close
pub record RoundArmed (x : ℕ) (past : Past) : Type 0 where
  pub waking : Waking (manner past) true true past.seen
  pub next : (at : ℕ) → NextTo (manner past) past.seen (Acts (Arm Probe at))

pub record ProbeArmed (x : ℕ) (past : Past) : Type 0 where
  pub waking : Waking (manner past) true true past.seen
  pub next : (at : ℕ) → NextTo (manner past) past.seen (Acts (Arm CloseAlarm at))

round_next : (b : Bool) (at : ℕ) → RoundNext b (Acts (Arm Probe at))
round_next true at = (at, refl)
round_next false at = tt

probe_next : (b : Bool) (at : ℕ) → ProbeNext b (Acts (Arm CloseAlarm at))
probe_next true at = (at, refl)
probe_next false at = tt

pub begin_round : Leads (Off Round (Acts (Ring Round))) (arms Round ROUND) RoundArmed
unfolding arms
begin_round = record {
  run = λ x past h. record {
    waking = round_waking x (x + ROUND) past (inl refl, h.rang.is rounds_by) (h.rang.next (Acts (Arm Round (x + ROUND))) (x + ROUND, refl)) h.waking;
    next = λ at. round_next (begins_round past.seen x (x + ROUND)) at;
  };
}

pub probe_round : Leads RoundArmed (arms Probe PROBE) ProbeArmed
unfolding arms
probe_round = record {
  run = λ x past h. record {
    waking = arm_waking Probe refl x (x + PROBE) past refl (h.next (x + PROBE)) h.waking;
    next = λ at. probe_next (newest_is arms_round_by past.seen) at;
  };
}

pub close_round : Leads ProbeArmed (arms CloseAlarm CLOSE) Awake
unfolding arms
close_round = record { run = λ x past h. record { waking = arm_waking CloseAlarm refl x (x + CLOSE) past refl (h.next (x + CLOSE)) h.waking; free = refl } }
