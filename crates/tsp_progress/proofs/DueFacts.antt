-- In a stretch without a master: a node that hears of no candidate stands when its delay is over.
use Rattle.std.proofs.Common.{sym, ap, subst, arith, true≢false, inl, inr, ◌∙◌, ◌≡◌, ◌≢◌, ◌≤◌, ◌<◌, ℕ, ◌+◌, ◌*◌, ◌||◌, Bool, true, false}
use Rattle.std.proofs.Common.{List, [], ◌∷◌, Option, None, Some, is_some, le-leb, refl}
use Rattle.std.proofs.lemmas.Bool.{cases_lt}
use Rattle.tsp_rules.specs.Values.{Act, Alarm, Arm, Back, Become, Boot, Late, Quit, Ring, Elect, Message, PeerId, Peer, Quiet, Role, Candidate}
use Rattle.tsp_rules.specs.Values.{Follow, Loose, Master, Search, Starting, ELECT_MIN, WINDOW}
use Rattle.tsp_rules.specs.{CommonRows.is_idle, Guards.delay, Guards.is_starting_role}
use Rattle.tsp_base.specs.Words.{Acts, Begins, Deed, Did, Elsewhere, HeaderValue, Held, Here, Line, Receives, Seen, TakesFrom, Within, armed, deadline, dids}
use Rattle.tsp_base.specs.Words.{first_port, held, held_after, is_past, is_shared, of, plain, role, role_after, taken, tick_of, time_of, view, word}
use Rattle.tsp_base.proofs.PlaceLemmas.{Within_all, Within_tail, Within_through}
use Rattle.tsp_base.proofs.Views.{plain_view}
use Rattle.tsp_promises.specs.{Fits.node_of, QuitFits.QuitFits, Setting.Setting}
use Rattle.tsp_promises.proofs.{shared.Clocks.near, shared.Clocks.tick_mono, shared.ElectionFacts.stood_at, shared.EverywhereLemmas.Everywhere_at}
use Rattle.tsp_promises.proofs.{shared.HistoryPlaces.Within_of, shared.HistoryPlaces.line_on}
use Rattle.tsp_promises.proofs.promised.OwnFitsProof.{Located, deed_fits, fits_at, fits_in, locate, place_time, tick_in}
use Rattle.tsp_run.specs.{Clocked.Clocks, Setup.node_line}
use Rattle.tsp_progress.specs.AlarmsFit.{AlarmFits, Manner, newest_is}
use Rattle.tsp_progress.specs.{CausesFit.backs_by, CausesFit.elects_by, CausesFit.seeks_by, Headless.delay_of, InTime.CandidatureEnds, InTime.last_arm}
use Rattle.tsp_progress.specs.{Motives.MotiveFits, Motives.TookCall, Motives.frees_by, Calling.is_masters, Motives.seeks_after, Motives.seeks_now}
use Rattle.tsp_progress.specs.{RunsWake.manner_of, Stands.AfterElect, Stands.StandsOn, Wakes.Wakes, Wakes.WokenAt, Watched.AttendedAt, Watched.Watched}
use Rattle.tsp_progress.proofs.{AloneProof.PacedAt, FollowCalls.Cut, FollowCalls.LastArm, FollowCalls.cut, FollowCalls.last_arm_at, FollowHeard.paced_at}
use Rattle.tsp_progress.proofs.{FollowProof.owes_at}
use Rattle.tsp_progress.proofs.{InTimeProof.PlaceOf, InTimeProof.ahead_most, InTimeProof.armed_place, InTimeProof.attended_in_time, InTimeProof.told_in_time}
use Rattle.tsp_progress.proofs.{NeverLateProof.never_late, PaceProof.paced, SearchKept.alarms_within, SearchKept.view_within, StandsProof.stands_on}
use Rattle.tsp_progress.proofs.StretchFacts.{Candidacy, Stretch, after_s, nil_in, no_call, source, stood_last, stood_soon, term}
use Rattle.tsp_progress.proofs.WaveBacks.{backed_for}
use Rattle.tsp_progress.proofs.WaveFacts.{act_time, rise_of, word_same}

-- where the last QUIT was noted
record QuitAt (x : ℕ) (seen : List Seen) : Type 0 where
  pub did : Did
  pub before : List Seen
  pub place : Within (Here did ∷ before) seen
  pub from : PeerId
  pub deed : did.deed ≡ Acts (Quit from)
  pub tick : did.tick ≡ x

some_same : (a b : ℕ) → Some a ≡ Some b → a ≡ b
some_same a b e = cc

quit_at : (x : ℕ) (seen : List Seen) → (held seen).quit ≡ Some x → QuitAt x seen
quit_at x [] e = let bad : ⊥ = cc in absurd bad
quit_at x (Elsewhere d ∷ rest) e = let o = quit_at x rest e in
    record { did = o.did; before = o.before; place = inr o.place; from = o.from; deed = o.deed; tick = o.tick }
quit_at x (Here d ∷ rest) e = by_deed d.deed refl e (λ f. quit_at x rest f) where
  by_deed : (deed : Deed) → d.deed ≡ deed → (held_after deed d.tick (held rest)).quit ≡ Some x → ((held rest).quit ≡ Some x → QuitAt x rest) →
      QuitAt x (Here d ∷ rest)
  by_deed (Acts Boot) is f more = let bad : ⊥ = cc in absurd bad
  by_deed (Acts (Quit p)) is f more = record { did = d; before = rest; place = inl refl; from = p; deed = is; tick = some_same d.tick x f }
  by_deed _ is f more = let o = more f in
      record { did = o.did; before = o.before; place = inr o.place; from = o.from; deed = o.deed; tick = o.tick }

-- the debt of standing at a place
stands_there : (m : Manner) (d : Did) (before seen : List Seen) → Within (Here d ∷ before) seen → StandsOn m seen → AfterElect m before d.deed
stands_there m d before [] w f = let bad : ⊥ = cc in absurd bad
stands_there m d before (Here c ∷ rest) (inl e) f = head (Here c ∷ rest) e f where
  head : (z : List Seen) → Here d ∷ before ≡ z → StandsOn m z → AfterElect m before d.deed
  head z is g = (subst (λ v. StandsOn m v) (sym is) g).0
stands_there m d before (Elsewhere c ∷ rest) (inl e) f = let bad : ⊥ = cc in absurd bad
stands_there m d before (Here c ∷ rest) (inr w) f = stands_there m d before rest w f.1
stands_there m d before (Elsewhere c ∷ rest) (inr w) f = stands_there m d before rest w f

-- an entry and what is before it
record Newest (test : Deed → Bool) (seen : List Seen) : Type 0 where
  pub last : Did
  pub older : List Seen
  pub is : seen ≡ Here last ∷ older
  pub holds : test last.deed ≡ true

newest_of : (test : Deed → Bool) (seen : List Seen) → newest_is test seen ≡ true → Newest test seen
newest_of test [] e = absurd (true≢false (sym e))
newest_of test (Here d ∷ older) e = record { last = d; older = older; is = refl; holds = e }
newest_of test (Elsewhere d ∷ older) e = absurd (true≢false (sym e))

elect_is : (deed : Deed) → elects_by deed ≡ true → deed ≡ Acts (Ring Elect)
elect_is (Acts (Ring Elect)) e = refl
elect_is _ e = absurd (true≢false (sym e))

-- from when on a port that may stand does so when its Elect rings, and from when on it searches no more
abbrev pub free_from : ℕ → ℕ → ℕ
free_from from long = from + long + ELECT_MIN + WINDOW

abbrev pub rest_from : ℕ → ℕ → ℕ
rest_from from long = free_from from long + 2 * WINDOW

module _ {clocks : Clocks} {header : HeaderValue} {setting : Setting} {late long t : ℕ} {stays : ℕ → Bool} {s world : List Line}
    (k : Stretch clocks header setting late long t stays s world) (c : ℕ) (there : stays c ≡ true) (may : (node_line header c).may ≡ true) where
  abbrev S : ℕ
  S = time_of (dids s)

  abbrev Whole : List Seen
  Whole = view first_port (of c world)

  -- a deed of c that isn't shared, and its line
  module _ (d : Did) (before : List Seen) (place : Within (Here d ∷ before) Whole) (act : Act) (is : d.deed ≡
      Acts act) (l : Located c first_port world d before)
    where
      abbrev L : Line
      L = line_on first_port d

      place-tick : d.tick ≡ setting.tick c d.step.at
      place-tick = tick_in setting c L l.older world k.fits l.node l.place

      place-motive : MotiveFits (Acts act) d before
      place-motive = subst (λ z. MotiveFits z d before) is (owes_at MotiveFits d before Whole place (k.motives c first_port))

      place-pace : PacedAt late (Here d) before
      place-pace = paced_at late (Here d) before Whole place
          (paced setting late world k.fits k.attended (manner_of header c) c first_port (k.wakes c first_port).acts)

      place-level : d.tick ≡ tick_of (plain before)
      place-level = place-pace.level act is

      seen-there : view first_port (of (node_of L) l.older) ≡ before
      seen-there = ap (λ z. view first_port (of z l.older)) l.node ∙ l.before

      place-inside : Within l.older world
      place-inside = Within_tail L l.older world l.place

      place-time : time_of (dids l.older) ≡ d.step.at
      place-time = act_time k L l.older act l.place is

      -- no master's word was taken
      uncalled : TookCall before → S + long < d.step.at → d.step.at ≤ t → ⊥
      uncalled q settled until =
          let took = subst (λ v. TakesFrom v (Peer q.from) (Message q.message)) (sym seen-there) q.took in
          let o = source k L l.older l.place settled act is refl (Peer q.from) q.message took in
          no_call k o q.call until

      place-since : S < d.step.at → Within s l.older
      place-since less = after_s k L l.older l.place less

  -- a QUIT was noted by then, if at all
  quit-early : (h : List Line) → Within h world → time_of (dids h) ≤ t → (x : ℕ) → (held (view first_port (of c h))).quit ≡ Some x →
      x ≤ setting.tick c (S + long)
  quit-early h inside until x e =
      let q = quit_at x (view first_port (of c h)) e in
      let w = Within_through (Here q.did ∷ q.before) (view first_port (of c h)) Whole q.place
      (view_within first_port (of c h) (of c world) (Within_of c h world inside)) in
      let deed = q.deed in
      let near_h = locate c first_port h q.did q.before (rw deed refl) q.place in
      let l : Located c first_port world q.did q.before = record {
        older = near_h.older;
        place = Within_through (line_on first_port q.did ∷ near_h.older) h world near_h.place inside;
        node = near_h.node;
        before = near_h.before;
      } in
      let order = place_time setting (line_on first_port q.did ∷ near_h.older) h (fits_at setting h world k.fits inside) near_h.place in
      let own = place-tick q.did q.before w (Quit q.from) deed l in
      let tick = q.tick in
      elim (cases_lt (S + long) q.did.step.at) [
        | inl more ↦
            let f : QuitFits (view first_port (of (node_of (line_on first_port q.did)) l.older)) q.from =
            deed_fits setting (line_on first_port q.did) l.older (Acts (Quit q.from)) deed (fits_in setting (line_on first_port q.did) l.older world k.fits
            l.place) in
            let taken_is : Receives q.before q.from (Message f.message) =
            ap taken (sym (seen-there q.did q.before w (Quit q.from) deed l)) ∙ (ap taken f.is ∙ (let d = f.deed in rw d refl)) in
            absurd (uncalled q.did q.before w (Quit q.from) deed l
            (record { from = q.from; message = f.message; took = taken_is; call = ap is_masters f.kind }) more (omega (arith, order, until)))
        | inr le ↦ let mono = tick_mono setting c q.did.step.at (S + long) le in omega (arith, own, tick, mono)
      ]

  past_by : (o : Option ℕ) (x : ℕ) → ((q : ℕ) → o ≡ Some q → q + ELECT_MIN ≤ x) → is_past o ELECT_MIN x ≡ true
  past_by None x f = refl
  past_by (Some q) x f = le-leb (q + ELECT_MIN) x (f q refl)

  stands-all : StandsOn (manner_of header c) Whole
  stands-all = stands_on (manner_of header c) Whole (k.wakes c first_port).acts (rise_of k c world (Within_all world))

  -- after Elect rang it stands
  module _ (d : Did) (before : List Seen) (place : Within (Here d ∷ before) Whole) (act : Act) (is : d.deed ≡ Acts act)
      (l : Located c first_port world d before) (late_enough : free_from S long < d.step.at) (until : d.step.at ≤ t) where
    rang-stands : (r : Did) (rest : List Seen) → before ≡ Here r ∷ rest → r.deed ≡ Acts (Ring Elect) → d.deed ≡ Acts (Become Candidate)
    rang-stands r rest was rang =
        let time = place-time d before place act is l in
        let inside = place-inside d before place act is l in
        let level : d.tick ≡ r.tick = place-level d before place act is l ∙ ap (λ z. tick_of (plain z)) was in
        let own = place-tick d before place act is l in
        let held_is : held before ≡ held rest = ap held was ∙ ap (λ z. held_after z r.tick (held rest)) rang in
        let nr = near setting c (S + long) d.step.at (omega (arith, late_enough)) in
        let least = nr.least in
        let after : AfterElect (manner_of header c) (Here r ∷ rest) d.deed =
        subst (λ z. AfterElect (manner_of header c) z d.deed) was (stands_there (manner_of header c) d before Whole place stands-all) in
        after rang may (past_by (held rest).quit r.tick (λ q e.
        let low = quit-early l.older inside (omega (arith, time, until)) q (ap (λ z. (held z).quit) l.before ∙ (ap (λ (z : Held). z.quit) held_is ∙ e)) in
        omega (arith, low, level, own, least, late_enough)))

    not-starting : is_starting_role (role before) ≡ false
    not-starting = ap (λ z. is_starting_role (role z)) (sym l.before) ∙ k.up c there l.older
        (place-since d before place act is l (omega (arith, late_enough))) (place-inside d before place act is l)

    not-master : role before ≡ Master → ⊥
    not-master e = k.headless l.older (place-inside d before place act is l) (place-since d before place act is l (omega (arith, late_enough)))
        (let time = place-time d before place act is l in omega (arith, time, until)) c there (ap role l.before ∙ e)

  -- a deed before another one is at its time, or 2 microseconds before
  module _ (d r : Did) (before rest : List Seen) (place : Within (Here d ∷ before) Whole) (act : Act) (is : d.deed ≡ Acts act)
      (l : Located c first_port world d before) (was : before ≡ Here r ∷ rest) (unshared_r : is_shared r.deed ≡ false) where
    prior-in : Within (Here r ∷ rest) Whole
    prior-in = subst (λ z. Within z Whole) was (Within_tail (Here d) before Whole place)

    prior-line : Located c first_port world r rest
    prior-line =
        let inner : Within (Here r ∷ rest) (view first_port (of c l.older)) = subst (λ z. Within (Here r ∷ rest) z) (sym (l.before ∙ was))
        (Within_all (Here r ∷ rest)) in
        let o = locate c first_port l.older r rest unshared_r inner in
        record {
          older = o.older;
          place = Within_through (line_on first_port r ∷ o.older) l.older world o.place (place-inside d before place act is l);
          node = o.node;
          before = o.before;
        }

    prior-early : r.step.at ≤ d.step.at
    prior-early =
        let inner : Within (Here r ∷ rest) (view first_port (of c l.older)) = subst (λ z. Within (Here r ∷ rest) z) (sym (l.before ∙ was))
        (Within_all (Here r ∷ rest)) in
        let o = locate c first_port l.older r rest unshared_r inner in
        let order = place_time setting (line_on first_port r ∷ o.older) (line_on first_port d ∷ l.older)
        (fits_at setting (line_on first_port d ∷ l.older) world k.fits l.place) (inr o.place) in
        order

    prior-tick : d.tick ≡ r.tick
    prior-tick = place-level d before place act is l ∙ ap (λ z. tick_of (plain z)) was

    prior-soon : d.step.at ≤ r.step.at + 3
    prior-soon =
        let order = prior-early in
        let nr = near setting c r.step.at d.step.at order in
        let least = nr.least in
        let same = prior-tick in
        let own = place-tick d before place act is l in
        let p = prior-line in
        let other = tick_in setting c (line_on first_port r) p.older world k.fits p.node p.place in
        omega (arith, least, same, own, other)

  shared-none : (deed : Deed) (a : Act) → deed ≡ Acts a → is_shared (Acts a) ≡ false → is_shared deed ≡ false
  shared-none deed a e n = ap is_shared e ∙ n

  -- why it becomes Loose
  module _ (d : Did) (before : List Seen) (place : Within (Here d ∷ before) Whole) (is : d.deed ≡ Acts (Become Loose))
      (l : Located c first_port world d before) (late_enough : free_from S long < d.step.at) (until : d.step.at ≤ t) where
    loose-candidate : role before ≡ Candidate
    loose-candidate = by_role (role before) refl (place-motive d before place (Become Loose) is l) where
      idle-no : (newest_is elects_by before ≡ true) → {A : Type 0} → A
      idle-no e =
          let n = newest_of elects_by before e in
          let stands = rang-stands d before place (Become Loose) is l late_enough until n.last n.older n.is (elect_is n.last.deed n.holds) in
          let bad : Acts (Become Loose) ≡ Acts (Become Candidate) = sym is ∙ stands in
          absurd (no_same bad)
        where
          no_same : Acts (Become Loose) ≡ Acts (Become Candidate) → ⊥
          no_same e = cc

      by_role : (r : Role) → role before ≡ r → (is_idle (role before) ≡ true → newest_is elects_by before ≡ true) → role before ≡ Candidate
      by_role Loose e f = idle-no (f (ap is_idle e))
      by_role (Follow p) e f = idle-no (f (ap is_idle e))
      by_role Candidate e f = e
      by_role Master e f = absurd (not-master d before place (Become Loose) is l late_enough until e)
      by_role Starting e f = absurd (true≢false (sym (ap is_starting_role e) ∙ not-starting d before place (Become Loose) is l late_enough until))

    -- so it stood not long before
    loose-stood : (z : ℕ) × (Candidacy c z world × ((z ≤ d.step.at) × (d.step.at ≤ z + term late)))
    loose-stood =
        let time = place-time d before place (Become Loose) is l in
        let o = stood_soon k c there l.older (place-inside d before place (Become Loose) is l) (omega (arith, time, until))
        (ap role l.before ∙ loose-candidate) in
        let low = o.early in
        let high = o.soon in
        (o.at, (o.standing, (omega (arith, low, time), omega (arith, high, time))))

  -- a port that is free to stand doesn't search
  module _ (d : Did) (before : List Seen) (place : Within (Here d ∷ before) Whole) (at : ℕ) (is : d.deed ≡ Acts (Arm Search at))
      (late_enough : free_from S long + 3 < d.step.at) (until : d.step.at ≤ t) where
    search-line : Located c first_port world d before
    search-line = locate c first_port world d before (shared-none d.deed (Arm Search at) is refl) place

    search-no : ⊥
    search-no = by_list before refl (place-motive d before place (Arm Search at) is search-line) where
      no_same : Acts (Arm Search at) ≡ Acts (Become Candidate) → ⊥
      no_same e = cc

      loose_same : Acts (Become Loose) ≡ Acts (Become Candidate) → ⊥
      loose_same e = cc

      by_frees : (r : Did) (rest : List Seen) → before ≡ Here r ∷ rest → r.deed ≡ Acts (Become Loose) → newest_is frees_by rest ≡ true → ⊥
      by_frees r rest was loose e =
          let n = newest_of frees_by rest e in
          let un = shared-none r.deed (Become Loose) loose refl in
          let inside = prior-in d r before rest place (Arm Search at) is search-line was un in
          let l = prior-line d r before rest place (Arm Search at) is search-line was un in
          let soon = prior-soon d r before rest place (Arm Search at) is search-line was un in
          let early = prior-early d r before rest place (Arm Search at) is search-line was un in
          let candidate = loose-candidate r rest inside loose l (omega (arith, soon, late_enough)) (omega (arith, early, until)) in
          by_last r rest inside loose l (omega (arith, soon, late_enough)) (omega (arith, early, until)) n.last n.older n.is n.last.deed refl n.holds candidate
        where
          by_last : (r : Did) (rest : List Seen) → Within (Here r ∷ rest) Whole → r.deed ≡ Acts (Become Loose) → Located c first_port world r rest →
              free_from S long < r.step.at → r.step.at ≤ t → (q : Did) (older : List Seen) → rest ≡ Here q ∷ older → (deed : Deed) → q.deed ≡ deed →
              frees_by deed ≡ true → role rest ≡ Candidate → ⊥
          by_last r rest inside loose l late_ until_ q older was2 (Acts (Ring Elect)) ring f e =
              loose_same (sym loose ∙ rang-stands r rest inside (Become Loose) loose l late_ until_ q older was2 ring)
          by_last r rest inside loose l late_ until_ q older was2 (Acts (Ring Quiet)) ring f e =
              let w = Within_tail (Here r) rest Whole inside in
              let w' = subst (λ z. Within z Whole) was2 w in
              let m : is_starting_role (role older) ≡ true = subst (λ z. MotiveFits z q older) ring
              (owes_at MotiveFits q older Whole w' (k.motives c first_port)) in
              let same : role rest ≡ role older = ap role was2 ∙ ap (λ z. role_after z (role older)) ring in
              true≢false (sym m ∙ (ap is_starting_role (sym same ∙ e)))
          by_last r rest inside loose l late_ until_ q older was2 _ ring f e = true≢false (sym f)

      by_deed : (r : Did) (rest : List Seen) → before ≡ Here r ∷ rest → (deed : Deed) → r.deed ≡ deed → seeks_after deed rest ≡ true → ⊥
      by_deed r rest was (Acts (Ring Elect)) e f =
          no_same (sym is ∙ rang-stands d before place (Arm Search at) is search-line (omega (arith, late_enough)) until r rest was e)
      by_deed r rest was (Acts (Become Loose)) e f = by_frees r rest was e f
      by_deed r rest was _ e f = true≢false (sym f)

      by_list : (seen : List Seen) → before ≡ seen → seeks_now seen ≡ true → ⊥
      by_list [] was e = true≢false (sym e)
      by_list (Elsewhere r ∷ rest) was e = true≢false (sym e)
      by_list (Here r ∷ rest) was e = by_deed r rest was r.deed refl e

  late-no : (d : Did) (before : List Seen) (a : Alarm) → Within (Here d ∷ before) Whole → d.deed ≡ Acts (Late a) → ⊥
  late-no d before a w is =
      let l = locate c first_port world d before (rw is refl) w in
      Everywhere_at (λ l before. (a : Alarm) → l.did.deed ≢ Acts (Late a)) (line_on first_port d) l.older world
      (never_late (manner_of header) setting late world k.fits k.wakes k.attended k.slack) l.place a is

  -- nor does it arm its Elect, if nobody stood not long before
  module _ (d : Did) (before : List Seen) (place : Within (Here d ∷ before) Whole) (at : ℕ) (is : d.deed ≡ Acts (Arm Elect at))
      (late_enough : rest_from S long < d.step.at) (until : d.step.at ≤ t)
      (free : (z w : ℕ) → Candidacy z w world → w ≤ d.step.at → d.step.at ≤ w + term late + long + 10 → ⊥) where
    arm-line : Located c first_port world d before
    arm-line = locate c first_port world d before (shared-none d.deed (Arm Elect at) is refl) place

    arm-no : ⊥
    arm-no = elim (place-motive d before place (Arm Elect at) is arm-line) [
      | inl e ↦ let n = newest_of seeks_by before e in by_seeks n.last n.older n.is n.last.deed refl n.holds
      | inr (inl e) ↦ let n = newest_of backs_by before e in by_back n.last n.older n.is n.last.deed refl n.holds
      | inr (inr q) ↦ uncalled d before place (Arm Elect at) is arm-line q (omega (arith, late_enough)) until
    ] where
      by_back : (r : Did) (rest : List Seen) → before ≡ Here r ∷ rest → (deed : Deed) → r.deed ≡ deed → backs_by deed ≡ true → ⊥
      by_back r rest was (Acts (Back p)) e f =
          let un = shared-none r.deed (Back p) e refl in
          let inside = prior-in d r before rest place (Arm Elect at) is arm-line was un in
          let soon = prior-soon d r before rest place (Arm Elect at) is arm-line was un in
          let early = prior-early d r before rest place (Arm Elect at) is arm-line was un in
          let b = backed_for k c there r rest inside p e (omega (arith, soon, late_enough)) (omega (arith, early, until)) in
          let low = b.stood.early in
          let high = b.stood.soon in
          free b.x b.stood.at b.stood.stood (omega (arith, low, early)) (omega (arith, high, soon))
      by_back r rest was _ e f = true≢false (sym f)

      by_loose : (r : Did) (rest : List Seen) → before ≡ Here r ∷ rest → r.deed ≡ Acts (Become Loose) → ⊥
      by_loose r rest was e =
          let un = shared-none r.deed (Become Loose) e refl in
          let inside = prior-in d r before rest place (Arm Elect at) is arm-line was un in
          let l = prior-line d r before rest place (Arm Elect at) is arm-line was un in
          let soon = prior-soon d r before rest place (Arm Elect at) is arm-line was un in
          let early = prior-early d r before rest place (Arm Elect at) is arm-line was un in
          let o = loose-stood r rest inside e l (omega (arith, soon, late_enough)) (omega (arith, early, until)) in
          let low = o.1.1.0 in
          let high = o.1.1.1 in
          free c o.0 o.1.0 (omega (arith, low, early)) (omega (arith, high, soon))

      by_search : (r : Did) (rest : List Seen) → before ≡ Here r ∷ rest → r.deed ≡ Acts (Ring Search) → ⊥
      by_search r rest was e =
          let un = shared-none r.deed (Ring Search) e refl in
          let inside = prior-in d r before rest place (Arm Elect at) is arm-line was un in
          let l = prior-line d r before rest place (Arm Elect at) is arm-line was un in
          let soon = prior-soon d r before rest place (Arm Elect at) is arm-line was un in
          let early = prior-early d r before rest place (Arm Elect at) is arm-line was un in
          let f = alarms_within (manner_of header c) (Here r ∷ rest) Whole inside (k.wakes c first_port).acts in
          let ring = subst (λ z. AlarmFits z r rest) e f.0 in
          let p = armed_place (manner_of header c) Search ring.at rest f.1.1 ring.armed_is in
          let a = last_arm_at Search rest p.arm p.idle p.last in
          let inner = Within_through (Here p.arm ∷ p.idle) rest Whole a.place (Within_tail (Here r) rest Whole inside) in
          let al = locate c first_port world p.arm p.idle (shared-none p.arm.deed (Arm Search a.at) a.deed refl) inner in
          let arm-tick = place-tick p.arm p.idle inner (Arm Search a.at) a.deed al in
          let own = place-tick r rest inside (Ring Search) e l in
          let due = ring.soon (λ q. quiet-no q) in
          let set = p.fits in
          elim (cases_lt (free_from S long + 3) p.arm.step.at) [
            | inl more ↦ elim (cases_lt t p.arm.step.at) [
              | inl over ↦
                  let mono = tick_mono setting c r.step.at p.arm.step.at (omega (arith, over, early, until)) in
                  let nr = near setting c r.step.at p.arm.step.at (omega (arith, over, early, until)) in
                  let low = arm-before r rest inside p.arm p.idle a.place a.at a.deed (Ring Search) e l in
                  omega (arith, low, over, early, until)
              | inr under ↦ search-no p.arm p.idle inner a.at a.deed more under
            ]
            | inr less ↦
                let nr = near setting c p.arm.step.at r.step.at (omega (arith, less, soon, late_enough)) in
                let least = nr.least in
                omega (arith, least, arm-tick, own, due, set, less, soon, late_enough)
          ]
        where
          quiet-no : Search ≡ Quiet → ⊥
          quiet-no e = cc

          arm-before : (r : Did) (rest : List Seen) (inside : Within (Here r ∷ rest) Whole) (arm : Did) (idle : List Seen) → Within (Here arm ∷ idle) rest →
              (to : ℕ) → arm.deed ≡ Acts (Arm Search to) → (act : Act) → r.deed ≡ Acts act → Located c first_port world r rest → arm.step.at ≤ r.step.at
          arm-before r rest inside arm idle w to deed act is_r l =
              let o = locate c first_port l.older arm idle (shared-none arm.deed (Arm Search to) deed refl) (subst (λ z. Within (Here arm ∷ idle) z)
              (sym l.before) w) in
              place_time setting (line_on first_port arm ∷ o.older) (line_on first_port r ∷ l.older)
              (fits_at setting (line_on first_port r ∷ l.older) world k.fits l.place) (inr o.place)

      by_seeks : (r : Did) (rest : List Seen) → before ≡ Here r ∷ rest → (deed : Deed) → r.deed ≡ deed → seeks_by deed ≡ true → ⊥
      by_seeks r rest was (Acts (Ring Search)) e f = by_search r rest was e
      by_seeks r rest was (Acts (Late a)) e f =
          late-no r rest a (subst (λ z. Within z Whole) was (Within_tail (Here d) before Whole place)) e
      by_seeks r rest was (Acts (Become Loose)) e f = by_loose r rest was e
      by_seeks r rest was _ e f = true≢false (sym f)

  -- so it stands by the time when its delay has passed
  module _ (Z Y : ℕ) (z-late : rest_from S long ≤ Z) (order : Z ≤ Y) (y-until : Y ≤ t)
      (free : (z w : ℕ) → Candidacy z w world → Z < w + term late + long + 10 → w ≤ Y → ⊥) where
    R : List Line → Type 0
    R lines = Wakes (manner_of header c) (view first_port lines) × (Watched late (setting.tick c Y) (view first_port lines) ×
        CandidatureEnds late (setting.tick c Y) (view first_port lines))

    sooner : (x y : ℕ) (seen : List Seen) → y ≤ x → Watched late x seen → Watched late y seen
    sooner x y seen le w = record {
      alarms = λ a at e. let soon = w.alarms a at e in omega (arith, le, soon);
      sends = λ p q e. let soon = w.sends p q e in omega (arith, le, soon);
    }

    shorter : (x y : ℕ) (seen : List Seen) → y ≤ x → CandidatureEnds late x seen → CandidatureEnds late y seen
    shorter x y seen le f = λ r. let e = f r in let since = e.since in
        record { start = e.start; idle = e.idle; stood_is = e.stood_is; since = omega (arith, since, le) }

    marks : (l : Line) (w : List Line) → Within (l ∷ w) world → l.did.deed ≡ Begins → node_of l ≡ c → Y < l.did.step.at → R (of c w)
    unfolding R
    marks l w v begins node later =
        let awake = Everywhere_at (WokenAt (manner_of header)) l w world k.woken v begins first_port in
        let watched = Everywhere_at (AttendedAt late) l w world k.attended v begins first_port in
        let ends = (Everywhere_at _ l w world (attended_in_time (manner_of header) late world k.woken k.attended) v begins first_port).candidature in
        let tick = tick_in setting c l w world k.fits node v in
        let mono = tick_mono setting c Y l.did.step.at (omega (arith, later)) in
        let here = sooner l.did.tick (setting.tick c Y) (view first_port (of (node_of l) w)) (omega (arith, tick, mono)) watched in
        let short = shorter l.did.tick (setting.tick c Y) (view first_port (of (node_of l) w)) (omega (arith, tick, mono)) ends in (
          subst (λ n. Wakes (manner_of header n) (view first_port (of n w))) node awake,
          (
            subst (λ n. Watched late (setting.tick c Y) (view first_port (of n w))) node here,
            subst (λ n. CandidatureEnds late (setting.tick c Y) (view first_port (of n w))) node short,
          ),
        )

    at-end : R (of c world)
    unfolding R
    at-end = (
      k.wakes c first_port,
      (
        sooner (setting.tick c t) (setting.tick c Y) Whole (tick_mono setting c Y t y-until) (k.told c there first_port),
        shorter (setting.tick c t) (setting.tick c Y) Whole (tick_mono setting c Y t y-until)
            (told_in_time (manner_of header) late setting t c world k.wakes (k.told c there) first_port).candidature,
      ),
    )

    upto : Cut c Y R world
    upto = cut setting c Y R world k.fits marks at-end

    abbrev H : List Line
    H = upto.h

    abbrev Now : List Seen
    Now = view first_port (of c H)

    h-since : Within s H
    h-since = by_list s k.inside refl where
      by_list : (g : List Line) → Within g world → g ≡ s → Within s H
      by_list [] w e = subst (λ z. Within z H) e (nil_in H)
      by_list (l ∷ rest) w e = subst (λ z. Within z H) e (upto.all l rest w (let same = ap (λ z. time_of (dids z)) e in omega (arith, same, z-late, order)))

    awake : Wakes (manner_of header c) Now
    unfolding R
    awake = upto.holds.0

    watched : Watched late (setting.tick c Y) Now
    unfolding R
    watched = upto.holds.1.0

    short-lived : CandidatureEnds late (setting.tick c Y) Now
    unfolding R
    short-lived = upto.holds.1.1

    h-until : time_of (dids H) ≤ t
    h-until = let le = upto.upto in omega (arith, le, y-until)

    now-in : Within Now Whole
    now-in = view_within first_port (of c H) (of c world) (Within_of c H world upto.within)

    abbrev Bound : Type 0
    Bound = setting.tick c Y ≤ setting.tick c Z + delay_of c s + late

    delay-least : ELECT_MIN ≤ delay_of c s
    delay-least = omega arith

    -- where an alarm was armed, by a line of c
    module _ (a : Alarm) (at : ℕ) (armed_is : deadline (armed Now) a ≡ Some at) where
      abbrev P : PlaceOf a at (last_arm a Now)
      P = armed_place (manner_of header c) a at Now awake.acts armed_is

      arm-place : LastArm a P.arm P.idle Now
      arm-place = last_arm_at a Now P.arm P.idle P.last

      arm-whole : Within (Here P.arm ∷ P.idle) Whole
      arm-whole = Within_through (Here P.arm ∷ P.idle) Now Whole arm-place.place now-in

      arm-at : Located c first_port H P.arm P.idle
      arm-at = locate c first_port H P.arm P.idle (shared-none P.arm.deed (Arm a arm-place.at) arm-place.deed refl) arm-place.place

      arm-upto : P.arm.step.at ≤ Y
      arm-upto =
          let le = place_time setting (line_on first_port P.arm ∷ arm-at.older) H (fits_at setting H world k.fits upto.within) arm-at.place in
          let up = upto.upto in
          omega (arith, le, up)

      arm-tick : P.arm.tick ≡ setting.tick c P.arm.step.at
      arm-tick = tick_in setting c (line_on first_port P.arm) arm-at.older world k.fits arm-at.node
          (Within_through (line_on first_port P.arm ∷ arm-at.older) H world arm-at.place upto.within)

      arm-delay : S < P.arm.step.at → delay (word (plain P.idle)) ≡ delay_of c s
      arm-delay less =
          let w = Within_through (line_on first_port P.arm ∷ arm-at.older) H world arm-at.place upto.within in
          let since = after_s k (line_on first_port P.arm) arm-at.older w less in
          ap (λ z. delay (word (plain z))) (sym arm-at.before) ∙ (ap (λ z. delay (word z)) (plain_view first_port (of c arm-at.older)) ∙
          ap delay (word_same k c arm-at.older (Within_tail (line_on first_port P.arm) arm-at.older world w) since))

    by-elect : (at : ℕ) → (armed Now).elect ≡ Some at → Bound
    by-elect at e =
        let due = watched.alarms Elect at e in
        let upto-y = arm-upto Elect at e in
        let own = arm-tick Elect at e in
        let p = armed_place (manner_of header c) Elect at Now awake.acts e in
        let set = p.fits in
        let most = ahead_most Elect p.arm p.idle at p.fits in
        let a = arm-place Elect at e in
        elim (cases_lt Z p.arm.step.at) [
          | inl more ↦ absurd (arm-no p.arm p.idle (arm-whole Elect at e) a.at a.deed (omega (arith, more, z-late)) (omega (arith, upto-y, y-until))
              (λ z w st early soon. free z w st (omega (arith, more, soon)) (omega (arith, early, upto-y))))
          | inr less ↦
              let mono = tick_mono setting c p.arm.step.at Z less in
              elim (cases_lt S p.arm.step.at) [
                | inl after ↦ let same = arm-delay Elect at e after in omega (arith, due, own, set, mono, same)
                | inr before ↦
                    let nr = near setting c p.arm.step.at Z less in
                    let least = nr.least in
                    let low = delay-least in
                    omega (arith, due, own, most, least, before, z-late, low)
              ]
        ]

    by-search : (at : ℕ) → (armed Now).search ≡ Some at → Bound
    by-search at e =
        let due = watched.alarms Search at e in
        let upto-y = arm-upto Search at e in
        let own = arm-tick Search at e in
        let p = armed_place (manner_of header c) Search at Now awake.acts e in
        let set = p.fits in
        let a = arm-place Search at e in
        elim (cases_lt (free_from S long + 3) p.arm.step.at) [
          | inl more ↦ absurd (search-no p.arm p.idle (arm-whole Search at e) a.at a.deed more (omega (arith, upto-y, y-until)))
          | inr less ↦ let mono = tick_mono setting c p.arm.step.at Z (omega (arith, less, z-late)) in let low = delay-least in
              omega (arith, due, own, set, mono, low)
        ]

    by-option : (o : Option ℕ) → (armed Now).elect ≡ o → is_some o ≡ true → Bound
    by-option None e some = absurd (true≢false (sym some))
    by-option (Some at) e some = by-elect at e

    by-loose : (o : Option ℕ) → (armed Now).search ≡ o → (is_some o || is_some (armed Now).elect) ≡ true → Bound
    by-loose None e some = by-option (armed Now).elect refl some
    by-loose (Some at) e some = by-search at e

    by-candidate : role Now ≡ Candidate → Bound
    by-candidate e =
        let f = short-lived e in
        let last = stood_last Now e in
        let same : Here f.start ∷ f.idle ≡ Here last.start ∷ last.idle = sym f.stood_is ∙ last.stood_is in
        let did : f.start ≡ last.start = cc in
        let w = (stood_at Now (Here last.start) last.idle last.stood_is).place in
        let deed = last.deed in
        let l = locate c first_port H last.start last.idle (rw deed refl) w in
        let own = tick_in setting c (line_on first_port last.start) l.older world k.fits l.node
        (Within_through (line_on first_port last.start ∷ l.older) H world l.place upto.within) in
        let le = place_time setting (line_on first_port last.start ∷ l.older) H (fits_at setting H world k.fits upto.within) l.place in
        let up = upto.upto in
        let st : Candidacy c last.start.step.at world =
        record { start = last.start; idle = last.idle; place = Within_through (Here last.start ∷ last.idle) Now Whole w now-in; deed = deed; at = refl } in
        let since = f.since in
        let ticks = ap (λ (z : Did). z.tick) did in
        let nr = near setting c last.start.step.at Y (omega (arith, le, up)) in
        let least = nr.least in
        let slack = k.slack in
        absurd (free c last.start.step.at st (omega (arith, since, ticks, own, least, slack, order)) (omega (arith, le, up)))

    pub due : setting.tick c Y ≤ setting.tick c Z + delay_of c s + late
    due = by_role (role Now) refl where
      by_role : (r : Role) → role Now ≡ r → Bound
      by_role Loose e = by-loose (armed Now).search refl (awake.loose e)
      by_role (Follow q) e = by-option (armed Now).elect refl (awake.follow q e)
      by_role Candidate e = by-candidate e
      by_role Master e = absurd (k.headless H upto.within h-since h-until c there e)
      by_role Starting e = absurd (true≢false (sym (ap is_starting_role e) ∙ k.up c there H h-since upto.within))
