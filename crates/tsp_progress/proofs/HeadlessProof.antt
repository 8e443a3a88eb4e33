-- A network without a master gets one.
use Rattle.std.proofs.Common.{sym, ap, subst, arith, true≢false, inl, inr, mul-le-mul_left, ◌∙◌, ◌≡◌, ◌≢◌, ◌≤◌, ◌<◌, ◌⊎◌, ℕ, ◌+◌, ◌-◌, ◌*◌, ◌==◌}
use Rattle.std.proofs.Common.{Bool, true, false, List, [], ◌∷◌, Option, None, Some, eqb-true, refl}
use Rattle.std.proofs.Math.Nat.{mod-lt}
use Rattle.std.proofs.lemmas.Bool.{cases_lt}
use Rattle.tsp_rules.specs.Values.{Become, Boot, Good, Kind, MasterAck, MasterUp, Message, PeerId, Peer, Place, Post, QuitKind, Refuse}
use Rattle.tsp_rules.specs.Values.{Taken, Took, Candidate, Master, ELECT_MIN, ELECT_SPREAD, HOLD, WINDOW}
use Rattle.tsp_base.specs.Words.{Acts, Did, HeaderValue, Here, Line, MessageValue, Received, Seen, Step, Within, dids, first_port, held}
use Rattle.tsp_base.specs.Words.{is_numbered, is_shared, may_back, of, peer_of, role, role_after, stood, taken, time_of, view, word}
use Rattle.tsp_base.proofs.{PlaceLemmas.Within_none, PlaceLemmas.Within_tail, PlaceLemmas.Within_through}
use Rattle.tsp_promises.specs.{Fits.node_of, Setting.Setting}
use Rattle.tsp_promises.proofs.{promised.KnownProof.InStep, promised.KnownProof.step_at, promised.KnownProof.took_split}
use Rattle.tsp_promises.proofs.{shared.Clocks.near, shared.ElectionFacts.held_at, shared.ElectionFacts.stood_at}
use Rattle.tsp_promises.proofs.{promised.SinceProof.since, shared.HistoryPlaces.lift, shared.HistoryPlaces.line_on, shared.HistoryPlaces.own_in}
use Rattle.tsp_promises.proofs.promised.OwnFitsProof.{Located, fits_at, fits_in, locate, of_time, own_fits, place_time, seen_in, tick_in, view_line}
use Rattle.tsp_run.specs.{Clocked.Clocks, Clocked.clocks_of, Clocked.run_by, Setup.node_line}
use Rattle.tsp_run.proofs.{OwnClocks.possible_own, OwnClocks.runs_by_own_clocks, OwnClocks.set_own, RunFits.clocked_runs_fit}
use Rattle.tsp_progress.specs.Headless.{AllUp, ClockedRunsGetMaster, Fair, Headless, Foremost, RunsGetMaster, delay_of, drift_of, lead, longest_headless}
use Rattle.tsp_progress.specs.{FollowOn.role_of, Calling.is_masters, OneAtATime.StandsAt, RunsWake.manner_of, Wakes.AllWake}
use Rattle.tsp_progress.specs.Wakes.{Woken}
use Rattle.tsp_progress.specs.WinsUnopposed.{Unopposed, Won, WonUnopposed, opposed, opposes, opposes_in}
use Rattle.tsp_progress.proofs.{AsksAllProof.clocked_runs_ask, DueFacts.due, DueFacts.rest_from, HoldKept.SeenAt, HoldKept.seen_at}
use Rattle.tsp_progress.proofs.{LoneWinsProof.open_numbered, MotivesProof.clocked_runs_have_motives, PortSetups.shared_port, RunWakes.clocked_runs_wake}
use Rattle.tsp_progress.proofs.{StandActs.Refuses, StandActs.StandFits}
use Rattle.tsp_progress.proofs.{StandActs.refuses_kind, StandKeeps.runs_sound, StandPlaces.kept_at, StandPlaces.stood_may, TableProof.clocked_runs_by_table}
use Rattle.tsp_progress.proofs.{WinsNot.stood_role, WinsUnopposedProof.clocked_runs_win}
use Rattle.tsp_progress.proofs.StretchFacts.{Source, Candidacy, Stretch, after_s, asks_as, no_call, stood_short, stood_soon, term, took_source}
use Rattle.tsp_progress.proofs.WaveBacks.{backed_for}
use Rattle.tsp_progress.proofs.WaveCalm.{FirstStand, calm_after, clean_after, first_stand, gap}
use Rattle.tsp_progress.proofs.WaveFacts.{act_time, held_by, stand_at, stand_since, stand_tick}

-- what two counters differ by
module _ (setting : Setting) (n a x : ℕ) (short : x ≤ ELECT_MIN + ELECT_SPREAD + 40 * WINDOW) where
  abbrev pub Long : ℕ
  Long = ELECT_MIN + ELECT_SPREAD + 40 * WINDOW

  drifts : setting.drift * x ≤ setting.drift * (ELECT_MIN + ELECT_SPREAD + 40 * WINDOW)
  drifts = mul-le-mul_left setting.drift short

  pub ticks_most : setting.tick n (a + x) ≤ setting.tick n a + x + drift_of setting
  ticks_most = let f = (setting.ticks n).fast a x in let m = drifts in omega (arith, f, m)

  pub ticks_least : setting.tick n a + x ≤ setting.tick n (a + x) + drift_of setting
  ticks_least = let f = (setting.ticks n).slow a x in let m = drifts in omega (arith, f, m)

drift_most : (setting : Setting) → drift_of setting ≤ 800000
drift_most setting =
    let m : (ELECT_MIN + ELECT_SPREAD + 40 * WINDOW) * setting.drift ≤ (ELECT_MIN + ELECT_SPREAD + 40 * WINDOW) * 1000 =
    mul-le-mul_left (ELECT_MIN + ELECT_SPREAD + 40 * WINDOW) setting.small in
    omega (arith, m)

delay_most : (n : ℕ) (h : List Line) → (ELECT_MIN ≤ delay_of n h) × (delay_of n h ≤ ELECT_MIN + ELECT_SPREAD)
delay_most n h = let less = mod-lt (word (dids (of n h))) {m = ELECT_SPREAD} (omega arith) in (omega arith, omega (arith, less))

opposes_by : (k : Kind) → opposes k ≡ true → (k ≡ Refuse) ⊎ (is_masters k ≡ true)
opposes_by Refuse e = inl refl
opposes_by QuitKind e = inr refl
opposes_by MasterUp e = inr refl
opposes_by MasterAck e = inr refl
opposes_by _ e = absurd (true≢false (sym e))

module _ {clocks : Clocks} {header : HeaderValue} {setting : Setting} {late long t : ℕ} {stays : ℕ → Bool} {s world : List Line}
    (k : Stretch clocks header setting late long t stays s world) (c : ℕ) (fore : Foremost header setting late long stays c s)
    (wins : WonUnopposed late setting t c world) (over : time_of (dids s) + longest_headless long (delay_of c s) < t) where
  abbrev S : ℕ
  S = time_of (dids s)

  abbrev D : ℕ
  D = delay_of c s

  abbrev Drift : ℕ
  Drift = drift_of setting

  -- how much later the next candidature comes, at most
  abbrev Step-long : ℕ
  Step-long = term late + long + 10 + (D + late + Drift + 1)

  abbrev Next : ℕ → Type 0
  Next a = (f : FirstStand k a) × (f.u ≤ a + Step-long)

  next_stand : (a : ℕ) → rest_from S long ≤ a → a + Step-long ≤ t → Next a
  next_stand a from until = elim (first_stand k a (omega (arith, from))) [
    | inl f ↦ elim (cases_lt (a + Step-long) f.u) [
      | inl beyond ↦ absurd (too-late (λ z w st early soon. let le = f.first z w st (omega (arith, early)) in omega (arith, le, soon, beyond)))
      | inr le ↦ (f, omega (arith, le))
    ]
    | inr none ↦ absurd (too-late (λ z w st early soon. let le = none z w st in omega (arith, le, early)))
  ] where
    too-late : ((z w : ℕ) → Candidacy z w world → a + term late + long + 10 < w + term late + long + 10 → w ≤ a + Step-long → ⊥) → ⊥
    too-late free =
        let sum : (a + term late + long + 10) + (D + late + Drift + 1) ≡ a + Step-long = omega arith in
        let due_then = due k c fore.there fore.may (a + term late + long + 10) (a + Step-long) (omega (arith, from)) (omega arith) until free in
        let small = drift_most setting in
        let most = (delay_most c s).1 in
        let slack = k.slack in
        let least = ticks_least setting c (a + term late + long + 10) (D + late + Drift + 1) (omega (arith, small, most, slack)) in
        let same = ap (setting.tick c) sum in
        omega (arith, due_then, least, same)

  -- the three candidatures
  abbrev A1 : ℕ
  A1 = rest_from S long

  first-one : Next (rest_from S long)
  first-one = let small = drift_most setting in let slack = k.slack in next_stand (rest_from S long) (omega arith) (omega (arith, over, small, slack))

  abbrev F1 : FirstStand k (rest_from S long)
  F1 = first-one.0

  second-one : Next (F1.u + long)
  second-one = let small = drift_most setting in let slack = k.slack in let le = first-one.1 in let after = F1.after in
      next_stand (F1.u + long) (omega (arith, after)) (omega (arith, over, small, slack, le))

  abbrev F2 : FirstStand k (F1.u + long)
  F2 = second-one.0

  third-one : Next (F2.u + long)
  third-one = let small = drift_most setting in let slack = k.slack in let le = first-one.1 in let le2 = second-one.1 in
      let after = F1.after in let after2 = F2.after in
      next_stand (F2.u + long) (omega (arith, after, after2)) (omega (arith, over, small, slack, le, le2))

  abbrev F3 : FirstStand k (F2.u + long)
  F3 = third-one.0

  abbrev U1 : ℕ
  U1 = F1.u

  abbrev U2 : ℕ
  U2 = F2.u

  abbrev U3 : ℕ
  U3 = F3.u

  settled-1 : S + long < U1
  settled-1 = let after = F1.after in omega (arith, after)

  settled-2 : S + long < U2
  settled-2 = let after = F2.after in let low = settled-1 in omega (arith, after, low)

  settled-3 : S + long < U3
  settled-3 = let after = F3.after in let low = settled-2 in omega (arith, after, low)

  -- all this is early
  early-3 : U3 + 10 * 1000000 + 2 * long < t
  early-3 = let small = drift_most setting in let slack = k.slack in let le = first-one.1 in let le2 = second-one.1 in let le3 = third-one.1 in
      omega (arith, over, small, slack, le, le2, le3)

  early-2 : U2 + long < t
  early-2 = let after = F3.after in let e = early-3 in omega (arith, after, e)

  -- the waves are far apart
  apart-2 : U1 + 239000000 ≤ U2
  apart-2 =
      let calm = calm_after k F1.standing F2.standing F1.there F2.there settled-1 F2.after (let e = early-2 in omega (arith, e)) in
      let low = (delay_most F2.x s).0 in
      let nr = near setting F2.x U1 U2 (let after = F2.after in omega (arith, after)) in
      let most = nr.most in
      omega (arith, calm, low, most)

  apart-3 : U2 + 239000000 ≤ U3
  apart-3 =
      let calm = calm_after k F2.standing F3.standing F2.there F3.there settled-2 F3.after (let e = early-3 in omega (arith, e)) in
      let low = (delay_most F3.x s).0 in
      let nr = near setting F3.x U2 U3 (let after = F3.after in omega (arith, after)) in
      let most = nr.most in
      omega (arith, calm, low, most)

  -- nobody stood for long before the second one
  clean-2 : (z w : ℕ) → stays z ≡ true → Candidacy z w world → U2 ≤ w + gap late long → w < U2 → ⊥
  clean-2 z w there st recent early =
      let apart = apart-2 in
      let slack = k.slack in
      let mild = k.mild in
      let le = F2.first z w st (omega (arith, apart, recent, slack, mild)) in
      omega (arith, le, early)

  long-since-2 : S + long + HOLD + 100000 < U2
  long-since-2 = let apart = apart-2 in let low = settled-1 in omega (arith, apart, low)

  -- who stands after it, and isn't the foremost, does so when its delay has passed
  module _ (n y : ℕ) (here : stays n ≡ true) (other : (n == c) ≡ false) (st : Candidacy n y world) (later : U2 + long < y) (until : y ≤ t) where
    settled-y : S + long < y
    settled-y = let low = settled-2 in omega (arith, low, later)

    may-stand : (node_line header n).may ≡ true
    may-stand = stood_may world k.table k.fits k.sound n first_port
        (shared_port k.set n first_port c first_port (k.wire.net n c here fore.there) other) st.start st.idle st.place st.deed
        (k.calm.unhanded (line_on first_port st.start) (stand_at k st).older (stand_at k st).place (stand_since k st settled-y))

    waits-longer : D + lead setting late long < delay_of n s
    waits-longer = fore.first n here may-stand other

    clean-y : setting.tick n U2 + delay_of n s ≤ setting.tick n y
    clean-y = clean_after k F2.standing st F2.there here settled-2 later until clean-2 long-since-2

    -- so later than the third
    not-soon : y ≤ U3 + long → ⊥
    not-soon soon =
        let le3 = third-one.1 in
        let small = drift_most setting in
        let most = (delay_most c s).1 in
        let slack = k.slack in
        let mild = k.mild in
        let sum : U2 + (y - U2) ≡ y = omega (arith, later) in
        let m = ticks_most setting n U2 (y - U2) (omega (arith, soon, le3, small, most, slack, mild, later)) in
        let same = ap (setting.tick n) sum in
        let clean = clean-y in
        let longer = waits-longer in
        omega (arith, m, same, clean, longer, soon, le3, later)

  third-is : F3.x ≡ c
  third-is = by_node (F3.x == c) refl where
    by_node : (b : Bool) → (F3.x == c) ≡ b → F3.x ≡ c
    by_node true e = eqb-true F3.x c e
    by_node false e = absurd (not-soon F3.x U3 F3.there e F3.standing F3.after (let e = early-3 in omega (arith, e)) (omega arith))

  stands-3 : Candidacy c U3 world
  stands-3 = subst (λ z. Candidacy z U3 world) third-is F3.standing

  -- nobody else stands until its candidature is over
  others : (n y : ℕ) → stays n ≡ true → (n == c) ≡ false → Candidacy n y world → U2 + long < y → y ≤ U3 + term late → ⊥
  others n y here other st later soon =
      let early = early-3 in
      let slack = k.slack in
      elim (cases_lt (U3 + long) y) [
        | inl more ↦
            let until : y ≤ t = omega (arith, soon, early, slack) in
            let calm = calm_after k stands-3 st fore.there here settled-3 more until in
            let low = (delay_most n s).0 in
            let nr = near setting n U3 y (omega (arith, more)) in
            let most = nr.most in
            omega (arith, calm, low, most, soon, slack)
        | inr le ↦ not-soon n y here other st later (omega (arith, soon, early, slack)) le
      ]

  abbrev C : Line
  C = line_on first_port stands-3.start

  abbrev Older : List Line
  Older = (stand_at k stands-3).older

  c-node : node_of C ≡ c
  c-node = (stand_at k stands-3).node

  c-since : Within s Older
  c-since = stand_since k stands-3 settled-3

  c-at : stands-3.start.step.at ≡ U3
  c-at = stands-3.at

  -- a place of its candidature
  module _ (h : List Line) (inside : Within h world) (still : stood (view first_port (of c h)) ≡ Here stands-3.start ∷ view first_port (of (node_of C) Older))
    where
      candidate : role_of c h ≡ Candidate
      candidate = stood_role stands-3.start (view first_port (of (node_of C) Older)) (view first_port (of c h)) still ∙
          ap (λ z. role_after z (role (view first_port (of (node_of C) Older)))) stands-3.deed

      short : (start : Did) (idle : List Seen) → stood (view first_port (of c h)) ≡ Here start ∷ idle → start.step.at + term late ≤ t
      short start idle e =
          let same : Here start ∷ idle ≡ Here stands-3.start ∷ view first_port (of (node_of C) Older) = sym e ∙ still in
          let did : start ≡ stands-3.start = cc in
          let at = ap (λ (z : Did). z.step.at) did in
          let own = c-at in
          let early = early-3 in
          let slack = k.slack in
          omega (arith, at, own, early, slack)

      still-soon : time_of (dids h) ≤ U3 + term late
      still-soon =
          let o = stood_short k c fore.there h inside candidate (inr short) in
          let same : Here o.standing.start ∷ o.standing.idle ≡ Here stands-3.start ∷ view first_port (of (node_of C) Older) = sym o.last ∙ still in
          let did : o.standing.start ≡ stands-3.start = cc in
          let at = ap (λ (z : Did). z.step.at) did in
          let own = c-at in
          let there = o.standing.at in
          let soon = o.soon in
          omega (arith, at, own, there, soon)

      start-there : Within (Here stands-3.start ∷ view first_port (of (node_of C) Older)) (view first_port (of c h))
      start-there = (stood_at (view first_port (of c h)) (Here stands-3.start) (view first_port (of (node_of C) Older)) still).place

      still-late : U3 ≤ time_of (dids (of c h))
      still-late =
          let l = locate c first_port h stands-3.start (view first_port (of (node_of C) Older)) (let d = stands-3.deed in rw d refl) start-there in
          let own = own_in c (line_on first_port stands-3.start) l.older h l.node l.place in
          let f = own_fits setting c h (fits_at setting h world k.fits inside) in
          let order = (since setting (line_on first_port stands-3.start ∷ of c l.older) (of c h) f own).time in
          let at = c-at in
          omega (arith, order, at)

  -- nobody refuses it
  module _ (T : Line) (rest : List Line) (place : Within (T ∷ rest) world) (node : node_of T ≡ c) (port : T.port ≡ first_port)
      (after : U3 ≤ T.did.step.at) (upto : T.did.step.at ≤ U3 + term late) (p : PeerId) (m : MessageValue)
      (took : T.did.deed ≡ Acts (Took (Peer p) (Good (Message m)))) where
    o : Source k (node_of T) T.did.step.at (Peer p) m
    o = took_source k T rest place (let low = settled-3 in omega (arith, low, after)) (Peer p) m took port

    until-T : T.did.step.at ≤ t
    until-T = let early = early-3 in let slack = k.slack in omega (arith, upto, early, slack)

    abbrev X : ℕ
    X = node_of o.post

    x-other : (X == c) ≡ false
    x-other = subst (λ z. (X == z) ≡ false) node o.other

    abbrev Post-seen : List Seen
    Post-seen = view first_port (of X o.before)

    post-place : Within (Here o.post.did ∷ Post-seen) (view first_port (of X world))
    post-place = subst (λ q. Within (Here o.post.did ∷ view q (of X o.before)) (view q (of X world))) o.port (seen_in X o.post o.before world refl o.place)

    post-deed : o.post.did.deed ≡ Acts (Post (Peer (peer_of c)) (Message m))
    post-deed = o.deed ∙ ap (λ z. Acts (Post (Peer (peer_of z)) (Message m))) node

    fits-post : StandFits (Acts (Post (Peer (peer_of c)) (Message m))) o.post.did Post-seen
    fits-post = subst (λ z. StandFits z o.post.did Post-seen) post-deed
        (kept_at o.post.did Post-seen (view first_port (of X world)) (k.sound X first_port).kept post-place).fits

    -- the question that it answers
    module _ (r : Refuses (peer_of c) o.post.did Post-seen) where
      rest-place : Within (Here r.took ∷ r.rest) (view first_port (of X world))
      rest-place = subst (λ z. Within z (view first_port (of X world))) r.is (Within_tail (Here o.post.did) Post-seen (view first_port (of X world)) post-place)

      l2 : Located X first_port world r.took r.rest
      l2 = locate X first_port world r.took r.rest (let d = r.deed in rw d refl) rest-place

      L2 : Line
      L2 = line_on first_port r.took

      abbrev At2 : ℕ
      At2 = r.took.step.at

      at2 : At2 ≡ o.post.did.step.at
      at2 = ap (λ (z : Step). z.at) r.step

      at2-late : U3 ≤ At2 + long
      at2-late = let e = at2 in let soon = o.soon in omega (arith, e, soon, after)

      at2-soon : At2 ≤ U3 + term late
      at2-soon = let e = at2 in let early = o.early in omega (arith, e, early, upto)

      settled-a : S + long < At2
      settled-a = let low = settled-2 in let apart = apart-3 in let le = at2-late in let mild = k.mild in omega (arith, low, apart, le, mild)

      asked : Source k (node_of (line_on first_port r.took)) At2 (Peer (peer_of c)) r.message
      asked = took_source k (line_on first_port r.took) l2.older l2.place settled-a (Peer (peer_of c)) r.message r.deed refl

      asker-is : node_of asked.post ≡ c
      asker-is = sym (ap number asked.from_is) where
        number : Place → ℕ
        number (Peer z) = z.0
        number _ = 0

      asked-late : U3 ≤ At2
      asked-late =
          let early = asked.early in
          let soon = asked.soon in
          let until : time_of (dids (asked.post ∷ asked.before)) ≤ t = (let le = at2-soon in let e3 = early-3 in let slack = k.slack in
          omega (arith, early, le, e3, slack)) in
          let st = stood_soon k (node_of asked.post) asked.there (asked.post ∷ asked.before) asked.place until (asks_as k asked r.kind) in
          let low = st.early in
          let high = st.soon in
          let apart = apart-3 in
          let slack = k.slack in
          let mild = k.mild in
          let le = at2-late in
          let first = F3.first (node_of asked.post) st.at st.standing (omega (arith, high, soon, le, apart, slack, mild)) in
          omega (arith, first, low, early)

      time2 : time_of (dids l2.older) ≡ At2
      time2 = act_time k (line_on first_port r.took) l2.older (Took (Peer (peer_of c)) (Good (Message r.message))) l2.place r.deed

      until2 : At2 ≤ t
      until2 = let le = at2-soon in let e3 = early-3 in let slack = k.slack in omega (arith, le, e3, slack)

      not-candidate : role r.rest ≡ Candidate → ⊥
      not-candidate e =
          let time = time2 in
          let until = until2 in
          let st = stood_soon k X o.there l2.older (Within_tail (line_on first_port r.took) l2.older world l2.place) (omega (arith, time, until))
          (ap role l2.before ∙ e) in
          let low = st.early in
          let high = st.soon in
          let apart = apart-3 in
          let slack = k.slack in
          let mild = k.mild in
          let le = asked-late in
          let soon = at2-soon in
          others X st.at o.there x-other st.standing (omega (arith, high, time, le, apart, slack, mild)) (omega (arith, low, time, soon))

      not-held : may_back (held r.rest) o.post.did.tick (peer_of c) ≡ false → ⊥
      not-held e =
          let h = held_by (held r.rest).back o.post.did.tick (peer_of c) e in
          let b = held_at h.at h.of_peer r.rest h.is in
          let deed = b.deed in
          let inside = Within_through (Here b.did ∷ b.before) r.rest (view first_port (of X world)) b.place
          (Within_tail (Here r.took) r.rest (view first_port (of X world)) rest-place) in
          let l3 = locate X first_port world b.did b.before (rw deed refl) inside in
          let own3 = tick_in setting X (line_on first_port b.did) l3.older world k.fits l3.node l3.place in
          let own2 = tick_in setting X (line_on first_port r.took) l2.older world k.fits l2.node l2.place in
          let now = r.now in
          let same = b.tick in
          let recent = h.recent in
          let low3 : (line_on first_port b.did).did.step.at ≤ At2 = before-2 b.did b.before b.place (rw deed refl) in
          let nr = near setting X b.did.step.at At2 low3 in
          let least = nr.least in
          let young : At2 ≤ b.did.step.at + HOLD + 100000 = omega (arith, least, own3, own2, now, same, recent) in
          let late_ = asked-late in
          let soon = at2-soon in
          let apart = apart-3 in
          let low = settled-2 in
          let slack = k.slack in
          let mild = k.mild in
          let until = until2 in
          let f = backed_for k X o.there b.did b.before inside h.of_peer deed (omega (arith, young, late_, apart, low)) (omega (arith, low3, until)) in
          let low4 = f.stood.early in
          let high4 = f.stood.soon in
          others f.x f.stood.at f.stood.there (which f.x h.of_peer f.which h.other) f.stood.stood
          (omega (arith, high4, young, late_, apart, slack, mild)) (omega (arith, low4, low3, soon))
        where
          which : (x : ℕ) (q : PeerId) → (x ≡ q.0) ⊎ (x ≡ X) → (q.0 == c) ≡ false → (x == c) ≡ false
          which x q (inl w) e = ap (λ z. z == c) w ∙ e
          which x q (inr w) e = ap (λ z. z == c) w ∙ x-other

          before-2 : (did : Did) (before : List Seen) → Within (Here did ∷ before) r.rest → is_shared did.deed ≡ false → did.step.at ≤ At2
          before-2 did before w un =
              let o2 = locate X first_port l2.older did before un (subst (λ z. Within (Here did ∷ before) z) (sym l2.before) w) in
              place_time setting (line_on first_port did ∷ o2.older) (line_on first_port r.took ∷ l2.older)
              (fits_at setting (line_on first_port r.took ∷ l2.older) world k.fits l2.place) (inr o2.place)

      refuses-no : ⊥
      refuses-no = elim r.unable [
        | inl e ↦ not-candidate e
        | inr e ↦ not-held e
      ]

    unopposing : opposes m.kind ≡ true → ⊥
    unopposing e = elim (opposes_by m.kind e) [
      | inl refuse ↦ elim (fits-post.1 (ap refuses_kind refuse)) [
        | inl r ↦ refuses-no r
        | inr a ↦
            let numbered = open_numbered (peer_of c) Post-seen a.sending a.open_is in
            let same : is_numbered a.sending.message.kind ≡ false = ap (λ (z : MessageValue). is_numbered z.kind) a.same ∙ ap is_numbered refuse in
            true≢false (sym numbered ∙ same)
      ]
      | inr call ↦ no_call k o call until-T
    ]

  stands-at : StandsAt C Older world
  stands-at = record {
    place = (stand_at k stands-3).place;
    stands = stands-3.deed;
    unasked = k.calm.unhanded C Older (stand_at k stands-3).place c-since;
  }

  nothing_taken : (r : Received) → taken [] ≡ Some r → ⊥
  nothing_taken r e = cc

  taken-at : (ls : List Line) (l : Line) (rest : List Line) → Within (l ∷ rest) ls → ((g : Step) → InStep ls g → l.did.step ≡ g) →
      l.did.step.at ≡ time_of (dids ls)
  taken-at [] l rest w same = Within_none l rest w
  taken-at (j ∷ more) l rest w same = ap (λ (g : Step). g.at) (same j.did.step refl)

  unopposed : Unopposed C Older world
  unopposed d before place still = (boots-no, quiet (taken before) refl) where
    b : SeenAt (node_of C) first_port d before world
    b = seen_at (node_of C) first_port d before world place

    inside : Within b.older world
    inside = Within_tail b.line b.older world b.place

    seen-is : view first_port (of c b.older) ≡ before
    seen-is = ap (λ z. view first_port (of z b.older)) (sym c-node) ∙ b.before_is

    still-there : stood (view first_port (of c b.older)) ≡ Here stands-3.start ∷ view first_port (of (node_of C) Older)
    still-there = ap stood seen-is ∙ still

    boots-no : d.deed ≢ Acts Boot
    boots-no boot =
        let low = still-late b.older inside still-there in
        let own = of_time setting c b.older (fits_at setting b.older world k.fits inside) in
        let order = (fits_in setting b.line b.older world k.fits b.place).order in
        let settled = settled-3 in
        k.calm.unbooted b.line b.older b.place (after_s k b.line b.older b.place (omega (arith, low, own, order, settled)))
        (ap (λ (z : Did). z.deed) b.did_is ∙ boot)

    by_message : (r : Received) → taken before ≡ Some r → (from : Place) (g : Taken) → r.from ≡ from → r.taken ≡ g → opposes_in from g ≡ true → ⊥
    by_message r is (Peer p) (Good (Message m)) f g e =
        let fits = fits_at setting b.older world k.fits inside in
        let own = own_fits setting c b.older fits in
        let o = step_at setting _ (λ z. taken (view first_port z) ≡ Some r) (of c b.older) own (nothing_taken r) (took_split first_port r)
        (ap taken seen-is ∙ is) in
        let x = lift c b.older o.line o.rest o.place in
        let deed : o.line.did.deed ≡ Acts (Took (Peer p) (Good (Message m))) = o.is.1 ∙
        (ap (λ z. Acts (Took z r.taken)) f ∙ ap (λ z. Acts (Took (Peer p) z)) g) in
        let at = taken-at (of c b.older) o.line o.rest o.place o.step in
        let low = still-late b.older inside still-there in
        let high = still-soon b.older inside still-there in
        let order = place_time setting (o.line ∷ x.world) b.older fits x.place in
        unopposing o.line x.world (Within_through (o.line ∷ x.world) b.older world x.place inside) x.node o.is.0 (omega (arith, at, low))
        (omega (arith, order, high)) p m deed e
    by_message r is _ _ f g e = true≢false (sym e)

    by_flag : (r : Received) → taken before ≡ Some r → (v : Bool) → opposes_in r.from r.taken ≡ v → opposed (taken before) ≡ false
    by_flag r is false e = ap opposed is ∙ e
    by_flag r is true e = absurd (by_message r is r.from r.taken refl refl e)

    quiet : (o : Option Received) → taken before ≡ o → opposed (taken before) ≡ false
    quiet None is = ap opposed is
    quiet (Some r) is = by_flag r is (opposes_in r.from r.taken) refl

  -- so it wins
  wins-it : Won C Older world
  wins-it = wins C Older stands-at unopposed c-node
      (let tick = stand_tick k stands-3 in
      let early = early-3 in
      let nr = near setting c U3 t (omega (arith, early)) in
      let least = nr.least in
      let slack = k.slack in
      omega (arith, tick, early, least, slack))

  -- and then the network has a master
  pub has_master : ⊥
  has_master =
      let w = wins-it in
      let i = w.wins in
      let inside = Within_tail w.line w.before world i.place in
      let still : stood (view first_port (of c w.before)) ≡ Here stands-3.start ∷ view first_port (of (node_of C) Older) =
      ap (λ z. stood (view first_port (of z w.before))) (sym c-node) ∙ i.still in
      let high = still-soon w.before inside still in
      let low = still-late w.before inside still in
      let own = of_time setting c w.before (fits_at setting w.before world k.fits inside) in
      let time = act_time k w.line w.before (Become Master) i.place i.wins in
      let early = early-3 in
      let slack = k.slack in
      let settled = settled-3 in
      let since = after_s k w.line w.before i.place (omega (arith, low, own, time, settled)) in
      let node : node_of w.line ≡ c = i.node ∙ c-node in
      let seen : view w.line.port (of c (w.line ∷ w.before)) ≡ Here w.line.did ∷ view w.line.port (of c w.before) = view_line c w.line w.before node in
      let seen' : view first_port (of c (w.line ∷ w.before)) ≡ Here w.line.did ∷ view first_port (of c w.before) =
      subst (λ q. view q (of c (w.line ∷ w.before)) ≡ Here w.line.did ∷ view q (of c w.before)) i.port seen in
      k.headless (w.line ∷ w.before) i.place (inr since) (omega (arith, time, high, early, slack)) c fore.there
      (ap role seen' ∙ ap (λ z. role_after z (role_of c w.before)) i.wins)

pub clocked_runs_get_master : ClockedRunsGetMaster
clocked_runs_get_master clocks header setting events late long t stays c s set possible plain fair inside up fore headless =
    elim (cases_lt (time_of (dids s) + longest_headless long (delay_of c s)) t) [
      | inl over ↦ absurd (has_master stretch c fore won over)
      | inr le ↦ le
    ] where
      world : List Line
      world = run_by clocks header events

      wake : Woken (manner_of header) (run_by clocks header events) × AllWake (manner_of header) (run_by clocks header events)
      wake = clocked_runs_wake clocks header events

      stretch : Stretch clocks header setting late long t stays s (run_by clocks header events)
      stretch = record {
        set = set;
        table = clocked_runs_by_table clocks header events;
        fits = (clocked_runs_fit clocks header setting events set possible).0;
        woken = wake.0;
        wakes = wake.1;
        sound = λ n q. runs_sound clocks header events n q;
        motives = clocked_runs_have_motives clocks header events;
        attended = fair.attended;
        slack = fair.slack;
        told = fair.told;
        asks = clocked_runs_ask clocks header setting events set possible;
        wire = fair.wire;
        calm = fair.calm;
        delivered = fair.delivered;
        mild = fair.mild;
        headless = headless;
        up = up;
        inside = inside;
      }

      won : WonUnopposed late setting t c (run_by clocks header events)
      won = (clocked_runs_win clocks header setting events late set possible fair.attended fair.slack plain).1.0 t c (fair.told c fore.there)

pub runs_get_master : RunsGetMaster
runs_get_master header setting events late long t stays c s set possible plain = subst (λ h. Fair header setting late long t stays s h → Within s h →
    AllUp stays s h → Foremost header setting late long stays c s → Headless stays t s h → t ≤ time_of (dids s) + longest_headless long (delay_of c s))
    (runs_by_own_clocks header events)
    (clocked_runs_get_master (clocks_of header) header setting events late long t stays c s (set_own header setting set)
    (possible_own header events possible) plain)
