-- A candidate that nobody opposes wins at its Window, where elections aren't strict.
use Rattle.std.proofs.Common.{sym, ap, subst, arith, inl, inr, true≢false, ◌∙◌, ◌≡◌, ◌≢◌, ◌≤◌, ◌<◌, ◌⊎◌, ℕ, ◌+◌, ◌&&◌, Bool, true, false, List, [], ◌∷◌}
use Rattle.std.proofs.Common.{Option, None, Some, refl}
use Rattle.std.proofs.lemmas.Bool.{and_parts}
use Rattle.tsp_rules.specs.Values.{Acked, Alarm, Become, Boot, Candidate, Datagram, Follow, Good, Kind, Late, Loose, Master, MasterAck, MasterUp, Message, Peer}
use Rattle.tsp_rules.specs.Values.{PeerId}
use Rattle.tsp_rules.specs.Values.{Place, Port, Post, QuitKind, Refuse, Ring, Role, Starting, Stranger, Taken, Took, Window, LIFE, SLACK, WINDOW}
use Rattle.tsp_base.specs.Words.{Acts, Booted, Came, Cause, Deed, Did, Elsewhere, Handed, Step, Turned, dids, time_of, Here, Line, MessageValue, Received, Seen}
use Rattle.tsp_base.specs.Words.{Within, of}
use Rattle.tsp_base.specs.Words.{peer_of, role, stood, stood_after, taken, view}
use Rattle.tsp_base.proofs.{PlaceLemmas.Within_all, PlaceLemmas.Within_tail, PlaceLemmas.Within_through}
use Rattle.tsp_promises.specs.{Fits.Fits, Fits.node_of, Premises.Honest, Premises.HonestAt, Premises.Life, Premises.TakenWithinAt, Setting.Setting}
use Rattle.tsp_promises.proofs.{shared.EverywhereLemmas.Everywhere_at, shared.HistoryPlaces.Within_of, shared.HistoryPlaces.line_on}
use Rattle.tsp_promises.proofs.{shared.ElectionFacts.stood_at, shared.HistoryPlaces.lift, promised.KnownProof.InStep, promised.KnownProof.step_at}
use Rattle.tsp_promises.proofs.{promised.KnownProof.took_split}
use Rattle.tsp_promises.proofs.{promised.OwnFitsProof.fits_at, promised.OwnFitsProof.fits_in, promised.OwnFitsProof.locate, promised.OwnFitsProof.own_fits}
use Rattle.tsp_promises.proofs.{promised.OwnFitsProof.seen_in}
use Rattle.tsp_promises.proofs.{promised.SinceProof.since}
use Rattle.tsp_promises.specs.{Fits.TookFits}
use Rattle.tsp_base.proofs.{PlaceLemmas.Within_none, ViewPlaces.here_is, ViewPlaces.shown}
use Rattle.tsp_progress.proofs.HoldKept.{SeenAt, seen_at}
use Rattle.tsp_run.specs.Clocked.{clocks_of, run_by}
use Rattle.tsp_run.proofs.{OwnClocks.possible_own, OwnClocks.runs_by_own_clocks, OwnClocks.set_own, RunFits.clocked_runs_fit}
use Rattle.tsp_progress.specs.AlarmsFit.{AlarmsFit, Manner, NextFits, NextTo, newest_is}
use Rattle.tsp_progress.specs.{Heeds.is_candidate_role, InTime.CandidatureEnds, OneAtATime.StandsAt}
use Rattle.tsp_progress.specs.{RunsWake.manner_of, Wakes.AllWake, Wakes.Woken, Watched.Attended, Watched.Told}
use Rattle.tsp_progress.specs.WinsUnopposed.{ClockedRunsWin, RunsWin, Unhindered, Unhindering, Unopposed, WinsUnopposed, Won, WonUnopposed, opposed, opposes}
use Rattle.tsp_progress.specs.WinsUnopposed.{opposes_in}
use Rattle.tsp_progress.proofs.{InTimeProof.attended_in_time, InTimeProof.told_in_time, NeverLateProof.never_late}
use Rattle.tsp_progress.proofs.{RunWakes.clocked_runs_wake, SearchKept.alarms_within, SearchKept.view_within, StandKeeps.runs_sound, StandPlaces.kept_at}
use Rattle.tsp_progress.proofs.StandActs.{KeepsAt, Sound, StandFits, acks_by, calls_off, ends_window, is_peer, is_refusal, refused, refuses_kind}
use Rattle.tsp_progress.proofs.StandActs.{yields_now}
use Rattle.tsp_progress.proofs.WinsNot.{stood_role}

-- the change of the role that ended a candidature, or a boot
record Ended (start : Did) (idle seen : List Seen) : Type 0 where
  pub end : Did
  pub before : List Seen
  pub place : Within (Here end ∷ before) seen
  pub still : stood before ≡ Here start ∷ idle
  pub after : Within (Here start ∷ idle) before
  pub is : (end.deed ≡ Acts Boot) ⊎ ((r : Role) × (end.deed ≡ Acts (Become r)))

more : (start : Did) (idle : List Seen) (s : Seen) (seen : List Seen) → Ended start idle seen → Ended start idle (s ∷ seen)
more start idle s seen e = record { end = e.end; before = e.before; place = inr e.place; still = e.still; after = e.after; is = e.is }

-- a candidature goes on, or ended so
goes_on : (start : Did) (idle : List Seen) → start.deed ≡ Acts (Become Candidate) → (seen : List Seen) → Within (Here start ∷ idle) seen →
    (stood seen ≡ Here start ∷ idle) ⊎ Ended start idle seen
goes_on start idle stands [] w = let bad : ⊥ = cc in absurd bad
goes_on start idle stands (s ∷ before) (inl same) = inl (ap stood (sym same) ∙ rw stands refl)
goes_on start idle stands (Elsewhere d ∷ before) (inr w) = elim (goes_on start idle stands before w) [
  | inl still ↦ inl still
  | inr e ↦ inr (more start idle (Elsewhere d) before e)
]
goes_on start idle stands (Here d ∷ before) (inr w) = elim (goes_on start idle stands before w) [
  | inl still ↦ by_deed d.deed refl still
  | inr e ↦ inr (more start idle (Here d) before e)
] where
  ends : stood before ≡ Here start ∷ idle → (d.deed ≡ Acts Boot) ⊎ ((r : Role) × (d.deed ≡ Acts (Become r))) →
      (stood (Here d ∷ before) ≡ Here start ∷ idle) ⊎ Ended start idle (Here d ∷ before)
  ends still is = inr (record { end = d; before = before; place = inl refl; still = still; after = w; is = is })

  by_deed : (deed : Deed) → d.deed ≡ deed → stood before ≡ Here start ∷ idle →
      (stood (Here d ∷ before) ≡ Here start ∷ idle) ⊎ Ended start idle (Here d ∷ before)
  by_deed (Acts Boot) is still = ends still (inl is)
  by_deed (Acts (Become r)) is still = ends still (inr (r, is))
  by_deed deed is still = inl (ap (λ k. stood_after k (Here d ∷ before) (stood before)) is ∙ still)

calls_oppose : (k : Kind) → calls_off k ≡ true → opposes k ≡ true
calls_oppose MasterUp e = refl
calls_oppose MasterAck e = refl
calls_oppose QuitKind e = refl
calls_oppose _ e = absurd (true≢false (sym e))

refusal_opposes : (k : Kind) → refuses_kind k ≡ true → opposes k ≡ true
refusal_opposes Refuse e = refl
refusal_opposes _ e = absurd (true≢false (sym e))

refused_opposed : (o : Option Received) → refused o ≡ true → opposed o ≡ true
refused_opposed None e = absurd (true≢false (sym e))
refused_opposed (Some r) e = by_place r.from r.taken e where
  by_place : (from : Place) (t : Taken) → (is_peer from && is_refusal t) ≡ true → opposed (Some (record { from = from; taken = t })) ≡ true
  by_place (Peer p) (Good (Message m)) k = refusal_opposes m.kind k
  by_place (Peer p) _ k = absurd (true≢false (sym k))
  by_place Stranger t k = absurd (true≢false (sym k))

module _ (setting : Setting) (world : List Line) (fits : Fits setting world) (sound : (n : ℕ) (q : Port) → Sound (view q (of n world))) (m : ℕ → Manner)
    (woken : Woken m world) (wakes : AllWake m world) (late : ℕ) (attended : Attended late world) (slack : late ≤ SLACK)
    (plain : (n : ℕ) → (m n).strict ≡ false) where
  module _ (c : Line) (older : List Line) (st : StandsAt c older world) (alone : Unopposed c older world) where
    abbrev N : ℕ
    N = node_of c

    abbrev Q : Port
    Q = c.port

    abbrev Idle : List Seen
    Idle = view Q (of N older)

    abbrev Whole : List Seen
    Whole = view Q (of N world)

    start-in : Within (Here c.did ∷ Idle) Whole
    start-in = seen_in N c older world refl st.place

    -- up to a place
    module _ (h : List Line) (inside : Within h world) where
      abbrev Then : List Seen
      Then = view Q (of N h)

      then-in : Within Then Whole
      then-in = view_within Q (of N h) (of N world) (Within_of N h world inside)

      -- a candidature that ended was won
      module _ (e : Ended c.did Idle Then) where
        e-in : Within (Here e.end ∷ e.before) Whole
        e-in = Within_through (Here e.end ∷ e.before) Then Whole e.place then-in

        free : (e.end.deed ≢ Acts Boot) × (opposed (taken e.before) ≡ false)
        free = alone e.end e.before e-in e.still

        keeps : KeepsAt e.end.deed e.end e.before
        keeps = kept_at e.end e.before Whole (sound N Q).kept e-in

        candidate : role e.before ≡ Candidate
        candidate = stood_role c.did Idle e.before e.still ∙ (let is = st.stands in rw is refl)

        alarms : AlarmsFit (m N) (Here e.end ∷ e.before)
        alarms = alarms_within (m N) (Here e.end ∷ e.before) Whole e-in (wakes N Q).acts

        fit : (r : Role) → e.end.deed ≡ Acts (Become r) → StandFits (Acts (Become r)) e.end e.before
        fit r is = subst (λ k. StandFits k e.end e.before) is keeps.fits

        oppose : opposed (taken e.before) ≡ true → {A : Type 0} → A
        oppose is = absurd (true≢false (sym is ∙ free.1))

        yielded : (before : List Seen) → yields_now before ≡ true → opposed (taken before) ≡ true
        yielded [] y = absurd (true≢false (sym y))
        yielded (Elsewhere d ∷ rest) y = absurd (true≢false (sym y))
        yielded (Here d ∷ rest) y =
            let both = and_parts (acks_by d.deed) (refused (taken rest) && is_candidate_role (role rest)) y in
            let more = and_parts (refused (taken rest)) (is_candidate_role (role rest)) both.1 in
            by_deed d.deed refl both.0 (refused_opposed (taken rest) more.0)
          where
            by_deed : (deed : Deed) → d.deed ≡ deed → acks_by deed ≡ true → opposed (taken rest) ≡ true → opposed (taken (Here d ∷ rest)) ≡ true
            by_deed (Acts (Acked p)) is k o = rw is o
            by_deed _ is k o = absurd (true≢false (sym k))

        -- no Window is late
        window : (before : List Seen) → newest_is ends_window before ≡ true → Within before Whole → NextTo (m N) before (Acts (Become Loose)) → ⊥
        window [] k w next = true≢false (sym k)
        window (Elsewhere d ∷ rest) k w next = true≢false (sym k)
        window (Here d ∷ rest) k w next = by_deed d.deed refl k where
          by_deed : (deed : Deed) → d.deed ≡ deed → ends_window deed ≡ true → ⊥
          by_deed (Acts (Ring Window)) is k =
              let n = subst (λ z. NextFits (m N) z d.tick rest (Acts (Become Loose))) is next in
              let wins = n.wins (plain N) in
              let bad : ⊥ = cc in
              bad
          by_deed (Acts (Late Window)) is k =
              let l = locate N Q world d rest (rw is refl) w in
              Everywhere_at (λ l before. (a : Alarm) → l.did.deed ≢ Acts (Late a)) (line_on Q d) l.older world
              (never_late m setting late world fits wakes attended slack) l.place Window is
          by_deed _ is k = true≢false (sym k)

        won-by : (r : Role) → e.end.deed ≡ Acts (Become r) → Won c older h
        won-by Master is =
            let l = locate N Q h e.end e.before (rw is refl) e.place in
            record {
              line = line_on Q e.end;
              before = l.older;
              wins = record { place = l.place; node = l.node; port = refl; wins = is; still = ap stood l.before ∙ e.still };
            }
        won-by Starting is =
            let both = sym (fit Starting is) ∙ candidate in
            let bad : ⊥ = cc in
            absurd bad
        won-by Candidate is = absurd (true≢false (sym (ap is_candidate_role candidate) ∙ (fit Candidate is).1))
        won-by (Follow p) is =
            let k = fit (Follow p) is candidate in
            oppose (ap opposed k.took ∙ calls_oppose k.message.kind k.kind)
        won-by Loose is = elim (fit Loose is candidate) [
          | inl ends ↦ absurd (window e.before ends (Within_tail (Here e.end) e.before Whole e-in)
              (subst (λ z. NextTo (m N) e.before z) is alarms.1.0))
          | inr yields ↦ oppose (yielded e.before yields)
        ]

        won : Won c older h
        won = elim e.is [
          | inl boot ↦ absurd (free.0 boot)
          | inr change ↦ won-by change.0 change.1
        ]

      -- so it is won once it can't go on
      won-then : (x : ℕ) → CandidatureEnds late x Then → Within (Here c.did ∷ Idle) Then → c.did.tick + (WINDOW + late) < x → Won c older h
      won-then x ends there long = elim (goes_on c.did Idle st.stands Then there) [
        | inl still ↦
            let candidate : role Then ≡ Candidate = stood_role c.did Idle Then still ∙ (let is = st.stands in rw is refl) in
            let k = ends candidate in
            let same : Here k.start ∷ k.idle ≡ Here c.did ∷ Idle = sym k.stood_is ∙ still in
            let start : k.start ≡ c.did = cc in
            let tick = ap (λ (z : Did). z.tick) start in
            let since = k.since in
            absurd (omega (arith, tick, since, long))
        | inr e ↦ won e
      ]

  pub wins_unopposed : WinsUnopposed late world
  wins_unopposed c older st alone l before place begins node later long =
      let inside = Within_tail l before world place in
      let ends = (Everywhere_at _ l before world (attended_in_time m late world woken attended) place begins c.port).candidature in
      let ends' : CandidatureEnds late l.did.tick (view c.port (of (node_of c) before)) =
      subst (λ n. CandidatureEnds late l.did.tick (view c.port (of n before))) node ends in
      won-then c older st alone before inside l.did.tick ends' (seen_in (node_of c) c older before refl later) long

  pub won_unopposed : (t n : ℕ) → Told late setting t n world → WonUnopposed late setting t n world
  won_unopposed t n told c older st alone node long =
      let ends = (told_in_time m late setting t n world wakes told c.port).candidature in
      let ends' : CandidatureEnds late (setting.tick n t) (view c.port (of (node_of c) world)) =
      subst (λ k. CandidatureEnds late (setting.tick n t) (view c.port (of k world))) (sym node) ends in
      won-then c older st alone world (Within_all world) (setting.tick n t) ends' (seen_in (node_of c) c older world refl st.place) long

  -- who isn't sent such a message doesn't take one
  module _ (honest : Honest world) (life : Life world) (c : Line) (older : List Line) (st : StandsAt c older world) (free : Unhindered c older world) where
    abbrev B : ℕ
    B = node_of c

    -- what a peer sent was posted by it, long before
    posted-before : (l : Line) (before : List Line) → Within (l ∷ before) world → node_of l ≡ B → (p : PeerId) (n : MessageValue) → l.did.deed ≡
        Acts (Took (Peer p) (Good (Message n))) → opposes n.kind ≡ true → l.did.step.at < c.did.step.at
    posted-before l before place node p n is kind = by_cause l.did.step.cause refl
        ((fits_in setting l before world fits place).took (Peer p) (Good (Message n)) is) where
          by_cause : (cause : Cause) → l.did.step.cause ≡ cause → TookFits cause setting l before (Peer p) (Good (Message n)) →
              l.did.step.at < c.did.step.at
          by_cause Handed e f = absurd (Everywhere_at HonestAt l before world honest place e p (Good (Message n)) is)
          by_cause (Came k) e f =
              let same : f.datagram ≡ Message n = good f.datagram (Message n) (sym f.taken_is) in
              let deed : f.post.did.deed ≡ Acts (Post (Peer (peer_of B)) (Message n)) = f.deed ∙
              (ap (λ j. Acts (Post (Peer (peer_of j)) f.datagram)) node ∙ ap (λ d. Acts (Post (Peer (peer_of B)) d)) same) in
              let inside = Within_through (f.post ∷ f.older) before world f.place (Within_tail l before world place) in
              let young = Everywhere_at (TakenWithinAt LIFE) l before world life place f.post f.older (Peer (peer_of B)) (Message n) f.place deed
              (e ∙ ap Came (sym f.number)) in
              let old = free.unposted f.post f.older n inside deed kind in
              omega (arith, young, old)
            where
              good : (d e : Datagram) → Good d ≡ Good e → d ≡ e
              good d e h = cc
          by_cause Turned e f = absurd f
          by_cause (Booted word wall) e f = absurd f

    abbrev newest-at : List Line → ℕ
    newest-at ls = time_of (dids ls)

    -- what a port's step has taken, it took at the time of its newest line
    taken-now : (o : List Line) → Within o world → (r : Received) → taken (view c.port (of B o)) ≡ Some r → (p : PeerId) (n : MessageValue) → r.from ≡ Peer p →
        r.taken ≡ Good (Message n) → opposes n.kind ≡ true → newest-at (of B o) < c.did.step.at
    taken-now o inside r is p n from message kind =
        let own = own_fits setting B o (fits_at setting o world fits inside) in
        let t = step_at setting _ (λ t. taken (view c.port t) ≡ Some r) (of B o) own (λ e. nothing e) (took_split c.port r) is in
        let x = lift B o t.line t.rest t.place in
        let place = Within_through (t.line ∷ x.world) o world x.place inside in
        let deed : t.line.did.deed ≡ Acts (Took (Peer p) (Good (Message n))) = t.is.1 ∙
        (ap (λ z. Acts (Took z r.taken)) from ∙ ap (λ z. Acts (Took (Peer p) z)) message) in
        let early = posted-before t.line x.world place x.node p n deed kind in
        by_lines (of B o) t.line t.rest t.place t.step early
      where
        nothing : taken [] ≡ Some r → ⊥
        nothing e = cc

        by_lines : (ls : List Line) (l : Line) (rest : List Line) → Within (l ∷ rest) ls → ((s : Step) → InStep ls s → l.did.step ≡ s) →
            l.did.step.at < c.did.step.at → newest-at ls < c.did.step.at
        by_lines [] l rest w same early = Within_none l rest w
        by_lines (k ∷ more) l rest w same early = let at = ap (λ (s : Step). s.at) (same k.did.step refl) in omega (arith, at, early)

    -- who stood then stood no later than the newest line
    stood-now : (o : List Line) → Within o world → Within (Here c.did ∷ view c.port (of B older)) (view c.port (of B o)) → c.did.step.at ≤ newest-at (of B o)
    stood-now o inside there =
        let s = shown c.port (of B o) (Here c.did) (view c.port (of B older)) there in
        let own = own_fits setting B o (fits_at setting o world fits inside) in
        let since_then = (since setting (s.line ∷ s.rest) (of B o) own s.place).time in
        let at = ap (λ (k : Did). k.step.at) (here_is _ s.line.did c.did s.is).1 in
        omega (arith, since_then, at)

    unhindered : Unopposed c older world
    unhindered d before place still = (free.unbooted d before place still, by_taken (taken before) refl) where
      s : SeenAt B c.port d before world
      s = seen_at B c.port d before world place

      inside : Within s.older world
      inside = Within_tail s.line s.older world s.place

      there : Within (Here c.did ∷ view c.port (of B older)) (view c.port (of B s.older))
      there = subst (λ v. Within (Here c.did ∷ view c.port (of B older)) v) (sym s.before_is)
          (stood_at before (Here c.did) (view c.port (of B older)) still).place

      by_message : (r : Received) → taken before ≡ Some r → (from : Place) (t : Taken) → r.from ≡ from → r.taken ≡ t → opposes_in from t ≡ true → ⊥
      by_message r is (Peer p) (Good (Message n)) f g k =
          let early = taken-now s.older inside r (ap taken s.before_is ∙ is) p n f g k in
          let late_ = stood-now s.older inside there in
          omega (arith, early, late_)
      by_message r is _ _ f g k = true≢false (sym k)

      by_flag : (r : Received) → taken before ≡ Some r → (b : Bool) → opposes_in r.from r.taken ≡ b → opposed (taken before) ≡ false
      by_flag r is false e = ap opposed is ∙ e
      by_flag r is true e = absurd (by_message r is r.from r.taken refl refl e)

      by_taken : (o : Option Received) → taken before ≡ o → opposed (taken before) ≡ false
      by_taken None is = ap opposed is
      by_taken (Some r) is = by_flag r is (opposes_in r.from r.taken) refl

  pub unhindering : Honest world → Life world → Unhindering world
  unhindering honest life c older st free = unhindered honest life c older st free

pub clocked_runs_win : ClockedRunsWin
clocked_runs_win clocks header setting events late set possible attended slack plain =
    let fits = (clocked_runs_fit clocks header setting events set possible).0 in
    let w = clocked_runs_wake clocks header events in
    let world = run_by clocks header events in
    let sound = λ (n : ℕ) (q : Port). runs_sound clocks header events n q in (
      wins_unopposed setting world fits sound (manner_of header) w.0 w.1 late attended slack (λ n. plain),
      (
        λ t n told. won_unopposed setting world fits sound (manner_of header) w.0 w.1 late attended slack (λ n. plain) t n told,
        λ honest life. unhindering setting world fits sound (manner_of header) w.0 w.1 late attended slack (λ n. plain) honest life,
      ),
    )

pub runs_win : RunsWin
runs_win header setting events late set possible = subst (λ h. Attended late h → late ≤ SLACK → header.strict ≡ false → WinsUnopposed late h
    × (((t n : ℕ) → Told late setting t n h → WonUnopposed late setting t n h) × (Honest h → Life h → Unhindering h))) (runs_by_own_clocks header events)
    (clocked_runs_win (clocks_of header) header setting events late (set_own header setting set) (possible_own header events possible))
