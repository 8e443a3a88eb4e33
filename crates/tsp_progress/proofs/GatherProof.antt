-- All nodes of a calm network in which one node alone leads come to follow it.
use Rattle.std.proofs.Common.{ap, subst, arith, inl, inr, ◌∙◌, ◌≡◌, ◌≤◌, ◌<◌, ℕ, ◌+◌, ◌*◌, ◌==◌, ◌&&◌, not, Bool, true, false, List, []}
use Rattle.std.proofs.Common.{◌∷◌, if◌then◌else◌, filter, length, refl, suc, zero}
use Rattle.std.proofs.{Math.Nat.suc-mul, lemmas.Bool.cases_lt}
use Rattle.tsp_rules.specs.Values.{PeerId, Follow, ROUND, SLACK}
use Rattle.tsp_base.specs.Words.{HeaderValue, Line, Within, dids, first_port, is_among, peer_of, time_of}
use Rattle.tsp_base.proofs.PlaceLemmas.{Within_strict, Within_through}
use Rattle.tsp_promises.specs.{Setting.Setting}
use Rattle.tsp_promises.proofs.shared.Elections.{AllIn, Distinct, In, in_among, shared}
use Rattle.tsp_run.specs.Clocked.{Clocks, clocks_of, run_by}
use Rattle.tsp_run.proofs.{OwnClocks.possible_own, OwnClocks.runs_by_own_clocks, OwnClocks.set_own, RunFits.clocked_runs_fit}
use Rattle.tsp_progress.specs.{Delivered.Delivered, FollowOn.Calm, FollowOn.IsMild, FollowOn.OneNetwork, FollowOn.role_of}
use Rattle.tsp_progress.specs.{Watched.Attended}
use Rattle.tsp_progress.specs.Gather.{AllTold, AllAwake, ClockedRunsGather, Gather, LeadUntil, RunsGather, gathered_after, leaves_after, others_of}
use Rattle.tsp_progress.proofs.{CallingProof.clocked_runs_call, RolesProof.clocked_runs_keep_roles, RunWakes.clocked_runs_wake, StandKeeps.runs_sound}
use Rattle.tsp_progress.proofs.{TableProof.clocked_runs_by_table, TimePlaces.before_time}
use Rattle.tsp_progress.proofs.GatherPlaces.{Strayed, strayed_from}
use Rattle.tsp_progress.proofs.{GatherCalls.Scene, GatherCalls.heard_by}
use Rattle.tsp_progress.proofs.GatherSteps.{Upto, one_left, upto_line}
use Rattle.tsp_progress.proofs.{GatherStays.stays_on}

module _ {clocks : Clocks} {header : HeaderValue} {setting : Setting} {late long t c : ℕ} {stays : ℕ → Bool} {s world : List Line}
    (scene : Scene clocks header setting late long t c stays s world) where
  abbrev B : ℕ
  B = leaves_after long

  -- one of the others, which strays
  record OneStrays (p : PeerId) (g : List Line) : Type 0 where
    pub among : In p (others_of setting stays c)
    pub there : stays p.0 ≡ true
    pub other : (p.0 == c) ≡ false
    pub strays : Strayed c p.0 g

  abbrev Strays : List PeerId → List Line → Type 0
  Strays [] g = Unit {0}
  Strays (p ∷ rest) g = OneStrays p g × Strays rest g

  in_filter : (test : PeerId → Bool) (p : PeerId) (ps : List PeerId) → In p ps → test p ≡ true → In p (filter test ps)
  in_filter test p [] i is = i
  in_filter test p (q ∷ rest) (inl e) is = let here : test q ≡ true = ap test e ∙ is in rw here (inl e)
  in_filter test p (q ∷ rest) (inr i) is = by_case (test q) (in_filter test p rest i is) where
    by_case : (b : Bool) → In p (filter test rest) → In p (if b then q ∷ filter test rest else filter test rest)
    by_case true j = inr j
    by_case false j = j

  others-in : (n : ℕ) → stays n ≡ true → (n == c) ≡ false → In (peer_of n) (others_of setting stays c)
  others-in n there other =
      let member : is_among (peer_of n) (setting.members (setting.net c first_port)) ≡ true =
      subst (λ k. is_among (peer_of n) (setting.members k) ≡ true) (scene.one.net n there) (setting.own n first_port) in
      in_filter (λ (p : PeerId). stays p.0 && not (p.0 == c)) (peer_of n) (setting.members (setting.net c first_port))
      (in_among (peer_of n) (setting.members (setting.net c first_port)) member) (rw (there, other) refl)

  all_in : (ps : List PeerId) (g : List Line) → Strays ps g → AllIn ps (others_of setting stays c)
  all_in [] g s = tt
  all_in (p ∷ rest) g s = (s.0.among, all_in rest g s.1)

  strays_in : (p : PeerId) (ps : List PeerId) (g : List Line) → Strays ps g → In p ps → Strayed c p.0 g
  strays_in p [] g s i = absurd i
  strays_in p (q ∷ rest) g s (inl e) = subst (λ (z : PeerId). Strayed c z.0 g) e s.0.strays
  strays_in p (q ∷ rest) g s (inr i) = strays_in p rest g s.1 i

  -- whoever strays did so at an earlier place
  back : (x : ℕ) (g : List Line) → Upto scene x g → time_of (dids s) + long < x → (h : List Line) → Within g h → Within h world → time_of (dids h) ≤ t →
      (ps : List PeerId) → Strays ps h → Strays ps g
  back x g u later h w v le [] k = tt
  back x g u later h w v le (p ∷ rest) k = (
    record {
      among = k.0.among;
      there = k.0.there;
      other = k.0.other;
      strays = strayed_from setting world scene.fits scene.calls long c stays s scene.s_in scene.one.net scene.calm t scene.lead p.0 g h w v le
          (λ l older i j. elim (cases_lt l.did.step.at x) [
            | inl less ↦ absurd (Within_strict l older g (u.all l older (Within_through (l ∷ older) h world i v) less) j)
            | inr none ↦ omega (arith, none, later)
          ]) k.0.strays;
    },
    back x g u later h w v le rest k.1,
  )

  -- so many of the others
  record Many (n : ℕ) : Type 0 where
    pub list : List PeerId
    pub distinct : Distinct list
    pub all : AllIn list (others_of setting stays c)
    pub count : length list ≡ n

  chain : (k x : ℕ) (g : List Line) → Upto scene x g → x ≤ t → (f : PeerId) (rest : List PeerId) → Strays (f ∷ rest) g → Distinct (f ∷ rest) →
      time_of (dids s) + (ROUND + 2 * SLACK + 2 * long + 2) + k * B ≤ x → Many (length rest + 1 + k)
  chain zero x g u until f rest strays distinct late-x = record {
    list = f ∷ rest;
    distinct = distinct;
    all = all_in (f ∷ rest) g strays;
    count = omega arith;
  }
  chain (suc k) x g u until f rest strays distinct late-x =
      let more : suc k * B ≡ k * B + B = suc-mul k B in
      let one = one_left scene f.0 x strays.0.there strays.0.other g u until (omega (arith, late-x, more)) strays.0.strays in
      let recent = one.recent in
      let p = peer_of one.node in
      let later : time_of (dids s) + (ROUND + 2 * SLACK + 2 * long + 2) + k * B ≤ one.time = omega (arith, late-x, more, recent) in
      let low = u.low in
      let many = chain k one.time one.place one.upto (let earlier = one.earlier in omega (arith, earlier, until)) p (f ∷ rest) (
        record { among = others-in one.node one.there one.other; there = one.there; other = one.other; strays = one.strayed },
        back one.time one.place one.upto (omega (arith, later)) g one.before u.within (omega (arith, low, until)) (f ∷ rest) strays,
      ) ((λ i. one.left (strays_in p (f ∷ rest) g strays i)), distinct) later in
      let count = many.count in
      record { list = many.list; distinct = many.distinct; all = many.all; count = omega (arith, count) }

  -- so late nobody strays
  none_strayed : (f x : ℕ) → stays f ≡ true → (f == c) ≡ false → (g : List Line) → Upto scene x g → x ≤ t →
      time_of (dids s) + (ROUND + 2 * SLACK + 2 * long + 2) + length (others_of setting stays c) * B ≤ x → Strayed c f g → ⊥
  none_strayed f x there other g u until late-x strays =
      let many = chain (length (others_of setting stays c)) x g u until (peer_of f) []
      (record { among = others-in f there other; there = there; other = other; strays = strays }, tt) ((λ i. i), tt) late-x in
      let count = many.count in
      let two = (shared many.list [] (others_of setting stays c) many.distinct tt many.all tt (omega (arith, count))).two in
      two

  follows : (h : List Line) → Within h world → Within s h →
      time_of (dids s) + gathered_after long (length (others_of setting stays c)) ≤ time_of (dids h) → time_of (dids h) ≤ t → (f : ℕ) → stays f ≡ true →
      (f == c) ≡ false → role_of f h ≡ Follow (peer_of c)
  follows [] w v settled le f there other = let bad : ⊥ = omega (arith, settled) in absurd bad
  follows (l ∷ older) w v settled le f there other =
      let x = l.did.step.at in
      let heard = heard_by scene f x there other (omega (arith, settled)) le in
      let recent = heard.recent in
      let soon = heard.soon in
      let late-c : time_of (dids s) + (ROUND + 2 * SLACK + 2 * long + 2) + length (others_of setting stays c) * B ≤ heard.line.did.step.at =
      omega (arith, recent, settled) in
      elim heard.minds [
        | inl strayed ↦ absurd (none_strayed f heard.line.did.step.at there other heard.before
            (upto_line scene heard.line heard.before heard.place heard.after) (omega (arith, soon, le)) late-c strayed)
        | inr m ↦
            let inside : Within (m.arm ∷ m.older) older = before_time setting world scene.fits m.arm m.older l older m.place w
            (let time = m.time in omega (arith, time, soon)) in
            stays_on scene f there heard.line.did.step.at m (omega (arith, late-c)) x le heard.fresh (l ∷ older) (inr inside) w (omega arith)
      ]

  pub gather : Gather setting long t stays c s world
  gather h w v settled le = record {
    leads = (scene.lead h w v le).leads;
    follow = λ n there other. follows h w v settled le n there other;
  }

pub clocked_runs_gather : ClockedRunsGather
clocked_runs_gather clocks header setting events late long t stays c s set possible attended slack told one calm delivered mild up lead h w v =
    let world = run_by clocks header events in
    let awake = clocked_runs_wake clocks header events in
    gather {clocks = clocks} {header = header} {late = late} (record {
      set = set;
      table = clocked_runs_by_table clocks header events;
      fits = (clocked_runs_fit clocks header setting events set possible).0;
      woken = awake.0;
      wakes = awake.1;
      attended = attended;
      slack = slack;
      told = told;
      one = one;
      calm = calm;
      delivered = delivered;
      mild = mild;
      up = up;
      lead = lead;
      calls = clocked_runs_call clocks header setting events set possible;
      roles = clocked_runs_keep_roles clocks header setting events set possible;
      sound = λ n q. runs_sound clocks header events n q;
      s_in = Within_through s h world v w;
    }) h w v

pub runs_gather : RunsGather
runs_gather header setting events late long t stays c s set possible = subst (λ h. Attended late h → late ≤ SLACK → AllTold late setting t stays h →
    OneNetwork header setting stays c → Calm long stays s h → Delivered setting long t stays s h → IsMild long → AllAwake stays s → LeadUntil stays c t s h →
    Gather setting long t stays c s h)
    (runs_by_own_clocks header events)
    (clocked_runs_gather (clocks_of header) header setting events late long t stays c s (set_own header setting set) (possible_own header events possible))
