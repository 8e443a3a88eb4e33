-- In such a network who follows c does so on, and what each node has armed.
use Rattle.std.proofs.Common.{sym, ap, subst, arith, inl, inr, ◌∙◌, ◌≡◌, ◌≤◌, ◌<◌, ℕ, ◌+◌, Bool, true, List}
use Rattle.std.proofs.Common.{[], ◌∷◌, refl}
use Rattle.tsp_rules.specs.Values.{Become, Post, Message, Peer, Place, Role, Follow, Test}
use Rattle.tsp_rules.specs.Values.{ELECT_MIN}
use Rattle.tsp_base.specs.Words.{Acts, Begins, HeaderValue, Here, Line, MessageValue, Within, dids, first_port, of}
use Rattle.tsp_base.specs.Words.{peer_of, role, time_of, view}
use Rattle.tsp_base.proofs.PlaceLemmas.{Within_tail}
use Rattle.tsp_promises.specs.{DeedFits.MessageFits, DeedFits.PostsFit, Fits.node_of, Setting.Setting, Setting.setup_of}
use Rattle.tsp_promises.proofs.{shared.Clocks.tick_mono, shared.EverywhereLemmas.Everywhere_at}
use Rattle.tsp_promises.proofs.promised.OwnFitsProof.{deed_fits, fits_at, fits_in, place_time, seen_in, tick_in}
use Rattle.tsp_run.specs.Clocked.{Clocks}
use Rattle.tsp_progress.specs.{FollowOn.role_of, RunsWake.manner_of}
use Rattle.tsp_progress.specs.RolesLast.{EndFits, RoleFits, StopsFollowing, TookKind, Unheeding}
use Rattle.tsp_progress.specs.{Wakes.Wakes, Wakes.WokenAt, Watched.AttendedAt, Watched.Watched}
use Rattle.tsp_progress.proofs.{FollowCalls.Cut, FollowCalls.cut, FollowHeard.sooner}
use Rattle.tsp_progress.proofs.{FollowProof.owes_at, FollowProof.role_kept}
use Rattle.tsp_progress.proofs.GatherPlaces.{Source, since, source}
use Rattle.tsp_progress.proofs.GatherCalls.{Minds, Scene}

module _ {clocks : Clocks} {header : HeaderValue} {setting : Setting} {late long t c : ℕ} {stays : ℕ → Bool} {s world : List Line}
    (scene : Scene clocks header setting late long t c stays s world) where
  abbrev pub T : ℕ
  T = time_of (dids s)

  -- what a step took so late, as `source` says
  abbrev pub From : (l : Line) (older : List Line) → Place → MessageValue → Type 0
  From l older from k = Source setting world scene.fits scene.calls long c stays s scene.s_in scene.one.net scene.calm l older from k

  -- who follows c, since it armed its Elect there

  module _ (f : ℕ) (there : stays f ≡ true) (at : ℕ) (m : Minds c f at s world) (later : T + long < at) (x : ℕ) (until : x ≤ t)
      (fresh : setting.tick f x < setting.tick f at + ELECT_MIN) where
    test_no : (l : Line) (older : List Line) (place : Within (l ∷ older) world) → T + long < l.did.step.at → l.port ≡ first_port → (r : Role) →
        l.did.deed ≡ Acts (Become r) → TookKind Test (view l.port (of (node_of l) older)) → ⊥
    test_no l older place late-l port r act k =
        let o = source setting world scene.fits scene.calls long c stays s scene.s_in scene.one.net scene.calm l older place late-l port (Become r)
        act k.from k.message k.took in
        let n = node_of o.post in
        let posts : PostsFit (setup_of setting n o.post.port) (Peer (peer_of (node_of l))) (Message k.message) o.post.did (view o.post.port (of n o.before)) =
        deed_fits setting o.post o.before (Acts (Post (Peer (peer_of (node_of l))) (Message k.message))) o.deed
        (fits_in setting o.post o.before world scene.fits o.at) in
        subst (λ kind. MessageFits (setup_of setting n o.post.port) kind o.post.did (view o.post.port (of n o.before)) (peer_of (node_of l)) k.message)
        k.kind_is
        posts.fits

    -- the next line
    step : (l : Line) (older : List Line) → Within (m.arm ∷ m.older) older → Within (l ∷ older) world → l.did.step.at ≤ x → role_of f older ≡
        Follow (peer_of c) → role_of f (l ∷ older) ≡ Follow (peer_of c)
    step l older w place le before = role_kept f l older (scene.calm.unbooted l older place after) no ∙ before where
      first : at ≤ l.did.step.at
      first =
          let low = place_time setting (m.arm ∷ m.older) older (fits_at setting older world scene.fits (Within_tail l older world place)) w in
          let order = (fits_in setting l older world scene.fits place).order in
          let time = m.time in
          omega (arith, low, order, time)

      after : Within s older
      after = since setting world scene.fits scene.calls long c stays s scene.s_in scene.one.net scene.calm l older place
          (let first = first in omega (arith, first, later))

      no : node_of l ≡ f → l.port ≡ first_port → (r : Role) → l.did.deed ≡ Acts (Become r) → ⊥
      no node port r act =
          let follows : role (view l.port (of (node_of l) older)) ≡ Follow (peer_of c) =
          subst (λ k. role (view l.port (of k older)) ≡ Follow (peer_of c)) (sym node)
          (subst (λ q. role (view q (of f older)) ≡ Follow (peer_of c)) (sym port) before) in
          let owed : RoleFits l.did.deed l.did (view l.port (of (node_of l) older)) =
          owes_at RoleFits l.did (view l.port (of (node_of l) older)) (view l.port (of (node_of l) world)) (seen_in (node_of l) l older world refl place)
          (scene.roles (node_of l) l.port) in
          let ended : StopsFollowing l.did (view l.port (of (node_of l) older)) =
          subst (λ k. EndFits k r l.did (view l.port (of (node_of l) older))) follows
          (subst (λ d. RoleFits d l.did (view l.port (of (node_of l) older))) act owed) in
          elim ended [
            | inl test ↦ test_no l older place (let first = first in omega (arith, first, later)) port r act test
            | inr u ↦
                let arm-in : Within (Here m.arm.did ∷ view first_port (of f m.older)) (view first_port (of f older)) =
                subst (λ q. Within (Here m.arm.did ∷ view q (of f m.older)) (view q (of f older))) m.port (seen_in f m.arm m.older older m.node w) in
                let own : Unheeding l.did (view first_port (of f older)) = subst (λ q. Unheeding l.did (view q (of f older))) port
                (subst (λ k. Unheeding l.did (view l.port (of k older))) node u) in
                let old = own m.arm.did (view first_port (of f m.older)) m.until arm-in m.deed in
                let tick = tick_in setting f m.arm m.older world scene.fits m.node m.place in
                let now = tick_in setting f l older world scene.fits node place in
                let mono = tick_mono setting f l.did.step.at x le in
                let time = ap (setting.tick f) m.time in
                omega (arith, old, tick, now, mono, time, fresh)
          ]

    pub stays_on : (h : List Line) → Within (m.arm ∷ m.older) h → Within h world → time_of (dids h) ≤ x → role_of f h ≡ Follow (peer_of c)
    stays_on [] w v le = let bad : ⊥ = cc in absurd bad
    stays_on (l ∷ older) (inl e) v le = subst (λ z. role_of f z ≡ Follow (peer_of c)) e m.follows
    stays_on (l ∷ older) (inr w) v le =
        let order = (fits_in setting l older world scene.fits v).order in
        step l older w v le (stays_on older w (Within_tail l older world v) (omega (arith, order, le)))

  -- what a node has armed at a true time, and how late it is looked at
  abbrev pub Looked : ℕ → ℕ → List Line → Type 0
  Looked f time lines = Wakes (manner_of header f) (view first_port lines) × Watched late (setting.tick f time) (view first_port lines)

  module _ (f time : ℕ) (there : stays f ≡ true) (early : time ≤ t) where
    marks : (k : Line) (w : List Line) → Within (k ∷ w) world → k.did.deed ≡ Begins → node_of k ≡ f → time < k.did.step.at → Looked f time (of f w)
    marks k w v begins node later =
        let awake = Everywhere_at (WokenAt (manner_of header)) k w world scene.woken v begins first_port in
        let watched = Everywhere_at (AttendedAt late) k w world scene.attended v begins first_port in
        let tick = tick_in setting (node_of k) k w world scene.fits refl v in
        let mono = tick_mono setting (node_of k) time k.did.step.at (omega (arith, later)) in
        let here = sooner late k.did.tick (setting.tick (node_of k) time) (view first_port (of (node_of k) w)) (omega (arith, tick, mono)) watched in (
          subst (λ n. Wakes (manner_of header n) (view first_port (of n w))) node awake,
          subst (λ n. Watched late (setting.tick n time) (view first_port (of n w))) node here,
        )

    ends : Looked f time (of f world)
    ends = (
      scene.wakes f first_port,
      sooner late (setting.tick f t) (setting.tick f time) (view first_port (of f world)) (tick_mono setting f time t early) (scene.told f there first_port),
    )

    -- the place up to that time
    pub looked : Cut f time (Looked f time) world
    looked = cut setting f time (Looked f time) world scene.fits marks ends
