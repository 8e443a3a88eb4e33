-- In a calm network in which one node alone leads its calls come to each other one again and again, which then follows it, if it doesn't follow another.
use Rattle.std.proofs.Common.{sym, ap, subst, arith, true≢false, inl, inr, ◌∙◌, ◌≡◌, ◌≤◌, ◌<◌, ◌⊎◌, ℕ, ◌+◌, ◌-◌, ◌*◌, ◌==◌, Bool, true, false, List}
use Rattle.std.proofs.Common.{[], ◌∷◌, eqb-true, refl}
use Rattle.tsp_rules.specs.Values.{Port, Act, Arm, Become, Boot, Elect, MasterUp, SlaveUp, Message, PeerId, Role, Starting, Loose, Follow, Candidate, Master}
use Rattle.tsp_rules.specs.Values.{ELECT_MIN, ROUND, SLACK}
use Rattle.tsp_rules.specs.{GateRows.steers, Guards.delay_at, Guards.is_follow, Guards.is_starting_role, Guards.ticket_at}
use Rattle.tsp_base.specs.Words.{Acts, HeaderValue, Here, Line, MessageValue, Past, Within, bare, dids, first_port, is_among, joined, line_of, of, peer_of}
use Rattle.tsp_base.specs.Words.{placed, role, time_of, view}
use Rattle.tsp_base.proofs.PlaceLemmas.{Within_all, Within_tail, Within_through}
use Rattle.tsp_promises.specs.{Fits.Fits, Fits.node_of, Setting.Setting}
use Rattle.tsp_promises.proofs.{shared.Clocks.near}
use Rattle.tsp_promises.proofs.promised.OwnFitsProof.{fits_at, fits_in, place_time, seen_in}
use Rattle.tsp_run.specs.Clocked.{Clocks, SetByClocks}
use Rattle.tsp_progress.specs.{ByTable.ByTable, ByTable.before_line, ByTable.node_in, ByTable.port_before, Calling.CallsFit}
use Rattle.tsp_progress.specs.{Delivered.Arrives, Delivered.Delivered, Delivered.PostsTo, RolesLast.RolesLast, RunsWake.manner_of}
use Rattle.tsp_progress.specs.FollowOn.{Calm, IsMild, OneNetwork, role_of}
use Rattle.tsp_progress.specs.Gather.{AllTold, AllAwake, LeadUntil}
use Rattle.tsp_progress.specs.{Heeds.DoesNext, Heeds.follow_acts, Heeds.has_no_master, Heeds.posts_bare, Heeds.role_before}
use Rattle.tsp_progress.specs.{Wakes.AllWake, Wakes.Woken, Watched.Attended}
use Rattle.tsp_progress.proofs.{AnswersProof.hears_there, HeedsProof.all_heed, FollowProof.role_kept, FollowHeard.Called, FollowHeard.called}
use Rattle.tsp_progress.proofs.{FollowHeard.first_steers}
use Rattle.tsp_progress.proofs.{GatherPlaces.Strayed, GatherPlaces.role_becomes, GatherPlaces.view_own}
use Rattle.tsp_progress.proofs.{StandActs.Sound, StandActs.StandFits, StandPlaces.kept_at, TableRows.within_joined}
use Rattle.tsp_progress.proofs.WorldPlaces.{Among, act_place, in_order, world_place}

-- nobody who stays comes to its quiet time again
module _ (world : List Line) (long : ℕ) (stays : ℕ → Bool) (s : List Line) (calm : Calm long stays s world) (up : AllAwake stays s)
    (sound : (n : ℕ) → Sound (view first_port (of n world))) where
  up_step : (f : ℕ) (l : Line) (older : List Line) → Within s older → Within (l ∷ older) world → is_starting_role (role_of f older) ≡ false →
      is_starting_role (role_of f (l ∷ older)) ≡ false
  up_step f l older w v was = by_role (is_starting_role (role_of f (l ∷ older))) refl where
    starting : (r : Role) → is_starting_role r ≡ true → r ≡ Starting
    starting Starting e = refl
    starting _ e = absurd (true≢false (sym e))

    becomes : node_of l ≡ f → l.port ≡ first_port → (r : Role) → l.did.deed ≡ Acts (Become r) → is_starting_role (role_of f (l ∷ older)) ≡ true → ⊥
    becomes node port r act e =
        let is : r ≡ Starting = starting r (ap is_starting_role (sym (role_becomes f l older r node port act)) ∙ e) in
        let here = subst (λ q. Within (Here l.did ∷ view q (of f older)) (view q (of f world))) port (seen_in f l older world node v) in
        let fits : StandFits l.did.deed l.did (view first_port (of f older)) =
        (kept_at l.did (view first_port (of f older)) (view first_port (of f world)) (sound f).kept here).fits in
        let before : role_of f older ≡ Starting =
        subst (λ d. StandFits d l.did (view first_port (of f older))) (act ∙ ap (λ r. Acts (Become r)) is) fits in
        true≢false (sym (ap is_starting_role before) ∙ was)

    by_role : (b : Bool) → is_starting_role (role_of f (l ∷ older)) ≡ b → is_starting_role (role_of f (l ∷ older)) ≡ false
    by_role true e = absurd (true≢false (sym e ∙ (ap is_starting_role (role_kept f l older (calm.unbooted l older v w)
        (λ node port r act. becomes node port r act e)) ∙ was)))
    by_role false e = e

  -- nobody is in its quiet time again
  pub up_on : (f : ℕ) → stays f ≡ true → (h : List Line) → Within s h → Within h world → is_starting_role (role_of f h) ≡ false
  up_on f there [] w v = subst (λ (z : List Line). is_starting_role (role_of f z) ≡ false) w (up f there)
  up_on f there (l ∷ older) (inl e) v = subst (λ (z : List Line). is_starting_role (role_of f z) ≡ false) e (up f there)
  up_on f there (l ∷ older) (inr w) v = up_step f l older w v (up_on f there older w (Within_tail l older world v))

-- what is so of the network
pub record Scene (clocks : Clocks) (header : HeaderValue) (setting : Setting) (late long t c : ℕ) (stays : ℕ → Bool) (s world : List Line) : Type 0 where
  pub set : SetByClocks clocks header setting
  pub table : ByTable header world
  pub fits : Fits setting world
  pub woken : Woken (manner_of header) world
  pub wakes : AllWake (manner_of header) world
  pub attended : Attended late world
  pub slack : late ≤ SLACK
  pub told : AllTold late setting t stays world
  pub one : OneNetwork header setting stays c
  pub calm : Calm long stays s world
  pub delivered : Delivered setting long t stays s world
  pub mild : IsMild long
  pub up : AllAwake stays s
  pub lead : LeadUntil stays c t s world
  pub calls : CallsFit world
  pub roles : RolesLast world
  pub sound : (n : ℕ) (q : Port) → Sound (view q (of n world))
  pub s_in : Within s world

-- node f armed its Elect then, and follows c
pub record Minds (c f at : ℕ) (s world : List Line) : Type 0 where
  pub arm : Line
  pub older : List Line
  pub place : Within (arm ∷ older) world
  pub after : Within s older
  pub node : node_of arm ≡ f
  pub port : arm.port ≡ first_port
  pub until : ℕ
  pub deed : arm.did.deed ≡ Acts (Arm Elect until)
  pub time : arm.did.step.at ≡ at
  pub follows : role_of f (arm ∷ older) ≡ Follow (peer_of c)

-- it took a call of c so long before the true time x
pub record HeardBy (setting : Setting) (long c f x : ℕ) (s world : List Line) : Type 0 where
  pub line : Line
  pub before : List Line
  pub place : Within (line ∷ before) world
  pub after : Within s before
  pub soon : line.did.step.at < x
  pub recent : x ≤ line.did.step.at + (ROUND + 2 * SLACK + long + 1)
  pub fresh : setting.tick f x < setting.tick f line.did.step.at + ELECT_MIN
  pub minds : Strayed c f before ⊎ Minds c f line.did.step.at s world

module _ {clocks : Clocks} {header : HeaderValue} {setting : Setting} {late long t c : ℕ} {stays : ℕ → Bool} {s world : List Line}
    (scene : Scene clocks header setting late long t c stays s world) where
  module _ (f x : ℕ) (there : stays f ≡ true) (other : (f == c) ≡ false) (long-since : time_of (dids s) + (ROUND + 2 * SLACK + long + 1) ≤ x) (until : x ≤ t)
    where
      Time : ℕ
      Time = x - (long + 1)

      time-is : Time + (long + 1) ≡ x
      unfolding Time
      time-is = omega (arith, long-since)

      call : Called scene.set world scene.table scene.fits (manner_of header) scene.woken scene.wakes late long t c stays s scene.attended scene.slack
          (scene.told c scene.one.there) scene.one scene.delivered scene.s_in Time f
      call = called scene.set world scene.table scene.fits (manner_of header) scene.woken scene.wakes late long t c stays s scene.attended scene.slack
          (scene.told c scene.one.there) scene.one scene.delivered scene.s_in Time f there other
          (let is = time-is in omega (arith, is, until)) (let is = time-is in omega (arith, is, long-since))
          (λ h w v le. (scene.lead h w v (let is = time-is in omega (arith, is, until, le))).leads)

      abbrev Said : MessageValue
      Said = bare MasterUp 0 call.name

      net-same : setting.net (node_of call.post) call.post.port ≡ setting.net f first_port
      net-same = ap (λ q. setting.net (node_of call.post) q) call.port ∙ (ap (λ n. setting.net n first_port) call.node ∙ sym (scene.one.net f there))

      posts : PostsTo setting call.post call.older world (peer_of f) (Message Said)
      posts = record {
        place = call.place;
        deed = call.deed;
        member = ap (λ k. is_among (peer_of f) (setting.members k)) net-same ∙ setting.own f first_port;
        other = ap (λ n. f == n) call.node ∙ other;
      }

      a : Arrives setting long call.post call.older world (peer_of f) (Message Said)
      a = scene.delivered call.post call.older (peer_of f) (Message Said) posts call.since there
          (let up = call.upto in let is = time-is in omega (arith, up, is, until))

      a-early : a.line.did.step.at < x
      a-early = let le = a.soon in let up = call.upto in let is = time-is in omega (arith, le, up, is)

      a-after : Within s a.before
      a-after = Within_through s (call.post ∷ call.older) a.before (inr call.since) a.later

      a-older : Within a.before world
      a-older = Within_tail a.line a.before world a.place

      post-first : call.post.did.step.at ≤ a.line.did.step.at
      post-first =
          let le = place_time setting (call.post ∷ call.older) a.before (fits_at setting a.before world scene.fits a-older) a.later in
          let order = (fits_in setting a.line a.before world scene.fits a.place).order in
          omega (arith, le, order)

      low : time_of (dids a.before) ≤ t
      low = let order = (fits_in setting a.line a.before world scene.fits a.place).order in let early = a-early in omega (arith, order, early, until)

      a-port : a.line.port ≡ first_port
      a-port = setting.apart f a.line.port first_port (subst (λ n. setting.net n a.line.port ≡ setting.net f first_port) a.node (a.net ∙ net-same))

      abbrev There : Past
      There = port_before (node_in header f) a.line (of f a.before)

      abbrev Tick : ℕ
      Tick = a.line.did.tick

      abbrev Until : ℕ
      Until = Tick + delay_at Tick There

      abbrev Arming : Line
      Arming = line_of a.line.did.step Tick a.line.port (Acts (Arm Elect Until))

      -- where its row arms Elect, and it follows c
      minds : (acts : List Act) (among : Among (Arm Elect Until) acts) → DoesNext acts a.line (of f a.before) (of f world) →
          role (view first_port (joined a.line.did.step Tick (placed a.line.port among.front) (a.line ∷ of f a.before))) ≡ Follow (peer_of c) →
          Minds c f a.line.did.step.at s world
      minds acts among next follows =
          let front = joined a.line.did.step Tick (placed a.line.port among.front) (a.line ∷ of f a.before) in
          let w = world_place f Arming front world (act_place a.line.did.step Tick a.line.port (Arm Elect Until) acts (a.line ∷
          of f a.before) (of f world) among
          next) in
          let after : Within (a.line ∷ a.before) w.older = in_order f a.line a.before Arming w.older world a.place w.place
          (subst (λ ls. Within (a.line ∷ of f a.before) ls) (sym w.own_is)
          (within_joined a.line.did.step Tick (placed a.line.port among.front) (a.line ∷ of f a.before) (a.line ∷ of f a.before)
          (Within_all (a.line ∷ of f a.before)))) in
          let before : role_of f w.older ≡ Follow (peer_of c) = ap (λ ls. role (view first_port ls)) w.own_is ∙ follows in
          record {
            arm = Arming;
            older = w.older;
            place = w.place;
            after = Within_through s (a.line ∷ a.before) w.older (inr a-after) after;
            node = w.node;
            port = a-port;
            until = Until;
            deed = refl;
            time = refl;
            follows = role_kept f Arming w.older (λ e. no-boot e) (λ node port r e. no-role r e) ∙ before;
          }
        where
          no-boot : Acts (Arm Elect Until) ≡ Acts Boot → ⊥
          no-boot e = cc

          no-role : (r : Role) → Acts (Arm Elect Until) ≡ Acts (Become r) → ⊥
          no-role r e = cc

      hears-as : (r : Role) → role_of f a.before ≡ r → is_starting_role r ≡ false → is_starting_role (role_before (node_in header f) a.line (of f a.before)) ≡
          false
      hears-as r is e = ap is_starting_role (ap (λ q. role (view q (of f a.before))) a-port ∙ is) ∙ e

      role-there : (r : Role) → role_of f a.before ≡ r → role_before (node_in header f) a.line (of f a.before) ≡ r
      role-there r is = ap (λ q. role (view q (of f a.before))) a-port ∙ is

      -- the role after what it took
      took-role : role (view first_port (a.line ∷ of f a.before)) ≡ role_of f a.before
      took-role = ap role (view_own first_port a.line (of f a.before) a-port) ∙ (let took = a.took in rw took refl)

      steers-there : is_follow (role_of f a.before) ≡ true → steers a.line.port Tick (before_line (node_in header f) a.line (of f a.before)) ≡ true
      steers-there e = ap (λ q. steers q Tick (before_line (node_in header f) a.line (of f a.before))) a-port ∙
          first_steers Tick (before_line (node_in header f) a.line (of f a.before)) e

      abbrev Caller : PeerId
      Caller = peer_of (node_of call.post)

      caller-is : Follow Caller ≡ Follow (peer_of c)
      caller-is = ap (λ n. Follow (peer_of n)) call.node

      heeds : role_of f a.before ≡ Follow (peer_of c) → Minds c f a.line.did.step.at s world
      heeds is =
          let hears = hears_there scene.set world scene.table long t stays s scene.delivered call.post call.older (peer_of f) Said posts a
          (hears-as (Follow (peer_of c)) is refl) in
          let reports = posts_bare SlaveUp (ticket_at Tick There) There Caller in
          minds (Arm Elect Until ∷ reports ∷ []) (record { front = []; back = reports ∷ []; is = refl })
          ((all_heed header world scene.table f).obeys.masterup a.line (of f a.before) Caller Said hears refl
          (role-there (Follow (peer_of c)) is ∙ sym caller-is) (steers-there (ap is_follow is)) refl)
          (took-role ∙ is)

      joins : (r : Role) → role_of f a.before ≡ r → is_starting_role r ≡ false → has_no_master r ≡ true → Minds c f a.line.did.step.at s world
      joins r is up none =
          let hears = hears_there scene.set world scene.table long t stays s scene.delivered call.post call.older (peer_of f) Said posts a (hears-as r is up) in
          let reports = posts_bare SlaveUp (ticket_at Tick There) There Caller in
          minds (follow_acts Caller Tick There) (record { front = Become (Follow Caller) ∷ []; back = reports ∷ []; is = refl })
          ((all_heed header world scene.table f).follows.masterup a.line (of f a.before) Caller Said hears refl
          (ap has_no_master (role-there r is) ∙ none) refl)
          (ap role (view_own first_port (line_of a.line.did.step Tick a.line.port (Acts (Become (Follow Caller)))) (a.line ∷ of f a.before) a-port) ∙ caller-is)

      strays-or : Strayed c f a.before ⊎ Minds c f a.line.did.step.at s world
      strays-or = by_role (role_of f a.before) refl where
        by_master : (q : PeerId) → role_of f a.before ≡ Follow q → (b : Bool) → (q.0 == c) ≡ b → Strayed c f a.before ⊎ Minds c f a.line.did.step.at s world
        by_master q is true e = inr (heeds (is ∙ ap (λ n. Follow (peer_of n)) (eqb-true q.0 c e)))
        by_master q is false e = inl (record { master = q; follows = is; other = e })

        by_role : (r : Role) → role_of f a.before ≡ r → Strayed c f a.before ⊎ Minds c f a.line.did.step.at s world
        by_role Starting is = absurd (true≢false (sym (ap is_starting_role is) ∙ up_on world long stays s scene.calm scene.up (λ n. scene.sound n first_port) f
            there a.before a-after a-older))
        by_role Loose is = inr (joins Loose is refl refl)
        by_role (Follow q) is = by_master q is (q.0 == c) refl
        by_role Candidate is = inr (joins Candidate is refl refl)
        by_role Master is = absurd ((scene.lead a.before a-older a-after low).alone f there other is)

      pub heard_by : HeardBy setting long c f x s world
      heard_by =
          let up = call.upto in
          let is = time-is in
          let recent = call.recent in
          let soon = a.soon in
          let first = post-first in
          let early = a-early in
          let n = near setting c call.post.did.step.at Time up in
          let least = n.least in
          let slack = scene.slack in
          let mild = scene.mild in
          let k = near setting f a.line.did.step.at x (omega (arith, early)) in
          let most = k.most in
          record {
            line = a.line;
            before = a.before;
            place = a.place;
            after = a-after;
            soon = a-early;
            recent = omega (arith, least, recent, slack, is, first);
            fresh = omega (arith, most, least, recent, slack, is, first, mild);
            minds = strays-or;
          }
