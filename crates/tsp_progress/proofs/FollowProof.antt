-- A network whose nodes follow one master does so on.
use Rattle.std.proofs.Common.{sym, ap, subst, arith, true≢false, inl, inr, ◌∙◌, ◌≡◌, ◌≢◌, ◌≤◌, ◌<◌, ◌||◌, ℕ, ◌+◌, ◌-◌, ◌==◌, Bool, true, false, List, []}
use Rattle.std.proofs.Common.{◌∷◌, eqb-true, refl}
use Rattle.std.proofs.lemmas.Bool.{cases_lt}
use Rattle.tsp_rules.specs.Values.{Act, Boot, Post, Become, Datagram, Message, QuitKind, Test, PeerId, Peer, Place, Port, Role, Starting, Loose, Follow}
use Rattle.tsp_rules.specs.Values.{Candidate}
use Rattle.tsp_rules.specs.Values.{Good, Master, SLACK}
use Rattle.tsp_base.specs.Words.{Acts, Deed, Did, Elsewhere, Handed, HeaderValue, Here, Line, MessageValue, Seen, Within, dids, first_port, is_shared, of}
use Rattle.tsp_base.specs.Words.{peer_of}
use Rattle.tsp_base.specs.Words.{TakesFrom, role, role_after, seen_as, time_of, view}
use Rattle.tsp_base.proofs.{PlaceLemmas.Within_all, PlaceLemmas.Within_tail, PlaceLemmas.Within_through, ViewPlaces.port_same}
use Rattle.tsp_promises.specs.{DeedFits.MessageFits, DeedFits.PostsFit, Fits.Fits, Fits.node_of, HoldFits.YieldFits}
use Rattle.tsp_promises.specs.{Setting.Setting, Setting.setup_of}
use Rattle.tsp_promises.proofs.{shared.Clocks.near, shared.Clocks.tick_mono, shared.HistoryPlaces.of_other, shared.HistoryPlaces.of_own}
use Rattle.tsp_promises.proofs.promised.OwnFitsProof.{deed_fits, fits_at, fits_in, seen_in, tick_in}
use Rattle.tsp_run.specs.Clocked.{Clocks, SetByClocks, clocks_of, run_by}
use Rattle.tsp_run.proofs.{OwnClocks.possible_own, OwnClocks.runs_by_own_clocks, OwnClocks.set_own, RunFits.clocked_runs_fit}
use Rattle.tsp_progress.specs.{AlarmsFit.Manner, ByTable.ByTable, Delivered.Delivered, GivenUp.Owes, RunsWake.manner_of, Wakes.AllWake, Wakes.Woken}
use Rattle.tsp_progress.specs.{Watched.Attended, Watched.Told}
use Rattle.tsp_progress.specs.FollowOn.{AllFollow, Calm, ClockedRunsFollowOn, FollowOn, FollowUntil, IsMild, OneNetwork, RunsFollowOn, role_of, settled_after}
use Rattle.tsp_progress.specs.RolesLast.{EndFits, RoleFits, RolesLast, StopsLeading, TookKind, TookOf, Unheeding}
use Rattle.tsp_progress.proofs.{FollowHeard.Called, FollowHeard.Heeded, FollowHeard.after_s, FollowHeard.called, FollowHeard.heeded, FollowHeard.nil_within}
use Rattle.tsp_progress.proofs.{FollowTaken.taken_post, RolesProof.clocked_runs_keep_roles, RunWakes.clocked_runs_wake}
use Rattle.tsp_progress.proofs.{TableProof.clocked_runs_by_table, TimePlaces.before_time}

-- what a deed of a port owes
pub owes_at : (debt : Deed → Did → List Seen → Type 0) (d : Did) (before seen : List Seen) → Within (Here d ∷ before) seen → Owes debt seen →
    debt d.deed d before
owes_at debt d before [] w o = let bad : ⊥ = cc in absurd bad
owes_at debt d before (Here k ∷ older) (inl e) o =
    let own : d ≡ k = cc in
    let rest : before ≡ older = cc in
    subst (λ (z : List Seen). debt d.deed d z) (sym rest) (subst (λ (z : Did). debt z.deed z older) (sym own) o.0)
owes_at debt d before (Elsewhere k ∷ older) (inl e) o = let bad : ⊥ = cc in absurd bad
owes_at debt d before (Here k ∷ older) (inr w) o = owes_at debt d before older w o.1
owes_at debt d before (Elsewhere k ∷ older) (inr w) o = owes_at debt d before older w o

-- a line that changes no role of the first port
pub role_kept : (n : ℕ) (l : Line) (older : List Line) → l.did.deed ≢ Acts Boot →
    (node_of l ≡ n → l.port ≡ first_port → (r : Role) → l.did.deed ≡ Acts (Become r) → ⊥) → role_of n (l ∷ older) ≡ role_of n older
role_kept n l older unbooted same = by_node (node_of l == n) refl where
  was : Role
  was = role (view first_port (of n older))

  by_deed : (deed : Deed) → l.did.deed ≡ deed → node_of l ≡ n → (is_shared deed ≡ false → l.port ≡ first_port) →
      role_after deed (role (view first_port (of n older))) ≡ role (view first_port (of n older))
  by_deed (Acts Boot) is node port = absurd (unbooted is)
  by_deed (Acts (Become r)) is node port = absurd (same node (port refl) r is)
  by_deed _ is node port = refl

  shared_or : (x y : Bool) → (x || y) ≡ true → y ≡ false → x ≡ true
  shared_or true y e n = refl
  shared_or false y e n = absurd (true≢false (sym e ∙ n))

  by_own : (b : Bool) → ((l.port.0 == 0) || is_shared l.did.deed) ≡ b → node_of l ≡ n →
      role (seen_as b l.did ∷ view first_port (of n older)) ≡ role (view first_port (of n older))
  by_own true e node = by_deed l.did.deed refl node
      (λ un. port_same l.port first_port (shared_or (l.port.0 == 0) (is_shared l.did.deed) e un))
  by_own false e node = refl

  by_node : (b : Bool) → (node_of l == n) ≡ b → role_of n (l ∷ older) ≡ role_of n older
  by_node true e =
      let node = eqb-true (node_of l) n e in
      ap (λ ls. role (view first_port ls)) (of_own n l older node) ∙ by_own ((l.port.0 == 0) || is_shared l.did.deed) refl node
  by_node false e = ap (λ ls. role (view first_port ls)) (of_other n l older e)

pub master_follows : {A : Type 0} (p : PeerId) (r : Role) → r ≡ Master → r ≡ Follow p → A
master_follows p r e f = let bad : Master ≡ Follow p = sym e ∙ f in absurd (no bad) where
  no : Master ≡ Follow p → ⊥
  no e = cc

module _ {clocks : Clocks} {header : HeaderValue} {setting : Setting} (set : SetByClocks clocks header setting) (world : List Line)
    (table : ByTable header world) (fits : Fits setting world) (m : ℕ → Manner) (woken : Woken m world) (wakes : AllWake m world) (roles : RolesLast world)
    (late long t c : ℕ) (stays : ℕ → Bool) (s : List Line) (attended : Attended late world) (slack : late ≤ SLACK) (told : Told late setting t c world)
    (one : OneNetwork header setting stays c) (calm : Calm long stays s world) (delivered : Delivered setting long t stays s world) (mild : IsMild long)
    (start : FollowUntil stays c (time_of (dids s) + settled_after long) s world) where
  -- a line after the place s, when all follow so far
  module _ (l : Line) (older : List Line) (place : Within (l ∷ older) world) (since : Within s older) (until : l.did.step.at ≤ t)
      (settled : time_of (dids s) + settled_after long < l.did.step.at) (sofar : (h : List Line) → Within h older → Within s h → AllFollow stays c h) where
    older-in : Within older world
    older-in = Within_tail l older world place

    s-in : Within s world
    s-in = Within_through s older world since older-in

    line-fits : Fits setting (l ∷ older)
    line-fits = fits_at setting (l ∷ older) world fits place

    before-l : (h : List Line) → Within h world → time_of (dids h) < l.did.step.at → Within h older
    before-l [] w less = nil_within older
    before-l (k ∷ rest) w less = before_time setting world fits k rest l older w place less

    now : AllFollow stays c older
    now = sofar older (Within_all older) since

    inside : l.did.step.cause ≢ Handed
    inside = calm.unhanded l older place since

    -- what the line's step took was posted after the place s, on the first port of a node that stays, which isn't the line's
    record Source (node : ℕ) (message : MessageValue) : Type 0 where
      pub post : Line
      pub before : List Line
      pub at : Within (post ∷ before) world
      pub earlier : Within before older
      pub after : Within s before
      pub deed : post.did.deed ≡ Acts (Post (Peer (peer_of node)) (Message message))
      pub port : post.port ≡ first_port
      pub other : (node_of post == node) ≡ false

    apart-from : (post : Line) (before : List Line) → Within (post ∷ before) world → Within s before → (d : Datagram) → post.did.deed ≡
        Acts (Post (Peer (peer_of (node_of l))) d) → (b : Bool) → (node_of post == node_of l) ≡ b → (node_of post == node_of l) ≡ false
    apart-from post before w v d e true is = absurd (calm.unsent post before w v d
        (subst (λ n. post.did.deed ≡ Acts (Post (Peer (peer_of n)) d)) (sym (eqb-true (node_of post) (node_of l) is)) e))
    apart-from post before w v d e false is = is

    message-of : (d : Datagram) (k : MessageValue) → Good d ≡ Good (Message k) → d ≡ Message k
    message-of d k e = cc

    source : (a : Act) → l.did.deed ≡ Acts a → l.port ≡ first_port → (from : Place) (k : MessageValue) →
        TakesFrom (view l.port (of (node_of l) older)) from (Message k) → Source (node_of l) k
    source a act port from k took =
        let p = taken_post setting l older a (record { from = from; taken = Good (Message k) }) line-fits act inside took in
        let is : p.datagram ≡ Message k = message-of p.datagram k (sym p.taken_is) in
        let post-in : Within (p.post ∷ p.older) world = Within_through (p.post ∷ p.older) older world p.place older-in in
        let soon : l.did.step.at ≤ p.post.did.step.at + long = calm.soon l older place since p.post p.older
        (Peer (peer_of (node_of l))) p.datagram p.place p.deed p.takes in
        let less : time_of (dids s) < p.post.did.step.at = omega (arith, soon, settled) in
        let after : Within s p.older = after_s set world table fits m woken wakes late long t c stays s attended slack told one delivered s-in p.post p.older
        post-in less in
        let here = calm.only l older place since in
        let there = calm.only p.post p.older post-in after in
        let net : setting.net (node_of p.post) p.post.port ≡ setting.net (node_of p.post) first_port = p.net ∙
        (ap (setting.net (node_of l)) port ∙ (one.net (node_of l) here ∙ sym (one.net (node_of p.post) there))) in
        record {
          post = p.post;
          before = p.older;
          at = post-in;
          earlier = Within_tail p.post p.older older p.place;
          after = after;
          deed = p.deed ∙ ap (λ d. Acts (Post (Peer (peer_of (node_of l))) d)) is;
          port = setting.apart (node_of p.post) p.post.port first_port net;
          other = apart-from p.post p.older post-in after p.datagram p.deed (node_of p.post == node_of l) refl;
        }

    -- a master that all follow takes no QUIT, and no LOOP that is its own

    quit-no : (p : PeerId) → l.did.deed ≡ Acts (Become (Follow p)) → node_of l ≡ c → l.port ≡ first_port →
        TookOf QuitKind p (view l.port (of (node_of l) older)) → ⊥
    quit-no p act node port q =
        let o = source (Become (Follow p)) act port (Peer p) q.message q.took in
        let n = node_of o.post in
        let owes : RoleFits o.post.did.deed o.post.did (view o.post.port (of n o.before)) = owes_at RoleFits o.post.did (view o.post.port (of n o.before))
        (view o.post.port (of n world)) (seen_in n o.post o.before world refl o.at) (roles n o.post.port) in
        let master : role (view o.post.port (of n o.before)) ≡ Master =
        subst (λ d. RoleFits d o.post.did (view o.post.port (of n o.before))) o.deed owes q.kind_is in
        let first : role_of n o.before ≡ Master = subst (λ q. role (view q (of n o.before)) ≡ Master) o.port master in
        let follows = (sofar o.before o.earlier o.after).follow n (calm.only o.post o.before o.at o.after)
        (subst (λ k. (n == k) ≡ false) node o.other) in
        master_follows (peer_of c) (role_of n o.before) first follows

    loop-no : l.did.deed ≡ Acts (Become Loose) → node_of l ≡ c → l.port ≡ first_port → ⊥
    loop-no act node port =
        let n = node_of l in
        let leads : role (view l.port (of n older)) ≡ Master =
        subst (λ k. role (view l.port (of k older)) ≡ Master) (sym node) (subst (λ q. role (view q (of c older)) ≡ Master) (sym port) now.leads) in
        let yields : role (view l.port (of n older)) ≡ Master → YieldFits (setup_of setting n l.port) (view l.port (of n older)) =
        deed_fits setting l older (Acts (Become Loose)) act (fits_in setting l older world fits place) in
        let y = yields leads in
        let less = y.number in
        let zero : l.port.0 ≡ 0 = ap (λ (q : Port). q.0) port in
        omega (arith, less, zero)

    owed : RoleFits l.did.deed l.did (view l.port (of (node_of l) older))
    owed = owes_at RoleFits l.did (view l.port (of (node_of l) older)) (view l.port (of (node_of l) world))
        (seen_in (node_of l) l older world refl place) (roles (node_of l) l.port)

    ended : (r old : Role) → l.did.deed ≡ Acts (Become r) → role (view l.port (of (node_of l) older)) ≡ old →
        EndFits old r l.did (view l.port (of (node_of l) older))
    ended r old act is = subst (λ k. EndFits k r l.did (view l.port (of (node_of l) older))) is
        (subst (λ d. RoleFits d l.did (view l.port (of (node_of l) older))) act owed)

    master-stays : node_of l ≡ c → l.port ≡ first_port → (r : Role) → l.did.deed ≡ Acts (Become r) → ⊥
    master-stays node port r act =
        let leads : role (view l.port (of (node_of l) older)) ≡ Master =
        subst (λ k. role (view l.port (of k older)) ≡ Master) (sym node) (subst (λ q. role (view q (of c older)) ≡ Master) (sym port) now.leads) in
        by_role r act (ended r Master act leads) where
          by_role : (r : Role) → l.did.deed ≡ Acts (Become r) → StopsLeading r (view l.port (of (node_of l) older)) → ⊥
          by_role (Follow p) act q = quit-no p act node port q
          by_role Loose act q = loop-no act node port
          by_role Starting act q = q
          by_role Candidate act q = q
          by_role Master act q = q

    -- nor does a follower take a TEST

    test_no : (r : Role) → l.did.deed ≡ Acts (Become r) → l.port ≡ first_port → TookKind Test (view l.port (of (node_of l) older)) → ⊥
    test_no r act port k =
        let o = source (Become r) act port k.from k.message k.took in
        let n = node_of o.post in
        let posts : PostsFit (setup_of setting n o.post.port) (Peer (peer_of (node_of l))) (Message k.message) o.post.did (view o.post.port (of n o.before)) =
        deed_fits setting o.post o.before (Acts (Post (Peer (peer_of (node_of l))) (Message k.message))) o.deed
        (fits_in setting o.post o.before world fits o.at) in
        subst (λ kind. MessageFits (setup_of setting n o.post.port) kind o.post.did (view o.post.port (of n o.before)) (peer_of (node_of l)) k.message)
        k.kind_is
        posts.fits

    -- and its Elect was armed not long ago

    module _ (f : ℕ) (node : node_of l ≡ f) (there : stays f ≡ true) (other : (f == c) ≡ false) where
      -- until when a call of the master has come
      abbrev Time : ℕ
      Time = l.did.step.at - (long + 1)

      call : Called set world table fits m woken wakes late long t c stays s attended slack told one delivered s-in Time f
      call = called set world table fits m woken wakes late long t c stays s attended slack told one delivered s-in Time f there other
          (omega (arith, until)) (omega (arith, settled)) (λ h w v le. (sofar h (before-l h w (omega (arith, le, settled))) v).leads)

      heard : Heeded set world table fits m woken wakes late long t c stays s attended slack told one delivered s-in f call.post.did.step.at older
      heard = heeded set world table fits m woken wakes late long t c stays s attended slack told one delivered s-in Time f there other call l older place
          (let up = call.upto in omega (arith, up, settled)) until (λ h v w. sofar h w v)

      heeding-no : Unheeding l.did (view first_port (of f older)) → ⊥
      heeding-no u =
          let old = u heard.arm heard.idle heard.until heard.place heard.deed in
          let tick = heard.tick in
          let now = tick_in setting f l older world fits node place in
          let since = heard.late_enough in
          let recent = call.recent in
          let up = call.upto in
          let n = near setting c call.post.did.step.at Time up in
          let least = n.least in
          elim (cases_lt heard.time l.did.step.at) [
            | inl less ↦
                let k = near setting f heard.time l.did.step.at (omega (arith, less)) in
                let most = k.most in
                omega (arith, old, tick, now, since, recent, least, most, settled, mild, slack)
            | inr none ↦ let mono = tick_mono setting f l.did.step.at heard.time none in omega (arith, old, tick, now, mono)
          ]

      follower-stays : l.port ≡ first_port → (r : Role) → l.did.deed ≡ Acts (Become r) → ⊥
      follower-stays port r act =
          let follows : role (view l.port (of (node_of l) older)) ≡ Follow (peer_of c) =
          subst (λ k. role (view l.port (of k older)) ≡ Follow (peer_of c)) (sym node)
          (subst (λ q. role (view q (of f older)) ≡ Follow (peer_of c)) (sym port) (now.follow f there other)) in
          elim (ended r (Follow (peer_of c)) act follows) [
            | inl test ↦ test_no r act port test
            | inr u ↦ heeding-no (subst (λ q. Unheeding l.did (view q (of f older))) port
                (subst (λ k. Unheeding l.did (view l.port (of k older))) node u))
          ]

    -- so all follow on
    next : AllFollow stays c (l ∷ older)
    next = record {
      leads = role_kept c l older (calm.unbooted l older place since) (λ node port r act. master-stays node port r act) ∙ now.leads;
      follow = λ n there other. role_kept n l older (calm.unbooted l older place since) (λ node port r act. follower-stays n node there other port r act) ∙
          now.follow n there other;
    }

  upto : (h : List Line) → Within h world → time_of (dids h) ≤ t → (g : List Line) → Within g h → Within s g → AllFollow stays c g
  upto [] w le g v u = start g (subst (λ z. Within z world) (sym v) w) u (subst (λ (z : List Line). time_of (dids z) ≤ time_of (dids s) + settled_after long)
      (sym v) (omega arith))
  upto (l ∷ older) w le g (inr v) u = upto older (Within_tail l older world w) (let order = (fits_in setting l older world fits w).order in omega (
    arith,
    order,
    le,
  )) g v u
  upto (l ∷ older) w le g (inl e) u = subst (AllFollow stays c) (sym e) (newest (subst (Within s) e u)
      (λ le h v k. upto older (Within_tail l older world w) le h v k)) where
        order : time_of (dids older) ≤ l.did.step.at
        order = (fits_in setting l older world fits w).order

        newest : Within s (l ∷ older) → (time_of (dids older) ≤ t → (h : List Line) → Within h older → Within s h → AllFollow stays c h) →
            AllFollow stays c (l ∷ older)
        newest (inl same) before = start (l ∷ older) w (inl same) (let time = ap (λ (z : List Line). time_of (dids z)) same in omega (arith, time))
        newest (inr since) before = elim (cases_lt (time_of (dids s) + settled_after long) l.did.step.at) [
          | inl settled ↦ next l older w since le settled (before (omega (arith, order, le)))
          | inr none ↦ start (l ∷ older) w (inr since) none
        ]

  pub follow_on : FollowUntil stays c t s world
  follow_on h w v le = upto h w le h (Within_all h) v

pub clocked_runs_follow_on : ClockedRunsFollowOn
clocked_runs_follow_on clocks header setting events late long t stays c s set possible attended slack told one calm delivered mild start =
    let world = run_by clocks header events in
    let awake = clocked_runs_wake clocks header events in
    follow_on set world (clocked_runs_by_table clocks header events) (clocked_runs_fit clocks header setting events set possible).0 (manner_of header) awake.0
    awake.1 (clocked_runs_keep_roles clocks header setting events set possible) late long t c stays s attended slack told one calm delivered mild start

pub runs_follow_on : RunsFollowOn
runs_follow_on header setting events late long t stays c s set possible = subst (λ h. Attended late h → late ≤ SLACK → Told late setting t c h →
    OneNetwork header setting stays c → Calm long stays s h → Delivered setting long t stays s h → IsMild long → FollowOn long t stays c s h)
    (runs_by_own_clocks header events)
    (clocked_runs_follow_on (clocks_of header) header setting events late long t stays c s (set_own header setting set) (possible_own header events possible))
