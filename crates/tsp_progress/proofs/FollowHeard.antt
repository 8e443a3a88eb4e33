-- A master that all follow calls each of them, and is heard.
use Rattle.std.proofs.Common.{sym, ap, subst, arith, true≢false, inl, inr, ◌∙◌, ◌≡◌, ◌≤◌, ◌<◌, ℕ, ◌+◌, ◌*◌, ◌==◌, not, nat_lt, Bool, true}
use Rattle.std.proofs.Common.{false, List, [], ◌∷◌, filter, Option, None, Some, is_some, length, refl}
use Rattle.std.proofs.lemmas.Bool.{cases_lt, le-ltb}
use Rattle.tsp_rules.specs.Values.{Act, Arm, Become, Late, Post, Ring, Alarm, Elect, Round, MasterUp, SlaveUp, Message, Peer, Port}
use Rattle.tsp_rules.specs.Values.{Candidate, Follow, Master, ROUND, SLACK}
use Rattle.tsp_rules.specs.GateRows.{any_port, follows_on, goes_on, ports_from, steers, waits}
use Rattle.tsp_rules.specs.{Guards.is_follow, Guards.is_starting_role, Guards.delay_at, Guards.ticket_at, NodeRows.NodePast, NodeRows.PortSetup}
use Rattle.tsp_base.specs.Words.{Acts, Begins, Deed, Did, Elsewhere, HeaderValue, Here, Line, MessageValue, Past, Seen, Within, bare, dids, first_port}
use Rattle.tsp_base.specs.Words.{is_among}
use Rattle.tsp_base.specs.Words.{is_shared, joined, line_of, of, peer_of, placed, plain, post_of, role, tick_of, time_of, view, armed}
use Rattle.tsp_base.proofs.PlaceLemmas.{Within_all, Within_comparable, Within_tail, Within_through}
use Rattle.tsp_promises.specs.{Fits.Fits, Fits.node_of, HoldFits.LeadFits, Setting.Setting}
use Rattle.tsp_promises.proofs.{shared.Clocks.near, shared.Clocks.tick_mono, shared.EverywhereLemmas.Everywhere_at, shared.EverywhereLemmas.Everywhere_within}
use Rattle.tsp_promises.proofs.{shared.HistoryPlaces.line_on}
use Rattle.tsp_promises.proofs.promised.OwnFitsProof.{Located, deed_fits, fits_at, fits_in, locate, place_time, seen_in, tick_in}
use Rattle.tsp_run.specs.Clocked.{Clocks, SetByClocks}
use Rattle.tsp_progress.specs.{AlarmsFit.Manner, AlarmsFit.newest_is, AlarmsFit.rounds_by, ByTable.ByTable, ByTable.before_line}
use Rattle.tsp_progress.specs.{ByTable.node_in, ByTable.port_before, Delivered.Arrives, Delivered.Delivered, Delivered.PostsTo, Heeds.posts_bare}
use Rattle.tsp_progress.specs.{Heeds.role_before}
use Rattle.tsp_progress.specs.{FollowOn.AllFollow, FollowOn.OneNetwork, FollowOn.role_of}
use Rattle.tsp_progress.specs.{Wakes.AllWake, Wakes.Wakes, Wakes.WokenAt, Wakes.Woken, Watched.Attended, Watched.AttendedAt, Watched.Told, Watched.Watched}
use Rattle.tsp_progress.proofs.{AloneProof.Paced, AloneProof.PacedAt, AnswersProof.hears_there, HeedsProof.all_heed, InTimeProof.armed_place}
use Rattle.tsp_progress.proofs.{NeverLateProof.never_late}
use Rattle.tsp_progress.proofs.{PaceProof.paced, PortSetups.PortIs, PortSetups.differ, PortSetups.member_port, TableRows.within_joined, TimePlaces.before_time}
use Rattle.tsp_progress.proofs.WorldPlaces.{act_place, in_order, own_place, world_place}
use Rattle.tsp_progress.proofs.FollowCalls.{Cut, call_among, cut, last_arm_at, round_acts}

-- a place of nothing
pub nil_within : {A : Type 0} (h : List A) → Within [] h
nil_within [] = refl
nil_within (l ∷ h) = inr (nil_within h)

-- a look at an earlier time
pub sooner : (late x y : ℕ) (seen : List Seen) → y ≤ x → Watched late x seen → Watched late y seen
sooner late x y seen le w = record {
  alarms = λ a at e. let soon = w.alarms a at e in omega (arith, le, soon);
  sends = λ p k e. let soon = w.sends p k e in omega (arith, le, soon);
}

-- the newest deed
pub record Newest (test : Deed → Bool) (seen : List Seen) : Type 0 where
  pub last : Did
  pub older : List Seen
  pub is : seen ≡ Here last ∷ older
  pub holds : test last.deed ≡ true

pub newest_of : (test : Deed → Bool) (seen : List Seen) → newest_is test seen ≡ true → Newest test seen
newest_of test [] e = absurd (true≢false (sym e))
newest_of test (Here d ∷ older) e = record { last = d; older = older; is = refl; holds = e }
newest_of test (Elsewhere d ∷ older) e = absurd (true≢false (sym e))

rounds_unshared : (deed : Deed) → rounds_by deed ≡ true → is_shared deed ≡ false
rounds_unshared (Acts (Become Master)) e = refl
rounds_unshared (Acts (Ring Round)) e = refl
rounds_unshared (Acts (Late Round)) e = refl
rounds_unshared _ e = absurd (true≢false (sym e))

pub paced_at : (late : ℕ) (s : Seen) (before seen : List Seen) → Within (s ∷ before) seen → Paced late seen → PacedAt late s before
paced_at late s before [] w p = let bad : ⊥ = cc in absurd bad
paced_at late s before (k ∷ older) (inl e) p = subst (λ (z : List Seen). head late z) (sym e) p.0 where
  head : ℕ → List Seen → Type 0
  head late [] = Unit {0}
  head late (k ∷ older) = PacedAt late k older
paced_at late s before (k ∷ older) (inr w) p = paced_at late s before older w p.1

-- a node's only port waits for no other
pub single_waits : (ports : List PortSetup) → length ports ≡ 1 → (x : ℕ) (past : NodePast) → past.ports ≡ ports → waits first_port x past ≡ false
single_waits [] e x past is = let bad : ⊥ = omega (arith, e) in absurd bad
single_waits (p ∷ []) e x past is = ap (λ ps. any_port (goes_on past) (filter (λ (r : Port). not (r.0 == 0)) (ports_from 0 ps))) is
single_waits (p ∷ q ∷ rest) e x past is = let bad : ⊥ = omega (arith, e) in absurd bad

-- the first port steers, where it follows
none_below : (n : ℕ) → nat_lt n 0 ≡ false
none_below n = le-ltb n 0 (omega arith)

none_lower : (test : Port → Bool) (ports : List Port) → any_port test (filter (λ (r : Port). nat_lt r.0 0) ports) ≡ false
none_lower test [] = refl
none_lower test (q ∷ rest) = let low = none_below q.0 in let more = none_lower test rest in rw low more

pub first_steers : (x : ℕ) (past : NodePast) → is_follow (role (view first_port past.lines)) ≡ true → steers first_port x past ≡ true
first_steers x past e = let none = none_lower (follows_on past) (ports_from 0 past.ports) in rw (e, none) refl

-- node c begins a round, by its alarm, after the place s, and at most ROUND ticks and `late` before this true time
pub record RoundRang (setting : Setting) (late c : ℕ) (s world : List Line) (time : ℕ) : Type 0 where
  pub ring : Did
  pub older : List Line
  pub place : Within (line_on first_port ring ∷ older) world
  pub since : Within s older
  pub node : ring.step.node ≡ c
  pub rings : ring.deed ≡ Acts (Ring Round)
  pub upto : ring.step.at ≤ time
  pub recent : setting.tick c time ≤ ring.tick + ROUND + late

module _ {clocks : Clocks} {header : HeaderValue} {setting : Setting} (set : SetByClocks clocks header setting) (world : List Line)
    (table : ByTable header world) (fits : Fits setting world) (m : ℕ → Manner) (woken : Woken m world) (wakes : AllWake m world) (late long t c : ℕ)
    (stays : ℕ → Bool) (s : List Line) (attended : Attended late world) (slack : late ≤ SLACK) (told : Told late setting t c world)
    (one : OneNetwork header setting stays c) (delivered : Delivered setting long t stays s world) (s-in : Within s world) where
  -- what comes later than the place s stands after it
  pub after_s : (k : Line) (w : List Line) → Within (k ∷ w) world → time_of (dids s) < k.did.step.at → Within s w
  after_s k w v less = elim (Within_comparable s (k ∷ w) world s-in v) [
    | inl (inl e) ↦ absurd (let same = ap (λ (z : List Line). time_of (dids z)) e in omega (arith, same, less))
    | inl (inr u) ↦ u
    | inr u ↦ absurd (let le = place_time setting (k ∷ w) s (fits_at setting s world fits s-in) u in omega (arith, le, less))
  ]

  -- node c calls node f, a member of its network that stays
  pub record Called (time f : ℕ) : Type 0 where
    pub post : Line
    pub older : List Line
    pub name : List ℕ
    pub place : Within (post ∷ older) world
    pub since : Within s older
    pub node : node_of post ≡ c
    pub port : post.port ≡ first_port
    pub deed : post.did.deed ≡ Acts (Post (Peer (peer_of f)) (Message (bare MasterUp 0 name)))
    pub upto : post.did.step.at ≤ time
    pub recent : setting.tick c time ≤ setting.tick c post.did.step.at + ROUND + late

  module _ (time f : ℕ) (there : stays f ≡ true) (other : (f == c) ≡ false) (early : time ≤ t)
      (long-since : time_of (dids s) + ROUND + 2 * SLACK ≤ time)
      (sofar : (h : List Line) → Within h world → Within s h → time_of (dids h) ≤ time → role_of c h ≡ Master) where
    R : List Line → Type 0
    R lines = Wakes (m c) (view first_port lines) × Watched late (setting.tick c time) (view first_port lines)

    marks : (k : Line) (w : List Line) → Within (k ∷ w) world → k.did.deed ≡ Begins → node_of k ≡ c → time < k.did.step.at → R (of c w)
    unfolding R
    marks k w v begins node later =
        let awake = Everywhere_at (WokenAt m) k w world woken v begins first_port in
        let watched = Everywhere_at (AttendedAt late) k w world attended v begins first_port in
        let tick = tick_in setting c k w world fits node v in
        let mono = tick_mono setting c time k.did.step.at (omega (arith, later)) in
        let here = sooner late k.did.tick (setting.tick c time) (view first_port (of (node_of k) w)) (omega (arith, tick, mono)) watched in (
          subst (λ n. Wakes (m n) (view first_port (of n w))) node awake,
          subst (λ n. Watched late (setting.tick c time) (view first_port (of n w))) node here,
        )

    ends : R (of c world)
    unfolding R
    ends = (
      wakes c first_port,
      sooner late (setting.tick c t) (setting.tick c time) (view first_port (of c world)) (tick_mono setting c time t early)
          (told first_port),
    )

    upto-now : Cut c time R world
    upto-now = cut setting c time R world fits marks ends

    abbrev H : List Line
    H = upto-now.h

    abbrev Whole : List Seen
    Whole = view first_port (of c H)

    s-now : (z : List Line) → Within z world → time_of (dids z) ≤ time → Within z H
    s-now [] w le = nil_within H
    s-now (k ∷ rest) w le = upto-now.all k rest w le

    s-before : Within s H
    s-before = s-now s s-in (omega (arith, long-since))

    fits-now : Fits setting H
    fits-now = fits_at setting H world fits upto-now.within

    leads : role_of c H ≡ Master
    leads = sofar H upto-now.within s-before upto-now.upto

    awake : Wakes (m c) Whole
    unfolding R
    awake = upto-now.holds.0

    watched : Watched late (setting.tick c time) Whole
    unfolding R
    watched = upto-now.holds.1

    paced-now : Paced late Whole
    paced-now = paced setting late H fits-now (Everywhere_within (AttendedAt late) H world attended upto-now.within) (m c) c first_port awake.acts

    -- where Round was armed last
    record Armed : Type 0 where
      pub arm : Did
      pub idle : List Seen
      pub ring : Did
      pub before : List Seen
      pub place : Within (Here arm ∷ idle) Whole
      pub idle_is : idle ≡ Here ring ∷ before
      pub rounds : rounds_by ring.deed ≡ true
      pub same : arm.tick ≡ ring.tick
      pub recent : setting.tick c time ≤ ring.tick + ROUND + late

    armed_at : (o : Option ℕ) → (armed Whole).round ≡ o → is_some o ≡ true → Armed
    armed_at None e some = absurd (true≢false (sym some))
    armed_at (Some at) e some =
        let p = armed_place (m c) Round at Whole awake.acts e in
        let la = last_arm_at Round Whole p.arm p.idle p.last in
        let n = newest_of rounds_by p.idle p.fits.1 in
        let due = watched.alarms Round at e in
        let ahead : at ≤ p.arm.tick + ROUND = elim p.fits.0 [ inl f ↦ omega (arith, f) | inr f ↦ omega (arith, f) ] in
        let level = (paced_at late (Here p.arm) p.idle Whole la.place paced-now).level (Arm Round la.at) la.deed in
        let same : p.arm.tick ≡ n.last.tick = level ∙ ap (λ z. tick_of (plain z)) n.is in
        record {
          arm = p.arm;
          idle = p.idle;
          ring = n.last;
          before = n.older;
          place = la.place;
          idle_is = n.is;
          rounds = n.holds;
          same = same;
          recent = omega (arith, due, ahead, same);
        }

    armed-now : Armed
    armed-now = armed_at (armed Whole).round refl (awake.master leads)

    abbrev Rang : Did
    Rang = armed-now.ring

    ring-in : Within (Here Rang ∷ armed-now.before) Whole
    ring-in = subst (λ z. Within z Whole) armed-now.idle_is (Within_tail (Here armed-now.arm) armed-now.idle Whole armed-now.place)

    at : Located c first_port H Rang armed-now.before
    at = locate c first_port H Rang armed-now.before (rounds_unshared Rang.deed armed-now.rounds) ring-in

    abbrev L : Line
    L = line_on first_port Rang

    ring-place : Within (L ∷ at.older) world
    ring-place = Within_through (L ∷ at.older) H world at.place upto-now.within

    ring-tick : Rang.tick ≡ setting.tick c Rang.step.at
    ring-tick = tick_in setting c L at.older world fits at.node ring-place

    ring-upto : Rang.step.at ≤ time
    ring-upto = let le = place_time setting (L ∷ at.older) H fits-now at.place in let up = upto-now.upto in omega (arith, le, up)

    -- it rang after the place s
    ring-late : time_of (dids s) < Rang.step.at
    ring-late = elim (cases_lt (time_of (dids s)) Rang.step.at) [
      | inl less ↦ less
      | inr none ↦
          let mono = tick_mono setting c Rang.step.at (time_of (dids s)) (omega (arith, none)) in
          let n = near setting c (time_of (dids s)) time (omega (arith, long-since)) in
          let least = n.least in
          let recent = armed-now.recent in
          let tick = ring-tick in
          absurd (omega (arith, mono, least, recent, tick, long-since, slack))
    ]

    ring-since : Within s at.older
    ring-since = after_s L at.older ring-place ring-late

    older-in : Within at.older world
    older-in = Within_tail L at.older world ring-place

    was-master : role_of c at.older ≡ Master
    was-master =
        let order = (fits_in setting L at.older world fits ring-place).order in
        let up = ring-upto in
        sofar at.older older-in ring-since (omega (arith, order, up))

    not-won : Rang.deed ≡ Acts (Become Master) → ⊥
    not-won e =
        let lead : LeadFits _ L.did (view first_port (of (node_of L) at.older)) =
        deed_fits setting L at.older (Acts (Become Master)) e (fits_in setting L at.older world fits ring-place) in
        let stands : role_of c at.older ≡ Candidate = subst (λ n. role (view first_port (of n at.older)) ≡ Candidate) at.node lead.stands in
        let bad : Master ≡ Candidate = sym was-master ∙ stands in cc

    not_late : Rang.deed ≡ Acts (Late Round) → ⊥
    not_late e = Everywhere_at (λ l before. (a : Alarm) → l.did.deed ≡ Acts (Late a) → ⊥) L at.older world
        (never_late m setting late world fits wakes attended slack) ring-place Round e

    rings : Rang.deed ≡ Acts (Ring Round)
    rings = by_deed Rang.deed refl armed-now.rounds where
      by_deed : (deed : Deed) → Rang.deed ≡ deed → rounds_by deed ≡ true → Rang.deed ≡ Acts (Ring Round)
      by_deed (Acts (Become Master)) e r = absurd (not-won e)
      by_deed (Acts (Ring Round)) e r = e
      by_deed (Acts (Late Round)) e r = absurd (not_late e)
      by_deed _ e r = absurd (true≢false (sym r))

    pub ringing : RoundRang setting late c s world time
    ringing = record {
      ring = Rang;
      older = at.older;
      place = ring-place;
      since = ring-since;
      node = at.node;
      rings = rings;
      upto = ring-upto;
      recent = armed-now.recent;
    }

    -- so it calls node f then

    net-is : setting.net f first_port ≡ setting.net c first_port
    net-is = one.net f there

    member : is_among (peer_of f) (setting.members (setting.net c first_port)) ≡ true
    member = ap (λ k. is_among (peer_of f) (setting.members k)) (sym net-is) ∙ setting.own f first_port

    port_is : PortIs header setting c first_port
    port_is = member_port set c first_port (peer_of f) member (differ f c other)

    own-place : Within (L ∷ of c at.older) (of c world)
    own-place = own_place c L at.older world at.node ring-place

    abbrev There : Past
    There = port_before (node_in header c) L (of c at.older)

    abbrev Call : Act
    Call = post_of MasterUp 0 There.name (peer_of f)

    abbrev Post-line : Line
    Post-line = line_of Rang.step Rang.tick first_port (Acts Call)

    pub called : Called time f
    called =
        let none = single_waits (node_in header c).ports one.single Rang.tick (before_line (node_in header c) L (of c at.older)) refl in
        let acts = round_acts (node_in header c) (of c world) (table c) L (of c at.older) own-place rings none in
        let among = call_among (node_in header c) L (of c at.older) (of c world) acts (peer_of f) (ap (is_among (peer_of f)) port_is.peers ∙ member)
        (ap (λ n. f == n) port_is.own ∙ other) in
        let own = joined Rang.step Rang.tick (placed first_port among.front) (L ∷ of c at.older) in
        let w = world_place c Post-line own world (act_place Rang.step Rang.tick first_port Call _ (L ∷ of c at.older) (of c world) among acts.next) in
        let after : Within (L ∷ at.older) w.older = in_order c L at.older Post-line w.older world ring-place w.place
        (subst (λ ls. Within (L ∷ of c at.older) ls) (sym w.own_is)
        (within_joined Rang.step Rang.tick (placed first_port among.front) (L ∷ of c at.older) (L ∷ of c at.older) (Within_all (L ∷ of c at.older)))) in
        record {
          post = Post-line;
          older = w.older;
          name = There.name;
          place = w.place;
          since = Within_through s (L ∷ at.older) w.older (inr ring-since) after;
          node = w.node;
          port = refl;
          deed = refl;
          upto = ring-upto;
          recent = (let recent = armed-now.recent in let tick = ring-tick in omega (arith, recent, tick));
        }

  -- a call that is heard before the line l, by a follower, arms its Elect
  pub record Heeded (f : ℕ) (from : ℕ) (older : List Line) : Type 0 where
    pub arm : Did
    pub idle : List Seen
    pub until : ℕ
    pub place : Within (Here arm ∷ idle) (view first_port (of f older))
    pub deed : arm.deed ≡ Acts (Arm Elect until)
    pub time : ℕ
    pub tick : arm.tick ≡ setting.tick f time
    pub late_enough : from ≤ time

  module _ (time f : ℕ) (there : stays f ≡ true) (other : (f == c) ≡ false) (call : Called time f) (l : Line) (older : List Line)
      (place : Within (l ∷ older) world) (soon : call.post.did.step.at + long < l.did.step.at) (until : l.did.step.at ≤ t)
      (sofar : (h : List Line) → Within s h → Within h older → AllFollow stays c h) where
    abbrev Said : MessageValue
    Said = bare MasterUp 0 call.name

    net-same : setting.net (node_of call.post) call.post.port ≡ setting.net f first_port
    net-same = ap (λ q. setting.net (node_of call.post) q) call.port ∙ (ap (λ n. setting.net n first_port) call.node ∙ sym (one.net f there))

    posts : PostsTo setting call.post call.older world (peer_of f) (Message Said)
    posts = record {
      place = call.place;
      deed = call.deed;
      member = ap (λ k. is_among (peer_of f) (setting.members k)) net-same ∙ setting.own f first_port;
      other = ap (λ n. f == n) call.node ∙ other;
    }

    a : Arrives setting long call.post call.older world (peer_of f) (Message Said)
    a = delivered call.post call.older (peer_of f) (Message Said) posts call.since there (omega (arith, soon, until))

    a-early : a.line.did.step.at < l.did.step.at
    a-early = let le = a.soon in omega (arith, le, soon)

    a-older : Within (a.line ∷ a.before) older
    a-older = before_time setting world fits a.line a.before l older a.place place a-early

    a-port : a.line.port ≡ first_port
    a-port = setting.apart f a.line.port first_port (subst (λ n. setting.net n a.line.port ≡ setting.net f first_port) a.node (a.net ∙ net-same))

    follows : role_of f a.before ≡ Follow (peer_of c)
    follows = (sofar a.before (Within_through s (call.post ∷ call.older) a.before (inr call.since) a.later) (Within_tail a.line a.before older a-older)).follow
        f there other

    role-there : role_before (node_in header f) a.line (of f a.before) ≡ Follow (peer_of (node_of call.post))
    role-there = ap (λ q. role (view q (of f a.before))) a-port ∙ follows ∙ ap (λ n. Follow (peer_of n)) (sym call.node)

    steers-there : steers a.line.port a.line.did.tick (before_line (node_in header f) a.line (of f a.before)) ≡ true
    steers-there = ap (λ q. steers q a.line.did.tick (before_line (node_in header f) a.line (of f a.before))) a-port ∙
        first_steers a.line.did.tick (before_line (node_in header f) a.line (of f a.before)) (ap is_follow follows)

    abbrev Past_there : Past
    Past_there = port_before (node_in header f) a.line (of f a.before)

    abbrev Until : ℕ
    Until = a.line.did.tick + delay_at a.line.did.tick Past_there

    abbrev Reports : Act
    Reports = posts_bare SlaveUp (ticket_at a.line.did.tick Past_there) Past_there (peer_of (node_of call.post))

    abbrev Arming : Line
    Arming = line_of a.line.did.step a.line.did.tick a.line.port (Acts (Arm Elect Until))

    pub heeded : Heeded f call.post.did.step.at older
    heeded =
        let hears = hears_there set world table long t stays s delivered call.post call.older (peer_of f) Said posts a (ap is_starting_role role-there) in
        let next = (all_heed header world table f).obeys.masterup a.line (of f a.before) (peer_of (node_of call.post)) Said hears refl role-there
        steers-there refl in
        let w = world_place f Arming (a.line ∷ of f a.before) world (act_place a.line.did.step a.line.did.tick a.line.port (Arm Elect Until)
        (Arm Elect Until ∷ Reports ∷ []) (a.line ∷ of f a.before) (of f world) (record { front = []; back = Reports ∷ []; is = refl }) next) in
        let before : Within (Arming ∷ w.older) older = before_time setting world fits Arming w.older l older w.place place a-early in
        let after : Within (a.line ∷ a.before) w.older = in_order f a.line a.before Arming w.older world a.place w.place
        (subst (λ ls. Within (a.line ∷ of f a.before) ls) (sym w.own_is) (Within_all (a.line ∷ of f a.before))) in
        let post-in : Within (call.post ∷ call.older) w.older = Within_through (call.post ∷ call.older) (a.line ∷ a.before) w.older (inr a.later) after in
        let order = (fits_in setting Arming w.older world fits w.place).order in
        let le = place_time setting (call.post ∷ call.older) w.older (fits_at setting w.older world fits (Within_tail Arming w.older world w.place)) post-in in
        record {
          arm = Arming.did;
          idle = view a.line.port (of f w.older);
          until = Until;
          place = subst (λ q. Within (Here Arming.did ∷ view a.line.port (of f w.older)) (view q (of f older))) a-port (seen_in f Arming w.older older w.node
              before);
          deed = refl;
          time = a.line.did.step.at;
          tick = tick_in setting f Arming w.older world fits w.node w.place;
          late_enough = omega (arith, order, le);
        }
