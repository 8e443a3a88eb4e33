-- In such a network who stands for election so late followed another than c until then, and is a candidate for no longer than its Window.
use Rattle.std.proofs.Common.{sym, ap, subst, arith, inl, inr, ◌∙◌, ◌≡◌, ◌≤◌, ◌<◌, ℕ, ◌+◌, ◌-◌, ◌*◌, ◌==◌, Bool, true, false, List}
use Rattle.std.proofs.Common.{[], ◌∷◌, None, Some, refl}
use Rattle.std.proofs.lemmas.Bool.{cases_lt}
use Rattle.tsp_rules.specs.Values.{Arm, Become, Boot, Late, Ring, Elect, Window, Follow, Candidate}
use Rattle.tsp_rules.specs.Values.{ELECT_MIN, ROUND, SLACK, WINDOW}
use Rattle.tsp_base.specs.Words.{Acts, Deed, Did, Elsewhere, HeaderValue, Here, Line, Seen, Within, armed, armed_after, dids, first_port, is_among, is_shared}
use Rattle.tsp_base.specs.Words.{of}
use Rattle.tsp_base.specs.Words.{peer_of, role, role_after, stood, time_of, view}
use Rattle.tsp_base.proofs.PlaceLemmas.{Within_all, Within_strict, Within_tail, Within_through}
use Rattle.tsp_promises.specs.{Setting.Setting}
use Rattle.tsp_promises.proofs.{shared.Clocks.near, shared.Clocks.tick_mono, shared.ElectionFacts.stood_at, shared.HistoryPlaces.Within_of}
use Rattle.tsp_promises.proofs.{shared.HistoryPlaces.line_on}
use Rattle.tsp_promises.proofs.promised.OwnFitsProof.{Located, fits_at, fits_in, locate, place_time, seen_in, tick_in}
use Rattle.tsp_run.specs.Clocked.{Clocks}
use Rattle.tsp_progress.specs.AlarmsFit.{AlarmFits, AlarmsFit, Manner}
use Rattle.tsp_progress.specs.{FollowOn.role_of, RunsWake.manner_of}
use Rattle.tsp_progress.proofs.{FollowCalls.Cut, FollowHeard.nil_within, GatherPlaces.Strayed, GatherPlaces.role_becomes, GatherPlaces.since}
use Rattle.tsp_progress.proofs.{GatherCalls.HeardBy, GatherCalls.Minds, GatherCalls.Scene, GatherCalls.heard_by, GatherStays.Looked, GatherStays.looked}
use Rattle.tsp_progress.proofs.{GatherStays.stays_on, InTimeProof.value_of, PortSetups.PortIs, PortSetups.member_port}
use Rattle.tsp_progress.proofs.{ReignProof.GotAt, ReignProof.got_by, ReignProof.head_did, SearchKept.view_within, StandActs.RangElect, StandPlaces.rang}
use Rattle.tsp_progress.proofs.{TimePlaces.before_time, WinsNot.stood_back, WinsNot.stood_role}

none_some : {A : Type 0} {at : ℕ} → None ≡ Some at → A
none_some e = let bad : ⊥ = cc in absurd bad

-- what an alarm asks for, at each place
alarms_within : (m : Manner) (few seen : List Seen) → Within few seen → AlarmsFit m seen → AlarmsFit m few
alarms_within m few [] w f = subst (AlarmsFit m) (sym w) f
alarms_within m few (s ∷ rest) (inl e) f = subst (AlarmsFit m) (sym e) f
alarms_within m few (Here d ∷ rest) (inr w) f = alarms_within m few rest w f.1.1
alarms_within m few (Elsewhere d ∷ rest) (inr w) f = alarms_within m few rest w f.1

-- where Elect, which is armed, was armed: well before it is due, and the role didn't change since
record ArmedSince (at : ℕ) (seen : List Seen) : Type 0 where
  pub arm : Did
  pub idle : List Seen
  pub to : ℕ
  pub place : Within (Here arm ∷ idle) seen
  pub deed : arm.deed ≡ Acts (Arm Elect to)
  pub ahead : arm.tick + ELECT_MIN ≤ at
  pub kept : (w : List Seen) → Within (Here arm ∷ idle) w → Within w seen → role w ≡ role seen

armed_since : (m : Manner) (at : ℕ) (seen : List Seen) → AlarmsFit m seen → (armed seen).elect ≡ Some at → ArmedSince at seen
armed_since m at [] f e = none_some e
armed_since m at (Elsewhere d ∷ before) f e =
    let o = armed_since m at before f.1 e in
    record {
      arm = o.arm;
      idle = o.idle;
      to = o.to;
      place = inr o.place;
      deed = o.deed;
      ahead = o.ahead;
      kept = λ w v u. elim u [
        | inl same ↦ ap role same
        | inr i ↦ o.kept w v i
      ];
    }
armed_since m at (Here d ∷ before) f e = by_deed d.deed refl f.0 e (λ k. armed_since m at before f.1.1 k) where
  more : ArmedSince at before → role (Here d ∷ before) ≡ role before → ArmedSince at (Here d ∷ before)
  more o same = record {
    arm = o.arm;
    idle = o.idle;
    to = o.to;
    place = inr o.place;
    deed = o.deed;
    ahead = o.ahead;
    kept = λ w v u. elim u [
      | inl is ↦ ap role is
      | inr i ↦ o.kept w v i ∙ sym same
    ];
  }

  by_deed : (deed : Deed) → d.deed ≡ deed → AlarmFits deed d before → (armed_after deed (armed before)).elect ≡ Some at →
      ((armed before).elect ≡ Some at → ArmedSince at before) → ArmedSince at (Here d ∷ before)
  by_deed (Acts Boot) is fit k older = none_some k
  by_deed (Acts (Become r)) is fit k older = none_some k
  by_deed (Acts (Arm Elect t)) is fit k older = record {
    arm = d;
    idle = before;
    to = t;
    place = inl refl;
    deed = is;
    ahead = (let same : t ≡ at = value_of k in omega (arith, fit, same));
    kept = λ w v u. elim u [
      | inl same ↦ ap role same
      | inr i ↦ absurd (Within_strict (Here d) before w v i)
    ];
  }
  by_deed (Acts (Ring Elect)) is fit k older = none_some k
  by_deed (Acts (Late Elect)) is fit k older = none_some k
  by_deed _ is fit k older = more (older k) (ap (λ c. role_after c (role before)) is)

-- a node that stood for election, and is a candidate still when the line k comes
pub record StoodRecently (long c p : ℕ) (k : Line) (w : List Line) : Type 0 where
  pub line : Line
  pub before : List Line
  pub place : Within (line ∷ before) w
  pub recent : k.did.step.at ≤ line.did.step.at + (WINDOW + 2 * SLACK + 1)
  pub stands : role_of p (line ∷ before) ≡ Candidate
  pub strayed : Strayed c p before

module _ {clocks : Clocks} {header : HeaderValue} {setting : Setting} {late long t c : ℕ} {stays : ℕ → Bool} {s world : List Line}
    (scene : Scene clocks header setting late long t c stays s world) (p : ℕ) (there : stays p ≡ true) (other : (p == c) ≡ false) (k : Line) (w : List Line)
    (k-in : Within (k ∷ w) world) (until : k.did.step.at ≤ t)
    (late-k : time_of (dids s) + (ROUND + 2 * SLACK + 2 * long + 2) + (WINDOW + 2 * SLACK + 1) ≤ k.did.step.at) (stands : role_of p w ≡ Candidate) where
  abbrev Seen_w : List Seen
  Seen_w = view first_port (of p w)

  w-in : Within w world
  w-in = Within_tail k w world k-in

  got : GotAt Candidate (stood Seen_w)
  got = got_by Candidate (λ e. let bad : ⊥ = cc in bad) Seen_w stands

  z-at : Located p first_port w got.start got.idle
  z-at = locate p first_port w got.start got.idle (ap (λ d. is_shared d) got.deed) (stood_at Seen_w (Here got.start) got.idle got.stood_is).place

  abbrev Z : Line
  Z = line_on first_port got.start

  z-in : Within (Z ∷ z-at.older) world
  z-in = Within_through (Z ∷ z-at.older) w world z-at.place w-in

  z-seen : Within (Here got.start ∷ got.idle) Seen_w
  z-seen = (stood_at Seen_w (Here got.start) got.idle got.stood_is).place

  z-tick : got.start.tick ≡ setting.tick p Z.did.step.at
  z-tick = tick_in setting p Z z-at.older world scene.fits z-at.node z-in

  z-soon : Z.did.step.at ≤ k.did.step.at
  z-soon =
      let low = place_time setting (Z ∷ z-at.older) w (fits_at setting w world scene.fits w-in) z-at.place in
      let order = (fits_in setting k w world scene.fits k-in).order in
      omega (arith, low, order)

  -- it is one for no longer than its Window

  Time : ℕ
  Time = k.did.step.at - 1

  time-is : Time + 1 ≡ k.did.step.at
  unfolding Time
  time-is = omega (arith, late-k)

  now : Cut p Time (Looked scene p Time) world
  now = looked scene p Time there (let is = time-is in omega (arith, is, until))

  h-in : Within now.h w
  h-in = by_place now.h now.within now.upto where
    by_place : (h : List Line) → Within h world → time_of (dids h) ≤ Time → Within h w
    by_place [] v le = nil_within w
    by_place (j ∷ v) u le = before_time setting world scene.fits j v k w u k-in (let is = time-is in omega (arith, is, le))

  by-window : Z.did.step.at ≤ Time → k.did.step.at ≤ Z.did.step.at + (WINDOW + 2 * SLACK + 1)
  by-window le =
      let z-h : Within (Z ∷ z-at.older) now.h = now.all Z z-at.older z-in le in
      let inside : Within (Here got.start ∷ got.idle) (view first_port (of p now.h)) =
      subst (λ v. Within (Here got.start ∷ v) (view first_port (of p now.h))) z-at.before (seen_in p Z z-at.older now.h z-at.node z-h) in
      let back = stood_back got.start got.idle (view first_port (of p now.h)) Seen_w (view_within first_port (of p now.h) (of p w) (Within_of p now.h w h-in))
      inside got.stood_is in
      let candidate : role (view first_port (of p now.h)) ≡ Candidate =
      stood_role got.start got.idle (view first_port (of p now.h)) back ∙ ap (λ d. role_after d (role got.idle)) got.deed in
      let windowed = now.holds.0.candidate candidate in
      let same : windowed.start ≡ got.start = head_did (sym windowed.stood_is ∙ back) in
      let tick = ap (λ (d : Did). d.tick) same in
      let due = now.holds.1.alarms Window (windowed.start.tick + WINDOW) windowed.window_is in
      let n = near setting p Z.did.step.at Time le in
      let least = n.least in
      let at = z-tick in
      let slack = scene.slack in
      let is = time-is in
      omega (arith, due, tick, at, least, slack, is)

  recent : k.did.step.at ≤ Z.did.step.at + (WINDOW + 2 * SLACK + 1)
  recent = elim (cases_lt Time Z.did.step.at) [
    | inl less ↦ let is = time-is in omega (arith, is, less)
    | inr le ↦ by-window le
  ]

  -- it followed another when it stood

  z-late : time_of (dids s) + (ROUND + 2 * SLACK + 2 * long + 2) ≤ Z.did.step.at
  z-late = let r = recent in omega (arith, r, late-k)

  z-until : Z.did.step.at ≤ t
  z-until = let soon = z-soon in omega (arith, soon, until)

  heard : HeardBy setting long c p Z.did.step.at s world
  heard = heard_by scene p Z.did.step.at there other (let l = z-late in omega (arith, l)) z-until

  heard-late : time_of (dids s) + long < heard.line.did.step.at
  heard-late = let l = z-late in let r = heard.recent in omega (arith, l, r)

  z-stands : role_of p (Z ∷ z-at.older) ≡ Candidate
  z-stands = role_becomes p Z z-at.older Candidate z-at.node refl got.deed

  follow_stands : {A : Type 0} → Follow (peer_of c) ≡ Candidate → A
  follow_stands e = let bad : ⊥ = cc in absurd bad

  not-minds : Minds c p heard.line.did.step.at s world → ⊥
  not-minds m =
      let inside : Within (m.arm ∷ m.older) z-at.older = before_time setting world scene.fits m.arm m.older Z z-at.older m.place z-in
      (let time = m.time in let soon = heard.soon in omega (arith, time, soon)) in
      let follows = stays_on scene p there heard.line.did.step.at m heard-late Z.did.step.at z-until heard.fresh (Z ∷
      z-at.older) (inr inside) z-in (omega arith)
      in
      follow_stands (sym follows ∙ z-stands)

  port_is : PortIs header setting p first_port
  port_is = member_port scene.set p first_port (peer_of c) (subst (λ n. is_among (peer_of c) (setting.members n) ≡ true) (sym (scene.one.net p there))
      (setting.own c first_port)) other

  whole-seen : Within (Here got.start ∷ got.idle) (view first_port (of p world))
  whole-seen = subst (λ v. Within (Here got.start ∷ v) (view first_port (of p world))) z-at.before (seen_in p Z z-at.older world z-at.node z-in)

  after-z : Within s z-at.older
  after-z = since setting world scene.fits scene.calls long c stays s scene.s_in scene.one.net scene.calm Z z-at.older z-in (let l = z-late in omega (arith, l))

  rung : RangElect got.idle
  rung = rang world scene.table scene.fits scene.sound p first_port port_is got.start got.idle whole-seen got.deed
      (scene.calm.unhanded Z z-at.older z-in after-z)

  ring-in : Within (Here rung.ring ∷ rung.rest) (view first_port (of p world))
  ring-in = Within_through (Here rung.ring ∷ rung.rest) got.idle (view first_port (of p world)) (subst (λ v. Within v got.idle) rung.is (Within_all got.idle))
      (Within_tail (Here got.start) got.idle (view first_port (of p world)) whole-seen)

  ring-fits : AlarmsFit (manner_of header p) (Here rung.ring ∷ rung.rest)
  ring-fits = alarms_within (manner_of header p) (Here rung.ring ∷ rung.rest) (view first_port (of p world)) ring-in (scene.wakes p first_port).acts

  ring-alarm : AlarmFits (Acts (Ring Elect)) rung.ring rung.rest
  ring-alarm = subst (λ d. AlarmFits d rung.ring rung.rest) rung.deed ring-fits.0

  armed-then : ArmedSince ring-alarm.at rung.rest
  armed-then = armed_since (manner_of header p) ring-alarm.at rung.rest ring-fits.1.1 ring-alarm.armed_is

  idle-is : view first_port (of p z-at.older) ≡ Here rung.ring ∷ rung.rest
  idle-is = z-at.before ∙ rung.is

  ring-at : Located p first_port z-at.older rung.ring rung.rest
  ring-at = locate p first_port z-at.older rung.ring rung.rest (ap (λ d. is_shared d) rung.deed)
      (subst (λ v. Within (Here rung.ring ∷ rung.rest) v) (sym idle-is) (Within_all (Here rung.ring ∷ rung.rest)))

  arm-at : Located p first_port z-at.older armed-then.arm armed-then.idle
  arm-at = locate p first_port z-at.older armed-then.arm armed-then.idle (ap (λ d. is_shared d) armed-then.deed)
      (subst (λ v. Within (Here armed-then.arm ∷ armed-then.idle) v) (sym idle-is) (inr armed-then.place))

  abbrev A : Line
  A = line_on first_port armed-then.arm

  zb-in : Within z-at.older world
  zb-in = Within_tail Z z-at.older world z-in

  a-in : Within (A ∷ arm-at.older) world
  a-in = Within_through (A ∷ arm-at.older) z-at.older world arm-at.place zb-in

  -- that was before the call
  a-early : A.did.step.at < heard.line.did.step.at
  a-early = elim (cases_lt A.did.step.at heard.line.did.step.at) [
    | inl less ↦ less
    | inr none ↦
        let mono = tick_mono setting p heard.line.did.step.at A.did.step.at none in
        let arm-tick = tick_in setting p A arm-at.older world scene.fits arm-at.node a-in in
        let ring-place = Within_through (line_on first_port rung.ring ∷ ring-at.older) z-at.older world ring-at.place zb-in in
        let ring-tick = tick_in setting p (line_on first_port rung.ring) ring-at.older world scene.fits ring-at.node ring-place in
        let low = place_time setting (line_on first_port rung.ring ∷ ring-at.older) z-at.older (fits_at setting z-at.older world scene.fits zb-in)
        ring-at.place in
        let order = (fits_in setting Z z-at.older world scene.fits z-in).order in
        let ring-mono = tick_mono setting p rung.ring.step.at Z.did.step.at (omega (arith, low, order)) in
        let ahead = armed-then.ahead in
        let due = ring-alarm.due in
        let fresh = heard.fresh in
        absurd (omega (arith, mono, arm-tick, ring-tick, ring-mono, ahead, due, fresh))
  ]

  heard-in : Within (heard.line ∷ heard.before) z-at.older
  heard-in = before_time setting world scene.fits heard.line heard.before Z z-at.older heard.place z-in heard.soon

  a-heard : Within (A ∷ arm-at.older) heard.before
  a-heard = before_time setting world scene.fits A arm-at.older heard.line heard.before a-in heard.place a-early

  arm-seen : Within (Here armed-then.arm ∷ armed-then.idle) (view first_port (of p heard.before))
  arm-seen = subst (λ v. Within (Here armed-then.arm ∷ v) (view first_port (of p heard.before))) arm-at.before
      (seen_in p A arm-at.older heard.before arm-at.node a-heard)

  call-seen : Within (view first_port (of p heard.before)) (Here rung.ring ∷ rung.rest)
  call-seen = subst (λ v. Within (view first_port (of p heard.before)) v) idle-is
      (view_within first_port (of p heard.before) (of p z-at.older) (Within_of p heard.before z-at.older
      (Within_tail heard.line heard.before z-at.older heard-in)))

  ring-role : role (Here rung.ring ∷ rung.rest) ≡ role rung.rest
  ring-role = ap (λ d. role_after d (role rung.rest)) rung.deed

  same-role : role_of p heard.before ≡ role_of p z-at.older
  same-role = elim call-seen [
    | inl e ↦ ap role e ∙ sym (ap role idle-is)
    | inr v ↦ armed-then.kept (view first_port (of p heard.before)) arm-seen v ∙ sym ring-role ∙ sym (ap role idle-is)
  ]

  pub stood_recently : StoodRecently long c p k w
  stood_recently = record {
    line = Z;
    before = z-at.older;
    place = z-at.place;
    recent = recent;
    stands = z-stands;
    strayed = elim heard.minds [
      | inl strays ↦ record { master = strays.master; follows = sym same-role ∙ strays.follows; other = strays.other }
      | inr m ↦ absurd (not-minds m)
    ];
  }
