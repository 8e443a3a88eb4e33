-- At each true time the last Close of a master is at most a round and a few seconds ago.
use Rattle.std.proofs.Common.{sym, ap, subst, arith, true≢false, inl, inr, ◌∙◌, ◌≡◌, ◌≤◌, ◌<◌, ◌⊎◌, ◌||◌, ℕ, ◌+◌, ◌-◌, ◌*◌, ◌==◌, ℤ, Bool, true, false}
use Rattle.std.proofs.Common.{List, [], ◌∷◌, ◌++◌, map, eqb-true, eq-eqb, refl}
use Rattle.std.proofs.lemmas.Bool.{cases_lt, or_parts}
use Rattle.tsp_rules.specs.Values.{Act, Arm, Close, CloseAlarm, Probe, Round, MasterUp, PeerId, CLOSE, PROBE, ROUND, SLACK}
use Rattle.tsp_base.specs.Words.{Acts, Begins, Deed, Did, HeaderValue, Line, Seen, Within, dids, first_port, in_table, is_shared, line_of, of, others}
use Rattle.tsp_base.specs.Words.{peer_of, post_of, seen_as, time_of, view}
use Rattle.tsp_base.proofs.PlaceLemmas.{Within_all, Within_tail, Within_through}
use Rattle.tsp_promises.specs.{DeedFits.DeedFits, Fits.LineFits, Fits.node_of, Setting.Setting}
use Rattle.tsp_promises.specs.{Setting.setup_of}
use Rattle.tsp_promises.proofs.{shared.Clocks.near, shared.Clocks.tick_mono, shared.EverywhereLemmas.Everywhere_at, shared.HistoryPlaces.line_on}
use Rattle.tsp_promises.proofs.{shared.HistoryPlaces.Within_of, shared.HistoryPlaces.of_other, shared.HistoryPlaces.of_own}
use Rattle.tsp_promises.proofs.promised.OwnFitsProof.{fits_at, fits_in, place_time, tick_in}
use Rattle.tsp_run.specs.Clocked.{Clocks}
use Rattle.tsp_progress.specs.{AgreesAlways.round_age, AlarmsFit.AlarmsFit, ByTable.before_line, ByTable.node_in, ByTable.port_before, InTable.GivesUpNone}
use Rattle.tsp_progress.specs.{RunsWake.manner_of, Wakes.Wakes, Wakes.WokenAt, Watched.AttendedAt, Watched.Watched}
use Rattle.tsp_progress.proofs.{AllAsked.Tended, AllAsked.on_first, FollowCalls.Cut, FollowCalls.RoundActs, FollowCalls.cut, FollowCalls.round_acts}
use Rattle.tsp_progress.proofs.{FollowHeard.RoundRang, FollowHeard.ringing, FollowHeard.single_waits, NeverLateProof.never_late}
use Rattle.tsp_progress.proofs.{RoundCloses.Goes, RoundCloses.Going, RoundCloses.KeepsRound, RoundCloses.Rung, RoundCloses.goes_deed}
use Rattle.tsp_progress.proofs.{RoundCloses.rung_owes, SearchKept.alarms_within, SearchKept.view_within}
use Rattle.tsp_progress.proofs.WorldPlaces.{WorldPlace, act_place, in_order, own_place, world_place}

-- a look at an earlier time
sooner : (late x y : ℕ) (seen : List Seen) → y ≤ x → Watched late x seen → Watched late y seen
sooner late x y seen le w = record {
  alarms = λ a at e. let soon = w.alarms a at e in omega (arith, le, soon);
  sends = λ p k e. let soon = w.sends p k e in omega (arith, le, soon);
}

-- a Close of the node
pub record CloseIn (c : ℕ) (h : List Line) : Type 0 where
  pub line : Line
  pub before : List Line
  pub place : Within (line ∷ before) h
  pub node : node_of line ≡ c
  pub count : ℕ
  pub lo : ℤ
  pub size : ℤ
  pub mean : ℤ
  pub deed : line.did.deed ≡ Acts (Close count lo size mean)

more : (c : ℕ) (l : Line) (h : List Line) → CloseIn c h → CloseIn c (l ∷ h)
more c l h k = record {
  line = k.line;
  before = k.before;
  place = inr k.place;
  node = k.node;
  count = k.count;
  lo = k.lo;
  size = k.size;
  mean = k.mean;
  deed = k.deed;
}

module _ {clocks : Clocks} {header : HeaderValue} {setting : Setting} (late long t : ℕ) (stays : ℕ → Bool) (c : ℕ) (s world : List Line)
    (a : Tended clocks header setting late long t stays c s world) (gives : GivesUpNone c s world) (n : ℕ) (there : stays n ≡ true)
    (other : (n == c) ≡ false) (x : ℕ) (lower : time_of (dids s) + ROUND + 12 * SLACK ≤ x) (upper : x ≤ t) where
  abbrev P : PeerId
  P = peer_of n

  abbrev Time : ℕ
  Time = x - 9010000

  rang : RoundRang setting late c s world Time
  rang = ringing a.set world a.table a.fits (manner_of header) a.woken a.wakes late long t c stays s a.attended a.slack a.told a.one a.delivered a.s_in Time n
      there other (omega (arith, upper)) (omega (arith, lower)) (λ h w v le. (a.follow h w v (omega (arith, le, upper))).leads)

  abbrev L : Line
  L = line_on first_port rang.ring

  abbrev X : ℕ
  X = rang.ring.tick

  -- the round ends by then
  abbrev End : ℕ
  End = rang.ring.step.at + 9010000

  end-upper : End ≤ x
  end-upper = let up = rang.upto in omega (arith, up, lower)

  own-ring : Within (L ∷ of c rang.older) (of c world)
  own-ring = own_place c L rang.older world rang.node rang.place

  acts : RoundActs (node_in header c) L (of c rang.older) (of c world)
  acts = round_acts (node_in header c) (of c world) (a.table c) L (of c rang.older) own-ring rang.rings
      (single_waits (node_in header c).ports a.one.single X (before_line (node_in header c) L (of c rang.older)) refl)

  abbrev Yl : Line
  Yl = line_of rang.ring.step X first_port (Acts (Arm CloseAlarm (X + CLOSE)))

  abbrev Y : Did
  Y = Yl.did

  abbrev Own : List Line
  Own = line_of rang.ring.step X first_port (Acts (Arm Probe (X + PROBE))) ∷ line_of rang.ring.step X first_port (Acts (Arm Round (X + ROUND))) ∷ L ∷
      of c rang.older

  abbrev Idle : List Seen
  Idle = view first_port Own

  abbrev Back : List Act
  Back =
      let past = port_before (node_in header c) L (of c rang.older) in
      map (post_of MasterUp 0 past.name) (others past.own past.peers) ++ acts.rest

  began : WorldPlace c Yl Own world
  began = world_place c Yl Own world (act_place rang.ring.step X first_port (Arm CloseAlarm (X + CLOSE)) (Arm Round (X + ROUND) ∷ Arm Probe (X + PROBE) ∷
      Arm CloseAlarm (X + CLOSE) ∷ Back) (L ∷ of c rang.older) (of c world)
      (record { front = Arm Round (X + ROUND) ∷ Arm Probe (X + PROBE) ∷ []; back = Back; is = refl }) acts.next)

  began-since : Within s began.older
  began-since = Within_through s (L ∷ rang.older) began.older (inr rang.since) (in_order c L rang.older Yl began.older world rang.place began.place
      (subst (λ ls. Within (L ∷ of c rang.older) ls) (sym began.own_is) (inr (inr (Within_all (L ∷ of c rang.older))))))

  -- the history up to then
  R : List Line → Type 0
  R lines = Wakes (manner_of header c) (view first_port lines) × Watched late (setting.tick c End) (view first_port lines)

  marks : (k : Line) (w : List Line) → Within (k ∷ w) world → k.did.deed ≡ Begins → node_of k ≡ c → End < k.did.step.at → R (of c w)
  unfolding R
  marks k w v begins node later =
      let awake = Everywhere_at (WokenAt (manner_of header)) k w world a.woken v begins first_port in
      let watched = Everywhere_at (AttendedAt late) k w world a.attended v begins first_port in
      let tick = tick_in setting c k w world a.fits node v in
      let mono = tick_mono setting c End k.did.step.at (omega (arith, later)) in
      let here = sooner late k.did.tick (setting.tick c End) (view first_port (of (node_of k) w)) (omega (arith, tick, mono)) watched in (
        subst (λ j. Wakes (manner_of header j) (view first_port (of j w))) node awake,
        subst (λ j. Watched late (setting.tick c End) (view first_port (of j w))) node here,
      )

  ends : R (of c world)
  unfolding R
  ends = (
    a.wakes c first_port,
    sooner late (setting.tick c t) (setting.tick c End) (view first_port (of c world))
        (tick_mono setting c End t (let up = end-upper in omega (arith, up, upper))) (a.told first_port),
  )

  upto-end : Cut c End R world
  upto-end = cut setting c End R world a.fits marks ends

  abbrev H : List Line
  H = upto-end.h

  began-in : Within (Yl ∷ began.older) H
  began-in = upto-end.all Yl began.older began.place (omega arith)

  h-time : time_of (dids H) ≤ t
  h-time = let up = upto-end.upto in let e = end-upper in omega (arith, up, e, upper)

  y-tick : X ≡ setting.tick c rang.ring.step.at
  y-tick = tick_in setting c L rang.older world a.fits rang.node rang.place

  -- a Close of this round
  record ClosedIn (h : List Line) : Type 0 where
    pub close : CloseIn c h
    pub over : X + CLOSE ≤ close.line.did.tick

  abbrev Still : List Line → Type 0
  Still h = ClosedIn h ⊎ Goes Y Idle (view first_port (of c h))

  goes-on : (h : List Line) → Within (Yl ∷ began.older) h → Within h H → Still h
  unfolding more
  goes-on [] w v = let bad : ⊥ = cc in absurd bad
  goes-on (l ∷ h) (inl e) v = subst (λ z. Still z) e (inr (subst (λ ls. Goes Y Idle (view first_port ls))
      (sym (of_own c Yl began.older began.node ∙ ap (λ ls. Yl ∷ ls) began.own_is)) (Going refl refl)))
  goes-on (l ∷ h) (inr w) v = elim (goes-on h w (Within_tail l h H v)) [
    | inl k ↦ inl (record { close = more c l h k.close; over = k.over })
    | inr g ↦ by_node (node_of l == c) refl g
  ] where
    place : Within (l ∷ h) world
    place = Within_through (l ∷ h) H world v upto-end.within

    line : LineFits setting l h
    line = fits_in setting l h world a.fits place

    since-s : Within s h
    since-s = Within_through s (Yl ∷ began.older) h (inr began-since) w

    l-time : l.did.step.at ≤ End
    l-time = let le = place_time setting (l ∷ h) H (fits_at setting H world a.fits upto-end.within) v in let up = upto-end.upto in omega (arith, le, up)

    by_node : (b : Bool) → (node_of l == c) ≡ b → Goes Y Idle (view first_port (of c h)) → Still (l ∷ h)
    by_node false e g = inr (subst (λ ls. Goes Y Idle (view first_port ls)) (sym (of_other c l h e)) g)
    by_node true e g = by_flag ((l.port.0 == 0) || is_shared l.did.deed) refl where
      node : node_of l ≡ c
      node = eqb-true (node_of l) c e

      own : of c (l ∷ h) ≡ l ∷ of c h
      own = of_own c l h node

      by_flag : (b : Bool) → ((l.port.0 == 0) || is_shared l.did.deed) ≡ b → Still (l ∷ h)
      by_flag false f =
          let both = or_parts (l.port.0 == 0) (is_shared l.did.deed) f in
          let on = on_first a l h place node both.1 in
          absurd (true≢false (sym (eq-eqb l.port.0 0 (ap (λ q. q.0) on)) ∙ both.0))
      by_flag true f = elim (goes_deed (manner_of header c) P Y Idle l.did (view first_port (of c h)) mild g) [
        | inl k ↦ inl (record {
          close = record {
            line = l;
            before = h;
            place = inl refl;
            node = node;
            count = k.count;
            lo = k.lo;
            size = k.size;
            mean = k.mean;
            deed = k.deed;
          };
          over = k.over;
        })
        | inr k ↦ inr (subst (λ ls. Goes Y Idle (view first_port ls)) (sym own) (subst (λ b. Goes Y Idle (seen_as b l.did ∷ view first_port (of c h))) (sym f)
            k))
      ] where
        deeds : (deed : Deed) → l.did.deed ≡ deed → DeedFits (setup_of setting c first_port) deed l.did (view first_port (of c h))
        deeds deed is = subst (λ d. DeedFits (setup_of setting c first_port) d l.did (view first_port (of c h))) is
            (subst (λ k. DeedFits (setup_of setting k first_port) l.did.deed l.did (view first_port (of k h))) node (line.deeds first_port f))

        fit : AlarmsFit (manner_of header c) (view first_port (of c (l ∷ h)))
        fit = alarms_within (manner_of header c) (view first_port (of c (l ∷ h))) (view first_port (of c world))
            (view_within first_port (of c (l ∷ h)) (of c world) (Within_of c (l ∷ h) world place)) (a.wakes c first_port).acts

        mild : KeepsRound (manner_of header c) P Y l.did (view first_port (of c h))
        mild = record {
          unbooted = a.calm.unbooted l h place since-s;
          timely = Everywhere_at _ l h world (never_late (manner_of header) setting late world a.fits a.wakes a.attended a.slack) place;
          given = gives l h place since-s node;
          starts = λ at is. deeds (Acts (Arm CloseAlarm at)) is;
          closes = λ count lo size mean is. deeds (Acts (Close count lo size mean)) is;
          there = (let now = a.members (l ∷ h) place (inr since-s) (let le = l-time in let up = end-upper in omega (arith, le, up, upper)) n there other in
              subst (λ b. in_table P (seen_as b l.did ∷ view first_port (of c h)) ≡ true) f
              (subst (λ ls. in_table P (view first_port ls) ≡ true) own now));
          early = (let tick = tick_in setting c l h world a.fits node place in
              let mono = tick_mono setting c l.did.step.at End l-time in
              let most = (near setting c rang.ring.step.at End (omega arith)).most in
              let y = y-tick in
              omega (arith, tick, mono, most, y));
          next = (subst (λ z. AlarmsFit (manner_of header c) z) (ap (view first_port) own ∙ ap (λ b. seen_as b l.did ∷ view first_port (of c h)) f) fit).1.0;
        }

  -- so it closed
  closed_in : ClosedIn H
  unfolding R
  closed_in = elim (goes-on H began-in (Within_all H)) [
    | inl k ↦ k
    | inr g ↦ absurd (not g)
  ] where
    not : Goes Y Idle (view first_port (of c H)) → ⊥
    not (Rung st e) = true≢false (sym (rung_owes (view first_port (of c H)) e) ∙ upto-end.holds.0.settled)
    not (Going st at) =
        let watched = upto-end.holds.1.alarms CloseAlarm (X + CLOSE) at in
        let least = (near setting c rang.ring.step.at End (omega arith)).least in
        let y = y-tick in
        let small = a.slack in
        omega (arith, watched, least, y, small)

  -- a Close that isn't long ago
  pub record Recent : Type 0 where
    pub close : CloseIn c world
    pub by : close.line.did.step.at ≤ x
    pub recent : x ≤ close.line.did.step.at + round_age late

  pub recent_close : Recent
  recent_close =
      let k = closed_in in
      let d = k.close in
      let place : Within (d.line ∷ d.before) world = Within_through (d.line ∷ d.before) H world d.place upto-end.within in
      let at = place_time setting (d.line ∷ d.before) H (fits_at setting H world a.fits upto-end.within) d.place in
      let up = upto-end.upto in
      let e = end-upper in
      let d-tick = tick_in setting c d.line d.before world a.fits d.node place in
      let y = y-tick in
      let over = k.over in
      let order : rang.ring.step.at ≤ d.line.did.step.at = elim (cases_lt d.line.did.step.at rang.ring.step.at) [
        | inl less ↦ absurd (let mono = tick_mono setting c d.line.did.step.at rang.ring.step.at (omega (arith, less)) in omega (arith, mono, d-tick, y, over))
        | inr most ↦ omega (arith, most)
      ] in
      let most = (near setting c rang.ring.step.at d.line.did.step.at order).most in
      let upto = rang.upto in
      let least = (near setting c rang.ring.step.at Time upto).least in
      let recent = rang.recent in
      record {
        close = record {
          line = d.line;
          before = d.before;
          place = place;
          node = d.node;
          count = d.count;
          lo = d.lo;
          size = d.size;
          mean = d.mean;
          deed = d.deed;
        };
        by = omega (arith, at, up, e);
        recent = omega (arith, d-tick, y, over, most, least, recent, lower, upto);
      }
