-- In such a network of those who follow another than c one leaves it at least in each time so long.
use Rattle.std.proofs.Common.{sym, ap, subst, arith, true≢false, inl, inr, ◌∙◌, ◌≡◌, ◌≤◌, ◌<◌, ℕ, ◌+◌, ◌-◌, ◌*◌, ◌==◌, Bool, true, false, List}
use Rattle.std.proofs.Common.{[], ◌∷◌, Option, None, Some, eq-eqb, eqb-true, is_some, refl}
use Rattle.std.proofs.lemmas.Bool.{cases_lt}
use Rattle.tsp_rules.specs.Values.{Alarm, Arm, Become, Boot, Late, Post, Elect, Message, PeerId, Peer, Place, Role, Follow, Candidate, Master}
use Rattle.tsp_rules.specs.Values.{ELECT_MIN, ELECT_SPREAD, ROUND, SLACK}
use Rattle.tsp_base.specs.Words.{Acts, Deed, Did, HeaderValue, Here, Line, MessageValue, Seen, TakesFrom, Within, armed, dids, first_port, is_shared, of}
use Rattle.tsp_base.specs.Words.{peer_of, time_of, view}
use Rattle.tsp_base.proofs.PlaceLemmas.{Within_strict, Within_tail, Within_through}
use Rattle.tsp_promises.specs.{Fits.node_of, Setting.Setting}
use Rattle.tsp_promises.proofs.{shared.Clocks.near, shared.EverywhereLemmas.Everywhere_at, shared.HistoryPlaces.line_on}
use Rattle.tsp_promises.proofs.promised.OwnFitsProof.{Located, fits_at, fits_in, locate, place_time, seen_in, tick_in}
use Rattle.tsp_run.specs.Clocked.{Clocks}
use Rattle.tsp_progress.specs.AlarmsFit.{newest_is}
use Rattle.tsp_progress.specs.Calling.{CallFits, TookSome, TookVote, WaitFits, is_masters, lates_by}
use Rattle.tsp_progress.specs.{FollowOn.role_of, Gather.leaves_after, RunsWake.manner_of}
use Rattle.tsp_progress.proofs.{FollowCalls.Cut, FollowCalls.last_arm_at, FollowHeard.newest_of, FollowHeard.nil_within}
use Rattle.tsp_progress.proofs.{FollowProof.owes_at, FollowProof.role_kept, InTimeProof.ahead_most, InTimeProof.armed_place, NeverLateProof.never_late}
use Rattle.tsp_progress.proofs.GatherPlaces.{Strayed, from_c, led, since, source, strayed_from, strayed_since, votes_role}
use Rattle.tsp_progress.proofs.{GatherCalls.Scene}
use Rattle.tsp_progress.proofs.{TimePlaces.before_time}
use Rattle.tsp_progress.proofs.{GatherStays.From, GatherStays.Looked, GatherStays.looked, GatherStands.StoodRecently, GatherStands.stood_recently}

module _ {clocks : Clocks} {header : HeaderValue} {setting : Setting} {late long t c : ℕ} {stays : ℕ → Bool} {s world : List Line}
    (scene : Scene clocks header setting late long t c stays s world) where
  -- a place up to the true time x
  pub record Upto (x : ℕ) (g : List Line) : Type 0 where
    pub within : Within g world
    pub after : Within s g
    pub low : time_of (dids g) ≤ x
    pub all : (k : Line) (w : List Line) → Within (k ∷ w) world → k.did.step.at < x → Within (k ∷ w) g

  -- right before a line
  pub upto_line : (l : Line) (older : List Line) → Within (l ∷ older) world → Within s older → Upto l.did.step.at older
  upto_line l older place after = record {
    within = Within_tail l older world place;
    after = after;
    low = (fits_in setting l older world scene.fits place).order;
    all = λ k w v less. before_time setting world scene.fits k w l older v place less;
  }

  -- one more who followed another, and doesn't there
  pub record Left (x : ℕ) (g : List Line) : Type 0 where
    pub node : ℕ
    pub there : stays node ≡ true
    pub other : (node == c) ≡ false
    pub time : ℕ
    pub recent : x ≤ time + leaves_after long
    pub earlier : time ≤ x
    pub place : List Line
    pub upto : Upto time place
    pub before : Within place g
    pub strayed : Strayed c node place
    pub left : Strayed c node g → ⊥

  none_some : {A : Type 0} → false ≡ true → A
  none_some e = absurd (true≢false (sym e))

  module _ (f x : ℕ) (there : stays f ≡ true) (other : (f == c) ≡ false) (g : List Line) (upto : Upto x g) (until : x ≤ t)
      (late-x : time_of (dids s) + (ROUND + 2 * SLACK + 2 * long + 2) + leaves_after long ≤ x) (strays : Strayed c f g) where
    Time : ℕ
    Time = x - 1

    time_is : Time + 1 ≡ x
    unfolding Time
    time_is = omega (arith, late-x)

    now : Cut f Time (Looked scene f Time) world
    now = looked scene f Time there (let is = time_is in omega (arith, is, until))

    abbrev H : List Line
    H = now.h

    h-in : Within H g
    h-in = by_place now.h now.within now.upto where
      by_place : (h : List Line) → Within h world → time_of (dids h) ≤ Time → Within h g
      by_place [] w le = nil_within g
      by_place (k ∷ w) v le = upto.all k w v (let is = time_is in omega (arith, is, le))

    low-g : time_of (dids g) ≤ t
    low-g = let low = upto.low in omega (arith, low, until)

    strays-h : Strayed c f H
    strays-h = strayed_from setting world scene.fits scene.calls long c stays s scene.s_in scene.one.net scene.calm t scene.lead f H g h-in upto.within low-g
        (λ l older w v. elim (cases_lt (time_of (dids s) + long) l.did.step.at) [
          | inl less ↦ less
          | inr none ↦
              let here = now.all l older (Within_through (l ∷ older) g world w upto.within) (let is = time_is in omega (arith, is, none, late-x)) in
              absurd (Within_strict l older H here v)
        ]) strays

    -- its Elect was armed not long ago
    record Armed : Type 0 where
      pub arm : Did
      pub idle : List Seen
      pub at : ℕ
      pub place : Within (Here arm ∷ idle) (view first_port (of f H))
      pub deed : arm.deed ≡ Acts (Arm Elect at)
      pub recent : setting.tick f Time ≤ arm.tick + (ELECT_MIN + ELECT_SPREAD + late)

    armed_by : (o : Option ℕ) → (armed (view first_port (of f H))).elect ≡ o → is_some o ≡ true → Armed
    armed_by None e some = none_some some
    armed_by (Some at) e some =
        let wakes = now.holds.0 in
        let watched = now.holds.1 in
        let p = armed_place (manner_of header f) Elect at (view first_port (of f H)) wakes.acts e in
        let la = last_arm_at Elect (view first_port (of f H)) p.arm p.idle p.last in
        let ahead = ahead_most Elect p.arm p.idle at p.fits in
        let due = watched.alarms Elect at e in
        record { arm = p.arm; idle = p.idle; at = la.at; place = la.place; deed = la.deed; recent = omega (arith, ahead, due) }

    arms : Armed
    arms = let wakes = now.holds.0 in armed_by (armed (view first_port (of f H))).elect refl
        (wakes.follow strays-h.master strays-h.follows)

    unshared : is_shared arms.arm.deed ≡ false
    unshared = let deed = arms.deed in rw deed refl

    where_is : Located f first_port H arms.arm arms.idle
    where_is = locate f first_port H arms.arm arms.idle unshared arms.place

    abbrev L : Line
    L = line_on first_port arms.arm

    abbrev N : ℕ
    N = node_of L

    l-in : Within (L ∷ where_is.older) world
    l-in = Within_through (L ∷ where_is.older) H world where_is.place now.within

    l-soon : arms.arm.step.at ≤ Time
    l-soon =
        let low = place_time setting (L ∷ where_is.older) H (fits_at setting H world scene.fits now.within) where_is.place in
        let up = now.upto in
        omega (arith, low, up)

    l-recent : x ≤ arms.arm.step.at + (ELECT_MIN + ELECT_SPREAD + 2 * SLACK + 1)
    l-recent =
        let recent = arms.recent in
        let tick = tick_in setting f L where_is.older world scene.fits where_is.node l-in in
        let n = near setting f arms.arm.step.at Time l-soon in
        let least = n.least in
        let slack = scene.slack in
        let is = time_is in
        omega (arith, recent, tick, least, slack, is)

    l-late : time_of (dids s) + long < arms.arm.step.at
    l-late = let recent = l-recent in omega (arith, recent, late-x)

    abbrev Seen_l : List Seen
    Seen_l = view first_port (of N where_is.older)

    no_arm : {A : Type 0} (at : ℕ) (r : Role) → Acts (Arm Elect at) ≡ Acts (Become r) → A
    no_arm at r e = let bad : ⊥ = cc in absurd bad

    no_boot : {A : Type 0} (at : ℕ) → Acts (Arm Elect at) ≡ Acts Boot → A
    no_boot at e = let bad : ⊥ = cc in absurd bad

    -- by somebody who strays then
    strays_l : Strayed c N where_is.older
    strays_l =
        let here = strayed_since setting world scene.fits scene.calls long c stays s scene.s_in scene.one.net scene.calm t scene.lead f L where_is.older H
        where_is.place now.within (let up = now.upto in let is = time_is in omega (arith, up, is, until)) l-late strays-h in
        let kept = role_kept f L where_is.older (λ e. no_boot arms.at (sym arms.deed ∙ e)) (λ node port r e. no_arm arms.at r (sym arms.deed ∙ e)) in
        let same : role_of N where_is.older ≡ role_of f where_is.older = ap (λ n. role_of n where_is.older) where_is.node in
        record { master = here.master; follows = same ∙ sym kept ∙ here.follows; other = here.other }

    waits : WaitFits (Follow strays_l.master) Seen_l
    waits =
        let owed : CallFits arms.arm.deed arms.arm Seen_l = owes_at CallFits arms.arm Seen_l (view first_port (of N world))
        (seen_in N L where_is.older world refl l-in) (scene.calls N first_port) in
        subst (λ r. WaitFits r Seen_l) strays_l.follows (subst (λ d. CallFits d arms.arm Seen_l) arms.deed owed)

    heard_of : (from : Place) (k : MessageValue) → TakesFrom Seen_l from (Message k) → From scene L where_is.older from k
    heard_of from k took = source setting world scene.fits scene.calls long c stays s scene.s_in scene.one.net scene.calm L where_is.older l-in l-late
        refl (Arm Elect arms.at) arms.deed from k took

    l-until : arms.arm.step.at ≤ t
    l-until = let soon = l-soon in let is = time_is in omega (arith, soon, is, until)

    -- not for its own master
    not_masters : TookSome is_masters strays_l.master Seen_l → ⊥
    not_masters k =
        let own = from_c setting world scene.fits scene.calls long c stays s scene.s_in scene.one.net scene.calm L where_is.older l-in l-late refl
        strays_l.master k.message (heard_of (Peer strays_l.master) k.message k.took) k.kind_is (λ h w v.
        (led setting world scene.fits scene.calls long c stays s scene.s_in scene.one.net scene.calm t scene.lead L where_is.older l-in l-until h w v).alone) in
        true≢false (sym (eq-eqb strays_l.master.0 c own) ∙ strays_l.other)

    late_elect : (d : Deed) → lates_by d ≡ true → d ≡ Acts (Late Elect)
    late_elect (Acts (Late Elect)) e = refl
    late_elect _ e = none_some e

    -- nor late
    not_late : newest_is lates_by Seen_l ≡ true → ⊥
    not_late e =
        let n = newest_of lates_by Seen_l e in
        let is = late_elect n.last.deed n.holds in
        let place : Within (Here n.last ∷ n.older) (view first_port (of N world)) =
        subst (λ z. Within z (view first_port (of N world))) n.is
        (Within_tail (Here arms.arm) Seen_l (view first_port (of N world)) (seen_in N L where_is.older world refl l-in)) in
        let at = locate N first_port world n.last n.older (rw is refl) place in
        Everywhere_at (λ l before. (a : Alarm) → l.did.deed ≡ Acts (Late a) → ⊥) (line_on first_port n.last) at.older world
        (never_late (manner_of header) setting late world scene.fits scene.wakes scene.attended scene.slack) at.place Elect is

    -- but for a candidate
    module _ (v : TookVote Seen_l) where
      asks : From scene L where_is.older (Peer v.from) v.message
      asks = heard_of (Peer v.from) v.message v.took

      abbrev P : ℕ
      P = node_of asks.post

      abbrev Asked : ℕ
      Asked = asks.post.did.step.at

      stands : role_of P asks.before ≡ Candidate
      stands = votes_role setting world scene.fits scene.calls long c stays s scene.s_in scene.one.net scene.calm L where_is.older l-in l-late refl
          (Peer v.from) v.message asks v.kind_is

      asked-recent : x ≤ Asked + (ELECT_MIN + ELECT_SPREAD + 2 * SLACK + 1 + long)
      asked-recent = let recent = l-recent in let soon = asks.soon in omega (arith, recent, soon)

      asked-in : Within asks.before world
      asked-in = Within_tail asks.post asks.before world asks.at

      asked-low : time_of (dids asks.before) ≤ Asked
      asked-low = (fits_in setting asks.post asks.before world scene.fits asks.at).order

      asked-soon : Asked ≤ Time
      asked-soon =
          let le = place_time setting (asks.post ∷ asks.before) where_is.older (fits_at setting where_is.older world scene.fits
          (Within_tail L where_is.older world l-in)) asks.earlier in
          let order = (fits_in setting L where_is.older world scene.fits l-in).order in
          let soon = l-soon in
          omega (arith, le, order, soon)

      asked-until : Asked ≤ t
      asked-until = let soon = asked-soon in let is = time_is in omega (arith, soon, is, until)

      not-c : (b : Bool) → (P == c) ≡ b → (P == c) ≡ false
      not-c true e =
          let leads = (scene.lead asks.before asked-in asks.after (let low = asked-low in let le = asked-until in omega (arith, low, le))).leads in
          let bad : Candidate ≡ Master = sym (subst (λ n. role_of n asks.before ≡ Candidate) (eqb-true P c e) stands) ∙ leads in
          no-both bad
        where
          no-both : {A : Type 0} → Candidate ≡ Master → A
          no-both e = let bad : ⊥ = cc in absurd bad
      not-c false e = e

      apart : (P == c) ≡ false
      apart = not-c (P == c) refl

      follower_stands : {A : Type 0} (q : PeerId) → Follow q ≡ Candidate → A
      follower_stands q e = let bad : ⊥ = cc in absurd bad

      stood : StoodRecently long c P asks.post asks.before
      stood = stood_recently scene P asks.stays_is apart asks.post asks.before asks.at asked-until
          (let recent = asked-recent in omega (arith, recent, late-x)) stands

      z-in : Within (stood.line ∷ stood.before) world
      z-in = Within_through (stood.line ∷ stood.before) asks.before world stood.place asked-in

      z-recent : x ≤ stood.line.did.step.at + leaves_after long
      z-recent = let recent = asked-recent in let more = stood.recent in omega (arith, recent, more)

      z-soon : stood.line.did.step.at ≤ Asked
      z-soon =
          let le = place_time setting (stood.line ∷ stood.before) asks.before (fits_at setting asks.before world scene.fits asked-in) stood.place in
          let low = asked-low in
          omega (arith, le, low)

      z-after : Within s stood.before
      z-after = since setting world scene.fits scene.calls long c stays s scene.s_in scene.one.net scene.calm stood.line stood.before z-in
          (let recent = z-recent in omega (arith, recent, late-x))

      post_is : (r : Role) → asks.post.did.deed ≡ Acts (Become r) → ⊥
      post_is r e = no (sym asks.deed ∙ e) where
        no : Acts (Post (Peer (peer_of N)) (Message v.message)) ≡ Acts (Become r) → ⊥
        no e = cc

      post_boots : asks.post.did.deed ≡ Acts Boot → ⊥
      post_boots e = no (sym asks.deed ∙ e) where
        no : Acts (Post (Peer (peer_of N)) (Message v.message)) ≡ Acts Boot → ⊥
        no e = cc

      post-in : Within (asks.post ∷ asks.before) g
      post-in = Within_through (asks.post ∷ asks.before) H g (Within_through (asks.post ∷ asks.before) where_is.older H asks.earlier
          (Within_tail L where_is.older H where_is.place)) h-in

      left : Left x g
      left = record {
        node = P;
        there = asks.stays_is;
        other = apart;
        time = stood.line.did.step.at;
        recent = z-recent;
        earlier = let soon = z-soon in let early = asked-soon in let is = time_is in omega (arith, soon, early, is);
        place = stood.before;
        upto = upto_line stood.line stood.before z-in z-after;
        before = Within_through stood.before asks.before g (Within_tail stood.line stood.before asks.before stood.place)
            (Within_tail asks.post asks.before g post-in);
        strayed = stood.strayed;
        left = λ k.
            let here = strayed_since setting world scene.fits scene.calls long c stays s scene.s_in scene.one.net scene.calm t scene.lead P asks.post
            asks.before
            g post-in upto.within low-g (let recent = asked-recent in omega (arith, recent, late-x)) k in
            let kept = role_kept P asks.post asks.before post_boots (λ node port r e. post_is r e) in
            follower_stands here.master (sym here.follows ∙ kept ∙ stands);
      }

    pub one_left : Left x g
    one_left = elim waits [
      | inl k ↦ absurd (not_masters k)
      | inr (inl v) ↦ left v
      | inr (inr e) ↦ absurd (not_late e)
    ]
