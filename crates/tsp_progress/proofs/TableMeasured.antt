-- Who is in its master's table is measured by each round.
use Rattle.std.proofs.Common.{sym, ap, subst, arith, true≢false, inl, inr, ◌∙◌, ◌≡◌, ◌≢◌, ◌≤◌, ◌||◌, ◌&&◌, ℕ, ◌+◌, ◌-◌, ◌==◌, Bool, true, false}
use Rattle.std.proofs.Common.{List, [], ◌∷◌, if◌then◌else◌, eqb-true, eq-eqb, refl}
use Rattle.tsp_rules.specs.Values.{Act, Arm, Become, Boot, Leave, Post, Request, Round, Probe, CloseAlarm, Close, Stamp, Peer, PeerId}
use Rattle.tsp_rules.specs.Values.{CLOSE, PROBE, ROUND, SLACK}
use Rattle.tsp_rules.specs.{GateRows.waits, RoundRows.round_begins}
use Rattle.tsp_base.specs.Words.{Acts, Deed, Did, Elsewhere, HeaderValue, Here, Line, Past, Seen, Within, dids, first_port, in_table}
use Rattle.tsp_base.specs.Words.{is_among, is_measured, is_shared, is_starting, joined, line_of, of, peer_of, placed, seen_as, started}
use Rattle.tsp_base.specs.Words.{time_of, view}
use Rattle.tsp_base.specs.PortFacts.{in_table_after}
use Rattle.tsp_base.proofs.PlaceLemmas.{Within_all, Within_tail, Within_through}
use Rattle.tsp_promises.specs.{DeedFits.DeedFits, Fits.Fits, Fits.LineFits, Fits.node_of, RoundFits.CloseFits, RoundFits.StartFits, Setting.Setting}
use Rattle.tsp_promises.specs.{Setting.setup_of}
use Rattle.tsp_promises.proofs.{shared.HistoryPlaces.line_on, shared.HistoryPlaces.of_other, shared.HistoryPlaces.of_own, shared.Clocks.near}
use Rattle.tsp_promises.proofs.promised.OwnFitsProof.{deed_fits, fits_in, tick_in}
use Rattle.tsp_run.specs.Clocked.{Clocks, SetByClocks}
use Rattle.tsp_progress.specs.{AlarmsFit.Manner, ByTable.ByTable, ByTable.before_line, ByTable.node_in, ByTable.port_before, Delivered.Delivered}
use Rattle.tsp_progress.specs.{FollowOn.Calm, FollowOn.FollowUntil, FollowOn.OneNetwork, InTable.InTable, LateClose.LateClose}
use Rattle.tsp_progress.specs.{Wakes.AllWake, Wakes.Woken, Watched.Attended, Watched.Told}
use Rattle.tsp_progress.proofs.{AsksTable.BegunWith, AsksTable.Rung, AsksTable.begins, AsksTable.posts_keep, AsksTable.round_asks, FollowHeard.RoundRang}
use Rattle.tsp_progress.proofs.{FollowHeard.ringing}
use Rattle.tsp_progress.proofs.{FollowHeard.single_waits, PortSetups.PortIs, PortSetups.differ, PortSetups.member_port, TableRows.within_joined}
use Rattle.tsp_progress.proofs.{LateCloses.port, TimePlaces.before_time}
use Rattle.tsp_progress.proofs.WorldPlaces.{WorldPlace, act_place, in_order, own_place, world_place}

-- while no other round begins, whoever was asked when this one began is measured, as long as it is in the table; another one begins ROUND later
data StillMeasured (p : PeerId) (y : Did) (idle : List Seen) (seen : List Seen) : Type 0 where
  Same : started seen ≡ Here y ∷ idle → is_measured p seen ≡ true → StillMeasured p y idle seen
  Next : (z : Did) (i : List Seen) → started seen ≡ Here z ∷ i → y.tick + ROUND ≤ z.tick → StillMeasured p y idle seen

held_deed : (p : PeerId) (y : Did) (idle : List Seen) (d : Did) (before : List Seen) (deed : Deed) → d.deed ≡ deed → deed ≢ Acts Boot →
    ((at : ℕ) → deed ≡ Acts (Arm CloseAlarm at) → StartFits d before) → in_table_after p deed (in_table p before) ≡ true →
    StillMeasured p y idle before → StillMeasured p y idle (Here d ∷ before)
held_deed p y idle d before (Acts Boot) is unbooted fits there h = absurd (unbooted refl)
held_deed p y idle d before (Acts (Become r)) is unbooted fits there h = absurd (true≢false (sym there))
held_deed p y idle d before (Acts (Arm CloseAlarm at)) is unbooted fits there (Same s m) =
    Next d before (rw is refl) ((fits at refl).spaced y idle s)
held_deed p y idle d before (Acts (Arm CloseAlarm at)) is unbooted fits there (Next z i s far) =
    let far2 = (fits at refl).spaced z i s in Next d before (rw is refl) (omega (arith, far, far2))
held_deed p y idle d before (Acts (Leave q)) is unbooted fits there (Same s m) = by_peer (q.0 == p.0) refl there where
  by_peer : (b : Bool) → (q.0 == p.0) ≡ b → (if b then false else in_table p before) ≡ true → StillMeasured p y idle (Here d ∷ before)
  by_peer true e t = absurd (true≢false (sym t))
  by_peer false e t = Same (rw is s) (rw (is, e) m)
held_deed p y idle d before (Acts (Post (Peer q) (Stamp (Request word counter)))) is unbooted fits there (Same s m) =
    Same (rw is s) (rw is (by_case ((q.0 == p.0) && is_starting before))) where
      by_case : (b : Bool) → (if b then true else is_measured p before) ≡ true
      by_case true = refl
      by_case false = m
held_deed p y idle d before _ is unbooted fits there (Same s m) = Same (rw is s) (rw is m)
held_deed p y idle d before _ is unbooted fits there (Next z i s far) = Next z i (rw is s) far

module _ {clocks : Clocks} {header : HeaderValue} {setting : Setting} (set : SetByClocks clocks header setting) (world : List Line)
    (table : ByTable header world) (fits : Fits setting world) (m : ℕ → Manner) (woken : Woken m world) (wakes : AllWake m world) (late long t c : ℕ)
    (stays : ℕ → Bool) (s : List Line) (attended : Attended late world) (slack : late ≤ SLACK) (told : Told late setting t c world)
    (one : OneNetwork header setting stays c) (delivered : Delivered setting long t stays s world) (s-in : Within s world)
    (calm : Calm long stays s world) (follow : FollowUntil stays c t s world) (members : InTable stays c t s world)
    (first : (l : Line) (older : List Line) → Within (l ∷ older) world → node_of l ≡ c → is_shared l.did.deed ≡ false → l.port ≡ first_port)
    (n : ℕ) (there : stays n ≡ true) (other : (n == c) ≡ false) (C : Line) (cp : List Line) (r : LateClose long t c s C cp world) where
  abbrev P : PeerId
  P = peer_of n

  -- the round began by its alarm
  abbrev Time : ℕ
  Time = C.did.step.at - 1

  sofar : FollowUntil stays c Time s world
  sofar h w v le = follow h w v (let early = r.early in omega (arith, le, early))

  rang : RoundRang setting late c s world Time
  rang = ringing set world table fits m woken wakes late long t c stays s attended slack told one delivered s-in Time n there other
      (let early = r.early in omega (arith, early)) (let after = r.late in omega (arith, after))
      (λ h w v le. (sofar h w v le).leads)

  abbrev L : Line
  L = line_on first_port rang.ring

  cp-in : Within cp world
  cp-in = Within_tail C cp world r.place

  ring-before : Within (L ∷ rang.older) cp
  ring-before = before_time setting world fits L rang.older C cp rang.place r.place (let up = rang.upto in let after = r.late in omega (arith, up, after))

  own-ring : Within (L ∷ of c rang.older) (of c world)
  own-ring = own_place c L rang.older world rang.node rang.place

  abbrev There : Past
  There = port_before (node_in header c) L (of c rang.older)

  net-is : setting.net n first_port ≡ setting.net c first_port
  net-is = one.net n there

  member : is_among P (setting.members (setting.net c first_port)) ≡ true
  member = ap (λ k. is_among P (setting.members k)) (sym net-is) ∙ setting.own n first_port

  port_is : PortIs header setting c first_port
  port_is = member_port set c first_port P member (differ n c other)

  listed : in_table P (view first_port (of c rang.older)) ≡ true
  listed = members rang.older (Within_tail L rang.older world rang.place) rang.since
      (let order = (fits_in setting L rang.older world fits rang.place).order in let up = rang.upto in let early = r.early in omega (arith, order, up, early))
      n there other

  abbrev X : ℕ
  X = rang.ring.tick

  alone : waits first_port X (before_line (node_in header c) L (of c rang.older)) ≡ false
  alone = single_waits (node_in header c).ports one.single X (before_line (node_in header c) L (of c rang.older)) refl

  abbrev Grown : Past
  Grown = Rung (node_in header c) (of c world) (table c) L (of c rang.older) own-ring

  begun : BegunWith P X (round_begins X Grown)
  begun = round_asks X Grown P (ap (is_among P) port_is.peers ∙ member) listed

  abbrev Base : List Line
  Base = line_of rang.ring.step X first_port (Acts (Arm CloseAlarm (X + CLOSE))) ∷ line_of rang.ring.step X first_port (Acts (Arm Probe (X + PROBE))) ∷
      line_of rang.ring.step X first_port (Acts (Arm Round (X + ROUND))) ∷ L ∷ of c rang.older

  abbrev Y : Did
  Y = (line_of rang.ring.step X first_port (Acts (Arm CloseAlarm (X + CLOSE)))).did

  abbrev Idle : List Seen
  Idle = view first_port (line_of rang.ring.step X first_port (Acts (Arm Probe (X + PROBE))) ∷
      line_of rang.ring.step X first_port (Acts (Arm Round (X + ROUND))) ∷ L ∷ of c rang.older)

  -- the request
  abbrev Asking : Act
  Asking = Post (Peer P) (Stamp (Request begun.word begun.counter))

  abbrev R : Line
  R = line_of rang.ring.step X first_port (Acts Asking)

  abbrev Own : List Line
  Own = joined rang.ring.step X (placed first_port begun.front) Base

  request : WorldPlace c R Own world
  request = world_place c R Own world (act_place rang.ring.step X first_port Asking (round_begins X Grown)
      (L ∷ of c rang.older) (of c world) (record {
        front = Arm Round (X + ROUND) ∷ Arm Probe (X + PROBE) ∷ Arm CloseAlarm (X + CLOSE) ∷ begun.front;
        back = begun.back;
        is = begun.is;
      }) (begins (node_in header c) (of c world) (table c) L (of c rang.older) own-ring rang.rings alone))

  -- it is measured then
  held_first : StillMeasured P Y Idle (view first_port (of c (R ∷ request.older)))
  held_first =
      let keep = posts_keep rang.ring.step X begun.front Base begun.posts in
      let own : view first_port (of c (R ∷ request.older)) ≡ Here R.did ∷ view first_port Own =
      ap (view first_port) (of_own c R request.older request.node) ∙ ap (λ ls. Here R.did ∷ view first_port ls) request.own_is in
      let same : (n == n) ≡ true = eq-eqb n n refl in
      let starts : is_starting (view first_port Own) ≡ true = keep.1 in
      subst (λ z. StillMeasured P Y Idle z) (sym own) (Same keep.0 (rw (same, starts) refl))

  -- and so it is up to the Close, unless another round begins
  held : (h : List Line) → Within (R ∷ request.older) h → Within h world → time_of (dids h) ≤ t → StillMeasured P Y Idle (view first_port (of c h))
  held [] w v le = let bad : ⊥ = cc in absurd bad
  held (l ∷ h) (inl e) v le = subst (λ z. StillMeasured P Y Idle (view first_port (of c z))) e held_first
  held (l ∷ h) (inr w) v le = by_node (node_of l == c) refl (held h w (Within_tail l h world v) (omega (arith, line.order, le))) where
    line : LineFits setting l h
    line = fits_in setting l h world fits v

    since-s : Within s h
    since-s = Within_through s (R ∷ request.older) h (inr (Within_through s (L ∷ rang.older) request.older (inr rang.since)
        (in_order c L rang.older R request.older world rang.place request.place (subst (λ ls. Within (L ∷ of c rang.older) ls) (sym request.own_is)
        (within_joined rang.ring.step X (placed first_port begun.front) Base (L ∷ of c rang.older) (inr (inr (inr (Within_all (L ∷ of c rang.older)))))))))) w

    by_node : (b : Bool) → (node_of l == c) ≡ b → StillMeasured P Y Idle (view first_port (of c h)) → StillMeasured P Y Idle (view first_port (of c (l ∷ h)))
    by_node false e k = subst (λ ls. StillMeasured P Y Idle (view first_port ls)) (sym (of_other c l h e)) k
    by_node true e k = subst (λ ls. StillMeasured P Y Idle (view first_port ls)) (sym own) (by_flag ((l.port.0 == 0) || is_shared l.did.deed) refl) where
      node : node_of l ≡ c
      node = eqb-true (node_of l) c e

      own : of c (l ∷ h) ≡ l ∷ of c h
      own = of_own c l h node

      by_flag : (b : Bool) → ((l.port.0 == 0) || is_shared l.did.deed) ≡ b → StillMeasured P Y Idle (seen_as b l.did ∷ view first_port (of c h))
      by_flag true f = held_deed P Y Idle l.did (view first_port (of c h)) l.did.deed refl (calm.unbooted l h v since-s)
          (λ at is. subst (λ d. DeedFits (setup_of setting (node_of l) first_port) d l.did (view first_port (of c h))) is
          (subst (λ k. DeedFits (setup_of setting (node_of l) first_port) l.did.deed l.did (view first_port (of k h))) node (line.deeds first_port f)))
          (let now = members (l ∷ h) v (inr since-s) le n there other in
          subst (λ b. in_table P (seen_as b l.did ∷ view first_port (of c h)) ≡ true) f (subst (λ ls. in_table P (view first_port ls) ≡ true) own now)) k
      by_flag false f = elsewhere k where
        elsewhere : StillMeasured P Y Idle (view first_port (of c h)) → StillMeasured P Y Idle (Elsewhere l.did ∷ view first_port (of c h))
        elsewhere (Same s m) = Same s m
        elsewhere (Next z i s far) = Next z i s far

  request-before : Within (R ∷ request.older) cp
  request-before = before_time setting world fits R request.older C cp request.place r.place
      (let up = rang.upto in let after = r.late in omega (arith, up, after))

  close-fits : CloseFits C.did (view first_port (of c cp))
  close-fits = subst (λ q. CloseFits C.did (view q (of c cp))) (port setting world fits long t c stays s s-in calm first C cp r)
      (subst (λ k. CloseFits C.did (view C.port (of k cp))) r.node
      (deed_fits setting C cp (Acts (Close r.count r.lo r.size r.mean)) r.deed (fits_in setting C cp world fits r.place)))

  pub measured : is_measured P (view first_port (of c cp)) ≡ true
  measured = by_held (held cp request-before cp-in (let order = (fits_in setting C cp world fits r.place).order in let early = r.early in
      omega (arith, order, early))) where
        by_held : StillMeasured P Y Idle (view first_port (of c cp)) → is_measured P (view first_port (of c cp)) ≡ true
        by_held (Same s m) = m
        by_held (Next z i s far) =
            let is : Here z ∷ i ≡ Here close-fits.start ∷ close-fits.idle = sym s ∙ close-fits.start_is in
            let same : z ≡ close-fits.start = cc in
            let tick : z.tick ≡ close-fits.start.tick = ap (λ (d : Did). d.tick) same in
            let over = close-fits.over in
            let recent = rang.recent in
            let close-tick = tick_in setting c C cp world fits r.node r.place in
            let after = r.late in
            let most = (near setting c (C.did.step.at - 1) C.did.step.at (omega arith)).most in
            absurd (omega (arith, tick, over, far, recent, close-tick, most, slack, after))
