-- A candidate that another one sends away doesn't win: a QUIT that comes before it stood keeps it from standing, and one that comes later ends its candidature.
use Rattle.std.proofs.Common.{sym, ap, subst, subst₂, arith, inl, inr, true≢false, ◌∙◌, ◌≡◌, ◌≢◌, ◌≤◌, ◌<◌, ℕ, ◌+◌, ◌-◌, ◌*◌, ◌==◌}
use Rattle.std.proofs.Common.{Bool, true, false, List, [], ◌∷◌, Option, None, Some, eq-eqb, refl}
use Rattle.tsp_rules.specs.Values.{Act, Ack, Become, Candidate, Elect, Follow, Loose, Master, Message, Post, Quit, QuitKind, Ring, Starting, PeerId, Peer, Port}
use Rattle.tsp_rules.specs.Values.{Role, SlaveUp, Took, Good, ELECT_MIN, HOLD, SLACK, WINDOW}
use Rattle.tsp_rules.specs.{Guards.is_follow, Guards.is_starting_role, Guards.ticket_at}
use Rattle.tsp_base.specs.Words.{Acts, Did, HeaderValue, Here, Line, MessageValue, Past, Seen, Within, armed, boot_tick, dids, is_among, joined}
use Rattle.tsp_base.specs.Words.{line_of, of, peer_of, placed, plain, role, view}
use Rattle.tsp_base.proofs.{PlaceLemmas.Within_all, PlaceLemmas.Within_comparable, PlaceLemmas.Within_strict}
use Rattle.tsp_base.proofs.{PlaceLemmas.Within_tail, PlaceLemmas.Within_through, ViewPlaces.Within_view, Views.plain_view}
use Rattle.tsp_promises.specs.{Fits.Fits, Fits.Sees, Fits.node_of, HoldFits.LeadFits, Setting.Setting, Setting.setup_of}
use Rattle.tsp_promises.proofs.{shared.Clocks.tick_mono, shared.HistoryPlaces.own_in, promised.OwnFitsProof.deed_fits, promised.OwnFitsProof.fits_at}
use Rattle.tsp_promises.proofs.{promised.OwnFitsProof.fits_in}
use Rattle.tsp_promises.proofs.{promised.OwnFitsProof.own_fits, promised.OwnFitsProof.place_time, promised.OwnFitsProof.seen_in, promised.OwnFitsProof.tick_in}
use Rattle.tsp_promises.proofs.{promised.SinceProof.quit_late}
use Rattle.tsp_promises.proofs.{promised.SinceProof.since}
use Rattle.tsp_run.specs.{Clocked.Clocks, Clocked.SetByClocks}
use Rattle.tsp_progress.specs.{AlarmsFit.AlarmFits, AlarmsFit.AlarmsFit, AlarmsFit.RingFits, AlarmsFit.Manner, ByTable.ByTable, ByTable.node_in}
use Rattle.tsp_progress.specs.{Delivered.Arrives, Delivered.Delivered, Delivered.PostsTo}
use Rattle.tsp_progress.specs.Heeds.{DoesNext, Hears, arms_for_delay, follow_acts, has_no_master, is_master_role, posts_bare}
use Rattle.tsp_progress.specs.{OneAtATime.TwoStand, OneAtATime.WinsIt, SentAway.past_there, Wakes.AllWake}
use Rattle.tsp_progress.proofs.{AnswersProof.hears_there, HeedsProof.all_heed, OpenKept.tick_low, QuitAnswered.armed_before, SearchKept.alarms_within}
use Rattle.tsp_progress.proofs.{SearchKept.rising_within, StandActs.RangElect, StandActs.Sound, StandAlarms.not_starting, StandPlaces.kept_at}
use Rattle.tsp_progress.proofs.{StandsProof.Rising, StandsProof.rising, TimePlaces.before_time, WinsNot.last_change, WinsNot.stood_back, WinsNot.stood_role}
use Rattle.tsp_progress.proofs.TableRows.{within_joined}
use Rattle.tsp_progress.proofs.WorldPlaces.{Among, WorldPlace, act_place, world_place}

module _ {clocks : Clocks} {header : HeaderValue} {setting : Setting} (set : SetByClocks clocks header setting) (world : List Line)
    (table : ByTable header world) (fits : Fits setting world) (sound : (n : ℕ) (q : Port) → Sound (view q (of n world))) (m : ℕ → Manner)
    (wakes : AllWake m world) (long t : ℕ) (stays : ℕ → Bool) (s : List Line) (delivered : Delivered setting long t stays s world) (c : Line)
    (older : List Line) (d : Line) (newer : List Line) (two : TwoStand setting long t stays s c older d newer world) (w : Line) (before : List Line)
    (win : WinsIt d newer w before world) (less : (at : ℕ) → at ≤ d.did.step.at + 2 * long → at < w.did.step.at)
    (rang : RangElect (view d.port (of (node_of d) newer))) (other : (node_of d == node_of c) ≡ false)
    (member : is_among (peer_of (node_of d)) (setting.members (setting.net (node_of c) c.port)) ≡ true) (F : Line) (FO : List Line)
    (f-place : Within (F ∷ FO) world) (after : Within (c ∷ older) FO) (f-node : node_of F ≡ node_of c) (f-port : F.port ≡ c.port) (q : MessageValue)
    (f-deed : F.did.deed ≡ Acts (Post (Peer (peer_of (node_of d))) (Message q))) (kind : q.kind ≡ QuitKind)
    (f-soon : F.did.step.at ≤ d.did.step.at + long) where
  abbrev A : ℕ
  A = node_of c

  abbrev B : ℕ
  B = node_of d

  abbrev Q : Port
  Q = d.port

  abbrev Idle : List Seen
  Idle = view Q (of B newer)

  abbrev Wins : List Seen
  Wins = view Q (of B before)

  abbrev Whole : List Seen
  Whole = view Q (of B world)

  before_in : Within before world
  before_in = Within_tail w before world win.place

  before_fits : Fits setting before
  before_fits = fits_at setting before world fits before_in

  -- what it owes when it wins
  lead : LeadFits (setup_of setting B Q) w.did Wins
  lead = subst₂ (λ n r. LeadFits (setup_of setting n r) w.did (view r (of n before))) win.node win.port
      (deed_fits setting w before (Acts (Become Master)) win.wins (fits_in setting w before world fits win.place))

  soon : w.did.tick ≤ d.did.tick + (WINDOW + SLACK)
  soon =
      let same : Here lead.start ∷ lead.idle ≡ Here d.did ∷ Idle = sym lead.start_is ∙ win.still in
      let start : lead.start ≡ d.did = cc in
      let tick = ap (λ (k : Did). k.tick) start in
      let by = lead.soon in
      omega (arith, tick, by)

  in_turn : c.did.step.at ≤ d.did.step.at
  in_turn = place_time setting (c ∷ older) (d ∷ newer) (fits_at setting (d ∷ newer) world fits two.second.place) (inr two.order)

  d_when : d.did.tick ≡ setting.tick B d.did.step.at
  d_when = tick_in setting B d newer world fits refl two.second.place

  -- since the first one stood no more than HOLD ticks went by until the second did
  recent : d.did.tick ≤ setting.tick B c.did.step.at + (HOLD + 60001)
  recent =
      let gap = (d.did.step.at + 2 * long) - c.did.step.at in
      let order = in_turn in
      let sum : d.did.step.at + 2 * long ≡ c.did.step.at + gap = omega (arith, order) in
      let near = two.near gap sum in
      let mono = tick_mono setting B d.did.step.at (c.did.step.at + HOLD) (omega (arith, sum, near)) in
      let fast = (setting.ticks B).fast c.did.step.at HOLD in
      let small = setting.small in
      let when = d_when in
      omega (arith, mono, fast, small, when)

  -- nothing that keeps it from standing for ELECT_MIN ticks came since
  too_young : {Any : Type 0} (x : ℕ) → setting.tick B c.did.step.at ≤ x → x + ELECT_MIN ≤ d.did.tick + (WINDOW + SLACK) → Any
  too_young x low high = let near = recent in absurd (omega (arith, low, high, near))

  -- the QUIT is taken
  posts : PostsTo setting F FO world (peer_of B) (Message q)
  posts = record {
    place = f-place;
    deed = f-deed;
    member = subst₂ (λ n r. is_among (peer_of B) (setting.members (setting.net n r)) ≡ true) (sym f-node) (sym f-port) member;
    other = ap (λ n. B == n) f-node ∙ other;
  }

  g : Arrives setting long F FO world (peer_of B) (Message q)
  g = delivered F FO (peer_of B) (Message q) posts (Within_through s (c ∷ older) FO (inr two.since) after) two.second_stays
      (let early = two.early in let at = f-soon in omega (arith, early, at))

  abbrev Was : List Line
  Was = g.before

  g_net : setting.net B g.line.port ≡ setting.net B Q
  g_net = subst (λ n. setting.net n g.line.port ≡ setting.net B Q) g.node
      (g.net ∙ (subst₂ (λ n r. setting.net n r ≡ setting.net B Q) (sym f-node) (sym f-port) two.net))

  g_port : g.line.port ≡ Q
  g_port = setting.apart B g.line.port Q g_net

  g_less : g.line.did.step.at < w.did.step.at
  g_less = less g.line.did.step.at (let at = g.soon in let first = f-soon in omega (arith, at, first))

  g_before : Within (g.line ∷ Was) before
  g_before = before_time setting world fits g.line Was w before g.place win.place g_less

  -- after the first one stood
  g_late : setting.tick B c.did.step.at ≤ g.line.did.tick
  g_late =
      let one = place_time setting (c ∷ older) (F ∷ FO) (fits_at setting (F ∷ FO) world fits f-place) (inr after) in
      let two_ = place_time setting (F ∷ FO) (g.line ∷ Was) (fits_at setting (g.line ∷ Was) world fits g.place) (inr g.later) in
      let mono = tick_mono setting B c.did.step.at g.line.did.step.at (omega (arith, one, two_)) in
      let when = tick_in setting B g.line Was world fits g.node g.place in
      omega (arith, mono, when)

  abbrev Past_there : Past
  Past_there = past_there header B g.line Was

  seen_there : Past_there.seen ≡ view Q (of B Was)
  seen_there = ap (λ r. view r (of B Was)) g_port

  abbrev Sender : PeerId
  Sender = peer_of (node_of F)

  hear : role Past_there.seen ≢ Starting → Hears (node_in header B) (of B world) g.line (of B Was) Sender q
  hear up = hears_there set world table long t stays s delivered F FO (peer_of B) q posts g (not_starting (role Past_there.seen) up)

  -- an act that answers it
  module _ (act : Act) (acts : List Act) (among : Among act acts) (next : DoesNext acts g.line (of B Was) (of B world)) where
    abbrev Own : List Line
    Own = joined g.line.did.step g.line.did.tick (placed g.line.port among.front) (g.line ∷ of B Was)

    abbrev Then : Line
    Then = line_of g.line.did.step g.line.did.tick g.line.port (Acts act)

    then-place : WorldPlace B Then Own world
    then-place = world_place B Then Own world (act_place g.line.did.step g.line.did.tick g.line.port act acts (g.line ∷ of B Was) (of B world) among next)

    then-before : Within (Then ∷ then-place.older) before
    then-before = before_time setting world fits Then then-place.older w before then-place.place win.place g_less

    then-seen : Within (Here Then.did ∷ view Q (of B then-place.older)) Wins
    then-seen = subst (λ r. Within (Here Then.did ∷ view r (of B then-place.older)) (view r (of B before))) g_port
        (seen_in B Then then-place.older before then-place.node then-before)

    g-then : Within (view Q (of B Was)) (view Q (of B then-place.older))
    g-then = subst (λ ls. Within (view Q (of B Was)) (view Q ls)) (sym then-place.own_is)
        (Within_view Q (of B Was) Own (within_joined g.line.did.step g.line.did.tick (placed g.line.port among.front) (g.line ∷ of B Was) (of B Was)
        (inr (Within_all (of B Was)))))

  -- where it comes after it stood: it follows
  module _ (stood-first : Within (d ∷ newer) Was) where
    d-there : Within (Here d.did ∷ Idle) (view Q (of B Was))
    d-there = seen_in B d newer Was refl stood-first

    was-wins : Within (view Q (of B Was)) Wins
    was-wins = Within_view Q (of B Was) (of B before) (Within_tail g.line (of B Was) (of B before) (own_in B g.line Was before g.node g_before))

    role-there : role Past_there.seen ≡ Candidate
    role-there = ap role seen_there ∙ (stood_role d.did Idle (view Q (of B Was)) (stood_back d.did Idle (view Q (of B Was)) Wins was-wins d-there win.still) ∙
        (let is = two.second.stands in rw is refl))

    follows : ⊥
    follows =
        let up : role Past_there.seen ≢ Starting = (λ e. let both = sym role-there ∙ e in let bad : ⊥ = cc in bad) in
        let alone : has_no_master (role Past_there.seen) ≡ true = ap has_no_master role-there in
        let ack = posts_bare Ack q.number Past_there Sender in
        let next = (all_heed header world table B).follows.quit g.line (of B Was) Sender q (hear up) kind alone refl in
        let among : Among (Become (Follow Sender)) (Quit Sender ∷ ack ∷ follow_acts Sender g.line.did.tick Past_there) = record {
          front = Quit Sender ∷ ack ∷ [];
          back = arms_for_delay g.line.did.tick Past_there ∷ posts_bare SlaveUp (ticket_at g.line.did.tick Past_there) Past_there Sender ∷ [];
          is = refl;
        } in
        let acts = Quit Sender ∷ ack ∷ follow_acts Sender g.line.did.tick Past_there in
        let seen = then-seen (Become (Follow Sender)) acts among next in
        let line = Then (Become (Follow Sender)) acts among next in
        let past = view Q (of B (then-place (Become (Follow Sender)) acts among next).older) in
        let first = Within_through (Here d.did ∷ Idle) (view Q (of B Was)) past d-there (g-then (Become (Follow Sender)) acts among next) in
        Within_strict (Here line.did) past (Here d.did ∷ Idle)
        (last_change d.did Idle Wins win.still line.did past (Follow Sender) refl seen) first

  -- where it comes before
  module _ (came-first : Within (g.line ∷ Was) newer) where
    -- the QUIT is noted
    module _ (rest : List Act) (next : DoesNext (Quit Sender ∷ rest) g.line (of B Was) (of B world)) where
      abbrev Noting : Among (Quit Sender) (Quit Sender ∷ rest)
      Noting = record { front = []; back = rest; is = refl }

      abbrev Note : Line
      Note = Then (Quit Sender) (Quit Sender ∷ rest) Noting next

      abbrev Older : List Line
      Older = (then-place (Quit Sender) (Quit Sender ∷ rest) Noting next).older

      note-own : Within (Note ∷ of B Older) (of B before)
      note-own = own_in B Note Older before (then-place (Quit Sender) (Quit Sender ∷ rest) Noting next).node
          (then-before (Quit Sender) (Quit Sender ∷ rest) Noting next)

      noted : ⊥
      noted =
          let own = own_fits setting B before before_fits in
          let i = since setting (Note ∷ of B Older) (of B before) own note-own in
          let sees : Sees Q Note = (let same : (g.line.port.0 == Q.0) ≡ true = eq-eqb g.line.port.0 Q.0 (ap (λ r. r.0) g_port) in rw same refl) in
          let late = g_late in
          let by = soon in
          elim i.life [
            | inl one ↦
                let n = quit_late setting Q Sender Note (of B Older) (of B before) own refl sees note-own one.lives in
                let far = lead.quiet n.at n.is in
                let low = n.by in
                too_young n.at (omega (arith, low, late)) (omega (arith, far, by))
            | inr new ↦
                let booted = new.boot in
                let rested = lead.rested in
                let same : boot_tick (plain Wins) ≡ boot_tick (dids (of B before)) = ap boot_tick (plain_view Q (of B before)) in
                too_young (boot_tick (dids (of B before))) (omega (arith, booted, late)) (omega (arith, rested, same, by))
          ]

    -- nor was it Starting then
    starting : role Past_there.seen ≡ Starting → ⊥
    starting is =
        let v = view Q (of B Was) in
        let g_in : Within (Here g.line.did ∷ v) Idle = subst (λ r. Within (Here g.line.did ∷ view r (of B Was)) (view r (of B newer))) g_port
        (seen_in B g.line Was newer g.node came-first) in
        let newer_in : Within newer world = Within_tail d newer world two.second.place in
        let idle_in : Within Idle Whole = Within_tail (Here d.did) Idle Whole (seen_in B d newer world refl two.second.place) in
        let ups : Rising Idle = rising setting Q (of B newer) (own_fits setting B newer (fits_at setting newer world fits newer_in)) in
        let alarms : AlarmsFit (m B) Idle = alarms_within (m B) Idle Whole idle_in (wakes B Q).acts in
        let alarms' : AlarmsFit (m B) (Here rang.ring ∷ rang.rest) = subst (λ z. AlarmsFit (m B) z) rang.is alarms in
        let ups' : Rising (Here rang.ring ∷ rang.rest) = subst (λ z. Rising z) rang.is ups in
        let ring : RingFits Elect rang.ring rang.rest = subst (λ k. AlarmFits k rang.ring rang.rest) rang.deed alarms'.0 in
        let place : Within (Here g.line.did ∷ v) rang.rest = inside (subst (λ z. Within (Here g.line.did ∷ v) z) rang.is g_in) in
        let d_after = ring-tick in
        let due = ring.due in
        let late = g_late in
        elim (armed_before (m B) (Here g.line.did ∷ v) rang.rest place alarms'.1.1 ups'.1 ring.at ring.armed_is) [
          | inl there ↦
              let rest = (kept_at g.line.did v Whole (sound B Q).kept (Within_through (Here g.line.did ∷ v) Idle Whole g_in idle_in)).rest in
              let none = rest.elect (ap role (sym seen_there) ∙ is) in
              let took = g.took in
              let same : (armed (Here g.line.did ∷ v)).elect ≡ (armed v).elect = rw took refl in
              none-some (same ∙ none) there
          | inr gap ↦ too_young g.line.did.tick late (omega (arith, gap, due, d_after))
        ]
      where
        none-some : {o : Option ℕ} {at : ℕ} → o ≡ None → o ≡ Some at → ⊥
        none-some e f = let both = sym e ∙ f in let bad : ⊥ = cc in bad

        ring-tick : rang.ring.tick ≤ d.did.tick
        ring-tick =
            let world_seen = seen_in B d newer world refl two.second.place in
            let ups = rising setting Q (of B world) (own_fits setting B world fits) in
            let here = rising_within (Here d.did ∷ Idle) Whole world_seen ups in
            let step = here.0 in
            let low = tick_low rang.ring rang.rest Idle (subst (λ z. Within (Here rang.ring ∷ rang.rest) z) (sym rang.is)
            (Within_all (Here rang.ring ∷ rang.rest))) here.1 in
            omega (arith, step, low)

        inside : Within (Here g.line.did ∷ view Q (of B Was)) (Here rang.ring ∷ rang.rest) → Within (Here g.line.did ∷ view Q (of B Was)) rang.rest
        inside (inr v) = v
        inside (inl e) =
            let did : g.line.did ≡ rang.ring = cc in
            let both : Acts (Took (Peer Sender) (Good (Message q))) ≡ Acts (Ring Elect) = sym g.took ∙ (ap (λ (k : Did). k.deed) did ∙ rang.deed) in
            let bad : ⊥ = cc in
            absurd bad

    came : ⊥
    came = by_role (role Past_there.seen) refl where
      up : (r : Role) → role Past_there.seen ≡ r → is_starting_role r ≡ false → role Past_there.seen ≢ Starting
      up r is awake e = true≢false (sym (ap is_starting_role (sym is ∙ e)) ∙ awake)

      by_role : (r : Role) → role Past_there.seen ≡ r → ⊥
      by_role Starting is = starting is
      by_role Loose is = noted (posts_bare Ack q.number Past_there Sender ∷ follow_acts Sender g.line.did.tick Past_there)
          ((all_heed header world table B).follows.quit g.line (of B Was) Sender q (hear (up Loose is refl)) kind (ap has_no_master is) refl)
      by_role Candidate is = noted (posts_bare Ack q.number Past_there Sender ∷ follow_acts Sender g.line.did.tick Past_there)
          ((all_heed header world table B).follows.quit g.line (of B Was) Sender q (hear (up Candidate is refl)) kind (ap has_no_master is) refl)
      by_role Master is = noted (posts_bare Ack q.number Past_there Sender ∷ follow_acts Sender g.line.did.tick Past_there)
          ((all_heed header world table B).follows.quits g.line (of B Was) Sender q (hear (up Master is refl)) kind (ap is_master_role is) refl)
      by_role (Follow p) is = noted (posts_bare Ack q.number Past_there Sender ∷ [])
          ((all_heed header world table B).follows.stays g.line (of B Was) Sender q (hear (up (Follow p) is refl)) kind (ap is_follow is) refl)

  pub sent : ⊥
  sent = elim (Within_comparable (g.line ∷ Was) (d ∷ newer) world g.place two.second.place) [
    | inl i ↦ elim i [
      | inl e ↦ same e
      | inr i ↦ came i
    ]
    | inr i ↦ elim i [
      | inl e ↦ same (sym e)
      | inr i ↦ follows i
    ]
  ] where
    same : g.line ∷ Was ≡ d ∷ newer → ⊥
    same e =
        let line : g.line ≡ d = cc in
        let both : Acts (Took (Peer Sender) (Good (Message q))) ≡ Acts (Become Candidate) = sym g.took ∙ (ap (λ (k : Line). k.did.deed) line ∙
        two.second.stands) in
        let bad : ⊥ = cc in
        bad
