-- Of two nodes at most one is left that is master, and never two again.
use Rattle.std.proofs.Common.{sym, ap, subst, arith, true≢false, inl, inr, ◌∙◌, ◌≡◌, ◌≤◌, ◌<◌, ℕ, ◌+◌, ◌*◌, ◌==◌, Bool, true, false}
use Rattle.std.proofs.Common.{List, ◌∷◌, eq-eqb}
use Rattle.std.proofs.lemmas.{Bool.cases_lt, Nat.mul-le}
use Rattle.tsp_rules.specs.Values.{Become, Candidate, Event, Master, Message, Peer, Port, Post, ROUND, SLACK, WINDOW}
use Rattle.tsp_base.specs.Words.{Acts, HeaderValue, Here, Line, Within, dids, is_among, is_shared, of, peer_of, role, role_after, stood, time_of, view}
use Rattle.tsp_base.proofs.PlaceLemmas.{Within_all, Within_comparable, Within_tail, Within_through}
use Rattle.tsp_promises.specs.{Fits.Fits, Fits.node_of, Premises.Honest, Premises.Life, Setting.Setting}
use Rattle.tsp_promises.proofs.shared.HistoryPlaces.{Within_of, line_on}
use Rattle.tsp_promises.proofs.promised.OwnFitsProof.{Located, fits_at, locate, place_time, seen_in, tick_in}
use Rattle.tsp_run.specs.{Clocked.Clocks, Clocked.PossibleBy, Clocked.SetByClocks, Clocked.clocks_of, Clocked.run_by}
use Rattle.tsp_run.proofs.{OwnClocks.possible_own, OwnClocks.runs_by_own_clocks, OwnClocks.set_own, RunFits.clocked_runs_fit}
use Rattle.tsp_progress.specs.{AckedInTime.IsPrompt, AnswersInTime.Asks, Delivered.Delivered, FoundInTime.IsQuick, Heeds.is_candidate_role}
use Rattle.tsp_progress.specs.{NoneBeside.LeadsBeside, NoneBeside.StaysUp, OneAtATime.Unbooted}
use Rattle.tsp_progress.specs.{OneAtATime.WinsIt, OneStops.Spans, OneStops.TwoLead, RefusedLoses.WinsAfter, Watched.Attended}
use Rattle.tsp_progress.specs.OneLeft.{ClockedRunsHaveOneLeft, OneLeft, RunsHaveOneLeft, StaysOn, Unasked}
use Rattle.tsp_progress.proofs.{AskNodes.clocked_runs_ask_rivals, BesideProof.clocked_runs_lead_on, ElectOneProof.clocked_runs_elect_one, LeadsKept.leads_later}
use Rattle.tsp_progress.proofs.{OneStopsProof.one_changes, PortSetups.differ, PortSetups.member_port, ReignProof.Reign}
use Rattle.tsp_progress.proofs.{ReignProof.reign, RunWakes.clocked_runs_wake, StandKeeps.runs_sound, StandPlaces.AsksPeer, StandPlaces.asks_peer}
use Rattle.tsp_progress.proofs.{SearchKept.view_within, TableProof.clocked_runs_by_table, TimePlaces.before_time, WinsLateProof.clocked_runs_win_late}
use Rattle.tsp_progress.proofs.WinsNot.{stood_back, stood_role}

module _ {clocks : Clocks} {header : HeaderValue} {setting : Setting} (set : SetByClocks clocks header setting) (events : List Event)
    (possible : PossibleBy clocks header events) (late long t : ℕ) (attended : Attended late (run_by clocks header events)) (slack : late ≤ SLACK)
    (stays : ℕ → Bool) (s : List Line) (delivered : Delivered setting long t stays s (run_by clocks header events)) (prompt : IsPrompt setting long)
    (unbooted : Unbooted stays s (run_by clocks header events)) (unasked : Unasked s (run_by clocks header events))
    (honest : Honest (run_by clocks header events)) (life : Life (run_by clocks header events)) where
  abbrev World : List Line
  World = run_by clocks header events

  fits : Fits setting World
  fits = (clocked_runs_fit clocks header setting events set possible).0

  quick : IsQuick setting long
  quick = omega (arith, prompt)

  abbrev ReignOf : ℕ → Port → Type 0
  ReignOf n q = Reign setting n q long World

  still_of : (n : ℕ) (q : Port) (E : ReignOf n q) → stood (view E.c.port (of (node_of E.c) E.wb)) ≡ Here E.c.did ∷ view E.c.port (of (node_of E.c) E.cb)
  still_of n q E =
      let there : (v : List Line) → view E.c.port (of (node_of E.c) v) ≡ view q (of n v) = λ v. ap (λ k. view E.c.port (of k v)) E.c_node ∙
      ap (λ z. view z (of n v)) E.c_port in
      ap stood (there E.wb) ∙ (E.still ∙ ap (λ v. Here E.c.did ∷ v) (sym (there E.cb)))

  -- a reign that begins while another one lasts: m wins after n did
  module _ (n m : ℕ) (q r : Port) (E : ReignOf n q) (F : ReignOf m r) (order : Within (E.w ∷ E.wb) F.wb) (l : Line) (older : List Line) (round window : ℕ)
      (place : Within (l ∷ older) World) (since : Within s older) (first : StaysOn header setting late t stays s n q World)
      (second : StaysOn header setting late t stays s m r World) (net : setting.net n q ≡ setting.net m r) (apart : (n == m) ≡ false)
      (ends : time_of (dids World) ≤ t) (rounds : Spans setting (ROUND + late) round) (windows : Spans setting (WINDOW + late) window)
      (told : l.did.step.at + (round + 2 * window + 2 * long + 4 * WINDOW) < t) where
    -- both lead on at a place after both wins
    both-from : (x : Line) (xo : List Line) → Within (x ∷ xo) World → Within s xo → Within (F.w ∷ F.wb) (x ∷ xo) →
        x.did.step.at + (round + 2 * window + 2 * long) < t → ⊥
    both-from x xo at since_x won less =
        let lead-n = leads_later n q (E.w ∷ E.wb) (x ∷ xo) World E.lasts (Within_through (E.w ∷ E.wb) F.wb (x ∷ xo) order
        (Within_tail F.w F.wb (x ∷ xo) won)) at in
        let lead-m = leads_later m r (F.w ∷ F.wb) (x ∷ xo) World F.lasts won at in
        let two : TwoLead header setting late t stays s n m q r x xo World = record {
          place = at;
          since = since_x;
          first = record { alone = first.alone; master = lead-n.master; stays_is = first.stays_is; told = first.told };
          second = record { alone = second.alone; master = lead-m.master; stays_is = second.stays_is; told = second.told };
          net = net;
          apart = apart;
        } in
        elim (one_changes set World (clocked_runs_by_table clocks header events) fits (clocked_runs_wake clocks header events).1
        (clocked_runs_ask_rivals clocks header events) late long t attended slack stays s delivered quick n m q r x xo round window two rounds windows less) [
          | inl c ↦ lead-n.stays c
          | inr c ↦ lead-m.stays c
        ]

    -- so the later win comes more than 20 s after the line l
    f-late : l.did.step.at + 4 * WINDOW < F.w.did.step.at
    f-late = elim (cases_lt (l.did.step.at + 4 * WINDOW) F.w.did.step.at) [
      | inl less ↦ less
      | inr most ↦ absurd (elim (Within_comparable (F.w ∷ F.wb) (l ∷ older) World F.place place) [
        | inl v ↦ both-from l older place since v (omega (arith, told))
        | inr (inl e) ↦ both-from l older place since (subst (λ k. Within (F.w ∷ F.wb) k) (sym e) (Within_all (F.w ∷ F.wb))) (omega (arith, told))
        | inr (inr v) ↦ both-from F.w F.wb F.place (Within_through s (l ∷ older) F.wb (inr since) v) (Within_all (F.w ∷ F.wb)) (omega (arith, told, most))
      ])
    ]

    c-in : Within (F.c ∷ F.cb) World
    c-in = Within_through (F.c ∷ F.cb) F.wb World F.c_place (Within_tail F.w F.wb World F.place)

    c-late : l.did.step.at + 13000000 < F.c.did.step.at
    c-late = let a = f-late in let b = F.soon in omega (arith, a, b)

    c-after : Within (l ∷ older) F.cb
    c-after = before_time setting World fits l older F.c F.cb place c-in (let a = c-late in omega (arith, a))

    s-early : time_of (dids s) ≤ l.did.step.at
    s-early = place_time setting s (l ∷ older) (fits_at setting (l ∷ older) World fits place) (inr since)

    c-seen : Within (Here F.c.did ∷ view r (of m F.cb)) (view r (of m World))
    c-seen = subst (λ z. Within (Here F.c.did ∷ view z (of m F.cb)) (view z (of m World))) F.c_port (seen_in m F.c F.cb World F.c_node c-in)

    w-time : F.w.did.step.at ≤ t
    w-time = let a = place_time setting (F.w ∷ F.wb) World fits F.place in omega (arith, a, ends)

    member : is_among (peer_of n) (setting.members (setting.net m r)) ≡ true
    member = ap (λ k. is_among (peer_of n) (setting.members k)) (sym net) ∙ setting.own n q

    -- it asks n for its vote
    asks-n : AsksPeer World (clocked_runs_by_table clocks header events) fits (λ k z. runs_sound clocks header events k z) m r
        (member_port set m r (peer_of n) member (differ n m apart)) F.c.did (view r (of m F.cb)) c-seen F.stands
        (unasked F.c F.cb c-in (Within_through s (l ∷ older) F.cb (inr since) c-after) F.stands) (peer_of n)
    asks-n = asks_peer World (clocked_runs_by_table clocks header events) fits (λ k z. runs_sound clocks header events k z) m r
        (member_port set m r (peer_of n) member (differ n m apart)) F.c.did (view r (of m F.cb)) c-seen F.stands
        (unasked F.c F.cb c-in (Within_through s (l ∷ older) F.cb (inr since) c-after) F.stands) (peer_of n) member apart

    z-at : Located m r World asks-n.ask asks-n.asked
    z-at = locate m r World asks-n.ask asks-n.asked (ap (λ d. is_shared d) asks-n.deed) asks-n.place

    abbrev Z : Line
    Z = line_on r asks-n.ask

    z-time : Z.did.step.at ≡ F.c.did.step.at
    z-time = ap (λ k. k.at) asks-n.step

    z-before-win : Within (Z ∷ z-at.older) F.wb
    z-before-win = before_time setting World fits Z z-at.older F.w F.wb z-at.place F.place (let a = F.late in let e = z-time in omega (arith, a, e))

    z-since : Within (l ∷ older) z-at.older
    z-since = before_time setting World fits l older Z z-at.older place z-at.place (let a = c-late in let e = z-time in omega (arith, a, e))

    start-in : Within (Here F.c.did ∷ view r (of m F.cb)) (view r (of m z-at.older))
    start-in = subst (λ v. Within (Here F.c.did ∷ view r (of m F.cb)) v) (sym z-at.before) asks-n.after

    older-in-win : Within (view r (of m z-at.older)) (view r (of m F.wb))
    older-in-win = view_within r (of m z-at.older) (of m F.wb) (Within_of m z-at.older F.wb (Within_tail Z z-at.older F.wb z-before-win))

    stood-then : stood (view r (of m z-at.older)) ≡ Here F.c.did ∷ view r (of m F.cb)
    stood-then = stood_back F.c.did (view r (of m F.cb)) (view r (of m z-at.older)) (view r (of m F.wb)) older-in-win start-in F.still

    at-node : (v : List Line) → view r (of (node_of Z) v) ≡ view r (of m v)
    at-node v = ap (λ k. view r (of k v)) z-at.node

    wins-after : WinsAfter Z z-at.older F.w F.wb World
    wins-after = record {
      place = F.place;
      later = z-before-win;
      node = F.node ∙ sym z-at.node;
      port = F.port;
      wins = F.wins;
      start = F.c.did;
      idle = view r (of m F.cb);
      stood_then = ap stood (at-node z-at.older) ∙ stood-then;
      stood_still = ap stood (at-node F.wb) ∙ F.still;
      tick = (let a = tick_in setting m Z z-at.older World fits z-at.node z-at.place in let b = tick_in setting m F.c F.cb World fits F.c_node c-in in
          a ∙ (ap (setting.tick m) z-time ∙ sym b));
    }

    z-net : setting.net (node_of Z) r ≡ setting.net m r
    z-net = ap (λ k. setting.net k r) z-at.node

    z-asks : Asks setting long t stays s Z z-at.older World (peer_of n) (Message asks-n.message)
    z-asks = record {
      posts = record {
        place = z-at.place;
        deed = asks-n.deed;
        member = ap (λ k. is_among (peer_of n) (setting.members k)) z-net ∙ member;
        other = ap (λ k. n == k) z-at.node ∙ apart;
      };
      since = Within_through s (l ∷ older) z-at.older (inr since) z-since;
      there = first.stays_is;
      here = ap stays z-at.node ∙ second.stays_is;
      early = (let a = F.late in let e = z-time in let b = w-time in omega (arith, a, e, b));
    }

    stands-then : is_candidate_role (role (view r (of (node_of Z) z-at.older))) ≡ true
    stands-then = ap is_candidate_role (ap role (at-node z-at.older) ∙ stood_role F.c.did (view r (of m F.cb)) (view r (of m z-at.older)) stood-then ∙
        ap (λ d. role_after d (role (view r (of m F.cb)))) F.stands)

    -- if n led already then, m doesn't win
    led-already : Within (E.w ∷ E.wb) z-at.older → ⊥
    led-already won =
        let beside : LeadsBeside setting s Z z-at.older (peer_of n) World = record {
          port = q;
          net = net ∙ sym z-net;
          leads = leads_later n q (E.w ∷ E.wb) z-at.older World E.lasts won (Within_tail Z z-at.older World z-at.place);
          long = (let a = s-early in let b = c-late in let e = z-time in omega (arith, a, b, e));
          up = subst (λ k. StaysUp k r s World) (sym z-at.node) second.up;
        } in
        clocked_runs_lead_on clocks header setting events late long t stays s set possible attended slack delivered quick Z z-at.older (peer_of n)
        asks-n.message z-asks asks-n.kind stands-then beside F.w F.wb wins-after

    -- else both stood at about the same time
    e-in : Within (E.c ∷ E.cb) World
    e-in = Within_through (E.c ∷ E.cb) E.wb World E.c_place (Within_tail E.w E.wb World E.place)

    e-wins : WinsIt E.c E.cb E.w E.wb World
    e-wins = record {
      place = E.place;
      node = E.node ∙ sym E.c_node;
      port = E.port ∙ sym E.c_port;
      wins = E.wins;
      still = still_of n q E;
    }

    f-wins : WinsIt F.c F.cb F.w F.wb World
    f-wins = record {
      place = F.place;
      node = F.node ∙ sym F.c_node;
      port = F.port ∙ sym F.c_port;
      wins = F.wins;
      still = still_of m r F;
    }

    e-before-f : E.w.did.step.at ≤ F.w.did.step.at
    e-before-f = place_time setting (E.w ∷ E.wb) (F.w ∷ F.wb) (fits_at setting (F.w ∷ F.wb) World fits F.place) (inr order)

    loses-near : (c : Line) (cb : List Line) (d : Line) (db : List Line) → Within (c ∷ cb) World → Within (d ∷ db) World → Within (c ∷ cb) db →
        c.did.deed ≡ Acts (Become Candidate) → d.did.deed ≡ Acts (Become Candidate) → l.did.step.at < c.did.step.at → l.did.step.at < d.did.step.at →
        (node_of c == node_of d) ≡ false → setting.net (node_of c) c.port ≡ setting.net (node_of d) d.port → stays (node_of c) ≡ true →
        stays (node_of d) ≡ true → d.did.step.at + 2 * long < t → d.did.step.at < c.did.step.at + 7000000 → (w : Line) (wb : List Line) →
        ¬ WinsIt d db w wb World
    loses-near c cb d db c-place d-place c-first c-stands d-stands c-at d-at differs same-net c-stays d-stays early near =
        let c-since = Within_through s (l ∷ older) cb (inr since) (before_time setting World fits l older c cb place c-place c-at) in
        let d-since = Within_through s (l ∷ older) db (inr since) (before_time setting World fits l older d db place d-place d-at) in
        clocked_runs_elect_one clocks header setting events long t stays s set possible delivered prompt unbooted honest life c cb d db (record {
          first = record { place = c-place; stands = c-stands; unasked = unasked c cb c-place c-since c-stands };
          second = record { place = d-place; stands = d-stands; unasked = unasked d db d-place d-since d-stands };
          order = c-first;
          since = c-since;
          differ = differs;
          net = same-net;
          first_stays = c-stays;
          second_stays = d-stays;
          early = early;
          near = λ x e. (let few : x ≤ 12000000 = omega (arith, e, near, quick) in let product = mul-le setting.drift x 1000 12000000 setting.small few in
              omega (arith, product, few));
        })

    e-net : setting.net (node_of E.c) E.c.port ≡ setting.net n q
    e-net = ap (λ k. setting.net k E.c.port) E.c_node ∙ ap (setting.net n) E.c_port

    f-net : setting.net (node_of F.c) F.c.port ≡ setting.net m r
    f-net = ap (λ k. setting.net k F.c.port) F.c_node ∙ ap (setting.net m) F.c_port

    led-later : Within (Z ∷ z-at.older) E.wb → ⊥
    led-later asked =
        let after = place_time setting (Z ∷ z-at.older) (E.w ∷ E.wb) (fits_at setting (E.w ∷ E.wb) World fits E.place) (inr asked) in
        let e = z-time in
        let e-soon = E.soon in
        let f-soon = F.soon in
        let e-late = E.late in
        let f-wait = F.late in
        let order-time = e-before-f in
        let c-time = c-late in
        let w-most = w-time in
        let n-c : stays (node_of E.c) ≡ true = ap stays E.c_node ∙ first.stays_is in
        let m-c : stays (node_of F.c) ≡ true = ap stays F.c_node ∙ second.stays_is in
        let differs : (node_of E.c == node_of F.c) ≡ false = ap (λ k. k == node_of F.c) E.c_node ∙ ap (λ k. n == k) F.c_node ∙ apart in
        elim (Within_comparable (E.c ∷ E.cb) (F.c ∷ F.cb) World e-in c-in) [
          | inl (inl same) ↦ (let line : E.c ≡ F.c = cc in same-node (ap (λ (k : Line). node_of k) line) differs)
          | inl (inr v) ↦ loses-near E.c E.cb F.c F.cb e-in c-in v E.stands F.stands (omega (arith, after, e, e-soon, c-time)) (omega (arith, c-time)) differs
              (e-net ∙ net ∙ sym f-net) n-c m-c (omega (arith, f-wait, w-most)) (omega (arith, after, e, e-soon)) F.w F.wb f-wins
          | inr (inl same) ↦ (let line : F.c ≡ E.c = cc in same-node (sym (ap (λ (k : Line). node_of k) line)) differs)
          | inr (inr v) ↦ loses-near F.c F.cb E.c E.cb c-in e-in v F.stands E.stands (omega (arith, c-time)) (omega (arith, after, e, e-soon, c-time))
              (differ (node_of E.c) (node_of F.c) differs) (f-net ∙ sym net ∙ sym e-net) m-c n-c (omega (arith, e-late, order-time, w-most))
              (omega (arith, e-late, order-time, f-soon)) E.w E.wb e-wins
        ]
      where
        same-node : node_of E.c ≡ node_of F.c → (node_of E.c == node_of F.c) ≡ false → ⊥
        same-node is other = true≢false (sym (eq-eqb (node_of E.c) (node_of F.c) is) ∙ other)

    pub later_wins_not : ⊥
    later_wins_not = elim (Within_comparable (E.w ∷ E.wb) (Z ∷ z-at.older) World E.place z-at.place) [
      | inl (inl same) ↦ (let line : E.w ≡ Z = cc in mixed (ap (λ (k : Line). k.did.deed) line))
      | inl (inr v) ↦ led-already v
      | inr (inl same) ↦ (let line : Z ≡ E.w = cc in mixed (sym (ap (λ (k : Line). k.did.deed) line)))
      | inr (inr v) ↦ led-later v
    ] where
      mixed : E.w.did.deed ≡ Z.did.deed → ⊥
      mixed e = let deed : Acts (Become Master) ≡ Acts (Post (Peer (peer_of n)) (Message asks-n.message)) = sym E.wins ∙ e ∙ asks-n.deed in let bad : ⊥ = cc in
          bad

  pub one_left : OneLeft header setting late long t stays s World
  one_left a b q r l older round window two rounds windows told both =
      let E = reign setting World fits (clocked_runs_win_late clocks header setting events set possible) long quick a q both.0 in
      let F = reign setting World fits (clocked_runs_win_late clocks header setting events set possible) long quick b r both.1 in
      elim (Within_comparable (E.w ∷ E.wb) (F.w ∷ F.wb) World E.place F.place) [
        | inl (inl same) ↦ (let line : E.w ≡ F.w = cc in one-node (sym E.node ∙ ap (λ (k : Line). node_of k) line ∙ F.node))
        | inl (inr v) ↦ later_wins_not a b q r E F v l older round window two.place two.since two.first two.second two.net two.apart two.ends rounds windows
            told
        | inr (inl same) ↦ (let line : F.w ≡ E.w = cc in one-node (sym E.node ∙ sym (ap (λ (k : Line). node_of k) line) ∙ F.node))
        | inr (inr v) ↦ later_wins_not b a r q F E v l older round window two.place two.since two.second two.first (sym two.net) (differ a b two.apart) two.ends
            rounds windows told
      ]
    where
      one-node : a ≡ b → ⊥
      one-node is = true≢false (sym (eq-eqb a b is) ∙ two.apart)

pub clocked_runs_have_one_left : ClockedRunsHaveOneLeft
clocked_runs_have_one_left clocks header setting events late long t stays s set possible attended slack delivered prompt unbooted unasked honest life =
    one_left set events possible late long t attended slack stays s delivered prompt unbooted unasked honest life

pub runs_have_one_left : RunsHaveOneLeft
runs_have_one_left header setting events late long t stays s set possible = subst (λ h. Attended late h → late ≤ SLACK → Delivered setting long t stays s h →
    IsPrompt setting long → Unbooted stays s h → Unasked s h → Honest h → Life h → OneLeft header setting late long t stays s h)
    (runs_by_own_clocks header events)
    (clocked_runs_have_one_left (clocks_of header) header setting events late long t stays s (set_own header setting set) (possible_own header events possible))
