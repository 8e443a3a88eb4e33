-- Beside a master that leads alone no other candidate of its network wins.
use Rattle.std.proofs.Common.{sym, ap, subst, arith, true≢false, inl, inr, ◌∙◌, ◌≡◌, ◌≢◌, ◌≤◌, ◌<◌, ℕ, ◌+◌, ◌*◌, ◌==◌, Bool, true, false, List, []}
use Rattle.std.proofs.Common.{◌∷◌, eq-eqb}
use Rattle.std.proofs.lemmas.{Nat.mul-le}
use Rattle.tsp_rules.specs.Values.{Become, Candidate, Event, Master, Message, Peer, Port, Post, SLACK}
use Rattle.tsp_base.specs.Words.{Acts, Deed, Did, Elsewhere, HeaderValue, Here, Line, Seen, Within, dids, first_port, is_among, is_shared, of, peer_of, role}
use Rattle.tsp_base.specs.Words.{role_after, stood, time_of, view}
use Rattle.tsp_base.proofs.PlaceLemmas.{Within_all, Within_comparable, Within_tail, Within_through}
use Rattle.tsp_promises.specs.{Fits.Fits, Fits.node_of, Premises.Honest, Premises.Life, Setting.Setting}
use Rattle.tsp_promises.proofs.shared.HistoryPlaces.{Within_of, line_on}
use Rattle.tsp_promises.proofs.promised.OwnFitsProof.{Located, fits_at, fits_in, locate, place_time, seen_in, tick_in}
use Rattle.tsp_run.specs.{Clocked.Clocks, Clocked.PossibleBy, Clocked.SetByClocks, Clocked.run_by}
use Rattle.tsp_run.proofs.{RunFits.clocked_runs_fit}
use Rattle.tsp_progress.specs.{AckedInTime.IsPrompt, AnswersInTime.Asks, Delivered.Delivered, FoundInTime.IsQuick, GivenUp.Owes, Heeds.is_candidate_role}
use Rattle.tsp_progress.specs.{FollowOn.Calm, FollowOn.OneNetwork, FollowOn.role_of, NoneBeside.StaysUp}
use Rattle.tsp_progress.specs.{LeadOnly.candidatures_after, OneAtATime.WinsIt, RefusedLoses.WinsAfter, Watched.Attended, WinsLate.WinsLate, WinsLate.WonFits}
use Rattle.tsp_progress.proofs.{BesideProof.none_then, ElectOneProof.clocked_runs_elect_one, LeadsKept.leads_later}
use Rattle.tsp_progress.proofs.{PortSetups.differ, PortSetups.member_port, ReignProof.Reign}
use Rattle.tsp_progress.proofs.{ReignProof.reign, SendsEndProof.sends_end, StandKeeps.runs_sound, StandPlaces.AsksPeer, StandPlaces.asks_peer}
use Rattle.tsp_progress.proofs.{SearchKept.view_within, TableProof.clocked_runs_by_table, TimePlaces.before_time, WinsLateProof.clocked_runs_win_late}
use Rattle.tsp_progress.proofs.WinsNot.{stood_back, stood_role}

-- what is owed at each place is owed up to one
pub owes_within : (debt : Deed → Did → List Seen → Type 0) (few seen : List Seen) → Within few seen → Owes debt seen → Owes debt few
owes_within debt few [] w o = subst (Owes debt) (sym w) o
owes_within debt few (s ∷ rest) (inl e) o = subst (Owes debt) (sym e) o
owes_within debt few (Here d ∷ rest) (inr w) o = owes_within debt few rest w o.1
owes_within debt few (Elsewhere d ∷ rest) (inr w) o = owes_within debt few rest w o

module _ {clocks : Clocks} {header : HeaderValue} {setting : Setting} (set : SetByClocks clocks header setting) (events : List Event)
    (possible : PossibleBy clocks header events) (late long t : ℕ) (attended : Attended late (run_by clocks header events)) (slack : late ≤ SLACK)
    (stays : ℕ → Bool) (c : ℕ) (s : List Line) (one : OneNetwork header setting stays c) (calm : Calm long stays s (run_by clocks header events))
    (delivered : Delivered setting long t stays s (run_by clocks header events)) (prompt : IsPrompt setting long)
    (up : (f : ℕ) → stays f ≡ true → StaysUp f first_port s (run_by clocks header events)) (honest : Honest (run_by clocks header events))
    (life : Life (run_by clocks header events)) where
  abbrev World : List Line
  World = run_by clocks header events

  fits : Fits setting World
  fits = (clocked_runs_fit clocks header setting events set possible).0

  quick : IsQuick setting long
  quick = omega (arith, prompt)

  win-late : WinsLate World
  win-late = clocked_runs_win_late clocks header setting events set possible

  won-at : (h : List Line) → Within h World → WinsLate h
  won-at h w n q = owes_within WonFits (view q (of n h)) (view q (of n World)) (view_within q (of n h) (of n World) (Within_of n h World w)) (win-late n q)

  abbrev Q : Port
  Q = first_port

  -- the line l is after the place s, and node f wins there; c was master at a place g before, which has each line that is more than `long` earlier
  module _ (l : Line) (older : List Line) (place : Within (l ∷ older) World) (since : Within s older) (until : l.did.step.at ≤ t)
      (settled : time_of (dids s) + candidatures_after ≤ l.did.step.at) (g : List Line) (g-in : Within g older)
      (has : (k : Line) (kb : List Line) → Within (k ∷ kb) World → k.did.step.at + long < l.did.step.at → Within (k ∷ kb) g) (led : role_of c g ≡ Master)
      (f : ℕ) (there : stays f ≡ true) (apart-f : (f == c) ≡ false) (not-yet : role_of f older ≢ Master) (wins : role_of f (l ∷ older) ≡ Master) where
    older-in : Within older World
    older-in = Within_tail l older World place

    g-there : Within g World
    g-there = Within_through g older World g-in older-in

    E : Reign setting c Q long g
    E = reign setting g (fits_at setting g World fits g-there) (won-at g g-there) long quick c Q led

    F : Reign setting f Q long (l ∷ older)
    F = reign setting (l ∷ older) (fits_at setting (l ∷ older) World fits place) (won-at (l ∷ older) place) long quick f Q wins

    f-now : F.w ∷ F.wb ≡ l ∷ older
    f-now = elim F.place [
      | inl e ↦ e
      | inr w ↦ absurd (not-yet
          (leads_later f Q (F.w ∷ F.wb) older (l ∷ older) F.lasts w (inr (Within_all older))).master)
    ]

    f-line : F.w ≡ l
    f-line = let e = f-now in cc

    f-rest : F.wb ≡ older
    f-rest = let e = f-now in cc

    f-time : F.w.did.step.at ≡ l.did.step.at
    f-time = ap (λ (k : Line). k.did.step.at) f-line

    f-place : Within (F.w ∷ F.wb) World
    f-place = subst (λ z. Within z World) (sym f-now) place

    c-in : Within (F.c ∷ F.cb) World
    c-in = Within_through (F.c ∷ F.cb) F.wb World F.c_place (Within_tail F.w F.wb World f-place)

    c-late : time_of (dids s) + 8000000 < F.c.did.step.at
    c-late = let a = F.soon in let e = f-time in omega (arith, a, e, settled)

    after-s : (k : Line) (w : List Line) → Within (k ∷ w) World → time_of (dids s) < k.did.step.at → Within s w
    after-s k w v less = elim (Within_comparable s (k ∷ w) World (Within_through s older World since older-in) v) [
      | inl (inl e) ↦ absurd (let same = ap (λ (z : List Line). time_of (dids z)) e in omega (arith, same, less))
      | inl (inr u) ↦ u
      | inr u ↦ absurd (let le = place_time setting (k ∷ w) s (fits_at setting s World fits (Within_through s older World since older-in)) u in
          omega (arith, le, less))
    ]

    c-since : Within s F.cb
    c-since = after-s F.c F.cb c-in (let a = c-late in omega (arith, a))

    net : setting.net c Q ≡ setting.net f Q
    net = sym (one.net f there)

    apart : (c == f) ≡ false
    apart = differ f c apart-f

    c-seen : Within (Here F.c.did ∷ view Q (of f F.cb)) (view Q (of f World))
    c-seen = subst (λ z. Within (Here F.c.did ∷ view z (of f F.cb)) (view z (of f World))) F.c_port (seen_in f F.c F.cb World F.c_node c-in)

    member : is_among (peer_of c) (setting.members (setting.net f Q)) ≡ true
    member = ap (λ k. is_among (peer_of c) (setting.members k)) (sym net) ∙ setting.own c Q

    -- it asked c for its vote
    asks-c : AsksPeer World (clocked_runs_by_table clocks header events) fits (λ k z. runs_sound clocks header events k z) f Q
        (member_port set f Q (peer_of c) member apart-f) F.c.did (view Q (of f F.cb)) c-seen F.stands (calm.unhanded F.c F.cb c-in c-since) (peer_of c)
    asks-c = asks_peer World (clocked_runs_by_table clocks header events) fits (λ k z. runs_sound clocks header events k z) f Q
        (member_port set f Q (peer_of c) member apart-f) F.c.did (view Q (of f F.cb)) c-seen F.stands (calm.unhanded F.c F.cb c-in c-since) (peer_of c)
        member apart

    z-at : Located f Q World asks-c.ask asks-c.asked
    z-at = locate f Q World asks-c.ask asks-c.asked (ap (λ d. is_shared d) asks-c.deed) asks-c.place

    abbrev Z : Line
    Z = line_on Q asks-c.ask

    z-time : Z.did.step.at ≡ F.c.did.step.at
    z-time = ap (λ k. k.at) asks-c.step

    z-before-win : Within (Z ∷ z-at.older) F.wb
    z-before-win = before_time setting World fits Z z-at.older F.w F.wb z-at.place f-place (let a = F.late in let e = z-time in omega (arith, a, e))

    start-in : Within (Here F.c.did ∷ view Q (of f F.cb)) (view Q (of f z-at.older))
    start-in = subst (λ v. Within (Here F.c.did ∷ view Q (of f F.cb)) v) (sym z-at.before) asks-c.after

    older-in-win : Within (view Q (of f z-at.older)) (view Q (of f F.wb))
    older-in-win = view_within Q (of f z-at.older) (of f F.wb) (Within_of f z-at.older F.wb (Within_tail Z z-at.older F.wb z-before-win))

    stood-then : stood (view Q (of f z-at.older)) ≡ Here F.c.did ∷ view Q (of f F.cb)
    stood-then = stood_back F.c.did (view Q (of f F.cb)) (view Q (of f z-at.older)) (view Q (of f F.wb)) older-in-win start-in F.still

    at-node : (v : List Line) → view Q (of (node_of Z) v) ≡ view Q (of f v)
    at-node v = ap (λ k. view Q (of k v)) z-at.node

    wins-after : WinsAfter Z z-at.older F.w F.wb World
    wins-after = record {
      place = f-place;
      later = z-before-win;
      node = F.node ∙ sym z-at.node;
      port = F.port;
      wins = F.wins;
      start = F.c.did;
      idle = view Q (of f F.cb);
      stood_then = ap stood (at-node z-at.older) ∙ stood-then;
      stood_still = ap stood (at-node F.wb) ∙ F.still;
      tick = (let a = tick_in setting f Z z-at.older World fits z-at.node z-at.place in let b = tick_in setting f F.c F.cb World fits F.c_node c-in in
          a ∙ (ap (setting.tick f) z-time ∙ sym b));
    }

    z-net : setting.net (node_of Z) Q ≡ setting.net f Q
    z-net = ap (λ k. setting.net k Q) z-at.node

    z-asks : Asks setting long t stays s Z z-at.older World (peer_of c) (Message asks-c.message)
    z-asks = record {
      posts = record {
        place = z-at.place;
        deed = asks-c.deed;
        member = ap (λ k. is_among (peer_of c) (setting.members k)) z-net ∙ member;
        other = ap (λ k. c == k) z-at.node ∙ apart;
      };
      since = after-s Z z-at.older z-at.place (let a = c-late in let e = z-time in omega (arith, a, e));
      there = one.there;
      here = ap stays z-at.node ∙ there;
      early = (let a = F.late in let e = z-time in let w = f-time in omega (arith, a, e, w, until));
    }

    stands-then : is_candidate_role (role (view Q (of (node_of Z) z-at.older))) ≡ true
    stands-then = ap is_candidate_role (ap role (at-node z-at.older) ∙ stood_role F.c.did (view Q (of f F.cb)) (view Q (of f z-at.older)) stood-then ∙
        ap (λ d. role_after d (role (view Q (of f F.cb)))) F.stands)

    -- if c led already then, f doesn't win
    led-already : Within (E.w ∷ E.wb) z-at.older → ⊥
    led-already won = none_then set World (clocked_runs_by_table clocks header events) fits win-late late long t (sends_end setting late World fits attended)
        slack stays s delivered quick Z z-at.older (peer_of c) asks-c.message z-asks asks-c.kind stands-then (record {
          port = Q;
          net = net ∙ sym z-net;
          leads = λ line before at later soon.
              let inside : Within (line ∷ before) g = has line before at
              (let a = F.late in let e = z-time in let w = f-time in omega (arith, soon, a, e, w)) in
              (leads_later c Q (E.w ∷ E.wb) before g E.lasts (Within_through (E.w ∷ E.wb) z-at.older before won (Within_tail Z z-at.older before later))
              (Within_tail line before g inside)).master;
          long_since = (let b = c-late in let e = z-time in omega (arith, b, e));
          up = subst (λ k. StaysUp k Q s World) (sym z-at.node) (up f there);
        }) F.w F.wb wins-after

    -- else both stood at about the same time
    e-place : Within (E.w ∷ E.wb) World
    e-place = Within_through (E.w ∷ E.wb) g World E.place g-there

    e-in : Within (E.c ∷ E.cb) World
    e-in = Within_through (E.c ∷ E.cb) E.wb World E.c_place (Within_tail E.w E.wb World e-place)

    still-of : (n : ℕ) (k : Line) (kb wb : List Line) → node_of k ≡ n → k.port ≡ Q → stood (view Q (of n wb)) ≡ Here k.did ∷ view Q (of n kb) →
        stood (view k.port (of (node_of k) wb)) ≡ Here k.did ∷ view k.port (of (node_of k) kb)
    still-of n k kb wb node port is =
        let same : (v : List Line) → view k.port (of (node_of k) v) ≡ view Q (of n v) = λ v. ap (λ m. view k.port (of m v)) node ∙
        ap (λ z. view z (of n v)) port in
        ap stood (same wb) ∙ (is ∙ ap (λ v. Here k.did ∷ v) (sym (same kb)))

    e-wins : WinsIt E.c E.cb E.w E.wb World
    e-wins = record {
      place = e-place;
      node = E.node ∙ sym E.c_node;
      port = E.port ∙ sym E.c_port;
      wins = E.wins;
      still = still-of c E.c E.cb E.wb E.c_node E.c_port E.still;
    }

    f-wins : WinsIt F.c F.cb F.w F.wb World
    f-wins = record {
      place = f-place;
      node = F.node ∙ sym F.c_node;
      port = F.port ∙ sym F.c_port;
      wins = F.wins;
      still = still-of f F.c F.cb F.wb F.c_node F.c_port F.still;
    }

    loses-near : (k : Line) (kb : List Line) (d : Line) (db : List Line) → Within (k ∷ kb) World → Within (d ∷ db) World → Within (k ∷ kb) db →
        k.did.deed ≡ Acts (Become Candidate) → d.did.deed ≡ Acts (Become Candidate) → time_of (dids s) < k.did.step.at → time_of (dids s) < d.did.step.at →
        (node_of k == node_of d) ≡ false → setting.net (node_of k) k.port ≡ setting.net (node_of d) d.port → stays (node_of k) ≡ true →
        stays (node_of d) ≡ true → d.did.step.at + 2 * long < t → d.did.step.at < k.did.step.at + 7000000 → (w : Line) (wb : List Line) →
        ¬ WinsIt d db w wb World
    loses-near k kb d db k-place d-place k-first k-stands d-stands k-at d-at differs same-net k-stays d-stays early near =
        let k-since = after-s k kb k-place k-at in
        let d-since = after-s d db d-place d-at in
        clocked_runs_elect_one clocks header setting events long t stays s set possible delivered prompt (λ j older w v is. calm.unbooted j older w v) honest
        life k kb d db (record {
          first = record { place = k-place; stands = k-stands; unasked = calm.unhanded k kb k-place k-since };
          second = record { place = d-place; stands = d-stands; unasked = calm.unhanded d db d-place d-since };
          order = k-first;
          since = k-since;
          differ = differs;
          net = same-net;
          first_stays = k-stays;
          second_stays = d-stays;
          early = early;
          near = λ x e. (let few : x ≤ 12000000 = omega (arith, e, near, quick) in let product = mul-le setting.drift x 1000 12000000 setting.small few in
              omega (arith, product, few));
        })

    e-net : setting.net (node_of E.c) E.c.port ≡ setting.net c Q
    e-net = ap (λ k. setting.net k E.c.port) E.c_node ∙ ap (setting.net c) E.c_port

    f-net : setting.net (node_of F.c) F.c.port ≡ setting.net f Q
    f-net = ap (λ k. setting.net k F.c.port) F.c_node ∙ ap (setting.net f) F.c_port

    same-node : node_of E.c ≡ node_of F.c → (node_of E.c == node_of F.c) ≡ false → ⊥
    same-node is other = true≢false (sym (eq-eqb (node_of E.c) (node_of F.c) is) ∙ other)

    e-last : E.w.did.step.at ≤ l.did.step.at
    e-last =
        let low = place_time setting (E.w ∷ E.wb) older (fits_at setting older World fits older-in)
        (Within_through (E.w ∷ E.wb) g older E.place g-in) in
        let order = (fits_in setting l older World fits place).order in
        omega (arith, low, order)

    led-later : Within (Z ∷ z-at.older) E.wb → ⊥
    led-later asked =
        let after = place_time setting (Z ∷ z-at.older) (E.w ∷ E.wb) (fits_at setting (E.w ∷ E.wb) World fits e-place) (inr asked) in
        let e = z-time in
        let e-soon = E.soon in
        let f-soon = F.soon in
        let e-late = E.late in
        let f-wait = F.late in
        let order-time = e-last in
        let c-time = c-late in
        let w = f-time in
        let n-c : stays (node_of E.c) ≡ true = ap stays E.c_node ∙ one.there in
        let m-c : stays (node_of F.c) ≡ true = ap stays F.c_node ∙ there in
        let differs : (node_of E.c == node_of F.c) ≡ false = ap (λ k. k == node_of F.c) E.c_node ∙ ap (λ k. c == k) F.c_node ∙ apart in
        elim (Within_comparable (E.c ∷ E.cb) (F.c ∷ F.cb) World e-in c-in) [
          | inl (inl same) ↦ (let line : E.c ≡ F.c = cc in same-node (ap (λ (k : Line). node_of k) line) differs)
          | inl (inr v) ↦ loses-near E.c E.cb F.c F.cb e-in c-in v E.stands F.stands (omega (arith, after, e, e-soon, c-time)) (omega (arith, c-time)) differs
              (e-net ∙ net ∙ sym f-net) n-c m-c (omega (arith, f-wait, w, until)) (omega (arith, after, e, e-soon)) F.w F.wb f-wins
          | inr (inl same) ↦ (let line : F.c ≡ E.c = cc in same-node (sym (ap (λ (k : Line). node_of k) line)) differs)
          | inr (inr v) ↦ loses-near F.c F.cb E.c E.cb c-in e-in v F.stands E.stands (omega (arith, c-time)) (omega (arith, after, e, e-soon, c-time))
              (differ (node_of E.c) (node_of F.c) differs) (f-net ∙ sym net ∙ sym e-net) m-c n-c (omega (arith, e-late, order-time, until))
              (omega (arith, e-late, order-time, f-soon, w)) E.w E.wb e-wins
        ]

    pub none_wins : ⊥
    none_wins = elim (Within_comparable (E.w ∷ E.wb) (Z ∷ z-at.older) World e-place z-at.place) [
      | inl (inl same) ↦ (let line : E.w ≡ Z = cc in mixed (ap (λ (k : Line). k.did.deed) line))
      | inl (inr v) ↦ led-already v
      | inr (inl same) ↦ (let line : Z ≡ E.w = cc in mixed (sym (ap (λ (k : Line). k.did.deed) line)))
      | inr (inr v) ↦ led-later v
    ] where
      mixed : E.w.did.deed ≡ Z.did.deed → ⊥
      mixed e = let deed : Acts (Become Master) ≡ Acts (Post (Peer (peer_of c)) (Message asks-c.message)) = sym E.wins ∙ e ∙ asks-c.deed in let bad : ⊥ = cc in
          bad
