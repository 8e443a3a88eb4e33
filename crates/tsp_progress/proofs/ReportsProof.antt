-- A follower that its master calls reports to it, and is in its table then.
use Rattle.std.proofs.Common.{sym, ap, subst, arith, true≢false, inl, inr, ◌∙◌, ◌≡◌, ◌≤◌, ◌<◌, ℕ, ◌+◌, ◌*◌, ◌%◌, ◌==◌, nat_lt, Bool, true, false}
use Rattle.std.proofs.Common.{List, [], ◌∷◌, lt-ltb, eq-eqb, if◌then◌else◌, refl}
use Rattle.std.proofs.lemmas.Bool.{cases_lt}
use Rattle.tsp_rules.specs.Values.{Act, Arm, Join, Post, Elect, MasterUp, SlaveUp, Message, Peer, PeerId, Port, SetTime, Follow, Master, ROUND, SLACK}
use Rattle.tsp_rules.specs.{GateRows.steers, Guards.delay_at, Guards.is_follow, Guards.is_starting_role, Guards.target_at, Guards.ticket_at}
use Rattle.tsp_rules.specs.{MasterRows.may_join, SendRows.may_set}
use Rattle.tsp_base.specs.Words.{Acts, HeaderValue, Here, Line, MessageValue, Past, Within, bare, corrects, dids, first_port, in_table, is_among, line_of}
use Rattle.tsp_base.specs.Words.{of, peer_of, plain, role, time_of, timed, view, word}
use Rattle.tsp_base.specs.PortFacts.{in_table_after}
use Rattle.tsp_base.proofs.PlaceLemmas.{Within_all, Within_tail, Within_through}
use Rattle.tsp_promises.specs.{Fits.Fits, Fits.node_of, Setting.Setting}
use Rattle.tsp_promises.proofs.{shared.Clocks.near, shared.HistoryPlaces.of_own, promised.OwnFitsProof.fits_in, promised.OwnFitsProof.place_time}
use Rattle.tsp_promises.proofs.promised.OwnFitsProof.{fits_at}
use Rattle.tsp_run.specs.Clocked.{Clocks, SetByClocks, clocks_of, run_by}
use Rattle.tsp_run.proofs.{OwnClocks.possible_own, OwnClocks.runs_by_own_clocks, OwnClocks.set_own, RunFits.clocked_runs_fit}
use Rattle.tsp_progress.specs.{AlarmsFit.Manner, AnswersInTime.AnswerTaken, AnswersInTime.Asks, ByTable.ByTable, ByTable.before_line, ByTable.node_in}
use Rattle.tsp_progress.specs.{Delivered.Arrives, Delivered.Delivered, Delivered.PostsTo, FollowOn.FollowUntil, FollowOn.OneNetwork, FollowOn.role_of}
use Rattle.tsp_progress.specs.{Heeds.DoesNext, Heeds.is_master_role, Heeds.role_before, RunsWake.manner_of, SentAway.past_there}
use Rattle.tsp_progress.specs.ReportsSoon.{ClockedRunsReport, ReportsSoon, RunsReport, InTableBetween, is_slave_of, reported_after}
use Rattle.tsp_progress.specs.{Wakes.AllWake, Wakes.Woken, Watched.Attended, Watched.Told}
use Rattle.tsp_progress.proofs.{AnswersProof.answer_heard, AnswersProof.answered, AnswersProof.arrival, AnswersProof.hears_there, FollowHeard.Called}
use Rattle.tsp_progress.proofs.{FollowHeard.called, FollowHeard.first_steers, HeedsProof.all_heed, RunWakes.clocked_runs_wake, TableProof.clocked_runs_by_table}
use Rattle.tsp_progress.proofs.WorldPlaces.{act_place, in_order, world_place}

-- a ticket is less than 32,768
small_ticket : (n : ℕ) → nat_lt (n % 32768) 32768 ≡ true
small_ticket n = lt-ltb (n % 32768) 32768 (omega arith)

-- what a node's first port sees of its line there
pub seen_first : (c : ℕ) (l : Line) (older : List Line) → node_of l ≡ c → l.port ≡ first_port →
    view first_port (of c (l ∷ older)) ≡ Here l.did ∷ view first_port (of c older)
seen_first c l older node port =
    let zero : l.port.0 ≡ 0 = ap (λ (q : Port). q.0) port in
    ap (λ ls. view first_port ls) (of_own c l older node) ∙ rw zero refl

pub joined_now : (b was : Bool) → b ≡ true → (if b then true else was) ≡ true
joined_now true was e = refl
joined_now false was e = absurd (true≢false (sym e))

module _ {clocks : Clocks} {header : HeaderValue} {setting : Setting} (set : SetByClocks clocks header setting) (world : List Line)
    (table : ByTable header world) (fits : Fits setting world) (m : ℕ → Manner) (woken : Woken m world) (wakes : AllWake m world) (late long t c : ℕ)
    (stays : ℕ → Bool) (s : List Line) (attended : Attended late world) (slack : late ≤ SLACK) (told : Told late setting t c world)
    (one : OneNetwork header setting stays c) (delivered : Delivered setting long t stays s world) (s-in : Within s world)
    (follow : FollowUntil stays c t s world) where
  module _ (n x : ℕ) (there : stays n ≡ true) (other : (n == c) ≡ false) (from : time_of (dids s) ≤ x) (early : x + reported_after long < t) where
    abbrev Time : ℕ
    Time = x + ROUND + 2 * SLACK

    call : Called set world table fits m woken wakes late long t c stays s attended slack told one delivered s-in Time n
    call = called set world table fits m woken wakes late long t c stays s attended slack told one delivered s-in Time n there other
        (omega (arith, early)) (omega (arith, from)) (λ h w v le. (follow h w v (omega (arith, le, early))).leads)

    -- the call comes after the time x
    called-after : x < call.post.did.step.at
    called-after = elim (cases_lt x call.post.did.step.at) [
      | inl less ↦ less
      | inr none ↦
          let up = call.upto in
          let close = near setting c call.post.did.step.at Time (omega (arith, none, up)) in
          let least = close.least in
          let recent = call.recent in
          absurd (omega (arith, least, recent, none, slack))
    ]

    abbrev Said : MessageValue
    Said = bare MasterUp 0 call.name

    net-same : setting.net (node_of call.post) call.post.port ≡ setting.net n first_port
    net-same = ap (λ q. setting.net (node_of call.post) q) call.port ∙ (ap (λ k. setting.net k first_port) call.node ∙ sym (one.net n there))

    posts : PostsTo setting call.post call.older world (peer_of n) (Message Said)
    posts = record {
      place = call.place;
      deed = call.deed;
      member = ap (λ k. is_among (peer_of n) (setting.members k)) net-same ∙ setting.own n first_port;
      other = ap (λ k. n == k) call.node ∙ other;
    }

    asks : Asks setting long t stays s call.post call.older world (peer_of n) (Message Said)
    asks = record {
      posts = posts;
      since = call.since;
      there = there;
      here = ap stays call.node ∙ one.there;
      early = let up = call.upto in omega (arith, up, early);
    }

    a : Arrives setting long call.post call.older world (peer_of n) (Message Said)
    a = arrival set world table long t stays s delivered call.post call.older (peer_of n) (Message Said) asks

    a-port : a.line.port ≡ first_port
    a-port = setting.apart n a.line.port first_port (subst (λ k. setting.net k a.line.port ≡ setting.net n first_port) a.node (a.net ∙ net-same))

    a-in : Within a.before world
    a-in = Within_tail a.line a.before world a.place

    a-until : time_of (dids a.before) ≤ t
    a-until =
        let order = (fits_in setting a.line a.before world fits a.place).order in
        let soon = a.soon in
        let up = call.upto in
        omega (arith, order, soon, up, early)

    follows : role_of n a.before ≡ Follow (peer_of c)
    follows = (follow a.before a-in (Within_through s (call.post ∷ call.older) a.before (inr call.since) a.later) a-until).follow n there other

    role-there : role_before (node_in header n) a.line (of n a.before) ≡ Follow (peer_of (node_of call.post))
    role-there = ap (λ q. role (view q (of n a.before))) a-port ∙ follows ∙ ap (λ k. Follow (peer_of k)) (sym call.node)

    steers-there : steers a.line.port a.line.did.tick (before_line (node_in header n) a.line (of n a.before)) ≡ true
    steers-there = ap (λ q. steers q a.line.did.tick (before_line (node_in header n) a.line (of n a.before))) a-port ∙
        first_steers a.line.did.tick (before_line (node_in header n) a.line (of n a.before)) (ap is_follow follows)

    abbrev There : Past
    There = past_there header n a.line a.before

    abbrev Number : ℕ
    Number = ticket_at a.line.did.tick There

    abbrev Report : MessageValue
    Report = bare SlaveUp Number There.name

    abbrev Answer : Act
    Answer = Post (Peer (peer_of (node_of call.post))) (Message Report)

    abbrev Until : Act
    Until = Arm Elect (a.line.did.tick + delay_at a.line.did.tick There)

    -- it reports
    back : AnswerTaken long call.post call.older world (peer_of n) (Message Report)
    back = answered set world table long t stays s delivered call.post call.older (peer_of n) (Message Said) asks a (Until ∷ Answer ∷ []) (Message Report)
        (record { front = Until ∷ []; back = []; is = refl })
        ((all_heed header world table n).obeys.masterup a.line (of n a.before) (peer_of (node_of call.post)) Said
        (hears_there set world table long t stays s delivered call.post call.older (peer_of n) Said posts a (ap is_starting_role role-there)) refl role-there
        steers-there refl)

    abbrev K : Line
    K = back.line

    abbrev W : List Line
    W = back.before

    k-node : node_of K ≡ c
    k-node = back.node ∙ call.node

    k-port : K.port ≡ first_port
    k-port = back.port ∙ call.port

    w-in : Within W world
    w-in = Within_tail K W world back.place

    s-before : Within s W
    s-before = Within_through s (call.post ∷ call.older) W (inr call.since) back.later

    leads : role_of c W ≡ Master
    leads =
        let order = (fits_in setting K W world fits back.place).order in
        let soon = back.soon in
        let up = call.upto in
        (follow W w-in s-before (omega (arith, order, soon, up, early))).leads

    -- it is in the table then, or joins it

    k-after : x < K.did.step.at
    k-after =
        let le = place_time setting (call.post ∷ call.older) W (fits_at setting W world fits w-in) back.later in
        let order = (fits_in setting K W world fits back.place).order in
        let after = called-after in
        omega (arith, le, order, after)

    k-soon : K.did.step.at ≤ x + reported_after long
    k-soon = let soon = back.soon in let up = call.upto in omega (arith, soon, up)

    abbrev P : PeerId
    P = peer_of n

    -- it is in the table already
    took : in_table P (view first_port (of c W)) ≡ true → is_slave_of c n (K ∷ W) ≡ true
    took e = ap (in_table P) (seen_first c K W k-node k-port) ∙ (ap (λ d. in_table_after P d (in_table P (view first_port (of c W)))) back.took ∙ e)

    -- or it joins
    abbrev Join-line : Line
    Join-line = line_of K.did.step K.did.tick K.port (Acts (Join P))

    abbrev Here_c : Past
    Here_c = past_there header (node_of call.post) K W

    abbrev Set : List Act
    Set = if may_set P Number K.did.tick Here_c
        then Post (Peer P) (Message (timed SetTime Number (target_at K.did.tick Here_c) Here_c.name)) ∷ []
        else []

    role-c : role_before (node_in header (node_of call.post)) K (of (node_of call.post) W) ≡ Master
    role-c = ap (λ k. role (view K.port (of k W))) call.node ∙ (ap (λ q. role (view q (of c W))) k-port ∙ leads)

    joins : in_table P (view first_port (of c W)) ≡ false → InTableBetween x (x + reported_after long) c n s world
    joins e =
        let new : in_table P (view K.port (of (node_of call.post) W)) ≡ false =
        ap (λ k. in_table P (view K.port (of k W))) call.node ∙ (ap (λ q. in_table P (view q (of c W))) k-port ∙ e) in
        let low = small_ticket (word (plain There.seen) + corrects (plain There.seen)) in
        let may : may_join P Number K.did.tick Here_c ≡ true = rw (low, new) refl in
        let next : DoesNext (Join P ∷ Set) K (of (node_of call.post) W) (of (node_of call.post) world) =
        (all_heed header world table (node_of call.post)).serves.joins K (of (node_of call.post) W) P Report
        (answer_heard set world table long t stays s delivered call.post call.older P (Message Said) asks Report back (ap is_starting_role role-c)) refl
        (ap is_master_role role-c) may in
        let at = world_place (node_of call.post) Join-line (K ∷ of (node_of call.post) W) world (act_place K.did.step K.did.tick K.port (Join P) (Join P ∷ Set)
        (K ∷ of (node_of call.post) W) (of (node_of call.post) world) (record { front = []; back = Set; is = refl }) next) in
        let after : Within (K ∷ W) at.older = in_order (node_of call.post) K W Join-line at.older world back.place at.place
        (subst (λ ls. Within (K ∷ of (node_of call.post) W) ls) (sym at.own_is) (Within_all (K ∷ of (node_of call.post) W))) in
        let after-k = k-after in
        record {
          at = Join-line ∷ at.older;
          place = at.place;
          since = inr (Within_through s W at.older s-before (Within_tail K W at.older after));
          later = after-k;
          soon = k-soon;
          member = ap (in_table P) (seen_first c Join-line at.older (at.node ∙ call.node) k-port) ∙
              joined_now (n == n) (in_table P (view first_port (of c at.older))) (eq-eqb n n refl);
        }

    taken_in : InTableBetween x (x + reported_after long) c n s world
    taken_in = by_table (in_table P (view first_port (of c W))) refl where
      by_table : (b : Bool) → in_table P (view first_port (of c W)) ≡ b → InTableBetween x (x + reported_after long) c n s world
      by_table true e = record { at = K ∷ W; place = back.place; since = inr s-before; later = k-after; soon = k-soon; member = took e }
      by_table false e = joins e

  pub reports_soon : ReportsSoon long t stays c s world
  reports_soon n x there other from early = taken_in n x there other from early

pub clocked_runs_report : ClockedRunsReport
clocked_runs_report clocks header setting events late long t stays c s set possible attended slack told one delivered s-in follow =
    let world = run_by clocks header events in
    let awake = clocked_runs_wake clocks header events in
    reports_soon set world (clocked_runs_by_table clocks header events) (clocked_runs_fit clocks header setting events set possible).0 (manner_of header)
    awake.0
    awake.1 late long t c stays s attended slack told one delivered s-in follow

pub runs_report : RunsReport
runs_report header setting events late long t stays c s set possible = subst (λ h. Attended late h → late ≤ SLACK → Told late setting t c h →
    OneNetwork header setting stays c → Delivered setting long t stays s h → Within s h → FollowUntil stays c t s h → ReportsSoon long t stays c s h)
    (runs_by_own_clocks header events)
    (clocked_runs_report (clocks_of header) header setting events late long t stays c s (set_own header setting set) (possible_own header events possible))
