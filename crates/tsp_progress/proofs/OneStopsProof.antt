-- Of two masters one stops.
use Rattle.std.proofs.Common.{◌⊎◌, sym, ap, subst, arith, inl, inr, ◌∙◌, ◌≡◌, ◌≤◌, ◌<◌, ℕ, ◌+◌, ◌*◌, ◌==◌, not, Bool, true, false}
use Rattle.std.proofs.Common.{List, [], ◌∷◌, Option, None, Some, is_some, refl}
use Rattle.tsp_rules.specs.Values.{Event, Act, Ack, Arm, Become, Follow, Good, MasterUp, Master, Message, Peer, Port, Quit}
use Rattle.tsp_rules.specs.Values.{QuitKind, ResolveAlarm, Took, ROUND, SLACK, WINDOW}
use Rattle.tsp_rules.specs.{Guards.is_armed, Guards.is_starting_role}
use Rattle.tsp_base.specs.Words.{Acts, HeaderValue, Here, Line, MessageValue, Within, armed, bare}
use Rattle.tsp_base.specs.Words.{is_among, is_shared, line_of, of, peer_of, role, view}
use Rattle.tsp_base.proofs.PlaceLemmas.{Within_tail, Within_through}
use Rattle.tsp_promises.specs.{Fits.Fits, Fits.node_of, Setting.Setting}
use Rattle.tsp_promises.proofs.{shared.Clocks.tick_mono, shared.EverywhereLemmas.Everywhere_within, shared.HistoryPlaces.Within_of}
use Rattle.tsp_promises.proofs.{shared.HistoryPlaces.line_on}
use Rattle.tsp_promises.proofs.promised.OwnFitsProof.{Located, fits_at, fits_in, locate, place_time, seen_in, tick_in}
use Rattle.tsp_run.specs.{Clocked.Clocks, Clocked.SetByClocks, Clocked.clocks_of, Clocked.run_by}
use Rattle.tsp_run.proofs.{OwnClocks.possible_own, OwnClocks.runs_by_own_clocks, OwnClocks.set_own, RunFits.clocked_runs_fit}
use Rattle.tsp_progress.specs.AlarmsFit.{AlarmFits, AlarmsFit, Manner}
use Rattle.tsp_progress.specs.AnswersInTime.{Meanwhile}
use Rattle.tsp_progress.specs.{ByTable.ByTable, ByTable.node_in, ByTable.port_before, Delivered.Arrives, Delivered.Delivered, Delivered.PostsTo}
use Rattle.tsp_progress.specs.{FoundInTime.Changed, FoundInTime.IsQuick, Heeds.follow_acts, Heeds.is_master_role, Heeds.posts_bare}
use Rattle.tsp_progress.specs.{Heeds.role_before, Resolving.AllAsk, Resolving.questions, Resolving.resolve_acts, RivalsFound.LooksAt, RivalsFound.RivalKnown}
use Rattle.tsp_progress.specs.{ReachesInTime.Reaches, ReachesInTime.Tells, RivalsQuit.SendsAwayBy, RunsWake.manner_of, SentAway.past_there, Wakes.AllWake}
use Rattle.tsp_progress.specs.{Watched.Attended, Watched.Told}
use Rattle.tsp_progress.specs.MastersTell.{LeadsOn, OtherMember, TellsWithin}
use Rattle.tsp_progress.specs.OneStops.{ClockedRunsLeaveOne, OneStops, RunsLeaveOne, Spans, TwoLead}
use Rattle.tsp_progress.proofs.{AnswersProof.hears_there, AskNodes.clocked_runs_ask_rivals, MastersTellProof.masters_tell}
use Rattle.tsp_progress.proofs.CutRun.{changed_cut, cut, cut_has, cut_within, delivered_cut, told_cut}
use Rattle.tsp_progress.proofs.LeadsKept.{either, leads_later}
use Rattle.tsp_progress.proofs.{NeverLateProof.newest, NeverLateProof.on_time, NeverLateProof.same_tick, PortSetups.differ, ResolvingProof.all_resolve}
use Rattle.tsp_progress.proofs.{RivalsFoundProof.rivals_found, RivalsQuitProof.quits_stop, RivalsQuitProof.rivals_quit, RunWakes.clocked_runs_wake}
use Rattle.tsp_progress.proofs.{SearchKept.alarms_within, SearchKept.view_within, TableProof.clocked_runs_by_table}
use Rattle.tsp_progress.proofs.TimePlaces.{before_time}
use Rattle.tsp_progress.proofs.StopPlaces.{NextPlace, armed_from, later_time, next_place, passed, within_span}

module _ {clocks : Clocks} {header : HeaderValue} {setting : Setting} (set : SetByClocks clocks header setting) (world : List Line)
    (table : ByTable header world) (fits : Fits setting world) (wakes : AllWake (manner_of header) world) (asking : AllAsk header world) (late long t : ℕ)
    (attended : Attended late world) (slack : late ≤ SLACK) (stays : ℕ → Bool) (s : List Line) (delivered : Delivered setting long t stays s world)
    (quick : IsQuick setting long) where
  module _ (a b : ℕ) (q r : Port) (l : Line) (older : List Line) (round window : ℕ) (two : TwoLead header setting late t stays s a b q r l older world)
      (rounds : Spans setting (ROUND + late) round) (windows : Spans setting (WINDOW + late) window)
      (told : l.did.step.at + (round + 2 * window + 2 * long) < t)
      (first-stays : ¬ Changed (view q (of a (l ∷ older))) (view q (of a world)))
      (second-stays : ¬ Changed (view r (of b (l ∷ older))) (view r (of b world))) where
    leads-a : LeadsOn a q (l ∷ older) world
    leads-a = record { place = two.place; master = two.first.master; stays = first-stays }

    leads-b : LeadsOn b r (l ∷ older) world
    leads-b = record { place = two.place; master = two.second.master; stays = second-stays }

    b-of-a : OtherMember setting a q (peer_of b)
    b-of-a = record {
      member = ap (λ k. is_among (peer_of b) (setting.members k)) two.net ∙ setting.own b r;
      other = differ a b two.apart;
    }

    a-of-b : OtherMember setting b r (peer_of a)
    a-of-b = record { member = ap (λ k. is_among (peer_of a) (setting.members k)) (sym two.net) ∙ setting.own a q; other = two.apart }

    -- when no search for rivals is going that began before
    abbrev First : ℕ
    First = l.did.step.at + window

    abbrev X : ℕ
    X = setting.tick a First

    tells : TellsWithin late X a q (peer_of b) (l ∷ older) world
    tells = masters_tell set world table fits wakes late attended slack t a X q (peer_of b) l older two.first.alone leads-a b-of-a
        (tick_mono setting a l.did.step.at First (omega arith)) (passed setting a First t (ROUND + late) round rounds (omega (arith, told))) two.first.told

    abbrev Z : Line
    Z = tells.line

    z-tick : Z.did.tick ≡ setting.tick a Z.did.step.at
    z-tick = tick_in setting a Z tells.before world fits tells.node tells.place

    z-after : First < Z.did.step.at
    z-after = later_time setting a First Z.did.step.at (let less = tells.after in let e = z-tick in omega (arith, less, e))

    z-soon : Z.did.step.at < First + round
    z-soon = within_span setting a First Z.did.step.at (ROUND + late) round rounds (let le = tells.soon in let e = z-tick in omega (arith, le, e))

    abbrev Up : MessageValue
    Up = bare MasterUp 0 tells.name

    z-net : setting.net (node_of Z) Z.port ≡ setting.net a q
    z-net = ap (λ k. setting.net k Z.port) tells.node ∙ ap (setting.net a) tells.port

    z-posts : PostsTo setting Z tells.before world (peer_of b) (Message Up)
    z-posts = record {
      place = tells.place;
      deed = tells.deed;
      member = ap (λ k. is_among (peer_of b) (setting.members k)) z-net ∙ b-of-a.member;
      other = ap (λ k. b == k) tells.node ∙ b-of-a.other;
    }

    z-arrives : Arrives setting long Z tells.before world (peer_of b) (Message Up)
    z-arrives = delivered Z tells.before (peer_of b) (Message Up) z-posts
        (Within_through s (l ∷ older) tells.before (inr two.since) tells.since) two.second.stays_is (let soon = z-soon in omega (arith, soon, told))

    abbrev K : Line
    K = z-arrives.line

    abbrev K-before : List Line
    K-before = z-arrives.before

    k-port : K.port ≡ r
    k-port = setting.apart b K.port r (sym (ap (λ k. setting.net k K.port) z-arrives.node) ∙ z-arrives.net ∙ z-net ∙ two.net)

    k-since : Within (l ∷ older) K-before
    k-since = Within_through (l ∷ older) (Z ∷ tells.before) K-before (inr tells.since) z-arrives.later

    k-before-in : Within K-before world
    k-before-in = Within_tail K K-before world z-arrives.place

    k-late : Z.did.step.at ≤ K.did.step.at
    k-late = place_time setting (Z ∷ tells.before) (K ∷ K-before) (fits_at setting (K ∷ K-before) world fits z-arrives.place) (inr z-arrives.later)

    k-soon : K.did.step.at < First + round + long
    k-soon = let le = z-arrives.soon in let soon = z-soon in omega (arith, le, soon)

    k-leads : LeadsOn b r K-before world
    k-leads = leads_later b r (l ∷ older) K-before world leads-b k-since k-before-in

    k-role : role_before (node_in header b) K (of b K-before) ≡ Master
    k-role = ap (λ z. role (view z (of b K-before))) k-port ∙ k-leads.master

    -- b looks for rivals then, and began after the line l
    record Looking : Type 0 where
      pub at : ℕ
      pub line : Line
      pub before : List Line
      pub place : Within (line ∷ before) world
      pub since : Within (l ∷ older) before
      pub node : node_of line ≡ b
      pub port : line.port ≡ r
      pub deed : line.did.deed ≡ Acts (Arm ResolveAlarm at)
      pub at_is : at ≡ line.did.tick + WINDOW
      pub soon : line.did.step.at < First + round + long

    -- it begins when it hears of a
    begins_now : is_armed ResolveAlarm K.did.tick (port_before (node_in header b) K (of b K-before)) ≡ false → Looking
    begins_now free =
        let hears = hears_there set world table long t stays s delivered Z tells.before (peer_of b) Up z-posts z-arrives (ap is_starting_role k-role) in
        let past = port_before (node_in header b) K (of b K-before) in
        let settled : not (is_armed ResolveAlarm K.did.tick past) ≡ true = ap not free in
        let next = (all_resolve header world table b).masterup K (of b K-before) (peer_of (node_of Z)) Up hears refl (ap is_master_role k-role) settled in
        let arm = Arm ResolveAlarm (K.did.tick + WINDOW) in
        let p = next_place world b K K-before z-arrives.place z-arrives.node (resolve_acts K.did.tick past) arm
        (record { front = []; back = questions past; is = refl }) next in
        record {
          at = K.did.tick + WINDOW;
          line = line_of K.did.step K.did.tick K.port (Acts arm);
          before = p.before;
          place = p.place;
          since = Within_through (l ∷ older) (K ∷ K-before) p.before (inr k-since) p.after;
          node = z-arrives.node;
          port = k-port;
          deed = refl;
          at_is = refl;
          soon = k-soon;
        }

    abbrev M : Manner
    M = manner_of header b

    -- or looks for them already
    looks-already : (at : ℕ) → (armed (view r (of b K-before))).resolve ≡ Some at → Looking
    looks-already at e =
        let seen = view r (of b K-before) in
        let o = armed_from at seen e in
        let past-fits : AlarmsFit M seen = alarms_within M seen (view r (of b world)) (view_within r (of b K-before) (of b world)
        (Within_of b K-before world k-before-in)) (wakes b r).acts in
        let fit : at ≡ o.arm.tick + WINDOW = subst (λ d. AlarmFits d o.arm o.idle) o.deed (alarms_within M (Here o.arm ∷ o.idle) seen o.place past-fits).0 in
        let p : Located b r K-before o.arm o.idle = locate b r K-before o.arm o.idle (ap (λ d. is_shared d) o.deed) o.place in
        let line = line_on r o.arm in
        let place = Within_through (line ∷ p.older) K-before world p.place k-before-in in
        let before_fits = fits_at setting K-before world fits k-before-in in
        let on = on_time setting late K-before before_fits (Everywhere_within _ K-before world attended k-before-in) M b r past-fits ResolveAlarm at e in
        let tick : K.did.tick ≡ newest (of (node_of K) K-before) = same_tick setting K K-before (Took (Peer (peer_of (node_of Z))) (Good (Message Up)))
        z-arrives.took (fits_in setting K K-before world fits z-arrives.place) before_fits in
        let own : newest (of (node_of K) K-before) ≡ newest (of b K-before) = ap (λ k. newest (of k K-before)) z-arrives.node in
        let k-tick : K.did.tick ≡ setting.tick b K.did.step.at = tick_in setting b K K-before world fits z-arrives.node z-arrives.place in
        let arm-tick : o.arm.tick ≡ setting.tick b o.arm.step.at = tick_in setting b line p.older world fits p.node place in
        let after = z-after in
        let lasts = k-late in
        let over = passed setting b l.did.step.at K.did.step.at (WINDOW + late) window windows (omega (arith, after, lasts)) in
        let later : l.did.step.at < o.arm.step.at = later_time setting b l.did.step.at o.arm.step.at (omega (arith, fit, on, tick, own, k-tick, arm-tick, over))
        in
        let early : o.arm.step.at ≤ K.did.step.at = place_time setting (line ∷ p.older) (K ∷ K-before) (fits_at setting (K ∷ K-before) world fits
        z-arrives.place) (inr p.place) in
        let soon = k-soon in
        record {
          at = at;
          line = line;
          before = p.older;
          place = place;
          since = before_time setting world fits l older line p.older two.place place later;
          node = p.node;
          port = refl;
          deed = o.deed;
          at_is = fit;
          soon = omega (arith, early, soon);
        }

    looking : Looking
    looking = by_case (armed (view r (of b K-before))).resolve refl where
      by_case : (o : Option ℕ) → (armed (view r (of b K-before))).resolve ≡ o → Looking
      by_case None e = begins_now (ap (λ z. is_some (armed (view z (of b K-before))).resolve) k-port ∙ ap is_some e)
      by_case (Some at) e = looks-already at e

    abbrev R : Line
    R = looking.line

    abbrev R-before : List Line
    R-before = looking.before

    r-leads : LeadsOn (node_of R) R.port (R ∷ R-before) world
    r-leads = subst (λ k. LeadsOn k R.port (R ∷ R-before) world) (sym looking.node) (subst (λ z. LeadsOn b z (R ∷ R-before) world) (sym looking.port)
        (leads_later b r (l ∷ older) (R ∷ R-before) world leads-b (inr looking.since) looking.place))

    r-net : setting.net (node_of R) R.port ≡ setting.net b r
    r-net = ap (λ k. setting.net k R.port) looking.node ∙ ap (setting.net b) looking.port

    a-of-r : OtherMember setting (node_of R) R.port (peer_of a)
    a-of-r = record {
      member = ap (λ k. is_among (peer_of a) (setting.members k)) r-net ∙ a-of-b.member;
      other = ap (λ k. a == k) looking.node ∙ a-of-b.other;
    }

    -- a is master, wherever it takes something after the line l
    a-leads : (line : Line) (before : List Line) → Within (line ∷ before) world → Within (l ∷ older) before → line.port ≡ q →
        role (view line.port (of a before)) ≡ Master
    a-leads line before place since port = ap (λ z. role (view z (of a before))) port ∙
        (leads_later a q (l ∷ older) before world leads-a since (Within_tail line before world place)).master

    a-port : (line : Line) → node_of line ≡ a → setting.net (node_of line) line.port ≡ setting.net b r → line.port ≡ q
    a-port line node net = setting.apart a line.port q (sym (ap (λ k. setting.net k line.port) node) ∙ net ∙ sym two.net)

    looks : LooksAt setting long t stays s looking.at R R-before world (peer_of a)
    looks = record {
      deed = looking.deed;
      leads = r-leads;
      since = Within_through s (l ∷ older) R-before (inr two.since) looking.since;
      other = a-of-r;
      there = two.first.stays_is;
      here = ap stays looking.node ∙ two.second.stays_is;
      early = (let soon = looking.soon in omega (arith, soon, told));
    }

    meanwhile : Meanwhile header setting long R R-before world (peer_of a) (λ x past. is_master_role (role past.seen))
    meanwhile line before place later node net soon = ap is_master_role (a-leads line before place
        (Within_through (l ∷ older) (R ∷ R-before) before (inr looking.since) later) (a-port line node (net ∙ r-net)))

    known : RivalKnown (peer_of a) looking.at (node_of R) R.port (R ∷ R-before) world
    known = rivals_found set world table fits wakes asking long t stays s delivered quick looking.at R R-before (peer_of a) looks meanwhile

    r-tick : R.did.tick ≡ setting.tick b R.did.step.at
    r-tick = tick_in setting b R R-before world fits looking.node looking.place

    sends : SendsAwayBy late looking.at (node_of R) R.port (peer_of a) (R ∷ R-before) world
    sends =
        let soon = looking.soon in
        let over = passed setting b R.did.step.at t (WINDOW + late) window windows (omega (arith, soon, told)) in
        let e = r-tick in
        let is = looking.at_is in
        let b-late : looking.at + late < setting.tick b t = omega (arith, over, e, is) in
        rivals_quit set world table fits wakes asking late attended slack t looking.at (node_of R) R.port (peer_of a) R R-before refl r-leads a-of-r known
        (subst (λ k. looking.at + late < setting.tick k t) (sym looking.node) b-late) (subst (λ k. Told late setting t k world) (sym looking.node)
        two.second.told)

    abbrev U : Line
    U = sends.line

    u-soon : U.did.step.at < R.did.step.at + window
    u-soon =
        let tick : U.did.tick ≡ setting.tick b U.did.step.at = tick_in setting b U sends.before world fits (sends.node ∙ looking.node) sends.place in
        let le = sends.soon in
        let e = r-tick in
        let is = looking.at_is in
        within_span setting b R.did.step.at U.did.step.at (WINDOW + late) window windows (omega (arith, tick, le, e, is))

    u-net : setting.net (node_of U) U.port ≡ setting.net b r
    u-net = ap (λ k. setting.net k U.port) sends.node ∙ ap (setting.net (node_of R)) sends.port ∙ r-net

    u-since : Within (l ∷ older) sends.before
    u-since = Within_through (l ∷ older) (R ∷ R-before) sends.before (inr looking.since) sends.since

    abbrev Away : MessageValue
    Away = bare QuitKind sends.number sends.name

    u-tells : Tells setting long t stays s U sends.before world (peer_of a) Away
    u-tells = record {
      posts = record {
        place = sends.place;
        deed = sends.deed;
        member = ap (λ k. is_among (peer_of a) (setting.members k)) u-net ∙ a-of-b.member;
        other = ap (λ k. a == k) (sends.node ∙ looking.node) ∙ a-of-b.other;
      };
      since = Within_through s (l ∷ older) sends.before (inr two.since) u-since;
      there = two.first.stays_is;
      early = (let soon = u-soon in let began = looking.soon in omega (arith, soon, began, told));
    }

    reaches : Reaches header setting long U sends.before world (peer_of a) Away (λ x past. is_master_role (role past.seen))
        (λ x past. Quit (peer_of (node_of U)) ∷ posts_bare Ack sends.number past (peer_of (node_of U)) ∷ follow_acts (peer_of (node_of U)) x past)
    reaches = quits_stop set world table long t stays s delivered U sends.before (peer_of a) Away u-tells refl

    abbrev V : Line
    V = reaches.arrives.line

    abbrev V-before : List Line
    V-before = reaches.arrives.before

    v-since : Within (l ∷ older) V-before
    v-since = Within_through (l ∷ older) (U ∷ sends.before) V-before (inr u-since) reaches.arrives.later

    v-port : V.port ≡ q
    v-port = a-port V reaches.arrives.node (reaches.arrives.net ∙ u-net)

    abbrev Follows : Act
    Follows = Become (Follow (peer_of (node_of U)))

    -- a follows b, and so leads no more
    stops : NextPlace world V V-before Follows
    stops =
        let past = past_there header a V V-before in
        let p = peer_of (node_of U) in
        let acts = Quit p ∷ posts_bare Ack sends.number past p ∷ follow_acts p V.did.tick past in
        next_place world a V V-before reaches.arrives.place reaches.arrives.node acts Follows
        (record { front = Quit p ∷ posts_bare Ack sends.number past p ∷ []; back = rest_of (follow_acts p V.did.tick past); is = refl })
        (reaches.does (ap is_master_role (a-leads V V-before reaches.arrives.place v-since v-port)))
      where
        rest_of : List Act → List Act
        rest_of [] = []
        rest_of (x ∷ rest) = rest

    no-more : ⊥
    no-more =
        let line = line_of V.did.step V.did.tick V.port (Acts Follows) in
        let seen : Within (Here line.did ∷ view V.port (of a stops.before)) (view V.port (of a world)) =
        seen_in a line stops.before world reaches.arrives.node stops.place in
        let since : Within (l ∷ older) stops.before = Within_through (l ∷ older) (V ∷ V-before) stops.before (inr v-since) stops.after in
        first-stays (record {
          change = line.did;
          before = view q (of a stops.before);
          place = subst (λ z. Within (Here line.did ∷ view z (of a stops.before)) (view z (of a world))) v-port seen;
          since = view_within q (of a (l ∷ older)) (of a stops.before) (Within_of a (l ∷ older) stops.before since);
          is = refl;
        })

  -- so one of them changes its role
  pub one_changes : (a b : ℕ) (q r : Port) (l : Line) (older : List Line) (round window : ℕ) → TwoLead header setting late t stays s a b q r l older world →
      Spans setting (ROUND + late) round → Spans setting (WINDOW + late) window → l.did.step.at + (round + 2 * window + 2 * long) < t →
      Changed (view q (of a (l ∷ older))) (view q (of a world)) ⊎ Changed (view r (of b (l ∷ older))) (view r (of b world))
  one_changes a b q r l older round window two rounds windows told =
      let seen : (n : ℕ) (p : Port) → Within (view p (of n (l ∷ older))) (view p (of n world)) = λ n p. view_within p (of n (l ∷ older)) (of n world)
      (Within_of n (l ∷ older) world two.place) in
      elim (either (view q (of a (l ∷ older))) (view q (of a world)) (seen a q)) [
        | inl c ↦ inl c
        | inr first ↦ elim (either (view r (of b (l ∷ older))) (view r (of b world)) (seen b r)) [
          | inl c ↦ inr c
          | inr second ↦ absurd (no-more a b q r l older round window two rounds windows told first second)
        ]
      ]

-- in time: in the run up to then
module _ {clocks : Clocks} {header : HeaderValue} {setting : Setting} (set : SetByClocks clocks header setting) (events : List Event)
    (fits : Fits setting (run_by clocks header events)) (late long t : ℕ) (attended : Attended late (run_by clocks header events)) (slack : late ≤ SLACK)
    (stays : ℕ → Bool) (s : List Line) (delivered : Delivered setting long t stays s (run_by clocks header events)) (quick : IsQuick setting long) where
  abbrev World : List Line
  World = run_by clocks header events

  pub one_stops : OneStops header setting late long t stays s World
  one_stops a b q r l older round window two rounds windows told =
      let x = l.did.step.at + (round + 2 * window + 2 * long) in
      let part = cut clocks header x events in
      let less : x < t = told in
      let within = cut_within clocks header x events in
      let early : TwoLead header setting late (x + 1) stays s a b q r l older (run_by clocks header part) = record {
        place = cut_has clocks header x events l older two.place (omega arith);
        since = two.since;
        first = record {
          alone = two.first.alone;
          master = two.first.master;
          stays_is = two.first.stays_is;
          told = told_cut clocks header x setting events fits late t a attended two.first.told less;
        };
        second = record {
          alone = two.second.alone;
          master = two.second.master;
          stays_is = two.second.stays_is;
          told = told_cut clocks header x setting events fits late t b attended two.second.told less;
        };
        net = two.net;
        apart = two.apart;
      } in
      elim (one_changes set (run_by clocks header part) (clocked_runs_by_table clocks header part) (fits_at setting (run_by clocks header part) World fits
      within)
      (clocked_runs_wake clocks header part).1 (clocked_runs_ask_rivals clocks header part) late long (x + 1)
      (Everywhere_within _ (run_by clocks header part) World attended within) slack stays s
      (delivered_cut clocks header x setting events fits long t stays s delivered less) quick a b q r l older round window early rounds windows (omega arith)) [
        | inl c ↦ inl (changed_cut clocks header x setting events fits a q (view q (of a (l ∷ older))) c)
        | inr c ↦ inr (changed_cut clocks header x setting events fits b r (view r (of b (l ∷ older))) c)
      ]

pub clocked_runs_leave_one : ClockedRunsLeaveOne
clocked_runs_leave_one clocks header setting events late long t stays s set possible attended slack delivered quick =
    one_stops set events (clocked_runs_fit clocks header setting events set possible).0 late long t attended slack stays s delivered quick

pub runs_leave_one : RunsLeaveOne
runs_leave_one header setting events late long t stays s set possible = subst (λ h. Attended late h → late ≤ SLACK → Delivered setting long t stays s h →
    IsQuick setting long → OneStops header setting late long t stays s h) (runs_by_own_clocks header events)
    (clocked_runs_leave_one (clocks_of header) header setting events late long t stays s (set_own header setting set) (possible_own header events possible))
