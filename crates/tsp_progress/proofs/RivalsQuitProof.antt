-- A master sends each rival away in time, and a master that is sent away follows.
use Rattle.std.proofs.Common.{sym, ap, subst, arith, true≢false, inl, inr, ◌∙◌, ◌≡◌, ◌≤◌, ◌<◌, ◌||◌, ℕ, ◌+◌, ◌==◌, Bool, true, false, if◌then◌else◌}
use Rattle.std.proofs.Common.{List, [], ◌∷◌, filter, Some, refl}
use Rattle.tsp_rules.specs.Values.{Act, Ring, Message, PeerId, Peer, Port, Post, QuitKind, ResolveAlarm, SLACK}
use Rattle.tsp_rules.specs.{Guards.rivals_at, SendRows.next_number}
use Rattle.tsp_base.specs.Words.{Acts, HeaderValue, Here, Line, Past, Seen, Within, armed, bare, deadline, grown, is_among, is_rival}
use Rattle.tsp_base.specs.Words.{is_shared, joined, line_of, of, peer_of, placed, view}
use Rattle.tsp_base.proofs.PlaceLemmas.{Within_all, Within_comparable, Within_strict, Within_tail, Within_through}
use Rattle.tsp_rules.proofs.GuardFacts.{same_peer}
use Rattle.tsp_promises.specs.{Fits.Fits, Fits.node_of, Setting.Setting}
use Rattle.tsp_promises.proofs.shared.HistoryPlaces.{line_on, of_own, own_in}
use Rattle.tsp_promises.proofs.promised.OwnFitsProof.{Located, fits_at, fits_in, locate}
use Rattle.tsp_promises.proofs.shared.EverywhereLemmas.{Everywhere_at, Everywhere_within}
use Rattle.tsp_run.specs.{Clocked.Clocks, Clocked.SetByClocks, Clocked.clocks_of, Clocked.run_by}
use Rattle.tsp_run.proofs.{OwnClocks.possible_own, OwnClocks.runs_by_own_clocks, OwnClocks.set_own, RunFits.clocked_runs_fit}
use Rattle.tsp_progress.specs.AlarmsFit.{AlarmsFit, Manner}
use Rattle.tsp_progress.specs.{ByTable.ByTable, ByTable.node_in, ByTable.port_before, Corrects.quits_to, Delivered.Delivered, FoundInTime.Changed}
use Rattle.tsp_progress.specs.{Heeds.DoesNext}
use Rattle.tsp_progress.specs.{Heeds.role_before, Resolving.AllAsk, RivalsFound.RivalKnown, RunsWake.manner_of, Wakes.AllWake, Watched.Attended, Watched.Told}
use Rattle.tsp_progress.specs.MastersTell.{LeadsOn, OtherMember}
use Rattle.tsp_progress.specs.RivalsQuit.{ClockedRunsQuitRivals, ClockedRunsStopByQuit, QuitsStop, RivalsQuit, RunsQuitRivals, RunsStopByQuit, SendsAwayBy}
use Rattle.tsp_progress.proofs.{AnswersProof.hears_there, AnswersProof.master_awake, AskNodes.clocked_runs_ask_rivals, CorrectsProof.all_correct}
use Rattle.tsp_progress.proofs.{HeedsProof.all_heed, PortSetups.PortIs, PortSetups.differ, PortSetups.member_port, RivalsFoundProof.armed_once}
use Rattle.tsp_progress.proofs.{RunWakes.clocked_runs_wake}
use Rattle.tsp_progress.proofs.LeadsKept.{WentOff, changed_more, changed_since, off_due, rival_kept, until_off}
use Rattle.tsp_progress.proofs.{NeverLateProof.never_late, NeverLateProof.newest, NeverLateProof.on_time, NeverLateProof.same_tick}
use Rattle.tsp_progress.proofs.{SearchKept.alarms_within, SearchKept.view_within, TableProof.clocked_runs_by_table, TableRows.within_joined}
use Rattle.tsp_progress.proofs.WorldPlaces.{Among, WorldPlace, act_place, in_order, world_place}

-- what is in a list is among those of it that pass a test
pub among_filter : (test : PeerId → Bool) (p : PeerId) (ps : List PeerId) → is_among p ps ≡ true → test p ≡ true → is_among p (filter test ps) ≡ true
among_filter test p [] member e = absurd (true≢false (sym member))
among_filter test p (q ∷ rest) member e = by_case (q.0 == p.0) refl (λ m. among_filter test p rest m e) member where
  more : (b : Bool) → is_among p (filter test rest) ≡ true → is_among p (if b then q ∷ filter test rest else filter test rest) ≡ true
  more true h = after (q.0 == p.0) h where
    after : (c : Bool) → is_among p (filter test rest) ≡ true → (c || is_among p (filter test rest)) ≡ true
    after true h = refl
    after false h = h
  more false h = h

  by_case : (b : Bool) → (q.0 == p.0) ≡ b → (is_among p rest ≡ true → is_among p (filter test rest) ≡ true) → (b || is_among p rest) ≡ true →
      is_among p (filter test (q ∷ rest)) ≡ true
  by_case true same k m =
      let is : q ≡ p = same_peer q p same in
      let passes : test q ≡ true = ap test is ∙ e in
      rw passes (rw same refl)
  by_case false differs k m = more (test q) (k m)

-- a QUIT to p is among those that begin
record QuitAmong (p : PeerId) (ps : List PeerId) (x : ℕ) (past : Past) : Type 0 where
  pub number : ℕ
  pub among : Among (Post (Peer p) (Message (bare QuitKind number past.name))) (quits_to ps x past)

quit_among : (p : PeerId) (ps : List PeerId) (x : ℕ) (past : Past) → is_among p ps ≡ true → QuitAmong p ps x past
quit_among p [] x past member = absurd (true≢false (sym member))
quit_among p (q ∷ rest) x past member = by_case (q.0 == p.0) refl (λ m. quit_among p rest x (grown x past (First ∷ [])) m) member where
  First : Act
  First = Post (Peer q) (Message (bare QuitKind (next_number x past) past.name))

  by_case : (b : Bool) → (q.0 == p.0) ≡ b → (is_among p rest ≡ true → QuitAmong p rest x (grown x past (First ∷ []))) → (b || is_among p rest) ≡ true →
      QuitAmong p (q ∷ rest) x past
  by_case true same k m = record {
    number = next_number x past;
    among = record {
      front = [];
      back = quits_to rest x (grown x past (First ∷ []));
      is = ap (λ z. Post (Peer z) (Message (bare QuitKind (next_number x past) past.name)) ∷ quits_to rest x (grown x past (First ∷ []))) (same_peer q p same);
    };
  }
  by_case false differs k m = let o = k m in record {
    number = o.number;
    among = record { front = First ∷ o.among.front; back = o.among.back; is = ap (λ acts. First ∷ acts) o.among.is };
  }

module _ {clocks : Clocks} {header : HeaderValue} {setting : Setting} (set : SetByClocks clocks header setting) (world : List Line)
    (table : ByTable header world) (fits : Fits setting world) (wakes : AllWake (manner_of header) world) (asking : AllAsk header world) (late : ℕ)
    (attended : Attended late world) (slack : late ≤ SLACK) (t : ℕ) where
  module _ (at n : ℕ) (q : Port) (p : PeerId) (l : Line) (older : List Line) (node : node_of l ≡ n) (leads : LeadsOn n q (l ∷ older) world)
      (member : OtherMember setting n q p) (known : RivalKnown p at n q (l ∷ older) world) (long : at + late < setting.tick n t)
      (told : Told late setting t n world) where
    abbrev M : Manner
    M = manner_of header n

    abbrev Whole : List Seen
    Whole = view q (of n world)

    abbrev Early : List Seen
    Early = view q (of n (l ∷ older))

    abbrev Known : List Seen
    Known = view q known.lines

    acts : AlarmsFit M Whole
    acts = (wakes n q).acts

    known-in : Within Known Whole
    known-in = view_within q known.lines (of n world) known.place

    early-known : Within Early Known
    early-known = view_within q (of n (l ∷ older)) known.lines known.since

    unchanged : ¬ Changed Known Whole
    unchanged c = leads.stays (changed_since Early Known Whole early-known c)

    off : WentOff Known at Whole
    off = elim (until_off Known at Whole known-in unchanged (armed_once header world asking n q Known Whole (Within_all Whole)) known.armed_is) [
      | inl o ↦ o
      | inr still ↦ let due = (told q).alarms ResolveAlarm at still in absurd (omega (arith, due, long))
    ]

    off-at : is_shared off.off.deed ≡ false → Located n q world off.off off.before
    off-at own = locate n q world off.off off.before own off.place

    rings : off.off.deed ≡ Acts (Ring ResolveAlarm)
    rings = elim off.is [
      | inl is ↦ is
      | inr is ↦
          let r = off-at (ap is_shared is) in
          absurd (Everywhere_at _ (line_on q off.off) r.older world (never_late (manner_of header) setting late world fits wakes attended slack) r.place
          ResolveAlarm is)
    ]

    ring : Located n q world off.off off.before
    ring = off-at (ap is_shared rings)

    abbrev L : Line
    L = line_on q off.off

    abbrev Lines : List Line
    Lines = of n ring.older

    -- in time
    soon : off.off.tick ≤ at + late
    soon =
        let past-fits : AlarmsFit M off.before = alarms_within M off.before Whole (Within_tail (Here off.off) off.before Whole off.place) acts in
        let older_fits = fits_at setting ring.older world fits (Within_tail L ring.older world ring.place) in
        let older_attended = Everywhere_within _ ring.older world attended (Within_tail L ring.older world ring.place) in
        let on = on_time setting late ring.older older_fits older_attended M n q (subst (λ s. AlarmsFit M s) (sym ring.before) past-fits) ResolveAlarm at
        (subst (λ s. deadline (armed s) ResolveAlarm ≡ Some at) (sym ring.before) off.armed_is) in
        let tick : off.off.tick ≡ newest (of off.off.step.node ring.older) = same_tick setting L ring.older (Ring ResolveAlarm) rings
        (fits_in setting L ring.older world fits ring.place) older_fits in
        let own : newest (of off.off.step.node ring.older) ≡ newest Lines = ap (λ k. newest (of k ring.older)) ring.node in
        omega (arith, on, tick, own)

    own-ring : Within (L ∷ Lines) (of n world)
    own-ring = own_in n L ring.older world ring.node ring.place

    port_is : PortIs header setting n q
    port_is = member_port set n q p member.member (differ p.0 n member.other)

    abbrev Rung : Past
    Rung = grown off.off.tick (port_before (node_in header n) L Lines) (Ring ResolveAlarm ∷ [])

    -- p is a rival then
    rival-then : is_rival p off.before ≡ true
    rival-then = rival_kept Known p off.before off.since (λ c. unchanged (changed_more Known off.before Whole
        (Within_tail (Here off.off) off.before Whole off.place) c)) known.rival

    among-rivals : is_among p (rivals_at off.off.tick Rung) ≡ true
    among-rivals = among_filter (λ z. is_rival z Rung.seen) p Rung.peers (ap (is_among p) port_is.peers ∙ member.member)
        (ap (is_rival p) ring.before ∙ rival-then)

    quit : QuitAmong p (rivals_at off.off.tick Rung) off.off.tick Rung
    quit = quit_among p (rivals_at off.off.tick Rung) off.off.tick Rung among-rivals

    next : DoesNext (quits_to (rivals_at off.off.tick Rung) off.off.tick Rung) L Lines (of n world)
    next = (all_correct header world table n).resolves L Lines own-ring rings

    abbrev Sends : Act
    Sends = Post (Peer p) (Message (bare QuitKind quit.number Rung.name))

    abbrev Sent : Line
    Sent = line_of off.off.step off.off.tick q (Acts Sends)

    abbrev Own : List Line
    Own = joined off.off.step off.off.tick (placed q quit.among.front) (L ∷ Lines)

    sent-place : WorldPlace n Sent Own world
    sent-place = world_place n Sent Own world (act_place off.off.step off.off.tick q Sends (quits_to (rivals_at off.off.tick Rung) off.off.tick Rung) (L ∷
        Lines)
        (of n world) quit.among next)

    -- the ring stands after what was known
    known-before : Within known.lines Lines
    known-before = elim (Within_comparable known.lines (L ∷ Lines) (of n world) known.place own-ring) [
      | inl v ↦ elim v [
        | inl e ↦ behind (subst (λ s. Within (L ∷ Lines) s) (sym e) (Within_all (L ∷ Lines)))
        | inr w ↦ w
      ]
      | inr v ↦ behind v
    ] where
      behind : {A : Type 0} → Within (L ∷ Lines) known.lines → A
      behind v = absurd (Within_strict _ (view q Lines) Known (view_within q (L ∷ Lines) known.lines v)
          (subst (λ s. Within Known s) (sym ring.before) off.since))

    since : Within (l ∷ older) sent-place.older
    since = in_order n l older Sent sent-place.older world leads.place sent-place.place
        (Within_through (l ∷ of n older) Lines (of n sent-place.older)
        (Within_through (l ∷ of n older) known.lines Lines (subst (λ s. Within s known.lines) (of_own n l older node) known.since) known-before)
        (subst (λ ls. Within Lines ls) (sym sent-place.own_is)
        (within_joined off.off.step off.off.tick (placed q quit.among.front) (L ∷ Lines) Lines (inr (Within_all Lines)))))

    pub sends_away_by : SendsAwayBy late at n q p (l ∷ older) world
    sends_away_by = record {
      line = Sent;
      before = sent-place.older;
      place = sent-place.place;
      since = since;
      node = ring.node;
      port = refl;
      number = quit.number;
      name = Rung.name;
      deed = refl;
      due = off_due Known M at Whole acts off;
      soon = soon;
    }

  pub rivals_quit : RivalsQuit setting late t world
  rivals_quit at n q p l older node leads member known long told = sends_away_by at n q p l older node leads member known long told

pub clocked_runs_quit_rivals : ClockedRunsQuitRivals
clocked_runs_quit_rivals clocks header setting events late t set possible attended slack =
    rivals_quit set (run_by clocks header events) (clocked_runs_by_table clocks header events) (clocked_runs_fit clocks header setting events set possible).0
    (clocked_runs_wake clocks header events).1 (clocked_runs_ask_rivals clocks header events) late attended slack t

pub runs_quit_rivals : RunsQuitRivals
runs_quit_rivals header setting events late t set possible = subst (λ h. Attended late h → late ≤ SLACK → RivalsQuit setting late t h)
    (runs_by_own_clocks header events)
    (clocked_runs_quit_rivals (clocks_of header) header setting events late t (set_own header setting set) (possible_own header events possible))

-- a master that a QUIT reaches
module _ {clocks : Clocks} {header : HeaderValue} {setting : Setting} (set : SetByClocks clocks header setting) (world : List Line)
    (table : ByTable header world) (long t : ℕ) (stays : ℕ → Bool) (s : List Line) (delivered : Delivered setting long t stays s world) where
  pub quits_stop : QuitsStop header setting long t stays s world
  quits_stop l older p m tells kind =
      let a = delivered l older p (Message m) tells.posts tells.since tells.there tells.early in
      record {
        arrives = a;
        does = λ leads. (all_heed header world table p.0).follows.quits a.line (of p.0 a.before) (peer_of (node_of l)) m
            (hears_there set world table long t stays s delivered l older p m tells.posts a
            (master_awake set world table long t stays s delivered (role_before (node_in header p.0) a.line (of p.0 a.before)) leads)) kind leads refl;
      }

pub clocked_runs_stop_by_quit : ClockedRunsStopByQuit
clocked_runs_stop_by_quit clocks header setting events long t stays s set delivered =
    quits_stop set (run_by clocks header events) (clocked_runs_by_table clocks header events) long t stays s delivered

pub runs_stop_by_quit : RunsStopByQuit
runs_stop_by_quit header setting events long t stays s set = subst (λ h. Delivered setting long t stays s h → QuitsStop header setting long t stays s h)
    (runs_by_own_clocks header events) (clocked_runs_stop_by_quit (clocks_of header) header setting events long t stays s (set_own header setting set))
