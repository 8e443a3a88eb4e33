-- Beside a master that leads on no candidate wins.
use Rattle.std.proofs.Common.{sym, ap, subst, arith, true≢false, inl, inr, ◌∙◌, ◌≡◌, ◌≤◌, ◌<◌, ℕ, ◌+◌, ◌*◌, ◌==◌, if◌then◌else◌, Bool, true}
use Rattle.std.proofs.Common.{false, List, [], ◌∷◌, refl}
use Rattle.tsp_rules.specs.Values.{Act, Ack, Become, Candidate, Election, Follow, Good, Loose, Master, Message, Kind, PeerId, Peer, Port, Post, Quit, QuitKind}
use Rattle.tsp_rules.specs.Values.{Role, Starting, Took, RETRY, SLACK, TRIES, WINDOW}
use Rattle.tsp_rules.specs.{Guards.is_starting_role, SendRows.has_quit, SendRows.is_kind_quit, SendRows.is_quit, SendRows.next_number}
use Rattle.tsp_base.specs.Words.{Acts, Did, HeaderValue, Here, Line, MessageValue, Past, Seen, Within, is_among, is_shared, joined, line_of, of, open_to}
use Rattle.tsp_base.specs.Words.{peer_of, placed}
use Rattle.tsp_base.specs.Words.{dids, posts_of, role, sending_at, stood, time_of, view}
use Rattle.tsp_base.proofs.PlaceLemmas.{Within_all, Within_comparable, Within_length, Within_tail, Within_through}
use Rattle.tsp_promises.specs.{Fits.Fits, Fits.node_of, HoldFits.LeadFits, Resolved.QuietAt, Setting.Setting, Setting.setup_of}
use Rattle.tsp_promises.proofs.{shared.Clocks.tick_mono, shared.EverywhereLemmas.Everywhere_at, shared.EverywhereLemmas.Everywhere_within}
use Rattle.tsp_promises.proofs.{shared.HistoryPlaces.line_on}
use Rattle.tsp_promises.proofs.{shared.HistoryPlaces.own_in, promised.ResolvedProof.stays_quiet}
use Rattle.tsp_promises.proofs.promised.OwnFitsProof.{Located, deed_fits, fits_at, fits_in, locate, place_time, tick_in}
use Rattle.tsp_promises.proofs.promised.SendProof.{opened}
use Rattle.tsp_run.specs.{Clocked.Clocks, Clocked.SetByClocks, Clocked.clocks_of, Clocked.run_by}
use Rattle.tsp_run.proofs.{OwnClocks.possible_own, OwnClocks.runs_by_own_clocks, OwnClocks.set_own, RunFits.clocked_runs_fit}
use Rattle.tsp_progress.specs.AnswersInTime.{AnswerTaken, Asks}
use Rattle.tsp_progress.specs.{ByTable.ByTable, ByTable.node_in, ByTable.port_before, Delivered.Arrives, Delivered.Delivered, Delivered.PostsTo}
use Rattle.tsp_progress.specs.{FoundInTime.IsQuick, NoneBeside.ClockedRunsLeadOn, NoneBeside.StaysUp, NoneBeside.NoneBeside, NoneBeside.RunsLeadOn}
use Rattle.tsp_progress.specs.Heeds.{DoesNext, Hears, arms_for_delay, follow_acts, has_no_master, is_candidate_role, is_master_role, posts_bare, role_before}
use Rattle.tsp_progress.specs.{OneStops.Spans, RefusedLoses.WinsAfter, SendsEnd.SendsEnd, Watched.Attended, WinsLate.WinsLate}
use Rattle.tsp_progress.proofs.{AnswersProof.hears_there, HeedsProof.all_heed, LeadsKept.leads_later, NeverLateProof.newest, NeverLateProof.same_tick}
use Rattle.tsp_progress.proofs.StopPlaces.{next_place, within_span}
use Rattle.tsp_progress.proofs.{PortSetups.differ, SendYoung.open_here, SendYoung.send_young, SendsEndProof.sends_end, TableProof.clocked_runs_by_table}
use Rattle.tsp_progress.proofs.{TableRows.within_joined, WinsLateProof.clocked_runs_win_late, WinsNot.no_change, WinsNot.same_role}
use Rattle.tsp_progress.proofs.WorldPlaces.{WorldPlace, own_place, world_place}

-- an open QUIT
quit_kind : (k : Kind) → is_kind_quit k ≡ true → k ≡ QuitKind
quit_kind QuitKind e = refl
quit_kind _ e = absurd (true≢false (sym e))

sent_kind : (f : Did) (o : List Seen) (n : ℕ) (p : PeerId) (m : MessageValue) → f.deed ≡ Acts (Post (Peer p) (Message m)) →
    is_quit (sending_at (Here f ∷ o) n) ≡ is_kind_quit m.kind
sent_kind f o n p m is = rw is refl

record OpenQuit (p : PeerId) (seen : List Seen) : Type 0 where
  pub first : Did
  pub older : List Seen
  pub open_is : open_to p seen ≡ Here first ∷ older
  pub place : Within (Here first ∷ older) seen
  pub message : MessageValue
  pub deed : first.deed ≡ Acts (Post (Peer p) (Message message))
  pub kind : message.kind ≡ QuitKind

open_quit : (p : PeerId) (seen : List Seen) → is_quit (sending_at (open_to p seen) (posts_of p seen)) ≡ true → OpenQuit p seen
open_quit p seen e = by_list (open_to p seen) refl e where
  by_list : (list : List Seen) → open_to p seen ≡ list → is_quit (sending_at list (posts_of p seen)) ≡ true → OpenQuit p seen
  by_list [] is q = absurd (true≢false (sym q))
  by_list (s ∷ o) is q =
      let h = open_here p seen s o is in
      let here : open_to p seen ≡ Here h.0 ∷ o = is ∙ ap (λ k. k ∷ o) h.1 in
      let op = opened p seen h.0 o here in
      let quits : is_quit (sending_at (Here h.0 ∷ o) (posts_of p seen)) ≡ true = subst (λ k. is_quit (sending_at (k ∷ o) (posts_of p seen)) ≡ true) h.1 q in
      record {
        first = h.0;
        older = o;
        open_is = here;
        place = op.place;
        message = op.message;
        deed = op.begins.deed;
        kind = quit_kind op.message.kind (sym (sent_kind h.0 o (posts_of p seen) p op.message op.begins.deed) ∙ quits);
      }

candidate_alone : (r : Role) → is_candidate_role r ≡ true → has_no_master r ≡ true
candidate_alone Candidate e = refl
candidate_alone _ e = absurd (true≢false (sym e))

-- what comes first of what comes next
first_next : (a : Act) (rest : List Act) (l : Line) (older lines : List Line) → DoesNext (a ∷ rest) l older lines →
    Within (line_of l.did.step l.did.tick l.port (Acts a) ∷ l ∷ older) lines
first_next a rest l older lines w =
    let line = line_of l.did.step l.did.tick l.port (Acts a) in
    Within_through (line ∷ l ∷ older) (joined l.did.step l.did.tick (placed l.port rest) (line ∷ l ∷ older)) lines
    (within_joined l.did.step l.did.tick (placed l.port rest) (line ∷ l ∷ older) (line ∷ l ∷ older) (Within_all (line ∷ l ∷ older))) w

-- the same where p's port is master when it takes what was asked of it, whatever comes later
pub record MasterThen (setting : Setting) (long : ℕ) (s : List Line) (z : Line) (asked : List Line) (p : PeerId) (world : List Line) : Type 0 where
  pub port : Port
  pub net : setting.net p.0 port ≡ setting.net (node_of z) z.port
  pub leads : (line : Line) (before : List Line) → Within (line ∷ before) world → Within (z ∷ asked) before → line.did.step.at ≤ z.did.step.at + long →
      role (view port (of p.0 before)) ≡ Master
  pub long_since : time_of (dids s) + WINDOW ≤ z.did.step.at
  pub up : StaysUp (node_of z) z.port s world

module _ {clocks : Clocks} {header : HeaderValue} {setting : Setting} (set : SetByClocks clocks header setting) (world : List Line)
    (table : ByTable header world) (fits : Fits setting world) (wins : WinsLate world) (late long t : ℕ) (ends : SendsEnd late world) (slack : late ≤ SLACK)
    (stays : ℕ → Bool) (s : List Line) (delivered : Delivered setting long t stays s world) (quick : IsQuick setting long) where
  -- a send lives no longer than 5 s
  span : Spans setting (TRIES * RETRY + late) WINDOW
  span = let small = setting.small in omega (arith, small, slack)

  -- a port that isn't Starting notes a QUIT
  notes : (n : ℕ) (l : Line) (older : List Line) (p : PeerId) (m : MessageValue) → Hears (node_in header n) (of n world) l older p m → m.kind ≡ QuitKind →
      (r : Role) → role_before (node_in header n) l older ≡ r → is_starting_role r ≡ false →
      Within (line_of l.did.step l.did.tick l.port (Acts (Quit p)) ∷ l ∷ older) (of n world)
  notes n l older p m h kind Starting is up = absurd (true≢false up)
  notes n l older p m h kind (Follow q) is up = first_next (Quit p) (posts_bare Ack m.number (port_before (node_in header n) l older) p ∷
      []) l older (of n world)
      ((all_heed header world table n).follows.stays l older p m h kind (rw is refl) refl)
  notes n l older p m h kind Master is up = first_next (Quit p) (posts_bare Ack m.number (port_before (node_in header n) l older) p ∷
      follow_acts p l.did.tick (port_before (node_in header n) l older)) l older (of n world)
      ((all_heed header world table n).follows.quits l older p m h kind (rw is refl) refl)
  notes n l older p m h kind Loose is up = first_next (Quit p) (posts_bare Ack m.number (port_before (node_in header n) l older) p ∷
      follow_acts p l.did.tick (port_before (node_in header n) l older)) l older (of n world)
      ((all_heed header world table n).follows.quit l older p m h kind (rw is refl) refl)
  notes n l older p m h kind Candidate is up = first_next (Quit p) (posts_bare Ack m.number (port_before (node_in header n) l older) p ∷
      follow_acts p l.did.tick (port_before (node_in header n) l older)) l older (of n world)
      ((all_heed header world table n).follows.quit l older p m h kind (rw is refl) refl)

  module _ (z : Line) (asked : List Line) (p : PeerId) (m : MessageValue)
      (asks : Asks setting long t stays s z asked world p (Message m)) (kind : m.kind ≡ Election)
      (stands : is_candidate_role (role (view z.port (of (node_of z) asked))) ≡ true) (beside : MasterThen setting long s z asked p world) (c : Line)
      (before : List Line) (w : WinsAfter z asked c before world) where
    abbrev N : ℕ
    N = node_of z

    abbrev M : PeerId
    M = peer_of N

    -- the master hears of it
    arr : Arrives setting long z asked world p (Message m)
    arr = delivered z asked p (Message m) asks.posts asks.since asks.there (let early = asks.early in omega (arith, early))

    abbrev K : Line
    K = arr.line

    k-late : z.did.step.at ≤ K.did.step.at
    k-late = place_time setting (z ∷ asked) (K ∷ arr.before) (fits_at setting (K ∷ arr.before) world fits arr.place) (inr arr.later)

    -- what is posted or taken after s
    s-before : (line : Line) (lines : List Line) → Within (line ∷ lines) world → time_of (dids s) < line.did.step.at → Within s lines
    s-before line lines place less =
        elim (Within_comparable s (line ∷ lines) world (Within_through s asked world asks.since (Within_tail z asked world asks.posts.place)) place) [
          | inl (inl e) ↦ absurd (let same : time_of (dids s) ≡ line.did.step.at = ap (λ ls. time_of (dids ls)) e in omega (arith, same, less))
          | inl (inr v) ↦ v
          | inr v ↦ absurd (let order = place_time setting (line ∷ lines) s (fits_at setting s world fits
              (Within_through s asked world asks.since (Within_tail z asked world asks.posts.place))) v in omega (arith, order, less))
        ]

    k-port : K.port ≡ beside.port
    k-port = setting.apart p.0 K.port beside.port (sym (ap (λ k. setting.net k K.port) arr.node) ∙ arr.net ∙ sym beside.net)

    k-role : role_before (node_in header p.0) K (of p.0 arr.before) ≡ Master
    k-role = ap (λ q. role (view q (of p.0 arr.before))) k-port ∙
        beside.leads K arr.before arr.place arr.later arr.soon

    hears : Hears (node_in header p.0) (of p.0 world) K (of p.0 arr.before) M m
    hears = hears_there set world table long t stays s delivered z asked p m asks.posts arr (ap is_starting_role k-role)

    -- it sends it away, or does so already
    record Away : Type 0 where
      pub line : Line
      pub lines : List Line
      pub place : Within (line ∷ lines) world
      pub node : node_of line ≡ p.0
      pub port : line.port ≡ beside.port
      pub message : MessageValue
      pub deed : line.did.deed ≡ Acts (Post (Peer M) (Message message))
      pub kind_is : message.kind ≡ QuitKind
      pub soon : line.did.step.at ≤ z.did.step.at + long
      pub young : z.did.step.at < line.did.step.at + WINDOW

    abbrev There : Past
    There = port_before (node_in header p.0) K (of p.0 arr.before)

    begins : has_quit M K.did.tick There ≡ false → Away
    begins free =
        let number = next_number K.did.tick There in
        let act = posts_bare QuitKind number There M in
        let unopened : (if has_quit M K.did.tick There then false else true) ≡ true = ap (λ b. if b then false else true) free in
        let next = (all_heed header world table p.0).votes.sends_away K (of p.0 arr.before) M m hears kind (ap is_master_role k-role) unopened in
        let n = next_place world p.0 K arr.before arr.place arr.node (act ∷ []) act (record { front = []; back = []; is = refl }) next in
        let soon = arr.soon in
        let order = k-late in
        record {
          line = line_of K.did.step K.did.tick K.port (Acts act);
          lines = n.before;
          place = n.place;
          node = arr.node;
          port = k-port;
          message = _;
          deed = refl;
          kind_is = refl;
          soon = soon;
          young = omega (arith, order);
        }

    is-open : has_quit M K.did.tick There ≡ true → Away
    is-open has =
        let seen = view K.port (of p.0 arr.before) in
        let o : OpenQuit M seen = open_quit M seen has in
        let before_in = Within_tail K arr.before world arr.place in
        let before_fits = fits_at setting arr.before world fits before_in in
        let p-at : Located p.0 K.port arr.before o.first o.older = locate p.0 K.port arr.before o.first o.older (ap (λ d. is_shared d) o.deed) o.place in
        let line = line_on K.port o.first in
        let place = Within_through (line ∷ p-at.older) arr.before world p-at.place before_in in
        let young = send_young setting late arr.before before_fits (Everywhere_within _ arr.before world ends before_in) p.0 K.port M o.first o.older
        o.open_is in
        let tick : K.did.tick ≡ newest (of (node_of K) arr.before) = same_tick setting K arr.before (Took (Peer M) (Good (Message m))) arr.took
        (fits_in setting K arr.before world fits arr.place) before_fits in
        let own : newest (of (node_of K) arr.before) ≡ newest (of p.0 arr.before) = ap (λ k. newest (of k arr.before)) arr.node in
        let k-tick : K.did.tick ≡ setting.tick p.0 K.did.step.at = tick_in setting p.0 K arr.before world fits arr.node arr.place in
        let f-tick : o.first.tick ≡ setting.tick p.0 o.first.step.at = tick_in setting p.0 line p-at.older world fits p-at.node place in
        let near = within_span setting p.0 o.first.step.at K.did.step.at (TRIES * RETRY + late) WINDOW span (omega (arith, young, tick, own, k-tick, f-tick)) in
        let early : o.first.step.at ≤ K.did.step.at = place_time setting (line ∷ p-at.older) (K ∷ arr.before) (fits_at setting (K ∷ arr.before) world fits
        arr.place) (inr p-at.place) in
        let order = k-late in
        let soon = arr.soon in
        record {
          line = line;
          lines = p-at.older;
          place = place;
          node = p-at.node;
          port = k-port;
          message = o.message;
          deed = o.deed;
          kind_is = o.kind;
          soon = omega (arith, early, soon);
          young = omega (arith, near, order);
        }

    away : Away
    away = by_case (has_quit M K.did.tick There) refl where
      by_case : (b : Bool) → has_quit M K.did.tick There ≡ b → Away
      by_case true e = is-open e
      by_case false e = begins e

    abbrev F : Line
    F = away.line

    f-net : setting.net (node_of F) F.port ≡ setting.net N z.port
    f-net = ap (λ k. setting.net k F.port) away.node ∙ ap (setting.net p.0) away.port ∙ beside.net

    f-posts : PostsTo setting F away.lines world M (Message away.message)
    f-posts = record {
      place = away.place;
      deed = away.deed;
      member = ap (λ k. is_among M (setting.members k)) f-net ∙ setting.own N z.port;
      other = ap (λ k. N == k) away.node ∙ differ p.0 N asks.posts.other;
    }

    f-late : time_of (dids s) < F.did.step.at
    f-late = let a = beside.long_since in let b = away.young in omega (arith, a, b)

    quit-comes : Arrives setting long F away.lines world M (Message away.message)
    quit-comes = delivered F away.lines M (Message away.message) f-posts
        (s-before F away.lines away.place f-late) asks.here
        (let soon = away.soon in let early = asks.early in omega (arith, soon, early))

    abbrev G : Line
    G = quit-comes.line

    abbrev G-before : List Line
    G-before = quit-comes.before

    g_port : G.port ≡ z.port
    g_port = setting.apart N G.port z.port (sym (ap (λ k. setting.net k G.port) quit-comes.node) ∙ quit-comes.net ∙ f-net)

    g_late : F.did.step.at ≤ G.did.step.at
    g_late = place_time setting (F ∷ away.lines) (G ∷ G-before) (fits_at setting (G ∷ G-before) world fits quit-comes.place) (inr quit-comes.later)

    g-up : is_starting_role (role_before (node_in header N) G (of N G-before)) ≡ false
    g-up = ap (λ q. is_starting_role (role (view q (of N G-before)))) g_port ∙
        beside.up G-before (s-before G G-before quit-comes.place (let a = f-late in let b = g_late in omega (arith, a, b)))
        (Within_tail G G-before world quit-comes.place)

    g-hears : Hears (node_in header N) (of N world) G (of N G-before) (peer_of (node_of F)) away.message
    g-hears = hears_there set world table long t stays s delivered F away.lines M away.message f-posts quit-comes g-up

    -- after it asked, it follows, and doesn't win
    after : Within (z ∷ asked) G-before → ⊥
    after later =
        let q = peer_of (node_of F) in
        let taken : AnswerTaken long z asked world p (Message away.message) = record {
          line = G;
          before = G-before;
          place = quit-comes.place;
          later = later;
          node = quit-comes.node;
          port = g_port;
          took = quit-comes.took ∙ ap (λ k. Acts (Took (Peer (peer_of k)) (Good (Message away.message)))) away.node;
          soon = (let a = quit-comes.soon in let b = away.soon in omega (arith, a, b));
        } in
        let same : role_before (node_in header N) G (of N G-before) ≡ role (view z.port (of N asked)) =
        ap (λ k. role (view k (of N G-before))) g_port ∙
        same_role setting world fits wins long quick z asked asks.posts.place p (Message away.message) taken c before w in
        let alone = candidate_alone (role_before (node_in header N) G (of N G-before)) (ap is_candidate_role same ∙ stands) in
        let past = port_before (node_in header N) G (of N G-before) in
        let next = (all_heed header world table N).follows.quit G (of N G-before) q away.message g-hears away.kind_is alone refl in
        no_change setting world fits wins long quick z asked asks.posts.place p (Message away.message) taken c before w
        (Quit q ∷ posts_bare Ack away.message.number past q ∷ follow_acts q G.did.tick past) (Follow q) (record {
          front = Quit q ∷ posts_bare Ack away.message.number past q ∷ [];
          back = arms_for_delay G.did.tick past ∷ _ ∷ [];
          is = refl;
        }) next

    -- before that it noted the QUIT, and so doesn't win
    c-lead : LeadFits (setup_of setting (node_of c) c.port) c.did (view c.port (of (node_of c) before))
    c-lead = deed_fits setting c before (Acts (Become Master)) w.wins (fits_in setting c before world fits w.place)

    c-soon : c.did.tick ≤ z.did.tick + (WINDOW + SLACK)
    c-soon =
        let seen : view c.port (of (node_of c) before) ≡ view z.port (of N before) = ap (λ k. view c.port (of k before)) w.node ∙
        ap (λ q. view q (of N before)) w.port in
        let both : Here c-lead.start ∷ c-lead.idle ≡ Here w.start ∷ w.idle = sym c-lead.start_is ∙ (ap stood seen ∙ w.stood_still) in
        let same : c-lead.start ≡ w.start = cc in
        let tick = ap (λ (d : Did). d.tick) same in
        let soon = c-lead.soon in
        let at = w.tick in
        omega (arith, tick, soon, at)

    earlier : Within (G ∷ G-before) asked → ⊥
    earlier first =
        let q = peer_of (node_of F) in
        let line = line_of G.did.step G.did.tick G.port (Acts (Quit q)) in
        let own = notes N G (of N G-before) q away.message g-hears away.kind_is (role_before (node_in header N) G (of N G-before)) refl g-up in
        let win : Within (c ∷ of N before) (of N world) = own_place N c before world w.node w.place in
        let inside : Within (G ∷ of N G-before) (of N before) = own_in N G G-before before quit-comes.node
        (Within_through (G ∷ G-before) asked before first (Within_tail z asked before w.later)) in
        let few = Within_length (G ∷ of N G-before) (of N before) inside in
        let quit-in : Within (line ∷ G ∷ of N G-before) (of N before) = elim (Within_comparable (line ∷ G ∷ of N G-before) (c ∷ of N before) (of N world) own
        win) [
          | inl (inl e) ↦ absurd (let same : line ≡ c = cc in let deed : Acts (Quit q) ≡ Acts (Become Master) = ap (λ (k : Line). k.did.deed) same ∙ w.wins in
              let bad : ⊥ = cc in bad)
          | inl (inr v) ↦ v
          | inr (inl e) ↦ absurd (let same : c ≡ line = cc in let deed : Acts (Become Master) ≡ Acts (Quit q) = sym w.wins ∙
              ap (λ (k : Line). k.did.deed) same in
              let bad : ⊥ = cc in bad)
          | inr (inr v) ↦ absurd (let many = Within_length (c ∷ of N before) (G ∷ of N G-before) v in omega (arith, few, many))
        ] in
        let place : WorldPlace N line (G ∷ of N G-before) before = world_place N line (G ∷ of N G-before) before quit-in in
        let quiet : QuietAt c before = Everywhere_at QuietAt c before world (stays_quiet setting world fits) w.place in
        let long_ago = quiet line place.older q w.wins place.place (place.node ∙ sym w.node) (g_port ∙ sym w.port) refl in
        let g-tick : G.did.tick ≡ setting.tick N G.did.step.at = tick_in setting N G G-before world fits quit-comes.node quit-comes.place in
        let z-tick : z.did.tick ≡ setting.tick N z.did.step.at = tick_in setting N z asked world fits refl asks.posts.place in
        let young = away.young in
        let order = g_late in
        let mono = tick_mono setting N z.did.step.at (G.did.step.at + WINDOW) (omega (arith, young, order)) in
        let fast = (setting.ticks N).fast G.did.step.at WINDOW in
        let small = setting.small in
        let soon = c-soon in
        omega (arith, long_ago, g-tick, z-tick, mono, fast, small, soon)

    pub none_then : ⊥
    none_then = elim (Within_comparable (G ∷ G-before) (z ∷ asked) world quit-comes.place asks.posts.place) [
      | inl (inl e) ↦ let same : G ≡ z = cc in mixed (ap (λ (k : Line). k.did.deed) same)
      | inl (inr v) ↦ earlier v
      | inr (inl e) ↦ let same : G ≡ z = cc in mixed (ap (λ (k : Line). k.did.deed) same)
      | inr (inr v) ↦ after v
    ] where
      mixed : G.did.deed ≡ z.did.deed → ⊥
      mixed e =
          let deed : Acts (Took (Peer (peer_of (node_of F))) (Good (Message away.message))) ≡ Acts (Post (Peer p) (Message m)) =
          sym quit-comes.took ∙ e ∙ asks.posts.deed in
          let bad : ⊥ = cc in bad

  pub none_beside : NoneBeside setting long t stays s world
  none_beside z asked p m asks kind stands beside c before w = none_then z asked p m asks kind stands (record {
    port = beside.port;
    net = beside.net;
    leads = λ line lines place later soon. (leads_later p.0 beside.port asked lines world beside.leads (Within_tail z asked lines later)
        (Within_tail line lines world place)).master;
    long_since = beside.long;
    up = beside.up;
  }) c before w

pub clocked_runs_lead_on : ClockedRunsLeadOn
clocked_runs_lead_on clocks header setting events late long t stays s set possible attended slack delivered quick =
    let world = run_by clocks header events in
    let fits = (clocked_runs_fit clocks header setting events set possible).0 in
    none_beside set world (clocked_runs_by_table clocks header events) fits (clocked_runs_win_late clocks header setting events set possible) late long t
    (sends_end setting late world fits attended) slack stays s delivered quick

pub runs_lead_on : RunsLeadOn
runs_lead_on header setting events late long t stays s set possible = subst (λ h. Attended late h → late ≤ SLACK → Delivered setting long t stays s h →
    IsQuick setting long → NoneBeside setting long t stays s h) (runs_by_own_clocks header events)
    (clocked_runs_lead_on (clocks_of header) header setting events late long t stays s (set_own header setting set) (possible_own header events possible))
