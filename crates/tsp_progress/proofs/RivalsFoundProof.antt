-- A master that looks for rivals finds each that answers.
use Rattle.std.proofs.Common.{sym, ap, subst, arith, inr, ◌∙◌, ◌≡◌, ◌≤◌, ◌<◌, ℕ, ◌+◌, ◌*◌, ◌==◌, ◌&&◌, not, Bool, true, false}
use Rattle.std.proofs.Common.{List, ◌∷◌, Some, None, is_some, eq-eqb, refl}
use Rattle.tsp_rules.specs.Values.{MasterAck, Message, PeerId, Port, ResolveKind, Rival, Master, WINDOW}
use Rattle.tsp_rules.specs.{Guards.is_starting_role, ResolveRows.is_new_rival}
use Rattle.tsp_base.specs.Words.{Acts, HeaderValue, Here, Line, Past, Seen, Within, armed, armed_after, bare, is_among, is_rival, is_shared, joined}
use Rattle.tsp_base.specs.Words.{line_of, of, placed, plain, post_of, role, tick_of, view}
use Rattle.tsp_base.proofs.PlaceLemmas.{Within_all, Within_tail, Within_through}
use Rattle.tsp_promises.specs.{Fits.Fits, Fits.node_of, Setting.Setting}
use Rattle.tsp_promises.proofs.{shared.Clocks.tick_mono, shared.HistoryPlaces.Within_of, shared.HistoryPlaces.line_on, shared.HistoryPlaces.own_in}
use Rattle.tsp_promises.proofs.promised.OwnFitsProof.{Located, locate, own_fits, tick_in, view_line}
use Rattle.tsp_run.specs.{Clocked.Clocks, Clocked.SetByClocks, Clocked.clocks_of, Clocked.run_by}
use Rattle.tsp_run.proofs.{OwnClocks.possible_own, OwnClocks.runs_by_own_clocks, OwnClocks.set_own, RunFits.clocked_runs_fit}
use Rattle.tsp_progress.specs.AlarmsFit.{AlarmFits, AlarmsFit, Manner}
use Rattle.tsp_progress.specs.AnswersInTime.{AnswerTaken, Asks, Meanwhile}
use Rattle.tsp_progress.specs.{ByTable.ByTable, ByTable.node_in, ByTable.port_before, Delivered.Delivered, FoundInTime.Changed, FoundInTime.IsQuick}
use Rattle.tsp_progress.specs.{Heeds.is_master_role, Heeds.role_before, Resolving.AllAsk, Resolving.AsksAt, Resolving.questions}
use Rattle.tsp_progress.specs.RivalsFound.{ClockedRunsFindRivals, LooksAt, RivalKnown, RivalsFound, RunsFindRivals}
use Rattle.tsp_progress.specs.{RunsWake.manner_of, Wakes.AllWake}
use Rattle.tsp_progress.proofs.{AnswersProof.answer_heard, AnswersProof.answers_in_time, AskNodes.clocked_runs_ask_rivals}
use Rattle.tsp_progress.proofs.LeadsKept.{ArmedOnce, armed_until, changed_more, role_kept}
use Rattle.tsp_progress.proofs.{MastersTellProof.posted_to, PortSetups.PortIs, PortSetups.differ, PortSetups.member_port}
use Rattle.tsp_progress.proofs.{FoundProof.view_tick, ResolvingProof.all_resolve, RunWakes.clocked_runs_wake}
use Rattle.tsp_progress.proofs.{SearchKept.alarms_within, SearchKept.rising_within, SearchKept.view_within, StandsProof.Rising, StandsProof.rising}
use Rattle.tsp_progress.proofs.{TableProof.clocked_runs_by_table, TableRows.within_joined}
use Rattle.tsp_progress.proofs.WorldPlaces.{Among, WorldPlace, act_place, in_order, own_place, world_place}

-- where every arming of Resolve asks all, none comes while it is armed
module _ (header : HeaderValue) (world : List Line) (asking : AllAsk header world) (n : ℕ) (q : Port) where
  pub armed_once : (early seen : List Seen) → Within seen (view q (of n world)) → ArmedOnce early seen
  armed_once early seen w d before at v is =
      let p : Located n q world d before = locate n q world d before (ap is_shared is) (Within_through (Here d ∷ before) seen (view q (of n world)) v w) in
      let own = own_in n (line_on q d) p.older world p.node p.place in
      let asks : AsksAt (node_in header n) (line_on q d) (of n p.older) (of n world) = asking n (line_on q d) (of n p.older) at own is in
      subst (λ s. (armed s).resolve ≡ None) p.before asks.unarmed

module _ {clocks : Clocks} {header : HeaderValue} {setting : Setting} (set : SetByClocks clocks header setting) (world : List Line)
    (table : ByTable header world) (fits : Fits setting world) (wakes : AllWake (manner_of header) world) (asking : AllAsk header world) (long t : ℕ)
    (stays : ℕ → Bool) (s : List Line) (delivered : Delivered setting long t stays s world) (quick : IsQuick setting long) where
  module _ (at : ℕ) (r : Line) (older : List Line) (p : PeerId) (looks : LooksAt setting long t stays s at r older world p)
      (leads : Meanwhile header setting long r older world p (λ x past. is_master_role (role past.seen))) where
    abbrev N : ℕ
    N = node_of r

    abbrev Q : Port
    Q = r.port

    abbrev M : Manner
    M = manner_of header N

    abbrev Whole : List Seen
    Whole = view Q (of N world)

    abbrev Early : List Seen
    Early = view Q (of N (r ∷ older))

    abbrev There : Past
    There = port_before (node_in header N) r (of N older)

    r-in : Within (r ∷ older) world
    r-in = looks.leads.place

    early-is : Early ≡ Here r.did ∷ view Q (of N older)
    early-is = view_line N r older refl

    early-in : Within Early Whole
    early-in = view_within Q (of N (r ∷ older)) (of N world) (Within_of N (r ∷ older) world r-in)

    acts : AlarmsFit M Whole
    acts = (wakes N Q).acts

    rises : Rising Whole
    rises = rising setting Q (of N world) (own_fits setting N world fits)

    -- Resolve is armed then
    armed-then : (armed Early).resolve ≡ Some at
    armed-then = subst (λ e. (armed e).resolve ≡ Some at) (sym early-is) (ap (λ d. (armed_after d (armed (view Q (of N older)))).resolve) looks.deed)

    at-is : at ≡ r.did.tick + WINDOW
    at-is =
        let f : AlarmsFit M (Here r.did ∷ view Q (of N older)) = alarms_within M (Here r.did ∷ view Q (of N older)) Whole
        (subst (λ e. Within e Whole) early-is early-in) acts in
        subst (λ d. AlarmFits d r.did (view Q (of N older))) looks.deed f.0

    -- the question is asked
    port_is : PortIs header setting N Q
    port_is = member_port set N Q p looks.other.member (differ p.0 N looks.other.other)

    asks-at : AsksAt (node_in header N) r (of N older) (of N world)
    asks-at = asking N r (of N older) at (own_place N r older world refl r-in) looks.deed

    asked : Among (post_of ResolveKind 0 There.name p) (questions There)
    asked = posted_to ResolveKind 0 There.name p There.own There.peers (ap (is_among p) port_is.peers ∙ looks.other.member)
        (ap (λ k. p.0 == k) port_is.own ∙ looks.other.other)

    abbrev Base : List Line
    Base = r ∷ of N older

    abbrev Own : List Line
    Own = joined r.did.step r.did.tick (placed Q asked.front) Base

    abbrev Ask : Line
    Ask = line_of r.did.step r.did.tick Q (Acts (post_of ResolveKind 0 There.name p))

    ask-place : WorldPlace N Ask Own world
    ask-place = world_place N Ask Own world (act_place r.did.step r.did.tick Q (post_of ResolveKind 0 There.name p) (questions There) Base (of N world) asked
        asks-at.asks)

    order : Within (r ∷ older) ask-place.older
    order = in_order N r older Ask ask-place.older world r-in ask-place.place (subst (λ ls. Within Base ls) (sym ask-place.own_is)
        (within_joined r.did.step r.did.tick (placed Q asked.front) Base Base (Within_all Base)))

    asks : Asks setting long t stays s Ask ask-place.older world p (Message (bare ResolveKind 0 There.name))
    asks = record {
      posts = record { place = ask-place.place; deed = refl; member = looks.other.member; other = looks.other.other };
      since = Within_through s (r ∷ older) ask-place.older (inr looks.since) order;
      there = looks.there;
      here = looks.here;
      early = looks.early;
    }

    -- and answered
    answer : AnswerTaken long Ask ask-place.older world p (Message (bare MasterAck 0 (node_in header p.0).name))
    answer = (answers_in_time set world table long t stays s delivered).resolve Ask ask-place.older p (bare ResolveKind 0 There.name) asks refl
        (λ line before place later node net soon. leads line before place (Within_through (r ∷ older) (Ask ∷ ask-place.older) before (inr order) later) node
        net soon)

    abbrev K : Line
    K = answer.line

    abbrev Later : List Seen
    Later = view Q (of N answer.before)

    r-before : Within (r ∷ older) answer.before
    r-before = Within_through (r ∷ older) (Ask ∷ ask-place.older) answer.before (inr order) answer.later

    -- before Resolve is due
    soon : K.did.tick < at
    soon =
        let first = tick_in setting N r older world fits refl r-in in
        let last = tick_in setting N K answer.before world fits answer.node answer.place in
        let mono = tick_mono setting N K.did.step.at (r.did.step.at + 2 * long) answer.soon in
        let fast = (setting.ticks N).fast r.did.step.at (2 * long) in
        let e = at-is in
        omega (arith, first, last, mono, fast, quick, e)

    k-own : Within (K ∷ of N answer.before) (of N world)
    k-own = own_place N K answer.before world answer.node answer.place

    before_in : Within answer.before world
    before_in = Within_tail K answer.before world answer.place

    tail : Within Later Whole
    tail = view_within Q (of N answer.before) (of N world) (Within_of N answer.before world before_in)

    within : Within Early Later
    within = view_within Q (of N (r ∷ older)) (of N answer.before) (Within_of N (r ∷ older) answer.before r-before)

    unchanged : ¬ Changed Early Later
    unchanged c = looks.leads.stays (changed_more Early Later Whole tail c)

    high : tick_of (plain Later) < at
    high =
        let up = rising_within (view Q (K ∷ of N answer.before)) Whole (view_within Q (K ∷ of N answer.before) (of N world) k-own) rises in
        let le : tick_of (plain Later) ≤ tick_of (plain (view Q (K ∷ of N answer.before))) = up.0 in
        let same = view_tick Q K (of N answer.before) in
        let less = soon in
        omega (arith, le, same, less)

    -- Resolve is still armed, and the port still master
    armed-still : (armed Later).resolve ≡ Some at
    armed-still = armed_until Early M at Later within unchanged (armed_once header world asking N Q Early Later tail)
        (alarms_within M Later Whole tail acts) (rising_within Later Whole tail rises) high armed-then

    master-still : role Later ≡ Master
    master-still = role_kept Early Later within unchanged ∙ looks.leads.master

    role-there : role_before (node_in header N) K (of N answer.before) ≡ Master
    role-there = ap (λ z. role (view z (of N answer.before))) answer.port ∙ master-still

    -- it is a rival already, or becomes one
    own-early : Within (of N (r ∷ older)) (of N answer.before)
    own-early = Within_of N (r ∷ older) answer.before r-before

    abbrev KnownBy : Bool → Type 0
    KnownBy b = is_rival p Later ≡ b → RivalKnown p at N Q (r ∷ older) world

    was-known : KnownBy true
    was-known e = record {
      lines = of N answer.before;
      place = Within_of N answer.before world before_in;
      since = own-early;
      rival = e;
      armed_is = armed-still;
    }

    becomes : KnownBy false
    becomes e =
        let new : is_new_rival p K.did.tick (port_before (node_in header N) K (of N answer.before)) ≡ true =
        ap (λ z. is_some (armed (view z (of N answer.before))).resolve && not (is_rival p (view z (of N answer.before)))) answer.port ∙
        rw (armed-still, e) refl in
        let hears = answer_heard set world table long t stays s delivered Ask ask-place.older p (Message (bare ResolveKind 0 There.name)) asks
        (bare MasterAck 0 (node_in header p.0).name) answer (ap is_starting_role role-there) in
        let next = (all_resolve header world table N).masterack K (of N answer.before) p (bare MasterAck 0 (node_in header p.0).name) hears refl
        (ap is_master_role role-there) new in
        let own : ((K.port.0 == Q.0)) ≡ true = ap (λ (z : Port). z.0 == Q.0) answer.port ∙ eq-eqb Q.0 Q.0 refl in
        let same : (p.0 == p.0) ≡ true = eq-eqb p.0 p.0 refl in
        let rivals = line_of K.did.step K.did.tick K.port (Acts (Rival p)) in
        record {
          lines = rivals ∷ K ∷ of N answer.before;
          place = next;
          since = inr (inr own-early);
          rival = rw (own, same) refl;
          armed_is = armed-after own;
        }
      where
        armed-after : (K.port.0 == Q.0) ≡ true → (armed (view Q (line_of K.did.step K.did.tick K.port (Acts (Rival p)) ∷ K ∷ of N answer.before))).resolve ≡
            Some at
        armed-after own = rw (own, answer.took) armed-still

    known : RivalKnown p at N Q (r ∷ older) world
    known = by_case (is_rival p Later) refl where
      by_case : (b : Bool) → is_rival p Later ≡ b → RivalKnown p at N Q (r ∷ older) world
      by_case true e = was-known e
      by_case false e = becomes e

  pub rivals_found : RivalsFound header setting long t stays s world
  rivals_found at r older p looks leads = known at r older p looks leads

pub clocked_runs_find_rivals : ClockedRunsFindRivals
clocked_runs_find_rivals clocks header setting events long t stays s set possible delivered quick =
    rivals_found set (run_by clocks header events) (clocked_runs_by_table clocks header events) (clocked_runs_fit clocks header setting events set possible).0
    (clocked_runs_wake clocks header events).1 (clocked_runs_ask_rivals clocks header events) long t stays s delivered quick

pub runs_find_rivals : RunsFindRivals
runs_find_rivals header setting events long t stays s set possible = subst (λ h. Delivered setting long t stays s h → IsQuick setting long →
    RivalsFound header setting long t stays s h) (runs_by_own_clocks header events)
    (clocked_runs_find_rivals (clocks_of header) header setting events long t stays s (set_own header setting set) (possible_own header events possible))
