-- A port whose quiet time ends beside a master finds it in time.
use Rattle.std.proofs.Common.{sym, ap, subst, true≢false, inr, ◌∙◌, ◌≡◌, ◌||◌, ℕ, ◌+◌, ◌==◌, not, Bool, true, false, List}
use Rattle.std.proofs.Common.{[], ◌∷◌, ◌++◌, map, if◌then◌else◌, Some, eq-eqb, eqb-true, refl}
use Rattle.tsp_rules.specs.Values.{Act, Become, Arm, Ring, Quiet, Search, MasterReq, Message, PeerId, Port, Loose, WINDOW}
use Rattle.tsp_rules.specs.{Answers.alarm_rings, CommonRows.searches, SlaveRows.quiet_rings}
use Rattle.tsp_base.specs.Words.{Acts, HeaderValue, Line, Past, Step, Within, arms, armed, bare, is_among, joined, line_of, of, others, placed}
use Rattle.tsp_base.specs.Words.{post_of, posts_to_others, puts, role, view, ◌followed_by◌}
use Rattle.tsp_base.proofs.PlaceLemmas.{Within_all, Within_through}
use Rattle.tsp_promises.specs.{Fits.Fits, Fits.node_of, Setting.Setting}
use Rattle.tsp_run.specs.{Clocked.Clocks, Clocked.SetByClocks, Clocked.clocks_of, Clocked.run_by}
use Rattle.tsp_run.proofs.{OwnClocks.possible_own, OwnClocks.runs_by_own_clocks, OwnClocks.set_own, RunFits.clocked_runs_fit}
use Rattle.tsp_progress.specs.ByTable.{ByTable, RowStands, TableAt, alarm_row, node_in, port_before}
use Rattle.tsp_progress.specs.{AnswersInTime.Asks, AnswersInTime.Meanwhile, Delivered.Delivered, FoundInTime.IsQuick}
use Rattle.tsp_progress.specs.{FoundInTime.Searching, Heeds.DoesNext, Heeds.is_master_role}
use Rattle.tsp_progress.specs.FirstSearch.{Awakes, ClockedRunsFindFirst, FirstSearch, FoundFirst, RunsFindFirst}
use Rattle.tsp_progress.proofs.{FoundProof.found_in_time, PortSetups.PortIs, PortSetups.differ, PortSetups.member_port, RunWakes.clocked_runs_wake}
use Rattle.tsp_progress.proofs.{TableProof.clocked_runs_by_table, TableRows.within_joined}
use Rattle.tsp_progress.proofs.WorldPlaces.{WorldPlace, act_place, in_order, own_place, world_place}
use Rattle.tsp_rules.proofs.GuardFacts.{same_peer}
use Rattle.tsp_progress.specs.{RunsWake.manner_of, Wakes.AllWake}

-- what a port asks the others
abbrev Asking : List ℕ → PeerId → Act
Asking name = post_of MasterReq 0 name

-- another peer is asked, after some others
record AskedIn (name : List ℕ) (p : PeerId) (acts : List Act) : Type 0 where
  pub front : List PeerId
  pub back : List Act
  pub is : acts ≡ map (Asking name) front ++ Asking name p ∷ back

asked_in : (name : List ℕ) (p own : PeerId) (ps : List PeerId) → is_among p ps ≡ true → (p.0 == own.0) ≡ false →
    AskedIn name p (map (Asking name) (others own ps))
asked_in name p own [] member other = absurd (true≢false (sym member))
asked_in name p own (q ∷ rest) member other = by_case (q.0 == p.0) refl (λ m. asked_in name p own rest m other) member where
  more : (b : Bool) → AskedIn name p (map (Asking name) (others own rest)) →
      AskedIn name p (map (Asking name) (if b then q ∷ others own rest else others own rest))
  more true a = record { front = q ∷ a.front; back = a.back; is = ap (λ acts. Asking name q ∷ acts) a.is }
  more false a = a

  by_case : (b : Bool) → (q.0 == p.0) ≡ b → (is_among p rest ≡ true → AskedIn name p (map (Asking name) (others own rest))) → (b || is_among p rest) ≡ true →
      AskedIn name p (map (Asking name) (others own (q ∷ rest)))
  by_case true same k m =
      let is : q ≡ p = same_peer q p same in
      let keep : not (q.0 == own.0) ≡ true = rw (eqb-true q.0 p.0 same, other) refl in
      rw keep (record { front = []; back = map (Asking name) (others own rest); is = ap (λ z. Asking name z ∷ map (Asking name) (others own rest)) is })
  by_case false differs k m = more (not (q.0 == own.0)) (k m)

-- asking changes neither the role nor what is armed
module _ (step : Step) (x : ℕ) (q : Port) (name : List ℕ) where
  abbrev After : List PeerId → List Line → List Line
  After front lines = joined step x (placed q (map (Asking name) front)) lines

  own_port : (q.0 == q.0) ≡ true
  own_port = eq-eqb q.0 q.0 refl

  asking_role : (front : List PeerId) (lines : List Line) → role (view q (After front lines)) ≡ role (view q lines)
  asking_role [] lines = refl
  asking_role (p ∷ rest) lines =
      let one : role (view q (line_of step x q (Acts (Asking name p)) ∷ lines)) ≡ role (view q lines) = rw own_port refl in
      asking_role rest (line_of step x q (Acts (Asking name p)) ∷ lines) ∙ one

  asking_armed : (front : List PeerId) (lines : List Line) → (armed (view q (After front lines))).search ≡ (armed (view q lines)).search
  asking_armed [] lines = refl
  asking_armed (p ∷ rest) lines =
      let one : (armed (view q (line_of step x q (Acts (Asking name p)) ∷ lines))).search ≡ (armed (view q lines)).search = rw own_port refl in
      asking_armed rest (line_of step x q (Acts (Asking name p)) ∷ lines) ∙ one

module _ {clocks : Clocks} {header : HeaderValue} {setting : Setting} (set : SetByClocks clocks header setting) (world : List Line)
    (table : ByTable header world) (fits : Fits setting world) (wakes : AllWake (manner_of header) world) (long t : ℕ) (stays : ℕ → Bool) (s : List Line)
    (delivered : Delivered setting long t stays s world) (quick : IsQuick setting long) where
  module _ (k : Line) (older : List Line) (p : PeerId) (a : Awakes setting long t stays s k older world p)
      (leads : Meanwhile header setting long k older world p (λ x past. is_master_role (role past.seen))) where
    abbrev N : ℕ
    N = node_of k

    abbrev There : Past
    There = port_before (node_in header N) k (of N older)

    abbrev X : ℕ
    X = k.did.tick

    port_is : PortIs header setting N k.port
    port_is = member_port set N k.port p a.member (differ p.0 N a.other)

    asked : AskedIn There.name p (map (Asking There.name) (others There.own There.peers))
    asked = asked_in There.name p There.own There.peers (ap (is_among p) port_is.peers ∙ a.member) (ap (λ n. p.0 == n) port_is.own ∙ a.other)

    acts-are : alarm_row (node_in header N) k (of N older) Quiet X There ≡
        Ring Quiet ∷ Become Loose ∷ Arm Search (X + WINDOW) ∷ map (Asking There.name) (others There.own There.peers)
    unfolding alarm_rings quiet_rings puts ◌followed_by◌ searches arms posts_to_others
    acts-are = refl

    -- the acts before the one that asks p
    abbrev Front : List Act
    Front = Become Loose ∷ Arm Search (X + WINDOW) ∷ map (Asking There.name) asked.front

    abbrev Base : List Line
    Base = k ∷ of N older

    abbrev Own : List Line
    Own = joined k.did.step X (placed k.port Front) Base

    abbrev Ask : Line
    Ask = line_of k.did.step X k.port (Acts (Asking There.name p))

    next : DoesNext (Become Loose ∷ Arm Search (X + WINDOW) ∷ map (Asking There.name) (others There.own There.peers)) k (of N older) (of N world)
    next =
        let rest = Become Loose ∷ Arm Search (X + WINDOW) ∷ map (Asking There.name) (others There.own There.peers) in
        let stands : RowStands (alarm_row (node_in header N) k (of N older) Quiet) (node_in header N) k (of N older) (of N world) =
        subst (λ d. TableAt d (node_in header N) k (of N older) (of N world)) a.deed (table N k (of N older) (own_place N k older world refl a.place)) in
        let whole : Within (joined k.did.step X (placed k.port (Ring Quiet ∷ rest)) (of N older)) (of N world) =
        subst (λ acts. Within (joined k.did.step X (placed k.port acts) (of N older)) (of N world)) acts-are stands in
        subst (λ d. Within (joined k.did.step X (placed k.port rest) (line_of k.did.step X k.port d ∷ of N older)) (of N world)) (sym a.deed) whole

    ask-place : WorldPlace N Ask Own world
    ask-place = world_place N Ask Own world (act_place k.did.step X k.port (Asking There.name p)
        (Become Loose ∷ Arm Search (X + WINDOW) ∷ map (Asking There.name) (others There.own There.peers)) Base (of N world)
        (record { front = Front; back = asked.back; is = ap (λ acts. Become Loose ∷ Arm Search (X + WINDOW) ∷ acts) asked.is }) next)

    searching : Searching Ask ask-place.older
    searching =
        let lines = line_of k.did.step X k.port (Acts (Arm Search (X + WINDOW))) ∷ line_of k.did.step X k.port (Acts (Become Loose)) ∷ Base in
        let own : (k.port.0 == k.port.0) ≡ true = eq-eqb k.port.0 k.port.0 refl in
        let loose : role (view k.port lines) ≡ Loose = rw own refl in
        let armed_at : (armed (view k.port lines)).search ≡ Some (X + WINDOW) = rw own refl in
        record {
          loose = ap (λ ls. role (view k.port ls)) ask-place.own_is ∙ (asking_role k.did.step X k.port There.name asked.front lines ∙ loose);
          armed_is = ap (λ ls. (armed (view k.port ls)).search) ask-place.own_is ∙
              (asking_armed k.did.step X k.port There.name asked.front lines ∙ armed_at);
        }

    order : Within (k ∷ older) ask-place.older
    order = in_order N k older Ask ask-place.older world a.place ask-place.place (subst (λ ls. Within Base ls) (sym ask-place.own_is)
        (within_joined k.did.step X (placed k.port Front) Base Base (Within_all Base)))

    asks : Asks setting long t stays s Ask ask-place.older world p (Message (bare MasterReq 0 There.name))
    asks = record {
      posts = record { place = ask-place.place; deed = refl; member = a.member; other = a.other };
      since = Within_through s (k ∷ older) ask-place.older (inr a.since) order;
      there = a.there;
      here = a.here;
      early = a.early;
    }

    found : FoundFirst header long k older world p
    found = record {
      ask = Ask;
      before = ask-place.older;
      later = order;
      step = refl;
      port = refl;
      searches = searching;
      finds = found_in_time set world table fits wakes long t stays s delivered quick Ask ask-place.older p (bare MasterReq 0 There.name) asks refl searching
          (λ line before place later node net soon. leads line before place (Within_through (k ∷ older) (Ask ∷ ask-place.older) before (inr order) later) node
          net soon);
    }

  pub first_search : FirstSearch header setting long t stays s world
  first_search k older p a leads = found k older p a leads

pub clocked_runs_find_first : ClockedRunsFindFirst
clocked_runs_find_first clocks header setting events long t stays s set possible delivered quick =
    first_search set (run_by clocks header events) (clocked_runs_by_table clocks header events) (clocked_runs_fit clocks header setting events set possible).0
    (clocked_runs_wake clocks header events).1 long t stays s delivered quick

pub runs_find_first : RunsFindFirst
runs_find_first header setting events long t stays s set possible = subst (λ h. Delivered setting long t stays s h → IsQuick setting long →
    FirstSearch header setting long t stays s h) (runs_by_own_clocks header events)
    (clocked_runs_find_first (clocks_of header) header setting events long t stays s (set_own header setting set) (possible_own header events possible))
