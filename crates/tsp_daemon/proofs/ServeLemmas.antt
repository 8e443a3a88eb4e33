-- From the readings of a boot to the session that follows it.
use Rattle.std.proofs.Common.{arith, ap, ◌∙◌, subst, refl, ◌≡◌, ℕ, ◌≤◌, ℤ, true, List, Option, Some}
use Rattle.std.specs.Option.{option_map}
use Rattle.tsp_query.specs.{Arrivals.all_but_first, Clocks.tick_given, Ends.Outside, Ends.KnowsExactly, Outside.Observed, Outside.Paged}
use Rattle.tsp_daemon.specs.declared.end.ServeEnd.TheVariants.{Done, LinkFault, WriteFault}
use Rattle.tsp_daemon.specs.{Pages.KeepsPage, Pages.MarksIfTold}
use Rattle.tsp_daemon.specs.{Ends.IsAt, Ends.Serves, Ends.ServesUntil, Nodes.first_past, Sessions.Session, Sessions.read_once}
use Rattle.tsp_daemon.{proofs.SessionFits.session_kept, specs.declared.exit.DaemonExit.DaemonExit}
use Rattle.tsp_query.proofs.AskLemmas.{reading_taken}
use Rattle.tsp_gateway.specs.{GatewayStands.GatewayStands, declared.gateway.Gateway.Gateway}
use Rattle.tsp_io.specs.{Clocks.TakesReading, Links.Arrival, Links.Tried}
use Rattle.tsp_rules.specs.Guards.{is_clock_value}
use Rattle.tsp_args.specs.{Serves.IsServe, declared.serve.ServeWords.ServeWords}
use Rattle.tsp_daemon.specs.declared.exit.DaemonExit.TheVariants.{BadWall, LinkFault as Faulty, WriteFault as Unwritten}
use Rattle.tsp_daemon.specs.{Serving.served_of, Serving.first_session, Serving.IsServed, declared.end.ServeEnd.ServeEnd}

-- what is told once the tick counter was read
pub Tells_read : (o : Outside) (arrivals : Option (List Arrival)) (tried : Option (List Tried)) (calls : Option ℕ)
    (readings between now_readings : Option (List ℕ)) (last tick now_last : ℕ)
    → TakesReading readings between last tick → now_readings ≡ between → now_last ≡ tick → KnowsExactly o arrivals tried calls readings last →
    KnowsExactly (read_once o) arrivals tried calls now_readings now_last × (tick ≡ (read_once o).last)
Tells_read o arrivals tried calls readings between now_readings last tick now_last takes same is k =
    let taken = reading_taken o.readings readings between last tick k.readings_are takes in
    let read = taken.1 ∙ ap (λ n. tick_given n o.readings 0) k.last_is in (
      record {
        arrivals_are = k.arrivals_are;
        tried_are = k.tried_are;
        calls_are = k.calls_are;
        readings_are = same ∙ taken.0;
        last_is = is ∙ read;
      },
      read,
    )

-- the wall clock was read after the first tick, and not again
pub walled_is : (readings between : Option (List ℕ)) (last first : ℕ) (walled later : Option (Option (List ℕ))) (left : List ℕ) → readings ≡ Some left →
    TakesReading readings between last first →
    walled ≡ option_map (λ rest. Some rest) between → later ≡ walled → later ≡ Some (Some (all_but_first left))
walled_is readings between last first walled later left told takes at same = same ∙ at ∙
    ap (λ rest. option_map (λ (r : List ℕ). Some r) rest) (reading_taken left readings between last first told takes).0

-- what is told of a ticker's board is the same if each part of it is
pub same_page : (page now : Paged) → (now.origin ≡ page.origin) × (now.delay ≡ page.delay) × (now.boarded ≡ page.boarded) × (now.marks ≡ page.marks)
    × (now.views ≡ page.views) → now ≡ page
same_page page now h =
    let a = h.0 in
    let b = h.1 in
    let c = h.2 in
    let d = h.3 in
    let v = h.4 in
    let e : record { boarded = now.boarded; origin = now.origin; delay = now.delay; marks = now.marks; views = now.views } ≡ record {
      boarded = page.boarded;
      origin = page.origin;
      delay = page.delay;
      marks = page.marks;
      views = page.views;
    } = rw (a, b, c, d, v) refl in
    e

-- a session takes no more turns than it has
serves_few : (turns i : ℕ) (s : Session) (arrivals : Option (List Arrival)) (tried : Option (List Tried)) (calls : Option ℕ) (readings : Option (List ℕ))
    (last : ℕ) (written : Option (List ℕ)) (end : ServeEnd) → ServesUntil turns i s arrivals tried calls readings last written end → i ≤ turns
serves_few turns i s arrivals tried calls readings last written Done h = let all = h.0 in omega (arith, all)
serves_few turns i s arrivals tried calls readings last written _ h = let less = h.0 in omega (arith, less)

-- a node that has booted at these readings serves the first session
pub IsServed_serves : (s : ServeWords) (o : Outside) (wall wall' : ℤ) (word word' tick : ℕ) (written : List ℕ) (node : Gateway)
    (arrivals : Option (List Arrival)) (tried : Option (List Tried)) (calls : Option ℕ) (readings : Option (List ℕ)) (last : ℕ) (before : Option (List ℕ))
    (old : Option (List ℕ)) (page page' : Paged) (now : Observed) (end : ServeEnd) (served : DaemonExit)
    → tick ≡ (read_once o).last → wall' ≡ wall → word' ≡ word → is_clock_value wall' ≡ true → GatewayStands (first_past s tick wall' word') node →
    KnowsExactly (read_once o) arrivals tried calls readings last → before ≡ Some written → served ≡ served_of end
    → IsServe s → ((x : Session) → IsAt x node (record { turns = 0; posts = 0 }) arrivals tried calls readings last before →
    Serves s.turns x now.arrivals now.tried now.calls now.readings now.last now.written old now.waits page' now.page end)
    → page' ≡ page → KeepsPage page' now.page → IsServed s o wall word written old page now served
IsServed_serves s o wall wall' word word' tick written node arrivals tried calls readings last before old page page' now end served t w v within stands tells b
    is words serves same keeps =
    let at_wall : GatewayStands (first_past s tick wall word') node = subst (λ (x : ℤ). GatewayStands (first_past s tick x word') node) w stands in
    let at_word : GatewayStands (first_past s tick wall word) node = subst (λ (x : ℕ). GatewayStands (first_past s tick wall x) node) v at_wall in
    let at_tick : GatewayStands (first_past s (read_once o).last wall word) node = subst (λ (x : ℕ). GatewayStands (first_past s x wall word) node) t at_word in
    let first : IsAt (first_session s o wall word written) node (record { turns = 0; posts = 0 }) arrivals tried calls readings last before = record {
      stands = at_tick;
      turns_is = refl;
      posts_is = refl;
      tells = tells;
      written_is = b;
    } in
    let all = serves (first_session s o wall word written) first in
    record {
      within = subst (λ (x : ℤ). is_clock_value x ≡ true) w within;
      end = end;
      served_is = is;
      taken = all.0;
      serves = all.2;
      received = all.1;
      received_is = all.4;
      noted = all.5;
      marked = subst (λ (p : Paged). MarksIfTold p (first_session s o wall word written) all.0 now.calls now.page end) same all.6;
      boarded = subst (λ (p : Paged). KeepsPage p now.page) same keeps;
      kept = λ setting set. session_kept s o wall word written words setting set all.0 (serves_few s.turns all.0 (first_session s o wall word written) _ _ _ _ _
          _ end all.2) all.3;
    }

-- a daemon ends by its link, or by a write, only where its session does; and then its wall clock isn't out of its range
pub served_linked : (end : ServeEnd) → served_of end ≡ Faulty → end ≡ LinkFault
served_linked LinkFault e = refl
served_linked _ e = cc

pub served_written : (end : ServeEnd) → served_of end ≡ Unwritten → end ≡ WriteFault
served_written WriteFault e = refl
served_written _ e = cc

pub served_in_time : (end : ServeEnd) → served_of end ≡ BadWall → ⊥
served_in_time Done e = cc
served_in_time _ e = cc
