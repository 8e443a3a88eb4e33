-- What a generator gives: events that may follow those before them, and questions for datagrams that were posted.
use Rattle.std.proofs.Common.{sym, ap, ◌∙◌, subst, arith, ◌≡◌, ℕ, ◌+◌, ◌/◌, ◌^◌, ◌<◌, ◌≤◌, nat_lt, nat_le, ◌==◌, Bool, true, false, if◌then◌else◌, List, []}
use Rattle.std.proofs.Common.{◌∷◌, length, slice_get, zero, suc, None, Some, refl}
use Rattle.std.proofs.lemmas.{Bool.eqb-false, Bool.ltb-true, Bool.ltb-false, Nat.mod_below}
use Rattle.tsp_rules.specs.Values.{Event, BootAt, Turn, Take, Bytes, Stranger}
use Rattle.tsp_base.specs.Words.{HeaderValue, first_port, event_in}
use Rattle.tsp_script.specs.declared.storm.Choice.{Choice, TheVariants.Plain, TheVariants.Request, TheVariants.Ask as Asked}
use Rattle.tsp_script.specs.declared.storm.Draw.{Draw, TheVariants.Event as Gives, TheVariants.Ask}
use Rattle.tsp_script.specs.Storms.{StormValue, moved, drawn, gave, boots_next, turns_one, asks_one, recent_one, as_event, as_question, asks_or_turns, chosen}
use Rattle.tsp_script.specs.Storms.{storm_draw, storm_take, storm_next, draw_of, request_event}
use Rattle.tsp_storm.specs.Schedules.{drawn_event, next_event, posted_count, posting_time}
use Rattle.tsp_run.specs.{Run.event_at, Run.posted_time, declared.posted.Posted.Posted}

-- an event that comes next: a boot of the next node at time 0, or, once all have booted, something at a node of the schedule, no earlier than what came before
abbrev pub IsNext : ℕ → StormValue → Event → Type 0
IsNext posted v (BootAt at node word) = (at ≡ 0) × (node ≡ v.given) × (v.given < v.nodes)
IsNext posted v (Turn at node) = (v.nodes ≤ v.given) × (v.at ≤ at) × (node < v.nodes)
IsNext posted v (Take at k) = (v.nodes ≤ v.given) × (v.at ≤ at) × (k < posted)
IsNext posted v (Bytes at node port from octets) = (v.nodes ≤ v.given) × (v.at ≤ at) × (node < v.nodes) × (port ≡ first_port) × (from ≡ Stranger)

-- a generator has given an event
pub record Moves (posted : ℕ) (v : StormValue) (e : Event) (w : StormValue) : Type 0 where
  pub nodes : w.nodes ≡ v.nodes
  pub named : w.named ≡ v.named
  pub given : w.given ≡ v.given + 1
  pub asked : w.asked ≡ None
  pub at : w.at ≡ event_at e
  pub next : IsNext posted v e

-- a generator has asked for a datagram
pub record Asks (posted : ℕ) (v : StormValue) (k : ℕ) (w : StormValue) : Type 0 where
  pub nodes : w.nodes ≡ v.nodes
  pub named : w.named ≡ v.named
  pub given : w.given ≡ v.given
  pub asked : w.asked ≡ Some k
  pub later : v.at ≤ w.at
  pub booted : v.nodes ≤ v.given
  pub known : k < posted

abbrev pub Good : ℕ → StormValue → Draw → StormValue → Type 0
Good posted v (Gives e) w = Moves posted v e w
Good posted v (Ask k) w = Asks posted v k w

abbrev Fine : ℕ → StormValue → Draw × StormValue → Type 0
Fine posted v r = Good posted v r.0 r.1

-- a generator that has only drawn, and all nodes have booted
record Draws (v u : StormValue) : Type 0 where
  nodes : u.nodes ≡ v.nodes
  named : u.named ≡ v.named
  given : u.given ≡ v.given
  booted : v.nodes ≤ v.given
  some : 1 ≤ v.nodes

fine_if : (posted : ℕ) (v : StormValue) (b : Bool) (x y : Draw × StormValue) → Fine posted v x → Fine posted v y → Fine posted v (if b then x else y)
fine_if posted v true x y f g = f
fine_if posted v false x y f g = g

below : (v u : StormValue) → Draws v u → drawn u.nodes (moved u) < v.nodes
below v u d = subst (λ n. drawn u.nodes (moved u) < n) d.nodes (mod_below ((moved u).state / 2 ^ 33) u.nodes (let same = d.nodes in let some = d.some in
    omega (arith, same, some)))

moves_turn : (posted at : ℕ) (v u : StormValue) → Draws v u → v.at ≤ at → Moves posted v (turns_one at u).0 (turns_one at u).1
moves_turn posted at v u d later = record {
  nodes = d.nodes;
  named = d.named;
  given = ap (λ n. n + 1) d.given;
  asked = refl;
  at = refl;
  next = (d.booted, later, below v u d);
}

fine_request : (posted at : ℕ) (v u : StormValue) → Draws v u → v.at ≤ at → Fine posted v (as_event (asks_one at u))
fine_request posted at v u d later = record {
  nodes = d.nodes;
  named = d.named;
  given = ap (λ n. n + 1) d.given;
  asked = refl;
  at = refl;
  next = (d.booted, later, below v u d, refl, refl);
}

fine_ask : (posted at : ℕ) (v u : StormValue) → Draws v u → v.at ≤ at → Fine posted v (asks_or_turns at posted u)
fine_ask posted at v u d later = by_case (posted == 0) refl where
  by_case : (b : Bool) → (posted == 0) ≡ b → Fine posted v (if b then as_event (turns_one at u) else as_question (recent_one posted (moved u)) at (moved u))
  by_case true e = moves_turn posted at v u d later
  by_case false e = record {
    nodes = d.nodes;
    named = d.named;
    given = d.given;
    asked = refl;
    later = later;
    booted = d.booted;
    known = (let some = eqb-false posted 0 e in omega (arith, some));
  }

fine_chosen : (c posted at : ℕ) (v u : StormValue) → Draws v u → v.at ≤ at → Fine posted v (chosen c at posted u)
fine_chosen c posted at v u d later =
    fine_if posted v (nat_lt c 4) (as_event (turns_one at u)) (if nat_lt c 7 then asks_or_turns at posted u else as_event (asks_one at u))
    (moves_turn posted at v u d later)
    (fine_if posted v (nat_lt c 7) (asks_or_turns at posted u) (as_event (asks_one at u)) (fine_ask posted at v u d later) (fine_request posted at v u d later))

-- what a generator draws follows what it gave before
pub good : (posted : ℕ) (v : StormValue) → 1 ≤ v.nodes → Good posted v (storm_draw posted v).0 (storm_draw posted v).1
good posted v some = by_case (nat_lt v.given v.nodes) refl where
  by_case : (b : Bool) → nat_lt v.given v.nodes ≡ b →
      Fine posted v (if b then as_event (boots_next v) else chosen (drawn 8 (moved (moved v))) (v.at + drawn 20001 (moved v)) posted (moved (moved v)))
  by_case true e = record { nodes = refl; named = refl; given = refl; asked = refl; at = refl; next = (refl, refl, ltb-true v.given v.nodes e) }
  by_case false e = fine_chosen (drawn 8 (moved (moved v))) posted (v.at + drawn 20001 (moved v)) v (moved (moved v)) (record {
    nodes = refl;
    named = refl;
    given = refl;
    booted = ltb-false v.given v.nodes e;
    some = some;
  }) (omega arith)

moves_if : (posted : ℕ) (v : StormValue) (b : Bool) (x y : Event × StormValue) → Moves posted v x.0 x.1 → Moves posted v y.0 y.1 →
    Moves posted v (if b then x else y).0 (if b then x else y).1
moves_if posted v true x y f g = f
moves_if posted v false x y f g = g

-- what it answers itself follows what it gave before its question
moves_take : (posted k time : ℕ) (v w : StormValue) → 1 ≤ v.nodes → Asks posted v k w → Moves posted v (storm_take k time w).0 (storm_take k time w).1
moves_take posted k time v w some a =
    moves_if posted v (nat_le w.at (time + 20000000)) (Take w.at k, gave w.at w) (turns_one w.at w)
    (record { nodes = a.nodes; named = a.named; given = ap (λ n. n + 1) a.given; asked = refl; at = refl; next = (a.booted, a.later, a.known) })
    (moves_turn posted w.at v w (record { nodes = a.nodes; named = a.named; given = a.given; booted = a.booted; some = some }) a.later)

moves_of : (header : HeaderValue) (events : List Event) (v : StormValue) (d : Draw) (w : StormValue) → 1 ≤ v.nodes → Good (posted_count header events) v d w →
    Moves (posted_count header events) v (drawn_event header events d w).0 (drawn_event header events d w).1
unfolding drawn_event
moves_of header events v (Gives e) w some g = g
moves_of header events v (Ask k) w some g = moves_take (posted_count header events) k (posting_time header events k) v w some g

-- the next event of a schedule follows those before it
pub next_moves : (header : HeaderValue) (events : List Event) (v : StormValue) → 1 ≤ v.nodes →
    Moves (posted_count header events) v (next_event header events v).0 (next_event header events v).1
unfolding next_event
next_moves header events v some = moves_of header events v (storm_draw (posted_count header events) v).0 (storm_draw (posted_count header events) v).1 some
    (good (posted_count header events) v some)

-- a drawn event is the next
pub next_given : (header : HeaderValue) (events : List Event) (v : StormValue) (posted : ℕ) (e : Event) (w : StormValue) → posted ≡ posted_count header events →
    (Gives e, w) ≡ storm_next posted None v → (e, w) ≡ next_event header events v
unfolding next_event drawn_event
next_given header events v posted e w same is =
    let drawn_is : (Gives e, w) ≡ storm_draw (posted_count header events) v = is ∙ ap (λ p. storm_draw p v) same in
    ap (λ (d : Draw × StormValue). drawn_event header events d.0 d.1) drawn_is

-- the answer to a question is the next
pub next_asked : (header : HeaderValue) (events : List Event) (v : StormValue) (posted k time : ℕ) (u : StormValue) (r : Event × StormValue) → posted ≡
    posted_count header events → (Ask k, u) ≡ storm_next posted None v → time ≡ posting_time header events k →
    r ≡ storm_take k time u → r ≡ next_event header events v
unfolding next_event drawn_event
next_asked header events v posted k time u r same is at taken =
    let drawn_is : (Ask k, u) ≡ storm_draw (posted_count header events) v = is ∙ ap (λ p. storm_draw p v) same in
    taken ∙ ap (λ t. storm_take k t u) at ∙ ap (λ (d : Draw × StormValue). drawn_event header events d.0 d.1) drawn_is

-- a choice that isn't a question is the next
pub next_chosen : (header : HeaderValue) (events : List Event) (v : StormValue) (posted : ℕ) (c : Choice) (w : StormValue) → posted ≡
    posted_count header events → (draw_of c, w) ≡ storm_next posted None v → ((k : ℕ) → c ≡ Asked k → ⊥) →
    (draw_of c, w) ≡ as_event (next_event header events v)
next_chosen header events v posted (Plain p) w same is other = ap (λ (r : Event × StormValue). as_event r) (next_given header events v posted (event_in p) w
    same is)
next_chosen header events v posted (Request at node word) w same is other = ap (λ (r : Event × StormValue). as_event r)
    (next_given header events v posted (request_event at node word) w same is)
next_chosen header events v posted (Asked k) w same is other = absurd (other k refl)

-- a draw that gives what comes next gives its event
pub given_next : (d : Draw) (w : StormValue) (r : Event × StormValue) → (d, w) ≡ as_event r → (d ≡ Gives r.0) × ((r.0, w) ≡ r)
given_next d w (f, x) is = (ap (λ (p : Draw × StormValue). p.0) is, ap (λ (p : Draw × StormValue). (f, p.1)) is)

-- a generator that asked waits for the answer
pub asks_is : (posted k : ℕ) (v u : StormValue) → 1 ≤ v.nodes → (Ask k, u) ≡ storm_next posted None v → Asks posted v k u
asks_is posted k v u some is = subst (λ (d : Draw × StormValue). Good posted v d.0 d.1) (sym is) (good posted v some)

-- a datagram that was posted has a time
pub no_time : (sent : List Posted) (k posted : ℕ) → posted ≡ length sent → k < posted → None ≡ posted_time (slice_get sent k) → ⊥
no_time [] k posted same lt none = omega (arith, same, lt)
no_time (x ∷ xs) zero posted same lt none = let some : None ≡ Some x.at = none in let bad : ⊥ = cc in bad
no_time (x ∷ xs) (suc k) posted same lt none = no_time xs k (length xs) refl (omega (arith, same, lt)) none
