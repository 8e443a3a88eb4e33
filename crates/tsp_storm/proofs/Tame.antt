-- A storm hands over nothing in a peer's name, takes nothing late, and gives each boot a word of its own.
use Rattle.std.proofs.Common.{sym, ap, ◌∙◌, subst, arith, ◌≡◌, ℕ, zero, suc, ◌+◌, ◌/◌, ◌%◌, ◌^◌, ◌<◌, ◌≤◌, nat_lt, nat_le, ◌==◌, Bool, true, false}
use Rattle.std.proofs.Common.{if◌then◌else◌, List, [], ◌∷◌, ◌++◌, length, replicate, slice_get, slice_index_or, unwrap_or, Some, All, refl}
use Rattle.std.specs.Int.{w64, byte_at, bytes_high_first, to_be_bytes}
use Rattle.std.proofs.lemmas.{Bool.leb-true, List.Elements.All-cons, List.Elements.All-nil, Nat.mod_below}
use Rattle.tsp_rules.specs.Values.{Event, BootAt, Turn, Take, Bytes, LIFE}
use Rattle.tsp_base.specs.Words.{HeaderValue}
use Rattle.tsp_run.specs.Premised.{Apart, IsSealed, Prompt, Sealed}
use Rattle.tsp_run.specs.{Ranges.IsInRange, Run.posted_time, Run.posts, Run.run, declared.posted.Posted.Posted}
use Rattle.tsp_script.specs.declared.storm.Draw.{Draw, TheVariants.Event as Gives, TheVariants.Ask}
use Rattle.tsp_script.specs.Storms.{StormValue, moved, drawn, gave, boots_next, turns_one, asks_one, request_octets, recent_one, as_event, as_question}
use Rattle.tsp_script.specs.Storms.{asks_or_turns, chosen, storm_draw, storm_take}
use Rattle.tsp_storm.specs.Schedules.{drawn_event, next_event, posted_count, posting_time}
use Rattle.tsp_storm.proofs.{BootWords.Follow, BootWords.boot_otherwise, BootWords.moved_low, BootWords.next_low, Draws.Moves}

-- what an event is besides the next: a boot's word is the state, a take is recent, and octets are a request's
abbrev Adds : HeaderValue → List Event → StormValue → Event → StormValue → Type 0
Adds header events v (BootAt at node word) w = (word ≡ (moved v).state) × (w.state ≡ (moved v).state)
Adds header events v (Turn at node) w = Unit {0}
Adds header events v (Take at k) w = at ≤ posting_time header events k + 20000000
Adds header events v (Bytes at node port from octets) w = (word : ℕ) × (octets ≡ request_octets word)

abbrev AddsDraw : HeaderValue → List Event → StormValue → Draw × StormValue → Type 0
AddsDraw header events v (Gives e, w) = Adds header events v e w
AddsDraw header events v (Ask k, w) = Unit {0}

module _ (header : HeaderValue) (events : List Event) (v : StormValue) where
  adds_if : (b : Bool) (x y : Draw × StormValue) → AddsDraw header events v x → AddsDraw header events v y → AddsDraw header events v (if b then x else y)
  adds_if true x y f g = f
  adds_if false x y f g = g

  adds_draw : (posted : ℕ) → AddsDraw header events v (storm_draw posted v)
  adds_draw posted =
      let u : StormValue = moved (moved v) in
      let at : ℕ = v.at + drawn 20001 (moved v) in
      adds_if (nat_lt v.given v.nodes) (as_event (boots_next v)) (chosen (drawn 8 (moved (moved v))) at posted u) (refl, refl)
      (adds_if (nat_lt (drawn 8 (moved (moved v))) 4) (as_event (turns_one at u)) (if nat_lt (drawn 8 (moved (moved v))) 7 then asks_or_turns at posted u else
      as_event (asks_one at u)) tt
      (adds_if (nat_lt (drawn 8 (moved (moved v))) 7) (asks_or_turns at posted u) (as_event (asks_one at u))
      (adds_if (posted == 0) (as_event (turns_one at u)) (as_question (recent_one posted (moved u)) at (moved u)) tt tt)
      ((moved u).state, refl)))

  adds_take : (k : ℕ) (w : StormValue) → Adds header events v (storm_take k (posting_time header events k) w).0
      (storm_take k (posting_time header events k) w).1
  adds_take k w = by_case (nat_le w.at (posting_time header events k + 20000000)) refl where
    by_case : (b : Bool) → nat_le w.at (posting_time header events k + 20000000) ≡ b → let r = (if b then (Take w.at k, gave w.at w) else turns_one w.at w) in
        Adds header events v r.0 r.1
    by_case true e = leb-true w.at (posting_time header events k + 20000000) e
    by_case false e = tt

  adds_of : (d : Draw) (w : StormValue) → AddsDraw header events v (d, w) → Adds header events v (drawn_event header events d w).0
      (drawn_event header events d w).1
  unfolding drawn_event
  adds_of (Gives e) w a = a
  adds_of (Ask k) w a = adds_take k w

  adds_next : Adds header events v (next_event header events v).0 (next_event header events v).1
  unfolding next_event
  adds_next = let d : Draw × StormValue = storm_draw (posted_count header events) v in adds_of d.0 d.1 (adds_draw (posted_count header events))

-- a list of octets
abbrev Small : List ℕ → Type 0
Small xs = (i : ℕ) → slice_index_or xs i 0 < 256

small_nil : Small []
small_nil i = omega arith

small_cons : (x : ℕ) (xs : List ℕ) → x < 256 → Small xs → Small (x ∷ xs)
small_cons x xs one rest zero = one
small_cons x xs one rest (suc i) = rest i

small_append : (xs ys : List ℕ) → Small xs → Small ys → Small (xs ++ ys)
small_append [] ys a b = b
small_append (x ∷ xs) ys a b = small_cons x (xs ++ ys) (a 0) (small_append xs ys (λ i. a (suc i)) b)

small_zeros : (n : ℕ) → Small (replicate n 0)
small_zeros zero = small_nil
small_zeros (suc n) = small_cons 0 (replicate n 0) (omega arith) (small_zeros n)

byte_small : (k n : ℕ) → byte_at k n < 256
byte_small zero n = mod_below n 256 (omega arith)
byte_small (suc k) n = mod_below (n / 256 ^ suc k) 256 (omega arith)

small_bytes : (k n : ℕ) → Small (bytes_high_first k n)
small_bytes zero n = small_nil
small_bytes (suc k) n = small_cons (byte_at k n) (bytes_high_first k n) (byte_small k n) (small_bytes k n)

-- a request is octets
small_request : (word : ℕ) → Small (request_octets word)
small_request word =
    let head : List ℕ = 128 ∷ 1 ∷ 0 ∷ 0 ∷ [] in
    small_append ((head ++ to_be_bytes w64 word) ++ to_be_bytes w64 0) (replicate 8 0)
    (small_append (head ++ to_be_bytes w64 word) (to_be_bytes w64 0)
    (small_append head (to_be_bytes w64 word) (small_cons 128 (1 ∷ 0 ∷ 0 ∷ []) (omega arith) (small_cons 1 (0 ∷ 0 ∷ []) (omega arith) (small_zeros 2)))
    (small_bytes 8 word))
    (small_bytes 8 0))
    (small_zeros 8)

-- events of a storm, and the generator that gave them
pub record Tame (header : HeaderValue) (events : List Event) (v : StormValue) : Type 0 where
  pub ranges : All IsInRange events
  pub sealed : Sealed events
  pub prompt : Prompt header events
  pub apart : Apart events
  -- as long as not all nodes have booted
  pub follow : v.given ≤ v.nodes → Follow (v.state % 128) events

pub tame_none : (header : HeaderValue) (v : StormValue) → Tame header [] v
tame_none header v = record { ranges = All-nil IsInRange; sealed = tt; prompt = tt; apart = tt; follow = λ le. tt }

module _ (header : HeaderValue) (events : List Event) (v w : StormValue) (t : Tame header events v) where
  tame_event : (e : Event) → v.nodes ≤ 64 → v.given ≡ length events → Moves (posted_count header events) v e w → Adds header events v e w →
      Tame header (e ∷ events) w
  tame_event (BootAt at node word) few count m a =
      let low : word % 128 ≡ next_low (v.state % 128) = ap (λ z. z % 128) a.0 ∙ moved_low v in
      let booting : v.given < v.nodes = m.next.2 in
      record {
        ranges = All-cons IsInRange (BootAt at node word) events (subst (λ z. z < 2 ^ 64) (sym a.0) (mod_below _ (2 ^ 64) (omega arith))) t.ranges;
        sealed = (tt, t.sealed);
        prompt = (tt, t.prompt);
        apart = (boot_otherwise 0 (v.state % 128) word events low (omega (arith, few, count, booting)) (t.follow (omega (arith, booting))), t.apart);
        follow = λ le. (v.state % 128, ap (λ z. z % 128) (a.0 ∙ sym a.1), ap (λ z. z % 128) a.1 ∙ moved_low v, t.follow (omega (arith, booting)));
      }
  tame_event (Turn at node) few count m a = record {
    ranges = All-cons IsInRange (Turn at node) events tt t.ranges;
    sealed = (tt, t.sealed);
    prompt = (tt, t.prompt);
    apart = (tt, t.apart);
    follow = λ le. absurd (let all = m.next.0 in let g = m.given in let n = m.nodes in omega (arith, all, g, n, le));
  }
  tame_event (Take at k) few count m a = record {
    ranges = All-cons IsInRange (Take at k) events tt t.ranges;
    sealed = (tt, t.sealed);
    prompt = (recent, t.prompt);
    apart = (tt, t.apart);
    follow = λ le. absurd (let all = m.next.0 in let g = m.given in let n = m.nodes in omega (arith, all, g, n, le));
  } where
    recent : (p : Posted) → slice_get (posts (run header events)) k ≡ Some p → at ≤ p.at + LIFE
    recent p there =
        let time : posting_time header events k ≡ p.at = ap (λ o. unwrap_or (posted_time o) 0) there in
        omega (arith, a, time)
  tame_event (Bytes at node port from octets) few count m a = record {
    ranges = All-cons IsInRange (Bytes at node port from octets) events (subst (λ o. Small o) (sym a.1) (small_request a.0)) t.ranges;
    sealed = (subst (λ p. IsSealed (Bytes at node port p octets)) (sym m.next.4) tt, t.sealed);
    prompt = (tt, t.prompt);
    apart = (tt, t.apart);
    follow = λ le. absurd (let all = m.next.0 in let g = m.given in let n = m.nodes in omega (arith, all, g, n, le));
  }

-- one event more
pub tame_next : (header : HeaderValue) (events : List Event) (v : StormValue) → v.nodes ≤ 64 → v.given ≡ length events → Tame header events v →
    Moves (posted_count header events) v (next_event header events v).0 (next_event header events v).1 →
    Tame header ((next_event header events v).0 ∷ events) (next_event header events v).1
tame_next header events v few count t m = tame_event header events v (next_event header events v).1 t (next_event header events v).0 few count m
    (adds_next header events v)
