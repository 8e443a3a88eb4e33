-- Lists of events without foreign octets, and what a test finds of all of them: that each can happen, that takes are early, that words differ.
use Rattle.std.proofs.Common.{length-append, subst, suc, ◌-◌, if◌then◌else◌, ap, arith, leb-true, true≢false, ◌∙◌, sym, ◌≡◌, ℕ, ◌+◌, ◌<◌, ◌≤◌, ◌==◌, ◌&&◌}
use Rattle.std.proofs.Common.{nat_le, nat_lt, not, Bool, true, false, List, [], ◌∷◌, length, Option, None, Some, slice_get, eq-eqb, All, refl}
use Rattle.std.proofs.lemmas.{Bool.and_parts, Bool.ltb-true, List.Elements.All-cons, List.Elements.All-nil}
use Rattle.tsp_rules.specs.Values.{Event, BootAt, Turn, Take, Bytes, LIFE}
use Rattle.tsp_base.specs.{Words.HeaderValue, declared.event.EventFault.EventFault}
use Rattle.tsp_run.specs.Clocked.{Clocks, HappensBy, IsPromptBy, PromptBy, run_by, scene_by}
use Rattle.tsp_run.specs.{Premised.AllBootOtherwise, Premised.Apart, Premised.Sealed}
use Rattle.tsp_run.specs.{Ranges.IsInRange, Refusals.impossible, Run.posted_time, Run.posts, declared.posted.Posted.Posted}
use Rattle.tsp_run.{specs.Clocked.tick_by, proofs.NetworkLemmas.some_same}
use Rattle.tsp_network.specs.{Kept.AllSuit, Kept.HasTurn, Kept.Suits, Lives.Daemons, Lives.Life, Lives.turn_told, Networks.Network, Networks.network}
use Rattle.tsp_network.specs.Networks.{life_from, life_until, with_life}
use Rattle.tsp_network.proofs.NetworkRuns.{Nothing, Outcome, Starts, Turns, outcome}

-- an event hands no octets over, and a boot's word is one
abbrev pub is_plain : Event → Bool
is_plain (BootAt at node word) = nat_lt word 18446744073709551616
is_plain (Bytes at node port from octets) = false
is_plain _ = true

abbrev pub are_plain : List Event → Bool
are_plain [] = true
are_plain (e ∷ before) = is_plain e && are_plain before

plain_range : (e : Event) → is_plain e ≡ true → IsInRange e
plain_range (BootAt at node word) p = let few : word < 18446744073709551616 = ltb-true word 18446744073709551616 p in omega (arith, few)
plain_range (Turn at node) p = tt
plain_range (Take at k) p = tt
plain_range (Bytes at node port from octets) p = absurd (true≢false (sym p))

pub plain_ranges : (events : List Event) → are_plain events ≡ true → All IsInRange events
plain_ranges [] p = All-nil IsInRange
plain_ranges (e ∷ before) p =
    let both = and_parts (is_plain e) (are_plain before) p in
    All-cons IsInRange e before (plain_range e both.0) (plain_ranges before both.1)

pub plain_sealed : (events : List Event) → are_plain events ≡ true → Sealed events
plain_sealed [] p = tt
plain_sealed (BootAt at node word ∷ before) p = (tt, plain_sealed before (and_parts (is_plain (BootAt at node word)) (are_plain before) p).1)
plain_sealed (Turn at node ∷ before) p = (tt, plain_sealed before p)
plain_sealed (Take at k ∷ before) p = (tt, plain_sealed before p)
plain_sealed (Bytes at node port from octets ∷ before) p = absurd (true≢false (sym p))

-- no daemon has taken more turns than there were events
abbrev AtMost : ℕ → Network → Type 0
AtMost m w = (n : ℕ) (life : Life) → w.lives n ≡ Some life → length life.arrivals ≤ m

lives_most : (o : Option ℕ) (m n : ℕ) (now : Life) (w : Network) → length now.arrivals ≤ m → AtMost m w → (x : ℕ) (life : Life) →
    with_life n (life_until o now) w.lives x ≡ Some life → length life.arrivals ≤ m
lives_most o m n now w few all x life there = by_node (x == n) there where
  by_end : (o : Option ℕ) → life_until o now ≡ Some life → length life.arrivals ≤ m
  by_end None there = subst (λ (l : Life). length l.arrivals ≤ m) (some_same there) few
  by_end (Some i) there = let bad : ⊥ = cc in absurd bad

  by_node : (b : Bool) → (if b then life_until o now else w.lives x) ≡ Some life → length life.arrivals ≤ m
  by_node true there = by_end o there
  by_node false there = all x life there

one-more : (m : ℕ) (w : Network) → AtMost m w → AtMost (suc m) w
one-more m w all n life there = let few = all n life there in omega (arith, few)

event_most : {d : Daemons} {k m : ℕ} {w v : Network} → AtMost m w → Outcome d k w v → AtMost (suc m) v
event_most {d} {k} {m} {w} all (Starts at n word) = lives_most (d.tries k) (suc m) n (life_from d k at n word w) w (omega arith) (one-more m w all)
event_most {d} {k} {m} {w} all (Turns step a life there) =
    let more = length-append life.arrivals (a ∷ []) in
    let few = all step.node life there in
    lives_most (d.tries k) (suc m) step.node (turn_told a (d.early k) (tick_by d.clocks step - life.origin) life) w (omega (arith, more, few))
    (one-more m w all)
event_most {m = m} {w = w} all Nothing = one-more m w all

most : (d : Daemons) (events : List Event) → AtMost (length events) (network d events)
most d [] = λ n life there. (let bad : ⊥ = cc in absurd bad)
most d (e ∷ before) = event_most (most d before) (outcome d (length before) (network d before) e)

-- so where there are few events, each has a turn left
turn_left : (d : Daemons) (before : List Event) → ((n : ℕ) → 1000 ≤ (d.words n).turns) → length before < 1000 → (n : ℕ) → HasTurn d (network d before) n
turn_left d before turns few n life there = let some = turns n in let most = most d before n life there in omega (arith, few, some, most)

-- what daemons owe at such events besides, they owe at boots alone
abbrev pub BootsSuit : Daemons → List Event → Type 0
BootsSuit d [] = Unit {0}
BootsSuit d (BootAt at node word ∷ before) = Suits d (length before) (network d before) (BootAt at node word) × BootsSuit d before
BootsSuit d (e ∷ before) = BootsSuit d before

pub plain_suit : (d : Daemons) (events : List Event) → ((n : ℕ) → 1000 ≤ (d.words n).turns) → length events ≤ 1000 → are_plain events ≡ true →
    BootsSuit d events → AllSuit d events
plain_suit d [] turns few p s = tt
plain_suit d (BootAt at node word ∷ before) turns few p s =
    (s.0, plain_suit d before turns (omega (arith, few)) (and_parts (is_plain (BootAt at node word)) (are_plain before) p).1 s.1)
plain_suit d (Turn at node ∷ before) turns few p s =
    (turn_left d before turns (omega (arith, few)) node, plain_suit d before turns (omega (arith, few)) p s)
plain_suit d (Take at k ∷ before) turns few p s =
    ((λ sent to there goes. turn_left d before turns (omega (arith, few)) to.node), plain_suit d before turns (omega (arith, few)) p s)
plain_suit d (Bytes at node port from octets ∷ before) turns few p s = absurd (true≢false (sym p))

-- no event is a boot with this word
abbrev pub boots_otherwise : ℕ → List Event → Bool
boots_otherwise w [] = true
boots_otherwise w (BootAt at node word ∷ before) = not (word == w) && boots_otherwise w before
boots_otherwise w (e ∷ before) = boots_otherwise w before

-- the words of boots differ
abbrev pub words_differ : List Event → Bool
words_differ [] = true
words_differ (BootAt at node word ∷ before) = boots_otherwise word before && words_differ before
words_differ (e ∷ before) = words_differ before

otherwise_all : (w : ℕ) (events : List Event) → boots_otherwise w events ≡ true → AllBootOtherwise w events
otherwise_all w [] p = tt
otherwise_all w (BootAt at node word ∷ before) p =
    let both = and_parts (not (word == w)) (boots_otherwise w before) p in
    ((λ same. true≢false (sym both.0 ∙ ap not (eq-eqb word w same))), otherwise_all w before both.1)
otherwise_all w (Turn at node ∷ before) p = (tt, otherwise_all w before p)
otherwise_all w (Take at k ∷ before) p = (tt, otherwise_all w before p)
otherwise_all w (Bytes at node port from octets ∷ before) p = (tt, otherwise_all w before p)

pub differ_apart : (events : List Event) → words_differ events ≡ true → Apart events
differ_apart [] p = tt
differ_apart (BootAt at node word ∷ before) p =
    let both = and_parts (boots_otherwise word before) (words_differ before) p in
    (otherwise_all word before both.0, differ_apart before both.1)
differ_apart (Turn at node ∷ before) p = (tt, differ_apart before p)
differ_apart (Take at k ∷ before) p = (tt, differ_apart before p)
differ_apart (Bytes at node port from octets ∷ before) p = (tt, differ_apart before p)

-- there is no cause
abbrev pub is_none : Option EventFault → Bool
is_none None = true
is_none (Some fault) = false

none_so : (o : Option EventFault) → is_none o ≡ true → o ≡ None
none_so None p = refl
none_so (Some fault) p = absurd (true≢false (sym p))

-- each event can happen after those before it
abbrev pub all_can : Clocks → HeaderValue → List Event → Bool
all_can clocks header [] = true
all_can clocks header (e ∷ before) = is_none (impossible (scene_by clocks header before) e) && all_can clocks header before

pub can_happen_all : (clocks : Clocks) (header : HeaderValue) (events : List Event) → all_can clocks header events ≡ true → HappensBy clocks header events
can_happen_all clocks header [] p = tt
can_happen_all clocks header (e ∷ before) p =
    let both = and_parts (is_none (impossible (scene_by clocks header before) e)) (all_can clocks header before) p in
    (none_so (impossible (scene_by clocks header before) e) both.0, can_happen_all clocks header before both.1)

-- a take at this time isn't later than LIFE after its post, if there is one
abbrev pub is_soon : ℕ → Option ℕ → Bool
is_soon at None = true
is_soon at (Some posted) = nat_le at (posted + LIFE)

abbrev pub takes_soon : List Posted → Event → Bool
takes_soon sent (Take at k) = is_soon at (posted_time (slice_get sent k))
takes_soon sent _ = true

abbrev pub all_soon : Clocks → HeaderValue → List Event → Bool
all_soon clocks header [] = true
all_soon clocks header (e ∷ before) = takes_soon (posts (run_by clocks header before)) e && all_soon clocks header before

soon_so : (at : ℕ) (o : Option Posted) → is_soon at (posted_time o) ≡ true → (p : Posted) → o ≡ Some p → at ≤ p.at + LIFE
soon_so at None soon p there = let bad : ⊥ = cc in absurd bad
soon_so at (Some q) soon p there =
    let early = leb-true at (q.at + LIFE) soon in
    let same : q.at ≡ p.at = cc in
    omega (arith, early, same)

soon_prompt : (clocks : Clocks) (header : HeaderValue) (before : List Event) (e : Event) → takes_soon (posts (run_by clocks header before)) e ≡ true →
    IsPromptBy clocks header before e
soon_prompt clocks header before (Take at k) p = soon_so at (slice_get (posts (run_by clocks header before)) k) p
soon_prompt clocks header before _ p = tt

pub soon_prompt_all : (clocks : Clocks) (header : HeaderValue) (events : List Event) → all_soon clocks header events ≡ true → PromptBy clocks header events
soon_prompt_all clocks header [] p = tt
soon_prompt_all clocks header (e ∷ before) p =
    let both = and_parts (takes_soon (posts (run_by clocks header before)) e) (all_soon clocks header before) p in
    (soon_prompt clocks header before e both.0, soon_prompt_all clocks header before both.1)
