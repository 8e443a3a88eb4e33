-- That a history is attended, as a computation: for nodes of one port, whose numbered posts go to a few peers.
use Rattle.std.proofs.Common.{sym, ap, subst, arith, true≢false, ◌∙◌, ◌≡◌, ◌≤◌, ℕ, ◌+◌, ◌==◌, ◌||◌, ◌&&◌, nat_le, leb-true, eqb-true, Bool, true, false}
use Rattle.std.proofs.Common.{if◌then◌else◌, List, [], ◌∷◌, Option, None, Some, refl}
use Rattle.std.proofs.{Math.Bool.or-false, lemmas.Bool.and_parts}
use Rattle.tsp_rules.specs.Values.{Boot, Post, Become, Acked, Gave, Alarm, Quiet, Search, Elect, Window, Probe, CloseAlarm, ResolveAlarm, Round, Message}
use Rattle.tsp_rules.specs.Values.{PeerId, Peer, Port}
use Rattle.tsp_base.specs.Words.{Acts, Begins, Deadlines, Deed, Did, Line, Seen, Here, Elsewhere, Sending, acting, armed, armed_after, deadline, deadline_of}
use Rattle.tsp_base.specs.Words.{first_port, is_among, is_numbered, is_shared, none_armed, of, open_send, open_to, open_to_after, posts_of, seen_as, sending_at}
use Rattle.tsp_base.specs.Words.{view}
use Rattle.tsp_promises.specs.{Fits.node_of}
use Rattle.tsp_progress.proofs.InTimeProof.{none_is, none_some, value_of}
use Rattle.tsp_progress.specs.Watched.{Attended, AttendedAt, Watched}

-- a deadline that isn't overdue
abbrev pub is_kept : ℕ → ℕ → Option ℕ → Bool
is_kept late x None = true
is_kept late x (Some at) = nat_le x (at + late)

kept_is : (late x : ℕ) (o : Option ℕ) (at : ℕ) → is_kept late x o ≡ true → o ≡ Some at → x ≤ at + late
kept_is late x None at k e = none_some refl e
kept_is late x (Some to) at k e = let le = leb-true x (to + late) k in let same = value_of e in omega (arith, le, same)

-- none of them is
abbrev pub are_kept : ℕ → ℕ → Deadlines → Bool
are_kept late x d =
    (is_kept late x d.quiet && (is_kept late x d.search && (is_kept late x d.elect && is_kept late x d.window))) &&
    (is_kept late x d.probe && (is_kept late x d.close && (is_kept late x d.resolve && is_kept late x d.round)))

all_kept : (late x : ℕ) (d : Deadlines) → are_kept late x d ≡ true → (a : Alarm) (at : ℕ) → deadline d a ≡ Some at → x ≤ at + late
all_kept late x d k a at e =
    let half = and_parts (is_kept late x d.quiet && (is_kept late x d.search && (is_kept late x d.elect && is_kept late x d.window)))
    (is_kept late x d.probe && (is_kept late x d.close && (is_kept late x d.resolve && is_kept late x d.round))) k in
    let q = and_parts (is_kept late x d.quiet) (is_kept late x d.search && (is_kept late x d.elect && is_kept late x d.window)) half.0 in
    let s = and_parts (is_kept late x d.search) (is_kept late x d.elect && is_kept late x d.window) q.1 in
    let w = and_parts (is_kept late x d.elect) (is_kept late x d.window) s.1 in
    let p = and_parts (is_kept late x d.probe) (is_kept late x d.close && (is_kept late x d.resolve && is_kept late x d.round)) half.1 in
    let c = and_parts (is_kept late x d.close) (is_kept late x d.resolve && is_kept late x d.round) p.1 in
    let r = and_parts (is_kept late x d.resolve) (is_kept late x d.round) c.1 in
    by_alarm q.0 s.0 w.0 w.1 p.0 c.0 r.0 r.1 a e
  where
    by_alarm : is_kept late x d.quiet ≡ true → is_kept late x d.search ≡ true → is_kept late x d.elect ≡ true → is_kept late x d.window ≡ true →
        is_kept late x d.probe ≡ true → is_kept late x d.close ≡ true →
        is_kept late x d.resolve ≡ true → is_kept late x d.round ≡ true → (a : Alarm) → deadline d a ≡ Some at → x ≤ at + late
    by_alarm q s e w p c r o Quiet is = kept_is late x d.quiet at q is
    by_alarm q s e w p c r o Search is = kept_is late x d.search at s is
    by_alarm q s e w p c r o Elect is = kept_is late x d.elect at e is
    by_alarm q s e w p c r o Window is = kept_is late x d.window at w is
    by_alarm q s e w p c r o Probe is = kept_is late x d.probe at p is
    by_alarm q s e w p c r o CloseAlarm is = kept_is late x d.close at c is
    by_alarm q s e w p c r o ResolveAlarm is = kept_is late x d.resolve at r is
    by_alarm q s e w p c r o Round is = kept_is late x d.round at o is

-- a send that isn't overdue
abbrev pub is_soon : ℕ → ℕ → Option Sending → Bool
is_soon late x None = true
is_soon late x (Some s) = nat_le x (deadline_of s + late)

soon_is : (late x : ℕ) (o : Option Sending) (s : Sending) → is_soon late x o ≡ true → o ≡ Some s → x ≤ deadline_of s + late
soon_is late x o s k e = leb-true x (deadline_of s + late) (sym (ap (is_soon late x) e) ∙ k)

abbrev pub are_soon : ℕ → ℕ → List Seen → List PeerId → Bool
are_soon late x seen [] = true
are_soon late x seen (p ∷ rest) = is_soon late x (open_send p seen) && are_soon late x seen rest

-- whom a deed writes to
abbrev pub writes_to : List PeerId → Deed → Bool
writes_to ps (Acts (Post (Peer p) datagram)) = is_among p ps
writes_to ps _ = true

-- a port's posts go to these peers
abbrev pub only_to : List PeerId → List Seen → Bool
only_to ps [] = true
only_to ps (Here d ∷ before) = writes_to ps d.deed && only_to ps before
only_to ps (Elsewhere d ∷ before) = only_to ps before

among_same : (p q : PeerId) (ps : List PeerId) → (q.0 == p.0) ≡ true → is_among q ps ≡ is_among p ps
among_same p q ps e = ap (λ n. let r : PeerId = record { 0 = n } in is_among r ps) (eqb-true q.0 p.0 e)

-- nothing is open to anybody else
none_open : (ps : List PeerId) (p : PeerId) (seen : List Seen) → is_among p ps ≡ false → only_to ps seen ≡ true → open_to p seen ≡ []
none_open ps p [] n o = refl
none_open ps p (Elsewhere d ∷ before) n o = none_open ps p before n o
none_open ps p (Here d ∷ before) n o = let both = and_parts (writes_to ps d.deed) (only_to ps before) o in
    by_deed d.deed both.0 (none_open ps p before n both.1) where
      by_peer : (q : PeerId) (same numbered : Bool) → (q.0 == p.0) ≡ same → is_among q ps ≡ true → open_to p before ≡ [] →
          (if same && numbered then Here d ∷ before else open_to p before) ≡ []
      by_peer q true numbered s w e = absurd (true≢false (sym w ∙ (among_same p q ps s ∙ n)))
      by_peer q false numbered s w e = e

      by_off : (b : Bool) → open_to p before ≡ [] → (if b then [] else open_to p before) ≡ []
      by_off true e = refl
      by_off false e = e

      by_deed : (deed : Deed) → writes_to ps deed ≡ true → open_to p before ≡ [] → open_to_after p deed (acting before) (Here d ∷ before) (open_to p before) ≡
          []
      by_deed (Acts Boot) w e = refl
      by_deed (Acts (Become r)) w e = refl
      by_deed (Acts (Post (Peer q) (Message m))) w e = by_peer q (q.0 == p.0) (is_numbered m.kind && acting before) refl w e
      by_deed (Acts (Acked q)) w e = by_off (q.0 == p.0) e
      by_deed (Acts (Gave q)) w e = by_off (q.0 == p.0) e
      by_deed _ w e = e

sends_soon : (late x : ℕ) (seen : List Seen) (ps qs : List PeerId) → only_to ps seen ≡ true → are_soon late x seen qs ≡ true → (p : PeerId) → is_among p qs ≡
    true → (s : Sending) → open_send p seen ≡ Some s → x ≤ deadline_of s + late
sends_soon late x seen ps [] o k p m s e = absurd (true≢false (sym m))
sends_soon late x seen ps (q ∷ rest) o k p m s e = let both = and_parts (is_soon late x (open_send q seen)) (are_soon late x seen rest) k in
    by_peer (q.0 == p.0) refl m both.0 (λ m. sends_soon late x seen ps rest o both.1 p m s e) where
      by_peer : (same : Bool) → (q.0 == p.0) ≡ same → (same || is_among p rest) ≡ true → is_soon late x (open_send q seen) ≡ true →
          (is_among p rest ≡ true → x ≤ deadline_of s + late) → x ≤ deadline_of s + late
      by_peer true i m now later = soon_is late x (open_send p seen) s (subst (λ n. let r : PeerId = record { 0 = n } in is_soon late x (open_send r seen) ≡
          true) (eqb-true q.0 p.0 i) now) e
      by_peer false i m now later = later m

-- a port of a node of which all lines are on its first port
abbrev pub on_first : List Line → Bool
on_first [] = true
on_first (l ∷ before) = ((l.port.0 == 0) || is_shared l.did.deed) && on_first before

-- nothing is armed on another one, and nothing open
record Bare (seen : List Seen) : Type 0 where
  pub armed_is : armed seen ≡ none_armed
  pub open_is : (p : PeerId) → open_to p seen ≡ []

shared_bare : (deed : Deed) → is_shared deed ≡ true → (d : Did) (seen : List Seen) → d.deed ≡ deed → Bare seen → Bare (Here d ∷ seen)
shared_bare Begins s d seen is b = record {
  armed_is = ap (λ k. armed_after k (armed seen)) is ∙ b.armed_is;
  open_is = λ p. ap (λ k. open_to_after p k (acting seen) (Here d ∷ seen) (open_to p seen)) is ∙ b.open_is p;
}
shared_bare (Acts Boot) s d seen is b = record {
  armed_is = ap (λ k. armed_after k (armed seen)) is;
  open_is = λ p. ap (λ k. open_to_after p k (acting seen) (Here d ∷ seen) (open_to p seen)) is;
}
shared_bare _ s d seen is b = absurd (true≢false (sym s))

other_bare : (q : Port) (lines : List Line) → (0 == q.0) ≡ false → on_first lines ≡ true → Bare (view q lines)
other_bare q [] n f = record { armed_is = refl; open_is = λ p. refl }
other_bare q (l ∷ before) n f = let both = and_parts ((l.port.0 == 0) || is_shared l.did.deed) (on_first before) f in
    by_shared (is_shared l.did.deed) refl both.0 (other_bare q before n both.1) where
      not-here : (l.port.0 == 0) ≡ true → (l.port.0 == q.0) ≡ false
      not-here z = let is = eqb-true l.port.0 0 z in rw is n

      by_shared : (b : Bool) → is_shared l.did.deed ≡ b → ((l.port.0 == 0) || b) ≡ true → Bare (view q before) →
          Bare (seen_as ((l.port.0 == q.0) || is_shared l.did.deed) l.did ∷ view q before)
      by_shared true s o bare = by_own (l.port.0 == q.0) where
        by_own : (own : Bool) → Bare (seen_as (own || is_shared l.did.deed) l.did ∷ view q before)
        by_own true = shared_bare l.did.deed s l.did (view q before) refl bare
        by_own false = rw s (shared_bare l.did.deed s l.did (view q before) refl bare)
      by_shared false s o bare = let there = not-here (sym (or-false (l.port.0 == 0)) ∙ o) in
          rw (there, s) (record { armed_is = bare.armed_is; open_is = bare.open_is })

-- a node's ports are watched at tick x, which has one port and writes to these peers
abbrev pub watched_by : ℕ → List PeerId → ℕ → List Line → Bool
watched_by late ps x lines =
    (on_first lines && only_to ps (view first_port lines)) && (are_kept late x (armed (view first_port lines)) && are_soon late x (view first_port lines) ps)

no_send : {x n : ℕ} {o : Option Sending} {s : Sending} → o ≡ None → o ≡ Some s → x ≤ n
no_send none some = let bad : None ≡ Some _ = sym none ∙ some in let no : ⊥ = cc in absurd no

bare_watched : (late x : ℕ) (seen : List Seen) → Bare seen → Watched late x seen
bare_watched late x seen b = record {
  alarms = λ a at e. none_some (ap (λ d. deadline d a) b.armed_is ∙ none_is a) e;
  sends = λ p s e. no_send (ap (λ l. sending_at l (posts_of p seen)) (b.open_is p)) e;
}

pub watched_by_holds : (late : ℕ) (ps : List PeerId) (x : ℕ) (lines : List Line) → watched_by late ps x lines ≡ true → (q : Port) →
    Watched late x (view q lines)
watched_by_holds late ps x lines k q = by_port (0 == q.0) refl where
  here : (only_to ps (view first_port lines) ≡ true) → (are_kept late x (armed (view first_port lines)) ≡ true) →
      (are_soon late x (view first_port lines) ps ≡ true) → Watched late x (view first_port lines)
  here only kept soon = record {
    alarms = all_kept late x (armed (view first_port lines)) kept;
    sends = λ p s e. by_peer p s e (is_among p ps) refl;
  } where
    by_peer : (p : PeerId) (s : Sending) → open_send p (view first_port lines) ≡ Some s → (b : Bool) → is_among p ps ≡ b → x ≤ deadline_of s + late
    by_peer p s e true m = sends_soon late x (view first_port lines) ps ps only soon p m s e
    by_peer p s e false m = no_send (ap (λ l. sending_at l (posts_of p (view first_port lines))) (none_open ps p (view first_port lines) m only)) e

  by_port : (b : Bool) → (0 == q.0) ≡ b → Watched late x (view q lines)
  by_port true e =
      let halves = and_parts (on_first lines && only_to ps (view first_port lines)) (are_kept late x (armed (view first_port lines)) && are_soon late x
      (view first_port lines) ps) k in
      let first = and_parts (on_first lines) (only_to ps (view first_port lines)) halves.0 in
      let second = and_parts (are_kept late x (armed (view first_port lines))) (are_soon late x (view first_port lines) ps) halves.1 in
      subst (λ n. let r : Port = record { 0 = n } in Watched late x (view r lines)) (eqb-true 0 q.0 e) (here first.1 second.0 second.1)
  by_port false e =
      let halves = and_parts (on_first lines && only_to ps (view first_port lines)) (are_kept late x (armed (view first_port lines)) && are_soon late x
      (view first_port lines) ps) k in
      bare_watched late x (view q lines) (other_bare q lines e (and_parts (on_first lines) (only_to ps (view first_port lines)) halves.0).0)

abbrev pub attended_at : ℕ → List PeerId → Deed → Line → List Line → Bool
attended_at late ps Begins l world = watched_by late ps l.did.tick (of (node_of l) world)
attended_at late ps (Acts a) l world = true

-- the history is attended
abbrev pub attended_by : ℕ → List PeerId → List Line → Bool
attended_by late ps [] = true
attended_by late ps (l ∷ before) = attended_at late ps l.did.deed l before && attended_by late ps before

at_by : (late : ℕ) (ps : List PeerId) (deed : Deed) (l : Line) (world : List Line) → l.did.deed ≡ deed → attended_at late ps deed l world ≡ true →
    AttendedAt late l world
at_by late ps Begins l world is k begins q = watched_by_holds late ps l.did.tick (of (node_of l) world) k q
at_by late ps (Acts a) l world is k begins q = let bad : Begins ≡ Acts a = sym begins ∙ is in let no : ⊥ = cc in absurd no

pub attended_by_holds : (late : ℕ) (ps : List PeerId) (world : List Line) → attended_by late ps world ≡ true → Attended late world
attended_by_holds late ps [] k = tt
attended_by_holds late ps (l ∷ before) k =
    let both = and_parts (attended_at late ps l.did.deed l before) (attended_by late ps before) k in
    (at_by late ps l.did.deed l before refl both.0, attended_by_holds late ps before both.1)
