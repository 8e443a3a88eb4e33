-- How exchanges and samples are told.
use Rattle.std.proofs.Common.{◌∙◌, ap, ap₂, arith, sym, subst, refl, eq-eqb, ◌≡◌, ◌==◌, ◌<◌, ℕ, ℤ, pos, ◌-ℤ◌, ◌+ℤ◌, int_lt, Bool, true, false, if◌then◌else◌}
use Rattle.std.proofs.Common.{List, ◌∷◌, length, get_or, take, Option, None, Some}
use Rattle.std.proofs.lemmas.{Int.ints, List.length-take-le}
use Rattle.tsp_base.specs.declared.{act.Act.Act, act.Act.TheVariants.Post, act.Act.TheVariants.Sample, datagram.Datagram.Datagram}
use Rattle.tsp_base.specs.declared.place.{PeerId.PeerId, Place.Place, Port.Port}
use Rattle.tsp_promises.specs.Fits.{node_of}
use Rattle.tsp_base.specs.Words.{Acts, Did, Line, Seen, Here, of, view, dids, boot_after, boot_tick, moved, moved_after, target, wall, wall_after, Sampled}
use Rattle.tsp_base.specs.Words.{best, best_after, better, exchange, target_there}
use Rattle.tsp_base.proofs.{ViewPlaces.port_same, Views.plain_view}
use Rattle.tsp_history.specs.declared.line.HistoryLine.{HistoryLine}
use Rattle.tsp_history.specs.{Histories.deed_of, Histories.line_of, Histories.history_of, Posts.IsPost, declared.rounds.Best.Best}
use Rattle.tsp_history.specs.Rounds.{Asked, AskedAt, BestAt, Bests, better_of, IsSampleOf, LineAt, SeenAt, TripsTell, sample_in, sampled_at, start_of}
use Rattle.tsp_history.specs.Rounds.{trip_after, trip_at}
use Rattle.tsp_history.proofs.{HistoryLemmas.Within_noted, NoteLemmas.length_history, SendLemmas.view_here, SpacingLemmas.of_own}

-- a line among others, by its index
pub line_at : (ns : List HistoryLine) (i : ℕ) (n : HistoryLine) → i < length ns → get_or ns i n ≡ n → LineAt ns i n
line_at ns i n below is = record { below = below; noted_is = is; within = Within_noted ns i n below is }

-- a post leaves the clock as it was
target_post : (n : ℕ) (l : Line) (h : List Line) (to : Place) (d : Datagram) (y : ℕ) → node_of l ≡ n → l.did.deed ≡ Acts (Post to d) →
    target (dids (of n (l ∷ h))) y ≡ target (dids (of n h)) y
target_post n l h to d y node deed =
    ap (λ o. target (dids o) y) (of_own n l h node)
    ∙ ap (λ e. ((wall_after e l.did.step.cause (wall (dids (of n h))) -ℤ pos (boot_after e l.did.tick (boot_tick (dids (of n h))))) +ℤ moved_after e
    (moved (dids (of n h)))) +ℤ pos y) deed

-- an exchange is begun by a line that posts
pub asked_here : (n : ℕ) (q : Port) (seen : List Seen) (noted : HistoryLine) (h : List Line) (t : ℤ) → noted.node ≡ n → IsPost noted → seen ≡
    (Here (line_of noted).did ∷ view q (of n h)) →
    t ≡ target (dids (of noted.node (line_of noted ∷ h))) noted.tick → AskedAt seen t
asked_here n q seen noted h t node post is now =
    record {
      request = (line_of noted).did;
      older = view q (of n h);
      is = is;
      target_is = now ∙ ap (λ m. target (dids (of m (line_of noted ∷ h))) noted.tick) node ∙
          target_post n (line_of noted) h post.to post.datagram noted.tick node (ap deed_of post.act) ∙
          ap (λ ds. target ds noted.tick) (sym (plain_view q (of n h)));
    }

-- what a sample says, at its place
abbrev sample_at : (p : PeerId) (counter : ℕ) (diff err : ℤ) (ticket : ℕ) (d : Did) (s : List Seen) → Sampled
sample_at p counter diff err ticket d s =
    record {
      counter = counter;
      diff = diff;
      err = err;
      ticket = ticket;
      trip = target_there (Here d ∷ s) -ℤ target_there (exchange p counter s);
      place = Here d ∷ s;
    }

best_sample : (p : PeerId) (counter : ℕ) (diff err : ℤ) (ticket : ℕ) (d : Did) (s : List Seen) → d.deed ≡ Acts (Sample p counter diff err ticket) →
    best p (Here d ∷ s) ≡ Some (better (best p s) (sample_at p counter diff err ticket d s))
best_sample p counter diff err ticket d s deed = let same : (p.0 == p.0) ≡ true = eq-eqb p.0 p.0 refl in
    ap (λ a. best_after p a (Here d ∷ s) s (best p s)) deed ∙ (rw same refl)

-- a sample is told by this
record TellsOf (ns : List HistoryLine) (n : ℕ) (q : Port) (x : Sampled) (b : Best) : Type 0 where
  diff_is : x.diff ≡ b.diff
  err_is : x.err ≡ b.err
  trip_is : x.trip ≡ b.trip
  place : SeenAt ns n q x.place b.index

pick : (ns : List HistoryLine) (n : ℕ) (q : Port) (t : Bool) (x y : Sampled) (u v : Best) → TellsOf ns n q x u → TellsOf ns n q y v →
    TellsOf ns n q (if t then x else y) (if t then u else v)
pick ns n q true x y u v a b = a
pick ns n q false x y u v a b = b

tells_best : (ns : List HistoryLine) (n : ℕ) (q : Port) (o : Option Sampled) (x : Sampled) (b : Best) → o ≡ Some x → TellsOf ns n q x b → BestAt ns n q o b
tells_best ns n q o x b is told = record { sampled = x; is = is; diff_is = told.diff_is; err_is = told.err_is; trip_is = told.trip_is; place = told.place }

-- the better of two samples, if there are any, the earlier one first
abbrev pub merged : Option Best → Option Best → Option Best
merged None late = late
merged (Some early) late = Some (better_of early late)

-- the better of what was seen and a new sample
better_told : (ns : List HistoryLine) (n : ℕ) (q : Port) (o : Option Sampled) (was : Option Best) (late : Sampled) (new : Best) → Bests ns n q o was →
    TellsOf ns n q late new → Bests ns n q (Some (better o late)) (merged was (Some new))
better_told ns n q o None late new none told = tells_best ns n q (Some (better o late)) late new (ap (λ k. Some (better k late)) none) told
better_told ns n q o (Some b) late new is told =
    let early : TellsOf ns n q is.sampled b = record { diff_is = is.diff_is; err_is = is.err_is; trip_is = is.trip_is; place = is.place } in
    let one : Sampled = if int_lt new.trip b.trip then late else is.sampled in
    let same : better (Some is.sampled) late ≡ one = ap₂ (λ s t. let r : Sampled = if int_lt s t then late else is.sampled in r) told.trip_is is.trip_is in
    tells_best ns n q (Some (better o late)) one (better_of b (Some new)) (ap (λ k. Some (better k late)) is.is ∙
    ap (λ k. Some k) same) (pick ns n q (int_lt new.trip b.trip) late is.sampled new b told early)

peer_same : (p r : PeerId) → p.0 ≡ r.0 → p ≡ r
peer_same p r e = ap (λ n. let o : PeerId = record { 0 = n } in o) e

-- a sample is taken
pub best_here : (ns : List HistoryLine) (n : ℕ) (q : Port) (p : PeerId) (noted : HistoryLine) (i : ℕ) (was : Option Best) (trip : ℤ) → LineAt ns i noted →
    IsSampleOf noted n q p → trip ≡ trip_at (line_of noted) (history_of (take i ns)) →
    Bests ns n q (best p (view q (of n (history_of (take i ns))))) was → Bests ns n q (best p (view q (of n (line_of noted ∷ history_of (take i ns)))))
    (merged was (Some (sampled_at noted i trip)))
best_here ns n q p noted i was trip at is trips best_is =
    subst (λ (a : Option Act). Bests ns n q (best p (view q (of n (l ∷ h)))) (merged was (Some (sample_in a i trip)))) (sym is.act)
    (subst (λ o. Bests ns n q o (merged was (Some new))) (sym now) (better_told ns n q (best p s) was late new best_is told))
  where
    l : Line
    l = line_of noted

    h : List Line
    h = history_of (take i ns)

    s : List Seen
    s = view q (of n h)

    port : noted.port ≡ q
    port = port_same noted.port q (eq-eqb noted.port.0 q.0 is.port)

    own : l.did.deed ≡ Acts (Sample p is.counter is.diff is.err is.ticket)
    own = ap deed_of is.act ∙ ap (λ k. Acts (Sample k is.counter is.diff is.err is.ticket)) (peer_same is.peer p is.peer_is)

    late : Sampled
    late = sample_at p is.counter is.diff is.err is.ticket l.did s

    new : Best
    new = record { index = i; diff = is.diff; err = is.err; trip = trip }

    now : best p (view q (of n (l ∷ h))) ≡ Some (better (best p s) late)
    now = ap (best p) (view_here n q l h is.node port) ∙ best_sample p is.counter is.diff is.err is.ticket l.did s own

    measured : trip_at l h ≡ late.trip
    measured = ap (λ a. trip_after a l.did (view noted.port (of noted.node h))) own ∙
        ap₂ (λ k m. trip_after (Acts (Sample p is.counter is.diff is.err is.ticket)) l.did (view k (of m h))) port is.node

    told : TellsOf ns n q late new
    told = record {
      diff_is = refl;
      err_is = refl;
      trip_is = sym (trips ∙ measured);
      place = record { noted = noted; at = at; node = is.node; port = port; is = refl };
    }

-- the round trip of a line by its index
pub trip_here : (ns : List HistoryLine) (trips : List ℤ) (i : ℕ) (noted : HistoryLine) → TripsTell (history_of ns) trips → i < length ns → get_or ns i noted ≡
    noted → get_or trips i (pos 0) ≡ trip_at (line_of noted) (history_of (take i ns))
trip_here ns trips i noted tell lt is =
    subst (λ (k : ℕ). get_or trips k (pos 0) ≡ trip_at (line_of noted) (history_of (take i ns))) (omega (
      arith,
      length_history (take i ns),
      length-take-le i ns (omega (arith, lt)),
    )) (tell (line_of noted) (history_of (take i ns)) (Within_noted ns i noted lt is))

pub merged_none : (was : Option Best) → merged was None ≡ was
merged_none None = refl
merged_none (Some b) = refl

less_chain : (a b c : ℤ) → int_lt a b ≡ true → int_lt b c ≡ true → int_lt a c ≡ true
less_chain a b c one two = grind (arith, ints)

less_none : (a b c : ℤ) → int_lt a b ≡ false → int_lt b c ≡ false → int_lt a c ≡ false
less_none a b c one two = grind (arith, ints)

-- of three samples, whichever two are compared first
pub merged_more : (was : Option Best) (new : Best) (late : Option Best) → merged (merged was (Some new)) late ≡ merged was (Some (better_of new late))
merged_more None new late = refl
merged_more (Some e) new None = refl
merged_more (Some e) new (Some l) = ap (λ b. Some b) (least (int_lt new.trip e.trip) (int_lt l.trip new.trip) (int_lt l.trip e.trip) refl refl refl) where
  least : (b c d : Bool) → int_lt new.trip e.trip ≡ b → int_lt l.trip new.trip ≡ c → int_lt l.trip e.trip ≡ d →
      (let one : Best = if b then new else e in if int_lt l.trip one.trip then l else one) ≡
      (let two : Best = if c then l else new in if int_lt two.trip e.trip then two else e)
  least true true d be ce de = rw (ce, less_chain l.trip new.trip e.trip ce be) refl
  least true false d be ce de = rw (ce, be) refl
  least false true d be ce de = rw de refl
  least false false d be ce de = rw (be, less_none l.trip new.trip e.trip ce be) refl

start_there : (seen : List Seen) (asked : Option ℤ) → Asked seen asked → target_there seen ≡ start_of asked
start_there seen None none = ap target_there none
start_there seen (Some t) at = ap target_there at.is ∙ sym at.target_is

-- a round trip is the time since the exchange that is open
pub trip_told : (l : Line) (h : List Line) (p : PeerId) (counter : ℕ) (diff err : ℤ) (ticket : ℕ) (asked : Option ℤ) (now : ℤ) → l.did.deed ≡
    Acts (Sample p counter diff err ticket) →
    Asked (exchange p counter (view l.port (of (node_of l) h))) asked → now ≡ target (dids (of (node_of l) h)) l.did.tick → trip_at l h ≡ now -ℤ start_of asked
trip_told l h p counter diff err ticket asked now deed told is =
    ap (λ a. trip_after a l.did (view l.port (of (node_of l) h))) deed
    ∙ ap₂ (λ a b. a -ℤ b) (ap (λ ds. target ds l.did.tick) (plain_view l.port (of (node_of l) h)) ∙
    sym is) (start_there (exchange p counter (view l.port (of (node_of l) h))) asked told)
