-- What is written on a board, write by write.
use Rattle.std.proofs.Common.{ap, sym, subst, inl, inr, arith, ◌∙◌, append_assoc, append-nil, refl, ◌≡◌, ℕ, suc, ◌+◌, ◌-◌, ◌^◌, min, ℤ, ◌-ℤ◌, Bool}
use Rattle.std.proofs.Common.{List, []}
use Rattle.std.proofs.Common.{◌∷◌, ◌++◌, Option, None, Some}
use Rattle.std.specs.Option.{option_map}
use Rattle.tsp_base.specs.Words.{dids, last_correct, rest as rest_of}
use Rattle.tsp_gateway.specs.Standings.{standing}
use Rattle.tsp_io.specs.{Boards.Mark, Links.NotesReceive, Links.Tried, declared.origin.Origin.Origin}
use Rattle.tsp_query.specs.Outside.{Paged}
use Rattle.tsp_page.specs.declared.{daemon_half.DaemonHalf.DaemonHalf, rank.Rank.Rank}
use Rattle.tsp_rules.specs.{NodeRows.NodePast, Values.Placed}
use Rattle.tsp_daemon.specs.{Ends.FinishesUntil, declared.end.ServeEnd.ServeEnd}
use Rattle.tsp_daemon.specs.declared.end.ServeEnd.TheVariants.{Done, LinkFault, WriteFault, OutOfMemory}
use Rattle.tsp_daemon.specs.Sessions.{Session, acts_in_turn, after_turns, past_after, turn_tick, waited}
use Rattle.tsp_daemon.specs.Pages.{AreReads, LeavesAfter, LeavesSheet, MarksUntil, Sheet, marks_after, marks_begun, page_begun, sheet_after}
use Rattle.tsp_daemon.specs.Pages.{sheet_begun, sheet_in_turn, sheet_next}
use Rattle.tsp_daemon.specs.Pages.{EndsMarks, marks_in_turn, marks_next, moment_after, page_from}
use Rattle.tsp_daemon.specs.Pages.{NotesMarks, Page, half_after, least_after, master_in, offset_of, rank_in, steps_in, target_then}

-- one write
pub Marks_one : (before now : Option (List Mark)) (mark : Mark) → NotesReceive before now mark → NotesMarks (mark ∷ []) before now
Marks_one before None mark h = tt
Marks_one None (Some now) mark h = h
Marks_one (Some before) (Some now) mark h = h

-- some writes, and then others
pub Marks_then : (xs ys : List Mark) (before between now : Option (List Mark)) → NotesMarks xs before between → NotesMarks ys between now →
    NotesMarks (xs ++ ys) before now
Marks_then xs ys before between None p q = tt
Marks_then xs ys before None (Some now) p q = absurd q
Marks_then xs ys None (Some between) (Some now) p q = absurd p
Marks_then xs ys (Some before) (Some between) (Some now) p q = q ∙ ap (λ (ms : List Mark). ms ++ ys) p ∙ append_assoc before xs ys

-- none
pub Marks_none : (before : Option (List Mark)) → NotesMarks [] before before
Marks_none None = tt
Marks_none (Some before) = sym (append-nil before)

-- a write, and then others
pub Marks_more : (before between now : Option (List Mark)) (mark : Mark) (ys : List Mark) → NotesReceive before between mark → NotesMarks ys between now →
    NotesMarks (mark ∷ ys) before now
Marks_more before between now mark ys p q = Marks_then (mark ∷ []) ys before between now (Marks_one before between mark p) q

-- a half with these fields is the one after a turn
pub half_is : (past : NodePast) (acts : List Placed) (x moment : ℕ) (p : Page) (old : DaemonHalf) (tick steps master : ℕ) (target rest least moved : ℤ)
    (rank : Rank)
    → old ≡ p.half → tick ≡ last_correct (dids past.lines) → target ≡ target_then past → rest ≡ rest_of (dids past.lines) → least ≡
    least_after acts moment p.half
    → moved ≡ offset_of past -ℤ p.offset → steps ≡ min (p.half.steps + steps_in acts) (2 ^ 64 - 1) → rank ≡ rank_in (standing past) → master ≡
    master_in (standing past) →
    record {
      life = old.life;
      counter = old.counter;
      origin = old.origin;
      origin_tick = old.origin_tick;
      rate = old.rate;
      tick = tick;
      target = target;
      rest = rest;
      least = least;
      moved = moved;
      steps = steps;
      rank = rank;
      master = master;
      alive = x;
    } ≡ half_after past acts x moment p
half_is past acts x moment p old tick steps master target rest least moved rank o t g r l m s k n = rw (o, t, g, r, l, m, s, k, n) refl

-- a call before that wrote nothing
pub Marks_from : (before between now : Option (List Mark)) (xs : List Mark) → between ≡ before → NotesMarks xs between now → NotesMarks xs before now
Marks_from before between now xs same m = subst (λ (ms : Option (List Mark)). NotesMarks xs ms now) same m

-- nothing was written
pub Marks_same : (before now : Option (List Mark)) → now ≡ before → NotesMarks [] before now
Marks_same before now same = subst (λ (ms : Option (List Mark)). NotesMarks [] before ms) (sym same) (Marks_none before)

-- what is told of reads stays so over a call that reads nothing
pub reads_before : (left : List Mark) (before now : Option (List Mark)) → now ≡ before → AreReads left now → AreReads left before
reads_before left before now same h = subst (λ (o : Option (List Mark)). AreReads left o) same h

-- these are the ones
pub reads_of : (left views : List Mark) (told : Option (List Mark)) → views ≡ left → AreReads left told → AreReads views told
reads_of left views told same h = subst (λ (vs : List Mark). AreReads vs told) (sym same) h

same_told : (views : List Mark) (told : Option (List Mark)) → AreReads views told → told ≡ option_map (λ (v : List Mark). views) told
same_told views None h = refl
same_told views (Some v) h = ap (λ (w : List Mark). Some w) h

-- what reads give that is told; none if it isn't
abbrev pub reads_in : Option (List Mark) → List Mark
reads_in None = []
reads_in (Some views) = views

pub are_reads_in : (told : Option (List Mark)) → AreReads (reads_in told) told
are_reads_in None = tt
are_reads_in (Some views) = refl

pub still_told : (views : List Mark) (before now : Option (List Mark)) → now ≡ before → AreReads views before →
    now ≡ option_map (λ (v : List Mark). views) before
still_told views before now same h = same ∙ same_told views before h

-- what a turn leaves, by what its session says
abbrev Shown : Session → ℕ → Sheet → List Mark → Option Page → Paged → Paged → List Placed → ℕ → ℕ → Type 0
Shown s delay sheet left now before after acts tick last =
    (now ≡ (sheet_next (past_after s) acts tick (moment_after delay last) sheet).page)
    × ((sheet_next (past_after s) acts tick (moment_after delay last) sheet).views ≡ left)
    × LeavesSheet (sheet_next (past_after s) acts tick (moment_after delay last) sheet) (marks_next (past_after s) acts tick (moment_after delay last) sheet)
    before after

pub shown_is : (s : Session) (delay : ℕ) (sheet : Sheet) (left : List Mark) (acts : List Placed) (tick last : ℕ) (now : Option Page)
    (before between after : Paged) → acts ≡ acts_in_turn s → tick ≡ turn_tick s → last ≡ tick → between ≡ before
    → Shown s delay sheet left now between after acts tick last
    → (now ≡ (sheet_in_turn delay s sheet).page) × ((sheet_in_turn delay s sheet).views ≡ left) ×
    LeavesSheet (sheet_in_turn delay s sheet) (marks_in_turn delay s sheet) before after
shown_is s delay sheet left acts tick last now before between after a t l b shown =
    let at : last ≡ turn_tick s = l ∙ t in
    let first : Shown s delay sheet left now before after acts tick last = subst (λ (p : Paged). Shown s delay sheet left now p after acts tick last) b
    shown in
    subst (λ x. Shown s delay sheet left now before after (acts_in_turn s) (turn_tick s) x) at
    (subst (λ x. Shown s delay sheet left now before after (acts_in_turn s) x last) t
    (subst (λ (ps : List Placed). Shown s delay sheet left now before after ps tick last) a first))

-- a turn that was cut off at its sends or its lines has left all of that
pub ends_marks : (delay : ℕ) (s : Session) (sheet : Sheet) (calls : Option ℕ) (before now : Paged) (sends : List Tried) (text : List ℕ)
    (tried more : Option (List Tried)) (written text_now : Option (List ℕ)) (end : ServeEnd) →
    FinishesUntil sends text tried more written text_now end → calls ≡ Some (waited s.outside).calls →
    LeavesSheet (sheet_in_turn delay s sheet) (marks_in_turn delay s sheet) before now → EndsMarks delay s sheet calls before now end
ends_marks delay s sheet calls before now sends text tried more written text_now WriteFault f c m = m
ends_marks delay s sheet calls before now sends text tried more written text_now OutOfMemory f c m = inr (c, m)
ends_marks delay s sheet calls before now sends text tried more written text_now _ f c m = absurd f.1

-- nothing was written or read
pub leaves_same : (sheet : Sheet) (before now : Paged) → now.marks ≡ before.marks → now.origin ≡ Some sheet.origin → now.views ≡ before.views →
    AreReads sheet.views before.views → LeavesSheet sheet [] before now
leaves_same sheet before now m o v h = record {
  noted = Marks_same before.marks now.marks m;
  origin = o;
  views = still_told sheet.views before.views now.views v h;
}

-- the page is where so many turns have brought it, and what they left is told; these reads are left
pub record IsMarked (delay n : ℕ) (s : Session) (begun : Option Page) (origin : Option Origin) (views : List Mark) (page : Option Page) (left : List Mark)
    (before now : Paged) : Type 0 where
  pub page_is : page ≡ (sheet_after delay n s (sheet_begun begun origin views)).page
  pub left_is : (sheet_after delay n s (sheet_begun begun origin views)).views ≡ left
  pub leaves : LeavesAfter delay n s begun origin views before now

-- at the beginning
pub begins_marked : (delay : ℕ) (s : Session) (begun : Option Page) (origin : Option Origin) (views : List Mark) (page : Option Page)
    (before now : Paged) → page ≡ page_begun begun → NotesMarks (marks_begun begun) before.marks now.marks → now.origin ≡ Some origin →
    now.views ≡ before.views → AreReads views before.views → IsMarked delay 0 s begun origin views page views before now
begins_marked delay s begun origin views page before now p m o v h = record {
  page_is = p;
  left_is = refl;
  leaves = record {
    noted = subst (λ (ms : List Mark). NotesMarks ms before.marks now.marks) (sym (append-nil (marks_begun begun))) m;
    origin = o;
    views = still_told views before.views now.views v h;
  };
}

-- what is told after two calls, if each leaves it told or not
told_then : (a b : List Mark) (before between now : Option (List Mark)) → between ≡ option_map (λ (v : List Mark). a) before →
    now ≡ option_map (λ (v : List Mark). b) between → now ≡ option_map (λ (v : List Mark). b) before
told_then a b None between now p q = q ∙ ap (λ (o : Option (List Mark)). option_map (λ (v : List Mark). b) o) p
told_then a b (Some w) between now p q = q ∙ ap (λ (o : Option (List Mark)). option_map (λ (v : List Mark). b) o) p

-- what a turn more leaves
more_left : (delay n : ℕ) (s : Session) (begun : Option Page) (origin : Option Origin) (views : List Mark) (before between now : Paged) →
    LeavesAfter delay n s begun origin views before between →
    LeavesSheet (sheet_in_turn delay (after_turns n s) (sheet_after delay n s (sheet_begun begun origin views)))
    (marks_in_turn delay (after_turns n s) (sheet_after delay n s (sheet_begun begun origin views))) between now →
    LeavesAfter delay (suc n) s begun origin views before now
more_left delay n s begun origin views before between now h m = record {
  noted = subst (λ (ms : List Mark). NotesMarks ms before.marks now.marks) (append_assoc (marks_begun begun)
      (marks_after delay n s (sheet_begun begun origin views)) _) (Marks_then _ _ before.marks between.marks now.marks h.noted m.noted);
  origin = m.origin;
  views = told_then _ _ before.views between.views now.views h.views m.views;
}

-- one turn more
pub one_more_marked : (delay n : ℕ) (s : Session) (begun : Option Page) (origin : Option Origin) (views left more : List Mark) (page next : Option Page)
    (before between now : Paged) → IsMarked delay n s begun origin views page left before between →
    next ≡ (sheet_in_turn delay (after_turns n s) (sheet_after delay n s (sheet_begun begun origin views))).page →
    (sheet_in_turn delay (after_turns n s) (sheet_after delay n s (sheet_begun begun origin views))).views ≡ more →
    LeavesSheet (sheet_in_turn delay (after_turns n s) (sheet_after delay n s (sheet_begun begun origin views)))
    (marks_in_turn delay (after_turns n s) (sheet_after delay n s (sheet_begun begun origin views))) between now →
    IsMarked delay (n + 1) s begun origin views next more before now
one_more_marked delay n s begun origin views left more page next before between now h p v m =
    let one : suc n ≡ n + 1 = omega arith in
    let marked : IsMarked delay (suc n) s begun origin views next more before now = record {
      page_is = p;
      left_is = v;
      leaves = more_left delay n s begun origin views before between now h.leaves m;
    } in
    subst (λ k. IsMarked delay k s begun origin views next more before now) one marked

-- what is left where a turn ends the session
pub until_marked : (delay n : ℕ) (s : Session) (begun : Option Page) (origin : Option Origin) (views left : List Mark) (page : Option Page) (calls : Option ℕ)
    (before between now : Paged) (end : ServeEnd) → IsMarked delay n s begun origin views page left before between →
    EndsMarks delay (after_turns n s) (sheet_after delay n s (sheet_begun begun origin views)) calls between now end →
    MarksUntil delay s begun origin views n calls before now end
until_marked delay n s begun origin views left page calls before between now end h e = by_end end e where
  more : LeavesSheet (sheet_in_turn delay (after_turns n s) (sheet_after delay n s (sheet_begun begun origin views)))
      (marks_in_turn delay (after_turns n s) (sheet_after delay n s (sheet_begun begun origin views))) between now →
      LeavesAfter delay (suc n) s begun origin views before now
  more m = more_left delay n s begun origin views before between now h.leaves m

  same : LeavesSheet (sheet_after delay n s (sheet_begun begun origin views)) [] between now → LeavesAfter delay n s begun origin views before now
  same m = record {
    noted = subst (λ (ms : List Mark). NotesMarks ms before.marks now.marks) (append-nil _)
        (Marks_then _ _ before.marks between.marks now.marks h.leaves.noted m.noted);
    origin = m.origin;
    views = told_then _ _ before.views between.views now.views h.leaves.views m.views;
  }

  by_end : (x : ServeEnd) → EndsMarks delay (after_turns n s) (sheet_after delay n s (sheet_begun begun origin views)) calls between now x →
      MarksUntil delay s begun origin views n calls before now x
  by_end Done m = absurd m
  by_end LinkFault m = same m
  by_end WriteFault m = more m
  by_end OutOfMemory m = elim m [
    | inl none ↦ inl (none.0, same none.1)
    | inr all ↦ inr (all.0, more all.1)
  ]

-- the page at the beginning of a session, by the session
pub first_marked : (delay : ℕ) (s : Session) (boarded : Bool) (origin : Option Origin) (views : List Mark) (last : ℕ) (page : Option Page)
    (before now : Paged) → last ≡ s.outside.last
    → page ≡ page_begun (page_from boarded origin s.past (moment_after delay last)) →
    NotesMarks (marks_begun (page_from boarded origin s.past (moment_after delay last))) before.marks now.marks → now.origin ≡ Some origin →
    now.views ≡ before.views → AreReads views before.views
    → IsMarked delay 0 s (page_from boarded origin s.past (moment_after delay s.outside.last)) origin views page views before now
first_marked delay s boarded origin views last page before now is p m o v h =
    subst (λ x. IsMarked delay 0 s (page_from boarded origin s.past (moment_after delay x)) origin views page views before now) is
    (begins_marked delay s (page_from boarded origin s.past (moment_after delay last)) origin views page before now p m o v h)
