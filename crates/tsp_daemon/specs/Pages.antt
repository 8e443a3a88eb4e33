-- What a daemon writes on its page.
use Rattle.std.specs.Prelude.{◌≡◌, ◌⊎◌, ℕ, zero, suc, ◌+◌, ◌-◌, ◌*◌, ◌%◌, ◌^◌, ◌≤◌, ◌==◌, ◌&&◌, ◌||◌, nat_abs, nat_le, min, ℤ, pos, negsuc, ◌-ℤ◌, Bool, true}
use Rattle.std.specs.Prelude.{false}
use Rattle.std.specs.Prelude.{if◌then◌else◌}
use Rattle.std.specs.Prelude.{List, [], ◌∷◌, ◌++◌, drop, Option, None, Some, option_and_then}
use Rattle.std.specs.Option.{option_map}
use Rattle.std.specs.{Int.w64, Int.to_le_bytes}
use Rattle.tsp_base.specs.Words.{dids, last_correct, rest, target, word}
use Rattle.tsp_gateway.specs.{GatewayStands.GatewayStands, Standings.standing, declared.gateway.Gateway.Gateway}
use Rattle.tsp_gateway.specs.declared.standing.Standing.{Standing, TheVariants.Follows, TheVariants.Leads}
use Rattle.tsp_io.specs.{Boards.Mark, Boards.first_view, Boards.views_left, Origins.origin_then, Origins.retuned, declared.origin.Origin.Origin}
use Rattle.tsp_io.specs.declared.{ticker.Ticker.Ghosts as TickerOf}
use Rattle.tsp_query.specs.Outside.{Paged}
use Rattle.tsp_page.specs.{Formula.shown_at, Halves.daemon_octets, Halves.look_half_of, Numbers.octet_at, declared.daemon_half.DaemonHalf.DaemonHalf}
use Rattle.tsp_page.specs.declared.look_half.LookHalf.{LookHalf}
use Rattle.tsp_page.specs.declared.rank.Rank.{Rank, TheVariants.Nobody, TheVariants.Follows as IsFollower, TheVariants.Leads as IsLeader}
use Rattle.tsp_rules.specs.{NodeRows.NodePast, Values.Act, Values.Placed, Values.Boot, Values.Correct, Values.Become}
use Rattle.tsp_daemon.specs.declared.end.ServeEnd.{ServeEnd}
use Rattle.tsp_daemon.specs.declared.end.ServeEnd.TheVariants.{Done, LinkFault, WriteFault, OutOfMemory}
use Rattle.tsp_daemon.specs.Sessions.{Session, acts_in_turn, after_turns, past_after, turn_tick, waited}

-- what stands on a daemon's page, by what the daemon has written there: its half, the even number with which that was written, and how far
-- the clock's target was ahead of the ticks when the daemon began
pub record Page : Type 0 where
  pub half : DaemonHalf
  pub sequence : ℕ
  pub offset : ℤ

-- its numbers are those of a clock
pub record IsPage (p : Page) : Type 0 where
  pub tick : p.half.tick ≤ 2 ^ 61
  pub target : nat_abs p.half.target ≤ 2 ^ 61 + 2 ^ 51
  pub rest : nat_abs p.half.rest ≤ 2 ^ 61 + 2 ^ 52
  pub began : nat_abs p.offset ≤ 2 ^ 61 + 2 ^ 51

-- whether an act changes what the page says: a boot does, a correction of the clock, and another role
abbrev pub changes_page : Act → Bool
changes_page Boot = true
changes_page (Correct amount stepped shown) = true
changes_page (Become role) = true
changes_page _ = false

-- whether one of these acts does
abbrev pub change_page : List Placed → Bool
change_page [] = false
change_page (p ∷ rest) = changes_page p.act || change_page rest

-- how often an act steps the clock
abbrev pub steps_by : Act → ℕ
steps_by (Correct amount stepped shown) = if stepped then 1 else 0
steps_by _ = 0

-- how often these acts do
abbrev pub steps_in : List Placed → ℕ
steps_in [] = 0
steps_in (p ∷ rest) = steps_by p.act + steps_in rest

-- what a daemon is on its networks, and its master's number
abbrev pub rank_in : Standing → Rank
rank_in (Follows p) = IsFollower
rank_in Leads = IsLeader
rank_in _ = Nobody

abbrev pub master_in : Standing → ℕ
master_in (Follows p) = p.0
master_in _ = 0

-- the target right after the last correction, or the boot
abbrev pub target_then : NodePast → ℤ
target_then past = target (dids past.lines) (last_correct (dids past.lines))

-- how far the target is ahead of the ticks
abbrev pub offset_of : NodePast → ℤ
offset_of past = target_then past -ℤ pos (last_correct (dids past.lines))

-- nothing less can be shown: the least number of 64 bits
abbrev pub lowest : ℤ
lowest = negsuc 9223372036854775807

-- the half with which a daemon begins, at a tick, whose ticks are counted from there
abbrev pub first_half : Origin → NodePast → ℕ → DaemonHalf
first_half o past x = record {
  life = word (dids past.lines);
  counter = o.counter;
  origin = o.nanos;
  origin_tick = o.tick;
  rate = o.rate;
  tick = last_correct (dids past.lines);
  target = target_then past;
  rest = rest (dids past.lines);
  least = lowest;
  moved = pos 0;
  steps = 0;
  rank = rank_in (standing past);
  master = master_in (standing past);
  alive = x;
}

-- the least that may be shown after these acts: what the half before them shows at this moment, unless the clock was stepped
abbrev pub least_after : List Placed → ℕ → DaemonHalf → ℤ
least_after acts moment h = if steps_in acts == 0 then shown_at h moment else lowest

-- the half after a turn at tick x with acts that change it, which are written at this moment; the node's past is then this
abbrev pub half_after : NodePast → List Placed → ℕ → ℕ → Page → DaemonHalf
half_after past acts x moment p = record {
  life = p.half.life;
  counter = p.half.counter;
  origin = p.half.origin;
  origin_tick = p.half.origin_tick;
  rate = p.half.rate;
  tick = last_correct (dids past.lines);
  target = target_then past;
  rest = rest (dids past.lines);
  least = least_after acts moment p.half;
  moved = offset_of past -ℤ p.offset;
  steps = min (p.half.steps + steps_in acts) (2 ^ 64 - 1);
  rank = rank_in (standing past);
  master = master_in (standing past);
  alive = x;
}

-- the half of a daemon whose ticks are counted from there
abbrev pub counted_from : Option Origin → DaemonHalf → DaemonHalf
counted_from None h = h
counted_from (Some o) h = record h { counter = o.counter; origin = o.nanos; origin_tick = o.tick; rate = o.rate }

-- the half after a turn that changes nothing else, which is written at this moment: the least that may be shown is what the half before it
-- shows then, and from then on ticks are counted from another origin, if there is one
abbrev pub half_alive : ℕ → ℕ → Option Origin → Page → DaemonHalf
half_alive x moment tuned p = record (counted_from tuned p.half) { least = shown_at p.half moment; alive = x }

-- whether the look's half, with this lowest octet of its sequence, asks a daemon in this life for a rate: it isn't being written, is of the life, and states a
-- drift that the rate isn't beyond
abbrev pub is_asking : ℕ → ℕ → LookHalf → Bool
is_asking life lowest l = (lowest % 2 == 0) && ((l.life == life) && (nat_le l.drift 1000 && nat_le (nat_abs l.learned) (l.drift * 1000)))

-- the rate for which octets ask that were read where the look's half stands: the sequence, and the fields
abbrev pub rate_in : ℕ → List ℕ → Option ℤ
rate_in life octets = if is_asking life (octet_at octets 0) (look_half_of (drop 8 octets)) then Some (look_half_of (drop 8 octets)).learned else None

-- the rate for which the next read of the look's half asks
abbrev pub asked_of : ℕ → List Mark → Option ℤ
asked_of life views = option_and_then (λ octets. rate_in life octets) (first_view 512 336 views)

-- from where ticks are counted from this moment on, if a rate was asked for: None if nothing changes
abbrev pub tuned_at : ℕ → Option ℤ → Option Origin → Option Origin
tuned_at moment asked origin = option_and_then (λ rate. option_and_then (λ o. retuned moment rate o) origin) asked

-- what of a daemon's page is told: the page, from where its ticks are counted, and what reads of its board will give
pub record Sheet : Type 0 where
  pub page : Option Page
  pub origin : Option Origin
  pub views : List Mark

-- the same, where the daemon says that it is alive
abbrev pub tuned_by : ℕ → Sheet → Page → Option Origin
tuned_by moment sheet p = tuned_at moment (asked_of p.half.life sheet.views) sheet.origin

-- the sequence so many writes later
abbrev pub sequence_after : ℕ → Page → ℕ
sequence_after count p = (p.sequence + count) % 2 ^ 64

-- a write of the sequence
abbrev pub sequence_mark : ℕ → Mark
sequence_mark sequence = (64, to_le_bytes w64 sequence)

-- the writes of a half: the sequence, odd; the fields; the sequence, even
abbrev pub half_marks : DaemonHalf → Page → List Mark
half_marks h p = sequence_mark (sequence_after 1 p) ∷ (72, daemon_octets h) ∷ sequence_mark (sequence_after 2 p) ∷ []

-- the page with a half that was written
abbrev pub page_with : DaemonHalf → Page → Page
page_with h p = record { half = h; sequence = sequence_after 2 p; offset = p.offset }

-- the page before a daemon's first write; its sequence goes by the life's word, so that each life has numbers of its own
abbrev pub blank_page : Origin → NodePast → ℕ → Page
blank_page o past x = record { half = first_half o past x; sequence = (word (dids past.lines) * 2) % 2 ^ 64; offset = offset_of past }

-- whether it is time to say that the daemon is alive: a second after it was said last
abbrev pub is_silent : ℕ → Page → Bool
is_silent x p = nat_le 1000000 (x - p.half.alive)

-- what a turn writes and leaves, if there is a page: the half that it changes; or once a second the tick, and from where ticks are counted
-- then
abbrev pub half_in_turn : NodePast → List Placed → ℕ → ℕ → Option Origin → Page → Option DaemonHalf
half_in_turn past acts x moment tuned p =
    if change_page acts then Some (half_after past acts x moment p) else if is_silent x p then Some (half_alive x moment tuned p) else None

-- whether a turn reads the look's half
abbrev pub looks_in_turn : List Placed → ℕ → Page → Bool
looks_in_turn acts x p = if change_page acts then false else is_silent x p

abbrev pub page_by : Option DaemonHalf → Page → Page
page_by None p = p
page_by (Some h) p = page_with h p

abbrev pub marks_by : Option DaemonHalf → Page → List Mark
marks_by None p = []
marks_by (Some h) p = half_marks h p

-- what reads of the board will give after a turn, if there is a page
abbrev pub views_after : List Placed → ℕ → Page → List Mark → List Mark
views_after acts x p views = if looks_in_turn acts x p then views_left views else views

-- the sheet after a turn, if there is a page
abbrev pub sheet_with : NodePast → List Placed → ℕ → ℕ → Sheet → Page → Sheet
sheet_with past acts x moment sheet p = record {
  page = Some (page_by (half_in_turn past acts x moment (tuned_by moment sheet p) p) p);
  origin = if looks_in_turn acts x p then origin_then (tuned_by moment sheet p) sheet.origin else sheet.origin;
  views = views_after acts x p sheet.views;
}

abbrev pub sheet_by : NodePast → List Placed → ℕ → ℕ → Sheet → Option Page → Sheet
sheet_by past acts x moment sheet None = sheet
sheet_by past acts x moment sheet (Some p) = sheet_with past acts x moment sheet p

abbrev pub sheet_next : NodePast → List Placed → ℕ → ℕ → Sheet → Sheet
sheet_next past acts x moment sheet = sheet_by past acts x moment sheet sheet.page

-- what it writes
abbrev pub marks_with : NodePast → List Placed → ℕ → ℕ → Sheet → Option Page → List Mark
marks_with past acts x moment sheet None = []
marks_with past acts x moment sheet (Some p) = marks_by (half_in_turn past acts x moment (tuned_by moment sheet p) p) p

abbrev pub marks_next : NodePast → List Placed → ℕ → ℕ → Sheet → List Mark
marks_next past acts x moment sheet = marks_with past acts x moment sheet sheet.page

-- the moment so long after a reading
abbrev pub moment_after : ℕ → ℕ → ℕ
moment_after delay x = min (x + delay) (2 ^ 61)

-- the same of a turn of a session, whose writes come so long after its second reading
abbrev pub sheet_in_turn : ℕ → Session → Sheet → Sheet
sheet_in_turn delay s sheet = sheet_next (past_after s) (acts_in_turn s) (turn_tick s) (moment_after delay (turn_tick s)) sheet

abbrev pub marks_in_turn : ℕ → Session → Sheet → List Mark
marks_in_turn delay s sheet = marks_next (past_after s) (acts_in_turn s) (turn_tick s) (moment_after delay (turn_tick s)) sheet

-- a page before its first write: of a daemon that has a board, and knows from where its ticks are counted
abbrev pub page_from : Bool → Option Origin → NodePast → ℕ → Option Page
page_from true (Some o) past x = Some (blank_page o past x)
page_from true None past x = None
page_from false origin past x = None

-- what a daemon writes when it begins, and the page then
abbrev pub marks_begun : Option Page → List Mark
marks_begun None = []
marks_begun (Some p) = half_marks p.half p

abbrev pub page_begun : Option Page → Option Page
page_begun None = None
page_begun (Some p) = Some (page_with p.half p)

-- the sheet of a session that begins with this page, from where ticks are counted then, and what reads will give
abbrev pub sheet_begun : Option Page → Option Origin → List Mark → Sheet
sheet_begun page origin views = record { page = page_begun page; origin = origin; views = views }

-- the sheet after so many turns of a session that began with this one
abbrev pub sheet_after : ℕ → ℕ → Session → Sheet → Sheet
sheet_after delay zero s sheet = sheet
sheet_after delay (suc n) s sheet = sheet_in_turn delay (after_turns n s) (sheet_after delay n s sheet)

-- all that it has written in them, write by write
abbrev pub marks_after : ℕ → ℕ → Session → Sheet → List Mark
marks_after delay zero s sheet = []
marks_after delay (suc n) s sheet = marks_after delay n s sheet ++ marks_in_turn delay (after_turns n s) (sheet_after delay n s sheet)

-- these writes were noted, if it is told what was written
abbrev pub NotesMarks : List Mark → Option (List Mark) → Option (List Mark) → Type 0
NotesMarks more marks None = Unit {0}
NotesMarks more None (Some now) = ⊥
NotesMarks more (Some before) (Some now) = now ≡ before ++ more

-- a ticker has the board that it had; without one nothing is read, and ticks are counted as before
pub record KeepsBoard {T : Type 0} (tickers : TickerOf T) (before now : T) : Type 0 where
  pub boarded : tickers.boarded now ≡ tickers.boarded before
  pub delay : tickers.delay_is now ≡ tickers.delay_is before
  pub alone : tickers.boarded before ≡ false → (tickers.origin_is now ≡ tickers.origin_is before) × (tickers.views now ≡ tickers.views before)

-- the same of what is told of it
pub record KeepsPage (before now : Paged) : Type 0 where
  pub boarded : now.boarded ≡ before.boarded
  pub delay : now.delay ≡ before.delay
  pub alone : before.boarded ≡ false → (now.origin ≡ before.origin) × (now.views ≡ before.views)

-- a call that only writes on the board, and maybe reads there and changes the rate, leaves the rest of its ticker as it was
pub record OnlyPages {T : Type 0} (tickers : TickerOf T) (before now : T) : Type 0 where
  pub readings : tickers.readings now ≡ tickers.readings before
  pub walled : tickers.left_at_wall now ≡ tickers.left_at_wall before
  pub last : tickers.last now ≡ tickers.last before
  pub delay : tickers.delay_is now ≡ tickers.delay_is before
  pub boarded : tickers.boarded now ≡ tickers.boarded before

-- a call that only writes on the board
pub record OnlyMarks {T : Type 0} (tickers : TickerOf T) (before now : T) : Type 0 where
  pub pages : OnlyPages tickers before now
  pub origin : tickers.origin_is now ≡ tickers.origin_is before
  pub views : tickers.views now ≡ tickers.views before

-- reads of a board will give these, if it is told what they give
abbrev pub AreReads : List Mark → Option (List Mark) → Type 0
AreReads views None = Unit {0}
AreReads views (Some told) = told ≡ views

-- what a turn at tick x leaves of a page that says that the daemon is alive, if reads gave these: the half that is written, and from where
-- ticks are counted then, None if nothing changes there
pub record StaysBy {T : Type 0} (tickers : TickerOf T) (x : ℕ) (p now : Page) (views : List Mark) (tuned : Option Origin) (before after : T) : Type 0 where
  pub tuned_is : (origin : Option Origin) (delay : ℕ) → tickers.origin_is before ≡ Some origin → tickers.delay_is before ≡ Some delay →
      tuned ≡ tuned_at (moment_after delay (tickers.last before)) (asked_of p.half.life views) origin
  pub origin : tickers.origin_is after ≡ option_map (λ (o : Option Origin). origin_then tuned o) (tickers.origin_is before)
  pub page : (delay : ℕ) → tickers.delay_is before ≡ Some delay →
      now ≡ page_with (half_alive x (moment_after delay (tickers.last before)) tuned p) p
  pub marks : (delay : ℕ) → tickers.delay_is before ≡ Some delay →
      NotesMarks (half_marks (half_alive x (moment_after delay (tickers.last before)) tuned p) p) (tickers.marks before) (tickers.marks after)

-- the same for some reads before it, which are those that are told, if they are; whatever reads there may be after it, they are left of these
abbrev pub Stays : {T : Type 0} → TickerOf T → ℕ → Page → Page → T → T → Type 0
Stays tickers x p now before after = (left : List Mark) → AreReads left (tickers.views after) →
    (views : List Mark) × (tuned : Option Origin) × AreReads views (tickers.views before) × (views_left views ≡ left) ×
    StaysBy tickers x p now views tuned before after

-- what any turn at tick x with these acts leaves of a page: the same, but if it doesn't read, ticks are counted as before
pub record TurnsBy {T : Type 0} (tickers : TickerOf T) (node : Gateway) (acts : List Placed) (x : ℕ) (p now : Page) (views : List Mark)
    (tuned : Option Origin) (before after : T) : Type 0 where
  pub still : looks_in_turn acts x p ≡ false → tuned ≡ None
  pub tuned_is : (origin : Option Origin) (delay : ℕ) → tickers.origin_is before ≡ Some origin → tickers.delay_is before ≡ Some delay →
      looks_in_turn acts x p ≡ true → tuned ≡ tuned_at (moment_after delay (tickers.last before)) (asked_of p.half.life views) origin
  pub origin : tickers.origin_is after ≡ option_map (λ (o : Option Origin). origin_then tuned o) (tickers.origin_is before)
  pub page : (past : NodePast) (delay : ℕ) → GatewayStands past node → tickers.delay_is before ≡ Some delay →
      now ≡ page_by (half_in_turn past acts x (moment_after delay (tickers.last before)) tuned p) p
  pub marks : (past : NodePast) (delay : ℕ) → GatewayStands past node → tickers.delay_is before ≡ Some delay →
      NotesMarks (marks_by (half_in_turn past acts x (moment_after delay (tickers.last before)) tuned p) p) (tickers.marks before) (tickers.marks after)

-- the same for some reads before it, which are those that are told, if they are
abbrev pub Turns : {T : Type 0} → TickerOf T → Gateway → List Placed → ℕ → Page → Page → T → T → Type 0
Turns tickers node acts x p now before after = (left : List Mark) → AreReads left (tickers.views after) →
    (views : List Mark) × (tuned : Option Origin) × AreReads views (tickers.views before) × (views_after acts x p views ≡ left) ×
    TurnsBy tickers node acts x p now views tuned before after

-- these writes were noted, and what is told of the page is then this sheet's; what reads will give is told if it was told before
pub record LeavesSheet (sheet : Sheet) (more : List Mark) (before now : Paged) : Type 0 where
  pub noted : NotesMarks more before.marks now.marks
  pub origin : now.origin ≡ Some sheet.origin
  pub views : now.views ≡ option_map (λ (views : List Mark). sheet.views) before.views

-- what a turn leaves that ends the session so, if this is the number of calls: nothing is written or read if it ended before its receive did,
-- and else all that it writes, before its first send
abbrev pub EndsMarks : ℕ → Session → Sheet → Option ℕ → Paged → Paged → ServeEnd → Type 0
EndsMarks delay s sheet calls before now Done = ⊥
EndsMarks delay s sheet calls before now LinkFault = LeavesSheet sheet [] before now
EndsMarks delay s sheet calls before now WriteFault = LeavesSheet (sheet_in_turn delay s sheet) (marks_in_turn delay s sheet) before now
EndsMarks delay s sheet calls before now OutOfMemory =
    ((calls ≡ Some s.outside.calls) × LeavesSheet sheet [] before now)
    ⊎ ((calls ≡ Some (waited s.outside).calls) × LeavesSheet (sheet_in_turn delay s sheet) (marks_in_turn delay s sheet) before now)

-- what is told of the page after so many turns of a session that began with this page
abbrev pub LeavesAfter : ℕ → ℕ → Session → Option Page → Option Origin → List Mark → Paged → Paged → Type 0
LeavesAfter delay n s page origin views before now =
    LeavesSheet (sheet_after delay n s (sheet_begun page origin views)) (marks_begun page ++ marks_after delay n s (sheet_begun page origin views)) before now

-- what a session leaves that ends so after i turns
abbrev pub MarksUntil : ℕ → Session → Option Page → Option Origin → List Mark → ℕ → Option ℕ → Paged → Paged → ServeEnd → Type 0
MarksUntil delay s page origin views i calls before now Done = LeavesAfter delay i s page origin views before now
MarksUntil delay s page origin views i calls before now LinkFault = LeavesAfter delay i s page origin views before now
MarksUntil delay s page origin views i calls before now WriteFault = LeavesAfter delay (suc i) s page origin views before now
MarksUntil delay s page origin views i calls before now OutOfMemory =
    ((calls ≡ Some (after_turns i s).outside.calls) × LeavesAfter delay i s page origin views before now)
    ⊎ ((calls ≡ Some (waited (after_turns i s).outside).calls) × LeavesAfter delay (suc i) s page origin views before now)

-- the same for some reads, which are those that are told, if they are; and if it is told from where ticks are counted, and how long after a
-- reading a moment is. The page is that of the session's beginning
abbrev pub MarksIfTold : Paged → Session → ℕ → Option ℕ → Paged → ServeEnd → Type 0
MarksIfTold p s i calls now end = (views : List Mark) × AreReads views p.views ×
    ((origin : Option Origin) (delay : ℕ) → p.origin ≡ Some origin → p.delay ≡ Some delay →
    MarksUntil delay s (page_from p.boarded origin s.past (moment_after delay s.outside.last)) origin views i calls p now end)
