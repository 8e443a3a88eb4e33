-- The calls that a date makes, beside what they leave alone.
use Rattle.std.proofs.Common.{◌≡◌, ℕ, ℤ, ◌==◌, ◌&&◌, not, Bool, true, false, if◌then◌else◌, List, [], ◌∷◌, ◌++◌, Option, Some, None, refl, sym, ◌∙◌, ap}
use Rattle.std.proofs.Common.{MatchBool}
use Rattle.std.proofs.lemmas.Bool.{false≢true, ne_eqb, and_parts}
use Rattle.tsp_rules.specs.Values.{Correct, Acked, Leave, Placed, Message, Good, Kind, AdjTime, SetDateReq, SetTime, PeerId, Place, Peer, Stranger, Port, Role}
use Rattle.tsp_rules.specs.Values.{Follow}
use Rattle.tsp_base.specs.Words.{Past, MessageValue, is_among, Keeps, Performs, Received, acting, said, said_by, taken, Row, either_by, for_each, grown}
use Rattle.tsp_base.specs.Words.{nothing, posts_time, puts, reading, Sending, correcting_of, corrects_in, dating_of, is_correction, is_set_date_request}
use Rattle.tsp_base.specs.Words.{last_asked, last_date, open_send, sets_date}
use Rattle.tsp_base.proofs.PerformsLemmas.{Keeps_each, Keeps_reading, Performs_else_part, Performs_nothing, Performs_then_part}
use Rattle.tsp_rules.specs.{Answers.from_peer, ClockRows.sets, Guards.is_heard, Guards.is_starting_role, Guards.table_at}
use Rattle.tsp_rules.specs.DateRows.{answers_date, date_acked_in, has_date, leaves, leaves_all}
use Rattle.tsp_rules.{specs.SendRows.begins_timed, specs.SendRows.next_number, proofs.Parts.Performs_part}
use Rattle.tsp_rules.proofs.Emits.{Sort, Acking, Passing, Posting, Tabling, Emits, Emits_each, Emits_more, Emits_posts_time, Emits_puts, Emits_reading}
use Rattle.tsp_rules.proofs.Emits.{Keeps_by}
use Rattle.tsp_acks.specs.{Stands.StationStands, Stands.StandsActing, declared.station.Station.Station}
use Rattle.tsp_acks.proofs.{ActingLemmas.taken_acts, StandsLemmas.Stands_idle}
use Rattle.tsp_clock.specs.{ClockStands.ClockStands, Clocks.ClockValue}
use Rattle.tsp_slave.specs.SlaveStands.{AlsoState, AlsoStands}
use Rattle.tsp_slave.proofs.BesideLemmas.{AlsoStands_by, beside_sorts}
use Rattle.tsp_measure.specs.{Slaves.Changes, Slaves.acks_where, Slaves.entry_of, declared.entry.Entry.Entry}
use Rattle.tsp_master.{proofs.MasterLemmas.MasterStands_aside, specs.MasterStands.MasterStands, specs.declared.master.Master.Master}
use Rattle.tsp_master.proofs.TableLemmas.{MasterStands_changed, MasterStands_quiet, acked_after, quiet_sorts}
use Rattle.tsp_date.specs.Dates.{DatesValue, last_in, peers_of}
use Rattle.tsp_date.{proofs.KeepLemmas.DatesStand_by, specs.DateStands.DatesStand, specs.DateStands.DateState, specs.DateStands.DateStands}

-- posts that are no sends
abbrev pub posting : List Sort
posting = Posting ∷ []

-- what stands beside the station, the master and the dates
abbrev also_of : DateState → AlsoState
also_of s = record { last = s.last; clock = s.clock; took = s.took }

-- such rows leave alone what is remembered of corrections, the clock, and what was taken
also_kept : (s : DateState) (row : Row) → Emits beside_sorts row → (x : ℕ) (past : Past) → DateStands past s →
    AlsoStands (grown x past (row x past)) (also_of s)
also_kept s row e x past h = AlsoStands_by row e x past (also_of s) (record { last = h.last; clock = h.clock; took = h.took })

-- what stands beside the station, and the station
stands_with : {past : Past} (s : DateState) → DatesStand past s.dates → MasterStands past s.master → StationStands past s.station →
    AlsoStands past (also_of s) → DateStands past s
stands_with s dates master station also = record { dates = dates; master = master; station = station; last = also.last; clock = also.clock; took = also.took }

-- a call of the station that the rest doesn't feel
pub Performs_posting : (s : DateState) {row : Row} {x : ℕ} {port : Port} {before after : Station} {old new : List Placed} → Emits (Posting ∷ []) row →
    Performs StationStands StationStands row x port before after old new → Performs DateStands DateStands row x port (record s { station = before })
    (record s { station = after }) old new
Performs_posting s {row = row} {x = x} {before = before} {after = after} e d = Performs_part d (λ past h. h.station)
    (λ past h z. stands_with (record s { station = after })
    (DatesStand_by row (Emits_more posting refl e) x past s.dates h.dates)
    (Keeps_by quiet_sorts MasterStands row MasterStands_quiet (Emits_more posting refl e) x past s.master h.master)
    z
    (also_kept (record s { station = before }) row (Emits_more posting refl e) x past h))

-- a date begins to be passed on
abbrev pub passing : List Sort
passing = Passing ∷ []

pub begins_emits : (q : PeerId) (time : ℤ) → Emits passing (begins_timed SetDateReq q time)
unfolding begins_timed
begins_emits q time = Emits_reading next_number (λ n. posts_time q SetDateReq n time) (λ n. Emits_posts_time q SetDateReq n time refl)

DatesStand_asks : (q : PeerId) (time : ℤ) (x : ℕ) (past : Past) (old new : DatesValue) → new ≡ record old { asked = Some x } → acting past.seen ≡ true →
    DatesStand past old → DatesStand (grown x past (begins_timed SetDateReq q time x past)) new
unfolding begins_timed reading posts_time
DatesStand_asks q time x past old new e acts h = record {
  peers = ap (λ (d : DatesValue). peers_of d.dated) e ∙ h.peers;
  last = λ p. ap (λ (d : DatesValue). last_in d.dated p) e ∙ h.last p;
  asked = ap (λ (d : DatesValue). d.asked) e ∙ sym (ap (λ b. if b then Some x else last_asked past.seen) acts);
}

pub Performs_asks : (s : DateState) (q : PeerId) (time : ℤ) {x : ℕ} {port : Port} {before after : Station} (dates asked : DatesValue) (r : Received)
    {old new : List Placed} → s.took ≡ Some r → asked ≡ record dates { asked = Some x } →
    Performs StandsActing StandsActing (begins_timed SetDateReq q time) x port before after old new →
    Performs DateStands DateStands (begins_timed SetDateReq q time) x port (record s { dates = dates; station = before }) (record s {
      dates = asked;
      station = after;
    }) old new
Performs_asks s q time {x = x} {before = before} {after = after} dates asked r t e d =
    let row = begins_timed SetDateReq q time in
    let sorts = begins_emits q time in
    Performs_part d (λ past h. record { stands = h.station; acted = taken_acts past.seen r (h.took ∙ t) })
    (λ past h z. stands_with (record s { dates = asked; station = after })
    (DatesStand_asks q time x past dates asked e (taken_acts past.seen r (h.took ∙ t)) h.dates)
    (Keeps_by quiet_sorts MasterStands row MasterStands_quiet (Emits_more passing refl sorts) x past s.master h.master)
    z.stands
    (also_kept (record s { dates = dates; station = before }) row (Emits_more passing refl sorts) x past h))

-- messages of dates don't correct as a master's do
date_no_correction : (k : Kind) → sets_date k ≡ true → is_correction k ≡ false
date_no_correction AdjTime e = absurd (false≢true e)
date_no_correction SetTime e = absurd (false≢true e)
date_no_correction _ e = refl

none_taken : {A : Type 0} (b : Bool) (a : A) → b ≡ false → (if b then Some a else None) ≡ None
none_taken true a e = absurd (false≢true (sym e))
none_taken false a e = refl

uncorrected : (from : Place) (m : MessageValue) → is_correction m.kind ≡ false → correcting_of (said_by from (Some m)) ≡ None
uncorrected (Peer p) m e = none_taken (is_correction m.kind) _ e
uncorrected Stranger m e = refl

-- the clock is set to a date that was taken, which is noted
stands_dated : (s : DateState) (amount : ℤ) (shown : ℤ) (x : ℕ) (past : Past) (dates noted : DatesValue) (clock moved : ClockValue) (from : Place)
    (m : MessageValue) →
    s.took ≡ Some (record { from = from; taken = Good (Message m) }) → sets_date m.kind ≡ true →
    ((q : PeerId) → last_in noted.dated q ≡ dating_of q x (said_by from (Some m)) (last_in dates.dated q)) → peers_of noted.dated ≡ peers_of dates.dated →
    noted.asked ≡ dates.asked →
    DateStands past (record s { dates = dates; clock = clock }) → ClockStands (grown x past (Correct amount true shown ∷ [])) moved →
    DateStands (grown x past (Correct amount true shown ∷ [])) (record s {
      dates = noted;
      last = record { tick = Some x; taken = None; name = s.last.name };
      clock = moved;
    })
unfolding puts
stands_dated s amount shown x past dates noted clock moved from m t k n ps a h c =
    let is : taken past.seen ≡ Some (record { from = from; taken = Good (Message m) }) = h.took ∙ t in
    record {
      dates = record {
        peers = ps ∙ h.dates.peers;
        last = λ q. n q ∙ ap (dating_of q x (said_by from (Some m))) (h.dates.last q) ∙ ap (λ r. dating_of q x (said r) (last_date q past.seen)) (sym is);
        asked = a ∙ h.dates.asked;
      };
      master = MasterStands_aside (Correct amount true shown) x past s.master s.master refl refl refl h.master.entries h.master.empty h.master;
      station = Stands_idle (Correct amount true shown) refl x past s.station h.station;
      last = record {
        tick_is = refl;
        taken_is = sym (ap (λ r. correcting_of (said r)) is ∙ uncorrected from m (date_no_correction m.kind k));
        name_is = h.last.name_is;
      };
      clock = c;
      took = h.took;
    }

pub Performs_dated : (s : DateState) (time : ℤ) {x : ℕ} {port : Port} (dates noted : DatesValue) {clock moved : ClockValue} (from : Place) (m : MessageValue)
    {old new : List Placed} →
    s.took ≡ Some (record { from = from; taken = Good (Message m) }) → sets_date m.kind ≡ true →
    ((q : PeerId) → last_in noted.dated q ≡ dating_of q x (said_by from (Some m)) (last_in dates.dated q)) → peers_of noted.dated ≡ peers_of dates.dated →
    noted.asked ≡ dates.asked →
    Performs ClockStands ClockStands (sets time) x port clock moved old new →
    Performs DateStands DateStands (sets time) x port (record s { dates = dates; clock = clock }) (record s {
      dates = noted;
      last = record { tick = Some x; taken = None; name = s.last.name };
      clock = moved;
    }) old new
unfolding sets
Performs_dated s time {x = x} dates noted {clock = clock} {moved = moved} from m t k n ps a d = Performs_part d (λ past h. h.clock)
    (λ past h z. stands_dated s _ time x past dates noted clock moved from m t k n ps a h z)

-- a date that is passed on is no correction, so that its end leaves the table alone
request_no_correction : (k : Kind) → is_set_date_request k ≡ true → is_correction k ≡ false
request_no_correction SetDateReq e = refl
request_no_correction _ e = absurd (false≢true e)

date_open : (number : ℕ) (o : Option Sending) → answers_date number o ≡ true → corrects_in o ≡ false
date_open number None e = refl
date_open number (Some s) e = request_no_correction s.message.kind ((and_parts (is_set_date_request s.message.kind) (s.message.number == number) e).0)

MasterStands_dated : (p : PeerId) (number x : ℕ) (past : Past) (m : Master) → has_date p number x past ≡ true → MasterStands past m →
    MasterStands (grown x past (Acked p ∷ [])) m
MasterStands_dated p number x past m e h =
    MasterStands_changed p (acks_where (corrects_in (open_send p past.seen))) (Acked p) x past m m refl (makes-none (corrects_in (open_send p past.seen)))
    (acked_after p past x)
    (λ q. same (corrects_in (open_send p past.seen)) (p.0 == q.0) (entry_of m.slaves q) (date_open number (open_send p past.seen) e)) refl refl h where
      makes-none : (c : Bool) (k : Entry) → k.joined ≡ false → k.measured ≡ false → ((acks_where c k).joined ≡ false) × ((acks_where c k).measured ≡ false)
      makes-none true k j s = (j, s)
      makes-none false k j s = (j, s)

      same : (c b : Bool) (k : Entry) → c ≡ false → k ≡ (if b then acks_where c k else k)
      same true b k f = absurd (false≢true (sym f))
      same false true k f = refl
      same false false k f = refl

unputs : (p : PeerId) (x : ℕ) (past : Past) (m : Master) → MasterStands (grown x past (Acked p ∷ [])) m → MasterStands (grown x past (puts (Acked p) x past)) m
unfolding puts
unputs p x past m h = h

abbrev acking : List Sort
acking = Acking ∷ []

-- the master has set the date that was passed on
Performs_ends : (s : DateState) (p : PeerId) (number : ℕ) {x : ℕ} {port : Port} {before after : Station} {old new : List Placed} →
    ((past : Past) → StationStands past before → has_date p number x past ≡ true) →
    Performs StationStands StationStands (puts (Acked p)) x port before after old new →
    Performs DateStands DateStands (puts (Acked p)) x port (record s { station = before }) (record s { station = after }) old new
Performs_ends s p number {x = x} {before = before} {after = after} test d =
    let emits : Emits (Acking ∷ []) (puts (Acked p)) = Emits_puts (Acked p) refl in
    Performs_part d (λ past h. h.station) (λ past h z. stands_with (record s { station = after })
    (DatesStand_by (puts (Acked p)) (Emits_more acking refl emits) x past s.dates h.dates)
    (unputs p x past s.master (MasterStands_dated p number x past s.master (test past h.station) h.master))
    z
    (also_kept (record s { station = before }) (puts (Acked p)) (Emits_more acking refl emits) x past h))

-- an answer ends the date that it names, or nothing
pub Performs_ended : (s : DateState) (p : PeerId) (number : ℕ) {x : ℕ} {port : Port} {before after : Station} (ended : Bool) (Ends : Type 0)
    {old new : List Placed} → ((past : Past) → StationStands past before → has_date p number x past ≡ ended) →
    (ended ≡ true → Performs StationStands StationStands (puts (Acked p)) x port before after old new) → (ended ≡ false → new ≡ old) →
    MatchBool ended Ends (after ≡ before) →
    Performs DateStands DateStands (either_by (has_date p number) (puts (Acked p)) nothing) x port (record s { station = before })
    (record s { station = after }) old new
Performs_ended s p number true Ends test row same sends = Performs_then_part (has_date p number) nothing (λ past h. test past h.station)
    (Performs_ends s p number test (row refl))
Performs_ended s p number false Ends test row same sends = rw (same refl, sends) (Performs_else_part (has_date p number) (puts (Acked p))
    (λ past h. test past h.station) Performs_nothing)

pub date_acked_in_other : (m : MessageValue) (p : PeerId) (r : Role) → ((q : PeerId) → r ≡ Follow q → ⊥) → date_acked_in m p r ≡ nothing
unfolding date_acked_in
date_acked_in_other m p (Follow q) n = absurd (n q refl)
date_acked_in_other m p _ n = refl

-- every slave leaves
leaves_keep : Keeps StationStands leaves_all
unfolding leaves leaves_all
leaves_keep = Keeps_reading StationStands table_at (for_each leaves) (λ ps. Keeps_each StationStands leaves ps (λ p. Stands_idle (Leave p) refl))

abbrev tabling : List Sort
tabling = Tabling ∷ []

leaves_emit : Emits (Tabling ∷ []) leaves_all
unfolding leaves leaves_all
leaves_emit = Emits_reading table_at (for_each leaves) (λ ps. Emits_each leaves ps (λ p. Emits_puts (Leave p) refl))

pub Performs_leaves : (s : DateState) {x : ℕ} {port : Port} {before after : Master} {old new : List Placed} →
    Performs MasterStands MasterStands leaves_all x port before after old new →
    Performs DateStands DateStands leaves_all x port (record s { master = before }) (record s { master = after }) old new
Performs_leaves s {x = x} {before = before} {after = after} d =
    let emits : Emits (Tabling ∷ []) leaves_all = leaves_emit in
    Performs_part d (λ past h. h.master) (λ past h z. stands_with (record s { master = after })
    (DatesStand_by leaves_all (Emits_more tabling refl emits) x past s.dates h.dates)
    z
    (leaves_keep x past s.station h.station)
    (also_kept (record s { master = before }) leaves_all (Emits_more tabling refl emits) x past h))

-- one slave leaves
pub Performs_leave : (p : PeerId) {x : ℕ} {port : Port} {before after : Master} {old new : List Placed} → ((y : ℕ) (past : Past) → MasterStands past before →
    MasterStands (grown y past (Leave p ∷ [])) after) → new ≡ old ++ record { port = port; act = Leave p } ∷ [] →
    Performs MasterStands MasterStands (leaves p) x port before after old new
unfolding leaves puts
Performs_leave p {x = x} k e = record { acts = λ past h. e; stands = λ past h. k x past h }

-- the entries of all other peers are as before
pub changes_others : (f : Entry → Entry) (p : PeerId) (old new : List Entry) → Changes p f old new → (q : PeerId) → (q.0 ≡ p.0 → ⊥) → entry_of new q ≡
    entry_of old q
changes_others f p old new change q n = let apart : (p.0 == q.0) ≡ false = ne_eqb p.0 q.0 (λ e. n (sym e)) in change q ∙
    ap (λ b. if b then f (entry_of old q) else entry_of old q) apart

-- who is heard, as the station has it
pub heard_is : (p : PeerId) (x : ℕ) (past : Past) (station : Station) → StationStands past station → is_heard p x past ≡
    (is_among p station.peers && not (is_starting_role station.role))
heard_is p x past station s = rw (s.peers, s.role) refl

-- what only a peer may say that is heard
pub Performs_heard : (p : PeerId) (r : PeerId → Row) {x : ℕ} {port : Port} {before after : DateState} {old new : List Placed} →
    (is_among p before.station.peers && not (is_starting_role before.station.role)) ≡ true →
    Performs DateStands DateStands (r p) x port before after old new → Performs DateStands DateStands (from_peer (Peer p) r) x port before after old new
unfolding from_peer
Performs_heard p r {x = x} {before = before} e d = Performs_then_part (is_heard p) nothing (λ past h. heard_is p x past before.station h.station ∙ e) d

pub Performs_unheard : (p : PeerId) (r : PeerId → Row) {x : ℕ} {port : Port} {state : DateState} {old : List Placed} →
    (is_among p state.station.peers && not (is_starting_role state.station.role)) ≡ false →
    Performs DateStands DateStands (from_peer (Peer p) r) x port state state old old
unfolding from_peer
Performs_unheard p r {x = x} {state = state} e = Performs_else_part (is_heard p) (r p) (λ past h. heard_is p x past state.station h.station ∙
    e) Performs_nothing

pub Performs_stranger : (r : PeerId → Row) {x : ℕ} {port : Port} {state : DateState} {old : List Placed} →
    Performs DateStands DateStands (from_peer Stranger r) x port state state old old
unfolding from_peer
Performs_stranger r = Performs_nothing
