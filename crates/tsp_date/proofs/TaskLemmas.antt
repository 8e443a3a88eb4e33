-- The rows of dates, as tasks.
use Rattle.std.proofs.Common.{◌≡◌, ◌≢◌, ℕ, Bool, true, false, List, refl, sym, ap}
use Rattle.std.proofs.lemmas.Bool.{false≢true}
use Rattle.tsp_rules.specs.Values.{Placed, Kind, Date, DateAck, DateReq, SetDate, SetDateReq, PeerId, Place, Peer, Stranger, Port, Role, Follow, Master}
use Rattle.tsp_base.specs.Words.{Past, MessageValue, Performs, role, either_by, reading, is_date_request, sets_date, time_in}
use Rattle.tsp_base.proofs.PerformsLemmas.{Performs_same}
use Rattle.tsp_rules.specs.{Answers.from_peer, Answers.handles_kind, Guards.is_heard}
use Rattle.tsp_rules.specs.DateRows.{date_acked, date_in, date_of, date_request_in, date_request_of, is_dated, is_last, sets_in_charge}
use Rattle.tsp_acks.specs.Stands.{StationStands}
use Rattle.tsp_date.specs.declared.task.Task.TheVariants.{AnswerAgain, Nothing, Set}
use Rattle.tsp_date.specs.{DateStands.DatesStand, DateStands.DateState, DateStands.DateStands, Dates.DatesValue, Dates.last_in}
use Rattle.tsp_date.specs.{Tasks.task_row, declared.task.Task.Task}

-- what kind of message has which row
pub handles_date : (charge : Bool) (from : Place) (m : MessageValue) (k : Kind) → sets_date k ≡ true → is_date_request k ≡ false →
    handles_kind charge from m k ≡ date_of charge from m
unfolding handles_kind
handles_date charge from m Date e n = refl
handles_date charge from m SetDate e n = refl
handles_date charge from m DateReq e n = absurd (false≢true (sym n))
handles_date charge from m SetDateReq e n = absurd (false≢true (sym n))
handles_date charge from m _ e n = absurd (false≢true e)

pub handles_request : (charge : Bool) (from : Place) (m : MessageValue) (k : Kind) → is_date_request k ≡ true → handles_kind charge from m k ≡
    from_peer from (date_request_of charge m)
unfolding handles_kind
handles_request charge from m DateReq e = refl
handles_request charge from m SetDateReq e = refl
handles_request charge from m _ e = absurd (false≢true e)

pub handles_end : (charge : Bool) (from : Place) (m : MessageValue) (k : Kind) → k ≡ DateAck → handles_kind charge from m k ≡ from_peer from (date_acked m)
unfolding handles_kind
handles_end charge from m k e = rw e refl

-- a client's date
pub date_charged : (from : Place) (m : MessageValue) (r : Role) (t : Task) (x : ℕ) (past : Past) → role past.seen ≡ r →
    date_in from m.number (time_in m.body) r ≡ task_row t from m → date_of true from m x past ≡ task_row t from m x past
unfolding date_of reading
date_charged from m r t x past e f = rw (e, f) refl

pub date_ignored : (from : Place) (m : MessageValue) (r : Role) → ((q : PeerId) → r ≡ Follow q → ⊥) → r ≢ Master → date_in from m.number (time_in m.body) r ≡
    task_row Nothing from m
unfolding date_in
date_ignored from m (Follow q) f n = absurd (f q refl)
date_ignored from m Master f n = absurd (n refl)
date_ignored from m _ f n = refl

pub date_uncharged : (from : Place) (m : MessageValue) (x : ℕ) (past : Past) → date_of false from m x past ≡ task_row Nothing from m x past
unfolding date_of
date_uncharged from m x past = refl

-- a date that a peer passes on
pub request_heard : (charge : Bool) (m : MessageValue) (p : PeerId) (r : Role) (t : Task) (x : ℕ) (past : Past) → is_heard p x past ≡ true → role past.seen ≡
    r → date_request_in charge m p r x past ≡ task_row t (Peer p) m x past →
    from_peer (Peer p) (date_request_of charge m) x past ≡ task_row t (Peer p) m x past
unfolding from_peer either_by date_request_of reading
request_heard charge m p r t x past h e f = let row : date_request_in charge m p (role past.seen) x past ≡ task_row t (Peer p) m x past = rw e f in rw h row

pub request_unheard : (charge : Bool) (m : MessageValue) (p : PeerId) (x : ℕ) (past : Past) → is_heard p x past ≡ false →
    from_peer (Peer p) (date_request_of charge m) x past ≡ task_row Nothing (Peer p) m x past
unfolding from_peer either_by
request_unheard charge m p x past h = rw h refl

pub request_stranger : (charge : Bool) (m : MessageValue) (x : ℕ) (past : Past) → from_peer Stranger (date_request_of charge m) x past ≡
    task_row Nothing Stranger m x past
unfolding from_peer
request_stranger charge m x past = refl

-- whether a date is the last one of its peer, as the dates have it
pub dated_is : (p : PeerId) (number x : ℕ) (past : Past) (d : DatesValue) → DatesStand past d → is_dated p number x past ≡ is_last number x (last_in d.dated p)
dated_is p number x past d h = ap (is_last number x) (sym (h.last p))

-- at a master it is the last one, or another one
pub request_again : (charge : Bool) (m : MessageValue) (p : PeerId) (x : ℕ) (past : Past) → is_dated p m.number x past ≡ true →
    date_request_in charge m p Master x past ≡ task_row (AnswerAgain p) (Peer p) m x past
unfolding date_request_in either_by
request_again charge m p x past e = rw e refl

pub request_sets : (m : MessageValue) (p : PeerId) (x : ℕ) (past : Past) → is_dated p m.number x past ≡ false → date_request_in true m p Master x past ≡
    task_row Set (Peer p) m x past
unfolding date_request_in either_by sets_in_charge
request_sets m p x past e = rw e refl

pub request_ignored : (m : MessageValue) (p : PeerId) (x : ℕ) (past : Past) → is_dated p m.number x past ≡ false → date_request_in false m p Master x past ≡
    task_row Nothing (Peer p) m x past
unfolding date_request_in either_by sets_in_charge
request_ignored m p x past e = rw e refl

pub request_other : (charge : Bool) (m : MessageValue) (p : PeerId) (r : Role) (x : ℕ) (past : Past) → r ≢ Master → date_request_in charge m p r x past ≡
    task_row Nothing (Peer p) m x past
unfolding date_request_in
request_other charge m p Master x past n = absurd (n refl)
request_other charge m p _ x past n = refl

-- the acts of the message's task are what it calls for
pub Performs_task : (t : Task) (charge : Bool) (from : Place) (m : MessageValue) {x : ℕ} {port : Port} {before after : DateState} {old new : List Placed} →
    ((past : Past) → StationStands past before.station → DatesStand past before.dates → handles_kind charge from m m.kind x past ≡ task_row t from m x past) →
    Performs DateStands DateStands (task_row t from m) x port before after old new →
    Performs DateStands DateStands (handles_kind charge from m m.kind) x port before after old new
Performs_task t charge from m e d = Performs_same (handles_kind charge from m m.kind) (λ past h. sym (e past h.station h.dates)) d
