-- How a port's answers are made: its alarms, and what it does with what it takes.
use Rattle.std.specs.Prelude.{◌≡◌, ℕ, Bool, true, false, List, [], ◌∷◌, refl, ℤ}
use Rattle.tsp_rules.specs.Values.{Took, Alarm, Quiet, Search, Elect, Window, Probe, Round, CloseAlarm, ResolveAlarm, Message, Stamp, Taken, Good, Bad, Kind}
use Rattle.tsp_rules.specs.Values.{Ack, Date, DateAck, DateReq, LoopKind, Msite, MsiteReq, SetDate, SetDateReq, Test, TraceOff, TraceOn, PeerId, Place, Peer}
use Rattle.tsp_rules.specs.Values.{Stranger, Role, Starting, Follow, Candidate, Master, Request, Reply, Acked, Leave, MasterUp}
use Rattle.tsp_rules.specs.Answers.{alarm_rings, rings, says_in, peer_says, replies_in, peer_replies, from_peer, handles_kind, handles, takes}
use Rattle.tsp_rules.proofs.Emits.{Sort, Asking, Correcting, Passing, Numbering, Posting, Leading, Following, Changing, Backing, Counting, Alarming, Rounding}
use Rattle.tsp_rules.proofs.Emits.{Tabling, Rivalling, Acking, Sampling, Moving, Taking, Tracing, is_part}
use Rattle.tsp_rules.specs.Renames.{Naming, Wakes, comes_place, known_place, renamed_place, renamed_role, known_role}
use Rattle.tsp_rules.proofs.RowCodes.{ANumber, APlace, AStamp, ATaken, ATicket, ATime, Owed, Takes, RoleAt, Due, IsHeard, IsLeft, IsOwn, Puts, Posts, PostsBack}
use Rattle.tsp_rules.proofs.RowCodes.{PostsTime, Sets, ToOthers, NextNumber, Table, HasDate, IsDated, MayDate, MayPassOn}
use Rattle.tsp_rules.proofs.Built.{Built, Empty, At, Then, Either, Reading, More, Wider, whichever, ReadingValue, Each}
use Rattle.tsp_rules.proofs.BuiltShared.{client_sorts, built_names_master, built_replies, built_says_master, built_tests, built_traces}
use Rattle.tsp_rules.proofs.BuiltRoles.{slave_sorts, built_elect_rings, built_quiet_rings, built_search_rings, built_slave_takes, built_master_takes}
use Rattle.tsp_rules.proofs.BuiltRoles.{built_resolve_rings, built_candidate_takes, built_window_rings}
use Rattle.tsp_rules.specs.SendRows.{begins_timed}
use Rattle.tsp_rules.proofs.BuiltRounds.{round_sorts, built_close_rings, built_probe_rings, built_round_rings, built_samples}
use Rattle.tsp_rules.specs.DateRows.{passes_on, leaves, leaves_all, new_date, sets_date_where, date_in, date_of, sets_in_charge, date_request_in}
use Rattle.tsp_rules.specs.DateRows.{date_request_of, date_acked_in, date_acked}
use Rattle.tsp_base.specs.Words.{MessageValue, ReplyValue, Row, puts, time_in}

-- how the rows are made that set a date

-- a date is passed on
abbrev pub pass_sorts : List Sort
pass_sorts = Passing ∷ Posting ∷ []

-- a date is set
abbrev pub set_sorts : List Sort
set_sorts = Posting ∷ Tabling ∷ Moving ∷ []

-- all that is done about dates
abbrev pub date_sorts : List Sort
date_sorts = Passing ∷ Posting ∷ Tabling ∷ Acking ∷ Moving ∷ []

module _ {m : Naming} {o : Owed} where
  pub built_date_acked : (msg : MessageValue) (p : PeerId) → m.known p → Built m o (Acking ∷ []) 0 1 (date_acked msg p) (date_acked msg (m.names.peer p))
  unfolding date_acked date_acked_in
  built_date_acked msg p known = Reading _ RoleAt by_role where
    by_role : (r : Role) → known_role m r → Built m o (Acking ∷ []) 0 1 (date_acked_in msg p r) (date_acked_in msg (m.names.peer p) (renamed_role m.names r))
    by_role (Follow q) told = whichever (HasDate p msg.number) (At (Puts (Acked p) refl known) refl) Empty
    by_role _ told = Empty

  module _ (number : ℕ) (time : ℤ) (is : o.of (ANumber number)) (timely : o.of (ATime time)) where
    pub built_passes_on : (from : Place) (q : PeerId) → known_place m from → m.known q → o.of (APlace from) →
        Built m o pass_sorts 0 2 (passes_on from q number time) (passes_on (renamed_place m.names from) (m.names.peer q) number time)
    unfolding passes_on begins_timed
    built_passes_on from q place known back = whichever (MayPassOn q)
        (Then (At (PostsBack from Ack number place back is refl) refl) (ReadingValue _ NextNumber
        (λ n own. At (PostsTime q SetDateReq n time known own timely refl) refl))) Empty

    pub built_new_date : (from : Place) → known_place m from → o.of (APlace from) →
        Built m o set_sorts 2 2 (new_date from number time) (new_date (renamed_place m.names from) number time)
    unfolding new_date leaves_all leaves
    built_new_date from place back =
        Then (At (Sets time) refl) (Then (At (PostsBack from DateAck number place back is refl) refl)
        (Then (Each _ Table (λ p known. At (Puts (Leave p) refl known) refl)) (At (ToOthers MasterUp refl) refl)))

    built-where : (from : Place) → known_place m from → o.of (APlace from) → Built m o set_sorts 2 2 (sets_date_where from number time)
        (sets_date_where (renamed_place m.names from) number time)
    unfolding sets_date_where
    built-where from place back = whichever (MayDate time) (built_new_date from place back) Empty

    built-in : (from : Place) (r : Role) → known_place m from → known_role m r → o.of (APlace from) →
        Built m o date_sorts 2 2 (date_in from number time r) (date_in (renamed_place m.names from) number time (renamed_role m.names r))
    unfolding date_in
    built-in from (Follow q) place told back = More (Wider refl (built_passes_on from q place told back)) refl
    built-in from Master place told back = Wider refl (built-where from place back)
    built-in from _ place told back = Empty

  module _ (charge : Bool) (msg : MessageValue) (is : o.of (ANumber msg.number)) (timely : o.of (ATime (time_in msg.body))) where
    pub built_date_of : (from : Place) → known_place m from → o.of (APlace from) →
        Built m o date_sorts 2 2 (date_of charge from msg) (date_of charge (renamed_place m.names from) msg)
    unfolding date_of
    built_date_of from place back = by_charge charge where
      by_charge : (b : Bool) → Built m o date_sorts 2 2 (date_of b from msg) (date_of b (renamed_place m.names from) msg)
      by_charge true = Reading _ RoleAt (λ r told. built-in msg.number (time_in msg.body) is timely from r place told back)
      by_charge false = Empty

    built-charge : (p : PeerId) → m.known p → Built m o date_sorts 2 2 (sets_in_charge charge p msg) (sets_in_charge charge (m.names.peer p) msg)
    unfolding sets_in_charge
    built-charge p known = by_charge charge where
      by_charge : (b : Bool) → Built m o date_sorts 2 2 (sets_in_charge b p msg) (sets_in_charge b (m.names.peer p) msg)
      by_charge true = Wider refl (built-where msg.number (time_in msg.body) is timely (Peer p) known (o.near p))
      by_charge false = Empty

    pub built_date_request_of : (p : PeerId) → m.known p → Built m o date_sorts 2 2 (date_request_of charge msg p) (date_request_of charge msg (m.names.peer p))
    unfolding date_request_of date_request_in
    built_date_request_of p known = Reading _ RoleAt by_role where
      by_role : (r : Role) → known_role m r → Built m o date_sorts 2 2 (date_request_in charge msg p r)
          (date_request_in charge msg (m.names.peer p) (renamed_role m.names r))
      by_role Master told = whichever (IsDated p msg.number) (More (At (Posts p DateAck msg.number known is refl) refl) refl) (built-charge p known)
      by_role _ told = Empty

-- what an alarm brings about: only a Close moves the clock
abbrev pub ring_sorts : Alarm → List Sort
ring_sorts CloseAlarm = round_sorts
ring_sorts _ = Asking ∷ Numbering ∷ Posting ∷ Leading ∷ Changing ∷ Backing ∷ Alarming ∷ Rounding ∷ []

-- what a peer's message brings about
abbrev pub says_sorts : List Sort
says_sorts = Correcting ∷ Numbering ∷ Posting ∷ Following ∷ Changing ∷ Backing ∷ Counting ∷ Alarming ∷ Tabling ∷ Rivalling ∷ Acking ∷ Moving ∷ []

-- what any message brings about, by its kind
abbrev pub handled_sorts : Kind → List Sort
handled_sorts Msite = client_sorts
handled_sorts MsiteReq = client_sorts
handled_sorts TraceOn = client_sorts
handled_sorts TraceOff = client_sorts
handled_sorts Test = client_sorts
handled_sorts Date = date_sorts
handled_sorts SetDate = date_sorts
handled_sorts DateReq = date_sorts
handled_sorts SetDateReq = date_sorts
handled_sorts DateAck = date_sorts
handled_sorts _ = says_sorts

-- what anything that is taken brings about: stamps are answered, or give samples
abbrev pub taken_sorts : Taken → List Sort
taken_sorts (Good (Message msg)) = Tracing ∷ Passing ∷ says_sorts
taken_sorts _ = Posting ∷ Sampling ∷ []

-- the same with the taking
abbrev pub all_taken_sorts : List Sort
all_taken_sorts = Taking ∷ Tracing ∷ Passing ∷ Sampling ∷ says_sorts

-- what is owed for what is taken
abbrev pub Owes : Owed → Taken → Type 0
Owes o (Bad fault) = Unit {0}
Owes o (Good (Message msg)) = o.of (ANumber msg.number) × o.of (ATime (time_in msg.body))
Owes o (Good (Stamp (Request word counter))) = o.of (AStamp word counter)
Owes o (Good (Stamp (Reply r))) = o.of (ATicket r.ticket)

slave_part : (k : Kind) → is_part (slave_sorts k) says_sorts ≡ true
slave_part Ack = refl
slave_part _ = refl

handled_part : (k : Kind) → is_part (handled_sorts k) (Tracing ∷ Passing ∷ says_sorts) ≡ true
handled_part DateAck = refl
handled_part _ = refl

taken_part : (t : Taken) → is_part (taken_sorts t) all_taken_sorts ≡ true
taken_part (Good (Message msg)) = refl
taken_part _ = refl

module _ {m : Naming} {o : Owed} where
  pub built_alarm_rings : (own wait : Bool) (a : Alarm) → Wakes m a → Built m o (ring_sorts a) 2 4 (alarm_rings own wait a) (alarm_rings own wait a)
  unfolding alarm_rings
  built_alarm_rings own wait Quiet wakes = More (Wider refl built_quiet_rings) refl
  built_alarm_rings own wait Search wakes = More (Wider refl built_search_rings) refl
  built_alarm_rings own wait Elect wakes = More (Wider refl built_elect_rings) refl
  built_alarm_rings own wait Window wakes = More (Wider refl (built_window_rings wakes)) refl
  built_alarm_rings own wait Probe wakes = More (Wider refl built_probe_rings) refl
  built_alarm_rings own wait CloseAlarm wakes = More (Wider refl (built_close_rings own)) refl
  built_alarm_rings own wait ResolveAlarm wakes = More (Wider refl built_resolve_rings) refl
  built_alarm_rings own wait Round wakes = Wider refl (built_round_rings wait)

  pub built_rings : (own wait : Bool) (a : Alarm) → Built m o (ring_sorts a) 2 4 (rings own wait a) (rings own wait a)
  unfolding rings
  built_rings own wait a = Either (Due a) (built_alarm_rings own wait a) (λ fails. Empty)

  pub built_from_peer : {sorts : List Sort} {k c : ℕ} (from : Place) (row row' : PeerId → Row) → known_place m from →
      ((p : PeerId) → m.known p → Built m o sorts k c (row p) (row' (m.names.peer p))) →
      Built m o sorts k c (from_peer from row) (from_peer (renamed_place m.names from) row')
  unfolding from_peer
  built_from_peer (Peer p) row row' known d = whichever (IsHeard p known) (d p known) Empty
  built_from_peer Stranger row row' known d = Empty

  built_says : (p : PeerId) (msg : MessageValue) (r : Role) → m.known p → o.of (ANumber msg.number) →
      Built m o says_sorts 1 5 (says_in p msg r) (says_in (m.names.peer p) msg (renamed_role m.names r))
  unfolding says_in
  built_says p msg Starting known is = Empty
  built_says p msg Candidate known is = More (Wider refl (built_candidate_takes p msg known is)) refl
  built_says p msg Master known is = Wider refl (built_master_takes p msg known is)
  built_says p msg _ known is = More (Wider (slave_part msg.kind) (built_slave_takes p msg known is)) refl

  pub built_peer_says : (msg : MessageValue) (p : PeerId) → m.known p → o.of (ANumber msg.number) →
      Built m o says_sorts 1 5 (peer_says msg p) (peer_says msg (m.names.peer p))
  unfolding peer_says
  built_peer_says msg p known is = Reading _ RoleAt (λ r told. built_says p msg r known is)

  built_replies_holds : (p : PeerId) (r : ReplyValue) (a : Role) → m.known p → o.of (ATicket r.ticket) →
      Built m o (Sampling ∷ []) 0 1 (replies_in p r a) (replies_in (m.names.peer p) r (renamed_role m.names a))
  unfolding replies_in
  built_replies_holds p r Master known is = built_samples p r known is
  built_replies_holds p r _ known is = Empty

  pub built_peer_replies : (r : ReplyValue) (p : PeerId) → m.known p → o.of (ATicket r.ticket) →
      Built m o (Sampling ∷ []) 0 1 (peer_replies r p) (peer_replies r (m.names.peer p))
  unfolding peer_replies
  built_peer_replies r p known is = Reading _ RoleAt (λ a told. built_replies_holds p r a known is)

  module _ (charge : Bool) (from : Place) (msg : MessageValue) (place : known_place m from) (back : o.of (APlace from)) (is : o.of (ANumber msg.number))
      (timely : o.of (ATime (time_in msg.body))) where
    pub built_handles_kind : (k : Kind) → Built m o (handled_sorts k) 2 5 (handles_kind charge from msg k) (handles_kind charge (renamed_place m.names from) msg
        k)
    unfolding handles_kind
    built_handles_kind Msite = More (Wider refl (built_names_master from msg.number place back is)) refl
    built_handles_kind MsiteReq = More (Wider refl (built_says_master from msg.number place back is)) refl
    built_handles_kind TraceOn = More (Wider refl (built_traces from msg.number place back is true)) refl
    built_handles_kind TraceOff = More (Wider refl (built_traces from msg.number place back is false)) refl
    built_handles_kind Test = More (Wider refl (built_tests from msg.number place back is)) refl
    built_handles_kind Date = More (built_date_of charge msg is timely from place back) refl
    built_handles_kind SetDate = More (built_date_of charge msg is timely from place back) refl
    built_handles_kind DateReq = More (built_from_peer from _ _ place (built_date_request_of charge msg is timely)) refl
    built_handles_kind SetDateReq = More (built_from_peer from _ _ place (built_date_request_of charge msg is timely)) refl
    built_handles_kind DateAck = More (Wider refl (built_from_peer from _ _ place (built_date_acked msg))) refl
    built_handles_kind LoopKind = Empty
    built_handles_kind _ = More (built_from_peer from _ _ place (λ p known. built_peer_says msg p known is)) refl

  pub built_handles : (steer charge : Bool) (from : Place) (t : Taken) → known_place m from → o.of (APlace from) → Owes o t →
      Built m o (taken_sorts t) 2 5 (handles steer charge from t) (handles steer charge (renamed_place m.names from) t)
  unfolding handles
  built_handles steer charge from (Bad fault) place back is = Empty
  built_handles steer charge from (Good (Message msg)) place back is = whichever (IsLeft steer msg.kind) Empty
      (Wider (handled_part msg.kind) (built_handles_kind charge from msg place back is.0 is.1 msg.kind))
  built_handles steer charge from (Good (Stamp (Request word counter))) place back is = More (Wider refl (built_replies from word counter place back is)) refl
  built_handles steer charge from (Good (Stamp (Reply r))) place back is = More (Wider refl
      (built_from_peer from _ _ place (λ p known. built_peer_replies r p known is))) refl

  pub built_took : (from : Place) (t : Taken) → o.of (ATaken t) → Built m o (Taking ∷ []) 0 1 (puts (Took from t)) (puts (Took (renamed_place m.names from) t))
  built_took from t is = At (Takes from t is) refl

  pub built_takes : (steer charge : Bool) (from : Place) (t : Taken) → comes_place m from → o.of (ATaken t) → o.of (APlace from) → Owes o t →
      Built m o all_taken_sorts 2 6 (takes steer charge from t) (takes steer charge (renamed_place m.names from) t)
  unfolding takes
  built_takes steer charge from t comes taken back is = Then (Wider refl (built_took from t taken))
      (Either (IsOwn from comes) (λ holds. Empty) (λ place. Wider (taken_part t) (built_handles steer charge from t place back is)))
