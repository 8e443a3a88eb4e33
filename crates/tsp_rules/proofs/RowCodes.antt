-- What rows are made of: acts, facts, tests and lists of peers, as codes that name no property.
use Rattle.std.specs.Prelude.{◌≡◌, ℕ, ℤ, Bool, true, false, List, [], ◌∷◌, Option, Some}
use Rattle.tsp_rules.specs.Values.{Act, Boot, Took, Post, Correct, Sample, Alarm, Message, Taken, Kind, AdjTime, Ack, Date, DateReq, LoopKind, SetDate}
use Rattle.tsp_rules.specs.Values.{SetDateReq, SetTime, PeerId, Place, Peer, Port, Role}
use Rattle.tsp_rules.specs.{Answers.is_left, CandidateRows.has_won, ClockRows.adjusts, ClockRows.sets, MasterRows.may_join}
use Rattle.tsp_rules.specs.CommonRows.{is_awake, master_name, may_be_asked, own_at, replies}
use Rattle.tsp_rules.specs.{DateRows.has_date, DateRows.is_dated, DateRows.may_date, DateRows.may_pass_on, ResolveRows.is_new_rival}
use Rattle.tsp_rules.specs.{GateRows.reposts, GateRows.sends_loops, SlaveRows.is_repeated, SlaveRows.takes_amount, SlaveRows.takes_value}
use Rattle.tsp_rules.specs.Guards.{delay_at, follows_at, is_armed, is_due, is_going_at, is_heard, is_in_time, is_master_at, is_own, is_slave_at, may_back_at}
use Rattle.tsp_rules.specs.Guards.{may_stand_at, rivals_at, role_at, table_at, target_at, ticket_at}
use Rattle.tsp_rules.specs.RoundRows.{asks, has_more, measured_at, request_at, sample_of}
use Rattle.tsp_rules.specs.SendRows.{begins_settime, has_election, has_other, has_quit, is_free, is_send_due, is_spent, may_correct, next_number, others_at}
use Rattle.tsp_rules.specs.SendRows.{repeats}
use Rattle.tsp_rules.proofs.Emits.{Sort, Asking, Correcting, Moving, Posting, Sampling, sort_of, sort_of_alarm, sort_of_kind}
use Rattle.tsp_rules.specs.Renames.{Knows, Naming, Wakes, comes_place, known_place, known_role, later_send, renamed_act, renamed_place, renamed_role}
use Rattle.tsp_base.specs.Words.{Past, MessageValue, OpenRequest, Sending, Row, arms, bare, posts, posts_back, posts_time, posts_to_others, puts, ReplyValue}

-- values in acts
pub data Value : Type 0 where
  ANumber : ℕ → Value
  ATicket : ℕ → Value
  ATime : ℤ → Value
  AStamp : (word counter : ℕ) → Value
  AName : List ℕ → Value
  ASend : Option Sending → Value
  AMessage : MessageValue → Value
  -- where an answer goes back to
  APlace : Place → Value
  ATaken : Taken → Value

-- what a property asks of the values in acts
pub record Owed : Type 1 where
  pub of : Value → Type 0
  pub zero : of (ANumber 0)
  pub near : (p : PeerId) → of (APlace (Peer p))

-- nothing is known of a value
abbrev pub Any : {A : Type 0} → A → Type 0
Any a = Unit {0}

-- an act of which no property asks anything
abbrev pub is_plain : Act → Bool
is_plain Boot = false
is_plain (Took from t) = false
is_plain (Post to datagram) = false
is_plain (Sample p counter diff err ticket) = false
is_plain (Correct amount stepped shown) = false
is_plain _ = true

-- whether messages of this kind carry a time
abbrev pub is_timed : Kind → Bool
is_timed AdjTime = true
is_timed SetTime = true
is_timed Date = true
is_timed DateReq = true
is_timed SetDate = true
is_timed SetDateReq = true
is_timed _ = false

-- whether they carry nothing
abbrev pub is_bare : Kind → Bool
is_bare AdjTime = false
is_bare SetTime = false
is_bare Date = false
is_bare DateReq = false
is_bare SetDate = false
is_bare SetDateReq = false
is_bare LoopKind = false
is_bare _ = true

-- rows that put acts of these sorts, so many for each peer and so many besides
pub data Leaf (m : Naming) (o : Owed) : List Sort → ℕ → ℕ → Row → Row → Type 0 where
  Puts : (a : Act) → is_plain a ≡ true → Knows m a → Leaf m o (sort_of a ∷ []) 0 1 (puts a) (puts (renamed_act m.names a))
  Takes : (from : Place) (t : Taken) → o.of (ATaken t) → Leaf m o (sort_of (Took from t) ∷
      []) 0 1 (puts (Took from t)) (puts (Took (renamed_place m.names from) t))
  Arms : (alarm : Alarm) (long : ℕ) → Wakes m alarm → Leaf m o (sort_of_alarm alarm ∷ []) 0 1 (arms alarm long) (arms alarm long)
  Posts : (p : PeerId) (kind : Kind) (number : ℕ) → m.known p → o.of (ANumber number) → is_bare kind ≡ true →
      Leaf m o (sort_of_kind kind ∷ []) 0 1 (posts p kind number) (posts (m.names.peer p) kind number)
  ToOthers : (kind : Kind) → is_bare kind ≡ true → Leaf m o (sort_of_kind kind ∷ []) 1 0 (posts_to_others kind 0) (posts_to_others kind 0)
  PostsBack : (from : Place) (kind : Kind) (number : ℕ) → known_place m from → o.of (APlace from) → o.of (ANumber number) → is_bare kind ≡ true →
      Leaf m o (sort_of_kind kind ∷ []) 0 1 (posts_back from kind number) (posts_back (renamed_place m.names from) kind number)
  PostsTime : (p : PeerId) (kind : Kind) (number : ℕ) (time : ℤ) → m.known p → o.of (ANumber number) → o.of (ATime time) → is_timed kind ≡ true →
      Leaf m o (sort_of_kind kind ∷ []) 0 1 (posts_time p kind number time) (posts_time (m.names.peer p) kind number time)
  PostsReply : (from : Place) (word counter : ℕ) → known_place m from → o.of (APlace from) → o.of (AStamp word counter) →
      Leaf m o (Posting ∷ []) 0 1 (replies from word counter) (replies (renamed_place m.names from) word counter)
  PostsName : (from : Place) (number : ℕ) (name : List ℕ) → known_place m from → o.of (APlace from) → o.of (ANumber number) → o.of (AName name) →
      Leaf m o (Posting ∷ []) 0 1 (puts (Post from (Message (bare Ack number name))))
      (puts (Post (renamed_place m.names from) (Message (bare Ack number name))))
  Repeats : (p : PeerId) (s : Sending) → m.known p → o.of (ASend (Some s)) → Leaf m o (sort_of_kind s.message.kind ∷
      []) 0 1 (repeats p s.message) (repeats (m.names.peer p) s.message)
  SettimeBegins : (p : PeerId) (number : ℕ) → m.known p → o.of (ANumber number) →
      Leaf m o (Correcting ∷ []) 0 1 (begins_settime p number) (begins_settime (m.names.peer p) number)
  Loops : (q : Port) → o.of (ANumber q.0) → Leaf m o (Posting ∷ []) 1 0 (sends_loops q) (sends_loops q)
  Reposts : (msg : MessageValue) → o.of (AMessage msg) → Leaf m o (sort_of_kind msg.kind ∷ []) 1 0 (reposts msg) (reposts msg)
  Asks : (p : PeerId) → m.known p → Leaf m o (Asking ∷ []) 0 1 (asks p) (asks (m.names.peer p))
  Samples : (p : PeerId) (r : ReplyValue) (a d : ℤ) → m.known p → o.of (ATicket r.ticket) →
      Leaf m o (Sampling ∷ []) 0 1 (puts (sample_of p r a d)) (puts (sample_of (m.names.peer p) r a d))
  Adjusts : (amount : ℤ) → Leaf m o (Moving ∷ []) 0 1 (adjusts amount) (adjusts amount)
  Sets : (value : ℤ) → Leaf m o (Moving ∷ []) 0 1 (sets value) (sets value)

-- facts that rows read, what renaming makes of them, and what is known of their values
pub data Fact (m : Naming) : (A : Type 0) → (A → A) → (A → Type 0) → (ℕ → Past → A) → (ℕ → Past → A) → Type 1 where
  RoleAt : Fact m Role (renamed_role m.names) (known_role m) role_at role_at
  DelayAt : Fact m ℕ (λ n. n) Any delay_at delay_at
  OwnAt : Fact m PeerId m.names.peer Any own_at own_at
  TargetAt : Fact m ℤ (λ d. d) Any target_at target_at
  RequestAt : (p : PeerId) (counter : ℕ) → Fact m (Option OpenRequest) (λ q. q) Any (request_at p counter) (request_at (m.names.peer p) counter)

-- facts whose values stand in acts
pub data Valued (m : Naming) : (A : Type 0) → (A → A) → (A → Value) → (ℕ → Past → A) → (ℕ → Past → A) → Type 1 where
  TicketAt : Valued m ℕ (λ n. n) ANumber ticket_at ticket_at
  NextNumber : Valued m ℕ (λ n. n) ANumber next_number next_number
  MasterName : Valued m (List ℕ) (λ name. name) AName master_name master_name

-- known peers that rows go through, no more than there are
pub data Listed (m : Naming) : (ℕ → Past → List PeerId) → (ℕ → Past → List PeerId) → Type 0 where
  Others : Listed m others_at others_at
  Rivals : Listed m rivals_at rivals_at
  Table : Listed m table_at table_at
  Measured : Listed m measured_at measured_at

-- tests
pub data Test (m : Naming) : (ℕ → Past → Bool) → (ℕ → Past → Bool) → Type 0 where
  Due : (alarm : Alarm) → Test m (is_due alarm) (is_due alarm)
  InTime : (alarm : Alarm) → Test m (is_in_time alarm) (is_in_time alarm)
  Armed : (alarm : Alarm) → Test m (is_armed alarm) (is_armed alarm)
  MayStand : Test m may_stand_at may_stand_at
  MayBack : (p : PeerId) → Test m (may_back_at p) (may_back_at (m.names.peer p))
  MayJoin : (p : PeerId) (number : ℕ) → Test m (may_join p number) (may_join (m.names.peer p) number)
  MayCorrect : (p : PeerId) (number : ℕ) → Test m (may_correct p number) (may_correct (m.names.peer p) number)
  MayBeAsked : Test m may_be_asked may_be_asked
  MayPassOn : (p : PeerId) → Test m (may_pass_on p) (may_pass_on (m.names.peer p))
  MayDate : (time : ℤ) → Test m (may_date time) (may_date time)
  Follows : Test m follows_at follows_at
  HasWon : m.stands → Test m has_won has_won
  HasMore : Test m has_more has_more
  HasElection : (p : PeerId) (number : ℕ) → Test m (has_election p number) (has_election (m.names.peer p) number)
  HasOther : (p : PeerId) (number : ℕ) → Test m (has_other p number) (has_other (m.names.peer p) number)
  HasDate : (p : PeerId) (number : ℕ) → Test m (has_date p number) (has_date (m.names.peer p) number)
  HasQuit : (p : PeerId) → Test m (has_quit p) (has_quit (m.names.peer p))
  IsAwake : Test m is_awake is_awake
  IsGoing : Test m is_going_at is_going_at
  IsMaster : Test m is_master_at is_master_at
  IsSlave : (p : PeerId) → Test m (is_slave_at p) (is_slave_at (m.names.peer p))
  IsNewRival : (p : PeerId) → Test m (is_new_rival p) (is_new_rival (m.names.peer p))
  IsFree : (p : PeerId) → Test m (is_free p) (is_free (m.names.peer p))
  IsHeard : (p : PeerId) → m.known p → Test m (is_heard p) (is_heard (m.names.peer p))
  IsOwn : (from : Place) → comes_place m from → Test m (is_own from) (is_own (renamed_place m.names from))
  IsLeft : (steer : Bool) (kind : Kind) → Test m (is_left steer kind) (is_left steer kind)
  IsSendDue : (s : Sending) → Test m (is_send_due s) (is_send_due (later_send m.names s))
  IsSpent : (s : Sending) → Test m (is_spent s) (is_spent (later_send m.names s))
  IsRepeated : (p : PeerId) (number : ℕ) → Test m (is_repeated p number) (is_repeated (m.names.peer p) number)
  IsDated : (p : PeerId) (number : ℕ) → Test m (is_dated p number) (is_dated (m.names.peer p) number)
  TakesAmount : (number : ℕ) (amount : ℤ) → Test m (takes_amount number amount) (takes_amount number amount)
  TakesValue : (number : ℕ) (value : ℤ) → Test m (takes_value number value) (takes_value number value)

-- what a test tells if it holds: a port that stands for election may do so, and it alone has an alarm for the end of the window
abbrev pub yes : {m : Naming} {t t' : ℕ → Past → Bool} → Test m t t' → Type 0
yes {m} (Due alarm) = Wakes m alarm
yes {m} MayStand = m.stands
yes {m} MayBeAsked = m.stands
yes _ = Unit {0}

-- what it tells if it doesn't hold: what doesn't come from the port itself comes from a place that is known
abbrev pub no : {m : Naming} {t t' : ℕ → Past → Bool} → Test m t t' → Type 0
no {m} (IsOwn from comes) = known_place m from
no _ = Unit {0}
