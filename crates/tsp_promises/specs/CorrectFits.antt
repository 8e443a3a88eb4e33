-- What a Correct owes to its port's past.
use Rattle.std.specs.Prelude.{◌≡◌, ◌≤◌, ℕ, ◌+◌, nat_lt, nat_abs, ℤ, ◌-ℤ◌, Bool, true, false, ◌||◌, List, ◌∷◌, Option, None, Some}
use Rattle.tsp_rules.specs.Values.{Took, Close, Message, Good, Kind, SetTime, PeerId, Place, Peer, Follow, Master, DATEHOLD, GAP, MAXADJ, QUIET}
use Rattle.tsp_base.specs.Words.{Did, Acts, Seen, Here, plain, MessageValue, last_correct, boot_tick, shown, ticket, target, Received, message_in, role, Dating}
use Rattle.tsp_base.specs.Words.{is_correction, is_date_request, last_date, sets_date, Setup, heard, time_in}
use Rattle.tsp_promises.specs.RoundFits.{group_mean}

-- by how many microseconds a correction moves a clock with this target: an ADJTIME carries the amount, a SETTIME the
-- time to which the clock is set
abbrev pub amount_of : Kind → ℤ → ℤ → ℤ
amount_of SetTime time target = time -ℤ target
amount_of _ time target = time

-- a Correct that ends a round: it stands right after the Close, in a step that has taken nothing on any port, and moves
-- the clock by the mean, which is that of the largest group of the round's estimates
pub record EndsRound (setup : Setup) (before : List Seen) (amount : ℤ) : Type 0 where
  pub close : Did
  pub past : List Seen
  pub is : before ≡ Here close ∷ past
  pub count : ℕ
  pub lo : ℤ
  pub size : ℤ
  pub deed : close.deed ≡ Acts (Close count lo size amount)
  pub untaken : heard (plain before) ≡ None
  pub mean_is : amount ≡ group_mean setup past

-- a Correct that takes a correction: it stands right after the Took; the correction comes from the master that the port
-- follows, and has the node's ticket as its number
pub record TakesCorrection (here : Did) (before : List Seen) (amount : ℤ) : Type 0 where
  pub from : PeerId
  pub message : MessageValue
  pub took : Did
  pub past : List Seen
  pub is : before ≡ Here took ∷ past
  pub deed : took.deed ≡ Acts (Took (Peer from) (Good (Message message)))
  pub kind : is_correction message.kind ≡ true
  pub number : message.number ≡ ticket (plain before)
  pub amount_is : amount ≡ amount_of message.kind (time_in message.body) (target (plain before) here.tick)
  pub follows : role before ≡ Follow from

-- a Correct that sets the date: it stands right after the Took, at a master, and sets the clock to the time taken. A
-- date that a peer passed on isn't set again within DATEHOLD ticks
pub record TakesDate (here : Did) (before : List Seen) (amount : ℤ) : Type 0 where
  pub from : Place
  pub message : MessageValue
  pub took : Did
  pub past : List Seen
  pub is : before ≡ Here took ∷ past
  pub deed : took.deed ≡ Acts (Took from (Good (Message message)))
  pub kind : sets_date message.kind ≡ true
  pub leads : role before ≡ Master
  pub amount_is : amount ≡ time_in message.body -ℤ target (plain before) here.tick
  pub again : (p : PeerId) (d : Dating) → from ≡ Peer p → is_date_request message.kind ≡ true → last_date p before ≡ Some d → d.number ≡ message.number →
      d.at + DATEHOLD ≤ here.tick

-- why a clock is corrected: by the node's own round, by its master, or by a date
pub data WhyCorrect (setup : Setup) (here : Did) (before : List Seen) (amount : ℤ) : Type 0 where
  ByRound : EndsRound setup before amount → WhyCorrect setup here before amount
  ByMaster : TakesCorrection here before amount → WhyCorrect setup here before amount
  ByDate : TakesDate here before amount → WhyCorrect setup here before amount

-- whether messages of this kind set a clock to the time that they carry: a SETTIME, and a date
abbrev pub sets_time : Kind → Bool
sets_time SetTime = true
sets_time kind = sets_date kind

abbrev pub sets_time_in : Option MessageValue → Bool
sets_time_in None = false
sets_time_in (Some m) = sets_time m.kind

-- whether a Correct in a step that has taken this sets the clock to a time. One in a step that has taken nothing, or an
-- ADJTIME, moves it by an amount
abbrev pub sets_clock : Option Received → Bool
sets_clock None = false
sets_clock (Some r) = sets_time_in (message_in r.taken)

-- whether a Correct of this amount is stepped, in a step that has taken this: it sets the clock, or the amount is
-- larger than MAXADJ, 20 s, in magnitude
abbrev pub is_stepped : ℤ → Option Received → Bool
is_stepped amount took = sets_clock took || nat_lt MAXADJ (nat_abs amount)

-- a Correct comes at least GAP ticks after the last one or the boot, and at least QUIET ticks after the boot. It says
-- that it is stepped exactly where it is, and prints what the clock shows right after it
pub record CorrectFits (setup : Setup) (here : Did) (before : List Seen) (amount : ℤ) (stepped : Bool) (printed : ℤ) : Type 0 where
  pub gap : last_correct (plain before) + GAP ≤ here.tick
  pub rested : boot_tick (plain before) + QUIET ≤ here.tick
  pub why : WhyCorrect setup here before amount
  pub flag : stepped ≡ is_stepped amount (heard (plain before))
  pub prints : printed ≡ shown (here ∷ plain before) here.tick
