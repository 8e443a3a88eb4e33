-- What the posts of dates owe to their port's past: those that are passed on, and their answers.
use Rattle.std.specs.Prelude.{◌≡◌, ◌≤◌, ◌<◌, ◌⊎◌, ℕ, ◌+◌, true, List, Some}
use Rattle.tsp_rules.specs.Values.{Message, Date, SetDate, PeerId, Place, Peer, Stranger, DATEHOLD, QUIET, REUSE}
use Rattle.tsp_base.specs.Words.{Did, Seen, plain, MessageValue, boot_tick, Dating, is_date_request, last_asked, last_date, Receives, TakesFrom}

-- a date begins to be passed on at least QUIET ticks after the boot, and at least REUSE ticks after the port last began
-- to pass one on
pub record PassOnFits (here : Did) (before : List Seen) : Type 0 where
  pub rested : boot_tick (plain before) + QUIET ≤ here.tick
  pub seldom : (x : ℕ) → last_asked before ≡ Some x → x + REUSE ≤ here.tick

-- this step took the date of a client (DATE or SETDATE) with this number from there
pub record AnswersClient (to : Place) (before : List Seen) (number : ℕ) : Type 0 where
  pub message : MessageValue
  pub took : TakesFrom before to (Message message)
  pub kind : (message.kind ≡ Date) ⊎ (message.kind ≡ SetDate)
  pub number_is : message.number ≡ number

-- this step took a date with this number that p passes on, and that date was set less than DATEHOLD ticks ago
pub record AnswersPassedOn (here : Did) (before : List Seen) (p : PeerId) (number : ℕ) : Type 0 where
  pub message : MessageValue
  pub took : Receives before p (Message message)
  pub kind : is_date_request message.kind ≡ true
  pub number_is : message.number ≡ number
  pub last : Dating
  pub last_is : last_date p before ≡ Some last
  pub same : last.number ≡ number
  pub fresh : here.tick < last.at + DATEHOLD

-- what a DATEACK owes: it answers a client's date, or, to a peer, a date that was set before
abbrev pub DateAckFits : Place → Did → List Seen → ℕ → Type 0
DateAckFits (Peer p) here before number = AnswersClient (Peer p) before number ⊎ AnswersPassedOn here before p number
DateAckFits Stranger here before number = AnswersClient Stranger before number
