-- What the post of a correction, an ADJTIME or a SETTIME, owes to its port's past.
use Rattle.std.specs.Prelude.{◌≡◌, ◌≤◌, ◌<◌, ◌⊎◌, ℕ, ◌+◌, ◌%◌, ℤ, pos, neg_ℤ, ◌-ℤ◌, ◌<ℤ◌, Bool, true, false, List, ◌∷◌, None, Some}
use Rattle.tsp_rules.specs.Values.{Post, Close, Correct, Message, AdjTime, SetTime, SlaveUp, PeerId, Peer, Master, CLOSE, LAST, LIMIT, QUIET, REUSE, SLACK}
use Rattle.tsp_rules.specs.Values.{TRIES}
use Rattle.tsp_base.specs.Words.{Did, Acts, Seen, Here, plain, MessageValue, boot_tick, target, Within, role, acting, taken, Sampled, best, started, open_to}
use Rattle.tsp_base.specs.Words.{posts_of, last_to, last_post, is_acknowledged, Receives, Undisturbed, time_in}
use Rattle.tsp_promises.specs.StepFacts.{closed}

-- a repeat posts the message of the open send again, at most LAST ticks after its first post, and that was posted fewer
-- than TRIES times so far
pub record RepeatFits (here : Did) (before : List Seen) (p : PeerId) (m : MessageValue) : Type 0 where
  pub first : Did
  pub older : List Seen
  pub is : open_to p before ≡ Here first ∷ older
  pub same : first.deed ≡ Acts (Post (Peer p) (Message m))
  pub soon : here.tick ≤ first.tick + LAST
  pub few : posts_of p before < TRIES

-- a SETTIME that answers the SLAVEUP which the step took from p, with its number
pub record AnswersSlaveUp (before : List Seen) (p : PeerId) (m : MessageValue) : Type 0 where
  pub sets : m.kind ≡ SetTime
  pub message : MessageValue
  pub took : Receives before p (Message message)
  pub kind : message.kind ≡ SlaveUp
  pub number : message.number ≡ m.number

-- the line right after the Close is a Correct by the mean
pub record FollowedBy (close : Did) (past before : List Seen) (mean : ℤ) : Type 0 where
  pub next : Did
  pub place : Within (Here next ∷ (Here close ∷ past)) before
  pub stepped : Bool
  pub shown : ℤ
  pub deed : next.deed ≡ Acts (Correct mean stepped shown)

-- this Close, the last one of the step, begins the correction before the step takes anything. It rests on the best
-- sample of p in its round: the number is the sample's ticket, and an ADJTIME carries the mean less the sample's diff
pub record FromClose (here : Did) (before : List Seen) (p : PeerId) (m : MessageValue) (close : Did) (past : List Seen) (mean : ℤ) (sample : Sampled) : Type 0
  where
    pub is : closed before ≡ Here close ∷ past
    pub count : ℕ
    pub lo : ℤ
    pub size : ℤ
    pub deed : close.deed ≡ Acts (Close count lo size mean)
    pub at : close.step.at ≡ here.step.at
    pub start : Did
    pub idle : List Seen
    pub start_is : started past ≡ Here start ∷ idle
    pub soon : close.tick ≤ start.tick + (CLOSE + SLACK)
    pub undisturbed : Undisturbed (plain idle) (plain past)
    pub best_is : best p past ≡ Some sample
    pub number : m.number ≡ sample.ticket
    pub value : m.kind ≡ AdjTime → time_in m.body ≡ mean -ℤ sample.diff
    pub untaken : taken before ≡ None
    -- the clock moved by the mean, or the mean is 0
    pub followed : (mean ≡ pos 0) ⊎ FollowedBy close past before mean

-- some Close of the step begins the correction
pub record AtClose (here : Did) (before : List Seen) (p : PeerId) (m : MessageValue) : Type 0 where
  pub close : Did
  pub past : List Seen
  pub mean : ℤ
  pub sample : Sampled
  pub is : FromClose here before p m close past mean sample

-- no correction was posted to p in the last REUSE ticks
pub record Rests (here : Did) (before : List Seen) (p : PeerId) : Type 0 where
  pub long : (x : ℕ) → last_post p before ≡ Some x → x + REUSE ≤ here.tick

-- the last correction that began to p was acknowledged, and this one has the next number, modulo 32,768
pub record Follows (before : List Seen) (p : PeerId) (m : MessageValue) : Type 0 where
  pub last : Did
  pub older : List Seen
  pub is : last_to p before ≡ Here last ∷ older
  pub message : MessageValue
  pub deed : last.deed ≡ Acts (Post (Peer p) (Message message))
  pub number : m.number ≡ (message.number + 1) % 32768
  pub acknowledged : is_acknowledged p before ≡ true

-- a SETTIME carries the node's target at its tick, which is more than -LIMIT and less than LIMIT
pub record SetsTarget (here : Did) (before : List Seen) (m : MessageValue) : Type 0 where
  pub time : time_in m.body ≡ target (plain before) here.tick
  pub low : neg_ℤ LIMIT <ℤ target (plain before) here.tick
  pub high : target (plain before) here.tick <ℤ LIMIT

-- what the first post of a correction owes: it comes at least QUIET ticks after the boot, for a SLAVEUP or a Close, to
-- a peer that was posted no correction for REUSE ticks or has acknowledged the last one
pub record BeginFits (here : Did) (before : List Seen) (p : PeerId) (m : MessageValue) : Type 0 where
  pub rested : boot_tick (plain before) + QUIET ≤ here.tick
  pub from : AnswersSlaveUp before p m ⊎ AtClose here before p m
  pub may : Rests here before p ⊎ Follows before p m
  pub sets : m.kind ≡ SetTime → SetsTarget here before m

-- only a master posts a correction. After an alarm or a datagram in its step the post begins a send; before that it
-- repeats the open one
pub record CorrectionFits (here : Did) (before : List Seen) (p : PeerId) (m : MessageValue) : Type 0 where
  pub leads : role before ≡ Master
  pub begins : acting before ≡ true → BeginFits here before p m
  pub repeats : acting before ≡ false → RepeatFits here before p m
