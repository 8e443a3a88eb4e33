-- What is known of a port between the acts of its steps.
use Rattle.std.specs.Prelude.{◌≡◌, ◌⊎◌, ◌≤◌, ℕ, ◌+◌, ◌*◌, Bool, true, false, List, [], ◌∷◌, Option, None, Some}
use Rattle.tsp_rules.specs.Values.{PeerId, Role, Starting, Follow, Candidate, Master, CLOSE, ELECT_MIN, QUIET, ROUND, WINDOW}
use Rattle.tsp_base.specs.Words.{Did, Seen, Here, Past, plain, MessageValue, boot_tick, last_correct, all_corrects, lives, word, is_among, Received, role, held}
use Rattle.tsp_base.specs.Words.{armed, acting, taken, backers, stood, started, exchange, word_asked, probes, open_to, message_at, heard}
use Rattle.tsp_promises.specs.StepFacts.{is_unbacked, owes, unacknowledged, unheeded}
use Rattle.tsp_rules.specs.SendRows.{is_kind_election}
use Rattle.tsp_promises.specs.PortFits.{PortFits, setup_in}

-- a round that goes on: its port is a master, its close is met CLOSE after its start, and its node was left alone since
pub record Going (last : ℕ) (r : Role) (at : ℕ) (st : List Seen) (nc nl : ℕ) : Type 0 where
  pub leads : r ≡ Master
  pub start : Did
  pub idle : List Seen
  pub start_is : st ≡ Here start ∷ idle
  pub at_is : at ≡ start.tick + CLOSE
  pub last_le : last ≤ start.tick
  pub corrects : all_corrects (plain idle) ≡ nc
  pub life : lives (plain idle) ≡ nl

-- an open exchange: a round goes on, its request has the node's word, and the node was left alone since, unless the port is stirred
pub record Asked (stirred : Bool) (close : Option ℕ) (nc nl w : ℕ) (s : Seen) (older : List Seen) : Type 0 where
  pub post : Did
  pub is : s ≡ Here post
  pub at : ℕ
  pub goes : close ≡ Some at
  pub word_is : word_asked (s ∷ older) ≡ w
  pub corrects : stirred ≡ false → all_corrects (plain older) ≡ nc
  pub life : stirred ≡ false → lives (plain older) ≡ nl

-- the next probe comes well before the round's close
pub record Probing (at : ℕ) (close : Option ℕ) (n : ℕ) : Type 0 where
  pub until : ℕ
  pub goes : close ≡ Some until
  pub soon : at + 7000000 ≤ until + n * 2000000
  pub few : n ≤ 2

-- a port in the quiet time: no alarm is armed that it would answer by posts, and no send is open
pub record Sleeps (r : Role) (search elect resolve : Option ℕ) (to : PeerId → List Seen) : Type 0 where
  pub starts : r ≡ Starting
  pub unsearched : search ≡ None
  pub unelected : elect ≡ None
  pub unresolved : resolve ≡ None
  pub unsent : (p : PeerId) → to p ≡ []

-- whether a message asks for a vote
abbrev pub asks_vote : Option MessageValue → Bool
asks_vote None = false
asks_vote (Some m) = is_kind_election m.kind

-- a candidature: when its window ends, and that the candidate backed itself when it stood
pub record Candidature (own : PeerId) (at : ℕ) (r : Role) (back : Option (ℕ × PeerId)) (st : List Seen) : Type 0 where
  pub stands : r ≡ Candidate
  pub start : Did
  pub idle : List Seen
  pub start_is : st ≡ Here start ∷ idle
  pub at_is : at ≡ start.tick + WINDOW
  pub back_is : back ≡ Some (start.tick, own)

-- boot, last correction and last round's beginning aren't later than the tick x, and the next round begins ROUND after that
pub record Times (x boot last hold_boot : ℕ) (st : List Seen) (round : Option ℕ) : Type 0 where
  pub boot_le : boot ≤ x
  pub last_le : last ≤ x
  pub boot_is : hold_boot ≡ boot
  pub start_le : (start : Did) (idle : List Seen) → st ≡ Here start ∷ idle → start.tick ≤ x
  pub next : (at : ℕ) → round ≡ Some at → (start : Did) (idle : List Seen) → st ≡ Here start ∷ idle → start.tick + ROUND ≤ at

-- the quiet time goes on or is over, and Quiet ends it
pub record Quiets (x boot : ℕ) (r : Role) (quiet search elect resolve : Option ℕ) (to : PeerId → List Seen) : Type 0 where
  pub rested : Sleeps r search elect resolve to ⊎ (boot + QUIET ≤ x)
  pub silent : (at : ℕ) → quiet ≡ Some at → (r ≡ Starting) × (boot + QUIET ≤ at)

-- a candidate may stand, its window ends its candidature, and whom it asks hasn't backed it
pub record Votes (x boot : ℕ) (own : PeerId) (r : Role) (window quit : Option ℕ) (back : Option (ℕ × PeerId)) (st : List Seen) (to : PeerId →
    List Seen) (bs : List PeerId) : Type 0 where
  pub stands : r ≡ Candidate → (boot + ELECT_MIN ≤ x) × ((t : ℕ) → quit ≡ Some t → t + ELECT_MIN ≤ x)
  pub windows : (at : ℕ) → window ≡ Some at → Candidature own at r back st
  pub votes : (p : PeerId) → asks_vote (message_at (to p)) ≡ true → is_among p bs ≡ false

-- a master has rounds, probes and exchanges; one that goes on was left alone, unless the port is stirred: the clock was corrected, and the round isn't given up
-- yet
pub record Rounds (stirred : Bool) (last : ℕ) (r : Role) (probe close round : Option ℕ) (n : ℕ) (st : List Seen) (nc nl w : ℕ) (ex : PeerId → ℕ →
    List Seen) : Type 0 where
  pub rounds : (at : ℕ) → round ≡ Some at → r ≡ Master
  pub probing : (at : ℕ) → probe ≡ Some at → Probing at close n
  pub closes : stirred ≡ false → (at : ℕ) → close ≡ Some at → Going last r at st nc nl
  pub exchanges : (p : PeerId) (k : ℕ) (s : Seen) (older : List Seen) → ex p k ≡ s ∷ older → Asked stirred close nc nl w s older

-- all of this
pub record Knows (A B C D : Type 0) : Type 0 where
  pub times : A
  pub quiet : B
  pub vote : C
  pub round : D

abbrev pub TimesOf : ℕ → List Seen → Type 0
TimesOf x seen = Times x (boot_tick (plain seen)) (last_correct (plain seen)) (held seen).boot (started seen) (armed seen).round

abbrev pub QuietsOf : ℕ → List Seen → Type 0
QuietsOf x seen = Quiets x (boot_tick (plain seen)) (role seen) (armed seen).quiet (armed seen).search (armed seen).elect (armed seen).resolve
    (λ p. open_to p seen)

abbrev pub VotesOf : ℕ → PeerId → List Seen → Type 0
VotesOf x own seen = Votes x (boot_tick (plain seen)) own (role seen) (armed seen).window (held seen).quit (held seen).back (stood seen) (λ p. open_to p seen)
    (backers seen)

abbrev pub RoundsOf : Bool → List Seen → Type 0
RoundsOf stirred seen = Rounds stirred (last_correct (plain seen)) (role seen) (armed seen).probe (armed seen).close (armed seen).round (probes seen)
    (started seen)
    (all_corrects (plain seen)) (lives (plain seen)) (word (plain seen)) (λ p k. exchange p k seen)

-- the same of what the port of the node with this number has seen
abbrev pub KnowsOf : Bool → ℕ → PeerId → List Seen → Type 0
KnowsOf stirred x own seen = Knows (TimesOf x seen) (QuietsOf x seen) (VotesOf x own seen) (RoundsOf stirred seen)

-- a port in a step: whether it is stirred, whether its quiet time is known to be over, whether it owes a backing of itself, each peer that it must follow, that
-- no QUIT waits for its ACK, whether it acts, what was taken here and anywhere
pub record During (stirred awake owing : Bool) (follow : List PeerId) (acts : Bool) (T : Option Received → Option Received →
    Type 0) (x : ℕ) (past : Past) : Type 0 where
  pub own : past.own.0 ≡ past.step.node
  pub fits : PortFits (setup_in past) past.seen
  pub knows : KnowsOf stirred x past.own past.seen
  pub rested : awake ≡ true → boot_tick (plain past.seen) + QUIET ≤ x
  pub backs : is_unbacked past.seen ≡ owing
  pub owed : owes past.seen ≡ follow
  pub paid : unacknowledged past.seen ≡ None
  pub acting_is : acting past.seen ≡ acts
  pub took : T (taken past.seen) (heard (plain past.seen))

-- nothing was taken yet in this step, here or on another port
abbrev pub Untaken : Option Received → Option Received → Type 0
Untaken here anywhere = (here ≡ None) × (anywhere ≡ None)

-- a port in a step that has acted, after its quiet time
abbrev pub Free : (Option Received → Option Received → Type 0) → ℕ → Past → Type 0
Free T = During false true false [] true T

-- the same of a port that may be in its quiet time
abbrev pub Early : (Option Received → Option Received → Type 0) → ℕ → Past → Type 0
Early T = During false false false [] true T

-- the same of a port whose clock was corrected while a round may go on
abbrev pub Stirred : (Option Received → Option Received → Type 0) → ℕ → Past → Type 0
Stirred T = During true true false [] true T

-- a port before its first alarm in a step
abbrev pub FreshIn : Bool → ℕ → Past → Type 0
FreshIn stirred = During stirred false false [] false Untaken

abbrev pub Fresh : ℕ → Past → Type 0
Fresh = FreshIn false

-- a port in a step that may have acted
pub record OpenIn (stirred : Bool) (T : Option Received → Option Received → Type 0) (x : ℕ) (past : Past) : Type 0 where
  pub own : past.own.0 ≡ past.step.node
  pub fits : PortFits (setup_in past) past.seen
  pub knows : KnowsOf stirred x past.own past.seen
  pub backs : is_unbacked past.seen ≡ false
  pub owed : owes past.seen ≡ []
  pub paid : unacknowledged past.seen ≡ None
  pub took : T (taken past.seen) (heard (plain past.seen))

abbrev pub Open : ℕ → Past → Type 0
Open = OpenIn false Untaken

-- a port whose step may end
pub record RestsIn (stirred : Bool) (x : ℕ) (past : Past) : Type 0 where
  pub fits : PortFits (setup_in past) past.seen
  pub knows : KnowsOf stirred x past.own past.seen
  pub backs : is_unbacked past.seen ≡ false
  pub follows : (p : PeerId) → is_among p (owes past.seen) ≡ true → role past.seen ≡ Follow p
  pub paid : unacknowledged past.seen ≡ None

abbrev pub Rests : ℕ → Past → Type 0
Rests = RestsIn false

-- a port at the end of its step, which has heeded what it took
abbrev pub Ended : ℕ → Past → Type 0
Ended x past = Rests x past × (unheeded past.peers past.seen ≡ None)
