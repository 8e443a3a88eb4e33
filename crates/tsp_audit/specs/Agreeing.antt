-- What is remembered from line to line of clocks that one round corrected.
use Rattle.std.specs.Prelude.{◌≡◌, ◌<◌, ◌≤◌, ◌≤ℤ◌, ◌⊎◌, ℕ, ◌+◌, ◌-◌, ◌*◌, ℤ, pos, ◌+ℤ◌, ◌-ℤ◌, nat_abs, List, [], ◌∷◌, length, get_or, Option, None, Some}
use Rattle.tsp_audit.specs.declared.round_correction.{NodeState.NodeState, RoundCorrection.RoundCorrection}
use Rattle.tsp_audit.specs.{Changes.LeavesState, declared.agreement_tracker.AgreementTracker.AgreementTracker}
use Rattle.tsp_promises.specs.{Agreed.FromRound, Agreed.RightAfter, Agreed.Unchanged, Everywhere.Everywhere, Fits.node_of}
use Rattle.tsp_base.specs.Words.{HeaderValue, Line, dids, from_act, of, all_corrects, lives, moved, tick_at, width}
use Rattle.tsp_history.specs.{Clocks.IsSumOf, Histories.deed_of, Rounds.TripsTell, declared.line.HistoryLine.HistoryLine}
use Rattle.tsp_run.specs.Setup.{node_line}

-- each line's node is below this number
abbrev pub Numbered : ℕ → List Line → Type 0
Numbered count = Everywhere (λ l before. node_of l < count)

-- a Correct comes from a round: a Close of a master sent it, and these are its values
pub record FromRoundAs (l : Line) (h : List Line) (c : RoundCorrection) : Type 0 where
  pub close : Line
  pub cpast : List Line
  pub reading : Line
  pub older : List Line
  pub from_round : FromRound c.master close cpast l h reading older c.err
  pub at_is : c.at ≡ reading.did.step.at
  pub close_is : c.close ≡ length cpast
  pub lives_is : c.lives ≡ lives (dids (of c.master (close ∷ cpast)))
  pub corrects_is : c.corrects ≡ all_corrects (dids (of c.master (close ∷ cpast)))

-- a line is no Correct from a round
abbrev pub IsFromNoRound : Line → List Line → Type 0
IsFromNoRound l h = (m : ℕ) (close : Line) (cpast : List Line) (r : Line) (older : List Line) (err : ℤ) → FromRound m close cpast l h r older err → ⊥

-- a Correct of node n comes from this round, and n has neither booted nor corrected its clock since
pub record LiveAs (n : ℕ) (h : List Line) (c : RoundCorrection) : Type 0 where
  pub correct : Line
  pub past : List Line
  pub is : FromRoundAs correct past c
  pub node : node_of correct ≡ n
  pub unchanged : Unchanged n (correct ∷ past) h

-- a Correct of node n comes from this round, and n has neither booted nor corrected its clock since; none where there is no
-- such
abbrev pub LiveIs : ℕ → List Line → Option RoundCorrection → Type 0
LiveIs n h None = (correct : Line) (past : List Line) → node_of correct ≡ n → Unchanged n (correct ∷ past) h → IsFromNoRound correct past
LiveIs n h (Some c) = LiveAs n h c

-- the line at this index is the act right before node n's last Correct
pub record AfterAs (n : ℕ) (h : List Line) (index : ℕ) : Type 0 where
  pub act : Line
  pub apast : List Line
  pub index_is : index ≡ length apast
  pub after : RightAfter n act apast h

-- which act stands right before node n's last Correct; none where there is no such
abbrev pub AfterIs : ℕ → List Line → Option ℕ → Type 0
AfterIs n h None = (act : Line) (apast : List Line) → RightAfter n act apast h → ⊥
AfterIs n h (Some index) = AfterAs n h index

-- a list begins with the line at this index
pub record BeginsAt (h : List Line) (index : ℕ) : Type 0 where
  pub line : Line
  pub before : List Line
  pub is : h ≡ line ∷ before
  pub index_is : index ≡ length before

-- which line a list begins with; none where it is empty
abbrev pub FirstIs : List Line → Option ℕ → Type 0
FirstIs h None = h ≡ []
FirstIs h (Some index) = BeginsAt h index

-- what is remembered of node n is what a history comes to
pub record NodeIs (n : ℕ) (h : List Line) (s : NodeState) : Type 0 where
  pub moved_is : s.moved ≡ moved (dids (of n h))
  pub bounded : IsSumOf 4294967295 s.moved
  pub lives_is : s.lives ≡ lives (dids (of n h))
  pub corrects_is : s.corrects ≡ all_corrects (dids (of n h))
  pub after_is : AfterIs n h s.after
  pub correction_is : LiveIs n h s.from_round

-- this is the k-th of a list
pub record IsAtPlace (states : List NodeState) (k : ℕ) (s : NodeState) : Type 0 where
  pub below : k < length states
  pub is : get_or states k s ≡ s

-- what is remembered of each node is what a history comes to
abbrev pub AllAre : List Line → List NodeState → Type 0
AllAre h states = (n : ℕ) (s : NodeState) → IsAtPlace states n s → NodeIs n h s

-- a tracker of this many nodes stands for a history
pub record AgreementIs (count : ℕ) (h : List Line) (a : AgreementTracker) : Type 0 where
  pub few : count ≤ 64
  pub many : length a.nodes.items ≡ count
  pub lines : length a.trips.items ≡ length h
  pub trips_tell : TripsTell h a.trips.items
  pub last_is : FirstIs (from_act h) a.last
  pub nodes_are : AllAre h a.nodes.items

-- the clock of node n at a true time, by the sum of its corrections
abbrev pub shown_by : HeaderValue → ℕ → ℤ → ℕ → ℤ
shown_by header n moved at = ((node_line header n).wall +ℤ moved) +ℤ pos (tick_at (node_line header n).rate at)

-- the error of a round's reading, less what is to spare
abbrev pub err_less : ℕ → RoundCorrection → ℤ
err_less spare c = c.err -ℤ pos spare

-- two nodes that one Close corrected differ by at most their errors, each less what is to spare, and drift
abbrev pub PairNear : HeaderValue → ℕ → ℕ → ℕ → NodeState → RoundCorrection → ℕ → NodeState → RoundCorrection → Type 0
PairNear header t spare n a c k b d =
    pos (nat_abs (shown_by header n a.moved t -ℤ shown_by header k b.moved t)) ≤ℤ
    ((err_less spare c +ℤ err_less spare d) +ℤ pos (2 * width header.drift (t - c.at) + 2 * width header.drift (t - d.at)))

-- the same, where one Close corrected both
abbrev pub PairAgrees : HeaderValue → ℕ → ℕ → ℕ → NodeState → ℕ → NodeState → Type 0
PairAgrees header t spare n a k b = (c d : RoundCorrection) → a.from_round ≡ Some c → b.from_round ≡ Some d → c.master ≡ d.master → c.close ≡ d.close →
    PairNear header t spare n a c k b d

-- since the Close of a round its master has neither booted nor moved its clock, but by the Correct that is the next act
abbrev pub FromRoundStands : RoundCorrection → NodeState → Type 0
FromRoundStands c b = (c.lives ≡ b.lives) × ((c.corrects ≡ b.corrects) ⊎ (b.after ≡ Some c.close))

-- a node that a Close corrected and its master differ by at most the error, less what is to spare, and drift
abbrev pub MasterNearWithSpare : HeaderValue → ℕ → ℕ → ℕ → NodeState → RoundCorrection → NodeState → Type 0
MasterNearWithSpare header t spare n a c b = pos (nat_abs (shown_by header n a.moved t -ℤ shown_by header c.master b.moved t)) ≤ℤ
    (err_less spare c +ℤ pos (2 * width header.drift (t - c.at)))

-- the same, where the master was left alone since its Close, as `FromRoundStands` says
abbrev pub BossAgrees : HeaderValue → ℕ → ℕ → ℕ → NodeState → List NodeState → Type 0
BossAgrees header t spare n a states = (c : RoundCorrection) (b : NodeState) → a.from_round ≡ Some c → IsAtPlace states c.master b → FromRoundStands c b →
    MasterNearWithSpare header t spare n a c b

-- a node agrees with each that the same Close corrected, and with its master
pub record NodeAgrees (header : HeaderValue) (t spare n : ℕ) (a : NodeState) (states : List NodeState) : Type 0 where
  pub pairs : (k : ℕ) (b : NodeState) → IsAtPlace states k b → PairAgrees header t spare n a k b
  pub master : BossAgrees header t spare n a states

-- a node agrees with each up to itself that the same Close corrected
abbrev pub PairsAgree : HeaderValue → ℕ → ℕ → ℕ → NodeState → List NodeState → Type 0
PairsAgree header t spare n a states = (k : ℕ) (b : NodeState) → k ≤ n → IsAtPlace states k b → PairAgrees header t spare n a k b

-- a node agrees with each up to itself that the same Close corrected, and with its master
pub record AgreesBack (header : HeaderValue) (t spare n : ℕ) (a : NodeState) (states : List NodeState) : Type 0 where
  pub pairs : (k : ℕ) (b : NodeState) → k ≤ n → IsAtPlace states k b → PairAgrees header t spare n a k b
  pub master : BossAgrees header t spare n a states

-- each of these nodes agrees with all, with so many microseconds of each error to spare
abbrev pub AllAgree : HeaderValue → ℕ → ℕ → List NodeState → Type 0
AllAgree header t spare states = (n : ℕ) (a : NodeState) → IsAtPlace states n a → NodeAgrees header t spare n a states

-- the corrections of each of these nodes come to no more than 2^32 - 1 signed amounts of 64 bits can
abbrev pub AllBounded : List NodeState → Type 0
AllBounded states = (n : ℕ) (a : NodeState) → IsAtPlace states n a → IsSumOf 4294967295 a.moved

-- the reading by which a round corrected a node, if one did, is no later than a true time
abbrev pub IsReadBy : ℕ → NodeState → Type 0
IsReadBy t a = (c : RoundCorrection) → a.from_round ≡ Some c → c.at ≤ t

-- the same of each of these nodes
abbrev pub AllPast : ℕ → List NodeState → Type 0
AllPast t states = (n : ℕ) (a : NodeState) → IsAtPlace states n a → IsReadBy t a

-- clocks agree with so much to spare that they do from then on, as long as none is moved
pub record Settles (header : HeaderValue) (t : ℕ) (states : List NodeState) : Type 0 where
  pub past : AllPast t states
  pub agree : AllAgree header t 4 states

-- the true time at which clocks were seen to settle, with none moved since; none where they weren't
abbrev pub SettledAt : HeaderValue → Option ℕ → List NodeState → Type 0
SettledAt header None states = Unit {0}
SettledAt header (Some t) states = t ≤ 1000000000000000 → AllBounded states → Settles header t states

-- what was settled before a line is so after it, or nothing is; a line that moves a clock leaves nothing settled
abbrev pub StillSettled : HistoryLine → Option ℕ → Option ℕ → Type 0
StillSettled line was None = Unit {0}
StillSettled line was (Some t) = (was ≡ Some t) × LeavesState (deed_of line.act)

-- this many nodes of which nothing is known
pub record AreBlank (count : ℕ) (states : List NodeState) : Type 0 where
  pub many : length states ≡ count
  pub blank : (k : ℕ) (s : NodeState) → IsAtPlace states k s → (n : ℕ) → NodeIs n [] s
