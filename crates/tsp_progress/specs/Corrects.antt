-- What a master does at once when a round closes, and when a resolution ends.
use Rattle.std.specs.Prelude.{◌≡◌, ℕ, ◌-ℤ◌, ℤ, Bool, true, false, if◌then◌else◌, List, [], ◌∷◌, ◌++◌, None, Some, Option}
use Rattle.tsp_rules.specs.Values.{Act, Post, Leave, Ring, Abandon, AdjTime, SetTime, QuitKind, Message, PeerId, Peer, CloseAlarm, ResolveAlarm, SPAN}
use Rattle.tsp_rules.specs.{ClockRows.can_adjust, GateRows.leads_clock, Guards.rivals_at, Guards.target_at, NodeRows.NodePast}
use Rattle.tsp_rules.specs.RoundRows.{Standing, close_act, estimates, is_near, mean_by, round_at}
use Rattle.tsp_rules.specs.SendRows.{may_correct, may_set, next_number}
use Rattle.tsp_group.specs.{Groups.group_of, declared.group.Group.Group}
use Rattle.tsp_base.specs.Words.{Acts, Estimate, HeaderValue, Line, Past, Within, bare, grown, of, timed}
use Rattle.tsp_progress.specs.ByTable.{before_line, node_in, port_before}
use Rattle.tsp_progress.specs.Heeds.{DoesNext, moved_by}

-- an ADJTIME to p under this number
abbrev pub adjtime_to : PeerId → ℕ → ℤ → Past → Act
adjtime_to p number amount past = Post (Peer p) (Message (timed AdjTime number amount past.name))

-- a SETTIME to p under this number, to the clock's target
abbrev pub settime_to : PeerId → ℕ → ℕ → Past → Act
settime_to p number x past = Post (Peer p) (Message (timed SetTime number (target_at x past) past.name))

-- what a close with this mean does with a measured peer that answered so: one that never did leaves; one whose clock is near gets an ADJTIME under
-- the ticket that came with its best sample, to the mean; any other gets a SETTIME. None gets a correction that may not begin
abbrev pub corrected_by : ℤ → PeerId → Option Estimate → ℕ → Past → List Act
corrected_by mean p None x past = Leave p ∷ []
corrected_by mean p (Some b) x past =
    if is_near b.diff
    then (if may_correct p b.ticket x past then adjtime_to p b.ticket (mean -ℤ b.diff) past ∷ [] else [])
    else (if may_set p b.ticket x past then settime_to p b.ticket x past ∷ [] else [])

-- each of these is corrected so, one after the other
abbrev pub corrected_each : ℤ → List Standing → ℕ → Past → List Act
corrected_each mean [] x past = []
corrected_each mean (s ∷ rest) x past =
    corrected_by mean s.peer s.best x past ++ corrected_each mean rest x (grown x past (corrected_by mean s.peer s.best x past))

-- the own clock is moved by the mean, where this port leads it
abbrev pub moved_own : Bool → ℤ → ℕ → Past → List Act
moved_own true mean x past = moved_by mean x past ∷ []
moved_own false mean x past = []

-- a close of a round with this group, if the clock can be moved so: the Close, the own Correct, and what each measured peer gets
abbrev pub closed_with : Bool → Group → List Standing → ℕ → Past → List Act
closed_with own g round x past =
    let mean = mean_by own g in
    let closed = close_act own g ∷ moved_own own mean x (grown x past (close_act own g ∷ [])) in
    closed ++ corrected_each mean round x (grown x past closed)

-- else the round is given up
abbrev pub closed_or_not : Bool → Bool → Group → List Standing → ℕ → Past → List Act
closed_or_not true own g round x past = closed_with own g round x past
closed_or_not false own g round x past = Abandon ∷ []

-- when Close rings at the line, this comes next; the round is the measured peers with their best samples, and its group that of their differences
abbrev pub ClosesAt : NodePast → Line → List Line → List Line → Type 0
ClosesAt node l older lines =
    let past = port_before node l older in
    let x = l.did.tick in
    let own = leads_clock l.port x (before_line node l older) in
    let round = round_at x past in
    let g = group_of SPAN (estimates round) in
    let rung = grown x past (Ring CloseAlarm ∷ []) in
    DoesNext (closed_or_not (can_adjust (mean_by own g) x rung) own g round x rung) l older lines

-- a QUIT begins to each of these, one after the other
abbrev pub quits_to : List PeerId → ℕ → Past → List Act
quits_to [] x past = []
quits_to (p ∷ rest) x past =
    let quit = Post (Peer p) (Message (bare QuitKind (next_number x past) past.name)) in
    quit ∷ quits_to rest x (grown x past (quit ∷ []))

-- when a resolution ends at the line, a QUIT begins to each rival
abbrev pub ResolvesAt : NodePast → Line → List Line → List Line → Type 0
ResolvesAt node l older lines =
    let rung = grown l.did.tick (port_before node l older) (Ring ResolveAlarm ∷ []) in
    DoesNext (quits_to (rivals_at l.did.tick rung) l.did.tick rung) l older lines

-- so it is at each line of a node
pub record Corrects (node : NodePast) (lines : List Line) : Type 0 where
  pub closes : (l : Line) (older : List Line) → Within (l ∷ older) lines → l.did.deed ≡ Acts (Ring CloseAlarm) → ClosesAt node l older lines
  pub resolves : (l : Line) (older : List Line) → Within (l ∷ older) lines → l.did.deed ≡ Acts (Ring ResolveAlarm) → ResolvesAt node l older lines

-- of each node
abbrev pub AllCorrect : HeaderValue → List Line → Type 0
AllCorrect header world = (n : ℕ) → Corrects (node_in header n) (of n world)
