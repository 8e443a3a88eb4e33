-- What a master does at once when a round closes, and when a resolution ends, by the table.
use Rattle.std.proofs.Common.{sym, ap, subst, ◌∙◌, ◌≡◌, ℕ, ℤ, Bool, true, false, if◌then◌else◌, List, [], ◌∷◌, ◌++◌, Option, None, Some, refl}
use Rattle.tsp_rules.specs.Values.{Act, Ring, Late, Abandon, QuitKind, PeerId, CloseAlarm, ResolveAlarm, SPAN, Alarm}
use Rattle.tsp_base.specs.Words.{Acts, Estimate, HeaderValue, Line, Past, Within, either_by, for_each, grown, joined, line_of, nothing, of, placed, posts}
use Rattle.tsp_base.specs.Words.{posts_time, puts, reading, ◌followed_by◌}
use Rattle.tsp_rules.specs.{Answers.alarm_rings, ClockRows.adjusts, ClockRows.can_adjust, Guards.is_in_time, Guards.rivals_at, NodeRows.NodePast}
use Rattle.tsp_rules.specs.{ResolveRows.quits_rivals, ResolveRows.resolve_rings, GateRows.leads_clock}
use Rattle.tsp_rules.specs.RoundRows.{Standing, abandons, close_act, close_rings, closes, closes_with, corrects_by, corrects_peer, estimates, is_near, mean_by}
use Rattle.tsp_rules.specs.RoundRows.{moves, round_at}
use Rattle.tsp_rules.specs.SendRows.{begins, begins_adjtime, begins_settime}
use Rattle.tsp_group.specs.{Groups.group_of, declared.group.Group.Group}
use Rattle.tsp_progress.specs.ByTable.{ByTable, KeepsTable, TableAt, alarm_row, before_line, node_in, port_before}
use Rattle.tsp_progress.specs.Corrects.{AllCorrect, ClosesAt, ResolvesAt, closed_or_not, corrected_by, corrected_each, moved_own}
use Rattle.tsp_progress.specs.Corrects.{quits_to}
use Rattle.tsp_progress.specs.Corrects.{adjtime_to, settime_to}
use Rattle.tsp_rules.specs.SendRows.{may_correct, may_set, next_number}
use Rattle.tsp_rules.specs.Values.{Post, Message, Peer}
use Rattle.tsp_base.specs.Words.{bare}
use Rattle.std.proofs.Common.{◌-ℤ◌, inl, inr, arith}
use Rattle.tsp_base.proofs.PlaceLemmas.{Within_all, Within_comparable, Within_length, Within_through}
use Rattle.tsp_progress.specs.Heeds.{DoesNext}
use Rattle.tsp_progress.proofs.TableRows.{within_joined}

-- the rows put these acts

corrected_is : (mean : ℤ) (p : PeerId) (best : Option Estimate) (x : ℕ) (past : Past) → corrects_by mean p best x past ≡ corrected_by mean p best x past
unfolding corrects_by puts begins_adjtime begins_settime either_by posts_time reading nothing
corrected_is mean p None x past = refl
corrected_is mean p (Some b) x past = by_near (is_near b.diff) where
  by_near : (n : Bool) → (if n then begins_adjtime p b.ticket (mean -ℤ b.diff) else begins_settime p b.ticket) x past ≡
      (if n then (if may_correct p b.ticket x past then adjtime_to p b.ticket (mean -ℤ b.diff) past ∷ [] else [])
      else (if may_set p b.ticket x past then settime_to p b.ticket x past ∷ [] else []))
  by_near true = refl
  by_near false = refl

each_is : (mean : ℤ) (round : List Standing) (x : ℕ) (past : Past) → for_each (corrects_peer mean) round x past ≡ corrected_each mean round x past
unfolding for_each nothing ◌followed_by◌ corrects_peer
each_is mean [] x past = refl
each_is mean (s ∷ rest) x past =
    let one = corrected_is mean s.peer s.best x past in
    ap (λ acts. acts ++ for_each (corrects_peer mean) rest x (grown x past acts)) one
    ∙ ap (λ acts. corrected_by mean s.peer s.best x past ++ acts) (each_is mean rest x (grown x past (corrected_by mean s.peer s.best x past)))

moved_is : (own : Bool) (mean : ℤ) (x : ℕ) (past : Past) → moves own mean x past ≡ moved_own own mean x past
unfolding moves adjusts nothing
moved_is true mean x past = refl
moved_is false mean x past = refl

closed_is : (own : Bool) (g : Group) (round : List Standing) (x : ℕ) (past : Past) →
    closes_with own g round x past ≡ closed_or_not (can_adjust (mean_by own g) x past) own g round x past
unfolding closes_with either_by puts ◌followed_by◌ abandons
closed_is own g round x past = by_can (can_adjust (mean_by own g) x past) where
  by_can : (b : Bool) →
      (if b
      then (puts (close_act own g) followed_by (moves own (mean_by own g) followed_by for_each (corrects_peer (mean_by own g)) round)) x past
      else abandons x past) ≡ closed_or_not b own g round x past
  by_can true =
      let mean = mean_by own g in
      let after = grown x past (close_act own g ∷ []) in
      ap (λ acts. close_act own g ∷ (acts ++ for_each (corrects_peer mean) round x (grown x after acts))) (moved_is own mean x after)
      ∙ ap (λ acts. close_act own g ∷ (moved_own own mean x after ++ acts)) (each_is mean round x (grown x after (moved_own own mean x after)))
  by_can false = refl

quits_is : (ps : List PeerId) (x : ℕ) (past : Past) → for_each (begins QuitKind) ps x past ≡ quits_to ps x past
unfolding for_each nothing ◌followed_by◌ begins reading posts
quits_is [] x past = refl
quits_is (p ∷ rest) x past =
    let quit = Post (Peer p) (Message (bare QuitKind (next_number x past) past.name)) in
    ap (λ acts. quit ∷ acts) (quits_is rest x (grown x past (quit ∷ [])))

-- an alarm that rings was in time

-- two lines after the same lines are one
pub same_place : (a b : Line) (s h : List Line) → Within (a ∷ s) h → Within (b ∷ s) h → a ≡ b
same_place a b s h v w = elim (Within_comparable (a ∷ s) (b ∷ s) h v w) [
  | inl e ↦ one a b e
  | inr e ↦ sym (one b a e)
] where
  first : Line → List Line → Line
  first k [] = k
  first k (l ∷ rest) = l

  one : (c d : Line) → Within (c ∷ s) (d ∷ s) → c ≡ d
  one c d (inl e) = ap (first c) e
  one c d (inr e) = let le = Within_length (c ∷ s) s e in let bad : ⊥ = omega (arith, le) in absurd bad

module _ (node : NodePast) (lines : List Line) (table : KeepsTable node lines) (l : Line) (older : List Line) (place : Within (l ∷ older) lines) where
  x : ℕ
  x = l.did.tick

  past : Past
  past = port_before node l older

  -- the acts that stand from the line on, the first of which is the line's
  abbrev pub Stands : List Act → Type 0
  Stands acts = Within (joined l.did.step l.did.tick (placed l.port acts) older) lines

  head_is : (cue : Act) (rest : List Act) → Stands (cue ∷ rest) → l ≡ line_of l.did.step l.did.tick l.port (Acts cue)
  head_is cue rest w = same_place l (line_of l.did.step l.did.tick l.port (Acts cue)) older lines place
      (Within_through (line_of l.did.step l.did.tick l.port (Acts cue) ∷ older) (joined l.did.step l.did.tick (placed l.port (cue ∷ rest)) older) lines
      (within_joined l.did.step l.did.tick (placed l.port rest) (line_of l.did.step l.did.tick l.port (Acts cue) ∷ older)
      (line_of l.did.step l.did.tick l.port (Acts cue) ∷ older) (Within_all (line_of l.did.step l.did.tick l.port (Acts cue) ∷ older))) w)

  -- what comes after it
  pub rest_stands : (cue : Act) (rest : List Act) → Stands (cue ∷ rest) → DoesNext rest l older lines
  rest_stands cue rest w = subst (λ k. Within (joined l.did.step l.did.tick (placed l.port rest) (k ∷ older)) lines) (sym (head_is cue rest w)) w

  pub late_no : {A : Type 0} (a b : Alarm) (rest : List Act) → l.did.deed ≡ Acts (Ring a) → Stands (Late b ∷ rest) → A
  late_no a b rest ring w =
      let is : Acts (Ring a) ≡ Acts (Late b) = sym ring ∙ ap (λ (k : Line). k.did.deed) (head_is (Late b) rest w) in
      let bad : ⊥ = cc in absurd bad

  pub row_stands : (a : Alarm) → l.did.deed ≡ Acts (Ring a) → Stands (alarm_row node l older a l.did.tick (port_before node l older))
  row_stands a ring = subst (λ d. TableAt d node l older lines) ring (table l older place)

  pub closes_at : l.did.deed ≡ Acts (Ring CloseAlarm) → ClosesAt node l older lines
  unfolding alarm_rings close_rings either_by reading closes puts ◌followed_by◌ abandons
  closes_at ring = by_time (is_in_time CloseAlarm l.did.tick (port_before node l older)) (row_stands CloseAlarm ring) where
    own : Bool
    own = leads_clock l.port l.did.tick (before_line node l older)

    by_time : (b : Bool) → Stands (if b then reading round_at (closes own) l.did.tick (port_before node l older) else
        (puts (Late CloseAlarm) followed_by abandons) l.did.tick
        (port_before node l older)) →
        ClosesAt node l older lines
    by_time true w =
        let round = round_at l.did.tick (port_before node l older) in
        let g = group_of SPAN (estimates round) in
        let rung = grown l.did.tick (port_before node l older) (Ring CloseAlarm ∷ []) in
        subst (λ acts. DoesNext acts l older lines) (closed_is own g round l.did.tick rung)
        (rest_stands (Ring CloseAlarm) (closes_with own g round l.did.tick rung) w)
    by_time false w = late_no CloseAlarm CloseAlarm (Abandon ∷ []) ring w

  pub resolves_at : l.did.deed ≡ Acts (Ring ResolveAlarm) → ResolvesAt node l older lines
  unfolding alarm_rings resolve_rings either_by quits_rivals reading puts ◌followed_by◌
  resolves_at ring = by_time (is_in_time ResolveAlarm l.did.tick (port_before node l older)) (row_stands ResolveAlarm ring) where
    by_time : (b : Bool) → Stands (if b then (puts (Ring ResolveAlarm) followed_by quits_rivals) l.did.tick (port_before node l older) else puts
        (Late ResolveAlarm) l.did.tick
        (port_before node l older)) →
        ResolvesAt node l older lines
    by_time true w =
        let rung = grown l.did.tick (port_before node l older) (Ring ResolveAlarm ∷ []) in
        subst (λ acts. DoesNext acts l older lines) (quits_is (rivals_at l.did.tick rung) l.did.tick rung)
        (rest_stands (Ring ResolveAlarm) (for_each (begins QuitKind) (rivals_at l.did.tick rung) l.did.tick rung) w)
    by_time false w = late_no ResolveAlarm ResolveAlarm [] ring w

-- wherever the table is kept
pub all_correct : (header : HeaderValue) (world : List Line) → ByTable header world → AllCorrect header world
all_correct header world table n = record {
  closes = λ l older place ring. closes_at (node_in header n) (of n world) (table n) l older place ring;
  resolves = λ l older place ring. resolves_at (node_in header n) (of n world) (table n) l older place ring;
}
