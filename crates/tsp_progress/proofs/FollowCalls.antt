-- A master that is looked at in time calls each other member of its network again and again.
use Rattle.std.proofs.Common.{sym, ap, subst, arith, true≢false, inl, inr, ◌∙◌, ◌≡◌, ◌≤◌, ◌<◌, ◌⊎◌, ◌||◌, ℕ, ◌+◌, ◌==◌, not, Bool, true, false, List, []}
use Rattle.std.proofs.Common.{◌∷◌, ◌++◌, map, if◌then◌else◌, eq-eqb, eqb-true, refl}
use Rattle.std.proofs.lemmas.Bool.{cases_lt}
use Rattle.tsp_rules.specs.Values.{Act, Boot, Arm, Ring, Late, Alarm, Round, Probe, CloseAlarm, MasterUp, PeerId}
use Rattle.tsp_rules.specs.Values.{PROBE, CLOSE, ROUND}
use Rattle.tsp_rules.specs.{Answers.alarm_rings, GateRows.waits, Guards.is_in_time, NodeRows.NodePast}
use Rattle.tsp_rules.specs.RoundRows.{asks_slaves, begins_or_waits, round_begins, round_rings}
use Rattle.tsp_rules.proofs.GuardFacts.{same_peer}
use Rattle.tsp_base.specs.Words.{Acts, Begins, Deed, Did, Elsewhere, Here, Line, Past, Seen, Step, Within, arms, dids, either_by, grown}
use Rattle.tsp_base.specs.Words.{is_among, joined, line_of, of, others, placed, post_of, posts_to_others, puts, time_of}
use Rattle.tsp_base.specs.Words.{◌followed_by◌}
use Rattle.tsp_base.proofs.PlaceLemmas.{Within_all, Within_through}
use Rattle.tsp_promises.specs.{Fits.Fits, Fits.SameStep, Fits.node_of, Setting.Setting}
use Rattle.tsp_promises.proofs.{shared.HistoryPlaces.of_other}
use Rattle.tsp_progress.specs.ByTable.{KeepsTable, TableAt, before_line, port_before}
use Rattle.tsp_progress.specs.{Heeds.DoesNext, InTime.last_arm, InTime.last_arm_after, InTime.is_alarm}
use Rattle.tsp_progress.proofs.{CorrectsProof.same_place, InTimeProof.same_alarm, TableRows.within_joined}
use Rattle.tsp_progress.proofs.WorldPlaces.{Among}

-- a message to another peer among those to all of them
pub record ToldIn (name : List ℕ) (p : PeerId) (acts : List Act) : Type 0 where
  pub front : List Act
  pub back : List Act
  pub is : acts ≡ front ++ post_of MasterUp 0 name p ∷ back

pub told_in : (name : List ℕ) (p own : PeerId) (ps : List PeerId) → is_among p ps ≡ true → (p.0 == own.0) ≡ false →
    ToldIn name p (map (post_of MasterUp 0 name) (others own ps))
told_in name p own [] member other = absurd (true≢false (sym member))
told_in name p own (q ∷ rest) member other = by_case (q.0 == p.0) refl (λ m. told_in name p own rest m other) member where
  more : (b : Bool) → ToldIn name p (map (post_of MasterUp 0 name) (others own rest)) →
      ToldIn name p (map (post_of MasterUp 0 name) (if b then q ∷ others own rest else others own rest))
  more true a = record { front = post_of MasterUp 0 name q ∷ a.front; back = a.back; is = ap (λ acts. post_of MasterUp 0 name q ∷ acts) a.is }
  more false a = a

  by_case : (b : Bool) → (q.0 == p.0) ≡ b → (is_among p rest ≡ true → ToldIn name p (map (post_of MasterUp 0 name) (others own rest))) →
      (b || is_among p rest) ≡ true → ToldIn name p (map (post_of MasterUp 0 name) (others own (q ∷ rest)))
  by_case true same k m =
      let is : q ≡ p = same_peer q p same in
      let keep : not (q.0 == own.0) ≡ true = rw (eqb-true q.0 p.0 same, other) refl in
      rw keep (record {
        front = [];
        back = map (post_of MasterUp 0 name) (others own rest);
        is = ap (λ z. post_of MasterUp 0 name z ∷ map (post_of MasterUp 0 name) (others own rest)) is;
      })
  by_case false differs k m = more (not (q.0 == own.0)) (k m)

append_assoc : (a b c : List Act) → (a ++ b) ++ c ≡ a ++ (b ++ c)
append_assoc [] b c = refl
append_assoc (x ∷ a) b c = ap (λ r. x ∷ r) (append_assoc a b c)

-- when Round rings, and doesn't wait, this comes next: the next ones are armed, MASTERUP goes to each other peer, and then something else
pub record RoundActs (node : NodePast) (l : Line) (older lines : List Line) : Type 0 where
  pub rest : List Act
  pub next : DoesNext (Arm Round (l.did.tick + ROUND) ∷ Arm Probe (l.did.tick + PROBE) ∷ Arm CloseAlarm (l.did.tick + CLOSE) ∷
      (map (post_of MasterUp 0 (port_before node l older).name) (others (port_before node l older).own (port_before node l older).peers) ++ rest)) l older lines

module _ (node : NodePast) (lines : List Line) (table : KeepsTable node lines) (l : Line) (older : List Line) (place : Within (l ∷ older) lines)
    (ring : l.did.deed ≡ Acts (Ring Round)) where
  abbrev Stands : List Act → Type 0
  Stands acts = Within (joined l.did.step l.did.tick (placed l.port acts) older) lines

  head_is : (cue : Act) (rest : List Act) → Stands (cue ∷ rest) → l ≡ line_of l.did.step l.did.tick l.port (Acts cue)
  head_is cue rest w = same_place l (line_of l.did.step l.did.tick l.port (Acts cue)) older lines place
      (Within_through (line_of l.did.step l.did.tick l.port (Acts cue) ∷ older) (joined l.did.step l.did.tick (placed l.port (cue ∷ rest)) older) lines
      (within_joined l.did.step l.did.tick (placed l.port rest) (line_of l.did.step l.did.tick l.port (Acts cue) ∷ older)
      (line_of l.did.step l.did.tick l.port (Acts cue) ∷ older) (Within_all (line_of l.did.step l.did.tick l.port (Acts cue) ∷ older))) w)

  rest_stands : (cue : Act) (rest : List Act) → Stands (cue ∷ rest) → DoesNext rest l older lines
  rest_stands cue rest w = subst (λ k. Within (joined l.did.step l.did.tick (placed l.port rest) (k ∷ older)) lines) (sym (head_is cue rest w)) w

  late_no : {A : Type 0} (rest : List Act) → Stands (Late Round ∷ rest) → A
  late_no rest w =
      let is : Acts (Ring Round) ≡ Acts (Late Round) = sym ring ∙ ap (λ (k : Line). k.did.deed) (head_is (Late Round) rest w) in
      let bad : ⊥ = cc in absurd bad

  There : Past
  There = port_before node l older

  pub round_acts : waits l.port l.did.tick (before_line node l older) ≡ false → RoundActs node l older lines
  unfolding alarm_rings round_rings either_by begins_or_waits round_begins arms puts posts_to_others ◌followed_by◌
  round_acts none = by_time (is_in_time Round l.did.tick (port_before node l older))
      (subst (λ d. TableAt d node l older lines) ring (table l older place)) where
        past : Past
        past = port_before node l older

        x : ℕ
        x = l.did.tick

        by_wait : (b : Bool) → b ≡ false → Stands ((puts (Ring Round) followed_by begins_or_waits b) l.did.tick (port_before node l older)) →
            RoundActs node l older lines
        by_wait true e w = absurd (true≢false e)
        by_wait false e w =
            let name = (port_before node l older).name in
            let calls = map (post_of MasterUp 0 name) (others (port_before node l older).own (port_before node l older).peers) in
            let before = Ring Round ∷ Arm Round (l.did.tick + ROUND) ∷ Arm Probe (l.did.tick + PROBE) ∷ Arm CloseAlarm (l.did.tick + CLOSE) ∷ [] in
            let asks = asks_slaves l.did.tick (grown l.did.tick (grown l.did.tick (port_before node l older) before) calls) in
            record {
              rest = asks;
              next = rest_stands (Ring Round) (Arm Round (l.did.tick + ROUND) ∷ Arm Probe (l.did.tick + PROBE) ∷ Arm CloseAlarm (l.did.tick + CLOSE) ∷
                  (calls ++ asks)) w;
            }

        by_time : (b : Bool) → Stands (if b then (puts (Ring Round) followed_by begins_or_waits (waits l.port l.did.tick (before_line node l older))) l.did.tick
            (port_before node l older) else (puts (Late Round) followed_by arms Round ROUND) l.did.tick (port_before node l older)) →
            RoundActs node l older lines
        by_time true w = by_wait (waits l.port l.did.tick (before_line node l older)) none w
        by_time false w = late_no (Arm Round (l.did.tick + ROUND) ∷ []) w

-- the call among them
pub call_among : (node : NodePast) (l : Line) (older lines : List Line) (r : RoundActs node l older lines) (p : PeerId) →
    is_among p (port_before node l older).peers ≡ true → (p.0 == (port_before node l older).own.0) ≡ false →
    Among (post_of MasterUp 0 (port_before node l older).name p) (Arm Round (l.did.tick + ROUND) ∷ Arm Probe (l.did.tick + PROBE) ∷
    Arm CloseAlarm (l.did.tick + CLOSE) ∷
    (map (post_of MasterUp 0 (port_before node l older).name) (others (port_before node l older).own (port_before node l older).peers) ++ r.rest))
call_among node l older lines r p member other =
    let past = port_before node l older in
    let t = told_in past.name p past.own past.peers member other in
    record {
      front = Arm Round (l.did.tick + ROUND) ∷ Arm Probe (l.did.tick + PROBE) ∷ Arm CloseAlarm (l.did.tick + CLOSE) ∷ t.front;
      back = t.back ++ r.rest;
      is = ap (λ acts. Arm Round (l.did.tick + ROUND) ∷ Arm Probe (l.did.tick + PROBE) ∷ Arm CloseAlarm (l.did.tick + CLOSE) ∷ acts)
          (ap (λ acts. acts ++ r.rest) t.is ∙ append_assoc t.front (post_of MasterUp 0 past.name p ∷ t.back) r.rest);
    }

-- a place where an alarm was armed last
pub record LastArm (a : Alarm) (d : Did) (idle seen : List Seen) : Type 0 where
  pub place : Within (Here d ∷ idle) seen
  pub at : ℕ
  pub deed : d.deed ≡ Acts (Arm a at)

pub last_arm_at : (a : Alarm) (seen : List Seen) (d : Did) (idle : List Seen) → last_arm a seen ≡ Here d ∷ idle → LastArm a d idle seen
last_arm_at a [] d idle e = let bad : ⊥ = cc in absurd bad
last_arm_at a (Elsewhere k ∷ before) d idle e = let o = last_arm_at a before d idle e in record { place = inr o.place; at = o.at; deed = o.deed }
last_arm_at a (Here k ∷ before) d idle e = by_deed k.deed refl e (λ e. let o = last_arm_at a before d idle e in
    record { place = inr o.place; at = o.at; deed = o.deed }) where
      by_arm : (b : Alarm) (at : ℕ) → k.deed ≡ Acts (Arm b at) → (same : Bool) → is_alarm a b ≡ same →
          (if same then Here k ∷ before else last_arm a before) ≡ Here d ∷ idle → (last_arm a before ≡ Here d ∷ idle → LastArm a d idle (Here k ∷ before)) →
          LastArm a d idle (Here k ∷ before)
      by_arm b at is true s e older =
          let own : k ≡ d = cc in
          record { place = inl (sym e); at = at; deed = ap (λ (j : Did). j.deed) (sym own) ∙ is ∙ ap (λ c. Acts (Arm c at)) (sym (same_alarm a b s)) }
      by_arm b at is false s e older = older e

      by_deed : (deed : Deed) → k.deed ≡ deed → last_arm_after a deed (Here k ∷ before) (last_arm a before) ≡ Here d ∷ idle →
          (last_arm a before ≡ Here d ∷ idle → LastArm a d idle (Here k ∷ before)) → LastArm a d idle (Here k ∷ before)
      by_deed (Acts Boot) is e older = let bad : ⊥ = cc in absurd bad
      by_deed (Acts (Arm b at)) is e older = by_arm b at is (is_alarm a b) refl e older
      by_deed _ is e older = older e

-- a history up to a true time: node c isn't in a step there
pub record Cut (c time : ℕ) (R : List Line → Type 0) (world : List Line) : Type 0 where
  pub h : List Line
  pub within : Within h world
  pub upto : time_of (dids h) ≤ time
  pub all : (k : Line) (w : List Line) → Within (k ∷ w) world → k.did.step.at ≤ time → Within (k ∷ w) h
  pub holds : R (of c h)

-- the newest line is of node c, and later
Ahead : ℕ → ℕ → List Line → Type 0
Ahead c time [] = ⊥
Ahead c time (k ∷ w) = (time < k.did.step.at) × (node_of k ≡ c)

cut_from : (setting : Setting) (c time : ℕ) (R : List Line → Type 0) (world : List Line) → Fits setting world →
    ((k : Line) (w : List Line) → Within (k ∷ w) world → k.did.deed ≡ Begins → node_of k ≡ c → time < k.did.step.at → R (of c w)) →
    R (of c world) ⊎ Ahead c time world → Cut c time R world
unfolding Ahead
cut_from setting c time R [] f marks (inl r) = record { h = []; within = refl; upto = omega arith; all = λ k w v e. v; holds = r }
cut_from setting c time R [] f marks (inr a) = absurd a
cut_from setting c time R (k ∷ rest) f marks start = elim (cases_lt time k.did.step.at) [
  | inl later ↦
      let o = cut_from setting c time R rest f.1 (λ j w v. marks j w (inr v)) (before later) in
      record {
        h = o.h;
        within = inr o.within;
        upto = o.upto;
        all = λ j w v e. elim v [
          | inl same ↦ let own : j ≡ k = cc in let time = ap (λ (z : Line). z.did.step.at) own in absurd (omega (arith, time, later, e))
          | inr u ↦ o.all j w u e
        ];
        holds = o.holds;
      }
  | inr none ↦ record {
    h = k ∷ rest;
    within = Within_all (k ∷ rest);
    upto = omega (arith, none);
    all = λ j w v e. v;
    holds = elim start [
      | inl r ↦ r
      | inr a ↦ let late = a.0 in absurd (omega (arith, none, late))
    ];
  }
] where
  by_step : (a : Act) (lines : List Line) → SameStep (Acts a) k.did.step (dids lines) → node_of k ≡ c → time < k.did.step.at → Ahead c time lines
  by_step a [] s node later = absurd s
  by_step a (j ∷ w) s node later = (subst (λ (z : Step). time < z.at) (sym s) later, ap (λ (z : Step). z.node) s ∙ node)

  before : time < k.did.step.at → R (of c rest) ⊎ Ahead c time rest
  before later = by_node (node_of k == c) refl where
    by_deed : (deed : Deed) → k.did.deed ≡ deed → node_of k ≡ c → R (of c rest) ⊎ Ahead c time rest
    by_deed Begins is node = inl (marks k rest (inl refl) is node later)
    by_deed (Acts a) is node = inr (by_step a rest (subst (λ d. SameStep d k.did.step (dids rest)) is f.0.step) node later)

    by_node : (b : Bool) → (node_of k == c) ≡ b → R (of c rest) ⊎ Ahead c time rest
    by_node true e = by_deed k.did.deed refl (eqb-true (node_of k) c e)
    by_node false e = elim start [
      | inl r ↦ inl (subst R (of_other c k rest e) r)
      | inr a ↦ absurd (true≢false (sym (eq-eqb (node_of k) c a.1) ∙ e))
    ]

pub cut : (setting : Setting) (c time : ℕ) (R : List Line → Type 0) (world : List Line) → Fits setting world →
    ((k : Line) (w : List Line) → Within (k ∷ w) world → k.did.deed ≡ Begins → node_of k ≡ c → time < k.did.step.at → R (of c w)) →
    R (of c world) → Cut c time R world
cut setting c time R world f marks r = cut_from setting c time R world f marks (inl r)
