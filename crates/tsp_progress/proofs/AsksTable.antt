-- A round asks each peer in the slave table, after it began.
use Rattle.std.proofs.Common.{sym, ap, subst, true≢false, ◌∙◌, ◌≡◌, ◌||◌, ℕ, ◌==◌, ◌+◌, ◌%◌, ◌^◌, if◌then◌else◌, Bool, true, false, List, [], ◌∷◌, ◌++◌, map}
use Rattle.std.proofs.Common.{refl}
use Rattle.tsp_rules.specs.Values.{Act, Arm, Ring, Late, Round, Probe, CloseAlarm, Post, Stamp, Request, Peer, PeerId, Place, Datagram, MasterUp}
use Rattle.tsp_rules.specs.Values.{CLOSE, PROBE, ROUND}
use Rattle.tsp_rules.specs.{Answers.alarm_rings, GateRows.waits, Guards.is_in_time, Guards.table_at, NodeRows.NodePast}
use Rattle.tsp_rules.specs.RoundRows.{asks, asks_slaves, begins_or_waits, round_begins, round_rings}
use Rattle.tsp_rules.proofs.GuardFacts.{same_peer}
use Rattle.tsp_base.specs.Words.{Acts, Line, Past, Step, Within, arms, asked, either_by, first_port, for_each, grown, in_table, is_among, is_starting}
use Rattle.tsp_base.specs.Words.{joined, line_of, nothing, others, placed, plain, post_of, posts_to_others, puts, reading, started, view, word, ◌followed_by◌}
use Rattle.tsp_progress.specs.ByTable.{KeepsTable, before_line, port_before}
use Rattle.tsp_progress.specs.{Heeds.DoesNext}
use Rattle.tsp_progress.proofs.CorrectsProof.{Stands, late_no, rest_stands, row_stands}
use Rattle.tsp_progress.proofs.RivalsQuitProof.{among_filter}

-- each of these acts posts something
abbrev pub AllPost : List Act → Type 0
AllPost [] = Unit {0}
AllPost (a ∷ rest) = ((to : Place) × ((d : Datagram) × (a ≡ Post to d))) × AllPost rest

all_append : (xs ys : List Act) → AllPost xs → AllPost ys → AllPost (xs ++ ys)
all_append [] ys p q = q
all_append (a ∷ xs) ys p q = (p.0, all_append xs ys p.1 q)

all_told : (name : List ℕ) (ps : List PeerId) → AllPost (map (post_of MasterUp 0 name) ps)
all_told name [] = tt
all_told name (p ∷ ps) = ((Peer p, (_, refl)), all_told name ps)

-- a post leaves the table, and the beginning of the round, alone
told_table : (p : PeerId) (x : ℕ) (past : Past) (name : List ℕ) (ps : List PeerId) →
    in_table p (grown x past (map (post_of MasterUp 0 name) ps)).seen ≡ in_table p past.seen
told_table p x past name [] = refl
told_table p x past name (q ∷ ps) = told_table p x (grown x past (post_of MasterUp 0 name q ∷ [])) name ps

pub posts_keep : (step : Step) (x : ℕ) (acts : List Act) (lines : List Line) → AllPost acts →
    (started (view first_port (joined step x (placed first_port acts) lines)) ≡ started (view first_port lines)) ×
    (is_starting (view first_port (joined step x (placed first_port acts) lines)) ≡ is_starting (view first_port lines))
posts_keep step x [] lines all = (refl, refl)
posts_keep step x (a ∷ rest) lines all =
    let here = all.0.1.1 in
    let more = posts_keep step x rest (line_of step x first_port (Acts a) ∷ lines) all.1 in
    let one : started (view first_port (line_of step x first_port (Acts a) ∷ lines)) ≡ started (view first_port lines) = rw here refl in
    let two : is_starting (view first_port (line_of step x first_port (Acts a) ∷ lines)) ≡ is_starting (view first_port lines) = rw here refl in
    (more.0 ∙ one, more.1 ∙ two)

-- a request to p among those to all of these
record AskedIn (p : PeerId) (acts : List Act) : Type 0 where
  pub word : ℕ
  pub counter : ℕ
  pub front : List Act
  pub back : List Act
  pub is : acts ≡ front ++ Post (Peer p) (Stamp (Request word counter)) ∷ back
  pub posts : AllPost front

asked_in : (p : PeerId) (ps : List PeerId) (x : ℕ) (past : Past) → is_among p ps ≡ true → AskedIn p (for_each asks ps x past)
unfolding for_each nothing asks ◌followed_by◌
asked_in p [] x past member = absurd (true≢false (sym member))
asked_in p (q ∷ rest) x past member = by_case (q.0 == p.0) refl member (λ k. asked_in p rest x (grown x past (asks q x past)) k) where
  by_case : (b : Bool) → (q.0 == p.0) ≡ b → (b || is_among p rest) ≡ true →
      (is_among p rest ≡ true → AskedIn p (for_each asks rest x (grown x past (asks q x past)))) → AskedIn p (for_each asks (q ∷ rest) x past)
  by_case true e m more = subst (λ (z : PeerId). AskedIn z (for_each asks (q ∷ rest) x past)) (same_peer q p e) (record {
    word = word (plain past.seen);
    counter = asked past.seen % 2 ^ 64;
    front = [];
    back = for_each asks rest x (grown x past (asks q x past));
    is = refl;
    posts = tt;
  })
  by_case false e m more =
      let k = more m in
      record {
        word = k.word;
        counter = k.counter;
        front = Post (Peer q) (Stamp (Request (word (plain past.seen)) (asked past.seen % 2 ^ 64))) ∷ k.front;
        back = k.back;
        is = ap (λ acts. Post (Peer q) (Stamp (Request (word (plain past.seen)) (asked past.seen % 2 ^ 64))) ∷ acts) k.is;
        posts = ((Peer q, (_, refl)), k.posts);
      }

-- what a round begins with, and the request to p
pub record BegunWith (p : PeerId) (x : ℕ) (acts : List Act) : Type 0 where
  pub word : ℕ
  pub counter : ℕ
  pub front : List Act
  pub back : List Act
  pub is : acts ≡ (Arm Round (x + ROUND) ∷ Arm Probe (x + PROBE) ∷ Arm CloseAlarm (x + CLOSE) ∷ front) ++ Post (Peer p) (Stamp (Request word counter)) ∷ back
  pub posts : AllPost front

append_assoc : (xs ys zs : List Act) → (xs ++ ys) ++ zs ≡ xs ++ (ys ++ zs)
append_assoc [] ys zs = refl
append_assoc (x ∷ xs) ys zs = ap (λ rest. x ∷ rest) (append_assoc xs ys zs)

pub round_asks : (x : ℕ) (past : Past) (p : PeerId) → is_among p past.peers ≡ true → in_table p past.seen ≡ true → BegunWith p x (round_begins x past)
unfolding round_begins arms posts_to_others ◌followed_by◌ asks_slaves reading
round_asks x past p member there =
    let arming = Arm Round (x + ROUND) ∷ Arm Probe (x + PROBE) ∷ Arm CloseAlarm (x + CLOSE) ∷ [] in
    let armed = grown x past arming in
    let told = map (post_of MasterUp 0 past.name) (others past.own past.peers) in
    let after = grown x armed told in
    let here : in_table p after.seen ≡ true = told_table p x armed past.name (others past.own past.peers) ∙ there in
    let a = asked_in p (table_at x after) x after (among_filter (λ z. in_table z after.seen) p past.peers member here) in
    record {
      word = a.word;
      counter = a.counter;
      front = told ++ a.front;
      back = a.back;
      is = ap (λ acts. Arm Round (x + ROUND) ∷ Arm Probe (x + PROBE) ∷ Arm CloseAlarm (x + CLOSE) ∷ acts)
          (ap (λ acts. told ++ acts) a.is ∙ sym (append_assoc told a.front (Post (Peer p) (Stamp (Request a.word a.counter)) ∷ a.back)));
      posts = all_append told a.front (all_told past.name (others past.own past.peers)) a.posts;
    }

-- when Round rings at the line, and no other port makes it wait, a round begins
module _ (node : NodePast) (lines : List Line) (table : KeepsTable node lines) (l : Line) (older : List Line) (place : Within (l ∷ older) lines) where
  abbrev pub Rung : Past
  Rung = grown l.did.tick (port_before node l older) (Ring Round ∷ [])

  pub begins : l.did.deed ≡ Acts (Ring Round) → waits l.port l.did.tick (before_line node l older) ≡ false →
      DoesNext (round_begins l.did.tick Rung) l older lines
  unfolding alarm_rings round_rings either_by puts ◌followed_by◌ begins_or_waits
  begins ring alone = by_time (is_in_time Round l.did.tick (port_before node l older)) (row_stands node lines table l older place Round ring) where
    wait : Bool
    wait = waits l.port l.did.tick (before_line node l older)

    by_time : (b : Bool) → Stands node lines table l older place (if b then (puts (Ring Round) followed_by begins_or_waits wait) l.did.tick
        (port_before node l older) else (puts (Late Round) followed_by arms Round ROUND) l.did.tick (port_before node l older)) →
        DoesNext (round_begins l.did.tick Rung) l older lines
    by_time true w = subst (λ b. DoesNext (begins_or_waits b l.did.tick Rung) l older lines) alone
        (rest_stands node lines table l older place (Ring Round) (begins_or_waits wait l.did.tick Rung) w)
    by_time false w = late_no node lines table l older place Round Round
        (arms Round ROUND l.did.tick (grown l.did.tick (port_before node l older) (Late Round ∷ []))) ring w
