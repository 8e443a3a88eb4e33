-- Who stands for election backs itself, and asks each other member of its network for its vote, in the same step.
use Rattle.std.proofs.Common.{sym, ap, subst, arith, true≢false, inl, inr, ◌∙◌, ◌≡◌, ◌≢◌, ℕ, ◌+◌, ◌==◌, ◌||◌, not, Bool, true, false}
use Rattle.std.proofs.Common.{if◌then◌else◌, List, [], ◌∷◌, ◌++◌, length, eqb-true, refl}
use Rattle.std.proofs.lemmas.Bool.{and_parts, or_right}
use Rattle.tsp_rules.specs.Values.{Act, Arm, Back, Become, Elect, Late, Loose, Post, Ring, Search, Window, Candidate, Datagram, Election, Good, MasterReq}
use Rattle.tsp_rules.specs.Values.{Message}
use Rattle.tsp_rules.specs.Values.{PeerId, Peer, Place, Port, Test, WINDOW}
use Rattle.tsp_rules.specs.Answers.{alarm_rings}
use Rattle.tsp_rules.specs.CommonRows.{arms_elect, backs_own, candidature_row, searches}
use Rattle.tsp_rules.specs.Guards.{follows_at, is_in_time, may_stand_at}
use Rattle.tsp_rules.specs.SendRows.{begins, begins_to_others, next_number}
use Rattle.tsp_rules.specs.SlaveRows.{elect_rings, loosens}
use Rattle.tsp_rules.proofs.{GuardFacts.same_peer, NodeRowLemmas.view_own}
use Rattle.tsp_base.specs.Words.{Acts, Booted, Came, Cause, Did, Elsewhere, Handed, HeaderValue, Here, Line, MessageValue, Past, Seen, Step, Turned, Within}
use Rattle.tsp_base.specs.Words.{acting}
use Rattle.tsp_base.specs.Words.{added, arms, bare, either_by, for_each, grown, is_among, joined, nothing, of, others, peer_of, placed, posts}
use Rattle.tsp_base.specs.Words.{posts_to_others, role, puts, reading, view, ◌followed_by◌}
use Rattle.tsp_base.proofs.{PlaceLemmas.Within_all, PlaceLemmas.Within_comparable, PlaceLemmas.Within_length, PlaceLemmas.Within_tail}
use Rattle.tsp_base.proofs.{PlaceLemmas.Within_through, RowLemmas.added_append, ViewPlaces.Within_view}
use Rattle.tsp_promises.specs.{Fits.Fits, Fits.TookFits, Fits.node_of, Setting.Setting, DeedFits.MessageFits, Setting.setup_of}
use Rattle.tsp_promises.proofs.{shared.HistoryPlaces.line_on, promised.OwnFitsProof.deed_fits, promised.OwnFitsProof.fits_in, promised.OwnFitsProof.locate}
use Rattle.tsp_run.specs.Setup.{node_line}
use Rattle.tsp_progress.specs.ByTable.{ByTable, RowStands, TableAt, alarm_row, node_in, port_before}
use Rattle.tsp_progress.proofs.{PortSetups.PortIs, StandActs.Kept, StandActs.KeepsAt, StandActs.RangElect, StandActs.Sound, StandActs.StandFits}
use Rattle.tsp_progress.proofs.{StandActs.Tested, WorldPlaces.own_place}

-- what was kept at a place
pub kept_at : (d : Did) (before seen : List Seen) → Kept seen → Within (Here d ∷ before) seen → KeepsAt d.deed d before
kept_at d before [] k w = let bad : ⊥ = cc in absurd bad
kept_at d before (s ∷ rest) k (inl e) = (subst (λ u. Kept u) (sym e) k).0
kept_at d before (Here c ∷ rest) k (inr w) = kept_at d before rest k.1 w
kept_at d before (Elsewhere c ∷ rest) k (inr w) = kept_at d before rest k.1 w

-- of two places with as many entries before them
pub same_place : {A : Type 0} (x y : A) (s t v : List A) → Within (x ∷ s) v → Within (y ∷ t) v → length s ≡ length t → x ∷ s ≡ y ∷ t
same_place x y s t v a b same = elim (Within_comparable (x ∷ s) (y ∷ t) v a b) [
  | inl w ↦ elim w [
    | inl e ↦ e
    | inr w ↦ absurd (let long = Within_length (x ∷ s) t w in omega (arith, long, same))
  ]
  | inr w ↦ elim w [
    | inl e ↦ sym e
    | inr w ↦ absurd (let long = Within_length (y ∷ t) s w in omega (arith, long, same))
  ]
]

-- a deed of a step
abbrev did_by : Step → ℕ → Act → Did
did_by step x a = record { step = step; tick = x; deed = Acts a }

pub added_more : (step : Step) (x : ℕ) (acts : List Act) (seen s : List Seen) → Within s seen → Within s (added step x acts seen)
added_more step x [] seen s w = w
added_more step x (a ∷ rest) seen s w = added_more step x rest (Here (did_by step x a) ∷ seen) s (inr w)

first_added : (step : Step) (x : ℕ) (a : Act) (rest : List Act) (seen : List Seen) → Within (Here (did_by step x a) ∷ seen) (added step x (a ∷ rest) seen)
first_added step x a rest seen = added_more step x rest (Here (did_by step x a) ∷ seen) (Here (did_by step x a) ∷
    seen) (Within_all (Here (did_by step x a) ∷ seen))

second_added : (step : Step) (x : ℕ) (a b : Act) (rest : List Act) (seen : List Seen) →
    Within (Here (did_by step x b) ∷ Here (did_by step x a) ∷ seen) (added step x (a ∷ b ∷ rest) seen)
second_added step x a b rest seen = first_added step x b rest (Here (did_by step x a) ∷ seen)

-- posts alone
abbrev AllPosts : List Act → Type 0
AllPosts [] = Unit {0}
AllPosts (Post to d ∷ rest) = AllPosts rest
AllPosts (_ ∷ rest) = ⊥

posts_acting : (step : Step) (x : ℕ) (acts : List Act) (seen : List Seen) → AllPosts acts → acting seen ≡ true → acting (added step x acts seen) ≡ true
posts_acting step x [] seen p e = e
posts_acting step x (Post to d ∷ rest) seen p e = posts_acting step x rest (Here (did_by step x (Post to d)) ∷ seen) p e
posts_acting step x (_ ∷ rest) seen p e = absurd p

posts_role : (step : Step) (x : ℕ) (acts : List Act) (seen : List Seen) → AllPosts acts → role (added step x acts seen) ≡ role seen
posts_role step x [] seen p = refl
posts_role step x (Post to d ∷ rest) seen p = posts_role step x rest (Here (did_by step x (Post to d)) ∷ seen) p
posts_role step x (_ ∷ rest) seen p = absurd p

-- a peer is asked for its vote among these acts, after other posts
record AskedIn (p : PeerId) (acts : List Act) : Type 0 where
  pub front : List Act
  pub back : List Act
  pub message : MessageValue
  pub kind : message.kind ≡ Election
  pub posts_are : AllPosts front
  pub is : acts ≡ front ++ Post (Peer p) (Message message) ∷ back

asked_each : (p : PeerId) (ps : List PeerId) → is_among p ps ≡ true → (x : ℕ) (past : Past) → AskedIn p (for_each (begins Election) ps x past)
unfolding for_each nothing ◌followed_by◌ begins reading posts
asked_each p [] member x past = absurd (true≢false (sym member))
asked_each p (q ∷ rest) member x past = by_case (q.0 == p.0) refl (λ m y was. asked_each p rest m y was) member where
  ask : MessageValue
  ask = bare Election (next_number x past) past.name

  act : Act
  act = Post (Peer q) (Message ask)

  by_case : (b : Bool) → (q.0 == p.0) ≡ b →
      (is_among p rest ≡ true → (x : ℕ) (past : Past) → AskedIn p (for_each (begins Election) rest x past)) → (b || is_among p rest) ≡ true →
      AskedIn p (for_each (begins Election) (q ∷ rest) x past)
  by_case true same later m = record {
    front = [];
    back = for_each (begins Election) rest x (grown x past (act ∷ []));
    message = ask;
    kind = refl;
    posts_are = tt;
    is = ap (λ r. Post (Peer r) (Message ask) ∷ for_each (begins Election) rest x (grown x past (act ∷ []))) (same_peer q p same);
  }
  by_case false differs later m =
      let more = later m x (grown x past (act ∷ [])) in
      record {
        front = act ∷ more.front;
        back = more.back;
        message = more.message;
        kind = more.kind;
        posts_are = more.posts_are;
        is = ap (λ acts. act ∷ acts) more.is;
      }

other_among : (p own : PeerId) (ps : List PeerId) → is_among p ps ≡ true → (p.0 == own.0) ≡ false → is_among p (others own ps) ≡ true
other_among p own [] member other = member
other_among p own (q ∷ rest) member other = by_case (q.0 == p.0) refl (λ m. other_among p own rest m other) member where
  skip : (b : Bool) → is_among p (others own rest) ≡ true → is_among p (if b then q ∷ others own rest else others own rest) ≡ true
  skip true e = or_right (q.0 == p.0) (is_among p (others own rest)) e
  skip false e = e

  by_case : (b : Bool) → (q.0 == p.0) ≡ b → (is_among p rest ≡ true → is_among p (others own rest) ≡ true) → (b || is_among p rest) ≡ true →
      is_among p (others own (q ∷ rest)) ≡ true
  by_case true same later m =
      let keep : not (q.0 == own.0) ≡ true = rw (eqb-true q.0 p.0 same, other) refl in
      rw (keep, same) refl
  by_case false differs later m = skip (not (q.0 == own.0)) (later m)

-- the rows of Elect

-- the acts of who stands, before it asks anybody
abbrev Front : ℕ → Past → List Act
Front x past = Ring Elect ∷ Become Candidate ∷ Back past.own ∷ Arm Window (x + WINDOW) ∷ []

stands_acts : (x : ℕ) (past : Past) → is_in_time Elect x past ≡ true → may_stand_at x (grown x past (Ring Elect ∷ [])) ≡ true → elect_rings x past ≡
    Front x past ++ for_each (begins Election) (others past.own past.peers) x (grown x past (Front x past))
unfolding elect_rings either_by ◌followed_by◌ puts candidature_row backs_own reading arms begins_to_others
stands_acts x past intime may = rw (intime, may) refl

late_acts : (x : ℕ) (past : Past) → is_in_time Elect x past ≡ false → elect_rings x past ≡
    Late Elect ∷ arms_elect x (grown x past (Late Elect ∷ []))
unfolding elect_rings either_by ◌followed_by◌ puts
late_acts x past intime = rw intime refl

-- an act that is no change to a candidate
abbrev Stays : Act → Type 0
Stays a = Acts a ≢ Acts (Become Candidate)

record Idles (x : ℕ) (past : Past) : Type 0 where
  pub act : Act
  pub rest : List Act
  pub is : elect_rings x past ≡ Ring Elect ∷ act ∷ rest
  pub stays : Stays act

idles_acts : (x : ℕ) (past : Past) → is_in_time Elect x past ≡ true → may_stand_at x (grown x past (Ring Elect ∷ [])) ≡ false → Idles x past
unfolding elect_rings either_by ◌followed_by◌ puts loosens nothing searches arms posts_to_others
idles_acts x past intime may = by_case (follows_at x (grown x past (Ring Elect ∷ []))) refl where
  by_case : (b : Bool) → follows_at x (grown x past (Ring Elect ∷ [])) ≡ b → Idles x past
  by_case true follows = record {
    act = Become Loose;
    rest = searches x (grown x (grown x past (Ring Elect ∷ [])) (Become Loose ∷ []));
    is = rw (intime, may, follows) refl;
    stays = λ e. let bad : ⊥ = cc in bad;
  }
  by_case false follows = record {
    act = Arm Search (x + WINDOW);
    rest = posts_to_others MasterReq 0 x (grown x (grown x past (Ring Elect ∷ [])) (Arm Search (x + WINDOW) ∷ []));
    is = rw (intime, may, follows) refl;
    stays = λ e. let bad : ⊥ = cc in bad;
  }

-- a port that stood for election
module _ {header : HeaderValue} {setting : Setting} (world : List Line) (table : ByTable header world) (fits : Fits setting world)
    (sound : (n : ℕ) (q : Port) → Sound (view q (of n world))) (n : ℕ) (q : Port) (port : PortIs header setting n q) (start : Did) (idle : List Seen)
    (stood_place : Within (Here start ∷ idle) (view q (of n world))) (stands : start.deed ≡ Acts (Become Candidate)) (alone : start.step.cause ≢ Handed) where
  abbrev pub Whole : List Seen
  Whole = view q (of n world)

  -- nobody posts a TEST
  no_test_by : (cause : Cause) → (l : Line) (older : List Line) (from : Place) (m : MessageValue) → Within older world → l.did.step.cause ≡ cause →
      cause ≢ Handed → m.kind ≡ Test → TookFits cause setting l older from (Good (Message m)) → ⊥
  no_test_by Handed l older from m w is not kind f = not refl
  no_test_by (Came k) l older from m w is not kind f =
      let posted : f.post.did.deed ≡ Acts (Post (Peer (peer_of (node_of l))) f.datagram) = f.deed in
      let same : f.datagram ≡ Message m = good f.datagram (Message m) (sym f.taken_is) in
      let deed : f.post.did.deed ≡ Acts (Post (Peer (peer_of (node_of l))) (Message m)) = posted ∙ ap (λ d. Acts (Post (Peer (peer_of (node_of l))) d)) same in
      let line = fits_in setting f.post f.older world fits (Within_through (f.post ∷ f.older) older world f.place w) in
      let fit = (deed_fits setting f.post f.older (Acts (Post (Peer (peer_of (node_of l))) (Message m))) deed line).fits in
      subst (λ k. MessageFits (setup_of setting (node_of f.post) f.post.port) k f.post.did (view f.post.port (of (node_of f.post) f.older))
      (peer_of (node_of l)) m) kind fit
    where
      good : (d e : Datagram) → Good d ≡ Good e → d ≡ e
      good d e h = cc
  no_test_by Turned l older from m w is not kind f = f
  no_test_by (Booted word wall) l older from m w is not kind f = f

  no_test : Tested start.step idle → ⊥
  no_test t =
      let inside : Within (Here t.took ∷ t.rest) Whole = Within_tail (Here t.ack) (Here t.took ∷ t.rest) Whole
      (subst (λ s. Within s Whole) t.is (Within_tail (Here start) idle Whole stood_place)) in
      let l = locate n q world t.took t.rest (rw t.deed refl) inside in
      let line = fits_in setting (line_on q t.took) l.older world fits l.place in
      no_test_by t.took.step.cause (line_on q t.took) l.older t.from t.message (Within_tail (line_on q t.took) l.older world l.place) refl
      (λ e. alone (ap (λ (s : Step). s.cause) (sym t.now) ∙ e)) t.kind (line.took t.from (Good (Message t.message)) t.deed)

  pub rang : RangElect idle
  rang = elim (subst (λ k. StandFits k start idle) stands (kept_at start idle Whole (sound n q).kept stood_place).fits).0 [
    | inl r ↦ r
    | inr t ↦ absurd (no_test t)
  ]

  abbrev pub Ringing : Did
  Ringing = rang.ring

  ring_inside : Within (Here Ringing ∷ rang.rest) Whole
  ring_inside = subst (λ s. Within s Whole) rang.is (Within_tail (Here start) idle Whole stood_place)

  abbrev X : ℕ
  X = Ringing.tick

  -- the row that rang, in what the port sees
  record RowSeen : Type 0 where
    pub past : Past
    pub rest_is : past.seen ≡ rang.rest
    pub own : past.own.0 ≡ n
    pub peers : past.peers ≡ setting.members (setting.net n q)
    pub may_is : past.may ≡ (node_line header n).may
    pub within : Within (added Ringing.step X (elect_rings X past) past.seen) Whole

  row_seen : RowSeen
  unfolding alarm_rings
  row_seen =
      let l = locate n q world Ringing rang.rest (rw rang.deed refl) ring_inside in
      let line = line_on q Ringing in
      let node = node_in header n in
      let past = port_before node line (of n l.older) in
      let stands : RowStands (alarm_row node line (of n l.older) Elect) node line (of n l.older) (of n world) =
      subst (λ d. TableAt d node line (of n l.older) (of n world)) rang.deed (table n line (of n l.older) (own_place n line l.older world l.node l.place)) in
      record {
        past = past;
        rest_is = l.before;
        own = port.own;
        peers = port.peers;
        may_is = refl;
        within = subst (λ s. Within s Whole) (view_own q Ringing.step X (elect_rings X past) (of n l.older))
            (Within_view q (joined Ringing.step X (placed q (elect_rings X past)) (of n l.older)) (of n world) stands);
      }

  abbrev There : Past
  There = row_seen.past

  -- the entry at which it rang, by the row
  abbrev Base : List Seen
  Base = Here (did_by Ringing.step X (Ring Elect)) ∷ There.seen

  ring_length : length There.seen ≡ length rang.rest
  ring_length = ap length row_seen.rest_is

  in_time : is_in_time Elect X There ≡ true
  in_time = by_case (is_in_time Elect X There) refl where
    by_case : (b : Bool) → is_in_time Elect X There ≡ b → is_in_time Elect X There ≡ true
    by_case true e = e
    by_case false e =
        let whole = subst (λ acts. Within (added Ringing.step X acts There.seen) Whole) (late_acts X There e) row_seen.within in
        let late = did_by Ringing.step X (Late Elect) in
        let rest = arms_elect X (grown X There (Late Elect ∷ [])) in
        let here : Within (Here late ∷ There.seen) Whole =
        Within_through (Here late ∷ There.seen) (added Ringing.step X (Late Elect ∷ rest) There.seen) Whole
        (first_added Ringing.step X (Late Elect) rest There.seen) whole in
        let same = same_place (Here late) (Here Ringing) There.seen rang.rest Whole here ring_inside ring_length in
        let is : late ≡ Ringing = cc in
        let deed : Acts (Late Elect) ≡ Acts (Ring Elect) = ap (λ (d : Did). d.deed) is ∙ rang.deed in
        let bad : ⊥ = cc in
        absurd bad

  start_inside : Within (Here start ∷ (Here Ringing ∷ rang.rest)) Whole
  start_inside = subst (λ s. Within (Here start ∷ s) Whole) rang.is stood_place

  may_stand : may_stand_at X (grown X There (Ring Elect ∷ [])) ≡ true
  may_stand = by_case (may_stand_at X (grown X There (Ring Elect ∷ []))) refl where
    by_case : (b : Bool) → may_stand_at X (grown X There (Ring Elect ∷ [])) ≡ b → may_stand_at X (grown X There (Ring Elect ∷ [])) ≡ true
    by_case true e = e
    by_case false e =
        let i = idles_acts X There in_time e in
        let whole = subst (λ acts. Within (added Ringing.step X acts There.seen) Whole) i.is row_seen.within in
        let other = did_by Ringing.step X i.act in
        let here : Within (Here other ∷ Base) Whole = Within_through (Here other ∷ Base) (added Ringing.step X (Ring Elect ∷ i.act ∷ i.rest) There.seen) Whole
        (second_added Ringing.step X (Ring Elect) i.act i.rest There.seen) whole in
        let same = same_place (Here other) (Here start) Base (Here Ringing ∷ rang.rest) Whole here start_inside
        (let len = ring_length in omega (arith, len)) in
        let is : other ≡ start = cc in
        let deed : Acts i.act ≡ Acts (Become Candidate) = ap (λ (d : Did). d.deed) is ∙ stands in
        absurd (i.stays deed)

  -- and so may be master
  pub stood_may : (node_line header n).may ≡ true
  stood_may = sym row_seen.may_is ∙ (and_parts There.may _ may_stand).0

  abbrev Asks : List Act
  Asks = for_each (begins Election) (others There.own There.peers) X (grown X There (Front X There))

  stood_row : Within (added Ringing.step X (Front X There ++ Asks) There.seen) Whole
  stood_row = subst (λ acts. Within (added Ringing.step X acts There.seen) Whole) (stands_acts X There in_time may_stand) row_seen.within

  abbrev Standing : Did
  Standing = did_by Ringing.step X (Become Candidate)

  is_start : Here Standing ∷ Base ≡ Here start ∷ idle
  is_start =
      let here : Within (Here Standing ∷ Base) Whole = Within_through (Here Standing ∷ Base) (added Ringing.step X (Front X There ++ Asks) There.seen) Whole
      (second_added Ringing.step X (Ring Elect) (Become Candidate) (Back There.own ∷ Arm Window (X + WINDOW) ∷ Asks) There.seen) stood_row in
      same_place (Here Standing) (Here start) Base idle Whole here stood_place
      (let len = ring_length in let more = ap length rang.is in omega (arith, len, more))

  pub same_step : Ringing.step ≡ start.step
  same_step = let same : Standing ≡ start = (let k = is_start in cc) in ap (λ (d : Did). d.step) same

  -- it backs itself
  pub record BacksItself : Type 0 where
    pub back : Did
    pub place : Within (Here back ∷ (Here start ∷ idle)) Whole
    pub own : PeerId
    pub deed : back.deed ≡ Acts (Back own)
    pub own_is : own.0 ≡ n
    pub step : back.step ≡ start.step

  pub backs_itself : BacksItself
  backs_itself =
      let back = did_by Ringing.step X (Back There.own) in
      let here : Within (Here back ∷ Here Standing ∷ Base) Whole = Within_through (Here back ∷ Here Standing ∷
      Base) (added Ringing.step X (Front X There ++ Asks) There.seen) Whole
      (first_added Ringing.step X (Back There.own) (Arm Window (X + WINDOW) ∷ Asks) (Here Standing ∷ Base)) stood_row in
      record {
        back = back;
        place = subst (λ s. Within (Here back ∷ s) Whole) is_start here;
        own = There.own;
        deed = refl;
        own_is = row_seen.own;
        step = same_step;
      }

  -- it asks another member
  pub record AsksPeer (p : PeerId) : Type 0 where
    pub ask : Did
    pub asked : List Seen
    pub place : Within (Here ask ∷ asked) Whole
    pub after : Within (Here start ∷ idle) asked
    pub message : MessageValue
    pub deed : ask.deed ≡ Acts (Post (Peer p) (Message message))
    pub kind : message.kind ≡ Election
    pub begins : acting asked ≡ true
    pub role_is : role asked ≡ Candidate
    pub step : ask.step ≡ start.step

  pub asks_peer : (p : PeerId) → is_among p (setting.members (setting.net n q)) ≡ true → (p.0 == n) ≡ false → AsksPeer p
  asks_peer p member other =
      let there : is_among p (others There.own There.peers) ≡ true = other_among p There.own There.peers (ap (is_among p) row_seen.peers ∙ member)
      (ap (λ k. p.0 == k) row_seen.own ∙ other) in
      let a = asked_each p (others There.own There.peers) there X (grown X There (Front X There)) in
      let step = Ringing.step in
      let asked = added step X a.front (added step X (Front X There) There.seen) in
      let act = Post (Peer p) (Message a.message) in
      let ask = did_by step X act in
      let first = subst (λ s. Within s Whole) (added_append step X (Front X There) Asks There.seen) stood_row in
      let second = subst (λ acts. Within (added step X acts (added step X (Front X There) There.seen)) Whole) a.is first in
      let whole : Within (added step X (act ∷ a.back) asked) Whole =
      subst (λ s. Within s Whole) (added_append step X a.front (act ∷ a.back) (added step X (Front X There) There.seen)) second in
      record {
        ask = ask;
        asked = asked;
        place = Within_through (Here ask ∷ asked) (added step X (act ∷ a.back) asked) Whole (first_added step X act a.back asked) whole;
        after = subst (λ s. Within s asked) is_start (added_more step X a.front (added step X (Front X There) There.seen) (Here Standing ∷ Base)
            (inr (inr (Within_all (Here Standing ∷ Base)))));
        message = a.message;
        deed = refl;
        kind = a.kind;
        begins = posts_acting step X a.front (added step X (Front X There) There.seen) a.posts_are refl;
        role_is = posts_role step X a.front (added step X (Front X There) There.seen) a.posts_are;
        step = same_step;
      }
