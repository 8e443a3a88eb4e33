-- Small histories fit, step by step. Small histories as lists of steps, and what shows that they fit.
use Rattle.std.proofs.Common.{sym, ap, arith, subst, inl, inr, eqb-true, ◌∙◌, ◌≡◌, ◌==◌, ◌&&◌, cond, ◌≤◌, ◌<◌, nat_lt, nat_le, Bool, true, false, ℕ, zero, suc}
use Rattle.std.proofs.Common.{◌+◌, List, [], ◌∷◌, length, refl}
use Rattle.std.specs.Prelude.{ℤ, pos, map}
use Rattle.std.proofs.lemmas.Bool.{ltb-true, leb-true, and_parts}
use Rattle.tsp_rules.specs.Values.{Act, Post, Placed, Datagram, Taken, Good, PeerId, Place, Peer, Port, Boot, Took, Become, Ring, Back, Correct, Sample, Acked}
use Rattle.tsp_rules.specs.Values.{Window, Elect, Message, Stamp, Ack, SetTime, SlaveUp, Nothing, TimeBody, Follow, Candidate, Master, Request, Reply}
use Rattle.tsp_base.specs.Words.{Step, Begins, Acts, Deed, Line, of, dids, view, first_port, joined, line_of, time_of, Within, peer_of, posted, posted_after}
use Rattle.tsp_base.specs.Words.{Cause, Booted, Came, Handed, Turned, MessageValue, ReplyValue}
use Rattle.tsp_promises.proofs.witness.Histories.{ActsOk, ActOk, alive_of, deeds_of, post_at, post_here, still, then_step, took_of, msg, on, skip, step_at}
use Rattle.tsp_promises.specs.{Fits.Finished, Fits.Fits, Fits.LineFits, Fits.Posted, Fits.node_of, Setting.setup_of, StepFacts.StepEnds}
use Rattle.tsp_promises.proofs.witness.StepChecks.{settled, settled_ends}

posted_few : (h : List Line) → posted (dids h) ≤ length h
posted_few [] = omega arith
posted_few (l ∷ h) = by_deed_holds l.did.deed (posted_few h) where
  by_deed_holds : (deed : Deed) → posted (dids h) ≤ length h → posted_after deed (posted (dids h)) ≤ length (l ∷ h)
  by_deed_holds (Acts (Post to datagram)) e = omega arith
  by_deed_holds _ e = omega arith

act_fits : (strict : Bool) (step : Step) (p : Placed) (x : Line) (h : List Line) → x.did.step ≡ step → length (x ∷ h) < 1000 →
    ActOk strict step p.port p.act (x ∷ h) → LineFits (still strict) (line_of step step.at p.port (Acts p.act)) (x ∷ h)
act_fits strict step p x h same few ok = record {
  order = (let e = ap (λ (s : Step). s.at) same in omega arith);
  tick = omega arith;
  few = omega (arith, posted_few (x ∷ h));
  step = same;
  alive = alive_of strict step p.port p.act (x ∷ h) ok;
  took = took_of strict step p.port p.act (x ∷ h) ok;
  deeds = deeds_of strict step p.port p.act (x ∷ h) ok;
}

acts_fit : (strict : Bool) (step : Step) (acts : List Placed) (x : Line) (h : List Line) → x.did.step ≡ step → length (x ∷ h) + length acts < 1000 →
    Fits (still strict) (x ∷ h) → ActsOk strict step acts (x ∷ h) → Fits (still strict) (joined step step.at acts (x ∷ h))
acts_fit strict step [] x h same few f ok = f
acts_fit strict step (p ∷ rest) x h same few f ok =
    acts_fit strict step rest (line_of step step.at p.port (Acts p.act)) (x ∷ h) refl (omega arith) (act_fits strict step p x h same (omega arith) ok.0, f) ok.1

-- whether the node has ended its last step, and time doesn't go back
-- the peers of a node's ports, whether elections are strict or not
abbrev pub peers_at : ℕ → Port → List PeerId
peers_at n q = (setup_of (still false) n q).peers

abbrev pub may_begin : Step → List Placed → List Line → Bool
may_begin step acts h = nat_le (time_of (dids h)) step.at && (settled (peers_at step.node) (of step.node h) && nat_lt (length h + (length acts + 1)) 1000)

mark_fits : (strict : Bool) (step : Step) (h : List Line) → time_of (dids h) ≤ step.at → length h < 1000 →
    ((q : Port) → StepEnds (setup_of (still strict) step.node q) (view q (of step.node h))) → LineFits (still strict) (line_of step step.at first_port Begins) h
mark_fits strict step h order few ends = record {
  order = order;
  tick = omega arith;
  few = omega (arith, posted_few h);
  step = tt;
  alive = tt;
  took = λ from taken e. no_act e;
  deeds = λ q sees. ends q;
} where
  no_act : {B : Type 0} {a : Act} → Begins ≡ Acts a → B
  no_act e = let bad : ⊥ = cc in absurd bad

-- a step more fits
pub step_fits : (strict : Bool) (step : Step) (acts : List Placed) (h : List Line) → Fits (still strict) h → may_begin step acts h ≡ true →
    ActsOk strict step acts (line_of step step.at first_port Begins ∷ h) → Fits (still strict) (then_step step acts h)
step_fits strict step acts h f e ok =
    let a = and_parts (nat_le (time_of (dids h)) step.at) (settled (peers_at step.node) (of step.node h) && nat_lt (length h + (length acts + 1)) 1000) e in
    let b = and_parts (settled (peers_at step.node) (of step.node h)) (nat_lt (length h + (length acts + 1)) 1000) a.1 in
    let order = leb-true (time_of (dids h)) step.at a.0 in
    let few = ltb-true (length h + (length acts + 1)) 1000 b.1 in
    acts_fit strict step acts (line_of step step.at first_port Begins) h refl (omega arith)
    (mark_fits strict step h order (omega arith) (settled_ends (setup_of (still strict) step.node) (of step.node h) b.0), f) ok

abbrev below_four : List Line → Bool
below_four [] = true
below_four (l ∷ t) = nat_lt (node_of l) 4 && below_four t

-- whether all of the four nodes have ended their last steps
abbrev pub all_settled : List Line → Bool
all_settled h = below_four h && ((settled (peers_at 0) (of 0 h) && settled (peers_at 1) (of 1 h)) && (settled (peers_at 2) (of 2 h) && settled (peers_at 3)
    (of 3 h)))

none_of : (n : ℕ) (h : List Line) → below_four h ≡ true → of (suc (suc (suc (suc n)))) h ≡ []
none_of n [] e = refl
none_of n (l ∷ h) e =
    let a = and_parts (nat_lt (node_of l) 4) (below_four h) e in
    rw (other (node_of l) (ltb-true (node_of l) 4 a.0) (node_of l == suc (suc (suc (suc n)))) refl) (none_of n h a.1)
  where
    other : (k : ℕ) → k < 4 → (b : Bool) → (k == suc (suc (suc (suc n)))) ≡ b → b ≡ false
    other k few true is = (let c = eqb-true k (suc (suc (suc (suc n)))) is in absurd (omega arith))
    other k few false is = refl

-- and the history ends with a step
pub all_finished : (strict : Bool) (h : List Line) → all_settled h ≡ true → Finished (still strict) h
all_finished strict h e n q =
    let a = and_parts (below_four h) ((settled (peers_at 0) (of 0 h) && settled (peers_at 1) (of 1 h)) && (settled (peers_at 2) (of 2 h) && settled (peers_at 3)
    (of 3 h))) e in
    let b = and_parts (settled (peers_at 0) (of 0 h) && settled (peers_at 1) (of 1 h)) (settled (peers_at 2) (of 2 h) && settled (peers_at 3) (of 3 h)) a.1 in
    by_node a.0 (and_parts (settled (peers_at 0) (of 0 h)) (settled (peers_at 1) (of 1 h)) b.0)
    (and_parts (settled (peers_at 2) (of 2 h)) (settled (peers_at 3) (of 3 h)) b.1) n
  where
    by_node : below_four h ≡ true → (settled (peers_at 0) (of 0 h) ≡ true) × (settled (peers_at 1) (of 1 h) ≡ true) → (settled (peers_at 2) (of 2 h) ≡ true) ×
        (settled (peers_at 3) (of 3 h) ≡ true) → (n : ℕ) → StepEnds (setup_of (still strict) n q) (view q (of n h))
    by_node few x y zero = settled_ends (setup_of (still strict) 0) (of 0 h) x.0 q
    by_node few x y (suc zero) = settled_ends (setup_of (still strict) 1) (of 1 h) x.1 q
    by_node few x y (suc (suc zero)) = settled_ends (setup_of (still strict) 2) (of 2 h) y.0 q
    by_node few x y (suc (suc (suc zero))) = settled_ends (setup_of (still strict) 3) (of 3 h) y.1 q
    by_node few x y (suc (suc (suc (suc n)))) =
        subst (λ w. StepEnds (setup_of (still strict) (suc (suc (suc (suc n)))) q) (view q w)) (sym (none_of n h few))
        (settled_ends (setup_of (still strict) (suc (suc (suc (suc n))))) [] refl q)

-- where a post is found by its number
pub record Found (k : ℕ) (h : List Line) (post : Line) (older : List Line) : Type 0 where
  pub place : Within (post ∷ older) h
  pub number : posted (dids older) ≡ k

found_cond : (k n : ℕ) (l : Line) (t was : List Line) (post : Line) (older : List Line) → n ≡ posted (dids t) → (b : Bool) → (n == k) ≡ b → cond b (l ∷ t) was ≡
    post ∷ older → (was ≡ post ∷ older → Found k t post older) → Found k (l ∷ t) post older
found_cond k n l t was post older is true b e h =
    let rest : t ≡ older = cc in
    record { place = inl (sym e); number = ap (λ z. posted (dids z)) (sym rest) ∙ (sym is ∙ eqb-true n k b) }
found_cond k n l t was post older is false b e h = let o = h e in record { place = inr o.place; number = o.number }

pub post_found : (k : ℕ) (h : List Line) (post : Line) (older : List Line) → post_at k h ≡ post ∷ older → Found k h post older
post_found k [] post older e = let bad : ⊥ = cc in absurd bad
post_found k (l ∷ t) post older e = by_deed_holds l.did.deed (post_found k t post older) e where
  by_deed_holds : (deed : Deed) → (post_at k t ≡ post ∷ older → Found k t post older) → post_here k deed (posted (dids t)) (l ∷ t) (post_at k t) ≡ post ∷
      older →
      Found k (l ∷ t) post older
  by_deed_holds (Acts (Post to datagram)) h e = found_cond k (posted (dids t)) l t (post_at k t) post older refl (posted (dids t) == k) refl e h
  by_deed_holds _ h e = let o = h e in record { place = inr o.place; number = o.number }

-- what a line takes is the post of this number
pub came : {strict : Bool} {l : Line} {h : List Line} {k : ℕ} {post : Line} {older : List Line} {d : Datagram} {from : Place} {taken : Taken} → post_at k h ≡
    post ∷ older → post.did.deed ≡ Acts (Post (Peer (peer_of (node_of l))) d) →
    (still strict).net (node_of post) post.port ≡ (still strict).net (node_of l) l.port → from ≡ Peer (peer_of (node_of post)) → taken ≡ Good d →
    Posted (still strict) l h k from taken
came {strict} {l} {h} {k} {post} {older} {d} at deed net from taken = let f = post_found k h post older at in
    record { post = post; older = older; place = f.place; number = f.number; datagram = d; deed = deed; net = net; from_is = from; taken_is = taken }

-- a step and its acts
pub record Stage : Type 0 where
  pub step : Step
  pub acts : List Placed

-- a time, a node, and the number of one of its ports
pub record There : Type 0 where
  pub time : ℕ
  pub node : ℕ
  pub port : ℕ

abbrev pub at : ℕ → ℕ → ℕ → There
at time node port = record { time = time; node = node; port = port }

abbrev acts_on : There → List Act → List Placed
acts_on t acts = map (on (record { 0 = t.port })) acts

abbrev stage : There → Cause → List Act → Stage
stage t cause acts = record { step = step_at t.time t.node cause; acts = acts_on t acts }

-- a node boots with this word
abbrev pub boots : ℕ → ℕ → ℕ → Stage
boots time node word = stage (at time node 0) (Booted word (pos time)) (Boot ∷ [])

-- a look at the timers, on one port
abbrev pub turns : There → List Act → Stage
turns t acts = stage t Turned acts

-- the datagram of this number comes in from a peer
abbrev pub takes : There → ℕ → ℕ → Datagram → List Act → Stage
takes t number peer datagram acts = stage t (Came number) (Took (Peer (peer_of peer)) (Good datagram) ∷ acts)

-- a datagram from outside
abbrev pub hands : There → Place → Datagram → List Act → Stage
hands t from datagram acts = stage t Handed (Took from (Good datagram) ∷ acts)

-- a candidate that asks nobody
abbrev pub stands : There → Stage
stands t = turns t (Ring Elect ∷ Become Candidate ∷ Back (peer_of t.node) ∷ [])

abbrev pub wins : There → Stage
wins t = turns t (Ring Window ∷ Become Master ∷ [])

-- it follows a master, and says so with its ticket
abbrev pub follows : There → ℕ → ℕ → Stage
follows t master number = turns t (Become (Follow (peer_of master)) ∷ Post (Peer (peer_of master)) (Message (msg SlaveUp number Nothing)) ∷ [])

-- the master answers by this time
abbrev pub sets_up : There → ℕ → ℕ → ℕ → ℤ → Stage
sets_up t sent peer number time = takes t sent peer (Message (msg SlaveUp number Nothing))
    (Post (Peer (peer_of peer)) (Message (msg SetTime number (TimeBody time))) ∷ [])

-- a follower takes a correction, and acknowledges it
abbrev pub obeys : There → ℕ → ℕ → MessageValue → ℤ → Bool → ℤ → Stage
obeys t sent master m amount stepped shown = takes t sent master (Message m) (Correct amount stepped shown ∷
    Post (Peer (peer_of master)) (Message (msg Ack m.number Nothing)) ∷ [])

abbrev pub acked : There → ℕ → ℕ → ℕ → Stage
acked t sent peer number = takes t sent peer (Message (msg Ack number Nothing)) (Acked (peer_of peer) ∷ [])

-- a peer answers a request
abbrev pub replies : There → ℕ → ℕ → ReplyValue → Stage
replies t sent peer r = takes t sent peer (Stamp (Request r.word r.counter)) (Post (Peer (peer_of peer)) (Stamp (Reply r)) ∷ [])

abbrev pub samples : There → ℕ → ℕ → ReplyValue → ℤ → ℤ → Stage
samples t sent peer r diff err = takes t sent peer (Stamp (Reply r)) (Sample (peer_of peer) r.counter diff err r.ticket ∷ [])

-- the history after so many of these steps
abbrev pub after : ℕ → List Stage → List Line → List Line
after zero stages h = h
after (suc k) [] h = h
after (suc k) (s ∷ rest) h = after k rest (then_step s.step s.acts h)

-- whether each of so many steps may begin
abbrev pub all_begin : ℕ → List Stage → List Line → Bool
all_begin zero stages h = true
all_begin (suc k) [] h = true
all_begin (suc k) (s ∷ rest) h = may_begin s.step s.acts h && all_begin k rest (then_step s.step s.acts h)

-- what the acts of so many steps owe
abbrev pub StagesOk : Bool → ℕ → List Stage → List Line → Type 0
StagesOk strict zero stages h = Unit {0}
StagesOk strict (suc k) [] h = Unit {0}
StagesOk strict (suc k) (s ∷ rest) h = ActsOk strict s.step s.acts (line_of s.step s.step.at first_port Begins ∷ h) ×
    StagesOk strict k rest (then_step s.step s.acts h)

-- what one step owes, and what the others do
infixr 20 ◌also◌
abbrev pub ◌also◌ : {A B : Type 0} → A → B → A × B
a also b = (a, b)

-- such steps fit
pub stages_fit : (strict : Bool) (k : ℕ) (stages : List Stage) (h : List Line) → Fits (still strict) h → all_begin k stages h ≡ true →
    StagesOk strict k stages h → Fits (still strict) (after k stages h)
stages_fit strict zero stages h f e ok = f
stages_fit strict (suc k) [] h f e ok = f
stages_fit strict (suc k) (s ∷ rest) h f e ok =
    let a = and_parts (may_begin s.step s.acts h) (all_begin k rest (then_step s.step s.acts h)) e in
    stages_fit strict k rest (then_step s.step s.acts h) (step_fits strict s.step s.acts h f a.0 ok.0) a.1 ok.1

-- so does what came before them
pub skip_fits : (strict : Bool) (n : ℕ) (h : List Line) → Fits (still strict) h → Fits (still strict) (skip n h)
skip_fits strict (suc n) (l ∷ t) f = skip_fits strict n t f.1
skip_fits strict _ _ f = f
