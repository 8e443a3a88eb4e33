-- A node with two ports: it follows on both and is corrected on one, and it passes LOOPs on.
use Rattle.std.specs.Prelude.{◌≡◌, ℕ, pos, false, List, [], ◌∷◌, ◌++◌, codes}
use Rattle.tsp_rules.specs.Values.{Act, Boot, Took, Post, Become, Arm, Ring, Correct, Placed, Quiet, Elect, Search, Message, Good, Ack, AdjTime, LoopKind}
use Rattle.tsp_rules.specs.Values.{MasterReq, MasterUp, SlaveUp, Hops, Peer, Starting, Loose, Follow}
use Rattle.tsp_base.specs.Words.{Booted, Turned, Handed, Step, MessageValue, bare, timed, placed, peer_of as peer}
use Rattle.tsp_rules.specs.GateRows.{GotOn, NodeTurn, answers_all, boots_all}
use Rattle.tsp_rules.specs.NodeRows.{NodePast, NodeRow, in_node_step, spread}
use Rattle.tsp_rules.specs.Scripts.{step, a_name, b_name}

abbrev pub g_name : List ℕ
g_name = codes "g"

abbrev pub h_name : List ℕ
h_name = codes "h"

-- an event: a step, its tick, the row that is to be checked, and the acts that are claimed of it
pub record NodeEvent : Type 0 where
  pub step : Step
  pub tick : ℕ
  pub row : NodeRow
  pub acts : List Placed

-- the row of each event puts exactly the claimed acts
abbrev pub AllAnswered : List NodeEvent → NodePast → Type 0
AllAnswered [] past = Unit {0}
AllAnswered (e ∷ later) past = (e.row e.tick (in_node_step e.step e.tick past) ≡ e.acts) ×
    AllAnswered later (spread e.tick (in_node_step e.step e.tick past) e.acts)

-- acts on the first and on the second port
abbrev pub on_0 : List Act → List Placed
on_0 = placed (record { 0 = 0 })

abbrev pub on_1 : List Act → List Placed
on_1 = placed (record { 0 = 1 })

-- node n boots at this time, which is its tick, with this word
abbrev pub boots_node : ℕ → ℕ → ℕ → List Placed → NodeEvent
boots_node n at word acts = record { step = step at n (Booted word (pos at)); tick = at; row = boots_all; acts = acts }

-- it looks at its timers
abbrev pub turns_node : ℕ → ℕ → List Placed → NodeEvent
turns_node n at acts = record { step = step at n Turned; tick = at; row = answers_all NodeTurn; acts = acts }

-- it takes this message of a peer on a port
abbrev pub hands_node : ℕ → ℕ → ℕ → ℕ → MessageValue → List Placed → NodeEvent
hands_node n at q p m acts = record {
  step = step at n Handed;
  tick = at;
  row = answers_all (GotOn (record { 0 = q }) (Peer (peer p)) (Good (Message m)));
  acts = record { port = record { 0 = q }; act = Took (Peer (peer p)) (Good (Message m)) } ∷ acts;
}

-- node g, on a network with a and on one with b: it follows both, and a corrects it, since that port is the lower one
abbrev pub two_masters_g : List NodeEvent
two_masters_g =
    boots_node 0 0 7 (on_0 (Boot ∷ Become Starting ∷ Arm Quiet 80000000 ∷ []) ++ on_1 (Become Starting ∷ Arm Quiet 80000000 ∷ [])) ∷
    turns_node 0 80000000 (on_0 (Ring Quiet ∷ Become Loose ∷ Arm Search 85000000 ∷ Post (Peer (peer 1)) (Message (bare MasterReq 0 g_name)) ∷ []) ++
    on_1 (Ring Quiet ∷ Become Loose ∷ Arm Search 85000000 ∷ Post (Peer (peer 2)) (Message (bare MasterReq 0 g_name)) ∷ [])) ∷
    hands_node 0 81000000 1 2 (bare MasterUp 0 b_name) (on_1 (Become (Follow (peer 2)) ∷ Arm Elect 381000007 ∷
    Post (Peer (peer 2)) (Message (bare SlaveUp 7 g_name)) ∷ [])) ∷
    hands_node 0 82000000 0 1 (bare MasterUp 0 a_name) (on_0 (Become (Follow (peer 1)) ∷ Arm Elect 382000007 ∷
    Post (Peer (peer 1)) (Message (bare SlaveUp 7 g_name)) ∷ [])) ∷
    hands_node 0 83000000 1 2 (timed AdjTime 7 (pos 1) b_name) [] ∷
    hands_node 0 84000000 0 1 (timed AdjTime 7 (pos 10) a_name) (on_0 (Correct (pos 10) false (pos 84000000) ∷ Arm Elect 384000007 ∷
    Post (Peer (peer 1)) (Message (bare Ack 7 g_name)) ∷ [])) ∷
    []

abbrev pub fresh_g : NodePast
fresh_g = record {
  name = g_name;
  may = false;
  strict = false;
  ports = record { own = peer 0; peers = peer 0 ∷ peer 1 ∷ [] } ∷ record { own = peer 0; peers = peer 0 ∷ peer 2 ∷ [] } ∷ [];
  step = step 0 0 Turned;
  lines = [];
}

abbrev pub loop_of : ℕ → ℕ → List ℕ → MessageValue
loop_of number hops name = record { kind = LoopKind; number = number; body = Hops hops; name = name }

-- node h, which joins the same two networks as g: it passes a LOOP of g on with one hop less, no further one without hops, and not its own
abbrev pub loops_h : List NodeEvent
loops_h =
    boots_node 1 0 0 (on_0 (Boot ∷ Become Starting ∷ Arm Quiet 80000000 ∷ []) ++ on_1 (Become Starting ∷ Arm Quiet 80000000 ∷ [])) ∷
    turns_node 1 80000000 (on_0 (Ring Quiet ∷ Become Loose ∷ Arm Search 85000000 ∷ Post (Peer (peer 0)) (Message (bare MasterReq 0 h_name)) ∷ []) ++
    on_1 (Ring Quiet ∷ Become Loose ∷ Arm Search 85000000 ∷ Post (Peer (peer 0)) (Message (bare MasterReq 0 h_name)) ∷ [])) ∷
    hands_node 1 81000000 0 0 (loop_of 0 10 g_name) (on_1 (Post (Peer (peer 0)) (Message (loop_of 0 9 g_name)) ∷ [])) ∷
    hands_node 1 82000000 0 0 (loop_of 0 0 g_name) [] ∷
    hands_node 1 83000000 1 0 (loop_of 0 10 h_name) [] ∷
    []

abbrev pub fresh_h : NodePast
fresh_h = record {
  name = h_name;
  may = false;
  strict = false;
  ports = record { own = peer 1; peers = peer 0 ∷ peer 1 ∷ [] } ∷ record { own = peer 1; peers = peer 0 ∷ peer 1 ∷ [] } ∷ [];
  step = step 0 1 Turned;
  lines = [];
}

-- the rules over ports give the claimed acts at each event
pub record JoinsNetworks : Type 0 where
  pub two_masters : AllAnswered two_masters_g fresh_g
  pub loops : AllAnswered loops_h fresh_h
