-- A run on two networks, written out: a node joins both, follows a master on each, and is corrected on one.
use Rattle.std.specs.Prelude.{◌≡◌, ℕ, pos, false, List, [], ◌∷◌, codes, Option, None, Some}
use Rattle.tsp_rules.specs.Values.{Act, Boot, Took, Post, Become, Arm, Ring, Correct, Quiet, Elect, Search, Message, Good, Event, BootAt, Turn, Bytes, NodeLine}
use Rattle.tsp_rules.specs.Values.{Ack, AdjTime, MasterReq, MasterUp, SlaveUp, Peer, Starting, Loose, Follow}
use Rattle.tsp_base.specs.Words.{HeaderValue, MessageValue, bare, timed, peer_of as peer}
use Rattle.tsp_base.specs.declared.event.EventFault.TheVariants.{NoNode}
use Rattle.tsp_run.specs.{Refusals.refusal, Refusals.scene, Refusals.Valid, Run.told, declared.line.Line.Line}

-- a node that has this name, no drift and wall clock 0, and that is never master
abbrev pub slave_named : List ℕ → NodeLine
slave_named name = record { name = name; rate = pos 0; wall = pos 0; may = false }

-- the header: g (node 0) is on a network with a (node 1), and on one with b (node 2)
abbrev pub two_networks : HeaderValue
two_networks = record {
  drift = 0;
  strict = false;
  nodes = slave_named (codes "g") ∷ slave_named (codes "a") ∷ slave_named (codes "b") ∷ [];
  nets = (0 ∷ 1 ∷ []) ∷ (0 ∷ 2 ∷ []) ∷ [];
}

-- the octets of a message of this kind, with number 0, no time, and a name of one letter
abbrev pub spelled : ℕ → ℕ → List ℕ
spelled kind letter = kind ∷ 1 ∷ 0 ∷ 0 ∷ 0 ∷ 0 ∷ 0 ∷ 0 ∷ 0 ∷ 0 ∷ 0 ∷ 0 ∷ letter ∷ 0 ∷ []

-- those of an ADJTIME with number 7, by so many microseconds, fewer than 256
abbrev pub spelled_adjtime : ℕ → ℕ → List ℕ
spelled_adjtime micros letter = 1 ∷ 1 ∷ 0 ∷ 7 ∷ 0 ∷ 0 ∷ 0 ∷ 0 ∷ 0 ∷ 0 ∷ 0 ∷ micros ∷ letter ∷ 0 ∷ []

-- at this true time g takes these octets on a port, and they seem to come from a node
abbrev pub hands_g : ℕ → ℕ → ℕ → List ℕ → Event
hands_g at port from octets = Bytes at 0 (record { 0 = port }) (Peer (peer from)) octets

-- the events, the newest first. In the order of time: g boots and looks at its timers; b and a say that they are
-- masters (MASTERUP, kind 6); b and a send an ADJTIME each
abbrev pub six_events : List Event
six_events =
    hands_g 84000000 0 1 (spelled_adjtime 10 97) ∷
    hands_g 83000000 1 2 (spelled_adjtime 1 98) ∷
    hands_g 82000000 0 1 (spelled 6 97) ∷
    hands_g 81000000 1 2 (spelled 6 98) ∷
    Turn 80000000 0 ∷
    BootAt 0 0 7 ∷
    []

-- the line of an act of g on a port, at an event and a tick
abbrev pub g_line : ℕ → ℕ → ℕ → Option ℕ → Act → Line
g_line event tick port number act = record { event = event; node = 0; tick = tick; number = number; placed = record { port = record { 0 = port }; act = act } }

-- the line of a Took of a message by g
abbrev pub g_takes : ℕ → ℕ → ℕ → ℕ → MessageValue → Line
g_takes event tick port from m = g_line event tick port None (Took (Peer (peer from)) (Good (Message m)))

-- the line of a post by g, which is datagram number k
abbrev pub g_posts : ℕ → ℕ → ℕ → ℕ → ℕ → MessageValue → Line
g_posts event tick port k to m = g_line event tick port (Some k) (Post (Peer (peer to)) (Message m))

-- the lines of the trace of these events, the oldest first
abbrev pub told_of_six : List Line
told_of_six =
    g_line 1 0 0 None Boot ∷
    g_line 1 0 0 None (Become Starting) ∷
    g_line 1 0 0 None (Arm Quiet 80000000) ∷
    g_line 1 0 1 None (Become Starting) ∷
    g_line 1 0 1 None (Arm Quiet 80000000) ∷
    g_line 2 80000000 0 None (Ring Quiet) ∷
    g_line 2 80000000 0 None (Become Loose) ∷
    g_line 2 80000000 0 None (Arm Search 85000000) ∷
    g_posts 2 80000000 0 0 1 (bare MasterReq 0 (codes "g")) ∷
    g_line 2 80000000 1 None (Ring Quiet) ∷
    g_line 2 80000000 1 None (Become Loose) ∷
    g_line 2 80000000 1 None (Arm Search 85000000) ∷
    g_posts 2 80000000 1 1 2 (bare MasterReq 0 (codes "g")) ∷
    g_takes 3 81000000 1 2 (bare MasterUp 0 (codes "b")) ∷
    g_line 3 81000000 1 None (Become (Follow (peer 2))) ∷
    g_line 3 81000000 1 None (Arm Elect 381000007) ∷
    g_posts 3 81000000 1 2 2 (bare SlaveUp 7 (codes "g")) ∷
    g_takes 4 82000000 0 1 (bare MasterUp 0 (codes "a")) ∷
    g_line 4 82000000 0 None (Become (Follow (peer 1))) ∷
    g_line 4 82000000 0 None (Arm Elect 382000007) ∷
    g_posts 4 82000000 0 3 1 (bare SlaveUp 7 (codes "g")) ∷
    g_takes 5 83000000 1 2 (timed AdjTime 7 (pos 1) (codes "b")) ∷
    g_takes 6 84000000 0 1 (timed AdjTime 7 (pos 10) (codes "a")) ∷
    g_line 6 84000000 0 None (Correct (pos 10) false (pos 84000000)) ∷
    g_line 6 84000000 0 None (Arm Elect 384000007) ∷
    g_posts 6 84000000 0 4 1 (bare Ack 7 (codes "g")) ∷
    []

-- none of the six events is refused, and their trace has these lines; an event on a port that g doesn't have is refused
pub record JoinsTwoNetworks : Type 0 where
  pub valid : Valid two_networks six_events
  pub told_is : told two_networks six_events ≡ told_of_six
  pub refused : refusal (scene two_networks six_events) (hands_g 84000000 2 1 (0 ∷ [])) ≡ Some (NoNode 0 3)
