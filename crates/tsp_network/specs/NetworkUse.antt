-- Two daemons in use: an election, the setting of a clock, a round, and what it corrects. Then what is asked of the events of a network is
-- needed: without it, what the daemons do isn't the run; and a copy that comes to another daemon than it is addressed to breaks a promise.
use Rattle.std.specs.Prelude.{◌≡◌, ℕ, zero, suc, ◌==◌, pos, negsuc, true, false, if◌then◌else◌, List, [], ◌∷◌, ◌++◌, codes, ◌≢◌, None, Some, slice_get}
use Rattle.tsp_rules.specs.Values.{Act, Boot, Took, Post, Become, Arm, Ring, Back, Backer, Close, Correct, Sample, Acked, Join, Quiet, Window, Elect, Search}
use Rattle.tsp_rules.specs.Values.{Round, Probe, CloseAlarm, Message, Stamp, Good, Accept, Ack, AdjTime, Election, MasterReq, MasterUp, NodeLine, SetTime}
use Rattle.tsp_rules.specs.Values.{SlaveUp, Peer, Starting, Loose, Follow, Candidate, Master, Request, Reply, Event, BootAt, Turn, Take, Bytes, Place, Stranger}
use Rattle.tsp_base.specs.Words.{Acts, Begins, Deed, HeaderValue, Line, bare, timed, peer_of as peer, first_port}
use Rattle.tsp_args.specs.declared.serve.{Candidacy.TheVariants.Never, Candidacy.TheVariants.Plain, ServeWords.ServeWords}
use Rattle.tsp_args.specs.declared.serve.Candidacy.{Candidacy}
use Rattle.tsp_io.specs.declared.addr.Addr.{Addr}
use Rattle.tsp_promises.specs.{Once.OnceObeyed, Premises.Honest, Premises.Life, Premises.Words, Setting.Setting}
use Rattle.tsp_run.specs.{Clocked.PossibleBy, Clocked.clocks_of, Clocked.run_by, Networks.networks, declared.address.Address.Address}
use Rattle.tsp_network.specs.{Events.IsNetwork, Events.AllHappen, Networks.network, Networks.Network, Networks.Sent, Networks.delivers}
use Rattle.tsp_network.specs.{Lives.Daemons, Lives.addresses, Lives.AreStarted, Rosters.destination}

-- a may be master
abbrev pub node_a : NodeLine
node_a = record { name = codes "a"; rate = pos 0; wall = pos 0; may = true }

-- b may not; its wall clock is 10 milliseconds ahead
abbrev pub node_b : NodeLine
node_b = record { name = codes "b"; rate = pos 0; wall = pos 10000; may = false }

-- the header: a is node 0 and b node 1, on one network
abbrev pub two_nodes : HeaderValue
two_nodes = record {
  drift = 0;
  strict = false;
  nodes = node_a ∷ node_b ∷ [];
  nets = [];
}

-- the address of a node on a network
abbrev pub network_address : ℕ → ℕ → Addr
network_address k m = record { ip = 10 ∷ 0 ∷ k ∷ m ∷ []; port = 525 }

-- the arguments that start a daemon of this name on these networks, as node n
abbrev pub words_for : List (List ℕ) → List ℕ → Candidacy → ℕ → ServeWords
words_for nets name candidacy n = record {
  local = network_address 0 n;
  name = name;
  candidacy = candidacy;
  turns = 1000;
  ports = addresses network_address n 0 nets;
}

-- those of each node
abbrev pub two_words : ℕ → ServeWords
two_words zero = words_for (networks two_nodes) (codes "a") Plain 0
two_words (suc n) = words_for (networks two_nodes) (codes "b") Never 1

-- their daemons. Both nodes' ticks begin 1 second before the daemons do, whose counters begin with 0
abbrev pub two_daemons : Daemons
two_daemons =
    record {
      header = two_nodes;
      clocks = clocks_of two_nodes;
      words = two_words;
      address = network_address;
      origin = λ k. 1000000;
      early =
          λ k. 0;
      tries = λ k. None;
    }

-- the events, the newest first. In the order of time: both start; they search a master; a stands for election, b backs it, and a is
-- master; b follows it, is set by a SETTIME and acknowledges it; a round asks b for its clock four times and takes one answer, and its ADJTIME
-- corrects b
abbrev pub used : List Event
used =
    Take 639000700 15 ∷
    Take 639000400 14 ∷
    Turn 639000000 0 ∷
    Turn 634000000 0 ∷
    Turn 633000000 0 ∷
    Turn 632000000 0 ∷
    Take 631000801 10 ∷
    Take 631000300 9 ∷
    Turn 631000000 0 ∷
    Take 391001800 7 ∷
    Take 391001400 6 ∷
    Take 391001000 5 ∷
    Take 391000500 4 ∷
    Turn 391000000 0 ∷
    Take 386000006 3 ∷
    Take 386000003 2 ∷
    Turn 386000000 0 ∷
    Turn 86000000 1 ∷
    Turn 86000000 0 ∷
    Turn 81000000 1 ∷
    Turn 81000000 0 ∷
    BootAt 1000000 1 9 ∷
    BootAt 1000000 0 0 ∷
    []

-- the act of a deed, if it isn't the mark of a step
abbrev pub act_of_deed : Deed → List Act
act_of_deed Begins = []
act_of_deed (Acts a) = a ∷ []

-- what a node did in a history, the oldest first
abbrev pub acts_by_node : ℕ → List Line → List Act
acts_by_node n [] = []
acts_by_node n (l ∷ before) = acts_by_node n before ++ (if l.did.step.node == n then act_of_deed l.did.deed else [])

-- what a does: it is elected, sets b's clock, and closes a round, which corrects both clocks
abbrev pub acts_of_a : List Act
acts_of_a =
    Boot ∷ Become Starting ∷ Arm Quiet 81000000 ∷
    Ring Quiet ∷ Become Loose ∷ Arm Search 86000000 ∷ Post (Peer (peer 1)) (Message (bare MasterReq 0 (codes "a"))) ∷
    Ring Search ∷ Arm Elect 386000000 ∷
    Ring Elect ∷ Become Candidate ∷ Back (peer 0) ∷ Arm Window 391000000 ∷ Post (Peer (peer 1)) (Message (bare Election 32768 (codes "a"))) ∷
    Took (Peer (peer 1)) (Good (Message (bare Accept 32768 (codes "b")))) ∷ Acked (peer 1) ∷ Backer (peer 1) ∷
    Ring Window ∷ Become Master ∷ Arm Round 631000000 ∷ Post (Peer (peer 1)) (Message (bare MasterUp 0 (codes "a"))) ∷
    Took (Peer (peer 1)) (Good (Message (bare SlaveUp 9 (codes "b")))) ∷ Join (peer 1) ∷
    Post (Peer (peer 1)) (Message (timed SetTime 9 (pos 391001000) (codes "a"))) ∷
    Took (Peer (peer 1)) (Good (Message (bare Ack 9 (codes "b")))) ∷ Acked (peer 1) ∷
    Ring Round ∷ Arm Round 871000000 ∷ Arm Probe 632000000 ∷ Arm CloseAlarm 639000000 ∷ Post (Peer (peer 1)) (Message (bare MasterUp 0 (codes "a"))) ∷
    Post (Peer (peer 1)) (Stamp (Request 0 0)) ∷
    Took (Peer (peer 1)) (Good (Stamp (Reply (record { ticket = 10; word = 0; counter = 0; reading = pos 630999900 })))) ∷
    Sample (peer 1) 0 (negsuc 499) (pos 401) 10 ∷
    Ring Probe ∷ Post (Peer (peer 1)) (Stamp (Request 0 1)) ∷ Arm Probe 633000000 ∷
    Ring Probe ∷ Post (Peer (peer 1)) (Stamp (Request 0 2)) ∷ Arm Probe 634000000 ∷
    Ring Probe ∷ Post (Peer (peer 1)) (Stamp (Request 0 3)) ∷
    Ring CloseAlarm ∷ Close 2 (negsuc 499) (pos 500) (negsuc 249) ∷ Correct (negsuc 249) false (pos 639000000) ∷
    Post (Peer (peer 1)) (Message (timed AdjTime 10 (pos 250) (codes "a"))) ∷
    Took (Peer (peer 1)) (Good (Message (bare Ack 10 (codes "b")))) ∷ Acked (peer 1) ∷
    []

-- what b does: it backs a, follows it, answers its measurement, and is corrected twice
abbrev pub acts_of_b : List Act
acts_of_b =
    Boot ∷ Become Starting ∷ Arm Quiet 81000000 ∷
    Ring Quiet ∷ Become Loose ∷ Arm Search 86000000 ∷ Post (Peer (peer 0)) (Message (bare MasterReq 0 (codes "b"))) ∷
    Ring Search ∷ Arm Elect 386000009 ∷
    Took (Peer (peer 0)) (Good (Message (bare Election 32768 (codes "a")))) ∷ Back (peer 0) ∷ Arm Elect 686000012 ∷
    Post (Peer (peer 0)) (Message (bare Accept 32768 (codes "b"))) ∷
    Took (Peer (peer 0)) (Good (Message (bare MasterUp 0 (codes "a")))) ∷ Become (Follow (peer 0)) ∷ Arm Elect 691000509 ∷
    Post (Peer (peer 0)) (Message (bare SlaveUp 9 (codes "b"))) ∷
    Took (Peer (peer 0)) (Good (Message (timed SetTime 9 (pos 391001000) (codes "a")))) ∷ Correct (negsuc 10399) true (pos 391001000) ∷ Arm Elect 691001409 ∷
    Post (Peer (peer 0)) (Message (bare Ack 9 (codes "b"))) ∷
    Took (Peer (peer 0)) (Good (Stamp (Request 0 0))) ∷ Post (Peer (peer 0)) (Stamp
    (Reply (record { ticket = 10; word = 0; counter = 0; reading = pos 630999900 }))) ∷
    Took (Peer (peer 0)) (Good (Message (timed AdjTime 10 (pos 250) (codes "a")))) ∷ Correct (pos 250) false (pos 639000000) ∷ Arm Elect 939000409 ∷
    Post (Peer (peer 0)) (Message (bare Ack 10 (codes "b"))) ∷
    []

-- the daemons and the events are a network's, in whose history a and b do this. No datagram is forged or lives too long, and the words of the
-- two boots differ: so each promise that asks this holds of it
pub record NetworkUse : Type 0 where
  pub is : IsNetwork two_daemons used
  pub master : acts_by_node 0 (network two_daemons used).history ≡ acts_of_a
  pub slave : acts_by_node 1 (network two_daemons used).history ≡ acts_of_b
  pub honest : Honest (network two_daemons used).history
  pub life : Life (network two_daemons used).history
  pub words : Words (network two_daemons used).history

-- the header: a alone, on two networks
abbrev pub one_node : HeaderValue
one_node = record { drift = 0; strict = false; nodes = node_a ∷ []; nets = (0 ∷ []) ∷ (0 ∷ []) ∷ [] }

-- its daemon, which has no peers. The node's tick is this one when the daemon's counter is at 0
abbrev pub one_daemon : ℕ → Daemons
one_daemon origin = record {
  header = one_node;
  clocks = clocks_of one_node;
  words = λ n. words_for (networks one_node) (codes "a") Plain n;
  address = network_address;
  origin = λ k. origin;
  early = λ k. 0;
  tries = λ k. None;
}

-- it starts
abbrev pub start : List Event
start = BootAt 0 0 0 ∷ []

-- it starts, and no octets come, as from this sender, on its second port
abbrev pub on_second_port : Place → List Event
on_second_port from = Bytes 1 0 (record { 0 = 1 }) from [] ∷ start

-- a run is possible whose events can't all happen to these daemons; and what they do at the events isn't the run
pub record IsOther (d : Daemons) (events : List Event) : Type 0 where
  pub started : AreStarted d
  pub possible : PossibleBy d.clocks d.header events
  pub cannot : ¬ AllHappen d events
  pub differs : (network d events).history ≢ run_by d.clocks d.header events

-- what isn't a network
pub record NetworksBreak : Type 0 where
  -- a daemon starts before its counter does
  pub mistimed : IsOther (one_daemon 5) start
  -- a stranger's octets come on the second port
  pub stranger : IsOther (one_daemon 0) (on_second_port Stranger)
  -- octets come on the second port, as from the daemon's own address
  pub own : IsOther (one_daemon 0) (on_second_port (Peer (peer 0)))

-- the header: a, b, and c (node 2), which may not be master either and whose wall clock is 10 milliseconds ahead of b's, on one network
abbrev pub three_nodes : HeaderValue
three_nodes = record {
  drift = 0;
  strict = false;
  nodes = node_a ∷ node_b ∷ record { name = codes "c"; rate = pos 0; wall = pos 20000; may = false } ∷ [];
  nets = [];
}

-- those of each node
abbrev pub three_words : ℕ → ServeWords
three_words zero = words_for (networks three_nodes) (codes "a") Plain 0
three_words (suc zero) = words_for (networks three_nodes) (codes "b") Never 1
three_words (suc (suc n)) = words_for (networks three_nodes) (codes "c") Never 2

-- their daemons, whose counters are their nodes' ticks
abbrev pub three_daemons : Daemons
three_daemons =
    record {
      header = three_nodes;
      clocks = clocks_of three_nodes;
      words = three_words;
      address = network_address;
      origin = λ k. 0;
      early =
          λ k. 0;
      tries = λ k. None;
    }

-- the events, the newest first. In the order of time: all start, b and c with one word; b and c back a, which is elected; they follow it; and
-- it answers b's SLAVEUP by a SETTIME, which is datagram 14
abbrev pub led : List Event
led =
    Take 390001000 12 ∷
    Take 390000500 11 ∷
    Take 390000500 10 ∷
    Turn 390000000 0 ∷
    Take 385000007 9 ∷
    Take 385000006 8 ∷
    Take 385000004 7 ∷
    Take 385000003 6 ∷
    Turn 385000000 0 ∷
    Turn 85000000 2 ∷
    Turn 85000000 1 ∷
    Turn 85000000 0 ∷
    Turn 80000000 2 ∷
    Turn 80000000 1 ∷
    Turn 80000000 0 ∷
    BootAt 0 2 9 ∷
    BootAt 0 1 9 ∷
    BootAt 0 0 0 ∷
    []

-- where a node is reached on its first port
abbrev pub first_at : ℕ → Address
first_at n = record { node = n; port = first_port }

-- a copy of send 14 comes to c, wherever the send goes
abbrev pub astray : Sent → Network
astray s = delivers three_daemons 18 390001400 14 s (Some (first_at 2)) (network three_daemons led)

-- the events are a network's; then a copy of a send that goes to b comes to c. Nobody has forged a datagram, and yet a follower's clock is
-- moved as its master didn't say
pub record Misdelivered : Type 0 where
  pub is : IsNetwork three_daemons led
  pub send : Sent
  pub there : slice_get (network three_daemons led).sent 14 ≡ Some send
  pub goes : destination (networks three_nodes) send.from send.tried.0 ≡ Some (first_at 1)
  pub honest : Honest (astray send).history
  pub broken : (setting : Setting) → ¬ OnceObeyed setting (astray send).history
