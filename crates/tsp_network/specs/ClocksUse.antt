-- Clocks in use that no one tuned: counters that change their rates as often as one likes, within the drift, stay within it; and two daemons with
-- such counters, of which one starts again with another wall clock.
use Rattle.std.specs.Prelude.{◌≡◌, ℕ, ◌+◌, ◌-◌, ◌*◌, ◌/◌, ◌==◌, ◌≤◌, nat_le, pos, negsuc, true, false, if◌then◌else◌, List, [], ◌∷◌, ◌++◌, None}
use Rattle.tsp_rules.specs.Values.{Act, Boot, Become, Join, Close, Correct, Event, BootAt, Turn, Take, Starting, Loose, Follow, Candidate, Master}
use Rattle.tsp_base.specs.Words.{HeaderValue, peer_of as peer}
use Rattle.tsp_promises.specs.{Measured.Measured, Premises.Honest, Premises.Life, Premises.Words, Setting.KeepsTime, Setting.Setting}
use Rattle.tsp_run.specs.Clocked.{Clocks}
use Rattle.tsp_network.specs.{Events.IsNetwork, Lives.Daemons, Networks.network, NetworkUse.acts_by_node, NetworkUse.network_address}
use Rattle.tsp_network.specs.NetworkUse.{node_a, node_b, two_words}

-- a stretch of true time, in microseconds, and the speed of a counter over it, in parts in a million of that of true time
pub record Stretch : Type 0 where
  pub long : ℕ
  pub speed : ℕ

-- how far a counter comes that runs through these stretches and then at the last speed, in parts in a million of a tick
abbrev pub paced : List Stretch → ℕ → ℕ → ℕ
paced [] last t = last * t
paced (s ∷ rest) last t = if nat_le t s.long then s.speed * t else s.speed * s.long + paced rest last (t - s.long)

-- its tick
abbrev pub paced_tick : List Stretch → ℕ → ℕ → ℕ
paced_tick stretches last t = paced stretches last t / 1000000

-- a speed differs from that of true time by at most the drift
pub record IsPace (drift speed : ℕ) : Type 0 where
  pub fast : speed ≤ 1000000 + drift
  pub slow : 1000000 ≤ speed + drift

-- so do the speeds of all of these stretches
abbrev pub ArePaces : ℕ → List Stretch → Type 0
ArePaces drift [] = Unit {0}
ArePaces drift (s ∷ rest) = IsPace drift s.speed × ArePaces drift rest

-- a counter whose rate changes so keeps the drift
abbrev pub AnyPacesKeepTime : Type 0
AnyPacesKeepTime =
    (drift : ℕ) (stretches : List Stretch) (last : ℕ) → drift ≤ 1000000 → ArePaces drift stretches → IsPace drift last →
    KeepsTime drift (paced_tick stretches last)

-- the counters of a and b: each is 80 parts in a million too fast or too slow, in turn, and changes at some times that were drawn by lot
abbrev pub paces_of_a : List Stretch
paces_of_a =
    record { long = 191570665; speed = 1000080 } ∷
    record { long = 73387926; speed = 999920 } ∷
    record { long = 194497081; speed = 1000080 } ∷
    record { long = 188068711; speed = 999920 } ∷
    record { long = 195013807; speed = 1000080 } ∷
    record { long = 160271952; speed = 999920 } ∷
    []

abbrev pub paces_of_b : List Stretch
paces_of_b =
    record { long = 141670111; speed = 999920 } ∷
    record { long = 78243187; speed = 1000080 } ∷
    record { long = 78910211; speed = 999920 } ∷
    record { long = 173408878; speed = 1000080 } ∷
    record { long = 43704025; speed = 999920 } ∷
    record { long = 56167142; speed = 1000080 } ∷
    record { long = 191044867; speed = 999920 } ∷
    record { long = 117817969; speed = 1000080 } ∷
    record { long = 47863576; speed = 999920 } ∷
    []

-- a's wall clock, and b's in its first life and in any later one
abbrev pub wandering : Clocks
wandering = record {
  tick = λ n t. if n == 0 then paced_tick paces_of_a 1000080 t else paced_tick paces_of_b 1000080 t;
  wall = λ n life. if n == 0 then negsuc 479686 else (if life == 1 then pos 2931413 else pos 4978241);
}

-- a (node 0) may be master, and b (node 1) may not; they are on one network. The drift is 80 parts in a million
abbrev pub two_wanderers : HeaderValue
two_wanderers = record { drift = 80; strict = false; nodes = node_a ∷ node_b ∷ []; nets = [] }

-- their daemons, whose counters are their nodes' ticks
abbrev pub wandering_daemons : Daemons
wandering_daemons = record {
  header = two_wanderers;
  clocks = wandering;
  words = two_words;
  address = network_address;
  origin = λ k. 0;
  early = λ k. 0;
  tries = λ k. None;
}

-- the events, the newest first. In the order of time: both start; a is elected, and sets b's clock; two rounds; b starts again, and
-- follows; and a round
abbrev pub wandered : List Event
wandered =
    Take 1118989268 34 ∷
    Take 1118988785 33 ∷
    Turn 1118987943 0 ∷
    Turn 1113994600 0 ∷
    Turn 1112991855 0 ∷
    Take 1111990363 30 ∷
    Take 1111990099 29 ∷
    Turn 1111989742 0 ∷
    Turn 1110988554 0 ∷
    Take 980299427 26 ∷
    Take 980298099 25 ∷
    Take 980296699 24 ∷
    Turn 980296407 1 ∷
    BootAt 900295724 1 1899 ∷
    Take 878989074 23 ∷
    Take 878988631 22 ∷
    Turn 878987557 0 ∷
    Turn 873990663 0 ∷
    Turn 872990311 0 ∷
    Take 871991014 19 ∷
    Take 871990560 18 ∷
    Turn 871989064 0 ∷
    Turn 870986300 0 ∷
    Take 639000874 15 ∷
    Take 638999503 14 ∷
    Turn 638998635 0 ∷
    Turn 634004462 0 ∷
    Turn 633001533 0 ∷
    Take 632002276 11 ∷
    Take 632001601 10 ∷
    Turn 632000308 0 ∷
    Turn 630997877 0 ∷
    Take 390992593 7 ∷
    Take 390991777 6 ∷
    Take 390990684 5 ∷
    Take 390989956 4 ∷
    Turn 390988743 0 ∷
    Take 385989459 3 ∷
    Take 385989060 2 ∷
    Turn 385988586 0 ∷
    Turn 86824404 1 ∷
    Turn 85997743 0 ∷
    Turn 81821022 1 ∷
    Turn 80996526 0 ∷
    BootAt 1812874 1 943 ∷
    BootAt 1000000 0 737 ∷
    []

-- an act, if it is a boot, a role, the joining of a slave, the closing of a round, or a correction
abbrev pub course_act : Act → List Act
course_act Boot = Boot ∷ []
course_act (Become role) = Become role ∷ []
course_act (Join p) = Join p ∷ []
course_act (Close count lo width mean) = Close count lo width mean ∷ []
course_act (Correct amount steps target) = Correct amount steps target ∷ []
course_act _ = []

-- those of some acts
abbrev pub course : List Act → List Act
course [] = []
course (a ∷ rest) = course_act a ++ course rest

-- a is elected, sets b's clock, and closes three rounds. In the third b's new clock, which is 5.4 seconds ahead, isn't in the group
abbrev pub course_of_a : List Act
course_of_a =
    Boot ∷ Become Starting ∷ Become Loose ∷ Become Candidate ∷ Become Master ∷ Join (peer 1) ∷
    Close 2 (pos 0) (pos 10247) (pos 5123) ∷ Correct (pos 5123) false (pos 638529598) ∷
    Close 2 (negsuc 13574) (pos 13575) (negsuc 6787) ∷ Correct (negsuc 6787) false (pos 878535647) ∷
    Close 1 (pos 0) (pos 0) (pos 0) ∷ Correct (pos 0) false (pos 1118528633) ∷
    []

-- b follows, is set, and is corrected twice; it starts again, follows, and is corrected
abbrev pub course_of_b : List Act
course_of_b =
    Boot ∷ Become Starting ∷ Become Loose ∷ Become (Follow (peer 0)) ∷
    Correct (negsuc 3388641) true (pos 390530534) ∷ Correct (negsuc 5123) false (pos 638540405) ∷ Correct (pos 6787) false (pos 878523744) ∷
    Boot ∷ Become Starting ∷ Become Loose ∷ Become (Follow (peer 0)) ∷
    Correct (negsuc 5446605) false (pos 1123976034) ∷
    []

-- the daemons and the events are a network's, in whose history a and b take this course. No datagram is forged or lives too long, and the words
-- of the boots differ: so each promise that asks this holds of it
pub record ClocksUse : Type 0 where
  pub is : IsNetwork wandering_daemons wandered
  pub master : course (acts_by_node 0 (network wandering_daemons wandered).history) ≡ course_of_a
  pub slave : course (acts_by_node 1 (network wandering_daemons wandered).history) ≡ course_of_b
  pub honest : Honest (network wandering_daemons wandered).history
  pub life : Life (network wandering_daemons wandered).history
  pub words : Words (network wandering_daemons wandered).history

-- a setting that has these counters, and one wall clock for all lives of a node: that of its first
pub record ForgetsLives (clocks : Clocks) (setting : Setting) : Type 0 where
  pub tick_is : (n t : ℕ) → setting.tick n t ≡ clocks.tick n t
  pub wall_is : (n life : ℕ) → setting.wall n life ≡ clocks.wall n 1

-- in no such setting does each measurement in this network err by at most its err: the wall clock of b's second life is another
abbrev pub LivesCount : Type 0
LivesCount = (setting : Setting) → ForgetsLives wandering setting → ¬ Measured setting (network wandering_daemons wandered).history
