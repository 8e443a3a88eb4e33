-- A port's alarms, one after the other.
use Rattle.std.proofs.Common.{◌≡◌, ◌+◌, ◌*◌, ◌<◌, ◌≤◌, ◌++◌, ◌∷◌, [], ℕ, zero, suc, List, length, take, drop, arith, refl, ap, append-nil, ◌∙◌, slice_index_or}
use Rattle.tsp_rules.specs.Values.{Placed, Alarm, Quiet, Probe, Port, ALL}
use Rattle.tsp_rules.specs.{GateRows.alarm_on, GateRows.alarms_on, GateRows.each_on, NodePerforms.PerformsAll}
use Rattle.tsp_rules.specs.NodeRows.{NodePast, NodeRow, nothing_at_all, spread, ◌and_then◌}
use Rattle.tsp_node.proofs.AlarmCases.{take_one_more}
use Rattle.tsp_gateway.{proofs.LiftLemmas.All_nothing, specs.Rooms.alarm_room, specs.Rooms.alarms_room}

alarms_room_more : (alarms : List Alarm) (a : Alarm) (peers : ℕ) → alarms_room (alarms ++ a ∷ []) peers ≡ alarms_room alarms peers + alarm_room a peers
alarms_room_more [] a peers = omega arith
alarms_room_more (b ∷ rest) a peers = let more = alarms_room_more rest a peers in omega (arith, more)

pub alarms_room_front : (alarms : List Alarm) (i peers : ℕ) → alarms_room (take i alarms) peers ≤ alarms_room alarms peers
alarms_room_front alarms zero peers = omega arith
alarms_room_front [] (suc i) peers = omega arith
alarms_room_front (a ∷ rest) (suc i) peers = let front = alarms_room_front rest i peers in omega (arith, front)

-- one alarm more of all
pub alarms_room_next : (i peers : ℕ) → i < length ALL → alarms_room (take (i + 1) ALL) peers ≡
    alarms_room (take i ALL) peers + alarm_room (slice_index_or ALL i Quiet) peers
alarms_room_next i peers lt = ap (λ alarms. alarms_room alarms peers) (take_one_more ALL i Quiet lt) ∙
    alarms_room_more (take i ALL) (slice_index_or ALL i Quiet) peers

pub little_room : (a : Alarm) (peers : ℕ) → 2 * peers + 8 ≤ alarm_room a peers
little_room Probe peers = omega arith
little_room _ peers = omega arith

-- a row for each of these alarms, with nothing after the last
abbrev pub all_on : Port → List Alarm → NodeRow
all_on q [] = nothing_at_all
all_on q (a ∷ rest) = alarm_on q a and_then all_on q rest

all_on_is : (q : Port) (alarms : List Alarm) (x : ℕ) (past : NodePast) → all_on q alarms x past ≡ each_on q alarms x past
unfolding nothing_at_all ◌and_then◌
all_on_is q [] x past = refl
all_on_is q (a ∷ []) x past = append-nil (alarm_on q a x past)
all_on_is q (a ∷ b ∷ rest) x past = ap (λ acts. alarm_on q a x past ++ acts) (all_on_is q (b ∷ rest) x (spread x past (alarm_on q a x past)))

pub all_on_alarms : (q : Port) (x : ℕ) (past : NodePast) → all_on q ALL x past ≡ alarms_on q x past
unfolding alarms_on
all_on_alarms q x past = all_on_is q ALL x past

-- the alarms from one on
drop_suc : {A : Type 0} (xs : List A) (i : ℕ) (d : A) → i < length xs → drop i xs ≡ slice_index_or xs i d ∷ drop (suc i) xs
drop_suc [] i d h = absurd (omega arith)
drop_suc (x ∷ xs) zero d h = refl
drop_suc (x ∷ xs) (suc i) d h = drop_suc xs i d (omega arith)

pub drop_next : {A : Type 0} (xs : List A) (i : ℕ) (d : A) → i < length xs → drop i xs ≡ slice_index_or xs i d ∷ drop (i + 1) xs
drop_next xs i d h = let one : suc i ≡ i + 1 = omega arith in drop_suc xs i d h ∙ ap (λ k. slice_index_or xs i d ∷ drop k xs) one

pub drop_all : {A : Type 0} (i : ℕ) (xs : List A) → length xs ≤ i → drop i xs ≡ []
drop_all zero [] h = refl
drop_all (suc i) [] h = refl
drop_all zero (x ∷ xs) h = absurd (omega arith)
drop_all (suc i) (x ∷ xs) h = drop_all i xs (omega arith)

-- with no alarm left nothing is to be done
pub nothing_left : {S : Type 0} {p : NodePast → S → Type 0} (q : Port) {x : ℕ} {state : S} {old : List Placed} →
    PerformsAll p p (all_on q []) x state state old old
unfolding nothing_at_all
nothing_left q = All_nothing
