-- A relayed clock, and a row of four nodes. Node 1 follows node 0 by one port and leads node 3 by another: a round of node 0 corrects it, and a
-- round of its own then corrects node 3. That one leads a network too, and corrects node 2.
use Rattle.std.proofs.Common.{ap, arith, ℕ, true, false, pos, negsuc, List, [], ◌∷◌, refl}
use Rattle.tsp_rules.specs.Values.{Post, Arm, Ring, Close, Correct, Round, CloseAlarm, Message, Stamp, AdjTime, SetTime, TimeBody, Peer, Port, Request}
use Rattle.tsp_base.specs.Words.{Line, ReplyValue, peer_of}
use Rattle.tsp_group.specs.Groups.{better, goes_before, group_from}
use Rattle.tsp_promises.proofs.witness.HistoriesFit.{Stage, after, at, stages_fit, ◌also◌, boots, turns, stands, wins, follows, sets_up, obeys, acked, replies}
use Rattle.tsp_promises.proofs.witness.HistoriesFit.{samples}
use Rattle.tsp_promises.specs.{Chained.Hop, Chained.IsChain, Fits.Fits, RoundUses.ChainUse, RoundUses.Relays}
use Rattle.tsp_promises.proofs.witness.Spots.{Corrects, but_for, corrects_at, hop_in, spot, untouched}
use Rattle.tsp_promises.proofs.{witness.Debts.debts, witness.Debts.not_same, witness.Histories.msg, witness.Histories.skip, witness.Histories.skipped}
use Rattle.tsp_promises.proofs.{witness.Histories.still}
use Rattle.tsp_promises.proofs.witness.PremiseChecks.{kept_by}

abbrev near : ReplyValue
near = record { ticket = 10; word = 7; counter = 0; reading = pos 400000298 }

abbrev distant : ReplyValue
distant = record { ticket = 12; word = 9; counter = 0; reading = pos 500000298 }

abbrev relay_steps : List Stage
relay_steps =
    boots 0 0 7 ∷
    boots 0 1 9 ∷
    boots 0 3 11 ∷
    stands (at 300000000 0 0) ∷
    stands (at 300000000 1 1) ∷
    wins (at 305000000 0 0) ∷
    wins (at 305000000 1 1) ∷
    follows (at 305000000 1 0) 0 9 ∷
    follows (at 305000000 3 0) 1 11 ∷
    sets_up (at 305000001 0 0) 0 1 9 (pos 305000001) ∷
    obeys (at 305000002 1 0) 2 0 (msg SetTime 9 (TimeBody (pos 305000001))) (negsuc 0) true (pos 305000001) ∷
    acked (at 305000003 0 0) 3 1 9 ∷
    sets_up (at 305000004 1 1) 1 3 11 (pos 305000003) ∷
    obeys (at 305000005 3 0) 4 1 (msg SetTime 11 (TimeBody (pos 305000003))) (negsuc 1) true (pos 305000003) ∷
    acked (at 305000006 1 1) 5 3 11 ∷
    turns (at 400000000 0 0) (Ring Round ∷ Arm CloseAlarm 408000000 ∷ Post (Peer (peer_of 1)) (Stamp (Request 7 0)) ∷ []) ∷
    replies (at 400000299 1 0) 6 0 near ∷
    samples (at 400000801 0 0) 7 1 near (negsuc 101) (pos 401) ∷
    turns (at 408000000 0 0) (Ring CloseAlarm ∷ Close 2 (negsuc 101) (pos 102) (negsuc 50) ∷ Correct (negsuc 50) false (pos 408000000) ∷
    Post (Peer (peer_of 1)) (Message (msg AdjTime 10 (TimeBody (pos 51)))) ∷ []) ∷
    obeys (at 408000400 1 0) 8 0 (msg AdjTime 10 (TimeBody (pos 51))) (pos 51) false (pos 408000399) ∷
    acked (at 408000700 0 0) 9 1 10 ∷
    turns (at 500000000 1 1) (Ring Round ∷ Arm CloseAlarm 508000000 ∷ Post (Peer (peer_of 3)) (Stamp (Request 9 0)) ∷ []) ∷
    replies (at 500000300 3 0) 10 1 distant ∷
    samples (at 500000801 1 1) 11 3 distant (negsuc 151) (pos 401) ∷
    turns (at 508000000 1 1) (Ring CloseAlarm ∷ Close 2 (negsuc 151) (pos 152) (pos 0) ∷
    Post (Peer (peer_of 3)) (Message (msg AdjTime 12 (TimeBody (pos 152)))) ∷ []) ∷
    obeys (at 508000400 3 0) 12 1 (msg AdjTime 12 (TimeBody (pos 152))) (pos 152) false (pos 508000398) ∷
    acked (at 508000700 1 1) 13 3 12 ∷
    []

-- the history after so many steps
abbrev pub relay : ℕ → List Line
relay k = after k relay_steps []

relay_fits : Fits (still false) (relay 27)
unfolding group_from goes_before better
relay_fits =
    stages_fit false 27 relay_steps [] tt refl ((search debts) also (search debts) also (search debts) also (search debts) also
    (search debts) also (search debts) also
    (search debts) also (search debts) also (search debts) also (search debts) also (search debts) also (search debts) also
    (search debts) also (search debts) also (search debts))

abbrev pub near_hop : Hop
near_hop = hop_in (relay 27) 25 30 36 (pos 401)

abbrev pub far_hop : Hop
far_hop = hop_in (relay 27) 4 8 14 (pos 401)

pub near_round : Corrects 0 near_hop
near_round = corrects_at near_hop (spot 7 (skip 26 (relay 27)) refl) (search arith)

far_round : Corrects 1 far_hop
far_round = corrects_at far_hop (spot 6 (skip 5 (relay 27)) refl) (search arith)

-- a gateway relays its master's clock
pub relays : Relays
relays = record {
  history = kept_by false (relay 27) relay_fits refl refl refl refl;
  gateway = 1;
  master = 0;
  first = near_hop;
  last = far_hop;
  corrected = record { from_round = near_round; unchanged = untouched refl refl refl };
  relayed = record { from_round = far_round; unchanged = untouched refl refl refl };
  node = refl;
  ports = λ e. not_same 0 1 (omega arith) (ap (λ (p : Port). p.0) e);
  before = skipped 16 (skip 9 (relay 27));
  unchanged_but = but_for (spot 29 (relay 27) refl) refl refl refl refl refl;
}

abbrev last : ReplyValue
last = record { ticket = 14; word = 11; counter = 0; reading = pos 1000000449 }

abbrev row_steps : List Stage
row_steps =
    boots 510000000 2 13 ∷
    stands (at 900000000 3 1) ∷
    wins (at 905000000 3 1) ∷
    follows (at 905000000 2 1) 3 13 ∷
    sets_up (at 905000001 3 1) 14 2 13 (pos 905000151) ∷
    obeys (at 905000002 2 1) 15 3 (msg SetTime 13 (TimeBody (pos 905000151))) (pos 149) true (pos 905000151) ∷
    acked (at 905000003 3 1) 16 2 13 ∷
    turns (at 1000000000 3 1) (Ring Round ∷ Arm CloseAlarm 1008000000 ∷ Post (Peer (peer_of 2)) (Stamp (Request 11 0)) ∷ []) ∷
    replies (at 1000000300 2 1) 17 3 last ∷
    samples (at 1000000801 3 1) 18 2 last (negsuc 100) (pos 401) ∷
    turns (at 1008000000 3 1) (Ring CloseAlarm ∷ Close 2 (negsuc 100) (pos 101) (pos 0) ∷
    Post (Peer (peer_of 2)) (Message (msg AdjTime 14 (TimeBody (pos 101)))) ∷ []) ∷
    obeys (at 1008000400 2 1) 19 3 (msg AdjTime 14 (TimeBody (pos 101))) (pos 101) false (pos 1008000549) ∷
    acked (at 1008000700 3 1) 20 2 14 ∷
    []

abbrev last_hop : Hop
last_hop = hop_in (after 13 row_steps (relay 27)) 4 8 14 (pos 401)

two : IsChain near_hop (far_hop ∷ []) (after 13 row_steps (relay 27))
two = (record { from_round = far_round; unchanged = untouched refl refl refl }, skipped 16 (skip 9 (relay 27)), tt)

-- a row of four nodes
pub chain_use : ChainUse
chain_use = record {
  history = kept_by false (after 13 row_steps (relay 27)) (stages_fit false 13 row_steps (relay 27) relay_fits refl (search debts)) refl refl refl refl;
  master = 0;
  first = near_hop;
  rest = last_hop ∷ (far_hop ∷ []);
  begins = record { from_round = near_round; unchanged = untouched refl refl refl };
  chain = (
    record {
      from_round = corrects_at last_hop (spot 6 (skip 5 (after 13 row_steps (relay 27))) refl) (search arith);
      unchanged = untouched refl refl refl;
    },
    skipped 38 (skip 9 (after 13 row_steps (relay 27))),
    two,
  );
  long = omega arith;
  left_alone = but_for (spot 72 (after 13 row_steps (relay 27)) refl) refl refl refl refl refl;
  other = far_hop ∷ [];
  other_chain = two;
  apart = not_same 2 3 (omega arith);
}
