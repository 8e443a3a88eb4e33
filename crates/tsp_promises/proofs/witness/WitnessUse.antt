-- Ordinary use: three nodes boot and one is elected; two follow it, are set by a SETTIME each and acknowledge it;
-- then comes a whole round.
use Rattle.std.proofs.Common.{arith, ◌≡◌, ◌≢◌, ℕ, ◌-◌, Bool, true, false, ℤ, pos, negsuc, List, [], ◌∷◌, is_some, refl}
use Rattle.std.proofs.lemmas.Int.{ints}
use Rattle.tsp_rules.specs.Values.{Post, Arm, Ring, Close, Correct, Round, CloseAlarm, Message, Stamp, AdjTime, SetTime, SlaveUp, Nothing, TimeBody, Peer}
use Rattle.tsp_rules.specs.Values.{Request}
use Rattle.tsp_base.specs.Words.{Came, Turned, Line, ReplyValue, dids, of, view, Within, heard, peer_of}
use Rattle.tsp_group.specs.Groups.{better, goes_before, group_from}
use Rattle.tsp_promises.specs.RoundUses.{OrdinaryUse, PrintsUse, SetUse, ShownUse}
use Rattle.tsp_promises.proofs.witness.HistoriesFit.{Stage, after, at, stages_fit, skip_fits, boots, turns, stands, wins, follows, sets_up, obeys, acked}
use Rattle.tsp_promises.proofs.witness.HistoriesFit.{replies}
use Rattle.tsp_promises.proofs.witness.HistoriesFit.{samples}
use Rattle.tsp_promises.proofs.witness.Spots.{Computed, Corrects, but_for, corrects_at, hop_in, spot, untouched}
use Rattle.tsp_promises.specs.{Chained.Hop, Fits.Fits, Kept.Example, OneError.FromSlaveUp, OneError.Taking}
use Rattle.tsp_promises.proofs.{witness.Histories.does, witness.Histories.msg, witness.Histories.skip, witness.Histories.skipped, witness.Histories.still}
use Rattle.tsp_promises.proofs.{witness.PremiseChecks.kept_by}
use Rattle.tsp_promises.proofs.{witness.Debts.debts, witness.Debts.not_same, witness.PremiseChecks.read_by, witness.PremiseChecks.read_at_by}
use Rattle.tsp_promises.proofs.{witness.PremiseChecks.unstepped_by}
use Rattle.tsp_promises.proofs.{promised.TakingProof.reading_of, promised.TakingProof.taking_of, witness.StepChecks.port0}

abbrev lead_steps : List Stage
lead_steps =
    boots 0 0 7 ∷
    boots 0 1 9 ∷
    boots 0 2 11 ∷
    stands (at 300000000 0 0) ∷
    wins (at 305000000 0 0) ∷
    []

-- the history after so many steps
abbrev pub lead : ℕ → List Line
lead k = after k lead_steps []

pub led : Fits (still false) (lead 5)
led = stages_fit false 5 lead_steps [] tt refl (search debts)

pub booted : Fits (still false) (lead 3)
booted = skip_fits false 7 (lead 5) led

abbrev pub reply1 : ReplyValue
reply1 = record { ticket = 10; word = 7; counter = 0; reading = pos 400000299 }

abbrev pub reply2 : ReplyValue
reply2 = record { ticket = 12; word = 7; counter = 1; reading = pos 400000299 }

abbrev usual_steps : List Stage
usual_steps =
    follows (at 305000000 1 0) 0 9 ∷
    follows (at 305000000 2 0) 0 11 ∷
    sets_up (at 305000001 0 0) 0 1 9 (pos 305000001) ∷
    obeys (at 305000002 1 0) 2 0 (msg SetTime 9 (TimeBody (pos 305000001))) (negsuc 0) true (pos 305000001) ∷
    acked (at 305000003 0 0) 3 1 9 ∷
    sets_up (at 305000004 0 0) 1 2 11 (pos 305000004) ∷
    obeys (at 305000005 2 0) 4 0 (msg SetTime 11 (TimeBody (pos 305000004))) (negsuc 0) true (pos 305000004) ∷
    acked (at 305000006 0 0) 5 2 11 ∷
    turns (at 400000000 0 0) (Ring Round ∷ Arm CloseAlarm 408000000 ∷ Post (Peer (peer_of 1)) (Stamp (Request 7 0)) ∷
    Post (Peer (peer_of 2)) (Stamp (Request 7 1)) ∷ []) ∷
    replies (at 400000300 1 0) 6 0 reply1 ∷
    replies (at 400000300 2 0) 7 0 reply2 ∷
    samples (at 400000801 0 0) 8 1 reply1 (negsuc 100) (pos 401) ∷
    samples (at 400000900 0 0) 9 2 reply2 (negsuc 150) (pos 450) ∷
    turns (at 408000000 0 0) (Ring CloseAlarm ∷ Close 3 (negsuc 150) (pos 151) (negsuc 83) ∷ Correct (negsuc 83) false (pos 408000000) ∷
    Post (Peer (peer_of 1)) (Message (msg AdjTime 10 (TimeBody (pos 17)))) ∷ Post (Peer (peer_of 2)) (Message (msg AdjTime 12 (TimeBody (pos 67)))) ∷ []) ∷
    obeys (at 408000400 1 0) 10 0 (msg AdjTime 10 (TimeBody (pos 17))) (pos 17) false (pos 408000399) ∷
    obeys (at 408000500 2 0) 11 0 (msg AdjTime 12 (TimeBody (pos 67))) (pos 67) false (pos 408000499) ∷
    acked (at 408000700 0 0) 12 1 10 ∷
    acked (at 408000800 0 0) 13 2 12 ∷
    []

-- the history after so many steps
abbrev pub usual : ℕ → List Line
usual k = after (k - 5) usual_steps (lead 5)

pub fits : Fits (still false) (usual 23)
unfolding group_from goes_before better
fits = stages_fit false 18 usual_steps (lead 5) led refl (search debts)

-- up to the first reply
pub asked : Fits (still false) (usual 15)
asked = skip_fits false 29 (usual 23) fits

abbrev pub ordinary : Example
ordinary = kept_by false (usual 23) fits refl refl refl refl

-- the round corrects nodes 1 and 2
abbrev pub first_hop : Hop
first_hop = hop_in (usual 23) 11 17 29 (pos 401)

abbrev pub second_hop : Hop
second_hop = hop_in (usual 23) 7 17 26 (pos 450)

pub first_computed : Computed 0 first_hop (spot 11 (skip 12 (usual 23)) refl)
first_computed = search arith

abbrev pub first_round : Corrects 0 first_hop
first_round = corrects_at first_hop (spot 11 (skip 12 (usual 23)) refl) first_computed

pub second_round : Corrects 0 second_hop
second_round = corrects_at second_hop (spot 12 (skip 8 (usual 23)) refl) (search arith)

-- ordinary use keeps every premise
pub ordinary_use : OrdinaryUse
ordinary_use = record {
  history = ordinary;
  confirms = record {
    acked = spot 0 (usual 23) refl;
    peer = peer_of 2;
    deed = refl;
    first = _;
    older = _;
    is = refl;
    message = msg AdjTime 12 (TimeBody (pos 67));
    posts = refl;
    kind = refl;
  };
  master = 0;
  one = first_hop;
  other = second_hop;
  one_close = refl;
  one_past = refl;
  hops = record { from_round = first_round; unchanged = untouched refl refl refl };
  hops_other = record { from_round = second_round; unchanged = untouched refl refl refl };
  apart = not_same 1 2 (omega arith);
  unchanged_but = but_for (spot 16 (usual 23) refl) refl refl refl refl refl;
}

some_left : pos 17 ≢ pos 0
some_left e = omega (arith, ints)

-- node 1 is read before its round's Correct, which slews it by 17, and 50 ms after it
pub shown_use : ShownUse
shown_use = record {
  history = ordinary;
  node = 1;
  place = usual 19;
  early = 408000000;
  late = 408050400;
  unstepped = unstepped_by 1 14 (usual 23) refl refl;
  read = read_by 1 14 (usual 23) 408000000 408050400 (omega arith) refl (omega arith) (omega arith);
  correct = spot 11 (usual 23) refl;
  after = skipped 2 (skip 12 (usual 23));
  node_is = refl;
  amount = pos 17;
  value = pos 408000399;
  slews = refl;
  left = some_left;
  met = omega arith;
  other = 0;
  apart = not_same 0 1 (omega arith);
  at = 408000300;
  wait = 100000;
  bound = pos 0;
  reads = read_at_by 1 14 (usual 23) 408000300 408100300 (omega arith) refl (omega arith) (omega arith);
  near = omega (arith, ints);
  enough = omega (arith, ints);
}

-- node 1 is set by -1, and slewed by 17 in its round
pub prints_use : PrintsUse
prints_use = record {
  history = ordinary;
  correct = spot 11 (usual 23) refl;
  set = spot 39 (skip 12 (usual 23)) refl;
  back = negsuc 0;
  shown_then = pos 305000001;
  sets = refl;
  small = omega arith;
  node = refl;
  amount = pos 17;
  shown_now = pos 408000399;
  slews = refl;
  moves = some_left;
  unstepped = unstepped_by 1 40 (skip 11 (usual 23)) refl refl;
}

abbrev settime : Line
settime = does 305000001 0 (Came 0) (Post (Peer (peer_of 1)) (Message (msg SetTime 9 (TimeBody (pos 305000001)))))

abbrev pub slaveup : Line
slaveup = does 305000000 1 Turned (Post (Peer (peer_of 0)) (Message (msg SlaveUp 9 Nothing)))

-- a Correct of node 1 that takes the SETTIME
abbrev pub set_by : ℤ → Bool → ℤ → Line
set_by amount stepped shown = does 305000002 1 (Came 2) (Correct amount stepped shown)

abbrev pub set_taking : (amount : ℤ) (stepped : Bool) (shown : ℤ) (past : List Line) → Within (settime ∷ skip 1 (usual 8)) past →
    is_some (heard (dids (of 1 past))) ≡ true → Taking 0 (set_by amount stepped shown) past
set_taking amount stepped shown past place took = record {
  post = settime;
  before = skip 1 (usual 8);
  acts = record {
    amount = amount;
    stepped = stepped;
    shown = shown;
    correct = refl;
    brings = record { place = place; cause = refl; message = msg SetTime 9 (TimeBody (pos 305000001)); deed = refl };
    took = took;
  };
  kind = refl;
  node = refl;
  first = settime.did;
  begun = view port0 (of 0 (skip 1 (usual 8)));
  of_send = record { message = msg SetTime 9 (TimeBody (pos 305000001)); deed = refl; numbered = refl; is = refl };
}

abbrev pub set_source : (amount : ℤ) (stepped : Bool) (shown : ℤ) (past : List Line) (place : Within (settime ∷ skip 1 (usual 8)) past)
    (took : is_some (heard (dids (of 1 past))) ≡ true) → Within (slaveup ∷ skip 1 (usual 6)) past →
    FromSlaveUp 0 (set_by amount stepped shown) past (set_taking amount stepped shown past place took) slaveup (skip 1 (usual 6))
set_source amount stepped shown past place took up = record {
  message = msg SlaveUp 9 Nothing;
  kind = refl;
  took = refl;
  number = refl;
  place = up;
  takes = refl;
  to = Peer (peer_of 0);
  datagram = Message (msg SlaveUp 9 Nothing);
  deed = refl;
}

-- node 1 is set by the SETTIME that answers its SLAVEUP, and corrected by the round's ADJTIME
pub set_use : SetUse
set_use = record {
  history = ordinary;
  master = 0;
  correct = set_by (negsuc 0) true (pos 305000001);
  past = skip 2 (usual 9);
  here = skip 37 (usual 23);
  here_in = skipped 37 (usual 23);
  set = record {
    taking = set_taking (negsuc 0) true (pos 305000001) (skip 2 (usual 9)) (skipped 2 (skip 2 (usual 9))) refl;
    sets = refl;
    unchanged = untouched refl refl refl;
    unchanged_master = record { corrects = refl; lives = refl };
  };
  slaveup = slaveup;
  older = skip 1 (usual 6);
  answers = set_source (negsuc 0) true (pos 305000001) (skip 2 (usual 9)) (skipped 2 (skip 2 (usual 9))) refl (skipped 8 (skip 2 (usual 9)));
  later = spot 11 (usual 23) refl;
  taking = taking_of first_round refl;
  adjusts = refl;
  close = first_hop.close;
  cpast = first_hop.cpast;
  reading = first_hop.reading;
  rolder = first_hop.older;
  rests = reading_of first_round refl;
}
