-- Rounds: what one estimates, one that a Correct ends without an ADJTIME, one more of the same master, and one in
-- which a peer seems a second off.
use Rattle.std.proofs.Common.{arith, inl, ℕ, ◌≡◌, nat_le, true, false, ℤ, pos, negsuc, nat_abs, Bool, List, [], ◌∷◌, length, refl}
use Rattle.std.{proofs.lemmas.Bool.leb-true, proofs.lemmas.Int.ints, specs.List.Contains, specs.List.count_by}
use Rattle.tsp_rules.specs.Values.{Post, Arm, Ring, Close, Correct, Round, CloseAlarm, Message, Stamp, AdjTime, SetTime, TimeBody, Peer, Request, Reply}
use Rattle.tsp_base.specs.Words.{Came, Turned, Line, of, view, ReplyValue, best, Here, Within, peer_of}
use Rattle.tsp_group.specs.Groups.{better, goes_before, group_from}
use Rattle.tsp_promises.specs.Moderate.{Agrees, Majority, PeerAgrees, PeerCorrects, estimates_of}
use Rattle.tsp_promises.proofs.witness.Histories.{does, line, msg, skip, skipped, step_at, still}
use Rattle.tsp_promises.proofs.witness.Spots.{Computed, but_for, close_begins, corrects_at, estimate_at, hop_in, sample_of, spot, untouched}
use Rattle.tsp_promises.proofs.witness.HistoriesFit.{Stage, after, at, stages_fit, turns, follows, sets_up, obeys, acked, replies, samples}
use Rattle.tsp_promises.proofs.witness.WitnessUse.{asked, first_hop, first_round, fits, lead, led, ordinary, reply1, second_hop, second_round, usual}
use Rattle.tsp_promises.specs.{RoundUses.EndedUse, RoundUses.EstimatesUse, RoundUses.ModerateUse, RoundUses.RoundsUse, StepFacts.closed}
use Rattle.tsp_promises.specs.{Chained.Hop, Estimates.Moves, Fits.node_of, OneError.Taking}
use Rattle.tsp_promises.proofs.{witness.Debts.debts, witness.Debts.not_same, witness.Debts.sample_in, promised.TakingProof.taking_of}
use Rattle.tsp_promises.proofs.{witness.PremiseChecks.kept_by}
use Rattle.tsp_promises.proofs.witness.StepChecks.{port0}

-- both followers of ordinary use, as its round estimates them
pub estimates_use : EstimatesUse
estimates_use = record {
  history = ordinary;
  master = 0;
  one = 1;
  other = 2;
  apart = not_same 1 2 (omega arith);
  close = first_hop.close;
  cpast = first_hop.cpast;
  mean = negsuc 83;
  first = spot 15 (usual 23) refl;
  begins = close_begins refl refl (skipped 1 (skip 16 (usual 23))) refl refl refl refl refl refl;
  x = sample_of 0 first_hop;
  reading = first_hop.reading;
  older = first_hop.older;
  estimate = estimate_at (spot 5 (skip 18 (usual 23)) refl) (search arith) refl refl refl;
  y = sample_of 0 second_hop;
  reading_other = second_hop.reading;
  older_other = second_hop.older;
  estimate_other = estimate_at (spot 2 (skip 18 (usual 23)) refl) (search arith) refl refl refl;
  here = usual 19;
  here_in = skipped 14 (usual 23);
  first_here = skipped 1 (usual 19);
  still = estimate_at (spot 5 (skip 18 (usual 23)) refl) (search arith) refl refl refl;
  left_alone = but_for (spot 2 (usual 19) refl) refl refl refl refl refl;
}

abbrev unheard_steps : List Stage
unheard_steps =
    follows (at 305000000 1 0) 0 9 ∷
    sets_up (at 305000001 0 0) 0 1 9 (pos 305000001) ∷
    obeys (at 305000002 1 0) 1 0 (msg SetTime 9 (TimeBody (pos 305000001))) (negsuc 0) true (pos 305000001) ∷
    turns (at 400000000 0 0) (Ring Round ∷ Arm CloseAlarm 408000000 ∷ Post (Peer (peer_of 1)) (Stamp (Request 7 0)) ∷ []) ∷
    replies (at 400000300 1 0) 3 0 reply1 ∷
    samples (at 400000801 0 0) 4 1 reply1 (negsuc 100) (pos 401) ∷
    turns (at 408000000 0 0) (Ring CloseAlarm ∷ Close 2 (negsuc 100) (pos 101) (negsuc 50) ∷ Correct (negsuc 50) false (pos 408000000) ∷ []) ∷
    []

-- the ACK of the SETTIME doesn't come, so the round that its Correct ends begins no ADJTIME
pub ended_use : EndedUse
unfolding group_from goes_before better
ended_use = record {
  history = kept_by false (after 7 unheard_steps (lead 5)) (stages_fit false 7 unheard_steps (lead 5) led refl (search debts)) refl refl refl refl;
  master = 0;
  other = 1;
  apart = not_same 0 1 (omega arith);
  close = does 408000000 0 Turned (Close 2 (negsuc 100) (pos 101) (negsuc 50));
  correct = does 408000000 0 Turned (Correct (negsuc 50) false (pos 408000000));
  cpast = skip 2 (after 7 unheard_steps (lead 5));
  ends = refl;
  amount = negsuc 50;
  moved = λ e. omega (arith, ints);
  moves = record {
    count = 2;
    lo = negsuc 100;
    size = pos 101;
    mean = negsuc 50;
    deed = refl;
    node = refl;
    stepped = false;
    shown = pos 408000000;
    correct = refl;
    correct_node = refl;
  };
  sample = sample_in (best (peer_of 1) (view port0 (of 0 (skip 2 (after 7 unheard_steps (lead 5))))));
  reading = does 400000300 1 (Came 3) (Post (Peer (peer_of 0)) (Stamp (Reply reply1)));
  older = skip 1 (after 5 unheard_steps (lead 5));
  estimate = estimate_at (spot 2 (skip 2 (after 7 unheard_steps (lead 5))) refl) (search arith) refl refl refl;
}

abbrev next : ReplyValue
next = record { ticket = 11; word = 7; counter = 2; reading = pos 1000000296 }

abbrev twice_steps : List Stage
twice_steps =
    turns (at 1000000000 0 0) (Ring Round ∷ Arm CloseAlarm 1008000000 ∷ Post (Peer (peer_of 1)) (Stamp (Request 7 2)) ∷ []) ∷
    replies (at 1000000280 1 0) 14 0 next ∷
    samples (at 1000000801 0 0) 15 1 next (negsuc 19) (pos 401) ∷
    turns (at 1008000000 0 0) (Ring CloseAlarm ∷ Close 2 (negsuc 19) (pos 20) (negsuc 9) ∷ Correct (negsuc 9) false (pos 1007999916) ∷
    Post (Peer (peer_of 1)) (Message (msg AdjTime 11 (TimeBody (pos 10)))) ∷ []) ∷
    obeys (at 1008000400 1 0) 16 0 (msg AdjTime 11 (TimeBody (pos 10))) (pos 10) false (pos 1008000416) ∷
    acked (at 1008000700 0 0) 17 1 11 ∷
    []

-- the first round's bound of node 1, when the second has moved it by 10 and the master by -10
pub rounds_use : RoundsUse
unfolding group_from goes_before better
rounds_use = record {
  history = kept_by false (after 6 twice_steps (usual 23)) (stages_fit false 6 twice_steps (usual 23) fits refl (search debts)) refl refl refl refl;
  master = 0;
  mean = negsuc 83;
  one = first_hop;
  since = record {
    from_round = first_round;
    within = skipped 33 (after 6 twice_steps (usual 23));
    count = 3;
    lo = negsuc 150;
    size = pos 151;
    deed = refl;
    one_life = refl;
    one_life_master = refl;
  };
  other = second_hop;
  other_since = record { from_round = second_round; within = skipped 29 (after 6 twice_steps (usual 23)); one_life = refl };
  apart = not_same 1 2 (omega arith);
  again = spot 9 (after 6 twice_steps (usual 23)) refl;
  later = skipped 29 (skip 10 (after 6 twice_steps (usual 23)));
  node = refl;
  port = refl;
  count = 2;
  lo = negsuc 19;
  size = pos 20;
  second = negsuc 9;
  deed = refl;
  one_life = refl;
  moves = λ (e : pos 10 ≡ pos 0). omega (arith, ints);
  master_moves = λ (e : negsuc 9 ≡ pos 0). omega (arith, ints);
}

-- the request took two seconds, the reply a microsecond
abbrev late : ReplyValue
late = record { ticket = 12; word = 7; counter = 1; reading = pos 401999999 }

abbrev outlier_steps : List Stage
outlier_steps =
    samples (at 400000801 0 0) 8 1 reply1 (negsuc 100) (pos 401) ∷
    replies (at 402000000 2 0) 7 0 late ∷
    samples (at 402000001 0 0) 9 2 late (pos 999999) (pos 1000001) ∷
    turns (at 408000000 0 0) (Ring CloseAlarm ∷ Close 2 (negsuc 100) (pos 101) (negsuc 50) ∷ Correct (negsuc 50) false (pos 408000000) ∷
    Post (Peer (peer_of 1)) (Message (msg AdjTime 10 (TimeBody (pos 50)))) ∷ Post (Peer (peer_of 2)) (Message (msg AdjTime 12 (TimeBody (negsuc 1000049))))
    ∷ []) ∷
    obeys (at 408000400 1 0) 10 0 (msg AdjTime 10 (TimeBody (pos 50))) (pos 50) false (pos 408000399) ∷
    obeys (at 408000500 2 0) 11 0 (msg AdjTime 12 (TimeBody (negsuc 1000049))) (negsuc 1000049) false (pos 408000499) ∷
    acked (at 408000700 0 0) 12 1 10 ∷
    acked (at 408000800 0 0) 13 2 12 ∷
    []

-- the history after so many steps
abbrev pub outlier : ℕ → List Line
outlier k = after k outlier_steps (usual 15)

-- its Close, with this mean
abbrev pub shut_by : ℤ → Line
shut_by mean = line (step_at 408000000 0 Turned) port0 (Close 2 (negsuc 100) (pos 101) mean)

abbrev pub moves_own : Line
moves_own = line (step_at 408000000 0 Turned) port0 (Correct (negsuc 50) false (pos 408000000))

-- it corrects node 1
abbrev pub mild_hop : Hop
mild_hop = hop_in (outlier 8) 11 17 29 (pos 401)

mild_computed : Computed 0 mild_hop (spot 14 (skip 12 (outlier 8)) refl)
mild_computed = search arith

-- whether a value is within a millisecond
abbrev pub is_small : ℤ → Bool
is_small x = nat_le (nat_abs x) 1000

two_of_three : (xs : List ℤ) → length xs ≡ 3 → count_by is_small xs ≡ 2 → Majority xs is_small
two_of_three xs all two = record {
  more = omega (arith, all, two);
  agrees = λ x y c d s t.
      let a = leb-true (nat_abs x) 1000 s in let b = leb-true (nat_abs y) 1000 t in record { low = omega (arith, ints); high = omega (arith, ints) };
}

-- a small value of the round's estimates is one of the majority
pub small_agrees : (mean value : ℤ) → Contains (estimates_of (still false) 0 port0 mild_hop.cpast) value → is_small value ≡ true →
    Agrees (still false) 0 (shut_by mean) mild_hop.cpast value
small_agrees mean value among small = record {
  test = is_small;
  majority = two_of_three (estimates_of (still false) 0 port0 mild_hop.cpast) refl refl;
  among = among;
  passes = small;
}

-- the master's own estimate, and that of the peer
pub own_agrees : (mean : ℤ) → Agrees (still false) 0 (shut_by mean) mild_hop.cpast (pos 0)
own_agrees mean = small_agrees mean (pos 0) (0, omega arith, refl) refl

abbrev pub near_agrees : (mean : ℤ) → PeerAgrees (still false) 0 (peer_of 1) (shut_by mean) mild_hop.cpast
near_agrees mean = record {
  sample = sample_of 0 mild_hop;
  best_is = refl;
  agrees = small_agrees mean (negsuc 100) (1, omega arith, refl) refl;
}

pub moves_little : Moves 0 mild_hop.close moves_own (negsuc 50)
moves_little = record {
  count = 2;
  lo = negsuc 100;
  size = pos 101;
  mean = negsuc 50;
  deed = refl;
  node = refl;
  stepped = false;
  shown = pos 408000000;
  correct = refl;
  correct_node = refl;
}

-- what a peer that agrees takes, where the round ended with this Correct
abbrev pub peer_corrects : {m : ℕ} {close c l : Line} {cpast past : List Line} {amount : ℤ} → Moves m close c amount →
    Within (c ∷ (close ∷ cpast)) past → (taking : Taking m l past) → taking.acts.brings.message.kind ≡ AdjTime →
    closed taking.begun ≡ Here close.did ∷ view taking.post.port (of m cpast) → close.port ≡ taking.post.port →
    PeerAgrees (still false) m (peer_of (node_of l)) close cpast → PeerCorrects (still false) l past
peer_corrects moves ends taking kind close_is port agrees = record {
  m = _;
  close = _;
  c = _;
  cpast = _;
  amount = _;
  moves = moves;
  ends = ends;
  taking = taking;
  kind = kind;
  close_is = close_is;
  port = port;
  agrees = agrees;
}

-- a master and one peer agree, and another peer seems to be a second off
pub moderate_use : ModerateUse
unfolding group_from goes_before better
moderate_use = record {
  history = kept_by false (outlier 8) (stages_fit false 8 outlier_steps (usual 15) asked refl (search debts)) refl refl refl refl;
  master = 0;
  near = 1;
  far = 2;
  close = mild_hop.close;
  cpast = mild_hop.cpast;
  correct = moves_own;
  amount = negsuc 50;
  moves = moves_little;
  moved = skipped 16 (outlier 8);
  own = own_agrees (negsuc 50);
  peer = near_agrees (negsuc 50);
  sample = sample_in (best (peer_of 2) (view port0 (of 0 mild_hop.cpast)));
  best_is = refl;
  counted = (2, omega arith, refl);
  off = omega (arith, ints);
  first = spot 15 (outlier 8) refl;
  mean = negsuc 50;
  begins = close_begins refl refl (skipped 1 (skip 16 (outlier 8))) refl refl refl refl refl refl;
  begins_near = refl;
  later = inl refl;
  taker = spot 11 (outlier 8) refl;
  taker_node = refl;
  taken = peer_corrects moves_little (skipped 4 (skip 12 (outlier 8)))
      (taking_of (corrects_at mild_hop (spot 14 (skip 12 (outlier 8)) refl) mild_computed) refl) refl refl refl (near_agrees (negsuc 50));
  of_round = refl;
  rested = refl;
  jump = spot 7 (outlier 8) refl;
  jump_node = refl;
  by = negsuc 1000049;
  stepped = false;
  shown = pos 408000499;
  jumps = refl;
  much = omega arith;
  here = outlier 4;
  here_in = skipped 14 (outlier 8);
  unchanged = untouched refl refl refl;
  reading = mild_hop.reading;
  older = mild_hop.older;
  estimate = estimate_at (spot 8 mild_hop.cpast refl) (search arith) refl refl refl;
}
