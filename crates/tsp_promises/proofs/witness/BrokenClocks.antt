-- Small histories that break the promises of clocks, of chains and of single corrections.
use Rattle.std.proofs.Common.{sym, ap, arith, subst, inl, inr, true≢false, ◌∙◌, ◌≡◌, ◌≤ℤ◌, Bool, true, false, ℕ, ℤ, pos, negsuc, ◌-ℤ◌, nat_abs, List, [], ◌∷◌}
use Rattle.std.proofs.Common.{refl}
use Rattle.tsp_rules.specs.Values.{Boot, Took, Post, Arm, Ring, Close, Correct, Sample, CloseAlarm, Message, Stamp, Good, AdjTime, SetTime, TimeBody, PeerId}
use Rattle.tsp_rules.specs.Values.{Peer, Request, Reply}
use Rattle.tsp_base.specs.Words.{Booted, Came, Turned, Line, of, view, MessageValue, Within, peer_of}
use Rattle.tsp_promises.proofs.witness.Histories.{begins, does, line, msg, skip, skipped, step_at, still}
use Rattle.tsp_promises.proofs.witness.Spots.{too_far, Computed, Corrects, but_for, close_begins, corrects_at, estimate_at, sample_of, spot, untouched}
use Rattle.tsp_promises.proofs.witness.WitnessUse.{first_hop, first_round, reply1, reply2, second_hop, set_by, set_source, set_taking, usual}
use Rattle.tsp_promises.specs.{Agreed.MasterAgrees, Agreed.UnchangedBut, Broken.breaks, Broken.ChainsBreak, Broken.ClocksBreak}
use Rattle.tsp_promises.specs.{Chained.Hop, Chained.Hops, ClockAt.clock, Estimates.Estimate, FirstSet.SetBy, Fits.node_of}
use Rattle.tsp_promises.proofs.{witness.StepChecks.port0, witness.WitnessChain.far_hop, witness.WitnessChain.near_hop, witness.WitnessChain.near_round}
use Rattle.tsp_promises.proofs.{witness.WitnessChain.relay}
use Rattle.tsp_promises.proofs.promised.TakingProof.{reading_of, taking_of}

abbrev reply : ℕ → Line
reply n = does 10 n Turned (Post (Peer (peer_of 0)) (Stamp (Reply (record { ticket = 0; word = 0; counter = 0; reading = pos 10 }))))

abbrev measures : Line
measures = does 20 0 (Came 0) (Sample (peer_of 1) 0 (pos 100) (pos 0) 0)

only_post : (p q : Line) (older : List Line) → Within (p ∷ older) (q ∷ []) → p ∷ older ≡ q ∷ []
only_post p q older (inl e) = e
only_post p q older (inr e) = let bad : ⊥ = cc in absurd bad

line_same : (p q : Line) (older : List Line) → p ∷ older ≡ q ∷ [] → p ≡ q
line_same p q older e = cc

-- an ADJTIME of a second to a clock that is 101 behind and a round whose mean is 84 behind
abbrev misleads : MessageValue
misleads = msg AdjTime 10 (TimeBody (pos 1000000))

abbrev mislead : List Line
mislead =
    does 408000400 1 (Came 10) (Took (Peer (peer_of 0)) (Good (Message misleads))) ∷ (begins 408000400 1 (Came 10) ∷
    (does 408000000 0 Turned (Post (Peer (peer_of 1)) (Message misleads)) ∷ (does 408000000 0 Turned (Correct (negsuc 83) false
    (pos 408000000)) ∷ skip 3 (usual 19))))

abbrev misled_hop : Hop
misled_hop = record first_hop { correct = does 408000400 1 (Came 10) (Correct (pos 1000000) false (pos 0)); past = mislead }

misled_round : Corrects 0 misled_hop
misled_round = corrects_at misled_hop (spot 10 mislead refl) (search arith)

-- a follower whose clock moves by five seconds where its ADJTIME says 67
abbrev pub stray_hop : Bool → Hop
stray_hop stepped = record second_hop { correct = line (step_at 408000500 2 (Came 11)) port0 (Correct (pos 5000000) stepped (pos 0)) }

abbrev pub stray : Bool → List Line
stray stepped = (stray_hop stepped).correct ∷ second_hop.past

pub stray_round : (stepped : Bool) → Corrects 0 (stray_hop stepped)
stray_round stepped = corrects_at (stray_hop stepped) (spot 12 second_hop.past refl) (search arith)

-- the master made no Correct but the one right after its Close
pub left_alone : (stepped : Bool) → UnchangedBut 0 second_hop.close second_hop.cpast (stray stepped)
left_alone stepped = but_for (spot 9 (stray stepped) refl) refl refl refl refl refl

far_apart : MasterAgrees (still false) (stray false) 408000500 → ⊥
far_apart m =
    too_far (pos 5000083) (pos 452) refl (m 0 _ _ _ _ _ _ _ (stray_round false) (untouched refl refl refl) (left_alone false))

abbrev shuts : List Line
shuts = does 10 0 Turned (Close 1 (pos 0) (pos 0) (pos 0)) ∷ (does 10 0 Turned (Ring CloseAlarm) ∷ [])

-- a relayed clock that does so
abbrev wrong_hop : Hop
wrong_hop = record far_hop { correct = line (step_at 508000400 3 (Came 12)) port0 (Correct (pos 5000000) false (pos 0)) }

abbrev wrong : List Line
wrong = wrong_hop.correct ∷ far_hop.past

wrong_round : Corrects 1 wrong_hop
wrong_round = corrects_at wrong_hop (spot 6 far_hop.past refl) (search arith)

still_led : UnchangedBut 0 near_hop.close near_hop.cpast wrong
still_led = but_for (spot 25 wrong refl) refl refl refl refl refl

pub clocks_break : ClocksBreak (still false)
clocks_break = record {
  errs = breaks (measures ∷ (reply 1 ∷ [])) (λ h.
      let r = h.0 (peer_of 1) 0 (pos 100) (pos 0) 0 refl in
      too_far (pos 100) (pos 0) refl (subst (λ z. pos (nat_abs (pos 100 -ℤ (clock (still false) 1 z -ℤ clock (still false) 0 z))) ≤ℤ pos 0)
      (only_post r.post (reply 1) r.older r.place) r.near));
  unread = breaks (does 20 0 Turned (Sample (peer_of 1) 0 (pos 0) (pos 0) 0) ∷ (reply 1 ∷ []))
      (λ h. cc (h.0 (peer_of 1) 0 (pos 0) (pos 0) 0 refl).takes);
  misread = breaks (measures ∷ (reply 2 ∷ [])) (λ h.
      let r = h.0 (peer_of 1) 0 (pos 100) (pos 0) 0 refl in
      let two : r.post ≡ reply 2 = line_same r.post (reply 2) r.older (only_post r.post (reply 2) r.older r.place) in
      let k : 2 ≡ 1 = ap (λ (z : Line). node_of z) (sym two) ∙ ap (λ (p : PeerId). p.0) r.from in
      omega arith);
  unasked = breaks (measures ∷ []) (λ h. let t = h.0 (peer_of 1) 0 (pos 100) (pos 0) 0 refl in cc t.exchange_is);
  outlived = breaks (measures ∷ (does 15 0 (Booted 3 (pos 15)) Boot ∷ (does 10 0 Turned (Post (Peer (peer_of 1)) (Stamp (Request 0 0))) ∷
      (does 10 0 Turned (Arm CloseAlarm 30) ∷ [])))) (λ h. let t = h.0 (peer_of 1) 0 (pos 100) (pos 0) 0 refl in cc t.exchange_is);
  misled = breaks (misled_hop.correct ∷ mislead) (λ h. too_far (pos 1000083) (pos 403) refl
      ((h.0.clocks (Correct (pos 1000000) false (pos 0)) refl).master 0 _ _ _ _ _ _ _ misled_round (untouched refl refl refl)
      (but_for (spot 4 (misled_hop.correct ∷ mislead) refl) refl refl refl refl refl)));
  agreed = breaks (stray false) (λ h. far_apart (h.0.clocks (Correct (pos 5000000) false (pos 0)) refl).master);
  peers = breaks (stray false) (λ h. too_far (pos 4999983) (pos 855) refl
      ((h.0.clocks (Correct (pos 5000000) false (pos 0)) refl).peers 0 _ _ _ _ _ _ _ _ _ _ _ _ (stray_round false) first_round (untouched refl refl refl)
      (untouched refl refl refl)));
  agreed_before = breaks (does 500000000 2 (Booted 13 (pos 500000000)) Boot ∷ (begins 500000000 2 (Booted 13 (pos 500000000)) ∷ stray
      false))
      (λ h. far_apart (h.1.1.0.clocks (Correct (pos 5000000) false (pos 0)) refl).master);
  unsampled = breaks (does 10 0 Turned (Post (Peer (peer_of 1)) (Message (msg AdjTime 5 (TimeBody (pos 1))))) ∷ shuts) (λ h.
      let close = does 10 0 Turned (Close 1 (pos 0) (pos 0) (pos 0)) in
      true≢false (sym (h.0.rests (peer_of 1) (msg AdjTime 5 (TimeBody (pos 1))) close.did (view port0 (of 0 (skip 1 shuts))) refl refl
      refl refl)));
  stay_agreed = breaks (stray false) (λ h. far_apart (h.0 408000500 (omega arith)).master);
  relayed = breaks wrong (λ h. too_far (pos 5000049) (pos 806) refl
      (h.0 508000400 (omega arith) 1 0 _ _ _ _ _ _ _ _ _ _ _ _ _ _ wrong_round near_round refl (skipped 16 (skip 9 (relay 27))) (untouched refl refl refl)
      (untouched refl refl refl) still_led));
}

stray_hops : Hops 0 (stray_hop false) (stray false)
stray_hops = record { from_round = stray_round false; unchanged = untouched refl refl refl }

first_hops : Hops 0 first_hop (stray false)
first_hops = record { from_round = first_round; unchanged = untouched refl refl refl }

-- samples of nodes 1 and 2, and a round that begins to close
abbrev sampled : ℤ → ℤ → List Line
sampled diff err =
    does 400000801 0 (Came 8) (Sample (peer_of 1) 0 diff err 10) ∷ (does 400000801 0 (Came 8)
    (Took (Peer (peer_of 1)) (Good (Stamp (Reply reply1)))) ∷
    (begins 400000801 0 (Came 8) ∷ usual 16))

abbrev closes : List Line → List Line
closes h = does 408000000 0 Turned (Ring CloseAlarm) ∷ (begins 408000000 0 Turned ∷ h)

abbrev adjusts : MessageValue
adjusts = msg AdjTime 10 (TimeBody (pos 17))

abbrev adjust : Line
adjust = does 408000000 0 Turned (Post (Peer (peer_of 1)) (Message adjusts))

abbrev taken : List Line → List Line
taken h = does 408000400 1 (Came 10) (Took (Peer (peer_of 0)) (Good (Message adjusts))) ∷ (begins 408000400 1 (Came 10) ∷ h)

-- a sample with an error of 5 s, and a round that uses it
abbrev long : List Line
long = taken (adjust ∷ (first_hop.close ∷ closes (sampled (negsuc 100) (pos 5000000))))

abbrev long_hop : Hop
long_hop = record first_hop { cpast = closes (sampled (negsuc 100) (pos 5000000)); past = long; err = pos 5000000 }

long_round : Corrects 0 long_hop
long_round = corrects_at long_hop (spot 6 long refl) (search arith)

-- another Correct before the one that takes the ADJTIME
abbrev between_hop : Hop
between_hop = record first_hop { past = taken (does 408000300 1 Turned (Correct (pos 5) false (pos 0)) ∷ usual 19) }

between_computed : Computed 0 between_hop (spot 12 between_hop.past refl)
between_computed = search arith

abbrev between_round : Corrects 0 between_hop
between_round = corrects_at between_hop (spot 12 between_hop.past refl) between_computed

-- another Correct before the one that takes the SETTIME
abbrev late : List Line
late =
    does 305000002 1 (Came 2) (Took (Peer (peer_of 0)) (Good (Message (msg SetTime 9 (TimeBody (pos 305000001)))))) ∷
    (begins 305000002 1 (Came 2) ∷
    (does 305000001 1 Turned (Correct (pos 5) false (pos 0)) ∷ usual 8))

-- a clock that is set 100 s back by a SETTIME that says a microsecond
abbrev sets_wrong : List Line
sets_wrong = set_by (negsuc 99999999) true (pos 0) ∷ skip 2 (usual 9)

abbrev wrong_set : SetBy 0 (set_by (negsuc 99999999) true (pos 0)) (skip 2 (usual 9)) sets_wrong
wrong_set = record {
  taking = set_taking (negsuc 99999999) true (pos 0) (skip 2 (usual 9)) (skipped 2 (skip 2 (usual 9))) refl;
  sets = refl;
  unchanged = untouched refl refl refl;
  unchanged_master = record { corrects = refl; lives = refl };
}

-- a sample of node 1 that is 9 s off, one of node 2, and a round that uses them
abbrev off : List Line
off =
    closes (does 400000900 0 (Came 9) (Sample (peer_of 2) 1 (negsuc 150) (pos 450) 12) ∷ (does 400000900 0 (Came 9)
    (Took (Peer (peer_of 2)) (Good (Stamp (Reply reply2)))) ∷
    (begins 400000900 0 (Came 9) ∷ sampled (pos 9000000) (pos 401))))

off_one : Estimate 0 1 first_hop.close off (sample_of 0 (record first_hop { cpast = off })) first_hop.reading first_hop.older off
off_one = estimate_at (spot 5 off refl) (search arith) refl refl refl

near_two : Estimate 0 2 first_hop.close off (sample_of 0 (record second_hop { cpast = off })) second_hop.reading second_hop.older off
near_two = estimate_at (spot 2 off refl) (search arith) refl refl refl

-- a master that moves by 5 s where the mean is -84
abbrev strayed : List Line
strayed = does 408000000 0 Turned (Correct (pos 5000000) false (pos 0)) ∷ skip 3 (usual 19)

pub chains_break : ChainsBreak (still false)
chains_break = record {
  down = breaks wrong (λ h.
      let near : Hops 0 near_hop wrong = record { from_round = near_round; unchanged = untouched refl refl refl } in
      let far : Hops 1 wrong_hop wrong = record { from_round = wrong_round; unchanged = untouched refl refl refl } in
      too_far (pos 5000049) (pos 806) refl ((h.0 508000400 (omega arith)).down 0 near_hop (wrong_hop ∷ []) near
      (far, skipped 16 (skip 9 (relay 27)), tt) still_led));
  across = breaks (stray false) (λ h. too_far (pos 4999983) (pos 855) refl
      ((h.0 408000500 (omega arith)).across 0 (stray_hop false) first_hop [] [] stray_hops first_hops refl refl tt tt));
  tree = breaks (stray false) (λ h. too_far (pos 4999983) (pos 855) refl
      ((h.0 408000500 (omega arith)).tree 0 (stray_hop false) first_hop [] [] stray_hops first_hops (left_alone false) (left_alone false) tt tt));
  throughout = breaks (stray false) (λ h. too_far (pos 5000083) (pos 452) refl
      (((h.0 408000500 (omega arith)).master 0 _ _ _ _ _ _ _ _ (record {
        from_round = stray_round false;
        within = inl refl;
        count = 3;
        lo = negsuc 150;
        size = pos 151;
        deed = refl;
        one_life = refl;
        one_life_master = refl;
      })).taken_back));
  throughout_peers = breaks (stray false) (λ h. too_far (pos 4999983) (pos 855) refl
      (((h.0 408000500 (omega arith)).peers 0 _ _ _ _ _ _ _ _ _ _ _ _ (record { from_round = stray_round false; within = inl refl; one_life = refl })
      (record { from_round = first_round; within = skipped 4 (stray false); one_life = refl })).taken_back));
  -- a Close that begins no ADJTIME
  estimates_apart = breaks (first_hop.close ∷ off) (λ h. too_far (pos 9000151) (pos 855) refl
      (h.apart.0 0 1 2 3 (negsuc 150) (pos 151) (negsuc 83) _ _ _ _ _ _ refl refl off_one near_two));
  master_near = breaks (adjust ∷ strayed) (λ h.
      let estimate : Estimate 0 1 first_hop.close first_hop.cpast (sample_of 0 first_hop) first_hop.reading first_hop.older
      (adjust ∷ strayed) = estimate_at (spot 5 first_hop.cpast refl) (search arith) refl refl refl in
      too_far (pos 5000001) (pos 420) refl (h.near.0 408000000 (omega arith) 0 1 first_hop.close first_hop.cpast (negsuc 83) adjust strayed _ _ _ (inl refl)
      (close_begins refl refl (skipped 1 strayed) refl refl refl refl refl refl) estimate
      (but_for {cpast = first_hop.cpast} (spot 1 (adjust ∷ strayed) refl) refl refl refl refl refl)));
  -- the same, before the first ADJTIME is posted
  ended_near = breaks strayed (λ h.
      let estimate : Estimate 0 1 first_hop.close first_hop.cpast (sample_of 0 first_hop) first_hop.reading first_hop.older strayed =
      estimate_at (spot 5 first_hop.cpast refl) (search arith) refl refl refl in
      too_far (pos 5000001) (pos 420) refl (h.ended.0 408000000 (omega arith) 0 1 first_hop.close
      (does 408000000 0 Turned (Correct (pos 5000000) false (pos 0))) first_hop.cpast (pos 5000000) _ _ _ (untouched refl refl refl)
      (record {
        count = 3;
        lo = negsuc 150;
        size = pos 151;
        mean = negsuc 83;
        deed = refl;
        node = refl;
        stepped = false;
        shown = pos 0;
        correct = refl;
        correct_node = refl;
      }) estimate));
  errs_bounded = breaks (first_hop.correct ∷ long) (λ h. too_far (pos 5000000) (pos 4500000) refl (h.0 0 _ _ _ _ _ long_round));
  one_error = breaks (first_hop.correct ∷ between_hop.past) (λ h.
      let k : 1 ≡ 2 = (h.0.by_reading 0 (taking_of between_round refl) _ _ _ _ (reading_of between_round refl)).corrects in
      omega arith);
  answered_late = breaks (set_by (negsuc 0) true (pos 305000001) ∷ late) (λ h.
      let k : 0 ≡ 1 = (h.0.by_slaveup 0 (set_taking (negsuc 0) true (pos 305000001) late (skipped 3 late) refl) _ _
      (set_source (negsuc 0) true (pos 305000001) late (skipped 3 late) refl (skipped 9 late))).corrects in
      omega arith);
  first_set = breaks sets_wrong (λ h. too_far (pos 100000000) (pos 2) refl ((h.0.at_once 0 _ _ wrong_set).high));
  first_set_soon = breaks sets_wrong (λ h. too_far (pos 100000000) (pos 34000001) refl (h.0 0 _ _ wrong_set));
}
