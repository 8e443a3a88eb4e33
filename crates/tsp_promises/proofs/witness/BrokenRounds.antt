-- Small histories that break the promises of rounds and of shown values; and that each promise is broken.
use Rattle.std.proofs.Common.{sym, arith, inl, true≢false, ◌≡◌, Bool, true, false, ℕ, ℤ, pos, negsuc, List, [], ◌∷◌, refl}
use Rattle.std.proofs.lemmas.Int.{ints}
use Rattle.tsp_rules.specs.Values.{Boot, Took, Post, Close, Correct, Message, Good, AdjTime, TimeBody, Peer}
use Rattle.tsp_base.specs.Words.{Booted, Came, Turned, Line, MessageValue, peer_of}
use Rattle.tsp_promises.proofs.witness.Spots.{too_far, too_many, Computed, close_begins, corrects_at, estimate_at, sample_of, spot, untouched}
use Rattle.tsp_promises.proofs.witness.WitnessRounds.{mild_hop, moves_little, near_agrees, own_agrees, peer_corrects, shut_by, small_agrees}
use Rattle.tsp_promises.proofs.witness.BrokenClocks.{chains_break, clocks_break, left_alone, stray, stray_round}
use Rattle.tsp_promises.specs.{Broken.breaks, Broken.ReadingsBreak, Broken.AllBreak, Broken.RoundsBreak, Chained.Hop, Moderate.PeerCorrects}
use Rattle.tsp_promises.{proofs.witness.BrokenRoles.answers_break, proofs.witness.BrokenRoles.roles_break, specs.Estimates.Estimate, specs.Estimates.Moves}
use Rattle.tsp_promises.proofs.{witness.Histories.begins, witness.Histories.does, witness.Histories.msg, witness.Histories.skipped, witness.Histories.still}
use Rattle.tsp_promises.proofs.{promised.TakingProof.taking_of}
use Rattle.tsp_promises.proofs.{witness.BrokenSends.sends_break, witness.PremiseChecks.read_by, witness.PremiseChecks.read_at_by}
use Rattle.tsp_promises.proofs.{witness.PremiseChecks.unstepped_by}

-- the Close of a round in which the master and a peer agree within a millisecond, with this mean, and then a Correct
-- by this amount
abbrev moved : ℤ → ℤ → Bool → List Line
moved mean amount steps = does 408000000 0 Turned (Correct amount steps (pos 0)) ∷ (shut_by mean ∷ mild_hop.cpast)

abbrev moves : (mean amount : ℤ) (steps : Bool) → Moves 0 (shut_by mean) (does 408000000 0 Turned (Correct amount steps (pos 0))) amount
moves mean amount steps = record {
  count = 2;
  lo = negsuc 100;
  size = pos 101;
  mean = mean;
  deed = refl;
  node = refl;
  stepped = steps;
  shown = pos 0;
  correct = refl;
  correct_node = refl;
}

abbrev jumps : Line
jumps = does 408000000 0 Turned (Correct (pos 300000) false (pos 0))

abbrev jumped : List Line
jumped = moved (pos 300000) (pos 300000) false

-- a follower that steps its clock by 50, where the mean is the round's own
abbrev stepped_hop : Hop
stepped_hop = record mild_hop { correct = does 408000400 1 (Came 10) (Correct (pos 50) true (pos 0)) }

stepped_computed : Computed 0 stepped_hop (spot 14 mild_hop.past refl)
stepped_computed = search arith

abbrev stepped : PeerCorrects (still false) stepped_hop.correct mild_hop.past
stepped = peer_corrects moves_little (skipped 4 mild_hop.past) (taking_of (corrects_at stepped_hop (spot 14 mild_hop.past refl) stepped_computed) refl)
    refl refl refl (near_agrees (negsuc 50))

-- what the peer lacks to a mean of 300 ms
abbrev drags : MessageValue
drags = msg AdjTime 10 (TimeBody (pos 300101))

abbrev posts : Line
posts = does 408000000 0 Turned (Post (Peer (peer_of 1)) (Message drags))

abbrev taken : List Line
taken = does 408000400 1 (Came 10) (Took (Peer (peer_of 0)) (Good (Message drags))) ∷ (begins 408000400 1 (Came 10) ∷ (posts ∷ jumped))

abbrev drag_hop : Hop
drag_hop = record mild_hop {
  close = shut_by (pos 300000);
  correct = does 408000400 1 (Came 10) (Correct (pos 300101) false (pos 0));
  past
      = taken;
}

drag_computed : Computed 0 drag_hop (spot 13 taken refl)
drag_computed = search arith

abbrev drag : PeerCorrects (still false) drag_hop.correct taken
drag = peer_corrects (moves (pos 300000) (pos 300000) false) (skipped 3 taken) (taking_of (corrects_at drag_hop (spot 13 taken refl) drag_computed) refl)
    refl refl refl (near_agrees (pos 300000))

estimated : Estimate 0 1 drag_hop.close mild_hop.cpast (sample_of 0 mild_hop) mild_hop.reading mild_hop.older jumped
estimated = estimate_at (spot 8 mild_hop.cpast refl) (search arith) refl refl refl

-- two rounds that close in short order
abbrev closes_at : ℕ → Line
closes_at x = does x 0 Turned (Close 1 (pos 0) (pos 0) (pos 0))

rounds_break : RoundsBreak (still false)
rounds_break = record {
  mean_far = breaks jumped (λ h.
      let agrees = small_agrees (pos 300000) (negsuc 100) (1, omega arith, refl) refl in
      too_many 300101 40000 refl ((h.0.mean 0 _ _ (pos 300000) (negsuc 100) refl (moves (pos 300000) (pos 300000) false) agrees).moves));
  own_far = breaks jumped (λ h. too_many 300000 40000 refl
      ((h.0.own 0 _ _ (pos 300000) refl (moves (pos 300000) (pos 300000) false) (own_agrees (pos 300000))).near));
  -- it prints that mean, and moves the clock by -50 microseconds
  prints_far = breaks (moved (pos 300000) (negsuc 49) false) (λ h.
      let agrees = small_agrees (pos 300000) (negsuc 100) (1, omega arith, refl) refl in
      too_many 300101 40000 refl ((h.0.mean 0 _ _ (negsuc 49) (negsuc 100) refl (moves (pos 300000) (negsuc 49) false) agrees).prints));
  -- the same round with its own mean, and a Correct that is stepped
  own_stepped = breaks (moved (negsuc 50) (negsuc 50) true)
      (λ h. true≢false ((h.0.own 0 _ _ (negsuc 50) refl (moves (negsuc 50) (negsuc 50) true) (own_agrees (negsuc 50))).slews));
  peer_stepped = breaks (stepped_hop.correct ∷ mild_hop.past) (λ h. true≢false (h.0.peer stepped).little.slews);
  adjtime_far = breaks (posts ∷ jumped) (λ h. too_many 300101 40000 refl
      (h.0.adjtime 0 drag_hop.close jumps mild_hop.cpast (pos 300000) (pos 300000) (close_begins refl refl (skipped 1 jumped) refl refl refl refl refl refl)
      (inl refl) (moves (pos 300000) (pos 300000) false) (near_agrees (pos 300000))));
  peer_far = breaks (drag_hop.correct ∷ taken) (λ h. too_many 300101 40000 refl ((h.0.peer drag).little.near));
  late_met = breaks (drag_hop.correct ∷ taken) (λ h.
      let k : pos 416040399 ≡ pos 416300500 = (h.0.peer drag).meets refl 416000400 (omega arith) in
      omega (arith, ints));
  clocks_far = breaks jumped (λ h.
      let agrees = small_agrees (pos 300000) (negsuc 100) (1, omega arith, refl) refl in
      too_far (pos 300001) (pos 40403) refl (h.0 408000000 (omega arith) 0 1 drag_hop.close jumps mild_hop.cpast (pos 300000) _ _ _ (untouched refl refl refl)
      (moves (pos 300000) (pos 300000) false) estimated agrees));
  close_soon = breaks (closes_at 20 ∷ (closes_at 10 ∷ [])) (λ h. too_many 239000010 20 refl
      (h.0 (closes_at 10) [] 1 1 (pos 0) (pos 0) (pos 0) (pos 0) (pos 0) (pos 0) refl (inl refl) refl refl refl refl));
}

-- a Correct that is slewed, and later ones of 0 at a late tick and back at the first
abbrev again : ℤ → List Line
again amount = does 0 0 Turned (Correct (pos 0) false (pos 0)) ∷ (does 100000 0 Turned (Correct (pos 0) false (pos 0)) ∷
    (does 0 0 Turned (Correct amount false (pos 0)) ∷ []))

abbrev corrects : ℤ → Bool → ℤ → List Line
corrects amount stepped shown = does 0 0 Turned (Correct amount stepped shown) ∷ []

readings_break : ReadingsBreak (still false)
readings_break = record {
  steady = breaks (again (pos 100000)) (λ h.
      let read = read_by 0 3 (again (pos 100000)) 0 100000 (omega arith) refl (omega arith) (omega arith) in
      too_many 1000 500 refl ((h.0.ticks 0 [] 0 100000 (unstepped_by 0 3 (again (pos 100000)) refl refl) read).rate));
  waited = breaks (again (negsuc 99999)) (λ h.
      let read = read_at_by 0 3 (again (negsuc 99999)) 0 100000 (omega arith) refl (omega arith) (omega arith) in
      too_far (pos 99498) (pos 99000) refl (h.0 0 0 [] 0 100000 (pos 0) (unstepped_by 0 3 (again (negsuc 99999)) refl refl) read (omega (arith, ints))));
  agreed_shown = breaks (stray true) (λ h. too_far (pos 5000001) (pos 534) refl
      ((h.0 408000500 (omega arith)).master 0 _ _ _ _ _ _ _ (stray_round true) (untouched refl refl refl) (left_alone true)));
  shown_near = breaks (does 0 1 (Booted 9 (pos 1000)) Boot ∷ (does 0 0 (Booted 7 (pos 0)) Boot ∷ []))
      (λ h. too_far (pos 1000) (pos 0) refl ((h.0 0 1 0 (pos 0) refl refl (omega (arith, ints))).within));
  falls = breaks (corrects (negsuc 249) false (negsuc 249))
      (λ h. let k : negsuc 249 ≡ pos 0 = (h.0.prints (negsuc 249) false (negsuc 249) refl).value in omega (arith, ints));
  leaps = breaks (corrects (pos 250) false (pos 250)) (λ h. let k : pos 250 ≡ pos 0 = (h.0.prints (pos 250) false (pos 250) refl).value in
      omega (arith, ints));
  steps = breaks (corrects (pos 250) true (pos 250)) (λ h. true≢false (h.0.prints (pos 250) true (pos 250) refl).flag);
  slews = breaks (corrects (pos 20000001) false (pos 0)) (λ h. true≢false (sym (h.0.prints (pos 20000001) false (pos 0) refl).flag));
}

-- each promise is broken by some history
pub all_break : AllBreak
all_break = record {
  setting = still false;
  roles = roles_break;
  sends = sends_break;
  clocks = clocks_break;
  readings = readings_break;
  chains = chains_break;
  rounds = rounds_break;
  answers = answers_break;
}
