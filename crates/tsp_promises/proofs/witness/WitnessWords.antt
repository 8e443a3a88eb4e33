-- Boots with one word: promises that hold all the same, and a measurement that goes wrong where datagrams live long.
-- A reply of an earlier life. And looks at clocks.
use Rattle.tsp_promises.proofs.shared.Rates.{keeps_time}
use Rattle.tsp_base.specs.Ticks.{tick_at}
use Rattle.std.proofs.Common.{sym, arith, subst, inl, ℕ, zero, suc, ◌≡◌, ◌≤◌, ◌≤ℤ◌, ◌-ℤ◌, nat_abs, ℤ, true, false, pos, negsuc, List, [], ◌∷◌, refl}
use Rattle.tsp_rules.specs.Values.{Post, Arm, Ring, Close, Correct, Round, CloseAlarm, Message, Stamp, AdjTime, SetTime, TimeBody, Peer, Request, Reply}
use Rattle.tsp_base.specs.Words.{Came, Did, Here, Line, ReplyValue, Seen, dids, peer_of, posted}
use Rattle.tsp_group.specs.Groups.{better, goes_before, group_from}
use Rattle.tsp_promises.proofs.witness.Spots.{too_far}
use Rattle.tsp_promises.proofs.witness.Histories.{line, msg, skip, skipped, step_at, still}
use Rattle.tsp_promises.proofs.witness.HistoriesFit.{Stage, after, at, stages_fit, boots, turns, takes, stands, wins, follows, sets_up, obeys, acked, replies}
use Rattle.tsp_promises.proofs.witness.HistoriesFit.{samples}
use Rattle.tsp_promises.proofs.witness.WitnessUse.{asked, first_hop, first_round, fits, lead, led, ordinary, reply1, usual}
use Rattle.tsp_promises.specs.{Looked.Look, Looked.LooksNeedRest, Looked.LooksUse, Uses.MeasuresWrongly, Uses.SameWords}
use Rattle.tsp_promises.specs.{Chained.Hop, ClockAt.clock, Fits.Fits, Measured.Measured, Uses.LateReply}
use Rattle.tsp_promises.proofs.{witness.Debts.adjusts_at, witness.Debts.debts, witness.Spots.corrects_at, witness.Spots.hop_in, witness.Spots.spot}
use Rattle.tsp_promises.proofs.{witness.Spots.untouched}
use Rattle.tsp_promises.proofs.{witness.HistoriesFit.all_finished, witness.PremiseChecks.honest_by, witness.PremiseChecks.kept_by}
use Rattle.tsp_promises.proofs.{witness.PremiseChecks.life_by}
use Rattle.tsp_promises.proofs.{shared.SendPlaces.post_unique, shared.SendPlaces.same_number, witness.StepChecks.port0}

abbrev again : ReplyValue
again = record { ticket = 12; word = 7; counter = 0; reading = pos 1000000298 }

-- after ordinary use the master boots again with its old word, leads again and closes another round
abbrev anew_steps : List Stage
anew_steps =
    boots 500000000 0 7 ∷
    stands (at 900000000 0 0) ∷
    wins (at 905000000 0 0) ∷
    follows (at 905000000 1 0) 0 11 ∷
    sets_up (at 905000001 0 0) 14 1 11 (pos 905000001) ∷
    obeys (at 905000002 1 0) 15 0 (msg SetTime 11 (TimeBody (pos 905000001))) (negsuc 16) true (pos 905000001) ∷
    acked (at 905000003 0 0) 16 1 11 ∷
    turns (at 1000000000 0 0) (Ring Round ∷ Arm CloseAlarm 1008000000 ∷ Post (Peer (peer_of 1)) (Stamp (Request 7 0)) ∷ []) ∷
    replies (at 1000000299 1 0) 17 0 again ∷
    samples (at 1000000801 0 0) 18 1 again (negsuc 101) (pos 401) ∷
    turns (at 1008000000 0 0) (Ring CloseAlarm ∷ Close 2 (negsuc 101) (pos 102) (negsuc 50) ∷ Correct (negsuc 50) false (pos 1008000000) ∷
    Post (Peer (peer_of 1)) (Message (msg AdjTime 12 (TimeBody (pos 51)))) ∷ []) ∷
    obeys (at 1008000400 1 0) 19 0 (msg AdjTime 12 (TimeBody (pos 51))) (pos 51) false (pos 1008000399) ∷
    acked (at 1008000700 0 0) 20 1 12 ∷
    []

-- the history after so many steps
abbrev anew : ℕ → List Line
anew k = after k anew_steps (usual 23)

again_fits : Fits (still false) (anew 13)
unfolding group_from goes_before better
again_fits = stages_fit false 13 anew_steps (usual 23) fits refl (
  search debts,
  (
    search debts,
    (
      search debts,
      (
        search debts,
        (
          search debts,
          (
            search debts,
            (
              search debts,
              (
                search debts,
                (
                  search debts,
                  (
                    search debts,
                    (
                      (
                        (refl, tt),
                        (
                          search debts,
                          (
                            search debts,
                            (
                              (
                                refl,
                                record {
                                  rested = inl (omega arith);
                                  fits = adjusts_at (omega arith) refl refl refl refl (search debts) refl refl (omega arith) (record {
                                    corrects = refl;
                                    lives = refl;
                                  }) refl refl refl
                                      refl (search debts) refl refl refl refl;
                                },
                              ),
                              tt,
                            ),
                          ),
                        ),
                      ),
                      search debts,
                    ),
                  ),
                ),
              ),
            ),
          ),
        ),
      ),
    ),
  ),
)

abbrev again_hop : Hop
again_hop = hop_in (anew 13) 4 9 15 (pos 401)

-- in both lives of the master a round corrects node 1
pub same_words : SameWords
same_words = record {
  setting = still false;
  world = anew 13;
  fits = again_fits;
  finished = all_finished false (anew 13) refl;
  honest = honest_by (anew 13) refl;
  life = life_by (anew 13) refl;
  repeats = record {
    again = spot 42 (anew 13) refl;
    once = spot 75 (skip 43 (anew 13)) refl;
    node = refl;
    boots = refl;
    booted = refl;
    word = 7;
    wall = pos 500000000;
    wall_once = pos 0;
    word_is = refl;
    word_once = refl;
  };
  before = record { hop = first_hop; correct_in = skipped 12 (skip 43 (anew 13)); from_round = first_round };
  after = record { hop = again_hop; correct_in = skipped 4 (anew 13); from_round = corrects_at again_hop (spot 7 (skip 5 (anew 13)) refl) (search arith) };
  begins = skipped 32 (skip 10 (anew 13));
}

abbrev reboot_steps : List Stage
reboot_steps =
    boots 500000000 0 7 ∷
    stands (at 900000000 0 0) ∷
    wins (at 905000000 0 0) ∷
    turns (at 1000000000 0 0) (Ring Round ∷ Arm CloseAlarm 1008000000 ∷ Post (Peer (peer_of 1)) (Stamp (Request 7 0)) ∷ []) ∷
    samples (at 1000000801 0 0) 8 1 reply1 (negsuc 600000100) (pos 401) ∷
    []

abbrev told : Line
told = line (step_at 400000300 1 (Came 6)) port0 (Post (Peer (peer_of 0)) (Stamp (Reply reply1)))

wrongly : Measured (still false) (after 5 reboot_steps (usual 15)) → ⊥
wrongly h =
    let r = h.0 (peer_of 1) 0 (negsuc 600000100) (pos 401) 10 refl in
    let number : posted (dids r.older) ≡ 8 = same_number (posted (dids r.older)) 8 (sym r.takes) in
    let same : r.post ∷ r.older ≡ told ∷ skip 1 (usual 15) = post_unique (skip 1 (after 5 reboot_steps (usual 15))) r.post told r.older (skip 1 (usual 15))
    (Peer (peer_of 0)) (Peer (peer_of 0)) (Stamp (Reply r.reply)) (Stamp (Reply reply1)) r.place
    (skipped 15 (skip 1 (after 5 reboot_steps (usual 15)))) r.deed refl number in
    too_far (pos 600000100) (pos 401) refl (subst
    (λ z. pos (nat_abs (negsuc 600000100 -ℤ (clock (still false) 1 z -ℤ clock (still false) 0 z))) ≤ℤ pos 401) same r.near)

-- a reply of the first life, taken in the second
pub measures_wrongly : MeasuresWrongly
measures_wrongly = record {
  setting = still false;
  world = after 5 reboot_steps (usual 15);
  fits = stages_fit false 5 reboot_steps (usual 15) asked refl (search debts);
  finished = all_finished false (after 5 reboot_steps (usual 15)) refl;
  honest = honest_by (after 5 reboot_steps (usual 15)) refl;
  repeats = record {
    again = spot 14 (after 5 reboot_steps (usual 15)) refl;
    once = spot 46 (skip 15 (after 5 reboot_steps (usual 15))) refl;
    node = refl;
    boots = refl;
    booted = refl;
    word = 7;
    wall = pos 500000000;
    wall_once = pos 0;
    word_is = refl;
    word_once = refl;
  };
  wrong = wrongly;
}

abbrev answer : ReplyValue
answer = record { ticket = 9; word = 7; counter = 0; reading = pos 400000300 }

-- a master asks, boots, and takes the answer
abbrev reborn_steps : List Stage
reborn_steps =
    turns (at 400000000 0 0) (Ring Round ∷ Arm CloseAlarm 408000000 ∷ Post (Peer (peer_of 1)) (Stamp (Request 7 0)) ∷ []) ∷
    replies (at 400000300 1 0) 0 0 answer ∷
    boots 400000500 0 8 ∷
    takes (at 400000801 0 0) 1 1 (Stamp (Reply answer)) ([]) ∷
    []

-- the exchange ended with the life
pub late_reply : LateReply
late_reply = record {
  history = kept_by false (after 4 reborn_steps (lead 5)) (stages_fit false 4 reborn_steps (lead 5) led refl (search debts)) refl refl refl refl;
  took = spot 0 (after 4 reborn_steps (lead 5)) refl;
  request = spot 6 (skip 1 (after 4 reborn_steps (lead 5))) refl;
  peer = peer_of 1;
  reply = answer;
  asked = refl;
  deed = refl;
  node = refl;
  port = refl;
  booted = omega arith;
  no_trip = λ err t. none_open t.request t.older t.exchange_is;
} where
  none_open : (d : Did) (older : List Seen) → [] ≡ Here d ∷ older → ⊥
  none_open d older e = cc

-- node 0 gains 100 parts in a million, and all others lose as much
abbrev rate_of : ℕ → ℤ
rate_of zero = pos 100
rate_of (suc n) = negsuc 99

rates_small : (n : ℕ) → nat_abs (rate_of n) ≤ 100
rates_small zero = omega arith
rates_small (suc n) = omega arith

-- all three readings are at the beginning
abbrev at_once : (k m : ℕ) → Look k m [] 16000000
at_once k m = record {
  first = 0;
  middle = 0;
  last = 0;
  begins = omega arith;
  ends = omega arith;
  passed = omega arith;
  before = [];
  there = [];
  after = [];
  own_before = untouched refl refl refl;
  other = untouched refl refl refl;
  own_after = untouched refl refl refl;
}

pub looks_use : LooksUse
looks_use = record {
  setting = record (still false) {
    drift = 100;
    tick = λ n. tick_at (rate_of n);
    small = omega arith;
    ticks = λ n. keeps_time (rate_of n) 100 (rates_small n) (omega arith);
  };
  fits = tt;
  drifts = refl;
  fast = at_once 1 0;
  slow = at_once 0 1;
  width_is = refl;
  high_reached = refl;
  low_reached = refl;
}

-- node 1 is slewed by 17 after it has read its clock
pub looks_need_rest : LooksNeedRest
looks_need_rest = record {
  history = ordinary;
  k = 1;
  m = 0;
  read = 408000000;
  t = 409000000;
  later = omega arith;
  before = skip 12 (usual 23);
  before_in = skipped 12 (usual 23);
  other = untouched refl refl refl;
  same_life = refl;
  less = omega arith;
}
