use Rattle.std.specs.Prelude.{refl}
use Rattle.tsp_run.specs.Run.{run, steps}
use Rattle.tsp_base.specs.Words.{nothing, puts, ◌followed_by◌, either_by, reading, for_each, arms, posts, posts_to_others, posts_back, posts_time, carries_hops}
use Rattle.tsp_base.specs.Words.{carries_time, kind_number, kind_of}
use Rattle.tsp_rules.specs.Answers.{alarm_rings, rings, rings_alone, due_alarms, says_in, peer_says, replies_in, peer_replies, from_peer, handles_kind, handles}
use Rattle.tsp_rules.specs.Answers.{takes, input_row, answers}
use Rattle.tsp_rules.specs.CandidateRows.{lead_row, yields, window_rings, accepted_by, refused_by, candidate_takes_kind, candidate_takes}
use Rattle.tsp_rules.specs.ClockRows.{adjusts, sets}
use Rattle.tsp_rules.specs.CommonRows.{boots, arms_elect, searches, tells_ticket, follow_row, backs_own, candidature_row, follows_unless, quits, posts_reply}
use Rattle.tsp_rules.specs.CommonRows.{replies, names_master, says_master, traces, tests}
use Rattle.tsp_rules.specs.MasterRows.{joins, sends_away, master_takes_kind, master_takes}
use Rattle.tsp_rules.specs.ResolveRows.{resolves, finds_rival, quits_rivals, resolve_rings}
use Rattle.tsp_rules.specs.RoundRows.{asks, asks_slaves, round_begins, round_rings, asks_measured, arms_next, abandons, probe_rings, samples_request, samples}
use Rattle.tsp_rules.specs.RoundRows.{corrects_by, corrects_peer, begins_or_waits, moves, closes_with, closes, close_rings, abandons_going, upsetting}
use Rattle.tsp_rules.specs.SendRows.{begins, begins_timed, begins_to_others, begins_adjtime, begins_settime, acknowledges, leaves_after, gives_up, repeats}
use Rattle.tsp_rules.specs.SendRows.{repeats_send, due_send, due_sends}
use Rattle.tsp_rules.specs.SlaveRows.{quiet_rings, rings_or_late, search_rings, loosens, elect_rings, reports_conflict, masterup_in, masterack_in, election_of}
use Rattle.tsp_rules.specs.SlaveRows.{acks_repeat, confirms, adjtime_of, settime_of, from_master, slave_takes_kind, slave_takes}
use Rattle.tsp_rules.specs.DateRows.{passes_on, leaves, leaves_all, new_date, sets_date_where, date_in, date_of, sets_in_charge, date_request_in}
use Rattle.tsp_rules.specs.DateRows.{date_request_of, date_acked_in, date_acked}
use Rattle.tsp_rules.specs.NodeRows.{nothing_at_all, on, ◌and_then◌, reading_all, for_ports, abandons_on, stirring}
use Rattle.tsp_rules.specs.GateRows.{sends_loops, loops_after, probes_on, closes_on, begins_round_on, alarm_on, alarms_on, turns_on, reposts, reposts_on}
use Rattle.tsp_rules.specs.GateRows.{loosens_master, forwards, takes_loop_step, judges, heeds_loop, takes_loop, takes_message, takes_kind, takes_on, input_all}
use Rattle.tsp_rules.specs.GateRows.{answers_all, boots_on, boots_all}
use Rattle.tsp_group.specs.Groups.{group_from, goes_before, better}
use Rattle.tsp_codec.specs.Taken.{taken_of}
use Rattle.std.proofs.Common.{arith, refl, ◌∷◌, []}
use Rattle.tsp_rules.specs.Values.{BootAt, Become, Bytes, Master, Peer, Message, Accept, Take, Turn}
use Rattle.tsp_base.specs.Words.{Acts, Turned, bare, first_port, line_of, peer_of}
use Rattle.tsp_codec.specs.Canon.{canon}
use Rattle.std.specs.Prelude.{codes}
use Rattle.std.proofs.lemmas.List.Elements.{All-cons}
use Rattle.tsp_promises.proofs.witness.Spots.{placed}
use Rattle.tsp_run.specs.{Ranges.Accepted, Ranges.IsInRange, Run.run}
use Rattle.tsp_run.proofs.{PossibleRun.accepted_possible, RunFits.possible_runs_fit_holds}
use Rattle.tsp_progress.specs.{AnswersUse.all_stay, AnswersUse.tail_of, OneUse.two_may}
use Rattle.tsp_progress.specs.ElectUse.{b_stands_again, before_stand, booted_wins, far_wins, forged_wins, lost_wins, slow_wins, stand_line}
use Rattle.tsp_progress.specs.RefusedUse.{b_stands, both_lose, both_stand, until_elects}
use Rattle.tsp_progress.proofs.{DeliveredChecks.delivered_by, UseLemmas.boot_ranges, UseLemmas.later_ranges, UseLemmas.two_header_is}
use Rattle.tsp_progress.proofs.ElectChecks.{honest_by, life_by, near_by, small_octets, two_stand, unbooted_by}
use Rattle.tsp_progress.proofs.elections.elect_use.Goals as goal

-- the rules give this
pub returns : goal.returns
unfolding taken_of kind_of kind_number carries_time carries_hops nothing puts ◌followed_by◌ either_by reading for_each arms posts posts_to_others posts_back
    posts_time
    alarm_rings rings rings_alone due_alarms says_in peer_says replies_in peer_replies from_peer handles_kind handles takes input_row answers lead_row yields
    window_rings accepted_by refused_by candidate_takes_kind candidate_takes adjusts sets boots arms_elect searches tells_ticket follow_row backs_own
    candidature_row follows_unless quits posts_reply replies names_master says_master traces tests group_from goes_before better joins sends_away
    master_takes_kind master_takes resolves finds_rival quits_rivals resolve_rings asks asks_slaves round_begins round_rings asks_measured arms_next abandons
    probe_rings samples_request samples corrects_by corrects_peer begins_or_waits moves closes_with closes close_rings abandons_going upsetting begins
    begins_to_others begins_adjtime begins_settime acknowledges leaves_after gives_up repeats repeats_send due_send due_sends quiet_rings rings_or_late
    search_rings loosens elect_rings reports_conflict masterup_in masterack_in election_of acks_repeat confirms adjtime_of settime_of from_master
    slave_takes_kind slave_takes begins_timed passes_on leaves leaves_all new_date sets_date_where date_in date_of sets_in_charge date_request_in
    date_request_of date_acked_in date_acked nothing_at_all on ◌and_then◌ reading_all for_ports abandons_on stirring sends_loops loops_after probes_on closes_on
    begins_round_on alarm_on alarms_on turns_on reposts reposts_on loosens_master forwards takes_loop_step judges heeds_loop takes_loop takes_message takes_kind
    takes_on input_all answers_all boots_on boots_all steps
returns c = record {
  accepted = kept-accepted;
  two = λ setting set. two_stand setting set 10000 385020001 (run two_may until_elects) 1 0 385000000 385000000 (before_stand (run two_may (b_stands)))
      (before_stand (run two_may (both_stand))) (run two_may both_lose)
      (placed (stand_line 1 385000000 ∷ (before_stand (run two_may (b_stands)))) (run two_may both_lose) refl) (placed (stand_line 0 385000000 ∷
      (before_stand (run two_may (both_stand)))) (run two_may both_lose) refl)
      (placed (stand_line 1 385000000 ∷ (before_stand (run two_may (b_stands)))) (before_stand (run two_may (both_stand))) refl)
      (placed (run two_may until_elects) (before_stand (run two_may (b_stands))) refl) refl refl (omega arith)
      (near_by setting set.drift_is 10000 20000 (stand_line 1 385000000) (stand_line 0 385000000) (omega arith) (omega arith));
  delivered = λ setting set. delivered_by setting 10000 385020001 all_stay (run two_may until_elects) (run two_may both_lose)
      (possible_runs_fit_holds two_may setting both_lose set (accepted_possible two_may both_lose kept-accepted)).0 refl;
  prompt = λ setting set. let drift = set.drift_is in rw drift (omega arith);
  unbooted = unbooted_by all_stay (run two_may until_elects) (run two_may both_lose) refl;
  honest = honest_by two_may both_lose kept-accepted refl;
  life = life_by two_may both_lose kept-accepted refl;
  asks = refl;
  loses = refl;
  slow_accepted = slow-accepted;
  slow_delivered = λ setting set. delivered_by setting 1600000 388200001 all_stay (run two_may until_elects) (run two_may slow_wins)
      (possible_runs_fit_holds two_may setting slow_wins set (accepted_possible two_may slow_wins slow-accepted)).0 refl;
  slow_unbooted = unbooted_by all_stay (run two_may until_elects) (run two_may slow_wins) refl;
  slow_honest = honest_by two_may slow_wins slow-accepted refl;
  slow_life = life_by two_may slow_wins slow-accepted refl;
  slow = λ setting set law. law (stand_line 0 385000000) (before_stand (run two_may (Turn 385000000 0 ∷ until_elects))) (stand_line 1 385000000)
      (before_stand (run two_may (Turn 385000000 1 ∷ Turn 385000000 0 ∷ until_elects)))
      (two_stand setting set 1600000 388200001 (run two_may until_elects) 0 1 385000000 385000000 (before_stand (run two_may (Turn 385000000 0 ∷ until_elects)))
      (before_stand (run two_may (Turn 385000000 1 ∷ Turn 385000000 0 ∷ until_elects))) (run two_may slow_wins)
      (placed (stand_line 0 385000000 ∷ (before_stand (run two_may (Turn 385000000 0 ∷ until_elects)))) (run two_may slow_wins) refl)
      (placed (stand_line 1 385000000 ∷ (before_stand (run two_may (Turn 385000000 1 ∷ Turn 385000000 0 ∷ until_elects)))) (run two_may slow_wins) refl)
      (placed (stand_line 0 385000000 ∷ (before_stand (run two_may (Turn 385000000 0 ∷ until_elects))))
      (before_stand (run two_may (Turn 385000000 1 ∷ Turn 385000000 0 ∷ until_elects))) refl)
      (placed (run two_may until_elects) (before_stand (run two_may (Turn 385000000 0 ∷ until_elects))) refl) refl refl (omega arith)
      (near_by setting set.drift_is 1600000 3200000 (stand_line 0 385000000) (stand_line 1 385000000) (omega arith) (omega arith)))
      (line_of (record { at = 390000000; node = 1; cause = Turned }) 390000000 first_port (Acts (Become Master)))
      (tail_of (tail_of (tail_of (run two_may slow_wins))))
      (record {
        place = placed ((line_of (record { at = 390000000; node = 1; cause = Turned }) 390000000 first_port (Acts (Become Master))) ∷
            (tail_of (tail_of (tail_of (run two_may slow_wins))))) (run two_may slow_wins) refl;
        node = refl;
        port = refl;
        wins = refl;
        still = refl;
      });
  lost_accepted = lost-accepted;
  lost_unbooted = unbooted_by all_stay (run two_may until_elects) (run two_may lost_wins) refl;
  lost_honest = honest_by two_may lost_wins lost-accepted refl;
  lost_life = life_by two_may lost_wins lost-accepted refl;
  lost = λ setting set law. law (stand_line 1 385000000) (before_stand (run two_may (b_stands))) (stand_line 0 385000000)
      (before_stand (run two_may (both_stand)))
      (two_stand setting set 10000 385020001 (run two_may until_elects) 1 0 385000000 385000000 (before_stand (run two_may (b_stands)))
      (before_stand (run two_may (both_stand))) (run two_may lost_wins)
      (placed (stand_line 1 385000000 ∷ (before_stand (run two_may (b_stands)))) (run two_may lost_wins) refl) (placed (stand_line 0 385000000 ∷
      (before_stand (run two_may (both_stand)))) (run two_may lost_wins) refl)
      (placed (stand_line 1 385000000 ∷ (before_stand (run two_may (b_stands)))) (before_stand (run two_may (both_stand))) refl)
      (placed (run two_may until_elects) (before_stand (run two_may (b_stands))) refl) refl refl (omega arith)
      (near_by setting set.drift_is 10000 20000 (stand_line 1 385000000) (stand_line 0 385000000) (omega arith) (omega arith)))
      (line_of (record { at = 390000000; node = 0; cause = Turned }) 390000000 first_port (Acts (Become Master)))
      (tail_of (tail_of (tail_of (run two_may lost_wins))))
      (record {
        place = placed ((line_of (record { at = 390000000; node = 0; cause = Turned }) 390000000 first_port (Acts (Become Master))) ∷
            (tail_of (tail_of (tail_of (run two_may lost_wins))))) (run two_may lost_wins) refl;
        node = refl;
        port = refl;
        wins = refl;
        still = refl;
      });
  booted_accepted = booted-accepted;
  booted_delivered = λ setting set. delivered_by setting 10000 385020001 all_stay (run two_may until_elects) (run two_may booted_wins)
      (possible_runs_fit_holds two_may setting booted_wins set (accepted_possible two_may booted_wins booted-accepted)).0 refl;
  booted_honest = honest_by two_may booted_wins booted-accepted refl;
  booted_life = life_by two_may booted_wins booted-accepted refl;
  booted = λ setting set law. law (stand_line 1 385000000) (before_stand (run two_may (b_stands))) (stand_line 0 385000000)
      (before_stand (run two_may (both_stand)))
      (two_stand setting set 10000 385020001 (run two_may until_elects) 1 0 385000000 385000000 (before_stand (run two_may (b_stands)))
      (before_stand (run two_may (both_stand))) (run two_may booted_wins)
      (placed (stand_line 1 385000000 ∷ (before_stand (run two_may (b_stands)))) (run two_may booted_wins) refl) (placed (stand_line 0 385000000 ∷
      (before_stand (run two_may (both_stand)))) (run two_may booted_wins) refl)
      (placed (stand_line 1 385000000 ∷ (before_stand (run two_may (b_stands)))) (before_stand (run two_may (both_stand))) refl)
      (placed (run two_may until_elects) (before_stand (run two_may (b_stands))) refl) refl refl (omega arith)
      (near_by setting set.drift_is 10000 20000 (stand_line 1 385000000) (stand_line 0 385000000) (omega arith) (omega arith)))
      (line_of (record { at = 390000000; node = 0; cause = Turned }) 390000000 first_port (Acts (Become Master)))
      (tail_of (tail_of (tail_of (run two_may booted_wins))))
      (record {
        place = placed ((line_of (record { at = 390000000; node = 0; cause = Turned }) 390000000 first_port (Acts (Become Master))) ∷
            (tail_of (tail_of (tail_of (run two_may booted_wins))))) (run two_may booted_wins) refl;
        node = refl;
        port = refl;
        wins = refl;
        still = refl;
      });
  forged_accepted = forged-accepted;
  forged_delivered = λ setting set. delivered_by setting 10000 385020001 all_stay (run two_may until_elects) (run two_may forged_wins)
      (possible_runs_fit_holds two_may setting forged_wins set (accepted_possible two_may forged_wins forged-accepted)).0 refl;
  forged_unbooted = unbooted_by all_stay (run two_may until_elects) (run two_may forged_wins) refl;
  forged_life = life_by two_may forged_wins forged-accepted refl;
  forged = λ setting set law. law (stand_line 1 385000000) (before_stand (run two_may (b_stands))) (stand_line 0 385000000)
      (before_stand (run two_may (both_stand)))
      (two_stand setting set 10000 385020001 (run two_may until_elects) 1 0 385000000 385000000 (before_stand (run two_may (b_stands)))
      (before_stand (run two_may (both_stand))) (run two_may forged_wins)
      (placed (stand_line 1 385000000 ∷ (before_stand (run two_may (b_stands)))) (run two_may forged_wins) refl) (placed (stand_line 0 385000000 ∷
      (before_stand (run two_may (both_stand)))) (run two_may forged_wins) refl)
      (placed (stand_line 1 385000000 ∷ (before_stand (run two_may (b_stands)))) (before_stand (run two_may (both_stand))) refl)
      (placed (run two_may until_elects) (before_stand (run two_may (b_stands))) refl) refl refl (omega arith)
      (near_by setting set.drift_is 10000 20000 (stand_line 1 385000000) (stand_line 0 385000000) (omega arith) (omega arith)))
      (line_of (record { at = 390000000; node = 0; cause = Turned }) 390000000 first_port (Acts (Become Master)))
      (tail_of (tail_of (tail_of (run two_may forged_wins))))
      (record {
        place = placed ((line_of (record { at = 390000000; node = 0; cause = Turned }) 390000000 first_port (Acts (Become Master))) ∷
            (tail_of (tail_of (tail_of (run two_may forged_wins))))) (run two_may forged_wins) refl;
        node = refl;
        port = refl;
        wins = refl;
        still = refl;
      });
  far_accepted = far-accepted;
  far_delivered = λ setting set. delivered_by setting 10000 685035001 all_stay (run two_may until_elects) (run two_may far_wins)
      (possible_runs_fit_holds two_may setting far_wins set (accepted_possible two_may far_wins far-accepted)).0 refl;
  far_unbooted = unbooted_by all_stay (run two_may until_elects) (run two_may far_wins) refl;
  far_honest = honest_by two_may far_wins far-accepted refl;
  far_life = life_by two_may far_wins far-accepted refl;
  far = (record {
    place = placed ((line_of (record { at = 690015000; node = 1; cause = Turned }) 690015000 first_port (Acts (Become Master))) ∷
        (tail_of (tail_of (tail_of (run two_may far_wins))))) (run two_may far_wins) refl;
    node = refl;
    port = refl;
    wins = refl;
    still = refl;
  });
  far_else = λ setting set near. two_stand setting set 10000 685035001 (run two_may until_elects) 0 1 385000000 685015000
      (before_stand (run two_may (both_stand))) (before_stand (run two_may (b_stands_again))) (run two_may far_wins)
      (placed (stand_line 0 385000000 ∷ (before_stand (run two_may (both_stand)))) (run two_may far_wins) refl) (placed (stand_line 1 685015000 ∷
      (before_stand (run two_may (b_stands_again)))) (run two_may far_wins) refl)
      (placed (stand_line 0 385000000 ∷ (before_stand (run two_may (both_stand)))) (before_stand (run two_may (b_stands_again))) refl)
      (placed (run two_may until_elects) (before_stand (run two_may (both_stand))) refl) refl refl (omega arith)
      near;
} where
  kept-accepted : Accepted two_may both_lose
  kept-accepted = record {
    header_is = two_header_is;
    ranges = later_ranges (Take 385020000 5 ∷ Take 385020000 4 ∷ Take 385010000 2 ∷ Take 385010000 3 ∷ Turn 385000000 0 ∷ Turn 385000000 1 ∷ Turn 85000000 1 ∷
        Turn 85000000 0 ∷ Turn 80000000 1 ∷ Turn 80000000 0 ∷ []) (BootAt 0 1 0 ∷ BootAt 0 0 0 ∷ []) refl (boot_ranges 0 (omega arith));
    valid = (refl, (refl, (refl, (refl, (refl, (refl, (refl, (refl, (refl, (refl, (refl, (refl, tt))))))))))));
  }

  slow-accepted : Accepted two_may slow_wins
  slow-accepted = record {
    header_is = two_header_is;
    ranges = later_ranges (Turn 390000000 1 ∷ Take 388200000 7 ∷ Take 388200000 6 ∷ Turn 388000000 1 ∷ Turn 388000000 0 ∷ Take 387600000 5 ∷ Take 387600000 4 ∷
        Turn 387000000 1 ∷ Turn 387000000 0 ∷ Take 386600000 3 ∷ Take 386600000 2 ∷ Turn 386000000 1 ∷ Turn 386000000 0 ∷ Turn 385000000 1 ∷ Turn 385000000 0 ∷
        Turn 85000000 1 ∷ Turn 85000000 0 ∷ Turn 80000000 1 ∷ Turn 80000000 0 ∷ []) (BootAt 0 1 0 ∷ BootAt 0 0 0 ∷ []) refl (boot_ranges 0 (omega arith));
    valid = (
      refl,
      (
        refl,
        (
          refl,
          (
            refl,
            (
              refl,
              (
                refl,
                (
                  refl,
                  (
                    refl,
                    (
                      refl,
                      (
                        refl,
                        (refl, (refl, (refl, (refl, (refl, (refl, (refl, (refl, (refl, (refl, (refl, tt))))))))))),
                      ),
                    ),
                  ),
                ),
              ),
            ),
          ),
        ),
      ),
    );
  }

  lost-accepted : Accepted two_may lost_wins
  lost-accepted = record {
    header_is = two_header_is;
    ranges = later_ranges (Turn 390000000 0 ∷ Turn 388000000 0 ∷ Turn 387000000 0 ∷ Turn 386000000 0 ∷ Turn 385000000 0 ∷ Turn 385000000 1 ∷ Turn 85000000 1 ∷
        Turn 85000000 0 ∷ Turn 80000000 1 ∷ Turn 80000000 0 ∷ []) (BootAt 0 1 0 ∷ BootAt 0 0 0 ∷ []) refl (boot_ranges 0 (omega arith));
    valid = (refl, (refl, (refl, (refl, (refl, (refl, (refl, (refl, (refl, (refl, (refl, (refl, tt))))))))))));
  }

  far-accepted : Accepted two_may far_wins
  far-accepted = record {
    header_is = two_header_is;
    ranges = later_ranges (Turn 690015000 1 ∷ Take 685025000 7 ∷ Take 685018000 6 ∷ Turn 685015000 1 ∷ Take 385020000 4 ∷ Take 385015000 5 ∷ Take 385010000 2 ∷
        Take 385010000 3 ∷ Turn 385000000 0 ∷ Turn 385000000 1 ∷ Turn 85000000 1 ∷ Turn 85000000 0 ∷ Turn 80000000 1 ∷ Turn 80000000 0 ∷ []) (BootAt 0 1 0 ∷
        BootAt 0 0 0 ∷ []) refl (boot_ranges 0 (omega arith));
    valid = (refl, (refl, (refl, (refl, (refl, (refl, (refl, (refl, (refl, (refl, (refl, (refl, (refl, (refl, (refl, (refl, tt))))))))))))))));
  }

  booted-accepted : Accepted two_may booted_wins
  booted-accepted = record {
    header_is = two_header_is;
    ranges = later_ranges (Turn 390000000 0 ∷ Turn 388000000 0 ∷ Turn 387000000 0 ∷ Turn 386000000 0 ∷ Take 385020000 4 ∷ Take 385010000 2 ∷ Take 385010000 3 ∷
        []) (BootAt 385005000 1 7 ∷ both_stand) refl
        (All-cons IsInRange (BootAt 385005000 1 7) both_stand (omega arith) (later_ranges (Turn 385000000 0 ∷ Turn 385000000 1 ∷ Turn 85000000 1 ∷
        Turn 85000000 0 ∷ Turn 80000000 1 ∷ Turn 80000000 0 ∷ []) (BootAt 0 1 0 ∷ BootAt 0 0 0 ∷ []) refl (boot_ranges 0 (omega arith))));
    valid = (refl, (refl, (refl, (refl, (refl, (refl, (refl, (refl, (refl, (refl, (refl, (refl, (refl, (refl, (refl, (refl, tt))))))))))))))));
  }

  forged-accepted : Accepted two_may forged_wins
  forged-accepted = record {
    header_is = two_header_is;
    ranges = later_ranges (Turn 390000000 0 ∷ Take 385020000 5 ∷ Take 385020000 4 ∷ Take 385010000 2 ∷ Take 385010000 3 ∷
        []) ((Bytes 385005000 0 first_port (Peer (peer_of 1)) (canon (Message (bare Accept 32768 (codes "b"))))) ∷ both_stand) refl
        (All-cons IsInRange (Bytes 385005000 0 first_port (Peer (peer_of 1)) (canon (Message (bare Accept 32768 (codes "b"))))) both_stand
        (small_octets (canon (Message (bare Accept 32768 (codes "b")))) refl) (later_ranges (Turn 385000000 0 ∷ Turn 385000000 1 ∷ Turn 85000000 1 ∷
        Turn 85000000 0 ∷ Turn 80000000 1 ∷ Turn 80000000 0 ∷ []) (BootAt 0 1 0 ∷ BootAt 0 0 0 ∷ []) refl (boot_ranges 0 (omega arith))));
    valid = (refl, (refl, (refl, (refl, (refl, (refl, (refl, (refl, (refl, (refl, (refl, (refl, (refl, (refl, tt))))))))))))));
  }
