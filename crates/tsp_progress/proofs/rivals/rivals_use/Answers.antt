use Rattle.std.specs.Prelude.{refl}
use Rattle.tsp_run.specs.Run.{run, steps}
use Rattle.tsp_base.specs.Words.{nothing, puts, ◌followed_by◌, either_by, reading, for_each, arms, posts, posts_to_others, posts_back, posts_time, carries_hops}
use Rattle.tsp_base.specs.Words.{carries_time, kind_number, kind_of}
use Rattle.tsp_rules.specs.Answers.{alarm_rings, rings, rings_alone, due_alarms, says_in, peer_says, replies_in, peer_replies, from_peer, handles_kind, handles}
use Rattle.tsp_rules.specs.Answers.{takes, input_row, answers}
use Rattle.tsp_rules.specs.CandidateRows.{lead_row, yields, window_rings, accepted_by, refused_by, candidate_takes_kind, candidate_takes}
use Rattle.tsp_rules.specs.ClockRows.{adjusts, sets}
use Rattle.tsp_rules.specs.CommonRows.{boots, arms_elect, searches, tells_ticket, follow_row, backs_own, candidature_row, follows_unless, quits, posts_reply}
use Rattle.tsp_rules.specs.CommonRows.{replies, names_master, says_master, traces, tests}
use Rattle.tsp_rules.specs.MasterRows.{joins, sends_away, master_takes_kind, master_takes}
use Rattle.tsp_rules.specs.ResolveRows.{resolves, finds_rival, quits_rivals, resolve_rings}
use Rattle.tsp_rules.specs.RoundRows.{asks, asks_slaves, round_begins, round_rings, asks_measured, arms_next, abandons, probe_rings, samples_request, samples}
use Rattle.tsp_rules.specs.RoundRows.{corrects_by, corrects_peer, begins_or_waits, moves, closes_with, closes, close_rings, abandons_going, upsetting}
use Rattle.tsp_rules.specs.SendRows.{begins, begins_timed, begins_to_others, begins_adjtime, begins_settime, acknowledges, leaves_after, gives_up, repeats}
use Rattle.tsp_rules.specs.SendRows.{repeats_send, due_send, due_sends}
use Rattle.tsp_rules.specs.SlaveRows.{quiet_rings, rings_or_late, search_rings, loosens, elect_rings, reports_conflict, masterup_in, masterack_in, election_of}
use Rattle.tsp_rules.specs.SlaveRows.{acks_repeat, confirms, adjtime_of, settime_of, from_master, slave_takes_kind, slave_takes}
use Rattle.tsp_rules.specs.DateRows.{passes_on, leaves, leaves_all, new_date, sets_date_where, date_in, date_of, sets_in_charge, date_request_in}
use Rattle.tsp_rules.specs.DateRows.{date_request_of, date_acked_in, date_acked}
use Rattle.tsp_rules.specs.NodeRows.{nothing_at_all, on, ◌and_then◌, reading_all, for_ports, abandons_on, stirring}
use Rattle.tsp_rules.specs.GateRows.{sends_loops, loops_after, probes_on, closes_on, begins_round_on, alarm_on, alarms_on, turns_on, reposts, reposts_on}
use Rattle.tsp_rules.specs.GateRows.{loosens_master, forwards, takes_loop_step, judges, heeds_loop, takes_loop, takes_message, takes_kind, takes_on, input_all}
use Rattle.tsp_rules.specs.GateRows.{answers_all, boots_on, boots_all}
use Rattle.tsp_group.specs.Groups.{group_from, goes_before, better}
use Rattle.tsp_codec.specs.Taken.{taken_of}
use Rattle.std.proofs.Common.{sym, subst, arith, ◌∙◌, inr, ◌<◌, ℕ, ◌+◌, ◌*◌, ◌/◌, ◌∷◌, [], refl}
use Rattle.tsp_rules.specs.Values.{BootAt, Take, Turn}
use Rattle.tsp_base.specs.Words.{first_port, of, peer_of, view}
use Rattle.tsp_base.proofs.PlaceLemmas.{Within_all}
use Rattle.tsp_run.specs.{Ranges.Accepted, Run.run}
use Rattle.tsp_run.proofs.{PossibleRun.accepted_possible, RunFits.possible_runs_fit_holds}
use Rattle.tsp_progress.specs.{AnswersUse.all_stay, OneUse.two_may, Watched.Watched}
use Rattle.tsp_progress.specs.RivalsUse.{both_lead, look_line, looked, until_end, until_quits}
use Rattle.tsp_progress.proofs.{DeliveredChecks.delivered_by, StayChecks.stays_by, UseLemmas.boot_ranges, UseLemmas.later_ranges, UseLemmas.two_header_is}
use Rattle.tsp_progress.proofs.{WatchChecks.attended_by_holds, WatchChecks.watched_by_holds}
use Rattle.tsp_progress.proofs.rivals.rivals_use.Goals as goal

-- the rules give this
pub returns : goal.returns
unfolding taken_of kind_of kind_number carries_time carries_hops nothing puts ◌followed_by◌ either_by reading for_each arms posts posts_to_others posts_back
    posts_time
    alarm_rings rings rings_alone due_alarms says_in peer_says replies_in peer_replies from_peer handles_kind handles takes input_row answers lead_row yields
    window_rings accepted_by refused_by candidate_takes_kind candidate_takes adjusts sets boots arms_elect searches tells_ticket follow_row backs_own
    candidature_row follows_unless quits posts_reply replies names_master says_master traces tests group_from goes_before better joins sends_away
    master_takes_kind master_takes resolves finds_rival quits_rivals resolve_rings asks asks_slaves round_begins round_rings asks_measured arms_next abandons
    probe_rings samples_request samples corrects_by corrects_peer begins_or_waits moves closes_with closes close_rings abandons_going upsetting begins
    begins_to_others begins_adjtime begins_settime acknowledges leaves_after gives_up repeats repeats_send due_send due_sends quiet_rings rings_or_late
    search_rings loosens elect_rings reports_conflict masterup_in masterack_in election_of acks_repeat confirms adjtime_of settime_of from_master
    slave_takes_kind slave_takes begins_timed passes_on leaves leaves_all new_date sets_date_where date_in date_of sets_in_charge date_request_in
    date_request_of date_acked_in date_acked nothing_at_all on ◌and_then◌ reading_all for_ports abandons_on stirring sends_loops loops_after probes_on closes_on
    begins_round_on alarm_on alarms_on turns_on reposts reposts_on loosens_master forwards takes_loop_step judges heeds_loop takes_loop takes_message takes_kind
    takes_on input_all answers_all boots_on boots_all steps
returns c = record {
  accepted = whole;
  attended = attended_by_holds 0 (peer_of 0 ∷ peer_of 1 ∷ []) (run two_may until_end) refl;
  delivered = λ setting set. delivered_by setting 10000 651020004 all_stay (run two_may both_lead) (run two_may until_end)
      (possible_runs_fit_holds two_may setting until_end set (accepted_possible two_may until_end whole)).0 refl;
  spans = λ setting set. (
    subst (λ (d : ℕ). 240000000 + (d * 240000001 + 999999) / 1000000 < 240000001) (sym set.drift_is) (omega arith),
    subst (λ (d : ℕ). 5000000 + (d * 5000001 + 999999) / 1000000 < 5000001) (sym set.drift_is) (omega arith),
  );
  alone = refl;
  two = λ setting set. record {
    place = (inr (inr (inr (inr (inr (inr (inr (inr (inr (inr (inr (inr (inr (inr
        (inr (inr (inr (inr (inr (inr (inr (inr (inr (inr (inr (inr (inr (inr (inr
        (inr (inr (inr (inr (inr (inr (inr (inr (inr (inr (inr (inr (inr (inr (inr
        (inr (inr (inr (inr (inr (inr (inr (inr (inr (inr (inr (inr (inr (inr (inr
        (inr (inr (inr (inr (inr (inr (inr (inr (inr (inr (inr (inr (inr (inr (inr
        (inr (inr (inr (inr (inr (inr (inr (inr (inr (inr (inr (inr (inr (inr (inr
        (inr (inr (inr (inr (inr (inr (inr (inr (inr (inr (inr (inr (inr (inr (inr
        (inr (inr (inr (inr (inr
        (inr (Within_all (look_line ∷
        run two_may both_lead))))))))))))))))))))))))))))))))))))))))))))))))))))))))))))))))))))))))))))))))))))))))))))))))))))))))))))))));
    since = Within_all (run two_may both_lead);
    first = record {
      alone = refl;
      master = refl;
      stays_is = refl;
      told = λ q. subst (λ x. Watched 0 x (view q (of 0 (run two_may until_end)))) (sym (set.tick_is 0 651020004))
          (watched_by_holds 0 (peer_of 0 ∷ peer_of 1 ∷ []) 651020004 (of 0 (run two_may until_end)) refl q);
    };
    second = record {
      alone = refl;
      master = refl;
      stays_is = refl;
      told = λ q. subst (λ x. Watched 0 x (view q (of 1 (run two_may until_end)))) (sym (set.tick_is 1 651020004))
          (watched_by_holds 0 (peer_of 0 ∷ peer_of 1 ∷ []) 651020004 (of 1 (run two_may until_end)) refl q);
    };
    net = set.net_is 0 first_port ∙ sym (set.net_is 1 first_port);
    apart = refl;
  };
  tells = refl;
  asks = refl;
  finds = refl;
  lead = (
    stays_by (view first_port (of 0 (run two_may looked))) (view first_port (of 0 (run two_may until_quits))) refl,
    stays_by (view first_port (of 1 (run two_may looked))) (view first_port (of 1 (run two_may until_quits))) refl,
  );
  quits = refl;
  follows = refl;
} where
  whole : Accepted two_may until_end
  whole = record {
    header_is = two_header_is;
    ranges = later_ranges (Take 648020000 29 ∷ Take 648010000 28 ∷ Turn 648000000 1 ∷ Take 643020000 27 ∷ Take 643010000 26 ∷ Turn 643000000 1 ∷
        Take 642020000 25 ∷ Take 642010000 24 ∷ Turn 642000000 1 ∷ Take 641020000 23 ∷ Take 641010000 22 ∷ Turn 641000000 1 ∷ Take 640020000 21 ∷
        Take 640020000 20 ∷ Take 640010000 19 ∷ Take 640010000 18 ∷ Turn 640000000 1 ∷ Take 635050000 17 ∷ Take 635040000 16 ∷ Take 635030000 15 ∷
        Take 635030000 14 ∷ Take 635020000 13 ∷ Turn 635010000 1 ∷ Turn 633000000 0 ∷ Turn 632000000 0 ∷ Turn 631000000 0 ∷ Take 630030000 12 ∷
        Take 630020000 11 ∷ Take 630010000 10 ∷ Turn 630000000 0 ∷ Turn 401000000 0 ∷ Turn 400000000 1 ∷ Turn 398000000 1 ∷ Turn 397000000 1 ∷
        Turn 396000000 1 ∷ Turn 395000000 1 ∷ Turn 390000000 0 ∷ Turn 388000000 0 ∷ Turn 387000000 0 ∷ Turn 386000000 0 ∷ Turn 385000000 0 ∷ Turn 85000000 1 ∷
        Turn 85000000 0 ∷ Turn 80000000 1 ∷ Turn 80000000 0 ∷ []) (BootAt 0 1 10000000 ∷ BootAt 0 0 0 ∷ []) refl (boot_ranges 10000000 (omega arith));
    valid = (
      refl,
      (
        refl,
        (
          refl,
          (
            refl,
            (
              refl,
              (
                refl,
                (
                  refl,
                  (
                    refl,
                    (
                      refl,
                      (
                        refl,
                        (
                          refl,
                          (
                            refl,
                            (
                              refl,
                              (
                                refl,
                                (
                                  refl,
                                  (
                                    refl,
                                    (
                                      refl,
                                      (
                                        refl,
                                        (
                                          refl,
                                          (
                                            refl,
                                            (
                                              refl,
                                              (
                                                refl,
                                                (
                                                  refl,
                                                  (
                                                    refl,
                                                    (
                                                      refl,
                                                      (
                                                        refl,
                                                        (
                                                          refl,
                                                          (
                                                            refl,
                                                            (
                                                              refl,
                                                              (
                                                                refl,
                                                                (
                                                                  refl,
                                                                  (
                                                                    refl,
                                                                    (
                                                                      refl,
                                                                      (
                                                                        refl,
                                                                        (
                                                                          refl,
                                                                          (
                                                                            refl,
                                                                            (
                                                                              refl,
                                                                              (
                                                                                refl,
                                                                                (
                                                                                  refl,
                                                                                  (
                                                                                    refl,
                                                                                    (
                                                                                      refl,
                                                                                      (
                                                                                        refl,
                                                                                        (
                                                                                          refl,
                                                                                          (refl, (refl, (refl, (refl, tt)))),
                                                                                        ),
                                                                                      ),
                                                                                    ),
                                                                                  ),
                                                                                ),
                                                                              ),
                                                                            ),
                                                                          ),
                                                                        ),
                                                                      ),
                                                                    ),
                                                                  ),
                                                                ),
                                                              ),
                                                            ),
                                                          ),
                                                        ),
                                                      ),
                                                    ),
                                                  ),
                                                ),
                                              ),
                                            ),
                                          ),
                                        ),
                                      ),
                                    ),
                                  ),
                                ),
                              ),
                            ),
                          ),
                        ),
                      ),
                    ),
                  ),
                ),
              ),
            ),
          ),
        ),
      ),
    );
  }
