use Rattle.std.specs.Prelude.{refl}
use Rattle.tsp_run.specs.Run.{run, steps}
use Rattle.tsp_base.specs.Words.{nothing, puts, ◌followed_by◌, either_by, reading, for_each, arms, posts, posts_to_others, posts_back, posts_time, carries_hops}
use Rattle.tsp_base.specs.Words.{carries_time, kind_number, kind_of}
use Rattle.tsp_rules.specs.Answers.{alarm_rings, rings, rings_alone, due_alarms, says_in, peer_says, replies_in, peer_replies, from_peer, handles_kind, handles}
use Rattle.tsp_rules.specs.Answers.{takes, input_row, answers}
use Rattle.tsp_rules.specs.CandidateRows.{lead_row, yields, window_rings, accepted_by, refused_by, candidate_takes_kind, candidate_takes}
use Rattle.tsp_rules.specs.ClockRows.{adjusts, sets}
use Rattle.tsp_rules.specs.CommonRows.{boots, arms_elect, searches, tells_ticket, follow_row, backs_own, candidature_row, follows_unless, quits, posts_reply}
use Rattle.tsp_rules.specs.CommonRows.{replies, names_master, says_master, traces, tests}
use Rattle.tsp_rules.specs.MasterRows.{joins, sends_away, master_takes_kind, master_takes}
use Rattle.tsp_rules.specs.ResolveRows.{resolves, finds_rival, quits_rivals, resolve_rings}
use Rattle.tsp_rules.specs.RoundRows.{asks, asks_slaves, round_begins, round_rings, asks_measured, arms_next, abandons, probe_rings, samples_request, samples}
use Rattle.tsp_rules.specs.RoundRows.{corrects_by, corrects_peer, begins_or_waits, moves, closes_with, closes, close_rings, abandons_going, upsetting}
use Rattle.tsp_rules.specs.SendRows.{begins, begins_timed, begins_to_others, begins_adjtime, begins_settime, acknowledges, leaves_after, gives_up, repeats}
use Rattle.tsp_rules.specs.SendRows.{repeats_send, due_send, due_sends}
use Rattle.tsp_rules.specs.SlaveRows.{quiet_rings, rings_or_late, search_rings, loosens, elect_rings, reports_conflict, masterup_in, masterack_in, election_of}
use Rattle.tsp_rules.specs.SlaveRows.{acks_repeat, confirms, adjtime_of, settime_of, from_master, slave_takes_kind, slave_takes}
use Rattle.tsp_rules.specs.DateRows.{passes_on, leaves, leaves_all, new_date, sets_date_where, date_in, date_of, sets_in_charge, date_request_in}
use Rattle.tsp_rules.specs.DateRows.{date_request_of, date_acked_in, date_acked}
use Rattle.tsp_rules.specs.NodeRows.{nothing_at_all, on, ◌and_then◌, reading_all, for_ports, abandons_on, stirring}
use Rattle.tsp_rules.specs.GateRows.{sends_loops, loops_after, probes_on, closes_on, begins_round_on, alarm_on, alarms_on, turns_on, reposts, reposts_on}
use Rattle.tsp_rules.specs.GateRows.{loosens_master, forwards, takes_loop_step, judges, heeds_loop, takes_loop, takes_message, takes_kind, takes_on, input_all}
use Rattle.tsp_rules.specs.GateRows.{answers_all, boots_on, boots_all}
use Rattle.tsp_group.specs.Groups.{group_from, goes_before, better}
use Rattle.tsp_codec.specs.Taken.{taken_of}
use Rattle.std.proofs.Common.{arith, refl, ◌+◌, ◌∷◌, []}
use Rattle.tsp_rules.specs.Values.{BootAt, Turn, SLACK}
use Rattle.tsp_base.specs.Words.{Begins, Turned, first_port, line_of, peer_of}
use Rattle.std.proofs.lemmas.List.Elements.{All-cons, All-nil}
use Rattle.tsp_promises.proofs.witness.Spots.{placed}
use Rattle.tsp_run.specs.{Ranges.Accepted, Ranges.IsInRange, Run.run}
use Rattle.tsp_progress.specs.{ElectUse.before_stand, Needed.strict_alone, OneUse.two_may, RefusedUse.both_stand}
use Rattle.tsp_progress.specs.WinUse.{a_stands, before_a, late_window, later_look, refused_look}
use Rattle.tsp_progress.specs.{Worked.one_may, Worked.until_leads, Worked.until_stands}
use Rattle.tsp_progress.proofs.{UseLemmas.header_is, UseLemmas.later_ranges, WatchChecks.attended_by_holds}
use Rattle.tsp_progress.proofs.ElectChecks.{honest_by, life_by, not_won, unhindered_by, unopposed_by}
use Rattle.std.proofs.Common.{sym, true≢false}
use Rattle.std.specs.Prelude.{codes}
use Rattle.tsp_rules.specs.Values.{Election, Good, Message, Peer, Take, Took}
use Rattle.tsp_base.specs.Words.{Acts, Came, bare}
use Rattle.tsp_progress.specs.WinUse.{before_vote, voted_look}
use Rattle.tsp_progress.specs.AnswersUse.{tail_of}
use Rattle.tsp_progress.proofs.ElectChecks.{unmastered_by, welcomed_by}
use Rattle.tsp_progress.proofs.UseLemmas.{boot_ranges, two_header_is}
use Rattle.tsp_progress.proofs.elections.win_use.Goals as goal

-- the rules give this
pub returns : goal.returns
unfolding taken_of kind_of kind_number carries_time carries_hops nothing puts ◌followed_by◌ either_by reading for_each arms posts posts_to_others posts_back
    posts_time
    alarm_rings rings rings_alone due_alarms says_in peer_says replies_in peer_replies from_peer handles_kind handles takes input_row answers lead_row yields
    window_rings accepted_by refused_by candidate_takes_kind candidate_takes adjusts sets boots arms_elect searches tells_ticket follow_row backs_own
    candidature_row follows_unless quits posts_reply replies names_master says_master traces tests group_from goes_before better joins sends_away
    master_takes_kind master_takes resolves finds_rival quits_rivals resolve_rings asks asks_slaves round_begins round_rings asks_measured arms_next abandons
    probe_rings samples_request samples corrects_by corrects_peer begins_or_waits moves closes_with closes close_rings abandons_going upsetting begins
    begins_to_others begins_adjtime begins_settime acknowledges leaves_after gives_up repeats repeats_send due_send due_sends quiet_rings rings_or_late
    search_rings loosens elect_rings reports_conflict masterup_in masterack_in election_of acks_repeat confirms adjtime_of settime_of from_master
    slave_takes_kind slave_takes begins_timed passes_on leaves leaves_all new_date sets_date_where date_in date_of sets_in_charge date_request_in
    date_request_of date_acked_in date_acked nothing_at_all on ◌and_then◌ reading_all for_ports abandons_on stirring sends_loops loops_after probes_on closes_on
    begins_round_on alarm_on alarms_on turns_on reposts reposts_on loosens_master forwards takes_loop_step judges heeds_loop takes_loop takes_message takes_kind
    takes_on input_all answers_all boots_on boots_all steps
returns c = record {
  accepted = whole;
  attended = attended_by_holds 0 (peer_of 1 ∷ []) (run one_may later_look) refl;
  stands = record { place = placed (a_stands ∷ before_a) (run one_may later_look) refl; stands = refl; unasked = λ e. let bad : ⊥ = cc in bad };
  unhindered = unhindered_by a_stands before_a (run one_may later_look) refl refl;
  honest = honest_by one_may later_look whole refl;
  life = life_by one_may later_look whole refl;
  unopposed = unopposed_by a_stands before_a (run one_may later_look) refl;
  wins = refl;
  strict_valid = (refl, (refl, (refl, (refl, (refl, (refl, (refl, (refl, (refl, tt)))))))));
  strict_attended = attended_by_holds 0 (peer_of 1 ∷ []) (run strict_alone later_look) refl;
  strict = λ law. not_won a_stands (before_stand (run strict_alone until_stands)) (run strict_alone (until_leads)) refl
      (law a_stands (before_stand (run strict_alone until_stands)) (record {
        place = placed (a_stands ∷ (before_stand (run strict_alone until_stands)))
            (run strict_alone later_look) refl;
        stands = refl;
        unasked = λ e. let bad : ⊥ = cc in bad;
      })
      (unopposed_by a_stands (before_stand (run strict_alone until_stands)) (run strict_alone later_look) refl)
      (line_of (record { at = 400000000; node = 0; cause = Turned }) 400000000 first_port Begins) (run strict_alone (until_leads))
      (placed (line_of (record { at = 400000000; node = 0; cause = Turned }) 400000000 first_port Begins ∷ (run strict_alone (until_leads)))
      (run strict_alone later_look) refl) refl refl
      (placed (a_stands ∷ (before_stand (run strict_alone until_stands))) (run strict_alone (until_leads)) refl) (omega arith));
  late_valid = (refl, (refl, (refl, (refl, (refl, (refl, (refl, (refl, (refl, tt)))))))));
  late_attended = attended_by_holds (SLACK + 1) (peer_of 1 ∷ []) (run one_may late_window) refl;
  late = λ law. not_won a_stands (before_stand (run one_may until_stands)) (run one_may (Turn 391000001 0 ∷ Turn 388000000 0 ∷ Turn 387000000 0 ∷
      Turn 386000000 0 ∷ until_stands)) refl
      (law a_stands (before_stand (run one_may until_stands)) (record {
        place = placed (a_stands ∷ (before_stand (run one_may until_stands)))
            (run one_may late_window) refl;
        stands = refl;
        unasked = λ e. let bad : ⊥ = cc in bad;
      })
      (unopposed_by a_stands (before_stand (run one_may until_stands)) (run one_may late_window) refl)
      (line_of (record { at = 400000000; node = 0; cause = Turned }) 400000000 first_port Begins) (run one_may (Turn 391000001 0 ∷ Turn 388000000 0 ∷
      Turn 387000000 0 ∷ Turn 386000000 0 ∷ until_stands))
      (placed (line_of (record { at = 400000000; node = 0; cause = Turned }) 400000000 first_port Begins ∷
      (run one_may (Turn 391000001 0 ∷ Turn 388000000 0 ∷ Turn 387000000 0 ∷ Turn 386000000 0 ∷ until_stands))) (run one_may late_window) refl) refl refl
      (placed (a_stands ∷ (before_stand (run one_may until_stands))) (run one_may (Turn 391000001 0 ∷ Turn 388000000 0 ∷ Turn 387000000 0 ∷ Turn 386000000 0 ∷
      until_stands)) refl) (omega arith));
  refused_valid = (refl, (refl, (refl, (refl, (refl, (refl, (refl, (refl, (refl, (refl, (refl, (refl, (refl, (refl, tt))))))))))))));
  refused_attended = attended_by_holds 0 (peer_of 0 ∷ peer_of 1 ∷ []) (run two_may refused_look) refl;
  refused = not_won a_stands (before_stand (run two_may both_stand)) (run two_may refused_look) refl;
  voted_accepted = voted-whole;
  voted_attended = attended_by_holds 0 (peer_of 0 ∷ peer_of 1 ∷ []) (run two_may voted_look) refl;
  voted_stands = record {
    place = placed (a_stands ∷ before_vote) (run two_may voted_look) refl;
    stands = refl;
    unasked = λ e. let bad : ⊥ = cc in bad;
  };
  welcomed = welcomed_by a_stands (run two_may voted_look) refl;
  unmastered = unmastered_by a_stands before_vote (run two_may voted_look) (unhindered_by a_stands before_vote (run two_may voted_look) refl refl);
  voted_honest = honest_by two_may voted_look voted-whole refl;
  voted_life = life_by two_may voted_look voted-whole refl;
  voted = refl;
  unwelcome = λ h. true≢false (sym (h (line_of (record { at = 385010000; node = 1; cause = Came 3 }) 385010000 first_port (Acts (Took (Peer (peer_of 0))
      (Good (Message (bare Election 32768 (codes "a")))))))
      (tail_of (tail_of (run two_may (Take 385010000 3 ∷ both_stand)))) (bare Election 32768 (codes "a"))
      (placed ((line_of (record { at = 385010000; node = 1; cause = Came 3 }) 385010000 first_port (Acts (Took (Peer (peer_of 0))
      (Good (Message (bare Election 32768 (codes "a"))))))) ∷
      (tail_of (tail_of (run two_may (Take 385010000 3 ∷ both_stand))))) (run two_may refused_look) refl) (omega arith) refl refl).0);
} where
  whole : Accepted one_may later_look
  whole = record {
    header_is = header_is;
    ranges = later_ranges (Turn 400000000 0 ∷ Turn 390000000 0 ∷ Turn 388000000 0 ∷ Turn 387000000 0 ∷ Turn 386000000 0 ∷ Turn 385000000 0 ∷
        Turn 85000000 0 ∷ Turn 80000000 0 ∷ []) (BootAt 0 0 0 ∷ []) refl
        (All-cons IsInRange (BootAt 0 0 0) [] (omega arith) (All-nil IsInRange));
    valid = (refl, (refl, (refl, (refl, (refl, (refl, (refl, (refl, (refl, tt)))))))));
  }

  voted-whole : Accepted two_may voted_look
  voted-whole = record {
    header_is = two_header_is;
    ranges = later_ranges (Turn 400000000 0 ∷ Turn 390000000 0 ∷ Take 385020000 3 ∷ Take 385010000 2 ∷ Turn 385000000 0 ∷ Turn 85000000 1 ∷
        Turn 85000000 0 ∷ Turn 80000000 1 ∷ Turn 80000000 0 ∷ []) (BootAt 0 1 10000000 ∷ BootAt 0 0 0 ∷ []) refl (boot_ranges 10000000 (omega arith));
    valid = (refl, (refl, (refl, (refl, (refl, (refl, (refl, (refl, (refl, (refl, (refl, tt)))))))))));
  }
