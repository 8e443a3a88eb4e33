use Rattle.std.specs.Prelude.{refl}
use Rattle.tsp_run.specs.Run.{run, steps}
use Rattle.tsp_base.specs.Words.{nothing, puts, ◌followed_by◌, either_by, reading, for_each, arms, posts, posts_to_others, posts_back, posts_time, carries_hops}
use Rattle.tsp_base.specs.Words.{carries_time, kind_number, kind_of}
use Rattle.tsp_rules.specs.Answers.{alarm_rings, rings, rings_alone, due_alarms, says_in, peer_says, replies_in, peer_replies, from_peer, handles_kind, handles}
use Rattle.tsp_rules.specs.Answers.{takes, input_row, answers}
use Rattle.tsp_rules.specs.CandidateRows.{lead_row, yields, window_rings, accepted_by, refused_by, candidate_takes_kind, candidate_takes}
use Rattle.tsp_rules.specs.ClockRows.{adjusts, sets}
use Rattle.tsp_rules.specs.CommonRows.{boots, arms_elect, searches, tells_ticket, follow_row, backs_own, candidature_row, follows_unless, quits, posts_reply}
use Rattle.tsp_rules.specs.CommonRows.{replies, names_master, says_master, traces, tests}
use Rattle.tsp_rules.specs.MasterRows.{joins, sends_away, master_takes_kind, master_takes}
use Rattle.tsp_rules.specs.ResolveRows.{resolves, finds_rival, quits_rivals, resolve_rings}
use Rattle.tsp_rules.specs.RoundRows.{asks, asks_slaves, round_begins, round_rings, asks_measured, arms_next, abandons, probe_rings, samples_request, samples}
use Rattle.tsp_rules.specs.RoundRows.{corrects_by, corrects_peer, begins_or_waits, moves, closes_with, closes, close_rings, abandons_going, upsetting}
use Rattle.tsp_rules.specs.SendRows.{begins, begins_timed, begins_to_others, begins_adjtime, begins_settime, acknowledges, leaves_after, gives_up, repeats}
use Rattle.tsp_rules.specs.SendRows.{repeats_send, due_send, due_sends}
use Rattle.tsp_rules.specs.SlaveRows.{quiet_rings, rings_or_late, search_rings, loosens, elect_rings, reports_conflict, masterup_in, masterack_in, election_of}
use Rattle.tsp_rules.specs.SlaveRows.{acks_repeat, confirms, adjtime_of, settime_of, from_master, slave_takes_kind, slave_takes}
use Rattle.tsp_rules.specs.DateRows.{passes_on, leaves, leaves_all, new_date, sets_date_where, date_in, date_of, sets_in_charge, date_request_in}
use Rattle.tsp_rules.specs.DateRows.{date_request_of, date_acked_in, date_acked}
use Rattle.tsp_rules.specs.NodeRows.{nothing_at_all, on, ◌and_then◌, reading_all, for_ports, abandons_on, stirring}
use Rattle.tsp_rules.specs.GateRows.{sends_loops, loops_after, probes_on, closes_on, begins_round_on, alarm_on, alarms_on, turns_on, reposts, reposts_on}
use Rattle.tsp_rules.specs.GateRows.{loosens_master, forwards, takes_loop_step, judges, heeds_loop, takes_loop, takes_message, takes_kind, takes_on, input_all}
use Rattle.tsp_rules.specs.GateRows.{answers_all, boots_on, boots_all}
use Rattle.tsp_group.specs.Groups.{group_from, goes_before, better}
use Rattle.tsp_codec.specs.Taken.{taken_of}
use Rattle.std.proofs.Common.{ap, true≢false, true, false, arith, inr, subst, sym, ◌∙◌, ◌≡◌, ℕ, ◌+◌, ◌*◌, ◌/◌, ◌<◌, ◌∷◌, []}
use Rattle.tsp_rules.specs.{SlaveRows.takes_value, Values.Arm, Values.Elect, Values.Take}
use Rattle.tsp_base.specs.Words.{Acts, Came, Step, first_port, is_among, line_of, peer_of, time_in}
use Rattle.tsp_base.proofs.PlaceLemmas.{Within_all}
use Rattle.tsp_promises.specs.{Setting.Named}
use Rattle.tsp_run.specs.{Ranges.Accepted, Run.run}
use Rattle.tsp_run.proofs.{PossibleRun.accepted_possible, RunFits.possible_runs_fit_holds}
use Rattle.tsp_progress.specs.{AckedInTime.may_obey, AckedUse.before_set, AckedUse.set_line, AckedUse.sets_b, AckedUse.until_joins, AnswersUse.all_stay}
use Rattle.tsp_progress.specs.{AnswersUse.tail_of}
use Rattle.tsp_progress.specs.{AnswersUse.until_wakes, TableUse.until_reports, TableUse.until_set, Worked.one_may}
use Rattle.tsp_progress.proofs.{DeliveredChecks.delivered_by, MeanwhileChecks.obedient_by, UseLemmas.header_is, UseLemmas.later_ranges, UseLemmas.ranges}
use Rattle.tsp_progress.proofs.delivered.acked_use.Goals as goal

-- the rules give this
pub returns : goal.returns
unfolding taken_of kind_of kind_number carries_time carries_hops nothing puts ◌followed_by◌ either_by reading for_each arms posts posts_to_others posts_back
    posts_time
    alarm_rings rings rings_alone due_alarms says_in peer_says replies_in peer_replies from_peer handles_kind handles takes input_row answers lead_row yields
    window_rings accepted_by refused_by candidate_takes_kind candidate_takes adjusts sets boots arms_elect searches tells_ticket follow_row backs_own
    candidature_row follows_unless quits posts_reply replies names_master says_master traces tests group_from goes_before better joins sends_away
    master_takes_kind master_takes resolves finds_rival quits_rivals resolve_rings asks asks_slaves round_begins round_rings asks_measured arms_next abandons
    probe_rings samples_request samples corrects_by corrects_peer begins_or_waits moves closes_with closes close_rings abandons_going upsetting begins
    begins_to_others begins_adjtime begins_settime acknowledges leaves_after gives_up repeats repeats_send due_send due_sends quiet_rings rings_or_late
    search_rings loosens elect_rings reports_conflict masterup_in masterack_in election_of acks_repeat confirms adjtime_of settime_of from_master
    slave_takes_kind slave_takes begins_timed passes_on leaves leaves_all new_date sets_date_where date_in date_of sets_in_charge date_request_in
    date_request_of date_acked_in date_acked nothing_at_all on ◌and_then◌ reading_all for_ports abandons_on stirring sends_loops loops_after probes_on closes_on
    begins_round_on alarm_on alarms_on turns_on reposts reposts_on loosens_master forwards takes_loop_step judges heeds_loop takes_loop takes_message takes_kind
    takes_on input_all answers_all boots_on boots_all steps
returns c = record {
  accepted = whole;
  asked = λ setting set. record {
    posts = record {
      place = inr (inr (inr (inr (inr (inr (inr (inr (Within_all (run one_may until_joins)))))))));
      deed = refl;
      member = ap (λ k. is_among (peer_of 1) (setting.members k)) (set.net_is 0 first_port) ∙ ap (is_among (peer_of 1)) (set.members_are (Named 0));
      other = refl;
    };
    since = inr (inr (inr (inr (inr (inr (inr (inr (inr (inr (inr (inr (inr (inr (inr (inr (Within_all (run one_may until_wakes)))))))))))))))));
    there = refl;
    here = refl;
    early = omega arith;
  };
  begins = record { begins = refl; role_is = refl };
  obeys = λ setting set. obedient_by one_may setting 10000 set_line before_set (run one_may until_set) (peer_of 1)
      (may_obey set_line sets_b (takes_value 0 (time_in sets_b.body))) refl;
  takes_once = λ setting set obeys.
      let step : Step = record { at = 390040000; node = 1; cause = Came 8 } in
      let line = line_of step 390040000 first_port (Acts (Arm Elect 690040000)) in
      let before = tail_of (tail_of (tail_of (tail_of (tail_of (run one_may until_set))))) in
      let o = obeys line before (inr (inr (inr (inr (Within_all (line ∷ before)))))) (inr (inr (inr (Within_all (run one_may until_joins))))) refl
      (set.net_is 1 first_port ∙ sym (set.net_is 0 first_port)) (omega arith) in
      let never : false ≡ true = o.1.1 in
      true≢false (sym never);
  delivered = λ setting set. delivered_by setting 10000 390050001 all_stay (run one_may until_wakes) (run one_may until_set)
      (possible_runs_fit_holds one_may setting until_set set (accepted_possible one_may until_set whole)).0 refl;
  prompt = λ setting set. subst (λ (d : ℕ). 2 * 10000 + (d * (2 * 10000) + 999999) / 1000000 < 3000000) (sym set.drift_is) (omega arith);
  slow = λ setting set prompt. omega (arith, prompt);
  late_valid = (
    refl,
    (
      refl,
      (
        refl,
        (
          refl,
          (
            refl,
            (
              refl,
              (
                refl,
                (
                  refl,
                  (
                    refl,
                    (
                      refl,
                      (refl, (refl, (refl, (refl, (refl, (refl, (refl, (refl, tt)))))))),
                    ),
                  ),
                ),
              ),
            ),
          ),
        ),
      ),
    ),
  );
  late = refl;
  lost_valid = (refl, (refl, (refl, (refl, (refl, (refl, (refl, (refl, (refl, (refl, (refl, (refl, (refl, (refl, (refl, (refl, (refl, tt)))))))))))))))));
  lost = refl;
  idle_valid = (
    refl,
    (
      refl,
      (
        refl,
        (
          refl,
          (
            refl,
            (
              refl,
              (
                refl,
                (
                  refl,
                  (
                    refl,
                    (
                      refl,
                      (refl, (refl, (refl, (refl, (refl, (refl, (refl, (refl, tt)))))))),
                    ),
                  ),
                ),
              ),
            ),
          ),
        ),
      ),
    ),
  );
  idle = refl;
} where
  whole : Accepted one_may until_set
  whole = record {
    header_is = header_is;
    ranges = later_ranges (Take 390050000 9 ∷ Take 390040000 8 ∷ Take 390030000 7 ∷ []) until_reports refl ranges;
    valid = (refl, (refl, (refl, (refl, (refl, (refl, (refl, (refl, (refl, (refl, (refl, (refl, (refl, (refl, (refl, tt)))))))))))))));
  }
